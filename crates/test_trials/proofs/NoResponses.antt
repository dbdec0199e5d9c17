-- Texts that are no response, whatever follows them, and why.
use Rattle.std.proofs.Common.{◌≡◌, ℕ, true, false, List, [], ◌∷◌, ◌++◌, length, Some, None, refl, arith}
use Rattle.std.specs.Prelude.{codes, replicate}
use Rattle.httparse.specs.Grammar.{crlf, Field, ResponseHead, print_response}
use Rattle.httparse.proofs.OnLiterals.{httparse_on_literals}
use Rattle.http1.specs.Text.{eq_ignore_case}
use Rattle.http_link.specs.Responses.{IsNoResponse}
use Rattle.http_link.proofs.Heads.{never_by_head, never_long}
use Rattle.test_trials.proofs.CheckedHeads.{whole_head, too_many_fields}
use Rattle.test_trials.proofs.Responses.{length_of, head_with}

-- a field of these parts
abbrev field : List ℕ → List ℕ → Field
field name raw = record { name = name; raw = raw; end = crlf }

-- another status
abbrev missing : List ℕ
missing = codes "HTTP/1.1 404 Not Found\r\nContent-Length: 2\r\n\r\nno"

pub not_found : IsNoResponse missing false
unfolding httparse_on_literals eq_ignore_case
not_found =
    let h = head_with (codes "404") (codes "Not Found") (length_of (codes " 2") ∷ []) in
    never_by_head missing 45 h refl (whole_head missing 45 h refl refl refl) refl

-- an interim line
abbrev hundred : List ℕ
hundred = codes "HTTP/1.1 100 Continue\r\n\r\n"

pub interim : IsNoResponse hundred false
unfolding httparse_on_literals eq_ignore_case
interim =
    let h = head_with (codes "100") (codes "Continue") [] in
    never_by_head hundred 25 h refl (whole_head hundred 25 h refl refl refl) refl

-- a chunked body
abbrev in_chunks : List ℕ
in_chunks = codes "HTTP/1.1 200 OK\r\nTransfer-Encoding: chunked\r\n\r\n0\r\n\r\n"

pub chunked : IsNoResponse in_chunks false
unfolding httparse_on_literals eq_ignore_case
chunked =
    let h = head_with (codes "200") (codes "OK") (field (codes "Transfer-Encoding") (codes " chunked") ∷ []) in
    never_by_head in_chunks 47 h refl (whole_head in_chunks 47 h refl refl refl) refl

-- two lengths
abbrev twice : List ℕ
twice = codes "HTTP/1.1 200 OK\r\nContent-Length: 5\r\nContent-Length: 5\r\n\r\nhello"

pub two_lengths : IsNoResponse twice false
unfolding httparse_on_literals eq_ignore_case
two_lengths =
    let h = head_with (codes "200") (codes "OK") (length_of (codes " 5") ∷ length_of (codes " 5") ∷ []) in
    never_by_head twice 57 h refl (whole_head twice 57 h refl refl refl) refl

-- a length that is not digits
abbrev signed : List ℕ
signed = codes "HTTP/1.1 200 OK\r\nContent-Length: +5\r\n\r\nhello"

pub signed_length : IsNoResponse signed false
unfolding httparse_on_literals eq_ignore_case
signed_length =
    let h = head_with (codes "200") (codes "OK") (length_of (codes " +5") ∷ []) in
    never_by_head signed 39 h refl (whole_head signed 39 h refl refl refl) refl

-- a length past the longest body
abbrev long : List ℕ
long = codes "HTTP/1.1 200 OK\r\nContent-Length: 65537\r\n\r\n"

pub long_length : IsNoResponse long false
unfolding httparse_on_literals eq_ignore_case
long_length =
    let h = head_with (codes "200") (codes "OK") (length_of (codes " 65537") ∷ []) in
    never_by_head long 42 h refl (whole_head long 42 h refl refl refl) refl

-- 65 fields
abbrev many_fields : ResponseHead
many_fields = head_with (codes "200") (codes "OK") (replicate 65 (field (codes "a") (codes "b")))

pub fields_65 : IsNoResponse (print_response many_fields) false
unfolding httparse_on_literals eq_ignore_case
fields_65 = too_many_fields (print_response many_fields) 344 many_fields refl refl refl refl

-- a head of 8,193 bytes
pub bytes_8193 : IsNoResponse (codes "HTTP/1.1 200 OK\r\na: " ++ (replicate 8169 98 ++ codes "\r\n\r\n")) false
bytes_8193 = never_long (codes "HTTP/1.1 200 OK\r\na: " ++ (replicate 8169 98 ++ codes "\r\n\r\n")) false refl (omega arith)

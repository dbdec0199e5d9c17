-- Texts that are responses, and the body of each.
use Rattle.std.proofs.Common.{◌≡◌, ℕ, true, false, List, [], ◌∷◌, ◌++◌, length, Some, None, refl, arith}
use Rattle.std.specs.Prelude.{codes}
use Rattle.httparse.specs.Grammar.{crlf, lf, Field, ResponseHead}
use Rattle.httparse.proofs.OnLiterals.{httparse_on_literals}
use Rattle.http1.specs.Text.{eq_ignore_case}
use Rattle.http_link.specs.Responses.{IsResponse}
use Rattle.test_trials.proofs.CheckedHeads.{a_response}

-- a field that states a length
abbrev pub length_of : List ℕ → Field
length_of value = record { name = codes "Content-Length"; raw = value; end = crlf }

-- a head of HTTP/1.1 with these digits, this phrase and these fields
abbrev pub head_with : List ℕ → List ℕ → List Field → ResponseHead
head_with digits phrase fields =
    record { blank = []; minor = 1; digits = digits; reason = Some phrase; line_end = crlf; fields = fields; last = crlf }

-- a body of its length
pub by_length : IsResponse (codes "HTTP/1.1 200 OK\r\nContent-Length: 5\r\n\r\nhello") false (codes "hello")
unfolding httparse_on_literals eq_ignore_case
by_length = a_response _ 38 (head_with (codes "200") (codes "OK") (length_of (codes " 5") ∷ [])) false _ refl refl refl refl (omega arith, refl)

-- what follows a whole body is not of it
pub longer_than_its_length : IsResponse (codes "HTTP/1.1 200 OK\r\nContent-Length: 5\r\n\r\nhello world") false (codes "hello")
unfolding httparse_on_literals eq_ignore_case
longer_than_its_length =
    a_response _ 38 (head_with (codes "200") (codes "OK") (length_of (codes " 5") ∷ [])) false _ refl refl refl refl (omega arith, refl)

-- HTTP/1.0 without a length: to the end of what comes
pub to_the_end : IsResponse (codes "HTTP/1.0 200 OK\r\n\r\nhello") true (codes "hello")
unfolding httparse_on_literals eq_ignore_case
to_the_end =
    a_response _ 19
    (record { blank = []; minor = 0; digits = codes "200"; reason = Some (codes "OK"); line_end = crlf; fields = []; last = crlf })
    true _ refl refl refl refl (refl, omega arith, refl)

-- a 204 has no body, also where it states a length
pub no_content : IsResponse (codes "HTTP/1.1 204 No Content\r\n\r\n") false []
unfolding httparse_on_literals eq_ignore_case
no_content = a_response _ 27 (head_with (codes "204") (codes "No Content") []) false _ refl refl refl refl (omega arith, refl)

pub no_content_with_a_length : IsResponse (codes "HTTP/1.1 204 No Content\r\nContent-Length: 5\r\n\r\nhello") false []
unfolding httparse_on_literals eq_ignore_case
no_content_with_a_length =
    a_response _ 46 (head_with (codes "204") (codes "No Content") (length_of (codes " 5") ∷ [])) false _ refl refl refl refl (omega arith, refl)

-- no reason phrase, lines that end in LF alone, an empty line in front, and a name in another case
pub lenient : IsResponse (codes "\nHTTP/1.1 299\ncontent-length:02\n\nok") false (codes "ok")
unfolding httparse_on_literals eq_ignore_case
lenient =
    a_response _ 33
    (record {
      blank = lf ∷ [];
      minor = 1;
      digits = codes "299";
      reason = None;
      line_end = lf;
      fields = record { name = codes "content-length"; raw = codes "02"; end = lf } ∷ [];
      last = lf;
    })
    false _ refl refl refl refl (omega arith, refl)

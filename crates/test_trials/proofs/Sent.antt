-- Two requests as clients send them, and what a reader gives of their bytes.
use Rattle.std.specs.Prelude.{◌≡◌, ℕ, false, List, [], ◌∷◌, codes}
use Rattle.std.proofs.Common.{refl, arith}
use lib.Utf8.{encode}
use Rattle.httparse.specs.Grammar.{crlf, RequestHead}
use Rattle.httparse.proofs.OnLiterals.{httparse_on_literals}
use Rattle.http1.specs.Text.{eq_ignore_case}
use Rattle.http_port.specs.declared.head_reader.Fed.TheVariants.{Request}
use Rattle.http_port.specs.Rules.{Judges, admission, head_of, verdict_of}
use Rattle.http_port.specs.Connections.{Reading, waits, goes_on, given}
use Rattle.http_port.proofs.ReadingLemmas.{tail_of}
use Rattle.test_trials.proofs.Requests.{judged, one_request}

-- the bodies: a call of the operation go, and one of the operation more
abbrev pub go : List ℕ
go = codes "{\"jsonrpc\":\"2.0\",\"method\":\"go\",\"params\":{},\"id\":1}"

abbrev pub more : List ℕ
more = codes "{\"jsonrpc\":\"2.0\",\"method\":\"more\",\"params\":{},\"id\":2}"

-- the requests
abbrev pub read_go : List ℕ
read_go = codes "POST / HTTP/1.1\r\nHost: a\r\nContent-Length: 50\r\n\r\n{\"jsonrpc\":\"2.0\",\"method\":\"go\",\"params\":{},\"id\":1}"

abbrev pub read_more : List ℕ
read_more = codes "POST / HTTP/1.1\r\nHost: a\r\nContent-Length: 52\r\n\r\n{\"jsonrpc\":\"2.0\",\"method\":\"more\",\"params\":{},\"id\":2}"

-- the head of a request whose body has so many bytes
abbrev pub head_with : List ℕ → RequestHead
head_with length = record {
  blank = [];
  method = codes "POST";
  target = codes "/";
  minor = 1;
  line_end = crlf;
  fields = record { name = codes "Host"; raw = codes " a"; end = crlf } ∷ record { name = codes "Content-Length"; raw = length; end = crlf } ∷ [];
  last = crlf;
}

abbrev pub head_go : RequestHead
head_go = head_with (codes " 50")

abbrev pub head_more : RequestHead
head_more = head_with (codes " 52")

judged_go : Judges read_go (verdict_of (head_of head_go))
unfolding httparse_on_literals eq_ignore_case encode
judged_go = judged read_go 48 head_go refl refl (47 ∷ [], (refl, refl)) refl refl

judged_more : Judges read_more (verdict_of (head_of head_more))
unfolding httparse_on_literals eq_ignore_case encode
judged_more = judged read_more 48 head_more refl refl (47 ∷ [], (refl, refl)) refl refl

-- what is given of each
pub gives_go : (r : Reading read_go) → given read_go r ≡ Request go false ∷ []
unfolding httparse_on_literals eq_ignore_case
gives_go r = one_request read_go (head_of head_go) 50 refl refl (omega arith) refl r (tail_of read_go _ judged_go r)

pub gives_more : (r : Reading read_more) → given read_more r ≡ Request more false ∷ []
unfolding httparse_on_literals eq_ignore_case
gives_more r = one_request read_more (head_of head_more) 52 refl refl (omega arith) refl r (tail_of read_more _ judged_more r)

-- each can be read
pub reading_go : Reading read_go
unfolding httparse_on_literals eq_ignore_case
reading_go = goes_on read_go (admission (head_of head_go) 50) judged_go (omega arith) refl (waits [] refl)

pub reading_more : Reading read_more
unfolding httparse_on_literals eq_ignore_case
reading_more = goes_on read_more (admission (head_of head_more) 52) judged_more (omega arith) refl (waits [] refl)

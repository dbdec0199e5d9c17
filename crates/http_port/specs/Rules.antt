-- What is refused of a request, and with which status: the first rule that holds decides.
use Rattle.std.specs.Prelude.{◌≡◌, ℕ, ◌≤◌, nat_lt, ◌==◌, ◌⊎◌, Bool, not, ◌&&◌, ◌||◌, if◌then◌else◌}
use Rattle.std.specs.Prelude.{List, [], ◌∷◌, length, map, take, count_by, bytes_eq, codes, Option, None, Some}
use Rattle.std.specs.List.{list_all}
use Rattle.std.specs.Str.Parse.{digits_value}
use Rattle.httparse.specs.Grammar.{RequestHead, print_request, ReadsRequest}
use Rattle.httparse.specs.Spans.{name_and_value}
use Rattle.http1.specs.Fields.{Header, is_named, elements_named, has_option}
use Rattle.http_port.specs.HeadPart.{longest_head, head_part}
use Rattle.http_port.specs.Framing.{is_digits, lengths_in, is_coded}
use Rattle.http_port.specs.declared.verdict.Admission.{Admission}
use Rattle.http_port.specs.declared.verdict.Verdict.{Verdict}
use Rattle.http_port.specs.declared.verdict.Verdict.TheVariants.{Pending, Refuses, Admits}

-- what the rules look at of a head: its length in bytes, and its method, minor version and fields
pub record Head : Type 0 where
  pub length : ℕ
  pub method : List ℕ
  pub minor : ℕ
  pub headers : List Header

-- the same of a head of the grammar
abbrev pub head_of : RequestHead → Head
head_of h = record {
  length = length (print_request h);
  method = h.method;
  minor = h.minor;
  headers = map name_and_value h.fields;
}

-- a 1.1 head without exactly one Host
abbrev pub lacks_host : ℕ → List Header → Bool
lacks_host minor headers = not (minor == 0) && not (count_by (is_named (codes "host")) headers == 1)

-- more than one Content-Length, one that is not digits, or both Content-Length and Transfer-Encoding
abbrev pub has_unclear_length : Head → Bool
has_unclear_length h =
    let lengths = lengths_in h.headers in
    (nat_lt 1 (length lengths) || not (list_all is_digits lengths)) || (nat_lt 0 (length lengths) && is_coded h.headers)

-- a 1.0 connection closes, and one of whose options is close
abbrev pub wants_close : ℕ → List Header → Bool
wants_close minor headers = minor == 0 || has_option (codes "close") (elements_named (codes "connection") headers)

-- a 1.1 head that expects 100-continue
abbrev pub wants_interim : ℕ → List Header → Bool
wants_interim minor headers =
    not (minor == 0) && has_option (codes "100-continue") (elements_named (codes "expect") headers)

-- the request of a head that is not refused, with a body of so many bytes
abbrev pub admission : Head → ℕ → Admission
admission h body = record {
  head = h.length;
  body = body;
  close = wants_close h.minor h.headers;
  interim = wants_interim h.minor h.headers;
}

-- by the length that is stated, if one is
abbrev pub verdict_by_length : Head → List (List ℕ) → Verdict
verdict_by_length h [] = Refuses 411
verdict_by_length h (value ∷ more) =
    let body = digits_value 10 value in
    if nat_lt 65536 body then Refuses 413 else Admits (admission h body)

-- the first rule that holds decides
abbrev pub verdict_of : Head → Verdict
verdict_of h =
    if lacks_host h.minor h.headers || has_unclear_length h then Refuses 400
    else (if not (bytes_eq h.method (codes "POST")) then Refuses 405 else verdict_by_length h (lengths_in h.headers))

-- the bytes begin with this head, which has at most 64 fields
pub record BeginsWith (part : List ℕ) (h : RequestHead) : Type 0 where
  pub rest : List ℕ
  pub reads : ReadsRequest part h rest
  pub few : length h.fields ≤ 64

-- a head part that begins with a head is judged by the rules; one that begins with none is refused
abbrev pub JudgesPart : List ℕ → Verdict → Type 0
JudgesPart part verdict =
    ((h : RequestHead) × BeginsWith part h × (verdict ≡ verdict_of (head_of h)))
    ⊎ (((h : RequestHead) → ¬ (BeginsWith part h)) × (verdict ≡ Refuses 400))

-- without a head part nothing is judged before as many bytes came as it may have
abbrev pub JudgesBy : List ℕ → Option ℕ → Verdict → Type 0
JudgesBy bytes None verdict = verdict ≡ (if nat_lt (length bytes) longest_head then Pending else Refuses 431)
JudgesBy bytes (Some n) verdict = JudgesPart (take n bytes) verdict

-- what the bytes at the front of a connection are judged to be
abbrev pub Judges : List ℕ → Verdict → Type 0
Judges bytes verdict = JudgesBy bytes (head_part bytes) verdict

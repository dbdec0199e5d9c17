-- Which bytes are a response, with which body, and which can be none whatever follows them.
use Rattle.std.specs.Prelude.{◌≡◌, ℕ, ◌≤◌, nat_le, nat_lt, ◌==◌, Bool, true, false, not, ◌&&◌, if◌then◌else◌}
use Rattle.std.specs.Prelude.{List, [], ◌∷◌, ◌++◌, length, map, take, drop, Some}
use Rattle.std.specs.Str.Parse.{digits_value}
use Rattle.httparse.specs.Grammar.{ResponseHead, ReadsResponse, print_response, status_code}
use Rattle.httparse.specs.Spans.{name_and_value}
use Rattle.http1.specs.Fields.{Header}
use Rattle.http_port.specs.Framing.{is_digits, lengths_in, is_coded}
use Rattle.http_port.specs.HeadPart.{head_part}
use Rattle.http_link.specs.declared.announced.Extent.{Extent}
use Rattle.http_link.specs.declared.announced.Extent.TheVariants.{Sized, ToEnd, Refused}

-- the bytes begin with this head of a response, which has at most 64 fields
pub record BeginsWith (part : List ℕ) (h : ResponseHead) : Type 0 where
  pub rest : List ℕ
  pub reads : ReadsResponse part h rest
  pub few : length h.fields ≤ 64

-- ---- how far a body reaches: over so many bytes, or to the end of what comes; what is refused is no response

-- a body of so many bytes has at most 65,536
abbrev pub sized : ℕ → Extent
sized n = if nat_lt 65536 n then Refused else Sized n

-- By the values of Content-Length: without one the body reaches to the end. Several are refused, and so is one that is
-- not digits.
abbrev pub extent_by_lengths : List (List ℕ) → Extent
extent_by_lengths [] = ToEnd
extent_by_lengths (value ∷ []) = if is_digits value then sized (digits_value 10 value) else Refused
extent_by_lengths (value ∷ next ∷ more) = Refused

-- by the fields: a body with a transfer coding is refused, as a chunked one is
abbrev pub extent_by_fields : List Header → Extent
extent_by_fields headers = if is_coded headers then Refused else extent_by_lengths (lengths_in headers)

-- a status of 200 to 299
abbrev pub is_success : ℕ → Bool
is_success status = nat_le 200 status && nat_lt status 300

-- by the status: without success there is no response, and a 204 has no body, whatever its fields say
abbrev pub extent : ℕ → List Header → Extent
extent status headers =
    if not (is_success status) then Refused else (if status == 204 then Sized 0 else extent_by_fields headers)

-- how far the body after a head reaches
abbrev pub extent_of : ResponseHead → Extent
extent_of h = extent (status_code h) (map name_and_value h.fields)

-- ---- responses

-- What follows a head has a whole body that reaches so far. Ended says that no more bytes come.
abbrev pub HasBody : Extent → List ℕ → Bool → List ℕ → Type 0
HasBody (Sized n) rest ended body = (n ≤ length rest) × (body ≡ take n rest)
HasBody ToEnd rest ended body = (ended ≡ true) × (length rest ≤ 65536) × (body ≡ rest)
HasBody Refused rest ended body = ⊥

-- The bytes begin with a whole response of this body: with a head part in their first 8,192, a head in front of that,
-- and the body after the head. Ended says that no more bytes come.
pub record IsResponse (bytes : List ℕ) (ended : Bool) (body : List ℕ) : Type 0 where
  pub length_of_part : ℕ
  pub part : head_part bytes ≡ Some length_of_part
  pub head : ResponseHead
  pub begins : BeginsWith (take length_of_part bytes) head
  pub has_body : HasBody (extent_of head) (drop (length (print_response head)) bytes) ended body

-- The bytes are no response: where no more come, not as they are, and else not with any that follow.
abbrev pub IsNoResponse : List ℕ → Bool → Type 0
IsNoResponse bytes true = (body : List ℕ) → ¬ (IsResponse bytes true body)
IsNoResponse bytes false = (more body : List ℕ) → ¬ (IsResponse (bytes ++ more) true body)

-- the bytes are no whole response yet
abbrev pub IsUnfinished : List ℕ → Type 0
IsUnfinished bytes = (body : List ℕ) → ¬ (IsResponse bytes false body)

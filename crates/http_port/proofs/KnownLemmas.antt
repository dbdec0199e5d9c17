-- What the summary of the fields says of the body.
use Rattle.std.proofs.Common.{◌≡◌, ℕ, ◌+◌, ◌^◌, min, Bool, true, false, cond, ◌&&◌, ◌||◌, ltb, List, [], ◌∷◌, ◌++◌, length, map, sym, refl, ap, ◌∙◌, arith}
use Rattle.std.specs.Prelude.{codes, count_by}
use Rattle.std.specs.List.{list_all}
use Rattle.std.specs.Str.Parse.{digits_value}
use Rattle.std.specs.Char.{is_ascii_digit, to_ascii_lowercase}
use Rattle.std.proofs.lemmas.List.Sums.{sum_by-cons}
use Rattle.std.proofs.lemmas.Slice.Eq.{bytes_eq-Decides}
use Rattle.http1.specs.Text.{eq_ignore_case}
use Rattle.http1.specs.Fields.{Header, is_named, is_framing_field, content_length, known_fields}
use Rattle.http1.specs.declared.fields.ContentLength.TheVariants.{Value, Invalid}
use Rattle.http1.specs.declared.fields.KnownFields.{KnownFields}
use Rattle.http_port.specs.declared.fields.Stated.TheVariants.{Length, Unclear}
use Rattle.http_port.specs.declared.fields.Framing.{Framing}
use Rattle.http_port.specs.Framing.{lengths_in, is_coded}
use Rattle.http_port.specs.Framing.{stated, stated_by, framing_of}

-- where no field frames the body, there is no length and no coding
none_frames : (headers : List Header) → count_by is_framing_field headers ≡ 0 → (lengths_in headers ≡ []) × (is_coded headers ≡ false)
none_frames [] e = (refl, refl)
none_frames (h ∷ more) e =
    by_tests (is_named (codes "content-length") h) (is_named (codes "transfer-encoding") h) (sym (sum_by-cons (λ x. cond (is_framing_field x) 1 0) h more) ∙ e) (none_frames more)
  where
    by_tests : (sized coded : Bool) → cond (sized || coded) 1 0 + count_by is_framing_field more ≡ 0
        → (count_by is_framing_field more ≡ 0 → (lengths_in more ≡ []) × (is_coded more ≡ false))
        → (cond sized (h.1 ∷ []) [] ++ lengths_in more ≡ []) × ((coded || is_coded more) ≡ false)
    by_tests true coded e rest = absurd (omega arith)
    by_tests false true e rest = absurd (omega arith)
    by_tests false false e rest = rest (omega arith)

-- a length that is a number
one_length : (value : List ℕ) (n : ℕ) → content_length (value ∷ []) ≡ Value n → stated_by value ≡ Length (min n 65537)
one_length value n e = by_tests (ltb 0 (length value)) (list_all is_ascii_digit value) (ltb (digits_value 10 value) (2 ^ 64)) e
  where
    by_tests : (some digits small : Bool) → cond ((some && (digits && small)) && true) (Value (digits_value 10 value)) Invalid ≡ Value n
        → cond (some && digits) (Length (min (digits_value 10 value) 65537)) Unclear ≡ Length (min n 65537)
    by_tests true true true e = cc
    by_tests true true false e = absurd (cc)
    by_tests true false small e = absurd (cc)
    by_tests false digits small e = absurd (cc)

-- a name is not both
two_names : (h : Header) → is_named (codes "content-length") h ≡ true → is_named (codes "transfer-encoding") h ≡ true → ⊥
unfolding eq_ignore_case
two_names h sized coded =
    let length_name = (bytes_eq-Decides (map to_ascii_lowercase h.0) (codes "content-length")).0 sized in
    let coding_name = (bytes_eq-Decides (map to_ascii_lowercase h.0) (codes "transfer-encoding")).0 coded in
    of_lengths (ap length (sym length_name ∙ coding_name))
  where
    of_lengths : ◌≡◌ {A = ℕ} 14 17 → ⊥
    of_lengths e = absurd (omega arith)

-- one length, and no coding
abbrev pub one_stated : ℕ → Framing
one_stated n = record { stated = Length n; is_coded = false }

-- no values are no number
no_length : (n : ℕ) → content_length [] ≡ Value n → ⊥
no_length n e = absurd (cc)

-- where one field frames the body, and the length is a number, that is all
one_frames : (headers : List Header) (n : ℕ) → count_by is_framing_field headers ≡ 1 → content_length (lengths_in headers) ≡ Value n
    → one_stated (min n 65537) ≡ framing_of headers
one_frames [] n e v = absurd (omega arith)
one_frames (h ∷ more) n e v =
    by_tests (is_named (codes "content-length") h) (is_named (codes "transfer-encoding") h) (two_names h)
    (sym (sum_by-cons (λ x. cond (is_framing_field x) 1 0) h more) ∙ e) v (none_frames more) (one_frames more n)
  where
    by_tests : (sized coded : Bool) → (sized ≡ true → coded ≡ true → ⊥) → cond (sized || coded) 1 0 + count_by is_framing_field more ≡ 1
        → content_length (cond sized (h.1 ∷ []) [] ++ lengths_in more) ≡ Value n
        → (count_by is_framing_field more ≡ 0 → (lengths_in more ≡ []) × (is_coded more ≡ false))
        → (count_by is_framing_field more ≡ 1 → content_length (lengths_in more) ≡ Value n → one_stated (min n 65537) ≡ framing_of more)
        → one_stated (min n 65537) ≡ record { stated = stated (cond sized (h.1 ∷ []) [] ++ lengths_in more); is_coded = coded || is_coded more }
    by_tests true true apart e v none one = absurd (apart refl refl)
    by_tests true false apart e v none one =
        let rest = none (omega arith) in
        let alone = sym (ap (λ l. content_length (h.1 ∷ l)) rest.0) ∙ v in
        let says = ap (λ l. stated (h.1 ∷ l)) rest.0 ∙ one_length h.1 n alone in
        λ i. record { stated = sym says i; is_coded = sym rest.1 i }
    by_tests false true apart e v none one =
        let rest = none (omega arith) in
        absurd (no_length n (sym (ap content_length rest.0) ∙ v))
    by_tests false false apart e v none one = one (omega arith) v

-- the summary is all that is said of the body, where one field frames it and the length is a number
pub framing_of_known : (known : KnownFields) (headers : List Header) (n : ℕ) → known ≡ known_fields headers → known.content_length ≡ Value n
    → known.framing_fields ≡ 1 → one_stated (min n 65537) ≡ framing_of headers
unfolding known_fields
framing_of_known known headers n is v one =
    let count = sym (ap (λ k. let k : KnownFields = k in k.framing_fields) is) ∙ one in
    let length = sym (ap (λ k. let k : KnownFields = k in k.content_length) is) ∙ v in
    one_frames headers n (least_one (count_by is_framing_field headers) count) length
  where
    least_one : (n : ℕ) → min n 2 ≡ 1 → n ≡ 1
    least_one n e = omega arith

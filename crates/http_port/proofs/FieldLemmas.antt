-- What fields say, one after another, and what the rules make of it.
use Rattle.std.proofs.Common.{◌≡◌, ℕ, min, Bool, true, false, not, cond, ◌&&◌, ◌||◌, eqb, ltb, List, [], ◌∷◌, ◌++◌, length, sym, refl, ap, ◌∙◌, arith, inl, inr}
use Rattle.std.specs.Prelude.{codes, bytes_eq, count_by}
use Rattle.std.specs.List.{list_all}
use Rattle.std.specs.Str.Parse.{digits_value}
use Rattle.std.proofs.lemmas.List.{append-nil}
use Rattle.std.proofs.lemmas.Grind.{flat_map-append}
use Rattle.std.proofs.lemmas.Bool.{lt-ltb, ne_eqb, cases_lt}
use Rattle.std.proofs.lemmas.Bool.Decides.{nat_tests}
use Rattle.http1.proofs.TextLemmas.{list_any-append}
use Rattle.http1.specs.Fields.{Header, is_named, elements_named, has_option, known_fields}
use Rattle.http_port.specs.declared.fields.Stated.{Stated}
use Rattle.http_port.specs.declared.fields.Stated.TheVariants.{Nothing, Length, Unclear}
use Rattle.http_port.specs.declared.fields.Framing.{Framing}
use Rattle.http_port.specs.declared.verdict.Verdict.{Verdict}
use Rattle.http_port.specs.declared.verdict.Verdict.TheVariants.{Refuses, Admits}
use Rattle.http_port.specs.Framing.{is_digits, lengths_in, is_coded}
use Rattle.http_port.specs.Walks.{stated_after, is_unclear_by, is_unclear, wishes_of}
use Rattle.http_port.specs.Framing.{stated, framing_of}
use Rattle.http_port.specs.Rules.{Head, lacks_host, admission, verdict_by_length, verdict_of}

-- one more value
stated_push : (values : List (List ℕ)) (value : List ℕ) → stated (values ++ value ∷ []) ≡ stated_after (stated values) value
stated_push [] value = refl
stated_push (first ∷ []) value = by_test (is_digits first)
  where
    by_test : (t : Bool) → Unclear ≡ stated_after (cond t (Length (min (digits_value 10 first) 65537)) Unclear) value
    by_test true = refl
    by_test false = refl
stated_push (first ∷ next ∷ more) value = refl

stated_push_if : (values : List (List ℕ)) (value : List ℕ) (t : Bool) → stated (values ++ cond t (value ∷ []) []) ≡ cond t (stated_after (stated values) value) (stated values)
stated_push_if values value true = stated_push values value
stated_push_if values value false = ap stated (append-nil values)

-- one more field
pub framing_push : (before : List Header) (h : Header) → framing_of (before ++ h ∷ [])
    ≡ record {
      stated = cond (is_named (codes "content-length") h) (stated_after (stated (lengths_in before)) h.1) (stated (lengths_in before));
      is_coded = is_coded before || is_named (codes "transfer-encoding") h;
    }
framing_push before h =
    let name = codes "content-length" in
    let test = is_named name h in
    let values = flat_map-append (λ x. cond (is_named name x) (x.1 ∷ []) []) before (h ∷ []) ∙ ap (λ l. lengths_in before ++ l) (append-nil (cond test (h.1 ∷ []) [])) in
    let lengths = ap stated values ∙ stated_push_if (lengths_in before) h.1 test in
    let coded = list_any-append (is_named (codes "transfer-encoding")) before (h ∷ []) ∙ ap (λ t. is_coded before || t) (or_false (is_named (codes "transfer-encoding") h)) in
    λ i. record { stated = lengths i; is_coded = coded i }
  where
    or_false : (t : Bool) → (t || false) ≡ t
    or_false true = refl
    or_false false = refl

-- what the rules say by the framing
abbrev pub verdict_by_stated : Head → Stated → Verdict
verdict_by_stated h Nothing = Refuses 411
verdict_by_stated h (Length body) = cond (ltb 65536 body) (Refuses 413) (Admits (admission h body))
verdict_by_stated h Unclear = Refuses 411

abbrev pub verdict_by_framing : Head → Framing → Verdict
verdict_by_framing h framing =
    cond (lacks_host h.minor h.headers || is_unclear framing) (Refuses 400)
    (cond (not (bytes_eq h.method (codes "POST"))) (Refuses 405) (verdict_by_stated h framing.stated))

abbrev unclear : List (List ℕ) → Bool → Bool
unclear lengths coded = (ltb 1 (length lengths) || not (list_all is_digits lengths)) || (ltb 0 (length lengths) && coded)

capped : (h : Head) (n : ℕ) → cond (ltb 65536 n) (Refuses 413) (Admits (admission h n)) ≡ verdict_by_stated h (Length (min n 65537))
capped h n = elim (cases_lt 65536 n) [
  | inl large ↦
      ap (λ t. cond t (Refuses 413) (Admits (admission h n))) (lt-ltb 65536 n large)
      ∙ sym (ap (λ t. cond t (Refuses 413) (Admits (admission h (min n 65537)))) (lt-ltb 65536 (min n 65537) (omega arith)))
  | inr small ↦ ap (λ k. verdict_by_stated h (Length k)) (omega arith)
]

abbrev direct : Head → List (List ℕ) → Bool → Bool → Bool → Verdict
direct h lengths coded lacks post = cond (lacks || unclear lengths coded) (Refuses 400) (cond (not post) (Refuses 405) (verdict_by_length h lengths))

abbrev framed : Head → Stated → Bool → Bool → Bool → Verdict
framed h s coded lacks post = cond (lacks || is_unclear_by s coded) (Refuses 400) (cond (not post) (Refuses 405) (verdict_by_stated h s))

pub verdict_is_by_framing : (h : Head) → verdict_of h ≡ verdict_by_framing h (framing_of h.headers)
verdict_is_by_framing h = by_lengths (lengths_in h.headers) (is_coded h.headers) (lacks_host h.minor h.headers) (bytes_eq h.method (codes "POST"))
  where
    one : (value : List ℕ) (digits coded lacks post : Bool)
        → cond (lacks || ((false || not (digits && true)) || (true && coded))) (Refuses 400) (cond (not post) (Refuses 405) (verdict_by_length h (value ∷ [])))
        ≡ framed h (cond digits (Length (min (digits_value 10 value) 65537)) Unclear) coded lacks post
    one value true coded true post = refl
    one value true true false post = refl
    one value true false false true = capped h (digits_value 10 value)
    one value true false false false = refl
    one value false coded true post = refl
    one value false coded false post = refl

    many : (t u r lacks : Bool) (v w : Verdict) → t ≡ true → cond (lacks || ((t || u) || r)) (Refuses 400) v ≡ cond (lacks || true) (Refuses 400) w
    many true u r true v w e = refl
    many true u r false v w e = refl
    many false u r lacks v w e = absurd (cc)

    by_lengths : (lengths : List (List ℕ)) (coded lacks post : Bool) → direct h lengths coded lacks post ≡ framed h (stated lengths) coded lacks post
    by_lengths [] coded true post = refl
    by_lengths [] coded false true = refl
    by_lengths [] coded false false = refl
    by_lengths (value ∷ []) coded lacks post = one value (is_digits value) coded lacks post
    by_lengths (value ∷ next ∷ more) coded lacks post =
        many (ltb 1 (length (value ∷ next ∷ more))) (not (list_all is_digits (value ∷ next ∷ more))) (ltb 0 (length (value ∷ next ∷ more)) && coded) lacks _ _ (lt-ltb 1 (length (value ∷ next ∷ more)) (omega arith))

-- a 400 by Host or by the lengths, and else a 405, and else what the length says
pub refuses_host : (h : Head) → lacks_host h.minor h.headers ≡ true → Refuses 400 ≡ verdict_of h
refuses_host h e =
    sym (verdict_is_by_framing h
    ∙ ap (λ t. cond (t || is_unclear (framing_of h.headers)) (Refuses 400) (cond (not (bytes_eq h.method (codes "POST"))) (Refuses 405) (verdict_by_stated h (stated (lengths_in h.headers))))) e)

pub refuses_length : (h : Head) → lacks_host h.minor h.headers ≡ false → is_unclear (framing_of h.headers) ≡ true → Refuses 400 ≡ verdict_of h
refuses_length h e f =
    sym (verdict_is_by_framing h
    ∙ ap (λ t. cond (t || is_unclear (framing_of h.headers)) (Refuses 400) (cond (not (bytes_eq h.method (codes "POST"))) (Refuses 405) (verdict_by_stated h (stated (lengths_in h.headers))))) e
    ∙ ap (λ t. cond t (Refuses 400) (cond (not (bytes_eq h.method (codes "POST"))) (Refuses 405) (verdict_by_stated h (stated (lengths_in h.headers))))) f)

clear : (h : Head) → lacks_host h.minor h.headers ≡ false → is_unclear (framing_of h.headers) ≡ false
    → verdict_of h ≡ cond (not (bytes_eq h.method (codes "POST"))) (Refuses 405) (verdict_by_stated h (stated (lengths_in h.headers)))
clear h e f =
    verdict_is_by_framing h
    ∙ ap (λ t. cond (t || is_unclear (framing_of h.headers)) (Refuses 400) (cond (not (bytes_eq h.method (codes "POST"))) (Refuses 405) (verdict_by_stated h (stated (lengths_in h.headers))))) e
    ∙ ap (λ t. cond t (Refuses 400) (cond (not (bytes_eq h.method (codes "POST"))) (Refuses 405) (verdict_by_stated h (stated (lengths_in h.headers))))) f

pub refuses_method : (h : Head) → lacks_host h.minor h.headers ≡ false → is_unclear (framing_of h.headers) ≡ false
    → bytes_eq h.method (codes "POST") ≡ false → Refuses 405 ≡ verdict_of h
refuses_method h e f m =
    sym (clear h e f ∙ ap (λ t. cond (not t) (Refuses 405) (verdict_by_stated h (stated (lengths_in h.headers)))) m)

pub by_stated : (h : Head) (s : Stated) → lacks_host h.minor h.headers ≡ false → is_unclear (framing_of h.headers) ≡ false
    → bytes_eq h.method (codes "POST") ≡ true → stated (lengths_in h.headers) ≡ s → verdict_by_stated h s ≡ verdict_of h
by_stated h s e f m is =
    sym (clear h e f ∙ ap (λ t. cond (not t) (Refuses 405) (verdict_by_stated h (stated (lengths_in h.headers)))) m ∙ ap (verdict_by_stated h) is)

-- what the summary of the fields says is what the rules look at
pub hosts_of_known : (headers : List Header) → (known_fields headers).hosts ≡ min (count_by (is_named (codes "host")) headers) 2
unfolding known_fields
hosts_of_known headers = refl

pub close_of_known : (headers : List Header) → (known_fields headers).close ≡ has_option (codes "close") (elements_named (codes "connection") headers)
unfolding known_fields
close_of_known headers = refl

pub interim_of_known : (headers : List Header) → (known_fields headers).expect_continue ≡ has_option (codes "100-continue") (elements_named (codes "expect") headers)
unfolding known_fields
interim_of_known headers = refl

not_one : (n : ℕ) → not (eqb (min n 2) 1) ≡ not (eqb n 1)
not_one n = grind (arith, nat_tests)

pub wishes_of_first : (headers : List Header) → record { lacks_host = false; close = true; interim = false } ≡ wishes_of 0 headers
wishes_of_first headers = refl

pub wishes_of_later : (minor : ℕ) (headers : List Header) (hosts : ℕ) → ¬ (minor ≡ 0) → hosts ≡ (known_fields headers).hosts
    → record { lacks_host = not (eqb hosts 1); close = (known_fields headers).close; interim = (known_fields headers).expect_continue } ≡ wishes_of minor headers
wishes_of_later minor headers hosts later e =
    let test = ne_eqb minor 0 later in
    let host = ap (λ n. not (eqb n 1)) (e ∙ hosts_of_known headers) ∙ not_one (count_by (is_named (codes "host")) headers) in
    λ i. record {
      lacks_host = (host ∙ sym (ap (λ t. not t && not (eqb (count_by (is_named (codes "host")) headers) 1)) test)) i;
      close = (close_of_known headers ∙ sym (ap (λ t. t || has_option (codes "close") (elements_named (codes "connection") headers)) test)) i;
      interim = (interim_of_known headers ∙ sym (ap (λ t. not t && has_option (codes "100-continue") (elements_named (codes "expect") headers)) test)) i;
    }

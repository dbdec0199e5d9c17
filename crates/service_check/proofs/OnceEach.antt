-- Operations that are taken once each, interface by interface.
use Rattle.std.proofs.Common.{◌≡◌, ℕ, Bool, true, false, List, [], ◌∷◌, ◌++◌, map, flat_map, refl, ap, sym, ◌∙◌, bytes_eq, append_assoc}
use Rattle.std.specs.Prelude.{not, ◌||◌, ◌==◌, if◌then◌else◌}
use Rattle.std.proofs.lemmas.Bool.{and_from, and_parts, or_left, or_right, or_from, or_parts, not_from_false, false≢true, not-true}
use Rattle.std.proofs.lemmas.Slice.Eq.{bytes_eq-Decides}
use Rattle.std.proofs.lemmas.List.Folds.{list_any-append}
use Rattle.behaviour_tree.specs.Operations.{is_among, first_mentions}
use Rattle.behaviour_tree.specs.Distinct.{texts_differ, is_in}
use Rattle.check_base.specs.OnceEach.{firsts_after, each_once_after}
use Rattle.check_base.specs.Files.{Operation, place_in, texts_of}
use Rattle.service_check.proofs.Emptied.{another_text, in_first, in_last}
use Rattle.check_base.proofs.Repetitions.{in_any_order, or_false}
use Rattle.service_check.proofs.WellInterfaces.{all_in, places_alike}

-- ---- texts that were passed

-- texts with others that were passed one after the other
abbrev pub passed : List (List ℕ) → List (List ℕ) → List (List ℕ)
passed before [] = before
passed before (t ∷ ts) = passed (t ∷ before) ts

-- what is among them
pub among_passed : (x : List ℕ) (before ts : List (List ℕ)) → is_in x (passed before ts) ≡ (is_in x before || is_in x ts)
among_passed x before [] = sym (or_false (is_in x before))
among_passed x before (t ∷ ts) = among_passed x (t ∷ before) ts ∙ in_any_order (bytes_eq t x) (is_in x before) (is_in x ts)

-- texts that are taken once each of two lists
pub firsts_of_two : (before ts us : List (List ℕ)) → firsts_after before (ts ++ us) ≡ firsts_after before ts ++ firsts_after (passed before ts) us
firsts_of_two before [] us = refl
firsts_of_two before (t ∷ ts) us =
    ap (λ rest. (if is_in t before then [] else t ∷ []) ++ rest) (firsts_of_two (t ∷ before) ts us)
    ∙ sym (append_assoc (if is_in t before then [] else t ∷ []) (firsts_after (t ∷ before) ts) (firsts_after (passed (t ∷ before) ts) us))

-- of two lists whose texts differ, the first differ
pub first_differ : (ts us : List (List ℕ)) → texts_differ (ts ++ us) ≡ true → texts_differ ts ≡ true
first_differ [] us e = refl
first_differ (t ∷ ts) us e =
    let parts : (not (is_in t (ts ++ us)) ≡ true) × (texts_differ (ts ++ us) ≡ true) = and_parts (not (is_in t (ts ++ us))) (texts_differ (ts ++ us)) e in
    let apart : (is_in t ts ≡ false) × (is_in t us ≡ false) = or_parts (is_in t ts) (is_in t us) (sym (list_any-append (λ s. bytes_eq s t) ts us) ∙ not-true (is_in t (ts ++ us)) parts.0) in
    and_from (not (is_in t ts)) (texts_differ ts) (not_from_false (is_in t ts) apart.0) (first_differ ts us parts.1)

-- so do the second
pub second_differ : (ts us : List (List ℕ)) → texts_differ (ts ++ us) ≡ true → texts_differ us ≡ true
second_differ [] us e = e
second_differ (t ∷ ts) us e = second_differ ts us (and_parts (not (is_in t (ts ++ us))) (texts_differ (ts ++ us)) e).1

-- and no text of the second is among the first
pub two_apart : (x : List ℕ) (ts us : List (List ℕ)) → texts_differ (ts ++ us) ≡ true → is_in x us ≡ true → is_in x ts ≡ false
two_apart x [] us e there = refl
two_apart x (t ∷ ts) us e there =
    let parts : (not (is_in t (ts ++ us)) ≡ true) × (texts_differ (ts ++ us) ≡ true) = and_parts (not (is_in t (ts ++ us))) (texts_differ (ts ++ us)) e in
    let apart : (is_in t ts ≡ false) × (is_in t us ≡ false) = or_parts (is_in t ts) (is_in t us) (sym (list_any-append (λ s. bytes_eq s t) ts us) ∙ not-true (is_in t (ts ++ us)) parts.0) in
    or_from (bytes_eq t x) (is_in x ts) (another_text (bytes_eq t x) t x us refl apart.1 there) (two_apart x ts us parts.1 there)

-- ---- numbers of interfaces

mention_turn : (place : List ℕ → ℕ) (c d : Bool) (t : List ℕ) (ns : List ℕ) (ts : List (List ℕ)) → c ≡ d → ns ≡ map place ts → (if c then [] else place t ∷ []) ++ ns ≡ map place ((if d then [] else t ∷ []) ++ ts)
mention_turn place true true t ns ts same rest = rest
mention_turn place true false t ns ts same rest = absurd (false≢true (sym same))
mention_turn place false true t ns ts same rest = absurd (false≢true same)
mention_turn place false false t ns ts same rest = ap (λ ms. place t ∷ ms) rest

either_order : (a b : Bool) → (a || (b || false)) ≡ (b || a)
either_order true true = refl
either_order true false = refl
either_order false true = refl
either_order false false = refl

-- the numbers of texts are mentioned first where the texts are
pub first_places : (names : List (List ℕ)) (ns : List ℕ) (before ts : List (List ℕ)) → all_in names ts ≡ true → ((x : List ℕ) → is_in x names ≡ true → is_among ns (place_in names x) ≡ is_in x before)
    → first_mentions ns (map (place_in names) ts) ≡ map (place_in names) (firsts_after before ts)
first_places names ns before [] all same = refl
first_places names ns before (t ∷ ts) all same =
    let parts : (is_in t names ≡ true) × (all_in names ts ≡ true) = and_parts (is_in t names) (all_in names ts) all in
    mention_turn (place_in names) (is_among ns (place_in names t)) (is_in t before) t (first_mentions (ns ++ place_in names t ∷ []) (map (place_in names) ts)) (firsts_after (t ∷ before) ts) (same t parts.0)
    (first_places names (ns ++ place_in names t ∷ []) (t ∷ before) ts parts.1
    (λ x there.
    list_any-append (λ m. m == place_in names x) ns (place_in names t ∷ [])
    ∙ either_order (is_among ns (place_in names x)) (place_in names t == place_in names x)
    ∙ ap (λ b. b || is_among ns (place_in names x)) (places_alike names t x parts.0 there)
    ∙ ap (λ b. bytes_eq t x || b) (same x there)))

-- ---- operations

-- operations whose names were all seen are passed
pub seen_passed : (seen : List (List ℕ)) (os rest : List Operation) → ((x : List ℕ) → is_in x (texts_of os) ≡ true → is_in x seen ≡ true) → each_once_after seen (os ++ rest) ≡ each_once_after (passed seen (texts_of os)) rest
seen_passed seen [] rest all = refl
seen_passed seen (o ∷ os) rest all =
    ap (λ b. (if b then [] else o ∷ []) ++ each_once_after (o.name.text ∷ seen) (os ++ rest)) (all o.name.text (in_first o.name.text (texts_of os)))
    ∙ seen_passed (o.name.text ∷ seen) os rest (λ x there. or_right (bytes_eq o.name.text x) (is_in x seen) (all x (or_right (bytes_eq o.name.text x) (is_in x (texts_of os)) there)))

-- operations whose names differ and were not seen are taken
pub new_taken : (seen : List (List ℕ)) (os rest : List Operation) → texts_differ (texts_of os) ≡ true → ((x : List ℕ) → is_in x (texts_of os) ≡ true → is_in x seen ≡ false)
    → each_once_after seen (os ++ rest) ≡ os ++ each_once_after (passed seen (texts_of os)) rest
new_taken seen [] rest differ new = refl
new_taken seen (o ∷ os) rest differ new =
    let parts : (not (is_in o.name.text (texts_of os)) ≡ true) × (texts_differ (texts_of os) ≡ true) = and_parts (not (is_in o.name.text (texts_of os))) (texts_differ (texts_of os)) differ in
    ap (λ b. (if b then [] else o ∷ []) ++ each_once_after (o.name.text ∷ seen) (os ++ rest)) (new o.name.text (in_first o.name.text (texts_of os)))
    ∙ ap (λ ps. o ∷ ps)
    (new_taken (o.name.text ∷ seen) os rest parts.1
    (λ x there. or_from (bytes_eq o.name.text x) (is_in x seen)
    (another_text (bytes_eq o.name.text x) o.name.text x (texts_of os) refl (not-true (is_in o.name.text (texts_of os)) parts.0) there)
    (new x (or_right (bytes_eq o.name.text x) (is_in x (texts_of os)) there))))

-- the names of the operations of interfaces
abbrev pub texts_under : (List ℕ → List Operation) → List (List ℕ) → List (List ℕ)
texts_under under ts = flat_map (λ t. texts_of (under t)) ts

-- what is among texts and those that were passed behind them
either_passed : (x : List ℕ) (seen ts : List (List ℕ)) → is_in x seen ≡ false → is_in x ts ≡ false → is_in x (passed seen ts) ≡ false
either_passed x seen ts here there = among_passed x seen ts ∙ or_from (is_in x seen) (is_in x ts) here there

stays_passed : (x : List ℕ) (seen ts : List (List ℕ)) → is_in x seen ≡ true → is_in x (passed seen ts) ≡ true
stays_passed x seen ts here = among_passed x seen ts ∙ or_left (is_in x seen) (is_in x ts) here

comes_passed : (x : List ℕ) (seen ts : List (List ℕ)) → is_in x ts ≡ true → is_in x (passed seen ts) ≡ true
comes_passed x seen ts there = among_passed x seen ts ∙ or_right (is_in x seen) (is_in x ts) there

in_front : (x : List ℕ) (ts us : List (List ℕ)) → is_in x ts ≡ true → is_in x (ts ++ us) ≡ true
in_front x ts us there = list_any-append (λ s. bytes_eq s x) ts us ∙ or_left (is_in x ts) (is_in x us) there

-- the names of the operations of interfaces that were passed were seen
abbrev pub Covers : (List ℕ → List Operation) → List (List ℕ) → List (List ℕ) → Type 0
Covers under before seen = (t x : List ℕ) → is_in t before ≡ true → is_in x (texts_of (under t)) ≡ true → is_in x seen ≡ true

covers_more : (b : Bool) (under : List ℕ → List Operation) (before seen : List (List ℕ)) (t u x : List ℕ) → bytes_eq t u ≡ b → Covers under before seen → is_in u (t ∷ before) ≡ true → is_in x (texts_of (under u)) ≡ true
    → is_in x (passed seen (texts_of (under t))) ≡ true
covers_more true under before seen t u x same covers known there =
    comes_passed x seen (texts_of (under t)) (ap (λ v. is_in x (texts_of (under v))) ((bytes_eq-Decides t u).0 same) ∙ there)
covers_more false under before seen t u x other covers known there =
    stays_passed x seen (texts_of (under t)) (covers u x (ap (λ b. b || is_in u before) (sym other) ∙ known) there)

not_covered : (b : Bool) (x : List ℕ) (ts seen : List (List ℕ)) → is_in x ts ≡ b → (is_in x ts ≡ true → is_in x seen ≡ true) → is_in x seen ≡ false → is_in x ts ≡ false
not_covered true x ts seen e covered new = absurd (false≢true (sym new ∙ covered e))
not_covered false x ts seen e covered new = e

each_turn : (b : Bool) (under : List ℕ → List Operation) (before seen : List (List ℕ)) (t : List ℕ) (later : List Operation) (rest : List (List ℕ)) → is_in t before ≡ b → Covers under before seen
    → texts_differ (texts_under under ((if b then [] else t ∷ []) ++ rest)) ≡ true → ((x : List ℕ) → is_in x (texts_under under ((if b then [] else t ∷ []) ++ rest)) ≡ true → is_in x seen ≡ false)
    → (Covers under (t ∷ before) (passed seen (texts_of (under t))) → texts_differ (texts_under under rest) ≡ true → ((x : List ℕ) → is_in x (texts_under under rest) ≡ true → is_in x (passed seen (texts_of (under t))) ≡ false)
    → each_once_after (passed seen (texts_of (under t))) later ≡ flat_map under rest)
    → each_once_after seen (under t ++ later) ≡ flat_map under ((if b then [] else t ∷ []) ++ rest)
each_turn true under before seen t later rest known covers differ new further =
    seen_passed seen (under t) later (λ x h. covers t x known h)
    ∙ further (λ u x h there. covers_more (bytes_eq t u) under before seen t u x refl covers h there) differ
    (λ x h. either_passed x seen (texts_of (under t)) (new x h) (not_covered (is_in x (texts_of (under t))) x (texts_of (under t)) seen refl (covers t x known) (new x h)))
each_turn false under before seen t later rest fresh covers differ new further =
    let ts : List (List ℕ) = texts_of (under t) in
    let us : List (List ℕ) = texts_under under rest in
    new_taken seen (under t) later (first_differ ts us differ) (λ x h. new x (in_front x ts us h))
    ∙ ap (λ os. under t ++ os)
    (further (λ u x h there. covers_more (bytes_eq t u) under before seen t u x refl covers h there) (second_differ ts us differ)
    (λ x h. either_passed x seen ts (new x (in_last x ts us h)) (two_apart x ts us differ h)))

-- operations by name are taken once each where their interfaces are, if these have no operation in common
pub taken_by_interface : (under : List ℕ → List Operation) (before seen ts : List (List ℕ)) → Covers under before seen → texts_differ (texts_under under (firsts_after before ts)) ≡ true
    → ((x : List ℕ) → is_in x (texts_under under (firsts_after before ts)) ≡ true → is_in x seen ≡ false) → each_once_after seen (flat_map under ts) ≡ flat_map under (firsts_after before ts)
taken_by_interface under before seen [] covers differ new = refl
taken_by_interface under before seen (t ∷ ts) covers differ new =
    each_turn (is_in t before) under before seen t (flat_map under ts) (firsts_after (t ∷ before) ts) refl covers differ new
    (λ c d n. taken_by_interface under (t ∷ before) (passed seen (texts_of (under t))) ts c d n)

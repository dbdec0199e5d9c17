-- Laws of what leads to what; what things lead to by names is met in as many steps as there are names.
use Rattle.std.proofs.Common.{◌≡◌, ℕ, zero, suc, ◌≤◌, Bool, true, false, arith, List, [], ◌∷◌, length, Option, None, Some, cond, refl, ap, sym, ◌∙◌, subst, bytes_eq, inl, inr}
use Rattle.std.specs.Prelude.{◌||◌, ◌⊎◌, if◌then◌else◌, option_and_then, find}
use Rattle.std.specs.List.{list_any}
use Rattle.std.proofs.lemmas.Bool.{false≢true, or_from, or_left, or_parts, or_right}
use Rattle.std.proofs.lemmas.Slice.Eq.{bytes_eq-Decides}
use Rattle.behaviour_tree.specs.Distinct.{is_in}
use Rattle.behaviour_tree.specs.Leading.{LeadsTo, at_once, later, led_to}

-- ---- what is met is led to

-- what follows, if anything does, and what that leads to
abbrev pub from_there : {A : Type 0} → (A → Option A) → ℕ → Option A → List A
from_there next n None = []
from_there next n (Some b) = b ∷ led_to next n b

first_or_later : {A : Type 0} (next : A → Option A) (p : A → Bool) (n : ℕ) (a b : A) (here : Bool) → next a ≡ Some b → p b ≡ here
    → (list_any p (led_to next n b) ≡ true → (c : A) × LeadsTo next b c × (p c ≡ true)) → (here || list_any p (led_to next n b)) ≡ true → (c : A) × LeadsTo next a c × (p c ≡ true)
first_or_later next p n a b true step passes further e = (b, at_once a b step, passes)
first_or_later next p n a b false step passes further e = let found = further e in (found.0, later a b found.0 step found.1, found.2)

only_after : {A : Type 0} (next : A → Option A) (p : A → Bool) (n : ℕ) (a : A) (o : Option A) → next a ≡ o
    → ((b : A) → list_any p (led_to next n b) ≡ true → (c : A) × LeadsTo next b c × (p c ≡ true)) → list_any p (from_there next n o) ≡ true → (c : A) × LeadsTo next a c × (p c ≡ true)
only_after next p n a None step further e = absurd (false≢true e)
only_after next p n a (Some b) step further e = first_or_later next p n a b (p b) step refl (further b) e

-- what is met is led to
pub only_reached : {A : Type 0} (next : A → Option A) (p : A → Bool) (n : ℕ) (a : A) → list_any p (led_to next n a) ≡ true → (c : A) × LeadsTo next a c × (p c ≡ true)
only_reached next p zero a e = absurd (false≢true e)
only_reached next p (suc n) a e = only_after next p n a (next a) refl (only_reached next p n) e

-- ---- steps that go alike

there_alike : {A : Type 0} (f g : A → Option A) (n : ℕ) → ((b : A) → led_to f n b ≡ led_to g n b) → (o : Option A) → from_there f n o ≡ from_there g n o
there_alike f g n rest None = refl
there_alike f g n rest (Some b) = ap (λ bs. b ∷ bs) (rest b)

-- steps that go alike lead to the same
pub led_alike : {A : Type 0} (f g : A → Option A) → ((a : A) → f a ≡ g a) → (n : ℕ) (a : A) → led_to f n a ≡ led_to g n a
led_alike f g same zero a = refl
led_alike f g same (suc n) a = ap (from_there f n) (same a) ∙ there_alike f g n (led_alike f g same n) (g a)

-- ---- the first that is met

found_turn : {A : Type 0} (p : A → Bool) (x : A) (xs : List A) (here : Bool) → (list_any p xs ≡ true → (c : A) × (find p xs ≡ Some c)) → (here || list_any p xs) ≡ true → (c : A) × (cond here (Some x) (find p xs) ≡ Some c)
found_turn p x xs true rest e = (x, refl)
found_turn p x xs false rest e = rest e

-- a test that something passes finds something
pub found_among : {A : Type 0} (p : A → Bool) (xs : List A) → list_any p xs ≡ true → (c : A) × (find p xs ≡ Some c)
found_among p [] e = absurd (false≢true e)
found_among p (x ∷ xs) e = found_turn p x xs (p x) (found_among p xs) e

found_or_later : {A : Type 0} (next : A → Option A) (p : A → Bool) (n : ℕ) (a b c : A) (here : Bool) → next a ≡ Some b → p b ≡ here → (find p (led_to next n b) ≡ Some c → LeadsTo next b c × (p c ≡ true))
    → cond here (Some b) (find p (led_to next n b)) ≡ Some c → LeadsTo next a c × (p c ≡ true)
found_or_later next p n a b c true step passes further e = let same : b ≡ c = cc in (at_once a c (step ∙ ap Some same), sym (ap p same) ∙ passes)
found_or_later next p n a b c false step passes further e = let leads = further e in (later a b c step leads.0, leads.1)

found_after : {A : Type 0} (next : A → Option A) (p : A → Bool) (n : ℕ) (a c : A) (o : Option A) → next a ≡ o → ((b : A) → find p (led_to next n b) ≡ Some c → LeadsTo next b c × (p c ≡ true))
    → find p (from_there next n o) ≡ Some c → LeadsTo next a c × (p c ≡ true)
found_after next p n a c None step further e = cc
found_after next p n a c (Some b) step further e = found_or_later next p n a b c (p b) step refl (further b) e

-- the first that passes a test is led to
pub found_leads : {A : Type 0} (next : A → Option A) (p : A → Bool) (n : ℕ) (a c : A) → find p (led_to next n a) ≡ Some c → LeadsTo next a c × (p c ≡ true)
found_leads next p zero a c e = cc
found_leads next p (suc n) a c e = found_after next p n a c (next a) refl (λ b. found_leads next p n b c) e

-- ---- the end

-- nothing leads on from an end
no_further : {A : Type 0} (next : A → Option A) (a c : A) → next a ≡ None → LeadsTo next a c → ⊥
no_further next a c last (at_once _ _ step) = cc
no_further next a c last (later _ b _ step rest) = cc

-- one thing leads to one end
pub ends_same : {A : Type 0} (next : A → Option A) (a b c : A) → LeadsTo next a b → LeadsTo next a c → next b ≡ None → next c ≡ None → b ≡ c
ends_same next a b c (at_once _ _ step) (at_once _ _ other) last end = cc
ends_same next a b c (at_once _ _ step) (later _ d _ other rest) last end = let same : d ≡ b = cc in absurd (no_further next d c (ap next same ∙ last) rest)
ends_same next a b c (later _ d _ step rest) (at_once _ _ other) last end = let same : d ≡ c = cc in absurd (no_further next d b (ap next same ∙ end) rest)
ends_same next a b c (later _ d _ step rest) (later _ e _ other more) last end =
    let same : e ≡ d = cc in ends_same next d b c rest (subst (λ x. LeadsTo next x c) same more) last end

-- ---- steps that go by names

-- a thing is followed by what stands under its name
abbrev pub by_name : {A : Type 0} → (A → Option (List ℕ)) → (List ℕ → Option A) → A → Option A
by_name name under a = option_and_then under (name a)

-- nothing stands under one name any more
abbrev pub but : {A : Type 0} → List ℕ → (List ℕ → Option A) → List ℕ → Option A
but k under j = if bytes_eq j k then None else under j

-- a thing leads to another without that name, or what stands under the name does
abbrev pub Either : {A : Type 0} → (A → Option (List ℕ)) → (List ℕ → Option A) → List ℕ → A → A → Type 0
Either {A} name under k a c = LeadsTo (by_name name (but k under)) a c ⊎ ((b : A) × (under k ≡ Some b) × ((b ≡ c) ⊎ LeadsTo (by_name name (but k under)) b c))

-- the step from a thing, by its name
step_by : {A : Type 0} (name : A → Option (List ℕ)) (under : List ℕ → Option A) (a b : A) (o : Option (List ℕ)) → name a ≡ o → option_and_then under o ≡ Some b → (j : List ℕ) × (name a ≡ Some j) × (under j ≡ Some b)
step_by name under a b None named step = cc
step_by name under a b (Some j) named step = (j, named, step)

-- a step is one without a name, or one by the name
step_but : {A : Type 0} (name : A → Option (List ℕ)) (under : List ℕ → Option A) (k : List ℕ) (a b : A) (j : List ℕ) (same : Bool) → bytes_eq j k ≡ same → name a ≡ Some j → under j ≡ Some b
    → (by_name name (but k under) a ≡ Some b) ⊎ (under k ≡ Some b)
step_but name under k a b j true e named step = inr (sym (ap under ((bytes_eq-Decides j k).0 e)) ∙ step)
step_but name under k a b j false e named step = inl (ap (option_and_then (but k under)) named ∙ ap (λ s. if s then None else under j) e ∙ step)

step_either : {A : Type 0} (name : A → Option (List ℕ)) (under : List ℕ → Option A) (k : List ℕ) (a b : A) → by_name name under a ≡ Some b → (by_name name (but k under) a ≡ Some b) ⊎ (under k ≡ Some b)
step_either name under k a b step =
    let by = step_by name under a b (name a) refl step in
    step_but name under k a b by.0 (bytes_eq by.0 k) refl by.1 by.2

-- one name may be left out, but at the beginning
pub without : {A : Type 0} (name : A → Option (List ℕ)) (under : List ℕ → Option A) (k : List ℕ) (a c : A) → LeadsTo (by_name name under) a c → Either name under k a c
without name under k a c (at_once _ _ step) =
    elim (step_either name under k a c step) [ inl other ↦ inl (at_once a c other) | inr here ↦ inr (c, here, inl refl) ]
without name under k a c (later _ b _ step rest) =
    elim (without name under k b c rest) [
      | inr last ↦ inr last
      | inl leads ↦ elim (step_either name under k a b step) [ inl other ↦ inl (later a b c other leads) | inr here ↦ inr (b, here, inr leads) ]
    ]

-- ---- how many names there are

-- names but one
abbrev pub others : List ℕ → List (List ℕ) → List (List ℕ)
others k [] = []
others k (j ∷ js) = if bytes_eq j k then others k js else j ∷ others k js

others_turn : (k j : List ℕ) (js : List (List ℕ)) (same : Bool) → length (others k js) ≤ length js → length (if same then others k js else j ∷ others k js) ≤ suc (length js)
others_turn k j js true le = omega (arith, le)
others_turn k j js false le = omega (arith, le)

no_more : (k : List ℕ) (js : List (List ℕ)) → length (others k js) ≤ length js
no_more k [] = omega arith
no_more k (j ∷ js) = others_turn k j js (bytes_eq j k) (no_more k js)

fewer_turn : (k j : List ℕ) (js : List (List ℕ)) (same : Bool) → (is_in k js ≡ true → suc (length (others k js)) ≤ length js) → (same || is_in k js) ≡ true → suc (length (if same then others k js else j ∷ others k js)) ≤ suc (length js)
fewer_turn k j js true less e = let le = no_more k js in omega (arith, le)
fewer_turn k j js false less e = let le = less e in omega (arith, le)

-- a name that is there is one less
fewer : (k : List ℕ) (js : List (List ℕ)) → is_in k js ≡ true → suc (length (others k js)) ≤ length js
fewer k [] e = absurd (false≢true e)
fewer k (j ∷ js) e = fewer_turn k j js (bytes_eq j k) (fewer k js) e

-- what is one text is not another
another : (i j k : List ℕ) (same : Bool) → bytes_eq i j ≡ same → bytes_eq i k ≡ true → bytes_eq j k ≡ false → bytes_eq i j ≡ false
another i j k true e here other = absurd (false≢true (sym other ∙ (bytes_eq-Decides j k).1 (sym ((bytes_eq-Decides i j).0 e) ∙ (bytes_eq-Decides i k).0 here)))
another i j k false e here other = e

kept_turn : (k j i : List ℕ) (js : List (List ℕ)) (same : Bool) → bytes_eq i k ≡ same → bytes_eq j k ≡ false → (is_in j (others k js) ≡ false → is_in j js ≡ false) → is_in j (if same then others k js else i ∷ others k js) ≡ false → (bytes_eq i j || is_in j js) ≡ false
kept_turn k j i js true here other rest e = or_from (bytes_eq i j) (is_in j js) (another i j k (bytes_eq i j) refl here other) (rest e)
kept_turn k j i js false here other rest e =
    let parts = or_parts (bytes_eq i j) (is_in j (others k js)) e in
    or_from (bytes_eq i j) (is_in j js) parts.0 (rest parts.1)

-- another name that is not among the others is not there
kept : (k j : List ℕ) (js : List (List ℕ)) → bytes_eq j k ≡ false → is_in j (others k js) ≡ false → is_in j js ≡ false
kept k j [] other e = refl
kept k j (i ∷ js) other e = kept_turn k j i js (bytes_eq i k) refl other (kept k j js other) e

-- ---- fewer steps

or_on : (a t u : Bool) → (t ≡ true → u ≡ true) → (a || t) ≡ true → (a || u) ≡ true
or_on true t u h e = refl
or_on false t u h e = h e

-- what is met without a name is met
met_turn : {A : Type 0} (name : A → Option (List ℕ)) (under : List ℕ → Option A) (k j : List ℕ) (p : A → Bool) (n : ℕ) (same : Bool) → ((a : A) → list_any p (led_to (by_name name (but k under)) n a) ≡ true → list_any p (led_to (by_name name under) n a) ≡ true)
    → (o : Option A) → list_any p (from_there (by_name name (but k under)) n (if same then None else o)) ≡ true → list_any p (from_there (by_name name under) n o) ≡ true
met_turn name under k j p n true rest o e = absurd (false≢true e)
met_turn name under k j p n false rest None e = absurd (false≢true e)
met_turn name under k j p n false rest (Some b) e = or_on (p b) (list_any p (led_to (by_name name (but k under)) n b)) (list_any p (led_to (by_name name under) n b)) (rest b) e

met_from : {A : Type 0} (name : A → Option (List ℕ)) (under : List ℕ → Option A) (k : List ℕ) (p : A → Bool) (n : ℕ) → ((a : A) → list_any p (led_to (by_name name (but k under)) n a) ≡ true → list_any p (led_to (by_name name under) n a) ≡ true)
    → (o : Option (List ℕ)) → list_any p (from_there (by_name name (but k under)) n (option_and_then (but k under) o)) ≡ true → list_any p (from_there (by_name name under) n (option_and_then under o)) ≡ true
met_from name under k p n rest None e = e
met_from name under k p n rest (Some j) e = met_turn name under k j p n (bytes_eq j k) rest (under j) e

met_without : {A : Type 0} (name : A → Option (List ℕ)) (under : List ℕ → Option A) (k : List ℕ) (p : A → Bool) (n : ℕ) (a : A) → list_any p (led_to (by_name name (but k under)) n a) ≡ true → list_any p (led_to (by_name name under) n a) ≡ true
met_without name under k p zero a e = e
met_without name under k p (suc n) a e = met_from name under k p n (met_without name under k p n) (name a) e

-- ---- as many steps as there are names

-- nothing stands under a name that is not there
abbrev pub Only : {A : Type 0} → (List ℕ → Option A) → List (List ℕ) → Type 0
Only under names = (j : List ℕ) → is_in j names ≡ false → under j ≡ None

only_turn : {A : Type 0} (under : List ℕ → Option A) (names : List (List ℕ)) (k j : List ℕ) (same : Bool) → bytes_eq j k ≡ same → Only under names → is_in j (others k names) ≡ false → (if same then None else under j) ≡ None
only_turn under names k j true e only out = refl
only_turn under names k j false e only out = only j (kept k j names e out)

only_but : {A : Type 0} (under : List ℕ → Option A) (names : List (List ℕ)) (k : List ℕ) → Only under names → Only (but k under) (others k names)
only_but under names k only j out = only_turn under names k j (bytes_eq j k) refl only out

some_name : {A : Type 0} (under : List ℕ → Option A) (names : List (List ℕ)) (k : List ℕ) (b : A) (there : Bool) → is_in k names ≡ there → Only under names → under k ≡ Some b → is_in k names ≡ true
some_name under names k b true e only step = e
some_name under names k b false e only step = let none = only k e in cc

-- one step, and then fewer names
first_step : {A : Type 0} (name : A → Option (List ℕ)) (under : List ℕ → Option A) (a c : A) → LeadsTo (by_name name under) a c → (k : List ℕ) × (b : A) × (name a ≡ Some k) × (under k ≡ Some b) × ((b ≡ c) ⊎ LeadsTo (by_name name (but k under)) b c)
first_step name under a c (at_once _ _ step) = let by = step_by name under a c (name a) refl step in (by.0, c, by.1, by.2, inl refl)
first_step name under a c (later _ b _ step rest) =
    let by = step_by name under a b (name a) refl step in
    elim (without name under by.0 b c rest) [
      | inl leads ↦ (by.0, b, by.1, by.2, inr leads)
      | inr last ↦ (by.0, last.0, by.1, last.1, last.2)
    ]

-- whatever is led to is met within as many steps as there are names
pub all_reached : {A : Type 0} (name : A → Option (List ℕ)) (n : ℕ) (under : List ℕ → Option A) (names : List (List ℕ)) (p : A → Bool) (a c : A)
    → length names ≤ n → Only under names → LeadsTo (by_name name under) a c → p c ≡ true → list_any p (led_to (by_name name under) n a) ≡ true
all_reached name zero under names p a c le only leads passes =
    let first = first_step name under a c leads in
    let there = some_name under names first.0 first.1 (is_in first.0 names) refl only first.3 in
    let less = fewer first.0 names there in
    absurd (omega (arith, le, less))
all_reached name (suc n) under names p a c le only leads passes =
    let first = first_step name under a c leads in
    let there = some_name under names first.0 first.1 (is_in first.0 names) refl only first.3 in
    let less = fewer first.0 names there in
    let fits : length (others first.0 names) ≤ n = omega (arith, le, less) in
    ap (λ o. list_any p (from_there (by_name name under) n (option_and_then under o))) first.2
    ∙ ap (λ o. list_any p (from_there (by_name name under) n o)) first.3
    ∙ elim first.4 [
      | inl here ↦ or_left (p first.1) (list_any p (led_to (by_name name under) n first.1)) (ap p here ∙ passes)
      | inr further ↦ or_right (p first.1) (list_any p (led_to (by_name name under) n first.1))
          (met_without name under first.0 p n first.1 (all_reached name n (but first.0 under) (others first.0 names) p first.1 c fits (only_but under names first.0 only) further passes))
    ]

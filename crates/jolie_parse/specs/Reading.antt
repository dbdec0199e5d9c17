-- These definitions serve the proofs alone: no promise speaks of them.
-- Reading a grammar from the left, one token deciding each choice.
use Rattle.std.specs.Prelude.{◌≡◌, ℕ, zero, suc, List, [], ◌∷◌, length, if◌then◌else◌}
use Rattle.jolie_parse.specs.declared.class.Class.{Class}
use Rattle.jolie_parse.specs.Classes.{Spelled, class, has, begins, open_brackets}
use Rattle.jolie_parse.specs.Syntax.{Part, Meant, Syn, token, give, both, either, many, means, inside, prefix}
use Rattle.jolie_parse.specs.Deciding.{first}
use Rattle.jolie_parse.specs.Factored.{rule}

-- what comes of reading a phrase
pub data Outcome (A : Type 0) : Type 0 where
  -- what it means, and the tokens after it
  got : A → List Spelled → Outcome A
  -- the tokens from the one on with which those before begin nothing
  refused : List Spelled → Outcome A
  -- the tokens from the one on that opens a level too many
  too_deep : List Spelled → Outcome A

-- what comes of reading on after a phrase
abbrev pub and_then : {A B : Type 0} → Outcome A → (A → List Spelled → Outcome B) → Outcome B
and_then (got a ts) f = f a ts
and_then (refused ts) f = refused ts
and_then (too_deep ts) f = too_deep ts

-- the same next token, or no more for both
abbrev pub SameHead : List Spelled → List Spelled → Type 0
SameHead [] [] = Unit {0}
SameHead [] (u ∷ us) = ⊥
SameHead (t ∷ ts) [] = ⊥
SameHead (t ∷ ts) (u ∷ us) = t ≡ u

-- ---- reading, with n levels left

-- a token of these classes
abbrev pub take_token : List Class → List Spelled → Outcome Spelled
take_token ks [] = refused []
take_token ks (t ∷ ts) = if has ks (class t) then got t ts else refused (t ∷ ts)

-- a phrase again and again, while its first classes go on, at most n times
abbrev pub repeat : {A : Type 0} → (List Spelled → Outcome A) → List Class → ℕ → List Spelled → Outcome (List A)
repeat one ks zero ts = got [] ts
repeat one ks (suc n) ts =
    if begins ks ts then and_then (one ts) (λ a r. and_then (repeat one ks n r) (λ more rest. got (a ∷ more) rest))
    else got [] ts

-- what opens a level where none is left
abbrev pub no_level : {A : Type 0} → List Class → List Spelled → Outcome A
no_level ks ts = if begins ks ts then too_deep ts else refused ts

-- a bracket that is refused where no level is left opens a level too many all the same
abbrev pub deepen : {A : Type 0} → Outcome A → ℕ → Outcome A
deepen (got a ts) n = got a ts
deepen (too_deep ts) n = too_deep ts
deepen (refused ts) zero = no_level open_brackets ts
deepen (refused ts) (suc n) = refused ts

-- a part between its brackets, one level further in
abbrev pub enclosed : ℕ → {A : Type 0} → (List Spelled → Outcome A) → Class → Class → List Spelled
    → Outcome (Spelled × A)
enclosed zero inner o c ts = no_level (o ∷ []) ts
enclosed (suc n) inner o c ts =
    and_then (take_token (o ∷ []) ts)
    (λ t r. deepen (and_then (inner r) (λ v r2. and_then (take_token (c ∷ []) r2) (λ _ r3. got (t, v) r3))) n)

-- a part after its prefix, one level further in
abbrev pub prefixed : ℕ → {A : Type 0} → (List Spelled → Outcome A) → List Class → List Spelled → Outcome (Spelled × A)
prefixed zero inner ks ts = no_level ks ts
prefixed (suc n) inner ks ts = and_then (take_token ks ts) (λ t r. and_then (inner r) (λ v r2. got (t, v) r2))

-- reading a phrase with n levels left
abbrev pub run : ℕ → ((r : Part) → List Spelled → Outcome (Meant r)) → {A : Type 0} → Syn A → List Spelled → Outcome A
run n inner (token ks) ts = take_token ks ts
run n inner (give a) ts = got a ts
run n inner (both s t) ts = and_then (run n inner s ts) (λ a r. and_then (run n inner t r) (λ b r2. got (a, b) r2))
run n inner (either s t) ts = if begins (first s) ts then run n inner s ts else run n inner t ts
run n inner (many s) ts = repeat (run n inner s) (first s) (length ts) ts
run n inner (means f s) ts = and_then (run n inner s ts) (λ a r. got (f a) r)
run n inner (inside o r c) ts = enclosed n (inner r) o c ts
run n inner (prefix ks r) ts = prefixed n (inner r) ks ts

-- reading a part with n levels left
abbrev pub inner : ℕ → (r : Part) → List Spelled → Outcome (Meant r)
inner zero r ts = refused ts
inner (suc n) r ts = run n (inner n) (rule r) ts

-- reading a phrase whose parts may nest n levels
abbrev pub read : {A : Type 0} → ℕ → Syn A → List Spelled → Outcome A
read n s = run n (inner n) s

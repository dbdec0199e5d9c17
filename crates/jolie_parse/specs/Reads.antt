-- These definitions serve the proofs alone: no promise speaks of them.
-- What a function that reads a phrase promises.
use Rattle.std.specs.Prelude.{◌≡◌, ℕ, zero, suc, List, [], ◌∷◌, ◌++◌}
use Rattle.std.specs.Prelude.{Option, None, Some, Result, Ok, Err, if◌then◌else◌}
use Rattle.jolie_parse.specs.declared.class.Class.{Class}
use Rattle.jolie_parse.specs.declared.stop.Stop.{Stop}
use Rattle.jolie_parse.specs.declared.stop.Stop.TheVariants as stop
use Rattle.jolie_parse.specs.Classes.{Spelled, class, begins}
use Rattle.jolie_parse.specs.Syntax.{Syn, many}
use Rattle.jolie_parse.specs.Reading.{Outcome, got, refused, too_deep, and_then, take_token, no_level, deepen, read}

-- the class of the next token
abbrev pub next_class : List Spelled → Option Class
next_class [] = None
next_class (t ∷ ts) = Some (class t)

-- want of memory
abbrev pub IsMemory : Stop → Type 0
IsMemory (stop.Memory e) = Unit {0}
IsMemory e = ⊥

-- it stops where the outcome says and for that cause, unless memory ran out
abbrev pub Stops : {A : Type 0} → Outcome A → Stop → List Spelled → Type 0
Stops o stop.Syntax left = o ≡ refused left
Stops o stop.TooDeep left = o ≡ too_deep left
Stops o (stop.Memory e) left = Unit {0}

-- the result and the tokens that are left are the outcome, unless memory ran out
abbrev pub Reads : {A : Type 0} → Outcome A → Result A Stop → List Spelled → Type 0
Reads o (Ok a) left = o ≡ got a left
Reads o (Err e) left = Stops o e left

-- why nothing that begins with these classes is read where no level is left
abbrev pub why : List Class → List Spelled → Stop
why ks ts = if begins ks ts then stop.TooDeep else stop.Syntax

-- the tokens after the first
abbrev pub tail : List Spelled → List Spelled
tail [] = []
tail (t ∷ ts) = ts

-- the tokens after the next, if it is of these classes
abbrev pub after : List Class → List Spelled → List Spelled
after ks ts = if begins ks ts then tail ts else ts

-- the token that opens a level
abbrev pub opening_token : ℕ → List Class → List Spelled → Outcome Spelled
opening_token zero ks ts = no_level ks ts
opening_token (suc n) ks ts = take_token ks ts

-- more members of a list, of which these were read
unfoldable pub more : {A : Type 0} → ℕ → Syn A → List A → List Spelled → Outcome (List A)
more n s xs ts = and_then (read n (many s) ts) (λ vs r. got (xs ++ vs) r)

-- what was read and then a token of that class
abbrev pub closed : {A : Type 0} → Outcome A → Class → Outcome A
closed o c = and_then o (λ v r. and_then (take_token (c ∷ []) r) (λ _ r2. got v r2))

-- what was read in a bracket and then the bracket that closes, with n levels left in it
abbrev pub closing : {A : Type 0} → Outcome A → Class → ℕ → Outcome A
closing o c n = deepen (closed o c) n

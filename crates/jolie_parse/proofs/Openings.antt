-- Where a token opens a level too many, in the factored grammar.
use Rattle.std.proofs.Common.{◌≡◌, ℕ, List, ◌∷◌, ◌++◌}
use Rattle.jolie_parse.specs.Classes.{Spelled}
use Rattle.jolie_parse.specs.Syntax.{Part, Meant, Syn, Lang}
use Rattle.jolie_parse.specs.Factored.{rule, Within, Nests}
use Rattle.jolie_parse.specs.Levels as levels
use Rattle.jolie_parse.specs.Levels.{Opener}

-- with any nesting
abbrev pub Any : {A : Type 0} → Syn A → List Spelled → A → Type 0
Any s ts v = (m : ℕ) × Nests m s ts v

-- some tokens can follow that make it a phrase
abbrev pub CanEnd : {A : Type 0} → Syn A → List Spelled → Type 0
CanEnd {A} s w = (more : List Spelled) × (v : A) × Any s (w ++ more) v

abbrev pub LeadsTo : {A : Type 0} → ((r : Part) → Lang (Meant r)) → (Opener → List Spelled → Type 0) → Syn A → List Spelled → Type 0
LeadsTo within at s w = levels.LeadsTo within at s w

-- the next token is a bracket that opens, behind tokens that begin what stands in the innermost bracket
abbrev pub Stands : ℕ → Spelled → Opener → List Spelled → Type 0
Stands n t p z = levels.Stands rule Within n t p z

-- n levels on, that token opens the next
abbrev pub Leads : ℕ → Spelled → Opener → List Spelled → Type 0
Leads n t p y = levels.Leads rule Within n t p y

-- behind these tokens the next opens level n + 1
abbrev pub OpensNext : ℕ → {A : Type 0} → Syn A → List Spelled → List Spelled → Type 0
OpensNext n s w r = (t : Spelled) × (q : List Spelled) × (r ≡ t ∷ q) × levels.LeadsTo (Within n) (levels.Leads rule Within n t) s w

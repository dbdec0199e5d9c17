-- Levels of nesting, and where the tokens so far stop beginning a file.
use Rattle.std.specs.Prelude.{◌≡◌, ◌⊎◌, ℕ, zero, suc, true, List, [], ◌∷◌, ◌++◌}
use Rattle.jolie_ast.specs.declared.tree.Definition.{Definition}
use Rattle.jolie_parse.specs.declared.class.Class.{Class}
use Rattle.jolie_parse.specs.Classes.{Spelled, class, has, place, open_brackets}
use Rattle.jolie_parse.specs.Syntax.{Part, Meant, Syn, Lang, Derives, both, either, many, means, inside, prefix}
use Rattle.jolie_parse.specs.Grammar.{production, Allowed, IsFile, BeginsFile, file}

-- what opens a level: a bracket with what stands in it and the bracket that closes, or tokens before what is a level
-- further in
pub data Opener : Type 0 where
  bracket : Class → Part → Class → Opener
  before : List Class → Part → Opener

-- the classes of the token that opens it
abbrev pub opening : Opener → List Class
opening (bracket o r c) = o ∷ []
opening (before ks r) = ks

-- what stands a level further in
abbrev pub opened : Opener → Part
opened (bracket o r c) = r
opened (before ks r) = r

-- the tokens go through a phrase up to a part of it that opens a level; `at` holds of what opens it and of the tokens
-- from there on
abbrev pub LeadsTo : {A : Type 0} → ((r : Part) → Lang (Meant r)) → (Opener → List Spelled → Type 0) → Syn A
    → List Spelled → Type 0
LeadsTo within at (both {A} s t) w =
    LeadsTo within at s w
    ⊎ ((x y : List Spelled) × (a : A) × (w ≡ x ++ y) × Derives within s x a × LeadsTo within at t y)
LeadsTo within at (either s t) w = LeadsTo within at s w ⊎ LeadsTo within at t w
LeadsTo within at (many {A} s) w =
    (x y : List Spelled) × (vs : List A) × (w ≡ x ++ y) × Derives within (many s) x vs × LeadsTo within at s y
LeadsTo within at (means f s) w = LeadsTo within at s w
LeadsTo within at (inside o r c) w = at (bracket o r c) w
LeadsTo within at (prefix ks r) w = at (before ks r) w
LeadsTo within at _ w = ⊥

-- These say it of any grammar, given by the rules of its parts and by what stands a level further in.
module _ (rules : (r : Part) → Syn (Meant r)) (within : ℕ → (r : Part) → Lang (Meant r)) where
  -- some tokens can follow that make it a phrase, of whatever nesting
  abbrev pub Begins : {A : Type 0} → Syn A → List Spelled → Type 0
  Begins {A} s w = (more : List Spelled) × (v : A) × (m : ℕ) × Derives (within m) s (w ++ more) v

  -- The tokens begin what stands in the innermost bracket, where no further level is left, and the next is a bracket
  -- that opens, be it a wrong one. What stands after a prefix ends before a token that is no part of it.
  abbrev pub Stands : ℕ → Spelled → Opener → List Spelled → Type 0
  Stands zero t (bracket o r c) z = (has open_brackets (class t) ≡ true) × Begins (rules r) z
  Stands zero t (before ks r) z = ⊥
  Stands (suc n) t p z = ⊥

  -- n levels on, that token opens the next
  abbrev pub Leads : ℕ → Spelled → Opener → List Spelled → Type 0
  Leads zero t p y = (y ≡ []) × (has (opening p) (class t) ≡ true)
  Leads (suc n) t p y =
      (u : Spelled) × (z : List Spelled) × (has (opening p) (class u) ≡ true) × (y ≡ u ∷ z)
      × (LeadsTo (within n) (Leads n t) (rules (opened p)) z ⊎ Stands n t p z)

-- after these tokens the next opens level n + 1
abbrev pub OpensNext : ℕ → List Spelled → List Spelled → Type 0
OpensNext n w r =
    (t : Spelled) × (q : List Spelled) × (r ≡ t ∷ q) × LeadsTo (Allowed n) (Leads production Allowed n t) file w

-- with these tokens and the next, or with none after them, no file begins
abbrev pub IsDead : List Spelled → List Spelled → Type 0
IsDead w [] = (m : ℕ) (f : List Definition) → IsFile m w f → ⊥
IsDead w (t ∷ r) = BeginsFile (w ++ t ∷ []) → ⊥

-- no token of these opens level n + 1
abbrev pub NoneOpens : ℕ → List Spelled → Type 0
NoneOpens n ts = (x y : List Spelled) → ts ≡ x ++ y → OpensNext n x y → ⊥

-- the tokens from the first on with which those before begin no file, where none up to it opens level n + 1
abbrev pub IsRefused : ℕ → List Spelled → List Spelled → Type 0
IsRefused n ts r = (w : List Spelled) × (ts ≡ w ++ r) × BeginsFile w × IsDead w r × NoneOpens n ts

-- the tokens from the first on that opens level n + 1
abbrev pub IsTooDeep : ℕ → List Spelled → List Spelled → Type 0
IsTooDeep n ts r = (w : List Spelled) × (ts ≡ w ++ r) × BeginsFile w × OpensNext n w r × NoneOpens n w

-- where the rest of a text begins that ends there
abbrev pub rest_place : ℕ → List Spelled → ℕ
rest_place end [] = end
rest_place end (t ∷ r) = place t

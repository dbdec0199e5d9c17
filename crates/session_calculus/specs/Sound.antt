-- What every configuration of a run keeps.
use Rattle.std.specs.Prelude.{◌≡◌, ℕ, Bool, true, false, ◌&&◌, List, [], ◌∷◌, ◌++◌, Some}
use Rattle.std.specs.List.{list_all}
use Rattle.std.specs.Prelude.{nat_lt}
use Rattle.behaviour_tree.specs.declared.words.Given.{Given}
use Rattle.behaviour_tree.specs.declared.words.Given.TheVariants as given
use Rattle.behaviour_tree.specs.Data.{Proc, ProgramParts}
use Rattle.behaviour_tree.specs.Distinct.{numbers_differ}
use Rattle.behaviour_tree.specs.Operations.{is_among}
use Rattle.session_calculus.specs.Terms.{Fault, Term, Strands, done, seq, par, in_scope, exec, fail, dead_wait}
use Rattle.session_calculus.specs.Terms.{prot, no_strands, strand, live, caught, term, last, zombie}
use Rattle.session_calculus.specs.Throw.{absent, throw}
use Rattle.session_calculus.specs.Faults.{fault_in}
use Rattle.session_calculus.specs.After.{Config, Done, after, first_config, seen_by}
use Rattle.session_calculus.specs.Open.{open_requests, waiting}

-- ---- what stands under what

abbrev mutual
  -- a form that a fault may end: what failed, what waits for its handlers alone, and a scope whose end is decided stand
  -- only where no fault ends them
  pub is_exposed : Term → Bool
  is_exposed (seq t rest) = is_exposed t
  is_exposed (par ts) = are_exposed ts
  is_exposed (in_scope q t h live) = is_exposed t
  is_exposed (in_scope q t h (caught f)) = is_spared t
  is_exposed (exec m o y t) = is_exposed t
  is_exposed (prot t) = is_shielded t
  is_exposed (in_scope q t h u) = false
  is_exposed (fail m f t) = false
  is_exposed (dead_wait k port op list) = false
  is_exposed t = true

  -- each member is such a form
  pub are_exposed : Strands → Bool
  are_exposed no_strands = true
  are_exposed (strand n t ts) = is_exposed t && are_exposed ts

  -- what a kill leaves: nothing of it acts but what no fault ends
  pub is_spared : Term → Bool
  is_spared done = true
  is_spared (par ts) = are_spared ts
  is_spared (prot t) = is_shielded t
  is_spared t = false

  -- each member is such a form
  pub are_spared : Strands → Bool
  are_spared no_strands = true
  are_spared (strand n t ts) = is_spared t && are_spared ts

  -- what no fault ends
  pub is_shielded : Term → Bool
  is_shielded (in_scope q done h live) = true
  is_shielded (in_scope q t h term) = is_spared t
  is_shielded (in_scope q t h last) = is_exposed t
  is_shielded (in_scope q t h zombie) = is_spared t
  is_shielded (fail m f t) = is_spared t
  is_shielded (dead_wait k port op list) = true
  is_shielded (par ts) = are_spared ts
  is_shielded (prot t) = is_shielded t
  is_shielded done = true
  is_shielded t = false

-- ---- numbers

abbrev mutual
  -- the members of all parallels in a term, by their strands
  pub strands_of : Term → List ℕ
  strands_of (seq t rest) = strands_of t
  strands_of (par ts) = strands_among ts
  strands_of (in_scope q t h u) = strands_of t
  strands_of (exec m o y t) = strands_of t
  strands_of (fail m f t) = strands_of t
  strands_of (prot t) = strands_of t
  strands_of t = []

  -- those of members
  pub strands_among : Strands → List ℕ
  strands_among no_strands = []
  strands_among (strand n t ts) = n ∷ strands_of t ++ strands_among ts

-- numbers that differ and are below another
abbrev pub are_below : ℕ → List ℕ → Bool
are_below most ns = numbers_differ ns && list_all (λ n. nat_lt n most) ns

-- what every configuration of a run keeps: what stands under what, and that no strand, request or call stands twice
pub record IsSound (c : Config) : Type 0 where
  pub shape : is_exposed c.form ≡ true
  pub strands : are_below c.next (0 ∷ strands_of c.form) ≡ true
  pub calls : are_below c.call (waiting c.form) ≡ true
  pub requests : numbers_differ (open_requests c.form) ≡ true

-- a gift that is no message which is open already
abbrev pub IsNew : Config → Given → Type 0
IsNew c (given.Mail m o v) = is_among (open_requests c.form) m ≡ false
IsNew c g = Unit {0}

-- A session is sound where it begins.
abbrev pub BeginsSound : Type 0
BeginsSound = (p : Proc) → IsSound (first_config p)

-- A session stays sound, as long as no message comes that is open already.
abbrev pub StaysSound : Type 0
StaysSound =
    (parts : ProgramParts) (service : ℕ) (c : Config) (n : ℕ) (g : Given) (d : Done)
    → IsSound c → IsNew c g → after parts service c n g ≡ Some d → IsSound d.config

-- No fault is absent: a scope keeps it, a strand blocks it, or it leaves main.
abbrev pub NoFaultIsAbsent : Type 0
NoFaultIsAbsent =
    (parts : ProgramParts) (service : ℕ) (c : Config) (n : ℕ) (g : Given) (f : Fault)
    → is_exposed c.form ≡ true → fault_in (seen_by parts service c n g) 0 c.form ≡ Some f
    → throw n f 0 c.form ≡ absent → ⊥

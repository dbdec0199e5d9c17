-- These definitions serve the proofs alone: no promise speaks of them.
-- What can be told of the event of a strand before anything is evaluated.
use Rattle.std.specs.Prelude.{◌≡◌, ℕ, Bool, true, false, Option, Some, ◌||◌, nat_eq}
use Rattle.std.specs.Option.{is_some}
use Rattle.jolie_trees.specs.Data.{Tree}
use Rattle.behaviour_tree.specs.declared.words.Need.{Need}
use Rattle.behaviour_tree.specs.declared.words.Need.TheVariants as need
use Rattle.behaviour_tree.specs.Data.{ProgramParts}
use Rattle.session_calculus.specs.After.{Config}
use Rattle.session_calculus.specs.Moves.{Seen}
use Rattle.session_calculus.specs.Names.{expr_fault, store_too_large}
use Rattle.session_calculus.specs.Terms.{Term}
use Rattle.session_calculus.specs.Throw.{throw}
use Rattle.term_session.specs.Asks.{asked_by_throw, needed}
use Rattle.term_session.specs.Walks.{Looked, failing, asking, looked_in}
use Rattle.term_session.specs.declared.glance.Glance.{Glance}
use Rattle.term_session.specs.declared.glance.Glance.TheVariants as glance

-- whether looking tells what a glance told: that the event asks something; or that it asks nothing, or has one of the
-- faults of a change of the store
abbrev pub is_so : Glance → Looked → Bool
is_so glance.Unknown l = true
is_so glance.Asks (asking n) = true
is_so glance.Stores (asking need.Nothing) = true
is_so glance.Stores (failing f) = nat_eq f expr_fault || nat_eq f store_too_large
is_so g l = false

-- whatever else is seen, looking at a form that runs in strand k tells so of strand n
abbrev pub Foresees : Glance → ℕ → ℕ → Term → Type 0
Foresees g n k t = (s : Seen) → s.strand ≡ n → is_so g (looked_in s k t) ≡ true

-- a fault of this name of strand n is raised, whatever its value: it asks, though nothing
abbrev pub IsRaised : ℕ → ℕ → Term → Type 0
IsRaised n f t = (v : Tree) → is_some (asked_by_throw (throw n (record { name = f; value = v }) 0 t)) ≡ true

-- what was told of what a strand asks: that it asks something, or nothing
abbrev pub is_asked_so : Glance → Option Need → Bool
is_asked_so glance.Unknown o = true
is_asked_so glance.Asks o = is_some o
is_asked_so glance.Stores (Some need.Nothing) = true
is_asked_so g o = false

-- the strand of a configuration asks so, in any program
abbrev pub Foretells : Glance → Config → ℕ → Type 0
Foretells g c n = (parts : ProgramParts) (service : ℕ) → is_asked_so g (needed parts service c n) ≡ true

-- Install, Compensate, Handle and EndScope: handlers come, run and pass outward.
use Rattle.std.specs.Prelude.{ℕ, List, [], ◌∷◌, Option, None, Some, if◌then◌else◌}
use Rattle.jolie_trees.specs.declared.path.Step.{Step}
use Rattle.jolie_trees.specs.Data.{Tree}
use Rattle.jolie_trees.specs.Trees.{set}
use Rattle.jolie_trees.specs.Limits.{is_store}
use Rattle.behaviour_tree.specs.declared.words.Kind.TheVariants as kind
use Rattle.behaviour_tree.specs.declared.words.Need.TheVariants as need
use Rattle.behaviour_tree.specs.Data.{HandlerList}
use Rattle.behaviour_tree.specs.Values.{stepped}
use Rattle.session_calculus.specs.Names.{name_at}
use Rattle.session_calculus.specs.Tables.{Table, entry, without, over, or_nothing, plus}
use Rattle.session_calculus.specs.Terms.{Fault, Term, done, in_scope, State, live, caught, term, last}
use Rattle.session_calculus.specs.Moves.{Seen, Move, moved_to, within, event_of, unchanged, quietly, starts}

-- handlers are installed in the nearest scope
abbrev pub installs : Seen → HandlerList → Move Term
installs s list = moved_to done (record (quietly s kind.Install) { table = plus s.scope s.table list })

-- the handler under scope name r of the nearest scope runs, once; nothing where there is none
abbrev pub compensates : Seen → ℕ → Move Term
compensates s r =
    starts (or_nothing (entry r s.table.scopes))
    (record (unchanged s (event_of s kind.Compensate 0 r 0) need.Nothing) {
      table = record s.table { scopes = without r s.table.scopes };
    })

-- where a scope finds the value of a fault that it caught
abbrev pub place_of_fault : Seen → ℕ → Fault → List Step
place_of_fault s q f = stepped (name_at s.parts q) None ∷ stepped (name_at s.parts f.name) None ∷ []

-- the store with the value of a fault there, unless that passes a limit
abbrev pub noted : Seen → ℕ → Fault → Tree
noted s q f = let store = set (place_of_fault s q f) f.value s.store in if is_store store then store else s.store

-- the handler of a caught fault runs in scope q, which is live again. It is there; if it were not, nothing would run
abbrev pub handles_fault : Seen → ℕ → Table → Fault → Move Term
handles_fault s q h f =
    within (λ t. in_scope q t (record h { faults = without f.name h.faults }) live)
    (starts (or_nothing (entry f.name h.faults))
    (record (unchanged s (event_of s kind.Handle 0 q f.name) need.Nothing) { store = noted s q f }))

-- the termination handler of scope q runs, the one under its own name, if it has one
abbrev pub handles_end : Seen → ℕ → Table → Move Term
handles_end s q h =
    within (λ t. in_scope q t (record h { scopes = without q h.scopes }) last)
    (starts (or_nothing (entry q h.scopes)) (unchanged s (event_of s kind.Handle 1 q 0) need.Nothing))

-- scope q ends, and what its table has under scope names passes to the scope around it
abbrev pub ends : Seen → ℕ → Table → Move Term
ends s q h =
    moved_to done (record (unchanged s (event_of s kind.EndScope 0 q 0) need.Nothing) {
      table = record s.table { scopes = over h.scopes s.table.scopes };
    })

-- the event of scope q whose body is done. One whose last handler is through, or that a fault left, is itself done
abbrev pub scope_acts : Seen → ℕ → Table → State → Option (Move Term)
scope_acts s q h live = Some (ends s q h)
scope_acts s q h (caught f) = Some (handles_fault s q h f)
scope_acts s q h term = Some (handles_end s q h)
scope_acts s q h u = None

-- These definitions serve the proofs alone: no promise speaks of them.
-- How a message comes to a branch.
use Rattle.std.specs.Prelude.{ℕ, List, Option, None, Some}
use Rattle.jolie_trees.specs.Limits.{in_u32}
use Rattle.behaviour_tree.specs.declared.words.Event.{Event}
use Rattle.behaviour_tree.specs.declared.words.Given.{Given}
use Rattle.behaviour_tree.specs.declared.words.Given.TheVariants as given
use Rattle.behaviour_tree.specs.declared.words.Kind.TheVariants as kind
use Rattle.behaviour_tree.specs.Data.{PathTree, Proc, no_procs, proc}
use Rattle.behaviour_tree.specs.View.{BranchView}
use Rattle.session_calculus.specs.Effects.{received}
use Rattle.session_calculus.specs.Inputs.{Coming, goes_on, asked}
use Rattle.session_calculus.specs.Moves.{Seen, Move, within}
use Rattle.session_calculus.specs.Terms.{Term, seq, exec}
use Rattle.session_values.specs.declared.actor.Actor.{Actor}
use Rattle.session_events.specs.declared.choice.Mail.{Mail}

-- what the office gave
abbrev pub mail_of : Mail → Given
mail_of m = given.Mail m.message m.op m.value.now

-- the event of a message that is taken at a place of the choice
abbrev pub in_event : Actor → ℕ → ℕ → Event
in_event a m place = record { strand = a.strand; kind = kind.In; number = m; place = in_u32 place; fault = 0 }

-- the message with the operations that a choice takes, at a branch of it
abbrev pub coming : Mail → List ℕ → ℕ → Coming
coming m ops place = record { message = m.message; op = m.op; value = m.value.now; ops = ops; branch = place }

-- the body of a request, with what comes next after it
abbrev pub asked_after : Mail → Option PathTree → Proc → Term → Term
asked_after m y p t = seq (exec m.message m.op y t) (proc p no_procs)

-- a message comes to a branch of its operation
abbrev pub arrives : Seen → Coming → BranchView → Move Term
arrives s m b =
    elim b.reply [
      | None ↦ goes_on s m b.after (received s.store b.target m.value)
      | Some r ↦ within (asked m r.path b.after) (goes_on s m r.body (received s.store b.target m.value))
    ]

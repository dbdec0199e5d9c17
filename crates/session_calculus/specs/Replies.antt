-- Reply: a request is answered.
use Rattle.std.specs.Prelude.{ℕ, Option, None, Some}
use Rattle.std.specs.Option.{option_map_or}
use Rattle.jolie_trees.specs.Data.{Tree}
use Rattle.jolie_trees.specs.Trees.{void_tree}
use Rattle.behaviour_tree.specs.declared.words.Kind.TheVariants as kind
use Rattle.behaviour_tree.specs.declared.words.Need.TheVariants as need
use Rattle.behaviour_tree.specs.declared.words.Outcome.{Outcome}
use Rattle.behaviour_tree.specs.declared.words.Outcome.TheVariants as outcome
use Rattle.behaviour_tree.specs.Data.{PathTree, ProgramParts}
use Rattle.behaviour_tree.specs.Values.{tree_at}
use Rattle.session_calculus.specs.Names.{type_mismatch, name_at}
use Rattle.session_calculus.specs.Terms.{Fault, bare, Term}
use Rattle.session_calculus.specs.Effects.{written_steps}
use Rattle.session_calculus.specs.Accepted.{accepted, response_of}
use Rattle.session_calculus.specs.Moves.{Seen, Move, moved_to, event_of, unchanged}

-- the whole tree at the path of a reply, void where there is no path
abbrev pub reply_value : Tree → Option PathTree → Tree
reply_value store None = void_tree
reply_value store (Some y) = tree_at store (written_steps y)

-- a fault as an answer: by the text of its name
abbrev pub outcome_of_fault : ProgramParts → Fault → Outcome
outcome_of_fault parts f = outcome.Fault (name_at parts f.name) f.value

-- the answer of a request whose body is done: the value, as the response type takes it, or the fault TypeMismatch
abbrev pub reply_of : Seen → ℕ → Option PathTree → Outcome
reply_of s o y =
    option_map_or outcome.Value (accepted s.parts.types (response_of s.parts s.service o) (reply_value s.store y))
    (outcome_of_fault s.parts (bare type_mismatch))

-- message m is answered, and a form goes on
abbrev pub replies : Seen → ℕ → Outcome → Term → Move Term
replies s m o t = moved_to t (unchanged s (event_of s kind.Reply m 0 0) (need.Reply m o))

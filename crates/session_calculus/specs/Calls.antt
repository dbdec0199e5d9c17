-- Notify, Solicit and Bind: what a session asks of others.
use Rattle.std.specs.Prelude.{ℕ, suc, true, false, Option, None, Some, option_and_then}
use Rattle.jolie_trees.specs.declared.root.Root.{Root}
use Rattle.jolie_trees.specs.Data.{Tree}
use Rattle.behaviour_tree.specs.declared.words.Kind.{Kind}
use Rattle.behaviour_tree.specs.declared.words.Kind.TheVariants as kind
use Rattle.behaviour_tree.specs.declared.words.Need.{Need}
use Rattle.behaviour_tree.specs.declared.words.Need.TheVariants as need
use Rattle.behaviour_tree.specs.declared.words.Given.TheVariants as given
use Rattle.behaviour_tree.specs.Data.{Exp}
use Rattle.behaviour_tree.specs.Values.{value}
use Rattle.session_calculus.specs.Names.{correlation_error}
use Rattle.session_calculus.specs.Terms.{Term, done}
use Rattle.session_calculus.specs.Faults.{sent_value}
use Rattle.session_calculus.specs.Moves.{Seen, Made, Move, moved_to, event_of, unchanged, instead}

-- an expression as the value of a message, as the request type takes it
abbrev pub message_value : Seen → ℕ → ℕ → Exp → Option Tree
message_value s port op e = option_and_then (sent_value s port op) (value s.store e)

-- a message is sent under the next call number
abbrev pub sends : Seen → Kind → Need → Made
sends s k n = record (unchanged s (event_of s k s.call 0 0) n) { call = suc s.call }

-- a one-way message is sent, and nothing waits
abbrev pub notifies : Seen → ℕ → ℕ → Tree → Move Term
notifies s port op v = moved_to done (sends s kind.Notify (need.Send s.call port op v false))

-- a request is sent: the form that waits for its answer stands there
abbrev pub solicits : Seen → ℕ → ℕ → Tree → Term → Move Term
solicits s port op v t = moved_to t (sends s kind.Solicit (need.Send s.call port op v true))

-- a variable is bound to a root
abbrev pub asks_to_bind : Seen → ℕ → Root → Made
asks_to_bind s v r = unchanged s (event_of s kind.Bind 0 0 0) (need.Bind v r)

-- the event of a binding, for what the office gave: the variable is written now; another session has the key; or it was
-- written before
abbrev pub binds : Seen → ℕ → Root → Option (Move Term)
binds s v r =
    elim s.gift [
      | given.Bound ↦ Some (moved_to done (asks_to_bind s v r))
      | given.Held t ↦ Some (moved_to (instead correlation_error) (asks_to_bind s v r))
      | given.Fixed ↦ Some (moved_to (instead correlation_error) (asks_to_bind s v r))
      | _ ↦ None
    ]

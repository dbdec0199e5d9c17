-- What an event sees, and what it makes.
use Rattle.std.specs.Prelude.{ℕ, Option, None, Some, if◌then◌else◌, nat_eq}
use Rattle.jolie_trees.specs.Data.{Tree}
use Rattle.behaviour_tree.specs.declared.words.Kind.{Kind}
use Rattle.behaviour_tree.specs.declared.words.Event.{Event}
use Rattle.behaviour_tree.specs.declared.words.Need.{Need}
use Rattle.behaviour_tree.specs.declared.words.Need.TheVariants as need
use Rattle.behaviour_tree.specs.declared.words.Given.{Given}
use Rattle.behaviour_tree.specs.declared.words.Given.TheVariants as given
use Rattle.behaviour_tree.specs.Data.{Proc, ProgramParts}
use Rattle.session_calculus.specs.Tables.{Table}
use Rattle.session_calculus.specs.Terms.{Term, State, thrown, in_scope, bare}
use Rattle.session_calculus.specs.Start.{start}

-- what an event sees: the program and the service by number, the strand that acts and what the office gave it, the
-- nearest scope and its handlers, the store, the next strand and the next call
pub record Seen : Type 0 where
  pub parts : ProgramParts
  pub service : ℕ
  pub strand : ℕ
  pub gift : Given
  pub scope : ℕ
  pub table : Table
  pub store : Tree
  pub next : ℕ
  pub call : ℕ

-- what an event makes beside the form: the handlers of the nearest scope, the store, the next strand and the next call;
-- what is seen of it, and what it asks of the office
pub record Made : Type 0 where
  pub table : Table
  pub store : Tree
  pub next : ℕ
  pub call : ℕ
  pub event : Event
  pub need : Need

-- what an event makes, with the form, or the members of a parallel, that stand there then
pub record Move (A : Type 0) : Type 0 where
  pub form : A
  pub made : Made

-- a form, and what was made beside it
abbrev pub moved_to : {A : Type 0} → A → Made → Move A
moved_to t m = record { form = t; made = m }

-- the same move with something around its form
abbrev pub within : {A B : Type 0} → (A → B) → Move A → Move B
within f m = moved_to (f m.form) m.made

-- an event of the strand that acts
abbrev pub event_of : Seen → Kind → ℕ → ℕ → ℕ → Event
event_of s k number place fault = record { strand = s.strand; kind = k; number = number; place = place; fault = fault }

-- an event that changes nothing but the form
abbrev pub unchanged : Seen → Event → Need → Made
unchanged s e n = record { table = s.table; store = s.store; next = s.next; call = s.call; event = e; need = n }

-- an event without numbers that asks nothing of the office
abbrev pub quietly : Seen → Kind → Made
quietly s k = unchanged s (event_of s k 0 0 0) need.Nothing

-- a behaviour starts
abbrev pub starts : Proc → Made → Move Term
starts p m = let b = start p m.next in moved_to b.form (record m { next = b.next })

-- a fault without a value stands where a behaviour would
abbrev pub instead : ℕ → Term
instead f = thrown (bare f)

-- the event of a form that runs in strand k: that strand alone has it
abbrev pub in_strand : Seen → ℕ → Option (Move Term) → Option (Move Term)
in_strand s k m = if nat_eq s.strand k then m else None

-- an event for which the office gives nothing
abbrev pub ungiven : Seen → Move Term → Option (Move Term)
ungiven s m = elim s.gift [ given.Nothing ↦ Some m | _ ↦ None ]

-- what is seen in the body of scope q, whose handlers are h
abbrev pub inside : Seen → ℕ → Table → Seen
inside s q h = record s { scope = q; table = h }

-- a move in the body of scope q: the scope takes the handlers, and those of the scope around stay
abbrev pub in_its_scope : Seen → ℕ → State → Move Term → Move Term
in_its_scope s q u m = moved_to (in_scope q m.form m.made.table u) (record m.made { table = s.table })

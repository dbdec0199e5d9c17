-- The calls of a session in a history, and its events as steps, each with what the history gave for it.
use Rattle.std.specs.Prelude.{ℕ, Bool, true, false, List, [], ◌∷◌, drop, nat_eq, Option, None, Some, slice_get}
use Rattle.std.specs.Option.{option_map_or}
use Rattle.behaviour_tree.specs.declared.words.Event.{Event}
use Rattle.behaviour_tree.specs.declared.words.Kind.{Kind}
use Rattle.behaviour_tree.specs.declared.words.Kind.TheVariants as kind
use Rattle.behaviour_tree.specs.declared.words.Given.{Given}
use Rattle.behaviour_tree.specs.declared.words.Given.TheVariants as given
use Rattle.session_calculus.specs.Runs.{TakenStep}
use Rattle.correlation.specs.declared.bind_reply.BindReply.{BindReply}
use Rattle.correlation.specs.declared.bind_reply.BindReply.TheVariants as reply
use Rattle.office_core.specs.declared.history.Act.{Act}
use Rattle.office_core.specs.declared.history.Act.TheVariants as act
use Rattle.office_core.specs.declared.history.Entry.{Entry}
use Rattle.office_core.specs.Limits.{Setting}
use Rattle.office_core.specs.declared.message.Message.{Message}
use Rattle.office_core.specs.Past.{Past, nothing_yet}
use Rattle.office_core.specs.Keys.{first}
use Rattle.office_core.specs.Accepted.{then_one}

-- ---- calls

-- a call of a session, with what happened before it
pub record Called : Type 0 where
  pub before : Past
  pub act : Act

-- an entry of a session other than its adoption
abbrev pub is_call_of : ℕ → Entry → Bool
is_call_of s e = elim e.act [ act.Adopt service ↦ false | _ ↦ nat_eq s e.actor ]

-- the calls of a session among entries, each with what happened before it
abbrev pub calls_after : Setting → ℕ → Past → List Entry → List Called
calls_after w s past [] = []
calls_after w s past (e ∷ es) = elim (is_call_of s e) [
  | true ↦ record { before = past; act = e.act } ∷ calls_after w s (then_one w past e) es
  | false ↦ calls_after w s (then_one w past e) es
]

-- the calls of a session in a history
abbrev pub calls_of : Setting → List Entry → ℕ → List Called
calls_of w h s = calls_after w s nothing_yet h

-- ---- gifts

-- a message as its session gets it
abbrev pub mail : ℕ → Option Message → Given
mail n None = given.Nothing
mail n (Some m) = given.Mail n m.op m.value

-- the answer of a binding
abbrev pub binding : BindReply → Given
binding reply.Bound = given.Bound
binding (reply.Held s) = given.Held s
binding reply.Fixed = given.Fixed

-- what the history gave for a call
abbrev pub gift_of : Called → Given
gift_of c = elim c.act [
  | act.Take n ↦ mail n (slice_get c.before.messages n)
  | act.Bind v x r ↦ binding r
  | act.Answer k o ↦ given.Answer o
  | _ ↦ given.Nothing
]

-- the gift of a call, where there is one
abbrev pub gift_by : Option Called → Given
gift_by call = option_map_or gift_of call given.Nothing

-- ---- steps

-- the kinds of event that make a call of the office: all but those that a session has by itself
abbrev pub makes_call : Kind → Bool
makes_call kind.Local = false
makes_call kind.Install = false
makes_call kind.Raise = false
makes_call kind.Handle = false
makes_call kind.EndScope = false
makes_call kind.Compensate = false
makes_call k = true

-- events with their gifts: those that make a call have that of the next call, the others nothing
abbrev pub steps_of : List Event → List Called → List TakenStep
steps_of [] calls = []
steps_of (e ∷ es) calls = elim (makes_call e.kind) [
  | true ↦ record { event = e; gift = gift_by (first calls) } ∷ steps_of es (drop 1 calls)
  | false ↦ record { event = e; gift = given.Nothing } ∷ steps_of es calls
]

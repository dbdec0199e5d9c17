-- When the events of a session agree with a history: they are a run of the calculus, and its calls are the history's.
use Rattle.std.specs.Prelude.{◌≡◌, ℕ, true, false, List, [], ◌∷◌, length, None, Some, slice_get}
use Rattle.std.specs.List.{AllZip}
use Rattle.behaviour_tree.specs.declared.words.Event.{Event}
use Rattle.behaviour_tree.specs.declared.words.Need.{Need}
use Rattle.behaviour_tree.specs.declared.words.Need.TheVariants as need
use Rattle.behaviour_tree.specs.Data.{ProgramParts}
use Rattle.session_calculus.specs.After.{Config, Done, after}
use Rattle.session_calculus.specs.Runs.{TakenStep, start_of, RunsTo}
use Rattle.office_core.specs.declared.history.Act.{Act}
use Rattle.office_core.specs.declared.history.Act.TheVariants as act
use Rattle.office_core.specs.declared.history.Entry.{Entry}
use Rattle.office_core.specs.Limits.{Setting}
use Rattle.office_core.specs.Past.{Past}
use Rattle.office_core.specs.Sessions.{births, service_of}
use Rattle.office_core.specs.Boxes.{queue}
use Rattle.office_core.specs.Keys.{first}
use Rattle.office_core.specs.Accepted.{past_of}
use Rattle.run_record.specs.Steps.{Called, calls_of, makes_call, steps_of}

-- what an event asks of the office, before what further ones ask
abbrev pub asked_by : Done → List Need → List Need
asked_by d needs = elim (makes_call d.event.kind) [ true ↦ d.need ∷ needs | false ↦ needs ]

-- what steps ask of the office, in order, from a configuration on
abbrev pub asked_from : ProgramParts → ℕ → Config → List TakenStep → List Need
asked_from parts service c [] = []
asked_from parts service c (s ∷ steps) = elim (after parts service c s.event.strand s.gift) [
  | None ↦ []
  | Some d ↦ asked_by d (asked_from parts service d.config steps)
]

-- what the steps of a session of a service ask of the office, in order
abbrev pub asked_of : ProgramParts → ℕ → List TakenStep → List Need
asked_of parts service steps =
    elim (start_of parts service) [ None ↦ [] | Some c ↦ asked_from parts service c steps ]

-- the call that an event asks for is the one that was made: an input takes the first of the messages that wait for any
-- of its operations
abbrev pub IsCall : ℕ → Need → Past → Act → Type 0
IsCall s (need.Take ops) past (act.Take n) = Some n ≡ first (queue past s ops)
IsCall s (need.Bind v x) past (act.Bind u y r) = (u ≡ v) × (y ≡ x)
IsCall s (need.Reply m o) past (act.Reply n q) = (n ≡ m) × (q ≡ o)
IsCall s (need.Send k port op v wants) past (act.Send l q p u wanted r) =
    (l ≡ k) × (q ≡ port) × (p ≡ op) × (u ≡ v) × (wanted ≡ wants)
IsCall s (need.Answer k) past (act.Answer l o) = l ≡ k
IsCall s need.Finish past act.End = Unit {0}
IsCall s n past a = ⊥

-- the calls that are asked for are those that were made, one for one and in order
abbrev pub AreCalls : ℕ → List Need → List Called → Type 0
AreCalls s needs calls = AllZip (λ (n : Need) (c : Called). IsCall s n c.before c.act) needs calls

-- The events of session s, each with what the history gave for it, are a run of the session's service that ends at this
-- configuration, and what they asked of the office is what the history has of the session.
pub record Agrees (w : Setting) (h : List Entry) (s : ℕ) (events : List Event) (last : Config) : Type 0 where
  pub service : ℕ
  pub born : service_of w (past_of w h) s ≡ Some service
  pub run : RunsTo w.parts service (steps_of events (calls_of w h s)) last
  pub calls : AreCalls s (asked_of w.parts service (steps_of events (calls_of w h s))) (calls_of w h s)

-- the events of session s agree with the history
abbrev pub IsSession : Setting → List Entry → ℕ → List Event → Type 0
IsSession w h s events = (last : Config) × Agrees w h s events last

-- Each session that was born has its events, and they agree with the history.
pub record HasSessions (w : Setting) (h : List Entry) (sessions : List (List Event)) : Type 0 where
  pub all : length sessions ≡ length (births w (past_of w h))
  pub each : (s : ℕ) (events : List Event) → slice_get sessions s ≡ Some events → IsSession w h s events

-- What is told of steps is a run of the calculus, and what is told of a session is what agrees.
use Rattle.std.proofs.Common.{◌≡◌, ℕ, Bool, true, false, List, [], ◌∷◌, map, refl, sym, ap, subst, ◌∙◌, Option, None, Some, true≢false}
use Rattle.std.specs.Prelude.{option_map, option_and_then, drop}
use Rattle.behaviour_tree.specs.declared.words.Event.{Event}
use Rattle.behaviour_tree.specs.Data.{ProgramParts}
use Rattle.session_calculus.specs.After.{Config, Done, after}
use Rattle.session_calculus.specs.Runs.{TakenStep, Leads, start_of, RunsTo}
use Rattle.office_core.specs.declared.history.Entry.{Entry}
use Rattle.office_core.specs.Limits.{Setting}
use Rattle.office_core.specs.Sessions.{service_of}
use Rattle.office_core.specs.Accepted.{past_of}
use Rattle.run_record.specs.Steps.{Called, calls_of, gift_by, makes_call, steps_of}
use Rattle.behaviour_tree.specs.declared.words.Given.TheVariants as given
use Rattle.office_core.specs.Keys.{first}
use Rattle.run_record.specs.Agrees.{asked_of, AreCalls, Agrees, IsSession}
use Rattle.test_trials.specs.Sessions.{told_from, told_of}

-- the events of steps
abbrev pub events_of : List TakenStep → List Event
events_of steps = map (λ s. s.event) steps

is_there : {A : Type 0} (x y : A) → Some x ≡ Some y → x ≡ y
is_there x y h = ap (λ o. elim o [ None ↦ x | Some z ↦ z ]) h

is_not_none : {A : Type 0} (x : A) → None ≡ Some x → ⊥
is_not_none x h = true≢false (sym (ap (λ o. elim o [ None ↦ false | Some z ↦ true ]) h))

head_of : (d e : Event) (ds es : List Event) → d ∷ ds ≡ e ∷ es → d ≡ e
head_of d e ds es h = ap (λ l. elim l [ [] ↦ d | x ∷ xs ↦ x ]) h

tail_of : (d e : Event) (ds es : List Event) → d ∷ ds ≡ e ∷ es → ds ≡ es
tail_of d e ds es h = ap (λ l. elim l [ [] ↦ [] | x ∷ xs ↦ xs ]) h

-- where steps lead
abbrev LeadsSome : ProgramParts → ℕ → Config → List TakenStep → Type 0
LeadsSome parts d c steps = (last : Config) × Leads parts d c steps last

by_rest : (parts : ProgramParts) (d : ℕ) (c : Config) (s : TakenStep) (steps : List TakenStep) (k : Done)
    (told : Option (List Event)) → after parts d c s.event.strand s.gift ≡ Some k
    → (told ≡ Some (events_of steps) → LeadsSome parts d k.config steps)
    → option_map (λ es. k.event ∷ es) told ≡ Some (events_of (s ∷ steps)) → LeadsSome parts d c (s ∷ steps)
by_rest parts d c s steps k None step rest h = absurd (is_not_none (events_of (s ∷ steps)) h)
by_rest parts d c s steps k (Some es) step rest h =
    let told : (k.event ∷ es ≡ s.event ∷ events_of steps) = is_there (k.event ∷ es) (s.event ∷ events_of steps) h in
    let more : LeadsSome parts d k.config steps = rest (ap (λ l. Some l) (tail_of k.event s.event es (events_of steps) told)) in
    (more.0, (k, step, head_of k.event s.event es (events_of steps) told, more.1))

by_first : (parts : ProgramParts) (d : ℕ) (c : Config) (s : TakenStep) (steps : List TakenStep) (r : Option Done)
    → after parts d c s.event.strand s.gift ≡ r
    → ((k : Done) → told_from parts d k.config steps ≡ Some (events_of steps) → LeadsSome parts d k.config steps)
    → (elim r [ None ↦ None | Some k ↦ option_map (λ es. k.event ∷ es) (told_from parts d k.config steps) ]) ≡ Some (events_of (s ∷ steps))
    → LeadsSome parts d c (s ∷ steps)
by_first parts d c s steps None step rest h = absurd (is_not_none (events_of (s ∷ steps)) h)
by_first parts d c s steps (Some k) step rest h =
    by_rest parts d c s steps k (told_from parts d k.config steps) step (rest k) h

-- steps of which their own events are told lead on
leads_on : (parts : ProgramParts) (d : ℕ) (c : Config) (steps : List TakenStep)
    → told_from parts d c steps ≡ Some (events_of steps) → LeadsSome parts d c steps
leads_on parts d c [] h = (c, refl)
leads_on parts d c (s ∷ steps) h =
    by_first parts d c s steps (after parts d c s.event.strand s.gift) refl (λ k. leads_on parts d k.config steps) h

runs_on : (parts : ProgramParts) (d : ℕ) (steps : List TakenStep) (from : Option Config) → start_of parts d ≡ from
    → option_and_then (λ c. told_from parts d c steps) from ≡ Some (events_of steps)
    → (last : Config) × RunsTo parts d steps last
runs_on parts d steps None begin h = absurd (is_not_none (events_of steps) h)
runs_on parts d steps (Some c) begin h =
    let on : LeadsSome parts d c steps = leads_on parts d c steps h in (on.0, (c, begin, on.1))

-- the steps of an event and of those behind it, by whether it makes a call
abbrev steps_by : Event → List Event → List Called → Bool → List TakenStep
steps_by e es calls b = elim b [
  | true ↦ record { event = e; gift = gift_by (first calls) } ∷ steps_of es (drop 1 calls)
  | false ↦ record { event = e; gift = given.Nothing } ∷ steps_of es calls
]

with_kind : (e : Event) (es : List Event) (calls : List Called) (b : Bool)
    → ((calls : List Called) → events_of (steps_of es calls) ≡ es) → events_of (steps_by e es calls b) ≡ e ∷ es
with_kind e es calls true rest = ap (λ l. e ∷ l) (rest (drop 1 calls))
with_kind e es calls false rest = ap (λ l. e ∷ l) (rest calls)

-- the steps of events are of these events
pub of_events : (events : List Event) (calls : List Called) → events_of (steps_of events calls) ≡ events
of_events [] calls = refl
of_events (e ∷ es) calls = with_kind e es calls (makes_call e.kind) (of_events es)

-- A session agrees with the history where what is told of its steps are its events, and its calls are the history's.
pub is_session : (w : Setting) (h : List Entry) (s d : ℕ) (events : List Event)
    → service_of w (past_of w h) s ≡ Some d
    → Some events ≡ told_of w.parts d (steps_of events (calls_of w h s))
    → AreCalls s (asked_of w.parts d (steps_of events (calls_of w h s))) (calls_of w h s)
    → IsSession w h s events
is_session w h s d events born told calls =
    let run : ((last : Config) × RunsTo w.parts d (steps_of events (calls_of w h s)) last) =
    runs_on w.parts d (steps_of events (calls_of w h s)) (start_of w.parts d) refl
    (sym told ∙ ap (λ es. Some es) (sym (of_events events (calls_of w h s)))) in
    (run.0, record { service = d; born = born; run = run.1; calls = calls })

-- A session that can act after an event without a call could act before it.
use Rattle.std.proofs.Common.{◌≡◌, ℕ, Bool, true, false, List, [], ◌∷◌, ◌++◌, drop, Option, None, Some, refl, sym, ap, subst, ◌∙◌}
use Rattle.std.proofs.lemmas.Bool.{false≢true}
use Rattle.behaviour_tree.specs.declared.words.Event.{Event}
use Rattle.behaviour_tree.specs.declared.words.Need.{Need}
use Rattle.behaviour_tree.specs.declared.words.Need.TheVariants as need
use Rattle.behaviour_tree.specs.declared.words.Given.{Given}
use Rattle.behaviour_tree.specs.declared.words.Given.TheVariants as given
use Rattle.behaviour_tree.specs.Data.{ProgramParts}
use Rattle.session_calculus.specs.After.{Config, Done, after}
use Rattle.session_calculus.specs.Runs.{Leads, TakenStep, start_of}
use Rattle.office_core.specs.declared.history.Entry.{Entry}
use Rattle.office_core.specs.Limits.{Setting}
use Rattle.office_core.specs.Past.{Past}
use Rattle.office_core.specs.Keys.{first}
use Rattle.office_core.specs.Accepted.{past_of}
use Rattle.run_record.specs.Steps.{Called, calls_of, gift_by, makes_call, steps_of}
use Rattle.run_record.specs.Agrees.{AreCalls, asked_by, asked_from, asked_of}
use Rattle.run_record.specs.Quiet.{CanAct, is_given}
use Rattle.session_turn.proofs.Matching.{step_of}
use Rattle.session_turn.proofs.Telling.{Tells, is_told}

-- ---- its steps

-- steps behind that of a first event, by whether it makes a call
abbrev steps_by : Bool → Event → List Called → (List Called → List TakenStep) → List TakenStep
steps_by b e cs rest = elim b [
  | true ↦ record { event = e; gift = gift_by (first cs) } ∷ rest (drop 1 cs)
  | false ↦ record { event = e; gift = given.Nothing } ∷ rest cs
]

steps_both : (b : Bool) (e : Event) (cs : List Called) (longer shorter : List Called → List TakenStep)
    (last : List TakenStep)
    → ((ds : List Called) → longer ds ≡ shorter ds ++ last)
    → steps_by b e cs longer ≡ steps_by b e cs shorter ++ last
steps_both true e cs longer shorter last h =
    ap (λ (xs : List TakenStep). record { event = e; gift = gift_by (first cs) } ∷ xs) (h (drop 1 cs))
steps_both false e cs longer shorter last h =
    ap (λ (xs : List TakenStep). record { event = e; gift = given.Nothing } ∷ xs) (h cs)

-- an event without a call is a step more, for nothing
steps_more : (x : Event) → makes_call x.kind ≡ false → (es : List Event) (cs : List Called)
    → steps_of (es ++ x ∷ []) cs ≡ steps_of es cs ++ step_of x given.Nothing ∷ []
steps_more x quiet [] cs = ap (λ b. steps_by b x cs (λ ds. [])) quiet
steps_more x quiet (e ∷ es) cs =
    steps_both (makes_call e.kind) e cs (λ ds. steps_of (es ++ x ∷ []) ds) (λ ds. steps_of es ds)
    (step_of x given.Nothing ∷ [])
    (λ ds. steps_more x quiet es ds)

-- Steps with one more at their end lead to where that has its event.
record LeadsBefore (parts : ProgramParts) (service : ℕ) (from : Config) (xs : List TakenStep)
    (y : TakenStep) : Type 0 where
  pub mid : Config
  pub done : Done
  pub leads : Leads parts service from xs mid
  pub event : after parts service mid y.event.strand y.gift ≡ Some done
  pub is : done.event ≡ y.event

leads_before : (parts : ProgramParts) (service : ℕ) (from : Config) (xs : List TakenStep) (y : TakenStep) (to : Config)
    → Leads parts service from (xs ++ y ∷ []) to → LeadsBefore parts service from xs y
leads_before parts service from [] y to l = record { mid = from; done = l.0; leads = refl; event = l.1; is = l.2 }
leads_before parts service from (x ∷ xs) y to l =
    let r = leads_before parts service l.0.config xs y to l.3 in
    record { mid = r.mid; done = r.done; leads = (l.0, l.1, l.2, r.leads); event = r.event; is = r.is }

-- ---- what they asked

asked_first : (parts : ProgramParts) (service : ℕ) (c : Config) (x : TakenStep) (xs : List TakenStep) (d : Done)
    → after parts service c x.event.strand x.gift ≡ Some d
    → asked_from parts service c (x ∷ xs) ≡ asked_by d (asked_from parts service d.config xs)
asked_first parts service c x xs d e =
    ap
    (λ (o : Option Done). elim o as (λ _. List Need) [
      | None ↦ []
      | Some d ↦ asked_by d (asked_from parts service d.config xs)
    ])
    e

asked_none : (d : Done) → makes_call d.event.kind ≡ false → asked_by d [] ≡ []
asked_none d quiet = ap (λ b. elim b as (λ _. List Need) [ true ↦ d.need ∷ [] | false ↦ [] ]) quiet

asked_before : (parts : ProgramParts) (service : ℕ) (from : Config) (xs : List TakenStep) (y : TakenStep) (to : Config)
    → Leads parts service from (xs ++ y ∷ []) to → makes_call y.event.kind ≡ false
    → asked_from parts service from (xs ++ y ∷ []) ≡ asked_from parts service from xs
asked_before parts service from [] y to l quiet =
    asked_first parts service from y [] l.0 l.1
    ∙ asked_none l.0 (ap (λ (e : Event). makes_call e.kind) l.2 ∙ quiet)
asked_before parts service from (x ∷ xs) y to l quiet =
    asked_first parts service from x (xs ++ y ∷ []) l.0 l.1
    ∙ ap (asked_by l.0) (asked_before parts service l.0.config xs y to l.3 quiet)
    ∙ sym (asked_first parts service from x xs l.0 l.1)

asked_at : (parts : ProgramParts) (service : ℕ) (from : Config) (xs : List TakenStep)
    → start_of parts service ≡ Some from
    → asked_of parts service xs ≡ asked_from parts service from xs
asked_at parts service from xs e =
    ap (λ (o : Option Config). elim o as (λ _. List Need) [ None ↦ [] | Some c ↦ asked_from parts service c xs ]) e

-- ---- what it asks

-- an event without a call asks for nothing that may be absent
quiet_given : (w : Setting) (past : Past) (s : ℕ) (g : Given) (e : Event) (n : Need) → Tells g e n
    → makes_call e.kind ≡ false → is_given w past s n ≡ true
quiet_given w past s g e (need.Take ops) t quiet = absurd (false≢true (sym quiet ∙ ap makes_call t.0))
quiet_given w past s g e (need.Answer k) t quiet = absurd (false≢true (sym quiet ∙ ap makes_call t.0))
quiet_given w past s g e n t quiet = refl

-- a session that can act after it could act before
pub could_before : (w : Setting) (h : List Entry) (s : ℕ) (es : List Event) (x : Event) → makes_call x.kind ≡ false
    → CanAct w h s (es ++ x ∷ []) → CanAct w h s es
could_before w h s es x quiet can =
    let service : ℕ = can.agrees.service in
    let cs : List Called = calls_of w h s in
    let y : TakenStep = step_of x given.Nothing in
    let from : Config = can.agrees.run.0 in
    let led : Leads w.parts service from (steps_of es cs ++ y ∷ []) can.last
    = subst (λ (xs : List TakenStep). Leads w.parts service from xs can.last)
    (steps_more x quiet es cs) can.agrees.run.2 in
    let r = leads_before w.parts service from (steps_of es cs) y can.last led in
    let asked : asked_of w.parts service (steps_of (es ++ x ∷ []) cs) ≡ asked_of w.parts service (steps_of es cs)
    = ap (asked_of w.parts service) (steps_more x quiet es cs)
    ∙ asked_at w.parts service from (steps_of es cs ++ y ∷ []) can.agrees.run.1
    ∙ asked_before w.parts service from (steps_of es cs) y can.last led quiet
    ∙ sym (asked_at w.parts service from (steps_of es cs) can.agrees.run.1) in
    record {
      last = r.mid;
      agrees = record {
        service = service;
        born = can.agrees.born;
        run = (from, can.agrees.run.1, r.leads);
        calls = subst (λ (ns : List Need). AreCalls s ns cs) asked can.agrees.calls;
      };
      acts = record {
        live = can.acts.live;
        strand = x.strand;
        gift = given.Nothing;
        done = r.done;
        event = r.event;
        given = quiet_given w (past_of w h) s given.Nothing r.done.event r.done.need
            (is_told w.parts service r.mid x.strand given.Nothing r.done r.event).tells
            (ap (λ (e : Event). makes_call e.kind) r.is ∙ quiet);
      };
    }

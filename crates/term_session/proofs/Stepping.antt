-- What an event makes of a configuration, by what acting in its form came to.
use Rattle.std.proofs.Common.{◌≡◌, ℕ, zero, suc, Bool, true, false, Option, None, Some, option_map, if◌then◌else◌, refl, sym, ap, ◌∙◌, subst}
use Rattle.std.proofs.lemmas.Option.{none-some}
use Rattle.jolie_trees.specs.Data.{Tree}
use Rattle.behaviour_tree.specs.declared.words.Event.{Event}
use Rattle.behaviour_tree.specs.declared.words.Need.{Need}
use Rattle.session_calculus.specs.Terms.{Fault, Term}
use Rattle.session_calculus.specs.Throw.{Carried, up, caught_at, ended_at, blocked, absent, throw}
use Rattle.session_calculus.specs.Moves.{Seen, Move}
use Rattle.session_calculus.specs.Faults.{fault_in}
use Rattle.session_calculus.specs.After.{Config, Done, with_form, raised, raises, moved, moves, acts}
use Rattle.session_faults.specs.declared.decision.Decision.{Decision}
use Rattle.session_faults.specs.declared.decision.Decision.TheVariants.{Up, Caught, Ended, Blocked, Absent}
use Rattle.session_faults.specs.Decisions.{carried_by, decided, decision_view}
use Rattle.term_session.specs.Asks.{asked_in, asked_by_throw, asked_with}
use Rattle.term_session.specs.Steps.{Stepped, stepped, stepped_by}
use Rattle.term_session.specs.Raised.{event_of_fault}
use Rattle.term_session.specs.Walks.{Walked, stuck, faulted, went, walked, acted_in, Looked, idle, failing, asking, looked, looked_in}

-- ---- acting

-- the form, and what is seen, where no event came
abbrev pub form_or : Term → Walked Term → Term
form_or t (stuck u s) = u
form_or t (faulted f u s) = u
form_or t (went m) = t

abbrev pub seen_or : Seen → Walked Term → Seen
seen_or s (stuck u i) = i
seen_or s (faulted f u i) = i
seen_or s (went m) = s

-- what a session does after acting in its form
abbrev pub goes_on : Config → Seen → Walked Term → Option Done
goes_on c s (stuck u i) = None
goes_on c s (faulted f u i) = raises c s.strand s.gift f
goes_on c s (went m) = Some (moved c m)

form_or-walked : (t : Term) (s : Seen) (o : Option Fault) (m : Option (Move Term)) → form_or t (walked t s o m) ≡ t
form_or-walked t s (Some f) m = refl
form_or-walked t s None (Some m) = refl
form_or-walked t s None None = refl

seen_or-walked : (t : Term) (s : Seen) (o : Option Fault) (m : Option (Move Term)) → seen_or s (walked t s o m) ≡ s
seen_or-walked t s (Some f) m = refl
seen_or-walked t s None (Some m) = refl
seen_or-walked t s None None = refl

goes_on-walked : (c : Config) (t : Term) (s : Seen) (o : Option Fault) (m : Option (Move Term))
    → goes_on c s (walked t s o m)
    ≡ elim o [ Some f ↦ raises c s.strand s.gift f | None ↦ option_map (moved c) m ]
goes_on-walked c t s (Some f) m = refl
goes_on-walked c t s None (Some m) = refl
goes_on-walked c t s None None = refl

-- a session acts as its form does
pub goes_on_acted : (c : Config) (s : Seen) → goes_on c s (acted_in s 0 c.form) ≡ acts c s
goes_on_acted c s = goes_on-walked c c.form s (fault_in s 0 c.form) (moves s 0 c.form)

-- where no event came all is as it was
pub form_stays : (s : Seen) (k : ℕ) (t : Term) (w : Walked Term) → w ≡ acted_in s k t → form_or t w ≡ t
form_stays s k t w e = ap (form_or t) e ∙ form_or-walked t s (fault_in s k t) (moves s k t)

pub seen_stays : (s : Seen) (k : ℕ) (t : Term) (w : Walked Term) → w ≡ acted_in s k t → seen_or s w ≡ s
seen_stays s k t w e = ap (seen_or s) e ∙ seen_or-walked t s (fault_in s k t) (moves s k t)

-- ---- a fault

event-decided : (n f : ℕ) (x : Carried Term) → event_of_fault n f (decided x) ≡ event_of_fault n f x
event-decided n f (up t) = refl
event-decided n f (caught_at t q) = refl
event-decided n f (ended_at t q) = refl
event-decided n f (blocked m) = refl
event-decided n f absent = refl

raised-none : (c : Config) (n f : ℕ) (x : Carried Term) → event_of_fault n f x ≡ None
    → stepped c None ≡ stepped_by c (raised c n f x)
raised-none c n f (up t) e = absurd (none-some _ (sym e))
raised-none c n f (caught_at t q) e = absurd (none-some _ (sym e))
raised-none c n f (ended_at t q) e = absurd (none-some _ (sym e))
raised-none c n f (blocked m) e = refl
raised-none c n f absent e = refl

raised-some : (c : Config) (n f : ℕ) (d : Decision) (t : Term) (e : Event) → event_of_fault n f (carried_by d t) ≡ Some e
    → stepped (with_form c t c.next) (Some e) ≡ stepped_by c (raised c n f (carried_by d t))
raised-some c n f Up t e h = ap (stepped (with_form c t c.next)) (sym h)
raised-some c n f (Caught q) t e h = ap (stepped (with_form c t c.next)) (sym h)
raised-some c n f (Ended q) t e h = ap (stepped (with_form c t c.next)) (sym h)
raised-some c n f (Blocked m) t e h = absurd (none-some e h)
raised-some c n f Absent t e h = absurd (none-some e h)

-- a fault that is blocked: all stays
pub stays_blocked : (c : Config) (n f : ℕ) (x : Carried Term) (d : Decision) → decision_view d ≡ decided x
    → None ≡ event_of_fault n f (decision_view d) → stepped c None ≡ stepped_by c (raised c n f x)
stays_blocked c n f x d same none =
    raised-none c n f x (sym (event-decided n f x) ∙ sym (ap (event_of_fault n f) same) ∙ sym none)

-- a fault that was carried to where it is kept
pub comes_to_rest : (c : Config) (n f : ℕ) (x : Carried Term) (d b : Decision) (t : Term) (e : Event) → decision_view d ≡ decided x
    → Some e ≡ event_of_fault n f (decision_view d) → carried_by b t ≡ x
    → stepped (with_form c t c.next) (Some e) ≡ stepped_by c (raised c n f x)
comes_to_rest c n f x d b t e same some left =
    raised-some c n f b t e
    (ap (event_of_fault n f) left ∙ sym (event-decided n f x) ∙ sym (ap (event_of_fault n f) same) ∙ sym some)
    ∙ ap (λ x. stepped_by c (raised c n f x)) left

-- ---- looking

-- what a fault that was carried asks is told by the decision
pub asked-decided : (x : Carried Term) → asked_by_throw (decided x) ≡ asked_by_throw x
asked-decided (up t) = refl
asked-decided (caught_at t q) = refl
asked-decided (ended_at t q) = refl
asked-decided (blocked m) = refl
asked-decided absent = refl

-- what a strand asks, by what looking told
abbrev pub asked_after : Seen → Term → Looked → Option Need → Type 0
asked_after s t idle o = o ≡ None
asked_after s t (asking n) o = o ≡ Some n
asked_after s t (failing f) o = (v : Tree) × (o ≡ asked_by_throw (throw s.strand (record { name = f; value = v }) 0 t))

asked-looked : (s : Seen) (t : Term) (o : Option Fault) → asked_after s t (looked o (asked_in s 0 t)) (asked_with s t o)
asked-looked s t (Some f) = (f.value, refl)
asked-looked s t None = go (asked_in s 0 t)
  where
    go : (n : Option Need) → asked_after s t (looked None n) n
    go None = refl
    go (Some n) = refl

-- what looking told is what the strand asks
pub asked_told : (s : Seen) (t : Term) (l : Looked) → l ≡ looked_in s 0 t → asked_after s t l (asked_with s t (fault_in s 0 t))
asked_told s t l e =
    subst (λ l. asked_after s t l (asked_with s t (fault_in s 0 t))) (sym e) (asked-looked s t (fault_in s 0 t))

-- where it told of a fault, the decision says the rest
pub asked_thrown : (s : Seen) (t : Term) (f : ℕ) (d : Decision) → failing f ≡ looked_in s 0 t
    → ((v : Tree) → decision_view d ≡ decided (throw s.strand (record { name = f; value = v }) 0 t))
    → asked_by_throw (decision_view d) ≡ asked_with s t (fault_in s 0 t)
asked_thrown s t f d e same =
    let told = asked_told s t (failing f) e in
    ap asked_by_throw (same told.0) ∙ asked-decided (throw s.strand (record { name = f; value = told.0 }) 0 t) ∙ sym told.1

-- ---- a step

-- the event, or another
abbrev event_or : Event → Option Event → Event
event_or e None = e
event_or e (Some d) = d

-- an event led to the configuration
pub stepped_some : (c now : Config) (o : Option Done) (e : Event) → stepped now (Some e) ≡ stepped_by c o
    → (d : Done) × (o ≡ Some d) × (e ≡ d.event) × (now ≡ d.config)
stepped_some c now None e h = absurd (none-some e (sym (ap (λ (s : Stepped). s.event) h)))
stepped_some c now (Some d) e h =
    (d, refl, ap (λ (s : Stepped). event_or e s.event) h, ap (λ (s : Stepped). s.config) h)

-- or there was none, and it stayed
pub stepped_none : (c now : Config) (o : Option Done) → stepped now None ≡ stepped_by c o → (o ≡ None) × (now ≡ c)
stepped_none c now None h = (refl, ap (λ (s : Stepped). s.config) h)
stepped_none c now (Some d) h = absurd (none-some d.event (ap (λ (s : Stepped). s.event) h))

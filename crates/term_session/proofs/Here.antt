-- What a turn came to in a form that acts itself.
use Rattle.std.proofs.Common.{◌≡◌, ℕ, Option, None, Some, option_map, refl, sym, ap, ◌∙◌, subst}
use Rattle.std.specs.Prelude.{IfNone}
use Rattle.behaviour_tree.specs.Data.{Proc}
use Rattle.behaviour_tree.specs.View.{handlers_view}
use Rattle.session_calculus.specs.Terms.{Fault, Term, place}
use Rattle.session_calculus.specs.Moves.{Seen, Move}
use Rattle.session_calculus.specs.Answers.{call_of, dead_answers, with_answer}
use Rattle.session_calculus.specs.Faults.{fault_of}
use Rattle.session_calculus.specs.After.{act}
use Rattle.session_events.specs.Came.{Came, came, comes_to, acted_view}
use Rattle.session_events.specs.Came as places
use Rattle.session_events.specs.declared.event.Acted.{Acted}
use Rattle.session_events.specs.declared.event.Acted.TheVariants as acted
use Rattle.session_events.specs.declared.event.Moved.{Moved}
use Rattle.session_values.specs.declared.memory.Memory.{Memory}
use Rattle.session_forms.specs.View.{dead_call_view}
use Rattle.session_forms.specs.declared.call.Call.{Call}
use Rattle.session_forms.specs.declared.installed.Installed.{Installed}
use Rattle.term_session.specs.Turns.{seen_at, moved_at, event_at, came_to}
use Rattle.term_session.specs.Walks.{Walked, stuck, faulted, went, walked, acts_here}
use Rattle.term_session.specs.declared.turn.Turn.{Turn}

-- the event of a call that was killed while it waited
abbrev pub killed_call_event : Seen → Call → Option (Move Term)
killed_call_event s n =
    let c = call_of n.number n.port n.op in with_answer s c (dead_answers s c (handlers_view n.handlers))

-- what acting at a place comes to, with what stands there
abbrev with_form : Term → Came → Walked Term
with_form x (places.stuck s) = stuck x s
with_form x (places.faulted f s) = faulted f x s
with_form x (places.moved m) = went m

with_form-came : (x : Term) (s : Seen) (o : Option Fault) (m : Option (Move Term)) → with_form x (came s o m) ≡ walked x s o m
with_form-came x s (Some f) m = refl
with_form-came x s None (Some m) = refl
with_form-came x s None None = refl

came_to-with_form : (t : Turn) (r : Acted) (x : Term) (h : Installed) (m : Memory)
    → came_to t r x h m ≡ with_form x (acted_view t.actor t.given.now r h m)
came_to-with_form t acted.Stuck x h m = refl
came_to-with_form t (acted.Faulted f) x h m = refl
came_to-with_form t (acted.Moved e) x h m = refl

-- a place
pub place_acts : (t : Turn) (r : Acted) (x : Term) (h : Installed) (m : Memory) (s : Seen) (p : Proc)
    → acted_view t.actor t.given.now r h m ≡ comes_to s p → came_to t r x h m ≡ walked x s (fault_of s p) (act s p)
place_acts t r x h m s p e =
    came_to-with_form t r x h m ∙ ap (with_form x) e ∙ with_form-came x s (fault_of s p) (act s p)

-- what holds in any case
in_any_case : {A : Type 0} (e : Option A) (P : Type 0) → P → IfNone e P
in_any_case None P p = p
in_any_case (Some x) P p = tt

-- another form: where no event came, it stayed, and so did what is seen
pub form_acts : (t : Turn) (e : Option Moved) (x y : Term) (h i : Installed) (m k : Memory) (o : Option (Move Term))
    → option_map (λ e. moved_at e h m) e ≡ o → IfNone e (x ≡ y) → IfNone e (h ≡ i) → IfNone e (m ≡ k)
    → event_at t e x h m ≡ walked y (seen_at t i k) None o
form_acts t None x y h i m k o is same around memory =
    ap (λ u. stuck u (seen_at t h m)) same
    ∙ ap (λ h. stuck y (seen_at t h m)) around
    ∙ ap (λ m. stuck y (seen_at t i m)) memory
    ∙ ap (walked y (seen_at t i k) None) is
form_acts t (Some e) x y h i m k o is same around memory = ap (walked y (seen_at t i k) None) is

-- a call that was killed while it waited
pub killed_call_acts : (t : Turn) (e : Option Moved) (x : Term) (h i : Installed) (k : Memory) (n : Call) → x ≡ dead_call_view n
    → option_map (λ e. moved_at e h k) e ≡ killed_call_event (seen_at t i k) n → IfNone e (h ≡ i)
    → event_at t e x h k ≡ acts_here (seen_at t i k) x
killed_call_acts t e x h i k n is came still =
    subst (λ x. event_at t e x h k ≡ acts_here (seen_at t i k) x) (sym is)
    (form_acts t e (dead_call_view n) (dead_call_view n) h i k k (killed_call_event (seen_at t i k) n) came
    (in_any_case e (dead_call_view n ≡ dead_call_view n) refl) still (in_any_case e (k ≡ k) refl))

-- a form that is a place
pub at_place : (t : Turn) (r : Acted) (x : Term) (h : Installed) (m : Memory) (s : Seen) (p : Proc) → x ≡ place p
    → acted_view t.actor t.given.now r h m ≡ comes_to s p → came_to t r x h m ≡ acts_here s x
at_place t r x h m s p is e =
    place_acts t r x h m s p e ∙ ap (λ x. walked x s (fault_of s p) (act s p)) is ∙ ap (acts_here s) (sym is)

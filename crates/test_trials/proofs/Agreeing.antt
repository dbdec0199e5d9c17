-- That events which agree with a history are found to: so those that are not found to do not agree.
use Rattle.std.proofs.Common.{◌≡◌, ℕ, Bool, true, false, ◌&&◌, List, [], ◌∷◌, refl, sym, ap, subst, ◌∙◌, Option, None, Some, true≢false}
use Rattle.std.specs.Prelude.{nat_eq, option_map, option_and_then}
use Rattle.std.specs.Cmp.Derive.{both_true}
use Rattle.behaviour_tree.specs.declared.words.Event.{Event}
use Rattle.behaviour_tree.specs.declared.words.Kind.{Kind}
use Rattle.behaviour_tree.specs.declared.words.Need.{Need}
use Rattle.behaviour_tree.specs.declared.words.Need.TheVariants as need
use Rattle.behaviour_tree.specs.Data.{ProgramParts}
use Rattle.session_calculus.specs.After.{Config, Done, after}
use Rattle.session_calculus.specs.Runs.{TakenStep, Leads, start_of, RunsTo}
use Rattle.office_core.specs.declared.history.Act.{Act}
use Rattle.office_core.specs.declared.history.Act.TheVariants as act
use Rattle.office_core.specs.declared.history.Entry.{Entry}
use Rattle.office_core.specs.Limits.{Setting}
use Rattle.office_core.specs.Past.{Past}
use Rattle.office_core.specs.Boxes.{queue}
use Rattle.office_core.specs.Keys.{first}
use Rattle.run_record.specs.Steps.{Called, calls_of, steps_of}
use Rattle.run_record.specs.Agrees.{IsCall, AreCalls, IsSession, asked_of}
use Rattle.test_trials.specs.Same.{same_bool, same_root, same_tree, same_outcome}
use Rattle.test_trials.specs.Sessions.{told_from, told_of, kind_number, same_event, same_events, is_told, is_number, is_call, are_calls, agrees_as, agrees}
use Rattle.test_trials.proofs.Counted.{number_itself, bool_itself, root_itself, tree_itself, outcome_itself}
use Rattle.test_trials.proofs.Told.{events_of, of_events}

-- ---- the events

event_itself : (e : Event) → same_event e e ≡ true
event_itself e =
    both_true
    (both_true
    (both_true (both_true (number_itself e.strand) (number_itself (kind_number e.kind))) (number_itself e.number))
    (number_itself e.place))
    (number_itself e.fault)

events_themselves : (es : List Event) → same_events es es ≡ true
events_themselves [] = refl
events_themselves (e ∷ es) = both_true (event_itself e) (events_themselves es)

-- what is told of steps that lead on are their events
told_on : (parts : ProgramParts) (d : ℕ) (from to : Config) (steps : List TakenStep) → Leads parts d from steps to
    → told_from parts d from steps ≡ Some (events_of steps)
told_on parts d from to [] l = refl
told_on parts d from to (s ∷ steps) l =
    ap (λ o. elim o [ None ↦ None | Some k ↦ option_map (λ es. k.event ∷ es) (told_from parts d k.config steps) ]) l.1
    ∙ ap (option_map (λ es. l.0.event ∷ es)) (told_on parts d l.0.config to steps l.3)
    ∙ ap (λ e. Some (e ∷ events_of steps)) l.2

told_in : (parts : ProgramParts) (d : ℕ) (steps : List TakenStep) (last : Config) → RunsTo parts d steps last
    → told_of parts d steps ≡ Some (events_of steps)
told_in parts d steps last run =
    ap (option_and_then (λ c. told_from parts d c steps)) run.1 ∙ told_on parts d run.0 last steps run.2

-- ---- the calls

numbers_agree : (m n : ℕ) → m ≡ n → nat_eq n m ≡ true
numbers_agree m n e = subst (λ k. nat_eq n k ≡ true) (sym e) (number_itself n)

call_found : (s : ℕ) (n : Need) (past : Past) (a : Act) → IsCall s n past a → is_call s n past a ≡ true
call_found s (need.Take ops) past (act.Take n) c = subst (λ o. is_number o n ≡ true) c (number_itself n)
call_found s (need.Bind v x) past (act.Bind u y r) c =
    both_true (numbers_agree u v c.0) (subst (λ z. same_root x z ≡ true) (sym c.1) (root_itself x))
call_found s (need.Reply m o) past (act.Reply n q) c =
    both_true (numbers_agree n m c.0) (subst (λ z. same_outcome o z ≡ true) (sym c.1) (outcome_itself o))
call_found s (need.Send k port op v wants) past (act.Send l q p u wanted r) c =
    both_true
    (both_true
    (both_true (both_true (numbers_agree l k c.0) (numbers_agree q port c.1)) (numbers_agree p op c.2))
    (subst (λ z. same_tree v z ≡ true) (sym c.3) (tree_itself v)))
    (subst (λ z. same_bool wants z ≡ true) (sym c.4) (bool_itself wants))
call_found s (need.Answer k) past (act.Answer l o) c = numbers_agree l k c
call_found s need.Finish past act.End c = refl
call_found s n past a c = absurd c

calls_found : (s : ℕ) (needs : List Need) (calls : List Called) → AreCalls s needs calls → are_calls s needs calls ≡ true
calls_found s [] [] c = refl
calls_found s (n ∷ needs) (k ∷ calls) c = both_true (call_found s n k.before k.act c.0) (calls_found s needs calls c.1)
calls_found s needs calls c = absurd c

-- ---- a session

-- the events of a session that agree with the history are found to
pub session_found : (w : Setting) (h : List Entry) (s : ℕ) (events : List Event) → IsSession w h s events
    → agrees w h s events ≡ true
session_found w h s events is =
    let a = is.1 in
    let calls = calls_of w h s in
    let steps = steps_of events calls in
    ap (λ o. elim o [ None ↦ false | Some d ↦ agrees_as w h s events d ]) a.born
    ∙ both_true
    (ap (λ o. is_told o events)
    (told_in w.parts a.service steps is.0 a.run ∙ ap (λ es. Some es) (of_events events calls))
    ∙ events_themselves events)
    (calls_found s (asked_of w.parts a.service steps) calls a.calls)

-- so those that are not found to do not agree
pub no_session : (w : Setting) (h : List Entry) (s : ℕ) (events : List Event) → agrees w h s events ≡ false
    → IsSession w h s events → ⊥
no_session w h s events e is = true≢false (sym (session_found w h s events is) ∙ e)

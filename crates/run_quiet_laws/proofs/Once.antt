-- Runs go one way: what the events of a session and a history agree on is one configuration.
use Rattle.std.proofs.Common.{◌≡◌, ℕ, List, [], ◌∷◌, Some, sym, ap, subst, ◌∙◌}
use Rattle.behaviour_tree.specs.declared.words.Event.{Event}
use Rattle.behaviour_tree.specs.Data.{ProgramParts}
use Rattle.session_calculus.specs.After.{Config, Done}
use Rattle.session_calculus.specs.Runs.{Leads, RunsTo, TakenStep, start_of}
use Rattle.office_core.specs.declared.history.Entry.{Entry}
use Rattle.office_core.specs.Limits.{Setting}
use Rattle.office_core.specs.Accepted.{past_of}
use Rattle.office_core.specs.Sessions.{service_of}
use Rattle.run_record.specs.Steps.{Called, calls_of, steps_of}
use Rattle.run_record.specs.Agrees.{Agrees, AreCalls, asked_of}
use Rattle.session_turn.specs.Seen.{Seat}
use Rattle.session_turn.specs.Lives.{Kept, Moment}
use Rattle.session_turn.proofs.Agreeing.{agrees}
use Rattle.session_turn.proofs.Walking.{born_here}

pub same_of : {A : Type 0} {x y : A} → Some x ≡ Some y → x ≡ y
same_of e = cc

-- the same steps lead to the same configuration
leads_once : (parts : ProgramParts) (service : ℕ) (from : Config) (xs : List TakenStep) (to to' : Config)
    → Leads parts service from xs to → Leads parts service from xs to' → to ≡ to'
leads_once parts service from [] to to' l m = sym l ∙ m
leads_once parts service from (x ∷ xs) to to' l m =
    let same : l.0 ≡ m.0 = same_of (sym l.1 ∙ m.1) in
    leads_once parts service l.0.config xs to to' l.3
    (subst (λ (d : Done). Leads parts service d.config xs to') (sym same) m.3)

module _ {w : Setting} {h : List Entry} {s : ℕ} {es : List Event} {p q : Config} where
  -- a session is of one service
  pub one_service : (x : Agrees w h s es p) → (y : Agrees w h s es q) → x.service ≡ y.service
  one_service x y = same_of (sym x.born ∙ y.born)

  -- and its events lead to one configuration
  pub one_end : Agrees w h s es p → Agrees w h s es q → p ≡ q
  one_end x y =
      let steps : List TakenStep = steps_of es (calls_of w h s) in
      let service : x.service ≡ y.service = one_service x y in
      let from : x.run.0 ≡ y.run.0 = same_of (sym x.run.1 ∙ ap (start_of w.parts) service ∙ y.run.1) in
      let led : Leads w.parts x.service x.run.0 steps q
      = subst (λ (d : ℕ). Leads w.parts d x.run.0 steps q) (sym service)
      (subst (λ (c : Config). Leads w.parts y.service c steps q) (sym from) y.run.2) in
      leads_once w.parts x.service x.run.0 steps p q x.run.2 led

module _ {a : Seat} {es : List Event} {now : Moment} {last : Config} where
  -- what a kept session's events and the history agree on is where it stands
  pub one_last : Kept a es now → Agrees a.setting now.seen a.session es last → now.config ≡ Some last
  one_last k x =
      let y = agrees k in
      y.1 ∙ ap (λ (c : Config). Some c) (one_end y.2 x)

  -- and it is of the session's service
  pub of_service : (k : Kept a es now) → (x : Agrees a.setting now.seen a.session es last) → x.service ≡ now.service
  of_service k x = same_of (sym x.born ∙ born_here k.lives)

-- ---- histories that have the same of the session

-- the session stays of its service
abbrev pub StaysOf : Setting → ℕ → List Entry → List Entry → Type 0
StaysOf w s h h' = (d : ℕ) → service_of w (past_of w h) s ≡ Some d → service_of w (past_of w h') s ≡ Some d

-- what agrees with a history agrees with one in which the session made the same calls
abbrev pub agrees_with : {w : Setting} {h h' : List Entry} {s : ℕ} {es : List Event} {last : Config}
    → StaysOf w s h h' → calls_of w h s ≡ calls_of w h' s → Agrees w h s es last → Agrees w h' s es last
agrees_with {w} {h} {h'} {s} {es} {last} stays same x = record {
  service = x.service;
  born = stays x.service x.born;
  run = subst (λ (cs : List Called). RunsTo w.parts x.service (steps_of es cs) last) same x.run;
  calls = subst (λ (cs : List Called). AreCalls s (asked_of w.parts x.service (steps_of es cs)) cs) same x.calls;
}

-- The course of a run, posting by posting.
use Rattle.std.proofs.Common.{◌≡◌, ℕ, Bool, true, false, List, [], ◌∷◌, ◌++◌, refl, sym, ap, ◌∙◌, append_assoc}
use Rattle.std.specs.List.{list_all, list_any}
use Rattle.std.proofs.lemmas.Bool.{or_from}
use Rattle.std.proofs.lemmas.List.Folds.{list_any-append}
use Rattle.office_core.specs.declared.front.CallIn.{CallIn}
use Rattle.office_core.specs.declared.history.Entry.{Entry}
use Rattle.office_core.specs.Past.{closes, some_entry, stops}
use Rattle.run_quiet_laws.specs.Ends.{stop_entry}
use Rattle.run_quiet_laws.proofs.Ending.{before_the_stop}
use Rattle.run_record.specs.declared.record.Record.{Record}
use Rattle.run_record.specs.Quiet.{before_stop}
use Rattle.run_sweep.specs.Courses.{Goes, adopts, is_by_worker, round, stays, works}
use Rattle.run_cells.specs.RunStates.{State, Stays, Team, closing, events_of, past_in}
use Rattle.run_cells.specs.Rounds.{Adopted}
use Rattle.run_cells.specs.Turns.{Adoptions, and_next, nobody_yet}
use Rattle.run_posts.specs.CallStates.{Wait, all_collected, posted_entries}
use Rattle.run_posts.proofs.Opening.{all_posts_of}
use Rattle.run_sweep.specs.Swept.{Swept}
use Rattle.session_turn.proofs.Histories.{some_of}
use Rattle.run_alone.specs.Between.{GoesTo, Rested}
use Rattle.run_theorem.specs.Picks.{TookPicks, TookTurns}
use Rattle.run_alone.specs.Ran.{Rules}
use Rattle.run_alone.proofs.Courses.{begins, course_begins, course_on, course_took}
use Rattle.run_alone.proofs.Finishing.{closing_by}
use Rattle.run_alone.proofs.Stepping.{collected_all}
use Rattle.run_alone.proofs.Taking.{runs}

-- one course behind another
pub goes_both : {a b c : State} → Goes a b → Goes b c → Goes a c
goes_both x stays = x
goes_both x (round mid new moved y t b r) = round mid new moved (goes_both x y) t b r
goes_both x (adopts mid new y r) = adopts mid new (goes_both x y) r
goes_both x (works mid new more y r w) = works mid new more (goes_both x y) r w

-- those that were born are adopted
goes_adopted : {a b c : State} → Goes a b → Adoptions b c → Goes a c
goes_adopted x nobody_yet = x
goes_adopted x (and_next mid new y adoption) = adopts mid new (goes_adopted x y) adoption

-- a posting is taken in
pub goes_taken : {s0 s1 s2 s3 : State} (xs : List Wait) (n : ℕ) (cs : List CallIn)
    → Stays s0 s1 (posted_entries s0.setting (past_in s0) (n, 0) cs) → Swept s1 s2
    → Stays s2 s3 (all_collected s2.setting (past_in s2) xs) → Goes s0 s3
goes_taken {s0} {s1} {s2} {s3} xs n cs post sweep collect =
    works s2 s3 (all_collected s2.setting (past_in s2) xs)
    (goes_both
    (works s0 s1 (posted_entries s0.setting (past_in s0) (n, 0) cs) stays post
    (all_posts_of s0.setting (past_in s0) (n, 0) cs is_by_worker (λ i q r. refl)))
    sweep.goes)
    collect (collected_all is_by_worker (λ m o. refl) s2.setting (past_in s2) xs)

-- the state where the end of input was noted
abbrev closed : State → State
closed s = record {
  setting = s.setting;
  budget = s.budget;
  history = s.history ++ closing (past_in s);
  stands = s.stands;
  picks = s.picks;
}

by_closing : (b : Bool) → list_all is_by_worker (closing_by b) ≡ true
by_closing true = refl
by_closing false = refl

none_stops : (b : Bool) → list_any stops (closing_by b) ≡ false
none_stops true = refl
none_stops false = refl

-- the run is ended
pub goes_ended : {s0 s1 s2 s3 s4 : State} {unfailed : Bool} {run : Record} (xs : List Wait) → Rested unfailed s0 s1 → Adopted s1 s2
    → Stays s2 s3 (closing (past_in s2) ++ stop_entry ∷ []) → Stays s3 s4 (all_collected s3.setting (past_in s3) xs)
    → Team s2 → run.history.entries.items ≡ s4.history → run.sessions ≡ events_of s4.stands → GoesTo s0 run
goes_ended {s0} {s1} {s2} {s3} {s4} {run = run} xs rest adopt stop collect team history sessions = record {
  last = closed s2;
  goes = works s2 (closed s2) (closing (past_in s2)) (goes_adopted rest.goes adopt.one_by_one)
      (record { setting = refl; budget = refl; history = refl; stands = refl; picks = refl })
      (by_closing (some_entry (past_in s2) closes));
  history =
      sym (before_the_stop (s2.history ++ closing (past_in s2)) (all_collected s3.setting (past_in s3) xs) stop_entry
      (list_any-append stops s2.history (closing (past_in s2))
      ∙ or_from (list_any stops s2.history) (list_any stops (closing (past_in s2)))
      (sym (some_of s2.setting s2.history stops) ∙ runs s2.setting s2.history team.running)
      (none_stops (some_entry (past_in s2) closes)))
      refl)
      ∙ ap before_stop (sym all);
  sessions = ap events_of (sym (collect.stands ∙ stop.stands)) ∙ sym sessions;
}
  where
    all : run.history.entries.items
        ≡ (s2.history ++ closing (past_in s2)) ++ stop_entry ∷ all_collected s3.setting (past_in s3) xs
    all =
        history ∙ collect.history
        ∙ ap (λ (l : List Entry). l ++ all_collected s3.setting (past_in s3) xs)
        (stop.history ∙ sym (append_assoc s2.history (closing (past_in s2)) (stop_entry ∷ [])))
        ∙ append_assoc (s2.history ++ closing (past_in s2)) (stop_entry ∷ []) (all_collected s3.setting (past_in s3) xs)

-- from the beginning of a run on
pub took_picks : (r : Rules) (picks : List ℕ) {s t : State} {run : Record} → s ≡ begins r picks → Goes s t → GoesTo t run
    → TookPicks r picks run
took_picks r picks {s} {t} e goes g =
    coe 0 1 (i. TookTurns r picks (g.history i) (g.sessions i))
    (course_took (course_on (course_begins r picks) (coe 0 1 (i. Goes (e i) g.last) (goes_both goes g.goes))))

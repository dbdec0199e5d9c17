-- The trips of a run are those of its calls that went out: what is not a sweep makes none.
use Rattle.std.proofs.Common.{◌≡◌, ℕ, Bool, true, false, List, [], ◌∷◌, ◌++◌, Option, refl, sym, subst, ◌∙◌, if◌then◌else◌}
use Rattle.outside_links.specs.Trips.{LinkTold}
use Rattle.std.specs.List.{list_all}
use Rattle.std.proofs.lemmas.Bool.{false≢true}
use Rattle.office_core.specs.declared.front.CallIn.{CallIn}
use Rattle.office_core.specs.declared.history.Act.{Act}
use Rattle.office_core.specs.declared.history.Act.TheVariants as act
use Rattle.office_core.specs.declared.history.Entry.{Entry}
use Rattle.office_core.specs.Limits.{Setting, first_worker}
use Rattle.office_core.specs.Legal.{IsLegal}
use Rattle.office_core.specs.Past.{closes, some_entry}
use Rattle.run_quiet_laws.specs.Ends.{is_adoption, stop_entry}
use Rattle.run_cells.specs.RunStates.{State, Stays, closing, past_in}
use Rattle.run_cells.specs.Rounds.{Adopted}
use Rattle.run_posts.specs.CallStates.{Wait, all_collected, posted_entries}
use Rattle.run_posts.proofs.Opening.{all_posts_of}
use Rattle.run_sweep.specs.Swept.{Swept, CompletedCallsBy}
use Rattle.run_trip_laws.specs.Going.{Completed, is_inward}
use Rattle.run_theorem.specs.Trips.{Travelled}
use Rattle.run_trip_laws.proofs.Settling.{over_all}
use Rattle.run_trip_laws.proofs.Completing.{completed_first, completed_on, travelled}
use Rattle.run_alone.specs.Between.{Rested}
use Rattle.run_alone.proofs.Stepping.{all_append, all_weaker}
use Rattle.run_alone.proofs.Stepping.{collected_all}

-- entries came that fetch no call and bring no outcome
completed_all : (s t : State) (more : List Entry) → t.setting ≡ s.setting → t.history ≡ s.history ++ more
    → list_all is_inward more ≡ true → IsLegal t.setting t.history → (now : LinkTold)
    → CompletedCallsBy s.setting s.history t.history now now
completed_all s t more setting history inward legal now first completed =
    subst (λ (h : List Entry). Completed s.setting h first now) (sym history)
    (over_all s.setting is_inward (λ g. Completed s.setting g first now) (completed_on s.setting first now) s.history more inward
    (coe 0 1 (i. IsLegal (setting i) (history i)) legal) completed)

-- under the same setting
completed_calls_under : {v w : Setting} → v ≡ w → (g h : List Entry) (before now : LinkTold) → CompletedCallsBy v g h before now
    → CompletedCallsBy w g h before now
completed_calls_under e g h before now t = coe 0 1 (i. CompletedCallsBy (e i) g h before now) t

-- a posting is taken in
pub completed_taken : {s0 s1 s2 s3 : State} (xs : List Wait) (n : ℕ) (cs : List CallIn) {before now : LinkTold}
    → Stays s0 s1 (posted_entries s0.setting (past_in s0) (n, 0) cs) → Swept s1 s2
    → Stays s2 s3 (all_collected s2.setting (past_in s2) xs) → IsLegal s1.setting s1.history
    → IsLegal s3.setting s3.history → CompletedCallsBy s1.setting s1.history s2.history before now
    → CompletedCallsBy s0.setting s0.history s3.history before now
completed_taken {s0} {s1} {s2} {s3} xs n cs {before} {now} post sweep collect legal_1 legal_3 mid first completed =
    completed_calls_under (sweep.setting ∙ post.setting) s2.history s3.history now now
    (completed_all s2 s3 (all_collected s2.setting (past_in s2) xs) collect.setting collect.history
    (collected_all is_inward (λ m o. refl) s2.setting (past_in s2) xs) legal_3 now)
    first
    (completed_calls_under post.setting s1.history s2.history before now mid first
    (completed_all s0 s1 (posted_entries s0.setting (past_in s0) (n, 0) cs) post.setting post.history
    (all_posts_of s0.setting (past_in s0) (n, 0) cs is_inward (λ i q r. refl)) legal_1 before first completed))

inward_adoptions : (es : List Entry) → list_all is_adoption es ≡ true → list_all is_inward es ≡ true
inward_adoptions es only = all_weaker is_adoption is_inward (λ e g. inward e.actor e.act g) es only
  where
    inward : (n : ℕ) (a : Act) → is_adoption (record { actor = n; act = a }) ≡ true
        → is_inward (record { actor = n; act = a }) ≡ true
    inward n (act.Adopt d) h = refl
    inward n a h = absurd (false≢true h)

inward_closing : (b : Bool) → list_all is_inward (if b then [] else record { actor = first_worker; act = act.Close } ∷ []) ≡ true
inward_closing true = refl
inward_closing false = refl

-- what comes at the end
pub completed_ended : {s0 s1 s2 s3 s4 : State} {unfailed : Bool} (xs : List Wait) {before now : LinkTold}
    → Rested unfailed s0 s1 → Adopted s1 s2 → Stays s2 s3 (closing (past_in s2) ++ stop_entry ∷ [])
    → Stays s3 s4 (all_collected s3.setting (past_in s3) xs) → IsLegal s2.setting s2.history
    → IsLegal s3.setting s3.history → IsLegal s4.setting s4.history → CompletedCallsBy s0.setting s0.history s1.history before now
    → CompletedCallsBy s0.setting s0.history s4.history before now
completed_ended {s0} {s1} {s2} {s3} {s4} xs {before} {now} rest adopt stop collect legal_2 legal_3 legal_4 mid first completed =
    completed_calls_under (stop.setting ∙ adopt.setting ∙ rest.setting) s3.history s4.history now now
    (completed_all s3 s4 (all_collected s3.setting (past_in s3) xs) collect.setting collect.history
    (collected_all is_inward (λ m o. refl) s3.setting (past_in s3) xs) legal_4 now)
    first
    (completed_calls_under (adopt.setting ∙ rest.setting) s2.history s3.history now now
    (completed_all s2 s3 (closing (past_in s2) ++ stop_entry ∷ []) stop.setting stop.history
    (all_append is_inward (closing (past_in s2)) (stop_entry ∷ []) (inward_closing (some_entry (past_in s2) closes)) refl)
    legal_3 now)
    first
    (completed_calls_under rest.setting s1.history s2.history now now
    (completed_all s1 s2 adopt.adoptions.adoptions adopt.setting adopt.adoptions.is
    (inward_adoptions adopt.adoptions.adoptions adopt.adoptions.only) legal_2 now)
    first (mid first completed)))

-- of the same history
pub completed_calls_into : {w : Setting} {g h k : List Entry} {before now : LinkTold} → k ≡ h → CompletedCallsBy w g h before now
    → CompletedCallsBy w g k before now
completed_calls_into {w} {g} {before = before} {now = now} e t = coe 1 0 (i. CompletedCallsBy w g (e i) before now) t

-- nothing came
pub completed_still : (s : State) (now : LinkTold) → CompletedCallsBy s.setting s.history s.history now now
completed_still s now first completed = completed

-- one after the other, under one setting
pub completed_both : {v w : Setting} {g h k : List Entry} {before mid now : LinkTold} → v ≡ w
    → CompletedCallsBy w g h before mid → CompletedCallsBy v h k mid now → CompletedCallsBy w g k before now
completed_both {h = h} {k = k} {mid = mid} {now = now} e one two first completed =
    completed_calls_under e h k mid now two first (one first completed)

-- from nothing on
pub travelled_all : {w : Setting} {g h k : List Entry} {before mid now : LinkTold} → g ≡ []
    → CompletedCallsBy w g h before mid → CompletedCallsBy w h k mid now → Travelled w k before now
travelled_all {w} {g} {k = k} {before = before} {now = now} none one two =
    travelled w k before now
    (two before (one before (subst (λ (l : List Entry). Completed w l before before) (sym none) (completed_first w before))))

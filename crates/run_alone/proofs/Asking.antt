-- What a front has when it is asked for a posting, and how the run stands then.
use Rattle.std.proofs.Common.{◌≡◌, ◌-◌, ℕ, suc, true, false, List, [], ◌∷◌, ◌++◌, length, take, Some, inl, sym, ap, subst, ◌∙◌, ⊎_elim}
use Rattle.std.specs.Prelude.{slice_get}
use Rattle.std.specs.List.{list_all}
use Rattle.behaviour_tree.specs.Data.{ProgramParts}
use Rattle.office_core.specs.declared.front.Posting.{Posting}
use Rattle.office_core.specs.Accepted.{past_of}
use Rattle.run_theorem.specs.declared.front.Next.TheVariants as next
use Rattle.run_theorem.specs.Calls.{Asks, GivesNone}
use Rattle.run_theorem.specs.Exchange.{Received, Exchange, Sent}
use Rattle.run_order_laws.specs.Entries.{posts_under}
use Rattle.run_record.specs.Quiet.{begins_posting}
use Rattle.run_cells.specs.RunStates.{State}
use Rattle.run_posts.specs.CallStates.{Wait}
use Rattle.run_posts.specs.Open.{IsOpen, StandsInOrder}
use Rattle.run_trip_laws.specs.Going.{NotedSoFar}
use Rattle.run_alone.specs.Between.{Brings, Passed, SentMore}
use Rattle.run_alone.specs.Overs.{IsOver}
use Rattle.run_alone.specs.Ran.{AllCollected}
use Rattle.run_theorem.specs.Lines.{noted_before, IsPrefix}
use Rattle.run_alone.proofs.Collecting.{none_begins}
use Rattle.run_alone.proofs.Earlier.{one_count_more, one_of_more, told_as, told_next}
use Rattle.run_alone.proofs.Noting.{front_all, front_longer}

module _ {s : State} {xs : List Wait} {n : ℕ} {before now : Exchange} (b : Passed s xs n before) where
  -- how many were told when each posting was asked for, with the next
  seens_next : {parts : ProgramParts} {p : Posting} → Asks parts (next.Posting p) before now
      → now.received.seens ≡ before.received.seens ++ length before.sent.told ∷ []
  seens_next asks = asks.came.seens ∙ ap (λ (k : ℕ). before.received.seens ++ k ∷ []) asks.seen

  -- a posting
  pub brings_next : {parts : ProgramParts} {p : Posting} → before.sent.halted ≡ false → Asks parts (next.Posting p) before now
      → Brings s xs n p now
  brings_next running asks = record {
    all = before.received.given;
    given = asks.came.given;
    opens = subst (λ (x : Sent). IsOpen s.setting s.history before.received.given x.told xs) (sym asks.silent) b.opens;
    order = subst (λ (x : Sent). StandsInOrder s.setting s.history n x.told xs) (sym asks.silent) b.order;
    count = b.count;
    asked = ap (λ (ks : List ℕ). length ks) (seens_next asks)
        ∙ one_count_more before.received.seens (length before.sent.told) n b.asked;
    earlier = told_as s n before now (before.received.seens ++ length before.sent.told ∷ []) asks.silent (seens_next asks)
        (told_next s n xs before.sent.told b.order before.received.seens b.asked b.earlier);
    collected = subst (λ (x : Sent). AllCollected (past_of s.setting s.history) x.told) (sym asks.silent) b.collected;
    collected_before = λ j front later e p begins k at.
        ⊎_elim
        (λ (old : slice_get before.received.seens j ≡ Some k).
        subst (λ (x : Sent). AllCollected (past_of s.setting front) (take k x.told)) (sym asks.silent)
        (b.collected_before j front later e p begins k old))
        (λ (new : (j ≡ length before.received.seens) × (k ≡ length before.sent.told)).
        absurd (none_begins n s.history front later e
        (subst (λ (m : ℕ). list_all (posts_under m) s.history ≡ true) b.count b.opens.posted.under) p
        (subst (λ (m : ℕ). begins_posting m front e ≡ true) (new.0 ∙ b.asked) begins)))
        (one_of_more before.received.seens (length before.sent.told) j k
        (ap (λ (ks : List ℕ). slice_get ks j) (sym (seens_next asks)) ∙ at));
    noted = subst (λ (x : Sent). NotedSoFar s.setting s.history x.noted) (sym asks.silent) b.noted;
    noted_now = asks.noted ∙ ap (λ (x : Sent). x.noted) (sym asks.silent);
    mutes = subst (λ (x : Sent). x.notes_failed ≡ x.halted) (sym asks.silent) (b.mutes running ∙ sym running);
  }

  none_given : GivesNone before.received now.received → now.sent ≡ before.sent → now.received.noted ≡ before.sent.noted
      → Passed s xs n now
  none_given none sent noted = record {
    opens = coe 1 0 (i. IsOpen s.setting s.history (none.given i) (sent i).told xs) b.opens;
    order = subst (λ (x : Sent). StandsInOrder s.setting s.history n x.told xs) (sym sent) b.order;
    count = ap (λ (ps : List Posting). length ps) none.given ∙ b.count;
    asked = ap (λ (ks : List ℕ). length ks) none.seens ∙ b.asked;
    earlier = told_as s n before now before.received.seens sent none.seens b.earlier;
    collected = subst (λ (x : Sent). AllCollected (past_of s.setting s.history) x.told) (sym sent) b.collected;
    collected_before = λ j front later e p begins k at.
        subst (λ (x : Sent). AllCollected (past_of s.setting front) (take k x.told)) (sym sent)
        (b.collected_before j front later e p begins k
        (ap (λ (ks : List ℕ). slice_get ks j) (sym none.seens) ∙ at));
    noted = subst (λ (x : Sent). NotedSoFar s.setting s.history x.noted) (sym sent) b.noted;
    noted_then = front_longer (noted_before s.setting s.history (n - 1)) before.received.noted now.received.noted b.noted_then
        (subst (IsPrefix before.received.noted) (sym noted) b.noted_since);
    noted_since = front_all now.received.noted now.sent.noted (noted ∙ ap (λ (x : Sent). x.noted) (sym sent));
    some = λ e. b.some (ap (λ (x : Sent). x.halted) (sym sent) ∙ e);
    mutes = λ e. ap (λ (x : Sent). x.notes_failed) sent ∙ b.mutes (ap (λ (x : Sent). x.halted) (sym sent) ∙ e);
  }

  -- none yet
  pub waits_next : {parts : ProgramParts} → Asks parts next.NotYet before now
      → Passed s xs n now × (now.received.waits ≡ suc before.received.waits) × (now.received.ended ≡ false)
  waits_next asks = (none_given asks.came.none asks.silent asks.noted, asks.came.waits, asks.came.ended)

  -- none yet, while something moved
  pub moves_next : {parts : ProgramParts} → Asks parts next.Moved before now
      → Passed s xs n now × (now.received.waits ≡ 0) × (now.received.ended ≡ false)
  moves_next asks = (none_given asks.came.none asks.silent asks.noted, asks.came.waits, asks.came.ended)

  -- none any more
  pub ends_next : {parts : ProgramParts} → Asks parts next.End before now → Passed s xs n now × IsOver now
  ends_next asks = (none_given asks.came.none asks.silent asks.noted, inl asks.came.ended)

-- a posting that was taken in was the last look
pub taken_looks : {before now : Exchange} → SentMore before now → before.received.waits ≡ 0
    → before.received.ended ≡ false → (now.received.waits ≡ 0) × (now.received.ended ≡ false)
taken_looks more waits ended = (
  ap (λ (b : Received). b.waits) more.received ∙ waits,
  ap (λ (b : Received). b.ended) more.received ∙ ended,
)

-- What a turn comes to, and the calls of its wire.
use Rattle.std.proofs.Common.{◌≡◌, ◌≢◌, ◌≤◌, ◌<◌, ◌^◌, ◌⊎◌, inl, inr, ℕ, Bool, true, false, if◌then◌else◌, nat_lt, List, [], ◌∷◌, ◌++◌, length, take, sym, refl, ap, ◌∙◌, subst, arith}
use Rattle.std.specs.Prelude.{Option, Result, Ok, Err, IfOk}
use Rattle.std.proofs.lemmas.Bool.{ltb-true, ltb-false}
use Rattle.std.proofs.lemmas.List.{length-take-le}
use Rattle.outside_traits.specs.Told.{Lists, WireTold}
use Rattle.outside_traits.specs.declared.calls.WireCall.{WireCall}
use Rattle.outside_traits.specs.declared.calls.WireCall.TheVariants.{Wrote}
use Rattle.outside_polling.specs.Polls.{PollTold, greater, once_more, waited}
use Rattle.http_connection.specs.Talking.{log_of}
use Rattle.http_connection.specs.Prompt.{OnlyWrites}
use Rattle.http_connection.specs.Steps.{Called}
use Rattle.http_connection.proofs.Calls.{called_nothing, called_on, is_prompt}
use Rattle.conn_future.specs.declared.kept.Kept.{Kept}
use Rattle.conn_future.specs.declared.stage.Stage.{Stage}
use Rattle.conn_future.specs.declared.stage.Stage.TheVariants as Stages
use Rattle.conn_future.specs.declared.stage.Ending.{Ending}
use Rattle.conn_future.specs.declared.stage.Ending.TheVariants as Ends
use Rattle.conn_future.specs.declared.stage.Standing.{Standing}
use Rattle.conn_future.specs.declared.stage.Standing.TheVariants as Stands
use Rattle.conn_future.specs.declared.turn.Turn.{Turn}
use Rattle.conn_future.specs.declared.turn.Turn.TheVariants as Turns
use Rattle.conn_future.specs.Stages.{IsMoving, IsUnanswered, IsAnswering, IsOver, IsAtRest, stage_behind, stage_of}
use Rattle.conn_future.specs.Talking.{Seen, plain, IsTalking, TalksOn, StaysPrompt}
use Rattle.conn_future.specs.Steps.{unmade, left_to_do, passed_on, CallsOn, HoldsLongest, IsSame, KeepsRow, LeavesLess, SameRows, Stops}

-- ---- waits

-- what a turn came to by the waits before what it did
pub stops_since : {E : Type 0} (result : Result Turn E) (before mid now : ℕ) (stage : Stage) → mid ≡ before → IfOk result (λ turn. Stops turn mid now stage)
    → IfOk result (λ turn. Stops turn before now stage)
stops_since result before mid now stage e h = subst (λ n. IfOk result (λ turn. Stops turn n now stage)) e h

over_stage : (ending : Ending) → IsOver (stage_behind ending)
over_stage Ends.Ended = inl refl
over_stage Ends.Closed = inr (inl refl)
over_stage Ends.ReadFailed = inr (inr (inl refl))
over_stage Ends.WriteFailed = inr (inr (inr refl))

-- a turn ended the connection
pub over_stops : (turn : Turn) (before now : ℕ) (next : Standing) (ending : Ending) → turn ≡ Turns.Over → now ≡ before → next ≡ Stands.Over ending
    → Stops turn before now (stage_of next)
over_stops turn before now next ending e waits stands =
    subst (λ t. Stops t before now (stage_of next)) (sym e) (waits, subst (λ n. IsOver (stage_of n)) (sym stands) (over_stage ending))

-- ---- turns that go on

-- a turn that made a response
pub made_less : (was now : Kept) → IsSame was now → unmade was.next ≡ 1 → unmade now.next ≡ 0 → left_to_do now < left_to_do was
made_less was now s before after = let r = ap length s.read in let w = ap length s.written in omega (arith, r, w, before, after)

-- a turn that read something, as memory has an end
pub read_less : (was now : Kept) → length was.read.items < length now.read.items → length now.read.items ≤ 2 ^ 63 → now.written.items ≡ was.written.items
    → unmade now.next ≡ 0 → left_to_do now < left_to_do was
read_less was now longer small same after = let w = ap length same in omega (arith, longer, small, w, after)

-- a turn that wrote something
pub write_less : (was now : Kept) → length was.written.items < length now.written.items → length now.written.items ≤ 2 ^ 63 → now.read.items ≡ was.read.items
    → unmade now.next ≡ 0 → left_to_do now < left_to_do was
write_less was now longer small same after = let r = ap length same in omega (arith, longer, small, r, after)

any_turn_less : (turn : Turn) (was now : Kept) → left_to_do now < left_to_do was → LeavesLess turn was now
any_turn_less Turns.GoesOn was now h = h
any_turn_less Turns.Waits was now h = tt
any_turn_less Turns.Owes was now h = tt
any_turn_less Turns.Over was now h = tt

-- less is left to do, whatever the turn came to
pub any_less : {E : Type 0} (result : Result Turn E) (was now : Kept) → left_to_do now < left_to_do was → IfOk result (λ turn. LeavesLess turn was now)
any_less (Ok turn) was now h = any_turn_less turn was now h
any_less (Err e) was now h = tt

-- a turn that does not go on
pub over_less : (turn : Turn) (was now : Kept) → turn ≡ Turns.Over → LeavesLess turn was now
over_less turn was now e = subst (λ t. LeavesLess t was now) (sym e) tt

-- ---- rows of answers

-- a turn moved something
any_turn_row : (turn : Turn) (before row : ℕ) (was now : Kept) → turn ≢ Turns.Waits → passed_on was < passed_on now → KeepsRow turn before row was now
any_turn_row Turns.GoesOn before row was now n h = inr h
any_turn_row Turns.Waits before row was now n h = absurd (n refl)
any_turn_row Turns.Owes before row was now n h = tt
any_turn_row Turns.Over before row was now n h = tt

pub any_row : {E : Type 0} (result : Result Turn E) (before row : ℕ) (was now : Kept) → IfOk result (λ turn. turn ≢ Turns.Waits)
    → passed_on was < passed_on now → IfOk result (λ turn. KeepsRow turn before row was now)
any_row (Ok turn) before row was now n h = any_turn_row turn before row was now n h
any_row (Err e) before row was now n h = tt

-- a turn that does not go on
pub over_row : (turn : Turn) (before row : ℕ) (was now : Kept) → turn ≡ Turns.Over → KeepsRow turn before row was now
over_row turn before row was now e = subst (λ t. KeepsRow t before row was now) (sym e) tt

-- what was read and written is as it was
pub same_passed : (was now : Kept) → IsSame was now → passed_on now ≡ passed_on was
same_passed was now s = let r = ap length s.read in let w = ap length s.written in omega (arith, r, w)

-- turns in a row that go on
pub row_on : (first before row : ℕ) (was mid now : Kept) → ((before ≡ first) × (passed_on mid ≡ passed_on was)) ⊎ (passed_on was < passed_on mid)
    → KeepsRow Turns.GoesOn before row mid now → ((row ≡ first) × (passed_on now ≡ passed_on was)) ⊎ (passed_on was < passed_on now)
row_on first before row was mid now (inl still) (inl same) = inl (same.0 ∙ still.0, same.1 ∙ still.1)
row_on first before row was mid now (inl still) (inr more) = inr (omega (arith, still.1, more))
row_on first before row was mid now (inr moved) (inl same) = inr (omega (arith, moved, same.1))
row_on first before row was mid now (inr moved) (inr more) = inr (omega (arith, moved, more))

-- and one that waits, where no byte passed in all
pub row_once : (first before row : ℕ) (was mid now : Kept) → ((before ≡ first) × (passed_on mid ≡ passed_on was)) ⊎ (passed_on was < passed_on mid)
    → KeepsRow Turns.Waits before row mid now → length now.read.items ≡ length was.read.items → length now.written.items ≡ length was.written.items
    → row ≡ once_more first
row_once first before row was mid now (inl still) once read written = once.0 ∙ ap once_more still.0
row_once first before row was mid now (inr moved) once read written = absurd (omega (arith, moved, once.1, read, written))

-- a wire whose row ended
pub row_ended : (from to : Stage) (before now : PollTold) → now.in_a_row ≡ 0 → now.longest ≡ before.longest → HoldsLongest from to before now
row_ended from to before now none same = record { later = omega (arith, same); holds = λ h a. omega (arith, none) }

-- and whose rows are as they were then
pub row_ended_on : (from to : Stage) (before mid now : PollTold) → mid.in_a_row ≡ 0 → mid.longest ≡ before.longest → SameRows mid now → HoldsLongest from to before now
row_ended_on from to before mid now none same s = row_ended from to before now (s.row ∙ none) (s.longest ∙ same)

greater_first : (a b : ℕ) → a ≤ greater a b
greater_first a b = by_test (nat_lt a b) refl
  where
    by_test : (t : Bool) → nat_lt a b ≡ t → a ≤ (if t then b else a)
    by_test true e = let l = ltb-true a b e in omega (arith, l)
    by_test false e = omega arith

greater_second : (a b : ℕ) → b ≤ greater a b
greater_second a b = by_test (nat_lt a b) refl
  where
    by_test : (t : Bool) → nat_lt a b ≡ t → b ≤ (if t then b else a)
    by_test true e = omega arith
    by_test false e = ltb-false a b e

-- a wire that could take nothing
pub row_writes : (from to : Stage) (before now : PollTold) → now ≡ waited before now.longest → now.longest ≡ greater before.longest (once_more before.in_a_row)
    → HoldsLongest from to before now
row_writes from to before now e longest = record {
  later = subst (λ n. before.longest ≤ n) (sym longest) (greater_first before.longest (once_more before.in_a_row));
  holds = λ h a. subst (λ n. n ≤ now.longest) (sym (ap (λ (t : PollTold). t.in_a_row) e))
      (subst (λ n. once_more before.in_a_row ≤ n) (sym longest) (greater_second before.longest (once_more before.in_a_row)));
}

reads_unanswering : IsAnswering Stages.Reads → ⊥
reads_unanswering (inl (inl e)) = cc
reads_unanswering (inl (inr e)) = cc
reads_unanswering (inr e) = cc

spent_unanswering : IsAnswering Stages.Spent → ⊥
spent_unanswering (inl (inl e)) = cc
spent_unanswering (inl (inr e)) = cc
spent_unanswering (inr e) = cc

-- one that could give nothing, which is to be read next
pub row_reads : (from to : Stage) (before now : PollTold) → now.longest ≡ before.longest → to ≡ Stages.Reads → HoldsLongest from to before now
row_reads from to before now same e =
    record { later = omega (arith, same); holds = λ h a. absurd (reads_unanswering (subst IsAnswering e a)) }

-- one that is spent
pub row_spent : (from to : Stage) (before now : PollTold) → now.longest ≡ before.longest → to ≡ Stages.Spent → HoldsLongest from to before now
row_spent from to before now same e =
    record { later = omega (arith, same); holds = λ h a. absurd (spent_unanswering (subst IsAnswering e a)) }

-- a wire whose rows are as they were, and calls in a row
pub rows_kept : (from to : Stage) (before now : PollTold) → SameRows before now → (IsAnswering to → IsAnswering from) → HoldsLongest from to before now
rows_kept from to before now s back = let r = s.row in let l = s.longest in
    record { later = omega (arith, l); holds = λ h a. let within = h (back a) in omega (arith, r, l, within) }

pub holds_on : (s t u : Stage) (first before now : PollTold) → HoldsLongest s t first before → HoldsLongest t u before now → HoldsLongest s u first now
holds_on s t u first before now a b =
    let x = a.later in let y = b.later in record { later = omega (arith, x, y); holds = λ h. b.holds (a.holds h) }

-- ---- answers

-- no answer is owed then
pub unowed : (next : Standing) → unmade next ≡ 0 → stage_of next ≡ Stages.Owes → ⊥
unowed Stands.Waits e o = cc
unowed (Stands.Holds body close) e o = cc
unowed (Stands.Owes close) e o = omega (arith, e)
unowed (Stands.Says close) e o = omega (arith, e)
unowed (Stands.Sends close) e o = cc
unowed (Stands.Over Ends.Ended) e o = cc
unowed (Stands.Over Ends.Closed) e o = cc
unowed (Stands.Over Ends.ReadFailed) e o = cc
unowed (Stands.Over Ends.WriteFailed) e o = cc
unowed Stands.Spent e o = cc

-- ---- rest

reads_unrested : IsAtRest Stages.Reads → ⊥
reads_unrested (inl (inl e)) = cc
reads_unrested (inl (inr e)) = cc
reads_unrested (inr (inl e)) = cc
reads_unrested (inr (inr (inl e))) = cc
reads_unrested (inr (inr (inr (inl e)))) = cc
reads_unrested (inr (inr (inr (inr e)))) = cc

writes_unrested : IsAtRest Stages.Writes → ⊥
writes_unrested (inl (inl e)) = cc
writes_unrested (inl (inr e)) = cc
writes_unrested (inr (inl e)) = cc
writes_unrested (inr (inr (inl e))) = cc
writes_unrested (inr (inr (inr (inl e)))) = cc
writes_unrested (inr (inr (inr (inr e)))) = cc

-- one that reads or writes next is not at rest
pub unrested : (stage : Stage) → IsMoving stage → IsAtRest stage → ⊥
unrested stage (inl e) r = reads_unrested (subst IsAtRest e r)
unrested stage (inr e) r = writes_unrested (subst IsAtRest e r)

-- one that is spent neither reads nor writes
pub spent_unmoving : IsMoving Stages.Spent → ⊥
spent_unmoving (inl e) = cc
spent_unmoving (inr e) = cc

-- one that was at rest stays as it was
pub rests_on : {W : Type 0} (was mid now : Kept) (w x y : W) → (IsAtRest (stage_of was.next) → (mid ≡ was) × (x ≡ w))
    → (IsAtRest (stage_of mid.next) → (now ≡ mid) × (y ≡ x)) → IsAtRest (stage_of was.next) → (now ≡ was) × (y ≡ w)
rests_on was mid now w x y first onward r =
    let same = first r in
    let stays = onward (subst (λ (k : Kept). IsAtRest (stage_of k.next)) (sym same.0) r) in
    (stays.0 ∙ same.0, stays.1 ∙ same.1)

-- ---- calls of the wire

-- it was written to once
pub one_write : (a b : Option (List WireCall)) (was is piece : List ℕ) (n : ℕ) → Lists a b (Wrote n ∷ []) → n ≡ length piece → is ≡ was ++ piece → OnlyWrites a b was is
one_write a b was is piece n noted count grows = record {
  went = piece;
  grows = grows;
  calls = Wrote n ∷ [];
  noted = noted;
  writes = tt;
  count = omega arith;
}

-- so much was taken
pub taken_count : (n : ℕ) (text left : List ℕ) → n ≤ length text → text ≡ left → n ≡ length (take n left)
taken_count n text left within e = sym (length-take-le n left (subst (λ l. n ≤ length l) e within))

-- nothing was called, and nothing passed
pub nothing_called : (was now : Seen) (bodies : List (List ℕ)) (texts : List (Option (List ℕ))) → IsSame was.kept now.kept → now.line.calls ≡ was.line.calls
    → Called was.line.calls now.line.calls (log_of (plain was) bodies texts) (log_of (plain now) bodies texts)
nothing_called was now bodies texts s e =
    called_nothing was.line.calls now.line.calls (log_of (plain was) bodies texts) (log_of (plain now) bodies texts) e s.read s.written

-- calls behind one another, in which no body was handed out and no text told
pub calls_on : (was mid now : Seen) → TalksOn was mid → CallsOn was mid → CallsOn mid now → CallsOn was now
calls_on was mid now talks called onward = λ first bodies texts h.
    called_on was.line.calls mid.line.calls now.line.calls (log_of (plain was) bodies texts) (log_of (plain mid) bodies texts) (log_of (plain now) bodies texts) refl refl
    (called first bodies texts h) (onward first bodies texts (talks first bodies texts h))

pub prompt_on : (was mid now : Seen) → TalksOn was mid → CallsOn was mid → CallsOn mid now → StaysPrompt was now
prompt_on was mid now talks called onward = λ first bodies texts h.
    is_prompt was.line.calls now.line.calls (log_of (plain was) bodies texts) (log_of (plain now) bodies texts)
    (calls_on was mid now talks called onward first bodies texts h)

-- ---- polls

-- why a poll is pending
pub why_pending : (before now : ℕ) (stage : Stage) → ((now ≡ once_more before) × IsMoving stage) ⊎ ((now ≡ before) × IsUnanswered stage)
    → (now ≡ once_more before) ⊎ IsUnanswered stage
why_pending before now stage (inl waited) = inl waited.0
why_pending before now stage (inr asked) = inr asked.1

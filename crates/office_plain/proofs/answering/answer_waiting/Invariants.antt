use Rattle.std.proofs.Common.{◌≡◌, ◌≢◌, ℕ, length}
use Rattle.post_box.specs.View.{box_of}
use Rattle.reqresp_book.specs.View.{standing_of, HaveSameOrigins}
use Rattle.office_plain.specs.Endings.{ended_at}
use Rattle.office_plain.proofs.answering.answer_waiting.Given as goal

abbrev pub invariant-loop-message : goal.invariant-loop-message
invariant-loop-message l = record {
  others : (s : ℕ) → s ≢ l.session → box_of l.boxes s ≡ box_of l.initial.boxes s;
  origins : HaveSameOrigins l.initial.book l.book;
  standings : (n : ℕ) → ended_at n (box_of l.boxes l.session) (standing_of l.book n)
      ≡ ended_at n (box_of l.initial.boxes l.session) (standing_of l.initial.book n);
}

abbrev pub decreases-loop-message : goal.decreases-loop-message
decreases-loop-message l = length (box_of l.boxes l.session)

use Rattle.std.proofs.Common.{◌≡◌, ℕ}
use Rattle.reqresp_book.specs.View.{standing_of, HaveSameOrigins}
use Rattle.office_plain.specs.Endings.{stopped_at}
use Rattle.office_plain.proofs.answering.answer_below.Given as goal

abbrev pub invariant-loop-number : goal.invariant-loop-number
invariant-loop-number l = record {
  origins : HaveSameOrigins l.initial.book l.book;
  standings : (n : ℕ) → standing_of l.book n ≡ stopped_at l.number n (standing_of l.initial.book n);
}

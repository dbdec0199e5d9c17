-- How it stands with each accepted message until its answer is handed out: it is open, or it has its answer.
use Rattle.std.specs.Prelude.{◌≡◌, ℕ, Bool, false, List, [], ◌∷◌, Some, slice_get}
use Rattle.behaviour_tree.specs.declared.words.Outcome.{Outcome}
use Rattle.reqresp_book.specs.declared.book.Book.{Book}
use Rattle.reqresp_book.specs.declared.origin.Origin.{Origin}
use Rattle.reqresp_book.specs.declared.origin.Origin.TheVariants as origin
use Rattle.reqresp_book.specs.declared.place.Standing.{Standing}
use Rattle.reqresp_book.specs.declared.place.Standing.TheVariants.{Open, Answered}
use Rattle.reqresp_book.specs.View.{standing_of}
use Rattle.office_core.specs.Limits.{Setting}
use Rattle.office_core.specs.declared.message.Message.{Message}
use Rattle.office_core.specs.Past.{Past, some_entry}
use Rattle.office_core.specs.Answers.{answers_of}
use Rattle.office_core.specs.Legal.{collects, takes_answer}

-- the answer of message n was handed out, by where it came from: it was collected, or taken by the session whose call
-- it is
abbrev pub was_handed_out : Past → ℕ → Origin → Bool
was_handed_out past n (origin.Port posting index) = some_entry past (collects n)
was_handed_out past n (origin.Session s k) = some_entry past (takes_answer s k)

-- how it stands with a message by its answers
abbrev pub standing_by : List Outcome → Standing
standing_by [] = Open
standing_by (o ∷ os) = Answered o

-- the book has how it stands with each message, until the answer of that is handed out
abbrev pub StandsSo : Setting → Past → Book → Type 0
StandsSo w past book =
    (n : ℕ) (m : Message) → slice_get past.messages n ≡ Some m → was_handed_out past n m.origin ≡ false
    → standing_of book n ≡ Some (standing_by (answers_of w past n m))

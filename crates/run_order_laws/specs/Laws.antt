-- What holds of every legal history as it grows: of answers, of what was told, and of the order of telling.
use Rattle.std.specs.Prelude.{◌≡◌, ℕ, suc, false, true, not, List, [], ◌∷◌, ◌++◌, Some, flat_map}
use Rattle.std.specs.List.{filter, list_all}
use Rattle.behaviour_tree.specs.declared.words.Outcome.{Outcome}
use Rattle.office_core.specs.declared.front.Posting.{Posting}
use Rattle.office_core.specs.declared.history.Entry.{Entry}
use Rattle.office_core.specs.Limits.{Setting, first_worker}
use Rattle.office_core.specs.Past.{some_entry, stops}
use Rattle.office_core.specs.Keys.{first}
use Rattle.office_core.specs.Accepted.{past_of}
use Rattle.office_core.specs.Answers.{answers}
use Rattle.office_core.specs.Legal.{IsLegal}
use Rattle.run_record.specs.Order.{finished_there, numbers_from, order_alone}
use Rattle.run_record.specs.Postings.{told}
use Rattle.run_order_laws.specs.Entries.{is_other, posts_under}
use Rattle.run_order_laws.specs.Posting.{ArePosted}
use Rattle.run_order_laws.specs.Ordering.{Grows, InOrder, is_answered}

-- An answer of a message is its answer in every longer legal history.
abbrev pub AnswersStay : Type 0
AnswersStay =
    (w : Setting) (n : ℕ) (o : Outcome) (h more : List Entry)
    → IsLegal w (h ++ more) → first (answers w (past_of w h) n) ≡ Some o
    → first (answers w (past_of w (h ++ more)) n) ≡ Some o

-- What a posting came to, it comes to in every longer legal history.
abbrev pub ToldStays : Type 0
ToldStays =
    (w : Setting) (actor j : ℕ) (p : Posting) (os : List Outcome) (h more : List Entry)
    → IsLegal w (h ++ more) → told w (past_of w h) actor j p ≡ Some os
    → told w (past_of w (h ++ more)) actor j p ≡ Some os

-- What was posted stays with entries that are no posts.
abbrev pub PostedStays : Type 0
PostedStays =
    (h more : List Entry) (given : List Posting)
    → list_all is_other more ≡ true → ArePosted h given → ArePosted (h ++ more) given

-- With one posting more, of those that were not told and the new one those are told that have their answers by now.
abbrev pub OrderGoesOn : Type 0
OrderGoesOn =
    (w : Setting) (h more : List Entry) (count : ℕ) (said open_yet : List ℕ)
    → Grows w h more count → list_all (posts_under (suc count)) (h ++ more) ≡ true
    → some_entry (past_of w (h ++ more)) stops ≡ false → InOrder w h count said open_yet
    → InOrder w (h ++ more) (suc count)
    (said ++ filter (is_answered w (past_of w (h ++ more))) (open_yet ++ count ∷ []))
    (filter (λ j. not (is_answered w (past_of w (h ++ more)) j)) (open_yet ++ count ∷ []))

-- At the end the others are told after them, which is the order of the record.
abbrev pub OrderEnds : Type 0
OrderEnds =
    (w : Setting) (h more : List Entry) (count : ℕ) (said open_yet : List ℕ)
    → Grows w h more count → InOrder w h count said open_yet
    → said ++ open_yet ≡ order_alone w (h ++ more) first_worker count

-- Those that were told before the end are those that are finished before it.
abbrev pub OrderSoFar : Type 0
OrderSoFar =
    (w : Setting) (h more : List Entry) (count : ℕ) (said open_yet : List ℕ)
    → Grows w h more count → InOrder w h count said open_yet
    → said ≡ flat_map (finished_there w (past_of w (h ++ more)) first_worker count) (numbers_from 0 count)

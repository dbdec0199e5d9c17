-- These definitions serve the proofs of runs: no promise of the program speaks of them.
-- Which postings were told and which were not, while a history grows.
use Rattle.std.specs.Prelude.{◌≡◌, ◌<◌, ℕ, Bool, true, false, List, ◌++◌, is_some, flat_map}
use Rattle.std.specs.List.{list_all}
use Rattle.office_core.specs.declared.history.Entry.{Entry}
use Rattle.office_core.specs.Limits.{Setting, first_worker}
use Rattle.office_core.specs.Past.{Past, some_entry, stops}
use Rattle.office_core.specs.Keys.{first}
use Rattle.office_core.specs.Accepted.{past_of}
use Rattle.office_core.specs.Answers.{answers}
use Rattle.office_core.specs.Legal.{IsLegal}
use Rattle.run_record.specs.Order.{before_first, finished_there, messages_for, numbers_from}
use Rattle.run_order_laws.specs.Entries.{adds_none, cuts, posts_over, posts_under}

-- A history grows by what comes with a posting, or with the end: it is legal and did not stop before; what was posted
-- before is for postings below a number, and what comes for that posting alone or a later one; and unless there was no
-- posting before, nothing is answered before the first of these posts, and before the stop.
pub record Grows (w : Setting) (h more : List Entry) (count : ℕ) : Type 0 where
  pub legal : IsLegal w (h ++ more)
  pub running : some_entry (past_of w h) stops ≡ false
  pub under : list_all (posts_under count) h ≡ true
  pub over : list_all (posts_over count) more ≡ true
  pub unfailed : 0 < count → list_all adds_none (before_first (cuts count) more) ≡ true

-- each accepted message of posting j has an answer by now
abbrev pub is_answered : Setting → Past → ℕ → Bool
is_answered w past j = list_all (λ n. is_some (first (answers w past n))) (messages_for past first_worker j)

-- Of so many postings, those that were told are those that are finished at one of them, in order; the others are not
-- finished yet.
pub record InOrder (w : Setting) (h : List Entry) (count : ℕ) (said open_yet : List ℕ) : Type 0 where
  pub told : said ≡ flat_map (finished_there w (past_of w h) first_worker count) (numbers_from 0 count)
  pub pending : open_yet ≡ finished_there w (past_of w h) first_worker count count

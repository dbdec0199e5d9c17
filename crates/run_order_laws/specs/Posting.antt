-- These definitions serve the proofs of runs: no promise of the program speaks of them.
-- What was posted, between two postings and while one is posted.
use Rattle.std.specs.Prelude.{◌≡◌, ℕ, suc, Bool, true, List, [], ◌∷◌, ◌++◌, length, if◌then◌else◌, Option}
use Rattle.std.specs.List.{filter_map, list_all}
use Rattle.office_core.specs.declared.front.CallIn.{CallIn}
use Rattle.office_core.specs.declared.front.Posting.{Posting}
use Rattle.office_core.specs.declared.history.Entry.{Entry}
use Rattle.office_core.specs.declared.post.PostReply.{PostReply}
use Rattle.office_core.specs.Limits.{first_worker}
use Rattle.office_core.specs.Past.{Past}
use Rattle.office_core.specs.Keys.{first}
use Rattle.run_record.specs.Postings.{posts_by, posts_from, posts_of, reply_in}
use Rattle.run_record.specs.Quiet.{posts_for}
use Rattle.run_record.specs.Answered.{stand_together}
use Rattle.run_record.specs.Run.{alone, is_of_hand}
use Rattle.run_order_laws.specs.Entries.{is_by_first, posts_under}

-- the reply to call i of posting j
abbrev pub reply_of : Past → ℕ → ℕ → ℕ → Option PostReply
reply_of past actor j i = first (filter_map (reply_in actor j i) past.entries)

-- once there is a post of posting j, all that follows is posts of it
abbrev pub goes_on : ℕ → List Entry → Bool
goes_on j [] = true
goes_on j (e ∷ es) = if posts_for first_worker j e then list_all (posts_for first_worker j) es else goes_on j es

-- All that was posted is what so many postings ask for: in order, each in one piece, by the first worker; and all
-- entries are of sessions or of this worker.
pub record ArePosted (h : List Entry) (given : List Posting) : Type 0 where
  pub posted : posts_by first_worker h ≡ posts_of 0 given
  pub under : list_all (posts_under (length given)) h ≡ true
  pub together : stand_together h ≡ true
  pub posters : list_all is_by_first h ≡ true
  pub hands : list_all (is_of_hand alone) h ≡ true

-- the same while one posting more is posted, of which these calls were come to
pub record IsPosting (h : List Entry) (given : List Posting) (begun : List CallIn) : Type 0 where
  pub posted : posts_by first_worker h ≡ posts_of 0 given ++ posts_from (length given) 0 begun
  pub under : list_all (posts_under (suc (length given))) h ≡ true
  pub open_end : goes_on (length given) h ≡ true
  pub together : stand_together h ≡ true
  pub posters : list_all is_by_first h ≡ true
  pub hands : list_all (is_of_hand alone) h ≡ true

-- What passed between a front and the run that it brings postings to.
use Rattle.std.specs.Prelude.{◌≡◌, ℕ, Bool, false, List, [], Option}
use Rattle.behaviour_tree.specs.declared.words.Outcome.{Outcome}
use Rattle.office_core.specs.declared.front.Posting.{Posting}

-- whose request a posting is: a list of lines or a connection, by its number among the traffic of the run, and how many
-- of its requests came before
pub record Asked : Type 0 where
  pub traffic : ℕ
  pub request : ℕ

-- The postings that a front gave, each with whose request it is, and those that are left, where they are told; how
-- often in a row it had none yet and nothing moved; how often in all it had none yet and something moved; whether it
-- ended; how often what it reads failed; how many postings it had been told of when it was asked last, and what had been
-- noted to it by then; and for each posting that it gave, how many postings it had been told of when that was asked for.
pub record Received : Type 0 where
  pub given : List Posting
  pub asked : List Asked
  pub left : Option (List Posting)
  pub waits : ℕ
  pub moves : ℕ
  pub ended : Bool
  pub faults : ℕ
  pub seen : ℕ
  pub noted : List ℕ
  pub seens : List ℕ

-- what the calls of the posting of a place came to, in order; places are counted from 0
pub record Told : Type 0 where
  pub place : ℕ
  pub outcomes : List Outcome

-- What a front was told, in order, and what was noted to it; whether it halted: then nothing more is written; whether
-- it was a note that failed; and how often what it writes failed.
pub record Sent : Type 0 where
  pub told : List Told
  pub noted : List ℕ
  pub halted : Bool
  pub notes_failed : Bool
  pub faults : ℕ

-- what a front received, and what was sent to it
pub record Exchange : Type 0 where
  pub received : Received
  pub sent : Sent

-- Nothing passed yet.
pub record IsNew (d : Exchange) : Type 0 where
  pub given : d.received.given ≡ []
  pub asked : d.received.asked ≡ []
  pub waits : d.received.waits ≡ 0
  pub unmoved : d.received.moves ≡ 0
  pub open_yet : d.received.ended ≡ false
  pub unseen : d.received.seen ≡ 0
  pub unnoted : d.received.noted ≡ []
  pub unasked : d.received.seens ≡ []
  pub told : d.sent.told ≡ []
  pub noted : d.sent.noted ≡ []
  pub writes : d.sent.halted ≡ false
  pub notes_unfailed : d.sent.notes_failed ≡ false

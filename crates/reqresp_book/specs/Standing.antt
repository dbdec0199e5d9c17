-- How it stands with a message: it has no answer yet, it has one, or the answer was taken out.
use Rattle.std.specs.Prelude.{Bool, true, false, Option, None, Some}
use Rattle.behaviour_tree.specs.declared.words.Outcome.{Outcome}
use Rattle.reqresp_book.specs.declared.place.Standing.{Standing}
use Rattle.reqresp_book.specs.declared.place.Standing.TheVariants.{Open, Answered, Collected}

-- there is no answer yet
abbrev pub is_waiting : Standing → Bool
is_waiting Open = true
is_waiting (Answered o) = false
is_waiting Collected = false

-- the answer, until it was taken out
abbrev pub outcome_in : Standing → Option Outcome
outcome_in Open = None
outcome_in (Answered o) = Some o
outcome_in Collected = None

-- how it stands once the answer, if there is one, was taken out
abbrev pub collected : Standing → Standing
collected Open = Open
collected (Answered o) = Collected
collected Collected = Collected

-- a message is open where it was noted and has no answer yet
abbrev pub is_open_at : Option Standing → Bool
is_open_at None = false
is_open_at (Some s) = is_waiting s

-- the answer of a message, if it was noted
abbrev pub outcome_at : Option Standing → Option Outcome
outcome_at None = None
outcome_at (Some s) = outcome_in s

-- how it stands with a message, if it was noted, once its answer was taken out
abbrev pub collected_at : Option Standing → Option Standing
collected_at None = None
collected_at (Some s) = Some (collected s)

-- What a front is told of its postings, one after the other.
use Rattle.std.specs.Prelude.{ℕ, suc, List, [], ◌∷◌, Option}
use Rattle.behaviour_tree.specs.declared.words.Outcome.{Outcome}
use Rattle.office_core.specs.declared.front.Posting.{Posting}
use Rattle.office_core.specs.Limits.{Setting, first_worker}
use Rattle.office_core.specs.Past.{Past}
use Rattle.run_record.specs.Postings.{told}

-- what is told of postings, the first of which has the number j
abbrev pub told_from : Setting → Past → ℕ → List Posting → List (Option (List Outcome))
told_from w past j [] = []
told_from w past j (p ∷ ps) = told w past first_worker j p ∷ told_from w past (suc j) ps

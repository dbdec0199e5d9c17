-- How many entries of a history are legal before the first that is not, and copies of histories that are spoilt.
use Rattle.std.specs.Prelude.{ℕ, suc, Bool, true, false, List, [], ◌∷◌, ◌++◌, take, drop, Option, None, Some}
use Rattle.office_core.specs.declared.history.Act.{Act}
use Rattle.office_core.specs.declared.history.Entry.{Entry}
use Rattle.office_core.specs.Limits.{Setting}
use Rattle.office_core.specs.Past.{Past, nothing_yet}
use Rattle.office_core.specs.Accepted.{then_one}
use Rattle.office_core.specs.Legal.{is_allowed, replied}
use Rattle.test_trials.specs.Same.{same_reply}

-- whether the office gives a call its reply
abbrev pub gives : Option Act → Act → Bool
gives None a = false
gives (Some given) a = same_reply given a

-- whether an entry is legal
abbrev pub is_legal_entry : Setting → Past → Entry → Bool
is_legal_entry w past e =
    elim (is_allowed w past e.actor e.act) [ true ↦ gives (replied w past e.actor e.act) e.act | false ↦ false ]

-- how many entries are legal, from a past on
abbrev pub legal_from : Setting → Past → List Entry → ℕ
legal_from w past [] = 0
legal_from w past (e ∷ es) =
    elim (is_legal_entry w past e) [ true ↦ suc (legal_from w (then_one w past e) es) | false ↦ 0 ]

-- how many entries of a history are legal
abbrev pub legal_entries : Setting → List Entry → ℕ
legal_entries w h = legal_from w nothing_yet h

-- a history with other entries in the place of entry k
abbrev pub with_at : ℕ → List Entry → List Entry → List Entry
with_at k es h = take k h ++ es ++ drop (suc k) h

-- Which sessions were born, of which service each is, and which of them live.
use Rattle.std.specs.Prelude.{ℕ, suc, ◌++◌, Bool, false, not, ◌&&◌, List, [], ◌∷◌, take, nat_eq, if◌then◌else◌}
use Rattle.std.specs.Prelude.{Option, None, Some, is_some, slice_get}
use Rattle.std.specs.List.{filter_map}
use Rattle.behaviour_tree.specs.Data.{ServicePart}
use Rattle.behaviour_tree.specs.FormedSets.{is_concurrent}
use Rattle.office_core.specs.declared.history.Entry.{Entry}
use Rattle.office_core.specs.declared.history.Act.TheVariants as act
use Rattle.office_core.specs.Limits.{Setting}
use Rattle.office_core.specs.Past.{Message, Past, some_entry}

-- the single services among services, the first of which has the number n
abbrev pub singles_from : ℕ → List ServicePart → List ℕ
singles_from n [] = []
singles_from n (d ∷ ds) = (if is_concurrent d.execution then [] else n ∷ []) ++ singles_from (suc n) ds

-- the service of the session that a message started
abbrev pub started_by : Message → Option ℕ
started_by m = if m.starts then Some m.service else None

-- the service of each session that was born, by the session's number: the single services have theirs from the start,
-- as many as there may be sessions, and then each message that started one brought one
abbrev pub births : Setting → Past → List ℕ
births w past = take w.limits.sessions (singles_from 0 w.parts.services) ++ filter_map started_by past.messages

-- the service of a session that was born
abbrev pub service_of : Setting → Past → ℕ → Option ℕ
service_of w past s = slice_get (births w past) s

-- an entry by which the session ended
abbrev pub ends : ℕ → Entry → Bool
ends s e = elim e.act [ act.End ↦ nat_eq s e.actor | _ ↦ false ]

-- the session ended
abbrev pub has_ended : Past → ℕ → Bool
has_ended past s = some_entry past (ends s)

-- a session lives from its birth to its end
abbrev pub is_live : Setting → Past → ℕ → Bool
is_live w past s = is_some (service_of w past s) && not (has_ended past s)

-- an entry by which the session was adopted
abbrev pub adopts : ℕ → Entry → Bool
adopts s e = elim e.act [ act.Adopt service ↦ nat_eq s e.actor | _ ↦ false ]

-- the session was adopted
abbrev pub was_adopted : Past → ℕ → Bool
was_adopted past s = some_entry past (adopts s)

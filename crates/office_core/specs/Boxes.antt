-- The boxes of the sessions: the messages that wait there, the oldest first.
use Rattle.std.specs.Prelude.{ℕ, suc, ◌++◌, Bool, false, not, ◌&&◌, List, [], ◌∷◌, nat_eq, if◌then◌else◌, Option}
use Rattle.std.specs.Prelude.{None, Some}
use Rattle.std.specs.List.{list_any, filter_map}
use Rattle.office_core.specs.declared.history.Entry.{Entry}
use Rattle.office_core.specs.declared.history.Act.TheVariants as act
use Rattle.office_core.specs.Past.{Message, Past, some_entry}

-- the message that an entry took
abbrev pub taken_in : Entry → Option ℕ
taken_in e = elim e.act [ act.Take n ↦ Some n | _ ↦ None ]

-- the messages that were taken
abbrev pub taken : Past → List ℕ
taken past = filter_map taken_in past.entries

-- the message was taken
abbrev pub was_taken : Past → ℕ → Bool
was_taken past n = list_any (nat_eq n) (taken past)

-- an entry by which session s took message n
abbrev pub takes : ℕ → ℕ → Entry → Bool
takes s n e = elim e.act [ act.Take m ↦ nat_eq s e.actor && nat_eq n m | _ ↦ false ]

-- session s took message n
abbrev pub took : Past → ℕ → ℕ → Bool
took past s n = some_entry past (takes s n)

-- the numbers of the messages of a kind that are not among others; the first message has the number n
abbrev pub numbers_without : List ℕ → (Message → Bool) → ℕ → List Message → List ℕ
numbers_without gone is_it n [] = []
numbers_without gone is_it n (m ∷ ms) =
    (if is_it m && not (list_any (nat_eq n) gone) then n ∷ [] else []) ++ numbers_without gone is_it (suc n) ms

-- the messages of a kind that were not taken, in order
abbrev pub untaken : Past → (Message → Bool) → List ℕ
untaken past is_it = numbers_without (taken past) is_it 0 past.messages

-- the messages that wait for the session and are of one of the operations, in order
abbrev pub queue : Past → ℕ → List ℕ → List ℕ
queue past s ops = untaken past (λ m. nat_eq s m.session && list_any (nat_eq m.op) ops)

-- all messages that wait for the session, in order
abbrev pub box : Past → ℕ → List ℕ
box past s = untaken past (λ m. nat_eq s m.session)

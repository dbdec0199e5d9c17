-- The numbers of seats, and which entries of a history are whose.
use Rattle.std.specs.Prelude.{◌≡◌, ℕ, ◌⊎◌, List, [], ◌∷◌, map, nat_eq, if◌then◌else◌}
use Rattle.std.specs.List.{filter}
use Rattle.office_core.specs.declared.history.Entry.{Entry}
use Rattle.office_sharing.specs.declared.view.KeptCalls.{KeptCalls}
use Rattle.office_sharing.specs.declared.view.View.{View}

-- the entries of an actor
abbrev pub entries_by : ℕ → List Entry → List Entry
entries_by n es = filter (λ (e : Entry). nat_eq n e.actor) es

-- a number is among others
abbrev pub IsAmong : ℕ → List ℕ → Type 0
IsAmong n [] = ⊥
IsAmong n (m ∷ ms) = (n ≡ m) ⊎ IsAmong n ms

-- no number stands twice
abbrev pub AreApart : List ℕ → Type 0
AreApart [] = Unit {0}
AreApart (n ∷ ns) = (IsAmong n ns → ⊥) × AreApart ns

-- the numbers of the seats that were joined
abbrev pub numbers_kept : List KeptCalls → List ℕ
numbers_kept [] = []
numbers_kept (k ∷ ks) = k.number ∷ numbers_kept ks

-- the numbers whose calls a seat has: its own, where it may call, and those of the seats that were joined
abbrev pub numbers : View → List ℕ
numbers v = if v.may_call then v.number ∷ numbers_kept v.kept else numbers_kept v.kept

-- the entries by the numbers of the seats that were joined are their calls
abbrev pub KeepsCalls : List Entry → List KeptCalls → Type 0
KeepsCalls log [] = Unit {0}
KeepsCalls log (k ∷ ks) = (entries_by k.number log ≡ k.calls) × KeepsCalls log ks

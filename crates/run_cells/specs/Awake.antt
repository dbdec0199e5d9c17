-- Numbers of sessions on a list that rises.
use Rattle.std.specs.Prelude.{◌≡◌, ◌⊎◌, ℕ, ◌≤◌, ◌<◌, List, length, get_or}

-- A number is on a list.
pub record IsOn (ns : List ℕ) (n : ℕ) : Type 0 where
  pub place : ℕ
  pub within : place < length ns
  pub is : get_or ns place 0 ≡ n

-- each number is below those after it
abbrev pub IsRising : List ℕ → Type 0
IsRising ns = (i j : ℕ) → i < j → j < length ns → get_or ns i 0 < get_or ns j 0

-- A number is on the new list, with those of the old one and no other.
pub record PutsOn (n : ℕ) (old new : List ℕ) : Type 0 where
  pub here : IsOn new n
  pub stay : (m : ℕ) → IsOn old m → IsOn new m
  pub only : (m : ℕ) → IsOn new m → IsOn old m ⊎ (m ≡ n)

-- The new list has the numbers of the old one, but for one number.
pub record TakesOff (n : ℕ) (old new : List ℕ) : Type 0 where
  pub stay : (m : ℕ) → IsOn old m → (m ≡ n → ⊥) → IsOn new m
  pub only : (m : ℕ) → IsOn new m → IsOn old m

-- It is the least number on the list from one on.
pub record IsFirstFrom (from : ℕ) (ns : List ℕ) (n : ℕ) : Type 0 where
  pub on : IsOn ns n
  pub rising : from ≤ n
  pub least : (m : ℕ) → IsOn ns m → from ≤ m → n ≤ m

-- the list has no number from one on
abbrev pub HasNoneFrom : ℕ → List ℕ → Type 0
HasNoneFrom from ns = (m : ℕ) → IsOn ns m → m < from

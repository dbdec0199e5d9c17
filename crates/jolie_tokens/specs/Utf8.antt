-- Where bytes stop being the beginning of a text in UTF-8.
use Rattle.std.specs.Prelude.{ℕ, suc, ◌<◌, ◌≤◌, List, ◌++◌, length, take}
use Rattle.std.specs.Str.{IsUtf8}

-- some bytes can follow that make these bytes UTF-8
abbrev pub BeginsUtf8 : List ℕ → Type 0
BeginsUtf8 bs = (more : List ℕ) × IsUtf8 (bs ++ more)

-- The bytes are no UTF-8. The first k of them begin some, and with the next they begin none, if there is a next.
pub record StopsAt (bs : List ℕ) (k : ℕ) : Type 0 where
  pub broken : ¬ (IsUtf8 bs)
  pub within : k ≤ length bs
  pub begin : BeginsUtf8 (take k bs)
  pub stop : k < length bs → ¬ (BeginsUtf8 (take (suc k) bs))

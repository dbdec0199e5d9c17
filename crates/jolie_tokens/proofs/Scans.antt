-- The steps of the scan for the quote that closes a string.
use Rattle.std.proofs.Common.{◌≡◌, ℕ, ◌+◌, ◌<◌, Bool, true, false, List, ◌∷◌, length, drop, get_or, arith, add-one}
use Rattle.std.specs.Prelude.{◌==◌}
use Rattle.std.proofs.Math.Seq.{drop-cons}
use Rattle.jolie_tokens.specs.Bytes.{quote, backslash}
use Rattle.jolie_tokens.specs.Fronts.{string_end_from}

-- the next byte and what is left behind it
pub drop_next : (i : ℕ) (s : List ℕ) → i < length s → drop i s ≡ get_or s i 0 ∷ drop (i + 1) s
drop_next i s lt = rw (add-one, drop-cons s i 0)

-- a byte after a backslash is passed over, and so is one that is no quote
pub string_skip : (escaped : Bool) (i : ℕ) (s : List ℕ) → i < length s → escaped ≡ true → string_end_from escaped i (drop i s) ≡ string_end_from false (i + 1) (drop (i + 1) s)
string_skip escaped i s lt e = rw (drop_next i s lt, e)

pub string_more : (escaped : Bool) (i : ℕ) (s : List ℕ) → i < length s → escaped ≡ false → (get_or s i 0 == quote) ≡ false → string_end_from escaped i (drop i s) ≡ string_end_from (get_or s i 0 == backslash) (i + 1) (drop (i + 1) s)
string_more escaped i s lt e f = rw (drop_next i s lt, e, f)

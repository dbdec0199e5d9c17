-- These definitions serve the proofs alone: no promise speaks of them.
-- What the sorted keys of a set keep, and where values stand among them.
use Rattle.std.specs.Prelude.{ℕ, suc, ◌+◌, Bool, true, ◌&&◌, List, [], ◌∷◌, insert, Result, Ok, Err}
use Rattle.std.specs.Ordering.{is_lt, match_ordering}
use Rattle.jolie_trees.specs.declared.root.Root.{Root}
use Rattle.correlation.specs.Order.{key_order}
use Rattle.correlation.specs.declared.key.KeyRow.{KeyRow}

-- the first key comes after another
abbrev pub starts_after : List Root → List KeyRow → Bool
starts_after k [] = true
starts_after k (r ∷ rs) = is_lt (key_order k r.key)

-- the keys rise
abbrev pub is_rising : List KeyRow → Bool
is_rising [] = true
is_rising (r ∷ rs) = starts_after r.key rs && is_rising rs

-- a place after another row
abbrev pub behind : Result ℕ ℕ → Result ℕ ℕ
behind (Ok k) = Ok (suc k)
behind (Err k) = Err (suc k)

-- a place after n rows
abbrev pub moved : ℕ → Result ℕ ℕ → Result ℕ ℕ
moved n (Ok k) = Ok (n + k)
moved n (Err k) = Err (n + k)

-- where values stand, or where they would
abbrev pub searched : List Root → List KeyRow → Result ℕ ℕ
searched k [] = Err 0
searched k (r ∷ rs) = match_ordering (key_order r.key k) (behind (searched k rs)) (Ok 0) (Err 0)

-- rows with one more at the place where it would stand, unless its key is there
abbrev pub put : Result ℕ ℕ → KeyRow → List KeyRow → List KeyRow
put (Ok k) r rs = rs
put (Err k) r rs = insert rs k r

-- rows with one more, unless its key is there
abbrev pub with_row : KeyRow → List KeyRow → List KeyRow
with_row r rs = put (searched r.key rs) r rs

-- The numbers that the command line writes.
use Rattle.std.specs.Prelude.{ℕ, ◌^◌, Bool, ◌&&◌, ◌==◌, List, [], ◌∷◌, length, map, nat_lt, Option, Some, None}
use Rattle.std.specs.Prelude.{if◌then◌else◌}
use Rattle.std.specs.List.{list_all}
use Rattle.std.specs.Char.{is_ascii_digit}
use Rattle.std.specs.Str.Parse.{digits_value, without_leading_plus}
use Rattle.clap.specs.ValueTests.{is_unsigned_in}

-- the most events that a session may have
abbrev pub most_events : ℕ
most_events = 10000

-- the most connections that are accepted
abbrev pub most_connections : ℕ
most_connections = 65536

-- the most lines of a load
abbrev pub most_lines : ℕ
most_lines = 600

-- the number that a text writes, where it is from the least to the most; `clap` lets no other text through
abbrev pub number_of : ℕ → ℕ → List ℕ → ℕ
number_of least most text =
    if is_unsigned_in least most text then digits_value 10 (without_leading_plus text) else most

-- ---- picks

-- digits alone, and one at least, that write a number of 32 bits
abbrev pub is_pick : List ℕ → Bool
is_pick piece = nat_lt 0 (length piece) && (list_all is_ascii_digit piece && nat_lt (digits_value 10 piece) (2 ^ 32))

-- the pieces of a text between its commas: the first, and the others
abbrev pub pieces : List ℕ → List ℕ × List (List ℕ)
pieces [] = ([], [])
pieces (b ∷ bs) =
    if b == 44 then ([], (pieces bs).0 ∷ (pieces bs).1) else (b ∷ (pieces bs).0, (pieces bs).1)

-- the numbers of pieces, where each is a pick
abbrev pub picks_in : List (List ℕ) → Option (List ℕ)
picks_in all = if list_all is_pick all then Some (map (digits_value 10) all) else None

-- the picks that a LIST writes, where it is one
abbrev pub picks_of : List ℕ → Option (List ℕ)
picks_of list = picks_in ((pieces list).0 ∷ (pieces list).1)

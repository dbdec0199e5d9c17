-- The lines of a load.
use Rattle.std.specs.Prelude.{ℕ, zero, suc, ◌+◌, ◌*◌, ◌%◌, List, [], ◌∷◌, ◌++◌, codes}
use Rattle.std.specs.List.{flat_map}
use Rattle.std.specs.Fmt.{decimal}

-- the number after a number
abbrev pub next : ℕ → ℕ
next x = (x * 1103515245 + 12345) % 2147483648

-- number i of those that begin with the first
unfoldable pub number : ℕ → ℕ → ℕ
number first zero = first
number first (suc i) = next (number first i)

-- the request of order i: one to three pieces at 1 to 60 each, by a number
abbrev pub order : ℕ → ℕ → List ℕ
order i x =
    codes "{\"id\":" ++ (decimal i ++ (codes ",\"jsonrpc\":\"2.0\",\"method\":\"order\",\"params\":{\"id\":\""
    ++ (decimal i ++ (codes "\",\"n\":" ++ (decimal (1 + x % 3) ++ (codes ",\"price\":"
    ++ (decimal (1 + x % 60) ++ codes ",\"sku\":\"x\"}}")))))))

-- line i of a load of n lines, by the number after that of the line before
abbrev pub line : ℕ → ℕ → List ℕ
line n i = order i (number n (suc i))

-- the first lines of a load of n lines, so many of them
unfoldable pub first_lines : ℕ → ℕ → List (List ℕ)
first_lines n zero = []
first_lines n (suc i) = first_lines n i ++ line n i ∷ []

-- all of them
abbrev pub lines : ℕ → List (List ℕ)
lines n = first_lines n n

-- lines as bytes: each with its end
abbrev pub with_ends : List (List ℕ) → List ℕ
with_ends = flat_map (λ line. line ++ 10 ∷ [])

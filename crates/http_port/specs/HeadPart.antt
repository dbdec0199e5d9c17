-- The head part of a request: its bytes up to and with the first empty line that follows a line that is not empty.
use Rattle.std.specs.Prelude.{◌≡◌, ℕ, ◌+◌, ◌≤◌, ◌==◌, Bool, false, not, ◌&&◌, ◌||◌, if◌then◌else◌}
use Rattle.std.specs.Prelude.{List, [], ◌∷◌, ◌++◌, length, take, bytes_eq, Option, None, Some, option_map}
use Rattle.httparse.specs.Ascii.{line_feed, crlf_bytes}
use Rattle.http_port.specs.declared.scan.Scan.{Scan}

-- a byte in front of the first line; where there is no line, it is in none yet
abbrev pub begin_with : ℕ → List (List ℕ) → List (List ℕ)
begin_with b [] = []
begin_with b (line ∷ more) = (b ∷ line) ∷ more

-- the lines, each with the LF that ends it; what follows the last LF is no line yet
abbrev pub lines : List ℕ → List (List ℕ)
lines [] = []
lines (b ∷ bytes) = if b == line_feed then (b ∷ []) ∷ lines bytes else begin_with b (lines bytes)

-- the line holds nothing, or CR alone
abbrev pub is_empty_line : List ℕ → Bool
is_empty_line line = bytes_eq line (line_feed ∷ []) || bytes_eq line crlf_bytes

-- how long the rest of a head part is, which goes on with these lines; begun says whether a line that is not empty came
-- before
abbrev pub part_length : Bool → List (List ℕ) → Option ℕ
part_length begun [] = None
part_length begun (line ∷ more) =
    if begun && is_empty_line line then Some (length line)
    else option_map (λ n. length line + n) (part_length (begun || not (is_empty_line line)) more)

-- the most bytes of a head part
abbrev pub longest_head : ℕ
longest_head = 8192

-- how long the head part at the front of these bytes is, where the first 8,192 of them hold all of it
abbrev pub head_part : List ℕ → Option ℕ
head_part bytes = part_length false (lines (take longest_head bytes))

-- The search has read whole lines of these bytes, and whatever follows these decides.
pub record HoldsScan (bytes : List ℕ) (scan : Scan) : Type 0 where
  pub inside : scan.at ≤ length bytes
  pub goes_on : (more : List ℕ) → part_length false (lines (take scan.at bytes ++ more))
      ≡ option_map (λ n. scan.at + n) (part_length scan.begun (lines more))

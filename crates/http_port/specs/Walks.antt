-- These definitions serve the proofs alone: no promise speaks of them.
-- What the reader keeps of a head part and of a head, line by line and field by field.
use Rattle.std.specs.Prelude.{◌≡◌, ℕ, ◌+◌, ◌<◌, ◌≤◌, nat_lt, Bool, true, false, not, ◌&&◌, ◌||◌, if◌then◌else◌}
use Rattle.std.specs.Prelude.{List, [], ◌∷◌, length, drop, Option, None, Some}
use Rattle.http1.specs.Fields.{Header}
use Rattle.http_port.specs.HeadPart.{is_empty_line}
use Rattle.http_port.specs.Framing.{stated_by}
use Rattle.http_port.specs.Rules.{lacks_host, wants_close, wants_interim, Judges}
use Rattle.http_port.specs.Feeding.{Place, Open, Over, Spent}
use Rattle.http_port.specs.Connections.{Reading}
use Rattle.http_port.specs.declared.verdict.Admission.{Admission}
use Rattle.http_port.specs.declared.verdict.Verdict.{Verdict}
use Rattle.http_port.specs.declared.verdict.Verdict.TheVariants.{Pending, Refuses, Admits}
use Rattle.http_port.specs.declared.fields.Stated.{Stated}
use Rattle.http_port.specs.declared.fields.Stated.TheVariants.{Nothing, Length, Unclear}
use Rattle.http_port.specs.declared.fields.Framing.{Framing}
use Rattle.http_port.specs.declared.verdict.Wishes.{Wishes}

-- whether a line that is not empty came, with this one; none where this one ends the head part
abbrev pub begun_behind : Bool → List ℕ → Option Bool
begun_behind begun line = if begun && is_empty_line line then None else Some (begun || not (is_empty_line line))

-- what they say with one more value behind them
abbrev pub stated_after : Stated → List ℕ → Stated
stated_after Nothing value = stated_by value
stated_after (Length n) value = Unclear
stated_after Unclear value = Unclear

-- something is said of the length, and it is not clear
abbrev pub is_unclear_by : Stated → Bool → Bool
is_unclear_by Nothing coded = false
is_unclear_by (Length n) coded = coded
is_unclear_by Unclear coded = true

-- the same of what a head says
abbrev pub is_unclear : Framing → Bool
is_unclear framing = is_unclear_by framing.stated framing.is_coded

-- what a head says beside the length of its body
abbrev pub wishes_of : ℕ → List Header → Wishes
wishes_of minor headers = record {
  lacks_host = lacks_host minor headers;
  close = wants_close minor headers;
  interim = wants_interim minor headers;
}

-- the length of an admitted request, where so many bytes hold all of it and it does not close the connection
abbrev pub length_of_open : ℕ → Verdict → Option ℕ
length_of_open len Pending = None
length_of_open len (Refuses status) = None
length_of_open len (Admits a) = if nat_lt len (a.head + a.body) || a.close then None else Some (a.head + a.body)

-- a reading of what follows so many bytes leads to one of all
pub record LeadsOn (bytes : List ℕ) (n : ℕ) : Type 0 where
  pub some : 0 < n
  pub within : n ≤ length bytes
  pub leads : Reading (drop n bytes) → Reading bytes

-- the first head of these bytes is admitted, and asks for the interim line
abbrev pub Asks : List ℕ → Type 0
Asks bytes = (a : Admission) × Judges bytes (Admits a) × (a.interim ≡ true)

-- where the interim line was given, the head asks for it
abbrev pub AsksWhereGiven : Place → Type 0
AsksWhereGiven (Open left asked) = asked ≡ true → ∥ Asks left ∥₁
AsksWhereGiven Over = Unit {0}
AsksWhereGiven Spent = Unit {0}

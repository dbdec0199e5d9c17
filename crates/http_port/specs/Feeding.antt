-- What a reader of a connection gives, piece by piece.
use Rattle.std.specs.Prelude.{◌≡◌, ℕ, ◌+◌, nat_lt, Bool, true, false, not, ◌&&◌, if◌then◌else◌}
use Rattle.std.specs.Prelude.{List, ◌++◌, length, take, drop, slice_range}
use Rattle.http_port.specs.HeadPart.{longest_head, HoldsScan}
use Rattle.http_port.specs.Rules.{Judges}
use Rattle.http_port.specs.declared.verdict.Admission.{Admission}
use Rattle.http_port.specs.declared.verdict.Verdict.{Verdict}
use Rattle.http_port.specs.declared.verdict.Verdict.TheVariants.{Pending, Refuses, Admits}
use Rattle.http_port.specs.declared.head_reader.Fed.{Fed}
use Rattle.http_port.specs.declared.head_reader.Fed.TheVariants.{NotYet, Interim, Request, Refused}
use Rattle.http_port.specs.declared.head_reader.Stage.{Stage}
use Rattle.http_port.specs.declared.head_reader.Stage.TheVariants as Waits

-- Where a reader is. Open: before these bytes, which no request took, and whose first head had its interim line if
-- asked is true. Over: behind the last request, or a refusal. Spent: memory ran out.
pub data Place : Type 0 where
  Open : List ℕ → Bool → Place
  Over Spent : Place

-- the bytes of a body
abbrev pub body_of : List ℕ → Admission → List ℕ
body_of bytes a = slice_range bytes a.head (a.head + a.body)

-- where a reader is behind a request
abbrev pub behind : List ℕ → Admission → Place
behind bytes a = if a.close then Over else Open (drop (a.head + a.body) bytes) false

-- what comes next of a request whose interim line was given, if its head asks for one
abbrev pub next_in_body : List ℕ → Admission → Fed × Place
next_in_body bytes a =
    if nat_lt (length bytes) (a.head + a.body) then (NotYet, Open bytes a.interim)
    else (Request (body_of bytes a) a.close, behind bytes a)

-- what comes next of bytes that are judged so
abbrev pub next : List ℕ → Bool → Verdict → Fed × Place
next bytes asked Pending = (NotYet, Open bytes false)
next bytes asked (Refuses status) = (Refused status, Over)
next bytes asked (Admits a) = if a.interim && not asked then (Interim, Open bytes true) else next_in_body bytes a

-- what a reader before these bytes gives, and where it is then
abbrev pub Gives : List ℕ → Bool → Fed → Place → Type 0
Gives bytes asked fed place = (verdict : Verdict) × Judges bytes verdict × ((fed, place) ≡ next bytes asked verdict)

-- what a reader gives for one more piece, and where it is then
abbrev pub Feeds : Place → List ℕ → Fed → Place → Type 0
Feeds (Open left asked) piece fed place = ∥ Gives (left ++ piece) asked fed place ∥₁
Feeds Over piece fed place = (fed ≡ NotYet) × (place ≡ Over)
Feeds Spent piece fed place = ⊥

-- where a reader of this stage is
abbrev pub place_of : List ℕ → Stage → Place
place_of unread (Waits.Head scan) = Open unread false
place_of unread (Waits.Body a) = Open unread a.interim
place_of unread Waits.Over = Over
place_of unread Waits.Spent = Spent

-- what a stage knows of the bytes is true
abbrev pub StageHolds : List ℕ → Stage → Type 0
StageHolds unread (Waits.Head scan) = HoldsScan (take longest_head unread) scan
StageHolds unread (Waits.Body a) = Judges unread (Admits a)
StageHolds unread Waits.Over = Unit {0}
StageHolds unread Waits.Spent = Unit {0}

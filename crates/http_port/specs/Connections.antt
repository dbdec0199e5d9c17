-- What the bytes of a connection hold: its requests in order, and how they end.
use Rattle.std.specs.Prelude.{◌≡◌, ℕ, ◌+◌, ◌<◌, ◌≤◌, Bool, true, false, if◌then◌else◌}
use Rattle.std.specs.Prelude.{List, [], ◌∷◌, ◌++◌, length, drop}
use Rattle.http_port.specs.Rules.{Judges}
use Rattle.http_port.specs.Feeding.{Place, Feeds, body_of}
use Rattle.http_port.specs.declared.verdict.Admission.{Admission}
use Rattle.http_port.specs.declared.verdict.Verdict.TheVariants.{Pending, Refuses, Admits}
use Rattle.http_port.specs.declared.head_reader.Fed.{Fed}
use Rattle.http_port.specs.declared.head_reader.Fed.TheVariants.{NotYet, Interim, Request, Refused}

-- A reading of the bytes, request by request: up to and with the first that closes the connection, or up to the first
-- refusal.
pub data Reading : List ℕ → Type 0 where
  -- no more head is whole
  waits : (bytes : List ℕ) → Judges bytes Pending → Reading bytes
  -- what comes next is refused with this status
  refuses : (bytes : List ℕ) (status : ℕ) → Judges bytes (Refuses status) → Reading bytes
  -- the last head lacks its body
  lacks : (bytes : List ℕ) (a : Admission) → Judges bytes (Admits a) → length bytes < a.head + a.body
      → Reading bytes
  -- a request, with which the connection closes
  closes : (bytes : List ℕ) (a : Admission) → Judges bytes (Admits a) → a.head + a.body ≤ length bytes → a.close ≡ true
      → Reading bytes
  -- a request, and the reading of what follows it
  goes_on : (bytes : List ℕ) (a : Admission) → Judges bytes (Admits a) → a.head + a.body ≤ length bytes
      → a.close ≡ false → Reading (drop (a.head + a.body) bytes) → Reading bytes

-- a request as it came: whether it asks for the interim line, its body, and whether the connection closes with its
-- answer
pub record RequestRead : Type 0 where
  pub interim : Bool
  pub body : List ℕ
  pub close : Bool

-- how the requests end: no more is whole, and in WithInterim a last whole head that asks for the interim line lacks its
-- body; or the connection closes with the last; or what follows them is refused with a status
pub data End : Type 0 where
  Unfinished WithInterim Closed : End
  RefusedBy : ℕ → End

-- the request of an admitted head
abbrev pub request_read : List ℕ → Admission → RequestRead
request_read bytes a = record { interim = a.interim; body = body_of bytes a; close = a.close }

-- the requests of a reading; one that ends otherwise has none more
abbrev pub requests : (bytes : List ℕ) → Reading bytes → List RequestRead
requests bytes (closes _ a judged whole close) = request_read bytes a ∷ []
requests bytes (goes_on _ a judged whole stays rest) =
    request_read bytes a ∷ requests (drop (a.head + a.body) bytes) rest
requests bytes reading = []

-- how they end
abbrev pub end_of : (bytes : List ℕ) → Reading bytes → End
end_of bytes (waits _ judged) = Unfinished
end_of bytes (refuses _ status judged) = RefusedBy status
end_of bytes (lacks _ a judged short) = if a.interim then WithInterim else Unfinished
end_of bytes (closes _ a judged whole close) = Closed
end_of bytes (goes_on _ a judged whole stays rest) = end_of (drop (a.head + a.body) bytes) rest

-- what a reader gives of the first head: that it asks for the interim line, if it does
abbrev pub given_first : Admission → List Fed
given_first a = if a.interim then Interim ∷ [] else []

-- all that a reader gives of the bytes, in order
abbrev pub given : (bytes : List ℕ) → Reading bytes → List Fed
given bytes (waits _ judged) = []
given bytes (refuses _ status judged) = Refused status ∷ []
given bytes (lacks _ a judged short) = given_first a
given bytes (closes _ a judged whole close) = given_first a ++ Request (body_of bytes a) a.close ∷ []
given bytes (goes_on _ a judged whole stays rest) =
    given_first a ++ Request (body_of bytes a) a.close ∷ given (drop (a.head + a.body) bytes) rest

-- calls of feed in a row, one for each piece, from one place to another
abbrev pub Run : Place → List (List ℕ) → List Fed → Place → Type 0
Run old [] [] new = new ≡ old
Run old (piece ∷ pieces) (fed ∷ more) new = (mid : Place) × Feeds old piece fed mid × Run mid pieces more new
Run old [] (fed ∷ more) new = ⊥
Run old (piece ∷ pieces) [] new = ⊥

-- what was given beside that nothing is whole yet
abbrev pub without_waits : List Fed → List Fed
without_waits [] = []
without_waits (NotYet ∷ more) = without_waits more
without_waits (Interim ∷ more) = Interim ∷ without_waits more
without_waits (Request body close ∷ more) = Request body close ∷ without_waits more
without_waits (Refused status ∷ more) = Refused status ∷ without_waits more

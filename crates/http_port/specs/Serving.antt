-- What comes of serving a connection: what is asked, what is written and how it ends, by what the bytes hold.
use Rattle.std.specs.Prelude.{◌≡◌, ℕ, ◌<◌, ◌⊎◌, ◌||◌, not, Bool, true, if◌then◌else◌, Option, None, Some}
use Rattle.std.specs.Prelude.{List, [], ◌∷◌, ◌++◌, length, map, take, drop}
use Rattle.std.specs.List.{concat}
use Rattle.std.specs.Io.{StartsWith}
use Rattle.http_port.specs.Feeding.{Place, Open, Over, Spent}
use Rattle.http_port.specs.Connections.{Reading, RequestRead, End, Unfinished, WithInterim, Closed, RefusedBy}
use Rattle.http_port.specs.Connections.{requests, end_of, Run}
use Rattle.http_port.specs.Responses.{interim}
use Rattle.http_port.specs.Talk.{talk}
use Rattle.http_port.specs.declared.head_reader.Fed.{Fed}
use Rattle.http_port.specs.declared.head_reader.Fed.TheVariants.{NotYet, Interim, Request, Refused}
use Rattle.http_port.specs.declared.serve.Said.{Said}
use Rattle.http_port.specs.declared.serve.Said.TheVariants as Says
use Rattle.http_port.specs.declared.serving.WireEnd.{WireEnd}
use Rattle.http_port.specs.declared.serving.WireEnd.TheVariants as Ends

-- What a call did: the bytes that it read, the bodies that it handed on, what was said to each, and the bytes that it
-- wrote.
pub record Service : Type 0 where
  pub came : List ℕ
  pub bodies : List (List ℕ)
  pub said : List Said
  pub went : List ℕ

-- What the bytes of a connection call for: its requests in order, how they end, and whether the interim line of the
-- first was written before.
pub record Demand : Type 0 where
  pub queue : List RequestRead
  pub end : End
  pub asked : Bool

-- the texts that are said, up to the first that comes later
abbrev pub texts : List Said → List (Option (List ℕ))
texts [] = []
texts (Says.Text bytes ∷ more) = Some bytes ∷ texts more
texts (Says.Nothing ∷ more) = None ∷ texts more
texts (Says.Later ∷ more) = []

-- a text without the interim line at its front, where that was written before
abbrev pub unsaid : Bool → List ℕ → List ℕ
unsaid asked text = if asked then drop (length interim) text else text

-- what is to be written, where this is said
abbrev pub to_write : Demand → List Said → List ℕ
to_write demand said = unsaid demand.asked (talk demand.queue demand.end (texts said))

-- how the serving ends behind the last request
abbrev pub last_end : End → WireEnd
last_end Unfinished = Ends.Ended
last_end WithInterim = Ends.Ended
last_end Closed = Ends.Closed
last_end (RefusedBy status) = Ends.Closed

-- How the serving of requests ends, where this is said to them: with the first answer that comes later, which is the
-- last that is asked for, or else behind the last request. It ends in no such way where a request is not asked for.
abbrev pub serving_end : List RequestRead → End → List Said → Option WireEnd
serving_end [] end [] = Some (last_end end)
serving_end [] end (first ∷ said) = None
serving_end (request ∷ more) end [] = None
serving_end (request ∷ more) end (Says.Text bytes ∷ said) = serving_end more end said
serving_end (request ∷ more) end (Says.Nothing ∷ said) = serving_end more end said
serving_end (request ∷ more) end (Says.Later ∷ []) = Some (Ends.Later request.close)
serving_end (request ∷ more) end (Says.Later ∷ next ∷ said) = None

-- the bodies that were handed on are those of the first requests, in order, and something was said to each
pub record HandsOn (demand : Demand) (did : Service) : Type 0 where
  pub bodies : did.bodies ≡ take (length did.bodies) (map (λ (request : RequestRead). request.body) demand.queue)
  pub said : length did.said ≡ length did.bodies

-- What is to be written was written, and the serving ended so.
pub record IsServed (demand : Demand) (did : Service) (end : WireEnd) : Type 0 where
  pub hands_on : HandsOn demand did
  pub written : did.went ≡ to_write demand did.said
  pub ended : serving_end demand.queue demand.end did.said ≡ Some end

-- no answer comes later
abbrev pub AllAtOnce : List Said → Type 0
AllAtOnce [] = Unit {0}
AllAtOnce (Says.Text bytes ∷ more) = AllAtOnce more
AllAtOnce (Says.Nothing ∷ more) = AllAtOnce more
AllAtOnce (Says.Later ∷ more) = ⊥

-- The serving was cut off in a write: a front of what is to be written was written, and not all of it; and all of it
-- that stands before the answer of the last request that was handed on. No answer comes later.
pub record IsCutOff (demand : Demand) (did : Service) : Type 0 where
  pub hands_on : HandsOn demand did
  pub at_once : AllAtOnce did.said
  pub front : StartsWith (to_write demand did.said) did.went
  pub part : length did.went < length (to_write demand did.said)
  pub before : (early : List Said) (last : Said) → did.said ≡ early ++ last ∷ []
      → StartsWith did.went (to_write demand early)

-- How what was done is tied to the end: behind a read that failed all is done as at the end of what comes, and a write
-- that failed cut it off.
abbrev pub EndsSo : Demand → Service → WireEnd → Type 0
EndsSo demand did Ends.Ended = IsServed demand did Ends.Ended
EndsSo demand did Ends.Closed = IsServed demand did Ends.Closed
EndsSo demand did Ends.ReadFailed = IsServed demand did Ends.Ended
EndsSo demand did Ends.WriteFailed = IsCutOff demand did
EndsSo demand did (Ends.Later close) = IsServed demand did (Ends.Later close)

-- what the bytes at hand call for, in a reading of them
abbrev pub demand_of : (bytes : List ℕ) → Reading bytes → Bool → Demand
demand_of bytes reading asked = record { queue = requests bytes reading; end = end_of bytes reading; asked = asked }

-- What a call did from this place is what the bytes call for that the reader held and that were read. Behind the last
-- request nothing is done, and a reader whose memory ran out serves nothing.
abbrev pub Serves : Place → Service → WireEnd → Type 0
Serves (Open left asked) did end =
    (reading : Reading (left ++ did.came)) → ∥ EndsSo (demand_of (left ++ did.came) reading asked) did end ∥₁
Serves Over did end =
    (did.bodies ≡ []) × (did.said ≡ []) × (did.went ≡ []) × ((end ≡ Ends.Ended) ⊎ (end ≡ Ends.ReadFailed))
Serves Spent did end = ⊥

-- the bodies of what a reader gave
abbrev pub bodies_in : List Fed → List (List ℕ)
bodies_in [] = []
bodies_in (NotYet ∷ more) = bodies_in more
bodies_in (Interim ∷ more) = bodies_in more
bodies_in (Request body close ∷ more) = body ∷ bodies_in more
bodies_in (Refused status ∷ more) = bodies_in more

-- What a reader gives last, where the serving ends so: nothing yet at the end of input or where a read fails, what closes
-- the connection, or the request whose answer comes later.
abbrev pub IsLastGiven : WireEnd → Fed → Type 0
IsLastGiven Ends.Ended fed = fed ≡ NotYet
IsLastGiven Ends.Closed fed = ((body : List ℕ) × (fed ≡ Request body true)) ⊎ ((status : ℕ) × (fed ≡ Refused status))
IsLastGiven Ends.ReadFailed fed = fed ≡ NotYet
IsLastGiven Ends.WriteFailed fed = Unit {0}
IsLastGiven (Ends.Later close) fed = (body : List ℕ) × (fed ≡ Request body close)

-- The reader was fed the bytes that came, which brought the bodies that were handed on, and nothing else was done to
-- it.
pub record IsFed (was : Place) (did : Service) (end : WireEnd) (now : Place) : Type 0 where
  pub pieces : List (List ℕ)
  pub before : List Fed
  pub last : Fed
  pub whole : concat pieces ≡ did.came
  pub run : Run was pieces (before ++ last ∷ []) now
  pub bodies : bodies_in (before ++ last ∷ []) ≡ did.bodies
  pub ends : IsLastGiven end last

-- whether a read of a wire has failed behind a serving that ended so, by whether one had before
abbrev pub lost_behind : WireEnd → Bool → Bool
lost_behind Ends.Ended before = before
lost_behind Ends.Closed before = before
lost_behind Ends.ReadFailed before = true
lost_behind Ends.WriteFailed before = before
lost_behind (Ends.Later close) before = before

-- whether a write of it has failed then, before it was closed, by whether it is closed and one had before
abbrev pub cut_behind : WireEnd → Bool → Bool → Bool
cut_behind Ends.Ended closed before = before
cut_behind Ends.Closed closed before = before
cut_behind Ends.ReadFailed closed before = before
cut_behind Ends.WriteFailed closed before = before || not closed
cut_behind (Ends.Later close) closed before = before

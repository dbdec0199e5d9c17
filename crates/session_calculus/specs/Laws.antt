-- What holds of every event and of every run: requests and calls, and how a session ends.
use Rattle.std.specs.Prelude.{◌≡◌, ℕ, ◌+◌, ◌≤◌, Bool, true, false, cond, ◌&&◌, List, [], ◌∷◌, ◌++◌}
use Rattle.std.specs.Prelude.{Option, None, Some, option_map, unwrap_or, if◌then◌else◌, nat_eq, count_by}
use Rattle.behaviour_tree.specs.declared.words.Kind.{Kind}
use Rattle.behaviour_tree.specs.declared.words.Kind.TheVariants as kind
use Rattle.behaviour_tree.specs.declared.words.Given.{Given}
use Rattle.behaviour_tree.specs.declared.words.Given.TheVariants as given
use Rattle.behaviour_tree.specs.Data.{ProgramParts, Proc, choice, Branches, no_branches, one_way, request}
use Rattle.session_calculus.specs.Terms.{Term, Strands, place, seq, par, in_scope, exec, prot, no_strands, strand, stands_in}
use Rattle.session_calculus.specs.Start.{start, begin, normal}
use Rattle.session_calculus.specs.After.{Config, Done, after}
use Rattle.session_calculus.specs.Open.{open_requests, waiting}
use Rattle.session_calculus.specs.Runs.{TakenStep, Leads, RunsTo}

-- ---- how often

-- an event of one of four kinds with one number
abbrev pub is_event : Kind → ℕ → TakenStep → Bool
is_event kind.In m s = elim s.event.kind [ kind.In ↦ nat_eq m s.event.number | _ ↦ false ]
is_event kind.Reply m s = elim s.event.kind [ kind.Reply ↦ nat_eq m s.event.number | _ ↦ false ]
is_event kind.Solicit k s = elim s.event.kind [ kind.Solicit ↦ nat_eq k s.event.number | _ ↦ false ]
is_event kind.Answer k s = elim s.event.kind [ kind.Answer ↦ nat_eq k s.event.number | _ ↦ false ]
is_event k n s = false

-- how often a message came in
abbrev pub times_in : ℕ → List TakenStep → ℕ
times_in m steps = count_by (is_event kind.In m) steps

-- how often a message was answered
abbrev pub times_replied : ℕ → List TakenStep → ℕ
times_replied m steps = count_by (is_event kind.Reply m) steps

-- how often a call was sent that waits for an answer
abbrev pub times_sent : ℕ → List TakenStep → ℕ
times_sent k steps = count_by (is_event kind.Solicit k) steps

-- how often the answer of a call came
abbrev pub times_answered : ℕ → List TakenStep → ℕ
times_answered k steps = count_by (is_event kind.Answer k) steps

-- how often a message is open
abbrev pub times_open : ℕ → Term → ℕ
times_open m t = count_by (nat_eq m) (open_requests t)

-- how often a call waits
abbrev pub times_waiting : ℕ → Term → ℕ
times_waiting k t = count_by (nat_eq k) (waiting t)

-- whether the first branch of an operation is a request
abbrev pub is_request_of : ℕ → Branches → Bool
is_request_of o no_branches = false
is_request_of o (one_way o' x after bs) = if nat_eq o' o then false else is_request_of o bs
is_request_of o (request o' x y body after bs) = if nat_eq o' o then true else is_request_of o bs

abbrev mutual
  -- the behaviour that acts as strand n, in a form that runs in strand s
  pub place_in : ℕ → ℕ → Term → Option Proc
  place_in n s (place p) = if nat_eq n s then Some p else None
  place_in n s (seq t rest) = place_in n s t
  place_in n s (par ts) = place_among n ts
  place_in n s (in_scope q t h u) = place_in n s t
  place_in n s (exec m o y t) = place_in n s t
  place_in n s (prot t) = place_in n s t
  place_in n s t = None

  -- the same in the member that strand n stands in
  pub place_among : ℕ → Strands → Option Proc
  place_among n no_strands = None
  place_among n (strand s t ts) = elim (stands_in n s t) [ true ↦ place_in n s t | false ↦ place_among n ts ]

-- whether a behaviour takes a gift as a request, and it is message m
abbrev pub asks : ℕ → Option Proc → Given → Bool
asks m (Some (choice bs)) (given.Mail k o v) = is_request_of o bs && nat_eq m k
asks m p g = false

-- whether message m comes as a request by a step from a configuration
abbrev pub is_asked : ℕ → Config → TakenStep → Bool
is_asked m from s = asks m (place_in s.event.strand 0 from.form) s.gift

-- how often message m comes as a request, by steps from a configuration
abbrev pub times_asked : ProgramParts → ℕ → ℕ → Config → List TakenStep → ℕ
times_asked parts service m from [] = 0
times_asked parts service m from (s ∷ steps) =
    cond (is_asked m from s) 1 0
    + unwrap_or
    (option_map (λ d. times_asked parts service m d.config steps) (after parts service from s.event.strand s.gift)) 0

-- ---- events

-- No session has an event after it ended.
abbrev pub EndsForGood : Type 0
EndsForGood =
    (parts : ProgramParts) (service : ℕ) (c : Config) (n : ℕ) (g : Given)
    → c.ended ≡ true → after parts service c n g ≡ None

-- An event ends a session exactly where it is Finish.
abbrev pub EndsByFinish : Type 0
EndsByFinish =
    (parts : ProgramParts) (service : ℕ) (c : Config) (n : ℕ) (g : Given) (d : Done)
    → after parts service c n g ≡ Some d
    → (d.config.ended ≡ true → d.event.kind ≡ kind.Finish) × (d.event.kind ≡ kind.Finish → d.config.ended ≡ true)

-- A session ends only where no request is open and no call waits.
abbrev pub EndsClean : Type 0
EndsClean =
    (parts : ProgramParts) (service : ℕ) (c : Config) (n : ℕ) (g : Given) (d : Done)
    → after parts service c n g ≡ Some d → d.event.kind ≡ kind.Finish
    → (open_requests d.config.form ≡ []) × (waiting d.config.form ≡ [])

-- An event is of the strand that it was asked of.
abbrev pub IsOfItsStrand : Type 0
IsOfItsStrand =
    (parts : ProgramParts) (service : ℕ) (c : Config) (n : ℕ) (g : Given) (d : Done)
    → after parts service c n g ≡ Some d → d.event.strand ≡ n

-- What a strand asks of the office does not hang on what the office gives.
abbrev pub AsksOneThing : Type 0
AsksOneThing =
    (parts : ProgramParts) (service : ℕ) (c : Config) (n : ℕ) (g g' : Given) (d d' : Done)
    → after parts service c n g ≡ Some d → after parts service c n g' ≡ Some d' → d.need ≡ d'.need

-- What a behaviour begins as is the normal form of what starts: of two ways to say normal form, along the behaviour and
-- along the term, the second is the first.
abbrev pub BeginsNormal : Type 0
BeginsNormal = (p : Proc) (n : ℕ) → let s = start p n in begin p n ≡ normal s.form s.next

-- What is in normal form stays, and draws no number: a second normal form equals the first.
abbrev pub NormalStays : Type 0
NormalStays = (t : Term) (n : ℕ) → let b = normal t n in normal b.form b.next ≡ b

-- ---- runs

-- The calls of one session make one run: an event after some steps is a step more.
abbrev pub GoesOn : Type 0
GoesOn =
    (parts : ProgramParts) (service : ℕ) (from mid : Config) (steps : List TakenStep) (n : ℕ) (g : Given) (d : Done)
    → Leads parts service from steps mid → after parts service mid n g ≡ Some d
    → Leads parts service from (steps ++ record { event = d.event; gift = g } ∷ []) d.config

-- By steps from any configuration each message was answered, or is still open, exactly as often as it was open before
-- or came as a request. What comes one way asks for no answer.
abbrev pub AnswersAll : Type 0
AnswersAll =
    (parts : ProgramParts) (service : ℕ) (steps : List TakenStep) (from last : Config)
    → Leads parts service from steps last
    → (m : ℕ)
    → times_replied m steps + times_open m last.form ≡ times_asked parts service m from steps + times_open m from.form

-- In every run whose messages differ, each message that came in is answered at most once, and while it is open it is
-- not answered yet; what did not come in is never answered.
abbrev pub AnswersOnce : Type 0
AnswersOnce =
    (parts : ProgramParts) (service : ℕ) (steps : List TakenStep) (last : Config)
    → RunsTo parts service steps last → ((m : ℕ) → times_in m steps ≤ 1)
    → (m : ℕ) → times_replied m steps + times_open m last.form ≤ times_in m steps

-- By steps from any configuration the answer of each call came, or it still waits, exactly as often as it waited before
-- or was sent.
abbrev pub WaitsForAll : Type 0
WaitsForAll =
    (parts : ProgramParts) (service : ℕ) (steps : List TakenStep) (from last : Config)
    → Leads parts service from steps last
    → (k : ℕ) → times_answered k steps + times_waiting k last.form ≡ times_sent k steps + times_waiting k from.form

-- No call number is sent twice, and none below the one that was next.
abbrev pub SendsOnce : Type 0
SendsOnce =
    (parts : ProgramParts) (service : ℕ) (steps : List TakenStep) (from last : Config)
    → Leads parts service from steps last
    → (k : ℕ) → (times_sent k steps ≤ 1) × (k + 1 ≤ from.call → times_sent k steps ≡ 0)

-- A session ends only where every request that came in was answered.
abbrev pub EndsAnswered : Type 0
EndsAnswered =
    (parts : ProgramParts) (service : ℕ) (steps : List TakenStep) (last : Config)
    → RunsTo parts service steps last → last.ended ≡ true → (m : ℕ) → times_open m last.form ≡ 0

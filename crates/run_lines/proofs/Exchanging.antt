-- What passed between a front over lines and its run, as it goes on.
use Rattle.std.proofs.Common.{◌≡◌, ◌⊎◌, refl, sym, ap, ap₂, subst, ◌∙◌, ℕ, zero, suc, ◌+◌, ◌<◌, ◌≤◌, nat_lt, Bool, true, false, true≢false, ◌&&◌, arith, inl, inr, ⊎_elim, List, [], ◌∷◌, ◌++◌, length, map, take}
use Rattle.std.proofs.Common.{length-append, append-nil, append_assoc, le_refl, Option, None, Some, slice_get, Result, Ok, Err, MatchResult}
use Rattle.std.specs.List.{list_all}
use Rattle.std.specs.declared.alloc.AllocError.{AllocError}
use Rattle.std.proofs.KnownBytes.{Consumes-nil, Appends-nil}
use Rattle.std.proofs.lemmas.Bool.{and_parts, and_from, lt-ltb, ltb-true}
use Rattle.std.proofs.lemmas.List.{map-append, length-map, take_all, take-append-le}
use Rattle.std.proofs.lemmas.Option.{none-some, same_Some, slice_get_within}
use Rattle.std.proofs.lemmas.List.Folds.{list_all-append}
use Rattle.behaviour_tree.specs.Data.{ProgramParts}
use Rattle.behaviour_tree.specs.declared.words.Outcome.{Outcome}
use Rattle.jsonrpc_text.specs.declared.message.Read.{Read}
use Rattle.office_core.specs.declared.front.Posting.{Posting}
use Rattle.run_theorem.specs.declared.front.Next.{Next}
use Rattle.run_theorem.specs.Exchange.{Told, Received, Sent, Exchange, IsNew}
use Rattle.run_theorem.specs.declared.front.Next.TheVariants as nexts
use Rattle.run_theorem.specs.Calls.{After, Leaves, GivesNone, IsOver, none_left, failed, most, Came, Asks, Halts, IsDue, Notes, Tells}
use Rattle.run_theorem.specs.Split.{split, whole_lines, sent_lines}
use Rattle.run_theorem.specs.Lines.{come_in, IsPrefix}
use Rattle.run_theorem.specs.Texts.{Came as Incoming, posting_of}
use Rattle.run_lines.specs.Passing.{nothing_read}
use Rattle.run_lines.specs.Reading.{Input, input_of, came_by, came_in, some, HasReceived}
use Rattle.outside_traits.specs.Told.{SinkTold}
use Rattle.run_lines.specs.Writing.{Output, output_of, faults_of, HasWritten, entire, in_lines, in_notes, HasSent}
use Rattle.run_lines.specs.Told.{line_to, line_told, lines_told}
use Rattle.run_lines.specs.Exchanged.{Sides, sides_of, WroteByThen, HasExchanged}

-- ---- before the first call

-- a front that was just made
abbrev pub just_made : Option (List ℕ) → ℕ → SinkTold → SinkTold → Sides
just_made left faults lines notes = sides_of (input_of nothing_read [] false left faults) (output_of lines notes [] false)

-- nothing came in
nothing_came : map came_by [] ≡ come_in (sent_lines (whole_lines []))
unfolding split
nothing_came = refl

-- nothing passed with it
pub nothing_exchanged : (parts : ProgramParts) (left : Option (List ℕ)) (faults : ℕ) (to_lines to_notes : SinkTold)
    → (d : Exchange) × IsNew d × HasExchanged parts (just_made left faults to_lines to_notes) (just_made left faults to_lines to_notes) d
nothing_exchanged parts left faults to_lines to_notes = (
  record {
    received = record {
      given = [];
      asked = [];
      left = None;
      waits = 0;
      moves = 0;
      ended = false;
      faults = faults;
      seen = 0;
      noted = [];
      seens = [];
    };
    sent = record {
      told = [];
      noted = [];
      halted = false;
      notes_failed = false;
      faults = faults_of (output_of to_lines to_notes [] false);
    };
  },
  record {
    given = refl;
    asked = refl;
    waits = refl;
    unmoved = refl;
    open_yet = refl;
    unseen = refl;
    unnoted = refl;
    unasked = refl;
    told = refl;
    noted = refl;
    writes = refl;
    notes_unfailed = refl;
  },
  record {
    received = record {
      read = Consumes-nil left;
      near = tt;
      passed = some refl refl refl nothing_came;
      given = refl;
      asked = refl;
      left = refl;
      waits = refl;
      moves = refl;
      faults = refl;
    };
    sent = record {
      written = Appends-nil to_lines.written;
      notes = [];
      noted = Appends-nil to_notes.written;
      halted = refl;
      wrote = entire refl refl refl refl refl refl;
      faults = refl;
    };
    places = refl;
    by_then = λ j n at. absurd (none-some n at);
    noted_by_then = ([], refl);
  },
)

-- ---- more comes in

-- an element in front is the same where more stands behind
slice_get_front : {A : Type 0} (xs ys : List A) (i : ℕ) → i < length xs → slice_get (xs ++ ys) i ≡ slice_get xs i
slice_get_front [] ys i lt = absurd (omega arith)
slice_get_front (x ∷ xs) ys zero lt = refl
slice_get_front (x ∷ xs) ys (suc i) lt = slice_get_front xs ys i (omega arith)

-- a place that was told is given
abbrev pub is_given : ℕ → Told → Bool
is_given count t = nat_lt t.place count

-- the line of a place by what came in there
abbrev line_in_place : ProgramParts → Told → Option Incoming → List ℕ
line_in_place parts t o = elim o [ None ↦ [] | Some c ↦ line_to parts c t.outcomes ]

module _ (parts : ProgramParts) (came more : List Incoming) where
  -- the line of a place is the same where more came in
  line_told-longer : (t : Told) → t.place < length came → line_told parts (came ++ more) t ≡ line_told parts came t
  line_told-longer t lt = ap (line_in_place parts t) (slice_get_front came more t.place lt)

  -- so are all lines
  lines_told-longer : (told : List Told) → list_all (is_given (length came)) told ≡ true → lines_told parts (came ++ more) told ≡ lines_told parts came told
  lines_told-longer [] h = refl
  lines_told-longer (t ∷ told) h =
      let both = and_parts (is_given (length came) t) (list_all (is_given (length came)) told) h in
      ap₂ (λ x y. x ++ y) (line_told-longer t (ltb-true t.place (length came) both.0)) (lines_told-longer told both.1)

-- places stay given where more comes in
given_longer : (m n : ℕ) → m ≤ n → (told : List Told) → list_all (is_given m) told ≡ true → list_all (is_given n) told ≡ true
given_longer m n le [] h = refl
given_longer m n le (t ∷ told) h =
    let both = and_parts (is_given m t) (list_all (is_given m) told) h in
    let lt : t.place < m = ltb-true t.place m both.0 in
    and_from (is_given n t) (list_all (is_given n) told) (lt-ltb t.place n (omega arith)) (given_longer m n le told both.1)

-- what was sent stays so where more came in
abbrev sent_longer : (parts : ProgramParts) (came later : List Incoming) (first now : Output) (s : Sent) → lines_told parts later s.told ≡ lines_told parts came s.told
    → HasSent parts came first now s → HasSent parts later first now s
sent_longer parts came later first now s same h = record {
  written = h.written;
  notes = h.notes;
  noted = h.noted;
  halted = h.halted;
  wrote = subst (λ l. HasWritten first now s.notes_failed h.notes (record { lines = l; notes = s.noted })) (sym same) h.wrote;
  faults = h.faults;
}

-- ---- what it had been told of and noted

-- the same, with how many it had been told of when it was asked, and when each posting was asked for, and with what had
-- been noted
abbrev pub with_seen : ℕ → List ℕ → List ℕ → Received → Received
with_seen count counts noted b = record b { seen = count; noted = noted; seens = counts }

-- what was received does not speak of that
received_seen : (first now : Input) (count : ℕ) (counts noted : List ℕ) (b : Received) → HasReceived first now b
    → HasReceived first now (with_seen count counts noted b)
received_seen first now count counts noted b h = record {
  read = h.read;
  near = h.near;
  passed = h.passed;
  given = h.given;
  asked = h.asked;
  left = h.left;
  waits = h.waits;
  moves = h.moves;
  faults = h.faults;
}

-- how many it had been told of when each posting was asked for, once it was asked again
abbrev pub seens_by : Next → ℕ → List ℕ → List ℕ
seens_by (nexts.Posting p) count counts = counts ++ count ∷ []
seens_by nexts.Moved count counts = counts
seens_by nexts.NotYet count counts = counts
seens_by nexts.End count counts = counts

-- what came speaks of that alone
leaves_seen : (p : Posting) (left : Option (List Posting)) (before now : Received) (count : ℕ) (counts noted : List ℕ)
    → Leaves p left before now → Leaves p left before (with_seen count counts noted now)
leaves_seen p None before now count counts noted h = h
leaves_seen p (Some ps) before now count counts noted h = h

none_seen : (before now : Received) (count : ℕ) (noted : List ℕ) → GivesNone before now
    → GivesNone before (with_seen count before.seens noted now)
none_seen before now count noted g = record { given = g.given; asked = g.asked; left = g.left; faults = g.faults; seens = refl }

over_seen : (before now : Received) (count : ℕ) (noted : List ℕ) → IsOver before now
    → IsOver before (with_seen count before.seens noted now)
over_seen before now count noted (none_left h) = none_left h
over_seen before now count noted (failed h) = failed h
over_seen before now count noted (most h) = most h

came_seen : (parts : ProgramParts) (which : Next) (before now : Received) (count : ℕ) (noted : List ℕ) → Came parts which before now
    → Came parts which before (with_seen count (seens_by which count before.seens) noted now)
came_seen parts (nexts.Posting p) before now count noted g = record {
  given = g.given;
  within = g.within;
  whose = g.whose;
  asked = g.asked;
  request = g.request;
  services = g.services;
  left = leaves_seen p before.left before now count (before.seens ++ count ∷ []) noted g.left;
  waits = g.waits;
  moves = g.moves;
  ended = g.ended;
  faults = g.faults;
  seens = refl;
}
came_seen parts nexts.Moved before now count noted g =
    record { none = none_seen before now count noted g.none; waits = g.waits; moves = g.moves; ended = g.ended }
came_seen parts nexts.NotYet before now count noted g =
    record { none = none_seen before now count noted g.none; waits = g.waits; moves = g.moves; ended = g.ended }
came_seen parts nexts.End before now count noted g = record {
  none = none_seen before now count noted g.none;
  over = over_seen before now count noted g.over;
  waits = g.waits;
  moves = g.moves;
  ended = g.ended;
}

-- ---- what was written by then

-- of the first that were told each place is given too
first_given : (p : Told → Bool) (n : ℕ) (ts : List Told) → list_all p ts ≡ true → list_all p (take n ts) ≡ true
first_given p zero ts h = refl
first_given p (suc n) [] h = refl
first_given p (suc n) (t ∷ ts) h =
    let both = and_parts (p t) (list_all p ts) h in
    and_from (p t) (list_all p (take n ts)) both.0 (first_given p n ts both.1)

-- with one count more each is one of those before, or the last
one_of_more : (counts : List ℕ) (count j n : ℕ) → slice_get (counts ++ count ∷ []) j ≡ Some n
    → (slice_get counts j ≡ Some n) ⊎ (count ≡ n)
one_of_more [] count zero n at = inr (same_Some count n at)
one_of_more [] count (suc j) n at = absurd (none-some n at)
one_of_more (c ∷ counts) count zero n at = inl at
one_of_more (c ∷ counts) count (suc j) n at = one_of_more counts count j n at

-- a front that did not halt wrote all that it was told
wrote_all : (parts : ProgramParts) (came : List Incoming) (first now : Output) (s : Sent) → s.halted ≡ false
    → HasSent parts came first now s → now.written ≡ lines_told parts came s.told
wrote_all parts came first now s running h = by h.wrote
  where
    by : HasWritten first now s.notes_failed h.notes (record { lines = lines_told parts came s.told; notes = s.noted })
        → now.written ≡ lines_told parts came s.told
    by (entire e u a b written c) = written
    by (in_lines e u rose unfailed all part) = absurd (true≢false (sym e ∙ sym h.halted ∙ running))
    by (in_notes e m rose unfailed front part) = absurd (true≢false (sym e ∙ sym h.halted ∙ running))

-- and all that was noted
noted_all : (parts : ProgramParts) (came : List Incoming) (first now : Output) (s : Sent) → s.halted ≡ false
    → (h : HasSent parts came first now s) → IsPrefix s.noted h.notes
noted_all parts came first now s running h = ([], append-nil s.noted ∙ sym (by h.wrote))
  where
    by : HasWritten first now s.notes_failed h.notes (record { lines = lines_told parts came s.told; notes = s.noted })
        → h.notes ≡ s.noted
    by (entire e u a b written noted) = noted
    by (in_lines e u rose unfailed all part) = all
    by (in_notes e m rose unfailed front part) = absurd (true≢false (sym e ∙ sym h.halted ∙ running))

-- of what is told so many were told by then, and their lines were written
abbrev WroteOf : ProgramParts → Sides → List Told → ℕ → Type 0
WroteOf parts now ts n = (n ≤ length ts) × IsPrefix (lines_told parts (came_in now.input) (take n ts)) now.output.written

longer_told : (n : ℕ) (ts more : List Told) → n ≤ length ts → n ≤ length (ts ++ more)
longer_told n ts more within = let both = length-append ts more in omega (arith, both, within)

-- a front of a front
longer_front : (xs ys zs : List ℕ) → IsPrefix xs ys → IsPrefix ys zs → IsPrefix xs zs
longer_front xs ys zs f g = (f.0 ++ g.0, sym (append_assoc xs f.0 g.0) ∙ ap (λ l. l ++ g.0) f.1 ∙ g.1)

-- it stays so where more is told, and more is written
wrote_longer : (parts : ProgramParts) (before : Sides) (output : Output) (ts more : List Told) (n : ℕ)
    → IsPrefix before.output.written output.written → WroteOf parts before ts n
    → WroteOf parts (sides_of before.input output) (ts ++ more) n
wrote_longer parts before output ts more n grew w = (
  longer_told n ts more w.0,
  subst (λ (l : List Told). IsPrefix (lines_told parts (came_in before.input) l) output.written)
      (sym (take-append-le n ts more w.0))
      (longer_front (lines_told parts (came_in before.input) (take n ts)) before.output.written output.written w.1 grew),
)

-- ---- calls

module _ (parts : ProgramParts) (A B C E F : Type 0) (a : A) (b : B) (c : C) (e : E) (f : F) (first before : Sides) (d : Exchange) (h : HasExchanged parts first before d) where
  -- the same front, as far as its outside is concerned
  abbrev pub Same : Sides → Exchange → Type 0
  Same now x = A × B × C × E × F × HasExchanged parts first now x

  -- a posting is asked for
  module _ (input : Input) (more : List Read) (longer : input.reads ≡ before.input.reads ++ more) where
    -- the front then
    abbrev asked_now : Sides
    asked_now = sides_of input before.output

    -- the lines that were told are the same
    still_lines : lines_told parts (came_in input) d.sent.told ≡ lines_told parts (came_in before.input) d.sent.told
    still_lines =
        let came : came_in input ≡ came_in before.input ++ map came_by more = ap (map came_by) longer ∙ map-append came_by before.input.reads more in
        let count : length (came_in before.input) ≡ length before.input.reads = length-map before.input.reads came_by in
        let placed : list_all (is_given (length (came_in before.input))) d.sent.told ≡ true = subst (λ n. list_all (is_given n) d.sent.told ≡ true) (sym count) h.places in
        ap (λ l. lines_told parts l d.sent.told) came ∙ lines_told-longer parts (came_in before.input) (map came_by more) d.sent.told placed

    -- what was sent stays
    abbrev still_sent : HasSent parts (came_in input) first.output before.output d.sent
    still_sent = sent_longer parts (came_in before.input) (came_in input) first.output before.output d.sent still_lines h.sent

    -- places stay given
    still_given : list_all (is_given (length input.reads)) d.sent.told ≡ true
    still_given =
        let long : length input.reads ≡ length before.input.reads + length more = ap length longer ∙ length-append before.input.reads more in
        given_longer (length before.input.reads) (length input.reads) (omega arith) d.sent.told h.places

    -- what was written by then stays so
    still_wrote : (n : ℕ) → WroteOf parts before d.sent.told n → WroteOf parts asked_now d.sent.told n
    still_wrote n w =
        let came : came_in input ≡ came_in before.input ++ map came_by more = ap (map came_by) longer ∙ map-append came_by before.input.reads more in
        let count : length (came_in before.input) ≡ length before.input.reads = length-map before.input.reads came_by in
        let placed : list_all (is_given (length (came_in before.input))) (take n d.sent.told) ≡ true =
        first_given (is_given (length (came_in before.input))) n d.sent.told (subst (λ m. list_all (is_given m) d.sent.told ≡ true) (sym count) h.places) in
        let same : lines_told parts (came_in input) (take n d.sent.told) ≡ lines_told parts (came_in before.input) (take n d.sent.told) =
        ap (λ l. lines_told parts l (take n d.sent.told)) came ∙ lines_told-longer parts (came_in before.input) (map came_by more) (take n d.sent.told) placed in
        (w.0, subst (λ l. IsPrefix l before.output.written) (sym same) w.1)

    -- all that it was told is written now
    wrote_now : d.sent.halted ≡ false → WroteOf parts asked_now d.sent.told (length d.sent.told)
    wrote_now running =
        let all : take (length d.sent.told) d.sent.told ≡ d.sent.told = take_all (length d.sent.told) d.sent.told (le_refl (length d.sent.told)) in (
          le_refl (length d.sent.told),
          (
            [],
            append-nil (lines_told parts (came_in input) (take (length d.sent.told) d.sent.told))
                ∙ ap (lines_told parts (came_in input)) all
                ∙ sym (wrote_all parts (came_in input) first.output before.output d.sent running still_sent),
          ),
        )

    -- so the same is true with what was asked for now
    wrote_asked : d.sent.halted ≡ false → (which : Next) (j n : ℕ)
        → slice_get (seens_by which (length d.sent.told) d.received.seens) j ≡ Some n → WroteOf parts asked_now d.sent.told n
    wrote_asked running (nexts.Posting p) j n at =
        ⊎_elim
        (λ (old : slice_get d.received.seens j ≡ Some n). still_wrote n (h.by_then j n old))
        (λ (last : length d.sent.told ≡ n). subst (WroteOf parts asked_now d.sent.told) last (wrote_now running))
        (one_of_more d.received.seens (length d.sent.told) j n at)
    wrote_asked running nexts.Moved j n at = still_wrote n (h.by_then j n at)
    wrote_asked running nexts.NotYet j n at = still_wrote n (h.by_then j n at)
    wrote_asked running nexts.End j n at = still_wrote n (h.by_then j n at)

    -- with what came
    with_received : (x : Received) → HasReceived first.input input x → WroteByThen parts asked_now (record { received = x; sent = d.sent })
        → IsPrefix x.noted h.sent.notes → HasExchanged parts first asked_now (record { received = x; sent = d.sent })
    with_received x k wrote noted =
        record { received = k; sent = still_sent; places = still_given; by_then = wrote; noted_by_then = noted }

    pub asked-so : d.sent.halted ≡ false → (result : Result Next AllocError)
        → MatchResult result (λ next. (x : Received) × HasReceived first.input input x × Came parts next d.received x) (λ _. HasReceived first.input input d.received)
        → MatchResult result (λ next. After (Same asked_now) (Asks parts next d)) (λ _. Same asked_now d)
    asked-so running (Ok which) came =
        let count = length d.sent.told in
        let counts = seens_by which count d.received.seens in
        let x : Received = with_seen count counts d.sent.noted came.0 in (
          record { received = x; sent = d.sent },
          (
            a,
            b,
            c,
            e,
            f,
            with_received x (received_seen first.input input count counts d.sent.noted came.0 came.1) (wrote_asked running which)
                (noted_all parts (came_in before.input) first.output before.output d.sent running h.sent),
          ),
          record { came = came_seen parts which d.received came.0 count d.sent.noted came.2; silent = refl; seen = refl; noted = refl },
        )
    asked-so running (Err error) kept = (a, b, c, e, f, with_received d.received kept (wrote_asked running nexts.End) h.noted_by_then)

  -- something is sent
  module _ (output : Output) where
    -- the front then
    abbrev sent_now : Sides
    sent_now = sides_of before.input output

    -- what was received stays, and what is sent is given
    with_sent : (s : Sent) (k : HasSent parts (came_in before.input) first.output output s) → list_all (is_given (length before.input.reads)) s.told ≡ true
        → (more : List Told) → s.told ≡ d.sent.told ++ more → IsPrefix before.output.written output.written
        → IsPrefix h.sent.notes k.notes → HasExchanged parts first sent_now (record { received = d.received; sent = s })
    with_sent s k placed more told grew taken = record {
      received = h.received;
      sent = k;
      places = placed;
      by_then = λ j n at. subst (λ (ts : List Told). WroteOf parts sent_now ts n) (sym told)
          (wrote_longer parts before output d.sent.told more n grew (h.by_then j n at));
      noted_by_then = longer_front d.received.noted h.sent.notes k.notes h.noted_by_then taken;
    }

    -- one place more was given
    placed_more : (t : Told) → t.place < length before.input.reads → list_all (is_given (length before.input.reads)) (d.sent.told ++ t ∷ []) ≡ true
    placed_more t lt =
        list_all-append (is_given (length before.input.reads)) d.sent.told (t ∷ [])
        ∙ and_from (list_all (is_given (length before.input.reads)) d.sent.told) (is_given (length before.input.reads) t && true) h.places
        (and_from (is_given (length before.input.reads) t) true (lt-ltb t.place (length before.input.reads) lt) refl)

    -- a place that is due was given
    due_given : (place : ℕ) (outcomes : List Outcome) → IsDue place outcomes d → place < length before.input.reads
    due_given place outcomes due =
        let inside : place < length d.received.given = slice_get_within d.received.given place due.posting due.given in
        let count : length d.received.given ≡ length before.input.reads =
        ap length h.received.given ∙ length-map (came_in before.input) posting_of ∙ length-map before.input.reads came_by in
        omega arith

    -- it is told of a place
    pub told-so : (place : ℕ) (outcomes : List Outcome) → IsDue place outcomes d
        → ((s : Sent) × (k : HasSent parts (came_in before.input) first.output output s) × (s.told ≡ d.sent.told ++ record { place = place; outcomes = outcomes } ∷ []) × (s.noted ≡ d.sent.noted)
        × (s.notes_failed ≡ d.sent.notes_failed) × Halts d.sent s × IsPrefix before.output.written output.written × IsPrefix h.sent.notes k.notes)
        → After (Same sent_now) (Tells place outcomes d)
    told-so place outcomes due went =
        let s = went.0 in
        let placed = subst (λ l. list_all (is_given (length before.input.reads)) l ≡ true) (sym went.2) (placed_more (record { place = place; outcomes = outcomes }) (due_given place outcomes due)) in (
          record { received = d.received; sent = s },
          (a, b, c, e, f, with_sent s went.1 placed (record { place = place; outcomes = outcomes } ∷ []) went.2 went.6 went.7),
          record { told = went.2; noted = went.3; notes_failed = went.4; halts = went.5; received = refl },
        )

    -- a text is noted
    pub noted-so : (text : List ℕ)
        → ((s : Sent) × (k : HasSent parts (came_in before.input) first.output output s) × (s.told ≡ d.sent.told) × (s.noted ≡ d.sent.noted ++ text)
        × (s.notes_failed ≡ s.halted) × Halts d.sent s × IsPrefix before.output.written output.written × IsPrefix h.sent.notes k.notes)
        → After (Same sent_now) (Notes text d)
    noted-so text went =
        let s = went.0 in
        let placed = subst (λ l. list_all (is_given (length before.input.reads)) l ≡ true) (sym went.2) h.places in (
          record { received = d.received; sent = s },
          (a, b, c, e, f, with_sent s went.1 placed [] (went.2 ∙ sym (append-nil d.sent.told)) went.6 went.7),
          record { told = went.2; noted = went.3; notes_failed = went.4; halts = went.5; received = refl },
        )

  -- want of memory before anything is sent
  pub untold-so : {T X : Type 0} (r : Result T X) (x : X) (now : Sides) (place : ℕ) (outcomes : List Outcome) → now ≡ before → r ≡ Err x
      → MatchResult r (λ _. After (Same now) (Tells place outcomes d)) (λ _. Same now d)
  untold-so r x now place outcomes same is =
      subst (λ v. MatchResult v (λ _. After (Same now) (Tells place outcomes d)) (λ _. Same now d)) (sym is)
      (a, b, c, e, f, subst (λ s. HasExchanged parts first s d) (sym same) h)

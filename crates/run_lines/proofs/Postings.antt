-- What a front over lines received, as it reads on.
use Rattle.std.proofs.Common.{◌≡◌, refl, sym, ap, subst, ◌∙◌, ℕ, zero, suc, ◌+◌, ◌<◌, ◌≤◌, min, Bool, true, false, not, arith, List, [], ◌∷◌, ◌++◌, length, take, drop, map}
use Rattle.std.proofs.Common.{append_assoc, append-nil, length-append, Option, None, Some, Result, Ok, Err, ◌⊎◌, inl, inr, ⊎_elim, count_by, cond, ◌&&◌, ◌||◌, nat_le, ap₂, MatchResult, IfOk, OnOk, OnErr}
use Rattle.std.specs.declared.alloc.AllocError.{AllocError}
use Rattle.std.proofs.lemmas.Bool.{lt-ltb, leb-true, leb-false, true≢false}
use Rattle.std.specs.List.{filter, list_all}
use Rattle.std.specs.Io.KnownBytes.{Consumes, IsAtEnd}
use Rattle.std.proofs.KnownBytes.{Consumes-trans}
use Rattle.std.proofs.lemmas.List.{take_all, length-take, map-append, length-map}
use Rattle.std.proofs.lemmas.List.Elements.{filter-append}
use Rattle.std.proofs.lemmas.List.Sums.{sum_by-cons}
use Rattle.outside_traits.specs.Causes.{Rose}
use Rattle.behaviour_tree.specs.Data.{ProgramParts}
use Rattle.jsonrpc_text.specs.Posted.{posted}
use Rattle.jolie_trees.specs.Data.{Tree}
use Rattle.jsonrpc_text.specs.declared.message.Id.{Id}
use Rattle.jsonrpc_text.specs.declared.message.Early.{Early}
use Rattle.jsonrpc_text.specs.declared.message.ReadCall.{ReadCall}
use Rattle.jsonrpc_text.specs.declared.message.Read.{Read}
use Rattle.office_core.specs.declared.front.Posting.{Posting}
use Rattle.run_theorem.specs.Exchange.{Asked, Received}
use Rattle.run_theorem.specs.declared.front.Next.{Next}
use Rattle.run_theorem.specs.declared.front.Next.TheVariants as next
use Rattle.run_theorem.specs.Calls.{most_postings, names_service, is_of, Gives, Leaves, none_left, Ends, Came}
use Rattle.run_record.specs.Order.{numbers_from}
use Rattle.run_theorem.specs.Split.{split, whole_lines, all_lines, sent_lines, is_blank, IsOpen}
use Rattle.run_theorem.specs.Texts.{call_in, posting_of}
use Rattle.run_theorem.specs.Lines.{line_in, come_in}
use Rattle.run_lines.specs.Passing.{Passing, read_in, IsLine, IsNear}
use Rattle.run_lines.specs.Reading.{Input, input_of, came_by, came_in, asked_of, HasPassed, some, last, whole, full, cut, HasReceived}
use Rattle.run_lines.specs.declared.next_line.Step.{Step}
use Rattle.run_lines.specs.declared.next_line.Step.TheVariants as step
use Rattle.run_lines.specs.FrontSteps.{Reading, IsAsBefore, IsNext, Looks, GivesLine}
use Rattle.run_lines.proofs.Splitting.{lines-passed, lines-last, lines-cut, near_passed}

-- ---- what more lines bring in

-- the first of a list have one more where they are fewer
take_room : {A : Type 0} (n : ℕ) (xs : List A) (x : A) → length (take n xs) < n → take n (xs ++ x ∷ []) ≡ take n xs ++ x ∷ []
take_room n xs x lt =
    let long : length (take n xs) ≡ min n (length xs) = length-take n xs in
    let both : length (xs ++ x ∷ []) ≡ length xs + 1 = length-append xs (x ∷ []) in
    take_all n (xs ++ x ∷ []) (omega arith) ∙ ap (λ l. l ++ x ∷ []) (sym (take_all n xs (omega arith)))

-- one line more brings one thing more in, where there is room
pub come_in-more : (lines : List (List ℕ)) (line : List ℕ) → length (come_in lines) < most_postings
    → come_in (lines ++ line ∷ []) ≡ come_in lines ++ line_in line ∷ []
come_in-more lines line lt =
    ap (take most_postings) (map-append line_in lines (line ∷ [])) ∙ take_room most_postings (map line_in lines) (line_in line) lt

-- the lines that are not blank among more lines
pub sent_lines-append : (lines more : List (List ℕ)) → sent_lines (lines ++ more) ≡ sent_lines lines ++ sent_lines more
sent_lines-append lines more = filter-append (λ line. not (is_blank line)) lines more

-- one that is blank is none of them
pub sent_lines-blank : (line : List ℕ) → is_blank line ≡ true → sent_lines (line ∷ []) ≡ []
sent_lines-blank line h = rw h

-- another is one
pub sent_lines-sent : (line : List ℕ) → is_blank line ≡ false → sent_lines (line ∷ []) ≡ line ∷ []
sent_lines-sent line h = rw h

-- a blank line behind others adds nothing
pub sent_lines-more_blank : (lines : List (List ℕ)) (line : List ℕ) → is_blank line ≡ true → sent_lines (lines ++ line ∷ []) ≡ sent_lines lines
sent_lines-more_blank lines line h =
    sent_lines-append lines (line ∷ []) ∙ ap (λ t. sent_lines lines ++ t) (sent_lines-blank line h) ∙ append-nil (sent_lines lines)

-- another adds itself
pub sent_lines-more : (lines : List (List ℕ)) (line : List ℕ) → is_blank line ≡ false → sent_lines (lines ++ line ∷ []) ≡ sent_lines lines ++ line ∷ []
sent_lines-more lines line h = sent_lines-append lines (line ∷ []) ∙ ap (λ t. sent_lines lines ++ t) (sent_lines-sent line h)

-- ---- requests

-- the numbers from one on, one more
numbers_from-more : (n k : ℕ) → numbers_from n (suc k) ≡ numbers_from n k ++ (n + k) ∷ []
numbers_from-more n zero = let same : n ≡ n + 0 = omega arith in ap (λ m. m ∷ []) same
numbers_from-more n (suc k) =
    let same : suc n + k ≡ n + suc k = omega arith in
    ap (λ l. n ∷ l) (numbers_from-more (suc n) k ∙ ap (λ m. numbers_from (suc n) k ++ m ∷ []) same)

-- a request of the lines
abbrev request_of : ℕ → Asked
request_of n = record { traffic = 0; request = n }

-- one request more
asked_of-more : (n k : ℕ) → n ≡ k + 1 → asked_of n ≡ asked_of k ++ request_of k ∷ []
asked_of-more n k e =
    let next : n ≡ suc k = omega arith in
    let same : 0 + k ≡ k = omega arith in
    ap asked_of next ∙ ap (map request_of) (numbers_from-more 0 k) ∙ map-append request_of (numbers_from 0 k) ((0 + k) ∷ [])
    ∙ ap (λ m. asked_of k ++ request_of m ∷ []) same

-- so many requests are so many
count_asked : (n k : ℕ) → count_by (is_of 0) (map request_of (numbers_from n k)) ≡ k
count_asked n zero = refl
count_asked n (suc k) =
    let same : 1 + k ≡ suc k = omega arith in
    sum_by-cons (λ a. cond (is_of 0 a) 1 0) (request_of n) (map request_of (numbers_from (suc n) k)) ∙ ap (λ m. 1 + m) (count_asked (suc n) k) ∙ same

-- ---- calls

module _ (parts : ProgramParts) (has_one : 0 < length parts.services) where
  -- a call as it comes in is to the first service
  named : (i : Id) (what : Result (List ℕ × Tree) Early) → names_service parts (call_in 0 (record { id = i; what = what })) ≡ true
  named i (Ok w) = lt-ltb 0 (length parts.services) has_one
  named i (Err e) = refl

  -- so are all calls
  all_named : (cs : List ReadCall) → list_all (names_service parts) (map (call_in 0) cs) ≡ true
  all_named [] = refl
  all_named (c ∷ cs) = ap₂ (λ x y. x && y) (named c.id c.what) (all_named cs)

-- ---- a front that has no posting any more

-- what a front received once it ended
abbrev pub ended_by : Received → ℕ → Received
ended_by b faults =
    record {
      given = b.given;
      asked = b.asked;
      left = b.left;
      waits = 0;
      moves = b.moves;
      ended = true;
      faults = faults;
      seen = b.seen;
      noted = b.noted;
      seens = b.seens;
    }

-- it ends where nothing is told to be left
ends_so : (first now : Input) (b : Received) (faults : ℕ) → b.left ≡ None → b.faults ≤ faults → Ends b (ended_by b faults)
ends_so first now b faults none later = record {
  none = record { given = refl; asked = refl; left = inl refl; faults = later; seens = refl };
  over = none_left (λ ps is. absurd (let clash : None ≡ Some ps = sym none ∙ is in cc));
  waits = refl;
  moves = refl;
  ended = refl;
}

-- how far the lines were passed once it had the last or the most
ended_passed : (first now : Input) (ended : Bool) → ended ≡ false → (now.over ≡ true) ⊎ (most_postings ≤ length now.reads)
    → HasPassed first now ended → HasPassed first now true
ended_passed first now ended yet over (some e running unfailed came) =
    let many : most_postings ≤ length now.reads = ⊎_elim (λ is. absurd (true≢false (sym is ∙ running))) (λ h. h) over in
    full refl unfailed many came
ended_passed first now ended yet over (last e stopped unfailed at_end came) = whole refl unfailed at_end came
ended_passed first now ended yet over (whole e unfailed at_end came) = absurd (true≢false (sym e ∙ yet))
ended_passed first now ended yet over (full e unfailed many came) = absurd (true≢false (sym e ∙ yet))
ended_passed first now ended yet over (cut e rose came) = absurd (true≢false (sym e ∙ yet))

-- the front ends
pub received-ended : (first now : Input) (b : Received) → (now.over ≡ true) ⊎ (most_postings ≤ length now.reads) → HasReceived first now b → b.ended ≡ false
    → (after : Received) × HasReceived first now after × Ends b after
received-ended first now b over h open_yet = (
  ended_by b b.faults,
  record {
    read = h.read;
    near = h.near;
    passed = ended_passed first now b.ended open_yet over h.passed;
    given = h.given;
    asked = h.asked;
    left = h.left;
    waits = refl;
    moves = h.moves;
    faults = h.faults;
  },
  ends_so first now b b.faults h.left (omega arith),
)

-- what a front received by an input that it reads on, behind what it had received
abbrev pub received_by : Received → Input → Received
received_by before later = record {
  given = map posting_of (came_in later);
  asked = asked_of (length later.reads);
  left = None;
  waits = 0;
  moves = before.moves;
  ended = false;
  faults = later.faults;
  seen = 0;
  noted = [];
  seens = before.seens ++ 0 ∷ [];
}

-- ---- lines are looked for

-- what came in with lines that were passed, while a front reads on
passed_so : (first now : Input) (ended : Bool) → ended ≡ false → now.over ≡ false → HasPassed first now ended
    → (now.faults ≡ first.faults) × (came_in now ≡ come_in (sent_lines (whole_lines now.passing.passed)))
passed_so first now ended yet running (some e r unfailed came) = (unfailed, came)
passed_so first now ended yet running (last e stopped unfailed at_end came) = absurd (true≢false (sym stopped ∙ running))
passed_so first now ended yet running (whole e unfailed at_end came) = absurd (true≢false (sym e ∙ yet))
passed_so first now ended yet running (full e unfailed many came) = absurd (true≢false (sym e ∙ yet))
passed_so first now ended yet running (cut e rose came) = absurd (true≢false (sym e ∙ yet))

module _ (first : Input) (reads : List Read) (over : Bool) (running : over ≡ false) (before now : Reading) (b : Received)
    (same : IsAsBefore before now) (h : HasReceived first (input_of before.passing reads over before.left before.faults) b) (open_yet : b.ended ≡ false) where
  -- what came in so far
  here : (before.faults ≡ first.faults) × (map came_by reads ≡ come_in (sent_lines (whole_lines before.passing.passed)))
  here = passed_so first (input_of before.passing reads over before.left before.faults) b.ended open_yet running h.passed

  -- all that was read is what the source gave
  read_now : Consumes first.left now.left (read_in now.passing)
  read_now =
      subst (Consumes first.left now.left) (sym same.grows.read)
      (Consumes-trans first.left before.left now.left (read_in before.passing) same.grows.bytes h.read same.grows.given)

  -- the same came in with the lines that were passed by now
  came_now : map came_by reads ≡ come_in (sent_lines (whole_lines now.passing.passed))
  came_now = here.1 ∙ ap come_in (sym same.lines)

  -- nothing came
  pub received-idle : now.faults ≡ before.faults → HasReceived first (input_of now.passing reads over now.left now.faults) b
  received-idle unfailed = record {
    read = read_now;
    near = same.near h.near;
    passed = some open_yet running (unfailed ∙ here.0) came_now;
    given = h.given;
    asked = h.asked;
    left = h.left;
    waits = h.waits;
    moves = h.moves;
    faults = h.faults ∙ sym unfailed;
  }

  -- the front ends with lines that bring nothing more in
  ended_so : HasPassed first (input_of now.passing reads true now.left now.faults) true
      → (after : Received) × HasReceived first (input_of now.passing reads true now.left now.faults) after × Ends b after
  ended_so passed = (
    ended_by b now.faults,
    record {
      read = read_now;
      near = same.near h.near;
      passed = passed;
      given = h.given;
      asked = h.asked;
      left = h.left;
      waits = refl;
      moves = h.moves;
      faults = refl;
    },
    ends_so first (input_of now.passing reads true now.left now.faults) b now.faults h.left (subst (λ n. n ≤ now.faults) (sym h.faults) same.grows.later),
  )

  module _ (ended : (split now.passing.passed).1 ≡ []) (inside : IsOpen now.passing.rest) where
    -- the source is at its end, and its last line is blank
    pub received-end : now.faults ≡ before.faults → is_blank now.passing.rest ≡ true → IsAtEnd now.left
        → (after : Received) × HasReceived first (input_of now.passing reads true now.left now.faults) after × Ends b after
    received-end unfailed blank at_end = ended_so
        (whole refl (unfailed ∙ here.0) at_end
        (came_now
        ∙ ap come_in (sym (sent_lines-more_blank (whole_lines now.passing.passed) now.passing.rest blank)
        ∙ ap sent_lines (sym (lines-last now.passing.passed now.passing.rest ended inside)))))

    -- the source failed
    pub received-cut : Rose before.faults now.faults
        → (after : Received) × HasReceived first (input_of now.passing reads true now.left now.faults) after × Ends b after
    received-cut rose = ended_so
        (cut refl (subst (λ n. Rose n now.faults) here.0 rose)
        (came_now ∙ ap (λ ls. come_in (sent_lines ls)) (sym (lines-cut now.passing.passed now.passing.rest ended inside))))

  -- ---- a posting comes

  module _ (parts : ProgramParts) (has_one : 0 < length parts.services) (room : length reads < most_postings) (line : List ℕ) where
    -- what came in with the line
    came_more : map came_by (reads ++ posted line ∷ []) ≡ come_in (sent_lines (whole_lines now.passing.passed) ++ line ∷ [])
    came_more =
        let count : length (come_in (sent_lines (whole_lines now.passing.passed))) ≡ length reads = ap length (sym came_now) ∙ length-map reads came_by in
        map-append came_by reads (posted line ∷ []) ∙ ap (λ cs. cs ++ line_in line ∷ []) came_now
        ∙ sym (come_in-more (sent_lines (whole_lines now.passing.passed)) line (subst (λ n. n < most_postings) (sym count) room))

    -- the front gives its posting
    gives_so : (p : Posting) (later : Input) → p ≡ posting_of (line_in line) → later.reads ≡ reads ++ posted line ∷ [] → later.left ≡ now.left
        → later.faults ≡ before.faults → read_in later.passing ≡ read_in now.passing → IsNear later.passing → HasPassed first later false
        → (after : Received) × HasReceived first later after × Gives parts p b after
    gives_so p later is kept left unfailed read near passed =
        let more : length later.reads ≡ length reads + 1 = ap length kept ∙ length-append reads (posted line ∷ []) in
        let given : map posting_of (came_in later) ≡ b.given ++ posting_of (line_in line) ∷ [] =
        ap (λ rs. map posting_of (map came_by rs)) kept ∙ ap (map posting_of) (map-append came_by reads (posted line ∷ []))
        ∙ map-append posting_of (map came_by reads) (line_in line ∷ []) ∙ ap (λ ps. ps ++ posting_of (line_in line) ∷ []) (sym h.given) in
        let asked : asked_of (length later.reads) ≡ b.asked ++ request_of (length reads) ∷ [] =
        asked_of-more (length later.reads) (length reads) more ∙ ap (λ rs. rs ++ request_of (length reads) ∷ []) (sym h.asked) in
        let long : length (map posting_of (came_in later)) ≡ length later.reads =
        length-map (came_in later) posting_of ∙ length-map later.reads came_by in
        subst (λ q. (after : Received) × HasReceived first later after × Gives parts q b after) (sym is) (
          received_by b later,
          record {
            read = subst (λ l. Consumes first.left l (read_in later.passing)) (sym left) (subst (Consumes first.left now.left) (sym read) read_now);
            near = near;
            passed = passed;
            given = refl;
            asked = refl;
            left = refl;
            waits = refl;
            moves = h.moves;
            faults = refl;
          },
          record {
            given = given;
            within = omega arith;
            whose = request_of (length reads);
            asked = asked;
            request = sym (ap (count_by (is_of 0)) h.asked ∙ count_asked 0 (length reads));
            services = all_named parts has_one (posted line).calls;
            left = subst (λ l. Leaves (posting_of (line_in line)) l b (received_by b later)) (sym h.left) refl;
            waits = refl;
            moves = refl;
            ended = refl;
            faults = subst (λ n. b.faults ≤ n) (sym unfailed) (subst (λ n. n ≤ before.faults) (sym h.faults) (omega arith));
            seens = refl;
          },
        )

  module _ (parts : ProgramParts) (has_one : 0 < length parts.services) (room : length reads < most_postings) (p : Posting) (later : Input)
      (left : later.left ≡ now.left) (faults : later.faults ≡ now.faults) (unfailed : now.faults ≡ before.faults) (ended : (split now.passing.passed).1 ≡ []) where
    -- the next line has its end
    pub received-line : (n : ℕ) → IsLine n now.passing.rest → is_blank (take n now.passing.rest) ≡ false
        → later.passing.passed ≡ now.passing.passed ++ take n now.passing.rest ++ 10 ∷ [] → later.passing.rest ≡ drop (n + 1) now.passing.rest
        → p ≡ posting_of (line_in (take n now.passing.rest)) → later.reads ≡ reads ++ posted (take n now.passing.rest) ∷ [] → later.over ≡ false
        → (after : Received) × HasReceived first later after × Gives parts p b after
    received-line n l sent passed rest is kept still =
        let line : List ℕ = take n now.passing.rest in
        let read : read_in later.passing ≡ read_in now.passing =
        ap₂ (λ x y. x ++ y) passed rest
        ∙ append_assoc (now.passing.passed ++ line) (10 ∷ []) (drop (n + 1) now.passing.rest)
        ∙ append_assoc now.passing.passed line (10 ∷ drop (n + 1) now.passing.rest)
        ∙ ap (λ r. now.passing.passed ++ r) (sym l.whole) in
        let lines : sent_lines (whole_lines now.passing.passed) ++ line ∷ [] ≡ sent_lines (whole_lines later.passing.passed) =
        sym (sent_lines-more (whole_lines now.passing.passed) line sent) ∙ ap sent_lines (sym (ap whole_lines passed ∙ lines-passed now.passing.passed line ended l.inside)) in
        gives_so parts has_one room line p later is kept left (faults ∙ unfailed) read
        (near_passed now.passing later.passing n l rest (same.near h.near))
        (some refl still (faults ∙ unfailed ∙ here.0) (ap (map came_by) kept ∙ came_more parts has_one room line ∙ ap come_in lines))

    -- the last line has none
    pub received-last : IsOpen now.passing.rest → is_blank now.passing.rest ≡ false → IsAtEnd now.left → later.passing ≡ now.passing
        → p ≡ posting_of (line_in now.passing.rest) → later.reads ≡ reads ++ posted now.passing.rest ∷ [] → later.over ≡ true
        → (after : Received) × HasReceived first later after × Gives parts p b after
    received-last inside sent at_end same_passing is kept over_now =
        let line : List ℕ = now.passing.rest in
        let lines : sent_lines (whole_lines now.passing.passed) ++ line ∷ [] ≡ sent_lines (all_lines (read_in later.passing)) =
        sym (sent_lines-more (whole_lines now.passing.passed) line sent)
        ∙ ap sent_lines (sym (ap (λ x. all_lines (read_in x)) same_passing ∙ lines-last now.passing.passed line ended inside)) in
        gives_so parts has_one room line p later is kept left (faults ∙ unfailed) (ap read_in same_passing)
        (subst IsNear (sym same_passing) (same.near h.near))
        (last refl over_now (faults ∙ unfailed ∙ here.0) (subst IsAtEnd (sym left) at_end) (ap (map came_by) kept ∙ came_more parts has_one room line ∙ ap come_in lines))

-- ---- calls

-- whether nothing more is read, or there were the most postings
pub all_passed : (over : Bool) (count : ℕ) → (over || nat_le most_postings count) ≡ true → (over ≡ true) ⊎ (most_postings ≤ count)
all_passed true count h = inl refl
all_passed false count h = inr (leb-true most_postings count h)

-- neither of the two
not_all_passed : (over : Bool) (count : ℕ) → (over || nat_le most_postings count) ≡ false → (over ≡ false) × (count < most_postings)
not_all_passed true count h = absurd (true≢false h)
not_all_passed false count h = (refl, leb-false most_postings count h)

-- an input by its parts
pub input_by : (i : Input) (passing : Passing) (reads : List Read) (over : Bool) (left : Option (List ℕ)) (faults : ℕ)
    → i.passing ≡ passing → i.reads ≡ reads → i.over ≡ over → i.left ≡ left → i.faults ≡ faults → input_of passing reads over left faults ≡ i
input_by i passing reads over left faults p r o l f =
    ap (λ x. input_of x reads over left faults) (sym p) ∙ ap (λ x. input_of i.passing x over left faults) (sym r)
    ∙ ap (λ x. input_of i.passing i.reads x left faults) (sym o) ∙ ap (λ x. input_of i.passing i.reads i.over x faults) (sym l)
    ∙ ap (λ x. input_of i.passing i.reads i.over i.left x) (sym f)

module _ (first : Input) (reads : List Read) (over : Bool) (before now : Reading) (b : Received)
    (running : (over || nat_le most_postings (length reads)) ≡ false)
    (h : HasReceived first (input_of before.passing reads over before.left before.faults) b) (open_yet : b.ended ≡ false) where
  -- it reads on
  on : over ≡ false
  on = (not_all_passed over (length reads) running).0

  -- memory was wanting while it looked for a line
  pub looked-unfound : IsAsBefore before now → now.faults ≡ before.faults → HasReceived first (input_of now.passing reads over now.left now.faults) b
  looked-unfound same unfailed = received-idle first reads over on before now b same h open_yet unfailed

  module _ (s : Step) (looks : Looks s before now) (later : Input) (left : later.left ≡ now.left) (faults : later.faults ≡ now.faults) where
    -- nothing came with what was read
    kept_so : now.faults ≡ before.faults → later.passing ≡ now.passing → later.reads ≡ reads → later.over ≡ over → HasReceived first later b
    kept_so unfailed p r o =
        subst (λ i. HasReceived first i b) (input_by later now.passing reads over now.left now.faults p r o left faults)
        (received-idle first reads over on before now b looks.same h open_yet unfailed)

    -- the posting of the next line, or no memory for it
    pub looked-line : (parts : ProgramParts) → 0 < length parts.services → (n : ℕ) → s ≡ step.Line n → (result : Result Next AllocError)
        → IfOk result (λ w. GivesLine (take n now.passing.rest) w reads later.reads)
        → OnOk result (later.passing.passed ≡ now.passing.passed ++ take n now.passing.rest ++ 10 ∷ [])
        → OnOk result (later.passing.rest ≡ drop (n + 1) now.passing.rest)
        → later.over ≡ over → OnErr result (later.passing ≡ now.passing) → OnErr result (later.reads ≡ reads)
        → MatchResult result (λ w. (x : Received) × HasReceived first later x × Came parts w b x) (λ _. HasReceived first later b)
    looked-line parts has_one n is (Ok w) gives passed rest still same kept =
        let k : IsNext (step.Line n) before now = subst (λ v. IsNext v before now) is looks.found in
        subst (λ v. (x : Received) × HasReceived first later x × Came parts v b x) (sym gives.given)
        (received-line first reads over on before now b looks.same h open_yet parts has_one (not_all_passed over (length reads) running).1
        (posting_of (line_in (take n now.passing.rest))) later left faults k.0 looks.ended n k.1 k.2 passed rest refl gives.kept (still ∙ on))
    looked-line parts has_one n is (Err e) gives passed rest still same kept =
        let k : IsNext (step.Line n) before now = subst (λ v. IsNext v before now) is looks.found in
        kept_so k.0 same kept still

    -- the posting of the last line, or no memory for it
    pub looked-last : (parts : ProgramParts) → 0 < length parts.services → s ≡ step.Last → (result : Result Next AllocError)
        → IfOk result (λ w. GivesLine now.passing.rest w reads later.reads) → later.passing ≡ now.passing
        → OnOk result (later.over ≡ true) → OnErr result (later.over ≡ over) → OnErr result (later.reads ≡ reads)
        → MatchResult result (λ w. (x : Received) × HasReceived first later x × Came parts w b x) (λ _. HasReceived first later b)
    looked-last parts has_one is (Ok w) gives same ends still kept =
        let k : IsNext step.Last before now = subst (λ v. IsNext v before now) is looks.found in
        subst (λ v. (x : Received) × HasReceived first later x × Came parts v b x) (sym gives.given)
        (received-last first reads over on before now b looks.same h open_yet parts has_one (not_all_passed over (length reads) running).1
        (posting_of (line_in now.passing.rest)) later left faults k.0 looks.ended k.1 k.2 k.3 same refl gives.kept ends)
    looked-last parts has_one is (Err e) gives same ends still kept =
        let k : IsNext step.Last before now = subst (λ v. IsNext v before now) is looks.found in
        kept_so k.0 same kept still

    module _ (parts : ProgramParts) (w : Next) (ends : w ≡ next.End) (same : later.passing ≡ now.passing) (kept : later.reads ≡ reads) (over_now : later.over ≡ true) where
      -- what it has read no more
      later_is : input_of now.passing reads true now.left now.faults ≡ later
      later_is = input_by later now.passing reads true now.left now.faults same kept over_now left faults

      -- the end by what is there
      ended_as : ((x : Received) × HasReceived first (input_of now.passing reads true now.left now.faults) x × Ends b x) → (x : Received) × HasReceived first later x × Came parts w b x
      ended_as k =
          subst (λ v. (x : Received) × HasReceived first later x × Came parts v b x) (sym ends)
          (k.0, subst (λ i. HasReceived first i k.0) later_is k.1, k.2)

      -- the source is at its end
      pub looked-end : s ≡ step.End → (x : Received) × HasReceived first later x × Came parts w b x
      looked-end is =
          let k : IsNext step.End before now = subst (λ v. IsNext v before now) is looks.found in
          ended_as (received-end first reads over on before now b looks.same h open_yet looks.ended k.1 k.0 k.2 k.3)

      -- the source failed
      pub looked-cut : s ≡ step.Cut → (x : Received) × HasReceived first later x × Came parts w b x
      looked-cut is =
          let k : IsNext step.Cut before now = subst (λ v. IsNext v before now) is looks.found in
          ended_as (received-cut first reads over on before now b looks.same h open_yet looks.ended k.1 k.0)

-- ---- what came in stays

-- nothing more came in
pub no_longer : (before later : List Read) → later ≡ before → (more : List Read) × (later ≡ before ++ more)
no_longer before later same = ([], same ∙ sym (append-nil before))

-- a line came in, or nothing
pub longer-by : (result : Result Next AllocError) (line : List ℕ) (before later : List Read) → IfOk result (λ w. GivesLine line w before later) → OnErr result (later ≡ before)
    → (more : List Read) × (later ≡ before ++ more)
longer-by (Ok w) line before later gives kept = (posted line ∷ [], gives.kept)
longer-by (Err e) line before later gives kept = no_longer before later kept

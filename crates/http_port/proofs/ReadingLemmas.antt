-- What a reader gives of any pieces is what the bytes hold.
use Rattle.std.proofs.Common.{◌≡◌, ℕ, ◌+◌, ◌-◌, ◌<◌, ◌≤◌, ◌⊎◌, inl, inr, Bool, true, false, not, cond, ◌&&◌, ltb, List, [], ◌∷◌, ◌++◌, length, take, drop, Some, None, sym, refl, ap, ◌∙◌, subst, arith, length-append, append_assoc, append-nil}
use Rattle.std.specs.Prelude.{Option}
use Rattle.std.specs.List.{concat}
use Rattle.std.proofs.Math.Logic.{∥∥₁_map, ∥∥₁_elim, ∥∥₁_prop}
use Rattle.std.proofs.lemmas.Bool.{lt-ltb, le-ltb, cases_lt}
use Rattle.std.proofs.lemmas.List.{take-append-le, drop-append-le, length-take, length-drop}
use Rattle.httparse.proofs.GrammarLemmas.{request_unique}
use Rattle.http_port.specs.declared.verdict.Admission.{Admission}
use Rattle.http_port.specs.declared.verdict.Verdict.{Verdict}
use Rattle.http_port.specs.declared.verdict.Verdict.TheVariants.{Pending, Refuses, Admits}
use Rattle.http_port.specs.declared.head_reader.Fed.{Fed}
use Rattle.http_port.specs.declared.head_reader.Fed.TheVariants.{NotYet, Interim, Request, Refused}
use Rattle.http_port.specs.declared.head_reader.Stage.{Stage}
use Rattle.http_port.specs.declared.head_reader.Stage.TheVariants as Waits
use Rattle.http_port.specs.HeadPart.{lines, part_length, longest_head, head_part}
use Rattle.http_port.specs.Rules.{head_of, verdict_of, JudgesPart, JudgesBy, Judges}
use Rattle.http_port.specs.Feeding.{Place, Open, Over, Spent, body_of, behind, next_in_body, next, Gives, Feeds, place_of, StageHolds}
use Rattle.http_port.specs.Walks.{Asks, AsksWhereGiven}
use Rattle.http_port.specs.Connections.{Reading, waits, refuses, lacks, closes, goes_on, given_first, given, Run, without_waits}
use Rattle.http_port.proofs.PartLemmas.{head_part_grows, head_part_within}
use Rattle.http_port.proofs.JudgeLemmas.{admits_grows}

part_unique : (part : List ℕ) (v w : Verdict) → JudgesPart part v → JudgesPart part w → v ≡ w
part_unique part v w (inl x) (inl y) =
    x.2 ∙ ap (λ h. verdict_of (head_of h)) (request_unique part x.0 y.0 x.1.rest y.1.rest x.1.reads y.1.reads).0 ∙ sym y.2
part_unique part v w (inl x) (inr y) = absurd (y.0 x.0 x.1)
part_unique part v w (inr x) (inl y) = absurd (x.0 y.0 y.1)
part_unique part v w (inr x) (inr y) = x.1 ∙ sym y.1

-- the bytes are judged in one way
pub judges_unique : (bytes : List ℕ) (v w : Verdict) → Judges bytes v → Judges bytes w → v ≡ w
judges_unique bytes v w = by_part (head_part bytes)
  where
    by_part : (o : Option ℕ) → JudgesBy bytes o v → JudgesBy bytes o w → v ≡ w
    by_part None x y = x ∙ sym y
    by_part (Some n) x y = part_unique (take n bytes) v w x y

same_admission : (a b : Admission) → Admits a ≡ Admits b → a ≡ b
same_admission a b e = cc

same_status : (s t : ℕ) → Refuses s ≡ Refuses t → s ≡ t
same_status s t e = cc

-- what is still to come of what was given, where the interim line of the first head was
abbrev pub still : Bool → List Fed → List Fed
still asked fs = cond asked (drop 1 fs) fs

-- from this place, with more bytes to come, a reader gives these
abbrev pub Went : Place → List ℕ → List Fed → Type 0
Went (Open left asked) more fs = ((r : Reading (left ++ more)) × (fs ≡ still asked (given (left ++ more) r))) × (asked ≡ true → Asks left)
Went Over more fs = fs ≡ []
Went Spent more fs = ⊥

-- what follows the first head of a reading
abbrev pub Tail : List ℕ → Admission → List Fed → Type 0
Tail bytes a tail =
    ((length bytes < a.head + a.body) × (tail ≡ []))
    ⊎ (((a.head + a.body ≤ length bytes) × (a.close ≡ true) × (tail ≡ Request (body_of bytes a) a.close ∷ []))
    ⊎ ((a.head + a.body ≤ length bytes) × (a.close ≡ false)
    × ((r : Reading (drop (a.head + a.body) bytes)) × (tail ≡ Request (body_of bytes a) a.close ∷ given (drop (a.head + a.body) bytes) r))))

abbrev HasTail : List ℕ → List Fed → Admission → Type 0
HasTail bytes fs a = (tail : List Fed) × (fs ≡ given_first a ++ tail) × Tail bytes a tail

pub tail_of : (bytes : List ℕ) (a : Admission) → Judges bytes (Admits a) → (r : Reading bytes) → HasTail bytes (given bytes r) a
tail_of bytes a j (waits _ k) = let e = judges_unique bytes Pending (Admits a) k j in absurd (cc)
tail_of bytes a j (refuses _ s k) = let e = judges_unique bytes (Refuses s) (Admits a) k j in absurd (cc)
tail_of bytes a j (lacks _ b k short) =
    subst (HasTail bytes (given_first b)) (same_admission b a (judges_unique bytes (Admits b) (Admits a) k j))
    ([], sym (append-nil (given_first b)), inl (short, refl))
tail_of bytes a j (closes _ b k whole close) =
    subst (HasTail bytes (given_first b ++ Request (body_of bytes b) b.close ∷ [])) (same_admission b a (judges_unique bytes (Admits b) (Admits a) k j))
    (Request (body_of bytes b) b.close ∷ [], refl, inr (inl (whole, close, refl)))
tail_of bytes a j (goes_on _ b k whole stays rest) =
    let n = b.head + b.body in
    subst (HasTail bytes (given_first b ++ Request (body_of bytes b) b.close ∷ given (drop n bytes) rest)) (same_admission b a (judges_unique bytes (Admits b) (Admits a) k j))
    (Request (body_of bytes b) b.close ∷ given (drop n bytes) rest, refl, inr (inr (whole, stays, (rest, refl))))

-- bytes that are refused hold that alone
pub refusal_given : (bytes : List ℕ) (s : ℕ) → Judges bytes (Refuses s) → (r : Reading bytes) → given bytes r ≡ Refused s ∷ []
refusal_given bytes s j (waits _ k) = let e = judges_unique bytes Pending (Refuses s) k j in absurd (cc)
refusal_given bytes s j (refuses _ t k) = ap (λ u. Refused u ∷ []) (same_status t s (judges_unique bytes (Refuses t) (Refuses s) k j))
refusal_given bytes s j (lacks _ b k short) = let e = judges_unique bytes (Admits b) (Refuses s) k j in absurd (cc)
refusal_given bytes s j (closes _ b k whole close) = let e = judges_unique bytes (Admits b) (Refuses s) k j in absurd (cc)
refusal_given bytes s j (goes_on _ b k whole stays rest) = let e = judges_unique bytes (Admits b) (Refuses s) k j in absurd (cc)

-- bytes of which nothing is judged yet hold nothing
pub pending_given : (bytes : List ℕ) → Judges bytes Pending → (r : Reading bytes) → given bytes r ≡ []
pending_given bytes j (waits _ k) = refl
pending_given bytes j (refuses _ t k) = let e = judges_unique bytes (Refuses t) Pending k j in absurd (cc)
pending_given bytes j (lacks _ b k short) = let e = judges_unique bytes (Admits b) Pending k j in absurd (cc)
pending_given bytes j (closes _ b k whole close) = let e = judges_unique bytes (Admits b) Pending k j in absurd (cc)
pending_given bytes j (goes_on _ b k whole stays rest) = let e = judges_unique bytes (Admits b) Pending k j in absurd (cc)

-- a reading of equal bytes
reading_along : (x y : List ℕ) → x ≡ y → (r : Reading x) → (s : Reading y) × (given x r ≡ given y s)
reading_along x y e r = subst (λ z. (s : Reading z) × (given x r ≡ given z s)) e (r, refl)

drop_longest : (bytes more : List ℕ) → longest_head ≤ length bytes → take longest_head (bytes ++ more) ≡ take longest_head bytes
drop_longest bytes more long = take-append-le longest_head bytes more long

-- a refusal stays one with more bytes
pub refuses_grows : (bytes more : List ℕ) (s : ℕ) → Judges bytes (Refuses s) → Judges (bytes ++ more) (Refuses s)
refuses_grows bytes more s h = by_part (head_part bytes) refl h
  where
    long_enough : (t : Bool) → ltb (length bytes) longest_head ≡ t → Refuses s ≡ cond t Pending (Refuses 431) → (longest_head ≤ length bytes) × (Refuses s ≡ Refuses 431)
    long_enough true e is = absurd (cc)
    long_enough false e is = elim (cases_lt (length bytes) longest_head) [
      | inl short ↦ let f = lt-ltb (length bytes) longest_head short in absurd (cc)
      | inr long ↦ (long, is)
    ]

    by_part : (o : Option ℕ) → head_part bytes ≡ o → JudgesBy bytes o (Refuses s) → Judges (bytes ++ more) (Refuses s)
    by_part None e j =
        let long = long_enough (ltb (length bytes) longest_head) refl j in
        let enough = long.0 in
        let none : head_part (bytes ++ more) ≡ None = ap (λ front. part_length false (lines front)) (drop_longest bytes more long.0) ∙ e in
        let far : longest_head ≤ length (bytes ++ more) = omega (arith, length-append bytes more) in
        subst (λ o. JudgesBy (bytes ++ more) o (Refuses s)) (sym none)
        (long.1 ∙ sym (ap (λ t. cond t Pending (Refuses 431)) (le-ltb (length (bytes ++ more)) longest_head far)))
    by_part (Some n) e j =
        let within = head_part_within bytes n e in
        let inside : n ≤ length bytes = omega (arith, length-take longest_head bytes) in
        subst (λ o. JudgesBy (bytes ++ more) o (Refuses s)) (sym (head_part_grows bytes more n e))
        (subst (λ part. JudgesPart part (Refuses s)) (sym (take-append-le n bytes more inside)) j)

-- the body of a whole request stays the same with more bytes
body_same : (bytes more : List ℕ) (a : Admission) → a.head + a.body ≤ length bytes → body_of (bytes ++ more) a ≡ body_of bytes a
body_same bytes more a whole =
    ap (take (a.head + a.body - a.head)) (drop-append-le a.head bytes more (omega arith))
    ∙ take-append-le (a.head + a.body - a.head) (drop a.head bytes) more (omega (arith, length-drop a.head bytes))

-- what one call shows
abbrev pub shown : Fed → List Fed
shown fed = without_waits (fed ∷ [])

still_first : (i : Bool) (tail : List Fed) → still i (cond i (Interim ∷ []) [] ++ tail) ≡ tail
still_first true tail = refl
still_first false tail = refl

-- what comes of a call, and what is to come then
abbrev pub Comes : List ℕ → List Fed → Fed × Place → Type 0
Comes more fs x = (gs : List Fed) × (fs ≡ shown x.0 ++ gs) × Went x.1 more gs

-- in a body
comes_in_body : (b more : List ℕ) (a : Admission) (fs : List Fed) → Judges b (Admits a) → (r : Reading (b ++ more))
    → (t : HasTail (b ++ more) (given (b ++ more) r) a) → fs ≡ t.0 → Comes more fs (next_in_body b a)
comes_in_body b more a fs j r t e = elim (cases_lt (length b) (a.head + a.body)) [
  | inl short ↦
      subst (λ u. Comes more fs (cond u (NotYet, Open b a.interim) (Request (body_of b a) a.close, behind b a))) (sym (lt-ltb (length b) (a.head + a.body) short))
      (t.0, e, ((r, sym (ap (still a.interim) t.1 ∙ still_first a.interim t.0)), λ i. (a, j, i)))
  | inr whole ↦
      subst (λ u. Comes more fs (cond u (NotYet, Open b a.interim) (Request (body_of b a) a.close, behind b a))) (sym (le-ltb (length b) (a.head + a.body) whole))
      (by_tail whole t.2)
]
  where
    by_tail : a.head + a.body ≤ length b → Tail (b ++ more) a t.0 → Comes more fs (Request (body_of b a) a.close, behind b a)
    by_tail whole (inl x) = let short = x.0 in absurd (omega (arith, length-append b more))
    by_tail whole (inr (inl x)) = (
      [],
      e ∙ x.2 ∙ ap (λ body. Request body a.close ∷ []) (body_same b more a whole),
      subst (λ close. Went (cond close Over (Open (drop (a.head + a.body) b) false)) more []) (sym x.1) refl,
    )
    by_tail whole (inr (inr x)) =
        let n = a.head + a.body in
        let rest = reading_along (drop n (b ++ more)) (drop n b ++ more) (drop-append-le n b more whole) x.2.0 in (
          given (drop n b ++ more) rest.0,
          e ∙ x.2.1 ∙ ap (λ body. Request body a.close ∷ given (drop n (b ++ more)) x.2.0) (body_same b more a whole) ∙ ap (λ gs. Request (body_of b a) a.close ∷ gs) rest.1,
          subst (λ close. Went (cond close Over (Open (drop n b) false)) more (given (drop n b ++ more) rest.0)) (sym x.1)
              ((rest.0, refl), λ f. absurd (cc)),
        )

-- one call from an open place
comes : (b more : List ℕ) (asked : Bool) (v : Verdict) → Judges b v → (asked ≡ true → Asks b) → (r : Reading (b ++ more))
    → Comes more (still asked (given (b ++ more) r)) (next b asked v)
comes b more true Pending j asks r = let x = asks refl in let e = judges_unique b Pending (Admits x.0) j x.1 in absurd (cc)
comes b more false Pending j asks r = (given (b ++ more) r, refl, ((r, refl), λ f. absurd (cc)))
comes b more true (Refuses s) j asks r = let x = asks refl in let e = judges_unique b (Refuses s) (Admits x.0) j x.1 in absurd (cc)
comes b more false (Refuses s) j asks r = ([], refusal_given (b ++ more) s (refuses_grows b more s j) r, refl)
comes b more asked (Admits a) j asks r = by_tests a.interim asked refl refl
  where
    tail : HasTail (b ++ more) (given (b ++ more) r) a
    tail = tail_of (b ++ more) a (admits_grows b more a j) r

    seen : (i k : Bool) → a.interim ≡ i → asked ≡ k → still asked (given (b ++ more) r) ≡ still k (cond i (Interim ∷ []) [] ++ tail.0)
    seen i k e f = ap (λ u. still u (given (b ++ more) r)) f ∙ ap (still k) tail.1 ∙ ap (λ u. still k (cond u (Interim ∷ []) [] ++ tail.0)) e

    by_tests : (i k : Bool) → a.interim ≡ i → asked ≡ k → Comes more (still asked (given (b ++ more) r)) (cond (i && not k) (Interim, Open b true) (next_in_body b a))
    by_tests true true e f = comes_in_body b more a _ j r tail (seen true true e f)
    by_tests true false e f =
        (tail.0, seen true false e f, ((r, sym (ap (drop 1) (tail.1 ∙ ap (λ u. cond u (Interim ∷ []) [] ++ tail.0) e))), λ g. (a, j, e)))
    by_tests false true e f =
        let x = asks f in let same = same_admission x.0 a (judges_unique b (Admits x.0) (Admits a) x.1 j) in
        let i = ap (λ (y : Admission). y.interim) same in let yes = x.2 in absurd (cc)
    by_tests false false e f = comes_in_body b more a _ j r tail (seen false false e f)

pub asks_grow : (left piece : List ℕ) → Asks left → Asks (left ++ piece)
asks_grow left piece x = (x.0, admits_grows left piece x.0 x.1, x.2)

-- one call, from any place
pub step : (old : Place) (piece more : List ℕ) (fed : Fed) (mid : Place) (fs : List Fed) → Feeds old piece fed mid → Went old (piece ++ more) fs
    → ∥ Comes more fs (fed, mid) ∥₁
step (Open left asked) piece more fed mid fs feeds went = ∥∥₁_map feeds given_so
  where
    b : List ℕ
    b = left ++ piece

    given_so : Gives (left ++ piece) asked fed mid → Comes more fs (fed, mid)
    given_so g =
        let r = reading_along (left ++ (piece ++ more)) (left ++ piece ++ more) (sym (append_assoc left piece more)) went.0.0 in
        let same = went.0.1 ∙ ap (still asked) r.1 in
        subst (λ gs. Comes more gs (fed, mid)) (sym same)
        (subst (Comes more (still asked (given (left ++ piece ++ more) r.0))) (sym g.2)
        (comes (left ++ piece) more asked g.0 g.1 (λ e. asks_grow left piece (went.1 e)) r.0))
step Over piece more fed mid fs feeds went =
    ∣ subst (λ x. Comes more fs (x, mid)) (sym feeds.0) (subst (λ x. Comes more fs (NotYet, x)) (sym feeds.1) ([], went, refl)) ∣₁
step Spent piece more fed mid fs feeds went = absurd went

without_waits-cons : (fed : Fed) (feds : List Fed) → without_waits (fed ∷ feds) ≡ shown fed ++ without_waits feds
without_waits-cons NotYet feds = refl
without_waits-cons Interim feds = refl
without_waits-cons (Request body close) feds = refl
without_waits-cons (Refused status) feds = refl

-- calls in a row
abbrev pub ComesOf : List ℕ → List Fed → List Fed → Place → Type 0
ComesOf more fs feds new = (gs : List Fed) × (fs ≡ without_waits feds ++ gs) × Went new more gs

pub run_goes : (old : Place) (pieces : List (List ℕ)) (feds : List Fed) (new : Place) (more : List ℕ) (fs : List Fed)
    → Run old pieces feds new → Went old (concat pieces ++ more) fs → ∥ ComesOf more fs feds new ∥₁
run_goes old [] [] new more fs run went = ∣ (fs, refl, subst (λ p. Went p more fs) (sym run) went) ∣₁
run_goes old [] (fed ∷ feds) new more fs run went = absurd run
run_goes old (piece ∷ pieces) [] new more fs run went = absurd run
run_goes old (piece ∷ pieces) (fed ∷ feds) new more fs run went =
    ∥∥₁_elim (step old piece (concat pieces ++ more) fed run.0 fs run.1 (subst (λ l. Went old l fs) (append_assoc piece (concat pieces) more) went)) ∥∥₁_prop
    (λ x. ∥∥₁_map (run_goes run.0 pieces feds new more x.0 run.2 x.2)
    (λ y. (y.0, x.1 ∙ ap (λ gs. shown fed ++ gs) y.1 ∙ sym (append_assoc (shown fed) (without_waits feds) y.0) ∙ ap (λ gs. gs ++ y.0) (sym (without_waits-cons fed feds)), y.2)))

pub gives_a_front : (pieces : List (List ℕ)) (feds : List Fed) (place : Place) → Run (Open [] false) pieces feds place
    → (reading : Reading (concat pieces)) → ∥ ((rest : List Fed) × (given (concat pieces) reading ≡ without_waits feds ++ rest)) ∥₁
gives_a_front pieces feds place run reading =
    let r = reading_along (concat pieces) (concat pieces ++ []) (sym (append-nil (concat pieces))) reading in
    ∥∥₁_map (run_goes (Open [] false) pieces feds place [] (given (concat pieces ++ []) r.0) run ((r.0, refl), λ f. absurd (cc)))
    (λ x. (x.0, r.1 ∙ x.1))

-- a call that brings nothing leaves nothing to come of the bytes so far
quiet_in_body : (b : List ℕ) (a : Admission) (mid : Place) (gs : List Fed) → Judges b (Admits a) → (NotYet, mid) ≡ next_in_body b a → Went mid [] gs → gs ≡ []
quiet_in_body b a mid gs j e went = elim (cases_lt (length b) (a.head + a.body)) [
  | inl short ↦
      let is = e ∙ ap (λ t. cond t (NotYet, Open b a.interim) (Request (body_of b a) a.close, behind b a)) (lt-ltb (length b) (a.head + a.body) short) in
      at_place short (subst (λ p. Went p [] gs) (ap (λ x. x.1) is) went)
  | inr whole ↦
      let is = e ∙ ap (λ t. cond t (NotYet, Open b a.interim) (Request (body_of b a) a.close, behind b a)) (le-ltb (length b) (a.head + a.body) whole) in
      let f = ap (λ x. x.0) is in absurd (cc)
]
  where
    by_tail : length b < a.head + a.body → (tail : List Fed) → Tail (b ++ []) a tail → tail ≡ []
    by_tail short tail (inl x) = x.1
    by_tail short tail (inr (inl x)) = let whole = x.0 in absurd (omega (arith, length-append b []))
    by_tail short tail (inr (inr x)) = let whole = x.0 in absurd (omega (arith, length-append b []))

    at_place : length b < a.head + a.body → Went (Open b a.interim) [] gs → gs ≡ []
    at_place short went =
        let t = tail_of (b ++ []) a (admits_grows b [] a j) went.0.0 in
        went.0.1 ∙ ap (still a.interim) t.1 ∙ still_first a.interim t.0 ∙ by_tail short t.0 t.2

quiet_next : (b : List ℕ) (asked : Bool) (v : Verdict) (mid : Place) (gs : List Fed) → Judges b v → (NotYet, mid) ≡ next b asked v → Went mid [] gs → gs ≡ []
quiet_next b asked Pending mid gs j e went =
    let at = subst (λ p. Went p [] gs) (ap (λ x. x.1) e) went in
    at.0.1 ∙ pending_given (b ++ []) (subst (λ l. Judges l Pending) (sym (append-nil b)) j) at.0.0
quiet_next b asked (Refuses s) mid gs j e went = let f = ap (λ x. x.0) e in absurd (cc)
quiet_next b asked (Admits a) mid gs j e went = by_test (a.interim && not asked) e
  where
    by_test : (t : Bool) → (NotYet, mid) ≡ cond t (Interim, Open b true) (next_in_body b a) → gs ≡ []
    by_test true is = let f = ap (λ x. x.0) is in absurd (cc)
    by_test false is = quiet_in_body b a mid gs j is went

pub quiet : (old : Place) (piece : List ℕ) (mid : Place) (gs : List Fed) → Feeds old piece NotYet mid → Went mid [] gs → ∥ (gs ≡ []) ∥₁
quiet (Open left asked) piece mid gs feeds went = ∥∥₁_map feeds (λ g. quiet_next (left ++ piece) asked g.0 mid gs g.1 g.2 went)
quiet Over piece mid gs feeds went = ∣ subst (λ p. Went p [] gs) feeds.1 went ∣₁
quiet Spent piece mid gs feeds went = absurd feeds

pub gives_all : (pieces : List (List ℕ)) (feds : List Fed) (mid place : Place) (piece : List ℕ)
    → Run (Open [] false) pieces feds mid → Feeds mid piece NotYet place
    → (reading : Reading (concat pieces ++ piece)) → ∥ (given (concat pieces ++ piece) reading ≡ without_waits feds) ∥₁
gives_all pieces feds mid place piece run feeds reading =
    ∥∥₁_elim (run_goes (Open [] false) pieces feds mid piece (given (concat pieces ++ piece) reading) run ((reading, refl), λ f. absurd (cc))) ∥∥₁_prop
    (λ x. ∥∥₁_elim (step mid piece [] NotYet place x.0 feeds (subst (λ l. Went mid l x.0) (sym (append-nil piece)) x.2)) ∥∥₁_prop
    (λ y. ∥∥₁_map (quiet mid piece place y.0 feeds y.2)
    (λ z. x.1 ∙ ap (λ gs. without_waits feds ++ gs) (y.1 ∙ z) ∙ append-nil (without_waits feds))))

-- the interim line was given of a head that asks for it
pub asks_where_given : (unread : List ℕ) (stage : Stage) → ∥ StageHolds unread stage ∥₁ → AsksWhereGiven (place_of unread stage)
asks_where_given unread (Waits.Head scan) held = λ e. absurd (cc)
asks_where_given unread (Waits.Body a) held = λ e. ∥∥₁_map held (λ judged. (a, judged, e))
asks_where_given unread Waits.Over held = tt
asks_where_given unread Waits.Spent held = tt

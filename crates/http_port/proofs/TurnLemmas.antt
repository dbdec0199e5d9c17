-- Turns of serving in a row.
use Rattle.std.proofs.Common.{◌≡◌, ◌<◌, ℕ, ◌⊎◌, inl, inr, Bool, true, false, cond, List, [], ◌∷◌, ◌++◌, length, take, drop, Some, None, sym, refl, ap, ◌∙◌, subst, append_assoc, append-nil, length-append, take-append-drop, suc, arith}
use Rattle.std.specs.Prelude.{Option}
use Rattle.std.specs.Io.{StartsWith}
use Rattle.std.proofs.Math.Seq.{take-append_seam}
use Rattle.std.proofs.lemmas.List.{length-take}
use Rattle.http_port.specs.declared.head_reader.Fed.{Fed}
use Rattle.http_port.specs.declared.head_reader.Fed.TheVariants.{NotYet, Interim, Request, Refused}
use Rattle.http_port.specs.declared.serve.Said.{Said}
use Rattle.http_port.specs.declared.serve.Said.TheVariants as Says
use Rattle.http_port.specs.declared.serving.WireEnd.{WireEnd}
use Rattle.http_port.specs.declared.serving.WireEnd.TheVariants as Ends
use Rattle.http_port.specs.declared.turn.Turn.TheVariants as Turns
use Rattle.http_port.specs.Connections.{without_waits}
use Rattle.http_port.specs.Responses.{interim, response}
use Rattle.http_port.specs.Talk.{answer}
use Rattle.http_port.specs.Serving.{texts, AllAtOnce, bodies_in, IsLastGiven, lost_behind}
use Rattle.http_port.specs.Turns.{turn_behind, Writes, Answers, Reacts}
use Rattle.http_port.proofs.ReadingLemmas.{shown}
use Rattle.http_port.proofs.TalkLemmas.{spoken, closed_by, ended}

-- this is said at once: a text, or that there is none
abbrev pub IsAtOnce : Said → Option (List ℕ) → Type 0
IsAtOnce (Says.Text bytes) text = text ≡ Some bytes
IsAtOnce Says.Nothing text = text ≡ None
IsAtOnce Says.Later text = ⊥

-- for what a reader gave this was said and written, and no turn was the last
abbrev pub Spoke : List Fed → List Said → List ℕ → Type 0
Spoke [] said went = (said ≡ []) × (went ≡ [])
Spoke (NotYet ∷ more) said went = Spoke more said went
Spoke (Interim ∷ more) said went = (rest : List ℕ) × (went ≡ interim ++ rest) × Spoke more said rest
Spoke (Request body close ∷ more) said went =
    (text : Option (List ℕ)) × (first : Said) × (later : List Said) × (rest : List ℕ)
    × IsAtOnce first text × (close ≡ false) × (said ≡ first ∷ later) × (went ≡ answer text close ++ rest) × Spoke more later rest
Spoke (Refused status ∷ more) said went = ⊥

pub spoke-append : (fs gs : List Fed) (s t : List Said) (w v : List ℕ) → Spoke fs s w → Spoke gs t v → Spoke (fs ++ gs) (s ++ t) (w ++ v)
spoke-append [] gs s t w v p q =
    subst (λ l. Spoke gs (l ++ t) (w ++ v)) (sym p.0) (subst (λ l. Spoke gs t (l ++ v)) (sym p.1) q)
spoke-append (NotYet ∷ fs) gs s t w v p q = spoke-append fs gs s t w v p q
spoke-append (Interim ∷ fs) gs s t w v p q =
    (p.0 ++ v, ap (λ l. l ++ v) p.1 ∙ append_assoc interim p.0 v, spoke-append fs gs s t p.0 v p.2 q)
spoke-append (Request b c ∷ fs) gs s t w v p q = (
  p.0,
  p.1,
  p.2 ++ t,
  p.3 ++ v,
  p.4,
  p.5,
  ap (λ l. l ++ t) p.6,
  ap (λ l. l ++ v) p.7 ∙ append_assoc (answer p.0 c) p.3 v,
  spoke-append fs gs p.2 t p.3 v p.8 q,
)
spoke-append (Refused status ∷ fs) gs s t w v p q = absurd p

stays_open : (c : Bool) → Turns.GoesOn ≡ turn_behind c → c ≡ false
stays_open true e = absurd (cc)
stays_open false e = refl

never_waits : (c : Bool) → Turns.Waits ≡ turn_behind c → ⊥
never_waits true e = cc
never_waits false e = cc

-- one turn that goes on
pub spoke_turn : (fed : Fed) (said : List Said) (went : List ℕ) → Reacts fed said went Turns.GoesOn → Spoke (fed ∷ []) said went
spoke_turn NotYet said went r = (r.0, r.1)
spoke_turn Interim said went r = elim r.1 [
  | inl x ↦ ([], x.0 ∙ sym (append-nil interim), (r.0, refl))
  | inr y ↦ let e = y.3 in absurd (cc)
]
spoke_turn (Request body close) said went r = by_said r.0 r.1 r.2
  where
    by_writes : (text : Option (List ℕ)) (first : Said) → IsAtOnce first text → said ≡ first ∷ []
        → Writes (answer text close) (turn_behind close) went Turns.GoesOn → Spoke (Request body close ∷ []) said went
    by_writes text first at e (inl x) = (text, first, [], [], at, stays_open close x.1, e, x.0 ∙ sym (append-nil (answer text close)), (refl, refl))
    by_writes text first at e (inr y) = let f = y.3 in absurd (cc)

    by_said : (first : Said) → said ≡ first ∷ [] → Answers first close went Turns.GoesOn → Spoke (Request body close ∷ []) said went
    by_said (Says.Text bytes) e x = by_writes (Some bytes) (Says.Text bytes) refl e x
    by_said Says.Nothing e x = by_writes None Says.Nothing refl e x
    by_said Says.Later e x = let f = x.1 in absurd (cc)
spoke_turn (Refused status) said went r = elim r.1 [
  | inl x ↦ let e = x.1 in absurd (cc)
  | inr y ↦ let e = y.3 in absurd (cc)
]

-- only where a reader gives nothing yet a turn waits
pub waiting_turn : (fed : Fed) (said : List Said) (went : List ℕ) → Reacts fed said went Turns.Waits → (fed ≡ NotYet) × (said ≡ []) × (went ≡ [])
waiting_turn NotYet said went r = (refl, r.0, r.1)
waiting_turn Interim said went r = elim r.1 [
  | inl x ↦ let e = x.1 in absurd (cc)
  | inr y ↦ let e = y.3 in absurd (cc)
]
waiting_turn (Request body close) said went r = absurd (by_said r.0 r.2)
  where
    by_writes : (text : List ℕ) → Writes text (turn_behind close) went Turns.Waits → ⊥
    by_writes text (inl x) = never_waits close x.1
    by_writes text (inr y) = let f = y.3 in cc

    by_said : (first : Said) → Answers first close went Turns.Waits → ⊥
    by_said (Says.Text bytes) x = by_writes (answer (Some bytes) close) x
    by_said Says.Nothing x = by_writes (answer None close) x
    by_said Says.Later x = let f = x.1 in cc
waiting_turn (Refused status) said went r = elim r.1 [
  | inl x ↦ let e = x.1 in absurd (cc)
  | inr y ↦ let e = y.3 in absurd (cc)
]

-- a turn that waits is one that goes on, too
pub spoke_waiting : (fed : Fed) (said : List Said) (went : List ℕ) → Reacts fed said went Turns.Waits → Spoke (fed ∷ []) said went
spoke_waiting fed said went r =
    let w = waiting_turn fed said went r in
    subst (λ f. Spoke (f ∷ []) said went) (sym w.0) (w.1, w.2)

texts_at_once : (first : Said) (text : Option (List ℕ)) → IsAtOnce first text → (more : List Said) → texts (first ∷ more) ≡ text ∷ texts more
texts_at_once (Says.Text bytes) text e more = ap (λ u. u ∷ texts more) (sym e)
texts_at_once Says.Nothing text e more = ap (λ u. u ∷ texts more) (sym e)
texts_at_once Says.Later text e more = absurd e

ended_at_once : (first : Said) (text : Option (List ℕ)) → IsAtOnce first text → (body : List ℕ) (close : Bool) (fs : List Fed) (more : List Said)
    → close ≡ false → ended (Request body close ∷ fs) (first ∷ more) ≡ ended fs more
ended_at_once (Says.Text bytes) text e body close fs more f = ap (λ u. cond u (closed_by more) (ended fs more)) f
ended_at_once Says.Nothing text e body close fs more f = ap (λ u. cond u (closed_by more) (ended fs more)) f
ended_at_once Says.Later text e body close fs more f = absurd e

all_at_once : (first : Said) (text : Option (List ℕ)) → IsAtOnce first text → (more : List Said) → AllAtOnce more → AllAtOnce (first ∷ more)
all_at_once (Says.Text bytes) text e more h = h
all_at_once Says.Nothing text e more h = h
all_at_once Says.Later text e more h = absurd e

abbrev on : List Fed → List Fed → List Fed
on fs gs = without_waits fs ++ gs

-- what is written of all is what was written, and what is written of the rest
pub spoken_on : (fs : List Fed) (s : List Said) (w : List ℕ) → Spoke fs s w → (gs : List Fed) (t : List Said)
    → spoken (on fs gs) (texts (s ++ t)) ≡ w ++ spoken gs (texts t)
spoken_on [] s w p gs t = ap (λ l. spoken gs (texts (l ++ t))) p.0 ∙ ap (λ l. l ++ spoken gs (texts t)) (sym p.1)
spoken_on (NotYet ∷ fs) s w p gs t = spoken_on fs s w p gs t
spoken_on (Interim ∷ fs) s w p gs t =
    ap (λ l. interim ++ l) (spoken_on fs s p.0 p.2 gs t)
    ∙ sym (append_assoc interim p.0 (spoken gs (texts t))) ∙ ap (λ l. l ++ spoken gs (texts t)) (sym p.1)
spoken_on (Request b c ∷ fs) s w p gs t =
    ap (λ l. spoken (Request b c ∷ on fs gs) (texts (l ++ t))) p.6
    ∙ ap (spoken (Request b c ∷ on fs gs)) (texts_at_once p.1 p.0 p.4 (p.2 ++ t))
    ∙ ap (λ u. answer p.0 c ++ cond u [] (spoken (on fs gs) (texts (p.2 ++ t)))) p.5
    ∙ ap (λ l. answer p.0 c ++ l) (spoken_on fs p.2 p.3 p.8 gs t)
    ∙ sym (append_assoc (answer p.0 c) p.3 (spoken gs (texts t))) ∙ ap (λ l. l ++ spoken gs (texts t)) (sym p.7)
spoken_on (Refused status ∷ fs) s w p gs t = absurd p

-- how serving ends is how it ends for the rest
pub ended_on : (fs : List Fed) (s : List Said) (w : List ℕ) → Spoke fs s w → (gs : List Fed) (t : List Said) → ended (on fs gs) (s ++ t) ≡ ended gs t
ended_on [] s w p gs t = ap (λ l. ended gs (l ++ t)) p.0
ended_on (NotYet ∷ fs) s w p gs t = ended_on fs s w p gs t
ended_on (Interim ∷ fs) s w p gs t = ended_on fs s p.0 p.2 gs t
ended_on (Request b c ∷ fs) s w p gs t =
    ap (λ l. ended (Request b c ∷ on fs gs) (l ++ t)) p.6
    ∙ ended_at_once p.1 p.0 p.4 b c (on fs gs) (p.2 ++ t) p.5 ∙ ended_on fs p.2 p.3 p.8 gs t
ended_on (Refused status ∷ fs) s w p gs t = absurd p

pub bodies_on : (fs gs : List Fed) → bodies_in (on fs gs) ≡ bodies_in fs ++ bodies_in gs
bodies_on [] gs = refl
bodies_on (NotYet ∷ fs) gs = bodies_on fs gs
bodies_on (Interim ∷ fs) gs = bodies_on fs gs
bodies_on (Request b c ∷ fs) gs = ap (λ l. b ∷ l) (bodies_on fs gs)
bodies_on (Refused status ∷ fs) gs = bodies_on fs gs

pub bodies-append : (fs gs : List Fed) → bodies_in (fs ++ gs) ≡ bodies_in fs ++ bodies_in gs
bodies-append [] gs = refl
bodies-append (NotYet ∷ fs) gs = bodies-append fs gs
bodies-append (Interim ∷ fs) gs = bodies-append fs gs
bodies-append (Request b c ∷ fs) gs = ap (λ l. b ∷ l) (bodies-append fs gs)
bodies-append (Refused status ∷ fs) gs = bodies-append fs gs

-- something was said to each request, at once
pub count_said : (fs : List Fed) (s : List Said) (w : List ℕ) → Spoke fs s w → length s ≡ length (bodies_in fs)
count_said [] s w p = ap length p.0
count_said (NotYet ∷ fs) s w p = count_said fs s w p
count_said (Interim ∷ fs) s w p = count_said fs s p.0 p.2
count_said (Request b c ∷ fs) s w p = ap length p.6 ∙ ap suc (count_said fs p.2 p.3 p.8)
count_said (Refused status ∷ fs) s w p = absurd p

pub said_at_once : (fs : List Fed) (s : List Said) (w : List ℕ) → Spoke fs s w → (t : List Said) → AllAtOnce t → AllAtOnce (s ++ t)
said_at_once [] s w p t h = subst (λ l. AllAtOnce (l ++ t)) (sym p.0) h
said_at_once (NotYet ∷ fs) s w p t h = said_at_once fs s w p t h
said_at_once (Interim ∷ fs) s w p t h = said_at_once fs s p.0 p.2 t h
said_at_once (Request b c ∷ fs) s w p t h = subst (λ l. AllAtOnce (l ++ t)) (sym p.6) (all_at_once p.1 p.0 p.4 (p.2 ++ t) (said_at_once fs p.2 p.3 p.8 t h))
said_at_once (Refused status ∷ fs) s w p t h = absurd p

-- xs begins with ys
abbrev pub Begins : List ℕ → List ℕ → Type 0
Begins xs ys = (rest : List ℕ) × (xs ≡ ys ++ rest)

pub starts_with : (xs ys : List ℕ) → Begins xs ys → StartsWith xs ys
starts_with xs ys b = ap (take (length ys)) b.1 ∙ take-append_seam ys b.0

pub begins_behind : (front xs ys all : List ℕ) → all ≡ front ++ xs → Begins xs ys → Begins all (front ++ ys)
begins_behind front xs ys all e b = (b.0, e ∙ ap (λ l. front ++ l) b.1 ∙ sym (append_assoc front ys b.0))

-- what is to be written before the answer of a request that was answered was written
pub spoken_before : (fs : List Fed) (s : List Said) (w : List ℕ) → Spoke fs s w → (gs : List Fed) (early : List Said) (last : Said)
    → s ≡ early ++ last ∷ [] → Begins w (spoken (on fs gs) (texts early))
spoken_before [] s w p gs [] last e = let f = sym p.0 ∙ e in absurd (cc)
spoken_before [] s w p gs (x ∷ early) last e = let f = sym p.0 ∙ e in absurd (cc)
spoken_before (NotYet ∷ fs) s w p gs early last e = spoken_before fs s w p gs early last e
spoken_before (Interim ∷ fs) s w p gs early last e =
    begins_behind interim p.0 (spoken (on fs gs) (texts early)) w p.1 (spoken_before fs s p.0 p.2 gs early last e)
spoken_before (Request b c ∷ fs) s w p gs [] last e = (w, refl)
spoken_before (Request b c ∷ fs) s w p gs (x ∷ early) last e =
    let f : p.1 ∷ p.2 ≡ x ∷ (early ++ last ∷ []) = sym p.6 ∙ e in
    let same : p.1 ≡ x = cc in
    let more : p.2 ≡ early ++ last ∷ [] = cc in
    subst (Begins w)
    (sym (ap (λ u. spoken (Request b c ∷ on fs gs) (texts (u ∷ early))) (sym same)
    ∙ ap (spoken (Request b c ∷ on fs gs)) (texts_at_once p.1 p.0 p.4 early)
    ∙ ap (λ u. answer p.0 c ++ cond u [] (spoken (on fs gs) (texts early))) p.5))
    (begins_behind (answer p.0 c) p.3 (spoken (on fs gs) (texts early)) w p.7 (spoken_before fs p.2 p.3 p.8 gs early last more))
spoken_before (Refused status ∷ fs) s w p gs early last e = absurd p

-- what the last turn writes is what is to be written, and how it ends
pub record EndsWhole (fed : Fed) (said : List Said) (went : List ℕ) (end : WireEnd) (gs : List Fed) : Type 0 where
  pub written : spoken (shown fed ++ gs) (texts said) ≡ went
  pub ended : ended (shown fed ++ gs) said ≡ Some end
  pub count : length said ≡ length (bodies_in (fed ∷ []))

-- the wire failed in the last turn
pub record EndsCut (fed : Fed) (said : List Said) (went : List ℕ) (gs : List Fed) : Type 0 where
  pub begins : Begins (spoken (shown fed ++ gs) (texts said)) went
  pub part : length went < length (spoken (shown fed ++ gs) (texts said))
  pub at_once : AllAtOnce said
  pub count : length said ≡ length (bodies_in (fed ∷ []))
  -- nothing was said, or to the request that comes first
  pub first : (said ≡ []) ⊎ ((first : Said) × (said ≡ first ∷ []) × (spoken (shown fed ++ gs) [] ≡ []))

-- the last turn ends with a write that failed, or whole
abbrev pub LastTurn : Fed → List Said → List ℕ → WireEnd → Type 0
LastTurn fed said went Ends.Ended = ⊥
LastTurn fed said went Ends.Closed = (gs : List Fed) → EndsWhole fed said went Ends.Closed gs
LastTurn fed said went Ends.ReadFailed = ⊥
LastTurn fed said went Ends.WriteFailed = (gs : List Fed) → EndsCut fed said went gs
LastTurn fed said went (Ends.Later close) = (gs : List Fed) → EndsWhole fed said went (Ends.Later close) gs

front_of : (text : List ℕ) (count : ℕ) (went rest : List ℕ) → went ≡ take count text → Begins (text ++ rest) went
front_of text count went rest e =
    (drop count text ++ rest, ap (λ l. l ++ rest) (sym (take-append-drop count text)) ∙ append_assoc (take count text) (drop count text) rest ∙ ap (λ l. l ++ (drop count text ++ rest)) (sym e))

-- which is shorter than the whole
shorter : (text : List ℕ) (count : ℕ) (went rest : List ℕ) → count < length text → went ≡ take count text
    → length went < length (text ++ rest)
shorter text count went rest short e =
    let long : length went ≡ length (take count text) = ap length e in
    omega (arith, short, long, length-take count text, length-append text rest)

same_end : (a b : WireEnd) → Turns.Ends a ≡ Turns.Ends b → a ≡ b
same_end a b e = cc

-- by what was said at once to a request
answered : (body : List ℕ) (close : Bool) (said : List Said) (went : List ℕ) (end : WireEnd) (text : Option (List ℕ)) (first : Said)
    → IsAtOnce first text → said ≡ first ∷ [] → Writes (answer text close) (turn_behind close) went (Turns.Ends end) → LastTurn (Request body close) said went end
answered body true said went end text first at e (inl x) =
    subst (LastTurn (Request body true) said went) (sym (same_end end Ends.Closed x.1))
    (λ gs. record {
      written = ap (λ l. spoken (Request body true ∷ gs) (texts l)) e ∙ ap (spoken (Request body true ∷ gs)) (texts_at_once first text at []) ∙ append-nil (answer text true) ∙ sym x.0;
      ended = ap (ended (Request body true ∷ gs)) e ∙ closes first at gs;
      count = ap length e;
    })
  where
    closes : (first : Said) → IsAtOnce first text → (gs : List Fed) → ended (Request body true ∷ gs) (first ∷ []) ≡ Some Ends.Closed
    closes (Says.Text bytes) at gs = refl
    closes Says.Nothing at gs = refl
    closes Says.Later at gs = absurd at
answered body false said went end text first at e (inl x) = let f = x.1 in absurd (cc)
answered body close said went end text first at e (inr y) =
    subst (LastTurn (Request body close) said went) (sym (same_end end Ends.WriteFailed y.3))
    (λ gs. record {
      begins = subst (λ l. Begins l went) (sym (is gs)) (front_of (answer text close) y.0 went (cond close [] (spoken gs [])) y.2);
      part = subst (λ l. length went < length l) (sym (is gs)) (shorter (answer text close) y.0 went (cond close [] (spoken gs [])) y.1 y.2);
      at_once = subst AllAtOnce (sym e) (all_at_once first text at [] tt);
      count = ap length e;
      first = inr (first, e, refl);
    })
  where
    is : (gs : List Fed) → spoken (Request body close ∷ gs) (texts said) ≡ answer text close ++ cond close [] (spoken gs [])
    is gs = ap (λ l. spoken (Request body close ∷ gs) (texts l)) e ∙ ap (spoken (Request body close ∷ gs)) (texts_at_once first text at [])

pub last_turn : (fed : Fed) (said : List Said) (went : List ℕ) (end : WireEnd) → Reacts fed said went (Turns.Ends end) → LastTurn fed said went end
last_turn NotYet said went end r = let e = r.2 in absurd (cc)
last_turn Interim said went end r = elim r.1 [
  | inl x ↦ let e = x.1 in absurd (cc)
  | inr y ↦ subst (LastTurn Interim said went) (sym (same_end end Ends.WriteFailed y.3))
      (λ gs. record {
        begins = front_of interim y.0 went (spoken gs (texts said)) y.2;
        part = shorter interim y.0 went (spoken gs (texts said)) y.1 y.2;
        at_once = subst AllAtOnce (sym r.0) tt;
        count = ap length r.0;
        first = inl r.0;
      })
]
last_turn (Request body close) said went end r = by_said r.0 r.1 r.2
  where
    by_said : (first : Said) → said ≡ first ∷ [] → Answers first close went (Turns.Ends end) → LastTurn (Request body close) said went end
    by_said (Says.Text bytes) e x = answered body close said went end (Some bytes) (Says.Text bytes) refl e x
    by_said Says.Nothing e x = answered body close said went end None Says.Nothing refl e x
    by_said Says.Later e x =
        subst (LastTurn (Request body close) said went) (sym (same_end end (Ends.Later close) x.1))
        (λ gs. record {
          written = ap (λ l. spoken (Request body close ∷ gs) (texts l)) e ∙ sym x.0;
          ended = ap (ended (Request body close ∷ gs)) e;
          count = ap length e;
        })
last_turn (Refused status) said went end r = elim r.1 [
  | inl x ↦ subst (LastTurn (Refused status) said went) (sym (same_end end Ends.Closed x.1))
      (λ gs. record {
        written = sym x.0;
        ended = ap closed_by r.0;
        count = ap length r.0;
      })
  | inr y ↦ subst (LastTurn (Refused status) said went) (sym (same_end end Ends.WriteFailed y.3))
      (λ gs. record {
        begins = subst (λ l. Begins l went) (append-nil (response status [] true)) (front_of (response status [] true) y.0 went [] y.2);
        part = subst (λ l. length went < length l) (append-nil (response status [] true)) (shorter (response status [] true) y.0 went [] y.1 y.2);
        at_once = subst AllAtOnce (sym r.0) tt;
        count = ap length r.0;
        first = inl r.0;
      })
]

-- it ends with no read that failed
pub turn_unlost : (fed : Fed) (said : List Said) (went : List ℕ) (end : WireEnd) → Reacts fed said went (Turns.Ends end) → (before : Bool) → lost_behind end before ≡ before
turn_unlost fed said went end r before = by_end end (last_turn fed said went end r)
  where
    by_end : (end : WireEnd) → LastTurn fed said went end → lost_behind end before ≡ before
    by_end Ends.Ended h = refl
    by_end Ends.Closed h = refl
    by_end Ends.ReadFailed h = absurd h
    by_end Ends.WriteFailed h = refl
    by_end (Ends.Later close) h = refl

-- what the reader gave in the last turn
pub last_given : (fed : Fed) (said : List Said) (went : List ℕ) (end : WireEnd) → Reacts fed said went (Turns.Ends end) → IsLastGiven end fed
last_given NotYet said went end r = let e = r.2 in absurd (cc)
last_given Interim said went end r = elim r.1 [
  | inl x ↦ let e = x.1 in absurd (cc)
  | inr y ↦ subst (λ e. IsLastGiven e Interim) (sym (same_end end Ends.WriteFailed y.3)) tt
]
last_given (Request body close) said went end r = by_said r.0 r.2
  where
    by_writes : (c : Bool) (text : List ℕ) → Writes text (turn_behind c) went (Turns.Ends end) → IsLastGiven end (Request body c)
    by_writes true text (inl x) = subst (λ e. IsLastGiven e (Request body true)) (sym (same_end end Ends.Closed x.1)) (inl (body, refl))
    by_writes false text (inl x) = let e = x.1 in absurd (cc)
    by_writes c text (inr y) = subst (λ e. IsLastGiven e (Request body c)) (sym (same_end end Ends.WriteFailed y.3)) tt

    by_said : (first : Said) → Answers first close went (Turns.Ends end) → IsLastGiven end (Request body close)
    by_said (Says.Text bytes) x = by_writes close (answer (Some bytes) close) x
    by_said Says.Nothing x = by_writes close (answer None close) x
    by_said Says.Later x = subst (λ e. IsLastGiven e (Request body close)) (sym (same_end end (Ends.Later close) x.1)) (body, refl)
last_given (Refused status) said went end r = elim r.1 [
  | inl x ↦ subst (λ e. IsLastGiven e (Refused status)) (sym (same_end end Ends.Closed x.1)) (inr (status, refl))
  | inr y ↦ subst (λ e. IsLastGiven e (Refused status)) (sym (same_end end Ends.WriteFailed y.3)) tt
]

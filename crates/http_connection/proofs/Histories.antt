-- What a reader gave, what was told and written of it, and what the bytes hold.
use Rattle.std.proofs.Common.{◌≡◌, ℕ, ◌+◌, inl, inr, Bool, true, false, cond, List, [], ◌∷◌, ◌++◌, length, drop, sym, refl, ap, ◌∙◌, subst, append_assoc, append-nil, suc}
use Rattle.std.specs.Prelude.{Option}
use Rattle.std.specs.List.{concat}
use Rattle.std.proofs.Math.Logic.{∥∥₁_map, ∥∥₁_elim, ∥∥₁_prop}
use Rattle.std.proofs.lemmas.List.Folds.{concat-append}
use Rattle.http_port.specs.declared.head_reader.Fed.{Fed}
use Rattle.http_port.specs.declared.head_reader.Fed.TheVariants.{NotYet, Interim, Request, Refused}
use Rattle.http_port.specs.Feeding.{Place, Open, body_of, Feeds}
use Rattle.http_port.specs.Connections.{Reading, waits, refuses, lacks, closes, goes_on, End, Unfinished, WithInterim, Closed, RefusedBy, requests, end_of, given, Run, without_waits}
use Rattle.http_port.specs.Responses.{interim}
use Rattle.http_port.specs.Serving.{bodies_in}
use Rattle.http_port.specs.Talk.{answer}
use Rattle.http_port.proofs.ReadingLemmas.{Went, shown, step, run_goes}
use Rattle.http_port.proofs.TalkLemmas.{spoken, talk_given, bodies_given}
use Rattle.http_port.proofs.TurnLemmas.{bodies_on, bodies-append, Begins, begins_behind}
use Rattle.http_connection.specs.Talking.{Log, log, Answered, IsAnswered, HasGiven, due, told_to}
use Rattle.http_connection.specs.Law.{Holding, holding, bodies_of, talk_of, IsUnclosed, IsClosing}

-- ---- what is answered

pub answered-append : (fs gs : List Fed) (ts us : List (Option (List ℕ))) (w v : List ℕ) → Answered fs ts w → Answered gs us v → Answered (fs ++ gs) (ts ++ us) (w ++ v)
answered-append [] gs ts us w v p q =
    subst (λ l. Answered gs (l ++ us) (w ++ v)) (sym p.0) (subst (λ l. Answered gs us (l ++ v)) (sym p.1) q)
answered-append (NotYet ∷ fs) gs ts us w v p q = answered-append fs gs ts us w v p q
answered-append (Interim ∷ fs) gs ts us w v p q =
    (p.0 ++ v, ap (λ l. l ++ v) p.1 ∙ append_assoc interim p.0 v, answered-append fs gs ts us p.0 v p.2 q)
answered-append (Request b c ∷ fs) gs ts us w v p q = (
  p.0,
  p.1 ++ us,
  p.2 ++ v,
  p.3,
  ap (λ l. l ++ us) p.4,
  ap (λ l. l ++ v) p.5 ∙ append_assoc (answer p.0 c) p.2 v,
  answered-append fs gs p.1 us p.2 v p.6 q,
)
answered-append (Refused status ∷ fs) gs ts us w v p q = absurd p

-- what is written of all is what was written, and what is written of the rest
pub answered_on : (fs : List Fed) (ts : List (Option (List ℕ))) (w : List ℕ) → Answered fs ts w → (gs : List Fed) (us : List (Option (List ℕ)))
    → spoken (without_waits fs ++ gs) (ts ++ us) ≡ w ++ spoken gs us
answered_on [] ts w p gs us = ap (λ l. spoken gs (l ++ us)) p.0 ∙ ap (λ l. l ++ spoken gs us) (sym p.1)
answered_on (NotYet ∷ fs) ts w p gs us = answered_on fs ts w p gs us
answered_on (Interim ∷ fs) ts w p gs us =
    ap (λ l. interim ++ l) (answered_on fs ts p.0 p.2 gs us)
    ∙ sym (append_assoc interim p.0 (spoken gs us)) ∙ ap (λ l. l ++ spoken gs us) (sym p.1)
answered_on (Request b c ∷ fs) ts w p gs us =
    ap (λ l. spoken (Request b c ∷ (without_waits fs ++ gs)) (l ++ us)) p.4
    ∙ ap (λ u. answer p.0 c ++ cond u [] (spoken (without_waits fs ++ gs) (p.1 ++ us))) p.3
    ∙ ap (λ l. answer p.0 c ++ l) (answered_on fs p.1 p.2 p.6 gs us)
    ∙ sym (append_assoc (answer p.0 c) p.2 (spoken gs us)) ∙ ap (λ l. l ++ spoken gs us) (sym p.5)
answered_on (Refused status ∷ fs) ts w p gs us = absurd p

-- what is to be written before the answer of a request that was answered was written
pub answered_before : (fs : List Fed) (ts : List (Option (List ℕ))) (w : List ℕ) → Answered fs ts w → (gs : List Fed) (early : List (Option (List ℕ))) (text : Option (List ℕ))
    → ts ≡ early ++ text ∷ [] → Begins w (spoken (without_waits fs ++ gs) early)
answered_before [] ts w p gs [] text e = let f = sym p.0 ∙ e in absurd (cc)
answered_before [] ts w p gs (x ∷ early) text e = let f = sym p.0 ∙ e in absurd (cc)
answered_before (NotYet ∷ fs) ts w p gs early text e = answered_before fs ts w p gs early text e
answered_before (Interim ∷ fs) ts w p gs early text e =
    begins_behind interim p.0 (spoken (without_waits fs ++ gs) early) w p.1 (answered_before fs ts p.0 p.2 gs early text e)
answered_before (Request b c ∷ fs) ts w p gs [] text e = (w, refl)
answered_before (Request b c ∷ fs) ts w p gs (x ∷ early) text e =
    let f : p.0 ∷ p.1 ≡ x ∷ (early ++ text ∷ []) = sym p.4 ∙ e in
    let same : p.0 ≡ x = cc in
    let more : p.1 ≡ early ++ text ∷ [] = cc in
    subst (Begins w)
    (sym (ap (λ u. spoken (Request b c ∷ (without_waits fs ++ gs)) (u ∷ early)) (sym same)
    ∙ ap (λ u. answer p.0 c ++ cond u [] (spoken (without_waits fs ++ gs) early)) p.3))
    (begins_behind (answer p.0 c) p.2 (spoken (without_waits fs ++ gs) early) w p.5 (answered_before fs p.1 p.2 p.6 gs early text more))
answered_before (Refused status ∷ fs) ts w p gs early text e = absurd p

-- a text was told to each request
pub count_told : (fs : List Fed) (ts : List (Option (List ℕ))) (w : List ℕ) → Answered fs ts w → length ts ≡ length (bodies_in fs)
count_told [] ts w p = ap length p.0
count_told (NotYet ∷ fs) ts w p = count_told fs ts w p
count_told (Interim ∷ fs) ts w p = count_told fs ts p.0 p.2
count_told (Request b c ∷ fs) ts w p = ap length p.4 ∙ ap suc (count_told fs p.1 p.2 p.6)
count_told (Refused status ∷ fs) ts w p = absurd p

-- what lets the connection go on
abbrev pub LetsGo : Fed → Type 0
LetsGo NotYet = Unit {0}
LetsGo Interim = Unit {0}
LetsGo (Request body close) = close ≡ false
LetsGo (Refused status) = ⊥

pub answered_one : (last : Fed) (text : Option (List ℕ)) → LetsGo last → Answered (last ∷ []) (told_to last text) (due last text)
answered_one NotYet text go = (refl, refl)
answered_one Interim text go = ([], sym (append-nil interim), (refl, refl))
answered_one (Request body close) text go = (text, [], [], go, refl, sym (append-nil (answer text close)), (refl, refl))
answered_one (Refused status) text go = absurd go

run-append : (pieces : List (List ℕ)) (feds : List Fed) (was mid now : Place) (piece : List ℕ) (fed : Fed) → Run was pieces feds mid → Feeds mid piece fed now
    → Run was (pieces ++ piece ∷ []) (feds ++ fed ∷ []) now
run-append [] [] was mid now piece fed run feeds = (now, subst (λ p. Feeds p piece fed now) run feeds, refl)
run-append [] (f ∷ feds) was mid now piece fed run feeds = absurd run
run-append (p ∷ pieces) [] was mid now piece fed run feeds = absurd run
run-append (p ∷ pieces) (f ∷ feds) was mid now piece fed run feeds = (run.0, run.1, run-append pieces feds run.0 mid now piece fed run.2 feeds)

concat_last : (pieces : List (List ℕ)) (piece : List ℕ) → concat (pieces ++ piece ∷ []) ≡ concat pieces ++ piece
concat_last pieces piece = concat-append pieces (piece ∷ []) ∙ ap (λ l. concat pieces ++ l) (append-nil piece)

-- what the reader gave last is answered, too
pub answered_all : (last : Fed) (text : Option (List ℕ)) (place : Place) (l : Log) → LetsGo last → HasGiven last place l
    → IsAnswered place (log l.read (l.written ++ due last text) (l.bodies ++ bodies_in (last ∷ [])) (l.texts ++ told_to last text))
answered_all last text place l go g =
    let a = g.answered in
    record {
      pieces = a.pieces ++ g.piece ∷ [];
      feds = a.feds ++ last ∷ [];
      whole = concat_last a.pieces g.piece ∙ ap (λ x. x ++ g.piece) a.whole ∙ sym g.whole;
      run = run-append a.pieces a.feds (Open [] false) g.before place g.piece last a.run g.feeds;
      answered = answered-append a.feds (last ∷ []) l.texts (told_to last text) l.written (due last text) a.answered (answered_one last text go);
      bodies = bodies-append a.feds (last ∷ []) ∙ ap (λ b. b ++ bodies_in (last ∷ [])) a.bodies;
    }

-- ---- what closes

-- whether what a reader gave closes the connection
abbrev pub closes_in : List Fed → Bool
closes_in [] = false
closes_in (NotYet ∷ more) = closes_in more
closes_in (Interim ∷ more) = closes_in more
closes_in (Request body close ∷ more) = cond close true (closes_in more)
closes_in (Refused status ∷ more) = true

closes_on : (fs : List Fed) (ts : List (Option (List ℕ))) (w : List ℕ) → Answered fs ts w → (gs : List Fed) → closes_in (without_waits fs ++ gs) ≡ closes_in gs
closes_on [] ts w p gs = refl
closes_on (NotYet ∷ fs) ts w p gs = closes_on fs ts w p gs
closes_on (Interim ∷ fs) ts w p gs = closes_on fs ts p.0 p.2 gs
closes_on (Request b c ∷ fs) ts w p gs =
    ap (λ u. cond u true (closes_in (without_waits fs ++ gs))) p.3 ∙ closes_on fs p.1 p.2 p.6 gs
closes_on (Refused status ∷ fs) ts w p gs = absurd p

-- what follows the first that closes the connection
abbrev pub behind_close : List Fed → List Fed
behind_close [] = []
behind_close (NotYet ∷ more) = behind_close more
behind_close (Interim ∷ more) = behind_close more
behind_close (Request body close ∷ more) = cond close more (behind_close more)
behind_close (Refused status ∷ more) = more

behind_on : (fs : List Fed) (ts : List (Option (List ℕ))) (w : List ℕ) → Answered fs ts w → (gs : List Fed) → behind_close (without_waits fs ++ gs) ≡ behind_close gs
behind_on [] ts w p gs = refl
behind_on (NotYet ∷ fs) ts w p gs = behind_on fs ts w p gs
behind_on (Interim ∷ fs) ts w p gs = behind_on fs ts p.0 p.2 gs
behind_on (Request b c ∷ fs) ts w p gs =
    ap (λ u. cond u (without_waits fs ++ gs) (behind_close (without_waits fs ++ gs))) p.3 ∙ behind_on fs p.1 p.2 p.6 gs
behind_on (Refused status ∷ fs) ts w p gs = absurd p

behind_first : (i : Bool) (gs : List Fed) → behind_close (cond i (Interim ∷ []) [] ++ gs) ≡ behind_close gs
behind_first true gs = refl
behind_first false gs = refl

behind_lacking : (i : Bool) → behind_close (cond i (Interim ∷ []) []) ≡ []
behind_lacking true = refl
behind_lacking false = refl

-- bytes hold nothing behind what closes the connection
behind_given : (bytes : List ℕ) (r : Reading bytes) → behind_close (given bytes r) ≡ []
behind_given bytes (waits _ k) = refl
behind_given bytes (refuses _ s k) = refl
behind_given bytes (lacks _ a k short) = behind_lacking a.interim
behind_given bytes (closes _ a k whole close) =
    behind_first a.interim (Request (body_of bytes a) a.close ∷ []) ∙ ap (λ u. cond u [] []) close
behind_given bytes (goes_on _ a k whole stays rest) =
    let n = a.head + a.body in
    behind_first a.interim (Request (body_of bytes a) a.close ∷ given (drop n bytes) rest)
    ∙ ap (λ u. cond u (given (drop n bytes) rest) (behind_close (given (drop n bytes) rest))) stays
    ∙ behind_given (drop n bytes) rest

-- whether requests end with what closes the connection
abbrev pub is_closing : End → Bool
is_closing Unfinished = false
is_closing WithInterim = false
is_closing Closed = true
is_closing (RefusedBy status) = true

closes_first : (i : Bool) (gs : List Fed) → closes_in (cond i (Interim ∷ []) [] ++ gs) ≡ closes_in gs
closes_first true gs = refl
closes_first false gs = refl

lacking : (i : Bool) → is_closing (cond i WithInterim Unfinished) ≡ closes_in (cond i (Interim ∷ []) [])
lacking true = refl
lacking false = refl

-- bytes end with what closes the connection where what a reader gives of them does
pub closing_given : (bytes : List ℕ) (r : Reading bytes) → is_closing (end_of bytes r) ≡ closes_in (given bytes r)
closing_given bytes (waits _ k) = refl
closing_given bytes (refuses _ s k) = refl
closing_given bytes (lacks _ a k short) = lacking a.interim
closing_given bytes (closes _ a k whole close) =
    sym (closes_first a.interim (Request (body_of bytes a) a.close ∷ []) ∙ ap (λ u. cond u true false) close)
closing_given bytes (goes_on _ a k whole stays rest) =
    let n = a.head + a.body in
    closing_given (drop n bytes) rest
    ∙ sym (closes_first a.interim (Request (body_of bytes a) a.close ∷ given (drop n bytes) rest) ∙ ap (λ u. cond u true (closes_in (given (drop n bytes) rest))) stays)

pub unclosed : (e : End) → is_closing e ≡ false → IsUnclosed e
unclosed Unfinished f = inl refl
unclosed WithInterim f = inr refl
unclosed Closed f = absurd (cc)
unclosed (RefusedBy status) f = absurd (cc)

pub closing : (e : End) → is_closing e ≡ true → IsClosing e
closing Unfinished f = absurd (cc)
closing WithInterim f = absurd (cc)
closing Closed f = inl refl
closing (RefusedBy status) f = inr (status, refl)

-- ---- what the bytes hold

-- What the bytes hold, where all is answered but these, which the reader gave or which are to come.
pub record Knows (h : Holding) (l : Log) (rest : List Fed) : Type 0 where
  pub talks : (more : List (Option (List ℕ))) → talk_of h (l.texts ++ more) ≡ l.written ++ spoken rest more
  pub bodies : bodies_of h.queue ≡ l.bodies ++ bodies_in rest
  pub ends : is_closing h.end ≡ closes_in rest
  pub over : behind_close rest ≡ []
  pub count : length l.texts ≡ length l.bodies
  -- all was written that stands before the answer of the last request to which a text was told
  pub before : (early : List (Option (List ℕ))) (text : Option (List ℕ)) → l.texts ≡ early ++ text ∷ [] → Begins l.written (talk_of h early)

-- what is to come behind what was given last
abbrev Leads : List Fed → Fed → Place → (bytes : List ℕ) → Reading bytes → Type 0
Leads feds last place bytes r = (gs : List Fed) × (given bytes r ≡ without_waits feds ++ (shown last ++ gs)) × Went place [] gs

leads : (pieces : List (List ℕ)) (feds : List Fed) (mid : Place) (piece : List ℕ) (last : Fed) (place : Place)
    → Run (Open [] false) pieces feds mid → Feeds mid piece last place → (r : Reading (concat pieces ++ piece)) → ∥ Leads feds last place (concat pieces ++ piece) r ∥₁
leads pieces feds mid piece last place run feeds r =
    ∥∥₁_elim (run_goes (Open [] false) pieces feds mid piece (given (concat pieces ++ piece) r) run ((r, refl), λ f. absurd (cc))) ∥∥₁_prop
    (λ x. ∥∥₁_map (step mid piece [] last place x.0 feeds (subst (λ l. Went mid l x.0) (sym (append-nil piece)) x.2))
    (λ y. (y.0, x.1 ∙ ap (λ l. without_waits feds ++ l) y.1, y.2)))

-- what is known, and what is to come
abbrev pub KnowsSo : Fed → Place → Log → Holding → Type 0
KnowsSo last place l h = (gs : List Fed) × Went place [] gs × Knows h l (shown last ++ gs)

pub known : (last : Fed) (place : Place) (l : Log) → HasGiven last place l → (bytes : List ℕ) → l.read ≡ bytes → (r : Reading bytes)
    → ∥ KnowsSo last place l (holding bytes r) ∥₁
known last place l g bytes e r = ∥∥₁_map (led bytes (ap (λ x. x ++ g.piece) a.whole ∙ sym g.whole ∙ e) r) knows
  where
    a : IsAnswered g.before (log g.early l.written l.bodies l.texts)
    a = g.answered

    led : (bytes : List ℕ) → concat a.pieces ++ g.piece ≡ bytes → (r : Reading bytes) → ∥ Leads a.feds last place bytes r ∥₁
    led bytes e = subst (λ b. (r : Reading b) → ∥ Leads a.feds last place b r ∥₁) e (leads a.pieces a.feds g.before g.piece last place a.run g.feeds)

    knows : Leads a.feds last place bytes r → KnowsSo last place l (holding bytes r)
    knows x = (
      x.0,
      x.2,
      record {
        talks = λ more.
            talk_given bytes r (l.texts ++ more) ∙ ap (λ fs. spoken fs (l.texts ++ more)) x.1
            ∙ answered_on a.feds l.texts l.written a.answered (shown last ++ x.0) more;
        bodies =
            bodies_given bytes r ∙ ap bodies_in x.1 ∙ bodies_on a.feds (shown last ++ x.0)
            ∙ ap (λ b. b ++ bodies_in (shown last ++ x.0)) a.bodies;
        ends = closing_given bytes r ∙ ap closes_in x.1 ∙ closes_on a.feds l.texts l.written a.answered (shown last ++ x.0);
        over = sym (behind_on a.feds l.texts l.written a.answered (shown last ++ x.0)) ∙ sym (ap behind_close x.1) ∙ behind_given bytes r;
        count = count_told a.feds l.texts l.written a.answered ∙ ap length a.bodies;
        before = λ early text e.
            subst (Begins l.written) (sym (talk_given bytes r early ∙ ap (λ fs. spoken fs early) x.1))
            (answered_before a.feds l.texts l.written a.answered (shown last ++ x.0) early text e);
      },
    )

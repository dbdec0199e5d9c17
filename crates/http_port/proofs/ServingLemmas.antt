-- What serving comes to, from its turns.
use Rattle.std.proofs.Common.{◌≡◌, ◌<◌, ℕ, ◌⊎◌, inl, inr, Bool, true, false, List, [], ◌∷◌, ◌++◌, length, take, map, Some, None, sym, refl, ap, ◌∙◌, subst, arith, length-append, append_assoc, append-nil}
use Rattle.std.specs.Prelude.{Option}
use Rattle.std.specs.List.{concat}
use Rattle.std.specs.Io.KnownBytes.{Appends, Consumes}
use Rattle.std.proofs.KnownBytes.{Appends-nil, Appends-trans, Consumes-nil, Consumes-trans}
use Rattle.std.proofs.Math.Logic.{∥∥₁_map, ∥∥₁_elim, ∥∥₁_prop}
use Rattle.std.proofs.Math.Seq.{take-append_seam}
use Rattle.std.proofs.lemmas.List.Folds.{concat-append}
use Rattle.outside_traits.specs.Told.{Lists}
use Rattle.outside_traits.specs.declared.calls.WireCall.{WireCall}
use Rattle.outside_traits.specs.declared.calls.WireCall.TheVariants.{Read}
use Rattle.http_port.specs.declared.head_reader.Fed.{Fed}
use Rattle.http_port.specs.declared.head_reader.Fed.TheVariants.{NotYet}
use Rattle.http_port.specs.declared.serve.Said.{Said}
use Rattle.http_port.specs.declared.serving.WireEnd.{WireEnd}
use Rattle.http_port.specs.declared.serving.WireEnd.TheVariants as Ends
use Rattle.http_port.specs.declared.turn.Turn.TheVariants as Turns
use Rattle.http_port.specs.Asking.{Grows}
use Rattle.http_port.specs.Feeding.{Place, Open, Over, Spent, Feeds}
use Rattle.http_port.specs.Walks.{Asks, AsksWhereGiven}
use Rattle.http_port.specs.Connections.{Reading, RequestRead, given, Run, without_waits}
use Rattle.http_port.specs.Serving.{Service, Demand, texts, to_write, HandsOn, IsServed, IsCutOff, EndsSo, demand_of, Serves, bodies_in, IsLastGiven, IsFed}
use Rattle.http_port.specs.Prompt.{IsPrompt, StopsAtNothing}
use Rattle.http_port.specs.Turns.{Reacts}
use Rattle.http_port.specs.Writing.{AllMove, IsWritten, Moves}
use Rattle.http_port.proofs.ReadingLemmas.{still, Went, shown, asks_grow, step, run_goes, quiet}
use Rattle.http_port.proofs.TalkLemmas.{spoken, ended, CallsFor, calls_for}
use Rattle.http_port.proofs.TurnLemmas.{Spoke, spoke-append, waiting_turn, spoken_on, ended_on, bodies_on, bodies-append, count_said, said_at_once, Begins, starts_with, begins_behind, spoken_before, EndsWhole, EndsCut, LastTurn, last_turn, last_given, spoke_turn, spoke_waiting}
use Rattle.http_port.proofs.CallLemmas.{all-append, moves_stop, stops-append, done, Called, called_first, called_turn, called_read, is_prompt}

-- what was done, by what the reader gave
abbrev pub service : List ℕ → List Fed → List Said → List ℕ → Service
service came feds said went = record { came = came; bodies = bodies_in feds; said = said; went = went }

-- all that the reader gives, and then what is to come
abbrev all_fed : List Fed → Fed → List Fed → List Fed
all_fed feds fed gs = without_waits feds ++ (shown fed ++ gs)

front_taken : (xs front rest : List (List ℕ)) → xs ≡ front ++ rest → front ≡ take (length front) xs
front_taken xs front rest e = sym (ap (take (length front)) e ∙ take-append_seam front rest)

hands_on : (d : Demand) (fs : List Fed) → CallsFor d fs → (feds : List Fed) (s : List Said) (w : List ℕ) → Spoke feds s w
    → (fed : Fed) (said : List Said) (gs : List Fed) → fs ≡ all_fed feds fed gs → length said ≡ length (bodies_in (fed ∷ []))
    → (came went : List ℕ) → HandsOn d (service came (feds ++ fed ∷ []) (s ++ said) went)
hands_on d fs c feds s w p fed said gs e count came went =
    let both = bodies-append feds (fed ∷ []) in
    let all : map (λ (q : RequestRead). q.body) d.queue ≡ bodies_in (feds ++ fed ∷ []) ++ bodies_in gs =
    c.bodies ∙ ap bodies_in e ∙ bodies_on feds (shown fed ++ gs) ∙ ap (λ l. bodies_in feds ++ l) (bodies_on (fed ∷ []) gs)
    ∙ sym (append_assoc (bodies_in feds) (bodies_in (fed ∷ [])) (bodies_in gs)) ∙ ap (λ l. l ++ bodies_in gs) (sym both) in
    record {
      bodies = front_taken _ (bodies_in (feds ++ fed ∷ [])) (bodies_in gs) all;
      said =
          let first = count_said feds s w p in
          let whole = ap length both in
          omega (arith, length-append s said, length-append (bodies_in feds) (bodies_in (fed ∷ [])));
    }

-- what is to be written is what was written, and what is to be written for the rest
written_on : (d : Demand) (fs : List Fed) → CallsFor d fs → (feds : List Fed) (s : List Said) (w : List ℕ) → Spoke feds s w
    → (fed : Fed) (said : List Said) (gs : List Fed) → fs ≡ all_fed feds fed gs → to_write d (s ++ said) ≡ w ++ spoken (shown fed ++ gs) (texts said)
written_on d fs c feds s w p fed said gs e =
    c.writes (s ++ said) ∙ ap (λ l. spoken l (texts (s ++ said))) e ∙ spoken_on feds s w p (shown fed ++ gs) said

served : (d : Demand) (fs : List Fed) → CallsFor d fs → (feds : List Fed) (s : List Said) (w : List ℕ) → Spoke feds s w
    → (fed : Fed) (said : List Said) (went : List ℕ) (end : WireEnd) (gs : List Fed) → fs ≡ all_fed feds fed gs → EndsWhole fed said went end gs
    → (came : List ℕ) → IsServed d (service came (feds ++ fed ∷ []) (s ++ said) (w ++ went)) end
served d fs c feds s w p fed said went end gs e h came = record {
  hands_on = hands_on d fs c feds s w p fed said gs e h.count came (w ++ went);
  written = sym (written_on d fs c feds s w p fed said gs e ∙ ap (λ l. w ++ l) h.written);
  ended = c.ends (s ++ said) ∙ ap (λ l. ended l (s ++ said)) e ∙ ended_on feds s w p (shown fed ++ gs) said ∙ h.ended;
}

none_is_last : (xs : List Said) (x : Said) → [] ≡ xs ++ x ∷ [] → ⊥
none_is_last [] x e = cc
none_is_last (y ∷ xs) x e = cc

same_early : (xs ys : List Said) (x y : Said) → xs ++ x ∷ [] ≡ ys ++ y ∷ [] → xs ≡ ys
same_early [] [] x y e = refl
same_early [] (z ∷ ys) x y e = let f : [] ≡ ys ++ y ∷ [] = cc in absurd (none_is_last ys y f)
same_early (z ∷ xs) [] x y e = let f : [] ≡ xs ++ x ∷ [] = cc in absurd (none_is_last xs x f)
same_early (z ∷ xs) (u ∷ ys) x y e =
    let f : xs ++ x ∷ [] ≡ ys ++ y ∷ [] = cc in
    let g : z ≡ u = cc in
    ap (λ l. z ∷ l) (same_early xs ys x y f) ∙ ap (λ v. v ∷ ys) g

begins_more : (w v front : List ℕ) → Begins w front → Begins (w ++ v) front
begins_more w v front b = (b.0 ++ v, ap (λ l. l ++ v) b.1 ∙ append_assoc front b.0 v)

shorter_on : (w went rest all : List ℕ) → all ≡ w ++ rest → length went < length rest → length (w ++ went) < length all
shorter_on w went rest all e short =
    let long = ap length e in
    omega (arith, short, length-append w went, length-append w rest)

cut : (d : Demand) (fs : List Fed) → CallsFor d fs → (feds : List Fed) (s : List Said) (w : List ℕ) → Spoke feds s w
    → (fed : Fed) (said : List Said) (went : List ℕ) (gs : List Fed) → fs ≡ all_fed feds fed gs → EndsCut fed said went gs
    → (came : List ℕ) → IsCutOff d (service came (feds ++ fed ∷ []) (s ++ said) (w ++ went))
cut d fs c feds s w p fed said went gs e h came = record {
  hands_on = hands_on d fs c feds s w p fed said gs e h.count came (w ++ went);
  at_once = said_at_once feds s w p said h.at_once;
  front = starts_with (to_write d (s ++ said)) (w ++ went)
      (begins_behind w (spoken (shown fed ++ gs) (texts said)) went (to_write d (s ++ said)) (written_on d fs c feds s w p fed said gs e) h.begins);
  part = shorter_on w went (spoken (shown fed ++ gs) (texts said)) (to_write d (s ++ said)) (written_on d fs c feds s w p fed said gs e) h.part;
  before = λ early last is. starts_with (w ++ went) (to_write d early) (by_first early last is h.first);
}
  where
    to_write_early : (early : List Said) → to_write d early ≡ spoken (all_fed feds fed gs) (texts early)
    to_write_early early = c.writes early ∙ ap (λ l. spoken l (texts early)) e

    by_first : (early : List Said) (last : Said) → s ++ said ≡ early ++ last ∷ []
        → (said ≡ []) ⊎ ((first : Said) × (said ≡ first ∷ []) × (spoken (shown fed ++ gs) [] ≡ [])) → Begins (w ++ went) (to_write d early)
    by_first early last is (inl none) =
        let all : s ≡ early ++ last ∷ [] = sym (append-nil s) ∙ ap (λ l. s ++ l) (sym none) ∙ is in
        subst (Begins (w ++ went)) (sym (to_write_early early))
        (begins_more w went (spoken (all_fed feds fed gs) (texts early)) (spoken_before feds s w p (shown fed ++ gs) early last all))
    by_first early last is (inr x) =
        let same : s ≡ early = same_early s early x.0 last (ap (λ l. s ++ l) (sym x.1) ∙ is) in
        let all : to_write d early ≡ w =
        to_write_early early ∙ ap (λ l. spoken (all_fed feds fed gs) (texts l)) (sym same ∙ sym (append-nil s))
        ∙ spoken_on feds s w p (shown fed ++ gs) [] ∙ ap (λ l. w ++ l) x.2 ∙ append-nil w in
        subst (Begins (w ++ went)) (sym all) (went, refl)

ends_so : (d : Demand) (fs : List Fed) → CallsFor d fs → (feds : List Fed) (s : List Said) (w : List ℕ) → Spoke feds s w
    → (fed : Fed) (said : List Said) (went : List ℕ) (end : WireEnd) → LastTurn fed said went end → (gs : List Fed) → fs ≡ all_fed feds fed gs
    → (came : List ℕ) → EndsSo d (service came (feds ++ fed ∷ []) (s ++ said) (w ++ went)) end
ends_so d fs c feds s w p fed said went Ends.Ended h gs e came = absurd h
ends_so d fs c feds s w p fed said went Ends.Closed h gs e came = served d fs c feds s w p fed said went Ends.Closed gs e (h gs) came
ends_so d fs c feds s w p fed said went Ends.ReadFailed h gs e came = absurd h
ends_so d fs c feds s w p fed said went Ends.WriteFailed h gs e came = cut d fs c feds s w p fed said went gs e (h gs) came
ends_so d fs c feds s w p fed said went (Ends.Later close) h gs e came = served d fs c feds s w p fed said went (Ends.Later close) gs e (h gs) came

-- what a last piece leaves to come, from an open place
abbrev Leaves : (bytes : List ℕ) → Bool → Reading bytes → List Fed → Fed → Place → Type 0
Leaves bytes asked r feds fed now = (gs : List Fed) × (still asked (given bytes r) ≡ all_fed feds fed gs) × Went now [] gs

leaves : (left : List ℕ) (asked : Bool) → (asked ≡ true → Asks left) → (pieces : List (List ℕ)) (feds : List Fed) (mid : Place)
    → Run (Open left asked) pieces feds mid → (piece : List ℕ) (fed : Fed) (now : Place) → Feeds mid piece fed now
    → (r : Reading (left ++ (concat pieces ++ piece))) → ∥ Leaves (left ++ (concat pieces ++ piece)) asked r feds fed now ∥₁
leaves left asked asks pieces feds mid run piece fed now feeds r =
    let bytes = left ++ (concat pieces ++ piece) in
    ∥∥₁_elim (run_goes (Open left asked) pieces feds mid piece (still asked (given bytes r)) run ((r, refl), asks)) ∥∥₁_prop
    (λ x. ∥∥₁_map (step mid piece [] fed now x.0 feeds (subst (λ l. Went mid l x.0) (sym (append-nil piece)) x.2))
    (λ y. (y.0, x.1 ∙ ap (λ l. without_waits feds ++ l) y.1, y.2)))

asks_once : (asked : Bool) (left : List ℕ) (P : Type 0) → (asked ≡ true → ∥ Asks left ∥₁) → ((asked ≡ true → Asks left) → ∥ P ∥₁) → ∥ P ∥₁
asks_once true left P asks go = ∥∥₁_elim (asks refl) ∥∥₁_prop (λ x. go (λ e. x))
asks_once false left P asks go = go (λ e. absurd (cc))

-- behind the last request a reader gives nothing
over_run : (pieces : List (List ℕ)) (feds : List Fed) (mid : Place) → Run Over pieces feds mid → (s : List Said) (w : List ℕ) → Spoke feds s w
    → (mid ≡ Over) × (s ≡ []) × (w ≡ []) × (bodies_in feds ≡ [])
over_run [] [] mid run s w p = (run, p.0, p.1, refl)
over_run [] (fed ∷ feds) mid run s w p = absurd run
over_run (piece ∷ pieces) [] mid run s w p = absurd run
over_run (piece ∷ pieces) (fed ∷ feds) mid run s w p =
    let rest = over_run pieces feds mid (subst (λ q. Run q pieces feds mid) run.1.1 run.2) s w (subst (λ f. Spoke (f ∷ feds) s w) run.1.0 p) in
    (rest.0, rest.1, rest.2, ap (λ f. bodies_in (f ∷ feds)) run.1.0 ∙ rest.3)

no_spent_run : (pieces : List (List ℕ)) (feds : List Fed) (mid now : Place) (piece : List ℕ) (fed : Fed) → Run Spent pieces feds mid → Feeds mid piece fed now → ⊥
no_spent_run [] [] mid now piece fed run feeds = subst (λ q. Feeds q piece fed now) run feeds
no_spent_run [] (f ∷ feds) mid now piece fed run feeds = run
no_spent_run (p ∷ pieces) [] mid now piece fed run feeds = run
no_spent_run (p ∷ pieces) (f ∷ feds) mid now piece fed run feeds = run.1

not_yet_waits : (said : List Said) (went : List ℕ) (end : WireEnd) → Reacts NotYet said went (Turns.Ends end) → ⊥
not_yet_waits said went end r = let e = r.2 in cc

-- serving that ends with a turn
pub serves_turn : (was mid now : Place) (pieces : List (List ℕ)) (feds : List Fed) (s : List Said) (w piece : List ℕ) (fed : Fed) (said : List Said) (went : List ℕ) (end : WireEnd)
    → AsksWhereGiven was → Run was pieces feds mid → Spoke feds s w → Feeds mid piece fed now → Reacts fed said went (Turns.Ends end)
    → Serves was (service (concat pieces ++ piece) (feds ++ fed ∷ []) (s ++ said) (w ++ went)) end
serves_turn (Open left asked) mid now pieces feds s w piece fed said went end asks run p feeds reacts =
    λ r. asks_once asked left _ asks
    (λ a. ∥∥₁_map (leaves left asked a pieces feds mid run piece fed now feeds r)
    (λ x. ends_so (demand_of (left ++ (concat pieces ++ piece)) r asked) (still asked (given (left ++ (concat pieces ++ piece)) r))
    (calls_for (left ++ (concat pieces ++ piece)) asked (λ e. asks_grow left (concat pieces ++ piece) (a e)) r)
    feds s w p fed said went end (last_turn fed said went end reacts) x.0 x.1 (concat pieces ++ piece)))
serves_turn Over mid now pieces feds s w piece fed said went end asks run p feeds reacts =
    let over = over_run pieces feds mid run s w p in
    let none = subst (λ q. Feeds q piece fed now) over.0 feeds in
    absurd (not_yet_waits said went end (subst (λ f. Reacts f said went (Turns.Ends end)) none.0 reacts))
serves_turn Spent mid now pieces feds s w piece fed said went end asks run p feeds reacts = no_spent_run pieces feds mid now piece fed run feeds

-- at the end of input and at a fault of reading all is said and written
abbrev pub IsRead : WireEnd → Type 0
IsRead Ends.Ended = Unit {0}
IsRead Ends.Closed = ⊥
IsRead Ends.ReadFailed = Unit {0}
IsRead Ends.WriteFailed = ⊥
IsRead (Ends.Later close) = ⊥

all_read : (d : Demand) (fs : List Fed) → CallsFor d fs → (feds : List Fed) (s : List Said) (w : List ℕ) → Spoke feds s w
    → (said : List Said) (went : List ℕ) → said ≡ [] → went ≡ [] → fs ≡ all_fed feds NotYet []
    → (came : List ℕ) → IsServed d (service came (feds ++ NotYet ∷ []) (s ++ said) (w ++ went)) Ends.Ended
all_read d fs c feds s w p said went e f all came =
    served d fs c feds s w p NotYet said went Ends.Ended [] all (record { written = sym f; ended = ap (ended []) e; count = ap length e }) came

read_so : (d : Demand) (fs : List Fed) → CallsFor d fs → (feds : List Fed) (s : List Said) (w : List ℕ) → Spoke feds s w
    → (said : List Said) (went : List ℕ) → said ≡ [] → went ≡ [] → (end : WireEnd) → IsRead end → fs ≡ all_fed feds NotYet []
    → (came : List ℕ) → EndsSo d (service came (feds ++ NotYet ∷ []) (s ++ said) (w ++ went)) end
read_so d fs c feds s w p said went e f Ends.Ended at all came = all_read d fs c feds s w p said went e f all came
read_so d fs c feds s w p said went e f Ends.Closed at all came = absurd at
read_so d fs c feds s w p said went e f Ends.ReadFailed at all came = all_read d fs c feds s w p said went e f all came
read_so d fs c feds s w p said went e f Ends.WriteFailed at all came = absurd at
read_so d fs c feds s w p said went e f (Ends.Later close) at all came = absurd at

over_ends : (end : WireEnd) → IsRead end → (end ≡ Ends.Ended) ⊎ (end ≡ Ends.ReadFailed)
over_ends Ends.Ended at = inl refl
over_ends Ends.Closed at = absurd at
over_ends Ends.ReadFailed at = inr refl
over_ends Ends.WriteFailed at = absurd at
over_ends (Ends.Later close) at = absurd at

-- serving that ends where more is to be read
pub serves_read : (was mid now : Place) (pieces : List (List ℕ)) (feds : List Fed) (s : List Said) (w piece : List ℕ) (said : List Said) (went : List ℕ) (end : WireEnd)
    → AsksWhereGiven was → Run was pieces feds mid → Spoke feds s w → Feeds mid piece NotYet now → said ≡ [] → went ≡ [] → IsRead end
    → Serves was (service (concat pieces ++ piece) (feds ++ NotYet ∷ []) (s ++ said) (w ++ went)) end
serves_read (Open left asked) mid now pieces feds s w piece said went end asks run p feeds e f at =
    λ r. asks_once asked left _ asks
    (λ a. ∥∥₁_elim (leaves left asked a pieces feds mid run piece NotYet now feeds r) ∥∥₁_prop
    (λ x. ∥∥₁_map (quiet mid piece now x.0 feeds x.2)
    (λ none. read_so (demand_of (left ++ (concat pieces ++ piece)) r asked) (still asked (given (left ++ (concat pieces ++ piece)) r))
    (calls_for (left ++ (concat pieces ++ piece)) asked (λ g. asks_grow left (concat pieces ++ piece) (a g)) r)
    feds s w p said went e f end at (x.1 ∙ ap (all_fed feds NotYet) none) (concat pieces ++ piece))))
serves_read Over mid now pieces feds s w piece said went end asks run p feeds e f at =
    let over = over_run pieces feds mid run s w p in (
      bodies-append feds (NotYet ∷ []) ∙ append-nil (bodies_in feds) ∙ over.3,
      ap (λ l. l ++ said) over.1 ∙ e,
      ap (λ l. l ++ went) over.2 ∙ f,
      over_ends end at,
    )
serves_read Spent mid now pieces feds s w piece said went end asks run p feeds e f at = no_spent_run pieces feds mid now piece NotYet run feeds

run-append : (pieces : List (List ℕ)) (feds : List Fed) (was mid now : Place) (piece : List ℕ) (fed : Fed) → Run was pieces feds mid → Feeds mid piece fed now
    → Run was (pieces ++ piece ∷ []) (feds ++ fed ∷ []) now
run-append [] [] was mid now piece fed run feeds = (now, subst (λ p. Feeds p piece fed now) run feeds, refl)
run-append [] (f ∷ feds) was mid now piece fed run feeds = absurd run
run-append (p ∷ pieces) [] was mid now piece fed run feeds = absurd run
run-append (p ∷ pieces) (f ∷ feds) was mid now piece fed run feeds = (run.0, run.1, run-append pieces feds run.0 mid now piece fed run.2 feeds)

concat_last : (pieces : List (List ℕ)) (piece : List ℕ) → concat (pieces ++ piece ∷ []) ≡ concat pieces ++ piece
concat_last pieces piece = concat-append pieces (piece ∷ []) ∙ ap (λ l. concat pieces ++ l) (append-nil piece)

Grows-trans : {A : Type 0} (a b c : Option (List A)) (xs ys : List A) → Grows a b xs → Grows b c ys → Grows a c (xs ++ ys)
Grows-trans None b c xs ys p q = tt
Grows-trans (Some x) None c xs ys p q = absurd p
Grows-trans (Some x) (Some y) None xs ys p q = absurd q
Grows-trans (Some x) (Some y) (Some z) xs ys p q = q ∙ ap (λ l. l ++ ys) p ∙ append_assoc x xs ys

Grows-nil : {A : Type 0} (a : Option (List A)) → Grows a a []
Grows-nil None = tt
Grows-nil (Some x) = sym (append-nil x)

-- what a wire and who is asked tell
pub record Told : Type 0 where
  pub given : Option (List ℕ)
  pub left : Option (List ℕ)
  pub taken : Option (List ℕ)
  pub calls : Option (List WireCall)
  pub heard : Option (List (List ℕ))
  pub said : Option (List Said)

-- serving goes on from here, with a piece that was read and not fed
pub record Going (was : Place) (before : Told) (now : Place) (after : Told) (piece : List ℕ) : Type 0 where
  pub pieces : List (List ℕ)
  pub feds : List Fed
  pub said : List Said
  pub went : List ℕ
  pub calls : List WireCall
  pub run : Run was pieces feds now
  pub spoke : Spoke feds said went
  pub given : Appends before.given after.given (concat pieces ++ piece)
  pub left : Consumes before.left after.left (concat pieces ++ piece)
  pub taken : Appends before.taken after.taken went
  pub called : Called was before.calls after.calls (service (concat pieces ++ piece) feds said went) calls
  pub moving : AllMove calls
  pub heard : Grows before.heard after.heard (bodies_in feds)
  pub told : Grows before.said after.said said

-- what one turn did: what the reader gave of the piece, what was said to that and what was written
pub record Turned (mid : Place) (at : Told) (piece : List ℕ) (now : Place) (after : Told) : Type 0 where
  pub fed : Fed
  pub said : List Said
  pub went : List ℕ
  pub whole : Bool
  pub feeds : Feeds mid piece fed now
  pub given : after.given ≡ at.given
  pub left : after.left ≡ at.left
  pub taken : Appends at.taken after.taken went
  pub written : IsWritten at.calls after.calls went whole
  pub heard : Grows at.heard after.heard (bodies_in (fed ∷ []))
  pub told : Grows at.said after.said said

-- before anything was done
pub going_first : (was : Place) (before : Told) → Going was before was before []
going_first was before = record {
  pieces = [];
  feds = [];
  said = [];
  went = [];
  calls = [];
  run = refl;
  spoke = (refl, refl);
  given = Appends-nil before.given;
  left = Consumes-nil before.left;
  taken = Appends-nil before.taken;
  called = called_first was before.calls;
  moving = tt;
  heard = Grows-nil before.heard;
  told = Grows-nil before.said;
}

-- a piece that was read behind a turn
pub record ReadOn (turned after : Told) (next : List ℕ) : Type 0 where
  pub given : Appends turned.given after.given next
  pub left : Consumes turned.left after.left next
  pub taken : after.taken ≡ turned.taken
  pub heard : after.heard ≡ turned.heard
  pub told : after.said ≡ turned.said

-- nothing was read
pub read_nothing : (turned : Told) → ReadOn turned turned []
read_nothing turned = record {
  given = Appends-nil turned.given;
  left = Consumes-nil turned.left;
  taken = refl;
  heard = refl;
  told = refl;
}

-- what was told from the start, with one turn more and what was read then
record Joined (before : Told) (after : Told) (came went : List ℕ) (bodies : List (List ℕ)) (said : List Said) : Type 0 where
  pub given : Appends before.given after.given came
  pub left : Consumes before.left after.left came
  pub taken : Appends before.taken after.taken went
  pub heard : Grows before.heard after.heard bodies
  pub told : Grows before.said after.said said

joined : (was : Place) (before : Told) (mid : Place) (at : Told) (piece : List ℕ) → (g : Going was before mid at piece)
    → (now : Place) (turned : Told) → (t : Turned mid at piece now turned) → (after : Told) (next : List ℕ) → ReadOn turned after next
    → Joined before after (concat g.pieces ++ piece ++ next) (g.went ++ t.went) (bodies_in (g.feds ++ t.fed ∷ [])) (g.said ++ t.said)
joined was before mid at piece g now turned t after next r = record {
  given = Appends-trans before.given at.given after.given (concat g.pieces ++ piece) next g.given (subst (λ o. Appends o after.given next) t.given r.given);
  left = Consumes-trans before.left at.left after.left (concat g.pieces ++ piece) next g.left (subst (λ o. Consumes o after.left next) t.left r.left);
  taken = subst (λ o. Appends before.taken o (g.went ++ t.went)) (sym r.taken)
      (Appends-trans before.taken at.taken turned.taken g.went t.went g.taken t.taken);
  heard = subst (λ o. Grows before.heard o (bodies_in (g.feds ++ t.fed ∷ []))) (sym r.heard)
      (subst (Grows before.heard turned.heard) (sym (bodies-append g.feds (t.fed ∷ [])))
      (Grows-trans before.heard at.heard turned.heard (bodies_in g.feds) (bodies_in (t.fed ∷ [])) g.heard t.heard));
  told = subst (λ o. Grows before.said o (g.said ++ t.said)) (sym r.told)
      (Grows-trans before.said at.said turned.said g.said t.said g.told t.told);
}

-- what was done with one turn more
abbrev done_with : (was : Place) (before : Told) (mid : Place) (at : Told) (piece : List ℕ) → Going was before mid at piece
    → (now : Place) (turned : Told) → Turned mid at piece now turned → List ℕ → Service
done_with was before mid at piece g now turned t next = service (concat g.pieces ++ piece ++ next) (g.feds ++ t.fed ∷ []) (g.said ++ t.said) (g.went ++ t.went)

-- the calls of the wire with one turn more
turn_calls : (was : Place) (before : Told) (mid : Place) (at : Told) (piece : List ℕ) → (g : Going was before mid at piece)
    → (now : Place) (turned : Told) → (t : Turned mid at piece now turned)
    → Called was before.calls turned.calls (done (concat g.pieces ++ piece) (bodies_in (g.feds ++ t.fed ∷ [])) (g.said ++ t.said) (g.went ++ t.went)) (g.calls ++ t.written.calls)
turn_calls was before mid at piece g now turned t =
    subst (λ l. Called was before.calls turned.calls (done (concat g.pieces ++ piece) l (g.said ++ t.said) (g.went ++ t.went)) (g.calls ++ t.written.calls))
    (sym (bodies-append g.feds (t.fed ∷ [])))
    (called_turn was before.calls at.calls turned.calls (concat g.pieces ++ piece) (bodies_in g.feds) g.said g.went g.calls g.called
    (bodies_in (t.fed ∷ [])) t.said t.went t.whole t.written)

-- where the turn goes on each of them moved something
turn_moves : (was : Place) (before : Told) (mid : Place) (at : Told) (piece : List ℕ) → (g : Going was before mid at piece)
    → (now : Place) (turned : Told) → (t : Turned mid at piece now turned) → t.whole ≡ true → AllMove (g.calls ++ t.written.calls)
turn_moves was before mid at piece g now turned t whole =
    all-append g.calls t.written.calls g.moving (subst (λ w. Moves w t.written.calls) whole t.written.moves)

-- the same, where nothing was read
turn_alone : (was : Place) (before : Told) (mid : Place) (at : Told) (piece : List ℕ) → (g : Going was before mid at piece)
    → (now : Place) (turned : Told) → (t : Turned mid at piece now turned)
    → Called was before.calls turned.calls (done_with was before mid at piece g now turned t []) (g.calls ++ t.written.calls)
turn_alone was before mid at piece g now turned t =
    subst (λ l. Called was before.calls turned.calls (done l (bodies_in (g.feds ++ t.fed ∷ [])) (g.said ++ t.said) (g.went ++ t.went)) (g.calls ++ t.written.calls))
    (sym (append-nil (concat g.pieces ++ piece)))
    (turn_calls was before mid at piece g now turned t)

-- serving could have ended with this turn
could_end : (was : Place) → AsksWhereGiven was → (before : Told) (mid : Place) (at : Told) (piece : List ℕ) → (g : Going was before mid at piece)
    → (now : Place) (turned : Told) → (t : Turned mid at piece now turned) → Reacts t.fed t.said t.went Turns.Waits → (end : WireEnd) → IsRead end
    → Serves was (service (concat g.pieces ++ piece) (g.feds ++ t.fed ∷ []) (g.said ++ t.said) (g.went ++ t.went)) end
could_end was asks before mid at piece g now turned t reacts end at_end =
    let waits = waiting_turn t.fed t.said t.went reacts in
    subst (λ f. Serves was (service (concat g.pieces ++ piece) (g.feds ++ f ∷ []) (g.said ++ t.said) (g.went ++ t.went)) end) (sym waits.0)
    (serves_read was mid now g.pieces g.feds g.said g.went piece t.said t.went end asks g.run g.spoke
    (subst (λ f. Feeds mid piece f now) waits.0 t.feeds) waits.1 waits.2 at_end)

-- the calls of the wire with one turn more and a read of these bytes
read_calls : (was : Place) → AsksWhereGiven was → (before : Told) (mid : Place) (at : Told) (piece : List ℕ) → (g : Going was before mid at piece)
    → (now : Place) (turned : Told) → (t : Turned mid at piece now turned) → Reacts t.fed t.said t.went Turns.Waits
    → (after : Told) (next : List ℕ) (n : ℕ) → Lists turned.calls after.calls (Read n ∷ []) → n ≡ length next
    → Called was before.calls after.calls (done_with was before mid at piece g now turned t next) (g.calls ++ t.written.calls ++ Read n ∷ [])
read_calls was asks before mid at piece g now turned t reacts after next n noted count =
    called_read was before.calls turned.calls after.calls (concat g.pieces ++ piece) (bodies_in (g.feds ++ t.fed ∷ [])) (g.said ++ t.said) (g.went ++ t.went) (g.calls ++ t.written.calls)
    (turn_calls was before mid at piece g now turned t)
    (sym (count_said (g.feds ++ t.fed ∷ []) (g.said ++ t.said) (g.went ++ t.went)
    (spoke-append g.feds (t.fed ∷ []) g.said t.said g.went t.went g.spoke (spoke_waiting t.fed t.said t.went reacts))))
    (could_end was asks before mid at piece g now turned t reacts Ends.Ended tt)
    next n noted count

-- one turn more, and a piece that is read then
going_on : (was : Place) (before : Told) (mid : Place) (at : Told) (piece : List ℕ) → (g : Going was before mid at piece)
    → (now : Place) (turned : Told) → (t : Turned mid at piece now turned) → Spoke (t.fed ∷ []) t.said t.went
    → (after : Told) (next : List ℕ) → ReadOn turned after next
    → (calls : List WireCall) → Called was before.calls after.calls (done_with was before mid at piece g now turned t next) calls → AllMove calls
    → Going was before now after next
going_on was before mid at piece g now turned t spoke after next r calls called moving =
    let whole = concat_last g.pieces piece in
    let j = joined was before mid at piece g now turned t after next r in
    record {
      pieces = g.pieces ++ piece ∷ [];
      feds = g.feds ++ t.fed ∷ [];
      said = g.said ++ t.said;
      went = g.went ++ t.went;
      calls = calls;
      run = run-append g.pieces g.feds was mid now piece t.fed g.run t.feeds;
      spoke = spoke-append g.feds (t.fed ∷ []) g.said t.said g.went t.went g.spoke spoke;
      given = subst (λ l. Appends before.given after.given (l ++ next)) (sym whole) j.given;
      left = subst (λ l. Consumes before.left after.left (l ++ next)) (sym whole) j.left;
      taken = j.taken;
      called = subst (λ l. Called was before.calls after.calls (done (l ++ next) (bodies_in (g.feds ++ t.fed ∷ [])) (g.said ++ t.said) (g.went ++ t.went)) calls) (sym whole) called;
      moving = moving;
      heard = j.heard;
      told = j.told;
    }

-- a turn that goes on
pub go_on : (was : Place) (before : Told) (mid : Place) (at : Told) (piece : List ℕ) → (g : Going was before mid at piece)
    → (now : Place) (turned : Told) → (t : Turned mid at piece now turned) → Reacts t.fed t.said t.went Turns.GoesOn → t.whole ≡ true → Going was before now turned []
go_on was before mid at piece g now turned t reacts whole =
    going_on was before mid at piece g now turned t (spoke_turn t.fed t.said t.went reacts) turned [] (read_nothing turned)
    (g.calls ++ t.written.calls) (turn_alone was before mid at piece g now turned t) (turn_moves was before mid at piece g now turned t whole)

-- a turn that waits, and what is read then
pub read_on : (was : Place) → AsksWhereGiven was → (before : Told) (mid : Place) (at : Told) (piece : List ℕ) → (g : Going was before mid at piece)
    → (now : Place) (turned : Told) → (t : Turned mid at piece now turned) → Reacts t.fed t.said t.went Turns.Waits → t.whole ≡ true
    → (after : Told) (next : List ℕ) → ReadOn turned after next → (n : ℕ) → Lists turned.calls after.calls (Read n ∷ []) → n ≡ length next → 0 < n
    → Going was before now after next
read_on was asks before mid at piece g now turned t reacts whole after next r n noted count some =
    going_on was before mid at piece g now turned t (spoke_waiting t.fed t.said t.went reacts) after next r
    (g.calls ++ t.written.calls ++ Read n ∷ []) (read_calls was asks before mid at piece g now turned t reacts after next n noted count)
    (all-append (g.calls ++ t.written.calls) (Read n ∷ []) (turn_moves was before mid at piece g now turned t whole) (some, tt))

-- what serving that ended so did
abbrev pub Finished : Place → Told → Place → Told → WireEnd → Type 0
Finished was before now after end = (did : Service) × (calls : List WireCall)
    × Appends before.given after.given did.came
    × Consumes before.left after.left did.came
    × Appends before.taken after.taken did.went
    × Lists before.calls after.calls calls
    × Grows before.heard after.heard did.bodies
    × Grows before.said after.said did.said
    × IsFed was did end now
    × IsPrompt was did calls
    × StopsAtNothing calls
    × Serves was did end

finished : (was : Place) (before : Told) (mid : Place) (at : Told) (piece : List ℕ) → (g : Going was before mid at piece)
    → (now : Place) (turned : Told) → (t : Turned mid at piece now turned) → (after : Told) → ReadOn turned after [] → (end : WireEnd) → IsLastGiven end t.fed
    → (calls : List WireCall) → Called was before.calls after.calls (done_with was before mid at piece g now turned t []) calls → StopsAtNothing calls
    → Serves was (service (concat g.pieces ++ piece) (g.feds ++ t.fed ∷ []) (g.said ++ t.said) (g.went ++ t.went)) end
    → Finished was before now after end
finished was before mid at piece g now turned t after r end ends calls more stops serves =
    let j = joined was before mid at piece g now turned t after [] r in
    let called = subst (λ l. Called was before.calls after.calls (done l (bodies_in (g.feds ++ t.fed ∷ [])) (g.said ++ t.said) (g.went ++ t.went)) calls)
    (append-nil (concat g.pieces ++ piece)) more in (
      service (concat g.pieces ++ piece) (g.feds ++ t.fed ∷ []) (g.said ++ t.said) (g.went ++ t.went),
      calls,
      subst (Appends before.given after.given) (append-nil (concat g.pieces ++ piece)) j.given,
      subst (Consumes before.left after.left) (append-nil (concat g.pieces ++ piece)) j.left,
      j.taken,
      called.noted,
      j.heard,
      j.told,
      record {
        pieces = g.pieces ++ piece ∷ [];
        before = g.feds;
        last = t.fed;
        whole = concat_last g.pieces piece;
        run = run-append g.pieces g.feds was mid now piece t.fed g.run t.feeds;
        bodies = refl;
        ends = ends;
      },
      is_prompt was (service (concat g.pieces ++ piece) (g.feds ++ t.fed ∷ []) (g.said ++ t.said) (g.went ++ t.went)) calls called.stops,
      stops,
      serves,
    )

-- serving ends with this turn
pub finish_turn : (was : Place) → AsksWhereGiven was → (before : Told) (mid : Place) (at : Told) (piece : List ℕ) → (g : Going was before mid at piece)
    → (now : Place) (turned : Told) → (t : Turned mid at piece now turned) → (end : WireEnd) → Reacts t.fed t.said t.went (Turns.Ends end)
    → Finished was before now turned end
finish_turn was asks before mid at piece g now turned t end reacts =
    finished was before mid at piece g now turned t turned (read_nothing turned) end (last_given t.fed t.said t.went end reacts)
    (g.calls ++ t.written.calls) (turn_alone was before mid at piece g now turned t)
    (stops-append g.calls t.written.calls g.moving (moves_stop t.whole t.written.calls t.written.moves))
    (serves_turn was mid now g.pieces g.feds g.said g.went piece t.fed t.said t.went end asks g.run g.spoke t.feeds reacts)

given_nothing : (end : WireEnd) → IsRead end → (fed : Fed) → fed ≡ NotYet → IsLastGiven end fed
given_nothing Ends.Ended at fed e = e
given_nothing Ends.Closed at fed e = absurd at
given_nothing Ends.ReadFailed at fed e = e
given_nothing Ends.WriteFailed at fed e = absurd at
given_nothing (Ends.Later close) at fed e = absurd at

-- serving ends where more is to be read
pub finish_read : (was : Place) → AsksWhereGiven was → (before : Told) (mid : Place) (at : Told) (piece : List ℕ) → (g : Going was before mid at piece)
    → (now : Place) (turned : Told) → (t : Turned mid at piece now turned) → Reacts t.fed t.said t.went Turns.Waits → t.whole ≡ true
    → (after : Told) → ReadOn turned after [] → Lists turned.calls after.calls (Read 0 ∷ []) → (end : WireEnd) → IsRead end → Finished was before now after end
finish_read was asks before mid at piece g now turned t reacts whole after r noted end at_end =
    let waits = waiting_turn t.fed t.said t.went reacts in
    finished was before mid at piece g now turned t after r end (given_nothing end at_end t.fed waits.0)
    (g.calls ++ t.written.calls ++ Read 0 ∷ []) (read_calls was asks before mid at piece g now turned t reacts after [] 0 noted refl)
    (stops-append (g.calls ++ t.written.calls) (Read 0 ∷ []) (turn_moves was before mid at piece g now turned t whole) tt)
    (could_end was asks before mid at piece g now turned t reacts end at_end)

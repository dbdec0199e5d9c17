-- When a front over doors has no posting.
use Rattle.std.proofs.Common.{◌≡◌, refl, sym, ap, ap₂, ◌∙◌, subst, arith, ℕ, suc, ◌+◌, ◌-◌, ◌^◌, ◌≤◌, min, Bool, true, false, not, cond, ◌&&◌, ◌||◌, ◌⊎◌, inl, inr, List, [], ◌∷◌, length, map, take, Some, count_by, slice_get, nat_eq, nat_le}
use Rattle.std.specs.Prelude.{Contains}
use Rattle.std.specs.List.{list_all, list_any}
use Rattle.std.proofs.lemmas.Bool.{and_parts, and_from, le-leb, leb-true, true≢false}
use Rattle.std.proofs.lemmas.Option.{none-some, same_Some}
use Rattle.std.proofs.lemmas.List.Folds.{list_any_at}
use Rattle.behaviour_tree.specs.Data.{ProgramParts}
use Rattle.outside_doors.specs.Counts.{has_ended}
use Rattle.run_theorem.specs.Exchange.{Told, Exchange}
use Rattle.run_theorem.specs.Calls.{is_of}
use Rattle.run_theorem.specs.RunConnections.{RunConnection}
use Rattle.run_theorem.specs.Served.{Requests}
use Rattle.conn_future.specs.declared.stage.Stage.{Stage}
use Rattle.conn_future.specs.declared.stage.Stage.TheVariants as Stages
use Rattle.conn_future.specs.Stages.{IsOver}
use Rattle.outside_traits.specs.Told.{WireTold}
use Rattle.run_door_front.specs.Keeping.{Lead, ListenerTold, ClientTold, is_quiet, stage_at, owes_at, owes, is_open_at, is_open}
use Rattle.run_door_front.specs.Exchanged.{OwesAt, HadNoAnswer, Pause, for_answer, for_wire, for_room, at_end, is_unended, is_for_wire, row_of, WasPaused, WerePaused}
use Rattle.run_door_front.specs.NextSteps.{AllGoOn, IsTriedInARow, AreTriedInARow, LinksGoOn, all_owing, HasPausedInARow, HavePausedInARow}
use Rattle.run_door_front.proofs.Entries.{one_if, count_cons, last_of, nat_eq_same, nat_eq_is}
use Rattle.run_door_front.proofs.Counting.{texts-where_owes}
use Rattle.run_door_front.proofs.Lining.{closed_over}
use Rattle.run_door_front.proofs.Requests.{Serves, came_some, connection_there}
use Rattle.run_door_front.proofs.OneMore.{link_there}

-- a stage that is over is not open
over_closed : (s : Stage) → IsOver s → (open_at : Stage → Bool) → open_at Stages.Ended ≡ false → open_at Stages.Closed ≡ false → open_at Stages.ReadFailed ≡ false
    → open_at Stages.WriteFailed ≡ false → open_at s ≡ false
over_closed s (inl e) f a b c d = ap f e ∙ a
over_closed s (inr (inl e)) f a b c d = ap f e ∙ b
over_closed s (inr (inr (inl e))) f a b c d = ap f e ∙ c
over_closed s (inr (inr (inr e))) f a b c d = ap f e ∙ d

-- ---- connections that owe an answer

owes_is : (s : Stage) → owes_at s ≡ true → s ≡ Stages.Owes
owes_is Stages.Reads e = absurd (true≢false (sym e))
owes_is Stages.Asks e = absurd (true≢false (sym e))
owes_is Stages.Owes e = refl
owes_is Stages.Writes e = absurd (true≢false (sym e))
owes_is Stages.Ended e = absurd (true≢false (sym e))
owes_is Stages.Closed e = absurd (true≢false (sym e))
owes_is Stages.ReadFailed e = absurd (true≢false (sym e))
owes_is Stages.WriteFailed e = absurd (true≢false (sym e))
owes_is Stages.Spent e = absurd (true≢false (sym e))

owes_open : (s : Stage) → owes_at s ≡ true → is_open_at s ≡ true
owes_open s e = ap is_open_at (owes_is s e)

-- ---- rows

-- A connection waits for an answer, it is over, or its wire has answered so often, and so often in a row now, that it can
-- move nothing yet.
abbrev pub HasRow : ℕ → ClientTold → Type 0
HasRow row m = (owes m ≡ true) ⊎ ((is_open m ≡ false) ⊎ ((row ≤ m.waits) × (row ≤ m.in_a_row)))

abbrev pub AllRows : ℕ → List ClientTold → Type 0
AllRows row [] = Unit {0}
AllRows row (m ∷ ms) = HasRow row m × AllRows row ms

pub rows-none : (row : ℕ) → row ≡ 0 → (ms : List ClientTold) → AllRows row ms
rows-none row none [] = tt
rows-none row none (m ∷ ms) = (inr (inr (least row m.waits none, least row m.in_a_row none)), rows-none row none ms)
  where
    least : (a b : ℕ) → a ≡ 0 → a ≤ b
    least a b e = omega arith

-- with any last value of their type
pub once_more : (n w cap v : ℕ) → min n cap ≤ w → min (w + 1) cap ≤ v → min (suc n) cap ≤ v
once_more n w cap v h k = omega arith

-- once more in a row
pub rows-more : (IsMade : WireTold → Type 0) (leads : List Lead) (n : ℕ) (ls ms : List ClientTold) → LinksGoOn IsMade leads ls ms → HavePausedInARow ls ms
    → AllRows (min n (2 ^ 64 - 1)) ls → AllRows (min (suc n) (2 ^ 64 - 1)) ms
rows-more IsMade leads n [] [] g p r = tt
rows-more IsMade leads n [] (m ∷ ms) g p r = absurd p
rows-more IsMade leads n (l ∷ ls) [] g p r = absurd p
rows-more IsMade leads n (l ∷ ls) (m ∷ ms) g p r = (one p.0 r.0, rows-more IsMade leads n ls ms g.1 p.1 r.1)
  where
    closed : (x : ClientTold) → IsOver (stage_at x) → is_open x ≡ false
    closed x over = over_closed (stage_at x) over is_open_at refl refl refl refl

    one : HasPausedInARow l m → HasRow (min n (2 ^ 64 - 1)) l → HasRow (min (suc n) (2 ^ 64 - 1)) m
    one (inl owing) h = inl (ap owes_at owing)
    one (inr (inl over)) h = inr (inl (closed m over))
    one (inr (inr more)) (inl owing) = inl (ap (λ (x : ClientTold). owes x) (g.0.rests (inl (inr (owes_is (stage_at l) owing)))) ∙ owing)
    one (inr (inr more)) (inr (inl over)) =
        inr (inl (ap (λ (x : ClientTold). is_open x) (g.0.rests (inr (closed_over (stage_at l) over))) ∙ over))
    one (inr (inr more)) (inr (inr row)) =
        inr (inr (once_more n l.waits (2 ^ 64 - 1) m.waits row.0 more.0, once_more n l.in_a_row (2 ^ 64 - 1) m.in_a_row row.1 more.1))

-- ---- doors at which nobody comes

pub quiet-none : (row : ℕ) → row ≡ 0 → (ps : List ListenerTold) → list_all (is_quiet row) ps ≡ true
quiet-none row none [] = refl
quiet-none row none (p ∷ ps) =
    and_from (is_quiet row p) (list_all (is_quiet row) ps) (or_true (has_ended p.door)
    (and_from (nat_le row p.door.waits) (nat_le row p.door.waits_in_a_row) (le-leb row p.door.waits (least row p.door.waits none))
    (le-leb row p.door.waits_in_a_row (least row p.door.waits_in_a_row none))))
    (quiet-none row none ps)
  where
    least : (a b : ℕ) → a ≡ 0 → a ≤ b
    least a b e = omega arith

    or_true : (b : Bool) {c : Bool} → c ≡ true → b || c ≡ true
    or_true true e = refl
    or_true false e = e

-- once more in a row
pub quiet-more : (n : ℕ) (ps qs : List ListenerTold) → AllGoOn ps qs → AreTriedInARow ps qs → list_all (is_quiet (min n (2 ^ 64 - 1))) ps ≡ true
    → list_all (is_quiet (min (suc n) (2 ^ 64 - 1))) qs ≡ true
quiet-more n [] [] g t e = refl
quiet-more n [] (q ∷ qs) g t e = absurd g
quiet-more n (p ∷ ps) [] g t e = absurd g
quiet-more n (p ∷ ps) (q ∷ qs) g t e =
    let both = and_parts (is_quiet (min n (2 ^ 64 - 1)) p) (list_all (is_quiet (min n (2 ^ 64 - 1))) ps) e in
    and_from (is_quiet (min (suc n) (2 ^ 64 - 1)) q) (list_all (is_quiet (min (suc n) (2 ^ 64 - 1))) qs) (one t.0 (has_ended p.door) refl both.0)
    (quiet-more n ps qs g.1 t.1 both.1)
  where
    ended : has_ended q.door ≡ true → is_quiet (min (suc n) (2 ^ 64 - 1)) q ≡ true
    ended done = ap (λ b. b || (nat_le (min (suc n) (2 ^ 64 - 1)) q.door.waits && nat_le (min (suc n) (2 ^ 64 - 1)) q.door.waits_in_a_row)) done

    or_true : (b : Bool) {c : Bool} → c ≡ true → b || c ≡ true
    or_true true e = refl
    or_true false e = e

    one : IsTriedInARow p q → (b : Bool) → has_ended p.door ≡ b
        → b || (nat_le (min n (2 ^ 64 - 1)) p.door.waits && nat_le (min n (2 ^ 64 - 1)) p.door.waits_in_a_row) ≡ true → is_quiet (min (suc n) (2 ^ 64 - 1)) q ≡ true
    one (inl done) b is h = ended done
    one (inr more) true is h = ended (g.0.ended is)
    one (inr more) false is h =
        let both = and_parts (nat_le (min n (2 ^ 64 - 1)) p.door.waits) (nat_le (min n (2 ^ 64 - 1)) p.door.waits_in_a_row) h in
        or_true (has_ended q.door)
        (and_from (nat_le (min (suc n) (2 ^ 64 - 1)) q.door.waits) (nat_le (min (suc n) (2 ^ 64 - 1)) q.door.waits_in_a_row)
        (le-leb (min (suc n) (2 ^ 64 - 1)) q.door.waits
        (once_more n p.door.waits (2 ^ 64 - 1) q.door.waits (leb-true (min n (2 ^ 64 - 1)) p.door.waits both.0) more.0))
        (le-leb (min (suc n) (2 ^ 64 - 1)) q.door.waits_in_a_row
        (once_more n p.door.waits_in_a_row (2 ^ 64 - 1) q.door.waits_in_a_row (leb-true (min n (2 ^ 64 - 1)) p.door.waits_in_a_row both.1) more.1)))

-- ---- why nothing comes of each

-- by how it stands
abbrev pub pause_of : ClientTold → Pause
pause_of link = cond (owes link) for_answer (cond (is_open link) for_wire at_end)

-- as many have not ended as are open
pub pause-count : (ls : List ClientTold) → count_by is_unended (map pause_of ls) ≡ count_by is_open ls
pause-count [] = refl
pause-count (l ∷ ls) =
    count_cons is_unended (pause_of l) (map pause_of ls)
    ∙ ap₂ (λ (b : Bool) (n : ℕ). one_if b + n) (at (owes l) (is_open l) (owes_open (stage_at l))) (pause-count ls) ∙ sym (count_cons is_open l ls)
  where
    at : (w o : Bool) → (w ≡ true → o ≡ true) → is_unended (cond w for_answer (cond o for_wire at_end)) ≡ o
    at true o h = sym (h refl)
    at false true h = refl
    at false false h = refl

-- where each that is open owes, none is for its wire
pub none_for_wire : (ls : List ClientTold) → all_owing ls ≡ true → list_any is_for_wire (map pause_of ls) ≡ false
none_for_wire [] e = refl
none_for_wire (l ∷ ls) e =
    let both = and_parts (owes l || not (is_open l)) (all_owing ls) e in
    ap₂ (λ a b. a || b) (at (owes l) (is_open l) both.0) (none_for_wire ls both.1)
  where
    at : (w o : Bool) → w || not o ≡ true → is_for_wire (cond w for_answer (cond o for_wire at_end)) ≡ false
    at true o h = refl
    at false true h = absurd (true≢false (sym h))
    at false false h = refl

-- ---- requests without an answer

-- what is told of is found
pub told_found : (j : ℕ) (heard : List Told) (t : Told) → Contains heard t → t.place ≡ j → list_any (λ (t : Told). nat_eq j t.place) heard ≡ true
told_found j heard t c e =
    list_any_at (λ (t : Told). nat_eq j t.place) heard c.0 t c.1
    (ap (λ (x : Told). nat_eq j x.place) c.2 ∙ ap (nat_eq j) e ∙ nat_eq_same j)

-- nothing stands behind the end
past_end : {A : Type 0} (xs : List A) (x : A) → slice_get xs (length xs) ≡ Some x → ⊥
past_end [] x e = none-some x e
past_end (y ∷ xs) x e = past_end xs x e

module _ (IsMade : WireTold → Type 0) (parts : ProgramParts) (leads : List Lead) (links : List ClientTold) (all : Requests) (heard : List Told) (d : Exchange)
    (s : Serves IsMade parts leads links all heard) (asked : all.asked ≡ d.received.asked) (told : heard ≡ take d.received.seen d.sent.told) where
  -- one whose request had no answer owes it
  pub unanswered-owes : (k : ℕ) (link : ClientTold) → slice_get links k ≡ Some link → HadNoAnswer d k → owes link ≡ true
  unanswered-owes k link is n =
      let there : slice_get all.asked n.place ≡ Some n.asked = ap (λ xs. slice_get xs n.place) asked ∙ n.there in
      let came = came_some s.connections all.asked all.came s.came n.place n.asked there in
      let connection = connection_there s.connections all.asked all.came s.came n.place n.asked there in
      let silent : list_any (λ (t : Told). nat_eq n.place t.place) heard ≡ false = ap (list_any (λ (t : Told). nat_eq n.place t.place)) told ∙ n.untold in
      elim (s.answers n.place n.asked came.0 connection.0 there came.1 connection.1) [
        | inl h ↦ absurd (true≢false (sym (told_found n.place heard h.told h.there h.place) ∙ silent))
        | inr w ↦
            let same : w.0.link ≡ link = same_Some w.0.link link (sym w.0.there ∙ ap (slice_get links) n.traffic ∙ is) in
            let here = link_there IsMade links s.connections n.asked.traffic w.0.link w.0.there s.are in
            let stage : here.0.stage ≡ Stages.Owes = subst (λ o. OwesAt o here.0.stage) w.0.pending here.2.owes in
            ap (λ (x : ClientTold). owes x) (sym same) ∙ ap owes_at (sym here.2.stage ∙ stage)
      ]

  -- one that owes an answer has a request without one
  pub owes-unanswered : (k : ℕ) (link : ClientTold) → slice_get links k ≡ Some link → owes link ≡ true → HadNoAnswer d k
  owes-unanswered k link is e =
      let here = link_there IsMade links s.connections k link is s.are in
      let v : RunConnection = here.0 in
      let counts : length v.bodies ≡ suc (length v.texts) = texts-where_owes here.2.first link.seen v.bodies v.texts here.2.talks (owes_is (stage_at link) e) in
      let found = last_of (is_of k) all.asked (length v.texts) (s.taken.all k v here.1 ∙ counts) in
      let traffic : k ≡ found.1.traffic = nat_eq_is k found.1.traffic found.3 in
      let number : found.1.request ≡ length v.texts =
      s.taken.in_order found.0 found.1 found.2 ∙ ap (λ n. count_by (is_of n) (take found.0 all.asked)) (sym traffic) ∙ found.4 in
      let came = came_some s.connections all.asked all.came s.came found.0 found.1 found.2 in
      elim (s.answers found.0 found.1 came.0 v found.2 came.1 (ap (slice_get s.connections) (sym traffic) ∙ here.1)) [
        | inl h ↦ absurd (past_end v.texts _ (ap (slice_get v.texts) (sym number) ∙ h.sent))
        | inr w ↦ record {
          place = found.0;
          asked = found.1;
          there = ap (λ xs. slice_get xs found.0) (sym asked) ∙ found.2;
          traffic = sym traffic;
          last = ap suc number ∙ sym (s.taken.all k v here.1 ∙ counts) ∙ ap (count_by (is_of k)) asked;
          untold = ap (list_any (λ (t : Told). nat_eq found.0 t.place)) (sym told) ∙ w.1;
        }
      ]

  -- each of them paused
  module _ (k : ℕ) where
    paused_by : (m : ClientTold) → HasRow (row_of d) m → (owes m ≡ true → HadNoAnswer d k) → WasPaused false d k (pause_of m) m
    paused_by m h answer = at (owes m) (is_open m) refl refl h
      where
        at : (w o : Bool) → owes m ≡ w → is_open m ≡ o → (w ≡ true) ⊎ ((o ≡ false) ⊎ ((row_of d ≤ m.waits) × (row_of d ≤ m.in_a_row)))
            → WasPaused false d k (cond w for_answer (cond o for_wire at_end)) m
        at true o e f h = answer e
        at false true e f (inl owing) = absurd (true≢false (sym owing))
        at false true e f (inr (inl over)) = absurd (true≢false over)
        at false true e f (inr (inr row)) = (f, row.0, row.1)
        at false false e f h = closed_over (stage_at m) f

    owing_by : (m : ClientTold) → owes m || not (is_open m) ≡ true → (owes m ≡ true → HadNoAnswer d k) → WasPaused false d k (pause_of m) m
    owing_by m h answer = at (owes m) (is_open m) refl refl h
      where
        at : (w o : Bool) → owes m ≡ w → is_open m ≡ o → w || not o ≡ true → WasPaused false d k (cond w for_answer (cond o for_wire at_end)) m
        at true o e f i = answer e
        at false true e f i = absurd (true≢false (sym i))
        at false false e f i = closed_over (stage_at m) f

  here : (k : ℕ) → k + 0 ≡ k
  here k = omega arith

  further : (k i : ℕ) → suc k + i ≡ k + suc i
  further k i = omega arith

  from_zero : (i : ℕ) → 0 + i ≡ i
  from_zero i = omega arith

  abbrev HaveNone : ℕ → List ClientTold → Type 0
  HaveNone k ms = (i : ℕ) (link : ClientTold) → slice_get ms i ≡ Some link → owes link ≡ true → HadNoAnswer d (k + i)

  rest_answers : (k : ℕ) (m : ClientTold) (ms : List ClientTold) → HaveNone k (m ∷ ms) → HaveNone (suc k) ms
  rest_answers k m ms f i link is o = subst (HadNoAnswer d) (sym (further k i)) (f (suc i) link is o)

  all_paused : (k : ℕ) (ms : List ClientTold) → AllRows (row_of d) ms → HaveNone k ms → WerePaused false d k (map pause_of ms) ms
  all_paused k [] h f = tt
  all_paused k (m ∷ ms) h f =
      (paused_by k m h.0 (λ o. subst (HadNoAnswer d) (here k) (f 0 m refl o)), all_paused (suc k) ms h.1 (rest_answers k m ms f))

  all_owe : (k : ℕ) (ms : List ClientTold) → all_owing ms ≡ true → HaveNone k ms → WerePaused false d k (map pause_of ms) ms
  all_owe k [] e f = tt
  all_owe k (m ∷ ms) e f =
      let both = and_parts (owes m || not (is_open m)) (all_owing ms) e in
      (owing_by k m both.0 (λ o. subst (HadNoAnswer d) (here k) (f 0 m refl o)), all_owe (suc k) ms both.1 (rest_answers k m ms f))

  answers : HaveNone 0 links
  answers i link is o = subst (HadNoAnswer d) (sym (from_zero i)) (owes-unanswered i link is o)

  pub paused-all : AllRows (row_of d) links → WerePaused false d 0 (map pause_of links) links
  paused-all h = all_paused 0 links h answers

  pub owing-all : all_owing links ≡ true → WerePaused false d 0 (map pause_of links) links
  owing-all e = all_owe 0 links e answers

  -- ---- how those stand that paused

  abbrev Owe : ℕ → List ClientTold → Type 0
  Owe k ls = (i : ℕ) (link : ClientTold) → slice_get ls i ≡ Some link → HadNoAnswer d (k + i) → owes link ≡ true

  owing_first : (k : ℕ) (l : ClientTold) (ls : List ClientTold) → Owe k (l ∷ ls) → HadNoAnswer d k → owes l ≡ true
  owing_first k l ls f n = f 0 l refl (subst (HadNoAnswer d) (sym (here k)) n)

  owing_rest : (k : ℕ) (l : ClientTold) (ls : List ClientTold) → Owe k (l ∷ ls) → Owe (suc k) ls
  owing_rest k l ls f i link is n = f (suc i) link is (subst (HadNoAnswer d) (further k i) n)

  paused_open : (k : ℕ) (ps : List Pause) (ls : List ClientTold) → Owe k ls → WerePaused false d k ps ls → count_by is_unended ps ≡ count_by is_open ls
  paused_open k [] [] f w = refl
  paused_open k [] (l ∷ ls) f w = absurd w
  paused_open k (p ∷ ps) [] f w = absurd w
  paused_open k (p ∷ ps) (l ∷ ls) f w =
      count_cons is_unended p ps ∙ ap₂ (λ (b : Bool) (n : ℕ). one_if b + n) (at_one p w.0) (paused_open (suc k) ps ls (owing_rest k l ls f) w.1)
      ∙ sym (count_cons is_open l ls)
    where
      at_one : (p : Pause) → WasPaused false d k p l → is_unended p ≡ is_open l
      at_one for_answer n = sym (owes_open (stage_at l) (owing_first k l ls f n))
      at_one for_wire h = sym h.0
      at_one for_room h = absurd (true≢false (sym h.0))
      at_one at_end over = sym (over_closed (stage_at l) over is_open_at refl refl refl refl)

  paused_rows : (k : ℕ) (ps : List Pause) (ls : List ClientTold) → Owe k ls → WerePaused false d k ps ls → AllRows (row_of d) ls
  paused_rows k [] [] f w = tt
  paused_rows k [] (l ∷ ls) f w = absurd w
  paused_rows k (p ∷ ps) [] f w = absurd w
  paused_rows k (p ∷ ps) (l ∷ ls) f w = (at_one p w.0, paused_rows (suc k) ps ls (owing_rest k l ls f) w.1)
    where
      at_one : (p : Pause) → WasPaused false d k p l → HasRow (row_of d) l
      at_one for_answer n = inl (owing_first k l ls f n)
      at_one for_wire h = inr (inr (h.1, h.2))
      at_one for_room h = absurd (true≢false (sym h.0))
      at_one at_end over = inr (inl (over_closed (stage_at l) over is_open_at refl refl refl refl))

  all_of : Owe 0 links
  all_of i link is n = unanswered-owes i link is (subst (HadNoAnswer d) (from_zero i) n)

  pub paused-open : (ps : List Pause) → WerePaused false d 0 ps links → count_by is_unended ps ≡ count_by is_open links
  paused-open ps w = paused_open 0 ps links all_of w

  pub paused-rows : (ps : List Pause) → WerePaused false d 0 ps links → AllRows (row_of d) links
  paused-rows ps w = paused_rows 0 ps links all_of w

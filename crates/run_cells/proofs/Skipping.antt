-- The next session that a round visits, and what lies between.
use Rattle.std.proofs.Common.{◌≡◌, ◌≤◌, ◌<◌, ℕ, zero, suc, ◌+◌, ◌-◌, Bool, Fits, w32, List, [], ◌∷◌, length, Some, refl, sym, subst, ◌∙◌, arith}
use Rattle.std.specs.Prelude.{drop, map, slice_get}
use Rattle.std.proofs.lemmas.List.{length-map}
use Rattle.behaviour_tree.specs.PartsView.{parts_of}
use Rattle.office_core.specs.Limits.{run_of}
use Rattle.office_core.specs.declared.history.Entry.{Entry}
use Rattle.office_core.specs.declared.message.Message.{Message}
use Rattle.office_plain.specs.View.{entries_of}
use Rattle.run_cells.specs.Awake.{IsOn, TakesOff}
use Rattle.run_cells.specs.News.{IsHeard, Told}
use Rattle.run_cells.specs.RunStates.{AtWork, HasHeardAll, IsTold, Rests, RunState, Stand, State, Team, past_in, state_of, with_told}
use Rattle.run_cells.specs.Turns.{TurnsOf}
use Rattle.run_cells.specs.Visits.{IsNext, IsNextFrom, Skips, awake, first_awake, none_awake, unborn}
use Rattle.run_cells.proofs.Going.{rests_turns}
use Rattle.run_cells.proofs.Offices.{along}
use Rattle.run_cells.proofs.Sleeping.{rests_now, told_heard, told_laid, told_picks}

-- a run state with other picks
abbrev pub with_picks : List ℕ → RunState → RunState
with_picks picks c = record {
  program = c.program;
  office = c.office;
  budget = c.budget;
  stands = c.stands;
  picks = picks;
  told = c.told;
  heard = c.heard;
}

module _ (c : RunState) (number n : ℕ) (work : AtWork c) (all : HasHeardAll c) (within : number ≤ length c.stands)
    (x : IsNextFrom c number n) where
  pub next_is : (picks : List ℕ) → IsNext (with_picks picks c) n
  next_is picks = go x
    where
      go : IsNextFrom c number n → IsNext (with_picks picks c) n
      go (first_awake f) = awake f.on
      go (none_awake none e) = unborn e

  pub next_rising : number ≤ n
  next_rising = go x
    where
      go : IsNextFrom c number n → number ≤ n
      go (first_awake f) = f.rising
      go (none_awake none e) = subst (λ (k : ℕ). number ≤ k) (sym e) within

  pub next_there : n ≤ length c.stands
  next_there = go x
    where
      go : IsNextFrom c number n → n ≤ length c.stands
      go (first_awake f) = let l : n < length c.stands = work.told.there n f.on in omega arith
      go (none_awake none e) = omega (arith, e)

  -- those before it rest
  pub next_rests : (k : ℕ) (st : Stand) → number ≤ k → k < n → slice_get c.stands k ≡ Some st
      → Rests (state_of c) k st (state_of c).history
  next_rests k st l u h = rests_now all work.told k st h (go x)
    where
      go : IsNextFrom c number n → IsOn c.told.awake k → ⊥
      go (first_awake f) on = let v : n ≤ k = f.least k on l in absurd (omega arith)
      go (none_awake none e) on = let v : k < number = none k on in absurd (omega arith)

  -- the picks of those before it were dropped
  pub next_skips : (picks : List ℕ) → picks ≡ drop (n - number) c.picks
      → Skips number n (state_of c) (state_of (with_picks picks c))
  next_skips picks left = record {
    rising = next_rising;
    there = next_there;
    rest = next_rests;
    same = λ i. record {
      setting = run_of (parts_of c.program);
      budget = c.budget;
      history = entries_of c.office;
      stands = c.stands;
      picks = left i;
    };
  }

-- nobody asks for the picks
pub picks_work : (c : RunState) (picks : List ℕ) → AtWork c → AtWork (with_picks picks c)
picks_work c picks work =
    let t : Team (state_of c) = work.team in
    record {
      desk = work.desk;
      team = record {
        limits = t.limits;
        legal = t.legal;
        running = t.running;
        adopted = t.adopted;
        each = t.each;
        within = t.within;
      };
      told = told_picks picks work.told;
    }

-- the next one is awake where it stands
pub next_here : (c : RunState) (n : ℕ) → n < length c.stands → IsNext c n → IsOn c.told.awake n
next_here c n l (awake on) = on
next_here c n l (unborn e) = absurd (omega (arith, l, e))

-- by the number of cells
pub unborn_next : {X : Type 0} (f : X → Stand) (xs : List X) {n : ℕ} → n ≡ length xs → n ≡ length (map f xs)
unborn_next f xs e = e ∙ sym (length-map xs f)

pub within_cells : {X : Type 0} (f : X → Stand) (xs : List X) {n : ℕ} → n ≤ length xs → n ≤ length (map f xs)
within_cells f xs {n} l = subst (λ (k : ℕ). n ≤ k) (sym (length-map xs f)) l

pub among_cells : {X : Type 0} (f : X → Stand) (xs : List X) {n : ℕ} → n < length xs → n < length (map f xs)
among_cells f xs {n} l = subst (λ (k : ℕ). n < k) (sym (length-map xs f)) l

pub stands_cells : {X : Type 0} (f : X → Stand) (xs : List X) {n : ℕ} → n < length (map f xs) → n < length xs
stands_cells f xs {n} l = subst (λ (k : ℕ). n < k) (length-map xs f) l

pub next_fits : {X : Type 0} (f : X → Stand) (xs : List X) (n : ℕ) → length (map f xs) ≤ 4096 → n ≤ length xs → Fits w32 n
next_fits f xs n few l =
    let same : length (map f xs) ≡ length xs = length-map xs f in
    omega arith

pub at_count : {X : Type 0} (xs : List X) (n count : ℕ) → count ≡ length xs → n ≤ length xs → count ≤ n → length xs ≡ n
at_count xs n count e l m = omega (arith, e)

pub next_within : {X : Type 0} (f : X → Stand) (xs : List X) (n k : ℕ) → n < k → length (map f xs) ≡ k → n + 1 ≤ length xs
next_within f xs n k l e =
    let same : length (map f xs) ≡ length xs = length-map xs f in
    omega arith

-- ---- looks

-- the messages that the office keeps are those of the run
messages-are : (c : RunState) → AtWork c → (c.office).kept.messages ≡ (past_in (state_of c)).messages
messages-are c work =
    along (λ w p. (c.office).kept.messages ≡ p.messages) (entries_of c.office) work.desk.program
    ((c.office).tied work.desk.ready).messages

-- An entry stands at a place.
record Made (h : List Entry) (n : ℕ) : Type 0 where
  pub entry : Entry
  pub at : slice_get h n ≡ Some entry

made : (h : List Entry) (n : ℕ) → n < length h → Made h n
made [] n l = absurd (omega arith)
made (e ∷ h) zero l = record { entry = e; at = refl }
made (e ∷ h) (suc n) l = let m = made h n (omega arith) in record { entry = m.entry; at = m.at }

-- the next entry was looked at
pub heard_work : (c : RunState) (told : Told) (heard count : ℕ) → AtWork c → c.heard < length (entries_of c.office)
    → count ≡ length c.stands → heard ≡ c.heard + 1
    → ((e : Entry) → slice_get (entries_of c.office) c.heard ≡ Some e → IsHeard (c.office).kept.messages count e c.told told)
    → AtWork (with_told told heard c)
heard_work c told heard count work within few is looked =
    let m = made (entries_of c.office) c.heard within in
    record {
      desk = work.desk;
      team = work.team;
      told = subst (λ (k : ℕ). IsTold (state_of c) told k) (one-more c.heard ∙ sym is)
          (told_heard (state_of c) work.team c.told told c.heard count m.entry m.at few
          (subst (λ (ms : List Message). IsHeard ms count m.entry c.told told) (messages-are c work) (looked m.entry m.at))
          work.told);
    }
  where
    one-more : (k : ℕ) → suc k ≡ k + 1
    one-more k = omega arith

-- ---- one lies down

pub laid_work : (c : RunState) (told : Told) (n : ℕ) → AtWork c → HasHeardAll c
    → ((st : Stand) → slice_get c.stands n ≡ Some st → Rests (state_of c) n st (state_of c).history)
    → TakesOff n c.told.awake told.awake → told.senders ≡ c.told.senders → AtWork (with_told told c.heard c)
laid_work c told n work all rests off same = record {
  desk = work.desk;
  team = work.team;
  told = told_laid told n all rests off same work.told;
}

-- after its turns a session rests, at an equal state
pub rests_after : {n : ℕ} {old mid new : State} {b : Bool} → TurnsOf n old mid b → new ≡ mid → (st : Stand)
    → slice_get new.stands n ≡ Some st → Rests new n st new.history
rests_after {n} x e =
    subst (λ (s : State). (st : Stand) → slice_get s.stands n ≡ Some st → Rests s n st s.history) (sym e) (rests_turns x)

-- no entry is left
pub all_heard : (c : RunState) {entries : ℕ} → AtWork c → entries ≡ length (entries_of c.office) → entries ≤ c.heard
    → HasHeardAll c
all_heard c work e l =
    let within : c.heard ≤ length (entries_of c.office) = work.told.within in
    omega (arith, e, l)

pub heard_less : (heard heard' most : ℕ) → heard' ≡ heard + 1 → heard < most → most - heard' < most - heard
heard_less heard heard' most e l = omega arith

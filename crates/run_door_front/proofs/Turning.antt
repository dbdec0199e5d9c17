-- A look goes by whole rounds.
use Rattle.std.proofs.Common.{◌≡◌, refl, sym, ap, ap₂, ◌∙◌, subst, arith, ℕ, suc, ◌+◌, ◌-◌, ◌<◌, ◌≤◌, Bool, true, false, ◌&&◌, ◌||◌, ◌⊎◌, inl, inr, List, [], ◌∷◌, ◌++◌, length, map, nat_lt, length-append, append-nil}
use Rattle.std.proofs.lemmas.Bool.{and_parts, lt-ltb, ltb-true, ltb-false, true≢false}
use Rattle.std.specs.List.{list_all}
use Rattle.outside_traits.specs.Told.{WireTold}
use Rattle.office_core.specs.declared.front.Posting.{Posting}
use Rattle.run_theorem.specs.declared.front.Next.TheVariants as nexts
use Rattle.run_theorem.specs.Calls.{most_postings}
use Rattle.run_door_front.specs.Keeping.{ListenerTold, ClientTold, owes_there, is_so, owes, closed_off}
use Rattle.run_door_front.specs.NextSteps.{all_owing, after_rest, doorway, Accepts, queued, PollsAll, Listing, listing, Hands, Going, going}
use Rattle.run_door_front.specs.Moving.{any_moved, HaveWaited}
use Rattle.run_door_front.specs.Rounds.{has_changed, rests_of, Round, IsUndone, Rounds, no_round, one_changed, RoundsAndOne, RoundsToRest, ByRounds}
use Rattle.run_door_front.proofs.Links.{clients-long}
use Rattle.run_door_front.proofs.Lining.{opened_owing}

-- Rounds were made, in each of which somebody came or went; so there was one or not.
pub record HasTurned (IsMade : WireTold → Type 0) (most : ℕ) (changed : Bool) (before now : Going) : Type 0 where
  pub turns : ℕ
  pub rounds : Rounds IsMade most before turns now
  pub some : changed ≡ true → 0 < turns
  pub none : changed ≡ false → turns ≡ 0
  pub same : changed ≡ false → now ≡ before

pub turned-none : (IsMade : WireTold → Type 0) (most : ℕ) (x : Going) → HasTurned IsMade most false x x
turned-none IsMade most x = record {
  turns = 0;
  rounds = no_round;
  some = λ e. absurd (true≢false (sym e));
  none = λ e. refl;
  same = λ e. refl;
}

-- what is not less
not_less : (a b : ℕ) → b ≤ a → nat_lt a b ≡ false
not_less a b h = by_test (nat_lt a b) refl
  where
    by_test : (t : Bool) → nat_lt a b ≡ t → nat_lt a b ≡ false
    by_test true e = let less = ltb-true a b e in absurd (omega (arith, h, less))
    by_test false e = e

module _ (IsMade : WireTold → Type 0) (most : ℕ) (was : Bool) (x y : Going) (doors : List ListenerTold) (links now : List ClientTold) (among opened queue : List ℕ)
    (few : length x.traffics < most_postings) (t : HasTurned IsMade most was x y)
    (a : Accepts IsMade most (doorway y.doors y.connections y.opened) (doorway doors links among)) (rests : map rests_of doors ≡ map rests_of y.doors)
    (p : PollsAll (queued links among y.queue) (queued now opened queue)) (waited : HaveWaited links now) where
  abbrev after : Going
  after = going doors now opened queue y.traffics

  round : Round IsMade most y after
  round = record { way = doorway doors links among; accepts = a; polls = p; doors = refl; waited = waited; rests = rests; traffics = refl }

  abbrev all : RoundsAndOne IsMade most x after
  all = record { fewer = few; turns = t.turns; start = y; rounds = t.rounds; last = round }

  -- whether each that is open waits for an answer
  owing_is : list_all (owes_there now) opened ≡ all_owing now
  owing_is = ap (list_all (owes_there now)) p.ordered.in_order ∙ opened_owing (owes_there now) now (λ i l is. ap (is_so owes) is)

  -- a request is posted
  pub rounds-post : (number : ℕ) (rest : List ℕ) (posting : Posting) (later : Listing) → queue ≡ number ∷ rest → Hands number posting (listing now y.traffics) later
      → ByRounds IsMade most (nexts.Posting posting) x (going doors later.connections opened rest later.traffics)
  rounds-post number rest posting later first h = (after, all, record { number = number; first = first; hands = h; doors = refl; opened = refl })

  -- nothing comes any more
  pub rounds-end : queue ≡ [] → closed_off most doors now && list_all (owes_there now) opened ≡ true
      → ByRounds IsMade most nexts.End x (going doors now opened queue y.traffics)
  rounds-end none done =
      let both = and_parts (closed_off most doors now) (all_owing now) (ap (λ b. closed_off most doors now && b) (sym owing_is) ∙ done) in
      inr (record { rounds = all; none = none; over = both.0; owing = both.1 })

  -- ---- the call goes on

  module _ (none : queue ≡ []) (some : closed_off most doors now && list_all (owes_there now) opened ≡ false) where
    undone : IsUndone most after
    undone = record { none = none; some = ap (λ b. closed_off most doors now && b) (sym owing_is) ∙ some }

    came_in : length links ≡ length y.connections + length a.takes.more
    came_in = ap length a.takes.grown ∙ length-append y.connections a.takes.more

    long : length now ≡ length links
    long = clients-long links now p.goes

    -- somebody came or went
    changed : (length y.connections < length links) ⊎ (length opened < length among) → has_changed y after ≡ true
    changed h = by_came (nat_lt (length y.connections) (length now)) refl
      where
        fewer : length now ≤ length y.connections → (length y.connections < length links) ⊎ (length opened < length among) → length opened < length y.opened
        fewer nobody (inl came) = absurd (let grown = long in omega (arith, nobody, came, grown))
        fewer nobody (inr went) =
            let grown = came_in in
            let wide = a.takes.as_many in
            let same = long in
            omega (arith, nobody, went, grown, wide, same)

        by_came : (b : Bool) → nat_lt (length y.connections) (length now) ≡ b → b || nat_lt (length opened) (length y.opened) ≡ true
        by_came true e = refl
        by_came false e = lt-ltb (length opened) (length y.opened) (fewer (ltb-false (length y.connections) (length now) e) h)

    pub rounds-changed : (length y.connections < length links) ⊎ (length opened < length among) → HasTurned IsMade most true x (going doors now opened queue y.traffics)
    rounds-changed h = record {
      turns = suc t.turns;
      rounds = one_changed t.turns y after t.rounds round undone (changed h);
      some = λ e. omega arith;
      none = λ e. absurd (true≢false e);
      same = λ e. absurd (true≢false e);
    }

    module _ (nobody : length links ≤ length y.connections) (stayed : length among ≤ length opened) where
      none_more : length a.takes.more ≡ 0
      none_more = let grown = came_in in omega (arith, nobody, grown)

      unchanged : has_changed y after ≡ false
      unchanged =
          let same = long in
          let wide = a.takes.as_many in
          let nothing = none_more in
          ap₂ (λ c d. c || d) (not_less (length y.connections) (length now) (omega (arith, nobody, same)))
          (not_less (length opened) (length y.opened) (omega (arith, stayed, wide, nothing)))

      -- nobody came
      same_links : links ≡ y.connections
      same_links = by_more a.takes.more a.takes.grown none_more
        where
          by_more : (more : List ClientTold) → links ≡ y.connections ++ more → length more ≡ 0 → links ≡ y.connections
          by_more [] e n = e ∙ append-nil y.connections
          by_more (m ∷ more) e n = absurd (omega (arith, n))

      moved_is : (moved : Bool) → moved ≡ any_moved links now → any_moved y.connections now ≡ moved
      moved_is moved is = ap (λ ls. any_moved ls now) (sym same_links) ∙ sym is

      abbrev rest_now : RoundsToRest IsMade most x (going (after_rest doors) now opened queue y.traffics)
      rest_now = record { mid = after; rounds = all; undone = undone; unchanged = unchanged; rested = refl }

      -- something moved
      pub rounds-moved : (moved : Bool) → moved ≡ any_moved links now → (was ≡ true) ⊎ (moved ≡ true) → (later : List ListenerTold) → later ≡ after_rest doors
          → ByRounds IsMade most nexts.Moved x (going later now opened queue y.traffics)
      rounds-moved moved is some later rested =
          subst (λ ps. ByRounds IsMade most nexts.Moved x (going ps now opened queue y.traffics)) (sym rested) (
            rest_now,
            elim some [ inl before ↦ inl (t.some before) | inr so ↦ inr (moved_is moved is ∙ so) ],
          )

      -- nothing moved
      pub rounds-still : (moved : Bool) → moved ≡ any_moved links now → was ≡ false → moved ≡ false → (later : List ListenerTold) → later ≡ after_rest doors
          → ByRounds IsMade most nexts.NotYet x (going later now opened queue y.traffics)
      rounds-still moved is none still later rested =
          subst (λ ps. ByRounds IsMade most nexts.NotYet x (going ps now opened queue y.traffics)) (sym rested) (
            rest_now,
            t.none none,
            moved_is moved is ∙ still,
          )

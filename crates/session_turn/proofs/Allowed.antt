-- Strand after strand is looked at, until the event of one is allowed.
use Rattle.std.proofs.Common.{◌≡◌, ℕ, ◌<◌, ◌+◌, Bool, true, false, List, [], ◌∷◌, Option, Some, None, is_some, Result, Ok, Err, length, below_more, refl, sym, subst, ◌∙◌, true≢false}
use Rattle.std.specs.Prelude.{Contains, IfOk, IfSome, slice_index}
use Rattle.std.proofs.lemmas.Bool.{false≢true}
use Rattle.std.proofs.lemmas.List.{append-nil}
use Rattle.std.proofs.lemmas.List.Elements.{Contains-get_or}
use Rattle.behaviour_tree.specs.declared.words.Need.{Need}
use Rattle.behaviour_tree.specs.declared.words.Need.TheVariants as need
use Rattle.behaviour_tree.specs.declared.words.Given.{Given}
use Rattle.behaviour_tree.specs.declared.words.Outcome.{Outcome}
use Rattle.session_calculus.specs.After.{Config, Done, after}
use Rattle.office_core.specs.declared.history.Entry.{Entry}
use Rattle.office_core.specs.Boxes.{queue}
use Rattle.office_core.specs.Calls.{result}
use Rattle.office_core.specs.Keys.{first}
use Rattle.session_turn.specs.Seen.{Grew, Seat, past_at}
use Rattle.session_turn.specs.Lives.{Moment}
use Rattle.session_turn.specs.Turns.{IsAbsent, Passed}
use Rattle.session_turn.specs.Looks.{IsAllowed, LookedAtAll, MayAct, ended, is_there, none, one}
use Rattle.session_turn.specs.Attempts.{Asks, LookedAt, allowed, passed}
use Rattle.session_turn.proofs.Looking.{passed_from, passed_on, stands}

-- a list without a first has nothing
none-first : (xs : List ℕ) → is_some (first xs) ≡ false → xs ≡ []
none-first [] e = refl
none-first (x ∷ xs) e = absurd (true≢false e)

-- an outcome that is not there
none-there : (o : Option Outcome) → is_some o ≡ false → o ≡ None
none-there None e = refl
none-there (Some x) e = absurd (true≢false e)

-- what is not there is absent
absent_there : (a : Seat) (h : List Entry) (n : Need) → is_there a h n ≡ false → IsAbsent a h n
absent_there a h (need.Take ops) e = none-first (queue (past_at a h) a.session ops) e
absent_there a h (need.Answer k) e = none-there (result a.setting (past_at a h) a.session k) e
absent_there a h n e = true≢false e

module _ {a : Seat} {n : ℕ} {old new : Moment} where
  -- what a look at a strand found
  pub looked_at : {asked : Need} (b : Bool) → Asks (stands a old) n asked → Grew a old.seen new.seen
      → new.config ≡ old.config → new.service ≡ old.service → b ≡ is_there a new.seen asked → LookedAt a n old new b
  looked_at {asked} true asks grew c s e = allowed (record {
    config = asks.config;
    at = c ∙ asks.at;
    asked = asked;
    asks = subst (λ (i : ℕ). (g : Given) (d : Done) → after a.setting.parts i asks.config n g ≡ Some d → d.need ≡ asked) (sym s) asks.each;
    there = sym e;
  })
  looked_at {asked} false asks grew c s e = passed (record {
    config = asks.config;
    at = asks.at;
    asked = asked;
    asks = asks.each;
    saw = new.seen;
    grew = grew;
    absent = absent_there a new.seen asked (sym e);
    more = [];
    is = sym (append-nil new.seen);
  })

  -- where the look succeeds
  pub looked_ok : {asked : Need} {E : Type 0} (q : Result Bool E) → Asks (stands a old) n asked
      → Grew a old.seen new.seen → new.config ≡ old.config → new.service ≡ old.service
      → IfOk q (λ b. b ≡ is_there a new.seen asked) → IfOk q (LookedAt a n old new)
  looked_ok (Ok b) asks grew c s e = looked_at b asks grew c s e
  looked_ok (Err e) asks grew c s is = tt

-- by what a look answered, the event is allowed
pub allowed_then : {a : Seat} {n : ℕ} {old new : Moment} {b : Bool} → LookedAt a n old new b → b ≡ true
    → IsAllowed a n new
allowed_then (allowed h) e = h
allowed_then (passed h) e = absurd (false≢true e)

-- or the strand was passed
pub passed_then : {a : Seat} {n : ℕ} {old new : Moment} {b : Bool} → LookedAt a n old new b → b ≡ false
    → Passed a n old new
passed_then (allowed h) e = absurd (true≢false e)
passed_then (passed h) e = h

module _ {a : Seat} {strands : List ℕ} {old new : Moment} where
  -- the event of the strand at place i is allowed
  pub one_allowed : (i : ℕ) → i < length strands → IsAllowed a (slice_index strands i) new
      → LookedAtAll a strands old new true
  one_allowed i within h = one (slice_index strands i) (Contains-get_or strands i 0 within) h

  -- none is
  pub none_allowed : ((k : ℕ) → k < length strands → Passed a (slice_index strands k) old new)
      → LookedAtAll a strands old new false
  none_allowed h = none h

-- one strand more was passed
pub more_passed : {a : Seat} {old mid new : Moment} (strands : List ℕ) (i : ℕ) → Grew a old.seen mid.seen
    → Grew a mid.seen new.seen
    → mid.config ≡ old.config → mid.service ≡ old.service
    → ((k : ℕ) → k < i → Passed a (slice_index strands k) old mid) → Passed a (slice_index strands i) mid new
    → (k : ℕ) → k < i + 1 → Passed a (slice_index strands k) old new
more_passed {a} {old} {mid} {new} strands i grew on c s were h =
    below_more (λ k. Passed a (slice_index strands k) old new) i
    (λ k l. passed_on {new = new} (were k l) on.others on.is) (passed_from grew c s h)

-- a session that answers that it has ended
pub ended_then : {a : Seat} {old new : Moment} (b : Bool) → b ≡ true → IfSome old.config (λ c. b ≡ c.ended)
    → (old.config ≡ None → b ≡ false)
    → MayAct a old new false
ended_then {a} {old} {new} b e f g = go old.config refl f g
  where
    go : (o : Option Config) → old.config ≡ o → IfSome o (λ c. b ≡ c.ended) → (o ≡ None → b ≡ false) → MayAct a old new false
    go None q f g = absurd (true≢false (sym e ∙ g refl))
    go (Some c) q f g = ended c q (sym f ∙ e)

-- Strand after strand is looked at, until one is allowed.
use Rattle.std.proofs.Common.{◌≡◌, ℕ, ◌<◌, ◌+◌, List, [], ◌++◌, Option, Some, sym, ap, subst, ◌∙◌, length, below_more, append_assoc}
use Rattle.std.proofs.lemmas.List.{append-nil}
use Rattle.std.specs.Prelude.{IfSome, slice_index_or}
use Rattle.std.proofs.lemmas.List.Elements.{Contains-get_or}
use Rattle.behaviour_tree.specs.declared.words.Event.{Event}
use Rattle.behaviour_tree.specs.declared.words.Need.{Need}
use Rattle.behaviour_tree.specs.declared.words.Need.TheVariants as need
use Rattle.behaviour_tree.specs.declared.words.Given.{Given}
use Rattle.behaviour_tree.specs.declared.words.Given.TheVariants as given
use Rattle.session_calculus.specs.After.{Config, Done, after, HasEvent}
use Rattle.office_core.specs.declared.history.Entry.{Entry}
use Rattle.session_turn.specs.Seen.{Seat, Grew}
use Rattle.session_turn.specs.Lives.{Gives, Moment}
use Rattle.session_turn.specs.Turns.{AreEnabled, FirstDone, Happened, Order, Passed, strand_after}
use Rattle.session_turn.specs.Attempts.{Asks, Gave, GaveNone, Standing, StoodStill, WentOn, standing}
use Rattle.session_turn.proofs.Growing.{grew_on}

pub same_some : {x y : Config} → Some x ≡ Some y → x ≡ y
same_some e = cc

-- a session of the moment, as it stands in the run of the seat
abbrev pub stands : Seat → Moment → Standing
stands a m = standing a.setting.parts m.service m.config

-- the strand at a place of the list has an event
pub enabled_at : {a : Seat} {now : Moment} {strands : List ℕ} → AreEnabled a now strands → (i : ℕ) → i < length strands
    → IfSome now.config (λ c. HasEvent a.setting.parts now.service c (slice_index_or strands i 0))
enabled_at {a} {now} {strands} e i h =
    subst (λ (o : Option Config). IfSome o (λ c. HasEvent a.setting.parts now.service c (slice_index_or strands i 0))) (sym e.at)
    ((e.exact (slice_index_or strands i 0)).0 (Contains-get_or strands i 0 h))

-- also once more was seen, where the session did not move
pub enabled_still : {a : Seat} {old : Moment} {strands : List ℕ} {config : Option Config} {service : ℕ}
    → AreEnabled a old strands → config ≡ old.config → service ≡ old.service → (i : ℕ) → i < length strands
    → IfSome config (λ c. HasEvent a.setting.parts service c (slice_index_or strands i 0))
enabled_still {a} {old} {strands} {config} {service} e f g i h =
    subst (λ (o : Option Config). IfSome o (λ c. HasEvent a.setting.parts service c (slice_index_or strands i 0))) (sym f)
    (subst (λ (s : ℕ). IfSome old.config (λ c. HasEvent a.setting.parts s c (slice_index_or strands i 0))) (sym g)
    (enabled_at e i h))

module _ {a : Seat} {n : ℕ} {old new : Moment} where
  -- the office gave nothing of what the strand asks
  pub stood_still : {asked : Need} → Asks (stands a old) n asked → GaveNone a asked old.seen new.seen
      → new.config ≡ old.config → new.service ≡ old.service → StoodStill a n old new
  stood_still {asked} asks none c s = record {
    passed = record {
      config = asks.config;
      at = asks.at;
      asked = asked;
      asks = asks.each;
      saw = new.seen;
      grew = none.grew;
      absent = none.absent;
      more = [];
      is = sym (append-nil new.seen);
    };
    grew = none.grew;
    config = c;
    service = s;
  }

  -- the office gave what the strand asks, and its event was done
  pub has_happened : {asked : Need} {gift : Given} {event : Event} → Asks (stands a old) n asked
      → Gave a asked old.seen new.seen gift
      → WentOn (stands a old) (stands a new) n gift event → new.service ≡ old.service
      → Happened a n old new event
  has_happened {asked} {gift} x gave went s =
      let here : x.config ≡ went.config = same_some (sym x.at ∙ went.at) in
      let asks : went.done.need ≡ asked
      = x.each gift went.done
      (subst (λ (c : Config). after a.setting.parts old.service c n gift ≡ Some went.done) (sym here) went.after_is) in
      record {
        config = went.config;
        at = went.at;
        gift = gift;
        done = went.done;
        after_is = went.after_is;
        before = gave.before;
        grew = gave.grew;
        own = gave.own;
        given = subst (λ (y : Need). Gives a gave.before y gift gave.own) (sym asks) gave.given;
        seen = gave.is;
        now_at = went.now_at;
        service = s;
        event_is = went.event_is;
      }

-- a strand that was passed stays so when more is seen
pub passed_on : {a : Seat} {n : ℕ} {old mid new : Moment} → Passed a n old mid → (more : List Entry)
    → new.seen ≡ mid.seen ++ more
    → Passed a n old new
passed_on p more e = record {
  config = p.config;
  at = p.at;
  asked = p.asked;
  asks = p.asks;
  saw = p.saw;
  grew = p.grew;
  absent = p.absent;
  more = p.more ++ more;
  is = e ∙ ap (λ (h : List Entry). h ++ more) p.is ∙ append_assoc p.saw p.more more;
}

module _ {a : Seat} {n : ℕ} {old mid new : Moment} where
  -- and where it was passed after more was seen, at the same place
  pub passed_from : Grew a old.seen mid.seen → mid.config ≡ old.config → mid.service ≡ old.service → Passed a n mid new
      → Passed a n old new
  passed_from g e f p = record {
    config = p.config;
    at = sym e ∙ p.at;
    asked = p.asked;
    asks = subst (λ (s : ℕ). (g : Given) (d : Done) → after a.setting.parts s p.config n g ≡ Some d → d.need ≡ p.asked) f p.asks;
    saw = p.saw;
    grew = grew_on g p.grew;
    absent = p.absent;
    more = p.more;
    is = p.is;
  }

  pub happened_from : {event : Event} → Grew a old.seen mid.seen → mid.config ≡ old.config → mid.service ≡ old.service
      → Happened a n mid new event
      → Happened a n old new event
  happened_from g e f p = record {
    config = p.config;
    at = sym e ∙ p.at;
    gift = p.gift;
    done = p.done;
    after_is = subst (λ (s : ℕ). after a.setting.parts s p.config n p.gift ≡ Some p.done) f p.after_is;
    before = p.before;
    grew = grew_on g p.grew;
    own = p.own;
    given = p.given;
    seen = p.seen;
    now_at = p.now_at;
    service = p.service ∙ f;
    event_is = p.event_is;
  }

-- what is seen once an event happened is what was seen, and more
pub seen_by_event : {a : Seat} {n : ℕ} {old new : Moment} {event : Event} → (p : Happened a n old new event)
    → new.seen ≡ old.seen ++ (p.grew.others ++ p.own)
seen_by_event {old = old} p =
    p.seen ∙ ap (λ (h : List Entry). h ++ p.own) p.grew.is ∙ append_assoc old.seen p.grew.others p.own

module _ {a : Seat} (o : Order) (i : ℕ) {old mid new : Moment} where
  -- the first strand that is allowed, after i that were passed
  pub first_done : {event : Event} → i < length o.strands → Grew a old.seen mid.seen → mid.config ≡ old.config
      → mid.service ≡ old.service
      → ((k : ℕ) → k < i → Passed a (strand_after o k) old mid) → Happened a (strand_after o i) mid new event
      → FirstDone a o old new event
  first_done within g e f passed p = record {
    skipped = i;
    within = within;
    passed = λ k h. passed_on {new = new} (passed k h) _ (seen_by_event p);
    happened = happened_from g e f p;
  }

  -- one more that is passed
  pub passed_more : Grew a old.seen mid.seen → mid.config ≡ old.config → mid.service ≡ old.service
      → ((k : ℕ) → k < i → Passed a (strand_after o k) old mid) → StoodStill a (strand_after o i) mid new
      → (k : ℕ) → k < i + 1 → Passed a (strand_after o k) old new
  passed_more g e f passed p =
      below_more (λ k. Passed a (strand_after o k) old new) i
      (λ k h. passed_on {new = new} (passed k h) p.grew.others p.grew.is) (passed_from g e f p.passed)

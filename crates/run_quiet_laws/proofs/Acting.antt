-- Whether a session can act: it can where an event happens, and not after a turn in which none was allowed, nor ended.
use Rattle.std.proofs.Common.{◌≡◌, ◌<◌, ℕ, ◌+◌, ◌-◌, ◌*◌, ◌/◌, ◌%◌, Bool, true, false, not, List, [], ◌∷◌, ◌++◌, length, Option, None, Some, option_map, refl, sym, ap, subst, ◌∙◌, arith}
use Rattle.std.specs.Prelude.{Contains, is_some, slice_index, slice_index_or}
use Rattle.std.proofs.Math.Nat.{add-mod-mod, add-mod_left, div-add-mod', mod-eq_of_lt, mod-lt, mul-add-mod_self_right}
use Rattle.std.proofs.lemmas.Bool.{and_from, false≢true, false_from_ne_true}
use Rattle.std.proofs.lemmas.Option.{none-some, slice_get-get_or}
use Rattle.behaviour_tree.specs.declared.words.Event.{Event}
use Rattle.behaviour_tree.specs.declared.words.Need.{Need}
use Rattle.behaviour_tree.specs.declared.words.Need.TheVariants as need
use Rattle.behaviour_tree.specs.declared.words.Given.{Given}
use Rattle.behaviour_tree.specs.declared.words.Outcome.{Outcome}
use Rattle.session_calculus.specs.After.{Config, Done, after}
use Rattle.office_core.specs.declared.history.Act.{Act}
use Rattle.office_core.specs.declared.history.Act.TheVariants as act
use Rattle.office_core.specs.declared.history.Entry.{Entry}
use Rattle.office_core.specs.Limits.{Setting}
use Rattle.office_core.specs.Sessions.{ends, has_ended, is_live, service_of}
use Rattle.office_core.specs.Calls.{result}
use Rattle.office_core.specs.Keys.{first}
use Rattle.office_core.specs.Legal.{replied}
use Rattle.run_record.specs.Steps.{is_call_of}
use Rattle.run_record.specs.Agrees.{IsCall}
use Rattle.run_record.specs.Quiet.{CanAct, is_given}
use Rattle.session_turn.specs.Seen.{Seat, past_at}
use Rattle.session_turn.specs.Lives.{Gives, Kept, Moment, by_call, nothing}
use Rattle.session_turn.specs.Turns.{AreEnabled, Happened, IsAbsent, NoneAllowed, Passed, from_pick, strand_after}
use Rattle.session_turn.specs.Looks.{IsAllowed, MayAct, ended, is_there, looked, none, one}
use Rattle.session_turn.proofs.Agreeing.{agrees}
use Rattle.session_turn.proofs.Growing.{grew_alone}
use Rattle.session_turn.proofs.Histories.{some_of}
use Rattle.session_turn.proofs.Walking.{born_here, has_ended_here, not-ended}
use Rattle.run_quiet_laws.proofs.Aside.{Leaves, births_aside, given_aside, live_aside}
use Rattle.run_quiet_laws.proofs.CallsOn.{calls_same}
use Rattle.run_quiet_laws.proofs.Once.{agrees_with, of_service, one_last, same_of}

-- A session can not act.
abbrev pub CannotAct : Setting → List Entry → ℕ → List Event → Type 0
CannotAct w h s es = CanAct w h s es → ⊥

-- ---- it lives

module _ {a : Seat} {es : List Event} {now : Moment} (k : Kept a es now) where
  -- a kept session that has not ended lives
  pub lives_while : k.here.ended ≡ false → is_live a.setting (past_at a now.seen) a.session ≡ true
  lives_while going =
      let stays : has_ended (past_at a now.seen) a.session ≡ false
      = false_from_ne_true (has_ended (past_at a now.seen) a.session)
      (λ over.
      false≢true (sym going ∙ has_ended_here k.lives (sym (some_of a.setting now.seen (ends a.session)) ∙ over))) in
      and_from (is_some (service_of a.setting (past_at a now.seen) a.session))
      (not (has_ended (past_at a now.seen) a.session))
      (ap is_some (born_here k.lives)) (ap not stays)

  -- a session that has an event has not ended
  pub lives_by : (n : ℕ) (g : Given) (d : Done) → after a.setting.parts now.service k.here n g ≡ Some d
      → is_live a.setting (past_at a now.seen) a.session ≡ true
  lives_by n g d e = lives_while (false_from_ne_true k.here.ended (not-ended k.here.ended _ d e))

  -- an event of the session for which the history has what it asks for
  pub acts_by : (n : ℕ) (g : Given) (d : Done) → after a.setting.parts now.service k.here n g ≡ Some d
      → is_given a.setting (past_at a now.seen) a.session d.need ≡ true → CanAct a.setting now.seen a.session es
  acts_by n g d e there =
      let x = agrees k in
      let service : x.2.service ≡ now.service = of_service k x.2 in
      let last : x.0 ≡ k.here = same_of (sym x.1 ∙ k.at) in
      record {
        last = x.0;
        agrees = x.2;
        acts = record {
          live = lives_by n g d e;
          strand = n;
          gift = g;
          done = d;
          event = (λ i. after a.setting.parts (service i) (last i) n g) ∙ e;
          given = there;
        };
      }

  -- how a kept session that can act can
  pub acted : (x : CanAct a.setting now.seen a.session es)
      → after a.setting.parts now.service k.here x.acts.strand x.acts.gift ≡ Some x.acts.done
  acted x =
      let service : x.agrees.service ≡ now.service = of_service k x.agrees in
      let last : x.last ≡ k.here = same_of (sym (one_last k x.agrees) ∙ k.at) in
      sym (λ i. after a.setting.parts (service i) (last i) x.acts.strand x.acts.gift) ∙ x.acts.event

-- ---- an event that happens

some_of_map : {A B : Type 0} (f : A → B) (o : Option A) (y : B) → option_map f o ≡ Some y → is_some o ≡ true
some_of_map f None y e = absurd (none-some y e)
some_of_map f (Some x) y e = refl

call_given : (a : Seat) (h : List Entry) (n : Need) (call : Act) → IsCall a.session n (past_at a h) call
    → replied a.setting (past_at a h) a.session call ≡ Some call → is_given a.setting (past_at a h) a.session n ≡ true
call_given a h (need.Take ops) (act.Take i) c r = ap is_some (sym c)
call_given a h (need.Answer k) (act.Answer l o) c r =
    subst (λ (i : ℕ). is_some (result a.setting (past_at a h) a.session i) ≡ true) c
    (some_of_map (act.Answer l) (result a.setting (past_at a h) a.session l) (act.Answer l o) r)
call_given a h (need.Take ops) call c r = absurd c
call_given a h (need.Answer k) call c r = absurd c
call_given a h n call c r = refl

-- what the office gave was there
gave_there : {a : Seat} {h : List Entry} {n : Need} {g : Given} {own : List Entry} → Gives a h n g own
    → is_given a.setting (past_at a h) a.session n ≡ true
gave_there nothing = refl
gave_there {a} {h} (by_call n g call k) = call_given a h n call k.is_call k.reply

-- a kept session of which an event happens could act
pub can_act : {a : Seat} {es : List Event} {n : ℕ} {old new : Moment} {event : Event} → a.alone ≡ true → Kept a es old
    → Happened a n old new event
    → CanAct a.setting old.seen a.session es
can_act {a} {es} {n} {old} alone k p =
    let here : k.here ≡ p.config = same_of (sym k.at ∙ p.at) in
    let seen : p.before ≡ old.seen = grew_alone alone p.grew in
    acts_by k n p.gift p.done (ap (λ (c : Config). after a.setting.parts old.service c n p.gift) here ∙ p.after_is)
    (subst (λ (h : List Entry). is_given a.setting (past_at a h) a.session p.done.need ≡ true) seen
    (gave_there p.given))

-- ---- no event is allowed

-- what is absent is not there
absent_not : (a : Seat) (h : List Entry) (n : Need) → IsAbsent a h n
    → is_given a.setting (past_at a h) a.session n ≡ true → ⊥
absent_not a h (need.Take ops) e g = false≢true (sym (ap (λ (q : List ℕ). is_some (first q)) e) ∙ g)
absent_not a h (need.Answer k) e g = false≢true (sym (ap (λ (o : Option Outcome). is_some o) e) ∙ g)
absent_not a h n e g = e

-- a strand that was passed has no event for which the history has what it asks for
pub passed_not : {a : Seat} {n : ℕ} {old new : Moment} → a.alone ≡ true → (p : Passed a n old new) → (c : Config)
    → old.config ≡ Some c → (g : Given) (d : Done) → after a.setting.parts old.service c n g ≡ Some d
    → is_given a.setting (past_at a old.seen) a.session d.need ≡ true → ⊥
passed_not {a} {n} {old} alone p c at g d e there =
    let here : p.config ≡ c = same_of (sym p.at ∙ at) in
    let asked : d.need ≡ p.asked
    = p.asks g d (ap (λ (x : Config). after a.setting.parts old.service x n g) here ∙ e) in
    absent_not a old.seen p.asked
    (subst (λ (h : List Entry). IsAbsent a h p.asked) (grew_alone alone p.grew) p.absent)
    (subst (λ (x : Need). is_given a.setting (past_at a old.seen) a.session x ≡ true) asked there)

-- where each strand was passed, the session can not act
module _ {a : Seat} {es : List Event} {strands : List ℕ} {old new : Moment} (alone : a.alone ≡ true) (k : Kept a es old)
    (enabled : AreEnabled a old strands) where
  all_passed : ((n : ℕ) → Contains strands n → Passed a n old new) → CannotAct a.setting old.seen a.session es
  all_passed passed x =
      let y = x.acts in
      let e : after a.setting.parts old.service k.here y.strand y.gift ≡ Some y.done = acted k x in
      let here : enabled.config ≡ k.here = same_of (sym enabled.at ∙ k.at) in
      let has : after a.setting.parts old.service enabled.config y.strand y.gift ≡ Some y.done
      = ap (λ (c : Config). after a.setting.parts old.service c y.strand y.gift) here ∙ e in
      passed_not {new = new} alone
      (passed y.strand ((enabled.exact y.strand).1 (y.gift, y.done, has)))
      k.here k.at y.gift y.done e y.given

-- a number of a list by its place
at_place : (xs : List ℕ) (i n : ℕ) → i < length xs → slice_index_or xs i n ≡ n → slice_index xs i ≡ n
at_place xs i n within e =
    same_of (sym (slice_get-get_or xs i 0 within) ∙ slice_get-get_or xs i n within) ∙ e

turned : (p q m r j k : ℕ) → q * m + r ≡ p → r < m → k ≡ j + (m - r) → p + k ≡ q * m + (m + j)
turned p q m r j k e f g = omega (arith, e, f, g)

-- the turn, from a position on, at which a place comes
turn_of_place : (p j m : ℕ) → j < m → (k : ℕ) × (k < m) × ((p + k) % m ≡ j)
turn_of_place p j m within =
    let some : 0 < m = omega arith in
    let k : ℕ = j + (m - p % m) in (
      k % m,
      mod-lt k some,
      add-mod-mod p k m
          ∙ ap (λ n. n % m) (turned p (p / m) m (p % m) j k (div-add-mod' p m) (mod-lt p some) refl)
          ∙ mul-add-mod_self_right (p / m) m (m + j)
          ∙ add-mod_left m j
          ∙ mod-eq_of_lt within,
    )

-- each strand of an order is looked at
pub each_turn : (P : ℕ → Type 0) (strands : List ℕ) (pick : ℕ)
    → ((k : ℕ) → k < length strands → P (strand_after (from_pick strands pick) k))
    → (n : ℕ) → Contains strands n → P n
each_turn P strands pick each n c =
    let t = turn_of_place pick c.0 (length strands) c.1 in
    subst P (ap (slice_index strands) t.2 ∙ at_place strands c.0 n c.1 c.2) (each t.0 t.1)

-- after a turn in which no event was allowed, the session can not act
pub idle_cannot_act : {a : Seat} {es : List Event} {strands : List ℕ} {pick : ℕ} {old new : Moment} → a.alone ≡ true
    → Kept a es old → AreEnabled a old strands → NoneAllowed a (from_pick strands pick) old new
    → CannotAct a.setting new.seen a.session es
idle_cannot_act {a} {es} {strands} {pick} {old} {new} alone k enabled stood =
    subst (λ (h : List Entry). CannotAct a.setting h a.session es) (sym (grew_alone alone stood.grew))
    (all_passed {new = new} alone k enabled (each_turn (λ n. Passed a n old new) strands pick stood.passed))

-- nor can one that ended
pub ended_cannot_act : {a : Seat} {es : List Event} {now : Moment} {c : Config} → Kept a es now → now.config ≡ Some c
    → c.ended ≡ true → CannotAct a.setting now.seen a.session es
ended_cannot_act {c = c} k at over x =
    let here : k.here ≡ c = same_of (sym k.at ∙ at) in
    not-ended k.here.ended _ x.acts.done (acted k x) (ap (λ (x : Config). x.ended) here ∙ over)

-- ---- what a look answers

-- an event that is allowed can be done
allowed_acts : {a : Seat} {es : List Event} {strands : List ℕ} {old new : Moment} {n : ℕ} → Kept a es old
    → AreEnabled a old strands → new.seen ≡ old.seen → new.config ≡ old.config → new.service ≡ old.service
    → Contains strands n → IsAllowed a n new
    → CanAct a.setting old.seen a.session es
allowed_acts {a} {es} {strands} {old} {new} {n} k enabled seen config service c allowed =
    let has = (enabled.exact n).0 c in
    let here : enabled.config ≡ k.here = same_of (sym enabled.at ∙ k.at) in
    let there : allowed.config ≡ enabled.config = same_of (sym allowed.at ∙ config ∙ enabled.at) in
    let asked : has.1.need ≡ allowed.asked
    = allowed.asks has.0 has.1 ((λ i. after a.setting.parts (service i) (there i) n has.0) ∙ has.2) in
    acts_by k n has.0 has.1 (ap (λ (c : Config). after a.setting.parts old.service c n has.0) (sym here) ∙ has.2)
    (subst (λ (x : Need). is_given a.setting (past_at a old.seen) a.session x ≡ true) (sym asked)
    (subst (λ (h : List Entry). is_given a.setting (past_at a h) a.session allowed.asked ≡ true) seen
    (there_given a new.seen allowed.asked allowed.there)))
  where
    there_given : (a : Seat) (h : List Entry) (n : Need) → is_there a h n ≡ true
        → is_given a.setting (past_at a h) a.session n ≡ true
    there_given a h (need.Take ops) e = e
    there_given a h (need.Answer k) e = e
    there_given a h n e = refl

-- a look that answers that the session may act says that it can, and one that it may not that it can not
pub look_says : {a : Seat} {es : List Event} {old new : Moment} {b : Bool} → a.alone ≡ true → Kept a es old
    → new.seen ≡ old.seen → new.config ≡ old.config → new.service ≡ old.service → MayAct a old new b
    → (b ≡ true → CanAct a.setting old.seen a.session es) × (b ≡ false → CannotAct a.setting old.seen a.session es)
look_says alone k seen config service (ended c at over) = (λ e. absurd (false≢true e), λ e. ended_cannot_act k at over)
look_says {new = new} alone k seen config service (looked strands b enabled (one n c allowed)) =
    (λ e. allowed_acts {new = new} k enabled seen config service c allowed, λ e. absurd (false≢true (sym e)))
look_says {a} {old = old} {new = new} alone k seen config service (looked strands b enabled (none passed)) = (
  λ e. absurd (false≢true e),
  λ e. all_passed {new = new} alone k enabled
      (λ n c. subst (λ (i : ℕ). Passed a i old new) (at_place strands c.0 n c.1 c.2) (passed c.0 c.1)),
)

-- ---- entries that hand nothing to a session

module _ {w : Setting} {h : List Entry} {e : Entry} {s : ℕ} {es : List Event} (l : Leaves e)
    (other : is_call_of s e ≡ false) where
  -- a session that can act after such an entry could before
  pub could_act : CanAct w (h ++ e ∷ []) s es → CanAct w h s es
  could_act x = record {
    last = x.last;
    agrees = agrees_with (λ d born. sym (births_aside w h l s) ∙ born) (calls_same w h s e other) x.agrees;
    acts = record {
      live = sym (live_aside w h l s) ∙ x.acts.live;
      strand = x.acts.strand;
      gift = x.acts.gift;
      done = x.acts.done;
      event = x.acts.event;
      given = sym (given_aside w h l s x.acts.done.need) ∙ x.acts.given;
    };
  }

  -- one that could act still can
  pub can_still : CanAct w h s es → CanAct w (h ++ e ∷ []) s es
  can_still x = record {
    last = x.last;
    agrees = agrees_with (λ d born. births_aside w h l s ∙ born) (sym (calls_same w h s e other)) x.agrees;
    acts = record {
      live = live_aside w h l s ∙ x.acts.live;
      strand = x.acts.strand;
      gift = x.acts.gift;
      done = x.acts.done;
      event = x.acts.event;
      given = given_aside w h l s x.acts.done.need ∙ x.acts.given;
    };
  }

  -- one that can not act still can not
  pub cannot_still : CannotAct w h s es → CannotAct w (h ++ e ∷ []) s es
  cannot_still not x = not (could_act x)

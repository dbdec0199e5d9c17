-- Sessions that sleep: what one rests by stays so, and what was told is so after entries, adoptions, turns and looks.
use Rattle.std.proofs.Common.{◌≡◌, ◌⊎◌, ◌≤◌, ◌<◌, ℕ, zero, suc, ◌+◌, ◌-◌, ◌%◌, Bool, true, false, ◌&&◌, ◌||◌, List, [], ◌∷◌, ◌++◌, length, Option, None, Some, inl, inr, refl, sym, ap, subst, ◌∙◌, arith, le_refl, zero-le}
use Rattle.std.specs.Prelude.{drop, get_or, nat_eq, not, option_map, slice_get, slice_index, slice_set, take, unwrap_or}
use Rattle.std.specs.List.{list_all, list_any}
use Rattle.std.proofs.Math.Nat.{mod-lt}
use Rattle.std.proofs.lemmas.Bool.{and_parts, eq-eqb, eqb-true, false≢true, or_left, or_right}
use Rattle.std.proofs.lemmas.List.{append-nil, length-append}
use Rattle.std.proofs.lemmas.Option.{none-some, slice_get-get_or, slice_get_within}
use Rattle.office_core.specs.declared.history.Act.{Act}
use Rattle.office_core.specs.declared.history.Act.TheVariants as act
use Rattle.office_core.specs.declared.history.Entry.{Entry}
use Rattle.office_core.specs.declared.message.Message.{Message}
use Rattle.office_core.specs.Limits.{Setting}
use Rattle.office_core.specs.Past.{Past, nothing_yet, some_entry, stops}
use Rattle.office_core.specs.Accepted.{accepted_in, past_of, then_all, then_one, with_message}
use Rattle.office_core.specs.Legal.{AreLegal, IsLegal, IsLegalEntry}
use Rattle.office_core.proofs.Longer.{past_more}
use Rattle.office_core.proofs.OneAnswer.{message_stays}
use Rattle.office_core.proofs.Said.{accepts_by_reply}
use Rattle.session_turn.specs.Seen.{AreForeign, Seat}
use Rattle.session_turn.specs.Lives.{Moment}
use Rattle.session_turn.specs.Turns.{IsAbsent, NoneAllowed, Passed, from_pick}
use Rattle.session_turn.specs.declared.turn.Turn.{Turn}
use Rattle.session_turn.specs.declared.turn.Turn.TheVariants as turn
use Rattle.session_turn.proofs.Growing.{foreign_both, grew_alone, grew_not}
use Rattle.session_turn.proofs.Histories.{some_of}
use Rattle.run_quiet_laws.specs.Brings.{BringsNothing, is_sent_by, may_answer}
use Rattle.run_quiet_laws.proofs.Absent.{absent_on}
use Rattle.run_quiet_laws.proofs.Acting.{each_turn}
use Rattle.run_cells.specs.Awake.{IsOn, PutsOn, TakesOff}
use Rattle.run_cells.specs.News.{IsHeard, IsReceived, KnowSenders, Told, is_sender, may_reach}
use Rattle.run_cells.specs.RunStates.{IsSeenTo, IsTold, Rests, Sleeps, Stand, State, Stays, Team, asleep, ended, idle, moment_at, past_in, seat_at, spent, up}
use Rattle.run_cells.specs.Turns.{IsAdoption, IsTurn, RoundFrom, Turned, adoption, fresh as first_stand, is_did, last as last_turn, next as next_session, play, position, there as stands_there, ended as turned_ended, idle as turned_idle, spent as turned_spent}
use Rattle.run_cells.specs.Visits.{Skips, past_picks}
use Rattle.run_cells.proofs.Foreign.{own_foreign}
use Rattle.run_cells.proofs.Teams.{OwnCame, adoption_is, few_stands, is_of_worker, one_more, one_set, same_of, set_length, set_same, turn_came, unlike, workers-foreign}

-- ---- lists

take-front : {A : Type 0} (xs ys : List A) (n : ℕ) → n ≤ length xs → take n (xs ++ ys) ≡ take n xs
take-front xs ys zero l = refl
take-front [] ys (suc n) l = absurd (omega arith)
take-front (x ∷ xs) ys (suc n) l = ap (λ zs. x ∷ zs) (take-front xs ys n (omega arith))

drop-front : {A : Type 0} (xs ys : List A) (n : ℕ) → n ≤ length xs → drop n (xs ++ ys) ≡ drop n xs ++ ys
drop-front xs ys zero l = refl
drop-front [] ys (suc n) l = absurd (omega arith)
drop-front (x ∷ xs) ys (suc n) l = drop-front xs ys n (omega arith)

take-one : {A : Type 0} (xs : List A) (n : ℕ) (x : A) → slice_get xs n ≡ Some x → take (suc n) xs ≡ take n xs ++ x ∷ []
take-one [] n x h = absurd (none-some x h)
take-one (y ∷ xs) zero x h = ap (λ z. z ∷ []) (same_of y x h)
take-one (y ∷ xs) (suc n) x h = ap (λ zs. y ∷ zs) (take-one xs n x h)

drop-one : {A : Type 0} (xs : List A) (n : ℕ) (x : A) → slice_get xs n ≡ Some x → drop n xs ≡ x ∷ drop (suc n) xs
drop-one [] n x h = absurd (none-some x h)
drop-one (y ∷ xs) zero x h = ap (λ z. z ∷ xs) (same_of y x h)
drop-one (y ∷ xs) (suc n) x h = drop-one xs n x h

take-whole : {A : Type 0} (xs : List A) → take (length xs) xs ≡ xs
take-whole [] = refl
take-whole (x ∷ xs) = ap (λ zs. x ∷ zs) (take-whole xs)

drop-whole : {A : Type 0} (xs : List A) → drop (length xs) xs ≡ []
drop-whole [] = refl
drop-whole (x ∷ xs) = drop-whole xs

parts-of : {A : Type 0} (xs : List A) (n : ℕ) → xs ≡ take n xs ++ drop n xs
parts-of xs zero = refl
parts-of [] (suc n) = refl
parts-of (x ∷ xs) (suc n) = ap (λ zs. x ∷ zs) (parts-of xs n)

stays-there : {A : Type 0} (xs ys : List A) (n : ℕ) (x : A) → slice_get xs n ≡ Some x → slice_get (xs ++ ys) n ≡ Some x
stays-there [] ys n x h = absurd (none-some x h)
stays-there (y ∷ xs) ys zero x h = h
stays-there (y ∷ xs) ys (suc n) x h = stays-there xs ys n x h

at-end : {A : Type 0} (xs : List A) (x : A) → slice_get (xs ++ x ∷ []) (length xs) ≡ Some x
at-end [] x = refl
at-end (y ∷ xs) x = at-end xs x

any-at : {A : Type 0} (f : A → Bool) (xs : List A) (n : ℕ) (x : A) → slice_get xs n ≡ Some x → f x ≡ true
    → list_any f xs ≡ true
any-at f [] n x h is = absurd (none-some x h)
any-at f (y ∷ xs) zero x h is = or_left (f y) (list_any f xs) (ap f (same_of y x h) ∙ is)
any-at f (y ∷ xs) (suc n) x h is = or_right (f y) (list_any f xs) (any-at f xs n x h is)

-- Something of a kind stands in a list.
record Stands {A : Type 0} (f : A → Bool) (xs : List A) : Type 0 where
  pub place : ℕ
  pub what : A
  pub at : slice_get xs place ≡ Some what
  pub is : f what ≡ true

any-stands : {A : Type 0} (f : A → Bool) (xs : List A) → list_any f xs ≡ true → Stands f xs
any-stands f [] h = absurd (false≢true h)
any-stands {A} f (x ∷ xs) h = by (f x) refl h (any-stands f xs)
  where
    by : (b : Bool) → f x ≡ b → (b || list_any f xs) ≡ true → (list_any f xs ≡ true → Stands f xs) → Stands f (x ∷ xs)
    by true is g rest = record { place = 0; what = x; at = refl; is = is }
    by false is g rest = let r = rest g in record { place = suc r.place; what = r.what; at = r.at; is = r.is }

-- ---- what happened before an entry

-- the entries before one are legal, and so is the one
legal-at : (w : Setting) (past : Past) (h : List Entry) (n : ℕ) (e : Entry) → AreLegal w past h → slice_get h n ≡ Some e
    → AreLegal w past (take n h) × IsLegalEntry w (then_all w past (take n h)) e
legal-at w past [] n e legal h = absurd (none-some e h)
legal-at w past (x ∷ xs) zero e legal h = (tt, subst (IsLegalEntry w past) (same_of x e h) legal.0)
legal-at w past (x ∷ xs) (suc n) e legal h =
    let r = legal-at w (then_one w past x) xs n e legal.1 h in
    ((legal.0, r.0), r.1)

-- a message keeps its number
messages-stay : (w : Setting) (past : Past) (es : List Entry) (n : ℕ) (m : Message) → slice_get past.messages n ≡ Some m
    → slice_get (then_all w past es).messages n ≡ Some m
messages-stay w past [] n m h = h
messages-stay w past (e ∷ es) n m h =
    messages-stay w (then_one w past e) es n m (message_stays past.messages (accepted_in w past e) n m h)

then-parts : (w : Setting) (past : Past) (xs ys : List Entry)
    → then_all w past (xs ++ ys) ≡ then_all w (then_all w past xs) ys
then-parts w past [] ys = refl
then-parts w past (x ∷ xs) ys = then-parts w (then_one w past x) xs ys

-- what happened in a history, by its first entries and those after them
past-parts : (w : Setting) (h : List Entry) (n : ℕ) → past_of w h ≡ then_all w (past_of w (take n h)) (drop n h)
past-parts w h n = ap (past_of w) (parts-of h n) ∙ then-parts w nothing_yet (take n h) (drop n h)

-- a message of before keeps its number
message-kept : (w : Setting) (h : List Entry) (n k : ℕ) (m : Message) → slice_get (past_of w (take n h)).messages k ≡ Some m
    → slice_get (past_of w h).messages k ≡ Some m
message-kept w h n k m found =
    ap (λ (p : Past). slice_get p.messages k) (past-parts w h n)
    ∙ messages-stay w (past_of w (take n h)) (drop n h) k m found

-- the message that an entry accepts has the next number
message-next : (w : Setting) (h : List Entry) (n : ℕ) (e : Entry) (m : Message) → slice_get h n ≡ Some e
    → accepted_in w (past_of w (take n h)) e ≡ Some m
    → slice_get (past_of w h).messages (length (past_of w (take n h)).messages) ≡ Some m
message-next w h n e m at is =
    ap (λ (p : Past). slice_get p.messages (length (past_of w (take n h)).messages))
    (past-parts w h n ∙ ap (then_all w (past_of w (take n h))) (drop-one h n e at))
    ∙ messages-stay w (then_one w (past_of w (take n h)) e) (drop (suc n) h) (length (past_of w (take n h)).messages) m
    (ap (λ (o : Option Message). slice_get (with_message (past_of w (take n h)).messages o) (length (past_of w (take n h)).messages)) is
    ∙ at-end (past_of w (take n h)).messages m)

-- ---- what a session rests by

module _ (s : State) (n : ℕ) (st : Stand) (h : List Entry) (e : Entry) (legal : IsLegal s.setting h)
    (b : BringsNothing s.setting (past_of s.setting h) n e) where
  passed-on : (k : ℕ) → Passed (seat_at s.setting n) k (moment_at st h) (moment_at st h)
      → Passed (seat_at s.setting n) k (moment_at st (h ++ e ∷ [])) (moment_at st (h ++ e ∷ []))
  passed-on k p = record {
    config = p.config;
    at = p.at;
    asked = p.asked;
    asks = p.asks;
    saw = h ++ e ∷ [];
    grew = grew_not (h ++ e ∷ []);
    absent = absent_on (seat_at s.setting n) h e legal b p.asked
        (subst (λ (l : List Entry). IsAbsent (seat_at s.setting n) l p.asked) (grew_alone refl p.grew) p.absent);
    more = [];
    is = sym (append-nil (h ++ e ∷ []));
  }

  -- after an entry that brings it nothing it rests too
  pub rests_on : Rests s n st h → Rests s n st (h ++ e ∷ [])
  rests_on (ended x) = ended x
  rests_on (spent yet all) = spent yet all
  rests_on (idle yet fewer strands pick enabled none) =
      idle yet fewer strands pick
      (record { config = enabled.config; at = enabled.at; exact = enabled.exact; rising = enabled.rising })
      (record {
        passed = λ k l. passed-on _ (none.passed k l);
        grew = grew_not (h ++ e ∷ []);
        config = refl;
        service = refl;
      })

-- the same of a run with the same setting and budget
abbrev pub with_parts : State → List Entry → List Stand → List ℕ → State
with_parts s h stands picks = record { setting = s.setting; budget = s.budget; history = h; stands = stands; picks = picks }

pub rests_with : {s : State} {n : ℕ} {st : Stand} {seen : List Entry} (h : List Entry) (stands : List Stand) (picks : List ℕ)
    → Rests s n st seen → Rests (with_parts s h stands picks) n st seen
rests_with h stands picks (ended x) = ended x
rests_with h stands picks (spent yet all) = spent yet all
rests_with h stands picks (idle yet fewer strands pick enabled none) = idle yet fewer strands pick enabled none

-- ---- entries of others

sleeps-on : {s : State} {heard n : ℕ} {st : Stand} (more : List Entry) (stands : List Stand) (picks : List ℕ)
    → heard ≤ length s.history → AreForeign n more → Sleeps s heard n st
    → Sleeps (with_parts s (s.history ++ more) stands picks) heard n st
sleeps-on {s} {heard} {n} {st} more stands picks l f x = record {
  rests = subst (λ (h : List Entry). Rests (with_parts s (s.history ++ more) stands picks) n st h)
      (sym (take-front s.history more heard l)) (rests_with (s.history ++ more) stands picks x.rests);
  others = subst (AreForeign n) (sym (drop-front s.history more heard l))
      (foreign_both n (drop heard s.history) more x.others f);
}

seen-on : {s : State} {told : Told} {heard n : ℕ} {st : Stand} (told' : Told) (more : List Entry) (stands : List Stand)
    (picks : List ℕ)
    → heard ≤ length s.history → (IsOn told.awake n → IsOn told'.awake n) → AreForeign n more → IsSeenTo s told heard n st
    → IsSeenTo (with_parts s (s.history ++ more) stands picks) told' heard n st
seen-on told' more stands picks l f g (up x) = up (f x)
seen-on told' more stands picks l f g (asleep x) = asleep (sleeps-on more stands picks l g x)

module _ (s : State) (told : Told) (heard : ℕ) (t : IsTold s told heard) (more : List Entry) where
  within-on : heard ≤ length (s.history ++ more)
  within-on =
      let l : heard ≤ length s.history = t.within in
      let e : length (s.history ++ more) ≡ length s.history + length more = length-append s.history more in
      omega arith

  senders-on : (told' : Told) → told'.senders ≡ told.senders
      → KnowSenders (past_of s.setting (take heard (s.history ++ more))) told'.senders
  senders-on told' same =
      subst (KnowSenders (past_of s.setting (take heard (s.history ++ more)))) (sym same)
      (subst (λ (h : List Entry). KnowSenders (past_of s.setting h) told.senders)
      (sym (take-front s.history more heard t.within)) t.senders)

  -- entries of workers came
  told-more : (picks : List ℕ) → ((n : ℕ) (st : Stand) → slice_get s.stands n ≡ Some st → AreForeign n more)
      → IsTold (with_parts s (s.history ++ more) s.stands picks) told heard
  told-more picks f = record {
    within = within-on;
    there = t.there;
    each = λ n st h. seen-on told more s.stands picks t.within (λ x. x) (f n st h) (t.each n st h);
    senders = senders-on told refl;
  }

  -- a session was adopted
  told-one : (told' : Told) (st : Stand) → PutsOn (length s.stands) told.awake told'.awake → told'.senders ≡ told.senders
      → ((n : ℕ) → n < length s.stands → AreForeign n more)
      → IsTold (with_parts s (s.history ++ more) (s.stands ++ st ∷ []) s.picks) told' heard
  told-one told' st put same f = record {
    within = within-on;
    there = λ n on. below n (put.only n on);
    each = one_more s.stands st (λ n x. IsSeenTo (with_parts s (s.history ++ more) (s.stands ++ st ∷ []) s.picks) told' heard n x)
        (λ n x h. seen-on told' more (s.stands ++ st ∷ []) s.picks t.within (put.stay n)
        (f n (slice_get_within s.stands n x h)) (t.each n x h))
        (up put.here);
    senders = senders-on told' same;
  }
    where
      longer : length (s.stands ++ st ∷ []) ≡ length s.stands + 1
      longer = length-append s.stands (st ∷ [])

      below : (n : ℕ) → IsOn told.awake n ⊎ (n ≡ length s.stands) → n < length (s.stands ++ st ∷ [])
      below n (inl on) = let l : n < length s.stands = t.there n on in omega (arith, longer)
      below n (inr e) = omega (arith, longer, e)

  -- a session that is awake had a turn
  told-turn : (k : ℕ) (now : Stand) (picks : List ℕ) → IsOn told.awake k
      → ((n : ℕ) → (n ≡ k → ⊥) → AreForeign n more)
      → IsTold (with_parts s (s.history ++ more) (slice_set s.stands k now) picks) told heard
  told-turn k now picks on f = record {
    within = within-on;
    there = λ n x. subst (λ (l : ℕ). n < l) (sym (set_length s.stands k now)) (t.there n x);
    each = one_set s.stands k now
        (λ n x. IsSeenTo (with_parts s (s.history ++ more) (slice_set s.stands k now) picks) told heard n x)
        (λ n x u h. seen-on told more (slice_set s.stands k now) picks t.within (λ y. y) (f n u) (t.each n x h))
        (up on);
    senders = senders-on told refl;
  }

-- the worker called
pub told_stays : {old new : State} {told : Told} {heard : ℕ} {more : List Entry} → Team old → Stays old new more
    → list_all is_of_worker more ≡ true → IsTold old told heard → IsTold new told heard
told_stays {old} {new} {told} {heard} {more} team x works t =
    subst (λ (s : State). IsTold s told heard) (sym e)
    (told-more old told heard t more new.picks (λ n st h. workers-foreign n more (below n st h) works))
  where
    e : new ≡ with_parts old (old.history ++ more) old.stands new.picks
    e = λ i. record {
      setting = x.setting i;
      budget = x.budget i;
      history = x.history i;
      stands = x.stands i;
      picks = new.picks;
    }

    below : (n : ℕ) (st : Stand) → slice_get old.stands n ≡ Some st → n < 4096
    below n st h =
        let within : n < length old.stands = slice_get_within old.stands n st h in
        let few : length old.stands ≤ 4096 = few_stands old team in
        omega arith

-- the next session was adopted
pub told_adopted : {old new : State} {told : Told} (told' : Told) {heard : ℕ} → IsAdoption old new
    → PutsOn (length old.stands) told.awake told'.awake → told'.senders ≡ told.senders → IsTold old told heard
    → IsTold new told' heard
told_adopted {old} {new} {told} told' {heard} a put same t =
    subst (λ (s : State). IsTold s told' heard) (sym (adoption_is a))
    (told-one old told heard t (adoption (length old.stands) a.service ∷ []) told' (first_stand old.setting a.service) put same
    (λ n l. (unlike n (length old.stands) l, tt)))

-- a session that is awake had a turn
pub told_turned : {old new : State} {told : Told} {heard n : ℕ} {t : Turn} → IsTurn n old new t → IsOn told.awake n
    → IsTold old told heard → IsTold new told heard
told_turned {old} {new} {told} {heard} {n} x on t =
    subst (λ (s : State). IsTold s told heard) (sym e)
    (told-turn old told heard t came.own n x.now new.picks on (λ m u. own_foreign n m came.own u came.are))
  where
    came : OwnCame n old.history new.history
    came = turn_came x

    e : new ≡ with_parts old (old.history ++ came.own) (slice_set old.stands n x.now) new.picks
    e = λ i. record {
      setting = x.setting i;
      budget = x.budget i;
      history = came.is i;
      stands = x.stands i;
      picks = new.picks;
    }

-- other picks are left
pub told_picks : {s : State} {told : Told} {heard : ℕ} (picks : List ℕ) → IsTold s told heard
    → IsTold (with_parts s s.history s.stands picks) told heard
told_picks {s} {told} {heard} picks t = record {
  within = t.within;
  there = t.there;
  each = λ n st h. go n st (t.each n st h);
  senders = t.senders;
}
  where
    go : (n : ℕ) (st : Stand) → IsSeenTo s told heard n st
        → IsSeenTo (with_parts s s.history s.stands picks) told heard n st
    go n st (up x) = up x
    go n st (asleep x) = asleep (record { rests = rests_with s.history s.stands picks x.rests; others = x.others })

-- before the first call
pub told_begun : (s : State) (told : Told) → s.stands ≡ [] → told.awake ≡ [] → IsTold s told 0
told_begun s told nobody empty = record {
  within = zero-le;
  there = λ n on. absurd (no-place on.place (subst (λ (ns : List ℕ). on.place < length ns) empty on.within));
  each = λ n st h. absurd (none-some st (sym (ap (λ (sts : List Stand). slice_get sts n) nobody) ∙ h));
  senders = λ n k m found mine. absurd (none-some m found);
}
  where
    no-place : (k : ℕ) → k < 0 → ⊥
    no-place k l = omega arith

-- ---- a look at the next entry

module _ (s : State) (team : Team s) (told told' : Told) (heard count : ℕ) (e : Entry) (at : slice_get s.history heard ≡ Some e)
    (few : count ≡ length s.stands) (looked : IsHeard (past_in s).messages count e told told')
    (t : IsTold s told heard) where
  legal : IsLegal s.setting (take heard s.history) × IsLegalEntry s.setting (past_of s.setting (take heard s.history)) e
  legal = legal-at s.setting nothing_yet s.history heard e team.legal at

  goes-on : stops e ≡ false
  goes-on = by (stops e) refl
    where
      not-both : (b : Bool) → not b ≡ true → b ≡ true → ⊥
      not-both true f g = false≢true f
      not-both false f g = false≢true g

      by : (b : Bool) → stops e ≡ b → b ≡ false
      by false is = refl
      by true is =
          absurd
          (not-both (some_entry (past_in s) stops) team.running
          (some_of s.setting s.history stops ∙ any-at stops s.history heard e at is))

  -- a sender by the messages is noted
  reach-by : (n actor : ℕ) (a : Act) → stops (record { actor = actor; act = a }) ≡ false
      → may_answer (past_of s.setting (take heard s.history)).messages n (record { actor = actor; act = a }) ≡ true
      → may_reach (past_in s).messages told.senders n (record { actor = actor; act = a }) ≡ true
  reach-by n actor (act.Reply i o) go h = by (slice_get (past_of s.setting (take heard s.history)).messages i) refl h
    where
      by : (g : Option Message) → slice_get (past_of s.setting (take heard s.history)).messages i ≡ g
          → (elim g [ None ↦ false | Some m ↦ is_sent_by n m ]) ≡ true
          → (elim (slice_get (past_in s).messages i) [ None ↦ false | Some m ↦ is_sent_by n m ]) ≡ true
      by None is f = absurd (false≢true f)
      by (Some m) is f =
          ap (λ (g : Option Message). elim g [ None ↦ false | Some x ↦ is_sent_by n x ])
          (message-kept s.setting s.history heard i m is)
          ∙ f
  reach-by n actor (act.Answered k j o) go h = h
  reach-by n actor act.End go h =
      let f = any-stands (λ (m : Message). nat_eq actor m.session && is_sent_by n m)
      (past_of s.setting (take heard s.history)).messages h in
      let both = and_parts (nat_eq actor f.what.session) (is_sent_by n f.what) f.is in
      ap (λ (k : ℕ). is_sender told.senders k n) (eqb-true actor f.what.session both.0)
      ∙ t.senders f.place n f.what f.at both.1
  reach-by n actor act.Stop go h = absurd (false≢true (sym go))
  reach-by n actor a go h = absurd (false≢true h)

  -- an entry that wakes nobody of a number brings that one nothing
  quiet-for : (n : ℕ) → nat_eq n e.actor ≡ false → may_reach (past_in s).messages told.senders n e ≡ false
      → ((m : Message) → accepted_in s.setting (past_of s.setting (take heard s.history)) e ≡ Some m → nat_eq n m.session ≡ false)
      → BringsNothing s.setting (past_of s.setting (take heard s.history)) n e
  quiet-for n other none mail = record {
    other = other;
    mail = mail;
    answer = by (may_answer (past_of s.setting (take heard s.history)).messages n e) refl;
  }
    where
      by : (b : Bool) → may_answer (past_of s.setting (take heard s.history)).messages n e ≡ b → b ≡ false
      by false is = refl
      by true is = absurd (false≢true (sym none ∙ reach-by n e.actor e.act goes-on is))

  -- a message that came is noted
  received : (m : Message) → accepted_in s.setting (past_of s.setting (take heard s.history)) e ≡ Some m
      → IsReceived count m told'
  received m is =
      looked.mail (length (past_of s.setting (take heard s.history)).messages) m
      (accepts_by_reply s.setting (past_of s.setting (take heard s.history)) e legal.1
      ∙ ap (option_map (λ (x : Message). length (past_of s.setting (take heard s.history)).messages)) is)
      (message-next s.setting s.history heard e m at is)

  -- one that sleeps is awake then, or sleeps after the entry too
  sleeper-on : (n : ℕ) (st : Stand) → n < length s.stands → Sleeps s heard n st → IsSeenTo s told' (suc heard) n st
  sleeper-on n st below x = by (may_reach (past_in s).messages told.senders n e) refl
    where
      foreign : (nat_eq n e.actor ≡ false) × AreForeign n (drop (suc heard) s.history)
      foreign = subst (AreForeign n) (drop-one s.history heard e at) x.others

      still : BringsNothing s.setting (past_of s.setting (take heard s.history)) n e → IsSeenTo s told' (suc heard) n st
      still b =
          asleep
          (record {
            rests = subst (λ (h : List Entry). Rests s n st h) (sym (take-one s.history heard e at))
                (rests_on s n st (take heard s.history) e legal.0 b x.rests);
            others = foreign.1;
          })

      mail : may_reach (past_in s).messages told.senders n e ≡ false → (o : Option Message)
          → accepted_in s.setting (past_of s.setting (take heard s.history)) e ≡ o → IsSeenTo s told' (suc heard) n st
      mail none None is =
          still (quiet-for n foreign.0 none (λ m f. absurd (none-some m (sym is ∙ f))))
      mail none (Some m) is = this (nat_eq n m.session) refl
        where
          this : (b : Bool) → nat_eq n m.session ≡ b → IsSeenTo s told' (suc heard) n st
          this false f =
              still (quiet-for n foreign.0 none (λ m' f'. ap (λ (y : Message). nat_eq n y.session) (same_of m' m (sym f' ∙ is)) ∙ f))
          this true f =
              let same : n ≡ m.session = eqb-true n m.session f in
              up (subst (IsOn told'.awake) (sym same)
              ((received m is).woken (subst (λ (k : ℕ). k < count) same (subst (λ (k : ℕ). n < k) (sym few) below))))

      by : (b : Bool) → may_reach (past_in s).messages told.senders n e ≡ b → IsSeenTo s told' (suc heard) n st
      by true is = up (looked.answer n is (subst (λ (k : ℕ). n < k) (sym few) below))
      by false is = mail is (accepted_in s.setting (past_of s.setting (take heard s.history)) e) refl

  pub told_heard : IsTold s told' (suc heard)
  told_heard = record {
    within = let l : heard < length s.history = slice_get_within s.history heard e at in omega arith;
    there = λ n on. below n (looked.awake.below n on);
    each = λ n st h. go n st h (t.each n st h);
    senders = subst (λ (h : List Entry). KnowSenders (past_of s.setting h) told'.senders)
        (sym (take-one s.history heard e at))
        (subst (λ (p : Past). KnowSenders p told'.senders) (sym (past_more s.setting (take heard s.history) e)) known);
  }
    where
      below : (n : ℕ) → IsOn told.awake n ⊎ (n < count) → n < length s.stands
      below n (inl on) = t.there n on
      below n (inr l) = subst (λ (k : ℕ). n < k) few l

      go : (n : ℕ) (st : Stand) → slice_get s.stands n ≡ Some st → IsSeenTo s told heard n st
          → IsSeenTo s told' (suc heard) n st
      go n st h (up x) = up (looked.awake.stay n x)
      go n st h (asleep x) = sleeper-on n st (slice_get_within s.stands n st h) x

      known : KnowSenders (then_one s.setting (past_of s.setting (take heard s.history)) e) told'.senders
      known k n m found mine =
          by (accepted_in s.setting (past_of s.setting (take heard s.history)) e) refl found
        where
          by : (o : Option Message) → accepted_in s.setting (past_of s.setting (take heard s.history)) e ≡ o
              → slice_get (with_message (past_of s.setting (take heard s.history)).messages o) k ≡ Some m
              → is_sender told'.senders m.session n ≡ true
          by None is h = looked.senders m.session n (t.senders k n m h mine)
          by (Some x) is h =
              one_more (past_of s.setting (take heard s.history)).messages x
              (λ i y. is_sent_by n y ≡ true → is_sender told'.senders y.session n ≡ true)
              (λ i y g mine'. looked.senders y.session n (t.senders i n y g mine'))
              (λ mine'. (received x is).noted n mine')
              k m h mine

-- ---- one lies down

pub told_laid : {s : State} {told : Told} {heard : ℕ} (told' : Told) (n : ℕ) → heard ≡ length s.history
    → ((st : Stand) → slice_get s.stands n ≡ Some st → Rests s n st s.history) → TakesOff n told.awake told'.awake
    → told'.senders ≡ told.senders → IsTold s told heard
    → IsTold s told' heard
told_laid {s} {told} {heard} told' n all rests off same t = record {
  within = t.within;
  there = λ m on. t.there m (off.only m on);
  each = λ m st h. go m st h (t.each m st h);
  senders = subst (KnowSenders (past_of s.setting (take heard s.history))) (sym same) t.senders;
}
  where
    down : (m : ℕ) (st : Stand) → slice_get s.stands m ≡ Some st → m ≡ n → Sleeps s heard m st
    down m st h e = record {
      rests = subst (λ (l : List Entry). Rests s m st l)
          (sym (ap (λ k. take k s.history) all ∙ take-whole s.history))
          (subst (λ (k : ℕ). Rests s k st s.history) (sym e) (rests st (ap (slice_get s.stands) (sym e) ∙ h)));
      others = subst (AreForeign m) (sym (ap (λ k. drop k s.history) all ∙ drop-whole s.history)) tt;
    }

    go : (m : ℕ) (st : Stand) → slice_get s.stands m ≡ Some st → IsSeenTo s told heard m st → IsSeenTo s told' heard m st
    go m st h (asleep x) = asleep x
    go m st h (up x) = by (nat_eq m n) refl
      where
        by : (b : Bool) → nat_eq m n ≡ b → IsSeenTo s told' heard m st
        by true f = asleep (down m st h (eqb-true m n f))
        by false f = up (off.stay m x (λ e. false≢true (sym f ∙ eq-eqb m n e)))

-- ---- those that are passed over

-- a session that sleeps after all entries rests
pub rests_now : {s : State} {told : Told} {heard : ℕ} → heard ≡ length s.history → IsTold s told heard → (n : ℕ) (st : Stand)
    → slice_get s.stands n ≡ Some st → (IsOn told.awake n → ⊥) → Rests s n st s.history
rests_now {s} {told} {heard} all t n st h none = go (t.each n st h)
  where
    go : IsSeenTo s told heard n st → Rests s n st s.history
    go (up x) = absurd (none x)
    go (asleep x) =
        subst (λ (l : List Entry). Rests s n st l) (ap (λ k. take k s.history) all ∙ take-whole s.history) x.rests

-- none of the strands is allowed, from whichever position they are looked at
none-from : (a : Seat) (now : Moment) (strands : List ℕ) (pick other : ℕ) → NoneAllowed a (from_pick strands pick) now now
    → NoneAllowed a (from_pick strands other) now now
none-from a now strands pick other x = record {
  passed = λ k l.
      let i : ℕ = (other + k) % length strands in
      let within : i < length strands = mod-lt (other + k) (some k (length strands) l) in
      each_turn (λ n. Passed a n now now) strands pick x.passed (slice_index strands i) (i, within, same i within);
  grew = x.grew;
  config = x.config;
  service = x.service;
}
  where
    some : (k m : ℕ) → k < m → 0 < m
    some k m l = omega arith

    same : (i : ℕ) → i < length strands → get_or strands i (slice_index strands i) ≡ slice_index strands i
    same i within =
        same_of (get_or strands i (slice_index strands i)) (slice_index strands i)
        (sym (slice_get-get_or strands i (slice_index strands i) within) ∙ slice_get-get_or strands i 0 within)

-- A turn that does nothing takes a pick.
record Idles (n : ℕ) (s : State) : Type 0 where
  pub what : Turn
  pub none : is_did what ≡ false
  pub turned : IsTurn n s (past_picks 1 s) what

idles : (n : ℕ) (s : State) (st : Stand) → slice_get s.stands n ≡ Some st → Rests s n st s.history → Idles n s
idles n s st at r = go r
  where
    turned : (t : Turn) → Turned (play s n) (position st s.history) (position st s.history) t → IsTurn n s (past_picks 1 s) t
    turned t x = record {
      was = st;
      there = at;
      now = st;
      setting = refl;
      budget = refl;
      stands = sym (set_same s.stands n st at);
      picks = refl;
      turned = x;
    }

    go : Rests s n st s.history → Idles n s
    go (ended x) =
        record { what = turn.Ended; none = refl; turned = turned turn.Ended (turned_ended x.config x.at x.ended refl) }
    go (spent yet all) = record { what = turn.Spent; none = refl; turned = turned turn.Spent (turned_spent yet all refl) }
    go (idle yet fewer strands pick enabled none) =
        record {
          what = turn.Idle;
          none = refl;
          turned = turned turn.Idle
              (turned_idle yet fewer strands enabled
              (none-from (seat_at s.setting n) (moment_at st s.history) strands pick (unwrap_or (slice_get s.picks 0) 0) none) refl);
        }

nobody : Stand
nobody = record { service = 0; config = None; events = [] }

drop-picks : (k : ℕ) (xs : List ℕ) → drop k (drop 1 xs) ≡ drop (suc k) xs
drop-picks zero [] = refl
drop-picks (suc k) [] = refl
drop-picks k (x ∷ xs) = refl

skip-on : (k n : ℕ) (s : State) {new : State} {b : Bool}
    → ((j : ℕ) (st : Stand) → n ≤ j → j < n + k → slice_get s.stands j ≡ Some st → Rests s j st s.history)
    → n + k ≤ length s.stands → RoundFrom (n + k) (past_picks k s) new b
    → RoundFrom n s new b
skip-on zero n s {new} {b} rests within rest = subst (λ (m : ℕ). RoundFrom m s new b) (add-none n) rest
  where
    add-none : (m : ℕ) → m + 0 ≡ m
    add-none m = omega arith
skip-on (suc k) n s {new} {b} rests within rest =
    let i = idles n s (get_or s.stands n nobody) (slice_get-get_or s.stands n nobody (omega arith))
    (rests n (get_or s.stands n nobody) (le_refl n) (omega arith) (slice_get-get_or s.stands n nobody (omega arith))) in
    next_session n s s (past_picks 1 s) new false b (stands_there (omega arith) refl)
    (last_turn s (past_picks 1 s) i.what i.none i.turned)
    (skip-on k (suc n) (past_picks 1 s)
    (λ j st l u h. rests_with s.history s.stands (drop 1 s.picks) (rests j st (omega arith) (omega arith) h)) (omega arith)
    (subst (λ (m : ℕ). RoundFrom m (past_picks k (past_picks 1 s)) new b) (add-one n k)
    (subst (λ (x : State). RoundFrom (n + suc k) x new b) same rest)))
  where
    add-one : (m i : ℕ) → m + suc i ≡ suc m + i
    add-one m i = omega arith

    same : past_picks (suc k) s ≡ past_picks k (past_picks 1 s)
    same = λ i. record {
      setting = s.setting;
      budget = s.budget;
      history = s.history;
      stands = s.stands;
      picks = sym (drop-picks k s.picks) i;
    }

-- a round goes from a number as it goes behind those that sleep
pub skipped_round : {n m : ℕ} {old mid new : State} {b : Bool} → Skips n m old mid → RoundFrom m mid new b
    → RoundFrom n old new b
skipped_round {n} {m} {old} {mid} {new} {b} x rest =
    skip-on (m - n) n old (λ j st l u h. x.rest j st l (subst (λ (k : ℕ). j < k) up-to u) h)
    (subst (λ (k : ℕ). k ≤ length old.stands) (sym up-to) x.there)
    (subst (λ (k : ℕ). RoundFrom k (past_picks (m - n) old) new b) (sym up-to)
    (subst (λ (s : State). RoundFrom m s new b) x.same rest))
  where
    up-to : n + (m - n) ≡ m
    up-to = let r : n ≤ m = x.rising in omega arith

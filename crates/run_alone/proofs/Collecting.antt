-- A posting is taken in: what is collected by then, and that what was told was collected.
use Rattle.std.proofs.Common.{◌≡◌, ◌<◌, ◌≤◌, ℕ, zero, suc, Bool, true, false, not, ◌&&◌, List, [], ◌∷◌, ◌++◌, map, length, take, drop, Option, None, Some, nat_eq, nat_le, nat_lt, cond, refl, sym, ap, subst, ◌∙◌, ⊎_elim, append_assoc, arith, true≢false, ltb-true}
use Rattle.std.specs.Prelude.{if◌then◌else◌, is_some, slice_get}
use Rattle.std.specs.List.{filter, filter_map, list_all, list_any, cons_option}
use Rattle.std.proofs.lemmas.Bool.{and_from, and_parts, eqb-true, false≢true, leb-true, or_from, or_left, or_right}
use Rattle.std.proofs.lemmas.List.{take-append-drop, take-append-le}
use Rattle.std.proofs.lemmas.List.Folds.{list_all-append, list_any-append}
use Rattle.office_core.specs.declared.front.CallIn.{CallIn}
use Rattle.office_core.specs.declared.front.Posting.{Posting}
use Rattle.office_core.specs.declared.history.Act.{Act}
use Rattle.office_core.specs.declared.history.Act.TheVariants as act
use Rattle.office_core.specs.declared.history.Entry.{Entry}
use Rattle.office_core.specs.declared.post.PostReply.{PostReply}
use Rattle.office_core.specs.declared.post.PostReply.TheVariants as answer
use Rattle.office_core.specs.Keys.{first}
use Rattle.office_core.specs.Limits.{Setting, first_worker}
use Rattle.office_core.specs.Past.{Past, closes, some_entry}
use Rattle.office_core.specs.Accepted.{past_of}
use Rattle.office_core.specs.Answers.{answers}
use Rattle.office_core.specs.Legal.{collects, posts_as}
use Rattle.run_theorem.specs.Exchange.{Received, Exchange, Told}
use Rattle.run_order_laws.specs.Entries.{is_other, posts_over, posts_under}
use Rattle.run_order_laws.specs.Ordering.{is_answered}
use Rattle.run_order_laws.proofs.Growing.{entries_past}
use Rattle.run_order_laws.proofs.Lists.{all_append, all_weaker, append_nil, given_append, itself, none_given, not_eq}
use Rattle.run_quiet_laws.proofs.Begun.{BeginWell, well_by_others, well_by_posts}
use Rattle.run_quiet_laws.proofs.Still.{one_posting}
use Rattle.run_record.specs.Order.{accepted_as, message_in, messages_for, numbers_from}
use Rattle.run_record.specs.Quiet.{begins_posting, posts, posts_for}
use Rattle.run_record.specs.Collected.{uncollected, was_collected}
use Rattle.session_turn.proofs.Histories.{some_of}
use Rattle.run_posts.specs.CallStates.{Wait, all_collected, is_finished, is_open, told_of}
use Rattle.run_posts.specs.Open.{told_places}
use Rattle.run_posts.proofs.Ending.{AreSettled, other_all}
use Rattle.run_posts.proofs.Opening.{all_posts_of, is_between}
use Rattle.run_alone.specs.Between.{AllWait, IsGathered}
use Rattle.run_alone.specs.Ran.{AllCollected, CollectedBefore}
use Rattle.run_alone.proofs.Stepping.{CanStep, after_step, after_sweep, between_other, collected_all, gathered, in_one, over_step, posted, sent_now, settled_step, settled_waits, waiting}
use Rattle.run_alone.proofs.Stepping.{all_weaker as entries_weaker}
use Rattle.run_alone.proofs.Waiting.{none_are, unanswered_by_collects, unanswered_by_telling, wait_by_collects, wait_by_others, wait_by_posts, wait_by_telling}

-- ---- nothing is left to be collected

filter_none : (f : ℕ → Bool) (ns : List ℕ) → ((n : ℕ) → f n ≡ false) → filter f ns ≡ []
filter_none f [] none = refl
filter_none f (n ∷ ns) none = ap (λ b. cond b (n ∷ filter f ns) (filter f ns)) (none n) ∙ filter_none f ns none

not_all_three : (a b c : Bool) → (a ≡ true → b ≡ true → c ≡ true) → (a && b && not c) ≡ false
not_all_three false b c each = refl
not_all_three true false c each = refl
not_all_three true true false each = absurd (false≢true (each refl refl))
not_all_three true true true each = refl

-- where each post that has an answer was collected
pub none_uncollected : (w : Setting) (past : Past) (actor : ℕ)
    → ((n : ℕ) → some_entry past (posts_as actor n) ≡ true → is_some (first (answers w past n)) ≡ true
    → some_entry past (collects n) ≡ true)
    → uncollected w past actor ≡ []
none_uncollected w past actor each =
    filter_none
    (λ n. some_entry past (posts_as actor n) && is_some (first (answers w past n)) && not (some_entry past (collects n)))
    (numbers_from 0 (length past.messages))
    (λ n. not_all_three (some_entry past (posts_as actor n)) (is_some (first (answers w past n)))
    (some_entry past (collects n)) (each n))

-- between two postings each has
pub gathered_all : {w : Setting} {h : List Entry} {xs : List Wait} → IsGathered w h xs → (n : ℕ)
    → list_any (posts_as first_worker n) h ≡ true → is_some (first (answers w (past_of w h) n)) ≡ true
    → list_any (collects n) h ≡ true
gathered_all {w} {h} g n post answered = by (list_any (collects n) h) refl
  where
    by : (b : Bool) → list_any (collects n) h ≡ b → b ≡ true
    by true e = refl
    by false e = absurd (true≢false (sym answered ∙ ap is_some (g.unanswered n (g.waiting n post e))))

gathered_none : {w : Setting} {h : List Entry} {xs : List Wait} → IsGathered w h xs
    → uncollected w (past_of w h) first_worker ≡ []
gathered_none {w} {h} g =
    none_uncollected w (past_of w h) first_worker
    (λ n post answered. some_of w h (collects n)
    ∙ gathered_all g n (sym (some_of w h (posts_as first_worker n)) ∙ post) answered)

-- ---- entries

none_of_not : (f : Entry → Bool) (es : List Entry) → list_all (λ e. not (f e)) es ≡ true → list_any f es ≡ false
none_of_not f [] h = refl
none_of_not f (e ∷ es) h =
    let both = and_parts (not (f e)) (list_all (λ d. not (f d)) es) h in
    or_from (f e) (list_any f es) (by (f e) both.0) (none_of_not f es both.1)
  where
    by : (b : Bool) → not b ≡ true → b ≡ false
    by true g = absurd (false≢true g)
    by false g = refl

pub none_append : (f : Entry → Bool) (xs ys : List Entry) → list_any f xs ≡ false → list_any f ys ≡ false
    → list_any f (xs ++ ys) ≡ false
none_append f xs ys p q = list_any-append f xs ys ∙ or_from (list_any f xs) (list_any f ys) p q

-- what is no post
other_no_post : (e : Entry) → is_other e ≡ true → posts e ≡ false
other_no_post e h = go e.actor e.act h
  where
    go : (n : ℕ) (a : Act) → is_other (record { actor = n; act = a }) ≡ true → posts (record { actor = n; act = a }) ≡ false
    go n (act.Post j i q r) g = absurd (false≢true g)
    go n a g = refl

pub others_no_posts : (es : List Entry) → list_all is_other es ≡ true → list_any posts es ≡ false
others_no_posts es all = none_are is_other posts other_no_post es all

-- who posts
by_actor : (actor j : ℕ) (e : Entry) → posts_for actor j e ≡ true → actor ≡ e.actor
by_actor actor j e h = go e.actor e.act h
  where
    go : (n : ℕ) (a : Act) → posts_for actor j (record { actor = n; act = a }) ≡ true → actor ≡ n
    go n (act.Post k i q r) g = eqb-true actor n (and_parts (nat_eq actor n) (nat_eq j k) g).0
    go n a g = absurd (false≢true g)

-- the answers of an actor's posts were collected where a posting begins
abbrev pub CollectedThere : Setting → ℕ → List Entry → Entry → Type 0
CollectedThere w j before e = uncollected w (past_of w before) e.actor ≡ []

-- ---- a posting is taken in

module _ (w : Setting) (h : List Entry) (all : List Posting) (xs : List Wait) (p : Posting) (swept : List Entry) where
  posts_all : list_all (posts_for first_worker (length all)) (posted w h all xs p swept) ≡ true
  posts_all =
      all_posts_of w (past_of w h) (length all, 0) p.calls (posts_for first_worker (length all))
      (λ i q r. and_from (nat_eq first_worker first_worker) (nat_eq (length all) (length all)) (itself first_worker)
      (itself (length all)))

  module _ (between : list_all is_between swept ≡ true) where
    other_swept : list_all is_other swept ≡ true
    other_swept = entries_weaker is_between is_other between_other swept between

    -- what holds where a posting began still does
    well_step : (P : ℕ → List Entry → Entry → Type 0)
        → ((e : Entry) → posts_for first_worker (length all) e ≡ true → P (length all) h e)
        → BeginWell P h → BeginWell P (after_step w h all xs p swept)
    well_step P now well =
        well_by_others P (after_sweep w h all xs p swept) (gathered w h all xs p swept)
        (others_no_posts (gathered w h all xs p swept)
        (other_all w (past_of w (after_sweep w h all xs p swept)) (waiting w h all xs p swept)))
        (well_by_others P (h ++ posted w h all xs p swept) swept (others_no_posts swept other_swept)
        (well_by_posts P first_worker (length all) h (posted w h all xs p swept) posts_all now well))

    -- the same is so before the next posting
    pub gathered_step : list_any closes swept ≡ false → IsGathered w h xs
        → IsGathered w (after_step w h all xs p swept) (filter is_open (settled_waits w h all xs p swept))
    gathered_step closed g = record {
      unclosed =
          none_append closes (after_sweep w h all xs p swept) (gathered w h all xs p swept)
          (none_append closes (h ++ posted w h all xs p swept) swept
          (none_append closes h (posted w h all xs p swept) g.unclosed
          (none_of_not closes (posted w h all xs p swept)
          (all_posts_of w (past_of w h) (length all, 0) p.calls (λ e. not (closes e)) (λ i q r. refl))))
          closed)
          (none_of_not closes (gathered w h all xs p swept)
          (collected_all (λ e. not (closes e)) (λ m o. refl) w (past_of w (after_sweep w h all xs p swept))
          (waiting w h all xs p swept)));
      begun =
          well_step (CollectedThere w)
          (λ e is. subst (λ (actor : ℕ). uncollected w (past_of w h) actor ≡ [])
          (by_actor first_worker (length all) e is) (gathered_none g))
          g.begun;
      waiting =
          wait_by_telling (after_step w h all xs p swept) (settled_waits w h all xs p swept)
          (wait_by_collects w (after_sweep w h all xs p swept) (waiting w h all xs p swept)
          (wait_by_others (h ++ posted w h all xs p swept) swept (waiting w h all xs p swept) other_swept
          (wait_by_posts w h (length all) p.calls xs g.waiting)));
      unanswered =
          unanswered_by_telling w (after_step w h all xs p swept) (settled_waits w h all xs p swept)
          (unanswered_by_collects w (after_sweep w h all xs p swept) (waiting w h all xs p swept));
    }

-- ---- what was told

-- the messages of a posting below a number stay
over_none : (count j : ℕ) → nat_lt j count ≡ true → (e : Entry) → posts_over count e ≡ true
    → message_in first_worker j e ≡ None
over_none count j low e h = go e.actor e.act h
  where
    apart : (k : ℕ) → nat_le count k ≡ true → nat_eq j k ≡ false
    apart k most =
        let less : j < count = ltb-true j count low in
        let above : count ≤ k = leb-true count k most in
        not_eq j k (λ e. omega (arith, less, above, e))

    none : (r : PostReply) (b c : Bool) → c ≡ false → (if b && c then accepted_as r else None) ≡ None
    none r true c x = ap (λ y. if y then accepted_as r else None) x
    none r false c x = refl

    go : (n : ℕ) (a : Act) → posts_over count (record { actor = n; act = a }) ≡ true
        → message_in first_worker j (record { actor = n; act = a }) ≡ None
    go n (act.Post k i q r) g = none r (nat_eq first_worker n) (nat_eq j k) (apart k g)
    go n a g = refl

messages_over : (w : Setting) (h more : List Entry) (count j : ℕ) → list_all (posts_over count) more ≡ true
    → nat_lt j count ≡ true
    → messages_for (past_of w (h ++ more)) first_worker j ≡ messages_for (past_of w h) first_worker j
messages_over w h more count j over low =
    ap (filter_map (message_in first_worker j)) (entries_past w (h ++ more))
    ∙ given_append (message_in first_worker j) h more
    ∙ ap (λ (l : List ℕ). filter_map (message_in first_worker j) h ++ l)
    (none_given (message_in first_worker j) (posts_over count) (over_none count j low) more over)
    ∙ append_nil (filter_map (message_in first_worker j) h)
    ∙ sym (ap (filter_map (message_in first_worker j)) (entries_past w h))

collected_more : (w : Setting) (h more : List Entry) (n : ℕ) → some_entry (past_of w h) (collects n) ≡ true
    → some_entry (past_of w (h ++ more)) (collects n) ≡ true
collected_more w h more n was =
    some_of w (h ++ more) (collects n) ∙ list_any-append (collects n) h more
    ∙ or_left (list_any (collects n) h) (list_any (collects n) more) (sym (some_of w h (collects n)) ∙ was)

-- what was collected of postings below a number stays so
pub collected_on : (w : Setting) (h more : List Entry) (count : ℕ) (ts : List Told) → list_all (posts_over count) more ≡ true
    → list_all (λ n. nat_lt n count) (told_places ts) ≡ true → AllCollected (past_of w h) ts
    → AllCollected (past_of w (h ++ more)) ts
collected_on w h more count [] over low was = refl
collected_on w h more count (t ∷ ts) over low was =
    let lows = and_parts (nat_lt t.place count) (list_all (λ n. nat_lt n count) (told_places ts)) low in
    let both = and_parts (was_collected (past_of w h) first_worker t.place)
    (list_all (λ (u : Told). was_collected (past_of w h) first_worker u.place) ts) was in
    and_from (was_collected (past_of w (h ++ more)) first_worker t.place)
    (list_all (λ (u : Told). was_collected (past_of w (h ++ more)) first_worker u.place) ts)
    (ap (list_all (λ n. some_entry (past_of w (h ++ more)) (collects n))) (messages_over w h more count t.place over lows.0)
    ∙ all_weaker (λ n. some_entry (past_of w h) (collects n)) (λ n. some_entry (past_of w (h ++ more)) (collects n))
    (collected_more w h more) (messages_for (past_of w h) first_worker t.place) both.0)
    (collected_on w h more count ts over lows.1 both.1)

-- the messages of a posting were posted
posted_as : (j : ℕ) (front es : List Entry)
    → list_all (λ n. list_any (posts_as first_worker n) (front ++ es)) (filter_map (message_in first_worker j) es) ≡ true
posted_as j front [] = refl
posted_as j front (e ∷ es) =
    by (message_in first_worker j e) refl
    (subst (λ (l : List Entry). list_all (λ n. list_any (posts_as first_worker n) l) (filter_map (message_in first_worker j) es) ≡ true)
    (append_assoc front (e ∷ []) es) (posted_as j (front ++ e ∷ []) es))
  where
    the_post : (m : ℕ) (n : ℕ) (a : Act) → message_in first_worker j (record { actor = n; act = a }) ≡ Some m
        → posts_as first_worker m (record { actor = n; act = a }) ≡ true
    the_post m n (act.Post k i q (answer.Accepted x)) g = same (nat_eq first_worker n) (nat_eq j k) g
      where
        same : (b c : Bool) → (if b && c then Some x else None) ≡ Some m → (b && nat_eq m x) ≡ true
        same true true e = ap (nat_eq m) (ap (λ (o : Option ℕ). elim o [ None ↦ m | Some y ↦ y ]) e) ∙ itself m
        same true false e = absurd (false≢true (ap is_some e))
        same false c e = absurd (false≢true (ap is_some e))
    the_post m n (act.Post k i q (answer.Refused why)) g = none (nat_eq first_worker n && nat_eq j k) g
      where
        none : (b : Bool) → (if b then None else None) ≡ Some m
            → posts_as first_worker m (record { actor = n; act = act.Post k i q (answer.Refused why) }) ≡ true
        none true e = absurd (false≢true (ap is_some e))
        none false e = absurd (false≢true (ap is_some e))
    the_post m n a g = absurd (false≢true (ap is_some g))

    by : (o : Option ℕ) → message_in first_worker j e ≡ o
        → list_all (λ n. list_any (posts_as first_worker n) (front ++ e ∷ es)) (filter_map (message_in first_worker j) es) ≡ true
        → list_all (λ n. list_any (posts_as first_worker n) (front ++ e ∷ es))
        (cons_option o (filter_map (message_in first_worker j) es)) ≡ true
    by None g rest = rest
    by (Some m) g rest =
        and_from (list_any (posts_as first_worker m) (front ++ e ∷ es))
        (list_all (λ n. list_any (posts_as first_worker n) (front ++ e ∷ es)) (filter_map (message_in first_worker j) es))
        (list_any-append (posts_as first_worker m) front (e ∷ es)
        ∙ or_right (list_any (posts_as first_worker m) front) (list_any (posts_as first_worker m) (e ∷ es))
        (or_left (posts_as first_worker m e) (list_any (posts_as first_worker m) es) (the_post m e.actor e.act g)))
        rest

all_from_two : (p q r : ℕ → Bool) → ((n : ℕ) → p n ≡ true → q n ≡ true → r n ≡ true) → (ns : List ℕ)
    → list_all p ns ≡ true → list_all q ns ≡ true → list_all r ns ≡ true
all_from_two p q r each [] a b = refl
all_from_two p q r each (n ∷ ns) a b =
    let x = and_parts (p n) (list_all p ns) a in
    let y = and_parts (q n) (list_all q ns) b in
    and_from (r n) (list_all r ns) (each n x.0 y.0) (all_from_two p q r each ns x.1 y.1)

-- where all is collected that has an answer, a posting that has its answers was collected
answered_collected : {w : Setting} {h : List Entry} {xs : List Wait} → IsGathered w h xs → (j : ℕ)
    → is_answered w (past_of w h) j ≡ true → was_collected (past_of w h) first_worker j ≡ true
answered_collected {w} {h} g j answered =
    all_from_two (λ n. list_any (posts_as first_worker n) h) (λ n. is_some (first (answers w (past_of w h) n)))
    (λ n. some_entry (past_of w h) (collects n))
    (λ n post there. some_of w h (collects n) ∙ gathered_all g n post there)
    (messages_for (past_of w h) first_worker j)
    (ap (λ (l : List Entry). list_all (λ n. list_any (posts_as first_worker n) h) (filter_map (message_in first_worker j) l))
    (entries_past w h)
    ∙ posted_as j [] h)
    answered

told_now : {w : Setting} {h : List Entry} {xs : List Wait} → IsGathered w h xs → (ys : List Wait)
    → AreSettled w (past_of w h) ys → AllCollected (past_of w h) (map told_of (filter is_finished ys))
told_now g [] settled = refl
told_now {w} {h} g (y ∷ ys) settled = by (is_finished y) settled.0 (told_now g ys settled.1)
  where
    by : (b : Bool) → b ≡ is_answered w (past_of w h) y.place
        → AllCollected (past_of w h) (map told_of (filter is_finished ys))
        → AllCollected (past_of w h) (map told_of (cond b (y ∷ filter is_finished ys) (filter is_finished ys)))
    by true e rest =
        and_from (was_collected (past_of w h) first_worker y.place)
        (list_all (λ (t : Told). was_collected (past_of w h) first_worker t.place) (map told_of (filter is_finished ys)))
        (answered_collected g y.place (sym e)) rest
    by false e rest = rest

-- the first of them
first_collected : (past : Past) (k : ℕ) (ts : List Told) → AllCollected past ts → AllCollected past (take k ts)
first_collected past k ts all =
    (and_parts (list_all (λ (t : Told). was_collected past first_worker t.place) (take k ts))
    (list_all (λ (t : Told). was_collected past first_worker t.place) (drop k ts))
    (sym (list_all-append (λ (t : Told). was_collected past first_worker t.place) (take k ts) (drop k ts))
    ∙ ap (list_all (λ (t : Told). was_collected past first_worker t.place)) (take-append-drop k ts)
    ∙ all)).0

-- what had been told when a posting was asked for was collected where it begins
abbrev pub ToldThere : Setting → Exchange → ℕ → List Entry → Entry → Type 0
ToldThere w d j before e =
    (n : ℕ) → slice_get d.received.seens j ≡ Some n → AllCollected (past_of w before) (take n d.sent.told)

module _ (w : Setting) (h : List Entry) (all : List Posting) (xs : List Wait) (p : Posting) (swept : List Entry)
    (ts : List Told) (can : CanStep w h all xs p swept ts) where
  -- what had been told before
  pub told_before_step : (d : Exchange) → d.sent.told ≡ ts → AllCollected (past_of w h) ts → CollectedBefore w h d
      → CollectedBefore w (after_step w h all xs p swept) d
  told_before_step d told was before =
      well_step w h all xs p swept can.between (ToldThere w d)
      (λ e is n at. first_collected (past_of w h) n d.sent.told
      (subst (AllCollected (past_of w h)) (sym told) was))
      before

module _ (w : Setting) (h : List Entry) (all : List Posting) (xs : List Wait) (p : Posting) (swept : List Entry)
    (ts : List Told) (can : CanStep w h all xs p swept ts) (closed : list_any closes swept ≡ false)
    (g : IsGathered w h xs) where
  -- what was told then was collected
  pub told_step : AllCollected (past_of w h) ts
      → AllCollected (past_of w (after_step w h all xs p swept)) (sent_now w h all xs p swept ts can)
  told_step was =
      all_append (λ (t : Told). was_collected (past_of w (after_step w h all xs p swept)) first_worker t.place) ts
      (map told_of (filter is_finished (settled_waits w h all xs p swept)))
      (subst (λ (l : List Entry). AllCollected (past_of w l) ts) (in_one w h all xs p swept ts can)
      (collected_on w h (posted w h all xs p swept ++ (swept ++ gathered w h all xs p swept)) (length all) ts
      (over_step w h all xs p swept ts can) can.opens.low_told was))
      (told_now (gathered_step w h all xs p swept can.between closed g) (settled_waits w h all xs p swept)
      (settled_step w h all xs p swept ts can))

-- with more that was told
pub told_more : (w : Setting) (h : List Entry) (before now : Exchange) (more : List Told) → now.received ≡ before.received
    → now.sent.told ≡ before.sent.told ++ more
    → ((j k : ℕ) → slice_get before.received.seens j ≡ Some k → k ≤ length before.sent.told)
    → CollectedBefore w h before → CollectedBefore w h now
told_more w h before now more received told inside was j front later e p begins k at =
    let there = ap (λ (b : Received). slice_get b.seens j) (sym received) ∙ at in
    subst (AllCollected (past_of w front))
    (sym (ap (take k) told ∙ take-append-le k before.sent.told more (inside j k there)))
    (was j front later e p begins k there)

-- ---- a posting is asked for

all_there : (f : Entry → Bool) (h front later : List Entry) (e : Entry) → h ≡ front ++ e ∷ later → list_all f h ≡ true
    → f e ≡ true
all_there f h front later e p all =
    (and_parts (f e) (list_all f later)
    (and_parts (list_all f front) (list_all f (e ∷ later))
    (sym (list_all-append f front (e ∷ later)) ∙ ap (list_all f) (sym p) ∙ all)).1).0

-- of a posting that was not posted nothing begins
pub none_begins : (count : ℕ) (h front later : List Entry) (e : Entry) → list_all (posts_under count) h ≡ true
    → h ≡ front ++ e ∷ later → begins_posting count front e ≡ true → ⊥
none_begins count h front later e under p begins =
    go e.actor e.act (all_there (posts_under count) h front later e p under)
    (and_parts (posts_for e.actor count e) (not (list_any (posts_for e.actor count) front)) begins).0
  where
    below : count < count → ⊥
    below less = omega (arith, less)

    go : (n : ℕ) (a : Act) → posts_under count (record { actor = n; act = a }) ≡ true
        → posts_for n count (record { actor = n; act = a }) ≡ true → ⊥
    go n (act.Post k i q r) low is =
        let same : count ≡ k = eqb-true count k (and_parts (nat_eq n n) (nat_eq count k) is).1 in
        below (subst (λ (m : ℕ). m < count) (sym same) (ltb-true k count low))
    go n a low is = absurd (false≢true is)

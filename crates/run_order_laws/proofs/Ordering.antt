-- The order in which postings are told: those that are finished at a posting are told behind it, and the others at the
-- end. So what was told is the order that the record gives.
use Rattle.std.proofs.Common.{◌≡◌, ◌<◌, ◌≤◌, ℕ, suc, Bool, true, false, not, ◌&&◌, ◌||◌, List, [], ◌∷◌}
use Rattle.std.proofs.Common.{◌++◌, refl, sym, ap, ◌∙◌, None, Some, true≢false, cond, leb-true}
use Rattle.std.proofs.Common.{arith}
use Rattle.std.specs.Prelude.{nat_eq, nat_lt, nat_le, slice_get, if◌then◌else◌, is_some, flat_map}
use Rattle.std.specs.List.{list_all, list_any, filter, filter_map}
use Rattle.office_core.specs.declared.history.Act.{Act}
use Rattle.office_core.specs.declared.history.Act.TheVariants as act
use Rattle.office_core.specs.declared.history.Entry.{Entry}
use Rattle.office_core.specs.declared.message.Message.{Message}
use Rattle.office_core.specs.Limits.{Setting, first_worker}
use Rattle.office_core.specs.Past.{Past, some_entry, stops}
use Rattle.office_core.specs.Keys.{first}
use Rattle.office_core.specs.Accepted.{past_of}
use Rattle.office_core.specs.Answers.{answers_of, answers}
use Rattle.run_record.specs.Order.{accepted_as, message_in, messages_for, before_first, posts_above}
use Rattle.run_record.specs.Order.{until_posting, is_finished, finished_there, numbers_from, order_alone}
pub use Rattle.run_order_laws.specs.Entries.{posts_over, posts_on, cuts}
pub use Rattle.run_order_laws.specs.Ordering.{Grows, InOrder, is_answered}
use Rattle.run_order_laws.proofs.Lists.{left_true, right_true, both_true, true_left, false_left, false_right}
use Rattle.run_order_laws.proofs.Lists.{not_eq, append_nil, all_alike}
use Rattle.run_order_laws.proofs.Lists.{none_of, none_given, given_append, there}
use Rattle.run_order_laws.proofs.Growing.{past_then, entries_past, message_then, legal_front}
use Rattle.run_order_laws.proofs.Staying.{adds_none, answers_same_all, messages_same_all}
use Rattle.run_order_laws.proofs.Posting.{posts_under, lt_is, lt_true}
use Rattle.run_order_laws.proofs.Accepting.{posted_there}
use Rattle.run_order_laws.proofs.Least.{AreAlike, InOrderBy, before_more, before_same, in_order_next, in_order_early, in_order_ends}

-- ---- the entries before the first of a kind

pub before_none : (c : Entry → Bool) (es : List Entry) → list_any c es ≡ false → before_first c es ≡ es
before_none c [] h = refl
before_none c (e ∷ es) h =
    ap (λ b. if b then [] else e ∷ before_first c es) (false_left (c e) (list_any c es) h)
    ∙ ap (λ l. e ∷ l) (before_none c es (false_right (c e) (list_any c es) h))

pub before_cut : (c : Entry → Bool) (es more : List Entry) → list_any c es ≡ true
    → before_first c (es ++ more) ≡ before_first c es
before_cut c [] more h = absurd (true≢false (sym h))
before_cut c (e ∷ es) more h = by (before_cut c es more) (c e) refl
  where
    by : (list_any c es ≡ true → before_first c (es ++ more) ≡ before_first c es) → (b : Bool) → c e ≡ b
        → (if c e then [] else e ∷ before_first c (es ++ more)) ≡ (if c e then [] else e ∷ before_first c es)
    by next true q =
        (λ i. if q i then [] else e ∷ before_first c (es ++ more))
        ∙ sym (ap (λ b. if b then [] else e ∷ before_first c es) q)
    by next false q =
        ap (λ l. if c e then [] else e ∷ l) (next (ap (λ b. b || list_any c es) (sym q) ∙ h))

pub before_uncut : (c : Entry → Bool) (es more : List Entry) → list_any c es ≡ false
    → before_first c (es ++ more) ≡ es ++ before_first c more
before_uncut c [] more h = refl
before_uncut c (e ∷ es) more h =
    ap (λ b. if b then [] else e ∷ before_first c (es ++ more)) (false_left (c e) (list_any c es) h)
    ∙ ap (λ l. e ∷ l) (before_uncut c es more (false_right (c e) (list_any c es) h))

-- before the first of a wider kind there is less
before_less : (p c d : Entry → Bool) → ((e : Entry) → c e ≡ true → d e ≡ true) → (es : List Entry)
    → list_all p (before_first c es) ≡ true → list_all p (before_first d es) ≡ true
before_less p c d wider [] h = refl
before_less p c d wider (e ∷ es) h = by (before_less p c d wider es) (c e) (d e) refl refl
  where
    by : (list_all p (before_first c es) ≡ true → list_all p (before_first d es) ≡ true) → (a b : Bool)
        → c e ≡ a → d e ≡ b → list_all p (if d e then [] else e ∷ before_first d es) ≡ true
    by next a true q r = ap (λ b. list_all p (if b then [] else e ∷ before_first d es)) r
    by next true false q r = absurd (true≢false (sym (wider e q) ∙ r))
    by next false false q r =
        let all : list_all p (e ∷ before_first c es) ≡ true =
        sym (ap (λ b. list_all p (if b then [] else e ∷ before_first c es)) q) ∙ h in
        ap (λ b. list_all p (if b then [] else e ∷ before_first d es)) r
        ∙ both_true (p e) (list_all p (before_first d es)) (left_true (p e) (list_all p (before_first c es)) all)
        (next (right_true (p e) (list_all p (before_first c es)) all))

-- ---- numbers

le_is : (m n : ℕ) → nat_le m n ≡ true → m ≤ n
le_is m n h = leb-true m n h

wide : (i count j : ℕ) → i < count → nat_le count j ≡ true → nat_lt i j ≡ true
wide i count j below h = let most : count ≤ j = le_is count j h in lt_true i j (omega (arith, below, most))

apart : (j count k : ℕ) → j < count → nat_le count k ≡ true → nat_eq j k ≡ false
apart j count k below h = let most : count ≤ k = le_is count k h in not_eq j k (λ e. omega (arith, below, most, e))

not_above : (j count i : ℕ) → nat_lt j count ≡ true → count ≤ suc i → nat_lt i j ≡ false
not_above j count i h most = let less : j < count = lt_is j count h in
    false_if (nat_lt i j) (λ g. let above : i < j = lt_is i j g in omega (arith, less, most, above))
  where
    false_if : (b : Bool) → (b ≡ true → ⊥) → b ≡ false
    false_if true g = absurd (g refl)
    false_if false g = refl

-- ---- answers by entries and messages

-- what happened, by the entries and the messages
abbrev past_by : List Entry → List Message → Past
past_by es ms = record { entries = es; messages = ms }

-- of the messages only the one of the number matters
same_message : (w : Setting) (es : List Entry) (old new : List Message) (n : ℕ) (m : Message)
    → slice_get old n ≡ Some m → slice_get new n ≡ Some m → answers w (past_by es new) n ≡ answers w (past_by es old) n
same_message w es old new n m h g =
    ap (λ o. elim o [ None ↦ [] | Some x ↦ answers_of w (past_by es new) n x ]) g
    ∙ sym (ap (λ o. elim o [ None ↦ [] | Some x ↦ answers_of w (past_by es old) n x ]) h)

-- ---- a history grows

-- what cuts a history for a posting
abbrev pub cut_at : ℕ → Entry → Bool
cut_at i e = posts_above first_worker i e || stops e

cuts_wider : (i count : ℕ) (e : Entry) → i < count → cuts count e ≡ true → cut_at i e ≡ true
cuts_wider i count e below h = by e.act h
  where
    by : (a : Act) → cuts count (record { actor = e.actor; act = a }) ≡ true
        → cut_at i (record { actor = e.actor; act = a }) ≡ true
    by (act.Post j k q r) g =
        let both : (nat_eq first_worker e.actor && nat_le count j) ≡ true =
        sym (or_false (nat_eq first_worker e.actor && nat_le count j)) ∙ g in
        true_left (nat_eq first_worker e.actor && nat_lt i j) false
        (both_true (nat_eq first_worker e.actor) (nat_lt i j)
        (left_true (nat_eq first_worker e.actor) (nat_le count j) both)
        (wide i count j below (right_true (nat_eq first_worker e.actor) (nat_le count j) both)))
      where
        or_false : (b : Bool) → (b || false) ≡ b
        or_false true = refl
        or_false false = refl
    by a g = g

message_none : (w : Setting) (j count : ℕ) → j < count → (e : Entry) → posts_over count e ≡ true
    → message_in first_worker j e ≡ None
message_none w j count below e h = by e.act h
  where
    by : (a : Act) → posts_over count (record { actor = e.actor; act = a }) ≡ true
        → message_in first_worker j (record { actor = e.actor; act = a }) ≡ None
    by (act.Post k i q r) g = none (nat_eq first_worker e.actor) (nat_eq j k) (apart j count k below g)
      where
        none : (b c : Bool) → c ≡ false → (if b && c then accepted_as r else None) ≡ None
        none true c e = ap (λ x. if x then accepted_as r else None) e
        none false c e = refl
    by a g = refl

-- the messages of the postings before stay
messages_stay : (w : Setting) (h more : List Entry) (count j : ℕ) → Grows w h more count → j < count
    → messages_for (past_of w (h ++ more)) first_worker j ≡ messages_for (past_of w h) first_worker j
messages_stay w h more count j g below =
    ap (filter_map (message_in first_worker j)) (entries_past w (h ++ more))
    ∙ given_append (message_in first_worker j) h more
    ∙ ap (λ l. filter_map (message_in first_worker j) h ++ l)
    (none_given (message_in first_worker j) (posts_over count) (message_none w j count below) more g.over)
    ∙ append_nil (filter_map (message_in first_worker j) h)
    ∙ sym (ap (filter_map (message_in first_worker j)) (entries_past w h))

-- up to a posting before, the answers stay
answers_until : (w : Setting) (h more : List Entry) (count i n : ℕ) → Grows w h more count → i < count
    → is_some (slice_get (past_of w h).messages n) ≡ true
    → answers w (until_posting (past_of w h) first_worker i) n
    ≡ answers w (until_posting (past_of w (h ++ more)) first_worker i) n
answers_until w h more count i n g below h_there = by (list_any (cut_at i) h) refl
  where
    old : List Message
    old = (past_of w h).messages

    new : List Message
    new = (past_of w (h ++ more)).messages

    m : (x : Message) × (slice_get old n ≡ Some x)
    m = there (slice_get old n) h_there

    still : slice_get new n ≡ Some m.0
    still =
        ap (λ (p : Past). slice_get p.messages n) (past_then w h more) ∙ message_then w (past_of w h) more n m.0 m.1

    silent : List Entry
    silent = before_first (cut_at i) more

    some : 0 < count
    some = omega (arith, below)

    is_silent : list_all adds_none silent ≡ true
    is_silent = before_less adds_none (cuts count) (cut_at i) (λ e. cuts_wider i count e below) more (g.unfailed some)

    by : (b : Bool) → list_any (cut_at i) h ≡ b
        → answers w (past_by (before_first (cut_at i) (past_of w h).entries) old) n
        ≡ answers w (past_by (before_first (cut_at i) (past_of w (h ++ more)).entries) new) n
    by true e =
        ap (λ es. answers w (past_by (before_first (cut_at i) es) old) n) (entries_past w h)
        ∙ sym (same_message w (before_first (cut_at i) h) old new n m.0 m.1 still)
        ∙ ap (λ es. answers w (past_by es new) n) (sym (before_cut (cut_at i) h more e))
        ∙ ap (λ es. answers w (past_by (before_first (cut_at i) es) new) n) (sym (entries_past w (h ++ more)))
    by false e =
        ap (λ es. answers w (past_by (before_first (cut_at i) es) old) n) (entries_past w h)
        ∙ ap (λ es. answers w (past_by es old) n) (before_none (cut_at i) h e ∙ sym (entries_past w h))
        ∙ sym (answers_same_all w (past_of w h) silent is_silent n)
        ∙ ap (λ p. answers w p n) (sym (past_then w h silent))
        ∙ (λ k. answers w (past_by (entries_past w (h ++ silent) k) (messages k)) n)
        ∙ sym (same_message w (h ++ silent) old new n m.0 m.1 still)
        ∙ ap (λ es. answers w (past_by es new) n) (sym (before_uncut (cut_at i) h more e))
        ∙ ap (λ es. answers w (past_by (before_first (cut_at i) es) new) n) (sym (entries_past w (h ++ more)))
      where
        messages : (past_of w (h ++ silent)).messages ≡ old
        messages =
            ap (λ (p : Past). p.messages) (past_then w h silent) ∙ messages_same_all w (past_of w h) silent is_silent

-- what is finished at a posting before stays so
pub finished_stays : (w : Setting) (h more : List Entry) (count : ℕ) → Grows w h more count
    → AreAlike count (is_finished w (past_of w h) first_worker) (is_finished w (past_of w (h ++ more)) first_worker)
finished_stays w h more count g j i j_below i_below =
    all_alike (λ n. is_some (slice_get (past_of w h).messages n))
    (λ n. is_some (first (answers w (until_posting (past_of w h) first_worker i) n)))
    (λ n. is_some (first (answers w (until_posting (past_of w (h ++ more)) first_worker i) n)))
    (λ n is_there. ap (λ os. is_some (first os)) (answers_until w h more count i n g i_below is_there))
    (messages_for (past_of w h) first_worker j)
    (posted_there w h first_worker j (legal_front w h more g.legal))
    ∙ ap (list_all (λ n. is_some (first (answers w (until_posting (past_of w (h ++ more)) first_worker i) n))))
    (sym (messages_stay w h more count j g j_below))

-- ---- now

uncut : (count i : ℕ) → count ≤ suc i → (e : Entry) → (posts_under count e && not (stops e)) ≡ true → cut_at i e ≡ false
uncut count i most e h = by e.act h
  where
    by : (a : Act)
        → (posts_under count (record { actor = e.actor; act = a }) && not (stops (record { actor = e.actor; act = a })))
        ≡ true
        → cut_at i (record { actor = e.actor; act = a }) ≡ false
    by (act.Post j k q r) g =
        none (nat_eq first_worker e.actor) (nat_lt i j)
        (not_above j count i (left_true (nat_lt j count) true g) most)
      where
        none : (b c : Bool) → c ≡ false → ((b && c) || false) ≡ false
        none true c e = ap (λ x. x || false) e
        none false c e = refl
    by act.Stop g = absurd (true≢false (sym g))
    by a g = refl

unstopped : (es : List Entry) → list_any stops es ≡ false → list_all (λ e. not (stops e)) es ≡ true
unstopped [] h = refl
unstopped (e ∷ es) h =
    both_true (not (stops e)) (list_all (λ d. not (stops d)) es) (ap not (false_left (stops e) (list_any stops es) h))
    (unstopped es (false_right (stops e) (list_any stops es) h))

both_all : (p q : Entry → Bool) (es : List Entry) → list_all p es ≡ true → list_all q es ≡ true
    → list_all (λ e. p e && q e) es ≡ true
both_all p q [] h g = refl
both_all p q (e ∷ es) h g =
    both_true (p e && q e) (list_all (λ d. p d && q d) es)
    (both_true (p e) (q e) (left_true (p e) (list_all p es) h) (left_true (q e) (list_all q es) g))
    (both_all p q es (right_true (p e) (list_all p es) h) (right_true (q e) (list_all q es) g))

-- where no post is for a posting above i, all of the past is before such a one
pub whole_past : (w : Setting) (h : List Entry) (count i : ℕ) → count ≤ suc i
    → list_all (posts_under count) h ≡ true → some_entry (past_of w h) stops ≡ false
    → until_posting (past_of w h) first_worker i ≡ past_of w h
whole_past w h count i most under running =
    ap (λ es. past_by es (past_of w h).messages)
    (ap (before_first (cut_at i)) (entries_past w h)
    ∙ before_none (cut_at i) h
    (none_of (λ e. posts_under count e && not (stops e)) (cut_at i) (uncut count i most) h
    (both_all (posts_under count) (λ e. not (stops e)) h under
    (unstopped h (sym (ap (list_any stops) (entries_past w h)) ∙ running))))
    ∙ sym (entries_past w h))

-- then what is finished there is what has its answers by now
pub finished_now : (w : Setting) (h : List Entry) (count i j : ℕ) → count ≤ suc i
    → list_all (posts_under count) h ≡ true → some_entry (past_of w h) stops ≡ false
    → is_finished w (past_of w h) first_worker j i ≡ is_answered w (past_of w h) j
finished_now w h count i j most under running =
    ap (λ p. list_all (λ n. is_some (first (answers w p n))) (messages_for (past_of w h) first_worker j))
    (whole_past w h count i most under running)

-- ---- the order

-- before the first posting
pub none_told : (w : Setting) (h : List Entry) → InOrder w h 0 [] []
none_told w h = record { told = refl; pending = refl }

filter_same : (p q : ℕ → Bool) → ((j : ℕ) → p j ≡ q j) → (xs : List ℕ) → filter p xs ≡ filter q xs
filter_same p q same [] = refl
filter_same p q same (x ∷ xs) = λ i. cond (same x i) (x ∷ filter_same p q same xs i) (filter_same p q same xs i)

-- One posting more: of those that were not told and the new one, those are told that have their answers by now.
pub order_goes_on : (w : Setting) (h more : List Entry) (count : ℕ) (said open_yet : List ℕ) → Grows w h more count
    → list_all (posts_under (suc count)) (h ++ more) ≡ true → some_entry (past_of w (h ++ more)) stops ≡ false
    → InOrder w h count said open_yet
    → InOrder w (h ++ more) (suc count)
    (said ++ filter (is_answered w (past_of w (h ++ more))) (open_yet ++ count ∷ []))
    (filter (λ j. not (is_answered w (past_of w (h ++ more)) j)) (open_yet ++ count ∷ []))
order_goes_on w h more count said open_yet g under running o =
    let next : InOrderBy (is_finished w (past_of w (h ++ more)) first_worker) (suc count)
    (said ++ filter (λ j. is_finished w (past_of w (h ++ more)) first_worker j count) (open_yet ++ count ∷ []))
    (filter (λ j. not (is_finished w (past_of w (h ++ more)) first_worker j count)) (open_yet ++ count ∷ [])) =
    in_order_next (is_finished w (past_of w h) first_worker) (is_finished w (past_of w (h ++ more)) first_worker)
    count said open_yet (finished_stays w h more count g) (record { told = o.told; pending = o.pending }) in
    record {
      told = ap (λ l. said ++ l) (filter_same _ _ (λ j. sym (now j)) (open_yet ++ count ∷ [])) ∙ next.told;
      pending = filter_same _ _ (λ j. ap not (sym (now j))) (open_yet ++ count ∷ []) ∙ next.pending;
    }
  where
    enough : suc count ≤ suc count
    enough = omega arith

    now : (j : ℕ) → is_finished w (past_of w (h ++ more)) first_worker j count ≡ is_answered w (past_of w (h ++ more)) j
    now j = finished_now w (h ++ more) (suc count) count j enough under running

-- The end: the others are told behind them, which is the order of the record.
pub order_ends : (w : Setting) (h more : List Entry) (count : ℕ) (said open_yet : List ℕ) → Grows w h more count
    → InOrder w h count said open_yet → said ++ open_yet ≡ order_alone w (h ++ more) first_worker count
order_ends w h more count said open_yet g o =
    in_order_ends (is_finished w (past_of w h) first_worker) (is_finished w (past_of w (h ++ more)) first_worker)
    count said open_yet (finished_stays w h more count g) (record { told = o.told; pending = o.pending })

-- Those that were told are those that are finished before the end.
pub order_early : (w : Setting) (h more : List Entry) (count : ℕ) (said open_yet : List ℕ) → Grows w h more count
    → InOrder w h count said open_yet
    → said ≡ flat_map (finished_there w (past_of w (h ++ more)) first_worker count) (numbers_from 0 count)
order_early w h more count said open_yet g o =
    in_order_early (is_finished w (past_of w h) first_worker) (is_finished w (past_of w (h ++ more)) first_worker)
    count said open_yet (finished_stays w h more count g) (record { told = o.told; pending = o.pending })

-- Those that are finished before one of the postings stay so, one posting more.
pub before_goes_on : (w : Setting) (h more : List Entry) (count j : ℕ) → Grows w h more count → j ≤ count
    → flat_map (finished_there w (past_of w (h ++ more)) first_worker (suc count)) (numbers_from 0 j)
    ≡ flat_map (finished_there w (past_of w h) first_worker count) (numbers_from 0 j)
before_goes_on w h more count j g most =
    before_more (is_finished w (past_of w h) first_worker) (is_finished w (past_of w (h ++ more)) first_worker) count j
    (finished_stays w h more count g) most

-- And so they do at the end.
pub before_ends : (w : Setting) (h more : List Entry) (count j : ℕ) → Grows w h more count
    → flat_map (finished_there w (past_of w h) first_worker count) (numbers_from 0 j)
    ≡ flat_map (finished_there w (past_of w (h ++ more)) first_worker count) (numbers_from 0 j)
before_ends w h more count j g =
    before_same (is_finished w (past_of w h) first_worker) (is_finished w (past_of w (h ++ more)) first_worker) count j
    (finished_stays w h more count g)

-- ---- what comes with a posting

-- a post of the posting cuts at once
pub unfailed_at_post : (count : ℕ) (e : Entry) (more : List Entry) → cuts count e ≡ true
    → list_all adds_none (before_first (cuts count) (e ∷ more)) ≡ true
unfailed_at_post count e more h = ap (λ b. list_all adds_none (if b then [] else e ∷ before_first (cuts count) more)) h

-- entries that answer nothing before it do no harm
pub unfailed_behind : (count : ℕ) (es more : List Entry) → list_all adds_none es ≡ true
    → list_all adds_none (before_first (cuts count) more) ≡ true
    → list_all adds_none (before_first (cuts count) (es ++ more)) ≡ true
unfailed_behind count [] more h g = g
unfailed_behind count (e ∷ es) more h g =
    by (unfailed_behind count es more (right_true (adds_none e) (list_all adds_none es) h) g) (cuts count e)
  where
    by : list_all adds_none (before_first (cuts count) (es ++ more)) ≡ true → (b : Bool)
        → list_all adds_none (if b then [] else e ∷ before_first (cuts count) (es ++ more)) ≡ true
    by next true = refl
    by next false =
        both_true (adds_none e) (list_all adds_none (before_first (cuts count) (es ++ more)))
        (left_true (adds_none e) (list_all adds_none es) h) next

-- what adds no answer, and no post, before the stop: adoptions, and that the input is at its end
pub unfailed_at_stop : (count actor : ℕ) (more : List Entry)
    → list_all adds_none (before_first (cuts count) (record { actor = actor; act = act.Stop } ∷ more)) ≡ true
unfailed_at_stop count actor more = refl

-- What is computed of collects is so.
use Rattle.std.proofs.Common.{◌≡◌, ℕ, Bool, true, false, not, ◌&&◌, ◌||◌, cond, List, [], ◌∷◌, ◌++◌, length, refl, sym, ap, subst, ◌∙◌, ⊎_elim, append_assoc, true≢false}
use Rattle.std.specs.Prelude.{nat_eq, is_some, if◌then◌else◌}
use Rattle.std.specs.List.{filter, list_all, list_any}
use Rattle.std.proofs.lemmas.Bool.{eqb-true, false≢true, not-true, or_cases}
use Rattle.std.proofs.lemmas.List.{append-nil}
use Rattle.office_core.specs.declared.post.PostReply.TheVariants as answer
use Rattle.office_core.specs.declared.history.Act.{Act}
use Rattle.office_core.specs.declared.history.Act.TheVariants as act
use Rattle.office_core.specs.declared.history.Entry.{Entry}
use Rattle.office_core.specs.Keys.{first}
use Rattle.office_core.specs.Limits.{Setting, first_worker}
use Rattle.office_core.specs.Past.{Past, some_entry, stops}
use Rattle.office_core.specs.Accepted.{past_of}
use Rattle.office_core.specs.Answers.{answers}
use Rattle.office_core.specs.Legal.{collects, posts_as}
use Rattle.run_record.specs.Order.{before_first, numbers_from}
use Rattle.run_record.specs.Quiet.{before_stop, begins_posting, posts_for}
use Rattle.run_record.specs.Collected.{AreCollected, collectors, uncollected}
use Rattle.session_turn.proofs.Histories.{some_of}
use Rattle.test_trials.specs.Quiet.{is_empty}
use Rattle.test_trials.specs.Collected.{are_collected, collect_first_after, collects_first, is_alone, is_collected}
use Rattle.test_trials.proofs.Counted.{number_itself}
use Rattle.test_trials.proofs.Standing.{both_left, both_right}

empty_is : (ns : List ℕ) → is_empty ns ≡ true → ns ≡ []
empty_is [] h = refl
empty_is (n ∷ ns) h = absurd (false≢true h)

alone_is : (n : ℕ) (ns : List ℕ) → is_alone n ns ≡ true → ns ≡ n ∷ []
alone_is n [] h = absurd (false≢true h)
alone_is n (m ∷ []) h = ap (λ (k : ℕ). k ∷ []) (eqb-true m n h)
alone_is n (m ∷ k ∷ ms) h = absurd (false≢true h)

-- ---- before a posting

begun_is : (w : Setting) (before : List Entry) (j : ℕ) (e : Entry) → collects_first w before e ≡ true
    → begins_posting j before e ≡ true → uncollected w (past_of w before) e.actor ≡ []
begun_is w before j e well begins = go e.actor e.act well begins
  where
    go : (n : ℕ) (a : Act) → collects_first w before (record { actor = n; act = a }) ≡ true
        → begins_posting j before (record { actor = n; act = a }) ≡ true → uncollected w (past_of w before) n ≡ []
    go n (act.Post k i q r) well begins =
        let posted = nat_eq n n && nat_eq j k in
        let none = not (list_any (posts_for n j) before) in
        let same : j ≡ k = eqb-true j k (both_right (nat_eq n n) (nat_eq j k) (both_left posted none begins)) in
        empty_is (uncollected w (past_of w before) n)
        (sym (ap
        (λ (b : Bool). elim b [ true ↦ true | false ↦ is_empty (uncollected w (past_of w before) n) ])
        (subst (λ m. list_any (posts_for n m) before ≡ false) same
        (not-true (list_any (posts_for n j) before) (both_right posted none begins))))
        ∙ well)
    go n a well begins = absurd (false≢true begins)

first_after_is : (w : Setting) (seen before later : List Entry) (j : ℕ) (e : Entry)
    → collect_first_after w seen (before ++ e ∷ later) ≡ true → begins_posting j (seen ++ before) e ≡ true
    → uncollected w (past_of w (seen ++ before)) e.actor ≡ []
first_after_is w seen [] later j e h b =
    subst (λ l. uncollected w (past_of w l) e.actor ≡ []) (sym (append-nil seen))
    (begun_is w seen j e
    (both_left (collects_first w seen e) (collect_first_after w (seen ++ e ∷ []) later) h)
    (sym (ap (λ l. begins_posting j l e) (append-nil seen)) ∙ b))
first_after_is w seen (x ∷ before) later j e h b =
    subst (λ l. uncollected w (past_of w l) e.actor ≡ []) (append_assoc seen (x ∷ []) before)
    (first_after_is w (seen ++ x ∷ []) before later j e
    (both_right (collects_first w seen x) (collect_first_after w (seen ++ x ∷ []) (before ++ e ∷ later)) h)
    (ap (λ l. begins_posting j l e) (append_assoc seen (x ∷ []) before) ∙ b))

-- ---- who posts, and who collects

-- the post of a message was by the first worker, and so was the collect
posted_is : (actor n : ℕ) (h es : List Entry) → list_all (is_collected h) es ≡ true
    → list_any (posts_as actor n) es ≡ true → (actor ≡ first_worker) × (collectors n h ≡ first_worker ∷ [])
posted_is actor n h [] all post = absurd (false≢true post)
posted_is actor n h (e ∷ es) all post =
    ⊎_elim
    (λ (p : posts_as actor n e ≡ true).
    one e.actor e.act (both_left (is_collected h e) (list_all (is_collected h) es) all) p)
    (λ (p : list_any (posts_as actor n) es ≡ true).
    posted_is actor n h es (both_right (is_collected h e) (list_all (is_collected h) es) all) p)
    (or_cases (posts_as actor n e) (list_any (posts_as actor n) es) post)
  where
    one : (m : ℕ) (a : Act) → is_collected h (record { actor = m; act = a }) ≡ true
        → posts_as actor n (record { actor = m; act = a }) ≡ true
        → (actor ≡ first_worker) × (collectors n h ≡ first_worker ∷ [])
    one m (act.Post j i q (answer.Accepted k)) g is =
        let same : n ≡ k = eqb-true n k (both_right (nat_eq actor m) (nat_eq n k) is) in (
          eqb-true actor m (both_left (nat_eq actor m) (nat_eq n k) is)
              ∙ eqb-true m first_worker
              (both_left (nat_eq m first_worker) (is_alone first_worker (collectors k h)) g),
          ap (λ (x : ℕ). collectors x h) same
              ∙ alone_is first_worker (collectors k h)
              (both_right (nat_eq m first_worker) (is_alone first_worker (collectors k h)) g),
        )
    one m (act.Post j i q (answer.Refused why)) g is = absurd (false≢true is)
    one m a g is = absurd (false≢true is)

or_more : (x y z : Bool) → (x || y) ≡ true → (y ≡ true → z ≡ true) → (x || z) ≡ true
or_more true y z p g = refl
or_more false y z p g = g p

-- a post before the stop is a post
before_any : (f c : Entry → Bool) (h : List Entry) → list_any f (before_first c h) ≡ true → list_any f h ≡ true
before_any f c [] post = absurd (false≢true post)
before_any f c (e ∷ h) post = by (c e) refl (before_any f c h)
  where
    by : (b : Bool) → c e ≡ b → (list_any f (before_first c h) ≡ true → list_any f h ≡ true) → list_any f (e ∷ h) ≡ true
    by true q rest =
        absurd (false≢true (ap (λ b. list_any f (if b then [] else e ∷ before_first c h)) (sym q) ∙ post))
    by false q rest =
        or_more (f e) (list_any f (before_first c h)) (list_any f h)
        (ap (λ b. list_any f (if b then [] else e ∷ before_first c h)) (sym q) ∙ post) rest

filter_none : (f : ℕ → Bool) (ns : List ℕ) → ((n : ℕ) → f n ≡ false) → filter f ns ≡ []
filter_none f [] none = refl
filter_none f (n ∷ ns) none = ap (λ b. cond b (n ∷ filter f ns) (filter f ns)) (none n) ∙ filter_none f ns none

not_posted : (a b c : Bool) → a ≡ false → (a && b && not c) ≡ false
not_posted false b c e = refl
not_posted true b c e = absurd (true≢false e)

-- an actor that posted nothing left nothing
none_left : (w : Setting) (h : List Entry) (actor : ℕ) → ((n : ℕ) → list_any (posts_as actor n) h ≡ false)
    → uncollected w (past_of w h) actor ≡ []
none_left w h actor none =
    filter_none
    (λ n. some_entry (past_of w h) (posts_as actor n) && is_some (first (answers w (past_of w h) n)) && not (some_entry (past_of w h) (collects n)))
    (numbers_from 0 (length (past_of w h).messages))
    (λ n. not_posted (some_entry (past_of w h) (posts_as actor n)) (is_some (first (answers w (past_of w h) n)))
    (some_entry (past_of w h) (collects n)) (some_of w h (posts_as actor n) ∙ none n))

-- ---- all of it

-- what is computed to be collected is
pub collected_are : (w : Setting) (h : List Entry) → are_collected w h ≡ true → AreCollected w h
collected_are w h all = record {
  before_posting = λ j before later e is begins.
      first_after_is w [] before later j e
      (sym (ap (collect_first_after w []) is)
      ∙ both_left (collect_first_after w [] h) (is_empty (uncollected w (past_of w (before_stop h)) first_worker)) both)
      begins;
  before_stopping = λ actor. by actor (nat_eq actor first_worker) refl;
  once = λ actor n post.
      let it = posted_is actor n h h each post in it.1 ∙ ap (λ (a : ℕ). a ∷ []) (sym it.0);
}
  where
    both : (collect_first_after w [] h && is_empty (uncollected w (past_of w (before_stop h)) first_worker)) ≡ true
    both =
        both_left (collect_first_after w [] h && is_empty (uncollected w (past_of w (before_stop h)) first_worker))
        (list_all (is_collected h) h) all

    each : list_all (is_collected h) h ≡ true
    each =
        both_right (collect_first_after w [] h && is_empty (uncollected w (past_of w (before_stop h)) first_worker))
        (list_all (is_collected h) h) all

    other : (actor n : ℕ) → nat_eq actor first_worker ≡ false → (b : Bool)
        → list_any (posts_as actor n) (before_stop h) ≡ b → b ≡ false
    other actor n apart true e =
        absurd (true≢false (sym (number_itself first_worker)
        ∙ ap (λ (a : ℕ). nat_eq a first_worker) (sym (posted_is actor n h h each (before_any (posts_as actor n) stops h e)).0)
        ∙ apart))
    other actor n apart false e = refl

    by : (actor : ℕ) (b : Bool) → nat_eq actor first_worker ≡ b → uncollected w (past_of w (before_stop h)) actor ≡ []
    by actor true e =
        ap (λ (a : ℕ). uncollected w (past_of w (before_stop h)) a) (eqb-true actor first_worker e)
        ∙ empty_is (uncollected w (past_of w (before_stop h)) first_worker)
        (both_right (collect_first_after w [] h) (is_empty (uncollected w (past_of w (before_stop h)) first_worker)) both)
    by actor false e =
        none_left w (before_stop h) actor
        (λ n. other actor n e (list_any (posts_as actor n) (before_stop h)) refl)

-- ---- what no run is

module _ (w : Setting) (before later : List Entry) (e : Entry) where
  -- something was left to collect where a posting began
  pub posted_uncollected : (j : ℕ) → begins_posting j before e ≡ true
      → is_empty (uncollected w (past_of w before) e.actor) ≡ false → AreCollected w (before ++ e ∷ later) → ⊥
  posted_uncollected j begins some all =
      true≢false (sym (ap is_empty (all.before_posting j before later e refl begins)) ∙ some)

-- what was posted was not collected, or not once, or not by who posted it
pub not_collected_once : (w : Setting) (h : List Entry) (actor n : ℕ) → list_any (posts_as actor n) h ≡ true
    → is_alone actor (collectors n h) ≡ false → AreCollected w h → ⊥
not_collected_once w h actor n post apart all =
    true≢false (sym (ap (is_alone actor) (all.once actor n post) ∙ number_itself actor) ∙ apart)

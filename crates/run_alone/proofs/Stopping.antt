-- What one worker collected once its run was stopped: all that it posted, each answer once.
use Rattle.std.proofs.Common.{◌≡◌, ◌<◌, ◌≤◌, ℕ, zero, suc, Bool, true, false, not, ◌&&◌, ◌||◌, List, [], ◌∷◌, ◌++◌, map, length, None, Some, nat_eq, nat_le, nat_lt, cond, refl, sym, ap, subst, ◌∙◌, ⊎_elim, append_assoc, arith, true≢false, ltb-true}
use Rattle.std.specs.Prelude.{is_some, slice_get}
use Rattle.std.specs.List.{filter, list_all, list_any}
use Rattle.std.proofs.lemmas.Bool.{and_from, and_parts, eqb-true, false≢true, leb-true, or_cases, or_from, or_left, or_right}
use Rattle.std.proofs.lemmas.List.{append-nil}
use Rattle.std.proofs.lemmas.List.Folds.{list_any-append}
use Rattle.behaviour_tree.specs.declared.words.Outcome.{Outcome}
use Rattle.office_core.specs.declared.front.Posting.{Posting}
use Rattle.office_core.specs.declared.history.Act.{Act}
use Rattle.office_core.specs.declared.history.Act.TheVariants as act
use Rattle.office_core.specs.declared.history.Entry.{Entry}
use Rattle.office_core.specs.declared.post.PostReply.TheVariants as answer
use Rattle.office_core.specs.Keys.{first}
use Rattle.office_core.specs.Limits.{Setting, first_worker}
use Rattle.office_core.specs.Past.{Past, is_running, nothing_yet, some_entry}
use Rattle.office_core.specs.Accepted.{past_of, then_one}
use Rattle.office_core.specs.Answers.{answers}
use Rattle.office_core.specs.Legal.{AreLegal, IsLegal, IsLegalEntry, collects, is_allowed, is_collectable, is_from_port, posts_as}
use Rattle.run_theorem.specs.Exchange.{Exchange, Told}
use Rattle.run_order_laws.specs.Entries.{adds_none, is_by_first, is_other}
use Rattle.run_order_laws.proofs.Growing.{past_then}
use Rattle.run_order_laws.proofs.Staying.{answers_same_all}
use Rattle.run_quiet_laws.specs.Ends.{stop_entry}
use Rattle.run_quiet_laws.proofs.Begun.{well_by_others}
use Rattle.run_record.specs.Quiet.{before_stop, begins_posting}
use Rattle.run_record.specs.Run.{alone, is_hand, is_of_hand}
use Rattle.run_record.specs.Collected.{AreCollected, collectors, uncollected}
use Rattle.session_turn.proofs.Histories.{some_of}
use Rattle.run_posts.specs.CallStates.{Wait, messages_of}
use Rattle.run_posts.specs.Open.{places}
use Rattle.run_posts.proofs.Ending.{all_finished, other_all, settled_collected}
use Rattle.run_posts.proofs.Opening.{is_between}
use Rattle.run_alone.specs.Between.{AllWait, IsGathered}
use Rattle.run_alone.specs.Ran.{CollectedBefore}
use Rattle.run_alone.proofs.Collecting.{CollectedThere, ToldThere, none_uncollected, others_no_posts}
use Rattle.run_alone.proofs.Finishing.{CanEnd, after_stop, at_end, before_end, between_rest, gathered, more, more_is, open_stop, rest, rest_is, settled_waits, stop_gathers, stopped_end}
use Rattle.run_alone.proofs.Stepping.{all_append, all_weaker, between_other}
use Rattle.run_alone.proofs.Waiting.{finished_none, none_before, posted_before, wait_by_collects, wait_by_others}

-- ---- who posts

-- where the first worker alone posts, another posts nothing
only_first : (actor n : ℕ) (es : List Entry) → list_all is_by_first es ≡ true → list_any (posts_as actor n) es ≡ true
    → actor ≡ first_worker
only_first actor n [] by_first post = absurd (false≢true post)
only_first actor n (e ∷ es) by_first post =
    let both = and_parts (is_by_first e) (list_all is_by_first es) by_first in
    ⊎_elim
    (λ (p : posts_as actor n e ≡ true). one e.actor e.act both.0 p)
    (λ (p : list_any (posts_as actor n) es ≡ true). only_first actor n es both.1 p)
    (or_cases (posts_as actor n e) (list_any (posts_as actor n) es) post)
  where
    who : (m : ℕ) (b c : Bool) → nat_eq m first_worker ≡ true → b ≡ nat_eq actor m → (b && c) ≡ true → actor ≡ first_worker
    who m b c is e h = eqb-true actor m (sym e ∙ (and_parts b c h).0) ∙ eqb-true m first_worker is

    one : (m : ℕ) (a : Act) → is_by_first (record { actor = m; act = a }) ≡ true
        → posts_as actor n (record { actor = m; act = a }) ≡ true → actor ≡ first_worker
    one m (act.Post j i q (answer.Accepted k)) is h = who m (nat_eq actor m) (nat_eq n k) is refl h
    one m (act.Post j i q (answer.Refused why)) is h = absurd (false≢true h)
    one m a is h = absurd (false≢true h)

-- ---- an answer is collected once

-- Nobody collected the answer of message n, or the first worker did, once.
data Once (n : ℕ) (h : List Entry) : Type 0 where
  never : list_any (collects n) h ≡ false → collectors n h ≡ [] → Once n h
  here : list_any (collects n) h ≡ true → collectors n h ≡ first_worker ∷ [] → Once n h

collectors_append : (n : ℕ) (h k : List Entry) → collectors n (h ++ k) ≡ collectors n h ++ collectors n k
collectors_append n [] k = refl
collectors_append n (e ∷ h) k = by (collects n e) (collectors_append n h k)
  where
    by : (b : Bool) → collectors n (h ++ k) ≡ collectors n h ++ collectors n k
        → map (λ (x : Entry). x.actor) (cond b (e ∷ filter (collects n) (h ++ k)) (filter (collects n) (h ++ k)))
        ≡ map (λ (x : Entry). x.actor) (cond b (e ∷ filter (collects n) h) (filter (collects n) h)) ++ collectors n k
    by true r = ap (λ (l : List ℕ). e.actor ∷ l) r
    by false r = r

collectors_one : (n : ℕ) (e : Entry) (b : Bool) → collects n e ≡ b
    → collectors n (e ∷ []) ≡ map (λ (x : Entry). x.actor) (cond b (e ∷ []) [])
collectors_one n e b q = ap (λ (c : Bool). map (λ (x : Entry). x.actor) (cond c (e ∷ []) [])) q

-- a collect is of a worker, and of an answer that nobody collected
collect_allowed : (past : Past) (w : Setting) (n actor : ℕ) (a : Act) → collects n (record { actor = actor; act = a }) ≡ true
    → is_allowed w past actor a ≡ true
    → (nat_le first_worker actor ≡ true) × (some_entry past (collects n) ≡ false)
collect_allowed past w n actor (act.Collect m o) is allowed =
    let both = and_parts (nat_le first_worker actor) (is_collectable past actor m) allowed in
    let new = and_parts (not (some_entry past (collects m)))
    (elim (slice_get past.messages m) [ None ↦ false | Some k ↦ is_from_port k ])
    (and_parts
    (not (some_entry past (collects m)) && elim (slice_get past.messages m) [ None ↦ false | Some k ↦ is_from_port k ])
    (not (is_running past) || some_entry past (posts_as actor m)) both.1).0 in
    (both.0, ap (λ (k : ℕ). some_entry past (collects k)) (eqb-true n m is) ∙ not_so (some_entry past (collects m)) new.0)
  where
    not_so : (b : Bool) → not b ≡ true → b ≡ false
    not_so true h = absurd (false≢true h)
    not_so false h = refl
collect_allowed past w n actor a is allowed = absurd (false≢true is)

-- a worker of those who work alone is the first
the_worker : (actor : ℕ) → nat_le first_worker actor ≡ true → (nat_lt actor first_worker || is_hand alone actor) ≡ true
    → actor ≡ first_worker
the_worker actor worker hand =
    ⊎_elim
    (λ (p : nat_lt actor first_worker ≡ true).
    absurd (apart (ltb-true actor first_worker p) (leb-true first_worker actor worker)))
    (λ (p : is_hand alone actor ≡ true). eqb-true actor first_worker p)
    (or_cases (nat_lt actor first_worker) (is_hand alone actor) hand)
  where
    apart : actor < first_worker → first_worker ≤ actor → ⊥
    apart a b = omega (arith, a, b)

once_one : (w : Setting) (past : Past) (n : ℕ) (e : Entry) → IsLegalEntry w past e → is_of_hand alone e ≡ true
    → Once n past.entries → Once n (past.entries ++ e ∷ [])
once_one w past n e legal hand was = by (collects n e) refl was
  where
    any_one : (b : Bool) → collects n e ≡ b → list_any (collects n) (past.entries ++ e ∷ []) ≡ (list_any (collects n) past.entries || (b || false))
    any_one b q =
        list_any-append (collects n) past.entries (e ∷ [])
        ∙ ap (λ (c : Bool). list_any (collects n) past.entries || (c || false)) q

    who_one : (b : Bool) → collects n e ≡ b
        → collectors n (past.entries ++ e ∷ []) ≡ collectors n past.entries ++ map (λ (x : Entry). x.actor) (cond b (e ∷ []) [])
    who_one b q =
        collectors_append n past.entries (e ∷ [])
        ∙ ap (λ (l : List ℕ). collectors n past.entries ++ l) (collectors_one n e b q)

    by : (b : Bool) → collects n e ≡ b → Once n past.entries → Once n (past.entries ++ e ∷ [])
    by false q (never none nobody) =
        never (any_one false q ∙ ap (λ (c : Bool). c || (false || false)) none)
        (who_one false q ∙ ap (λ (l : List ℕ). l ++ []) nobody)
    by false q (here some one) =
        here (any_one false q ∙ or_left (list_any (collects n) past.entries) (false || false) some)
        (who_one false q ∙ ap (λ (l : List ℕ). l ++ []) one)
    by true q (never none nobody) =
        let may = collect_allowed past w n e.actor e.act q legal.allowed in
        here (any_one true q ∙ or_right (list_any (collects n) past.entries) (true || false) refl)
        (who_one true q ∙ ap (λ (l : List ℕ). l ++ e.actor ∷ []) nobody
        ∙ ap (λ (actor : ℕ). actor ∷ []) (the_worker e.actor may.0 hand))
    by true q (here some one) =
        absurd (true≢false (sym some ∙ (collect_allowed past w n e.actor e.act q legal.allowed).1))

once_all : (w : Setting) (past : Past) (n : ℕ) (es : List Entry) → AreLegal w past es → list_all (is_of_hand alone) es ≡ true
    → Once n past.entries → Once n (past.entries ++ es)
once_all w past n [] legal hands was = subst (Once n) (sym (append-nil past.entries)) was
once_all w past n (e ∷ es) legal hands was =
    let both = and_parts (is_of_hand alone e) (list_all (is_of_hand alone) es) hands in
    subst (Once n) (append_assoc past.entries (e ∷ []) es)
    (once_all w (then_one w past e) n es legal.1 both.1 (once_one w past n e legal.0 both.0 was))

-- whose answer was collected, the first worker collected it, and once
once_in : (w : Setting) (n : ℕ) (h : List Entry) → IsLegal w h → list_all (is_of_hand alone) h ≡ true
    → list_any (collects n) h ≡ true → collectors n h ≡ first_worker ∷ []
once_in w n h legal hands some = by (once_all w nothing_yet n h legal hands (never refl refl))
  where
    by : Once n h → collectors n h ≡ first_worker ∷ []
    by (never none nobody) = absurd (true≢false (sym some ∙ none))
    by (here there one) = one

-- ---- the end

module _ (w : Setting) (h : List Entry) (all : List Posting) (xs : List Wait) (swept adoptions closing : List Entry)
    (ts : List Told) (can : CanEnd w h all xs swept adoptions closing ts) (g : IsGathered w h xs) where
  -- all that comes up to the stop
  abbrev until_stop : List Entry
  until_stop = swept ++ (adoptions ++ closing)

  until_is : h ++ until_stop ≡ before_end w h all xs swept adoptions closing ++ closing
  until_is =
      sym (append_assoc h swept (adoptions ++ closing))
      ∙ sym (append_assoc (h ++ swept) adoptions closing)

  other_between : (es : List Entry) → list_all is_between es ≡ true → list_all is_other es ≡ true
  other_between es between = all_weaker is_between is_other between_other es between

  other_until : list_all is_other until_stop ≡ true
  other_until =
      other_between until_stop
      (all_append is_between swept (adoptions ++ closing) can.between
      (all_append is_between adoptions closing can.adopted can.ends))

  other_more : list_all is_other (more w h all xs swept adoptions closing ts can) ≡ true
  other_more =
      all_append is_other swept ((adoptions ++ closing) ++ stop_entry ∷ gathered w h all xs swept adoptions closing)
      (other_between swept can.between)
      (all_append is_other (adoptions ++ closing) (stop_entry ∷ gathered w h all xs swept adoptions closing)
      (all_append is_other adoptions closing (other_between adoptions can.adopted) (other_between closing can.ends))
      (and_from (is_other stop_entry) (list_all is_other (gathered w h all xs swept adoptions closing)) refl
      (other_all w (past_of w (after_stop w h all xs swept adoptions closing)) xs)))

  -- where a posting begins it is so at the end
  pub well_end : (P : ℕ → List Entry → Entry → Type 0)
      → ((j : ℕ) (before later : List Entry) (e : Entry) → h ≡ before ++ e ∷ later → begins_posting j before e ≡ true → P j before e)
      → (j : ℕ) (before later : List Entry) (e : Entry) → at_end w h all xs swept adoptions closing ≡ before ++ e ∷ later
      → begins_posting j before e ≡ true → P j before e
  well_end P well =
      subst
      (λ (l : List Entry). (j : ℕ) (before later : List Entry) (e : Entry) → l ≡ before ++ e ∷ later
      → begins_posting j before e ≡ true → P j before e)
      (more_is w h all xs swept adoptions closing ts can)
      (well_by_others P h (more w h all xs swept adoptions closing ts can)
      (others_no_posts (more w h all xs swept adoptions closing ts can) other_more) well)

  -- who posted what
  posted_in : (actor n : ℕ) → list_any (posts_as actor n) (at_end w h all xs swept adoptions closing) ≡ true
      → list_any (posts_as actor n) h ≡ true
  posted_in actor n post =
      posted_before actor n h (more w h all xs swept adoptions closing ts can) other_more
      (ap (list_any (posts_as actor n)) (more_is w h all xs swept adoptions closing ts can) ∙ post)

  -- ---- before the stop

  -- without a posting nothing waits
  none_waits : (ys : List Wait) → list_all (λ n. nat_lt n 0) (places ys) ≡ true → messages_of ys ≡ []
  none_waits [] low = refl
  none_waits (y ∷ ys) low =
      absurd (nothing_below (ltb-true y.place 0 (and_parts (nat_lt y.place 0) (list_all (λ n. nat_lt n 0) (places ys)) low).0))
    where
      nothing_below : y.place < 0 → ⊥
      nothing_below less = omega (arith, less)

  same_answers : 0 < length all → (n : ℕ)
      → answers w (past_of w (h ++ until_stop)) n ≡ answers w (past_of w h) n
  same_answers some n =
      ap (λ (p : Past). answers w p n) (past_then w h until_stop)
      ∙ answers_same_all w (past_of w h) until_stop
      (subst (λ (l : List Entry). list_all adds_none (l ++ (adoptions ++ closing)) ≡ true) (sym (can.unfailed some))
      (all_append adds_none adoptions closing can.adopts can.ends_none)) n

  -- what is answered was collected
  collected_until : (n : ℕ) → list_any (posts_as first_worker n) (h ++ until_stop) ≡ true
      → is_some (first (answers w (past_of w (h ++ until_stop)) n)) ≡ true
      → list_any (collects n) (h ++ until_stop) ≡ true
  collected_until n post answered = by (list_any (collects n) (h ++ until_stop)) refl
    where
      waits : list_any (collects n) (h ++ until_stop) ≡ false → list_any (nat_eq n) (messages_of xs) ≡ true
      waits e =
          g.waiting n (posted_before first_worker n h until_stop other_until post)
          (none_before (collects n) h until_stop e).0

      some_below : (m : ℕ) → length all ≡ suc m → 0 < length all
      some_below m q = omega (arith, q)

      never : (m : ℕ) → length all ≡ m → list_any (nat_eq n) (messages_of xs) ≡ true → ⊥
      never zero q there =
          true≢false (sym there
          ∙ ap (list_any (nat_eq n))
          (none_waits xs (subst (λ (m : ℕ). list_all (λ k. nat_lt k m) (places xs) ≡ true) q can.opens.low)))
      never (suc m) q there =
          true≢false (sym answered
          ∙ ap (λ (os : List Outcome). is_some (first os)) (same_answers (some_below m q) n)
          ∙ ap is_some (g.unanswered n there))

      by : (b : Bool) → list_any (collects n) (h ++ until_stop) ≡ b → b ≡ true
      by true e = refl
      by false e = absurd (never (length all) refl (waits e))

  none_until : (actor : ℕ) → uncollected w (past_of w (h ++ until_stop)) actor ≡ []
  none_until actor =
      none_uncollected w (past_of w (h ++ until_stop)) actor
      (λ n post answered.
      let posted : list_any (posts_as actor n) (h ++ until_stop) ≡ true
      = sym (some_of w (h ++ until_stop) (posts_as actor n)) ∙ post in
      let first_posts : actor ≡ first_worker
      = only_first actor n h can.opens.posted.posters (posted_before actor n h until_stop other_until posted) in
      some_of w (h ++ until_stop) (collects n)
      ∙ collected_until n
      (subst (λ (a : ℕ). list_any (posts_as a n) (h ++ until_stop) ≡ true) first_posts posted) answered)

  -- ---- behind it

  all_wait : AllWait (at_end w h all xs swept adoptions closing) (settled_waits w h all xs swept adoptions closing)
  all_wait =
      subst (λ (l : List Entry). AllWait l (settled_waits w h all xs swept adoptions closing))
      (stop_gathers w h all xs swept adoptions closing ts can)
      (wait_by_collects w (after_stop w h all xs swept adoptions closing) xs
      (subst (λ (l : List Entry). AllWait l xs) (rest_is w h all xs swept adoptions closing ts can)
      (wait_by_others h (rest w h all xs swept adoptions closing ts can) xs
      (other_between (rest w h all xs swept adoptions closing ts can) (between_rest w h all xs swept adoptions closing ts can))
      g.waiting)))

  nothing_waits : messages_of (settled_waits w h all xs swept adoptions closing) ≡ []
  nothing_waits =
      finished_none (settled_waits w h all xs swept adoptions closing)
      (all_finished w (after_stop w h all xs swept adoptions closing ++ gathered w h all xs swept adoptions closing)
      (settled_waits w h all xs swept adoptions closing)
      (subst (IsLegal w) (sym (stop_gathers w h all xs swept adoptions closing ts can)) can.legal)
      (stopped_end w h all xs swept adoptions closing ts can)
      (settled_collected w (after_stop w h all xs swept adoptions closing) all ts xs
      (open_stop w h all xs swept adoptions closing ts can)))

  collected_at_end : (n : ℕ) → list_any (posts_as first_worker n) (at_end w h all xs swept adoptions closing) ≡ true
      → list_any (collects n) (at_end w h all xs swept adoptions closing) ≡ true
  collected_at_end n post = by (list_any (collects n) (at_end w h all xs swept adoptions closing)) refl
    where
      by : (b : Bool) → list_any (collects n) (at_end w h all xs swept adoptions closing) ≡ b → b ≡ true
      by true e = refl
      by false e =
          absurd (true≢false (sym (all_wait n post e) ∙ ap (list_any (nat_eq n)) nothing_waits))

  -- so all that was posted was collected
  pub collected_end : before_stop (at_end w h all xs swept adoptions closing)
      ≡ before_end w h all xs swept adoptions closing ++ closing
      → list_all (is_of_hand alone) (at_end w h all xs swept adoptions closing) ≡ true
      → AreCollected w (at_end w h all xs swept adoptions closing)
  collected_end cut hands = record {
    before_posting = well_end (CollectedThere w) g.begun;
    before_stopping = λ actor.
        ap (λ (l : List Entry). uncollected w (past_of w l) actor) (cut ∙ sym until_is) ∙ none_until actor;
    once = λ actor n post.
        let one : actor ≡ first_worker = only_first actor n h can.opens.posted.posters (posted_in actor n post) in
        once_in w n (at_end w h all xs swept adoptions closing) can.legal hands
        (collected_at_end n
        (subst (λ (a : ℕ). list_any (posts_as a n) (at_end w h all xs swept adoptions closing) ≡ true) one post))
        ∙ ap (λ (a : ℕ). a ∷ []) (sym one);
  }

  -- and what had been told before
  pub told_before_end : (d : Exchange) → CollectedBefore w h d
      → CollectedBefore w (at_end w h all xs swept adoptions closing) d
  told_before_end d before = well_end (ToldThere w d) before

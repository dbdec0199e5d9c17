-- One posting is posted, swept and told: what is open then, and in which order postings were told.
use Rattle.std.proofs.Common.{◌≡◌, ◌<◌, ◌≤◌, ℕ, suc, Bool, true, false, ◌&&◌, List, [], ◌∷◌, ◌++◌, map, length, take, Option, None, Some, nat_eq, nat_le, refl, sym, ap, subst, ◌∙◌, append_assoc, append-nil, le_refl}
use Rattle.std.specs.List.{filter, list_all}
use Rattle.std.proofs.lemmas.Bool.{and_from, and_parts, eq-eqb, false≢true, le-leb, or_left}
use Rattle.behaviour_tree.specs.declared.words.Outcome.{Outcome}
use Rattle.office_core.specs.declared.front.Posting.{Posting}
use Rattle.office_core.specs.declared.history.Act.{Act}
use Rattle.office_core.specs.declared.history.Act.TheVariants as act
use Rattle.office_core.specs.declared.history.Entry.{Entry}
use Rattle.office_core.specs.Keys.{first}
use Rattle.office_core.specs.Limits.{Setting, first_worker}
use Rattle.office_core.specs.Past.{Past, some_entry, stops}
use Rattle.office_core.specs.Accepted.{past_of}
use Rattle.office_core.specs.Answers.{answers}
use Rattle.office_core.specs.Legal.{IsLegal}
use Rattle.run_theorem.specs.Exchange.{Told}
use Rattle.run_order_laws.specs.Entries.{adds_none, cuts, is_other, posts_over, posts_under}
use Rattle.run_order_laws.specs.Ordering.{Grows}
use Rattle.run_order_laws.proofs.Growing.{legal_front}
use Rattle.run_order_laws.proofs.Ordering.{before_goes_on, unfailed_at_post, unfailed_behind}
use Rattle.run_record.specs.Order.{before_first}
use Rattle.run_posts.specs.declared.pending.CallState.{CallState}
use Rattle.run_posts.specs.declared.pending.CallState.TheVariants.{Message, Known}
use Rattle.run_posts.specs.CallStates.{Wait, all_collected, collected, collected_in, collection, is_finished, is_open, posted_entries, settled_in, told_of}
use Rattle.run_posts.proofs.Settling.{none_of_all}
use Rattle.run_posts.proofs.Ending.{AreSettled, StandsInOrder, open_collected, open_told, other_all, settled_collected, stands_next}
use Rattle.run_posts.proofs.Opening.{IsOpen, all_posts_of, is_between, next_wait, open_between, open_posts, places, told_places}
use Rattle.run_theorem.specs.Lines.{finished_before}
use Rattle.run_alone.proofs.Earlier.{first_told}

-- ---- entries

pub all_append : (f : Entry → Bool) (xs ys : List Entry) → list_all f xs ≡ true → list_all f ys ≡ true
    → list_all f (xs ++ ys) ≡ true
all_append f [] ys p q = q
all_append f (x ∷ xs) ys p q =
    let both = and_parts (f x) (list_all f xs) p in
    and_from (f x) (list_all f (xs ++ ys)) both.0 (all_append f xs ys both.1 q)

pub all_weaker : (f g : Entry → Bool) → ((e : Entry) → f e ≡ true → g e ≡ true) → (es : List Entry) → list_all f es ≡ true
    → list_all g es ≡ true
all_weaker f g each [] h = refl
all_weaker f g each (e ∷ es) h =
    let both = and_parts (f e) (list_all f es) h in
    and_from (g e) (list_all g es) (each e both.0) (all_weaker f g each es both.1)

-- an entry that is no post is of no posting below a number
pub other_over : (count : ℕ) (e : Entry) → is_other e ≡ true → posts_over count e ≡ true
other_over count e h = go e.actor e.act h
  where
    go : (n : ℕ) (a : Act) → is_other (record { actor = n; act = a }) ≡ true
        → posts_over count (record { actor = n; act = a }) ≡ true
    go n (act.Post j i q r) g = absurd (false≢true g)
    go n a g = refl

pub between_other : (e : Entry) → is_between e ≡ true → is_other e ≡ true
between_other e h = (and_parts (is_other e) _ h).0

-- where posts come, nothing is answered before the first of them; else nothing before what follows
unfailed_posted : (count : ℕ) (es more : List Entry) → list_all (cuts count) es ≡ true
    → (es ≡ [] → list_all adds_none (before_first (cuts count) more) ≡ true)
    → list_all adds_none (before_first (cuts count) (es ++ more)) ≡ true
unfailed_posted count [] more h f = f refl
unfailed_posted count (e ∷ es) more h f =
    unfailed_at_post count e (es ++ more) (and_parts (cuts count e) (list_all (cuts count) es) h).0

pub unfailed_none : (count : ℕ) (es : List Entry) → list_all adds_none es ≡ true
    → list_all adds_none (before_first (cuts count) es) ≡ true
unfailed_none count es h =
    subst (λ (l : List Entry). list_all adds_none (before_first (cuts count) l) ≡ true) (append-nil es)
    (unfailed_behind count es [] h refl)

-- ---- what is collected

collection_all : (f : Entry → Bool) → ((m : ℕ) (o : Outcome) → f (record { actor = first_worker; act = act.Collect m o }) ≡ true)
    → (m : ℕ) (o : Option Outcome) → list_all f (collection m o) ≡ true
collection_all f each m None = refl
collection_all f each m (Some o) =
    and_from (f (record { actor = first_worker; act = act.Collect m o })) true (each m o) refl

collected_one : (f : Entry → Bool) → ((m : ℕ) (o : Outcome) → f (record { actor = first_worker; act = act.Collect m o }) ≡ true)
    → (v : Setting) (past : Past) (x : CallState) → list_all f (collected v past x) ≡ true
collected_one f each v past (Message m) = collection_all f each m (first (answers v past m))
collected_one f each v past (Known o) = refl

collected_call_states : (f : Entry → Bool) → ((m : ℕ) (o : Outcome) → f (record { actor = first_worker; act = act.Collect m o }) ≡ true)
    → (v : Setting) (past : Past) (xs : List CallState) → list_all f (collected_in v past xs) ≡ true
collected_call_states f each v past [] = refl
collected_call_states f each v past (x ∷ xs) =
    all_append f (collected v past x) (collected_in v past xs) (collected_one f each v past x)
    (collected_call_states f each v past xs)

-- what holds of each collection of the first worker
pub collected_all : (f : Entry → Bool) → ((m : ℕ) (o : Outcome) → f (record { actor = first_worker; act = act.Collect m o }) ≡ true)
    → (v : Setting) (past : Past) (xs : List Wait) → list_all f (all_collected v past xs) ≡ true
collected_all f each v past [] = refl
collected_all f each v past (x ∷ xs) =
    all_append f (collected_in v past x.call_states) (all_collected v past xs) (collected_call_states f each v past x.call_states)
    (collected_all f each v past xs)

-- ---- places

pub places_settled : (w : Setting) (h : List Entry) (xs : List Wait) → places (map (settled_in w (past_of w h)) xs) ≡ places xs
places_settled w h [] = refl
places_settled w h (x ∷ xs) = ap (λ (l : List ℕ). x.place ∷ l) (places_settled w h xs)

places_append : (xs : List Wait) (x : Wait) → places (xs ++ x ∷ []) ≡ places xs ++ x.place ∷ []
places_append [] x = refl
places_append (y ∷ xs) x = ap (λ (l : List ℕ). y.place ∷ l) (places_append xs x)

pub longer : (all : List Posting) (p : Posting) → length (all ++ p ∷ []) ≡ suc (length all)
longer [] p = refl
longer (x ∷ all) p = ap suc (longer all p)

-- ---- a step

-- What a run does for a posting: its calls are posted, what can be done is done, and the answers that are there are
-- collected.
module _ (w : Setting) (h : List Entry) (all : List Posting) (xs : List Wait) (p : Posting) (swept : List Entry) where
  abbrev pub posted : List Entry
  posted = posted_entries w (past_of w h) (length all, 0) p.calls

  abbrev pub after_sweep : List Entry
  after_sweep = (h ++ posted) ++ swept

  -- the postings that wait, with the new one
  abbrev pub waiting : List Wait
  waiting = xs ++ next_wait w (past_of w h) (length all) p ∷ []

  abbrev pub gathered : List Entry
  gathered = all_collected w (past_of w after_sweep) waiting

  -- the same once answers were collected
  abbrev pub settled_waits : List Wait
  settled_waits = map (settled_in w (past_of w after_sweep)) waiting

  abbrev pub after_step : List Entry
  after_step = after_sweep ++ gathered

  -- What it needs.
  pub record CanStep (ts : List Told) : Type 0 where
    pub legal : IsLegal w after_step
    pub running : some_entry (past_of w h) stops ≡ false
    pub running_then : some_entry (past_of w after_step) stops ≡ false
    pub between : list_all is_between swept ≡ true
    pub unfailed : 0 < length all → posted ≡ [] → swept ≡ []
    pub opens : IsOpen w h all ts xs
    pub order : StandsInOrder w h (length all) ts xs

  module _ (ts : List Told) (can : CanStep ts) where
    open_swept : IsOpen w after_sweep (all ++ p ∷ []) ts waiting
    open_swept =
        open_between w (h ++ posted) swept (all ++ p ∷ []) ts waiting (legal_front w after_sweep gathered can.legal) can.between
        (open_posts w h all ts xs p (legal_front w (h ++ posted) swept (legal_front w after_sweep gathered can.legal)) can.opens)

    -- what is told
    abbrev pub sent_now : List Told
    sent_now = ts ++ map told_of (filter is_finished settled_waits)

    pub open_gathered : IsOpen w after_step (all ++ p ∷ []) ts settled_waits
    open_gathered = open_collected w after_sweep (all ++ p ∷ []) ts waiting can.legal open_swept

    -- what is open then
    pub open_step : IsOpen w after_step (all ++ p ∷ []) sent_now (filter is_open settled_waits)
    open_step = open_told w after_step (all ++ p ∷ []) ts settled_waits open_gathered

    -- the history in one
    pub in_one : h ++ (posted ++ (swept ++ gathered)) ≡ after_step
    in_one = sym (append_assoc h posted (swept ++ gathered)) ∙ sym (append_assoc (h ++ posted) swept gathered)

    number_same : nat_eq first_worker first_worker ≡ true
    number_same = eq-eqb first_worker first_worker refl

    none_below : nat_le (length all) (length all) ≡ true
    none_below = le-leb (length all) (length all) (le_refl (length all))

    posts_cut : list_all (cuts (length all)) posted ≡ true
    posts_cut =
        all_posts_of w (past_of w h) (length all, 0) p.calls (cuts (length all))
        (λ i q r. or_left (nat_eq first_worker first_worker && nat_le (length all) (length all)) false
        (and_from (nat_eq first_worker first_worker) (nat_le (length all) (length all)) number_same none_below))

    grows : Grows w h (posted ++ (swept ++ gathered)) (length all)
    grows = record {
      legal = subst (IsLegal w) (sym in_one) can.legal;
      running = can.running;
      under = can.opens.posted.under;
      over =
          all_append (posts_over (length all)) posted (swept ++ gathered)
          (all_posts_of w (past_of w h) (length all, 0) p.calls (posts_over (length all)) (λ i q r. none_below))
          (all_append (posts_over (length all)) swept gathered
          (all_weaker is_between (posts_over (length all)) (λ e g. other_over (length all) e (between_other e g)) swept can.between)
          (all_weaker is_other (posts_over (length all)) (other_over (length all)) gathered
          (other_all w (past_of w after_sweep) waiting)));
      unfailed = λ some.
          unfailed_posted (length all) posted (swept ++ gathered) posts_cut
          (λ none.
          subst (λ (l : List Entry). list_all adds_none (before_first (cuts (length all)) (l ++ gathered)) ≡ true)
          (sym (can.unfailed some none))
          (unfailed_none (length all) gathered (none_of_all w (past_of w after_sweep) waiting)));
    }

    -- each posting is finished exactly where its answers are there
    pub settled_step : AreSettled w (past_of w after_step) settled_waits
    settled_step = settled_collected w after_sweep (all ++ p ∷ []) ts waiting open_swept

    -- what comes is of this posting or a later one
    pub over_step : list_all (posts_over (length all)) (posted ++ (swept ++ gathered)) ≡ true
    over_step = grows.over

    -- and in which order they were told
    pub order_step : StandsInOrder w after_step (suc (length all)) sent_now (filter is_open settled_waits)
    order_step =
        subst (λ (l : List Entry). StandsInOrder w l (suc (length all)) sent_now (filter is_open settled_waits)) in_one
        (stands_next w h (posted ++ (swept ++ gathered)) (length all) ts xs settled_waits grows
        (subst (λ (l : List Entry). list_all (posts_under (suc (length all))) l ≡ true) (sym in_one)
        (subst (λ n. list_all (posts_under n) after_step ≡ true) (longer all p) open_gathered.posted.under))
        (subst (λ (l : List Entry). some_entry (past_of w l) stops ≡ false) (sym in_one) can.running_then)
        (places_settled w after_sweep waiting ∙ places_append xs (next_wait w (past_of w h) (length all) p))
        (subst (λ (l : List Entry). AreSettled w (past_of w l) settled_waits) (sym in_one)
        (settled_collected w after_sweep (all ++ p ∷ []) ts waiting open_swept))
        can.order)

    -- what had been told when an earlier posting was asked for are those that are finished before that one, still
    pub earlier_step : (j k : ℕ) → j ≤ length all → k ≤ length ts → told_places (take k ts) ≡ finished_before w h (length all) j
        → told_places (take k sent_now) ≡ finished_before w after_step (suc (length all)) j
    earlier_step j k most within are =
        first_told k ts (map told_of (filter is_finished settled_waits)) within
        ∙ are
        ∙ sym (before_goes_on w h (posted ++ (swept ++ gathered)) (length all) j grows most)
        ∙ ap (λ (l : List Entry). finished_before w l (suc (length all)) j) in_one

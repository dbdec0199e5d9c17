-- Answers are collected and postings are told: what is open then, and in which order they were told.
use Rattle.std.proofs.Common.{◌≡◌, ◌<◌, ℕ, zero, suc, Bool, true, false, not, ◌&&◌, ◌||◌, List, [], ◌∷◌}
use Rattle.std.proofs.Common.{◌++◌, map, length, cond, refl, sym, ap, subst, ◌∙◌, Option, None, Some}
use Rattle.std.proofs.Common.{arith}
use Rattle.std.specs.Prelude.{flat_map}
use Rattle.std.specs.Prelude.{nat_eq, nat_lt, is_some, slice_get, get_or, Contains}
use Rattle.std.specs.List.{list_all, list_any, filter}
use Rattle.behaviour_tree.specs.declared.words.Outcome.{Outcome}
use Rattle.office_core.specs.declared.front.Posting.{Posting}
use Rattle.office_core.specs.declared.history.Entry.{Entry}
use Rattle.office_core.specs.declared.message.Message.{Message as Sent}
use Rattle.office_core.specs.Limits.{Setting, first_worker}
use Rattle.office_core.specs.Past.{Past, some_entry, stops}
use Rattle.office_core.specs.Keys.{first}
use Rattle.office_core.specs.Accepted.{then_all, past_of}
use Rattle.office_core.specs.Answers.{answers}
use Rattle.office_core.specs.Legal.{AreLegal, IsLegal}
use Rattle.run_theorem.specs.Exchange.{Told, Exchange}
use Rattle.run_theorem.specs.Calls.{Fit}
use Rattle.run_record.specs.Order.{messages_for, finished_there, numbers_from, order_alone}
use Rattle.run_record.specs.Postings.{outcomes_from}
use Rattle.office_core.specs.Keys.{all_there}
use Rattle.office_core.proofs.OneAnswer.{answers_once}
use Rattle.run_order_laws.specs.Uncollected.{AreUncollected}
use Rattle.run_order_laws.proofs.Lists.{left_true, right_true, both_true, false_left, false_right, turned, append_nil}
use Rattle.run_order_laws.proofs.Lists.{append_assoc, any_append, all_weaker, there}
use Rattle.run_order_laws.proofs.Growing.{past_then, legal_rest}
use Rattle.run_order_laws.proofs.Staying.{answers_same_all}
use Rattle.run_order_laws.proofs.Posting.{is_other, posts_under, posted_others}
use Rattle.run_order_laws.proofs.Accepting.{posted_there}
use Rattle.run_order_laws.proofs.Ordering.{Grows, InOrder, is_answered, order_goes_on, order_early, order_ends}
use Rattle.run_posts.specs.declared.pending.CallState.{CallState}
pub use Rattle.run_posts.specs.Open.{StandsInOrder}
use Rattle.run_posts.specs.CallStates.{Wait, messages_in, messages_of, collection, collected, collected_in, all_collected}
use Rattle.run_posts.specs.CallStates.{settled, settled_in, is_finished, is_open, outcomes_in, told_of}
use Rattle.run_posts.specs.declared.pending.CallState.TheVariants.{Message, Known}
use Rattle.run_posts.specs.Telling.{AreExpected}
use Rattle.run_posts.proofs.Settling.{collect_waits, none_of_all}
use Rattle.run_posts.proofs.CallStates.{calls_of, call_states_stay, call_states_settle, all_known}
use Rattle.run_posts.proofs.CallStates.{all_outcomes, all_fit}
use Rattle.run_posts.proofs.Opening.{AreWaiting, IsTold, AreTold, AreApart, places, told_places, IsOpen}
use Rattle.run_posts.proofs.Opening.{others_same, told_then}

-- ---- what is added when answers are collected

other_collection : (n : ℕ) (o : Option Outcome) → list_all is_other (collection n o) ≡ true
other_collection n None = refl
other_collection n (Some o) = refl

other_collected : (w : Setting) (past : Past) (f : CallState) → list_all is_other (collected w past f) ≡ true
other_collected w past (Message n) = other_collection n (first (answers w past n))
other_collected w past (Known o) = refl

all_append : (p : Entry → Bool) (xs ys : List Entry) → list_all p xs ≡ true → list_all p ys ≡ true
    → list_all p (xs ++ ys) ≡ true
all_append p [] ys h g = g
all_append p (x ∷ xs) ys h g =
    both_true (p x) (list_all p (xs ++ ys)) (left_true (p x) (list_all p xs) h)
    (all_append p xs ys (right_true (p x) (list_all p xs) h) g)

other_in : (w : Setting) (past : Past) (fs : List CallState) → list_all is_other (collected_in w past fs) ≡ true
other_in w past [] = refl
other_in w past (f ∷ fs) =
    all_append is_other (collected w past f) (collected_in w past fs) (other_collected w past f) (other_in w past fs)

-- none of it is a post
pub other_all : (w : Setting) (past : Past) (xs : List Wait) → list_all is_other (all_collected w past xs) ≡ true
other_all w past [] = refl
other_all w past (x ∷ xs) =
    all_append is_other (collected_in w past x.call_states) (all_collected w past xs) (other_in w past x.call_states)
    (other_all w past xs)

places_settled : (w : Setting) (past : Past) (xs : List Wait) → places (map (settled_in w past) xs) ≡ places xs
places_settled w past [] = refl
places_settled w past (x ∷ xs) = ap (λ l. x.place ∷ l) (places_settled w past xs)

waiting_settled : (w : Setting) (past : Past) (es : List Entry) (all : List Posting) (xs : List Wait)
    → AreLegal w past es
    → list_all is_other es ≡ true → AreWaiting w past all xs
    → AreWaiting w (then_all w past es) all (map (settled_in w past) xs)
waiting_settled w past es all [] legal other h = tt
waiting_settled w past es all (x ∷ xs) legal other h = (
  record {
    posting = h.0.posting;
    given = h.0.given;
    calls = h.0.calls;
    are = h.0.are;
    call_states =
        call_states_stay w (x.place, 0) h.0.calls (map (settled w past) x.call_states) past es legal
        (call_states_settle w past (x.place, 0) h.0.calls x.call_states h.0.call_states);
    messages = others_same w past es other x.place ∙ h.0.messages;
  },
  waiting_settled w past es all xs legal other h.1,
)

-- once their answers are collected, what is open is it still
pub open_collected : (w : Setting) (h : List Entry) (all : List Posting) (ts : List Told) (xs : List Wait)
    → IsLegal w (h ++ all_collected w (past_of w h) xs) → IsOpen w h all ts xs
    → IsOpen w (h ++ all_collected w (past_of w h) xs) all ts (map (settled_in w (past_of w h)) xs)
open_collected w h all ts xs legal o = record {
  posted = posted_others h es all (other_all w (past_of w h) xs) o.posted;
  waiting =
      subst (λ p. AreWaiting w p all (map (settled_in w (past_of w h)) xs)) (sym (past_then w h es))
      (waiting_settled w (past_of w h) es all xs (legal_rest w h es legal) (other_all w (past_of w h) xs) o.waiting);
  uncollected =
      subst (λ p. AreUncollected p (messages_of (map (settled_in w (past_of w h)) xs))) (sym (past_then w h es))
      (collect_waits w (past_of w h) (past_of w h) [] xs o.uncollected);
  told = subst (λ l. AreTold w (past_of w (h ++ es)) l ts) (append_nil all) (told_then w h es all [] ts legal o.told);
  apart = subst (λ l. AreApart l (told_places ts)) (sym (places_settled w (past_of w h) xs)) o.apart;
  low = ap (list_all (λ n. nat_lt n (length all))) (places_settled w (past_of w h) xs) ∙ o.low;
  low_told = o.low_told;
}
  where
    es : List Entry
    es = all_collected w (past_of w h) xs

-- ---- what is finished

-- each of these postings is finished exactly where each of its messages has an answer
abbrev pub AreSettled : Setting → Past → List Wait → Type 0
AreSettled w past [] = Unit {0}
AreSettled w past (x ∷ xs) = (is_finished x ≡ is_answered w past x.place) × AreSettled w past xs

list_same : (f g : ℕ → Bool) → ((n : ℕ) → f n ≡ g n) → (ns : List ℕ) → list_all f ns ≡ list_all g ns
list_same f g same [] = refl
list_same f g same (n ∷ ns) = λ i. same n i && list_same f g same ns i

settled_then : (w : Setting) (past : Past) (es : List Entry) (all : List Posting) (xs : List Wait)
    → ((n : ℕ) → answers w (then_all w past es) n ≡ answers w past n) → list_all is_other es ≡ true
    → AreWaiting w past all xs → AreSettled w (then_all w past es) (map (settled_in w past) xs)
settled_then w past es all [] same other h = tt
settled_then w past es all (x ∷ xs) same other h = (
  all_known w past (x.place, 0) h.0.calls x.call_states h.0.call_states
      ∙ ap (list_all (λ n. is_some (first (answers w past n)))) (sym h.0.messages)
      ∙ list_same (λ n. is_some (first (answers w past n))) (λ n. is_some (first (answers w (then_all w past es) n)))
      (λ n. ap (λ os. is_some (first os)) (sym (same n))) (messages_for past first_worker x.place)
      ∙ ap (list_all (λ n. is_some (first (answers w (then_all w past es) n))))
      (sym (others_same w past es other x.place)),
  settled_then w past es all xs same other h.1,
)

-- so it is once answers are collected
pub settled_collected : (w : Setting) (h : List Entry) (all : List Posting) (ts : List Told) (xs : List Wait)
    → IsOpen w h all ts xs
    → AreSettled w (past_of w (h ++ all_collected w (past_of w h) xs)) (map (settled_in w (past_of w h)) xs)
settled_collected w h all ts xs o =
    subst (λ p. AreSettled w p (map (settled_in w (past_of w h)) xs))
    (sym (past_then w h (all_collected w (past_of w h) xs)))
    (settled_then w (past_of w h) (all_collected w (past_of w h) xs) all xs
    (answers_same_all w (past_of w h) (all_collected w (past_of w h) xs) (none_of_all w (past_of w h) xs))
    (other_all w (past_of w h) xs) o.waiting)

-- the places of those that are finished, and of the others
pub finished_places : (w : Setting) (past : Past) (xs : List Wait) → AreSettled w past xs
    → told_places (map told_of (filter is_finished xs)) ≡ filter (is_answered w past) (places xs)
finished_places w past [] h = refl
finished_places w past (x ∷ xs) h = by (is_finished x) (is_answered w past x.place) h.0 (finished_places w past xs h.1)
  where
    by : (a b : Bool) → a ≡ b
        → told_places (map told_of (filter is_finished xs)) ≡ filter (is_answered w past) (places xs)
        → told_places (map told_of (cond a (x ∷ filter is_finished xs) (filter is_finished xs)))
        ≡ cond b (x.place ∷ filter (is_answered w past) (places xs)) (filter (is_answered w past) (places xs))
    by true b e rest =
        ap (λ l. x.place ∷ l) rest
        ∙ ap (λ c. cond c (x.place ∷ filter (is_answered w past) (places xs))
        (filter (is_answered w past) (places xs))) e
    by false b e rest =
        rest ∙ ap (λ c. cond c (x.place ∷ filter (is_answered w past) (places xs))
        (filter (is_answered w past) (places xs))) e

pub open_places : (w : Setting) (past : Past) (xs : List Wait) → AreSettled w past xs
    → places (filter is_open xs) ≡ filter (λ j. not (is_answered w past j)) (places xs)
open_places w past [] h = refl
open_places w past (x ∷ xs) h = by (is_finished x) (is_answered w past x.place) h.0 (open_places w past xs h.1)
  where
    by : (a b : Bool) → a ≡ b → places (filter is_open xs) ≡ filter (λ j. not (is_answered w past j)) (places xs)
        → places (cond (not a) (x ∷ filter is_open xs) (filter is_open xs))
        ≡ cond (not b) (x.place ∷ filter (λ j. not (is_answered w past j)) (places xs))
        (filter (λ j. not (is_answered w past j)) (places xs))
    by true b e rest =
        rest ∙ ap (λ c. cond (not c) (x.place ∷ filter (λ j. not (is_answered w past j)) (places xs))
        (filter (λ j. not (is_answered w past j)) (places xs))) e
    by false b e rest =
        ap (λ l. x.place ∷ l) rest
        ∙ ap (λ c. cond (not c) (x.place ∷ filter (λ j. not (is_answered w past j)) (places xs))
        (filter (λ j. not (is_answered w past j)) (places xs))) e

-- ---- telling

-- each posting that waits is expected by a front that was told that much
pub all_expected : (w : Setting) (past : Past) (all : List Posting) (ts : List Told) (xs : List Wait) (d : Exchange)
    → d.received.given ≡ all → d.sent.told ≡ ts → AreWaiting w past all xs → AreApart (places xs) (told_places ts)
    → AreExpected xs d
all_expected w past all ts [] d given sent h apart = tt
all_expected w past all ts (x ∷ xs) d given sent h apart = (
  record {
    posting = h.0.posting;
    given = ap (λ ps. slice_get ps x.place) given ∙ h.0.given;
    fit = λ known. fits h.0.are (all_fit w past (x.place, 0) h.0.calls x.call_states h.0.call_states known);
    untold = ap (list_any (λ (t : Told). nat_eq x.place t.place)) sent ∙ out x.place ts apart.1;
  },
  among x.place xs apart.0,
  all_expected w past all ts xs d given sent h.1 apart.2,
)
  where
    fits : calls_of h.0.calls ≡ h.0.posting.calls → Fit (calls_of h.0.calls) (outcomes_in x.call_states)
        → Fit h.0.posting.calls (outcomes_in x.call_states)
    fits are fit = subst (λ cs. Fit cs (outcomes_in x.call_states)) are fit

    out : (n : ℕ) (us : List Told) → list_any (nat_eq n) (told_places us) ≡ false
        → list_any (λ (t : Told). nat_eq n t.place) us ≡ false
    out n [] g = refl
    out n (u ∷ us) g =
        (λ i. false_left (nat_eq n u.place) (list_any (nat_eq n) (told_places us)) g i
        || list_any (λ (t : Told). nat_eq n t.place) us)
        ∙ out n us (false_right (nat_eq n u.place) (list_any (nat_eq n) (told_places us)) g)

    among : (n : ℕ) (ys : List Wait) → list_any (nat_eq n) (places ys) ≡ false
        → list_any (λ (y : Wait). nat_eq n y.place) ys ≡ false
    among n [] g = refl
    among n (y ∷ ys) g =
        (λ i. false_left (nat_eq n y.place) (list_any (nat_eq n) (places ys)) g i
        || list_any (λ (z : Wait). nat_eq n z.place) ys)
        ∙ among n ys (false_right (nat_eq n y.place) (list_any (nat_eq n) (places ys)) g)

pub open_expected : (w : Setting) (h : List Entry) (all : List Posting) (ts : List Told) (xs : List Wait) (d : Exchange)
    → d.received.given ≡ all → d.sent.told ≡ ts → IsOpen w h all ts xs → AreExpected xs d
open_expected w h all ts xs d given sent o = all_expected w (past_of w h) all ts xs d given sent o.waiting o.apart

kept_waiting : (w : Setting) (past : Past) (all : List Posting) (xs : List Wait) → AreWaiting w past all xs
    → AreWaiting w past all (filter is_open xs)
kept_waiting w past all [] h = tt
kept_waiting w past all (x ∷ xs) h = by (is_open x) (kept_waiting w past all xs h.1)
  where
    by : (b : Bool) → AreWaiting w past all (filter is_open xs)
        → AreWaiting w past all (cond b (x ∷ filter is_open xs) (filter is_open xs))
    by true rest = (h.0, rest)
    by false rest = rest

kept_out : (n : ℕ) (q : Wait → Bool) (xs : List Wait) → list_any (nat_eq n) (places xs) ≡ false
    → list_any (nat_eq n) (places (filter q xs)) ≡ false
kept_out n q [] h = refl
kept_out n q (x ∷ xs) h =
    by (q x) (kept_out n q xs (false_right (nat_eq n x.place) (list_any (nat_eq n) (places xs)) h))
  where
    by : (b : Bool) → list_any (nat_eq n) (places (filter q xs)) ≡ false
        → list_any (nat_eq n) (places (cond b (x ∷ filter q xs) (filter q xs))) ≡ false
    by true rest =
        (λ i. false_left (nat_eq n x.place) (list_any (nat_eq n) (places xs)) h i
        || list_any (nat_eq n) (places (filter q xs)))
        ∙ rest
    by false rest = rest

kept_low : (p : ℕ → Bool) (q : Wait → Bool) (xs : List Wait) → list_all p (places xs) ≡ true
    → list_all p (places (filter q xs)) ≡ true
kept_low p q [] h = refl
kept_low p q (x ∷ xs) h = by (q x) (kept_low p q xs (right_true (p x.place) (list_all p (places xs)) h))
  where
    by : (b : Bool) → list_all p (places (filter q xs)) ≡ true
        → list_all p (places (cond b (x ∷ filter q xs) (filter q xs))) ≡ true
    by true rest =
        both_true (p x.place) (list_all p (places (filter q xs)))
        (left_true (p x.place) (list_all p (places xs)) h) rest
    by false rest = rest

-- places that are told stand among those that were told already
told_more : (ts more : List Told) → told_places (ts ++ more) ≡ told_places ts ++ told_places more
told_more [] more = refl
told_more (t ∷ ts) more = ap (λ l. t.place ∷ l) (told_more ts more)

out_of_both : (n : ℕ) (ts us : List ℕ) → list_any (nat_eq n) ts ≡ false → list_any (nat_eq n) us ≡ false
    → list_any (nat_eq n) (ts ++ us) ≡ false
out_of_both n ts us h g = any_append (nat_eq n) ts us ∙ (λ i. h i || g i)

places_told : (xs : List Wait) → told_places (map told_of xs) ≡ places xs
places_told [] = refl
places_told (x ∷ xs) = ap (λ l. x.place ∷ l) (places_told xs)

-- numbers that are apart from others and from one more
apart_more : (ns ts : List ℕ) (n : ℕ) → list_any (nat_eq n) ns ≡ false → AreApart ns ts → AreApart ns (ts ++ n ∷ [])
apart_more [] ts n out h = tt
apart_more (k ∷ ns) ts n out h = (
  h.0,
  out_of_both k ts (n ∷ []) h.1
      ((λ i. turned k n i || false) ∙ ap (λ b. b || false) (false_left (nat_eq n k) (list_any (nat_eq n) ns) out)),
  apart_more ns ts n (false_right (nat_eq n k) (list_any (nat_eq n) ns) out) h.2,
)

apart_told : (xs : List Wait) (ts : List ℕ) → AreApart (places xs) ts
    → AreApart (places (filter is_open xs)) (ts ++ places (filter is_finished xs))
apart_told [] ts h = tt
apart_told (x ∷ xs) ts h =
    by (is_finished x) (apart_told xs ts h.2) (apart_told xs (ts
    ++ x.place ∷ []) (apart_more (places xs) ts x.place h.0 h.2))
  where
    by : (b : Bool) → AreApart (places (filter is_open xs)) (ts ++ places (filter is_finished xs))
        → AreApart (places (filter is_open xs)) ((ts ++ x.place ∷ []) ++ places (filter is_finished xs))
        → AreApart (places (cond (not b) (x ∷ filter is_open xs) (filter is_open xs)))
        (ts ++ places (cond b (x ∷ filter is_finished xs) (filter is_finished xs)))
    by true stays goes =
        subst (AreApart (places (filter is_open xs)))
        (append_assoc ts (x.place ∷ []) (places (filter is_finished xs))) goes
    by false stays goes = (
      kept_out x.place is_open xs h.0,
      out_of_both x.place ts (places (filter is_finished xs)) h.1 (kept_out x.place is_finished xs h.0),
      stays,
    )

kept_uncollected : (past : Past) (xs : List Wait) → AreUncollected past (messages_of xs)
    → AreUncollected past (messages_of (filter is_open xs))
kept_uncollected past [] h = tt
kept_uncollected past (x ∷ xs) h = by (is_open x)
    (front_and past (messages_in x.call_states) (messages_of xs) (messages_of (filter is_open xs)) h
    (λ n out. kept_number n xs out) (kept_uncollected past xs (rest_of past (messages_in x.call_states) (messages_of xs) h)))
    (kept_uncollected past xs (rest_of past (messages_in x.call_states) (messages_of xs) h))
  where
    rest_of : (p : Past) (ns ms : List ℕ) → AreUncollected p (ns ++ ms) → AreUncollected p ms
    rest_of p [] ms g = g
    rest_of p (n ∷ ns) ms g = rest_of p ns ms g.2

    kept_number : (n : ℕ) (ys : List Wait) → list_any (nat_eq n) (messages_of ys) ≡ false
        → list_any (nat_eq n) (messages_of (filter is_open ys)) ≡ false
    kept_number n [] out = refl
    kept_number n (y ∷ ys) out = one (is_open y)
        (kept_number n ys (false_right (list_any (nat_eq n) (messages_in y.call_states))
        (list_any (nat_eq n) (messages_of ys))
        (sym (any_append (nat_eq n) (messages_in y.call_states) (messages_of ys)) ∙ out)))
      where
        one : (b : Bool) → list_any (nat_eq n) (messages_of (filter is_open ys)) ≡ false
            → list_any (nat_eq n) (messages_of (cond b (y ∷ filter is_open ys) (filter is_open ys))) ≡ false
        one true rest =
            any_append (nat_eq n) (messages_in y.call_states) (messages_of (filter is_open ys))
            ∙ (λ i. false_left (list_any (nat_eq n) (messages_in y.call_states)) (list_any (nat_eq n) (messages_of ys))
            (sym (any_append (nat_eq n) (messages_in y.call_states) (messages_of ys)) ∙ out) i
            || list_any (nat_eq n) (messages_of (filter is_open ys)))
            ∙ rest
        one false rest = rest

    front_and : (p : Past) (ns ms ks : List ℕ) → AreUncollected p (ns ++ ms)
        → ((n : ℕ) → list_any (nat_eq n) ms ≡ false → list_any (nat_eq n) ks ≡ false)
        → AreUncollected p ks → AreUncollected p (ns ++ ks)
    front_and p [] ms ks g out u = u
    front_and p (n ∷ ns) ms ks g out u = (
      g.0,
      any_append (nat_eq n) ns ks
          ∙ (λ i. false_left (list_any (nat_eq n) ns) (list_any (nat_eq n) ms) (sym (any_append (nat_eq n) ns ms)
          ∙ g.1) i
          || list_any (nat_eq n) ks)
          ∙ out n (false_right (list_any (nat_eq n) ns) (list_any (nat_eq n) ms) (sym (any_append (nat_eq n) ns ms)
          ∙ g.1)),
      front_and p ns ms ks g.2 out u,
    )

    by : (b : Bool) → AreUncollected past (messages_in x.call_states ++ messages_of (filter is_open xs))
        → AreUncollected past (messages_of (filter is_open xs))
        → AreUncollected past (messages_of (cond b (x ∷ filter is_open xs) (filter is_open xs)))
    by true with_it without = with_it
    by false with_it without = without

-- what is told of those that are finished is what their calls came to
finished_told : (w : Setting) (past : Past) (all : List Posting) (xs : List Wait) → AreWaiting w past all xs
    → AreTold w past all (map told_of (filter is_finished xs))
finished_told w past all [] h = tt
finished_told w past all (x ∷ xs) h = by (is_finished x) refl (finished_told w past all xs h.1)
  where
    by : (b : Bool) → is_finished x ≡ b → AreTold w past all (map told_of (filter is_finished xs))
        → AreTold w past all (map told_of (cond b (x ∷ filter is_finished xs) (filter is_finished xs)))
    by true known rest = (
      (
        h.0.posting,
        h.0.given,
        ap (λ cs. all_there (outcomes_from w past first_worker (x.place, 0) cs)) (sym h.0.are)
            ∙ all_outcomes w past (x.place, 0) h.0.calls x.call_states h.0.call_states known,
      ),
      rest,
    )
    by false known rest = rest

told_append : (w : Setting) (past : Past) (all : List Posting) (ts us : List Told) → AreTold w past all ts
    → AreTold w past all us → AreTold w past all (ts ++ us)
told_append w past all [] us h g = g
told_append w past all (t ∷ ts) us h g = (h.0, told_append w past all ts us h.1 g)

low_append : (p : ℕ → Bool) (ns ms : List ℕ) → list_all p ns ≡ true → list_all p ms ≡ true
    → list_all p (ns ++ ms) ≡ true
low_append p [] ms h g = g
low_append p (n ∷ ns) ms h g =
    both_true (p n) (list_all p (ns ++ ms)) (left_true (p n) (list_all p ns) h)
    (low_append p ns ms (right_true (p n) (list_all p ns) h) g)

-- once those that are finished were told, what is open is it still
pub open_told : (w : Setting) (h : List Entry) (all : List Posting) (ts : List Told) (xs : List Wait)
    → IsOpen w h all ts xs → IsOpen w h all (ts ++ map told_of (filter is_finished xs)) (filter is_open xs)
open_told w h all ts xs o = record {
  posted = o.posted;
  waiting = kept_waiting w (past_of w h) all xs o.waiting;
  uncollected = kept_uncollected (past_of w h) xs o.uncollected;
  told =
      told_append w (past_of w h) all ts (map told_of (filter is_finished xs)) o.told
      (finished_told w (past_of w h) all xs o.waiting);
  apart =
      subst (AreApart (places (filter is_open xs)))
      (sym (told_more ts (map told_of (filter is_finished xs))
      ∙ ap (λ l. told_places ts ++ l) (places_told (filter is_finished xs))))
      (apart_told xs (told_places ts) o.apart);
  low = kept_low (λ n. nat_lt n (length all)) is_open xs o.low;
  low_told =
      ap (list_all (λ n. nat_lt n (length all)))
      (told_more ts (map told_of (filter is_finished xs))
      ∙ ap (λ l. told_places ts ++ l) (places_told (filter is_finished xs)))
      ∙ low_append (λ n. nat_lt n (length all)) (told_places ts) (places (filter is_finished xs)) o.low_told
      (kept_low (λ n. nat_lt n (length all)) is_finished xs o.low);
}

-- ---- the order

-- one posting more: `ys` are those that waited and the new one, once all answers were collected
pub stands_next : (w : Setting) (h more : List Entry) (count : ℕ) (ts : List Told) (xs ys : List Wait)
    → Grows w h more count → list_all (posts_under (suc count)) (h ++ more) ≡ true
    → some_entry (past_of w (h ++ more)) stops ≡ false
    → places ys ≡ places xs ++ count ∷ [] → AreSettled w (past_of w (h ++ more)) ys → StandsInOrder w h count ts xs
    → StandsInOrder w (h ++ more) (suc count) (ts ++ map told_of (filter is_finished ys)) (filter is_open ys)
stands_next w h more count ts xs ys g under running are settled o =
    let next : InOrder w (h ++ more) (suc count)
    (told_places ts ++ filter (is_answered w (past_of w (h ++ more))) (places xs ++ count ∷ []))
    (filter (λ j. not (is_answered w (past_of w (h ++ more)) j)) (places xs ++ count ∷ [])) =
    order_goes_on w h more count (told_places ts) (places xs) g under running o in
    record {
      told =
          told_more ts (map told_of (filter is_finished ys))
          ∙ ap (λ l. told_places ts ++ l)
          (finished_places w (past_of w (h ++ more)) ys settled
          ∙ ap (filter (is_answered w (past_of w (h ++ more)))) are)
          ∙ next.told;
      pending =
          open_places w (past_of w (h ++ more)) ys settled
          ∙ ap (filter (λ j. not (is_answered w (past_of w (h ++ more)) j))) are
          ∙ next.pending;
    }

-- at the end, where all are finished, those that were told are in the order of the record
pub stands_ended : (w : Setting) (h more : List Entry) (count : ℕ) (ts : List Told) (xs ys : List Wait)
    → Grows w h more count → places ys ≡ places xs → list_all is_finished ys ≡ true → StandsInOrder w h count ts xs
    → told_places (ts ++ map told_of (filter is_finished ys)) ≡ order_alone w (h ++ more) first_worker count
stands_ended w h more count ts xs ys g are finished o =
    told_more ts (map told_of (filter is_finished ys))
    ∙ ap (λ l. told_places ts ++ l)
    (ap (λ l. told_places (map told_of l)) (all_kept ys finished) ∙ places_told ys ∙ are)
    ∙ order_ends w h more count (told_places ts) (places xs) g o
  where
    all_kept : (zs : List Wait) → list_all is_finished zs ≡ true → filter is_finished zs ≡ zs
    all_kept [] h = refl
    all_kept (z ∷ zs) h =
        ap (λ b. cond b (z ∷ filter is_finished zs) (filter is_finished zs))
        (left_true (is_finished z) (list_all is_finished zs) h)
        ∙ ap (λ l. z ∷ l) (all_kept zs (right_true (is_finished z) (list_all is_finished zs) h))

-- at the end those that were told of postings so far are those that are finished before it
pub stands_early : (w : Setting) (h more : List Entry) (count : ℕ) (ts : List Told) (xs : List Wait) → Grows w h more count
    → StandsInOrder w h count ts xs
    → told_places ts ≡ flat_map (finished_there w (past_of w (h ++ more)) first_worker count) (numbers_from 0 count)
stands_early w h more count ts xs g o = order_early w h more count (told_places ts) (places xs) g o

-- ---- the end

-- once the run stopped each message of a posting has its answer
pub all_answered : (w : Setting) (h : List Entry) (j : ℕ) → IsLegal w h → some_entry (past_of w h) stops ≡ true
    → is_answered w (past_of w h) j ≡ true
all_answered w h j legal stopped =
    all_weaker (λ n. is_some (slice_get (past_of w h).messages n)) (λ n. is_some (first (answers w (past_of w h) n)))
    (λ n here.
    let m : (x : Sent) × (slice_get (past_of w h).messages n ≡ Some x) =
    there (slice_get (past_of w h).messages n) here in
    ap (λ os. is_some (first os)) (answers_once w h n m.0 legal stopped m.1).1)
    (messages_for (past_of w h) first_worker j) (posted_there w h first_worker j legal)

-- so that each posting is finished
pub all_finished : (w : Setting) (h : List Entry) (xs : List Wait) → IsLegal w h → some_entry (past_of w h) stops ≡ true
    → AreSettled w (past_of w h) xs → list_all is_finished xs ≡ true
all_finished w h [] legal stopped settled = refl
all_finished w h (x ∷ xs) legal stopped settled =
    both_true (is_finished x) (list_all is_finished xs) (settled.0 ∙ all_answered w h x.place legal stopped)
    (all_finished w h xs legal stopped settled.1)

-- what was told of each place is what its posting came to
pub told_each : (w : Setting) (past : Past) (all : List Posting) (ts : List Told) (t : Told) → AreTold w past all ts
    → Contains ts t → IsTold w past all t
told_each w past all [] t h c = absurd (omega (arith, c.1))
told_each w past all (u ∷ ts) t h c = by c.0 c.1 c.2 (λ k less is. told_each w past all ts t h.1 (k, less, is))
  where
    by : (k : ℕ) → k < length (u ∷ ts) → get_or (u ∷ ts) k t ≡ t
        → ((i : ℕ) → i < length ts → get_or ts i t ≡ t → IsTold w past all t) → IsTold w past all t
    by zero less is rest = subst (IsTold w past all) is h.0
    by (suc k) less is rest = rest k (omega (arith, less)) is

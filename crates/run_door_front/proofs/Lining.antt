-- The numbers of the connections that are open, and of those that ask.
use Rattle.std.proofs.Common.{◌≡◌, refl, sym, ap, ap₂, ◌∙◌, subst, arith, ℕ, zero, suc, ◌+◌, ◌<◌, Bool, true, false, not, cond, ◌&&◌, ◌||◌, inl, inr, List, [], ◌∷◌, ◌++◌, length, Some, count_by, slice_get, slice_set, nat_eq, length-append}
use Rattle.std.specs.List.{filter, list_all, list_any}
use Rattle.std.proofs.lemmas.Bool.{true≢false}
use Rattle.std.proofs.lemmas.Option.{none-some, same_Some}
use Rattle.conn_future.specs.declared.stage.Stage.{Stage}
use Rattle.conn_future.specs.declared.stage.Stage.TheVariants as Stages
use Rattle.conn_future.specs.Stages.{IsOver}
use Rattle.run_door_front.specs.Keeping.{ClientTold, stage_at, is_open_at, is_open, asks_at, asks, owes, is_so, asks_there, open_from, most_open, IsOrdered}
use Rattle.run_door_front.specs.NextSteps.{all_owing, newly, lined, IsQueue, ClientGoesOn, ClientsGoOn}
use Rattle.run_door_front.proofs.Entries.{one_if, count_cons, count_yes, count_no, count_append, nat_eq_same, nat_eq_is, get_set_same, get_set_other}

-- ---- stages

-- a connection that is not open is over
pub closed_over : (s : Stage) → is_open_at s ≡ false → IsOver s
closed_over Stages.Reads e = absurd (true≢false e)
closed_over Stages.Asks e = absurd (true≢false e)
closed_over Stages.Owes e = absurd (true≢false e)
closed_over Stages.Writes e = absurd (true≢false e)
closed_over Stages.Ended e = inl refl
closed_over Stages.Closed e = inr (inl refl)
closed_over Stages.ReadFailed e = inr (inr (inl refl))
closed_over Stages.WriteFailed e = inr (inr (inr refl))
closed_over Stages.Spent e = absurd (true≢false e)

pub asks_is : (s : Stage) → asks_at s ≡ true → s ≡ Stages.Asks
asks_is Stages.Reads e = absurd (true≢false (sym e))
asks_is Stages.Asks e = refl
asks_is Stages.Owes e = absurd (true≢false (sym e))
asks_is Stages.Writes e = absurd (true≢false (sym e))
asks_is Stages.Ended e = absurd (true≢false (sym e))
asks_is Stages.Closed e = absurd (true≢false (sym e))
asks_is Stages.ReadFailed e = absurd (true≢false (sym e))
asks_is Stages.WriteFailed e = absurd (true≢false (sym e))
asks_is Stages.Spent e = absurd (true≢false (sym e))

-- one that was over is over
over_stays : (l m : ClientTold) → ClientGoesOn l m → is_open l ≡ false → is_open m ≡ false
over_stays l m g e = ap is_open (g.rests (inr (closed_over (stage_at l) e))) ∙ e

-- one that asked asks
pub asks_stays : (l m : ClientTold) → ClientGoesOn l m → asks l ≡ true → asks m ≡ true
asks_stays l m g e = ap asks (g.rests (inl (inl (asks_is (stage_at l) e)))) ∙ e

-- one that does not ask did not ask
pub unasked : (l m : ClientTold) → ClientGoesOn l m → asks m ≡ false → asks l ≡ false
unasked l m g e = by_asks (asks l) refl
  where
    by_asks : (b : Bool) → asks l ≡ b → asks l ≡ false
    by_asks true is = absurd (true≢false (sym (asks_stays l m g is) ∙ e))
    by_asks false is = is

-- ---- the open ones

step : (n i : ℕ) → suc n + i ≡ n + suc i
step n i = omega arith

start : (n : ℕ) → n + 0 ≡ n
start n = omega arith

front : (n : ℕ) → 0 + n ≡ n
front n = omega arith

-- there are as many
pub open_long : (n : ℕ) (ls : List ClientTold) → length (open_from n ls) ≡ count_by is_open ls
open_long n [] = refl
open_long n (l ∷ ls) = at (open_long (suc n) ls) (is_open l) refl ∙ sym (count_cons is_open l ls)
  where
    at : length (open_from (suc n) ls) ≡ count_by is_open ls → (b : Bool) → is_open l ≡ b
        → length (cond (is_open l) (n ∷ open_from (suc n) ls) (open_from (suc n) ls)) ≡ one_if (is_open l) + count_by is_open ls
    at rest true e =
        ap (λ b. length (cond b (n ∷ open_from (suc n) ls) (open_from (suc n) ls))) e ∙ ap suc rest ∙ sym (ap (λ (b : Bool). one_if b + count_by is_open ls) e ∙ one)
      where
        one : 1 + count_by is_open ls ≡ suc (count_by is_open ls)
        one = omega arith
    at rest false e =
        ap (λ b. length (cond b (n ∷ open_from (suc n) ls) (open_from (suc n) ls))) e ∙ rest ∙ sym (ap (λ (b : Bool). one_if b + count_by is_open ls) e ∙ none)
      where
        none : 0 + count_by is_open ls ≡ count_by is_open ls
        none = omega arith

-- one more that is open stands at their end
pub open_push : (n : ℕ) (ls : List ClientTold) (l : ClientTold) → is_open l ≡ true → open_from n (ls ++ l ∷ []) ≡ open_from n ls ++ (n + length ls) ∷ []
open_push n [] l e = ap (λ b. cond b (n ∷ []) []) e ∙ ap (λ k. k ∷ []) (sym (start n))
open_push n (x ∷ ls) l e =
    at (open_push (suc n) ls l e ∙ ap (λ k. open_from (suc n) ls ++ k ∷ []) (step n (length ls))) (is_open x)
  where
    at : open_from (suc n) (ls ++ l ∷ []) ≡ open_from (suc n) ls ++ (n + suc (length ls)) ∷ []
        → (b : Bool) → cond b (n ∷ open_from (suc n) (ls ++ l ∷ [])) (open_from (suc n) (ls ++ l ∷ []))
        ≡ cond b (n ∷ open_from (suc n) ls) (open_from (suc n) ls) ++ (n + suc (length ls)) ∷ []
    at rest true = ap (λ xs. n ∷ xs) rest
    at rest false = rest

-- each of them is there
open_within : (n : ℕ) (ls : List ClientTold) (k : ℕ) → list_any (nat_eq k) (open_from n ls) ≡ true → k < n + length ls
open_within n [] k e = absurd (true≢false (sym e))
open_within n (l ∷ ls) k e = at (λ h. open_within (suc n) ls k h) (is_open l) e
  where
    here : k ≡ n → k < n + suc (length ls)
    here is = omega arith

    later : (k m : ℕ) → k < suc n + m → k < n + suc m
    later k m h = omega arith

    first : (b : Bool) → nat_eq k n ≡ b → (list_any (nat_eq k) (open_from (suc n) ls) ≡ true → k < n + suc (length ls))
        → b || list_any (nat_eq k) (open_from (suc n) ls) ≡ true → k < n + suc (length ls)
    first true is among h = here (nat_eq_is k n is)
    first false is among h = among h

    at : (list_any (nat_eq k) (open_from (suc n) ls) ≡ true → k < suc n + length ls) → (b : Bool)
        → list_any (nat_eq k) (cond b (n ∷ open_from (suc n) ls) (open_from (suc n) ls)) ≡ true → k < n + suc (length ls)
    at among true h = first (nat_eq k n) refl (λ a. later k (length ls) (among a)) h
    at among false h = later k (length ls) (among h)

-- each that is open is among them
open_there : (n : ℕ) (ls : List ClientTold) (i : ℕ) (l : ClientTold) → slice_get ls i ≡ Some l → is_open l ≡ true
    → list_any (nat_eq (n + i)) (open_from n ls) ≡ true
open_there n [] i l is e = absurd (none-some l is)
open_there n (x ∷ ls) zero l is e =
    ap (λ b. list_any (nat_eq (n + 0)) (cond b (n ∷ open_from (suc n) ls) (open_from (suc n) ls))) (ap is_open (same_Some x l is) ∙ e)
    ∙ ap (λ b. b || list_any (nat_eq (n + 0)) (open_from (suc n) ls)) (ap (λ k. nat_eq k n) (start n) ∙ nat_eq_same n)
open_there n (x ∷ ls) (suc i) l is e =
    at (ap (λ k. list_any (nat_eq k) (open_from (suc n) ls)) (sym (step n i)) ∙ open_there (suc n) ls i l is e) (is_open x)
  where
    or_right : (a b : Bool) → b ≡ true → a || b ≡ true
    or_right true b h = refl
    or_right false b h = h

    at : list_any (nat_eq (n + suc i)) (open_from (suc n) ls) ≡ true
        → (b : Bool) → list_any (nat_eq (n + suc i)) (cond b (n ∷ open_from (suc n) ls) (open_from (suc n) ls)) ≡ true
    at rest true = or_right (nat_eq (n + suc i) n) (list_any (nat_eq (n + suc i)) (open_from (suc n) ls)) rest
    at rest false = rest

pub opened_within : (ls : List ClientTold) (k : ℕ) → list_any (nat_eq k) (open_from 0 ls) ≡ true → k < length ls
opened_within ls k e = subst (λ n. k < n) (front (length ls)) (open_within 0 ls k e)

pub opened_there : (ls : List ClientTold) (k : ℕ) (l : ClientTold) → slice_get ls k ≡ Some l → is_open l ≡ true → list_any (nat_eq k) (open_from 0 ls) ≡ true
opened_there ls k l is e = subst (λ n. list_any (nat_eq n) (open_from 0 ls) ≡ true) (front k) (open_there 0 ls k l is e)

-- those that are still open
open_filter : (test : ℕ → Bool) (n : ℕ) (ls ms : List ClientTold) → ClientsGoOn ls ms
    → ((i : ℕ) (m : ClientTold) → slice_get ms i ≡ Some m → test (n + i) ≡ is_open m) → filter test (open_from n ls) ≡ open_from n ms
open_filter test n [] [] g h = refl
open_filter test n [] (m ∷ ms) g h = absurd g
open_filter test n (l ∷ ls) [] g h = absurd g
open_filter test n (l ∷ ls) (m ∷ ms) g h = at (open_filter test (suc n) ls ms g.1 (λ i x is. ap test (step n i) ∙ h (suc i) x is)) (is_open l) refl
  where
    here : test n ≡ is_open m
    here = ap test (sym (start n)) ∙ h 0 m refl

    at : filter test (open_from (suc n) ls) ≡ open_from (suc n) ms → (b : Bool) → is_open l ≡ b → filter test (cond (is_open l) (n ∷ open_from (suc n) ls) (open_from (suc n) ls))
        ≡ cond (is_open m) (n ∷ open_from (suc n) ms) (open_from (suc n) ms)
    at rest true e =
        ap (λ b. filter test (cond b (n ∷ open_from (suc n) ls) (open_from (suc n) ls))) e
        ∙ ap (λ b. cond b (n ∷ filter test (open_from (suc n) ls)) (filter test (open_from (suc n) ls))) here
        ∙ ap (λ xs. cond (is_open m) (n ∷ xs) xs) rest
    at rest false e =
        ap (λ b. filter test (cond b (n ∷ open_from (suc n) ls) (open_from (suc n) ls))) e ∙ rest
        ∙ sym (ap (λ b. cond b (n ∷ open_from (suc n) ms) (open_from (suc n) ms)) (over_stays l m g.0 e))

pub opened_filter : (test : ℕ → Bool) (ls ms : List ClientTold) → ClientsGoOn ls ms
    → ((i : ℕ) (m : ClientTold) → slice_get ms i ≡ Some m → test i ≡ is_open m) → filter test (open_from 0 ls) ≡ open_from 0 ms
opened_filter test ls ms g h = open_filter test 0 ls ms g (λ i m is. ap test (front i) ∙ h i m is)

-- what is so of all of them
open_owing : (test : ℕ → Bool) (n : ℕ) (ls : List ClientTold) → ((i : ℕ) (l : ClientTold) → slice_get ls i ≡ Some l → test (n + i) ≡ owes l)
    → list_all test (open_from n ls) ≡ all_owing ls
open_owing test n [] h = refl
open_owing test n (l ∷ ls) h = at (open_owing test (suc n) ls (λ i x is. ap test (step n i) ∙ h (suc i) x is)) (is_open l) refl
  where
    here : test n ≡ owes l
    here = ap test (sym (start n)) ∙ h 0 l refl

    or_false : (a : Bool) → a ≡ a || false
    or_false true = refl
    or_false false = refl

    or_true : (a : Bool) → true ≡ a || true
    or_true true = refl
    or_true false = refl

    at : list_all test (open_from (suc n) ls) ≡ all_owing ls → (b : Bool) → is_open l ≡ b → list_all test (cond (is_open l) (n ∷ open_from (suc n) ls) (open_from (suc n) ls))
        ≡ (owes l || not (is_open l)) && all_owing ls
    at rest true e =
        ap (λ b. list_all test (cond b (n ∷ open_from (suc n) ls) (open_from (suc n) ls))) e
        ∙ ap₂ (λ a b. a && b) (here ∙ or_false (owes l) ∙ ap (λ b. owes l || not b) (sym e)) rest
    at rest false e =
        ap (λ b. list_all test (cond b (n ∷ open_from (suc n) ls) (open_from (suc n) ls))) e ∙ rest
        ∙ ap (λ a. a && all_owing ls) (or_true (owes l) ∙ ap (λ b. owes l || not b) (sym e))

pub opened_owing : (test : ℕ → Bool) (ls : List ClientTold) → ((i : ℕ) (l : ClientTold) → slice_get ls i ≡ Some l → test i ≡ owes l)
    → list_all test (open_from 0 ls) ≡ all_owing ls
opened_owing test ls h = open_owing test 0 ls (λ i l is. ap test (front i) ∙ h i l is)

-- ---- the queue

-- one that came and does not ask changes nothing
asks_push : (ls : List ClientTold) (l : ClientTold) (k : ℕ) → asks l ≡ false → asks_there (ls ++ l ∷ []) k ≡ asks_there ls k
asks_push [] l zero e = e
asks_push [] l (suc k) e = refl
asks_push (x ∷ ls) l zero e = refl
asks_push (x ∷ ls) l (suc k) e = asks_push ls l k e

-- one that was set
asks_set : (ls : List ClientTold) (n : ℕ) (l m : ClientTold) (k : ℕ) → slice_get ls n ≡ Some l
    → asks_there (slice_set ls n m) k ≡ cond (nat_eq n k) (asks m) (asks_there ls k)
asks_set ls n l m k is = at (nat_eq n k) refl
  where
    at : (b : Bool) → nat_eq n k ≡ b → asks_there (slice_set ls n m) k ≡ cond b (asks m) (asks_there ls k)
    at true e = ap (asks_there (slice_set ls n m)) (sym (nat_eq_is n k e)) ∙ ap (is_so asks) (get_set_same ls n l m is)
    at false e = ap (is_so asks) (get_set_other ls n k m e)

-- how often a number stands in a list with one more
count_one : (k n : ℕ) → count_by (nat_eq k) (n ∷ []) ≡ one_if (nat_eq k n)
count_one k n = count_cons (nat_eq k) n [] ∙ start (one_if (nat_eq k n))

nat_eq_other : (m n : ℕ) → nat_eq m n ≡ nat_eq n m
nat_eq_other m n = at (nat_eq m n) (nat_eq n m) refl refl
  where
    at : (a b : Bool) → nat_eq m n ≡ a → nat_eq n m ≡ b → nat_eq m n ≡ nat_eq n m
    at true b e f = e ∙ sym (ap (nat_eq n) (nat_eq_is m n e) ∙ nat_eq_same n)
    at false true e f = absurd (true≢false (sym (ap (nat_eq m) (nat_eq_is n m f) ∙ nat_eq_same m) ∙ e))
    at false false e f = e ∙ sym f

-- as many as the connection asks now, where it came to ask, and else as many as before
queue_step : (a b : Bool) (here : Bool) (q : ℕ) (asked : Bool) → (a ≡ true → b ≡ true) → q ≡ one_if asked → (here ≡ true → asked ≡ a)
    → q + one_if (not a && b && here) ≡ one_if (cond here b asked)
queue_step true true true q asked up e same = start q ∙ e ∙ ap one_if (same refl)
queue_step true true false q asked up e same = start q ∙ e
queue_step true false here q asked up e same = absurd (true≢false (sym (up refl)))
queue_step false true true q asked up e same = ap (λ n. n + 1) (e ∙ ap one_if (same refl))
queue_step false true false q asked up e same = start q ∙ e
queue_step false false true q asked up e same = start q ∙ e ∙ ap one_if (same refl)
queue_step false false false q asked up e same = start q ∙ e

-- how often a number stands where it came to the end
newly_count : (k n : ℕ) (l m : ClientTold) → count_by (nat_eq k) (newly n l m) ≡ one_if (not (asks l) && asks m && nat_eq n k)
newly_count k n l m = at (not (asks l) && asks m)
  where
    at : (b : Bool) → count_by (nat_eq k) (cond b (n ∷ []) []) ≡ one_if (b && nat_eq n k)
    at true = count_one k n ∙ ap one_if (nat_eq_other k n)
    at false = refl

-- a connection was polled
pub queue-polled : (ls : List ClientTold) (queue : List ℕ) (n : ℕ) (l m : ClientTold) → slice_get ls n ≡ Some l → ClientGoesOn l m
    → IsQueue (lined ls queue) → IsQueue (lined (slice_set ls n m) (queue ++ newly n l m))
queue-polled ls queue n l m is g q k =
    count_append (nat_eq k) queue (newly n l m)
    ∙ ap (λ c. count_by (nat_eq k) queue + c) (newly_count k n l m)
    ∙ queue_step (asks l) (asks m) (nat_eq n k) (count_by (nat_eq k) queue) (asks_there ls k) (asks_stays l m g) (q k)
    (λ e. ap (asks_there ls) (sym (nat_eq_is n k e)) ∙ ap (is_so asks) is)
    ∙ ap one_if (sym (asks_set ls n l m k is))

-- the first of the queue asks
pub first_asks : (ls : List ClientTold) (n : ℕ) (rest : List ℕ) → IsQueue (lined ls (n ∷ rest)) → asks_there ls n ≡ true
first_asks ls n rest q = at (asks_there ls n) refl
  where
    some : count_by (nat_eq n) (n ∷ rest) ≡ suc (count_by (nat_eq n) rest)
    some = count_yes (nat_eq n) n rest (nat_eq_same n)

    at : (b : Bool) → asks_there ls n ≡ b → asks_there ls n ≡ true
    at true e = e
    at false e = absurd (let none : count_by (nat_eq n) (n ∷ rest) ≡ 0 = q n ∙ ap one_if e in omega (arith, some, none))

-- where the queue is empty none asks
pub none_asks : (ls : List ClientTold) (queue : List ℕ) → queue ≡ [] → IsQueue (lined ls queue) → (k : ℕ) → asks_there ls k ≡ false
none_asks ls queue none q k = at (asks_there ls k) refl
  where
    at : (b : Bool) → asks_there ls k ≡ b → asks_there ls k ≡ false
    at true e = absurd (let one : 0 ≡ 1 = sym (ap (count_by (nat_eq k)) none) ∙ q k ∙ ap one_if e in omega (arith, one))
    at false e = e

-- the first leaves it
pub queue-taken : (ls : List ClientTold) (n : ℕ) (rest : List ℕ) (l m : ClientTold) → slice_get ls n ≡ Some l → asks m ≡ false
    → IsQueue (lined ls (n ∷ rest)) → IsQueue (lined (slice_set ls n m) rest)
queue-taken ls n rest l m is none q k = at (nat_eq n k) refl
  where
    at : (b : Bool) → nat_eq n k ≡ b → count_by (nat_eq k) rest ≡ one_if (asks_there (slice_set ls n m) k)
    at true e =
        let same : n ≡ k = nat_eq_is n k e in
        let all = count_yes (nat_eq k) n rest (nat_eq_other k n ∙ e) in
        let one : one_if (asks_there ls k) ≡ 1 = ap one_if (ap (asks_there ls) (sym same) ∙ first_asks ls n rest q) in
        let gone : one_if (asks_there (slice_set ls n m) k) ≡ 0 = ap one_if (asks_set ls n l m k is ∙ ap (λ b. cond b (asks m) (asks_there ls k)) e ∙ none) in
        let whole = q k in
        omega (arith, all, one, gone, whole)
    at false e =
        sym (count_no (nat_eq k) n rest (nat_eq_other k n ∙ e)) ∙ q k
        ∙ ap one_if (sym (asks_set ls n l m k is ∙ ap (λ b. cond b (asks m) (asks_there ls k)) e))

-- ---- both

-- a connection came, of which nothing was read
pub ordered-push : (ls : List ClientTold) (opened queue : List ℕ) (l : ClientTold) → stage_at l ≡ Stages.Reads → length opened < most_open
    → IsOrdered ls opened queue → IsOrdered (ls ++ l ∷ []) (opened ++ length ls ∷ []) queue
ordered-push ls opened queue l reads room o = record {
  in_order =
      ap (λ xs. xs ++ length ls ∷ []) o.in_order ∙ ap (λ k. open_from 0 ls ++ k ∷ []) (sym (front (length ls)))
      ∙ sym (open_push 0 ls l (ap is_open_at reads));
  few = let long = length-append opened (length ls ∷ []) in omega (arith, long, room);
  queued = λ k. o.queued k ∙ ap one_if (sym (asks_push ls l k (ap asks_at reads)));
}

-- one of them is another, which is open as well
pub open-set : (n : ℕ) (ls : List ClientTold) (k : ℕ) (l m : ClientTold) → slice_get ls k ≡ Some l → is_open m ≡ is_open l
    → open_from n (slice_set ls k m) ≡ open_from n ls
open-set n [] k l m is same = refl
open-set n (x ∷ ls) zero l m is same = ap (λ b. cond b (n ∷ open_from (suc n) ls) (open_from (suc n) ls)) (same ∙ sym (ap is_open (same_Some x l is)))
open-set n (x ∷ ls) (suc k) l m is same = ap (λ xs. cond (is_open x) (n ∷ xs) xs) (open-set (suc n) ls k l m is same)

-- the first of the queue was posted
pub ordered-taken : (ls : List ClientTold) (opened rest : List ℕ) (n : ℕ) (l m : ClientTold) → slice_get ls n ≡ Some l → asks l ≡ true → stage_at m ≡ Stages.Owes
    → IsOrdered ls opened (n ∷ rest) → IsOrdered (slice_set ls n m) opened rest
ordered-taken ls opened rest n l m is asking owes o = record {
  in_order = o.in_order ∙ sym (open-set 0 ls n l m is (ap is_open_at owes ∙ sym (ap is_open_at (asks_is (stage_at l) asking))));
  few = o.few;
  queued = queue-taken ls n rest l m is (ap asks_at owes) o.queued;
}

-- a connection was told its answer
pub ordered-told : (ls : List ClientTold) (opened queue : List ℕ) (n : ℕ) (l m : ClientTold) → slice_get ls n ≡ Some l → stage_at l ≡ Stages.Owes → stage_at m ≡ Stages.Writes
    → IsOrdered ls opened queue → IsOrdered (slice_set ls n m) opened queue
ordered-told ls opened queue n l m is owes writes o = record {
  in_order = o.in_order ∙ sym (open-set 0 ls n l m is (ap is_open_at writes ∙ sym (ap is_open_at owes)));
  few = o.few;
  queued = λ k. o.queued k ∙ ap one_if (sym (told k));
}
  where
    told : (k : ℕ) → asks_there (slice_set ls n m) k ≡ asks_there ls k
    told k = asks_set ls n l m k is ∙ at (nat_eq n k) refl
      where
        at : (b : Bool) → nat_eq n k ≡ b → cond b (asks m) (asks_there ls k) ≡ asks_there ls k
        at true e =
            ap asks_at writes ∙ sym (ap asks_at owes)
            ∙ sym (ap (is_so asks) is) ∙ ap (asks_there ls) (nat_eq_is n k e)
        at false e = refl

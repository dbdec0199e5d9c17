-- Whether bytes moved where connections are polled.
use Rattle.std.proofs.Common.{◌≡◌, refl, sym, ap, ap₂, ◌∙◌, subst, arith, ℕ, zero, suc, ◌+◌, ◌<◌, ◌≤◌, Bool, true, false, not, cond, ◌||◌, ◌⊎◌, inl, inr, List, [], ◌∷◌, ◌++◌, length, take, get_or, Some, slice_get, slice_set, nat_eq}
use Rattle.std.specs.List.{list_any}
use Rattle.std.proofs.lemmas.Bool.{true≢false}
use Rattle.std.proofs.lemmas.Option.{none-some, same_Some, slice_get-get_or}
use Rattle.std.proofs.lemmas.List.{take_more}
use Rattle.std.proofs.lemmas.List.Folds.{list_any-append}
use Rattle.outside_doors.specs.Counts.{added}
use Rattle.outside_polling.specs.Polls.{once_more}
use Rattle.conn_future.specs.Stages.{IsMoving, IsUnanswered, IsOver}
use Rattle.run_door_front.specs.Keeping.{ClientTold, stage_at, is_open, open_from, IsOrdered}
use Rattle.run_door_front.specs.NextSteps.{Lined, IsPolledAt, ClientsGoOn}
use Rattle.run_door_front.specs.Moving.{read_on, written_on, has_moved, any_moved, HasWaited, HaveWaited, HasWaitedAt, HaveWaitedAt}
use Rattle.run_door_front.proofs.Entries.{nat_eq_same, nat_eq_is, get_set_same, get_set_other}
use Rattle.run_door_front.proofs.Links.{clients-at}
use Rattle.run_door_front.proofs.Lining.{closed_over, opened_there}

-- ---- one connection

pub moved-none : (l : ClientTold) → has_moved l l ≡ false
moved-none l = ap₂ (λ a b. not a || not b) (nat_eq_same (read_on l)) (nat_eq_same (written_on l))

-- by how many bytes had been read and written before
pub moved-so : (told before now : ClientTold) (read written : ℕ) (moved : Bool) → told ≡ before → read ≡ read_on told → written ≡ written_on told
    → moved ≡ (not (nat_eq (read_on now) read) || not (nat_eq (written_on now) written)) → moved ≡ has_moved before now
moved-so told before now read written moved same r w is =
    is ∙ ap₂ (λ a b. not (nat_eq (read_on now) a) || not (nat_eq (written_on now) b)) (r ∙ ap read_on same) (w ∙ ap written_on same)

-- ---- connections

pub any-none : (ls : List ClientTold) → any_moved ls ls ≡ false
any-none [] = refl
any-none (l ∷ ls) = ap₂ (λ a b. a || b) (moved-none l) (any-none ls)

or_other : (a b : Bool) → a || b ≡ (false || b) || a
or_other true true = refl
or_other true false = refl
or_other false true = refl
or_other false false = refl

pub or_further : (a b c : Bool) → a || (b || c) ≡ (a || b) || c
or_further true b c = refl
or_further false b c = refl

-- one of them was set that was as it had been
any-set : (ls ms : List ClientTold) (n : ℕ) (l m : ClientTold) → slice_get ls n ≡ Some l → slice_get ms n ≡ Some l
    → any_moved ls (slice_set ms n m) ≡ (any_moved ls ms || has_moved l m)
any-set [] ms n l m e f = absurd (none-some l e)
any-set (x ∷ ls) [] n l m e f = absurd (none-some l f)
any-set (x ∷ ls) (y ∷ ms) zero l m e f =
    let was : x ≡ l = same_Some x l e in
    let is : y ≡ l = same_Some y l f in
    ap (λ (z : ClientTold). has_moved z m || any_moved ls ms) was ∙ or_other (has_moved l m) (any_moved ls ms)
    ∙ ap (λ b. (b || any_moved ls ms) || has_moved l m) (sym (ap₂ has_moved was is ∙ moved-none l))
any-set (x ∷ ls) (y ∷ ms) (suc n) l m e f =
    ap (λ b. has_moved x y || b) (any-set ls ms n l m e f) ∙ or_further (has_moved x y) (any_moved ls ms) (has_moved l m)

-- ---- each is polled once

-- those that are open have numbers from the first on
from_first : (n : ℕ) (ls : List ClientTold) (i k : ℕ) → slice_get (open_from n ls) i ≡ Some k → n ≤ k
from_first n [] i k e = absurd (none-some k e)
from_first n (l ∷ ls) i k e = at (λ j h. from_first (suc n) ls j k h) (is_open l) i e
  where
    one_less : (n k : ℕ) → suc n ≤ k → n ≤ k
    one_less n k h = omega arith

    same : (n k : ℕ) → n ≡ k → n ≤ k
    same n k h = omega arith

    at : ((j : ℕ) → slice_get (open_from (suc n) ls) j ≡ Some k → suc n ≤ k) → (b : Bool) (i : ℕ)
        → slice_get (cond b (n ∷ open_from (suc n) ls) (open_from (suc n) ls)) i ≡ Some k → n ≤ k
    at later true zero h = same n k (same_Some n k h)
    at later true (suc i) h = one_less n k (later i h)
    at later false i h = one_less n k (later i h)

-- none of them stands twice
not_before : (n : ℕ) (ls : List ClientTold) (i k : ℕ) → slice_get (open_from n ls) i ≡ Some k → list_any (nat_eq k) (take i (open_from n ls)) ≡ false
not_before n [] i k e = absurd (none-some k e)
not_before n (l ∷ ls) i k e = at (λ j h. not_before (suc n) ls j k h) (is_open l) i e
  where
    other : (b : Bool) → nat_eq k n ≡ b → suc n ≤ k → nat_eq k n ≡ false
    other true is h = let same = nat_eq_is k n is in absurd (omega (arith, same, h))
    other false is h = is

    at : ((j : ℕ) → slice_get (open_from (suc n) ls) j ≡ Some k → list_any (nat_eq k) (take j (open_from (suc n) ls)) ≡ false) → (b : Bool) (i : ℕ)
        → slice_get (cond b (n ∷ open_from (suc n) ls) (open_from (suc n) ls)) i ≡ Some k
        → list_any (nat_eq k) (take i (cond b (n ∷ open_from (suc n) ls) (open_from (suc n) ls))) ≡ false
    at later true zero h = refl
    at later true (suc i) h = ap₂ (λ a b. a || b) (other (nat_eq k n) refl (from_first (suc n) ls i k h)) (later i h)
    at later false i h = later i h

-- connections that were not polled yet are as they were
abbrev pub AreUnpolled : List ℕ → List ClientTold → List ClientTold → Type 0
AreUnpolled numbers before now = (k : ℕ) → list_any (nat_eq k) numbers ≡ false → slice_get now k ≡ slice_get before k

neither : (a b : Bool) → a || (b || false) ≡ false → (a ≡ false) × (b ≡ false)
neither true b e = absurd (true≢false e)
neither false true e = absurd (true≢false e)
neither false false e = (refl, refl)

unlike : (k n : ℕ) → nat_eq k n ≡ false → nat_eq n k ≡ false
unlike k n other = by_number (nat_eq n k) refl
  where
    by_number : (b : Bool) → nat_eq n k ≡ b → nat_eq n k ≡ false
    by_number true h = absurd (true≢false (sym (ap (λ j. nat_eq j n) (sym (nat_eq_is n k h)) ∙ nat_eq_same n) ∙ other))
    by_number false h = h

-- one more was polled
pub unpolled-step : (numbers : List ℕ) (i d : ℕ) (x y z : Lined) → i < length numbers → AreUnpolled (take i numbers) x.connections y.connections
    → IsPolledAt (get_or numbers i d) y z → AreUnpolled (take (i + 1) numbers) x.connections z.connections
unpolled-step numbers i d x y z inside u at = subst (λ ns. AreUnpolled ns x.connections z.connections) (sym (take_more numbers i d inside)) (λ k e.
    let both = neither (list_any (nat_eq k) (take i numbers)) (nat_eq k (get_or numbers i d))
    (sym (list_any-append (nat_eq k) (take i numbers) (get_or numbers i d ∷ [])) ∙ e) in
    ap (λ ls. slice_get ls k) at.set ∙ get_set_other y.connections (get_or numbers i d) k at.later (unlike k (get_or numbers i d) both.1) ∙ u k both.0)

pub moved-step : (numbers queue : List ℕ) (i d : ℕ) (x y z : Lined) (moved one : Bool) → IsOrdered x.connections numbers queue → i < length numbers
    → AreUnpolled (take i numbers) x.connections y.connections → (at : IsPolledAt (get_or numbers i d) y z)
    → moved ≡ any_moved x.connections y.connections → one ≡ has_moved at.link at.later
    → moved || one ≡ any_moved x.connections z.connections
moved-step numbers queue i d x y z moved one o inside u at was is =
    let n = get_or numbers i d in
    let there : slice_get numbers i ≡ Some n = slice_get-get_or numbers i d inside in
    let fresh : list_any (nat_eq n) (take i numbers) ≡ false =
    subst (λ ns. slice_get ns i ≡ Some n → list_any (nat_eq n) (take i ns) ≡ false) (sym o.in_order) (not_before 0 x.connections i n) there in
    ap₂ (λ a b. a || b) was is ∙ sym (any-set x.connections y.connections n at.link at.later (sym (u n fresh) ∙ at.there) at.there)
    ∙ ap (any_moved x.connections) (sym at.set)

-- ---- what wires count where nothing moves

-- as many bytes were read and written as before
as_many : (l m : ClientTold) → has_moved l m ≡ false → (read_on m ≡ read_on l) × (written_on m ≡ written_on l)
as_many l m e = at (nat_eq (read_on m) (read_on l)) (nat_eq (written_on m) (written_on l)) refl refl e
  where
    at : (a b : Bool) → nat_eq (read_on m) (read_on l) ≡ a → nat_eq (written_on m) (written_on l) ≡ b → not a || not b ≡ false
        → (read_on m ≡ read_on l) × (written_on m ≡ written_on l)
    at true true read written h = (nat_eq_is (read_on m) (read_on l) read, nat_eq_is (written_on m) (written_on l) written)
    at true false read written h = absurd (true≢false h)
    at false b read written h = absurd (true≢false h)

at_least : (a b : ℕ) → a ≡ b → b ≤ a
at_least a b e = omega arith

-- of which a poll was pending
pub waited-pending : (told before now : ClientTold) → told ≡ before
    → (IsMoving (stage_at now) → read_on now ≡ read_on told → written_on now ≡ written_on told → now.in_a_row ≡ once_more told.in_a_row)
    → ((now.waits ≡ once_more told.waits) × IsMoving (stage_at now)) ⊎ ((now.waits ≡ told.waits) × IsUnanswered (stage_at now)) → HasWaited before now
waited-pending told before now same row ends = subst (λ l. HasWaited l now) same (by ends)
  where
    by : ((now.waits ≡ once_more told.waits) × IsMoving (stage_at now)) ⊎ ((now.waits ≡ told.waits) × IsUnanswered (stage_at now)) → HasWaited told now
    by (inl waited) = λ still.
        let counts = as_many told now still in
        inr (inr (
          at_least now.waits (added told.waits 1) waited.0,
          at_least now.in_a_row (added told.in_a_row 1) (row waited.1 counts.0 counts.1),
        ))
    by (inr asked) = λ still. inl asked.1

-- or over
pub waited-over : (before now : ClientTold) → IsOver (stage_at now) → HasWaited before now
waited-over before now over = λ still. inr (inl over)

-- one more was polled
pub waited-step : (numbers queue : List ℕ) (i d : ℕ) (x y z : Lined) → IsOrdered x.connections numbers queue → i < length numbers
    → AreUnpolled (take i numbers) x.connections y.connections → (at : IsPolledAt (get_or numbers i d) y z) → HasWaited at.link at.later
    → HaveWaitedAt (take i numbers) x.connections y.connections → HaveWaitedAt (take (i + 1) numbers) x.connections z.connections
waited-step numbers queue i d x y z o inside u at waited before =
    subst (λ ns. HaveWaitedAt ns x.connections z.connections) (sym (take_more numbers i d inside)) (λ k e. by_number k e (nat_eq (get_or numbers i d) k) refl)
  where
    there : slice_get numbers i ≡ Some (get_or numbers i d)
    there = slice_get-get_or numbers i d inside

    fresh : list_any (nat_eq (get_or numbers i d)) (take i numbers) ≡ false
    fresh = subst (λ ns. slice_get ns i ≡ Some (get_or numbers i d) → list_any (nat_eq (get_or numbers i d)) (take i ns) ≡ false) (sym o.in_order)
        (not_before 0 x.connections i (get_or numbers i d)) there

    here : (k : ℕ) → nat_eq (get_or numbers i d) k ≡ true → HasWaitedAt x.connections z.connections k
    here k e link later was now =
        let n = get_or numbers i d in
        let same : n ≡ k = nat_eq_is n k e in
        let is : at.link ≡ link = same_Some at.link link (sym at.there ∙ u n fresh ∙ ap (slice_get x.connections) same ∙ was) in
        let set : at.later ≡ later = same_Some at.later later
        (sym (get_set_same y.connections n at.link at.later at.there) ∙ ap (λ ls. slice_get ls n) (sym at.set) ∙ ap (slice_get z.connections) same ∙ now) in
        subst (λ m. HasWaited link m) set (subst (λ l. HasWaited l at.later) is waited)

    only : (a b : Bool) → a || (b || false) ≡ true → b ≡ false → a ≡ true
    only true b h i = refl
    only false true h i = absurd (true≢false i)
    only false false h i = absurd (true≢false (sym h))

    by_number : (k : ℕ) → list_any (nat_eq k) (take i numbers ++ get_or numbers i d ∷ []) ≡ true → (b : Bool) → nat_eq (get_or numbers i d) k ≡ b → HasWaitedAt x.connections z.connections k
    by_number k e true is link later was now = here k is link later was now
    by_number k e false is link later was now =
        let n = get_or numbers i d in
        before k (only (list_any (nat_eq k) (take i numbers)) (nat_eq k n) (sym (list_any-append (nat_eq k) (take i numbers) (n ∷ [])) ∙ e) (unlike n k is))
        link later was (sym (get_set_other y.connections n k at.later is) ∙ ap (λ ls. slice_get ls k) (sym at.set) ∙ now)

-- all of them, where those that are open were polled
pub waited-all : (ls ms : List ClientTold) (opened queue : List ℕ) → IsOrdered ls opened queue → ClientsGoOn ls ms → HaveWaitedAt opened ls ms → HaveWaited ls ms
waited-all ls ms opened queue o g h = each ls ms g (λ k link later was now. by_open k link later was now (is_open link) refl)
  where
    each : (ls ms : List ClientTold) → ClientsGoOn ls ms → ((k : ℕ) → HasWaitedAt ls ms k) → HaveWaited ls ms
    each [] [] g w = tt
    each [] (m ∷ ms) g w = absurd g
    each (l ∷ ls) [] g w = absurd g
    each (l ∷ ls) (m ∷ ms) g w = (w 0 l m refl refl, each ls ms g.1 (λ k. w (suc k)))

    by_open : (k : ℕ) (link later : ClientTold) → slice_get ls k ≡ Some link → slice_get ms k ≡ Some later → (b : Bool) → is_open link ≡ b → HasWaited link later
    by_open k link later was now true e =
        h k (subst (λ ns. list_any (nat_eq k) ns ≡ true) (sym o.in_order) (opened_there ls k link was e)) link later was now
    by_open k link later was now false e =
        let found = clients-at ls ms k link g was in
        let over : IsOver (stage_at link) = closed_over (stage_at link) e in
        let same : later ≡ link = same_Some later found.0 (sym now ∙ found.1) ∙ found.2.rests (inr over) in
        waited-over link later (subst (λ (x : ClientTold). IsOver (stage_at x)) (sym same) over)

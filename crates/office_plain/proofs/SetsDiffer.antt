-- The sets of a service have numbers of their own, and variables of their own.
use Rattle.std.proofs.Common.{◌≡◌, ◌≤◌, ◌<◌, ℕ, zero, suc, ◌+◌, ◌-◌, Bool, true, false, not, ◌&&◌, ◌||◌, List, [], ◌∷◌, ◌++◌, length, refl, sym, ap, ◌∙◌, arith, Option, None, Some, option_map, true≢false}
use Rattle.std.specs.Prelude.{nat_eq, nat_le, nat_lt, if◌then◌else◌, is_some, slice_get, unwrap_or}
use Rattle.std.specs.List.{list_all, list_any, range_with_len}
use Rattle.std.proofs.lemmas.Bool.Decides.{nat_tests}
use Rattle.correlation.specs.declared.session.SetOf.{SetOf}
use Rattle.correlation.specs.Sessions.{first, differ, are_sets}
use Rattle.behaviour_tree.specs.Data.{SetPart, ServicePart, ProgramParts}
use Rattle.office_core.specs.Keys.{sets_from, sets_of}
use Rattle.office_plain.specs.SetNumbers.{numbered_from, set_from, sets_before, numbered_sets}
use Rattle.office_plain.proofs.SetsInTurn.{one_set}

both : (a b : Bool) → a ≡ true → b ≡ true → (a && b) ≡ true
both true b h g = g
both false b h g = absurd (true≢false (sym h))

left : (a b : Bool) → (a && b) ≡ true → a ≡ true
left true b h = refl
left false b h = h

right : (a b : Bool) → (a && b) ≡ true → b ≡ true
right true b h = h
right false b h = absurd (true≢false (sym h))

neither : (a b : Bool) → a ≡ false → b ≡ false → (a || b) ≡ false
neither true b h g = absurd (true≢false h)
neither false b h g = g

at_least : (m n : ℕ) → m ≤ n → nat_le m n ≡ true
at_least m n h = grind (arith, nat_tests)

other : (v b w : ℕ) → v < b → nat_le b w ≡ true → nat_eq v w ≡ false
other v b w h g = grind (arith, nat_tests)

-- ---- variables

-- a number below others is none of them
below_all : (v b : ℕ) (ws : List ℕ) → v < b → list_all (nat_le b) ws ≡ true → list_any (nat_eq v) ws ≡ false
below_all v b [] h g = refl
below_all v b (w ∷ ws) h g =
    neither (nat_eq v w) (list_any (nat_eq v) ws)
    (other v b w h (left (nat_le b w) (list_all (nat_le b) ws) g))
    (below_all v b ws h (right (nat_le b w) (list_all (nat_le b) ws) g))

-- some numbers below others share none with them
apart : (k l b : ℕ) (ws : List ℕ) → k + l ≤ b → list_all (nat_le b) ws ≡ true
    → list_any (λ v. list_any (nat_eq v) ws) (range_with_len k l) ≡ false
apart k zero b ws h g = refl
apart k (suc l) b ws h g =
    neither (list_any (nat_eq k) ws) (list_any (λ v. list_any (nat_eq v) ws) (range_with_len (k + 1) l))
    (below_all k b ws (here k l b h) g)
    (apart (k + 1) l b ws (later k l b h) g)
  where
    here : (k l b : ℕ) → k + suc l ≤ b → k < b
    here k l b h = omega arith

    later : (k l b : ℕ) → k + suc l ≤ b → k + 1 + l ≤ b
    later k l b h = omega arith

range_beyond : (b k l : ℕ) → b ≤ k → list_all (nat_le b) (range_with_len k l) ≡ true
range_beyond b k zero h = refl
range_beyond b k (suc l) h =
    both (nat_le b k) (list_all (nat_le b) (range_with_len (k + 1) l)) (at_least b k h)
    (range_beyond b (k + 1) l (later b k h))
  where
    later : (b k : ℕ) → b ≤ k → b ≤ k + 1
    later b k h = omega arith

-- ---- sets

-- the set of a number with these variables
abbrev set_by : ℕ → List ℕ → SetOf
set_by n ns = record { set = n; variables = ns }

-- a set whose number is one at least, and whose variables are at least another
abbrev is_beyond : ℕ → ℕ → SetOf → Bool
is_beyond n k s = nat_le n s.set && list_all (nat_le k) s.variables

all_append : {A : Type 0} (p : A → Bool) (xs ys : List A) → list_all p xs ≡ true → list_all p ys ≡ true
    → list_all p (xs ++ ys) ≡ true
all_append p [] ys h g = g
all_append p (x ∷ xs) ys h g =
    both (p x) (list_all p (xs ++ ys)) (left (p x) (list_all p xs) h)
    (all_append p xs ys (right (p x) (list_all p xs) h) g)

one_beyond : (m b n k e : ℕ) → m ≤ n → b ≤ k → list_all (is_beyond m b) (set_from n k e) ≡ true
one_beyond m b n k e h g = by (nat_lt k e)
  where
    by : (c : Bool) → list_all (is_beyond m b) (if c then set_by n (range_with_len k (e - k)) ∷ [] else []) ≡ true
    by true =
        both (is_beyond m b (set_by n (range_with_len k (e - k)))) true
        (both (nat_le m n) (list_all (nat_le b) (range_with_len k (e - k))) (at_least m n h)
        (range_beyond b k (e - k) g)) refl
    by false = refl

all_beyond : (m b n k : ℕ) (sets : List SetPart) → m ≤ n → b ≤ k
    → list_all (is_beyond m b) (numbered_from n (sets_from k sets)) ≡ true
all_beyond m b n k [] h g = refl
all_beyond m b n k (set ∷ sets) h g =
    ap (list_all (is_beyond m b)) (one_set n k set.variables (sets_from (k + length set.variables) sets))
    ∙ all_append (is_beyond m b) (set_from n k (k + length set.variables))
    (numbered_from (suc n) (sets_from (k + length set.variables) sets))
    (one_beyond m b n k (k + length set.variables) h g)
    (all_beyond m b (suc n) (k + length set.variables) sets (next m n h) (more b k (length set.variables) g))
  where
    next : (m n : ℕ) → m ≤ n → m ≤ suc n
    next m n h = omega arith

    more : (b k l : ℕ) → b ≤ k → b ≤ k + l
    more b k l h = omega arith

differs : (n k l b : ℕ) (t : SetOf) → k + l ≤ b → is_beyond (suc n) b t ≡ true
    → differ (set_by n (range_with_len k l)) t ≡ true
differs n k l b t h g =
    both (not (nat_eq n t.set)) (not (list_any (λ v. list_any (nat_eq v) t.variables) (range_with_len k l)))
    (ap not (other n (suc n) t.set (less n) (left (nat_le (suc n) t.set) (list_all (nat_le b) t.variables) g)))
    (ap not (apart k l b t.variables h (right (nat_le (suc n) t.set) (list_all (nat_le b) t.variables) g)))
  where
    less : (n : ℕ) → n < suc n
    less n = omega arith

all_differ : (n k l b : ℕ) (ts : List SetOf) → k + l ≤ b → list_all (is_beyond (suc n) b) ts ≡ true
    → list_all (differ (set_by n (range_with_len k l))) ts ≡ true
all_differ n k l b [] h g = refl
all_differ n k l b (t ∷ ts) h g =
    both (differ (set_by n (range_with_len k l)) t) (list_all (differ (set_by n (range_with_len k l))) ts)
    (differs n k l b t h (left (is_beyond (suc n) b t) (list_all (is_beyond (suc n) b) ts) g))
    (all_differ n k l b ts h (right (is_beyond (suc n) b t) (list_all (is_beyond (suc n) b) ts) g))

some_number : (k l : ℕ) → 0 < l → is_some (first (range_with_len k l)) ≡ true
some_number k zero h = absurd (omega (arith, h))
some_number k (suc l) h = refl

-- a set more before others that are beyond it
one_more : (n k e : ℕ) (ts : List SetOf) → list_all (is_beyond (suc n) e) ts ≡ true → are_sets ts ≡ true
    → are_sets (set_from n k e ++ ts) ≡ true
one_more n k e ts beyond are = by (nat_lt k e) refl
  where
    some : (k e : ℕ) → nat_lt k e ≡ true → 0 < e - k
    some k e h = grind (arith, nat_tests)

    within : (k e : ℕ) → nat_lt k e ≡ true → k + (e - k) ≤ e
    within k e h = grind (arith, nat_tests)

    by : (c : Bool) → nat_lt k e ≡ c
        → are_sets ((if c then set_by n (range_with_len k (e - k)) ∷ [] else []) ++ ts) ≡ true
    by true h =
        both
        (is_some (first (range_with_len k (e - k))) && list_all (differ (set_by n (range_with_len k (e - k)))) ts)
        (are_sets ts)
        (both (is_some (first (range_with_len k (e - k)))) (list_all (differ (set_by n (range_with_len k (e - k)))) ts)
        (some_number k (e - k) (some k e h))
        (all_differ n k (e - k) e ts (within k e h) beyond))
        are
    by false h = are

differ_from : (n k : ℕ) (sets : List SetPart) → are_sets (numbered_from n (sets_from k sets)) ≡ true
differ_from n k [] = refl
differ_from n k (set ∷ sets) =
    ap are_sets (one_set n k set.variables (sets_from (k + length set.variables) sets))
    ∙ one_more n k (k + length set.variables) (numbered_from (suc n) (sets_from (k + length set.variables) sets))
    (all_beyond (suc n) (k + length set.variables) (suc n) (k + length set.variables) sets (same (suc n))
    (same (k + length set.variables)))
    (differ_from (suc n) (k + length set.variables) sets)
  where
    same : (n : ℕ) → n ≤ n
    same n = omega arith

-- the sets of a service are sets
pub sets_differ : (parts : ProgramParts) (d : ℕ) → are_sets (numbered_sets parts d) ≡ true
sets_differ parts d = by (slice_get parts.services d)
  where
    by : (o : Option ServicePart)
        → are_sets
        (unwrap_or (option_map (λ (s : ServicePart). numbered_from (sets_before parts d) (sets_of s)) o) []) ≡ true
    by None = refl
    by (Some s) = differ_from (sets_before parts d) 0 s.sets

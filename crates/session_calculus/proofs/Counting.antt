-- How often a number stands in lists.
use Rattle.std.proofs.Common.{◌≡◌, ℕ, ◌+◌, Bool, cond, List, [], ◌∷◌, ◌++◌, nat_eq, count_by, arith}
use Rattle.std.proofs.lemmas.List.Sums.{sum_by-cons, sum_by-append}

-- one where it is so
abbrev pub once : Bool → ℕ
once b = cond b 1 0

-- how often a number stands in a list
abbrev pub times : ℕ → List ℕ → ℕ
times k ns = count_by (nat_eq k) ns

-- in a longer list
pub times-cons : (k n : ℕ) (ns : List ℕ) → times k (n ∷ ns) ≡ once (nat_eq k n) + times k ns
times-cons k n ns = sum_by-cons (λ x. cond (nat_eq k x) 1 0) n ns

-- in two lists
pub times-append : (k : ℕ) (ns ms : List ℕ) → times k (ns ++ ms) ≡ times k ns + times k ms
times-append k ns ms = sum_by-append (λ x. cond (nat_eq k x) 1 0) ns ms

-- one number that comes
pub one_comes : (k n : ℕ) → times k (n ∷ []) + 0 ≡ 0 + once (nat_eq k n)
one_comes k n = omega (arith, times-cons k n [])

-- one number that goes
pub one_goes : (k n : ℕ) → 0 + once (nat_eq k n) ≡ times k (n ∷ []) + 0
one_goes k n = omega (arith, times-cons k n [])

-- the same on both sides of a count
pub put_aside : (x x' closed before before' opened extra : ℕ) → x' ≡ x + extra → before' ≡ before + extra
    → x + closed ≡ before + opened → x' + closed ≡ before' + opened
put_aside x x' closed before before' opened extra e e' h = omega arith

-- the same the other way round
pub put_before : (x x' closed before before' opened extra : ℕ) → x' ≡ extra + x → before' ≡ extra + before
    → x + closed ≡ before + opened → x' + closed ≡ before' + opened
put_before x x' closed before before' opened extra e e' h = omega arith

-- what an event counts, and what the steps after it count
pub add_up : (all now later left between before opened opened_all opened_later : ℕ) → all ≡ now + later
    → opened_all ≡ opened + opened_later → between + now ≡ before + opened → later + left ≡ opened_later + between
    → all + left ≡ opened_all + before
add_up all now later left between before opened opened_all opened_later e e' h h' = omega arith

-- What a change at one index makes of a vector.
use Rattle.std.proofs.Common.{◌≡◌, ◌≤◌, ◌<◌, ℕ, zero, suc, List, [], ◌∷◌, ◌++◌, length, refl, ap, subst, arith, get_or, slice_set, take, drop, ◌-◌, ◌+◌, add-one, length-drop, Some, None, cond, ltb, Bool, true, false}
use mir.Val.{bool_byte}
use Rattle.std.proofs.lemmas.Bool.Decides.{nat_tests}
use Rattle.std.specs.List.{remove}
use Rattle.std.specs.Option.{option_len}
use Rattle.jolie_trees.specs.declared.root.Root.{Root}
use Rattle.jolie_trees.specs.declared.path.Step.{Step}
use Rattle.jolie_trees.specs.Data.{Tree, node, Fields, Trees, no_trees, tree}
use Rattle.jolie_trees.specs.Trees.{void_tree, nth, index_of, count_of, levels, trees_levels, with_last, without_nth, change_nth, change_nth_if_there, change_if_there, undef}
use Rattle.jolie_trees.specs.Changes.{undef_below}
use Rattle.jolie_trees.specs.TreeView.{trees_of}

-- where the node is there, nothing has to be made
pub change_nth-there : (n : ℕ) (xs : List Tree) → n < length xs → change_nth n (λ t. t) (trees_of xs) ≡ trees_of xs
change_nth-there n [] h = absurd (omega (arith, h))
change_nth-there zero (x ∷ xs) h = refl
change_nth-there (suc n) (x ∷ xs) h = ap (tree x) (change_nth-there n xs (omega (arith, h)))

-- a void node more at the end of a vector that is too short changes nothing of what has to be made
pub change_nth-padded : (n : ℕ) (xs : List Tree) → length xs ≤ n
    → change_nth n (λ t. t) (trees_of (xs ++ void_tree ∷ [])) ≡ change_nth n (λ t. t) (trees_of xs)
change_nth-padded zero [] h = refl
change_nth-padded (suc n) [] h = refl
change_nth-padded zero (x ∷ xs) h = absurd (omega (arith, h))
change_nth-padded (suc n) (x ∷ xs) h = ap (tree x) (change_nth-padded n xs (omega (arith, h)))

-- to make the missing nodes first changes nothing
pub change_nth-again : (n : ℕ) (f : Tree → Tree) (ts : Trees) → change_nth n f (change_nth n (λ t. t) ts) ≡ change_nth n f ts
change_nth-again zero f no_trees = refl
change_nth-again zero f (tree t ts) = refl
change_nth-again (suc n) f no_trees = ap (tree void_tree) (change_nth-again n f no_trees)
change_nth-again (suc n) f (tree t ts) = ap (tree t) (change_nth-again n f ts)

-- a node that is there is written over
pub change_nth-set : (n : ℕ) (xs : List Tree) (f : Tree → Tree) (u d : Tree) → n < length xs → u ≡ f (get_or xs n d)
    → trees_of (slice_set xs n u) ≡ change_nth n f (trees_of xs)
change_nth-set n [] f u d h e = absurd (omega (arith, h))
change_nth-set zero (x ∷ xs) f u d h e = ap (λ t. tree t (trees_of xs)) e
change_nth-set (suc n) (x ∷ xs) f u d h e = ap (tree x) (change_nth-set n xs f u d (omega (arith, h)) e)

take_all : {A : Type 0} (xs : List A) → take (length xs) xs ≡ xs
take_all [] = refl
take_all (x ∷ xs) = ap (λ ys. x ∷ ys) (take_all xs)

-- what stands behind an index
pub take-behind : (n : ℕ) (xs : List Tree) → take (length xs - (n + 1)) (drop (n + 1) xs) ≡ drop (suc n) xs
take-behind n xs = rw (add-one, ← length-drop (suc n) xs) (take_all (drop (suc n) xs))

pub nth-within : (n : ℕ) (xs : List Tree) (d : Tree) → n < length xs → nth n (trees_of xs) ≡ Some (get_or xs n d)
nth-within n [] d h = absurd (omega (arith, h))
nth-within zero (x ∷ xs) d h = refl
nth-within (suc n) (x ∷ xs) d h = nth-within n xs d (omega (arith, h))

pub nth-beyond : (n : ℕ) (xs : List Tree) → length xs ≤ n → nth n (trees_of xs) ≡ None
nth-beyond n [] h = refl
nth-beyond zero (x ∷ xs) h = absurd (omega (arith, h))
nth-beyond (suc n) (x ∷ xs) h = nth-beyond n xs (omega (arith, h))

pub count_of-length : (xs : List Tree) → count_of (trees_of xs) ≡ length xs
count_of-length [] = refl
count_of-length (x ∷ xs) = ap suc (count_of-length xs)

-- a member has no more levels than all together
pub levels-member : (ts : List Tree) (i : ℕ) (t : Tree) → i < length ts → t ≡ get_or ts i t → levels t ≤ trees_levels (trees_of ts)
levels-member [] i t h is = absurd (omega (arith, h))
levels-member (u ∷ ts) zero t h is = let e : levels t ≡ levels u = ap levels is in omega (arith, e)
levels-member (u ∷ ts) (suc i) t h is = omega (arith, levels-member ts i t (omega (arith, h)) is)

-- one more node goes last
pub with_last-append : (t : Tree) (xs : List Tree) → trees_of (xs ++ t ∷ []) ≡ with_last t (trees_of xs)
with_last-append t [] = refl
with_last-append t (x ∷ xs) = ap (tree x) (with_last-append t xs)

-- a node that is taken away
pub without_nth-within : (n : ℕ) (xs : List Tree) → n < length xs → trees_of (remove xs n) ≡ without_nth n (trees_of xs)
without_nth-within n [] h = absurd (omega (arith, h))
without_nth-within zero (x ∷ xs) h = refl
without_nth-within (suc n) (x ∷ xs) h = ap (tree x) (without_nth-within n xs (omega (arith, h)))

pub without_nth-beyond : (n : ℕ) (xs : List Tree) → length xs ≤ n → without_nth n (trees_of xs) ≡ trees_of xs
without_nth-beyond n [] h = refl
without_nth-beyond zero (x ∷ xs) h = absurd (omega (arith, h))
without_nth-beyond (suc n) (x ∷ xs) h = ap (tree x) (without_nth-beyond n xs (omega (arith, h)))

-- a change of a node that may be missing
pub change_nth_if_there-set : (n : ℕ) (xs : List Tree) (f : Tree → Tree) (u d : Tree) → n < length xs → u ≡ f (get_or xs n d)
    → trees_of (slice_set xs n u) ≡ change_nth_if_there n f (trees_of xs)
change_nth_if_there-set n [] f u d h e = absurd (omega (arith, h))
change_nth_if_there-set zero (x ∷ xs) f u d h e = ap (λ t. tree t (trees_of xs)) e
change_nth_if_there-set (suc n) (x ∷ xs) f u d h e = ap (tree x) (change_nth_if_there-set n xs f u d (omega (arith, h)) e)

pub change_nth_if_there-beyond : (n : ℕ) (xs : List Tree) (f : Tree → Tree) → length xs ≤ n → change_nth_if_there n f (trees_of xs) ≡ trees_of xs
change_nth_if_there-beyond n [] f h = refl
change_nth_if_there-beyond zero (x ∷ xs) f h = absurd (omega (arith, h))
change_nth_if_there-beyond (suc n) (x ∷ xs) f h = ap (tree x) (change_nth_if_there-beyond n xs f (omega (arith, h)))

-- a path without its nodes, past its first step
pub undef_below-more : (s : Step) (p : List Step) (ts : Trees) → 1 ≤ length p → undef_below s p ts ≡ change_nth_if_there (index_of s) (undef p) ts
undef_below-more s [] ts h = absurd (omega (arith, h))
undef_below-more s (s' ∷ p) ts h = refl

pub undef-first : (s : Step) (p : List Step) (r : Root) (fs : Fields) → undef (s ∷ p) (node r fs) ≡ node r (change_if_there s.name (undef_below s p) fs)
undef-first s [] r fs = refl
undef-first s (s' ∷ p) r fs = refl

-- some nodes are there
abbrev pub IsFilled : Trees → Type 0
IsFilled no_trees = ⊥
IsFilled (tree t ts) = Unit {0}

pub IsFilled-unless : (ts : Trees) → (ts ≡ no_trees → ⊥) → IsFilled ts
IsFilled-unless no_trees h = h refl
IsFilled-unless (tree t ts) h = tt

-- a vector of no nodes has no items
pub trees_of-empty : (xs : List Tree) → trees_of xs ≡ no_trees → length xs ≡ 0
trees_of-empty [] h = refl
trees_of-empty (x ∷ xs) h = absurd (subst IsFilled h tt)

pub trees_of-none : (xs : List Tree) → length xs ≡ 0 → trees_of xs ≡ no_trees
trees_of-none [] h = refl
trees_of-none (x ∷ xs) h = absurd (omega (arith, h))

-- one node where the index is within a vector, else none
pub option_len-nth : (n : ℕ) (xs : List Tree) → option_len (nth n (trees_of xs)) ≡ cond (ltb n (length xs)) 1 0
option_len-nth n [] = grind (arith, nat_tests)
option_len-nth zero (x ∷ xs) = grind (arith, nat_tests)
option_len-nth (suc n) (x ∷ xs) = let more = option_len-nth n xs in grind (arith, nat_tests, more)

pub bool_byte-cond : (b : Bool) → bool_byte b ≡ cond b 1 0
bool_byte-cond true = refl
bool_byte-cond false = refl

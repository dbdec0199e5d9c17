-- The order of keys is total, and ties exactly the keys that `==` finds equal.
use Rattle.std.proofs.Common.{◌≡◌, ◌≤◌, ◌<◌, length, drop, zero, suc, arith, ℕ, ℤ, Bool, true, false, ◌&&◌, List, [], ◌∷◌, Ordering, Less, Equal, Greater, nat_cmp, bytes_eq, refl, sym, ap, ◌∙◌}
use Rattle.std.specs.Cmp.{IsTotalOrder}
use Rattle.std.specs.Cmp.Lexicographic.{slice_cmp, texts_ties}
use Rattle.std.specs.Ordering.{int_cmp, int_eq, is_eq, ordering_then}
use Rattle.std.proofs.lemmas.Bool.Decides.{nat_tests}
use Rattle.std.proofs.lemmas.Cmp.{then_total, on_total, lists_total, nat_cmp_total, int_cmp_total, nat_list_cmp_total}
use Rattle.jolie_trees.specs.declared.root.Root.{Root}
use Rattle.jolie_trees.specs.declared.root.Root.TheVariants as root
use Rattle.behaviour_tree.specs.Comparisons.{same}
use Rattle.correlation.specs.Order.{are_equal, kind_of, number_of, bytes_of, value_order, key_order}

-- values have a total order
pub values_total : IsTotalOrder value_order
values_total = then_total (then_total (on_total kind_of nat_cmp_total) (on_total number_of int_cmp_total)) (on_total bytes_of nat_list_cmp_total)

-- so have keys
pub keys_total : IsTotalOrder key_order
keys_total = lists_total values_total

-- numbers one more compare as they do
cmp_suc : (m n : ℕ) → nat_cmp m n ≡ nat_cmp (suc m) (suc n)
cmp_suc m n = grind (arith, nat_tests)

-- none is before some
cmp_none : (n : ℕ) → Less ≡ nat_cmp 0 (suc n)
cmp_none n = grind (arith, nat_tests)

-- some is after none
cmp_some : (n : ℕ) → Greater ≡ nat_cmp (suc n) 0
cmp_some n = grind (arith, nat_tests)

-- where one of two lists has ended, their lengths decide
pub ended : (p : ℕ) (l r : List Root) → p ≤ length l → p ≤ length r → (p < length l → p < length r → ⊥)
    → key_order (drop p l) (drop p r) ≡ nat_cmp (length l) (length r)
ended zero [] [] a b h = refl
ended zero [] (y ∷ ys) a b h = cmp_none (length ys)
ended zero (x ∷ xs) [] a b h = cmp_some (length xs)
ended zero (x ∷ xs) (y ∷ ys) a b h = absurd (h (omega arith) (omega arith))
ended (suc p) [] r a b h = absurd (omega arith)
ended (suc p) (x ∷ xs) [] a b h = absurd (omega arith)
ended (suc p) (x ∷ xs) (y ∷ ys) a b h =
    ended p xs ys (omega arith) (omega arith) (λ i j. h (omega arith) (omega arith)) ∙ cmp_suc (length xs) (length ys)

-- ---- equal keys

-- a text is equal where no byte differs
texts_tie : (a b : List ℕ) → bytes_eq a b ≡ is_eq (slice_cmp nat_cmp a b)
texts_tie a b = texts_ties a b

-- an order that another follows only where it ties
then_equal : (o : Ordering) → is_eq o ≡ is_eq (ordering_then (ordering_then Equal o) Equal)
then_equal Less = refl
then_equal Equal = refl
then_equal Greater = refl

-- values tie exactly where `==` finds them equal
pub values_tie : (a b : Root) → same a b ≡ is_eq (value_order a b)
values_tie root.Void root.Void = refl
values_tie root.Void (root.Bool b) = refl
values_tie root.Void (root.Int b) = refl
values_tie root.Void (root.Long b) = refl
values_tie root.Void (root.Text b) = refl
values_tie (root.Bool true) root.Void = refl
values_tie (root.Bool true) (root.Bool true) = refl
values_tie (root.Bool true) (root.Bool false) = refl
values_tie (root.Bool true) (root.Int b) = refl
values_tie (root.Bool true) (root.Long b) = refl
values_tie (root.Bool true) (root.Text b) = refl
values_tie (root.Bool false) root.Void = refl
values_tie (root.Bool false) (root.Bool true) = refl
values_tie (root.Bool false) (root.Bool false) = refl
values_tie (root.Bool false) (root.Int b) = refl
values_tie (root.Bool false) (root.Long b) = refl
values_tie (root.Bool false) (root.Text b) = refl
values_tie (root.Int a) root.Void = refl
values_tie (root.Int a) (root.Bool b) = refl
values_tie (root.Int a) (root.Int b) = then_equal (int_cmp a b)
values_tie (root.Int a) (root.Long b) = then_equal (int_cmp a b)
values_tie (root.Int a) (root.Text b) = refl
values_tie (root.Long a) root.Void = refl
values_tie (root.Long a) (root.Bool b) = refl
values_tie (root.Long a) (root.Int b) = then_equal (int_cmp a b)
values_tie (root.Long a) (root.Long b) = then_equal (int_cmp a b)
values_tie (root.Long a) (root.Text b) = refl
values_tie (root.Text a) root.Void = refl
values_tie (root.Text a) (root.Bool b) = refl
values_tie (root.Text a) (root.Int b) = refl
values_tie (root.Text a) (root.Long b) = refl
values_tie (root.Text a) (root.Text b) = texts_tie a b

-- two orders tie where each does
both_tie : (o p : Ordering) → is_eq o && is_eq p ≡ is_eq (ordering_then o p)
both_tie Less p = refl
both_tie Equal p = refl
both_tie Greater p = refl

-- keys tie exactly where `==` finds their values equal, one by one
pub keys_tie : (k l : List Root) → are_equal k l ≡ is_eq (key_order k l)
keys_tie [] [] = refl
keys_tie [] (b ∷ l) = refl
keys_tie (a ∷ k) [] = refl
keys_tie (a ∷ k) (b ∷ l) =
    ap (λ s. s && are_equal k l) (values_tie a b) ∙ ap (λ s. is_eq (value_order a b) && s) (keys_tie k l)
    ∙ both_tie (value_order a b) (key_order k l)

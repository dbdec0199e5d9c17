-- What is taken away, and what is left.
use Rattle.std.proofs.Common.{◌≡◌, ℕ, zero, suc, ◌+◌, ◌≤◌, List, [], ◌∷◌, length, Option, None, Some, Bool, true, false, refl, arith}
use Rattle.std.specs.Prelude.{bytes_eq, if◌then◌else◌, option_map, unwrap_or}
use Rattle.jolie_trees.specs.declared.path.Step.{Step}
use Rattle.jolie_trees.specs.Data.{Tree, node, Fields, no_fields, field, Trees, no_trees, tree}
use Rattle.jolie_trees.specs.Trees.{size, fields_size, trees_size, nth, under, child, without_nth, left_of, field_if, change_if_there, change_nth_if_there, index_of, undef}
use Rattle.jolie_trees.specs.Counts.{taken_of, taken}
use Rattle.jolie_trees.specs.Laws.{UndefTakes}

-- the nodes of a tree that may be missing
abbrev count_in : (Tree → ℕ) → Option Tree → ℕ
count_in f t = unwrap_or (option_map f t) 0

without_nth-takes : (n : ℕ) (ts : Trees) → trees_size (without_nth n ts) + count_in size (nth n ts) ≡ trees_size ts
without_nth-takes n no_trees = omega arith
without_nth-takes zero (tree t ts) = omega arith
without_nth-takes (suc n) (tree t ts) = let more = without_nth-takes n ts in omega (arith, more)

left_of-takes : (index : Option ℕ) (ts : Trees) → trees_size (left_of index ts) + taken_of index ts ≡ trees_size ts
left_of-takes None ts = omega arith
left_of-takes (Some n) ts = without_nth-takes n ts

change_nth_if_there-takes : (n : ℕ) (f : Tree → Tree) (g : Tree → ℕ) → ((t : Tree) → size (f t) + g t ≡ size t)
    → (ts : Trees) → trees_size (change_nth_if_there n f ts) + count_in g (nth n ts) ≡ trees_size ts
change_nth_if_there-takes n f g takes no_trees = omega arith
change_nth_if_there-takes zero f g takes (tree t ts) = let one = takes t in omega (arith, one)
change_nth_if_there-takes (suc n) f g takes (tree t ts) =
    let more = change_nth_if_there-takes n f g takes ts in omega (arith, more)

field_if-size : (name : List ℕ) (ts : Trees) (fs : Fields) → fields_size (field_if name ts fs) ≡ trees_size ts + fields_size fs
field_if-size name no_trees fs = omega arith
field_if-size name (tree t ts) fs = omega arith

takes-step : (b : Bool) (name : List ℕ) (g : Trees → Trees) (h : Trees → ℕ) (ts below : Trees) (gs fs : Fields) → ((ts : Trees) → trees_size (g ts) + h ts ≡ trees_size ts)
    → fields_size gs + h below ≡ fields_size fs
    → fields_size (if b then field_if name (g ts) fs else field name ts gs) + h (if b then ts else below) ≡ trees_size ts + fields_size fs
takes-step true name g h ts below gs fs takes more = let one = takes ts in let put = field_if-size name (g ts) fs in omega (arith, one, put)
takes-step false name g h ts below gs fs takes more = omega (arith, more)

change_if_there-takes : (name : List ℕ) (g : Trees → Trees) (h : Trees → ℕ) → ((ts : Trees) → trees_size (g ts) + h ts ≡ trees_size ts)
    → (fs : Fields) → fields_size (change_if_there name g fs) + h (under name fs) ≡ fields_size fs
change_if_there-takes name g h takes no_fields = let none = takes no_trees in omega (arith, none)
change_if_there-takes name g h takes (field other ts fs) =
    takes-step (bytes_eq name other) other g h ts (under name fs) (change_if_there name g fs) fs takes (change_if_there-takes name g h takes fs)

-- past its first step
pub taken-more : (s : Step) (p : List Step) (t : Tree) → 1 ≤ length p
    → taken (s ∷ p) t ≡ count_in (taken p) (child s t)
taken-more s [] t h = absurd (omega (arith, h))
taken-more s (s' ∷ p) t h = refl

above : (n k m : ℕ) → n + k ≡ m → suc n + k ≡ suc m
above n k m h = omega (arith, h)

pub undef-takes : UndefTakes
undef-takes [] t = omega arith
undef-takes (s ∷ []) (node r fs) =
    above _ _ _ (change_if_there-takes s.name (left_of s.index) (taken_of s.index) (left_of-takes s.index) fs)
undef-takes (s ∷ s' ∷ p) (node r fs) =
    above _ _ _ (change_if_there-takes s.name (change_nth_if_there (index_of s) (undef (s' ∷ p)))
    (λ ts. count_in (taken (s' ∷ p)) (nth (index_of s) ts))
    (change_nth_if_there-takes (index_of s) (undef (s' ∷ p)) (taken (s' ∷ p)) (undef-takes (s' ∷ p))) fs)

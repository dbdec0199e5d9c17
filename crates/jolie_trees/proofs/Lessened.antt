-- What is taken away makes no tree larger.
use Rattle.std.proofs.Common.{◌≡◌, ◌≤◌, ℕ, zero, suc, List, [], ◌∷◌, Option, None, Some, Bool, true, false, arith}
use Rattle.std.proofs.lemmas.Bool.Decides.{nat_tests}
use Rattle.std.specs.Prelude.{bytes_eq, if◌then◌else◌}
use Rattle.jolie_trees.specs.declared.path.Step.{Step}
use Rattle.jolie_trees.specs.Data.{Tree, node, Fields, no_fields, field, Trees, no_trees, tree}
use Rattle.jolie_trees.specs.Trees.{size, levels, fields_size, fields_levels, trees_size, trees_levels}
use Rattle.jolie_trees.specs.Trees.{without_nth, left_of, field_if, change_if_there, change_nth_if_there, index_of, undef}
use Rattle.jolie_trees.specs.Limits.{is_store}
use Rattle.jolie_trees.specs.Laws.{UndefKeepsLimits}

-- one tree has no more nodes and no more levels than another
abbrev pub IsNoLarger : Tree → Tree → Type 0
IsNoLarger u t = (size u ≤ size t) × (levels u ≤ levels t)

-- the same of children
abbrev pub FieldsAreNoLarger : Fields → Fields → Type 0
FieldsAreNoLarger gs fs = (fields_size gs ≤ fields_size fs) × (fields_levels gs ≤ fields_levels fs)

-- the same of vectors
abbrev pub TreesAreNoLarger : Trees → Trees → Type 0
TreesAreNoLarger us ts = (trees_size us ≤ trees_size ts) × (trees_levels us ≤ trees_levels ts)

without_nth-lessens : (n : ℕ) (ts : Trees) → TreesAreNoLarger (without_nth n ts) ts
without_nth-lessens n no_trees = (omega arith, omega arith)
without_nth-lessens zero (tree t ts) = (omega arith, omega arith)
without_nth-lessens (suc n) (tree t ts) = let more = without_nth-lessens n ts in (omega (arith, more.0), omega (arith, more.1))

left_of-lessens : (index : Option ℕ) (ts : Trees) → TreesAreNoLarger (left_of index ts) ts
left_of-lessens None ts = (omega arith, omega arith)
left_of-lessens (Some n) ts = without_nth-lessens n ts

change_nth_if_there-lessens : (n : ℕ) (f : Tree → Tree) → ((t : Tree) → IsNoLarger (f t) t)
    → (ts : Trees) → TreesAreNoLarger (change_nth_if_there n f ts) ts
change_nth_if_there-lessens n f lessens no_trees = (omega arith, omega arith)
change_nth_if_there-lessens zero f lessens (tree t ts) = let less = lessens t in (omega (arith, less.0), omega (arith, less.1))
change_nth_if_there-lessens (suc n) f lessens (tree t ts) =
    let more = change_nth_if_there-lessens n f lessens ts in (omega (arith, more.0), omega (arith, more.1))

field_if-lessens : (name : List ℕ) (us ts : Trees) (fs : Fields) → TreesAreNoLarger us ts
    → FieldsAreNoLarger (field_if name us fs) (field name ts fs)
field_if-lessens name no_trees ts fs less = (omega arith, omega arith)
field_if-lessens name (tree u us) ts fs less = (omega (arith, less.0), omega (arith, less.1))

lessens-step : (b : Bool) (name : List ℕ) (us ts : Trees) (gs fs : Fields) → TreesAreNoLarger us ts → FieldsAreNoLarger gs fs
    → FieldsAreNoLarger (if b then field_if name us fs else field name ts gs) (field name ts fs)
lessens-step true name us ts gs fs less more = field_if-lessens name us ts fs less
lessens-step false name us ts gs fs less more = (omega (arith, more.0), omega (arith, more.1))

change_if_there-lessens : (name : List ℕ) (g : Trees → Trees) → ((ts : Trees) → TreesAreNoLarger (g ts) ts)
    → (fs : Fields) → FieldsAreNoLarger (change_if_there name g fs) fs
change_if_there-lessens name g lessens no_fields = (omega arith, omega arith)
change_if_there-lessens name g lessens (field other ts fs) =
    lessens-step (bytes_eq name other) other (g ts) ts (change_if_there name g fs) fs (lessens ts) (change_if_there-lessens name g lessens fs)

above-lessens : (gs fs : Fields) → FieldsAreNoLarger gs fs → (suc (fields_size gs) ≤ suc (fields_size fs)) × (suc (fields_levels gs) ≤ suc (fields_levels fs))
above-lessens gs fs less = (omega (arith, less.0), omega (arith, less.1))

-- a tree without some of its nodes
pub undef-lessens : (p : List Step) (t : Tree) → IsNoLarger (undef p t) t
undef-lessens [] t = (omega arith, omega arith)
undef-lessens (s ∷ []) (node r fs) = above-lessens _ fs (change_if_there-lessens s.name (left_of s.index) (left_of-lessens s.index) fs)
undef-lessens (s ∷ s' ∷ p) (node r fs) =
    above-lessens _ fs
    (change_if_there-lessens s.name (change_nth_if_there (index_of s) (undef (s' ∷ p)))
    (change_nth_if_there-lessens (index_of s) (undef (s' ∷ p)) (undef-lessens (s' ∷ p))) fs)

-- a tree within the limits, and one that is no larger
is_store-lessens : (u t : Tree) → IsNoLarger u t → is_store t ≡ true → is_store u ≡ true
is_store-lessens u t less h = let nodes = less.0 in let depth = less.1 in grind (arith, nat_tests, nodes, depth, h)

pub undef-keeps_limits : UndefKeepsLimits
undef-keeps_limits p t h = is_store-lessens (undef p t) t (undef-lessens p t) h

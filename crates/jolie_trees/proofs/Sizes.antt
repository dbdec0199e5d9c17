-- Sums of sizes, as a loop adds them up.
use Rattle.std.proofs.Common.{◌≡◌, suc, ℕ, ◌+◌, max, List, [], ◌∷◌, refl, ap, ◌∙◌, arith}
use Rattle.std.specs.Map.{values_of}
use Rattle.jolie_trees.specs.declared.extent.Extent.{Extent}
use Rattle.jolie_trees.specs.declared.root.Root.{Root}
use Rattle.jolie_trees.specs.Data.{node, Fields, no_fields, field, Trees, no_trees}
use Rattle.jolie_trees.specs.Trees.{fields_size, fields_levels, trees_size, trees_levels}
use Rattle.jolie_trees.specs.Limits.{in_u64, in_u32}
use Rattle.jolie_trees.specs.Extents.{extent, extent_of, fields_extent}
use Rattle.jolie_trees.specs.TreeView.{fields_of}

abbrev pub Entry : Type 0
Entry = List ℕ × Trees

-- children whose names count for nothing
abbrev pub unnamed : List Trees → Fields
unnamed [] = no_fields
unnamed (ts ∷ tss) = field [] ts (unnamed tss)

pub fields_size-unnamed : (es : List Entry) → fields_size (unnamed (values_of es)) ≡ fields_size (fields_of es)
fields_size-unnamed [] = refl
fields_size-unnamed (e ∷ es) = ap (λ n. trees_size e.1 + n) (fields_size-unnamed es)

pub fields_levels-unnamed : (es : List Entry) → fields_levels (unnamed (values_of es)) ≡ fields_levels (fields_of es)
fields_levels-unnamed [] = refl
fields_levels-unnamed (e ∷ es) = ap (λ n. max (trees_levels e.1) n) (fields_levels-unnamed es)

pub fields_extent-unnamed : (es : List Entry) → fields_extent (unnamed (values_of es)) ≡ fields_extent (fields_of es)
fields_extent-unnamed es = λ i. extent (fields_size-unnamed es i) (fields_levels-unnamed es i)

-- equal numbers make equal extents
pub extent-same : (a b : Extent) → a.nodes ≡ b.nodes → a.levels ≡ b.levels → a ≡ b
extent-same a b n l = λ i. record { nodes = n i; levels = l i }

-- a sum to which nothing is left to add
pub extent-done : (sum : Extent) (left : Trees) (whole : Extent) → left ≡ no_trees → sum ≡ extent sum.nodes sum.levels
    → extent (sum.nodes + trees_size left) (max sum.levels (trees_levels left)) ≡ whole → sum ≡ whole
extent-done sum left whole none fits all =
    let n : sum.nodes ≡ sum.nodes + trees_size left = rw none (omega arith) in
    let l : sum.levels ≡ max sum.levels (trees_levels left) = rw none (omega arith) in
    fits ∙ (λ i. extent (n i) (l i)) ∙ all

-- the node above children that were all added up
pub extent-under : (r : Root) (sum under : Extent) (left fs : Fields) → left ≡ no_fields
    → extent (sum.nodes + fields_size left) (max sum.levels (fields_levels left)) ≡ fields_extent fs
    → under.nodes ≡ in_u64 (sum.nodes + 1) → under.levels ≡ in_u32 (sum.levels + 1) → under ≡ extent_of (node r fs)
extent-under r sum under left fs none all n l =
    let sizes : in_u64 (sum.nodes + fields_size left) ≡ in_u64 (fields_size fs) = ap (λ (e : Extent). e.nodes) all in
    let depths : in_u32 (max sum.levels (fields_levels left)) ≡ in_u32 (fields_levels fs) = ap (λ (e : Extent). e.levels) all in
    let no_size : fields_size left ≡ 0 = ap fields_size none in
    let no_levels : fields_levels left ≡ 0 = ap fields_levels none in
    extent-same under (extent_of (node r fs)) (omega arith) (omega arith)

-- extents beside one another
pub extent-beside : (a b r : Extent) (m n k l : ℕ) → a ≡ extent m k → b ≡ extent n l
    → r.nodes ≡ in_u64 (a.nodes + b.nodes) → r.levels ≡ max a.levels b.levels → r ≡ extent (m + n) (max k l)
extent-beside a b r m n k l p q nodes depth =
    let pn : a.nodes ≡ in_u64 m = ap (λ (e : Extent). e.nodes) p in
    let pl : a.levels ≡ in_u32 k = ap (λ (e : Extent). e.levels) p in
    let qn : b.nodes ≡ in_u64 n = ap (λ (e : Extent). e.nodes) q in
    let ql : b.levels ≡ in_u32 l = ap (λ (e : Extent). e.levels) q in
    extent-same r (extent (m + n) (max k l)) (omega arith) (omega arith)

-- the extent of a node and what is below it
pub extent-above : (a r : Extent) (n l : ℕ) → a ≡ extent n l → r.nodes ≡ in_u64 (a.nodes + 1) → r.levels ≡ in_u32 (a.levels + 1)
    → r ≡ extent (suc n) (suc l)
extent-above a r n l p nodes depth =
    let pn : a.nodes ≡ in_u64 n = ap (λ (e : Extent). e.nodes) p in
    let pl : a.levels ≡ in_u32 l = ap (λ (e : Extent). e.levels) p in
    extent-same r (extent (suc n) (suc l)) (omega arith) (omega arith)

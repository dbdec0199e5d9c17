-- How many nodes and levels a change adds, on the way to the node that it changes.
use Rattle.std.proofs.Common.{◌≡◌, ◌≤◌, ◌<◌, ◌+◌, ◌-◌, ℕ, zero, suc, max, min, List, [], ◌∷◌, length, slice_get, Option, None, Some, Bool, true, false, nat_cmp, refl, ap, sym, ◌∙◌, arith}
use Rattle.std.proofs.lemmas.Bool.Decides.{nat_tests}
use Rattle.std.specs.Prelude.{bytes_eq, if◌then◌else◌, unwrap_or}
use Rattle.std.specs.Cmp.Lexicographic.{slice_cmp}
use Rattle.std.specs.List.Sorted.{IsStrictlySortedBy}
use Rattle.jolie_trees.specs.declared.path.Step.{Step}
use Rattle.jolie_trees.specs.declared.extent.Extent.{Extent}
use Rattle.jolie_trees.specs.declared.root.Root.{Root}
use Rattle.jolie_trees.specs.Data.{Tree, node, Fields, no_fields, field, Trees, no_trees, tree}
use Rattle.jolie_trees.specs.Trees.{void_tree, size, levels, fields_size, fields_levels, trees_size, trees_levels, count_of, nth, under, child, children_of, names_of, index_of, change, change_nth, set, set_root, with_root}
use Rattle.jolie_trees.specs.Extents.{extent_of, at_or_void}
use Rattle.jolie_trees.specs.Limits.{in_u64, in_u32, most_nodes, most_levels, is_store}
use Rattle.jolie_trees.specs.Counts.{FitsAs}
use Rattle.jolie_trees.specs.TreeView.{trees_of}
use Rattle.jolie_trees.proofs.Entries.{nth-get}
use Rattle.jolie_trees.proofs.Vectors.{count_of-length}
use Rattle.jolie_trees.proofs.Growth.{trees_size-made, trees_levels-made, change_under-splits, fields-split}

-- ---- what a step finds

pub child-under : (s : Step) (t : Tree) → child s t ≡ nth (index_of s) (under s.name (children_of t))
child-under s (node r fs) = refl

-- a member of the vector that a step names is where the step leads
pub child-member : (s : Step) (t : Tree) (xs : List Tree) (n : ℕ) (o : Option Tree) → trees_of xs ≡ under s.name (children_of t)
    → n ≡ index_of s → o ≡ slice_get xs n → o ≡ child s t
child-member s t xs n o members place found =
    found ∙ sym (nth-get n xs) ∙ ap (λ m. nth m (trees_of xs)) place ∙ ap (nth (index_of s)) members ∙ sym (child-under s t)

-- ---- a vector

pub levels-some : (t : Tree) → 1 ≤ levels t
levels-some (node r fs) = omega arith

size-some : (t : Tree) → 1 ≤ size t
size-some (node r fs) = omega arith

-- one tree has fewer nodes and levels than another
abbrev pub IsSmaller : Tree → Tree → Type 0
IsSmaller u t = (suc (size u) ≤ size t) × (suc (levels u) ≤ levels t)

nth-size : (n : ℕ) (ts : Trees) (t : Tree) → nth n ts ≡ Some t → (size t ≤ trees_size ts) × (levels t ≤ trees_levels ts)
nth-size n no_trees t h = cc
nth-size zero (tree u ts) t h =
    let same : u ≡ t = cc in
    let e : size u ≡ size t = ap size same in
    let l : levels u ≡ levels t = ap levels same in
    (omega (arith, e), omega (arith, l))
nth-size (suc n) (tree u ts) t h = let more = nth-size n ts t h in (omega (arith, more.0), omega (arith, more.1))

under-step : (b : Bool) (ts us : Trees) (fs : Fields) → (trees_size us ≤ fields_size fs) × (trees_levels us ≤ fields_levels fs)
    → (trees_size (if b then ts else us) ≤ trees_size ts + fields_size fs) × (trees_levels (if b then ts else us) ≤ max (trees_levels ts) (fields_levels fs))
under-step true ts us fs h = (omega arith, omega arith)
under-step false ts us fs h = (omega (arith, h.0), omega (arith, h.1))

under-size : (name : List ℕ) (fs : Fields) → (trees_size (under name fs) ≤ fields_size fs) × (trees_levels (under name fs) ≤ fields_levels fs)
under-size name no_fields = (omega arith, omega arith)
under-size name (field other ts fs) = under-step (bytes_eq name other) ts (under name fs) fs (under-size name fs)

-- a child is smaller than its node
pub child-smaller : (s : Step) (t x : Tree) → child s t ≡ Some x → IsSmaller x t
child-smaller s (node r fs) x h =
    let all = under-size s.name fs in
    let one = nth-size (index_of s) (under s.name fs) x h in
    (omega (arith, all.0, one.0), omega (arith, all.1, one.1))

-- a change of a node that is there
change_nth-there : (n : ℕ) (h : Tree → Tree) (ts : Trees) (x : Tree) → nth n ts ≡ Some x
    → trees_size (change_nth n h ts) + size x ≡ trees_size ts + size (h x)
change_nth-there n h no_trees x is = cc
change_nth-there zero h (tree u ts) x is =
    let same : u ≡ x = cc in
    let old : size u ≡ size x = ap size same in
    let new : size (h u) ≡ size (h x) = ap (λ t. size (h t)) same in
    omega (arith, old, new)
change_nth-there (suc n) h (tree u ts) x is = let more = change_nth-there n h ts x is in omega (arith, more)

-- a change of one that is missing, which has those made that are missing before it
change_nth-missing : (n : ℕ) (h : Tree → Tree) (ts : Trees) → nth n ts ≡ None
    → trees_size (change_nth n h ts) ≡ trees_size ts + (n - count_of ts) + size (h void_tree)
change_nth-missing n h no_trees is = let made = trees_size-made n h in omega (arith, made)
change_nth-missing zero h (tree u ts) is = cc
change_nth-missing (suc n) h (tree u ts) is = let more = change_nth-missing n h ts is in omega (arith, more)

nth-none : (n k : ℕ) (h : Tree → Tree) → max (trees_levels (change_nth n h no_trees)) k ≡ max (levels (h (unwrap_or (nth n no_trees) void_tree))) k
    → 1 ≤ levels (h void_tree)
    → max (trees_levels (change_nth (suc n) h no_trees)) k ≡ max (levels (h void_tree)) k
nth-none n k h more some = omega (arith, more, some)

-- the levels of a vector with a changed node
change_nth-levels : (n k : ℕ) (h : Tree → Tree) (ts : Trees) → trees_levels ts ≤ k
    → max (trees_levels (change_nth n h ts)) k ≡ max (levels (h (unwrap_or (nth n ts) void_tree))) k
change_nth-levels zero k h no_trees within = omega arith
change_nth-levels (suc n) k h no_trees within =
    let more = change_nth-levels n k h no_trees within in
    let some = levels-some (h void_tree) in
    nth-none n k h more some
change_nth-levels zero k h (tree u ts) within = omega (arith, within)
change_nth-levels (suc n) k h (tree u ts) within =
    let more = change_nth-levels n k h ts (omega (arith, within)) in
    omega (arith, within, more)

-- ---- a node

-- the names of a node's children are in order
abbrev pub IsInOrder : Tree → Type 0
IsInOrder t = IsStrictlySortedBy (slice_cmp nat_cmp) (names_of (children_of t))

-- a change along a step to a node that is there
pub change-there : (s : Step) (p : List Step) (f : Tree → Tree) (t x : Tree) → IsInOrder t → child s t ≡ Some x
    → size (change (s ∷ p) f t) + size x ≡ size t + size (change p f x)
change-there s p f (node r fs) x ordered is =
    let h = change p f in
    let ts = under s.name fs in
    let new = change_under-splits s.name (change_nth (index_of s) h) fs ordered in
    let old = fields-split s.name fs ordered in
    let one = change_nth-there (index_of s) h ts x is in
    omega (arith, new.0, old.0, one)

-- a change along a step to a node that is missing
pub change-missing : (s : Step) (p : List Step) (f : Tree → Tree) (t : Tree) → IsInOrder t → child s t ≡ None
    → size (change (s ∷ p) f t) ≡ size t + (index_of s - count_of (under s.name (children_of t))) + size (change p f void_tree)
change-missing s p f (node r fs) ordered is =
    let h = change p f in
    let ts = under s.name fs in
    let new = change_under-splits s.name (change_nth (index_of s) h) fs ordered in
    let old = fields-split s.name fs ordered in
    let one = change_nth-missing (index_of s) h ts is in
    omega (arith, new.0, old.0, one)

-- the levels of a node that is changed along a step
pub change-levels : (s : Step) (p : List Step) (f : Tree → Tree) (t : Tree) (k : ℕ) → IsInOrder t → levels t ≤ suc k
    → max (levels (change (s ∷ p) f t)) (suc k) ≡ suc (max (levels (change p f (unwrap_or (child s t) void_tree))) k)
change-levels s p f (node r fs) k ordered within =
    let h = change p f in
    let ts = under s.name fs in
    let new = change_under-splits s.name (change_nth (index_of s) h) fs ordered in
    let old = fields-split s.name fs ordered in
    let below : trees_levels ts ≤ k = omega (arith, within, old.1) in
    let one = change_nth-levels (index_of s) k h ts below in
    omega (arith, within, new.1, old.1, one)

-- ---- a node that is made

pub anew-size : (s : Step) (p : List Step) (f : Tree → Tree) → size (change (s ∷ p) f void_tree) ≡ suc (index_of s + size (change p f void_tree))
anew-size s p f = let made = trees_size-made (index_of s) (change p f) in omega (arith, made)

pub anew-sum : (whole below at place anew sum result new : ℕ) → whole ≡ suc (at + below) → in_u64 (below + 1) ≡ in_u64 (anew + new) → place ≡ at
    → sum ≡ in_u64 (anew + place) → result ≡ in_u64 (sum + 1) → in_u64 (whole + 1) ≡ in_u64 (result + new)
anew-sum whole below at place anew sum result new w b p s r = omega (arith, w, b, p, s, r)

pub anew-levels : (p : List Step) (f : Tree → Tree) → levels (change p f void_tree) ≡ length p + levels (f void_tree)
anew-levels [] f = omega arith
anew-levels (s ∷ p) f =
    let more = anew-levels p f in
    let made = trees_levels-made (index_of s) (change p f) in
    let some = levels-some (change p f void_tree) in
    omega (arith, more, made, some)

-- ---- the way to the node that is changed

-- a change at the end of a path makes so many nodes on the way, as far as the machine's numbers hold them
abbrev pub Makes : List Step → (Tree → Tree) → Tree → ℕ → Type 0
Makes p f t made =
    in_u64 (size (change p f t) + size (at_or_void p (Some t))) ≡ in_u64 (size t + made + size (f (at_or_void p (Some t))))

-- a change at the end of a path has no levels above that but those of the path and what is put there
abbrev pub Reaches : List Step → (Tree → Tree) → Tree → ℕ → Type 0
Reaches p f t k = max (levels (change p f t)) k ≡ max (length p + levels (f (at_or_void p (Some t)))) k

pub makes-there : (s : Step) (p : List Step) (f : Tree → Tree) (t x : Tree) (made : ℕ) → IsInOrder t → Some x ≡ child s t
    → Makes p f x made → Makes (s ∷ p) f t made
makes-there s p f t x made ordered is more =
    let same : at_or_void (s ∷ p) (Some t) ≡ at_or_void p (Some x) = ap (at_or_void p) (sym is) in
    let old : size (at_or_void (s ∷ p) (Some t)) ≡ size (at_or_void p (Some x)) = ap size same in
    let new : size (f (at_or_void (s ∷ p) (Some t))) ≡ size (f (at_or_void p (Some x))) = ap (λ u. size (f u)) same in
    let one = change-there s p f t x ordered (sym is) in
    let less = child-smaller s t x (sym is) in
    makes-step _ _ _ _ _ _ _ _ _ old new one less.0 more
  where
    makes-step : (whole t below x old old' new new' made : ℕ) → old ≡ old' → new ≡ new' → whole + x ≡ t + below → suc x ≤ t
        → in_u64 (below + old') ≡ in_u64 (x + made + new') → in_u64 (whole + old) ≡ in_u64 (t + made + new)
    makes-step whole t below x old old' new new' made o n one less more = omega (arith, o, n, one, less, more)

pub makes-missing : (s : Step) (p : List Step) (f : Tree → Tree) (t : Tree) (xs : List Tree) (n anew made : ℕ) → IsInOrder t → None ≡ child s t
    → trees_of xs ≡ under s.name (children_of t) → n ≡ index_of s
    → in_u64 (size (change p f void_tree) + 1) ≡ in_u64 (anew + size (f void_tree))
    → made ≡ in_u64 (anew + (n - length xs))
    → Makes (s ∷ p) f t made
makes-missing s p f t xs n anew made ordered is members place below all =
    let same : at_or_void (s ∷ p) (Some t) ≡ void_tree = ap (at_or_void p) (sym is) in
    let old : size (at_or_void (s ∷ p) (Some t)) ≡ 1 = ap size same in
    let new : size (f (at_or_void (s ∷ p) (Some t))) ≡ size (f void_tree) = ap (λ u. size (f u)) same in
    let count : count_of (under s.name (children_of t)) ≡ length xs = ap count_of (sym members) ∙ count_of-length xs in
    let one = change-missing s p f t ordered (sym is) in
    makes-step _ _ _ _ _ _ _ _ _ _ _ _ old new count place one below all
  where
    makes-step : (whole t below old new new' anew made at n count there : ℕ) → old ≡ 1 → new ≡ new' → count ≡ there → n ≡ at
        → whole ≡ t + (at - count) + below → in_u64 (below + 1) ≡ in_u64 (anew + new') → made ≡ in_u64 (anew + (n - there))
        → in_u64 (whole + old) ≡ in_u64 (t + made + new)
    makes-step whole t below old new new' anew made at n count there o w c place one more all =
        omega (arith, o, w, c, place, one, more, all)

pub reaches-there : (s : Step) (p : List Step) (f : Tree → Tree) (t x : Tree) (k : ℕ) → IsInOrder t → Some x ≡ child s t
    → ((k : ℕ) → levels x ≤ k → Reaches p f x k) → levels t ≤ k → Reaches (s ∷ p) f t k
reaches-there s p f t x zero ordered is more within = absurd (omega (arith, within, levels-some t))
reaches-there s p f t x (suc k) ordered is more within =
    let same : at_or_void (s ∷ p) (Some t) ≡ at_or_void p (Some x) = ap (at_or_void p) (sym is) in
    let new : levels (f (at_or_void (s ∷ p) (Some t))) ≡ levels (f (at_or_void p (Some x))) = ap (λ u. levels (f u)) same in
    let less = child-smaller s t x (sym is) in
    let below = more k (omega (arith, within, less.1)) in
    let one = change-levels s p f t k ordered within in
    let found : levels (change p f (unwrap_or (child s t) void_tree)) ≡ levels (change p f x) = ap (λ o. levels (change p f (unwrap_or o void_tree))) (sym is) in
    reaches-step _ _ _ _ _ _ _ new one found below
  where
    reaches-step : (whole below below' new new' steps k : ℕ) → new ≡ new' → max whole (suc k) ≡ suc (max below k) → below ≡ below'
        → max below' k ≡ max (steps + new') k → max whole (suc k) ≡ max (suc steps + new) (suc k)
    reaches-step whole below below' new new' steps k n one found more = omega (arith, n, one, found, more)

pub reaches-missing : (s : Step) (p : List Step) (f : Tree → Tree) (t : Tree) (k : ℕ) → IsInOrder t → None ≡ child s t
    → levels t ≤ k → Reaches (s ∷ p) f t k
reaches-missing s p f t zero ordered is within = absurd (omega (arith, within, levels-some t))
reaches-missing s p f t (suc k) ordered is within =
    let same : at_or_void (s ∷ p) (Some t) ≡ void_tree = ap (at_or_void p) (sym is) in
    let new : levels (f (at_or_void (s ∷ p) (Some t))) ≡ levels (f void_tree) = ap (λ u. levels (f u)) same in
    let below = anew-levels p f in
    let one = change-levels s p f t k ordered within in
    let found : levels (change p f (unwrap_or (child s t) void_tree)) ≡ levels (change p f void_tree) = ap (λ o. levels (change p f (unwrap_or o void_tree))) (sym is) in
    reaches-step _ _ _ _ _ _ _ new one found below
  where
    reaches-step : (whole below below' new new' steps k : ℕ) → new ≡ new' → max whole (suc k) ≡ suc (max below k) → below ≡ below'
        → below' ≡ steps + new' → max whole (suc k) ≡ max (suc steps + new) (suc k)
    reaches-step whole below below' new new' steps k n one found more = omega (arith, n, one, found, more)

-- ---- a whole path

at-or-void-step : (s : Step) (p : List Step) (t : Tree) (o : Option Tree) → child s t ≡ o
    → ((x : Tree) → size (at_or_void p (Some x)) ≤ size x) → size (at_or_void p o) ≤ size t
at-or-void-step s p t None is more = size-some t
at-or-void-step s p t (Some x) is more = let less = child-smaller s t x is in let one = more x in omega (arith, less.0, one)

-- what stands at a path has no more nodes than the tree
pub at_or_void-size : (p : List Step) (t : Tree) → size (at_or_void p (Some t)) ≤ size t
at_or_void-size [] t = omega arith
at_or_void-size (s ∷ p) t = at-or-void-step s p t (child s t) refl (at_or_void-size p)

at-or-void-deep : (s : Step) (p : List Step) (t : Tree) (o : Option Tree) → child s t ≡ o
    → ((x : Tree) → length p + levels (at_or_void p (Some x)) ≤ max (levels x) (length p + 1))
    → suc (length p) + levels (at_or_void p o) ≤ max (levels t) (suc (length p) + 1)
at-or-void-deep s p t None is more = omega arith
at-or-void-deep s p t (Some x) is more = let less = child-smaller s t x is in let one = more x in omega (arith, less.1, one)

-- and reaches no deeper, unless the path alone does
pub at_or_void-levels : (p : List Step) (t : Tree) → length p + levels (at_or_void p (Some t)) ≤ max (levels t) (length p + 1)
at_or_void-levels [] t = omega arith
at_or_void-levels (s ∷ p) t = at-or-void-deep s p t (child s t) refl (at_or_void-levels p)

pub within-limits : (t : Tree) → is_store t ≡ true → (size t ≤ most_nodes) × (levels t ≤ most_levels)
within-limits t h = (grind (arith, nat_tests, h), grind (arith, nat_tests, h))

-- a tree of which the nodes and the levels are known as far as the limits go
abbrev pub IsKnownBy : Tree → ℕ → ℕ → Type 0
IsKnownBy u n k =
    (min n (suc most_nodes) ≡ min (size u) (suc most_nodes)) × (min (max k most_levels) (suc most_levels) ≡ min (max (levels u) most_levels) (suc most_levels))

pub fits-known : (u : Tree) (n k : ℕ) → IsKnownBy u n k → n ≤ most_nodes → k ≤ most_levels → FitsAs u (Some n)
fits-known u n k known small low =
    let nodes = known.0 in
    let depth = known.1 in
    let same : n ≡ size u = omega (arith, nodes, small) in
    let deep : levels u ≤ most_levels = omega (arith, depth, low) in
    (grind (arith, nat_tests, same, small, deep), same)

pub too-many : (u : Tree) (n k : ℕ) → IsKnownBy u n k → most_nodes < n → FitsAs u None
too-many u n k known large = let more : most_nodes < size u = omega (arith, known.0, large) in grind (arith, nat_tests, more)

pub too-deep : (u : Tree) (n k : ℕ) → IsKnownBy u n k → most_levels < k → FitsAs u None
too-deep u n k known deep = let more : most_levels < levels u = omega (arith, known.1, deep) in grind (arith, nat_tests, more)

pub known-set : (p : List Step) (v t : Tree) (made nodes sum grown left top : ℕ) (new old : Extent) → is_store t ≡ true → nodes ≡ size t
    → Makes p (λ _. v) t made → Reaches p (λ _. v) t most_levels → new ≡ extent_of v → old ≡ extent_of (at_or_void p (Some t))
    → sum ≡ in_u64 (nodes + made) → grown ≡ in_u64 (sum + new.nodes) → left ≡ grown - old.nodes → top ≡ in_u64 (length p + new.levels)
    → IsKnownBy (set p v t) left top
known-set p v t made nodes sum grown left top new old fits counted makes reaches of_new of_old s g l d =
    let within = within-limits t fits in
    let there = at_or_void-size p t in
    let new_nodes : new.nodes ≡ in_u64 (size v) = ap (λ (e : Extent). e.nodes) of_new in
    let new_levels : new.levels ≡ in_u32 (levels v) = ap (λ (e : Extent). e.levels) of_new in
    let old_nodes : old.nodes ≡ in_u64 (size (at_or_void p (Some t))) = ap (λ (e : Extent). e.nodes) of_old in
    (nodes-step _ _ _ _ _ _ _ _ _ _ _ counted within.0 there makes new_nodes old_nodes s g l, levels-step _ _ _ _ _ reaches new_levels d)
  where
    nodes-step : (whole was t v made nodes new old sum grown left : ℕ) → nodes ≡ t → t ≤ most_nodes → was ≤ t → in_u64 (whole + was) ≡ in_u64 (t + made + v)
        → new ≡ in_u64 v → old ≡ in_u64 was → sum ≡ in_u64 (nodes + made) → grown ≡ in_u64 (sum + new) → left ≡ grown - old
        → min left (suc most_nodes) ≡ min whole (suc most_nodes)
    nodes-step whole was t v made nodes new old sum grown left c w h m n o s g l =
        let sums : grown ≡ in_u64 (t + made + v) = omega (arith, c, n, s, g) in
        let same : grown ≡ in_u64 (whole + was) = omega (arith, sums, m) in
        omega (arith, w, h, o, same, l)

    levels-step : (whole v new top steps : ℕ) → max whole most_levels ≡ max (steps + v) most_levels → new ≡ in_u32 v → top ≡ in_u64 (steps + new)
        → min (max top most_levels) (suc most_levels) ≡ min (max whole most_levels) (suc most_levels)
    levels-step whole v new top steps r n d = omega (arith, r, n, d)

with_root-size : (r : Root) (t : Tree) → size (with_root r t) ≡ size t
with_root-size r (node old fs) = refl

with_root-levels : (r : Root) (t : Tree) → levels (with_root r t) ≡ levels t
with_root-levels r (node old fs) = refl

pub known-root : (p : List Step) (r : Root) (t : Tree) (made nodes grown : ℕ) → is_store t ≡ true → nodes ≡ size t
    → Makes p (with_root r) t made → Reaches p (with_root r) t most_levels → grown ≡ in_u64 (nodes + made)
    → IsKnownBy (set_root p r t) grown (suc (length p))
known-root p r t made nodes grown fits counted makes reaches g =
    let within = within-limits t fits in
    let old = at_or_void p (Some t) in (
      nodes-step _ _ _ _ _ _ _ counted within.0 (at_or_void-size p t) makes (with_root-size r old) g,
      levels-step _ _ _ _ _ within.1 (at_or_void-levels p t) reaches (with_root-levels r old) (levels-some old),
    )
  where
    nodes-step : (whole was new t made nodes grown : ℕ) → nodes ≡ t → t ≤ most_nodes → was ≤ t → in_u64 (whole + was) ≡ in_u64 (t + made + new)
        → new ≡ was → grown ≡ in_u64 (nodes + made) → min grown (suc most_nodes) ≡ min whole (suc most_nodes)
    nodes-step whole was new t made nodes grown c w h m n g = omega (arith, c, w, h, m, n, g)

    levels-step : (whole was new t steps : ℕ) → t ≤ most_levels → steps + was ≤ max t (steps + 1) → max whole most_levels ≡ max (steps + new) most_levels
        → new ≡ was → 1 ≤ was → min (max (suc steps) most_levels) (suc most_levels) ≡ min (max whole most_levels) (suc most_levels)
    levels-step whole was new t steps w h r n some = omega (arith, w, h, r, n, some)

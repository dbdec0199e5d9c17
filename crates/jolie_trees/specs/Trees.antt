-- What stands at a path of a tree, and what a change there makes of the tree.
use Rattle.std.specs.Prelude.{ℕ, zero, suc, ◌+◌, max, List, [], ◌∷◌, length, if◌then◌else◌, bytes_eq}
use Rattle.std.specs.Prelude.{Option, None, Some, option_and_then, option_map, unwrap_or}
use Rattle.std.specs.Option.{option_len}
use Rattle.std.specs.Ordering.{nat_cmp, match_ordering}
use Rattle.std.specs.Cmp.Lexicographic.{slice_cmp}
use Rattle.jolie_trees.specs.declared.root.Root.{Root}
use Rattle.jolie_trees.specs.declared.root.Root.TheVariants as root
use Rattle.jolie_trees.specs.declared.path.Step.{Step}
use Rattle.jolie_trees.specs.Data.{Tree, node, Fields, no_fields, field, Trees, no_trees, tree}

-- the tree of one node, without a value
abbrev pub void_tree : Tree
void_tree = node root.Void no_fields

-- the root of a tree
abbrev pub root_of : Tree → Root
root_of (node r fs) = r

-- the children of a tree
abbrev pub children_of : Tree → Fields
children_of (node r fs) = fs

-- the names of all children
abbrev pub names_of : Fields → List (List ℕ)
names_of no_fields = []
names_of (field name ts fs) = name ∷ names_of fs

-- the nodes under a name, none where the name is not there
abbrev pub under : List ℕ → Fields → Trees
under name no_fields = no_trees
under name (field other ts fs) = if bytes_eq name other then ts else under name fs

-- the node of an index, from 0
abbrev pub nth : ℕ → Trees → Option Tree
nth n no_trees = None
nth zero (tree t ts) = Some t
nth (suc n) (tree t ts) = nth n ts

-- the number of nodes in a vector
abbrev pub count_of : Trees → ℕ
count_of no_trees = 0
count_of (tree t ts) = suc (count_of ts)

-- a step without an index names the first node
abbrev pub index_of : Step → ℕ
index_of s = unwrap_or s.index 0

-- the node that one step leads to
abbrev pub child : Step → Tree → Option Tree
child s (node r fs) = nth (index_of s) (under s.name fs)

-- the node at a path
abbrev pub get : List Step → Tree → Option Tree
get [] t = Some t
get (s ∷ p) t = option_and_then (get p) (child s t)

-- how many nodes a last step names: the whole vector where it has no index, else the one of its index, if it is there
abbrev pub count_at : List ℕ → Option ℕ → Tree → ℕ
count_at name None (node r fs) = count_of (under name fs)
count_at name (Some n) (node r fs) = option_len (nth n (under name fs))

-- how many nodes a path names, a last step without an index naming the whole vector
abbrev pub count : List Step → Tree → ℕ
count [] t = 1
count (s ∷ []) t = count_at s.name s.index t
count (s ∷ s' ∷ p) t = unwrap_or (option_map (count (s' ∷ p)) (child s t)) 0

-- a vector whose node of that index is changed, missing nodes being void
abbrev pub change_nth : ℕ → (Tree → Tree) → Trees → Trees
change_nth zero f no_trees = tree (f void_tree) no_trees
change_nth zero f (tree t ts) = tree (f t) ts
change_nth (suc n) f no_trees = tree void_tree (change_nth n f no_trees)
change_nth (suc n) f (tree t ts) = tree t (change_nth n f ts)

-- children whose vector under that name is changed, a missing one being empty before
abbrev pub change_under : List ℕ → (Trees → Trees) → Fields → Fields
change_under name g no_fields = field name (g no_trees) no_fields
change_under name g (field other ts fs) =
    match_ordering (slice_cmp nat_cmp name other)
    (field name (g no_trees) (field other ts fs))
    (field other (g ts) fs)
    (field other ts (change_under name g fs))

-- a tree whose node at the path is changed, missing nodes being void
abbrev pub change : List Step → (Tree → Tree) → Tree → Tree
change [] f t = f t
change (s ∷ p) f (node r fs) = node r (change_under s.name (change_nth (index_of s) (change p f)) fs)

-- a node with another root and the same children
abbrev pub with_root : Root → Tree → Tree
with_root r (node old fs) = node r fs

-- the whole node at the path becomes the value
abbrev pub set : List Step → Tree → Tree → Tree
set p value t = change p (λ _. value) t

-- the root alone of the node at the path becomes r
abbrev pub set_root : List Step → Root → Tree → Tree
set_root p r t = change p (with_root r) t

-- the node at one path becomes that of another, a missing one being void
abbrev pub copy : List Step → List Step → Tree → Tree
copy to from t = set to (unwrap_or (get from t) void_tree) t

-- a vector that is closed up behind the node that it loses
abbrev pub without_nth : ℕ → Trees → Trees
without_nth n no_trees = no_trees
without_nth zero (tree t ts) = ts
without_nth (suc n) (tree t ts) = tree t (without_nth n ts)

-- a name keeps its vector only where that is not empty
abbrev pub field_if : List ℕ → Trees → Fields → Fields
field_if name no_trees fs = fs
field_if name (tree t ts) fs = field name (tree t ts) fs

-- children whose vector under that name, where it is there, is changed
abbrev pub change_if_there : List ℕ → (Trees → Trees) → Fields → Fields
change_if_there name g no_fields = no_fields
change_if_there name g (field other ts fs) =
    if bytes_eq name other then field_if other (g ts) fs else field other ts (change_if_there name g fs)

-- a vector whose node of that index, where it is there, is changed
abbrev pub change_nth_if_there : ℕ → (Tree → Tree) → Trees → Trees
change_nth_if_there n f no_trees = no_trees
change_nth_if_there zero f (tree t ts) = tree (f t) ts
change_nth_if_there (suc n) f (tree t ts) = tree t (change_nth_if_there n f ts)

-- what is left of the vector that a last step names: nothing where it has no index
abbrev pub left_of : Option ℕ → Trees → Trees
left_of None ts = no_trees
left_of (Some n) ts = without_nth n ts

-- a tree without the nodes that the path names, a last step without an index naming the whole vector
abbrev pub undef : List Step → Tree → Tree
undef [] t = t
undef (s ∷ []) (node r fs) = node r (change_if_there s.name (left_of s.index) fs)
undef (s ∷ s' ∷ p) (node r fs) =
    node r (change_if_there s.name (change_nth_if_there (index_of s) (undef (s' ∷ p))) fs)

-- a vector with one node more at its end
abbrev pub with_last : Tree → Trees → Trees
with_last t no_trees = tree t no_trees
with_last t (tree u ts) = tree u (with_last t ts)

-- a tree with a child more at the end of the root's vector of that name
abbrev pub push : List ℕ → Tree → Tree → Tree
push name t (node r fs) = node r (change_under name (with_last t) fs)

-- the number of nodes
abbrev mutual
  pub size : Tree → ℕ
  size (node r fs) = suc (fields_size fs)

  pub fields_size : Fields → ℕ
  fields_size no_fields = 0
  fields_size (field name ts fs) = trees_size ts + fields_size fs

  pub trees_size : Trees → ℕ
  trees_size no_trees = 0
  trees_size (tree t ts) = size t + trees_size ts

-- the number of levels: a node alone has one
abbrev mutual
  pub levels : Tree → ℕ
  levels (node r fs) = suc (fields_levels fs)

  pub fields_levels : Fields → ℕ
  fields_levels no_fields = 0
  fields_levels (field name ts fs) = max (trees_levels ts) (fields_levels fs)

  pub trees_levels : Trees → ℕ
  trees_levels no_trees = 0
  trees_levels (tree t ts) = max (levels t) (trees_levels ts)

-- the bytes of a root's text; no other root has any
abbrev pub root_bytes : Root → ℕ
root_bytes (root.Text text) = length text
root_bytes r = 0

-- the bytes of all texts and names, a name counting once for its vector
abbrev mutual
  pub text_bytes : Tree → ℕ
  text_bytes (node r fs) = root_bytes r + fields_bytes fs

  pub fields_bytes : Fields → ℕ
  fields_bytes no_fields = 0
  fields_bytes (field name ts fs) = length name + trees_bytes ts + fields_bytes fs

  pub trees_bytes : Trees → ℕ
  trees_bytes no_trees = 0
  trees_bytes (tree t ts) = text_bytes t + trees_bytes ts

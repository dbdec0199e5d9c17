-- The tree that a JSON value is, and the tree of the params of a call: none where they make no tree.
use Rattle.std.specs.Prelude.{ℕ, ℤ, pos, negsuc, int_le, ◌&&◌, if◌then◌else◌, List, bytes_eq, codes}
use Rattle.std.specs.Prelude.{Option, None, Some, option_map}
use Rattle.serde_json.specs.Data.{Num, Data, null, boolean, number, string, array, object}
use Rattle.serde_json.specs.Data.{Items, no_items, item, Members, no_members, member}
use Rattle.serde_json.specs.Find.{as_i64, get_member}
use Rattle.jolie_trees.specs.declared.root.Root.{Root}
use Rattle.jolie_trees.specs.declared.root.Root.TheVariants as root
use Rattle.jolie_trees.specs.Data.{Tree, node, Fields, no_fields, Trees, no_trees, tree}
use Rattle.jolie_trees.specs.Trees.{void_tree, field_if}
use Rattle.behaviour_tree.specs.Values.{alone}

-- the name of the member that is a node's root
unfoldable pub root_name : List ℕ
root_name = codes "$"

-- an integer of 64 bits: an int where 32 bits hold it, else a long
abbrev pub integer_root : ℤ → Root
integer_root z = if int_le (negsuc 2147483647) z && int_le z (pos 2147483647) then root.Int z else root.Long z

-- the root of a number; a fraction, an exponent and an integer outside 64 bits have none
abbrev pub number_root : Num → Option Root
number_root n = option_map integer_root (as_i64 n)

-- the root that a value is, which is no object and no array
abbrev pub root_in : Data → Option Root
root_in null = Some root.Void
root_in (boolean b) = Some (root.Bool b)
root_in (number n) = number_root n
root_in (string s) = Some (root.Text s)
root_in d = None

-- the root of an object: its member `$`, or void
abbrev pub root_of_member : Option Data → Option Root
root_of_member None = Some root.Void
root_of_member (Some d) = root_in d

-- what two things make, where both are there
abbrev pub of_both : {A B C : Type 0} → (A → B → C) → Option A → Option B → Option C
of_both make (Some a) (Some b) = Some (make a b)
of_both make a b = None

-- a vector of one
abbrev pub only : Option Tree → Option Trees
only t = of_both tree t (Some no_trees)

abbrev mutual
  -- the tree of a value: an object is a node with its members as children, any other value that is a root is that alone
  pub tree_in : Data → Option Tree
  tree_in (object ms) = of_both node (root_of_member (get_member root_name ms)) (children_in ms)
  tree_in d = option_map alone (root_in d)

  -- the children that members are, all but `$`
  pub children_in : Members → Option Fields
  children_in no_members = Some no_fields
  children_in (member name d ms) =
      if bytes_eq name root_name then children_in ms else of_both (field_if name) (vector_in d) (children_in ms)

  -- the trees of a member: an array is a vector, an empty one is absence, and any other value is a vector of its tree
  pub vector_in : Data → Option Trees
  vector_in (array ds) = trees_in ds
  vector_in (object ms) = only (of_both node (root_of_member (get_member root_name ms)) (children_in ms))
  vector_in d = only (option_map alone (root_in d))

  -- the trees of the items of an array, none of which may be an array
  pub trees_in : Items → Option Trees
  trees_in no_items = Some no_trees
  trees_in (item d ds) = of_both tree (tree_in d) (trees_in ds)

-- the tree of params: without params, with `null` and with an empty array it is void; an array of one element is that
-- element's tree, an object its own, and no other params make one
abbrev pub params_tree : Option Data → Option Tree
params_tree None = Some void_tree
params_tree (Some null) = Some void_tree
params_tree (Some (array no_items)) = Some void_tree
params_tree (Some (array (item d no_items))) = tree_in d
params_tree (Some (object ms)) = tree_in (object ms)
params_tree params = None

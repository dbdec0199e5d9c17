-- The text of a tree in a record.
use Rattle.std.specs.Prelude.{ℕ, List, [], ◌++◌, if◌then◌else◌, codes}
use Rattle.std.specs.Fmt.{signed_decimal}
use Rattle.jolie_trees.specs.declared.root.Root.{Root}
use Rattle.jolie_trees.specs.declared.root.Root.TheVariants as root
use Rattle.jolie_trees.specs.Data.{Tree, node, Fields, no_fields, field, Trees, no_trees, tree}
use Rattle.run_text.specs.Strings.{text_string}

-- a root: a letter for its kind, with the decimals of a number and with a text in quotes
abbrev pub root_text : Root → List ℕ
root_text root.Void = codes "v"
root_text (root.Bool b) = if b then codes "t" else codes "f"
root_text (root.Int z) = codes "i" ++ signed_decimal z
root_text (root.Long z) = codes "l" ++ signed_decimal z
root_text (root.Text text) = codes "s" ++ text_string text

-- a name with the trees under it in brackets
abbrev pub named : List ℕ → List ℕ → List ℕ
named name trees = text_string name ++ (codes ":[" ++ (trees ++ codes "]"))

abbrev mutual
  -- a node: its root and its children
  pub tree_text : Tree → List ℕ
  tree_text (node r fs) = root_text r ++ children_text fs

  -- children by name in braces, with a comma between every two; nothing where there are none
  pub children_text : Fields → List ℕ
  children_text no_fields = []
  children_text (field name ts fs) = codes "{" ++ (named name (trees_text ts) ++ more_children fs)

  -- further children, and the brace after them
  pub more_children : Fields → List ℕ
  more_children no_fields = codes "}"
  more_children (field name ts fs) = codes "," ++ (named name (trees_text ts) ++ more_children fs)

  -- trees with a comma between every two
  pub trees_text : Trees → List ℕ
  trees_text no_trees = []
  trees_text (tree t ts) = tree_text t ++ more_trees ts

  -- further trees, a comma before each
  pub more_trees : Trees → List ℕ
  more_trees no_trees = []
  more_trees (tree t ts) = codes "," ++ (tree_text t ++ more_trees ts)

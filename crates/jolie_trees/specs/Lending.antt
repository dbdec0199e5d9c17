-- What a tree becomes where the trees under a name were lent to be written.
use Rattle.std.specs.Prelude.{ℕ, List, [], ◌∷◌, Option, if◌then◌else◌, bytes_eq}
use Rattle.std.specs.Borrow.{Array, Lends, LendsIf, MutBor, Fml}
use Rattle.jolie_trees.specs.Data.{Tree, node, Fields, no_fields, field, Trees, no_trees, tree}
use Rattle.jolie_trees.specs.contracts.tree.Tree as tree_row
use Rattle.jolie_trees.specs.contracts.tree.Members as members_row

-- children whose trees under that name, where it is there, are others
abbrev pub replaced_under : List ℕ → Trees → Fields → Fields
replaced_under name ts no_fields = no_fields
replaced_under name ts (field other us fs) =
    if bytes_eq name other then field other ts fs else field other us (replaced_under name ts fs)

-- a tree whose trees under that name, where it is there, are others
abbrev pub with_members : List ℕ → Trees → Tree → Tree
with_members name ts (node r fs) = node r (replaced_under name ts fs)

-- trees with others written in their places, in order; they stay as many
abbrev pub written_over : List Tree → Trees → Trees
written_over ws no_trees = no_trees
written_over [] (tree t ts) = tree t ts
written_over (w ∷ ws) (tree t ts) = tree w (written_over ws ts)

-- trees end with those that were left in a slice of them
abbrev pub LendsSlice : MutBor Trees → MutBor (List Tree) → Fml
LendsSlice t r = Lends members_row.the_row (Array tree_row.the_row 0) t r (λ ws. written_over ws t.now)

-- a tree ends with the trees that were left under the name, and as it was where none is there
abbrev pub LendsMembers : MutBor Tree → List ℕ → Option (MutBor Trees) → Fml
LendsMembers t name r = LendsIf tree_row.the_row members_row.the_row t r (λ ts. with_members name ts t.now) t.now

-- Which keys are equal, and the order in which complete keys stand: those that are equal share a place.
use Rattle.std.specs.Prelude.{ℕ, ℤ, pos, Bool, true, false, ◌&&◌, List, [], ◌∷◌}
use Rattle.std.specs.declared.cmp.Ordering.{Ordering}
use Rattle.std.specs.Ordering.{nat_cmp, int_cmp, ordering_then}
use Rattle.std.specs.Cmp.Lexicographic.{slice_cmp}
use Rattle.jolie_trees.specs.declared.root.Root.{Root}
use Rattle.jolie_trees.specs.declared.root.Root.TheVariants as root
use Rattle.behaviour_tree.specs.Comparisons.{same}

-- lists of values that `==` finds equal, one by one
abbrev pub are_equal : List Root → List Root → Bool
are_equal [] [] = true
are_equal (a ∷ k) (b ∷ l) = same a b && are_equal k l
are_equal k l = false

-- the kind of a value: all numbers are of one
abbrev pub kind_of : Root → ℕ
kind_of root.Void = 0
kind_of (root.Bool b) = 1
kind_of (root.Int n) = 2
kind_of (root.Long n) = 2
kind_of (root.Text t) = 3

-- the number that a value is; a true value is one
abbrev pub number_of : Root → ℤ
number_of root.Void = pos 0
number_of (root.Bool true) = pos 1
number_of (root.Bool false) = pos 0
number_of (root.Int n) = n
number_of (root.Long n) = n
number_of (root.Text t) = pos 0

-- the bytes of a text
abbrev pub bytes_of : Root → List ℕ
bytes_of root.Void = []
bytes_of (root.Bool b) = []
bytes_of (root.Int n) = []
bytes_of (root.Long n) = []
bytes_of (root.Text t) = t

-- values by their kind, then by their number, then by their bytes
abbrev pub value_order : Root → Root → Ordering
value_order a b =
    ordering_then (ordering_then (nat_cmp (kind_of a) (kind_of b)) (int_cmp (number_of a) (number_of b)))
    (slice_cmp nat_cmp (bytes_of a) (bytes_of b))

-- keys by the first value in which they differ
abbrev pub key_order : List Root → List Root → Ordering
key_order = slice_cmp value_order

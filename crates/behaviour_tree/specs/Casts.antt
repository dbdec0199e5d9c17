-- What the casts make of a root.
use Rattle.std.specs.Prelude.{ℤ, pos, if◌then◌else◌, Option, None, Some, option_and_then}
use Rattle.jolie_trees.specs.declared.root.Root.{Root}
use Rattle.jolie_trees.specs.declared.root.Root.TheVariants as root
use Rattle.behaviour_tree.specs.declared.expr.CastKind.{CastKind}
use Rattle.behaviour_tree.specs.declared.expr.CastKind.TheVariants as kind
use Rattle.behaviour_tree.specs.Numbers.{int_root, long_root}
use Rattle.behaviour_tree.specs.Texts.{spelled, text_root, number_in}

-- the number of a root: a number itself, a bool as 0 or 1, the number that a text writes, none for void
abbrev pub number_of : Root → Option ℤ
number_of root.Void = None
number_of (root.Bool b) = Some (pos (if b then 1 else 0))
number_of (root.Int z) = Some z
number_of (root.Long z) = Some z
number_of (root.Text text) = number_in text

-- `int(e)` and `long(e)` give the number of a root, where it is in range; `string(e)` gives its text
abbrev pub cast_to : CastKind → Root → Option Root
cast_to kind.Int r = option_and_then int_root (number_of r)
cast_to kind.Long r = option_and_then long_root (number_of r)
cast_to kind.Text r = text_root (spelled r)

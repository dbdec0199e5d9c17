use Rattle.std.proofs.Common.{◌≡◌, ◌∙◌, ap, sym, length}
use Rattle.jolie_trees.specs.Trees.{children_of, count_of, under}
use Rattle.jolie_trees.proofs.Vectors.{count_of-length}
use Rattle.message_types.proofs.Fits.{count-below, count-within}
use Rattle.message_types.proofs.shape.count_fits.Goals as goal

pub returns-then-field-count : goal.returns-then-field-count
returns-then-field-count c =
    let f = c.args.field.now in
    let ts = c.members-count.result.now in
    let n : length ts ≡ count_of (under f.name (children_of c.args.value.now)) = sym (count_of-length ts) ∙ ap count_of c.members-count.ensures in
    rw (← n) (count-within f.least f.most (length ts) c.at_most.result c.if-field-count.true c.at_most.ensures)

pub returns-else-field-count : goal.returns-else-field-count
returns-else-field-count c =
    let f = c.args.field.now in
    let ts = c.members-count.result.now in
    let n : length ts ≡ count_of (under f.name (children_of c.args.value.now)) = sym (count_of-length ts) ∙ ap count_of c.members-count.ensures in
    rw (← n) (count-below f.least f.most (length ts) c.if-field-count.false)

use Rattle.std.proofs.Common.{ap, subst, sym, ◌∙◌}
use Rattle.std.specs.List.{filter_map}
use Rattle.behaviour_tree.specs.PartsView.{operation_view}
use Rattle.correlation.specs.Sessions.{changed}
use Rattle.correlation.specs.View.{sessions_of}
use Rattle.office_plain.specs.Accepting.{write_all, written_by, CanWrite}
use Rattle.office_plain.proofs.writing.write_first.Goals as goal

pub write_sets-requires-clause-free : goal.write_sets-requires-clause-free
write_sets-requires-clause-free c =
    let m = c.args.message.now in
    subst (λ vs. CanWrite m.session (sessions_of c.args.rows.now)
    (filter_map (written_by (operation_view c.args.operation.now).request m.value) vs))
    (sym c.sets_of-sets.ensures.variables) c.requires.free

pub returns : goal.returns
returns c =
    let m = c.args.message.now in
    c.in_ok-write_sets.ensures
    ∙ ap (λ vs. changed m.session
    (write_all (filter_map (written_by (operation_view c.args.operation.now).request m.value) vs))
    (sessions_of c.args.rows.now)) c.sets_of-sets.ensures.variables

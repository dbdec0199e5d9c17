use Rattle.std.proofs.Common.{◌≡◌, ◌+◌, true, map, drop}
use Rattle.behaviour_tree.specs.FormedNumbers.{count_variables}
use Rattle.behaviour_tree.specs.PartsView.{set_view}
use Rattle.behaviour_tree.specs.View.{type_view}
use Rattle.correlation.specs.Sessions.{changed, is_live}
use Rattle.correlation.specs.View.{sessions_of}
use Rattle.office_plain.specs.Accepting.{write_all, CanWrite}
use Rattle.office_plain.proofs.Writes.{writes_in}
use Rattle.office_plain.proofs.writing.write_sets.Given as goal

abbrev pub invariant-loop-set : goal.invariant-loop-set
invariant-loop-set l = record {
  live : is_live (sessions_of l.rows) l.message.session ≡ true;
  free : CanWrite l.message.session (sessions_of l.rows)
      (writes_in (type_view l.ty) l.message.value l.number l.set-index l.sets);
  few : count_variables (map set_view l.sets)
      ≡ l.number + count_variables (map set_view (drop l.set-index l.sets));
  rest : changed l.message.session (write_all (writes_in (type_view l.ty) l.message.value 0 0 l.sets))
      (sessions_of l.initial.rows)
      ≡ changed l.message.session (write_all (writes_in (type_view l.ty) l.message.value l.number l.set-index l.sets))
      (sessions_of l.rows);
}

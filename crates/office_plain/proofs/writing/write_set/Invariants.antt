use Rattle.std.proofs.Common.{◌≡◌, ◌+◌, true}
use Rattle.behaviour_tree.specs.View.{type_view}
use Rattle.correlation.specs.Sessions.{changed, is_live}
use Rattle.correlation.specs.View.{sessions_of}
use Rattle.office_plain.specs.Accepting.{write_all, CanWrite}
use Rattle.office_plain.proofs.Writes.{writes_on}
use Rattle.office_plain.proofs.writing.write_set.Given as goal

abbrev pub invariant-loop-variable : goal.invariant-loop-variable
invariant-loop-variable l = record {
  number : l.number ≡ l.first + l.variable-index;
  live : is_live (sessions_of l.rows) l.message.session ≡ true;
  free : CanWrite l.message.session (sessions_of l.rows)
      (writes_on (type_view l.ty) l.message.value l.number l.variable-index l.variables);
  rest : changed l.message.session (write_all (writes_on (type_view l.ty) l.message.value l.first 0 l.variables))
      (sessions_of l.initial.rows)
      ≡ changed l.message.session
      (write_all (writes_on (type_view l.ty) l.message.value l.number l.variable-index l.variables))
      (sessions_of l.rows);
}

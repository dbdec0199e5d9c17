use Rattle.std.proofs.Common.{◌≡◌, drop}
use Rattle.correlation.specs.Sessions.{is_born}
use Rattle.correlation.proofs.rows.Rows.is_born.Given as goal

abbrev pub invariant-loop-row : goal.invariant-loop-row
invariant-loop-row l = is_born l.self.sessions.items l.session ≡ is_born (drop l.row-index l.row-items) l.session

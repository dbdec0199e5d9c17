use Rattle.std.proofs.Common.{◌≡◌, drop}
use Rattle.correlation.specs.Sessions.{is_live}
use Rattle.correlation.proofs.rows.Rows.is_live.Given as goal

abbrev pub invariant-loop-row : goal.invariant-loop-row
invariant-loop-row l = is_live l.self.sessions.items l.session ≡ is_live (drop l.row-index l.row-items) l.session

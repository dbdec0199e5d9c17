use Rattle.std.proofs.Common.{◌≡◌, ◌-◌, true, length, drop}
use Rattle.correlation.specs.Sessions.{is_live}
use Rattle.correlation.proofs.rows.Rows.place_of.Given as goal

abbrev pub invariant-loop-place : goal.invariant-loop-place
invariant-loop-place l = is_live (drop l.place l.self.sessions.items) l.session ≡ true

abbrev pub decreases-loop-place : goal.decreases-loop-place
decreases-loop-place l = length l.self.sessions.items - l.place

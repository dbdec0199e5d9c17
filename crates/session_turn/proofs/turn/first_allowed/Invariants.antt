-- Each strand so far was passed.
use Rattle.std.proofs.Common.{◌≡◌, ℕ, ◌<◌}
use Rattle.session_turn.specs.Seen.{Grew, seat}
use Rattle.session_turn.specs.Lives.{moment}
use Rattle.session_turn.specs.Turns.{Passed, from_pick, strand_after}
use Rattle.session_turn.proofs.turn.first_allowed.Given as goal

abbrev pub invariant-loop-k : goal.invariant-loop-k
invariant-loop-k g l = record {
  pass : g.D.Desk.is_pass l.desk l.pass l.player.number;
  config : g.S.Session.config_of l.session ≡ g.S.Session.config_of l.initial.session;
  service : g.S.Session.service_of l.session ≡ g.S.Session.service_of l.initial.session;
  grew : Grew (seat (g.D.Desk.office l.desk) l.player.number) (g.D.Desk.seen l.initial.pass) (g.D.Desk.seen l.pass);
  passed : (k : ℕ) → k < l.k
      → Passed (seat (g.D.Desk.office l.desk) l.player.number) (strand_after (from_pick l.strands l.pick) k)
      (moment (g.S.Session.service_of l.initial.session) (g.S.Session.config_of l.initial.session) (g.D.Desk.seen l.initial.pass))
      (moment (g.S.Session.service_of l.session) (g.S.Session.config_of l.session) (g.D.Desk.seen l.pass));
}

-- A session that was adopted has made no call before.
use Rattle.std.proofs.Common.{◌≡◌, true, sym, subst, ◌∙◌}
use Rattle.office_core.specs.Limits.{run_of}
use Rattle.office_plain.specs.Entries.{adopt_entry}
use Rattle.office_plain.specs.Replies.{birth_of}
use Rattle.office_sharing.specs.Named.{parts_by}
use Rattle.office_turn.specs.Calls.{Called}
use Rattle.session_turn.specs.Asking.{has_response}
use Rattle.test_sharing.proofs.Serving.{adopted_serves}
use Rattle.test_sharing.proofs.server.Server.adopted.Goals as goal

pub invariant_of-result : goal.invariant_of-result
invariant_of-result g c = record {
  serves = adopted_serves c.args.pass c.adopt.new.pass c.in-Some.birth c.requires.new
      (subst
      (λ x. Called (parts_by g.N.Naming.program) c.args.pass c.adopt.new.pass
      (λ w past. x ≡ birth_of w past c.args.pass.number) (λ w past. adopt_entry c.args.pass.number x))
      c.in-Some.is c.in_ok-birth.ensures.told);
  answers = subst (λ p. has_response (run_of p) c.in-Some.birth.service 0 ≡ true) c.requires.program
      (sym c.has_response.ensures ∙ c.if-not-has_response.false);
}

use Rattle.std.proofs.Common.{refl, ◌∙◌}
use Rattle.explain_notes.proofs.ByKind.{one_after_the_other}
use Rattle.explain_notes.proofs.service.add_service.Goals as goal

pub returns : goal.returns
returns c =
    one_after_the_other c.args.facts.now c.args.service.now c.as_slice-seen.result.now _ _ _ _ _
    (c.as_slice-seen.ensures ∙ c.in_ok-mentions.ensures) refl c.kinds_by_sessions-kinds.ensures c.in_ok-add_kinds.ensures c.in_ok-add_kinds-2.ensures

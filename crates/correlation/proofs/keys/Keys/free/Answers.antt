use Rattle.std.proofs.Common.{rules, ◌≡◌, true, ap, ◌∙◌}
use Rattle.std.proofs.lemmas.Fn.{filter_same}
use Rattle.correlation.specs.Places.{is_rising}
use Rattle.correlation.specs.Index.{is_of_other}
use Rattle.correlation.proofs.Sessions.{rising_kept}
use Rattle.correlation.proofs.keys.Keys.free.Goals as goal

pub invariant_of-self : goal.invariant_of-self
invariant_of-self c =
    let kept = filter_same _ (is_of_other c.args.session) _ (λ x b f' k. search rules) _ _ c.retain.ensures.filtered in
    let old = c.args.self.now in
    record { rising = ap is_rising kept ∙ rising_kept (is_of_other c.args.session) old.rows.items old.rising }

pub returns : goal.returns
returns c = filter_same _ (is_of_other c.args.session) _ (λ x b f' k. search rules) _ _ c.retain.ensures.filtered

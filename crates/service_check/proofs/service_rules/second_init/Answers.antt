use Rattle.std.proofs.Common.{ap, ◌∙◌, rules, tests}
use Rattle.std.specs.List.{filter_map}
use Rattle.std.proofs.lemmas.Iterator.{YieldsList-from_slice}
use Rattle.std.proofs.lemmas.Iterator.Adapters.{YieldsList-from_skip}
use Rattle.std.proofs.lemmas.Iterator.Consumers.{YieldsList-at, YieldsList-end, YieldsList-from_filter_map}
use Rattle.check_base.specs.declared.refusal.CheckName.TheVariants.{DuplicateName}
use Rattle.check_base.specs.Least.{joined, refused}
use Rattle.service_check.specs.ServiceRules.{init_place}
use Rattle.service_check.proofs.Later.{gave_later}
use Rattle.check_base.proofs.Joined.{refused_turn}
use Rattle.service_check.proofs.service_rules.second_init.Goals as goal

pub loop-at-preserved : goal.loop-at-preserved
loop-at-preserved c =
    refused_turn DuplicateName c.args.least.now c.loop-at.least c.offer.new.self c.loop-at.yielded c.in-Some.at c.loop-at.invariant c.offer.ensures

pub returns : goal.returns
returns c =
    c.loop-at.invariant
    ∙ ap (λ places. joined c.args.least.now (refused DuplicateName places))
    (gave_later c.loop-at.yielded (filter_map init_place c.args.clauses.now)
    (YieldsList-end
    (YieldsList-at c.into_iter-at-iterator.ensures.into_iter_gives
    (YieldsList-from_skip 1
    (YieldsList-at c.skip-at-items.ensures.source
    (YieldsList-from_filter_map _ init_place (YieldsList-from_slice c.args.clauses.now cc) c.filter_map.ensures.closure (λ x r q k. search (rules, tests))))
    c.skip-at-items.ensures.count))
    c.loop-at.yielded _ c.loop-at.yielded_by _ _ c.in-None.is c.next.ensures.steps).0)

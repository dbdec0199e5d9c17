use Rattle.behaviour_tree.specs.PartsView.{parts_of}
use Rattle.office_plain.proofs.Counts.{few_first, few_of, sets_before}
use Rattle.office_plain.proofs.sets.sets_before.Goals as goal

pub count_sets-requires : goal.count_sets-requires
count_sets-requires c =
    few_first (parts_of c.args.program.now) c.services_of.result.now c.first_services-first.result.now c.args.service
    c.services_of.ensures.services c.first_services-first.ensures c.services_of.ensures.numbered

pub returns-clause-count : goal.returns-clause-count
returns-clause-count c =
    sets_before (parts_of c.args.program.now) c.services_of.result.now c.first_services-first.result.now c.args.service
    c.count_sets.result c.services_of.ensures.services c.first_services-first.ensures c.count_sets.ensures

pub returns-clause-few : goal.returns-clause-few
returns-clause-few c = λ d there.
    few_of (parts_of c.args.program.now) c.args.service c.count_sets.result d c.services_of.ensures.numbered
    (sets_before (parts_of c.args.program.now) c.services_of.result.now c.first_services-first.result.now
    c.args.service c.count_sets.result c.services_of.ensures.services c.first_services-first.ensures c.count_sets.ensures)
    there

use Rattle.std.proofs.Common.{◌≡◌, ◌<◌, ◌^◌, [], None, flat_map, map, option_map, sym, ap, subst, arith}
use Rattle.std.specs.Prelude.{slice_get, unwrap_or}
use Rattle.behaviour_tree.specs.Data.{ServicePart}
use Rattle.behaviour_tree.specs.FormedNumbers.{count_variables}
use Rattle.behaviour_tree.specs.PartsView.{parts_of, service_view, set_view}
use Rattle.behaviour_tree.proofs.FewEnough.{few_variables, well_numbered}
use Rattle.office_core.specs.Keys.{sets_of}
use Rattle.office_plain.proofs.Counts.{service_there, service_missing}
use Rattle.office_plain.proofs.writing.sets_of.Goals as goal

pub returns-in-Some-clause-few : goal.returns-in-Some-clause-few
returns-in-Some-clause-few c =
    let parts = parts_of c.args.program.now in
    let there = service_there parts c.parts.result.now c.deref.result.now c.args.service c.in-Some.service.now
    c.parts.ensures.parts c.deref.ensures.value c.in-Some.ensures.lookup.3.0 c.in-Some.ensures.lookup.1 in
    subst (λ l. count_variables (map set_view l) < 2 ^ 32) (sym c.as_slice.ensures.value)
    (few_variables parts c.args.service (service_view c.in-Some.service.now)
    (well_numbered parts c.parts.ensures.well_formed) there)

pub returns-in-None-clause-variables : goal.returns-in-None-clause-variables
returns-in-None-clause-variables c =
    let parts = parts_of c.args.program.now in
    let none : slice_get parts.services c.args.service ≡ None =
    service_missing parts c.parts.result.now c.deref.result.now c.args.service c.parts.ensures.parts
    c.deref.ensures.value (omega (arith, c.in-None.ensures.lookup.3)) in
    sym (ap (λ o. unwrap_or (option_map (λ (s : ServicePart). flat_map (λ vs. vs) (sets_of s)) o) []) none)

use Rattle.std.proofs.Common.{◌<◌, ◌^◌, [], length, map, option_map, sym, ap, subst, ◌∙◌, arith}
use Rattle.std.specs.Prelude.{unwrap_or}
use Rattle.std.proofs.lemmas.List.{length-map}
use Rattle.behaviour_tree.specs.Data.{ServicePart}
use Rattle.behaviour_tree.specs.FormedNumbers.{count_variables}
use Rattle.behaviour_tree.specs.PartsView.{parts_of, service_view, set_view}
use Rattle.behaviour_tree.proofs.FewEnough.{few_variables, well_numbered}
use Rattle.office_core.specs.Keys.{sets_from, sets_of}
use Rattle.office_plain.specs.SetNumbers.{numbered_from, sets_before}
use Rattle.office_plain.proofs.Counts.{service_there}
use Rattle.office_plain.proofs.sets.numbered_sets.Goals as goal

pub numbered_from-requires-clause-sets : goal.numbered_from-requires-clause-sets
numbered_from-requires-clause-sets c =
    let there = service_there (parts_of c.args.program.now) c.parts.result.now c.deref.result.now c.args.service
    c.in-Some.part.now c.parts.ensures.parts c.deref.ensures.value c.in-Some.ensures.lookup.3.0 c.in-Some.ensures.lookup.1 in
    omega (
      arith,
      c.sets_before-first.ensures.few (service_view c.in-Some.part.now) there,
      ap length c.deref-2.ensures.value,
      length-map c.in-Some.part.now.sets.items set_view,
    )

pub numbered_from-requires-clause-variables : goal.numbered_from-requires-clause-variables
numbered_from-requires-clause-variables c =
    let parts = parts_of c.args.program.now in
    let there = service_there parts c.parts.result.now c.deref.result.now c.args.service c.in-Some.part.now
    c.parts.ensures.parts c.deref.ensures.value c.in-Some.ensures.lookup.3.0 c.in-Some.ensures.lookup.1 in
    subst (λ l. count_variables (map set_view l) < 2 ^ 32) (sym c.deref-2.ensures.value)
    (few_variables parts c.args.service (service_view c.in-Some.part.now)
    (well_numbered parts c.parts.ensures.well_formed) there)

pub returns : goal.returns
returns c =
    let parts = parts_of c.args.program.now in
    let there = service_there parts c.parts.result.now c.deref.result.now c.args.service c.in-Some.part.now
    c.parts.ensures.parts c.deref.ensures.value c.in-Some.ensures.lookup.3.0 c.in-Some.ensures.lookup.1 in
    c.in_ok-sets.ensures
    ∙ ap (λ l. numbered_from c.sets_before-first.result (sets_from 0 (map set_view l))) c.deref-2.ensures.value
    ∙ ap (λ n. numbered_from n (sets_from 0 (map set_view c.in-Some.part.now.sets.items))) c.sets_before-first.ensures.count
    ∙ sym (ap (λ o. unwrap_or (option_map (λ (s : ServicePart). numbered_from (sets_before parts c.args.service) (sets_of s)) o) []) there)

use Rattle.std.proofs.Common.{◌≡◌, ◌<◌, Some, length, ap, sym, ◌∙◌, arith, rules}
use Rattle.std.proofs.lemmas.List.{get_or_read, length-map}
use Rattle.jolie_ast.specs.declared.types.TypeDefinition.{TypeDefinition}
use Rattle.check_types.specs.declared.circles.Mark.TheVariants.{Unseen}
use Rattle.check_base.specs.Repeated.{place_of}
use Rattle.check_base.specs.TypeNames.{leads_back}
use Rattle.check_types.specs.Circles.{is_circle, next_place}
use Rattle.check_base.specs.Files.{type_names}
use Rattle.check_types.proofs.Leading.{leads_by_place, leads_from_none}
use Rattle.check_types.proofs.Marks.{mark_tells}
use Rattle.check_types.proofs.circles.Circles.leads_back.Goals as goal

pub returns-in-Some : goal.returns-in-Some
returns-in-Some c =
    let types = c.self.inside.types.now in
    let name = c.args.name.now in
    let place = c.in-Some.place in
    let marks = c.self.inside.marks.items in
    let found : place_of (type_names types) name ≡ Some place = ap (λ ts. place_of ts name) (sym c.names.ensures) ∙ sym c.in-Some.ensures.place in
    let within : place < length types = omega (arith, c.in-Some.ensures.within, ap length c.names.ensures, length-map types (λ (t : TypeDefinition). t.name.text)) in
    let within_marks : place < length marks = omega (arith, within, c.self.invariant.0) in
    c.is_circle.ensures
    ∙ ap is_circle (get_or_read marks place c.index.result.now within_marks c.index.ensures Unseen)
    ∙ mark_tells (next_place types) (length types) marks c.self.invariant.1 place (c.self.invariant.2 place within)
    ∙ sym (leads_by_place types (length types) place place name name found found)
    ∙ ap (λ ts. leads_back ts name) (search rules)

pub returns-in-None : goal.returns-in-None
returns-in-None c =
    let types = c.self.inside.types.now in
    let name = c.args.name.now in
    sym (leads_from_none types (length types) name name (ap (λ ts. place_of ts name) (sym c.names.ensures) ∙ sym c.in-None.ensures.place))
    ∙ ap (λ ts. leads_back ts name) (search rules)

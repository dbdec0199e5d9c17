use Rattle.std.proofs.Common.{rules, map, ap, sym, ◌∙◌, Bor}
use Rattle.jolie_ast.specs.declared.interface.Interface.{Interface}
use Rattle.check_base.specs.Repeated.{place_of}
use Rattle.check_base.specs.Files.{interface_named}
use Rattle.check_base.proofs.Found.{interface_found, interface_missing, place_below}
use Rattle.check_base.proofs.tables.Interfaces.get.Goals as goal

pub returns-in-Some : goal.returns-in-Some
returns-in-Some c =
    interface_found c.self.inside.definitions.items c.args.name.now c.in-Some.place c.index.result.now
    (ap (λ ts. place_of ts c.args.name.now) (sym c.self.invariant) ∙ sym c.in-Some.ensures.place) (place_below (λ (d : Interface). d.name.text) c.self.inside.definitions.items c.self.inside.names c.in-Some.place c.self.invariant c.in-Some.ensures.within) c.index.ensures
    ∙ ap (λ ts. interface_named ts c.args.name.now) (search rules)

pub returns-in-None : goal.returns-in-None
returns-in-None c =
    interface_missing (map (λ (d : Bor Interface). d.now) c.self.inside.definitions.items) c.args.name.now (ap (λ ts. place_of ts c.args.name.now) (sym c.self.invariant) ∙ sym c.in-None.ensures.place)
    ∙ ap (λ ts. interface_named ts c.args.name.now) (search rules)

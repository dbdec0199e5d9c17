use Rattle.std.proofs.Common.{◌≡◌, ◌∙◌, None, ap, arith, rules}
use Rattle.std.specs.Prelude.{option_map}
use Rattle.std.specs.Option.{option_copied}
use Rattle.behaviour_tree.specs.Data.{named}
use Rattle.behaviour_tree.specs.View.{type_view}
use Rattle.behaviour_tree.specs.declared.types.TypeDef as type_def
use Rattle.behaviour_tree.proofs.Behind.{shape-next, shape-past}
use Rattle.behaviour_tree.proofs.shape.behind_names.Goals as goal

pub returns-in_err-found : goal.returns-in_err-found
returns-in_err-found c =
    let seen : type_view c.loop-found.found.now ≡ named c.in-Named.number = search (rules, type_def.the_lemmas) in
    let none : c.from_residual.result ≡ None = search rules in
    ap (λ o. option_map type_view (option_copied o)) none
    ∙ shape-past c.args.types.now c.loop-found.left c.in-Named.number (type_view c.loop-found.found.now) (omega arith) seen c.in_err-found.ensures.lookup.3 ∙ c.loop-found.invariant

pub loop-found-preserved : goal.loop-found-preserved
loop-found-preserved c =
    let seen : type_view c.loop-found.found.now ≡ named c.in-Named.number = search (rules, type_def.the_lemmas) in
    shape-next c.args.types.now c.loop-found.left c.in-Named.number (type_view c.loop-found.found.now) c.in_ok-found.found.now (omega arith) seen c.in_ok-found.ensures.lookup.3.0 c.in_ok-found.ensures.lookup.1
    ∙ c.loop-found.invariant

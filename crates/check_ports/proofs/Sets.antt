-- Laws of correlation sets.
use Rattle.std.proofs.Common.{◌≡◌, ℕ, List, [], ◌∷◌, ◌++◌, map, refl, ap, ◌∙◌, flat_map}
use Rattle.std.specs.Prelude.{◌&&◌, not}
use Rattle.std.specs.List.{list_all}
use Rattle.jolie_ast.specs.declared.name.Name.{Name}
use Rattle.jolie_ast.specs.declared.service.CorrelationVariable.{CorrelationVariable}
use Rattle.behaviour_tree.specs.Distinct.{is_in}
use Rattle.check_base.specs.declared.refusal.CheckName.TheVariants.{Uncorrelated}
use Rattle.check_base.specs.Least.{refused_if}
use Rattle.check_ports.specs.SetRules.{alias_texts, all_have, partly, partly_among}

-- each variable has an alias of a type where each table has it
pub all_have_is : (ty : List ℕ) (set : List CorrelationVariable) → list_all (is_in ty) (map alias_texts set) ≡ all_have ty set
all_have_is ty [] = refl
all_have_is ty (v ∷ vs) = ap (λ b. is_in ty (alias_texts v) && b) (all_have_is ty vs)

-- types that some variables have no aliases of
pub each_partly : (set : List CorrelationVariable) (ns : List Name) → flat_map (partly_among (map alias_texts set)) ns ≡ flat_map (partly set) ns
each_partly set [] = refl
each_partly set (n ∷ ns) =
    ap (λ b. refused_if (not b) Uncorrelated n.at ++ flat_map (partly_among (map alias_texts set)) ns) (all_have_is n.text set)
    ∙ ap (λ rest. partly set n ++ rest) (each_partly set ns)

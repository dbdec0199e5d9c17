-- The type behind its names, step by step.
use Rattle.std.proofs.Common.{◌≡◌, ◌∙◌, ℕ, zero, suc, ◌-◌, ◌<◌, ◌≤◌, List, map, length, get_or, None, refl, ap, sym, arith}
use Rattle.std.proofs.lemmas.Option.{slice_get-map, slice_get_past, slice_get_read}
use Rattle.std.specs.Prelude.{slice_get, option_map, option_and_then}
use Rattle.behaviour_tree.specs.Data.{TypeTree, named}
use Rattle.behaviour_tree.specs.Conforms.{shape}
use Rattle.behaviour_tree.specs.View.{type_view}
use Rattle.behaviour_tree.specs.declared.types.TypeDef.{TypeDef}

-- a name leads one step on
shape-named : (types : List TypeTree) (left i : ℕ) (ty : TypeTree) → 1 ≤ left → ty ≡ named i → shape types left ty ≡ option_and_then (shape types (left - 1)) (slice_get types i)
shape-named types zero i ty h e = absurd (omega (arith, h))
shape-named types (suc left) i ty h e = let less : suc left - 1 ≡ left = omega arith in rw (e, less) refl

pub shape-next : (types : List TypeDef) (left i : ℕ) (ty : TypeTree) (next : TypeDef) → 1 ≤ left → ty ≡ named i → i < length types → next ≡ get_or types i next
    → shape (map type_view types) (left - 1) (type_view next) ≡ shape (map type_view types) left ty
shape-next types left i ty next h e within is =
    sym (shape-named (map type_view types) left i ty h e
    ∙ ap (option_and_then (shape (map type_view types) (left - 1))) (slice_get-map type_view types i ∙ ap (option_map type_view) (slice_get_read types (length types) i next refl within is)))

pub shape-past : (types : List TypeDef) (left i : ℕ) (ty : TypeTree) → 1 ≤ left → ty ≡ named i → length types ≤ i → None ≡ shape (map type_view types) left ty
shape-past types left i ty h e past =
    sym (shape-named (map type_view types) left i ty h e
    ∙ ap (option_and_then (shape (map type_view types) (left - 1))) (slice_get-map type_view types i ∙ ap (option_map type_view) (slice_get_past types i past)))

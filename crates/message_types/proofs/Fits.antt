-- Types, fields and trees as a walk over them sees them, one by one.
use Rattle.std.proofs.Common.{◌≡◌, ◌∙◌, ℕ, zero, suc, ◌<◌, ◌≤◌, List, [], ◌∷◌, map, length, get_or, Option, None, Some, Bool, true, false, refl, ap, sym, arith, rules}
use Rattle.std.proofs.lemmas.List.{length-map}
use Rattle.std.proofs.lemmas.Bool.Decides.{nat_tests}
use Rattle.std.specs.Prelude.{◌&&◌, nat_eq, nat_le}
use Rattle.jolie_trees.specs.Data.{Tree, node}
use Rattle.jolie_trees.specs.Trees.{root_of, count_of, levels, trees_levels, children_of}
use Rattle.jolie_trees.specs.TreeView.{trees_of}
use Rattle.behaviour_tree.specs.Data.{TypeTree}
use Rattle.behaviour_tree.specs.Conforms.{shape, at_most, fits, members_fit}
use Rattle.behaviour_tree.specs.View.{type_view}
use Rattle.behaviour_tree.specs.declared.types.TypeDef.{TypeDef}
use Rattle.behaviour_tree.proofs.Shapes.{fits_at}

-- the members of a name that has no field
pub members_fit-none : (types : List TypeTree) (ts : List Tree) (empty : Bool) → empty ≡ nat_eq (length ts) 0 → empty ≡ members_fit types (trees_of ts) None
members_fit-none types [] empty h = h
members_fit-none types (t ∷ ts) empty h = let more : nat_eq (length (t ∷ ts)) 0 ≡ false = grind (arith, nat_tests) in h ∙ more

pub fits-by : (types : List TypeDef) (t : Tree) (ty : TypeTree) (s : Option TypeTree) → s ≡ shape (map type_view types) (length types) ty
    → fits_at (map type_view types) (root_of t) (children_of t) s ≡ fits (map type_view types) t ty
fits-by types (node r children) ty s h =
    let all = map type_view types in
    ap (fits_at all r children) (h ∙ ap (λ n. shape all n ty) (sym (length-map types type_view)))

-- a field whose members are counted
pub count-within : (least : ℕ) (most : Option ℕ) (n : ℕ) (r : Bool) → least ≤ n → r ≡ at_most most n → r ≡ (nat_le least n && at_most most n)
count-within least most n r h e = let within : nat_le least n ≡ true = grind (arith, nat_tests) in rw within e

pub count-below : (least : ℕ) (most : Option ℕ) (n : ℕ) → n < least → nat_le least n ≡ (nat_le least n && at_most most n)
count-below least most n h = let below : nat_le least n ≡ false = grind (arith, nat_tests) in rw below refl

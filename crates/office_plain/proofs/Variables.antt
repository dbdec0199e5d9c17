-- What a tree of a type says of variables does not depend on their numbers.
use Rattle.std.proofs.Common.{◌≡◌, ℕ, suc, true, false, ◌||◌, List, [], ◌∷◌, map, refl, sym, ◌∙◌, Option, None, is_some}
use Rattle.std.specs.Prelude.{if◌then◌else◌}
use Rattle.std.specs.List.{list_any}
use Rattle.jolie_trees.specs.declared.root.Root.{Root}
use Rattle.jolie_trees.specs.Data.{Tree}
use Rattle.behaviour_tree.specs.Data.{TypeTree, plain, named, undefined, VariablePart}
use Rattle.office_core.specs.Keys.{all_there, alias_of, is_in, named_by, value_of, variables_from}
use Rattle.office_plain.specs.Lookups.{variable_of, has_alias, value_in}

alias_free : (ty : TypeTree) (n : ℕ) (v : VariablePart) → alias_of ty (variable_of n v) ≡ alias_of ty (variable_of 0 v)
alias_free (named t) n v = refl
alias_free (plain k fields) n v = refl
alias_free undefined n v = refl

-- the value of a variable, whatever its number
pub value_free : (ty : TypeTree) (t : Tree) (n : ℕ) (v : VariablePart)
    → value_of ty t (variable_of n v) ≡ value_in ty t v
value_free (named k) t n v = refl
value_free (plain k fields) t n v = refl
value_free undefined t n v = refl

in_free : (ty : TypeTree) (n : ℕ) (vs : List VariablePart) → is_in (variables_from n vs) ty ≡ list_any (has_alias ty) vs
in_free ty n [] = refl
in_free ty n (v ∷ vs) = λ i. (is_some (alias_free ty n v i) || in_free ty (suc n) vs i)

values_free : (ty : TypeTree) (t : Tree) (n : ℕ) (vs : List VariablePart)
    → map (value_of ty t) (variables_from n vs) ≡ map (value_in ty t) vs
values_free ty t n [] = refl
values_free ty t n (v ∷ vs) = λ i. value_free ty t n v i ∷ values_free ty t (suc n) vs i

-- of a set that the type is in
pub names_all : (ty : TypeTree) (t : Tree) (vs : List VariablePart) (o : Option (List Root))
    → true ≡ list_any (has_alias ty) vs
    → o ≡ all_there (map (value_in ty t) vs) → o ≡ named_by ty t (variables_from 0 vs)
names_all ty t vs o is_one values =
    values
    ∙ sym ((λ i. if (in_free ty 0 vs ∙ sym is_one) i then all_there (values_free ty t 0 vs i) else None))

-- of a set that it is not in
pub names_none : (ty : TypeTree) (t : Tree) (vs : List VariablePart) → false ≡ list_any (has_alias ty) vs
    → None ≡ named_by ty t (variables_from 0 vs)
names_none ty t vs is_none =
    sym (λ i. if (in_free ty 0 vs ∙ sym is_none) i then all_there (map (value_of ty t) (variables_from 0 vs)) else None)

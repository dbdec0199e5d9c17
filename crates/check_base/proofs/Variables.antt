-- The variables of the sets of a service.
use Rattle.std.proofs.Common.{◌≡◌, ◌≤◌, ℕ, List, map, length, take, ap, sym, ◌∙◌, flat_map}
use Rattle.std.specs.List.{filter_map}
use Rattle.std.proofs.lemmas.List.{take_all}
use Rattle.jolie_ast.specs.declared.name.Name.{Name}
use Rattle.jolie_ast.specs.declared.service.CorrelationVariable.{CorrelationVariable}
use Rattle.jolie_ast.specs.declared.service.Clause.{Clause}
use Rattle.check_base.specs.Files.{set_in, set_names}
use Rattle.check_base.proofs.Loops.{mapped_each}

-- the texts of the variables of a set
abbrev pub variable_texts : List CorrelationVariable → List (List ℕ)
variable_texts set = map (λ (n : Name). n.text) (set_names set)

-- the texts of the variables of all sets
pub all_variable_texts : (ts : List (List ℕ)) (clauses : List Clause) (i : ℕ) → length clauses ≤ i → ts ≡ flat_map variable_texts (filter_map set_in (take i clauses)) → ts ≡ map (λ (n : Name). n.text) (flat_map set_names (filter_map set_in clauses))
all_variable_texts ts clauses i end all =
    all
    ∙ ap (λ cs. flat_map variable_texts (filter_map set_in cs)) (take_all i clauses end)
    ∙ sym (mapped_each (λ (n : Name). n.text) set_names (filter_map set_in clauses))

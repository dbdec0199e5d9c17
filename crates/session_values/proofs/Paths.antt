-- A path is its steps.
use Rattle.std.proofs.Common.{◌≡◌, List, Option, None, Some, refl, sym}
use Rattle.std.specs.Prelude.{option_map}
use Rattle.jolie_trees.specs.Data.{Tree}
use Rattle.jolie_trees.specs.declared.path.Step.{Step}
use Rattle.jolie_trees.specs.declared.path.Path.{Path}
use Rattle.behaviour_tree.specs.Data.{PathTree}
use Rattle.behaviour_tree.specs.Values.{path_along, path_in, steps_of}

along_steps : (steps : Option (List Step)) → option_map (λ p. p.steps) (option_map path_along steps) ≡ steps
along_steps None = refl
along_steps (Some steps) = refl

of_answer : (steps : Option (List Step)) (p : Option Path) → option_map path_along steps ≡ p → option_map (λ p. p.steps) p ≡ steps
of_answer steps p h = rw (sym h) (along_steps steps)

pub steps_found : (store : Tree) (p : PathTree) (found : Path) → path_in store p ≡ Some found → Some found.steps ≡ steps_of store p
steps_found store p found h = of_answer (steps_of store p) (Some found) h

pub no_steps : (store : Tree) (p : PathTree) → path_in store p ≡ None → None ≡ steps_of store p
no_steps store p h = of_answer (steps_of store p) None h

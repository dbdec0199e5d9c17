-- These definitions serve the proofs alone: no promise speaks of them.
-- What is taken once each, but for what is among texts before.
use Rattle.std.specs.Prelude.{ℕ, List}
use Rattle.jolie_ast.specs.declared.name.Name.{Name}
use Rattle.check_base.specs.Repeated.{once_after}
use Rattle.check_base.specs.Files.{Operation}

-- each text once, where it first stands, but those among the texts before
abbrev pub firsts_after : List (List ℕ) → List (List ℕ) → List (List ℕ)
firsts_after before texts = once_after (λ t. t) before texts

-- each name once, where it first stands, but those among the texts before
abbrev pub first_names_after : List (List ℕ) → List Name → List Name
first_names_after before names = once_after (λ (n : Name). n.text) before names

-- each operation once by its name, where it first stands, but those among the texts before
abbrev pub each_once_after : List (List ℕ) → List Operation → List Operation
each_once_after before operations = once_after (λ (o : Operation). o.name.text) before operations

-- The line of a call to the console.
use Rattle.std.specs.Prelude.{ℕ, List, [], ◌∷◌, ◌++◌}
use Rattle.jolie_trees.specs.declared.root.Root.{Root}
use Rattle.behaviour_tree.specs.Texts.{spelled}

-- the text of the root of the value that is sent, and a line feed
abbrev pub console_line : Root → List ℕ
console_line r = spelled r ++ 10 ∷ []

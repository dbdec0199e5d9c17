-- The line that says how the orders of a load went.
use Rattle.std.specs.Prelude.{ℕ, Bool, false, ◌==◌, List, ◌++◌, codes, count_by}
use Rattle.std.specs.List.{starts_with}
use Rattle.std.specs.Fmt.{decimal}
use Rattle.jolie_trees.specs.Trees.{root_of}
use Rattle.jolie_trees.specs.declared.root.Root.{Root}
use Rattle.jolie_trees.specs.declared.root.Root.TheVariants as root
use Rattle.behaviour_tree.specs.declared.words.Outcome.{Outcome}
use Rattle.behaviour_tree.specs.declared.words.Outcome.TheVariants as outcome
use Rattle.office_core.specs.declared.history.Act.TheVariants as act
use Rattle.office_core.specs.declared.history.Entry.{Entry}

-- the value is a text that begins with the word
abbrev pub begins : List ℕ → Root → Bool
begins word (root.Text text) = starts_with (λ a b. a == b) text word
begins word other = false

-- the answer says so
abbrev pub says : List ℕ → Outcome → Bool
says word (outcome.Value tree) = begins word (root_of tree)
says word other = false

-- the entry collects such an answer
abbrev pub answers : List ℕ → Entry → Bool
answers word e = elim e.act [ act.Collect message answer ↦ says word answer | _ ↦ false ]

-- how many answers begin with the word
abbrev pub count : List ℕ → List Entry → ℕ
count word h = count_by (answers word) h

-- the line, by the history of the run of a load
abbrev pub summary : ℕ → List Entry → List ℕ
summary lines h =
    codes "lines " ++ (decimal lines ++ (codes " ok " ++ (decimal (count (codes "ok") h)
    ++ (codes " nofunds " ++ (decimal (count (codes "nofunds") h)
    ++ (codes " short " ++ (decimal (count (codes "short") h) ++ codes "\n")))))))

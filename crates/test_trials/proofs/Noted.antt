-- What is noted before a posting, in a history of two of them with a note behind each.
use Rattle.std.proofs.Common.{◌≡◌, false, List, [], ◌∷◌, refl}
use Rattle.jolie_trees.specs.declared.root.Root.TheVariants as root
use Rattle.jolie_trees.specs.Data.{node, no_fields}
use Rattle.behaviour_tree.specs.declared.program.Execution.TheVariants as execution
use Rattle.behaviour_tree.specs.Data.{nothing, ProgramParts}
use Rattle.office_core.specs.declared.post.PostReply.TheVariants as answer
use Rattle.office_core.specs.declared.history.Placed.TheVariants as at
use Rattle.office_core.specs.declared.history.Act.TheVariants as act
use Rattle.office_core.specs.declared.history.Entry.{Entry}
use Rattle.office_core.specs.Limits.{Setting, run_of}
use Rattle.run_theorem.specs.Lines.{noted_before, IsPrefix}

-- a service without ports, so that its calls go to the console
abbrev program : ProgramParts
program = record {
  types = [];
  interfaces = [];
  services = (record { name = (83 ∷ []); execution = execution.Single; ports = []; sets = []; init = nothing; main = nothing } ∷ []);
  names = [];
}

abbrev setting : Setting
setting = run_of program

abbrev history : List Entry
history = (
    record { actor = 4096; act = act.Post 0 0 (record { service = 0; op = (103 ∷ []); value = (node root.Void no_fields) }) (answer.Accepted 0) } ∷
    record { actor = 0; act = act.Send 0 0 0 (node (root.Text (97 ∷ [])) no_fields) false at.Out } ∷
    record { actor = 4096; act = act.Post 1 0 (record { service = 0; op = (103 ∷ []); value = (node root.Void no_fields) }) (answer.Accepted 1) } ∷
    record { actor = 0; act = act.Send 1 0 0 (node (root.Text (98 ∷ [])) no_fields) false at.Out } ∷
    record { actor = 4096; act = act.Stop } ∷ [])

pub nothing_before_the_first : noted_before setting history 0 ≡ []
nothing_before_the_first = refl

pub one_before_the_second : noted_before setting history 1 ≡ 97 ∷ 10 ∷ []
one_before_the_second = refl

pub both_before_the_stop : noted_before setting history 2 ≡ 97 ∷ 10 ∷ 98 ∷ 10 ∷ []
both_before_the_stop = refl

-- where both were posted the first note was taken
pub spoilt_nothing_noted : IsPrefix (noted_before setting history 1) [] → ⊥
spoilt_nothing_noted f = let clash : 97 ∷ 10 ∷ f.0 ≡ [] = f.1 in cc

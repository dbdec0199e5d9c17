-- The numbers of a whole behaviour are drawn before what is done makes way for its rests.
use Rattle.std.specs.Prelude.{◌≡◌, pos, true, [], ◌∷◌, None, Some}
use Rattle.std.proofs.Common.{refl}
use Rattle.std.specs.Fmt.{digits}
use Rattle.jolie_trees.specs.declared.root.Root.TheVariants as root
use Rattle.jolie_trees.specs.Data.{node, no_fields}
use Rattle.behaviour_tree.specs.declared.types.RootKind.TheVariants as kinds
use Rattle.behaviour_tree.specs.declared.program.Execution.TheVariants as execution
use Rattle.behaviour_tree.specs.declared.words.Kind.TheVariants as kind
use Rattle.behaviour_tree.specs.declared.words.Need.TheVariants as need
use Rattle.behaviour_tree.specs.declared.words.Given.TheVariants as given
use Rattle.behaviour_tree.specs.declared.words.Outcome.TheVariants as outcome
use Rattle.behaviour_tree.specs.Data.{plain, no_type_fields, here, step, constant, nothing, assign, sequence, parallel, choice, block, no_procs, proc, no_branches, request, ProgramParts}
use Rattle.test_calculus.specs.Told.{told, act, mail, happens, then_tries}

abbrev program : ProgramParts
program = record {
  types = [];
  interfaces = (record { name = (73 ∷ []); operations = (record { name = (103 ∷ 111 ∷ []); request = (plain kinds.Void no_type_fields); response = (Some (plain kinds.Any no_type_fields)); throws = [] } ∷ []) } ∷ []);
  services = (record { name = (83 ∷ []); execution = execution.Single; ports = (record { name = (73 ∷ 110 ∷ []); input = true; location = (115 ∷ 111 ∷ 99 ∷ 107 ∷ 101 ∷ 116 ∷ 58 ∷ 47 ∷ 47 ∷ 108 ∷ 111 ∷ 99 ∷ 97 ∷ 108 ∷ 104 ∷ 111 ∷ 115 ∷ 116 ∷ 58 ∷ 56 ∷ 48 ∷ 48 ∷ 48 ∷ []); interfaces = (0 ∷ []) } ∷ []); sets = []; init = nothing; main = (choice (request 0 None (Some (step (121 ∷ []) here)) (parallel (proc (block (sequence (proc nothing (proc (block (parallel (proc (assign (step (97 ∷ []) here) (constant (root.Int (pos 1)))) (proc (assign (step (98 ∷ []) here) (constant (root.Int (pos 2)))) no_procs)))) no_procs)))) (proc (block (parallel (proc (assign (step (99 ∷ []) here) (constant (root.Int (pos 3)))) (proc (assign (step (100 ∷ []) here) (constant (root.Int (pos 4)))) no_procs)))) no_procs))) nothing no_branches)) } ∷ []);
  names = ((73 ∷ 79 ∷ 69 ∷ 120 ∷ 99 ∷ 101 ∷ 112 ∷ 116 ∷ 105 ∷ 111 ∷ 110 ∷ []) ∷ (84 ∷ 121 ∷ 112 ∷ 101 ∷ 77 ∷ 105 ∷ 115 ∷ 109 ∷ 97 ∷ 116 ∷ 99 ∷ 104 ∷ []) ∷ (67 ∷ 111 ∷ 114 ∷ 114 ∷ 101 ∷ 108 ∷ 97 ∷ 116 ∷ 105 ∷ 111 ∷ 110 ∷ 69 ∷ 114 ∷ 114 ∷ 111 ∷ 114 ∷ []) ∷ (82 ∷ 101 ∷ 102 ∷ 117 ∷ 115 ∷ 101 ∷ 100 ∷ []) ∷ (85 ∷ 110 ∷ 100 ∷ 101 ∷ 99 ∷ 108 ∷ 97 ∷ 114 ∷ 101 ∷ 100 ∷ 70 ∷ 97 ∷ 117 ∷ 108 ∷ 116 ∷ []) ∷ (69 ∷ 120 ∷ 112 ∷ 114 ∷ 70 ∷ 97 ∷ 117 ∷ 108 ∷ 116 ∷ []) ∷ (72 ∷ 97 ∷ 110 ∷ 100 ∷ 108 ∷ 101 ∷ 114 ∷ 84 ∷ 111 ∷ 111 ∷ 76 ∷ 97 ∷ 114 ∷ 103 ∷ 101 ∷ []) ∷ (83 ∷ 116 ∷ 111 ∷ 114 ∷ 101 ∷ 84 ∷ 111 ∷ 111 ∷ 76 ∷ 97 ∷ 114 ∷ 103 ∷ 101 ∷ []) ∷ (109 ∷ 97 ∷ 105 ∷ 110 ∷ []) ∷ []);
}

pub draws_first : happens program 0 (
    act 0 (mail program 0 0 0 (node root.Void no_fields)) ∷
    act 3 given.Nothing ∷
    act 4 given.Nothing ∷
    act 5 given.Nothing ∷
    act 6 given.Nothing ∷
    act 0 given.Nothing ∷
    act 0 given.Nothing ∷ []) ≡ (
    told 0 kind.In 0 0 0 (need.Take (0 ∷ [])) ∷
    told 3 kind.Local 0 0 0 need.Nothing ∷
    told 4 kind.Local 0 0 0 need.Nothing ∷
    told 5 kind.Local 0 0 0 need.Nothing ∷
    told 6 kind.Local 0 0 0 need.Nothing ∷
    told 0 kind.Reply 0 0 0 (need.Reply 0 (outcome.Value (node root.Void no_fields))) ∷
    told 0 kind.Finish 0 0 0 need.Finish ∷ [])
unfolding digits
draws_first = refl

-- after 1 events: not 1 nothing
pub draws_first_refuses_0 : then_tries program 0 (
    act 0 (mail program 0 0 0 (node root.Void no_fields)) ∷ []) 1 given.Nothing ≡ None
unfolding digits
draws_first_refuses_0 = refl

-- after 1 events: not 2 nothing
pub draws_first_refuses_1 : then_tries program 0 (
    act 0 (mail program 0 0 0 (node root.Void no_fields)) ∷ []) 2 given.Nothing ≡ None
unfolding digits
draws_first_refuses_1 = refl

-- after 1 events: not 7 nothing
pub draws_first_refuses_2 : then_tries program 0 (
    act 0 (mail program 0 0 0 (node root.Void no_fields)) ∷ []) 7 given.Nothing ≡ None
unfolding digits
draws_first_refuses_2 = refl

-- after 4 events: not 0 nothing
pub draws_first_refuses_3 : then_tries program 0 (
    act 0 (mail program 0 0 0 (node root.Void no_fields)) ∷
    act 3 given.Nothing ∷
    act 4 given.Nothing ∷
    act 5 given.Nothing ∷ []) 0 given.Nothing ≡ None
unfolding digits
draws_first_refuses_3 = refl

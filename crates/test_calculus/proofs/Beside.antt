-- A fault beside a request ends its body, and the caller is told.
use Rattle.std.specs.Prelude.{◌≡◌, true, [], ◌∷◌, None, Some}
use Rattle.std.proofs.Common.{refl}
use Rattle.std.specs.Fmt.{digits}
use Rattle.jolie_trees.specs.declared.root.Root.TheVariants as root
use Rattle.jolie_trees.specs.Data.{node, no_fields}
use Rattle.behaviour_tree.specs.declared.types.RootKind.TheVariants as kinds
use Rattle.behaviour_tree.specs.declared.program.Execution.TheVariants as execution
use Rattle.behaviour_tree.specs.declared.words.Kind.TheVariants as kind
use Rattle.behaviour_tree.specs.declared.words.Need.TheVariants as need
use Rattle.behaviour_tree.specs.declared.words.Given.TheVariants as given
use Rattle.behaviour_tree.specs.declared.words.Outcome.TheVariants as outcome
use Rattle.behaviour_tree.specs.Data.{plain, no_type_fields, here, step, constant, nothing, sequence, parallel, choice, throw, block, no_procs, proc, no_branches, one_way, request, ProgramParts}
use Rattle.test_calculus.specs.Told.{told, act, mail, happens, then_tries}

abbrev program : ProgramParts
program = record {
  types = [];
  interfaces = (record { name = (73 ∷ []); operations = (record { name = (103 ∷ 111 ∷ []); request = (plain kinds.Void no_type_fields); response = (Some (plain kinds.Int no_type_fields)); throws = [] } ∷ record { name = (112 ∷ 97 ∷ 117 ∷ 115 ∷ 101 ∷ []); request = (plain kinds.Void no_type_fields); response = None; throws = [] } ∷ record { name = (104 ∷ 97 ∷ 108 ∷ 116 ∷ []); request = (plain kinds.Void no_type_fields); response = None; throws = [] } ∷ []) } ∷ []);
  services = (record { name = (83 ∷ []); execution = execution.Single; ports = (record { name = (73 ∷ 110 ∷ []); input = true; location = (115 ∷ 111 ∷ 99 ∷ 107 ∷ 101 ∷ 116 ∷ 58 ∷ 47 ∷ 47 ∷ 108 ∷ 111 ∷ 99 ∷ 97 ∷ 108 ∷ 104 ∷ 111 ∷ 115 ∷ 116 ∷ 58 ∷ 56 ∷ 48 ∷ 48 ∷ 48 ∷ []); interfaces = (0 ∷ []) } ∷ []); sets = []; init = nothing; main = (parallel (proc (choice (request 0 None (Some (step (121 ∷ []) here)) (choice (one_way 1 None nothing no_branches)) nothing no_branches)) (proc (block (sequence (proc (choice (one_way 2 None nothing no_branches)) (proc (throw 9 (constant root.Void)) no_procs)))) no_procs))) } ∷ []);
  names = ((73 ∷ 79 ∷ 69 ∷ 120 ∷ 99 ∷ 101 ∷ 112 ∷ 116 ∷ 105 ∷ 111 ∷ 110 ∷ []) ∷ (84 ∷ 121 ∷ 112 ∷ 101 ∷ 77 ∷ 105 ∷ 115 ∷ 109 ∷ 97 ∷ 116 ∷ 99 ∷ 104 ∷ []) ∷ (67 ∷ 111 ∷ 114 ∷ 114 ∷ 101 ∷ 108 ∷ 97 ∷ 116 ∷ 105 ∷ 111 ∷ 110 ∷ 69 ∷ 114 ∷ 114 ∷ 111 ∷ 114 ∷ []) ∷ (82 ∷ 101 ∷ 102 ∷ 117 ∷ 115 ∷ 101 ∷ 100 ∷ []) ∷ (85 ∷ 110 ∷ 100 ∷ 101 ∷ 99 ∷ 108 ∷ 97 ∷ 114 ∷ 101 ∷ 100 ∷ 70 ∷ 97 ∷ 117 ∷ 108 ∷ 116 ∷ []) ∷ (69 ∷ 120 ∷ 112 ∷ 114 ∷ 70 ∷ 97 ∷ 117 ∷ 108 ∷ 116 ∷ []) ∷ (72 ∷ 97 ∷ 110 ∷ 100 ∷ 108 ∷ 101 ∷ 114 ∷ 84 ∷ 111 ∷ 111 ∷ 76 ∷ 97 ∷ 114 ∷ 103 ∷ 101 ∷ []) ∷ (83 ∷ 116 ∷ 111 ∷ 114 ∷ 101 ∷ 84 ∷ 111 ∷ 111 ∷ 76 ∷ 97 ∷ 114 ∷ 103 ∷ 101 ∷ []) ∷ (109 ∷ 97 ∷ 105 ∷ 110 ∷ []) ∷ (103 ∷ []) ∷ []);
}

pub caller_is_told : happens program 0 (
    act 1 (mail program 0 0 0 (node root.Void no_fields)) ∷
    act 2 (mail program 0 1 2 (node root.Void no_fields)) ∷
    act 2 given.Nothing ∷
    act 1 given.Nothing ∷
    act 0 given.Nothing ∷ []) ≡ (
    told 1 kind.In 0 0 0 (need.Take (0 ∷ [])) ∷
    told 2 kind.In 1 0 0 (need.Take (2 ∷ [])) ∷
    told 2 kind.Raise 2 8 9 need.Nothing ∷
    told 1 kind.Reply 0 0 0 (need.Reply 0 (outcome.Fault (103 ∷ []) (node root.Void no_fields))) ∷
    told 0 kind.Finish 0 0 0 need.Finish ∷ [])
unfolding digits
caller_is_told = refl

-- after 0 events: not 0 mail 0 go v
pub caller_is_told_refuses_0 : then_tries program 0 [] 0 (mail program 0 0 0 (node root.Void no_fields)) ≡ None
unfolding digits
caller_is_told_refuses_0 = refl

-- after 2 events: not 2 mail 2 halt v
pub caller_is_told_refuses_1 : then_tries program 0 (
    act 1 (mail program 0 0 0 (node root.Void no_fields)) ∷
    act 2 (mail program 0 1 2 (node root.Void no_fields)) ∷ []) 2 (mail program 0 2 2 (node root.Void no_fields)) ≡ None
unfolding digits
caller_is_told_refuses_1 = refl

-- after 3 events: not 1 mail 2 pause v
pub caller_is_told_refuses_2 : then_tries program 0 (
    act 1 (mail program 0 0 0 (node root.Void no_fields)) ∷
    act 2 (mail program 0 1 2 (node root.Void no_fields)) ∷
    act 2 given.Nothing ∷ []) 1 (mail program 0 2 1 (node root.Void no_fields)) ≡ None
unfolding digits
caller_is_told_refuses_2 = refl

-- after 3 events: not 2 nothing
pub caller_is_told_refuses_3 : then_tries program 0 (
    act 1 (mail program 0 0 0 (node root.Void no_fields)) ∷
    act 2 (mail program 0 1 2 (node root.Void no_fields)) ∷
    act 2 given.Nothing ∷ []) 2 given.Nothing ≡ None
unfolding digits
caller_is_told_refuses_3 = refl

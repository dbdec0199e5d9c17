-- A scope that caught a fault and is killed before it handled it runs its termination handler instead.
use Rattle.std.specs.Prelude.{◌≡◌, pos, true, false, [], ◌∷◌, None, Some}
use Rattle.std.proofs.Common.{refl}
use Rattle.std.specs.Fmt.{digits}
use Rattle.jolie_trees.specs.declared.root.Root.TheVariants as root
use Rattle.jolie_trees.specs.Data.{node, no_fields}
use Rattle.behaviour_tree.specs.declared.types.RootKind.TheVariants as kinds
use Rattle.behaviour_tree.specs.declared.behaviour.HandlerKey.TheVariants as key
use Rattle.behaviour_tree.specs.declared.program.Execution.TheVariants as execution
use Rattle.behaviour_tree.specs.declared.words.Kind.TheVariants as kind
use Rattle.behaviour_tree.specs.declared.words.Need.TheVariants as need
use Rattle.behaviour_tree.specs.declared.words.Given.TheVariants as given
use Rattle.behaviour_tree.specs.declared.words.Outcome.TheVariants as outcome
use Rattle.behaviour_tree.specs.Data.{plain, no_type_fields, here, step, constant, nothing, assign, sequence, parallel, choice, solicit, install, throw, scope, block, no_procs, proc, no_branches, one_way, request, no_handlers, handler, ProgramParts}
use Rattle.test_calculus.specs.Told.{told, act, mail, happens, then_tries}

abbrev program : ProgramParts
program = record {
  types = [];
  interfaces = (record { name = (73 ∷ []); operations = (record { name = (103 ∷ 111 ∷ []); request = (plain kinds.Void no_type_fields); response = (Some (plain kinds.Any no_type_fields)); throws = [] } ∷ record { name = (104 ∷ 97 ∷ 108 ∷ 116 ∷ []); request = (plain kinds.Void no_type_fields); response = None; throws = [] } ∷ []) } ∷ record { name = (81 ∷ []); operations = (record { name = (97 ∷ 115 ∷ 107 ∷ []); request = (plain kinds.Void no_type_fields); response = (Some (plain kinds.Void no_type_fields)); throws = [] } ∷ []) } ∷ []);
  services = (record { name = (83 ∷ []); execution = execution.Single; ports = (record { name = (73 ∷ 110 ∷ []); input = true; location = (115 ∷ 111 ∷ 99 ∷ 107 ∷ 101 ∷ 116 ∷ 58 ∷ 47 ∷ 47 ∷ 108 ∷ 111 ∷ 99 ∷ 97 ∷ 108 ∷ 104 ∷ 111 ∷ 115 ∷ 116 ∷ 58 ∷ 56 ∷ 48 ∷ 48 ∷ 48 ∷ []); interfaces = (0 ∷ []) } ∷ record { name = (80 ∷ []); input = false; location = (108 ∷ 111 ∷ 99 ∷ 97 ∷ 108 ∷ 58 ∷ 47 ∷ 47 ∷ 112 ∷ []); interfaces = (1 ∷ []) } ∷ []); sets = []; init = nothing; main = (parallel (proc (choice (request 0 None (Some (step (121 ∷ []) here)) (scope 9 (sequence (proc (install (handler key.This (assign (step (122 ∷ []) here) (constant (root.Int (pos 1)))) (handler (key.Fault 10) (assign (step (122 ∷ []) here) (constant (root.Int (pos 2)))) no_handlers))) (proc (block (parallel (proc (solicit 1 0 (constant root.Void) None no_handlers) (proc (throw 10 (constant root.Void)) no_procs)))) no_procs)))) nothing no_branches)) (proc (block (sequence (proc (choice (one_way 1 None nothing no_branches)) (proc (throw 11 (constant root.Void)) no_procs)))) no_procs))) } ∷ []);
  names = ((73 ∷ 79 ∷ 69 ∷ 120 ∷ 99 ∷ 101 ∷ 112 ∷ 116 ∷ 105 ∷ 111 ∷ 110 ∷ []) ∷ (84 ∷ 121 ∷ 112 ∷ 101 ∷ 77 ∷ 105 ∷ 115 ∷ 109 ∷ 97 ∷ 116 ∷ 99 ∷ 104 ∷ []) ∷ (67 ∷ 111 ∷ 114 ∷ 114 ∷ 101 ∷ 108 ∷ 97 ∷ 116 ∷ 105 ∷ 111 ∷ 110 ∷ 69 ∷ 114 ∷ 114 ∷ 111 ∷ 114 ∷ []) ∷ (82 ∷ 101 ∷ 102 ∷ 117 ∷ 115 ∷ 101 ∷ 100 ∷ []) ∷ (85 ∷ 110 ∷ 100 ∷ 101 ∷ 99 ∷ 108 ∷ 97 ∷ 114 ∷ 101 ∷ 100 ∷ 70 ∷ 97 ∷ 117 ∷ 108 ∷ 116 ∷ []) ∷ (69 ∷ 120 ∷ 112 ∷ 114 ∷ 70 ∷ 97 ∷ 117 ∷ 108 ∷ 116 ∷ []) ∷ (72 ∷ 97 ∷ 110 ∷ 100 ∷ 108 ∷ 101 ∷ 114 ∷ 84 ∷ 111 ∷ 111 ∷ 76 ∷ 97 ∷ 114 ∷ 103 ∷ 101 ∷ []) ∷ (83 ∷ 116 ∷ 111 ∷ 114 ∷ 101 ∷ 84 ∷ 111 ∷ 111 ∷ 76 ∷ 97 ∷ 114 ∷ 103 ∷ 101 ∷ []) ∷ (109 ∷ 97 ∷ 105 ∷ 110 ∷ []) ∷ (108 ∷ 101 ∷ 102 ∷ 116 ∷ []) ∷ (102 ∷ []) ∷ (103 ∷ []) ∷ []);
}

pub terminates : happens program 0 (
    act 1 (mail program 0 0 0 (node root.Void no_fields)) ∷
    act 1 given.Nothing ∷
    act 3 given.Nothing ∷
    act 4 given.Nothing ∷
    act 2 (mail program 0 1 1 (node root.Void no_fields)) ∷
    act 2 given.Nothing ∷
    act 1 given.Nothing ∷
    act 3 (given.Answer (outcome.Value (node root.Void no_fields))) ∷
    act 1 given.Nothing ∷
    act 1 given.Nothing ∷
    act 0 given.Nothing ∷ []) ≡ (
    told 1 kind.In 0 0 0 (need.Take (0 ∷ [])) ∷
    told 1 kind.Install 0 0 0 need.Nothing ∷
    told 3 kind.Solicit 0 0 0 (need.Send 0 1 0 (node root.Void no_fields) true) ∷
    told 4 kind.Raise 0 9 10 need.Nothing ∷
    told 2 kind.In 1 0 0 (need.Take (1 ∷ [])) ∷
    told 2 kind.Raise 2 8 11 need.Nothing ∷
    told 1 kind.Reply 0 0 0 (need.Reply 0 (outcome.Fault (103 ∷ []) (node root.Void no_fields))) ∷
    told 3 kind.Answer 0 0 0 (need.Answer 0) ∷
    told 1 kind.Handle 1 9 0 need.Nothing ∷
    told 1 kind.Local 0 0 0 need.Nothing ∷
    told 0 kind.Finish 0 0 0 need.Finish ∷ [])
unfolding digits
terminates = refl

-- after 6 events: not 3 answer value v
pub terminates_refuses_0 : then_tries program 0 (
    act 1 (mail program 0 0 0 (node root.Void no_fields)) ∷
    act 1 given.Nothing ∷
    act 3 given.Nothing ∷
    act 4 given.Nothing ∷
    act 2 (mail program 0 1 1 (node root.Void no_fields)) ∷
    act 2 given.Nothing ∷ []) 3 (given.Answer (outcome.Value (node root.Void no_fields))) ≡ None
unfolding digits
terminates_refuses_0 = refl

-- after 7 events: not 1 nothing
pub terminates_refuses_1 : then_tries program 0 (
    act 1 (mail program 0 0 0 (node root.Void no_fields)) ∷
    act 1 given.Nothing ∷
    act 3 given.Nothing ∷
    act 4 given.Nothing ∷
    act 2 (mail program 0 1 1 (node root.Void no_fields)) ∷
    act 2 given.Nothing ∷
    act 1 given.Nothing ∷ []) 1 given.Nothing ≡ None
unfolding digits
terminates_refuses_1 = refl

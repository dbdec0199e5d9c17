-- A call that waits is not ended by a fault beside it: its answer installs its handlers before the fault is handled.
use Rattle.std.specs.Prelude.{◌≡◌, pos, true, false, [], ◌∷◌, None, Some}
use Rattle.std.proofs.Common.{refl}
use Rattle.std.specs.Fmt.{digits}
use Rattle.jolie_trees.specs.declared.root.Root.TheVariants as root
use Rattle.jolie_trees.specs.Data.{node, no_fields}
use Rattle.behaviour_tree.specs.declared.types.RootKind.TheVariants as kinds
use Rattle.behaviour_tree.specs.declared.behaviour.HandlerKey.TheVariants as key
use Rattle.behaviour_tree.specs.declared.program.Execution.TheVariants as execution
use Rattle.behaviour_tree.specs.declared.words.Kind.TheVariants as kind
use Rattle.behaviour_tree.specs.declared.words.Need.TheVariants as need
use Rattle.behaviour_tree.specs.declared.words.Given.TheVariants as given
use Rattle.behaviour_tree.specs.declared.words.Outcome.TheVariants as outcome
use Rattle.behaviour_tree.specs.Data.{plain, no_type_fields, here, step, constant, at_path, nothing, assign, sequence, parallel, choice, solicit, install, throw, comp, scope, block, no_procs, proc, no_branches, request, no_handlers, handler, ProgramParts}
use Rattle.test_calculus.specs.Told.{told, act, mail, happens, then_tries}

abbrev program : ProgramParts
program = record {
  types = [];
  interfaces = (record { name = (73 ∷ []); operations = (record { name = (103 ∷ 111 ∷ []); request = (plain kinds.Void no_type_fields); response = (Some (plain kinds.Any no_type_fields)); throws = [] } ∷ []) } ∷ record { name = (81 ∷ []); operations = (record { name = (97 ∷ 115 ∷ 107 ∷ []); request = (plain kinds.Int no_type_fields); response = (Some (plain kinds.Int no_type_fields)); throws = (record { fault = 9; ty = (plain kinds.Long no_type_fields) } ∷ []) } ∷ []) } ∷ []);
  services = (record { name = (83 ∷ []); execution = execution.Single; ports = (record { name = (73 ∷ 110 ∷ []); input = true; location = (115 ∷ 111 ∷ 99 ∷ 107 ∷ 101 ∷ 116 ∷ 58 ∷ 47 ∷ 47 ∷ 108 ∷ 111 ∷ 99 ∷ 97 ∷ 108 ∷ 104 ∷ 111 ∷ 115 ∷ 116 ∷ 58 ∷ 56 ∷ 48 ∷ 48 ∷ 48 ∷ []); interfaces = (0 ∷ []) } ∷ record { name = (80 ∷ []); input = false; location = (108 ∷ 111 ∷ 99 ∷ 97 ∷ 108 ∷ 58 ∷ 47 ∷ 47 ∷ 112 ∷ []); interfaces = (1 ∷ []) } ∷ []); sets = []; init = nothing; main = (choice (request 0 None (Some (step (121 ∷ []) here)) (scope 10 (sequence (proc (install (handler (key.Fault 11) (sequence (proc (comp 10) (proc (assign (step (121 ∷ []) here) (at_path (step (99 ∷ []) here))) no_procs))) no_handlers)) (proc (block (parallel (proc (solicit 1 0 (constant (root.Int (pos 1))) (Some (step (114 ∷ []) here)) (handler key.This (assign (step (99 ∷ []) here) (constant (root.Int (pos 1)))) no_handlers)) (proc (throw 11 (constant root.Void)) no_procs)))) no_procs)))) nothing no_branches)) } ∷ record { name = (84 ∷ []); execution = execution.Single; ports = (record { name = (73 ∷ 110 ∷ []); input = true; location = (108 ∷ 111 ∷ 99 ∷ 97 ∷ 108 ∷ 58 ∷ 47 ∷ 47 ∷ 112 ∷ []); interfaces = (1 ∷ []) } ∷ []); sets = []; init = nothing; main = (choice (request 0 (Some (step (97 ∷ []) here)) (Some (step (98 ∷ []) here)) (assign (step (98 ∷ []) here) (at_path (step (97 ∷ []) here))) nothing no_branches)) } ∷ []);
  names = ((73 ∷ 79 ∷ 69 ∷ 120 ∷ 99 ∷ 101 ∷ 112 ∷ 116 ∷ 105 ∷ 111 ∷ 110 ∷ []) ∷ (84 ∷ 121 ∷ 112 ∷ 101 ∷ 77 ∷ 105 ∷ 115 ∷ 109 ∷ 97 ∷ 116 ∷ 99 ∷ 104 ∷ []) ∷ (67 ∷ 111 ∷ 114 ∷ 114 ∷ 101 ∷ 108 ∷ 97 ∷ 116 ∷ 105 ∷ 111 ∷ 110 ∷ 69 ∷ 114 ∷ 114 ∷ 111 ∷ 114 ∷ []) ∷ (82 ∷ 101 ∷ 102 ∷ 117 ∷ 115 ∷ 101 ∷ 100 ∷ []) ∷ (85 ∷ 110 ∷ 100 ∷ 101 ∷ 99 ∷ 108 ∷ 97 ∷ 114 ∷ 101 ∷ 100 ∷ 70 ∷ 97 ∷ 117 ∷ 108 ∷ 116 ∷ []) ∷ (69 ∷ 120 ∷ 112 ∷ 114 ∷ 70 ∷ 97 ∷ 117 ∷ 108 ∷ 116 ∷ []) ∷ (72 ∷ 97 ∷ 110 ∷ 100 ∷ 108 ∷ 101 ∷ 114 ∷ 84 ∷ 111 ∷ 111 ∷ 76 ∷ 97 ∷ 114 ∷ 103 ∷ 101 ∷ []) ∷ (83 ∷ 116 ∷ 111 ∷ 114 ∷ 101 ∷ 84 ∷ 111 ∷ 111 ∷ 76 ∷ 97 ∷ 114 ∷ 103 ∷ 101 ∷ []) ∷ (109 ∷ 97 ∷ 105 ∷ 110 ∷ []) ∷ (111 ∷ 100 ∷ 100 ∷ []) ∷ (113 ∷ []) ∷ (102 ∷ []) ∷ []);
}

pub waits_and_installs : happens program 0 (
    act 0 (mail program 0 0 0 (node root.Void no_fields)) ∷
    act 0 given.Nothing ∷
    act 1 given.Nothing ∷
    act 2 given.Nothing ∷
    act 1 (given.Answer (outcome.Value (node (root.Int (pos 1)) no_fields))) ∷
    act 0 given.Nothing ∷
    act 0 given.Nothing ∷
    act 0 given.Nothing ∷
    act 0 given.Nothing ∷
    act 0 given.Nothing ∷
    act 0 given.Nothing ∷
    act 0 given.Nothing ∷ []) ≡ (
    told 0 kind.In 0 0 0 (need.Take (0 ∷ [])) ∷
    told 0 kind.Install 0 0 0 need.Nothing ∷
    told 1 kind.Solicit 0 0 0 (need.Send 0 1 0 (node (root.Int (pos 1)) no_fields) true) ∷
    told 2 kind.Raise 0 10 11 need.Nothing ∷
    told 1 kind.Answer 0 0 0 (need.Answer 0) ∷
    told 0 kind.Handle 0 10 11 need.Nothing ∷
    told 0 kind.Compensate 0 10 0 need.Nothing ∷
    told 0 kind.Local 0 0 0 need.Nothing ∷
    told 0 kind.Local 0 0 0 need.Nothing ∷
    told 0 kind.EndScope 0 10 0 need.Nothing ∷
    told 0 kind.Reply 0 0 0 (need.Reply 0 (outcome.Value (node (root.Int (pos 1)) no_fields))) ∷
    told 0 kind.Finish 0 0 0 need.Finish ∷ [])
unfolding digits
waits_and_installs = refl

-- after 3 events: not 1 nothing
pub waits_and_installs_refuses_0 : then_tries program 0 (
    act 0 (mail program 0 0 0 (node root.Void no_fields)) ∷
    act 0 given.Nothing ∷
    act 1 given.Nothing ∷ []) 1 given.Nothing ≡ None
unfolding digits
waits_and_installs_refuses_0 = refl

-- after 4 events: not 0 nothing
pub waits_and_installs_refuses_1 : then_tries program 0 (
    act 0 (mail program 0 0 0 (node root.Void no_fields)) ∷
    act 0 given.Nothing ∷
    act 1 given.Nothing ∷
    act 2 given.Nothing ∷ []) 0 given.Nothing ≡ None
unfolding digits
waits_and_installs_refuses_1 = refl

pub told_of_a_fault : happens program 0 (
    act 0 (mail program 0 0 0 (node root.Void no_fields)) ∷
    act 0 given.Nothing ∷
    act 1 given.Nothing ∷
    act 2 given.Nothing ∷
    act 1 (given.Answer (outcome.Fault (110 ∷ 111 ∷ []) (node root.Void no_fields))) ∷
    act 0 given.Nothing ∷
    act 0 given.Nothing ∷
    act 0 given.Nothing ∷
    act 0 given.Nothing ∷
    act 0 given.Nothing ∷
    act 0 given.Nothing ∷ []) ≡ (
    told 0 kind.In 0 0 0 (need.Take (0 ∷ [])) ∷
    told 0 kind.Install 0 0 0 need.Nothing ∷
    told 1 kind.Solicit 0 0 0 (need.Send 0 1 0 (node (root.Int (pos 1)) no_fields) true) ∷
    told 2 kind.Raise 0 10 11 need.Nothing ∷
    told 1 kind.Answer 0 0 0 (need.Answer 0) ∷
    told 0 kind.Handle 0 10 11 need.Nothing ∷
    told 0 kind.Compensate 0 10 0 need.Nothing ∷
    told 0 kind.Local 0 0 0 need.Nothing ∷
    told 0 kind.EndScope 0 10 0 need.Nothing ∷
    told 0 kind.Reply 0 0 0 (need.Reply 0 (outcome.Value (node root.Void no_fields))) ∷
    told 0 kind.Finish 0 0 0 need.Finish ∷ [])
unfolding digits
told_of_a_fault = refl

pub value_of_another_type : happens program 0 (
    act 0 (mail program 0 0 0 (node root.Void no_fields)) ∷
    act 0 given.Nothing ∷
    act 1 given.Nothing ∷
    act 2 given.Nothing ∷
    act 1 (given.Answer (outcome.Value (node (root.Text (120 ∷ [])) no_fields))) ∷
    act 0 given.Nothing ∷
    act 0 given.Nothing ∷
    act 0 given.Nothing ∷
    act 0 given.Nothing ∷
    act 0 given.Nothing ∷
    act 0 given.Nothing ∷ []) ≡ (
    told 0 kind.In 0 0 0 (need.Take (0 ∷ [])) ∷
    told 0 kind.Install 0 0 0 need.Nothing ∷
    told 1 kind.Solicit 0 0 0 (need.Send 0 1 0 (node (root.Int (pos 1)) no_fields) true) ∷
    told 2 kind.Raise 0 10 11 need.Nothing ∷
    told 1 kind.Answer 0 0 0 (need.Answer 0) ∷
    told 0 kind.Handle 0 10 11 need.Nothing ∷
    told 0 kind.Compensate 0 10 0 need.Nothing ∷
    told 0 kind.Local 0 0 0 need.Nothing ∷
    told 0 kind.EndScope 0 10 0 need.Nothing ∷
    told 0 kind.Reply 0 0 0 (need.Reply 0 (outcome.Value (node root.Void no_fields))) ∷
    told 0 kind.Finish 0 0 0 need.Finish ∷ [])
unfolding digits
value_of_another_type = refl

pub never_sent : happens program 0 (
    act 0 (mail program 0 0 0 (node root.Void no_fields)) ∷
    act 0 given.Nothing ∷
    act 2 given.Nothing ∷
    act 0 given.Nothing ∷
    act 0 given.Nothing ∷
    act 0 given.Nothing ∷
    act 0 given.Nothing ∷
    act 0 given.Nothing ∷
    act 0 given.Nothing ∷ []) ≡ (
    told 0 kind.In 0 0 0 (need.Take (0 ∷ [])) ∷
    told 0 kind.Install 0 0 0 need.Nothing ∷
    told 2 kind.Raise 0 10 11 need.Nothing ∷
    told 0 kind.Handle 0 10 11 need.Nothing ∷
    told 0 kind.Compensate 0 10 0 need.Nothing ∷
    told 0 kind.Local 0 0 0 need.Nothing ∷
    told 0 kind.EndScope 0 10 0 need.Nothing ∷
    told 0 kind.Reply 0 0 0 (need.Reply 0 (outcome.Value (node root.Void no_fields))) ∷
    told 0 kind.Finish 0 0 0 need.Finish ∷ [])
unfolding digits
never_sent = refl

-- after 3 events: not 1 nothing
pub never_sent_refuses_0 : then_tries program 0 (
    act 0 (mail program 0 0 0 (node root.Void no_fields)) ∷
    act 0 given.Nothing ∷
    act 2 given.Nothing ∷ []) 1 given.Nothing ≡ None
unfolding digits
never_sent_refuses_0 = refl

pub asked : happens program 1 (
    act 0 (mail program 1 1 0 (node (root.Int (pos 1)) no_fields)) ∷
    act 0 given.Nothing ∷
    act 0 given.Nothing ∷
    act 0 given.Nothing ∷ []) ≡ (
    told 0 kind.In 1 0 0 (need.Take (0 ∷ [])) ∷
    told 0 kind.Local 0 0 0 need.Nothing ∷
    told 0 kind.Reply 1 0 0 (need.Reply 1 (outcome.Value (node (root.Int (pos 1)) no_fields))) ∷
    told 0 kind.Finish 0 0 0 need.Finish ∷ [])
unfolding digits
asked = refl

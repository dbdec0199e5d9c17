-- An answer as its caller reads it: a value, a fault that the operation throws, one that passes as itself, another, a refusal.
use Rattle.std.specs.Prelude.{◌≡◌, pos, negsuc, true, false, [], ◌∷◌, None, Some}
use Rattle.std.proofs.Common.{refl}
use Rattle.std.specs.Fmt.{digits}
use Rattle.jolie_trees.specs.declared.root.Root.TheVariants as root
use Rattle.jolie_trees.specs.Data.{node, no_fields}
use Rattle.behaviour_tree.specs.declared.types.RootKind.TheVariants as kinds
use Rattle.behaviour_tree.specs.declared.behaviour.HandlerKey.TheVariants as key
use Rattle.behaviour_tree.specs.declared.program.Execution.TheVariants as execution
use Rattle.behaviour_tree.specs.declared.words.Kind.TheVariants as kind
use Rattle.behaviour_tree.specs.declared.words.Need.TheVariants as need
use Rattle.behaviour_tree.specs.declared.words.Given.TheVariants as given
use Rattle.behaviour_tree.specs.declared.words.Outcome.TheVariants as outcome
use Rattle.behaviour_tree.specs.declared.words.Reason.TheVariants as reason
use Rattle.behaviour_tree.specs.Data.{plain, no_type_fields, here, step, constant, at_path, nothing, assign, sequence, choice, solicit, install, scope, no_procs, proc, no_branches, request, no_handlers, handler, ProgramParts}
use Rattle.test_calculus.specs.Told.{told, act, mail, happens}

abbrev program : ProgramParts
program = record {
  types = [];
  interfaces = (record { name = (73 ∷ []); operations = (record { name = (103 ∷ 111 ∷ []); request = (plain kinds.Void no_type_fields); response = (Some (plain kinds.Any no_type_fields)); throws = [] } ∷ []) } ∷ record { name = (79 ∷ []); operations = (record { name = (111 ∷ 116 ∷ 104 ∷ 101 ∷ 114 ∷ []); request = (plain kinds.Void no_type_fields); response = (Some (plain kinds.Void no_type_fields)); throws = [] } ∷ []) } ∷ record { name = (81 ∷ []); operations = (record { name = (97 ∷ 115 ∷ 107 ∷ []); request = (plain kinds.Long no_type_fields); response = (Some (plain kinds.Long no_type_fields)); throws = (record { fault = 9; ty = (plain kinds.Long no_type_fields) } ∷ record { fault = 10; ty = (plain kinds.Void no_type_fields) } ∷ []) } ∷ record { name = (116 ∷ 101 ∷ 108 ∷ 108 ∷ []); request = (plain kinds.Long no_type_fields); response = None; throws = [] } ∷ []) } ∷ []);
  services = (record { name = (83 ∷ []); execution = execution.Single; ports = (record { name = (73 ∷ 110 ∷ []); input = true; location = (115 ∷ 111 ∷ 99 ∷ 107 ∷ 101 ∷ 116 ∷ 58 ∷ 47 ∷ 47 ∷ 108 ∷ 111 ∷ 99 ∷ 97 ∷ 108 ∷ 104 ∷ 111 ∷ 115 ∷ 116 ∷ 58 ∷ 56 ∷ 48 ∷ 48 ∷ 48 ∷ []); interfaces = (0 ∷ []) } ∷ record { name = (82 ∷ []); input = false; location = (108 ∷ 111 ∷ 99 ∷ 97 ∷ 108 ∷ 58 ∷ 47 ∷ 47 ∷ 111 ∷ []); interfaces = (1 ∷ []) } ∷ record { name = (80 ∷ []); input = false; location = (108 ∷ 111 ∷ 99 ∷ 97 ∷ 108 ∷ 58 ∷ 47 ∷ 47 ∷ 112 ∷ []); interfaces = (2 ∷ []) } ∷ []); sets = []; init = nothing; main = (choice (request 0 None (Some (step (121 ∷ []) here)) (scope 11 (sequence (proc (install (handler (key.Fault 9) (assign (step (121 ∷ []) here) (at_path (step (115 ∷ []) (step (111 ∷ 100 ∷ 100 ∷ []) here)))) (handler (key.Fault 10) (assign (step (121 ∷ []) here) (constant (root.Text (101 ∷ 118 ∷ 101 ∷ 110 ∷ [])))) (handler (key.Fault 4) (assign (step (121 ∷ []) here) (constant (root.Text (117 ∷ 110 ∷ 100 ∷ 101 ∷ 99 ∷ 108 ∷ 97 ∷ 114 ∷ 101 ∷ 100 ∷ [])))) (handler (key.Fault 3) (assign (step (121 ∷ []) here) (at_path (step (115 ∷ []) (step (82 ∷ 101 ∷ 102 ∷ 117 ∷ 115 ∷ 101 ∷ 100 ∷ []) here)))) (handler (key.Fault 1) (assign (step (121 ∷ []) here) (constant (root.Text (109 ∷ 105 ∷ 115 ∷ 109 ∷ 97 ∷ 116 ∷ 99 ∷ 104 ∷ [])))) (handler (key.Fault 2) (assign (step (121 ∷ []) here) (constant (root.Text (99 ∷ 111 ∷ 114 ∷ 114 ∷ 101 ∷ 108 ∷ 97 ∷ 116 ∷ 105 ∷ 111 ∷ 110 ∷ [])))) (handler (key.Fault 0) (assign (step (121 ∷ []) here) (at_path (step (115 ∷ []) (step (73 ∷ 79 ∷ 69 ∷ 120 ∷ 99 ∷ 101 ∷ 112 ∷ 116 ∷ 105 ∷ 111 ∷ 110 ∷ []) here)))) no_handlers)))))))) (proc (solicit 2 0 (constant (root.Int (pos 1))) (Some (step (121 ∷ []) here)) no_handlers) no_procs)))) nothing no_branches)) } ∷ []);
  names = ((73 ∷ 79 ∷ 69 ∷ 120 ∷ 99 ∷ 101 ∷ 112 ∷ 116 ∷ 105 ∷ 111 ∷ 110 ∷ []) ∷ (84 ∷ 121 ∷ 112 ∷ 101 ∷ 77 ∷ 105 ∷ 115 ∷ 109 ∷ 97 ∷ 116 ∷ 99 ∷ 104 ∷ []) ∷ (67 ∷ 111 ∷ 114 ∷ 114 ∷ 101 ∷ 108 ∷ 97 ∷ 116 ∷ 105 ∷ 111 ∷ 110 ∷ 69 ∷ 114 ∷ 114 ∷ 111 ∷ 114 ∷ []) ∷ (82 ∷ 101 ∷ 102 ∷ 117 ∷ 115 ∷ 101 ∷ 100 ∷ []) ∷ (85 ∷ 110 ∷ 100 ∷ 101 ∷ 99 ∷ 108 ∷ 97 ∷ 114 ∷ 101 ∷ 100 ∷ 70 ∷ 97 ∷ 117 ∷ 108 ∷ 116 ∷ []) ∷ (69 ∷ 120 ∷ 112 ∷ 114 ∷ 70 ∷ 97 ∷ 117 ∷ 108 ∷ 116 ∷ []) ∷ (72 ∷ 97 ∷ 110 ∷ 100 ∷ 108 ∷ 101 ∷ 114 ∷ 84 ∷ 111 ∷ 111 ∷ 76 ∷ 97 ∷ 114 ∷ 103 ∷ 101 ∷ []) ∷ (83 ∷ 116 ∷ 111 ∷ 114 ∷ 101 ∷ 84 ∷ 111 ∷ 111 ∷ 76 ∷ 97 ∷ 114 ∷ 103 ∷ 101 ∷ []) ∷ (109 ∷ 97 ∷ 105 ∷ 110 ∷ []) ∷ (111 ∷ 100 ∷ 100 ∷ []) ∷ (101 ∷ 118 ∷ 101 ∷ 110 ∷ []) ∷ (115 ∷ []) ∷ []);
}

pub value : happens program 0 (
    act 0 (mail program 0 0 0 (node root.Void no_fields)) ∷
    act 0 given.Nothing ∷
    act 0 given.Nothing ∷
    act 0 (given.Answer (outcome.Value (node (root.Long (pos 7)) no_fields))) ∷
    act 0 given.Nothing ∷
    act 0 given.Nothing ∷
    act 0 given.Nothing ∷ []) ≡ (
    told 0 kind.In 0 0 0 (need.Take (0 ∷ [])) ∷
    told 0 kind.Install 0 0 0 need.Nothing ∷
    told 0 kind.Solicit 0 0 0 (need.Send 0 2 0 (node (root.Long (pos 1)) no_fields) true) ∷
    told 0 kind.Answer 0 0 0 (need.Answer 0) ∷
    told 0 kind.EndScope 0 11 0 need.Nothing ∷
    told 0 kind.Reply 0 0 0 (need.Reply 0 (outcome.Value (node (root.Long (pos 7)) no_fields))) ∷
    told 0 kind.Finish 0 0 0 need.Finish ∷ [])
unfolding digits
value = refl

pub value_is_widened : happens program 0 (
    act 0 (mail program 0 0 0 (node root.Void no_fields)) ∷
    act 0 given.Nothing ∷
    act 0 given.Nothing ∷
    act 0 (given.Answer (outcome.Value (node (root.Int (pos 7)) no_fields))) ∷
    act 0 given.Nothing ∷
    act 0 given.Nothing ∷
    act 0 given.Nothing ∷ []) ≡ (
    told 0 kind.In 0 0 0 (need.Take (0 ∷ [])) ∷
    told 0 kind.Install 0 0 0 need.Nothing ∷
    told 0 kind.Solicit 0 0 0 (need.Send 0 2 0 (node (root.Long (pos 1)) no_fields) true) ∷
    told 0 kind.Answer 0 0 0 (need.Answer 0) ∷
    told 0 kind.EndScope 0 11 0 need.Nothing ∷
    told 0 kind.Reply 0 0 0 (need.Reply 0 (outcome.Value (node (root.Long (pos 7)) no_fields))) ∷
    told 0 kind.Finish 0 0 0 need.Finish ∷ [])
unfolding digits
value_is_widened = refl

pub value_of_another_type : happens program 0 (
    act 0 (mail program 0 0 0 (node root.Void no_fields)) ∷
    act 0 given.Nothing ∷
    act 0 given.Nothing ∷
    act 0 (given.Answer (outcome.Value (node (root.Text (120 ∷ [])) no_fields))) ∷
    act 0 given.Nothing ∷
    act 0 given.Nothing ∷
    act 0 given.Nothing ∷
    act 0 given.Nothing ∷
    act 0 given.Nothing ∷
    act 0 given.Nothing ∷ []) ≡ (
    told 0 kind.In 0 0 0 (need.Take (0 ∷ [])) ∷
    told 0 kind.Install 0 0 0 need.Nothing ∷
    told 0 kind.Solicit 0 0 0 (need.Send 0 2 0 (node (root.Long (pos 1)) no_fields) true) ∷
    told 0 kind.Answer 0 0 0 (need.Answer 0) ∷
    told 0 kind.Raise 0 11 1 need.Nothing ∷
    told 0 kind.Handle 0 11 1 need.Nothing ∷
    told 0 kind.Local 0 0 0 need.Nothing ∷
    told 0 kind.EndScope 0 11 0 need.Nothing ∷
    told 0 kind.Reply 0 0 0 (need.Reply 0 (outcome.Value (node (root.Text (109 ∷ 105 ∷ 115 ∷ 109 ∷ 97 ∷ 116 ∷ 99 ∷ 104 ∷ [])) no_fields))) ∷
    told 0 kind.Finish 0 0 0 need.Finish ∷ [])
unfolding digits
value_of_another_type = refl

pub thrown : happens program 0 (
    act 0 (mail program 0 0 0 (node root.Void no_fields)) ∷
    act 0 given.Nothing ∷
    act 0 given.Nothing ∷
    act 0 (given.Answer (outcome.Fault (111 ∷ 100 ∷ 100 ∷ []) (node (root.Long (pos 5)) no_fields))) ∷
    act 0 given.Nothing ∷
    act 0 given.Nothing ∷
    act 0 given.Nothing ∷
    act 0 given.Nothing ∷
    act 0 given.Nothing ∷
    act 0 given.Nothing ∷ []) ≡ (
    told 0 kind.In 0 0 0 (need.Take (0 ∷ [])) ∷
    told 0 kind.Install 0 0 0 need.Nothing ∷
    told 0 kind.Solicit 0 0 0 (need.Send 0 2 0 (node (root.Long (pos 1)) no_fields) true) ∷
    told 0 kind.Answer 0 0 0 (need.Answer 0) ∷
    told 0 kind.Raise 0 11 9 need.Nothing ∷
    told 0 kind.Handle 0 11 9 need.Nothing ∷
    told 0 kind.Local 0 0 0 need.Nothing ∷
    told 0 kind.EndScope 0 11 0 need.Nothing ∷
    told 0 kind.Reply 0 0 0 (need.Reply 0 (outcome.Value (node (root.Long (pos 5)) no_fields))) ∷
    told 0 kind.Finish 0 0 0 need.Finish ∷ [])
unfolding digits
thrown = refl

pub thrown_is_widened : happens program 0 (
    act 0 (mail program 0 0 0 (node root.Void no_fields)) ∷
    act 0 given.Nothing ∷
    act 0 given.Nothing ∷
    act 0 (given.Answer (outcome.Fault (111 ∷ 100 ∷ 100 ∷ []) (node (root.Int (pos 5)) no_fields))) ∷
    act 0 given.Nothing ∷
    act 0 given.Nothing ∷
    act 0 given.Nothing ∷
    act 0 given.Nothing ∷
    act 0 given.Nothing ∷
    act 0 given.Nothing ∷ []) ≡ (
    told 0 kind.In 0 0 0 (need.Take (0 ∷ [])) ∷
    told 0 kind.Install 0 0 0 need.Nothing ∷
    told 0 kind.Solicit 0 0 0 (need.Send 0 2 0 (node (root.Long (pos 1)) no_fields) true) ∷
    told 0 kind.Answer 0 0 0 (need.Answer 0) ∷
    told 0 kind.Raise 0 11 9 need.Nothing ∷
    told 0 kind.Handle 0 11 9 need.Nothing ∷
    told 0 kind.Local 0 0 0 need.Nothing ∷
    told 0 kind.EndScope 0 11 0 need.Nothing ∷
    told 0 kind.Reply 0 0 0 (need.Reply 0 (outcome.Value (node (root.Long (pos 5)) no_fields))) ∷
    told 0 kind.Finish 0 0 0 need.Finish ∷ [])
unfolding digits
thrown_is_widened = refl

pub thrown_with_another_type : happens program 0 (
    act 0 (mail program 0 0 0 (node root.Void no_fields)) ∷
    act 0 given.Nothing ∷
    act 0 given.Nothing ∷
    act 0 (given.Answer (outcome.Fault (111 ∷ 100 ∷ 100 ∷ []) (node (root.Text (120 ∷ [])) no_fields))) ∷
    act 0 given.Nothing ∷
    act 0 given.Nothing ∷
    act 0 given.Nothing ∷
    act 0 given.Nothing ∷
    act 0 given.Nothing ∷
    act 0 given.Nothing ∷ []) ≡ (
    told 0 kind.In 0 0 0 (need.Take (0 ∷ [])) ∷
    told 0 kind.Install 0 0 0 need.Nothing ∷
    told 0 kind.Solicit 0 0 0 (need.Send 0 2 0 (node (root.Long (pos 1)) no_fields) true) ∷
    told 0 kind.Answer 0 0 0 (need.Answer 0) ∷
    told 0 kind.Raise 0 11 4 need.Nothing ∷
    told 0 kind.Handle 0 11 4 need.Nothing ∷
    told 0 kind.Local 0 0 0 need.Nothing ∷
    told 0 kind.EndScope 0 11 0 need.Nothing ∷
    told 0 kind.Reply 0 0 0 (need.Reply 0 (outcome.Value (node (root.Text (117 ∷ 110 ∷ 100 ∷ 101 ∷ 99 ∷ 108 ∷ 97 ∷ 114 ∷ 101 ∷ 100 ∷ [])) no_fields))) ∷
    told 0 kind.Finish 0 0 0 need.Finish ∷ [])
unfolding digits
thrown_with_another_type = refl

pub thrown_without_a_type : happens program 0 (
    act 0 (mail program 0 0 0 (node root.Void no_fields)) ∷
    act 0 given.Nothing ∷
    act 0 given.Nothing ∷
    act 0 (given.Answer (outcome.Fault (101 ∷ 118 ∷ 101 ∷ 110 ∷ []) (node root.Void no_fields))) ∷
    act 0 given.Nothing ∷
    act 0 given.Nothing ∷
    act 0 given.Nothing ∷
    act 0 given.Nothing ∷
    act 0 given.Nothing ∷
    act 0 given.Nothing ∷ []) ≡ (
    told 0 kind.In 0 0 0 (need.Take (0 ∷ [])) ∷
    told 0 kind.Install 0 0 0 need.Nothing ∷
    told 0 kind.Solicit 0 0 0 (need.Send 0 2 0 (node (root.Long (pos 1)) no_fields) true) ∷
    told 0 kind.Answer 0 0 0 (need.Answer 0) ∷
    told 0 kind.Raise 0 11 10 need.Nothing ∷
    told 0 kind.Handle 0 11 10 need.Nothing ∷
    told 0 kind.Local 0 0 0 need.Nothing ∷
    told 0 kind.EndScope 0 11 0 need.Nothing ∷
    told 0 kind.Reply 0 0 0 (need.Reply 0 (outcome.Value (node (root.Text (101 ∷ 118 ∷ 101 ∷ 110 ∷ [])) no_fields))) ∷
    told 0 kind.Finish 0 0 0 need.Finish ∷ [])
unfolding digits
thrown_without_a_type = refl

pub not_thrown : happens program 0 (
    act 0 (mail program 0 0 0 (node root.Void no_fields)) ∷
    act 0 given.Nothing ∷
    act 0 given.Nothing ∷
    act 0 (given.Answer (outcome.Fault (110 ∷ 111 ∷ 110 ∷ 101 ∷ []) (node root.Void no_fields))) ∷
    act 0 given.Nothing ∷
    act 0 given.Nothing ∷
    act 0 given.Nothing ∷
    act 0 given.Nothing ∷
    act 0 given.Nothing ∷
    act 0 given.Nothing ∷ []) ≡ (
    told 0 kind.In 0 0 0 (need.Take (0 ∷ [])) ∷
    told 0 kind.Install 0 0 0 need.Nothing ∷
    told 0 kind.Solicit 0 0 0 (need.Send 0 2 0 (node (root.Long (pos 1)) no_fields) true) ∷
    told 0 kind.Answer 0 0 0 (need.Answer 0) ∷
    told 0 kind.Raise 0 11 4 need.Nothing ∷
    told 0 kind.Handle 0 11 4 need.Nothing ∷
    told 0 kind.Local 0 0 0 need.Nothing ∷
    told 0 kind.EndScope 0 11 0 need.Nothing ∷
    told 0 kind.Reply 0 0 0 (need.Reply 0 (outcome.Value (node (root.Text (117 ∷ 110 ∷ 100 ∷ 101 ∷ 99 ∷ 108 ∷ 97 ∷ 114 ∷ 101 ∷ 100 ∷ [])) no_fields))) ∷
    told 0 kind.Finish 0 0 0 need.Finish ∷ [])
unfolding digits
not_thrown = refl

pub of_the_program_not_thrown : happens program 0 (
    act 0 (mail program 0 0 0 (node root.Void no_fields)) ∷
    act 0 given.Nothing ∷
    act 0 given.Nothing ∷
    act 0 (given.Answer (outcome.Fault (109 ∷ 97 ∷ 105 ∷ 110 ∷ []) (node root.Void no_fields))) ∷
    act 0 given.Nothing ∷
    act 0 given.Nothing ∷
    act 0 given.Nothing ∷
    act 0 given.Nothing ∷
    act 0 given.Nothing ∷
    act 0 given.Nothing ∷ []) ≡ (
    told 0 kind.In 0 0 0 (need.Take (0 ∷ [])) ∷
    told 0 kind.Install 0 0 0 need.Nothing ∷
    told 0 kind.Solicit 0 0 0 (need.Send 0 2 0 (node (root.Long (pos 1)) no_fields) true) ∷
    told 0 kind.Answer 0 0 0 (need.Answer 0) ∷
    told 0 kind.Raise 0 11 4 need.Nothing ∷
    told 0 kind.Handle 0 11 4 need.Nothing ∷
    told 0 kind.Local 0 0 0 need.Nothing ∷
    told 0 kind.EndScope 0 11 0 need.Nothing ∷
    told 0 kind.Reply 0 0 0 (need.Reply 0 (outcome.Value (node (root.Text (117 ∷ 110 ∷ 100 ∷ 101 ∷ 99 ∷ 108 ∷ 97 ∷ 114 ∷ 101 ∷ 100 ∷ [])) no_fields))) ∷
    told 0 kind.Finish 0 0 0 need.Finish ∷ [])
unfolding digits
of_the_program_not_thrown = refl

pub passes_as_itself : happens program 0 (
    act 0 (mail program 0 0 0 (node root.Void no_fields)) ∷
    act 0 given.Nothing ∷
    act 0 given.Nothing ∷
    act 0 (given.Answer (outcome.Fault (73 ∷ 79 ∷ 69 ∷ 120 ∷ 99 ∷ 101 ∷ 112 ∷ 116 ∷ 105 ∷ 111 ∷ 110 ∷ []) (node (root.Int (pos 3)) no_fields))) ∷
    act 0 given.Nothing ∷
    act 0 given.Nothing ∷
    act 0 given.Nothing ∷
    act 0 given.Nothing ∷
    act 0 given.Nothing ∷
    act 0 given.Nothing ∷ []) ≡ (
    told 0 kind.In 0 0 0 (need.Take (0 ∷ [])) ∷
    told 0 kind.Install 0 0 0 need.Nothing ∷
    told 0 kind.Solicit 0 0 0 (need.Send 0 2 0 (node (root.Long (pos 1)) no_fields) true) ∷
    told 0 kind.Answer 0 0 0 (need.Answer 0) ∷
    told 0 kind.Raise 0 11 0 need.Nothing ∷
    told 0 kind.Handle 0 11 0 need.Nothing ∷
    told 0 kind.Local 0 0 0 need.Nothing ∷
    told 0 kind.EndScope 0 11 0 need.Nothing ∷
    told 0 kind.Reply 0 0 0 (need.Reply 0 (outcome.Value (node (root.Int (pos 3)) no_fields))) ∷
    told 0 kind.Finish 0 0 0 need.Finish ∷ [])
unfolding digits
passes_as_itself = refl

pub refused_passes : happens program 0 (
    act 0 (mail program 0 0 0 (node root.Void no_fields)) ∷
    act 0 given.Nothing ∷
    act 0 given.Nothing ∷
    act 0 (given.Answer (outcome.Fault (82 ∷ 101 ∷ 102 ∷ 117 ∷ 115 ∷ 101 ∷ 100 ∷ []) (node (root.Long (pos 9)) no_fields))) ∷
    act 0 given.Nothing ∷
    act 0 given.Nothing ∷
    act 0 given.Nothing ∷
    act 0 given.Nothing ∷
    act 0 given.Nothing ∷
    act 0 given.Nothing ∷ []) ≡ (
    told 0 kind.In 0 0 0 (need.Take (0 ∷ [])) ∷
    told 0 kind.Install 0 0 0 need.Nothing ∷
    told 0 kind.Solicit 0 0 0 (need.Send 0 2 0 (node (root.Long (pos 1)) no_fields) true) ∷
    told 0 kind.Answer 0 0 0 (need.Answer 0) ∷
    told 0 kind.Raise 0 11 3 need.Nothing ∷
    told 0 kind.Handle 0 11 3 need.Nothing ∷
    told 0 kind.Local 0 0 0 need.Nothing ∷
    told 0 kind.EndScope 0 11 0 need.Nothing ∷
    told 0 kind.Reply 0 0 0 (need.Reply 0 (outcome.Value (node (root.Long (pos 9)) no_fields))) ∷
    told 0 kind.Finish 0 0 0 need.Finish ∷ [])
unfolding digits
refused_passes = refl

pub mismatch_passes : happens program 0 (
    act 0 (mail program 0 0 0 (node root.Void no_fields)) ∷
    act 0 given.Nothing ∷
    act 0 given.Nothing ∷
    act 0 (given.Answer (outcome.Fault (84 ∷ 121 ∷ 112 ∷ 101 ∷ 77 ∷ 105 ∷ 115 ∷ 109 ∷ 97 ∷ 116 ∷ 99 ∷ 104 ∷ []) (node root.Void no_fields))) ∷
    act 0 given.Nothing ∷
    act 0 given.Nothing ∷
    act 0 given.Nothing ∷
    act 0 given.Nothing ∷
    act 0 given.Nothing ∷
    act 0 given.Nothing ∷ []) ≡ (
    told 0 kind.In 0 0 0 (need.Take (0 ∷ [])) ∷
    told 0 kind.Install 0 0 0 need.Nothing ∷
    told 0 kind.Solicit 0 0 0 (need.Send 0 2 0 (node (root.Long (pos 1)) no_fields) true) ∷
    told 0 kind.Answer 0 0 0 (need.Answer 0) ∷
    told 0 kind.Raise 0 11 1 need.Nothing ∷
    told 0 kind.Handle 0 11 1 need.Nothing ∷
    told 0 kind.Local 0 0 0 need.Nothing ∷
    told 0 kind.EndScope 0 11 0 need.Nothing ∷
    told 0 kind.Reply 0 0 0 (need.Reply 0 (outcome.Value (node (root.Text (109 ∷ 105 ∷ 115 ∷ 109 ∷ 97 ∷ 116 ∷ 99 ∷ 104 ∷ [])) no_fields))) ∷
    told 0 kind.Finish 0 0 0 need.Finish ∷ [])
unfolding digits
mismatch_passes = refl

pub correlation_passes : happens program 0 (
    act 0 (mail program 0 0 0 (node root.Void no_fields)) ∷
    act 0 given.Nothing ∷
    act 0 given.Nothing ∷
    act 0 (given.Answer (outcome.Fault (67 ∷ 111 ∷ 114 ∷ 114 ∷ 101 ∷ 108 ∷ 97 ∷ 116 ∷ 105 ∷ 111 ∷ 110 ∷ 69 ∷ 114 ∷ 114 ∷ 111 ∷ 114 ∷ []) (node root.Void no_fields))) ∷
    act 0 given.Nothing ∷
    act 0 given.Nothing ∷
    act 0 given.Nothing ∷
    act 0 given.Nothing ∷
    act 0 given.Nothing ∷
    act 0 given.Nothing ∷ []) ≡ (
    told 0 kind.In 0 0 0 (need.Take (0 ∷ [])) ∷
    told 0 kind.Install 0 0 0 need.Nothing ∷
    told 0 kind.Solicit 0 0 0 (need.Send 0 2 0 (node (root.Long (pos 1)) no_fields) true) ∷
    told 0 kind.Answer 0 0 0 (need.Answer 0) ∷
    told 0 kind.Raise 0 11 2 need.Nothing ∷
    told 0 kind.Handle 0 11 2 need.Nothing ∷
    told 0 kind.Local 0 0 0 need.Nothing ∷
    told 0 kind.EndScope 0 11 0 need.Nothing ∷
    told 0 kind.Reply 0 0 0 (need.Reply 0 (outcome.Value (node (root.Text (99 ∷ 111 ∷ 114 ∷ 114 ∷ 101 ∷ 108 ∷ 97 ∷ 116 ∷ 105 ∷ 111 ∷ 110 ∷ [])) no_fields))) ∷
    told 0 kind.Finish 0 0 0 need.Finish ∷ [])
unfolding digits
correlation_passes = refl

pub refused_for_correlation : happens program 0 (
    act 0 (mail program 0 0 0 (node root.Void no_fields)) ∷
    act 0 given.Nothing ∷
    act 0 given.Nothing ∷
    act 0 (given.Answer (outcome.Refused reason.Correlation)) ∷
    act 0 given.Nothing ∷
    act 0 given.Nothing ∷
    act 0 given.Nothing ∷
    act 0 given.Nothing ∷
    act 0 given.Nothing ∷
    act 0 given.Nothing ∷ []) ≡ (
    told 0 kind.In 0 0 0 (need.Take (0 ∷ [])) ∷
    told 0 kind.Install 0 0 0 need.Nothing ∷
    told 0 kind.Solicit 0 0 0 (need.Send 0 2 0 (node (root.Long (pos 1)) no_fields) true) ∷
    told 0 kind.Answer 0 0 0 (need.Answer 0) ∷
    told 0 kind.Raise 0 11 2 need.Nothing ∷
    told 0 kind.Handle 0 11 2 need.Nothing ∷
    told 0 kind.Local 0 0 0 need.Nothing ∷
    told 0 kind.EndScope 0 11 0 need.Nothing ∷
    told 0 kind.Reply 0 0 0 (need.Reply 0 (outcome.Value (node (root.Text (99 ∷ 111 ∷ 114 ∷ 114 ∷ 101 ∷ 108 ∷ 97 ∷ 116 ∷ 105 ∷ 111 ∷ 110 ∷ [])) no_fields))) ∷
    told 0 kind.Finish 0 0 0 need.Finish ∷ [])
unfolding digits
refused_for_correlation = refl

pub refused_for_its_value : happens program 0 (
    act 0 (mail program 0 0 0 (node root.Void no_fields)) ∷
    act 0 given.Nothing ∷
    act 0 given.Nothing ∷
    act 0 (given.Answer (outcome.Refused reason.NotConforming)) ∷
    act 0 given.Nothing ∷
    act 0 given.Nothing ∷
    act 0 given.Nothing ∷
    act 0 given.Nothing ∷
    act 0 given.Nothing ∷
    act 0 given.Nothing ∷ []) ≡ (
    told 0 kind.In 0 0 0 (need.Take (0 ∷ [])) ∷
    told 0 kind.Install 0 0 0 need.Nothing ∷
    told 0 kind.Solicit 0 0 0 (need.Send 0 2 0 (node (root.Long (pos 1)) no_fields) true) ∷
    told 0 kind.Answer 0 0 0 (need.Answer 0) ∷
    told 0 kind.Raise 0 11 1 need.Nothing ∷
    told 0 kind.Handle 0 11 1 need.Nothing ∷
    told 0 kind.Local 0 0 0 need.Nothing ∷
    told 0 kind.EndScope 0 11 0 need.Nothing ∷
    told 0 kind.Reply 0 0 0 (need.Reply 0 (outcome.Value (node (root.Text (109 ∷ 105 ∷ 115 ∷ 109 ∷ 97 ∷ 116 ∷ 99 ∷ 104 ∷ [])) no_fields))) ∷
    told 0 kind.Finish 0 0 0 need.Finish ∷ [])
unfolding digits
refused_for_its_value = refl

pub refused_with_its_code : happens program 0 (
    act 0 (mail program 0 0 0 (node root.Void no_fields)) ∷
    act 0 given.Nothing ∷
    act 0 given.Nothing ∷
    act 0 (given.Answer (outcome.Refused reason.RunFull)) ∷
    act 0 given.Nothing ∷
    act 0 given.Nothing ∷
    act 0 given.Nothing ∷
    act 0 given.Nothing ∷
    act 0 given.Nothing ∷
    act 0 given.Nothing ∷ []) ≡ (
    told 0 kind.In 0 0 0 (need.Take (0 ∷ [])) ∷
    told 0 kind.Install 0 0 0 need.Nothing ∷
    told 0 kind.Solicit 0 0 0 (need.Send 0 2 0 (node (root.Long (pos 1)) no_fields) true) ∷
    told 0 kind.Answer 0 0 0 (need.Answer 0) ∷
    told 0 kind.Raise 0 11 3 need.Nothing ∷
    told 0 kind.Handle 0 11 3 need.Nothing ∷
    told 0 kind.Local 0 0 0 need.Nothing ∷
    told 0 kind.EndScope 0 11 0 need.Nothing ∷
    told 0 kind.Reply 0 0 0 (need.Reply 0 (outcome.Value (node (root.Long (negsuc 32002)) no_fields))) ∷
    told 0 kind.Finish 0 0 0 need.Finish ∷ [])
unfolding digits
refused_with_its_code = refl

pub refused_by_a_peer : happens program 0 (
    act 0 (mail program 0 0 0 (node root.Void no_fields)) ∷
    act 0 given.Nothing ∷
    act 0 given.Nothing ∷
    act 0 (given.Answer (outcome.Refused (reason.Other (pos 77)))) ∷
    act 0 given.Nothing ∷
    act 0 given.Nothing ∷
    act 0 given.Nothing ∷
    act 0 given.Nothing ∷
    act 0 given.Nothing ∷
    act 0 given.Nothing ∷ []) ≡ (
    told 0 kind.In 0 0 0 (need.Take (0 ∷ [])) ∷
    told 0 kind.Install 0 0 0 need.Nothing ∷
    told 0 kind.Solicit 0 0 0 (need.Send 0 2 0 (node (root.Long (pos 1)) no_fields) true) ∷
    told 0 kind.Answer 0 0 0 (need.Answer 0) ∷
    told 0 kind.Raise 0 11 3 need.Nothing ∷
    told 0 kind.Handle 0 11 3 need.Nothing ∷
    told 0 kind.Local 0 0 0 need.Nothing ∷
    told 0 kind.EndScope 0 11 0 need.Nothing ∷
    told 0 kind.Reply 0 0 0 (need.Reply 0 (outcome.Value (node (root.Long (pos 77)) no_fields))) ∷
    told 0 kind.Finish 0 0 0 need.Finish ∷ [])
unfolding digits
refused_by_a_peer = refl

-- The fault of each place that has one, and the event of the same form where it has none.
use Rattle.std.specs.Prelude.{◌≡◌, pos, true, false, [], ◌∷◌, None, Some}
use Rattle.std.proofs.Common.{refl}
use Rattle.std.specs.Fmt.{digits}
use Rattle.jolie_trees.specs.declared.root.Root.TheVariants as root
use Rattle.jolie_trees.specs.Data.{node, no_fields, field, no_trees, tree}
use Rattle.behaviour_tree.specs.declared.types.RootKind.TheVariants as kinds
use Rattle.behaviour_tree.specs.declared.expr.CompareOp.TheVariants as compare
use Rattle.behaviour_tree.specs.declared.expr.SumOp.TheVariants as sums
use Rattle.behaviour_tree.specs.declared.expr.MulOp.TheVariants as muls
use Rattle.behaviour_tree.specs.declared.behaviour.HandlerKey.TheVariants as key
use Rattle.behaviour_tree.specs.declared.program.Execution.TheVariants as execution
use Rattle.behaviour_tree.specs.declared.words.Kind.TheVariants as kind
use Rattle.behaviour_tree.specs.declared.words.Need.TheVariants as need
use Rattle.behaviour_tree.specs.declared.words.Given.TheVariants as given
use Rattle.behaviour_tree.specs.declared.words.Outcome.TheVariants as outcome
use Rattle.behaviour_tree.specs.Data.{plain, named, undefined, no_type_fields, type_field, here, step, step_at, constant, at_path, literal, compared, sum, product, minus, no_sum_parts, sum_part, no_mul_parts, mul_part, no_member_list, member_of, nothing, assign, undef, copy, bind, sequence, choose, repeat, choice, notify, solicit, install, throw, scope, no_procs, proc, no_branches, one_way, request, no_handlers, handler, ProgramParts}
use Rattle.test_calculus.specs.Told.{told, act, mail, happens, then_tries}

abbrev program : ProgramParts
program = record {
  types = ((plain kinds.Void (type_field (107 ∷ []) 1 (Some 1) (plain kinds.Text no_type_fields) no_type_fields)) ∷ []);
  interfaces = (record { name = (73 ∷ []); operations = (record { name = (103 ∷ 111 ∷ []); request = (plain kinds.Int no_type_fields); response = (Some undefined); throws = [] } ∷ []) } ∷ record { name = (81 ∷ []); operations = (record { name = (116 ∷ 101 ∷ 108 ∷ 108 ∷ []); request = (plain kinds.Long no_type_fields); response = None; throws = [] } ∷ record { name = (97 ∷ 115 ∷ 107 ∷ []); request = (plain kinds.Long no_type_fields); response = (Some (plain kinds.Void no_type_fields)); throws = [] } ∷ []) } ∷ record { name = (74 ∷ []); operations = (record { name = (110 ∷ 101 ∷ 120 ∷ 116 ∷ []); request = (named 0); response = None; throws = [] } ∷ []) } ∷ []);
  services = (record { name = (83 ∷ []); execution = execution.Concurrent; ports = (record { name = (73 ∷ 110 ∷ []); input = true; location = (115 ∷ 111 ∷ 99 ∷ 107 ∷ 101 ∷ 116 ∷ 58 ∷ 47 ∷ 47 ∷ 108 ∷ 111 ∷ 99 ∷ 97 ∷ 108 ∷ 104 ∷ 111 ∷ 115 ∷ 116 ∷ 58 ∷ 56 ∷ 48 ∷ 48 ∷ 48 ∷ []); interfaces = (0 ∷ 2 ∷ []) } ∷ record { name = (80 ∷ []); input = false; location = (108 ∷ 111 ∷ 99 ∷ 97 ∷ 108 ∷ 58 ∷ 47 ∷ 47 ∷ 112 ∷ []); interfaces = (1 ∷ []) } ∷ []); sets = (record { variables = (record { name = (118 ∷ []); aliases = (record { ty = 0; path = ((107 ∷ []) ∷ []) } ∷ []) } ∷ []) } ∷ []); init = nothing; main = (sequence (proc (choice (request 0 (Some (step (110 ∷ []) here)) (Some (step (121 ∷ []) here)) (scope 9 (sequence (proc (install (handler (key.Fault 5) (assign (step (121 ∷ []) here) (constant (root.Text (101 ∷ 120 ∷ 112 ∷ 114 ∷ [])))) (handler (key.Fault 1) (assign (step (121 ∷ []) here) (constant (root.Text (116 ∷ 121 ∷ 112 ∷ 101 ∷ [])))) (handler (key.Fault 6) (assign (step (121 ∷ []) here) (constant (root.Text (104 ∷ 97 ∷ 110 ∷ 100 ∷ 108 ∷ 101 ∷ 114 ∷ [])))) (handler (key.Fault 10) (copy (step (121 ∷ []) here) (at_path (step (115 ∷ []) (step (102 ∷ []) here)))) no_handlers))))) (proc (choose (compared (at_path (step (110 ∷ []) here)) compare.Equal (constant (root.Int (pos 1)))) (assign (step (120 ∷ []) here) (product (constant (root.Int (pos 1))) (mul_part muls.Over (constant (root.Int (pos 0))) no_mul_parts))) (choose (compared (at_path (step (110 ∷ []) here)) compare.Equal (constant (root.Int (pos 2)))) (copy (step (120 ∷ []) here) (at_path (step_at (97 ∷ []) (sum (constant (root.Int (pos 0))) (sum_part sums.Minus (constant (root.Int (pos 1))) no_sum_parts)) here))) (choose (compared (at_path (step (110 ∷ []) here)) compare.Equal (constant (root.Int (pos 3)))) (undef (step_at (97 ∷ []) (constant (root.Text (105 ∷ []))) here)) (choose (compared (at_path (step (110 ∷ []) here)) compare.Equal (constant (root.Int (pos 4)))) (bind 0 (at_path (step (97 ∷ []) here))) (choose (compared (at_path (step (110 ∷ []) here)) compare.Equal (constant (root.Int (pos 5)))) (bind 0 (minus (constant (root.Text (120 ∷ []))))) (choose (compared (at_path (step (110 ∷ []) here)) compare.Equal (constant (root.Int (pos 6)))) (choose (constant (root.Int (pos 5))) (assign (step (120 ∷ []) here) (constant (root.Int (pos 1)))) nothing) (choose (compared (at_path (step (110 ∷ []) here)) compare.Equal (constant (root.Int (pos 7)))) (repeat (constant (root.Text (116 ∷ []))) (assign (step (120 ∷ []) here) (constant (root.Int (pos 1))))) (choose (compared (at_path (step (110 ∷ []) here)) compare.Equal (constant (root.Int (pos 8)))) (notify 1 0 (constant (root.Text (116 ∷ [])))) (choose (compared (at_path (step (110 ∷ []) here)) compare.Equal (constant (root.Int (pos 9)))) (notify 1 0 (sum (constant (root.Int (pos 1))) (sum_part sums.Plus (constant (root.Bool true)) no_sum_parts))) (choose (compared (at_path (step (110 ∷ []) here)) compare.Equal (constant (root.Int (pos 10)))) (solicit 1 1 (constant (root.Text (116 ∷ []))) None no_handlers) (choose (compared (at_path (step (110 ∷ []) here)) compare.Equal (constant (root.Int (pos 11)))) (throw 10 (product (constant (root.Int (pos 1))) (mul_part muls.Rest (constant (root.Int (pos 0))) no_mul_parts))) (choose (compared (at_path (step (110 ∷ []) here)) compare.Equal (constant (root.Int (pos 12)))) (throw 10 (literal (member_of (97 ∷ []) (at_path (step (110 ∷ []) here)) no_member_list))) (choose (compared (at_path (step (110 ∷ []) here)) compare.Equal (constant (root.Int (pos 13)))) (notify 1 0 (at_path (step (110 ∷ []) here))) (sequence (proc (assign (step (120 ∷ []) (step (97 ∷ []) here)) (constant (root.Int (pos 1)))) (proc (copy (step (120 ∷ []) here) (at_path (step (120 ∷ []) here))) (proc (undef (step (120 ∷ []) (step (97 ∷ []) here))) (proc (bind 0 (constant (root.Text (107 ∷ [])))) no_procs)))))))))))))))))) no_procs)))) nothing no_branches)) (proc (choice (one_way 1 (Some (step (122 ∷ []) here)) nothing no_branches)) no_procs))) } ∷ []);
  names = ((73 ∷ 79 ∷ 69 ∷ 120 ∷ 99 ∷ 101 ∷ 112 ∷ 116 ∷ 105 ∷ 111 ∷ 110 ∷ []) ∷ (84 ∷ 121 ∷ 112 ∷ 101 ∷ 77 ∷ 105 ∷ 115 ∷ 109 ∷ 97 ∷ 116 ∷ 99 ∷ 104 ∷ []) ∷ (67 ∷ 111 ∷ 114 ∷ 114 ∷ 101 ∷ 108 ∷ 97 ∷ 116 ∷ 105 ∷ 111 ∷ 110 ∷ 69 ∷ 114 ∷ 114 ∷ 111 ∷ 114 ∷ []) ∷ (82 ∷ 101 ∷ 102 ∷ 117 ∷ 115 ∷ 101 ∷ 100 ∷ []) ∷ (85 ∷ 110 ∷ 100 ∷ 101 ∷ 99 ∷ 108 ∷ 97 ∷ 114 ∷ 101 ∷ 100 ∷ 70 ∷ 97 ∷ 117 ∷ 108 ∷ 116 ∷ []) ∷ (69 ∷ 120 ∷ 112 ∷ 114 ∷ 70 ∷ 97 ∷ 117 ∷ 108 ∷ 116 ∷ []) ∷ (72 ∷ 97 ∷ 110 ∷ 100 ∷ 108 ∷ 101 ∷ 114 ∷ 84 ∷ 111 ∷ 111 ∷ 76 ∷ 97 ∷ 114 ∷ 103 ∷ 101 ∷ []) ∷ (83 ∷ 116 ∷ 111 ∷ 114 ∷ 101 ∷ 84 ∷ 111 ∷ 111 ∷ 76 ∷ 97 ∷ 114 ∷ 103 ∷ 101 ∷ []) ∷ (109 ∷ 97 ∷ 105 ∷ 110 ∷ []) ∷ (115 ∷ []) ∷ (102 ∷ []) ∷ []);
}

pub quotient : happens program 0 (
    act 0 (mail program 0 0 0 (node (root.Int (pos 1)) no_fields)) ∷
    act 0 given.Nothing ∷
    act 0 given.Nothing ∷
    act 0 given.Nothing ∷
    act 0 given.Nothing ∷
    act 0 given.Nothing ∷
    act 0 given.Nothing ∷
    act 0 given.Nothing ∷ []) ≡ (
    told 0 kind.In 0 0 0 (need.Take (0 ∷ [])) ∷
    told 0 kind.Install 0 0 0 need.Nothing ∷
    told 0 kind.Local 0 0 0 need.Nothing ∷
    told 0 kind.Raise 0 9 5 need.Nothing ∷
    told 0 kind.Handle 0 9 5 need.Nothing ∷
    told 0 kind.Local 0 0 0 need.Nothing ∷
    told 0 kind.EndScope 0 9 0 need.Nothing ∷
    told 0 kind.Reply 0 0 0 (need.Reply 0 (outcome.Value (node (root.Text (101 ∷ 120 ∷ 112 ∷ 114 ∷ [])) no_fields))) ∷ [])
unfolding digits
quotient = refl

-- after 3 events: not 0 answer value v
pub quotient_refuses_0 : then_tries program 0 (
    act 0 (mail program 0 0 0 (node (root.Int (pos 1)) no_fields)) ∷
    act 0 given.Nothing ∷
    act 0 given.Nothing ∷ []) 0 (given.Answer (outcome.Value (node root.Void no_fields))) ≡ None
unfolding digits
quotient_refuses_0 = refl

pub index : happens program 0 (
    act 0 (mail program 0 0 0 (node (root.Int (pos 2)) no_fields)) ∷
    act 0 given.Nothing ∷
    act 0 given.Nothing ∷
    act 0 given.Nothing ∷
    act 0 given.Nothing ∷
    act 0 given.Nothing ∷
    act 0 given.Nothing ∷
    act 0 given.Nothing ∷
    act 0 given.Nothing ∷ []) ≡ (
    told 0 kind.In 0 0 0 (need.Take (0 ∷ [])) ∷
    told 0 kind.Install 0 0 0 need.Nothing ∷
    told 0 kind.Local 0 0 0 need.Nothing ∷
    told 0 kind.Local 0 0 0 need.Nothing ∷
    told 0 kind.Raise 0 9 5 need.Nothing ∷
    told 0 kind.Handle 0 9 5 need.Nothing ∷
    told 0 kind.Local 0 0 0 need.Nothing ∷
    told 0 kind.EndScope 0 9 0 need.Nothing ∷
    told 0 kind.Reply 0 0 0 (need.Reply 0 (outcome.Value (node (root.Text (101 ∷ 120 ∷ 112 ∷ 114 ∷ [])) no_fields))) ∷ [])
unfolding digits
index = refl

-- after 4 events: not 0 answer value v
pub index_refuses_0 : then_tries program 0 (
    act 0 (mail program 0 0 0 (node (root.Int (pos 2)) no_fields)) ∷
    act 0 given.Nothing ∷
    act 0 given.Nothing ∷
    act 0 given.Nothing ∷ []) 0 (given.Answer (outcome.Value (node root.Void no_fields))) ≡ None
unfolding digits
index_refuses_0 = refl

pub index_of_undef : happens program 0 (
    act 0 (mail program 0 0 0 (node (root.Int (pos 3)) no_fields)) ∷
    act 0 given.Nothing ∷
    act 0 given.Nothing ∷
    act 0 given.Nothing ∷
    act 0 given.Nothing ∷
    act 0 given.Nothing ∷
    act 0 given.Nothing ∷
    act 0 given.Nothing ∷
    act 0 given.Nothing ∷
    act 0 given.Nothing ∷ []) ≡ (
    told 0 kind.In 0 0 0 (need.Take (0 ∷ [])) ∷
    told 0 kind.Install 0 0 0 need.Nothing ∷
    told 0 kind.Local 0 0 0 need.Nothing ∷
    told 0 kind.Local 0 0 0 need.Nothing ∷
    told 0 kind.Local 0 0 0 need.Nothing ∷
    told 0 kind.Raise 0 9 5 need.Nothing ∷
    told 0 kind.Handle 0 9 5 need.Nothing ∷
    told 0 kind.Local 0 0 0 need.Nothing ∷
    told 0 kind.EndScope 0 9 0 need.Nothing ∷
    told 0 kind.Reply 0 0 0 (need.Reply 0 (outcome.Value (node (root.Text (101 ∷ 120 ∷ 112 ∷ 114 ∷ [])) no_fields))) ∷ [])
unfolding digits
index_of_undef = refl

-- after 5 events: not 0 answer value v
pub index_of_undef_refuses_0 : then_tries program 0 (
    act 0 (mail program 0 0 0 (node (root.Int (pos 3)) no_fields)) ∷
    act 0 given.Nothing ∷
    act 0 given.Nothing ∷
    act 0 given.Nothing ∷
    act 0 given.Nothing ∷ []) 0 (given.Answer (outcome.Value (node root.Void no_fields))) ≡ None
unfolding digits
index_of_undef_refuses_0 = refl

pub bind_of_void : happens program 0 (
    act 0 (mail program 0 0 0 (node (root.Int (pos 4)) no_fields)) ∷
    act 0 given.Nothing ∷
    act 0 given.Nothing ∷
    act 0 given.Nothing ∷
    act 0 given.Nothing ∷
    act 0 given.Nothing ∷
    act 0 given.Nothing ∷
    act 0 given.Nothing ∷
    act 0 given.Nothing ∷
    act 0 given.Nothing ∷
    act 0 given.Nothing ∷ []) ≡ (
    told 0 kind.In 0 0 0 (need.Take (0 ∷ [])) ∷
    told 0 kind.Install 0 0 0 need.Nothing ∷
    told 0 kind.Local 0 0 0 need.Nothing ∷
    told 0 kind.Local 0 0 0 need.Nothing ∷
    told 0 kind.Local 0 0 0 need.Nothing ∷
    told 0 kind.Local 0 0 0 need.Nothing ∷
    told 0 kind.Raise 0 9 5 need.Nothing ∷
    told 0 kind.Handle 0 9 5 need.Nothing ∷
    told 0 kind.Local 0 0 0 need.Nothing ∷
    told 0 kind.EndScope 0 9 0 need.Nothing ∷
    told 0 kind.Reply 0 0 0 (need.Reply 0 (outcome.Value (node (root.Text (101 ∷ 120 ∷ 112 ∷ 114 ∷ [])) no_fields))) ∷ [])
unfolding digits
bind_of_void = refl

-- after 6 events: not 0 bound
pub bind_of_void_refuses_0 : then_tries program 0 (
    act 0 (mail program 0 0 0 (node (root.Int (pos 4)) no_fields)) ∷
    act 0 given.Nothing ∷
    act 0 given.Nothing ∷
    act 0 given.Nothing ∷
    act 0 given.Nothing ∷
    act 0 given.Nothing ∷ []) 0 given.Bound ≡ None
unfolding digits
bind_of_void_refuses_0 = refl

pub bind_of_no_value : happens program 0 (
    act 0 (mail program 0 0 0 (node (root.Int (pos 5)) no_fields)) ∷
    act 0 given.Nothing ∷
    act 0 given.Nothing ∷
    act 0 given.Nothing ∷
    act 0 given.Nothing ∷
    act 0 given.Nothing ∷
    act 0 given.Nothing ∷
    act 0 given.Nothing ∷
    act 0 given.Nothing ∷
    act 0 given.Nothing ∷
    act 0 given.Nothing ∷
    act 0 given.Nothing ∷ []) ≡ (
    told 0 kind.In 0 0 0 (need.Take (0 ∷ [])) ∷
    told 0 kind.Install 0 0 0 need.Nothing ∷
    told 0 kind.Local 0 0 0 need.Nothing ∷
    told 0 kind.Local 0 0 0 need.Nothing ∷
    told 0 kind.Local 0 0 0 need.Nothing ∷
    told 0 kind.Local 0 0 0 need.Nothing ∷
    told 0 kind.Local 0 0 0 need.Nothing ∷
    told 0 kind.Raise 0 9 5 need.Nothing ∷
    told 0 kind.Handle 0 9 5 need.Nothing ∷
    told 0 kind.Local 0 0 0 need.Nothing ∷
    told 0 kind.EndScope 0 9 0 need.Nothing ∷
    told 0 kind.Reply 0 0 0 (need.Reply 0 (outcome.Value (node (root.Text (101 ∷ 120 ∷ 112 ∷ 114 ∷ [])) no_fields))) ∷ [])
unfolding digits
bind_of_no_value = refl

-- after 7 events: not 0 bound
pub bind_of_no_value_refuses_0 : then_tries program 0 (
    act 0 (mail program 0 0 0 (node (root.Int (pos 5)) no_fields)) ∷
    act 0 given.Nothing ∷
    act 0 given.Nothing ∷
    act 0 given.Nothing ∷
    act 0 given.Nothing ∷
    act 0 given.Nothing ∷
    act 0 given.Nothing ∷ []) 0 given.Bound ≡ None
unfolding digits
bind_of_no_value_refuses_0 = refl

pub if_of_a_number : happens program 0 (
    act 0 (mail program 0 0 0 (node (root.Int (pos 6)) no_fields)) ∷
    act 0 given.Nothing ∷
    act 0 given.Nothing ∷
    act 0 given.Nothing ∷
    act 0 given.Nothing ∷
    act 0 given.Nothing ∷
    act 0 given.Nothing ∷
    act 0 given.Nothing ∷
    act 0 given.Nothing ∷
    act 0 given.Nothing ∷
    act 0 given.Nothing ∷
    act 0 given.Nothing ∷
    act 0 given.Nothing ∷ []) ≡ (
    told 0 kind.In 0 0 0 (need.Take (0 ∷ [])) ∷
    told 0 kind.Install 0 0 0 need.Nothing ∷
    told 0 kind.Local 0 0 0 need.Nothing ∷
    told 0 kind.Local 0 0 0 need.Nothing ∷
    told 0 kind.Local 0 0 0 need.Nothing ∷
    told 0 kind.Local 0 0 0 need.Nothing ∷
    told 0 kind.Local 0 0 0 need.Nothing ∷
    told 0 kind.Local 0 0 0 need.Nothing ∷
    told 0 kind.Raise 0 9 5 need.Nothing ∷
    told 0 kind.Handle 0 9 5 need.Nothing ∷
    told 0 kind.Local 0 0 0 need.Nothing ∷
    told 0 kind.EndScope 0 9 0 need.Nothing ∷
    told 0 kind.Reply 0 0 0 (need.Reply 0 (outcome.Value (node (root.Text (101 ∷ 120 ∷ 112 ∷ 114 ∷ [])) no_fields))) ∷ [])
unfolding digits
if_of_a_number = refl

-- after 8 events: not 0 answer value v
pub if_of_a_number_refuses_0 : then_tries program 0 (
    act 0 (mail program 0 0 0 (node (root.Int (pos 6)) no_fields)) ∷
    act 0 given.Nothing ∷
    act 0 given.Nothing ∷
    act 0 given.Nothing ∷
    act 0 given.Nothing ∷
    act 0 given.Nothing ∷
    act 0 given.Nothing ∷
    act 0 given.Nothing ∷ []) 0 (given.Answer (outcome.Value (node root.Void no_fields))) ≡ None
unfolding digits
if_of_a_number_refuses_0 = refl

pub while_of_a_text : happens program 0 (
    act 0 (mail program 0 0 0 (node (root.Int (pos 7)) no_fields)) ∷
    act 0 given.Nothing ∷
    act 0 given.Nothing ∷
    act 0 given.Nothing ∷
    act 0 given.Nothing ∷
    act 0 given.Nothing ∷
    act 0 given.Nothing ∷
    act 0 given.Nothing ∷
    act 0 given.Nothing ∷
    act 0 given.Nothing ∷
    act 0 given.Nothing ∷
    act 0 given.Nothing ∷
    act 0 given.Nothing ∷
    act 0 given.Nothing ∷ []) ≡ (
    told 0 kind.In 0 0 0 (need.Take (0 ∷ [])) ∷
    told 0 kind.Install 0 0 0 need.Nothing ∷
    told 0 kind.Local 0 0 0 need.Nothing ∷
    told 0 kind.Local 0 0 0 need.Nothing ∷
    told 0 kind.Local 0 0 0 need.Nothing ∷
    told 0 kind.Local 0 0 0 need.Nothing ∷
    told 0 kind.Local 0 0 0 need.Nothing ∷
    told 0 kind.Local 0 0 0 need.Nothing ∷
    told 0 kind.Local 0 0 0 need.Nothing ∷
    told 0 kind.Raise 0 9 5 need.Nothing ∷
    told 0 kind.Handle 0 9 5 need.Nothing ∷
    told 0 kind.Local 0 0 0 need.Nothing ∷
    told 0 kind.EndScope 0 9 0 need.Nothing ∷
    told 0 kind.Reply 0 0 0 (need.Reply 0 (outcome.Value (node (root.Text (101 ∷ 120 ∷ 112 ∷ 114 ∷ [])) no_fields))) ∷ [])
unfolding digits
while_of_a_text = refl

-- after 9 events: not 0 answer value v
pub while_of_a_text_refuses_0 : then_tries program 0 (
    act 0 (mail program 0 0 0 (node (root.Int (pos 7)) no_fields)) ∷
    act 0 given.Nothing ∷
    act 0 given.Nothing ∷
    act 0 given.Nothing ∷
    act 0 given.Nothing ∷
    act 0 given.Nothing ∷
    act 0 given.Nothing ∷
    act 0 given.Nothing ∷
    act 0 given.Nothing ∷ []) 0 (given.Answer (outcome.Value (node root.Void no_fields))) ≡ None
unfolding digits
while_of_a_text_refuses_0 = refl

pub notify_of_another_type : happens program 0 (
    act 0 (mail program 0 0 0 (node (root.Int (pos 8)) no_fields)) ∷
    act 0 given.Nothing ∷
    act 0 given.Nothing ∷
    act 0 given.Nothing ∷
    act 0 given.Nothing ∷
    act 0 given.Nothing ∷
    act 0 given.Nothing ∷
    act 0 given.Nothing ∷
    act 0 given.Nothing ∷
    act 0 given.Nothing ∷
    act 0 given.Nothing ∷
    act 0 given.Nothing ∷
    act 0 given.Nothing ∷
    act 0 given.Nothing ∷
    act 0 given.Nothing ∷ []) ≡ (
    told 0 kind.In 0 0 0 (need.Take (0 ∷ [])) ∷
    told 0 kind.Install 0 0 0 need.Nothing ∷
    told 0 kind.Local 0 0 0 need.Nothing ∷
    told 0 kind.Local 0 0 0 need.Nothing ∷
    told 0 kind.Local 0 0 0 need.Nothing ∷
    told 0 kind.Local 0 0 0 need.Nothing ∷
    told 0 kind.Local 0 0 0 need.Nothing ∷
    told 0 kind.Local 0 0 0 need.Nothing ∷
    told 0 kind.Local 0 0 0 need.Nothing ∷
    told 0 kind.Local 0 0 0 need.Nothing ∷
    told 0 kind.Raise 0 9 1 need.Nothing ∷
    told 0 kind.Handle 0 9 1 need.Nothing ∷
    told 0 kind.Local 0 0 0 need.Nothing ∷
    told 0 kind.EndScope 0 9 0 need.Nothing ∷
    told 0 kind.Reply 0 0 0 (need.Reply 0 (outcome.Value (node (root.Text (116 ∷ 121 ∷ 112 ∷ 101 ∷ [])) no_fields))) ∷ [])
unfolding digits
notify_of_another_type = refl

-- after 10 events: not 0 answer value v
pub notify_of_another_type_refuses_0 : then_tries program 0 (
    act 0 (mail program 0 0 0 (node (root.Int (pos 8)) no_fields)) ∷
    act 0 given.Nothing ∷
    act 0 given.Nothing ∷
    act 0 given.Nothing ∷
    act 0 given.Nothing ∷
    act 0 given.Nothing ∷
    act 0 given.Nothing ∷
    act 0 given.Nothing ∷
    act 0 given.Nothing ∷
    act 0 given.Nothing ∷ []) 0 (given.Answer (outcome.Value (node root.Void no_fields))) ≡ None
unfolding digits
notify_of_another_type_refuses_0 = refl

pub notify_of_no_value : happens program 0 (
    act 0 (mail program 0 0 0 (node (root.Int (pos 9)) no_fields)) ∷
    act 0 given.Nothing ∷
    act 0 given.Nothing ∷
    act 0 given.Nothing ∷
    act 0 given.Nothing ∷
    act 0 given.Nothing ∷
    act 0 given.Nothing ∷
    act 0 given.Nothing ∷
    act 0 given.Nothing ∷
    act 0 given.Nothing ∷
    act 0 given.Nothing ∷
    act 0 given.Nothing ∷
    act 0 given.Nothing ∷
    act 0 given.Nothing ∷
    act 0 given.Nothing ∷
    act 0 given.Nothing ∷ []) ≡ (
    told 0 kind.In 0 0 0 (need.Take (0 ∷ [])) ∷
    told 0 kind.Install 0 0 0 need.Nothing ∷
    told 0 kind.Local 0 0 0 need.Nothing ∷
    told 0 kind.Local 0 0 0 need.Nothing ∷
    told 0 kind.Local 0 0 0 need.Nothing ∷
    told 0 kind.Local 0 0 0 need.Nothing ∷
    told 0 kind.Local 0 0 0 need.Nothing ∷
    told 0 kind.Local 0 0 0 need.Nothing ∷
    told 0 kind.Local 0 0 0 need.Nothing ∷
    told 0 kind.Local 0 0 0 need.Nothing ∷
    told 0 kind.Local 0 0 0 need.Nothing ∷
    told 0 kind.Raise 0 9 5 need.Nothing ∷
    told 0 kind.Handle 0 9 5 need.Nothing ∷
    told 0 kind.Local 0 0 0 need.Nothing ∷
    told 0 kind.EndScope 0 9 0 need.Nothing ∷
    told 0 kind.Reply 0 0 0 (need.Reply 0 (outcome.Value (node (root.Text (101 ∷ 120 ∷ 112 ∷ 114 ∷ [])) no_fields))) ∷ [])
unfolding digits
notify_of_no_value = refl

-- after 11 events: not 0 answer value v
pub notify_of_no_value_refuses_0 : then_tries program 0 (
    act 0 (mail program 0 0 0 (node (root.Int (pos 9)) no_fields)) ∷
    act 0 given.Nothing ∷
    act 0 given.Nothing ∷
    act 0 given.Nothing ∷
    act 0 given.Nothing ∷
    act 0 given.Nothing ∷
    act 0 given.Nothing ∷
    act 0 given.Nothing ∷
    act 0 given.Nothing ∷
    act 0 given.Nothing ∷
    act 0 given.Nothing ∷ []) 0 (given.Answer (outcome.Value (node root.Void no_fields))) ≡ None
unfolding digits
notify_of_no_value_refuses_0 = refl

pub solicit_of_another_type : happens program 0 (
    act 0 (mail program 0 0 0 (node (root.Int (pos 10)) no_fields)) ∷
    act 0 given.Nothing ∷
    act 0 given.Nothing ∷
    act 0 given.Nothing ∷
    act 0 given.Nothing ∷
    act 0 given.Nothing ∷
    act 0 given.Nothing ∷
    act 0 given.Nothing ∷
    act 0 given.Nothing ∷
    act 0 given.Nothing ∷
    act 0 given.Nothing ∷
    act 0 given.Nothing ∷
    act 0 given.Nothing ∷
    act 0 given.Nothing ∷
    act 0 given.Nothing ∷
    act 0 given.Nothing ∷
    act 0 given.Nothing ∷ []) ≡ (
    told 0 kind.In 0 0 0 (need.Take (0 ∷ [])) ∷
    told 0 kind.Install 0 0 0 need.Nothing ∷
    told 0 kind.Local 0 0 0 need.Nothing ∷
    told 0 kind.Local 0 0 0 need.Nothing ∷
    told 0 kind.Local 0 0 0 need.Nothing ∷
    told 0 kind.Local 0 0 0 need.Nothing ∷
    told 0 kind.Local 0 0 0 need.Nothing ∷
    told 0 kind.Local 0 0 0 need.Nothing ∷
    told 0 kind.Local 0 0 0 need.Nothing ∷
    told 0 kind.Local 0 0 0 need.Nothing ∷
    told 0 kind.Local 0 0 0 need.Nothing ∷
    told 0 kind.Local 0 0 0 need.Nothing ∷
    told 0 kind.Raise 0 9 1 need.Nothing ∷
    told 0 kind.Handle 0 9 1 need.Nothing ∷
    told 0 kind.Local 0 0 0 need.Nothing ∷
    told 0 kind.EndScope 0 9 0 need.Nothing ∷
    told 0 kind.Reply 0 0 0 (need.Reply 0 (outcome.Value (node (root.Text (116 ∷ 121 ∷ 112 ∷ 101 ∷ [])) no_fields))) ∷ [])
unfolding digits
solicit_of_another_type = refl

-- after 12 events: not 0 answer value v
pub solicit_of_another_type_refuses_0 : then_tries program 0 (
    act 0 (mail program 0 0 0 (node (root.Int (pos 10)) no_fields)) ∷
    act 0 given.Nothing ∷
    act 0 given.Nothing ∷
    act 0 given.Nothing ∷
    act 0 given.Nothing ∷
    act 0 given.Nothing ∷
    act 0 given.Nothing ∷
    act 0 given.Nothing ∷
    act 0 given.Nothing ∷
    act 0 given.Nothing ∷
    act 0 given.Nothing ∷
    act 0 given.Nothing ∷ []) 0 (given.Answer (outcome.Value (node root.Void no_fields))) ≡ None
unfolding digits
solicit_of_another_type_refuses_0 = refl

pub throw_of_no_value : happens program 0 (
    act 0 (mail program 0 0 0 (node (root.Int (pos 11)) no_fields)) ∷
    act 0 given.Nothing ∷
    act 0 given.Nothing ∷
    act 0 given.Nothing ∷
    act 0 given.Nothing ∷
    act 0 given.Nothing ∷
    act 0 given.Nothing ∷
    act 0 given.Nothing ∷
    act 0 given.Nothing ∷
    act 0 given.Nothing ∷
    act 0 given.Nothing ∷
    act 0 given.Nothing ∷
    act 0 given.Nothing ∷
    act 0 given.Nothing ∷
    act 0 given.Nothing ∷
    act 0 given.Nothing ∷
    act 0 given.Nothing ∷
    act 0 given.Nothing ∷ []) ≡ (
    told 0 kind.In 0 0 0 (need.Take (0 ∷ [])) ∷
    told 0 kind.Install 0 0 0 need.Nothing ∷
    told 0 kind.Local 0 0 0 need.Nothing ∷
    told 0 kind.Local 0 0 0 need.Nothing ∷
    told 0 kind.Local 0 0 0 need.Nothing ∷
    told 0 kind.Local 0 0 0 need.Nothing ∷
    told 0 kind.Local 0 0 0 need.Nothing ∷
    told 0 kind.Local 0 0 0 need.Nothing ∷
    told 0 kind.Local 0 0 0 need.Nothing ∷
    told 0 kind.Local 0 0 0 need.Nothing ∷
    told 0 kind.Local 0 0 0 need.Nothing ∷
    told 0 kind.Local 0 0 0 need.Nothing ∷
    told 0 kind.Local 0 0 0 need.Nothing ∷
    told 0 kind.Raise 0 9 5 need.Nothing ∷
    told 0 kind.Handle 0 9 5 need.Nothing ∷
    told 0 kind.Local 0 0 0 need.Nothing ∷
    told 0 kind.EndScope 0 9 0 need.Nothing ∷
    told 0 kind.Reply 0 0 0 (need.Reply 0 (outcome.Value (node (root.Text (101 ∷ 120 ∷ 112 ∷ 114 ∷ [])) no_fields))) ∷ [])
unfolding digits
throw_of_no_value = refl

-- after 13 events: not 0 answer value v
pub throw_of_no_value_refuses_0 : then_tries program 0 (
    act 0 (mail program 0 0 0 (node (root.Int (pos 11)) no_fields)) ∷
    act 0 given.Nothing ∷
    act 0 given.Nothing ∷
    act 0 given.Nothing ∷
    act 0 given.Nothing ∷
    act 0 given.Nothing ∷
    act 0 given.Nothing ∷
    act 0 given.Nothing ∷
    act 0 given.Nothing ∷
    act 0 given.Nothing ∷
    act 0 given.Nothing ∷
    act 0 given.Nothing ∷
    act 0 given.Nothing ∷ []) 0 (given.Answer (outcome.Value (node root.Void no_fields))) ≡ None
unfolding digits
throw_of_no_value_refuses_0 = refl

pub thrown_with_its_tree : happens program 0 (
    act 0 (mail program 0 0 0 (node (root.Int (pos 12)) no_fields)) ∷
    act 0 given.Nothing ∷
    act 0 given.Nothing ∷
    act 0 given.Nothing ∷
    act 0 given.Nothing ∷
    act 0 given.Nothing ∷
    act 0 given.Nothing ∷
    act 0 given.Nothing ∷
    act 0 given.Nothing ∷
    act 0 given.Nothing ∷
    act 0 given.Nothing ∷
    act 0 given.Nothing ∷
    act 0 given.Nothing ∷
    act 0 given.Nothing ∷
    act 0 given.Nothing ∷
    act 0 given.Nothing ∷
    act 0 given.Nothing ∷
    act 0 given.Nothing ∷
    act 0 given.Nothing ∷ []) ≡ (
    told 0 kind.In 0 0 0 (need.Take (0 ∷ [])) ∷
    told 0 kind.Install 0 0 0 need.Nothing ∷
    told 0 kind.Local 0 0 0 need.Nothing ∷
    told 0 kind.Local 0 0 0 need.Nothing ∷
    told 0 kind.Local 0 0 0 need.Nothing ∷
    told 0 kind.Local 0 0 0 need.Nothing ∷
    told 0 kind.Local 0 0 0 need.Nothing ∷
    told 0 kind.Local 0 0 0 need.Nothing ∷
    told 0 kind.Local 0 0 0 need.Nothing ∷
    told 0 kind.Local 0 0 0 need.Nothing ∷
    told 0 kind.Local 0 0 0 need.Nothing ∷
    told 0 kind.Local 0 0 0 need.Nothing ∷
    told 0 kind.Local 0 0 0 need.Nothing ∷
    told 0 kind.Local 0 0 0 need.Nothing ∷
    told 0 kind.Raise 0 9 10 need.Nothing ∷
    told 0 kind.Handle 0 9 10 need.Nothing ∷
    told 0 kind.Local 0 0 0 need.Nothing ∷
    told 0 kind.EndScope 0 9 0 need.Nothing ∷
    told 0 kind.Reply 0 0 0 (need.Reply 0 (outcome.Value (node root.Void (field (97 ∷ []) (tree (node (root.Int (pos 12)) no_fields) no_trees) no_fields)))) ∷ [])
unfolding digits
thrown_with_its_tree = refl

pub sent_wide : happens program 0 (
    act 0 (mail program 0 0 0 (node (root.Int (pos 13)) no_fields)) ∷
    act 0 given.Nothing ∷
    act 0 given.Nothing ∷
    act 0 given.Nothing ∷
    act 0 given.Nothing ∷
    act 0 given.Nothing ∷
    act 0 given.Nothing ∷
    act 0 given.Nothing ∷
    act 0 given.Nothing ∷
    act 0 given.Nothing ∷
    act 0 given.Nothing ∷
    act 0 given.Nothing ∷
    act 0 given.Nothing ∷
    act 0 given.Nothing ∷
    act 0 given.Nothing ∷
    act 0 given.Nothing ∷
    act 0 given.Nothing ∷
    act 0 given.Nothing ∷ []) ≡ (
    told 0 kind.In 0 0 0 (need.Take (0 ∷ [])) ∷
    told 0 kind.Install 0 0 0 need.Nothing ∷
    told 0 kind.Local 0 0 0 need.Nothing ∷
    told 0 kind.Local 0 0 0 need.Nothing ∷
    told 0 kind.Local 0 0 0 need.Nothing ∷
    told 0 kind.Local 0 0 0 need.Nothing ∷
    told 0 kind.Local 0 0 0 need.Nothing ∷
    told 0 kind.Local 0 0 0 need.Nothing ∷
    told 0 kind.Local 0 0 0 need.Nothing ∷
    told 0 kind.Local 0 0 0 need.Nothing ∷
    told 0 kind.Local 0 0 0 need.Nothing ∷
    told 0 kind.Local 0 0 0 need.Nothing ∷
    told 0 kind.Local 0 0 0 need.Nothing ∷
    told 0 kind.Local 0 0 0 need.Nothing ∷
    told 0 kind.Local 0 0 0 need.Nothing ∷
    told 0 kind.Notify 0 0 0 (need.Send 0 1 0 (node (root.Long (pos 13)) no_fields) false) ∷
    told 0 kind.EndScope 0 9 0 need.Nothing ∷
    told 0 kind.Reply 0 0 0 (need.Reply 0 (outcome.Value (node root.Void no_fields))) ∷ [])
unfolding digits
sent_wide = refl

pub none_has_a_fault : happens program 0 (
    act 0 (mail program 0 0 0 (node (root.Int (pos 14)) no_fields)) ∷
    act 0 given.Nothing ∷
    act 0 given.Nothing ∷
    act 0 given.Nothing ∷
    act 0 given.Nothing ∷
    act 0 given.Nothing ∷
    act 0 given.Nothing ∷
    act 0 given.Nothing ∷
    act 0 given.Nothing ∷
    act 0 given.Nothing ∷
    act 0 given.Nothing ∷
    act 0 given.Nothing ∷
    act 0 given.Nothing ∷
    act 0 given.Nothing ∷
    act 0 given.Nothing ∷
    act 0 given.Nothing ∷
    act 0 given.Nothing ∷
    act 0 given.Nothing ∷
    act 0 given.Bound ∷
    act 0 given.Nothing ∷
    act 0 given.Nothing ∷
    act 0 (mail program 0 1 1 (node root.Void (field (107 ∷ []) (tree (node (root.Text (107 ∷ [])) no_fields) no_trees) no_fields))) ∷
    act 0 given.Nothing ∷ []) ≡ (
    told 0 kind.In 0 0 0 (need.Take (0 ∷ [])) ∷
    told 0 kind.Install 0 0 0 need.Nothing ∷
    told 0 kind.Local 0 0 0 need.Nothing ∷
    told 0 kind.Local 0 0 0 need.Nothing ∷
    told 0 kind.Local 0 0 0 need.Nothing ∷
    told 0 kind.Local 0 0 0 need.Nothing ∷
    told 0 kind.Local 0 0 0 need.Nothing ∷
    told 0 kind.Local 0 0 0 need.Nothing ∷
    told 0 kind.Local 0 0 0 need.Nothing ∷
    told 0 kind.Local 0 0 0 need.Nothing ∷
    told 0 kind.Local 0 0 0 need.Nothing ∷
    told 0 kind.Local 0 0 0 need.Nothing ∷
    told 0 kind.Local 0 0 0 need.Nothing ∷
    told 0 kind.Local 0 0 0 need.Nothing ∷
    told 0 kind.Local 0 0 0 need.Nothing ∷
    told 0 kind.Local 0 0 0 need.Nothing ∷
    told 0 kind.Local 0 0 0 need.Nothing ∷
    told 0 kind.Local 0 0 0 need.Nothing ∷
    told 0 kind.Bind 0 0 0 (need.Bind 0 (root.Text (107 ∷ []))) ∷
    told 0 kind.EndScope 0 9 0 need.Nothing ∷
    told 0 kind.Reply 0 0 0 (need.Reply 0 (outcome.Value (node root.Void no_fields))) ∷
    told 0 kind.In 1 0 0 (need.Take (1 ∷ [])) ∷
    told 0 kind.Finish 0 0 0 need.Finish ∷ [])
unfolding digits
none_has_a_fault = refl

-- after 17 events: not 0 bound
pub none_has_a_fault_refuses_0 : then_tries program 0 (
    act 0 (mail program 0 0 0 (node (root.Int (pos 14)) no_fields)) ∷
    act 0 given.Nothing ∷
    act 0 given.Nothing ∷
    act 0 given.Nothing ∷
    act 0 given.Nothing ∷
    act 0 given.Nothing ∷
    act 0 given.Nothing ∷
    act 0 given.Nothing ∷
    act 0 given.Nothing ∷
    act 0 given.Nothing ∷
    act 0 given.Nothing ∷
    act 0 given.Nothing ∷
    act 0 given.Nothing ∷
    act 0 given.Nothing ∷
    act 0 given.Nothing ∷
    act 0 given.Nothing ∷
    act 0 given.Nothing ∷ []) 0 given.Bound ≡ None
unfolding digits
none_has_a_fault_refuses_0 = refl

-- after 18 events: not 0 nothing
pub none_has_a_fault_refuses_1 : then_tries program 0 (
    act 0 (mail program 0 0 0 (node (root.Int (pos 14)) no_fields)) ∷
    act 0 given.Nothing ∷
    act 0 given.Nothing ∷
    act 0 given.Nothing ∷
    act 0 given.Nothing ∷
    act 0 given.Nothing ∷
    act 0 given.Nothing ∷
    act 0 given.Nothing ∷
    act 0 given.Nothing ∷
    act 0 given.Nothing ∷
    act 0 given.Nothing ∷
    act 0 given.Nothing ∷
    act 0 given.Nothing ∷
    act 0 given.Nothing ∷
    act 0 given.Nothing ∷
    act 0 given.Nothing ∷
    act 0 given.Nothing ∷
    act 0 given.Nothing ∷ []) 0 given.Nothing ≡ None
unfolding digits
none_has_a_fault_refuses_1 = refl

-- after 21 events: not 0 nothing
pub none_has_a_fault_refuses_2 : then_tries program 0 (
    act 0 (mail program 0 0 0 (node (root.Int (pos 14)) no_fields)) ∷
    act 0 given.Nothing ∷
    act 0 given.Nothing ∷
    act 0 given.Nothing ∷
    act 0 given.Nothing ∷
    act 0 given.Nothing ∷
    act 0 given.Nothing ∷
    act 0 given.Nothing ∷
    act 0 given.Nothing ∷
    act 0 given.Nothing ∷
    act 0 given.Nothing ∷
    act 0 given.Nothing ∷
    act 0 given.Nothing ∷
    act 0 given.Nothing ∷
    act 0 given.Nothing ∷
    act 0 given.Nothing ∷
    act 0 given.Nothing ∷
    act 0 given.Nothing ∷
    act 0 given.Bound ∷
    act 0 given.Nothing ∷
    act 0 given.Nothing ∷ []) 0 given.Nothing ≡ None
unfolding digits
none_has_a_fault_refuses_2 = refl

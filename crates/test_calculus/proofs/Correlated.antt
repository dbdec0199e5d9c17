-- Two requests to one session, one after the other; and a binding, for each answer of the office.
use Rattle.std.specs.Prelude.{◌≡◌, pos, true, [], ◌∷◌, None, Some}
use Rattle.std.proofs.Common.{refl}
use Rattle.std.specs.Fmt.{digits}
use Rattle.jolie_trees.specs.declared.root.Root.TheVariants as root
use Rattle.jolie_trees.specs.Data.{node, no_fields, field, no_trees, tree}
use Rattle.behaviour_tree.specs.declared.types.RootKind.TheVariants as kinds
use Rattle.behaviour_tree.specs.declared.expr.SumOp.TheVariants as sums
use Rattle.behaviour_tree.specs.declared.program.Execution.TheVariants as execution
use Rattle.behaviour_tree.specs.declared.words.Kind.TheVariants as kind
use Rattle.behaviour_tree.specs.declared.words.Need.TheVariants as need
use Rattle.behaviour_tree.specs.declared.words.Given.TheVariants as given
use Rattle.behaviour_tree.specs.declared.words.Outcome.TheVariants as outcome
use Rattle.behaviour_tree.specs.Data.{plain, named, no_type_fields, type_field, here, step, constant, at_path, sum, no_sum_parts, sum_part, nothing, assign, bind, sequence, choice, no_procs, proc, no_branches, request, ProgramParts}
use Rattle.test_calculus.specs.Told.{told, act, mail, happens, then_tries}

abbrev program : ProgramParts
program = record {
  types = ((plain kinds.Void (type_field (115 ∷ 105 ∷ 100 ∷ []) 1 (Some 1) (plain kinds.Text no_type_fields) no_type_fields)) ∷ (plain kinds.Void (type_field (115 ∷ 105 ∷ 100 ∷ []) 1 (Some 1) (plain kinds.Text no_type_fields) no_type_fields)) ∷ (plain kinds.Void (type_field (107 ∷ 101 ∷ 121 ∷ []) 1 (Some 1) (plain kinds.Text no_type_fields) no_type_fields)) ∷ []);
  interfaces = (record { name = (73 ∷ []); operations = (record { name = (111 ∷ 112 ∷ 101 ∷ 110 ∷ []); request = (named 0); response = (Some (plain kinds.Text no_type_fields)); throws = [] } ∷ record { name = (109 ∷ 111 ∷ 114 ∷ 101 ∷ []); request = (named 1); response = (Some (plain kinds.Text no_type_fields)); throws = [] } ∷ record { name = (98 ∷ 101 ∷ 103 ∷ 105 ∷ 110 ∷ []); request = (named 2); response = (Some (plain kinds.Int no_type_fields)); throws = [] } ∷ []) } ∷ []);
  services = (record { name = (83 ∷ []); execution = execution.Concurrent; ports = (record { name = (73 ∷ 110 ∷ []); input = true; location = (115 ∷ 111 ∷ 99 ∷ 107 ∷ 101 ∷ 116 ∷ 58 ∷ 47 ∷ 47 ∷ 108 ∷ 111 ∷ 99 ∷ 97 ∷ 108 ∷ 104 ∷ 111 ∷ 115 ∷ 116 ∷ 58 ∷ 56 ∷ 48 ∷ 48 ∷ 48 ∷ []); interfaces = (0 ∷ []) } ∷ []); sets = (record { variables = (record { name = (115 ∷ 105 ∷ 100 ∷ []); aliases = (record { ty = 0; path = ((115 ∷ 105 ∷ 100 ∷ []) ∷ []) } ∷ record { ty = 1; path = ((115 ∷ 105 ∷ 100 ∷ []) ∷ []) } ∷ []) } ∷ []) } ∷ []); init = nothing; main = (choice (request 0 (Some (step (120 ∷ []) here)) (Some (step (121 ∷ []) here)) (assign (step (121 ∷ []) here) (sum (constant (root.Text (111 ∷ []))) (sum_part sums.Plus (at_path (step (120 ∷ []) (step (115 ∷ 105 ∷ 100 ∷ []) here))) no_sum_parts))) (choice (request 1 (Some (step (122 ∷ []) here)) (Some (step (119 ∷ []) here)) (assign (step (119 ∷ []) here) (sum (constant (root.Text (109 ∷ []))) (sum_part sums.Plus (at_path (step (122 ∷ []) (step (115 ∷ 105 ∷ 100 ∷ []) here))) no_sum_parts))) nothing no_branches)) (request 2 (Some (step (120 ∷ []) here)) (Some (step (121 ∷ []) here)) (sequence (proc (bind 0 (at_path (step (120 ∷ []) (step (107 ∷ 101 ∷ 121 ∷ []) here)))) (proc (assign (step (121 ∷ []) here) (constant (root.Int (pos 1)))) no_procs))) nothing no_branches))) } ∷ []);
  names = ((73 ∷ 79 ∷ 69 ∷ 120 ∷ 99 ∷ 101 ∷ 112 ∷ 116 ∷ 105 ∷ 111 ∷ 110 ∷ []) ∷ (84 ∷ 121 ∷ 112 ∷ 101 ∷ 77 ∷ 105 ∷ 115 ∷ 109 ∷ 97 ∷ 116 ∷ 99 ∷ 104 ∷ []) ∷ (67 ∷ 111 ∷ 114 ∷ 114 ∷ 101 ∷ 108 ∷ 97 ∷ 116 ∷ 105 ∷ 111 ∷ 110 ∷ 69 ∷ 114 ∷ 114 ∷ 111 ∷ 114 ∷ []) ∷ (82 ∷ 101 ∷ 102 ∷ 117 ∷ 115 ∷ 101 ∷ 100 ∷ []) ∷ (85 ∷ 110 ∷ 100 ∷ 101 ∷ 99 ∷ 108 ∷ 97 ∷ 114 ∷ 101 ∷ 100 ∷ 70 ∷ 97 ∷ 117 ∷ 108 ∷ 116 ∷ []) ∷ (69 ∷ 120 ∷ 112 ∷ 114 ∷ 70 ∷ 97 ∷ 117 ∷ 108 ∷ 116 ∷ []) ∷ (72 ∷ 97 ∷ 110 ∷ 100 ∷ 108 ∷ 101 ∷ 114 ∷ 84 ∷ 111 ∷ 111 ∷ 76 ∷ 97 ∷ 114 ∷ 103 ∷ 101 ∷ []) ∷ (83 ∷ 116 ∷ 111 ∷ 114 ∷ 101 ∷ 84 ∷ 111 ∷ 111 ∷ 76 ∷ 97 ∷ 114 ∷ 103 ∷ 101 ∷ []) ∷ (109 ∷ 97 ∷ 105 ∷ 110 ∷ []) ∷ []);
}

pub two_requests : happens program 0 (
    act 0 (mail program 0 0 0 (node root.Void (field (115 ∷ 105 ∷ 100 ∷ []) (tree (node (root.Text (115 ∷ 49 ∷ [])) no_fields) no_trees) no_fields))) ∷
    act 0 given.Nothing ∷
    act 0 given.Nothing ∷
    act 0 (mail program 0 1 1 (node root.Void (field (115 ∷ 105 ∷ 100 ∷ []) (tree (node (root.Text (115 ∷ 49 ∷ [])) no_fields) no_trees) no_fields))) ∷
    act 0 given.Nothing ∷
    act 0 given.Nothing ∷
    act 0 given.Nothing ∷ []) ≡ (
    told 0 kind.In 0 0 0 (need.Take (0 ∷ [])) ∷
    told 0 kind.Local 0 0 0 need.Nothing ∷
    told 0 kind.Reply 0 0 0 (need.Reply 0 (outcome.Value (node (root.Text (111 ∷ 115 ∷ 49 ∷ [])) no_fields))) ∷
    told 0 kind.In 1 0 0 (need.Take (1 ∷ [])) ∷
    told 0 kind.Local 0 0 0 need.Nothing ∷
    told 0 kind.Reply 1 0 0 (need.Reply 1 (outcome.Value (node (root.Text (109 ∷ 115 ∷ 49 ∷ [])) no_fields))) ∷
    told 0 kind.Finish 0 0 0 need.Finish ∷ [])
unfolding digits
two_requests = refl

-- after 1 events: not 0 mail 1 more v{"sid":[s"s1"]}
pub two_requests_refuses_0 : then_tries program 0 (
    act 0 (mail program 0 0 0 (node root.Void (field (115 ∷ 105 ∷ 100 ∷ []) (tree (node (root.Text (115 ∷ 49 ∷ [])) no_fields) no_trees) no_fields))) ∷ []) 0 (mail program 0 1 1 (node root.Void (field (115 ∷ 105 ∷ 100 ∷ []) (tree (node (root.Text (115 ∷ 49 ∷ [])) no_fields) no_trees) no_fields))) ≡ None
unfolding digits
two_requests_refuses_0 = refl

-- after 3 events: not 0 mail 1 open v{"sid":[s"s1"]}
pub two_requests_refuses_1 : then_tries program 0 (
    act 0 (mail program 0 0 0 (node root.Void (field (115 ∷ 105 ∷ 100 ∷ []) (tree (node (root.Text (115 ∷ 49 ∷ [])) no_fields) no_trees) no_fields))) ∷
    act 0 given.Nothing ∷
    act 0 given.Nothing ∷ []) 0 (mail program 0 1 0 (node root.Void (field (115 ∷ 105 ∷ 100 ∷ []) (tree (node (root.Text (115 ∷ 49 ∷ [])) no_fields) no_trees) no_fields))) ≡ None
unfolding digits
two_requests_refuses_1 = refl

pub bound : happens program 0 (
    act 0 (mail program 0 0 2 (node root.Void (field (107 ∷ 101 ∷ 121 ∷ []) (tree (node (root.Text (107 ∷ [])) no_fields) no_trees) no_fields))) ∷
    act 0 given.Bound ∷
    act 0 given.Nothing ∷
    act 0 given.Nothing ∷
    act 0 given.Nothing ∷ []) ≡ (
    told 0 kind.In 0 1 0 (need.Take (2 ∷ [])) ∷
    told 0 kind.Bind 0 0 0 (need.Bind 0 (root.Text (107 ∷ []))) ∷
    told 0 kind.Local 0 0 0 need.Nothing ∷
    told 0 kind.Reply 0 0 0 (need.Reply 0 (outcome.Value (node (root.Int (pos 1)) no_fields))) ∷
    told 0 kind.Finish 0 0 0 need.Finish ∷ [])
unfolding digits
bound = refl

-- after 1 events: not 0 nothing
pub bound_refuses_0 : then_tries program 0 (
    act 0 (mail program 0 0 2 (node root.Void (field (107 ∷ 101 ∷ 121 ∷ []) (tree (node (root.Text (107 ∷ [])) no_fields) no_trees) no_fields))) ∷ []) 0 given.Nothing ≡ None
unfolding digits
bound_refuses_0 = refl

pub held : happens program 0 (
    act 0 (mail program 0 0 2 (node root.Void (field (107 ∷ 101 ∷ 121 ∷ []) (tree (node (root.Text (107 ∷ [])) no_fields) no_trees) no_fields))) ∷
    act 0 (given.Held 3) ∷
    act 0 given.Nothing ∷
    act 0 given.Nothing ∷
    act 0 given.Nothing ∷ []) ≡ (
    told 0 kind.In 0 1 0 (need.Take (2 ∷ [])) ∷
    told 0 kind.Bind 0 0 0 (need.Bind 0 (root.Text (107 ∷ []))) ∷
    told 0 kind.Raise 2 8 2 need.Nothing ∷
    told 0 kind.Reply 0 0 0 (need.Reply 0 (outcome.Fault (67 ∷ 111 ∷ 114 ∷ 114 ∷ 101 ∷ 108 ∷ 97 ∷ 116 ∷ 105 ∷ 111 ∷ 110 ∷ 69 ∷ 114 ∷ 114 ∷ 111 ∷ 114 ∷ []) (node root.Void no_fields))) ∷
    told 0 kind.Finish 0 0 0 need.Finish ∷ [])
unfolding digits
held = refl

pub fixed : happens program 0 (
    act 0 (mail program 0 0 2 (node root.Void (field (107 ∷ 101 ∷ 121 ∷ []) (tree (node (root.Text (107 ∷ [])) no_fields) no_trees) no_fields))) ∷
    act 0 given.Fixed ∷
    act 0 given.Nothing ∷
    act 0 given.Nothing ∷
    act 0 given.Nothing ∷ []) ≡ (
    told 0 kind.In 0 1 0 (need.Take (2 ∷ [])) ∷
    told 0 kind.Bind 0 0 0 (need.Bind 0 (root.Text (107 ∷ []))) ∷
    told 0 kind.Raise 2 8 2 need.Nothing ∷
    told 0 kind.Reply 0 0 0 (need.Reply 0 (outcome.Fault (67 ∷ 111 ∷ 114 ∷ 114 ∷ 101 ∷ 108 ∷ 97 ∷ 116 ∷ 105 ∷ 111 ∷ 110 ∷ 69 ∷ 114 ∷ 114 ∷ 111 ∷ 114 ∷ []) (node root.Void no_fields))) ∷
    told 0 kind.Finish 0 0 0 need.Finish ∷ [])
unfolding digits
fixed = refl

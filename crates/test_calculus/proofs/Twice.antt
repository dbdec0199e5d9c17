-- A request is doubled; where that passes an int, the fault "ExprFault" is its answer.
use Rattle.std.specs.Prelude.{◌≡◌, pos, true, [], ◌∷◌, None, Some}
use Rattle.std.proofs.Common.{refl}
use Rattle.std.specs.Fmt.{digits}
use Rattle.jolie_trees.specs.declared.root.Root.TheVariants as root
use Rattle.jolie_trees.specs.Data.{node, no_fields, field, no_trees, tree}
use Rattle.behaviour_tree.specs.declared.types.RootKind.TheVariants as kinds
use Rattle.behaviour_tree.specs.declared.expr.MulOp.TheVariants as muls
use Rattle.behaviour_tree.specs.declared.program.Execution.TheVariants as execution
use Rattle.behaviour_tree.specs.declared.words.Kind.TheVariants as kind
use Rattle.behaviour_tree.specs.declared.words.Need.TheVariants as need
use Rattle.behaviour_tree.specs.declared.words.Given.TheVariants as given
use Rattle.behaviour_tree.specs.declared.words.Outcome.TheVariants as outcome
use Rattle.behaviour_tree.specs.Data.{plain, named, no_type_fields, type_field, here, step, constant, at_path, product, no_mul_parts, mul_part, nothing, assign, choice, no_branches, request, ProgramParts}
use Rattle.test_calculus.specs.Told.{told, act, mail, happens, then_tries}

abbrev program : ProgramParts
program = record {
  types = ((plain kinds.Void (type_field (110 ∷ []) 1 (Some 1) (plain kinds.Int no_type_fields) no_type_fields)) ∷ []);
  interfaces = (record { name = (73 ∷ []); operations = (record { name = (116 ∷ 119 ∷ 105 ∷ 99 ∷ 101 ∷ []); request = (named 0); response = (Some (plain kinds.Int no_type_fields)); throws = [] } ∷ []) } ∷ []);
  services = (record { name = (83 ∷ []); execution = execution.Concurrent; ports = (record { name = (73 ∷ 110 ∷ []); input = true; location = (115 ∷ 111 ∷ 99 ∷ 107 ∷ 101 ∷ 116 ∷ 58 ∷ 47 ∷ 47 ∷ 108 ∷ 111 ∷ 99 ∷ 97 ∷ 108 ∷ 104 ∷ 111 ∷ 115 ∷ 116 ∷ 58 ∷ 56 ∷ 48 ∷ 48 ∷ 48 ∷ []); interfaces = (0 ∷ []) } ∷ []); sets = []; init = nothing; main = (choice (request 0 (Some (step (120 ∷ []) here)) (Some (step (121 ∷ []) here)) (assign (step (121 ∷ []) here) (product (at_path (step (120 ∷ []) (step (110 ∷ []) here))) (mul_part muls.Times (constant (root.Int (pos 2))) no_mul_parts))) nothing no_branches)) } ∷ []);
  names = ((73 ∷ 79 ∷ 69 ∷ 120 ∷ 99 ∷ 101 ∷ 112 ∷ 116 ∷ 105 ∷ 111 ∷ 110 ∷ []) ∷ (84 ∷ 121 ∷ 112 ∷ 101 ∷ 77 ∷ 105 ∷ 115 ∷ 109 ∷ 97 ∷ 116 ∷ 99 ∷ 104 ∷ []) ∷ (67 ∷ 111 ∷ 114 ∷ 114 ∷ 101 ∷ 108 ∷ 97 ∷ 116 ∷ 105 ∷ 111 ∷ 110 ∷ 69 ∷ 114 ∷ 114 ∷ 111 ∷ 114 ∷ []) ∷ (82 ∷ 101 ∷ 102 ∷ 117 ∷ 115 ∷ 101 ∷ 100 ∷ []) ∷ (85 ∷ 110 ∷ 100 ∷ 101 ∷ 99 ∷ 108 ∷ 97 ∷ 114 ∷ 101 ∷ 100 ∷ 70 ∷ 97 ∷ 117 ∷ 108 ∷ 116 ∷ []) ∷ (69 ∷ 120 ∷ 112 ∷ 114 ∷ 70 ∷ 97 ∷ 117 ∷ 108 ∷ 116 ∷ []) ∷ (72 ∷ 97 ∷ 110 ∷ 100 ∷ 108 ∷ 101 ∷ 114 ∷ 84 ∷ 111 ∷ 111 ∷ 76 ∷ 97 ∷ 114 ∷ 103 ∷ 101 ∷ []) ∷ (83 ∷ 116 ∷ 111 ∷ 114 ∷ 101 ∷ 84 ∷ 111 ∷ 111 ∷ 76 ∷ 97 ∷ 114 ∷ 103 ∷ 101 ∷ []) ∷ (109 ∷ 97 ∷ 105 ∷ 110 ∷ []) ∷ []);
}

pub doubles : happens program 0 (
    act 0 (mail program 0 0 0 (node root.Void (field (110 ∷ []) (tree (node (root.Int (pos 21)) no_fields) no_trees) no_fields))) ∷
    act 0 given.Nothing ∷
    act 0 given.Nothing ∷
    act 0 given.Nothing ∷ []) ≡ (
    told 0 kind.In 0 0 0 (need.Take (0 ∷ [])) ∷
    told 0 kind.Local 0 0 0 need.Nothing ∷
    told 0 kind.Reply 0 0 0 (need.Reply 0 (outcome.Value (node (root.Int (pos 42)) no_fields))) ∷
    told 0 kind.Finish 0 0 0 need.Finish ∷ [])
unfolding digits
doubles = refl

-- after 0 events: not 0 nothing
pub doubles_refuses_0 : then_tries program 0 [] 0 given.Nothing ≡ None
unfolding digits
doubles_refuses_0 = refl

-- after 0 events: not 1 mail 0 twice v{"n":[i21]}
pub doubles_refuses_1 : then_tries program 0 [] 1 (mail program 0 0 0 (node root.Void (field (110 ∷ []) (tree (node (root.Int (pos 21)) no_fields) no_trees) no_fields))) ≡ None
unfolding digits
doubles_refuses_1 = refl

-- after 1 events: not 0 mail 1 twice v{"n":[i21]}
pub doubles_refuses_2 : then_tries program 0 (
    act 0 (mail program 0 0 0 (node root.Void (field (110 ∷ []) (tree (node (root.Int (pos 21)) no_fields) no_trees) no_fields))) ∷ []) 0 (mail program 0 1 0 (node root.Void (field (110 ∷ []) (tree (node (root.Int (pos 21)) no_fields) no_trees) no_fields))) ≡ None
unfolding digits
doubles_refuses_2 = refl

-- after 3 events: not 1 nothing
pub doubles_refuses_3 : then_tries program 0 (
    act 0 (mail program 0 0 0 (node root.Void (field (110 ∷ []) (tree (node (root.Int (pos 21)) no_fields) no_trees) no_fields))) ∷
    act 0 given.Nothing ∷
    act 0 given.Nothing ∷ []) 1 given.Nothing ≡ None
unfolding digits
doubles_refuses_3 = refl

-- after 4 events: not 0 nothing
pub doubles_refuses_4 : then_tries program 0 (
    act 0 (mail program 0 0 0 (node root.Void (field (110 ∷ []) (tree (node (root.Int (pos 21)) no_fields) no_trees) no_fields))) ∷
    act 0 given.Nothing ∷
    act 0 given.Nothing ∷
    act 0 given.Nothing ∷ []) 0 given.Nothing ≡ None
unfolding digits
doubles_refuses_4 = refl

pub passes_an_int : happens program 0 (
    act 0 (mail program 0 0 0 (node root.Void (field (110 ∷ []) (tree (node (root.Int (pos 2147483647)) no_fields) no_trees) no_fields))) ∷
    act 0 given.Nothing ∷
    act 0 given.Nothing ∷
    act 0 given.Nothing ∷ []) ≡ (
    told 0 kind.In 0 0 0 (need.Take (0 ∷ [])) ∷
    told 0 kind.Raise 2 8 5 need.Nothing ∷
    told 0 kind.Reply 0 0 0 (need.Reply 0 (outcome.Fault (69 ∷ 120 ∷ 112 ∷ 114 ∷ 70 ∷ 97 ∷ 117 ∷ 108 ∷ 116 ∷ []) (node root.Void no_fields))) ∷
    told 0 kind.Finish 0 0 0 need.Finish ∷ [])
unfolding digits
passes_an_int = refl

-- What stands in init means assignments alone, where nothing is refused of it.
use Rattle.std.proofs.Common.{◌≡◌, Bool, true, false, List, [], ◌∷◌, ◌++◌, map, flat_map, Option, None, Some, refl, ap, sym, subst, ◌∙◌}
use Rattle.std.specs.Prelude.{option_map, unwrap_or}
use Rattle.std.specs.List.{filter_map}
use Rattle.std.proofs.lemmas.Bool.{and_from, false≢true}
use Rattle.std.proofs.lemmas.Option.{same_Some}
use Rattle.jolie_ast.specs.declared.process.Assignment.{Assignment}
use Rattle.jolie_ast.specs.declared.process.Assignment.TheVariants as assignment
use Rattle.jolie_ast.specs.declared.process.Otherwise.TheOpen.{Process-F}
use Rattle.jolie_ast.specs.declared.process.Otherwise.{Otherwise}
use Rattle.jolie_ast.specs.declared.process.Process.{Process, out-Process, roll-Process, roll-out-Process}
use Rattle.jolie_ast.specs.declared.process.Process.TheVariants as process
use Rattle.jolie_ast.specs.declared.process.Answer.{Answer}
use Rattle.jolie_ast.specs.declared.process.Block.{Block, out-Block}
use Rattle.jolie_ast.specs.declared.process.Branch.{Branch}
use Rattle.jolie_ast.specs.declared.process.Handler.{Handler}
use Rattle.jolie_ast.specs.declared.process.If.{If}
use Rattle.jolie_ast.specs.declared.process.Input.{Input}
use Rattle.jolie_ast.specs.declared.process.Reply.{Reply}
use Rattle.jolie_ast.specs.declared.service.Clause.{Clause}
use Rattle.jolie_ast.specs.declared.service.Clause.TheVariants as clause
use Rattle.behaviour_tree.specs.Data as plain
use Rattle.behaviour_tree.specs.Data.{PathTree, Proc}
use Rattle.behaviour_tree.specs.View.{procs_of}
use Rattle.behaviour_tree.specs.FormedServices.{all_assign_alone, assigns_alone, is_init}
use Rattle.check_base.specs.declared.refusal.CheckName.TheVariants.{InitNotAssignment}
use Rattle.check_base.specs.Files.{first_there, init_in, main_in}
use Rattle.lower_processes.specs.Behaviours.{Numbering, lowered_assignment, lowered_block, lowered_if_there, lowered_process}
use Rattle.lower_processes.specs.Expressions.{lowered_path}
use Rattle.check_processes.specs.Surroundings.{Surroundings}
use Rattle.check_processes.specs.ProcessRules.{block_refused}
use Rattle.check_processes.specs.InitParts.{no_assignment}
use Rattle.check_processes.specs.InitRules.{assigns, init_refused, process_place, statements_of}
use Rattle.service_check.specs.ServiceRules.{clause_refused}
use Rattle.service_check.proofs.Emptied.{holds, left_empty, right_empty}
use Rattle.lower_processes.proofs.LoweredProcesses as means

-- ---- assignments

-- whether a form is an assignment
abbrev assigns_form : Process-F Otherwise Process Answer Block Branch Handler If Input Reply → Bool
assigns_form f = elim f as (λ _. Bool) [ Process-F.Assign path assignment ↦ true | _ ↦ false ]

assignment_is : (p : PathTree) (a : Assignment) → assigns_alone (lowered_assignment p a) ≡ true
assignment_is p (assignment.Root e) = refl
assignment_is p (assignment.Copy e) = refl
assignment_is p (assignment.Count c) = refl

-- what a process means, by its form
lowered_by_form : (m : Numbering) (p q : Process) (f : Process-F Otherwise Process Answer Block Branch Handler If Input Reply) → out-Process p ≡ f → roll-Process f ≡ q → lowered_process m p ≡ lowered_process m q
lowered_by_form m p q f form rolls = ap (lowered_process m) (sym (roll-out-Process p) ∙ ap roll-Process form ∙ rolls)

means_assignment : (m : Numbering) (p : Process) (f : Process-F Otherwise Process Answer Block Branch Handler If Input Reply) → out-Process p ≡ f → assigns_form f ≡ true → assigns_alone (lowered_process m p) ≡ true
means_assignment m p (Process-F.Assign path a) form e =
    ap assigns_alone (lowered_by_form m p (process.Assign path a) (Process-F.Assign path a) form (process.rolls-Assign path a) ∙ means.assign_lowered m path a) ∙ assignment_is (lowered_path path) a
means_assignment m p f form e = absurd (false≢true e)

-- a process that assigns means an assignment
pub assigning_means : (m : Numbering) (p : Process) → assigns p ≡ true → assigns_alone (lowered_process m p) ≡ true
assigning_means m p e = means_assignment m p (out-Process p) refl e

init_of_one : (q : Proc) → assigns_alone q ≡ true → is_init q ≡ true
init_of_one plain.nothing h = refl
init_of_one q h = h

-- ---- statements

each_assigns : (m : Numbering) (ps : List Process) → flat_map no_assignment ps ≡ [] → all_assign_alone (procs_of (map (lowered_process m) ps)) ≡ true
each_assigns m [] e = refl
each_assigns m (p ∷ ps) e =
    and_from (assigns_alone (lowered_process m p)) (all_assign_alone (procs_of (map (lowered_process m) ps)))
    (assigning_means m p (holds (assigns p) InitNotAssignment (process_place p) (left_empty (no_assignment p) (flat_map no_assignment ps) e)))
    (each_assigns m ps (right_empty (no_assignment p) (flat_map no_assignment ps) e))

-- the statements of a process, by its form
abbrev statements_by : Process → Process-F Otherwise Process Answer Block Branch Handler If Input Reply → List Process
statements_by p f = elim f as (λ _. List Process) [ Process-F.Sequence statements ↦ statements | _ ↦ p ∷ [] ]

init_by_form : (m : Numbering) (p : Process) (f : Process-F Otherwise Process Answer Block Branch Handler If Input Reply) → out-Process p ≡ f → flat_map no_assignment (statements_by p f) ≡ [] → is_init (lowered_process m p) ≡ true
init_by_form m p (Process-F.Sequence statements) form e =
    ap is_init (lowered_by_form m p (process.Sequence statements) (Process-F.Sequence statements) form (process.rolls-Sequence statements) ∙ means.sequence_lowered m statements) ∙ each_assigns m statements e
init_by_form m p f form e = init_of_one (lowered_process m p) (assigning_means m p (holds (assigns p) InitNotAssignment (process_place p) (left_empty (no_assignment p) [] e)))

init_there : (m : Numbering) (o : Option Process) → flat_map no_assignment (elim o as (λ _. List Process) [ None ↦ [] | Some p ↦ statements_of p ]) ≡ [] → is_init (unwrap_or (option_map (lowered_process m) o) plain.nothing) ≡ true
init_there m None e = refl
init_there m (Some p) e = init_by_form m p (out-Process p) refl e

-- an init of which nothing is refused
pub init_formed : (m : Numbering) (b : Block) → init_refused b ≡ [] → is_init (lowered_block m b) ≡ true
init_formed m b e = ap is_init (means.block_is m b) ∙ init_there m (out-Block b).body e

-- ---- clauses

-- nothing is refused of the first init of clauses of which nothing is refused
pub init_clear : (e : Surroundings) (clauses : List Clause) (b : Block) → flat_map (clause_refused e) clauses ≡ [] → first_there (filter_map init_in clauses) ≡ Some b → block_refused e b false ++ init_refused b ≡ []
init_clear e [] b none there = cc
init_clear e (clause.Init at body ∷ clauses) b none there =
    subst (λ x. block_refused e x false ++ init_refused x ≡ []) (same_Some body b there) (left_empty (block_refused e body false ++ init_refused body) (flat_map (clause_refused e) clauses) none)
init_clear e (clause.Main at body ∷ clauses) b none there = init_clear e clauses b (right_empty (block_refused e body false) (flat_map (clause_refused e) clauses) none) there
init_clear e (clause.InputPort p ∷ clauses) b none there = init_clear e clauses b none there
init_clear e (clause.OutputPort p ∷ clauses) b none there = init_clear e clauses b none there
init_clear e (clause.Execution at execution ∷ clauses) b none there = init_clear e clauses b none there
init_clear e (clause.CorrelationSet at variables ∷ clauses) b none there = init_clear e clauses b none there

-- nothing is refused of the first main
pub main_clear : (e : Surroundings) (clauses : List Clause) (b : Block) → flat_map (clause_refused e) clauses ≡ [] → first_there (filter_map main_in clauses) ≡ Some b → block_refused e b false ≡ []
main_clear e [] b none there = cc
main_clear e (clause.Main at body ∷ clauses) b none there = subst (λ x. block_refused e x false ≡ []) (same_Some body b there) (left_empty (block_refused e body false) (flat_map (clause_refused e) clauses) none)
main_clear e (clause.Init at body ∷ clauses) b none there = main_clear e clauses b (right_empty (block_refused e body false ++ init_refused body) (flat_map (clause_refused e) clauses) none) there
main_clear e (clause.InputPort p ∷ clauses) b none there = main_clear e clauses b none there
main_clear e (clause.OutputPort p ∷ clauses) b none there = main_clear e clauses b none there
main_clear e (clause.Execution at execution ∷ clauses) b none there = main_clear e clauses b none there
main_clear e (clause.CorrelationSet at variables ∷ clauses) b none there = main_clear e clauses b none there

init_of : (e : Surroundings) (m : Numbering) (o : Option Block) → ((b : Block) → o ≡ Some b → block_refused e b false ++ init_refused b ≡ []) → is_init (lowered_if_there m o) ≡ true
init_of e m None clear = refl
init_of e m (Some b) clear = init_formed m b (right_empty (block_refused e b false) (init_refused b) (clear b refl))

-- the init of a service of which nothing is refused
pub service_init : (e : Surroundings) (m : Numbering) (clauses : List Clause) → flat_map (clause_refused e) clauses ≡ [] → is_init (lowered_if_there m (first_there (filter_map init_in clauses))) ≡ true
service_init e m clauses none = init_of e m (first_there (filter_map init_in clauses)) (λ b there. init_clear e clauses b none there)

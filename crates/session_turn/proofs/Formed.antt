-- What the events of a service ask fits the service, in every program that was checked.
use Rattle.std.proofs.Common.{◌≡◌, ◌⊎◌, inl, inr, ℕ, zero, suc, ◌+◌, ◌<◌, ◌≤◌, Bool, true, false, cond, List, [], ◌∷◌, ◌++◌, length, length-append, Option, None, Some, is_some, option_map, option_and_then, slice_get, if◌then◌else◌, nat_eq, nat_lt, refl, sym, ap, subst, ◌∙◌, arith, eq-eqb, eqb-true, ltb-true}
use Rattle.std.specs.List.{filter, list_all, list_any}
use Rattle.std.proofs.lemmas.Bool.{and_parts, cases_lt, false≢true, or_left, or_right}
use Rattle.std.proofs.lemmas.Option.{none-some, same_Some}
use Rattle.jolie_trees.specs.declared.root.Root.{Root}
use Rattle.jolie_trees.specs.Data.{Tree}
use Rattle.behaviour_tree.specs.declared.words.Need.TheVariants as need
use Rattle.behaviour_tree.specs.declared.words.Given.{Given}
use Rattle.behaviour_tree.specs.declared.words.Given.TheVariants as given
use Rattle.behaviour_tree.specs.Data.{Proc, choice, Branches, no_branches, one_way, request, SetPart, VariablePart, ServicePart, ProgramParts, behaviour_of}
use Rattle.behaviour_tree.specs.FormedBehaviours.{Reach, has_operation}
use Rattle.behaviour_tree.specs.FormedPorts.{input_locations}
use Rattle.behaviour_tree.specs.FormedServices.{is_service, reach_of, runs_well}
use Rattle.behaviour_tree.specs.FormedSets.{variables_of}
use Rattle.behaviour_tree.specs.Operations.{service_operations}
use Rattle.behaviour_tree.specs.WellFormed.{is_well_formed}
use Rattle.session_calculus.specs.Terms.{Term, Strands, place, seq, par, in_scope, exec, prot, no_strands, strand, stands_in}
use Rattle.session_calculus.specs.After.{Config, Done, after, first_config}
use Rattle.session_calculus.specs.Runs.{TakenStep, RunsTo, start_of}
use Rattle.session_calculus.specs.Laws.{asks, is_asked, is_request_of, place_among, place_in}
use Rattle.session_laws.proofs.Options.{OnValue, OnValue-test}
use Rattle.office_core.specs.Limits.{Setting}
use Rattle.office_core.specs.Keys.{Variable, first, sets_from, sets_of, variables_from}
use Rattle.office_core.specs.Bound.{sets_with}
use Rattle.session_turn.specs.Asking.{has_response}
use Rattle.session_turn.proofs.Naming.{BranchesNameWell, NamesWell, names_well}
use Rattle.session_turn.proofs.NamedForms.{AskedName, FormNames, MembersName, names-after, names-first, names-leads}

-- In every run of the service, a variable that is bound is one of the service, and what comes as a request is to an
-- operation that has a response.
pub record AsksWell (w : Setting) (service : ℕ) : Type 0 where
  pub variables : (steps : List TakenStep) (last : Config) (n : ℕ) (g : Given) (d : Done) (v : ℕ) (x : Root)
      → RunsTo w.parts service steps last → after w.parts service last n g ≡ Some d → d.need ≡ need.Bind v x
      → is_some (first (sets_with w service v)) ≡ true
  pub requests : (steps : List TakenStep) (last : Config) (n : ℕ) (d : Done) (m o : ℕ) (v : Tree)
      → RunsTo w.parts service steps last → after w.parts service last n (given.Mail m o v) ≡ Some d
      → is_asked m last (record { event = d.event; gift = given.Mail m o v }) ≡ true
      → has_response w service o ≡ true

-- ---- the variables of a service

-- whether a set has a variable
abbrev has : ℕ → List Variable → Bool
has v set = list_any (λ u. nat_eq v u.number) set

-- it has those of its numbers
variable-there : (n v : ℕ) (vs : List VariablePart) → n ≤ v → v < n + length vs → has v (variables_from n vs) ≡ true
variable-there n v [] from below = absurd (omega (arith, from, below))
variable-there n v (x ∷ vs) from below = go (cases_lt n v) (variable-there (suc n) v vs)
  where
    go : (n < v) ⊎ (v ≤ n) → (suc n ≤ v → v < suc n + length vs → has v (variables_from (suc n) vs) ≡ true)
        → has v (variables_from n (x ∷ vs)) ≡ true
    go (inl l) later =
        or_right (nat_eq v n) (has v (variables_from (suc n) vs)) (later (omega (arith, l)) (omega (arith, below)))
    go (inr l) later =
        or_left (nat_eq v n) (has v (variables_from (suc n) vs)) (eq-eqb v n (omega (arith, from, l)))

-- one of some sets is found
found-here : (p : List Variable → Bool) (x : List Variable) (xs : List (List Variable)) → p x ≡ true
    → is_some (first (filter p (x ∷ xs))) ≡ true
found-here p x xs e = ap (λ b. is_some (first (cond b (x ∷ filter p xs) (filter p xs)))) e

found-later : (p : List Variable → Bool) (x : List Variable) (xs : List (List Variable))
    → is_some (first (filter p xs)) ≡ true
    → is_some (first (filter p (x ∷ xs))) ≡ true
found-later p x xs e = go (p x)
  where
    go : (b : Bool) → is_some (first (cond b (x ∷ filter p xs) (filter p xs))) ≡ true
    go true = refl
    go false = e

set-there : (n v : ℕ) (sets : List SetPart) → n ≤ v → v < n + length (variables_of sets)
    → is_some (first (filter (has v) (sets_from n sets))) ≡ true
set-there n v [] from below = absurd (omega (arith, from, below))
set-there n v (x ∷ sets) from below =
    go (cases_lt v (n + length x.variables)) (set-there (n + length x.variables) v sets)
    (length-append x.variables (variables_of sets))
  where
    go : (v < n + length x.variables) ⊎ (n + length x.variables ≤ v)
        → (n + length x.variables ≤ v → v < n + length x.variables + length (variables_of sets)
        → is_some (first (filter (has v) (sets_from (n + length x.variables) sets))) ≡ true)
        → length (x.variables ++ variables_of sets) ≡ length x.variables + length (variables_of sets)
        → is_some (first (filter (has v) (sets_from n (x ∷ sets)))) ≡ true
    go (inl l) later long =
        found-here (has v) (variables_from n x.variables) (sets_from (n + length x.variables) sets)
        (variable-there n v x.variables from l)
    go (inr l) later long =
        found-later (has v) (variables_from n x.variables) (sets_from (n + length x.variables) sets)
        (later l (omega (arith, below, long)))

-- a variable of a service is in one of its sets
variable-found : (w : Setting) (service v : ℕ) (s : ServicePart) → slice_get w.parts.services service ≡ Some s
    → nat_lt v (length (variables_of s.sets)) ≡ true
    → is_some (first (sets_with w service v)) ≡ true
variable-found w service v s e h =
    ap (λ (o : Option ServicePart). is_some (first (elim o as (λ _. List (List Variable)) [ None ↦ [] | Some d ↦ filter (has v) (sets_of d) ]))) e
    ∙ set-there 0 v s.sets (omega arith) (omega (arith, ltb-true v (length (variables_of s.sets)) h))

-- ---- the operations that are taken as requests

-- the branch of a request
branch-answers : (r : Reach) (o : ℕ) (bs : Branches) → BranchesNameWell r bs → is_request_of o bs ≡ true
    → has_operation r.inputs o true ≡ true
branch-answers r o no_branches n h = absurd (false≢true h)
branch-answers r o (one_way i x p bs) n h = go (nat_eq i o) h (branch-answers r o bs n.1)
  where
    go : (b : Bool) → (if b then false else is_request_of o bs) ≡ true
        → (is_request_of o bs ≡ true → has_operation r.inputs o true ≡ true)
        → has_operation r.inputs o true ≡ true
    go true h later = absurd (false≢true h)
    go false h later = later h
branch-answers r o (request i x y body p bs) n h = go (nat_eq i o) refl h (branch-answers r o bs n.3)
  where
    go : (b : Bool) → nat_eq i o ≡ b → (if b then true else is_request_of o bs) ≡ true
        → (is_request_of o bs ≡ true → has_operation r.inputs o true ≡ true)
        → has_operation r.inputs o true ≡ true
    go true e h later = subst (λ (k : ℕ). has_operation r.inputs k true ≡ true) (eqb-true i o e) n.0
    go false e h later = later h

-- a behaviour that takes a message as a request
place-answers : (r : Reach) (m i o : ℕ) (v : Tree) (p : Option Proc) → OnValue (NamesWell r) p
    → asks m p (given.Mail i o v) ≡ true
    → has_operation r.inputs o true ≡ true
place-answers r m i o v None n h = absurd (false≢true h)
place-answers r m i o v (Some (choice bs)) n h =
    branch-answers r o bs n (and_parts (is_request_of o bs) (nat_eq m i) h).0
place-answers r m i o v (Some p) n h = absurd (false≢true h)

-- the behaviour of a strand, in one member or in the others
names-one : (r : Reach) (n s : ℕ) (t : Term) (ts : Strands) (b : Bool) → OnValue (NamesWell r) (place_in n s t)
    → OnValue (NamesWell r) (place_among n ts)
    → OnValue (NamesWell r) (elim b [ true ↦ place_in n s t | false ↦ place_among n ts ])
names-one r n s t ts true here there = here
names-one r n s t ts false here there = there

mutual
  -- in a form
  names-place : (r : Reach) (n s : ℕ) (t : Term) → FormNames r t → OnValue (NamesWell r) (place_in n s t)
  names-place r n s (place p) h = OnValue-test (nat_eq n s) (NamesWell r) (Some p) (λ own. h)
  names-place r n s (seq t rest) h = names-place r n s t h.0
  names-place r n s (par ts) h = names-place_among r n ts h
  names-place r n s (in_scope q t x u) h = names-place r n s t h.0
  names-place r n s (exec m o y t) h = names-place r n s t h
  names-place r n s (prot t) h = names-place r n s t h
  names-place r n s t h = tt

  -- in members
  names-place_among : (r : Reach) (n : ℕ) (ts : Strands) → MembersName r ts → OnValue (NamesWell r) (place_among n ts)
  names-place_among r n no_strands h = tt
  names-place_among r n (strand s t ts) h =
      names-one r n s t ts (stands_in n s t) (names-place r n s t h.0) (names-place_among r n ts h.1)

-- ---- a program that was checked

-- what holds of each of a list
at-place : {X : Type 0} (f : X → Bool) (xs : List X) (n : ℕ) (x : X) → list_all f xs ≡ true → slice_get xs n ≡ Some x
    → f x ≡ true
at-place f [] n x h e = absurd (none-some x e)
at-place f (y ∷ xs) zero x h e = ap f (sym (same_Some y x e)) ∙ (and_parts (f y) (list_all f xs) h).0
at-place f (y ∷ xs) (suc n) x h e = at-place f xs n x (and_parts (f y) (list_all f xs) h).1 e

-- the behaviours of its services
service-runs : (parts : ProgramParts) (n : ℕ) (s : ServicePart) → is_well_formed parts ≡ true
    → slice_get parts.services n ≡ Some s
    → runs_well parts s ≡ true
unfolding is_well_formed
service-runs parts n s h e =
    let each = (and_parts _ _ (and_parts _ _ (and_parts _ _ h).0).1).1 in
    let well = at-place (is_service parts (input_locations parts.services)) parts.services n s each e in
    (and_parts _ _ (and_parts _ _ (and_parts _ _ well).0).0).1

-- what they name is there
service-names : (parts : ProgramParts) (s : ServicePart) → runs_well parts s ≡ true
    → NamesWell (reach_of parts s) (behaviour_of s)
service-names parts s h =
    let both = and_parts _ _ h in
    let r = reach_of parts s in (
      names_well r false s.init (and_parts _ _ both.0).1,
      (names_well r false s.main both.1, tt),
    )

-- a session of a service that is there
pub record Started (parts : ProgramParts) (service : ℕ) (c : Config) : Type 0 where
  pub part : ServicePart
  pub there : slice_get parts.services service ≡ Some part
  pub names : FormNames (reach_of parts part) c.form

started-first : (parts : ProgramParts) (service : ℕ) (from : Config) → is_well_formed parts ≡ true
    → start_of parts service ≡ Some from
    → Started parts service from
started-first parts service from well e = go (slice_get parts.services service) refl e
  where
    go : (o : Option ServicePart) → slice_get parts.services service ≡ o
        → option_map (λ s. first_config (behaviour_of s)) o ≡ Some from
        → Started parts service from
    go None q f = absurd (none-some from f)
    go (Some s) q f = record {
      part = s;
      there = q;
      names = subst (λ (c : Config). FormNames (reach_of parts s) c.form)
          (same_Some (first_config (behaviour_of s)) from f)
          (names-first (reach_of parts s) (behaviour_of s) (service-names parts s (service-runs parts service s well q)));
    }

-- and where it has come to
pub started : (parts : ProgramParts) (service : ℕ) (steps : List TakenStep) (last : Config) → is_well_formed parts ≡ true
    → RunsTo parts service steps last
    → Started parts service last
started parts service steps last well run =
    let x = started-first parts service run.0 well run.1 in
    record {
      part = x.part;
      there = x.there;
      names = names-leads (reach_of parts x.part) parts service run.0 steps last x.names run.2;
    }

-- an operation that has an answer, by its service
answers-there : (w : Setting) (service o : ℕ) (s : ServicePart) → slice_get w.parts.services service ≡ Some s
    → has_operation (service_operations w.parts s) o true ≡ true
    → has_response w service o ≡ true
answers-there w service o s e h =
    ap (λ (x : Option ServicePart). elim (option_and_then (λ d. slice_get (service_operations w.parts d) o) x) as (λ _. Bool) [ None ↦ false | Some y ↦ is_some y.response ]) e
    ∙ h

-- what the events of a service ask fits it
pub asks_well : (w : Setting) (service : ℕ) → is_well_formed w.parts ≡ true → AsksWell w service
asks_well w service well = record {
  variables = λ steps last n g d v x run e asks.
      let it = started w.parts service steps last well run in
      let r = reach_of w.parts it.part in
      variable-found w service v it.part it.there
      (subst (AskedName r) asks (names-after r w.parts service last n g d it.names e).1);
  requests = λ steps last n d m o v run e asked.
      let it = started w.parts service steps last well run in
      answers-there w service o it.part it.there
      (place-answers (reach_of w.parts it.part) m m o v (place_in d.event.strand 0 last.form)
      (names-place (reach_of w.parts it.part) d.event.strand 0 last.form it.names) asked);
}

-- A strand that takes a message stands at a choice that has a branch for its operation; where each one-way of the choice
-- takes an operation without an answer, a message to one with an answer comes as a request.
use Rattle.std.proofs.Common.{◌≡◌, ℕ, zero, Bool, true, false, not, ◌||◌, List, Option, None, Some, is_some, slice_get, if◌then◌else◌, nat_eq, refl, sym, ap, subst, ◌∙◌, eq-eqb, eqb-true}
use Rattle.std.specs.List.{list_any}
use Rattle.std.proofs.lemmas.Bool.{false≢true, and_from}
use Rattle.jolie_trees.specs.Data.{Tree}
use Rattle.behaviour_tree.specs.declared.words.Need.{Need}
use Rattle.behaviour_tree.specs.declared.words.Need.TheVariants as need
use Rattle.behaviour_tree.specs.declared.words.Given.{Given}
use Rattle.behaviour_tree.specs.declared.words.Given.TheVariants as given
use Rattle.behaviour_tree.specs.Data.{Proc, choice, Branches, no_branches, one_way, request, OperationPart, ProgramParts}
use Rattle.behaviour_tree.specs.FormedBehaviours.{Reach, branch_operations, has_operation}
use Rattle.session_calculus.specs.Terms.{Term, Strands, place}
use Rattle.session_calculus.specs.Throw.{Carried, up, caught_at, ended_at, blocked, absent, throw}
use Rattle.session_calculus.specs.Moves.{Seen, Move, within}
use Rattle.session_calculus.specs.Effects.{received}
use Rattle.session_calculus.specs.Inputs.{Coming, past, goes_on, asked, comes}
use Rattle.session_calculus.specs.After.{Config, Done, raised, finishes, seen_by, after}
use Rattle.session_calculus.specs.Laws.{asks, is_request_of, place_among, place_in}
use Rattle.session_laws.proofs.Options.{OnValue, OnValue-imp}
use Rattle.session_laws.proofs.Moving.{coming, Keeps, keeps-moves}
use Rattle.session_laws.proofs.Events.{of_event}
use Rattle.run_answer_laws.proofs.OneWays.{BranchesFit, OneWaysFit}

-- a message is asked for
abbrev pub is_take : Need → Bool
is_take n = elim n [ need.Take ops ↦ true | _ ↦ false ]

-- a behaviour that has a branch for a gift
abbrev pub takes_in : Option Proc → Given → Bool
takes_in (Some (choice bs)) (given.Mail m o v) = list_any (nat_eq o) (branch_operations bs)
takes_in p g = false

-- ---- branches

here-any : (b : Bool) (n m : ℕ) (rest : Bool) → nat_eq n m ≡ b → b ≡ true → (nat_eq m n || rest) ≡ true
here-any b n m rest e t =
    ap (λ x. x || rest) (eq-eqb m n (sym (eqb-true n m (e ∙ t))))

later-any : (b rest : Bool) → rest ≡ true → (b || rest) ≡ true
later-any true rest h = refl
later-any false rest h = h

-- what comes is for one of the branches
comes-among : (s : Seen) (c : Coming) (bs : Branches)
    → OnValue (λ m. list_any (nat_eq c.op) (branch_operations bs) ≡ true) (comes s c bs)
comes-among s c no_branches = tt
comes-among s c (one_way o x p bs) = go (nat_eq o c.op) refl (comes-among s (past c) bs)
  where
    go : (b : Bool) → nat_eq o c.op ≡ b
        → OnValue (λ (m : Move Term). list_any (nat_eq c.op) (branch_operations bs) ≡ true) (comes s (past c) bs)
        → OnValue (λ (m : Move Term). (nat_eq c.op o || list_any (nat_eq c.op) (branch_operations bs)) ≡ true)
        (if b then Some (goes_on s c p (received s.store x c.value)) else comes s (past c) bs)
    go true e rest = here-any true o c.op (list_any (nat_eq c.op) (branch_operations bs)) e refl
    go false e rest =
        OnValue-imp (λ m. list_any (nat_eq c.op) (branch_operations bs) ≡ true)
        (λ m. (nat_eq c.op o || list_any (nat_eq c.op) (branch_operations bs)) ≡ true) (comes s (past c) bs)
        (λ m h. later-any (nat_eq c.op o) (list_any (nat_eq c.op) (branch_operations bs)) h) rest
comes-among s c (request o x y body p bs) = go (nat_eq o c.op) refl (comes-among s (past c) bs)
  where
    go : (b : Bool) → nat_eq o c.op ≡ b
        → OnValue (λ (m : Move Term). list_any (nat_eq c.op) (branch_operations bs) ≡ true) (comes s (past c) bs)
        → OnValue (λ (m : Move Term). (nat_eq c.op o || list_any (nat_eq c.op) (branch_operations bs)) ≡ true)
        (if b then Some (within (asked c y p) (goes_on s c body (received s.store x c.value))) else comes s (past c) bs)
    go true e rest = here-any true o c.op (list_any (nat_eq c.op) (branch_operations bs)) e refl
    go false e rest =
        OnValue-imp (λ m. list_any (nat_eq c.op) (branch_operations bs) ≡ true)
        (λ m. (nat_eq c.op o || list_any (nat_eq c.op) (branch_operations bs)) ≡ true) (comes s (past c) bs)
        (λ m h. later-any (nat_eq c.op o) (list_any (nat_eq c.op) (branch_operations bs)) h) rest

-- ---- moves

-- a move that takes a message is of a choice that has its branch
abbrev TakesIn : Seen → ℕ → Term → Move Term → Type 0
TakesIn s k t m = is_take m.made.need ≡ true → takes_in (place_in s.strand k t) s.gift ≡ true

-- the same of members
abbrev TakesAmong : Seen → Strands → Move Strands → Type 0
TakesAmong s ts m = is_take m.made.need ≡ true → takes_in (place_among s.strand ts) s.gift ≡ true

at-choice : (bs : Branches) (n o : ℕ) (v : Tree) (g : Given) (b : Bool) → b ≡ true → g ≡ given.Mail n o v
    → list_any (nat_eq o) (branch_operations bs) ≡ true
    → takes_in (if b then Some (choice bs) else None) g ≡ true
at-choice bs n o v g b own e h =
    ap (λ x. takes_in (if x then Some (choice bs) else None) g) own ∙ ap (takes_in (Some (choice bs))) e ∙ h

takes-keeps : Keeps TakesIn TakesAmong
takes-keeps = record {
  store = λ s k p x w a h. absurd (false≢true h);
  first = λ s k e p q a h. absurd (false≢true h);
  second = λ s k e p q a h. absurd (false≢true h);
  turn = λ s k e p a h. absurd (false≢true h);
  leave = λ s k e p a h. absurd (false≢true h);
  installed = λ s k list a h. absurd (false≢true h);
  compensated = λ s k r a h. absurd (false≢true h);
  came = λ s k bs n o v own e.
      OnValue-imp (λ x. list_any (nat_eq o) (branch_operations bs) ≡ true) (TakesIn s k (place (choice bs)))
      (comes s (coming n o v bs) bs)
      (λ x h take. at-choice bs n o v s.gift (nat_eq s.strand k) own e h)
      (comes-among s (coming n o v bs) bs);
  notified = λ s k port op e v a eq h. absurd (false≢true h);
  solicited = λ s k port op e x list v a eq h. absurd (false≢true h);
  bound = λ s k v e r own eq h. absurd (false≢true h);
  unbound = λ s k v e r own eq h. absurd (false≢true h);
  answer_faults = λ s k n port op x list f own h. absurd (false≢true h);
  answer_overflows = λ s k n port op x list f own fit h. absurd (false≢true h);
  answer_sets = λ s k n port op x list y own fit h. absurd (false≢true h);
  dead_installs = λ s k n port op list own fit h. absurd (false≢true h);
  dead_ends = λ s k n port op list own h. absurd (false≢true h);
  ended = λ s k q h a x. absurd (false≢true x);
  handled = λ s k q h f a x. absurd (false≢true x);
  terminated = λ s k q h a x. absurd (false≢true x);
  replied = λ s k n o y a x. absurd (false≢true x);
  told = λ s k n f t a x. absurd (false≢true x);
  in_head = λ s k t rest x h. h;
  in_members = λ s k ts x h. h;
  in_body = λ s k q t h u x d i. i;
  in_request = λ s k n o y t x d h. h;
  in_prot = λ s k t x h. h;
  in_member = λ s k t ts x e h take.
      ap (λ b. takes_in (elim b [ true ↦ place_in s.strand k t | false ↦ place_among s.strand ts ]) s.gift) e
      ∙ h take;
  in_others = λ s k t ts x e h take.
      ap (λ b. takes_in (elim b [ true ↦ place_in s.strand k t | false ↦ place_among s.strand ts ]) s.gift) e
      ∙ h take;
}

-- ---- an event

abbrev TakesAfter : Config → ℕ → Given → Done → Type 0
TakesAfter c n g d = is_take d.need ≡ true → takes_in (place_in n 0 c.form) g ≡ true

takes-raised : (c : Config) (n : ℕ) (g : Given) (f : ℕ) (x : Carried Term) → OnValue (TakesAfter c n g) (raised c n f x)
takes-raised c n g f (up t) = λ h. absurd (false≢true h)
takes-raised c n g f (caught_at t q) = λ h. absurd (false≢true h)
takes-raised c n g f (ended_at t q) = λ h. absurd (false≢true h)
takes-raised c n g f (blocked m) = tt
takes-raised c n g f absent = tt

takes-finishes : (c : Config) (n : ℕ) (g : Given) → OnValue (TakesAfter c n g) (finishes c n g)
takes-finishes c zero given.Nothing = λ h. absurd (false≢true h)
takes-finishes c n g = tt

-- a strand that takes a message stands at a choice that has its branch
pub takes_after : (parts : ProgramParts) (service : ℕ) (c : Config) (n : ℕ) (g : Given) (d : Done)
    → after parts service c n g ≡ Some d → TakesAfter c n g d
takes_after parts service c n g =
    of_event (TakesAfter c n g) parts service c n g (λ ended finished. takes-finishes c n g)
    (λ f going e there. takes-raised c n g f.name (throw n f 0 c.form))
    (λ going none. keeps-moves TakesIn TakesAmong takes-keeps (seen_by parts service c n g) 0 c.form)

-- ---- it comes as a request

-- an operation has an answer, or none
two-ways : (ops : List OperationPart) (o : ℕ) → has_operation ops o true ≡ true → has_operation ops o false ≡ true → ⊥
two-ways ops o h k = go (slice_get ops o) h k
  where
    go : (x : Option OperationPart)
        → ◌≡◌ {A = Bool} (elim x [ None ↦ false | Some y ↦ is_some y.response ]) true
        → ◌≡◌ {A = Bool} (elim x [ None ↦ false | Some y ↦ not (is_some y.response) ]) true → ⊥
    go None h k = false≢true h
    go (Some y) h k = false≢true (ap not (sym h) ∙ k)

rest-any : (b : Bool) (n m : ℕ) (rest : Bool) → nat_eq n m ≡ b → nat_eq m n ≡ false → (b || rest) ≡ true → rest ≡ true
rest-any true n m rest e f h = absurd (false≢true (sym f ∙ eq-eqb m n (sym (eqb-true n m e))))
rest-any false n m rest e f h = h

-- of branches
request-among : (r : Reach) (o : ℕ) (bs : Branches) → BranchesFit r bs → has_operation r.inputs o true ≡ true
    → list_any (nat_eq o) (branch_operations bs) ≡ true → is_request_of o bs ≡ true
request-among r o no_branches n answers h = absurd (false≢true h)
request-among r o (one_way i x p bs) n answers h = go (nat_eq i o) refl (request-among r o bs n.2 answers)
  where
    go : (b : Bool) → nat_eq i o ≡ b
        → (list_any (nat_eq o) (branch_operations bs) ≡ true → is_request_of o bs ≡ true)
        → (if b then false else is_request_of o bs) ≡ true
    go true e later =
        absurd (two-ways r.inputs o answers (subst (λ (k : ℕ). has_operation r.inputs k false ≡ true) (eqb-true i o e) n.0))
    go false e later =
        later (rest-any (nat_eq o i) o i (list_any (nat_eq o) (branch_operations bs)) refl e h)
request-among r o (request i x y body p bs) n answers h = go (nat_eq i o) refl (request-among r o bs n.2 answers)
  where
    go : (b : Bool) → nat_eq i o ≡ b
        → (list_any (nat_eq o) (branch_operations bs) ≡ true → is_request_of o bs ≡ true)
        → (if b then true else is_request_of o bs) ≡ true
    go true e later = refl
    go false e later =
        later (rest-any (nat_eq o i) o i (list_any (nat_eq o) (branch_operations bs)) refl e h)

-- a message to an operation with an answer comes as a request
pub asks_by : (r : Reach) (m o : ℕ) (v : Tree) (p : Option Proc) → OnValue (OneWaysFit r) p
    → has_operation r.inputs o true ≡ true → takes_in p (given.Mail m o v) ≡ true
    → asks m p (given.Mail m o v) ≡ true
asks_by r m o v None n answers h = absurd (false≢true h)
asks_by r m o v (Some (choice bs)) n answers h =
    and_from (is_request_of o bs) (nat_eq m m) (request-among r o bs n answers h) (eq-eqb m m refl)
asks_by r m o v (Some p) n answers h = absurd (false≢true h)

-- No call number is sent twice.
use Rattle.std.proofs.Common.{◌≡◌, ℕ, zero, suc, ◌+◌, ◌≤◌, Bool, true, false, List, [], ◌∷◌, Some, nat_eq, refl, subst, arith, le_refl}
use Rattle.std.proofs.lemmas.Bool.{false≢true, eqb-true}
use Rattle.std.proofs.lemmas.List.Sums.{sum_by-cons}
use Rattle.behaviour_tree.specs.declared.words.Kind.TheVariants as kind
use Rattle.behaviour_tree.specs.declared.words.Event.{Event}
use Rattle.behaviour_tree.specs.declared.words.Given.{Given}
use Rattle.behaviour_tree.specs.declared.words.Given.TheVariants as given
use Rattle.behaviour_tree.specs.Data.{Proc, Branches, no_branches, one_way, request, ProgramParts}
use Rattle.session_calculus.specs.Terms.{Term, Strands}
use Rattle.session_calculus.specs.Throw.{Carried, up, caught_at, ended_at, blocked, absent, throw}
use Rattle.session_calculus.specs.Moves.{Seen, Move}
use Rattle.session_calculus.specs.Effects.{Effect, faults, stores, received}
use Rattle.session_calculus.specs.Inputs.{Coming, past, goes_on, comes}
use Rattle.session_calculus.specs.After.{Config, Done, raised, finishes, seen_by, after}
use Rattle.session_calculus.specs.Runs.{TakenStep}
use Rattle.session_calculus.specs.Laws.{times_sent, SendsOnce}
use Rattle.session_laws.proofs.Options.{OnValue, OnValue-if}
use Rattle.session_laws.proofs.Counting.{once}
use Rattle.session_laws.proofs.Moving.{coming, Keeps, keeps-moves}
use Rattle.session_laws.proofs.Events.{of_event}

-- an event sends call k
abbrev pub sends_call : ℕ → Event → Bool
sends_call k e = elim e.kind [ kind.Solicit ↦ nat_eq k e.number | _ ↦ false ]

-- no number is taken back, and a call is sent under the next one
abbrev pub Sends : ℕ → ℕ → Event → ℕ → Type 0
Sends k before e next = (before ≤ next) × (sends_call k e ≡ true → (k ≡ before) × (next ≡ suc before))

-- a move that does so
abbrev SendsIn : ℕ → Seen → ℕ → Term → Move Term → Type 0
SendsIn k s i t m = Sends k s.call m.made.event m.made.call

-- the same of members
abbrev SendsAmong : ℕ → Seen → Strands → Move Strands → Type 0
SendsAmong k s ts m = Sends k s.call m.made.event m.made.call

-- nothing is sent
quiet : (k n : ℕ) → (n ≤ n) × (false ≡ true → (k ≡ n) × (n ≡ suc n))
quiet k n = (le_refl n, λ e. absurd (false≢true e))

-- a message that came
sends-goes_on : (k : ℕ) (s : Seen) (m : Coming) (p : Proc) (e : Effect)
    → Sends k s.call (goes_on s m p e).made.event (goes_on s m p e).made.call
sends-goes_on k s m p (faults f) = quiet k s.call
sends-goes_on k s m p (stores x) = quiet k s.call

-- a choice
sends-comes : (k : ℕ) (s : Seen) (m : Coming) (bs : Branches)
    → OnValue (λ x. Sends k s.call x.made.event x.made.call) (comes s m bs)
sends-comes k s m no_branches = tt
sends-comes k s m (one_way o x p bs) =
    OnValue-if (nat_eq o m.op) (λ z. Sends k s.call z.made.event z.made.call)
    (Some (goes_on s m p (received s.store x m.value)))
    (comes s (past m) bs) (sends-goes_on k s m p (received s.store x m.value)) (sends-comes k s (past m) bs)
sends-comes k s m (request o x y body p bs) =
    OnValue-if (nat_eq o m.op) (λ z. Sends k s.call z.made.event z.made.call) _ (comes s (past m) bs)
    (sends-goes_on k s m body (received s.store x m.value)) (sends-comes k s (past m) bs)

-- every move
sends-keeps : (k : ℕ) → Keeps (SendsIn k) (SendsAmong k)
sends-keeps k = record {
  store = λ s i p x w a. quiet k s.call;
  first = λ s i e p q a. quiet k s.call;
  second = λ s i e p q a. quiet k s.call;
  turn = λ s i e p a. quiet k s.call;
  leave = λ s i e p a. quiet k s.call;
  installed = λ s i list a. quiet k s.call;
  compensated = λ s i r a. quiet k s.call;
  came = λ s i bs m o v own e. sends-comes k s (coming m o v bs) bs;
  notified = λ s i port op e v a eq. (omega arith, λ x. absurd (false≢true x));
  solicited = λ s i port op e x list v a eq. (omega arith, λ h. (eqb-true k s.call h, refl));
  bound = λ s i v e r own eq. quiet k s.call;
  unbound = λ s i v e r own eq. quiet k s.call;
  answer_faults = λ s i n port op x list f own. quiet k s.call;
  answer_overflows = λ s i n port op x list f own fit. quiet k s.call;
  answer_sets = λ s i n port op x list y own fit. quiet k s.call;
  dead_installs = λ s i n port op list own fit. quiet k s.call;
  dead_ends = λ s i n port op list own. quiet k s.call;
  ended = λ s i q h a. quiet k s.call;
  handled = λ s i q h f a. quiet k s.call;
  terminated = λ s i q h a. quiet k s.call;
  replied = λ s i m o y a. quiet k s.call;
  told = λ s i m f t a. quiet k s.call;
  in_head = λ s i t rest m h. h;
  in_members = λ s i ts m h. h;
  in_body = λ s i q t h u m d x. x;
  in_request = λ s i n o y t m d h. h;
  in_prot = λ s i t m h. h;
  in_member = λ s i t ts m e h. h;
  in_others = λ s i t ts m e h. h;
}

-- ---- an event

-- what an event sends
abbrev SendsAfter : ℕ → Config → Done → Type 0
SendsAfter k c d = Sends k c.call d.event d.config.call

-- a fault that was carried sends nothing
sends-raised : (k : ℕ) (c : Config) (n f : ℕ) (x : Carried Term) → OnValue (SendsAfter k c) (raised c n f x)
sends-raised k c n f (up t) = quiet k c.call
sends-raised k c n f (caught_at t q) = quiet k c.call
sends-raised k c n f (ended_at t q) = quiet k c.call
sends-raised k c n f (blocked m) = tt
sends-raised k c n f absent = tt

-- nor does the last event
sends-finishes : (k : ℕ) (c : Config) (n : ℕ) (g : Given) → OnValue (SendsAfter k c) (finishes c n g)
sends-finishes k c zero given.Nothing = quiet k c.call
sends-finishes k c n g = tt

-- an event sends a call under the next number alone
pub sends-after : (k : ℕ) (parts : ProgramParts) (service : ℕ) (c : Config) (n : ℕ) (g : Given) (d : Done)
    → after parts service c n g ≡ Some d → Sends k c.call d.event d.config.call
sends-after k parts service c n g =
    let s = seen_by parts service c n g in
    of_event (SendsAfter k c) parts service c n g (λ ended finished. sends-finishes k c n g)
    (λ f going e there. sends-raised k c n f.name (throw n f 0 c.form))
    (λ going none. keeps-moves (SendsIn k) (SendsAmong k) (sends-keeps k) s 0 c.form)

-- ---- a run

-- the calls of a first step and of the rest
pub sent-cons : (k : ℕ) (s : TakenStep) (steps : List TakenStep)
    → times_sent k (s ∷ steps) ≡ once (sends_call k s.event) + times_sent k steps
sent-cons k s steps = sum_by-cons (λ x. once (sends_call k x.event)) s steps

-- what one step sends, and the steps after it
sent-step : (b : Bool) (k before next later all : ℕ) → all ≡ once b + later → before ≤ next
    → (b ≡ true → (k ≡ before) × (next ≡ suc before)) → (later ≤ 1) × (k + 1 ≤ next → later ≡ 0)
    → (all ≤ 1) × (k + 1 ≤ before → all ≡ 0)
sent-step true k before next later all e le h rest =
    let now = h refl in
    let none : later ≡ 0 = rest.1 (omega (arith, now.0, now.1)) in
    (omega arith, λ (small : k + 1 ≤ before). omega (arith, now.0))
sent-step false k before next later all e le h rest =
    (omega (arith, rest.0), λ (small : k + 1 ≤ before). let none : later ≡ 0 = rest.1 (omega arith) in omega arith)

-- no call number is sent twice
pub sends_once : SendsOnce
sends_once parts service [] from last w k = (omega arith, λ h. refl)
sends_once parts service (s ∷ steps) from last w k =
    let now = subst (λ e. Sends k from.call e w.0.config.call) w.2
    (sends-after k parts service from s.event.strand s.gift w.0 w.1) in
    sent-step (sends_call k s.event) k from.call w.0.config.call (times_sent k steps) (times_sent k (s ∷ steps))
    (sent-cons k s steps)
    now.0 now.1 (sends_once parts service steps w.0.config last w.3 k)

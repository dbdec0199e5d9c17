-- Which strands a term has: those that it had, and those that are drawn, each once.
use Rattle.std.proofs.Common.{◌≡◌, ℕ, zero, suc, ◌+◌, ◌≤◌, Bool, true, false, List, [], ◌++◌, Option, None, Some, nat_eq, refl, ap, le_refl, arith}
use Rattle.behaviour_tree.specs.declared.words.Given.{Given}
use Rattle.behaviour_tree.specs.declared.words.Given.TheVariants as given
use Rattle.behaviour_tree.specs.Data.{Proc, nothing, block, sequence, parallel, scope, choice, Procs, no_procs, proc, Branches, no_branches, one_way, request, ProgramParts}
use Rattle.session_calculus.specs.Tables.{Table, entry, or_nothing}
use Rattle.session_calculus.specs.Terms.{Fault, Term, Strands, done, place, thrown, seq, par, in_scope, exec, fail, prot, no_strands, strand, State, live, caught, last, zombie, seq_of, all_done, par_of, prot_of, scope_of, stands_in}
use Rattle.behaviour_tree.specs.FormedBehaviours.{count_of}
use Rattle.session_calculus.specs.Start.{Begun, start, start_head, start_members, begin, normal}
use Rattle.session_calculus.specs.Kill.{kill, kill_members}
use Rattle.session_calculus.specs.Ready.{ready}
use Rattle.session_calculus.specs.Throw.{Carried, up, caught_at, ended_at, blocked, absent, surrounded, at_live, at_scope, throw, throw_among}
use Rattle.session_calculus.specs.Moves.{Seen, Move, within}
use Rattle.session_calculus.specs.Effects.{Effect, faults, stores, received}
use Rattle.session_calculus.specs.Inputs.{Coming, past, goes_on, asked, comes}
use Rattle.session_calculus.specs.After.{Config, Done, turn_of, moved, moves, raised, finishes, seen_by, after}
use Rattle.session_calculus.specs.Sound.{strands_of, strands_among}
use Rattle.session_laws.proofs.Options.{OnValue, OnValue-if, OnValue-imp}
use Rattle.session_laws.proofs.Counting.{once, times, times-cons, times-append, below, below-suc}
use Rattle.session_laws.proofs.Moving.{coming, Keeps, keeps-moves}
use Rattle.session_laws.proofs.Carrying.{Carries, carries-if, carries-surrounded, carries-reaches}
use Rattle.session_laws.proofs.Settling.{Settles, settles-begin, settles-normal}
use Rattle.session_laws.proofs.Events.{of_event}

-- ---- what begins

-- how often a strand stands in a member and the others
pub times-strand : (x k : ℕ) (t : Term) (ts : Strands)
    → times x (strands_among (strand k t ts))
    ≡ once (nat_eq x k) + (times x (strands_of t) + times x (strands_among ts))
times-strand x k t ts =
    omega (arith, times-cons x k (strands_of t ++ strands_among ts), times-append x (strands_of t) (strands_among ts))

-- a head with its rests has the strands of the head
strands-seq_of : (t : Term) (ps : Procs) → strands_of (seq_of t ps) ≡ strands_of t
strands-seq_of t no_procs = refl
strands-seq_of t (proc p ps) = refl

-- one member more is drawn
drawn-member : (x k n m l : ℕ) (all inner others cnt : ℕ) → all ≡ once (nat_eq x k) + (inner + others)
    → inner + below n x ≤ below m x
    → others + below (suc k) x + below m x ≤ below (suc k + cnt) x + below l x
    → all + below k x + below n x ≤ below (k + suc cnt) x + below l x
drawn-member x k n m l all inner others cnt e h hs =
    let next : k + suc cnt ≡ suc k + cnt = omega arith in
    omega (arith, below-suc x k, ap (λ y. below y x) next)

mutual
  -- a form that starts draws its strands
  pub drawn-start : (x : ℕ) (p : Proc) (n : ℕ)
      → times x (strands_of (start p n).form) + below n x ≤ below (start p n).next x
  drawn-start x (block p) n = drawn-start x p n
  drawn-start x (sequence ps) n = drawn-start_head x ps n
  drawn-start x (parallel ps) n = omega (arith, drawn-start_members x ps n (n + count_of ps))
  drawn-start x (scope q p) n = drawn-start x p n
  drawn-start x p n = omega arith

  -- so does the head of a sequence
  drawn-start_head : (x : ℕ) (ps : Procs) (n : ℕ)
      → times x (strands_of (start_head ps n).form) + below n x ≤ below (start_head ps n).next x
  drawn-start_head x no_procs n = omega arith
  drawn-start_head x (proc p ps) n = omega (arith, ap (times x) (strands-seq_of (start p n).form ps), drawn-start x p n)

  -- members draw their own strands first
  drawn-start_members : (x : ℕ) (ps : Procs) (k n : ℕ)
      → times x (strands_among (start_members ps k n).form) + below k x + below n x
      ≤ below (k + count_of ps) x + below (start_members ps k n).next x
  drawn-start_members x no_procs k n = let same : k + 0 ≡ k = omega arith in omega (arith, ap (λ y. below y x) same)
  drawn-start_members x (proc p ps) k n =
      let b = start p n in
      let bs = start_members ps (suc k) b.next in
      drawn-member x k n b.next bs.next (times x (strands_among (strand k b.form bs.form)))
      (times x (strands_of b.form))
      (times x (strands_among bs.form)) (count_of ps) (times-strand x k b.form bs.form) (drawn-start x p n)
      (drawn-start_members x ps (suc k) b.next)

-- ---- normal form

-- a form in place of another that has more strands by those that were drawn
abbrev pub Draws : ℕ → Term → ℕ → Begun Term → Type 0
Draws x t n b = times x (strands_of b.form) + below n x ≤ times x (strands_of t) + below b.next x

-- the same of members
abbrev DrawsAll : ℕ → Strands → ℕ → Begun Strands → Type 0
DrawsAll x ts n b = times x (strands_among b.form) + below n x ≤ times x (strands_among ts) + below b.next x

-- and of rests that begin
abbrev DrawsRest : ℕ → Procs → ℕ → Begun Term → Type 0
DrawsRest x ps n b = times x (strands_of b.form) + below n x ≤ below b.next x

-- a parallel has the strands of its members, or none
strands-par_of : (x : ℕ) (ts : Strands) → times x (strands_of (par_of ts)) ≤ times x (strands_among ts)
strands-par_of x ts = go (all_done ts)
  where
    go : (b : Bool) → times x (strands_of (elim b [ true ↦ done | false ↦ par ts ])) ≤ times x (strands_among ts)
    go true = omega arith
    go false = le_refl (times x (strands_among ts))

-- what no fault ends has the same strands
strands-prot_of : (t : Term) → strands_of (prot_of t) ≡ strands_of t
strands-prot_of done = refl
strands-prot_of (prot t) = refl
strands-prot_of t = refl

-- a scope has those of its body
strands-scope_of : (q : ℕ) (t : Term) (h : Table) (u : State) → strands_of (scope_of q t h u) ≡ strands_of t
strands-scope_of q done h last = refl
strands-scope_of q done h zombie = refl
strands-scope_of q t h u = refl

-- one member in place of another, before others in place of others
draws-member : (x k : ℕ) (t t' : Term) (ts ts' : Strands) (n m l : ℕ)
    → times x (strands_of t') + below n x ≤ times x (strands_of t) + below m x
    → times x (strands_among ts') + below m x ≤ times x (strands_among ts) + below l x
    → times x (strands_among (strand k t' ts')) + below n x ≤ times x (strands_among (strand k t ts)) + below l x
draws-member x k t t' ts ts' n m l h hs = omega (arith, times-strand x k t' ts', times-strand x k t ts)

-- normal form draws what it adds
draws-settles : (x : ℕ) → Settles (Draws x) (DrawsAll x) (DrawsRest x)
draws-settles x = record {
  leaf = λ t n l. le_refl (times x (strands_of t) + below n x);
  goes = λ t ps n m b h r. omega (arith, h, r);
  stays = λ t t' ps n m d h. omega (arith, h, ap (times x) (strands-seq_of t' ps));
  members = λ ts n b h. omega (arith, h, strands-par_of x b.form);
  body = λ q t h u n b k. omega (arith, k, ap (times x) (strands-scope_of q b.form h u));
  asked = λ m o y t n b h. h;
  failed = λ m f t n b h. h;
  kept = λ t n b h. omega (arith, h, ap (times x) (strands-prot_of b.form));
  no_member = λ n. le_refl (times x [] + below n x);
  member = λ k t ts n b c h hs. draws-member x k t b.form ts c.form n b.next c.next h hs;
  no_rest = λ n. omega arith;
  rest_goes = λ p ps n m b h r. omega (arith, h, r, drawn-start x p n);
  rest_stays = λ p ps n m t d h. omega (arith, h, drawn-start x p n, ap (times x) (strands-seq_of t ps));
}

-- a form that begins draws its strands
pub drawn-begin : (x : ℕ) (p : Proc) (n : ℕ)
    → times x (strands_of (begin p n).form) + below n x ≤ below (begin p n).next x
drawn-begin x p n =
    omega (arith, drawn-start x p n, settles-begin (Draws x) (DrawsAll x) (DrawsRest x) (draws-settles x) p n)

-- so does a normal form
pub drawn-normal : (x : ℕ) (t : Term) (n : ℕ) → Draws x t n (normal t n)
drawn-normal x t n = settles-normal (Draws x) (DrawsAll x) (DrawsRest x) (draws-settles x) t n

-- ---- kill and throw

mutual
  -- a kill keeps the strands
  pub strands-kill : (f : Fault) (t : Term) → strands_of (kill f t) ≡ strands_of t
  strands-kill f (seq t rest) = strands-kill f t
  strands-kill f (par ts) = strands-kill_members f ts
  strands-kill f (in_scope q done h live) = refl
  strands-kill f (in_scope q t h live) = strands-kill f t
  strands-kill f (in_scope q t h (caught g)) = strands-kill f t
  strands-kill f (exec m o y t) = strands-kill f t
  strands-kill f t = refl

  -- those of members
  pub strands-kill_members : (f : Fault) (ts : Strands) → strands_among (kill_members f ts) ≡ strands_among ts
  strands-kill_members f no_strands = refl
  strands-kill_members f (strand n t ts) = rw (strands-kill f t, strands-kill_members f ts) refl

-- a form with these strands
abbrev pub HasStrands : List ℕ → Term → Type 0
HasStrands ns t = strands_of t ≡ ns

-- the same of members
abbrev HaveStrands : List ℕ → Strands → Type 0
HaveStrands ns ts = strands_among ts ≡ ns

-- at a live scope
strands-at_live : (ns : List ℕ) (p : Option Proc) (q : ℕ) (h : Table) (f : Fault) (t : Term) → strands_of t ≡ ns
    → Carries (HasStrands ns) (HasStrands ns) (at_live p q h f t)
strands-at_live ns None q h f t e = e
strands-at_live ns (Some p) q h f t e = e

-- at any scope
strands-at_scope : (ns : List ℕ) (q : ℕ) (h : Table) (u : State) (f : Fault) (t : Term) → strands_of t ≡ ns
    → Carries (HasStrands ns) (HasStrands ns) (at_scope q h u f t)
strands-at_scope ns q h live f t e = strands-at_live ns (entry f.name h.faults) q h f t e
strands-at_scope ns q h last f t e = e
strands-at_scope ns q h u f t e = tt

-- whichever member it is
strands-member : (n : ℕ) (f : Fault) (k : ℕ) (t : Term) (ts : Strands) (b : Bool)
    → Carries (HasStrands (strands_of t)) (HasStrands (strands_of t)) (throw n f k t)
    → Carries (HaveStrands (strands_among ts)) (HaveStrands (strands_among ts)) (throw_among n f ts)
    → Carries (HaveStrands (strands_among (strand k t ts))) (HaveStrands (strands_among (strand k t ts)))
    (elim b [
      | true ↦ surrounded (λ t'. strand k t' (kill_members f ts)) (λ t'. strand k t' ts) (throw n f k t)
      | false ↦ surrounded (strand k (kill f t)) (strand k t) (throw_among n f ts)
    ])
strands-member n f k t ts true here there =
    let now = HaveStrands (strands_among (strand k t ts)) in
    carries-surrounded (HasStrands (strands_of t)) (HasStrands (strands_of t)) now now
    (λ t'. strand k t' (kill_members f ts))
    (λ t'. strand k t' ts) (throw n f k t) (λ t' e. rw (e, strands-kill_members f ts) refl) (λ t' e. rw e refl) here
strands-member n f k t ts false here there =
    let now = HaveStrands (strands_among (strand k t ts)) in
    carries-surrounded (HaveStrands (strands_among ts)) (HaveStrands (strands_among ts)) now now (strand k (kill f t))
    (strand k t)
    (throw_among n f ts) (λ ts' e. rw (e, strands-kill f t) refl) (λ ts' e. rw e refl) there

mutual
  -- so does a throw
  pub strands-throw : (n : ℕ) (f : Fault) (k : ℕ) (t : Term)
      → Carries (HasStrands (strands_of t)) (HasStrands (strands_of t)) (throw n f k t)
  strands-throw n f k (place p) = carries-if (HasStrands []) (HasStrands []) (nat_eq n k) (up done) refl
  strands-throw n f k (thrown g) = carries-if (HasStrands []) (HasStrands []) (nat_eq n k) (up done) refl
  strands-throw n f k (seq t rest) =
      let now = HasStrands (strands_of t) in
      carries-surrounded now now now now (λ t'. t') (λ t'. seq t' rest) (throw n f k t) (λ t' e. e) (λ t' e. e)
      (strands-throw n f k t)
  strands-throw n f k (par ts) =
      let now = HaveStrands (strands_among ts) in
      carries-surrounded now now (HasStrands (strands_among ts)) (HasStrands (strands_among ts)) par par
      (throw_among n f ts)
      (λ ts' e. e) (λ ts' e. e) (strands-throw_among n f ts)
  strands-throw n f k (in_scope q t h u) =
      let now = HasStrands (strands_of t) in
      carries-reaches now now now now (ready q h k t) (at_scope q h u f) (λ t'. in_scope q t' h u) (throw n f k t)
      (λ t' e. strands-at_scope (strands_of t) q h u f t' e) (λ t' e. e) (strands-throw n f k t)
  strands-throw n f k (exec m o y t) =
      let now = HasStrands (strands_of t) in
      carries-surrounded now now now now (λ t'. prot (fail m f t')) (exec m o y) (throw n f k t) (λ t' e. e) (λ t' e. e)
      (strands-throw n f k t)
  strands-throw n f k (prot t) =
      let now = HasStrands (strands_of t) in
      carries-surrounded now now now now prot prot (throw n f k t) (λ t' e. e) (λ t' e. e) (strands-throw n f k t)
  strands-throw n f k t = tt

  -- so does one in members
  pub strands-throw_among : (n : ℕ) (f : Fault) (ts : Strands)
      → Carries (HaveStrands (strands_among ts)) (HaveStrands (strands_among ts)) (throw_among n f ts)
  strands-throw_among n f no_strands = tt
  strands-throw_among n f (strand k t ts) =
      strands-member n f k t ts (stands_in n k t) (strands-throw n f k t) (strands-throw_among n f ts)

-- ---- moves

-- a move adds the strands that it draws
abbrev pub MoveDraws : ℕ → Seen → ℕ → Term → Move Term → Type 0
MoveDraws x s k t m = times x (strands_of m.form) + below s.next x ≤ times x (strands_of t) + below m.made.next x

-- the same of members
abbrev pub MoveDrawsAll : ℕ → Seen → Strands → Move Strands → Type 0
MoveDrawsAll x s ts m =
    times x (strands_among m.form) + below s.next x ≤ times x (strands_among ts) + below m.made.next x

-- no strand, and none drawn
draws-none : (x n : ℕ) → times x [] + below n x ≤ times x [] + below n x
draws-none x n = le_refl (times x [] + below n x)

-- a behaviour that starts where no strand was
draws-starts : (x : ℕ) (p : Proc) (n : ℕ)
    → times x (strands_of (start p n).form) + below n x ≤ times x [] + below (start p n).next x
draws-starts x p n = omega (arith, drawn-start x p n)

-- a message that came
draws-goes_on : (x : ℕ) (s : Seen) (m : Coming) (p : Proc) (e : Effect)
    → times x (strands_of (goes_on s m p e).form) + below s.next x ≤ times x [] + below (goes_on s m p e).made.next x
draws-goes_on x s m p (faults f) = draws-none x s.next
draws-goes_on x s m p (stores y) = draws-starts x p s.next

-- a message that comes to branches
draws-comes : (x : ℕ) (s : Seen) (m : Coming) (p : Proc) (bs : Branches)
    → OnValue (MoveDraws x s 0 (place p)) (comes s m bs)
draws-comes x s m p no_branches = tt
draws-comes x s m p (one_way o y r bs) =
    OnValue-if (nat_eq o m.op) (MoveDraws x s 0 (place p)) (Some (goes_on s m r (received s.store y m.value)))
    (comes s (past m) bs)
    (draws-goes_on x s m r (received s.store y m.value)) (draws-comes x s (past m) p bs)
draws-comes x s m p (request o y z body r bs) =
    OnValue-if (nat_eq o m.op) (MoveDraws x s 0 (place p))
    (Some (within (asked m z r) (goes_on s m body (received s.store y m.value)))) (comes s (past m) bs)
    (draws-goes_on x s m body (received s.store y m.value)) (draws-comes x s (past m) p bs)

-- every move adds the strands that it draws
pub draws-keeps : (x : ℕ) → Keeps (MoveDraws x) (MoveDrawsAll x)
draws-keeps x = record {
  store = λ s k p y w a. draws-none x s.next;
  first = λ s k e p q a. draws-starts x p s.next;
  second = λ s k e p q a. draws-starts x q s.next;
  turn = λ s k e p a. draws-starts x (turn_of e p) s.next;
  leave = λ s k e p a. draws-starts x nothing s.next;
  installed = λ s k list a. draws-none x s.next;
  compensated = λ s k r a. draws-starts x (or_nothing (entry r s.table.scopes)) s.next;
  came = λ s k bs m o v own e. draws-comes x s (coming m o v bs) (choice bs) bs;
  notified = λ s k port op e v a eq. draws-none x s.next;
  solicited = λ s k port op e y list v a eq. draws-none x s.next;
  bound = λ s k v e r own eq. draws-none x s.next;
  unbound = λ s k v e r own eq. draws-none x s.next;
  answer_faults = λ s k n port op y list f own. draws-none x s.next;
  answer_overflows = λ s k n port op y list f own fit. draws-none x s.next;
  answer_sets = λ s k n port op y list z own fit. draws-none x s.next;
  dead_installs = λ s k n port op list own fit. draws-none x s.next;
  dead_ends = λ s k n port op list own. draws-none x s.next;
  ended = λ s k q h a. draws-none x s.next;
  handled = λ s k q h f a. draws-starts x (or_nothing (entry f.name h.faults)) s.next;
  terminated = λ s k q h a. draws-starts x (or_nothing (entry q h.scopes)) s.next;
  replied = λ s k m o y a. draws-none x s.next;
  told = λ s k m f t a. le_refl (times x (strands_of t) + below s.next x);
  in_head = λ s k t rest m h. h;
  in_members = λ s k ts m h. h;
  in_body = λ s k q t h u m n r. r;
  in_request = λ s k n o y t m d h. h;
  in_prot = λ s k t m h. h;
  in_member = λ s k t ts m e h.
      draws-member x k t m.form ts ts s.next m.made.next m.made.next h
      (le_refl (times x (strands_among ts) + below m.made.next x));
  in_others = λ s k t ts m e h.
      draws-member x k t t ts m.form s.next s.next m.made.next (le_refl (times x (strands_of t) + below s.next x)) h;
}

-- ---- an event

-- an event adds the strands that it draws
abbrev pub DrawsAfter : ℕ → Config → Done → Type 0
DrawsAfter x c d =
    times x (strands_of d.config.form) + below c.next x ≤ times x (strands_of c.form) + below d.config.next x

-- a fault that was carried
draws-settled : (x : ℕ) (t t' : Term) (n : ℕ) → strands_of t' ≡ strands_of t → Draws x t n (normal t' n)
draws-settled x t t' n e = omega (arith, drawn-normal x t' n, ap (times x) e)

-- where it came to
draws-raised : (x : ℕ) (c : Config) (n f : ℕ) (y : Carried Term)
    → Carries (HasStrands (strands_of c.form)) (HasStrands (strands_of c.form)) y
    → OnValue (DrawsAfter x c) (raised c n f y)
draws-raised x c n f (up t) e = draws-settled x c.form t c.next e
draws-raised x c n f (caught_at t q) e = draws-settled x c.form t c.next e
draws-raised x c n f (ended_at t q) e = draws-settled x c.form t c.next e
draws-raised x c n f (blocked m) e = tt
draws-raised x c n f absent e = tt

-- the last event draws nothing
draws-finishes : (x : ℕ) (c : Config) (n : ℕ) (g : Given) → OnValue (DrawsAfter x c) (finishes c n g)
draws-finishes x c zero given.Nothing = le_refl (times x (strands_of c.form) + below c.next x)
draws-finishes x c n g = tt

-- a move and its normal form
draws-moved : (x : ℕ) (c : Config) (m : Move Term)
    → times x (strands_of m.form) + below c.next x ≤ times x (strands_of c.form) + below m.made.next x
    → DrawsAfter x c (moved c m)
draws-moved x c m h = omega (arith, drawn-normal x m.form m.made.next)

-- an event adds the strands that it draws
pub draws-after : (x : ℕ) (parts : ProgramParts) (service : ℕ) (c : Config) (n : ℕ) (g : Given) (d : Done)
    → after parts service c n g ≡ Some d → DrawsAfter x c d
draws-after x parts service c n g =
    let s = seen_by parts service c n g in
    of_event (DrawsAfter x c) parts service c n g (λ ended finished. draws-finishes x c n g)
    (λ f going e there. draws-raised x c n f.name (throw n f 0 c.form) (strands-throw n f 0 c.form))
    (λ going none. OnValue-imp (MoveDraws x s 0 c.form) (λ m. DrawsAfter x c (moved c m)) (moves s 0 c.form)
    (draws-moved x c)
    (keeps-moves (MoveDraws x) (MoveDrawsAll x) (draws-keeps x) s 0 c.form))

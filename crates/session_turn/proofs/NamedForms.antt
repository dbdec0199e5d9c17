-- In every configuration of a run, all that its forms and handlers name is there.
use Rattle.std.proofs.Common.{◌≡◌, ℕ, zero, suc, ◌+◌, Bool, true, false, List, [], ◌∷◌, Option, None, Some, if◌then◌else◌, nat_eq, nat_lt, subst}
use Rattle.behaviour_tree.specs.declared.words.Need.{Need}
use Rattle.behaviour_tree.specs.declared.words.Need.TheVariants as need
use Rattle.behaviour_tree.specs.declared.words.Given.{Given}
use Rattle.behaviour_tree.specs.declared.words.Given.TheVariants as given
use Rattle.behaviour_tree.specs.Data.{Proc, nothing, inner_handler, block, sequence, parallel, scope, Procs, no_procs, proc, Branches, no_branches, one_way, request, ProgramParts}
use Rattle.behaviour_tree.specs.FormedBehaviours.{Reach, count_of}
use Rattle.session_calculus.specs.Tables.{Table, entry, or_nothing}
use Rattle.session_calculus.specs.Terms.{Fault, Term, Strands, done, place, thrown, seq, par, in_scope, exec, fail, wait, dead_wait, prot, no_strands, strand, State, live, caught, last, zombie, seq_of, all_done, par_of, prot_of, scope_of, stands_in}
use Rattle.session_calculus.specs.Start.{Begun, start, start_head, start_members, begin, normal}
use Rattle.session_calculus.specs.Kill.{kill, kill_members}
use Rattle.session_calculus.specs.Ready.{ready}
use Rattle.session_calculus.specs.Throw.{Carried, up, caught_at, ended_at, blocked, absent, surrounded, at_live, at_scope, throw, throw_among}
use Rattle.session_calculus.specs.Moves.{Seen, Move, within}
use Rattle.session_calculus.specs.Effects.{Effect, faults, stores, received}
use Rattle.session_calculus.specs.Inputs.{Coming, past, goes_on, asked, comes}
use Rattle.session_calculus.specs.After.{Config, Done, first_config, turn_of, moved, moves, raised, finishes, seen_by, after}
use Rattle.session_calculus.specs.Runs.{TakenStep, Leads}
use Rattle.session_laws.proofs.Options.{OnValue, OnValue-if, OnValue-imp, OnValue-under}
use Rattle.session_laws.proofs.Moving.{coming, Keeps, keeps-moves}
use Rattle.session_laws.proofs.Carrying.{Carries, carries-if, carries-surrounded, carries-reaches}
use Rattle.session_laws.proofs.Settling.{Settles, settles-begin, settles-normal}
use Rattle.session_laws.proofs.Events.{of_event}
use Rattle.session_turn.proofs.Naming.{AllNameWell, BranchesNameWell, HandlersNameWell, NamesWell, TableNames, names-entry, names-over, names-plus, names-without}

abbrev mutual
  -- what a form names is there
  pub FormNames : Reach → Term → Type 0
  FormNames r (place p) = NamesWell r p
  FormNames r (seq t rest) = FormNames r t × AllNameWell r rest
  FormNames r (par ts) = MembersName r ts
  FormNames r (in_scope q t h u) = FormNames r t × TableNames r h
  FormNames r (exec m o y t) = FormNames r t
  FormNames r (fail m f t) = FormNames r t
  FormNames r (wait k port op x list) = HandlersNameWell r list
  FormNames r (dead_wait k port op list) = HandlersNameWell r list
  FormNames r (prot t) = FormNames r t
  FormNames r t = Unit {0}

  -- the same of members
  pub MembersName : Reach → Strands → Type 0
  MembersName r no_strands = Unit {0}
  MembersName r (strand k t ts) = FormNames r t × MembersName r ts

-- ---- what begins, and normal form

-- a head with its rests
names-seq_of : (r : Reach) (t : Term) (ps : Procs) → FormNames r t → AllNameWell r ps → FormNames r (seq_of t ps)
names-seq_of r t no_procs h k = h
names-seq_of r t (proc p ps) h k = (h, k)

-- a parallel, or nothing
names-par_of : (r : Reach) (ts : Strands) → MembersName r ts → FormNames r (par_of ts)
names-par_of r ts h = go (all_done ts)
  where
    go : (b : Bool) → FormNames r (elim b [ true ↦ done | false ↦ par ts ])
    go true = tt
    go false = h

-- what no fault ends
names-prot_of : (r : Reach) (t : Term) → FormNames r t → FormNames r (prot_of t)
names-prot_of r done h = h
names-prot_of r (prot t) h = h
names-prot_of r t h = h

-- a scope, or nothing where it is through
names-scope_of : (r : Reach) (q : ℕ) (t : Term) (h : Table) (u : State) → FormNames r t → TableNames r h
    → FormNames r (scope_of q t h u)
names-scope_of r q done h last n k = tt
names-scope_of r q done h zombie n k = tt
names-scope_of r q t h u n k = (n, k)

mutual
  -- a form that starts
  names-start : (r : Reach) (p : Proc) (n : ℕ) → NamesWell r p → FormNames r (start p n).form
  names-start r nothing n h = tt
  names-start r inner_handler n h = tt
  names-start r (block p) n h = names-start r p n h
  names-start r (sequence ps) n h = names-start_head r ps n h
  names-start r (parallel ps) n h = names-start_members r ps n (n + count_of ps) h
  names-start r (scope q p) n h = (names-start r p n h, (tt, tt))
  names-start r p n h = h

  -- the head of a sequence
  names-start_head : (r : Reach) (ps : Procs) (n : ℕ) → AllNameWell r ps → FormNames r (start_head ps n).form
  names-start_head r no_procs n h = tt
  names-start_head r (proc p ps) n h = names-seq_of r (start p n).form ps (names-start r p n h.0) h.1

  -- members
  names-start_members : (r : Reach) (ps : Procs) (k n : ℕ) → AllNameWell r ps
      → MembersName r (start_members ps k n).form
  names-start_members r no_procs k n h = tt
  names-start_members r (proc p ps) k n h =
      (names-start r p n h.0, names-start_members r ps (suc k) (start p n).next h.1)

-- a form, members and rests in normal form, of such as name what is there
abbrev NormalNames : Reach → Term → ℕ → Begun Term → Type 0
NormalNames r t n b = FormNames r t → FormNames r b.form

abbrev NormalMembersName : Reach → Strands → ℕ → Begun Strands → Type 0
NormalMembersName r ts n b = MembersName r ts → MembersName r b.form

abbrev NormalRestsName : Reach → Procs → ℕ → Begun Term → Type 0
NormalRestsName r ps n b = AllNameWell r ps → FormNames r b.form

names-settles : (r : Reach) → Settles (NormalNames r) (NormalMembersName r) (NormalRestsName r)
names-settles r = record {
  leaf = λ t n l h. h;
  goes = λ t ps n m b h k f. k f.1;
  stays = λ t t' ps n m d h f. names-seq_of r t' ps (h f.0) f.1;
  members = λ ts n b h f. names-par_of r b.form (h f);
  body = λ q t h u n b k f. names-scope_of r q b.form h u (k f.0) f.1;
  asked = λ m o y t n b h f. h f;
  failed = λ m x t n b h f. h f;
  kept = λ t n b h f. names-prot_of r b.form (h f);
  no_member = λ n f. tt;
  member = λ k t ts n b c h hs f. (h f.0, hs f.1);
  no_rest = λ n f. tt;
  rest_goes = λ p ps n m b h k f. k f.1;
  rest_stays = λ p ps n m t d h f. names-seq_of r t ps (h (names-start r p n f.0)) f.1;
}

-- a form that begins
names-begin : (r : Reach) (p : Proc) (n : ℕ) → NamesWell r p → FormNames r (begin p n).form
names-begin r p n h =
    settles-begin (NormalNames r) (NormalMembersName r) (NormalRestsName r) (names-settles r) p n (names-start r p n h)

-- a normal form
names-normal : (r : Reach) (t : Term) (n : ℕ) → FormNames r t → FormNames r (normal t n).form
names-normal r t n h =
    settles-normal (NormalNames r) (NormalMembersName r) (NormalRestsName r) (names-settles r) t n h

-- ---- kill and throw

mutual
  -- what a kill leaves
  names-kill : (r : Reach) (f : Fault) (t : Term) → FormNames r t → FormNames r (kill f t)
  names-kill r f (seq t rest) h = names-kill r f t h.0
  names-kill r f (par ts) h = names-kill_members r f ts h
  names-kill r f (in_scope q done x live) h = h
  names-kill r f (in_scope q t x live) h = (names-kill r f t h.0, h.1)
  names-kill r f (in_scope q t x (caught g)) h = (names-kill r f t h.0, h.1)
  names-kill r f (exec m o y t) h = names-kill r f t h
  names-kill r f (place p) h = tt
  names-kill r f (thrown g) h = tt
  names-kill r f done h = tt
  names-kill r f t h = h

  -- the same of members
  names-kill_members : (r : Reach) (f : Fault) (ts : Strands) → MembersName r ts → MembersName r (kill_members f ts)
  names-kill_members r f no_strands h = tt
  names-kill_members r f (strand n t ts) h = (names-kill r f t h.0, names-kill_members r f ts h.1)

-- at a live scope
names-at_live : (r : Reach) (p : Option Proc) (q : ℕ) (x : Table) (f : Fault) (t : Term) → FormNames r t → TableNames r x
    → Carries (FormNames r) (FormNames r) (at_live p q x f t)
names-at_live r None q x f t h k = (h, k)
names-at_live r (Some p) q x f t h k = (h, k)

-- at any scope
names-at_scope : (r : Reach) (q : ℕ) (x : Table) (u : State) (f : Fault) (t : Term) → FormNames r t → TableNames r x
    → Carries (FormNames r) (FormNames r) (at_scope q x u f t)
names-at_scope r q x live f t h k = names-at_live r (entry f.name x.faults) q x f t h k
names-at_scope r q x last f t h k = (h, k)
names-at_scope r q x u f t h k = tt

-- whichever member it is
names-member : (r : Reach) (n : ℕ) (f : Fault) (k : ℕ) (t : Term) (ts : Strands) (b : Bool) → FormNames r t
    → MembersName r ts
    → Carries (FormNames r) (FormNames r) (throw n f k t) → Carries (MembersName r) (MembersName r) (throw_among n f ts)
    → Carries (MembersName r) (MembersName r)
    (elim b [
      | true ↦ surrounded (λ t'. strand k t' (kill_members f ts)) (λ t'. strand k t' ts) (throw n f k t)
      | false ↦ surrounded (strand k (kill f t)) (strand k t) (throw_among n f ts)
    ])
names-member r n f k t ts true h hs here there =
    carries-surrounded (FormNames r) (FormNames r) (MembersName r) (MembersName r)
    (λ t'. strand k t' (kill_members f ts)) (λ t'. strand k t' ts) (throw n f k t)
    (λ t' e. (e, names-kill_members r f ts hs)) (λ t' e. (e, hs)) here
names-member r n f k t ts false h hs here there =
    carries-surrounded (MembersName r) (MembersName r) (MembersName r) (MembersName r) (strand k (kill f t))
    (strand k t) (throw_among n f ts) (λ ts' e. (names-kill r f t h, e)) (λ ts' e. (h, e)) there

mutual
  -- what a throw leaves
  names-throw : (r : Reach) (n : ℕ) (f : Fault) (k : ℕ) (t : Term) → FormNames r t
      → Carries (FormNames r) (FormNames r) (throw n f k t)
  names-throw r n f k (place p) h = carries-if (FormNames r) (FormNames r) (nat_eq n k) (up done) tt
  names-throw r n f k (thrown g) h = carries-if (FormNames r) (FormNames r) (nat_eq n k) (up done) tt
  names-throw r n f k (seq t rest) h =
      carries-surrounded (FormNames r) (FormNames r) (FormNames r) (FormNames r) (λ t'. t') (λ t'. seq t' rest)
      (throw n f k t) (λ t' e. e) (λ t' e. (e, h.1)) (names-throw r n f k t h.0)
  names-throw r n f k (par ts) h =
      carries-surrounded (MembersName r) (MembersName r) (FormNames r) (FormNames r) par par (throw_among n f ts)
      (λ ts' e. e) (λ ts' e. e) (names-throw_among r n f ts h)
  names-throw r n f k (in_scope q t x u) h =
      carries-reaches (FormNames r) (FormNames r) (FormNames r) (FormNames r) (ready q x k t) (at_scope q x u f)
      (λ t'. in_scope q t' x u) (throw n f k t) (λ t' e. names-at_scope r q x u f t' e h.1) (λ t' e. (e, h.1))
      (names-throw r n f k t h.0)
  names-throw r n f k (exec m o y t) h =
      carries-surrounded (FormNames r) (FormNames r) (FormNames r) (FormNames r) (λ t'. prot (fail m f t')) (exec m o y)
      (throw n f k t) (λ t' e. e) (λ t' e. e) (names-throw r n f k t h)
  names-throw r n f k (prot t) h =
      carries-surrounded (FormNames r) (FormNames r) (FormNames r) (FormNames r) prot prot (throw n f k t) (λ t' e. e)
      (λ t' e. e) (names-throw r n f k t h)
  names-throw r n f k t h = tt

  -- the same in members
  names-throw_among : (r : Reach) (n : ℕ) (f : Fault) (ts : Strands) → MembersName r ts
      → Carries (MembersName r) (MembersName r) (throw_among n f ts)
  names-throw_among r n f no_strands h = tt
  names-throw_among r n f (strand k t ts) h =
      names-member r n f k t ts (stands_in n k t) h.0 h.1 (names-throw r n f k t h.0) (names-throw_among r n f ts h.1)

-- ---- moves

-- a variable that is asked to be bound is there
abbrev pub AskedName : Reach → Need → Type 0
AskedName r (need.Bind v x) = nat_lt v r.variables ≡ true
AskedName r n = Unit {0}

-- what a move names is there
abbrev MadeNames : Reach → Move Term → Type 0
MadeNames r m = FormNames r m.form × TableNames r m.made.table × AskedName r m.made.need

-- where what it moved named what was there
abbrev MoveNames : Reach → Seen → ℕ → Term → Move Term → Type 0
MoveNames r s k t m = TableNames r s.table → FormNames r t → MadeNames r m

-- the same of members
abbrev MoveMembersName : Reach → Seen → Strands → Move Strands → Type 0
MoveMembersName r s ts m =
    TableNames r s.table → MembersName r ts
    → MembersName r m.form × TableNames r m.made.table × AskedName r m.made.need

-- a message that came
names-goes_on : (r : Reach) (s : Seen) (c : Coming) (p : Proc) (e : Effect) → TableNames r s.table → NamesWell r p
    → MadeNames r (goes_on s c p e)
names-goes_on r s c p (faults f) h n = (tt, h, tt)
names-goes_on r s c p (stores x) h n = (names-start r p s.next n, h, tt)

-- a message that comes to branches
names-comes : (r : Reach) (s : Seen) (c : Coming) (bs : Branches) → TableNames r s.table → BranchesNameWell r bs
    → OnValue (MadeNames r) (comes s c bs)
names-comes r s c no_branches h n = tt
names-comes r s c (one_way o x p bs) h n =
    OnValue-if (nat_eq o c.op) (MadeNames r) (Some (goes_on s c p (received s.store x c.value))) (comes s (past c) bs)
    (names-goes_on r s c p (received s.store x c.value) h n.0) (names-comes r s (past c) bs h n.1)
names-comes r s c (request o x y body p bs) h n =
    let it = names-goes_on r s c body (received s.store x c.value) h n.1 in
    OnValue-if (nat_eq o c.op) (MadeNames r)
    (Some (within (asked c y p) (goes_on s c body (received s.store x c.value)))) (comes s (past c) bs)
    ((it.0, (n.2, tt)), it.1, it.2) (names-comes r s (past c) bs h n.3)

names-keeps : (r : Reach) → Keeps (MoveNames r) (MoveMembersName r)
names-keeps r = record {
  store = λ s k p x w a h f. (tt, h, tt);
  first = λ s k e p q a h f. (names-start r p s.next f.0, h, tt);
  second = λ s k e p q a h f. (names-start r q s.next f.1, h, tt);
  turn = λ s k e p a h f. (names-start r (turn_of e p) s.next (f, (f, tt)), h, tt);
  leave = λ s k e p a h f. (tt, h, tt);
  installed = λ s k list a h f. (tt, names-plus r s.scope s.table list h f, tt);
  compensated = λ s k q a h f. (
    names-start r (or_nothing (entry q s.table.scopes)) s.next (names-entry r q s.table.scopes h.1),
    (h.0, names-without r q s.table.scopes h.1),
    tt,
  );
  came = λ s k bs m o v own e.
      OnValue-under (TableNames r s.table) (BranchesNameWell r bs) (MadeNames r) (comes s (coming m o v bs) bs)
      (names-comes r s (coming m o v bs) bs);
  notified = λ s k port op e v a eq h f. (tt, h, tt);
  solicited = λ s k port op e x list v a eq h f. (f, h, tt);
  bound = λ s k v e x own eq h f. (tt, h, f);
  unbound = λ s k v e x own eq h f. (tt, h, f);
  answer_faults = λ s k n port op x list g own h f. (tt, h, tt);
  answer_overflows = λ s k n port op x list g own fit h f. (tt, names-plus r s.scope s.table list h f, tt);
  answer_sets = λ s k n port op x list y own fit h f. (tt, names-plus r s.scope s.table list h f, tt);
  dead_installs = λ s k n port op list own fit h f. (tt, names-plus r s.scope s.table list h f, tt);
  dead_ends = λ s k n port op list own h f. (tt, h, tt);
  ended = λ s k q x a h f. (tt, (h.0, names-over r x.scopes s.table.scopes f.1.1 h.1), tt);
  handled = λ s k q x g a h f. (
    (
      names-start r (or_nothing (entry g.name x.faults)) s.next (names-entry r g.name x.faults f.1.0),
      (names-without r g.name x.faults f.1.0, f.1.1),
    ),
    h,
    tt,
  );
  terminated = λ s k q x a h f. (
    (
      names-start r (or_nothing (entry q x.scopes)) s.next (names-entry r q x.scopes f.1.1),
      (f.1.0, names-without r q x.scopes f.1.1),
    ),
    h,
    tt,
  );
  replied = λ s k m o y a h f. (tt, h, tt);
  told = λ s k m g t a h f. (f, h, tt);
  in_head = λ s k t rest m x h f. let y = x h f.0 in ((y.0, f.1), y.1, y.2);
  in_members = λ s k ts m x h f. x h f;
  in_body = λ s k q t y u m d x h f. let z = x f.1 f.0 in ((z.0, z.1), h, z.2);
  in_request = λ s k n o y t m d x h f. x h f;
  in_prot = λ s k t m x h f. x h f;
  in_member = λ s k t ts m e x h f. let y = x h f.0 in ((y.0, f.1), y.1, y.2);
  in_others = λ s k t ts m e x h f. let y = x h f.1 in ((f.0, y.0), y.1, y.2);
}

-- ---- an event

-- what is left by an event and what it asks names what is there
abbrev pub EventNames : Reach → Done → Type 0
EventNames r d = FormNames r d.config.form × AskedName r d.need

-- where a fault came to
names-raised : (r : Reach) (c : Config) (n f : ℕ) (x : Carried Term) → Carries (FormNames r) (FormNames r) x
    → OnValue (EventNames r) (raised c n f x)
names-raised r c n f (up t) h = (names-normal r t c.next h, tt)
names-raised r c n f (caught_at t q) h = (names-normal r t c.next h, tt)
names-raised r c n f (ended_at t q) h = (names-normal r t c.next h, tt)
names-raised r c n f (blocked m) h = tt
names-raised r c n f absent h = tt

-- the last event
names-finishes : (r : Reach) (c : Config) (n : ℕ) (g : Given) → FormNames r c.form
    → OnValue (EventNames r) (finishes c n g)
names-finishes r c zero given.Nothing h = (h, tt)
names-finishes r c n g h = tt

-- a move and its normal form
names-moved : (r : Reach) (c : Config) (m : Move Term) → MadeNames r m → EventNames r (moved c m)
names-moved r c m h = (names-normal r m.form m.made.next h.0, h.2)

-- what an event leaves and asks names what is there
pub names-after : (r : Reach) (parts : ProgramParts) (service : ℕ) (c : Config) (n : ℕ) (g : Given) (d : Done)
    → FormNames r c.form → after parts service c n g ≡ Some d → EventNames r d
names-after r parts service c n g d h =
    let s = seen_by parts service c n g in
    of_event (EventNames r) parts service c n g (λ ended finished. names-finishes r c n g h)
    (λ f going e there. names-raised r c n f.name (throw n f 0 c.form) (names-throw r n f 0 c.form h))
    (λ going none. OnValue-imp (MoveNames r s 0 c.form) (λ m. EventNames r (moved c m)) (moves s 0 c.form)
    (λ m k. names-moved r c m (k (tt, tt) h))
    (keeps-moves (MoveNames r) (MoveMembersName r) (names-keeps r) s 0 c.form)) d

-- ---- a run

-- where a session begins
pub names-first : (r : Reach) (p : Proc) → NamesWell r p → FormNames r (first_config p).form
names-first r p h = (names-begin r p 1 h, (tt, tt))

-- and after some steps
pub names-leads : (r : Reach) (parts : ProgramParts) (service : ℕ) (from : Config) (xs : List TakenStep) (here : Config)
    → FormNames r from.form → Leads parts service from xs here → FormNames r here.form
names-leads r parts service from [] here h l = subst (λ (c : Config). FormNames r c.form) l h
names-leads r parts service from (x ∷ xs) here h l =
    names-leads r parts service l.0.config xs here
    (names-after r parts service from x.event.strand x.gift l.0 h l.1).0 l.3

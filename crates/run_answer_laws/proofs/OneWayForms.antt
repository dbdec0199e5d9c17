-- In every configuration of a run each one-way takes an operation that has no answer.
use Rattle.std.proofs.Common.{◌≡◌, ℕ, zero, suc, ◌+◌, Bool, true, false, List, [], ◌∷◌, Option, None, Some, nat_eq, subst}
use Rattle.behaviour_tree.specs.declared.words.Given.{Given}
use Rattle.behaviour_tree.specs.declared.words.Given.TheVariants as given
use Rattle.behaviour_tree.specs.Data.{Proc, nothing, inner_handler, block, sequence, parallel, scope, Procs, no_procs, proc, Branches, no_branches, one_way, request, ProgramParts}
use Rattle.behaviour_tree.specs.FormedBehaviours.{Reach, count_of}
use Rattle.session_calculus.specs.Tables.{Table, entry, or_nothing}
use Rattle.session_calculus.specs.Terms.{Fault, Term, Strands, done, place, thrown, seq, par, in_scope, exec, fail, wait, dead_wait, prot, no_strands, strand, State, live, caught, last, zombie, seq_of, all_done, par_of, prot_of, scope_of, stands_in}
use Rattle.session_calculus.specs.Start.{Begun, start, start_head, start_members, begin, normal}
use Rattle.session_calculus.specs.Kill.{kill, kill_members}
use Rattle.session_calculus.specs.Ready.{ready}
use Rattle.session_calculus.specs.Throw.{Carried, up, caught_at, ended_at, blocked, absent, surrounded, at_live, at_scope, throw, throw_among}
use Rattle.session_calculus.specs.Moves.{Seen, Move, within}
use Rattle.session_calculus.specs.Effects.{Effect, faults, stores, received}
use Rattle.session_calculus.specs.Inputs.{Coming, past, goes_on, asked, comes}
use Rattle.session_calculus.specs.After.{Config, Done, first_config, turn_of, moved, moves, raised, finishes, seen_by, after}
use Rattle.session_calculus.specs.Runs.{TakenStep, Leads}
use Rattle.session_laws.proofs.Options.{OnValue, OnValue-if, OnValue-imp, OnValue-under}
use Rattle.session_laws.proofs.Moving.{coming, Keeps, keeps-moves}
use Rattle.session_laws.proofs.Carrying.{Carries, carries-if, carries-surrounded, carries-reaches}
use Rattle.session_laws.proofs.Settling.{Settles, settles-begin, settles-normal}
use Rattle.session_laws.proofs.Events.{of_event}
use Rattle.run_answer_laws.proofs.OneWays.{AllFit, BranchesFit, HandlersFit, OneWaysFit, TableFits, fits-entry, fits-over, fits-plus, fits-without}

abbrev mutual
  -- each one-way of a form does
  pub FormFits : Reach → Term → Type 0
  FormFits r (place p) = OneWaysFit r p
  FormFits r (seq t rest) = FormFits r t × AllFit r rest
  FormFits r (par ts) = MembersFit r ts
  FormFits r (in_scope q t h u) = FormFits r t × TableFits r h
  FormFits r (exec m o y t) = FormFits r t
  FormFits r (fail m f t) = FormFits r t
  FormFits r (wait k port op x list) = HandlersFit r list
  FormFits r (dead_wait k port op list) = HandlersFit r list
  FormFits r (prot t) = FormFits r t
  FormFits r t = Unit {0}

  -- the same of members
  pub MembersFit : Reach → Strands → Type 0
  MembersFit r no_strands = Unit {0}
  MembersFit r (strand k t ts) = FormFits r t × MembersFit r ts

-- ---- what begins, and normal form

-- a head with its rests
fits-seq_of : (r : Reach) (t : Term) (ps : Procs) → FormFits r t → AllFit r ps → FormFits r (seq_of t ps)
fits-seq_of r t no_procs h k = h
fits-seq_of r t (proc p ps) h k = (h, k)

-- a parallel, or nothing
fits-par_of : (r : Reach) (ts : Strands) → MembersFit r ts → FormFits r (par_of ts)
fits-par_of r ts h = go (all_done ts)
  where
    go : (b : Bool) → FormFits r (elim b [ true ↦ done | false ↦ par ts ])
    go true = tt
    go false = h

-- what no fault ends
fits-prot_of : (r : Reach) (t : Term) → FormFits r t → FormFits r (prot_of t)
fits-prot_of r done h = h
fits-prot_of r (prot t) h = h
fits-prot_of r t h = h

-- a scope, or nothing where it is through
fits-scope_of : (r : Reach) (q : ℕ) (t : Term) (h : Table) (u : State) → FormFits r t → TableFits r h
    → FormFits r (scope_of q t h u)
fits-scope_of r q done h last n k = tt
fits-scope_of r q done h zombie n k = tt
fits-scope_of r q t h u n k = (n, k)

mutual
  -- a form that starts
  fits-start : (r : Reach) (p : Proc) (n : ℕ) → OneWaysFit r p → FormFits r (start p n).form
  fits-start r nothing n h = tt
  fits-start r inner_handler n h = tt
  fits-start r (block p) n h = fits-start r p n h
  fits-start r (sequence ps) n h = fits-start_head r ps n h
  fits-start r (parallel ps) n h = fits-start_members r ps n (n + count_of ps) h
  fits-start r (scope q p) n h = (fits-start r p n h, (tt, tt))
  fits-start r p n h = h

  -- the head of a sequence
  fits-start_head : (r : Reach) (ps : Procs) (n : ℕ) → AllFit r ps → FormFits r (start_head ps n).form
  fits-start_head r no_procs n h = tt
  fits-start_head r (proc p ps) n h = fits-seq_of r (start p n).form ps (fits-start r p n h.0) h.1

  -- members
  fits-start_members : (r : Reach) (ps : Procs) (k n : ℕ) → AllFit r ps
      → MembersFit r (start_members ps k n).form
  fits-start_members r no_procs k n h = tt
  fits-start_members r (proc p ps) k n h =
      (fits-start r p n h.0, fits-start_members r ps (suc k) (start p n).next h.1)

-- a form, members and rests in normal form, of such as do
abbrev NormalFits : Reach → Term → ℕ → Begun Term → Type 0
NormalFits r t n b = FormFits r t → FormFits r b.form

abbrev NormalMembersFit : Reach → Strands → ℕ → Begun Strands → Type 0
NormalMembersFit r ts n b = MembersFit r ts → MembersFit r b.form

abbrev NormalRestsFit : Reach → Procs → ℕ → Begun Term → Type 0
NormalRestsFit r ps n b = AllFit r ps → FormFits r b.form

fits-settles : (r : Reach) → Settles (NormalFits r) (NormalMembersFit r) (NormalRestsFit r)
fits-settles r = record {
  leaf = λ t n l h. h;
  goes = λ t ps n m b h k f. k f.1;
  stays = λ t t' ps n m d h f. fits-seq_of r t' ps (h f.0) f.1;
  members = λ ts n b h f. fits-par_of r b.form (h f);
  body = λ q t h u n b k f. fits-scope_of r q b.form h u (k f.0) f.1;
  asked = λ m o y t n b h f. h f;
  failed = λ m x t n b h f. h f;
  kept = λ t n b h f. fits-prot_of r b.form (h f);
  no_member = λ n f. tt;
  member = λ k t ts n b c h hs f. (h f.0, hs f.1);
  no_rest = λ n f. tt;
  rest_goes = λ p ps n m b h k f. k f.1;
  rest_stays = λ p ps n m t d h f. fits-seq_of r t ps (h (fits-start r p n f.0)) f.1;
}

-- a form that begins
fits-begin : (r : Reach) (p : Proc) (n : ℕ) → OneWaysFit r p → FormFits r (begin p n).form
fits-begin r p n h =
    settles-begin (NormalFits r) (NormalMembersFit r) (NormalRestsFit r) (fits-settles r) p n (fits-start r p n h)

-- a normal form
fits-normal : (r : Reach) (t : Term) (n : ℕ) → FormFits r t → FormFits r (normal t n).form
fits-normal r t n h =
    settles-normal (NormalFits r) (NormalMembersFit r) (NormalRestsFit r) (fits-settles r) t n h

-- ---- kill and throw

mutual
  -- what a kill leaves
  fits-kill : (r : Reach) (f : Fault) (t : Term) → FormFits r t → FormFits r (kill f t)
  fits-kill r f (seq t rest) h = fits-kill r f t h.0
  fits-kill r f (par ts) h = fits-kill_members r f ts h
  fits-kill r f (in_scope q done x live) h = h
  fits-kill r f (in_scope q t x live) h = (fits-kill r f t h.0, h.1)
  fits-kill r f (in_scope q t x (caught g)) h = (fits-kill r f t h.0, h.1)
  fits-kill r f (exec m o y t) h = fits-kill r f t h
  fits-kill r f (place p) h = tt
  fits-kill r f (thrown g) h = tt
  fits-kill r f done h = tt
  fits-kill r f t h = h

  -- the same of members
  fits-kill_members : (r : Reach) (f : Fault) (ts : Strands) → MembersFit r ts → MembersFit r (kill_members f ts)
  fits-kill_members r f no_strands h = tt
  fits-kill_members r f (strand n t ts) h = (fits-kill r f t h.0, fits-kill_members r f ts h.1)

-- at a live scope
fits-at_live : (r : Reach) (p : Option Proc) (q : ℕ) (x : Table) (f : Fault) (t : Term) → FormFits r t → TableFits r x
    → Carries (FormFits r) (FormFits r) (at_live p q x f t)
fits-at_live r None q x f t h k = (h, k)
fits-at_live r (Some p) q x f t h k = (h, k)

-- at any scope
fits-at_scope : (r : Reach) (q : ℕ) (x : Table) (u : State) (f : Fault) (t : Term) → FormFits r t → TableFits r x
    → Carries (FormFits r) (FormFits r) (at_scope q x u f t)
fits-at_scope r q x live f t h k = fits-at_live r (entry f.name x.faults) q x f t h k
fits-at_scope r q x last f t h k = (h, k)
fits-at_scope r q x u f t h k = tt

-- whichever member it is
fits-member : (r : Reach) (n : ℕ) (f : Fault) (k : ℕ) (t : Term) (ts : Strands) (b : Bool) → FormFits r t
    → MembersFit r ts
    → Carries (FormFits r) (FormFits r) (throw n f k t) → Carries (MembersFit r) (MembersFit r) (throw_among n f ts)
    → Carries (MembersFit r) (MembersFit r)
    (elim b [
      | true ↦ surrounded (λ t'. strand k t' (kill_members f ts)) (λ t'. strand k t' ts) (throw n f k t)
      | false ↦ surrounded (strand k (kill f t)) (strand k t) (throw_among n f ts)
    ])
fits-member r n f k t ts true h hs here there =
    carries-surrounded (FormFits r) (FormFits r) (MembersFit r) (MembersFit r)
    (λ t'. strand k t' (kill_members f ts)) (λ t'. strand k t' ts) (throw n f k t)
    (λ t' e. (e, fits-kill_members r f ts hs)) (λ t' e. (e, hs)) here
fits-member r n f k t ts false h hs here there =
    carries-surrounded (MembersFit r) (MembersFit r) (MembersFit r) (MembersFit r) (strand k (kill f t))
    (strand k t) (throw_among n f ts) (λ ts' e. (fits-kill r f t h, e)) (λ ts' e. (h, e)) there

mutual
  -- what a throw leaves
  fits-throw : (r : Reach) (n : ℕ) (f : Fault) (k : ℕ) (t : Term) → FormFits r t
      → Carries (FormFits r) (FormFits r) (throw n f k t)
  fits-throw r n f k (place p) h = carries-if (FormFits r) (FormFits r) (nat_eq n k) (up done) tt
  fits-throw r n f k (thrown g) h = carries-if (FormFits r) (FormFits r) (nat_eq n k) (up done) tt
  fits-throw r n f k (seq t rest) h =
      carries-surrounded (FormFits r) (FormFits r) (FormFits r) (FormFits r) (λ t'. t') (λ t'. seq t' rest)
      (throw n f k t) (λ t' e. e) (λ t' e. (e, h.1)) (fits-throw r n f k t h.0)
  fits-throw r n f k (par ts) h =
      carries-surrounded (MembersFit r) (MembersFit r) (FormFits r) (FormFits r) par par (throw_among n f ts)
      (λ ts' e. e) (λ ts' e. e) (fits-throw_among r n f ts h)
  fits-throw r n f k (in_scope q t x u) h =
      carries-reaches (FormFits r) (FormFits r) (FormFits r) (FormFits r) (ready q x k t) (at_scope q x u f)
      (λ t'. in_scope q t' x u) (throw n f k t) (λ t' e. fits-at_scope r q x u f t' e h.1) (λ t' e. (e, h.1))
      (fits-throw r n f k t h.0)
  fits-throw r n f k (exec m o y t) h =
      carries-surrounded (FormFits r) (FormFits r) (FormFits r) (FormFits r) (λ t'. prot (fail m f t')) (exec m o y)
      (throw n f k t) (λ t' e. e) (λ t' e. e) (fits-throw r n f k t h)
  fits-throw r n f k (prot t) h =
      carries-surrounded (FormFits r) (FormFits r) (FormFits r) (FormFits r) prot prot (throw n f k t) (λ t' e. e)
      (λ t' e. e) (fits-throw r n f k t h)
  fits-throw r n f k t h = tt

  -- the same in members
  fits-throw_among : (r : Reach) (n : ℕ) (f : Fault) (ts : Strands) → MembersFit r ts
      → Carries (MembersFit r) (MembersFit r) (throw_among n f ts)
  fits-throw_among r n f no_strands h = tt
  fits-throw_among r n f (strand k t ts) h =
      fits-member r n f k t ts (stands_in n k t) h.0 h.1 (fits-throw r n f k t h.0) (fits-throw_among r n f ts h.1)

-- ---- moves

-- what a move leaves
abbrev MadeFits : Reach → Move Term → Type 0
MadeFits r m = FormFits r m.form × TableFits r m.made.table

-- where what it moved did
abbrev MoveFits : Reach → Seen → ℕ → Term → Move Term → Type 0
MoveFits r s k t m = TableFits r s.table → FormFits r t → MadeFits r m

-- the same of members
abbrev MoveMembersFit : Reach → Seen → Strands → Move Strands → Type 0
MoveMembersFit r s ts m =
    TableFits r s.table → MembersFit r ts
    → MembersFit r m.form × TableFits r m.made.table

-- a message that came
fits-goes_on : (r : Reach) (s : Seen) (c : Coming) (p : Proc) (e : Effect) → TableFits r s.table → OneWaysFit r p
    → MadeFits r (goes_on s c p e)
fits-goes_on r s c p (faults f) h n = (tt, h)
fits-goes_on r s c p (stores x) h n = (fits-start r p s.next n, h)

-- a message that comes to branches
fits-comes : (r : Reach) (s : Seen) (c : Coming) (bs : Branches) → TableFits r s.table → BranchesFit r bs
    → OnValue (MadeFits r) (comes s c bs)
fits-comes r s c no_branches h n = tt
fits-comes r s c (one_way o x p bs) h n =
    OnValue-if (nat_eq o c.op) (MadeFits r) (Some (goes_on s c p (received s.store x c.value))) (comes s (past c) bs)
    (fits-goes_on r s c p (received s.store x c.value) h n.1) (fits-comes r s (past c) bs h n.2)
fits-comes r s c (request o x y body p bs) h n =
    let it = fits-goes_on r s c body (received s.store x c.value) h n.0 in
    OnValue-if (nat_eq o c.op) (MadeFits r)
    (Some (within (asked c y p) (goes_on s c body (received s.store x c.value)))) (comes s (past c) bs)
    ((it.0, (n.1, tt)), it.1) (fits-comes r s (past c) bs h n.2)

fits-keeps : (r : Reach) → Keeps (MoveFits r) (MoveMembersFit r)
fits-keeps r = record {
  store = λ s k p x w a h f. (tt, h);
  first = λ s k e p q a h f. (fits-start r p s.next f.0, h);
  second = λ s k e p q a h f. (fits-start r q s.next f.1, h);
  turn = λ s k e p a h f. (fits-start r (turn_of e p) s.next (f, (f, tt)), h);
  leave = λ s k e p a h f. (tt, h);
  installed = λ s k list a h f. (tt, fits-plus r s.scope s.table list h f);
  compensated = λ s k q a h f. (
    fits-start r (or_nothing (entry q s.table.scopes)) s.next (fits-entry r q s.table.scopes h.1),
    (h.0, fits-without r q s.table.scopes h.1),
  );
  came = λ s k bs m o v own e.
      OnValue-under (TableFits r s.table) (BranchesFit r bs) (MadeFits r) (comes s (coming m o v bs) bs)
      (fits-comes r s (coming m o v bs) bs);
  notified = λ s k port op e v a eq h f. (tt, h);
  solicited = λ s k port op e x list v a eq h f. (f, h);
  bound = λ s k v e x own eq h f. (tt, h);
  unbound = λ s k v e x own eq h f. (tt, h);
  answer_faults = λ s k n port op x list g own h f. (tt, h);
  answer_overflows = λ s k n port op x list g own fit h f. (tt, fits-plus r s.scope s.table list h f);
  answer_sets = λ s k n port op x list y own fit h f. (tt, fits-plus r s.scope s.table list h f);
  dead_installs = λ s k n port op list own fit h f. (tt, fits-plus r s.scope s.table list h f);
  dead_ends = λ s k n port op list own h f. (tt, h);
  ended = λ s k q x a h f. (tt, (h.0, fits-over r x.scopes s.table.scopes f.1.1 h.1));
  handled = λ s k q x g a h f. (
    (
      fits-start r (or_nothing (entry g.name x.faults)) s.next (fits-entry r g.name x.faults f.1.0),
      (fits-without r g.name x.faults f.1.0, f.1.1),
    ),
    h,
  );
  terminated = λ s k q x a h f. (
    (
      fits-start r (or_nothing (entry q x.scopes)) s.next (fits-entry r q x.scopes f.1.1),
      (f.1.0, fits-without r q x.scopes f.1.1),
    ),
    h,
  );
  replied = λ s k m o y a h f. (tt, h);
  told = λ s k m g t a h f. (f, h);
  in_head = λ s k t rest m x h f. let y = x h f.0 in ((y.0, f.1), y.1);
  in_members = λ s k ts m x h f. x h f;
  in_body = λ s k q t y u m d x h f. let z = x f.1 f.0 in ((z.0, z.1), h);
  in_request = λ s k n o y t m d x h f. x h f;
  in_prot = λ s k t m x h f. x h f;
  in_member = λ s k t ts m e x h f. let y = x h f.0 in ((y.0, f.1), y.1);
  in_others = λ s k t ts m e x h f. let y = x h f.1 in ((f.0, y.0), y.1);
}

-- ---- an event

-- what is left by an event does
abbrev EventFits : Reach → Done → Type 0
EventFits r d = FormFits r d.config.form

-- where a fault came to
fits-raised : (r : Reach) (c : Config) (n f : ℕ) (x : Carried Term) → Carries (FormFits r) (FormFits r) x
    → OnValue (EventFits r) (raised c n f x)
fits-raised r c n f (up t) h = fits-normal r t c.next h
fits-raised r c n f (caught_at t q) h = fits-normal r t c.next h
fits-raised r c n f (ended_at t q) h = fits-normal r t c.next h
fits-raised r c n f (blocked m) h = tt
fits-raised r c n f absent h = tt

-- the last event
fits-finishes : (r : Reach) (c : Config) (n : ℕ) (g : Given) → FormFits r c.form
    → OnValue (EventFits r) (finishes c n g)
fits-finishes r c zero given.Nothing h = h
fits-finishes r c n g h = tt

-- a move and its normal form
fits-moved : (r : Reach) (c : Config) (m : Move Term) → MadeFits r m → EventFits r (moved c m)
fits-moved r c m h = fits-normal r m.form m.made.next h.0

-- what an event leaves
pub fits_after : (r : Reach) (parts : ProgramParts) (service : ℕ) (c : Config) (n : ℕ) (g : Given) (d : Done)
    → FormFits r c.form → after parts service c n g ≡ Some d → EventFits r d
fits_after r parts service c n g d h =
    let s = seen_by parts service c n g in
    of_event (EventFits r) parts service c n g (λ ended finished. fits-finishes r c n g h)
    (λ f going e there. fits-raised r c n f.name (throw n f 0 c.form) (fits-throw r n f 0 c.form h))
    (λ going none. OnValue-imp (MoveFits r s 0 c.form) (λ m. EventFits r (moved c m)) (moves s 0 c.form)
    (λ m k. fits-moved r c m (k (tt, tt) h))
    (keeps-moves (MoveFits r) (MoveMembersFit r) (fits-keeps r) s 0 c.form)) d

-- ---- a run

-- where a session begins
pub fits_first : (r : Reach) (p : Proc) → OneWaysFit r p → FormFits r (first_config p).form
fits_first r p h = (fits-begin r p 1 h, (tt, tt))

-- and after some steps
pub fits_leads : (r : Reach) (parts : ProgramParts) (service : ℕ) (from : Config) (xs : List TakenStep) (here : Config)
    → FormFits r from.form → Leads parts service from xs here → FormFits r here.form
fits_leads r parts service from [] here h l = subst (λ (c : Config). FormFits r c.form) l h
fits_leads r parts service from (x ∷ xs) here h l =
    fits_leads r parts service l.0.config xs here
    (fits_after r parts service from x.event.strand x.gift l.0 h l.1) l.3

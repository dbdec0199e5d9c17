-- How many strands an event adds, those that it draws and those that it leaves to be drawn.
use Rattle.std.proofs.Common.{◌≡◌, ℕ, zero, suc, ◌+◌, ◌*◌, ◌≤◌, Bool, true, false, ◌&&◌, List, [], ◌∷◌, length, Option, None, Some, is_some, if◌then◌else◌, nat_eq, refl, sym, ap, ◌∙◌, le_refl, arith}
use Rattle.std.proofs.lemmas.Bool.{false≢true, leb-true, le-leb, and_parts, and_from}
use Rattle.behaviour_tree.specs.declared.words.Kind.TheVariants as kind
use Rattle.behaviour_tree.specs.declared.words.Given.{Given}
use Rattle.behaviour_tree.specs.declared.words.Given.TheVariants as given
use Rattle.behaviour_tree.specs.Data.{Exp, Proc, nothing, inner_handler, block, sequence, parallel, scope, choose, repeat, choice, comp, Procs, no_procs, proc, Branches, no_branches, one_way, request, ProgramParts}
use Rattle.behaviour_tree.specs.FormedBehaviours.{parallel_members, members_within, members_of_branches, members_of_handlers, count_of}
use Rattle.session_calculus.specs.Names.{handler_too_large}
use Rattle.session_calculus.specs.Tables.{Table, entry, without, over, or_nothing, most_forms, fits}
use Rattle.session_calculus.specs.Terms.{Fault, bare, Term, Strands, done, place, thrown, seq, par, in_scope, exec, fail, wait, dead_wait, prot, no_strands, strand, State, live, caught, term, last, zombie, seq_of, all_done, par_of, prot_of, scope_of, stands_in}
use Rattle.session_calculus.specs.Start.{Begun, start, start_head, start_members, begin, normal}
use Rattle.session_calculus.specs.Kill.{kill, kill_members}
use Rattle.session_calculus.specs.Ready.{ready}
use Rattle.session_calculus.specs.Throw.{Carried, up, caught_at, ended_at, blocked, absent, surrounded, at_live, at_scope, throw, throw_among}
use Rattle.session_calculus.specs.Moves.{Seen, Move, within, quietly, starts}
use Rattle.session_calculus.specs.Effects.{Effect, faults, stores, received}
use Rattle.session_calculus.specs.Faults.{fault_in, fault_among}
use Rattle.session_calculus.specs.Inputs.{Coming, past, goes_on, asked, comes}
use Rattle.session_calculus.specs.After.{Config, Done, first_config, finish_event, turn_of, moved, moves, raised, settled, finishes, seen_by, after}
use Rattle.session_calculus.specs.Runs.{TakenStep, Leads}
use Rattle.session_calculus.specs.Members.{members_in, members_among, has_few, have_few, handlers_have_few, is_within_few, are_within_few, drawn_in_all, AddsFew, DrawsFew}
use Rattle.session_laws.proofs.Options.{OnValue, OnValue-if, OnValue-imp, OnValue-under}
use Rattle.session_laws.proofs.Moving.{coming, Keeps, keeps-moves}
use Rattle.session_laws.proofs.Carrying.{Carries, carries-if, carries-surrounded, carries-reaches}
use Rattle.session_laws.proofs.Settling.{Settles, settles-begin, settles-normal}
use Rattle.session_laws.proofs.Handlers.{few_entries, few-without, few-over, few-entry, few-plus}
use Rattle.session_laws.proofs.Events.{of_event}

-- a head with its rests has the members of both
members-seq_of : (t : Term) (ps : Procs) → members_in (seq_of t ps) ≡ members_in t + members_within ps
members-seq_of t no_procs = omega arith
members-seq_of t (proc p ps) = refl

mutual
  -- what starts has drawn, and leaves to be drawn, the members of its behaviour
  adds-start : (p : Proc) (n : ℕ) → (start p n).next + members_in (start p n).form ≤ n + parallel_members p
  adds-start nothing n = omega arith
  adds-start inner_handler n = omega arith
  adds-start (block p) n = adds-start p n
  adds-start (sequence ps) n = adds-start_head ps n
  adds-start (parallel ps) n = omega (arith, adds-start_members ps n (n + count_of ps))
  adds-start (scope q p) n = adds-start p n
  adds-start p n = le_refl (n + parallel_members p)

  -- so has the head of a sequence
  adds-start_head : (ps : Procs) (n : ℕ)
      → (start_head ps n).next + members_in (start_head ps n).form ≤ n + members_within ps
  adds-start_head no_procs n = omega arith
  adds-start_head (proc p ps) n = omega (arith, adds-start p n, members-seq_of (start p n).form ps)

  -- so have members
  adds-start_members : (ps : Procs) (k n : ℕ)
      → (start_members ps k n).next + members_among (start_members ps k n).form ≤ n + members_within ps
  adds-start_members no_procs k n = omega arith
  adds-start_members (proc p ps) k n = omega (arith, adds-start p n, adds-start_members ps (suc k) (start p n).next)

module _ (most : ℕ) where
  -- a behaviour within the bound
  few-proc : (p : Proc) → parallel_members p ≤ most → has_few most p ≡ true
  few-proc p h = le-leb (parallel_members p) most h

  -- behaviours within it
  few-procs : (ps : Procs) → members_within ps ≤ most → have_few most ps ≡ true
  few-procs no_procs h = refl
  few-procs (proc p ps) h =
      and_from (has_few most p) (have_few most ps) (few-proc p (omega arith)) (few-procs ps (omega arith))

  -- a head with its rests
  few-seq_of : (t : Term) (ps : Procs) → is_within_few most t ≡ true → have_few most ps ≡ true
      → is_within_few most (seq_of t ps) ≡ true
  few-seq_of t no_procs h hs = h
  few-seq_of t (proc p ps) h hs = and_from (is_within_few most t) (have_few most (proc p ps)) h hs

  mutual
    -- what starts is within it
    few-start : (p : Proc) (n : ℕ) → parallel_members p ≤ most → is_within_few most (start p n).form ≡ true
    few-start nothing n h = refl
    few-start inner_handler n h = refl
    few-start (block p) n h = few-start p n h
    few-start (sequence ps) n h = few-start_head ps n h
    few-start (parallel ps) n h = few-start_members ps n (n + count_of ps) (omega arith)
    few-start (scope q p) n h = and_from (is_within_few most (start p n).form) true (few-start p n h) refl
    few-start p n h = few-proc p h

    -- so is the head of a sequence
    few-start_head : (ps : Procs) (n : ℕ) → members_within ps ≤ most → is_within_few most (start_head ps n).form ≡ true
    few-start_head no_procs n h = refl
    few-start_head (proc p ps) n h =
        few-seq_of (start p n).form ps (few-start p n (omega arith)) (few-procs ps (omega arith))

    -- so are members
    few-start_members : (ps : Procs) (k n : ℕ) → members_within ps ≤ most
        → are_within_few most (start_members ps k n).form ≡ true
    few-start_members no_procs k n h = refl
    few-start_members (proc p ps) k n h =
        let b = start p n in
        and_from (is_within_few most b.form) (are_within_few most (start_members ps (suc k) b.next).form)
        (few-start p n (omega arith))
        (few-start_members ps (suc k) b.next (omega arith))

  -- ---- normal form

  -- a form within the bound, with so much drawn and left to be drawn
  abbrev Few : Term → ℕ → ℕ → Type 0
  Few t next before = (is_within_few most t ≡ true) × (next + members_in t ≤ before)

  -- the same of members
  abbrev AllFew : Strands → ℕ → ℕ → Type 0
  AllFew ts next before = (are_within_few most ts ≡ true) × (next + members_among ts ≤ before)

  -- a normal form adds nothing
  abbrev FewThen : Term → ℕ → Begun Term → Type 0
  FewThen t n b = is_within_few most t ≡ true → Few b.form b.next (n + members_in t)

  -- the same of members
  abbrev AllFewThen : Strands → ℕ → Begun Strands → Type 0
  AllFewThen ts n b = are_within_few most ts ≡ true → AllFew b.form b.next (n + members_among ts)

  -- and of rests that begin
  abbrev RestFew : Procs → ℕ → Begun Term → Type 0
  RestFew ps n b = have_few most ps ≡ true → Few b.form b.next (n + members_within ps)

  -- a parallel, or nothing
  few-par_of : (ts : Strands) (next before : ℕ) → AllFew ts next before → Few (par_of ts) next before
  few-par_of ts next before h = go (all_done ts)
    where
      go : (b : Bool) → Few (elim b [ true ↦ done | false ↦ par ts ]) next before
      go true = (refl, omega (arith, h.1))
      go false = h

  -- what no fault ends any more
  few-prot_of : (t : Term) (next before : ℕ) → Few t next before → Few (prot_of t) next before
  few-prot_of done next before h = h
  few-prot_of (prot t) next before h = h
  few-prot_of t next before h = h

  -- a scope, or nothing
  few-scope_of : (q : ℕ) (t : Term) (h : Table) (u : State) (next before : ℕ) → Few t next before
      → handlers_have_few most h ≡ true
      → Few (scope_of q t h u) next before
  few-scope_of q done h last next before k hs = (refl, k.1)
  few-scope_of q done h zombie next before k hs = (refl, k.1)
  few-scope_of q t h u next before k hs = (and_from (is_within_few most t) (handlers_have_few most h) k.0 hs, k.1)

  -- normal form adds nothing
  few-settles : Settles FewThen AllFewThen RestFew
  few-settles = record {
    leaf = λ t n l w. (w, le_refl (n + members_in t));
    goes = λ t ps n m b h r w.
        let both = and_parts (is_within_few most t) (have_few most ps) w in
        let x = h both.0 in
        let y = r both.1 in
        (y.0, omega (arith, x.1, y.1));
    stays = λ t t' ps n m d h w.
        let both = and_parts (is_within_few most t) (have_few most ps) w in
        let x = h both.0 in
        (few-seq_of t' ps x.0 both.1, omega (arith, x.1, members-seq_of t' ps));
    members = λ ts n b h w. few-par_of b.form b.next (n + members_among ts) (h w);
    body = λ q t h u n b k w.
        let both = and_parts (is_within_few most t) (handlers_have_few most h) w in
        few-scope_of q b.form h u b.next (n + members_in t) (k both.0) both.1;
    asked = λ m o y t n b h w. h w;
    failed = λ m f t n b h w. h w;
    kept = λ t n b h w. few-prot_of b.form b.next (n + members_in t) (h w);
    no_member = λ n w. (refl, le_refl (n + 0));
    member = λ k t ts n b c h hs w.
        let both = and_parts (is_within_few most t) (are_within_few most ts) w in
        let x = h both.0 in
        let y = hs both.1 in
        (and_from (is_within_few most b.form) (are_within_few most c.form) x.0 y.0, omega (arith, x.1, y.1));
    no_rest = λ n w. (refl, le_refl (n + 0));
    rest_goes = λ p ps n m b h r w.
        let both = and_parts (has_few most p) (have_few most ps) w in
        let x = h (few-start p n (leb-true (parallel_members p) most both.0)) in
        let y = r both.1 in
        (y.0, omega (arith, x.1, y.1, adds-start p n));
    rest_stays = λ p ps n m t d h w.
        let both = and_parts (has_few most p) (have_few most ps) w in
        let x = h (few-start p n (leb-true (parallel_members p) most both.0)) in
        (few-seq_of t ps x.0 both.1, omega (arith, x.1, adds-start p n, members-seq_of t ps));
  }

  -- of a form that begins
  few-begin : (p : Proc) (n : ℕ) → parallel_members p ≤ most
      → Few (begin p n).form (begin p n).next (n + parallel_members p)
  few-begin p n h =
      let x = settles-begin FewThen AllFewThen RestFew few-settles p n (few-start p n h) in
      (x.0, omega (arith, x.1, adds-start p n))

  -- of a normal form
  few-normal : (t : Term) (n : ℕ) → FewThen t n (normal t n)
  few-normal t n = settles-normal FewThen AllFewThen RestFew few-settles t n

  -- ---- kill and throw

  -- a form within the bound, with no more members than before
  abbrev Left : ℕ → Term → Type 0
  Left before t = (is_within_few most t ≡ true) × (members_in t ≤ before)

  -- the same of members
  abbrev AllLeft : ℕ → Strands → Type 0
  AllLeft before ts = (are_within_few most ts ≡ true) × (members_among ts ≤ before)

  -- a scope with another body
  left-scope : (q : ℕ) (t t' : Term) (h : Table) (u : State) → handlers_have_few most h ≡ true → Left (members_in t) t'
      → Left (members_in t) (in_scope q t' h u)
  left-scope q t t' h u hs l = (and_from (is_within_few most t') (handlers_have_few most h) l.0 hs, l.1)

  mutual
    -- what a kill leaves
    left-kill : (f : Fault) (t : Term) → is_within_few most t ≡ true → Left (members_in t) (kill f t)
    left-kill f (seq t rest) e =
        let l = left-kill f t (and_parts (is_within_few most t) (have_few most rest) e).0 in (l.0, omega (arith, l.1))
    left-kill f (par ts) e = left-kill_members f ts e
    left-kill f (in_scope q done h live) e = (e, le_refl 0)
    left-kill f (in_scope q t h live) e =
        let both = and_parts (is_within_few most t) (handlers_have_few most h) e in
        left-scope q t (kill f t) h term both.1 (left-kill f t both.0)
    left-kill f (in_scope q t h (caught g)) e =
        let both = and_parts (is_within_few most t) (handlers_have_few most h) e in
        left-scope q t (kill f t) h term both.1 (left-kill f t both.0)
    left-kill f (in_scope q t h term) e = (e, le_refl (members_in t))
    left-kill f (in_scope q t h last) e = (e, le_refl (members_in t))
    left-kill f (in_scope q t h zombie) e = (e, le_refl (members_in t))
    left-kill f (exec m o y t) e = left-kill f t e
    left-kill f (fail m g t) e = (e, le_refl (members_in t))
    left-kill f (wait k port op x list) e = (e, le_refl (members_of_handlers list))
    left-kill f (dead_wait k port op list) e = (e, le_refl (members_of_handlers list))
    left-kill f (prot t) e = (e, le_refl (members_in t))
    left-kill f (place p) e = (refl, omega arith)
    left-kill f (thrown g) e = (refl, le_refl 0)
    left-kill f done e = (refl, le_refl 0)

    -- of members
    left-kill_members : (f : Fault) (ts : Strands) → are_within_few most ts ≡ true
        → AllLeft (members_among ts) (kill_members f ts)
    left-kill_members f no_strands e = (refl, le_refl 0)
    left-kill_members f (strand n t ts) e =
        let both = and_parts (is_within_few most t) (are_within_few most ts) e in
        let x = left-kill f t both.0 in
        let y = left-kill_members f ts both.1 in (
          and_from (is_within_few most (kill f t)) (are_within_few most (kill_members f ts)) x.0 y.0,
          omega (arith, x.1, y.1),
        )

  -- at a live scope
  left-at_live : (b : ℕ) (p : Option Proc) (q : ℕ) (h : Table) (f : Fault) (t : Term) → handlers_have_few most h ≡ true
      → Left b t
      → Carries (Left b) (Left b) (at_live p q h f t)
  left-at_live b None q h f t hs l = (and_from (is_within_few most t) (handlers_have_few most h) l.0 hs, l.1)
  left-at_live b (Some p) q h f t hs l = (and_from (is_within_few most t) (handlers_have_few most h) l.0 hs, l.1)

  -- at any scope
  left-at_scope : (b q : ℕ) (h : Table) (u : State) (f : Fault) (t : Term) → handlers_have_few most h ≡ true → Left b t
      → Carries (Left b) (Left b) (at_scope q h u f t)
  left-at_scope b q h live f t hs l = left-at_live b (entry f.name h.faults) q h f t hs l
  left-at_scope b q h last f t hs l = (and_from (is_within_few most t) (handlers_have_few most h) l.0 hs, l.1)
  left-at_scope b q h u f t hs l = tt

  -- whichever member it is
  left-member : (n : ℕ) (f : Fault) (k : ℕ) (t : Term) (ts : Strands) (b : Bool) → is_within_few most t ≡ true
      → are_within_few most ts ≡ true → Carries (Left (members_in t)) (Left (members_in t)) (throw n f k t)
      → Carries (AllLeft (members_among ts)) (AllLeft (members_among ts)) (throw_among n f ts)
      → Carries (AllLeft (members_in t + members_among ts)) (AllLeft (members_in t + members_among ts))
      (elim b [
        | true ↦ surrounded (λ t'. strand k t' (kill_members f ts)) (λ t'. strand k t' ts) (throw n f k t)
        | false ↦ surrounded (strand k (kill f t)) (strand k t) (throw_among n f ts)
      ])
  left-member n f k t ts true e es here there =
      let x = left-kill_members f ts es in
      let now = AllLeft (members_in t + members_among ts) in
      carries-surrounded (Left (members_in t)) (Left (members_in t)) now now (λ t'. strand k t' (kill_members f ts))
      (λ t'. strand k t' ts)
      (throw n f k t)
      (λ t' l. (
        and_from (is_within_few most t') (are_within_few most (kill_members f ts)) l.0 x.0,
        omega (arith, l.1, x.1),
      ))
      (λ t' l. (and_from (is_within_few most t') (are_within_few most ts) l.0 es, omega (arith, l.1))) here
  left-member n f k t ts false e es here there =
      let x = left-kill f t e in
      let now = AllLeft (members_in t + members_among ts) in
      carries-surrounded (AllLeft (members_among ts)) (AllLeft (members_among ts)) now now (strand k (kill f t))
      (strand k t)
      (throw_among n f ts)
      (λ ts' l. (and_from (is_within_few most (kill f t)) (are_within_few most ts') x.0 l.0, omega (arith, l.1, x.1)))
      (λ ts' l. (and_from (is_within_few most t) (are_within_few most ts') e l.0, omega (arith, l.1))) there

  mutual
    -- what a throw leaves
    left-throw : (n : ℕ) (f : Fault) (k : ℕ) (t : Term) → is_within_few most t ≡ true
        → Carries (Left (members_in t)) (Left (members_in t)) (throw n f k t)
    left-throw n f k (place p) e =
        let now = Left (parallel_members p) in carries-if now now (nat_eq n k) (up done) (refl, omega arith)
    left-throw n f k (thrown g) e = carries-if (Left 0) (Left 0) (nat_eq n k) (up done) (refl, le_refl 0)
    left-throw n f k (seq t rest) e =
        let both = and_parts (is_within_few most t) (have_few most rest) e in
        let old = Left (members_in t) in
        let now = Left (members_in t + members_within rest) in
        carries-surrounded old old now now (λ t'. t') (λ t'. seq t' rest) (throw n f k t)
        (λ t' l. (l.0, omega (arith, l.1)))
        (λ t' l. (and_from (is_within_few most t') (have_few most rest) l.0 both.1, omega (arith, l.1)))
        (left-throw n f k t both.0)
    left-throw n f k (par ts) e =
        let old = AllLeft (members_among ts) in
        let now = Left (members_among ts) in
        carries-surrounded old old now now par par (throw_among n f ts) (λ ts' l. l) (λ ts' l. l)
        (left-throw_among n f ts e)
    left-throw n f k (in_scope q t h u) e =
        let both = and_parts (is_within_few most t) (handlers_have_few most h) e in
        let now = Left (members_in t) in
        carries-reaches now now now now (ready q h k t) (at_scope q h u f) (λ t'. in_scope q t' h u) (throw n f k t)
        (λ t' l. left-at_scope (members_in t) q h u f t' both.1 l) (λ t' l. left-scope q t t' h u both.1 l)
        (left-throw n f k t both.0)
    left-throw n f k (exec m o y t) e =
        let now = Left (members_in t) in
        carries-surrounded now now now now (λ t'. prot (fail m f t')) (exec m o y) (throw n f k t) (λ t' l. l)
        (λ t' l. l)
        (left-throw n f k t e)
    left-throw n f k (prot t) e =
        let now = Left (members_in t) in
        carries-surrounded now now now now prot prot (throw n f k t) (λ t' l. l) (λ t' l. l) (left-throw n f k t e)
    left-throw n f k t e = tt

    -- in members
    left-throw_among : (n : ℕ) (f : Fault) (ts : Strands) → are_within_few most ts ≡ true
        → Carries (AllLeft (members_among ts)) (AllLeft (members_among ts)) (throw_among n f ts)
    left-throw_among n f no_strands e = tt
    left-throw_among n f (strand k t ts) e =
        let both = and_parts (is_within_few most t) (are_within_few most ts) e in
        left-member n f k t ts (stands_in n k t) both.0 both.1 (left-throw n f k t both.0)
        (left-throw_among n f ts both.1)

  -- ---- moves

  -- a form and handlers within the bound, and no more added than it
  abbrev Adds : Seen → ℕ → Move Term → Type 0
  Adds s before m =
      (is_within_few most m.form ≡ true) × (handlers_have_few most m.made.table ≡ true)
      × (m.made.next + members_in m.form ≤ s.next + before + most)

  -- a move without a fault adds no more
  abbrev MoveAdds : Seen → ℕ → Term → Move Term → Type 0
  MoveAdds s k t m =
      fault_in s k t ≡ None → is_within_few most t ≡ true → handlers_have_few most s.table ≡ true
      → Adds s (members_in t) m

  -- the same of members
  abbrev MoveAddsAll : Seen → Strands → Move Strands → Type 0
  MoveAddsAll s ts m =
      fault_among s ts ≡ None → are_within_few most ts ≡ true → handlers_have_few most s.table ≡ true
      → (are_within_few most m.form ≡ true) × (handlers_have_few most m.made.table ≡ true)
      × (m.made.next + members_among m.form ≤ s.next + members_among ts + most)

  -- nothing is left to be drawn
  adds-none : (n before : ℕ) → n + 0 ≤ n + before + most
  adds-none n before = omega arith

  -- what starts adds the members of its behaviour
  adds-starts : (p : Proc) (n before : ℕ) → parallel_members p ≤ most
      → (start p n).next + members_in (start p n).form ≤ n + before + most
  adds-starts p n before h = omega (arith, adds-start p n)

  -- a message that came
  few-goes_on : (s : Seen) (m : Coming) (p : Proc) (e : Effect) → parallel_members p ≤ most
      → Few (goes_on s m p e).form (goes_on s m p e).made.next (s.next + parallel_members p)
  few-goes_on s m p (faults f) h = (refl, omega arith)
  few-goes_on s m p (stores x) h = (few-start p s.next h, adds-start p s.next)

  -- it changes no table
  table-goes_on : (s : Seen) (m : Coming) (p : Proc) (e : Effect) → (goes_on s m p e).made.table ≡ s.table
  table-goes_on s m p (faults f) = refl
  table-goes_on s m p (stores x) = refl

  -- a message that comes to branches
  adds-comes : (s : Seen) (m : Coming) (bs : Branches) (before : ℕ) → handlers_have_few most s.table ≡ true
      → members_of_branches bs ≤ before → before ≤ most → OnValue (Adds s before) (comes s m bs)
  adds-comes s m no_branches before hs le few = tt
  adds-comes s m (one_way o x p bs) before hs le few =
      let e = received s.store x m.value in
      let k = few-goes_on s m p e (omega arith) in
      OnValue-if (nat_eq o m.op) (Adds s before) (Some (goes_on s m p e)) (comes s (past m) bs)
      (k.0, ap (handlers_have_few most) (table-goes_on s m p e) ∙ hs, omega (arith, k.1))
      (adds-comes s (past m) bs before hs (omega arith) few)
  adds-comes s m (request o x y body p bs) before hs le few =
      let e = received s.store x m.value in
      let k = few-goes_on s m body e (omega arith) in
      OnValue-if (nat_eq o m.op) (Adds s before) (Some (within (asked m y p) (goes_on s m body e)))
      (comes s (past m) bs) (
        and_from (is_within_few most (goes_on s m body e).form) (have_few most (proc p no_procs)) k.0
            (and_from (has_few most p) true (few-proc p (omega arith)) refl),
        ap (handlers_have_few most) (table-goes_on s m body e) ∙ hs,
        omega (arith, k.1),
      )
      (adds-comes s (past m) bs before hs (omega arith) few)

-- handlers that are installed without a fault fit
fits-without_fault : (b c : Bool) (f : Fault) → b ≡ true
    → ◌≡◌ {A = Option Fault} (if b then (if c then None else Some f) else None) None → c ≡ true
fits-without_fault true true f own e = refl
fits-without_fault true false f own e = absurd (false≢true (sym (ap is_some e)))
fits-without_fault false c f own e = absurd (false≢true own)

-- no fault in the member where a strand stands
no_fault-member : (b : Bool) (x y : Option Fault) → b ≡ true
    → ◌≡◌ {A = Option Fault} (elim b [ true ↦ x | false ↦ y ]) None → x ≡ None
no_fault-member true x y own e = e
no_fault-member false x y own e = absurd (false≢true own)

-- nor in the others
no_fault-others : (b : Bool) (x y : Option Fault) → b ≡ false
    → ◌≡◌ {A = Option Fault} (elim b [ true ↦ x | false ↦ y ]) None → y ≡ None
no_fault-others true x y own e = absurd (false≢true (sym own))
no_fault-others false x y own e = e

module _ (most : ℕ) (large : most_forms ≤ most) where
  -- a behaviour that starts in place of another
  adds-place : (s : Seen) (p r : Proc) (h : Table) → parallel_members r ≤ most → handlers_have_few most h ≡ true
      → (is_within_few most (start r s.next).form ≡ true) × (handlers_have_few most h ≡ true)
      × ((start r s.next).next + members_in (start r s.next).form ≤ s.next + parallel_members p + most)
  adds-place s p r h few hs = (few-start most r s.next few, hs, adds-starts most r s.next (parallel_members p) few)

  -- a while that turns
  adds-turn : (s : Seen) (e : Exp) (p : Proc) → has_few most p ≡ true → handlers_have_few most s.table ≡ true
      → Adds most s (parallel_members p) (starts (turn_of e p) (quietly s kind.Local))
  adds-turn s e p w hs =
      let few = leb-true (parallel_members p) most w in (
        and_from (is_within_few most (start p s.next).form) (have_few most (proc (repeat e p) no_procs))
            (few-start most p s.next few)
            (and_from (has_few most p) true w refl),
        hs,
        omega (arith, adds-start p s.next, few),
      )

  -- every move without a fault adds no more than the bound
  adds-keeps : Keeps (MoveAdds most) (MoveAddsAll most)
  adds-keeps = record {
    store = λ s k p y x a e w hs. (refl, hs, adds-none most s.next (parallel_members p));
    first = λ s k e p q a f w hs.
        let few = leb-true (parallel_members (choose e p q)) most w in
        adds-place s (choose e p q) p s.table (omega (arith, few)) hs;
    second = λ s k e p q a f w hs.
        let few = leb-true (parallel_members (choose e p q)) most w in
        adds-place s (choose e p q) q s.table (omega (arith, few)) hs;
    turn = λ s k e p a f w hs. adds-turn s e p w hs;
    leave = λ s k e p a f w hs. (refl, hs, adds-none most s.next (parallel_members p));
    installed = λ s k list a f w hs.
        let fit = fits-without_fault (nat_eq s.strand k) (fits s.scope s.table list) (bare handler_too_large) a.own f in
        (refl, few-plus most s.scope s.table list large fit hs, adds-none most s.next (members_of_handlers list));
    compensated = λ s k r a f w hs.
        let both = and_parts (few_entries most s.table.faults) (few_entries most s.table.scopes) hs in
        adds-place s (comp r) (or_nothing (entry r s.table.scopes))
        (record s.table { scopes = without r s.table.scopes })
        (few-entry most r s.table.scopes both.1)
        (and_from (few_entries most s.table.faults) (few_entries most (without r s.table.scopes)) both.0
        (few-without most r s.table.scopes both.1));
    came = λ s k bs m o v own e.
        OnValue-imp (λ x. handlers_have_few most s.table ≡ true → members_of_branches bs ≤ most → Adds most s
        (members_of_branches bs) x)
        (MoveAdds most s k (place (choice bs))) (comes s (coming m o v bs) bs)
        (λ x h f w hs. h hs (leb-true (members_of_branches bs) most w))
        (OnValue-under (handlers_have_few most s.table ≡ true) (members_of_branches bs ≤ most)
        (Adds most s (members_of_branches bs))
        (comes s (coming m o v bs) bs)
        (λ hs few. adds-comes most s (coming m o v bs) bs (members_of_branches bs) hs (le_refl (members_of_branches bs))
        few));
    notified = λ s k port op e v a eq f w hs. (refl, hs, adds-none most s.next 0);
    solicited = λ s k port op e x list v a eq f w hs. (w, hs, omega arith);
    bound = λ s k v e r own eq f w hs. (refl, hs, adds-none most s.next 0);
    unbound = λ s k v e r own eq f w hs. (refl, hs, adds-none most s.next 0);
    answer_faults = λ s k n port op x list f own e w hs. (refl, hs, adds-none most s.next (members_of_handlers list));
    answer_overflows = λ s k n port op x list f own fit e w hs.
        (refl, few-plus most s.scope s.table list large fit hs, adds-none most s.next (members_of_handlers list));
    answer_sets = λ s k n port op x list y own fit e w hs.
        (refl, few-plus most s.scope s.table list large fit hs, adds-none most s.next (members_of_handlers list));
    dead_installs = λ s k n port op list own fit e w hs.
        (refl, few-plus most s.scope s.table list large fit hs, adds-none most s.next (members_of_handlers list));
    dead_ends = λ s k n port op list own e w hs. (refl, hs, adds-none most s.next (members_of_handlers list));
    ended = λ s k q h a e w hs.
        let inner = and_parts (few_entries most h.faults) (few_entries most h.scopes) w in
        let both = and_parts (few_entries most s.table.faults) (few_entries most s.table.scopes) hs in (
          refl,
          and_from (few_entries most s.table.faults) (few_entries most (over h.scopes s.table.scopes)) both.0
              (few-over most h.scopes s.table.scopes inner.1 both.1),
          adds-none most s.next 0,
        );
    handled = λ s k q h f a e w hs.
        let both = and_parts (few_entries most h.faults) (few_entries most h.scopes) w in
        let p = or_nothing (entry f.name h.faults) in
        let few = few-entry most f.name h.faults both.0 in (
          and_from (is_within_few most (start p s.next).form)
              (few_entries most (without f.name h.faults) && few_entries most h.scopes) (few-start most p s.next few)
              (and_from (few_entries most (without f.name h.faults)) (few_entries most h.scopes)
              (few-without most f.name h.faults both.0) both.1),
          hs,
          adds-starts most p s.next 0 few,
        );
    terminated = λ s k q h a e w hs.
        let both = and_parts (few_entries most h.faults) (few_entries most h.scopes) w in
        let p = or_nothing (entry q h.scopes) in
        let few = few-entry most q h.scopes both.1 in (
          and_from (is_within_few most (start p s.next).form)
              (few_entries most h.faults && few_entries most (without q h.scopes)) (few-start most p s.next few)
              (and_from (few_entries most h.faults) (few_entries most (without q h.scopes)) both.0
              (few-without most q h.scopes both.1)),
          hs,
          adds-starts most p s.next 0 few,
        );
    replied = λ s k m o y a e w hs. (refl, hs, adds-none most s.next 0);
    told = λ s k m f t a e w hs. (w, hs, omega arith);
    in_head = λ s k t rest m h e w hs.
        let both = and_parts (is_within_few most t) (have_few most rest) w in
        let x = h e both.0 hs in
        (and_from (is_within_few most m.form) (have_few most rest) x.0 both.1, x.1, omega (arith, x.2));
    in_members = λ s k ts m h. h;
    in_body = λ s k q t h u m d i e w hs.
        let both = and_parts (is_within_few most t) (handlers_have_few most h) w in
        let x = i e both.0 both.1 in
        (and_from (is_within_few most m.form) (handlers_have_few most m.made.table) x.0 x.1, hs, x.2);
    in_request = λ s k n o y t m d h. h;
    in_prot = λ s k t m h. h;
    in_member = λ s k t ts m own h e w hs.
        let both = and_parts (is_within_few most t) (are_within_few most ts) w in
        let x = h (no_fault-member (stands_in s.strand k t) (fault_in s k t) (fault_among s ts) own e) both.0 hs in
        (and_from (is_within_few most m.form) (are_within_few most ts) x.0 both.1, x.1, omega (arith, x.2));
    in_others = λ s k t ts m own h e w hs.
        let both = and_parts (is_within_few most t) (are_within_few most ts) w in
        let x = h (no_fault-others (stands_in s.strand k t) (fault_in s k t) (fault_among s ts) own e) both.1 hs in
        (and_from (is_within_few most t) (are_within_few most m.form) both.0 x.0, x.1, omega (arith, x.2));
  }

  -- ---- an event

  -- an event adds no more than the bound
  abbrev FewAfter : Config → Done → Type 0
  FewAfter c d = (is_within_few most d.config.form ≡ true) × (drawn_in_all d.config ≤ drawn_in_all c + most)

  -- a normal form of what a fault left
  adds-settled : (c : Config) (t : Term) → Left most (members_in c.form) t → FewAfter c (settled c t finish_event)
  adds-settled c t l = let x = few-normal most t c.next l.0 in (x.0, omega (arith, x.1, l.1))

  -- a fault that was carried
  adds-raised : (c : Config) (n f : ℕ) (x : Carried Term)
      → Carries (Left most (members_in c.form)) (Left most (members_in c.form)) x
      → OnValue (FewAfter c) (raised c n f x)
  adds-raised c n f (up t) l = adds-settled c t l
  adds-raised c n f (caught_at t q) l = adds-settled c t l
  adds-raised c n f (ended_at t q) l = adds-settled c t l
  adds-raised c n f (blocked m) l = tt
  adds-raised c n f absent l = tt

  -- the last event
  adds-finishes : (c : Config) (n : ℕ) (g : Given) → is_within_few most c.form ≡ true
      → OnValue (FewAfter c) (finishes c n g)
  adds-finishes c zero given.Nothing w = (w, omega arith)
  adds-finishes c n g w = tt

  -- a move and its normal form
  adds-moved : (c : Config) (s : Seen) (m : Move Term) → s.next ≡ c.next → Adds most s (members_in c.form) m
      → FewAfter c (moved c m)
  adds-moved c s m e x = let y = few-normal most m.form m.made.next x.0 in (y.0, omega (arith, x.2, y.1, e))

  -- an event adds no more
  adds-after : (parts : ProgramParts) (service : ℕ) (c : Config) (n : ℕ) (g : Given) (d : Done)
      → is_within_few most c.form ≡ true
      → after parts service c n g ≡ Some d → FewAfter c d
  adds-after parts service c n g d w =
      let s = seen_by parts service c n g in
      of_event (FewAfter c) parts service c n g (λ ended finished. adds-finishes c n g w)
      (λ f going e there. adds-raised c n f.name (throw n f 0 c.form) (left-throw most n f 0 c.form w))
      (λ going none. OnValue-imp (MoveAdds most s 0 c.form) (λ m. FewAfter c (moved c m)) (moves s 0 c.form)
      (λ m h. adds-moved c s m refl (h none w refl)) (keeps-moves (MoveAdds most) (MoveAddsAll most) adds-keeps s 0
      c.form)) d

  -- ---- a run

  -- steps add no more than as many times the bound
  adds-steps : (parts : ProgramParts) (service : ℕ) (steps : List TakenStep) (from final : Config)
      → is_within_few most from.form ≡ true
      → Leads parts service from steps final → drawn_in_all final ≤ most * length steps + drawn_in_all from
  adds-steps parts service [] from final w l = omega (arith, ap drawn_in_all l)
  adds-steps parts service (s ∷ steps) from final w l =
      let x = adds-after parts service from s.event.strand s.gift l.0 w l.1 in
      omega (arith, x.1, adds-steps parts service steps l.0.config final x.0 l.3)

-- an event adds at most as many as one behaviour or one handler has
pub adds_few : AddsFew
adds_few parts service most c n g d large w e = adds-after most large parts service c n g d w e

-- a session draws at most as many times that as it had events, and once more
pub draws_few : DrawsFew
draws_few parts service most p steps final large w l =
    let x = few-begin most p 1 (leb-true (parallel_members p) most w) in
    omega (
      arith,
      x.1,
      leb-true (parallel_members p) most w,
      adds-steps most large parts service steps (first_config p) final
          (and_from (is_within_few most (begin p 1).form) true x.0 refl) l,
    )

-- Only the strands that stand in a form have events there.
use Rattle.std.proofs.Common.{◌≡◌, ℕ, zero, suc, ◌+◌, ◌<◌, Bool, true, false, List, [], ◌∷◌, ◌++◌, length, Option, None, Some, if◌then◌else◌, nat_eq, ◌||◌, refl, sym, ap, ◌∙◌, arith}
use Rattle.std.specs.Prelude.{Contains}
use Rattle.std.proofs.lemmas.Bool.{eqb-true, false≢true}
use Rattle.std.proofs.lemmas.Option.{none-some}
use Rattle.std.proofs.lemmas.List.Elements.{Contains-append_left, Contains-append_right}
use Rattle.behaviour_tree.specs.declared.words.Need.{Need}
use Rattle.behaviour_tree.specs.declared.words.Given.TheVariants as given
use Rattle.behaviour_tree.specs.Data.{ProgramParts}
use Rattle.session_calculus.specs.Terms.{Fault, Term, Strands, done, place, thrown, seq, par, in_scope, exec, fail, wait, dead_wait, prot, no_strands, strand, stands_in, is_within, is_among}
use Rattle.session_calculus.specs.Moves.{Seen, inside}
use Rattle.session_calculus.specs.Faults.{fault_in, fault_among, fault_of}
use Rattle.session_calculus.specs.After.{Config, is_finished, seen_by}
use Rattle.session_forms.specs.Standing.{strands_in, strands_within, strands_among}
use Rattle.session_events.specs.Asked.{asked}
use Rattle.term_session.specs.Asks.{asked_in, asked_among, asked_alone, asked_of_scope, asked_at_end, asked_with, needed}

-- what stands in a form stands in what is around it
inner : (n k : ℕ) (b : Bool) → b ≡ true → nat_eq n k || b ≡ true
inner n k b e = rw e (either (nat_eq n k))
  where
    either : (b : Bool) → b || true ≡ true
    either true = refl
    either false = refl

-- a strand that stands in a form has it, or stands within
own : (b c : Bool) → b ≡ true → b || c ≡ true
own b c e = rw e refl

-- that strand alone asks
asks-alone : (b : Bool) (o : Option Need) (n : Need) → (if b then o else None) ≡ Some n → b ≡ true
asks-alone true o n e = refl
asks-alone false o n e = absurd (none-some n e)

-- that strand alone has a fault
faults-alone : (b : Bool) (o : Option Fault) (f : Fault) → (if b then o else None) ≡ Some f → b ≡ true
faults-alone true o f e = refl
faults-alone false o f e = absurd (none-some f e)

-- what comes of one member or of the others stands in one of them
in_either : {A : Type 0} (b c : Bool) (first others : Option A) (x : A)
    → ◌≡◌ {A = Option A} (elim b [ true ↦ first | false ↦ others ]) (Some x) → (others ≡ Some x → c ≡ true) → b || c ≡ true
in_either true c first others x e h = refl
in_either false c first others x e h = h e

mutual
  -- a strand that asks stands there
  asks-stands : (s : Seen) (k : ℕ) (t : Term) (n : Need) → asked_in s k t ≡ Some n → stands_in s.strand k t ≡ true
  asks-stands s k (place p) n e = own (nat_eq s.strand k) false (asks-alone (nat_eq s.strand k) (asked s p) n e)
  asks-stands s k (seq t rest) n e = asks-stands s k t n e
  asks-stands s k (par ts) n e = inner s.strand k (is_among s.strand ts) (asks-among s ts n e)
  asks-stands s k (in_scope q done h u) n e =
      own (nat_eq s.strand k) false (asks-alone (nat_eq s.strand k) (asked_of_scope u) n e)
  asks-stands s k (in_scope q t h u) n e = asks-stands (inside s q h) k t n e
  asks-stands s k (exec m o y done) n e = own (nat_eq s.strand k) false (asks-alone (nat_eq s.strand k) _ n e)
  asks-stands s k (exec m o y t) n e = asks-stands s k t n e
  asks-stands s k (fail m f t) n e = own (nat_eq s.strand k) (is_within s.strand t) (asks-alone (nat_eq s.strand k) _ n e)
  asks-stands s k (wait c port op x list) n e = own (nat_eq s.strand k) false (asks-alone (nat_eq s.strand k) _ n e)
  asks-stands s k (dead_wait c port op list) n e = own (nat_eq s.strand k) false (asks-alone (nat_eq s.strand k) _ n e)
  asks-stands s k (prot t) n e = asks-stands s k t n e
  asks-stands s k done n e = absurd (none-some n e)
  asks-stands s k (thrown f) n e = absurd (none-some n e)

  -- and among members
  asks-among : (s : Seen) (ts : Strands) (n : Need) → asked_among s ts ≡ Some n → is_among s.strand ts ≡ true
  asks-among s no_strands n e = absurd (none-some n e)
  asks-among s (strand k t ts) n e =
      in_either (stands_in s.strand k t) (is_among s.strand ts) (asked_in s k t) (asked_among s ts) n e (asks-among s ts n)

mutual
  -- a strand that has a fault stands there
  faults-stands : (s : Seen) (k : ℕ) (t : Term) (f : Fault) → fault_in s k t ≡ Some f → stands_in s.strand k t ≡ true
  faults-stands s k (place p) f e = own (nat_eq s.strand k) false (faults-alone (nat_eq s.strand k) (fault_of s p) f e)
  faults-stands s k (thrown g) f e = own (nat_eq s.strand k) false (faults-alone (nat_eq s.strand k) (Some g) f e)
  faults-stands s k (seq t rest) f e = faults-stands s k t f e
  faults-stands s k (par ts) f e = inner s.strand k (is_among s.strand ts) (faults-among s ts f e)
  faults-stands s k (in_scope q t h u) f e = faults-stands (inside s q h) k t f e
  faults-stands s k (exec m o y t) f e = faults-stands s k t f e
  faults-stands s k (prot t) f e = faults-stands s k t f e
  faults-stands s k (fail m g t) f e = absurd (none-some f e)
  faults-stands s k (wait c port op x list) f e = absurd (none-some f e)
  faults-stands s k (dead_wait c port op list) f e = absurd (none-some f e)
  faults-stands s k done f e = absurd (none-some f e)

  -- and among members
  faults-among : (s : Seen) (ts : Strands) (f : Fault) → fault_among s ts ≡ Some f → is_among s.strand ts ≡ true
  faults-among s no_strands f e = absurd (none-some f e)
  faults-among s (strand k t ts) f e =
      in_either (stands_in s.strand k t) (is_among s.strand ts) (fault_in s k t) (fault_among s ts) f e (faults-among s ts f)

-- ---- and these are the strands of the form

-- the first element
at_first : (n k : ℕ) (ks : List ℕ) → n ≡ k → Contains (k ∷ ks) n
at_first n k ks e = (0, omega arith, sym e)

-- an element behind the first
behind_first : (n k : ℕ) (ks : List ℕ) → Contains ks n → Contains (k ∷ ks) n
behind_first n k ks h = Contains-append_right (k ∷ []) ks n h

-- one of two
by_either : (b c : Bool) (P : Type 0) → b || c ≡ true → (b ≡ true → P) → (c ≡ true → P) → P
by_either true c P e f g = f refl
by_either false c P e f g = g e

mutual
  -- a strand that stands within a form is one of its members
  within_contains : (n : ℕ) (t : Term) → is_within n t ≡ true → Contains (strands_within t) n
  within_contains n (seq t rest) e = within_contains n t e
  within_contains n (par ts) e = among_contains n ts e
  within_contains n (in_scope q t h u) e = within_contains n t e
  within_contains n (exec m o y t) e = within_contains n t e
  within_contains n (fail m f t) e = within_contains n t e
  within_contains n (prot t) e = within_contains n t e
  within_contains n done e = absurd (false≢true e)
  within_contains n (place p) e = absurd (false≢true e)
  within_contains n (thrown f) e = absurd (false≢true e)
  within_contains n (wait c port op x list) e = absurd (false≢true e)
  within_contains n (dead_wait c port op list) e = absurd (false≢true e)

  -- the same of members
  among_contains : (n : ℕ) (ts : Strands) → is_among n ts ≡ true → Contains (strands_among ts) n
  among_contains n no_strands e = absurd (false≢true e)
  among_contains n (strand k t ts) e =
      by_either (stands_in n k t) (is_among n ts) (Contains (strands_among (strand k t ts)) n) e
      (λ b. Contains-append_left (k ∷ strands_within t) (strands_among ts) n
      (by_either (nat_eq n k) (is_within n t) (Contains (k ∷ strands_within t) n) b
      (λ e. at_first n k (strands_within t) (eqb-true n k e))
      (λ e. behind_first n k (strands_within t) (within_contains n t e))))
      (λ b. Contains-append_right (k ∷ strands_within t) (strands_among ts) n (among_contains n ts b))

-- a strand that stands in a form is one of its strands
pub stands-contains : (n k : ℕ) (t : Term) → stands_in n k t ≡ true → Contains (strands_in k t) n
stands-contains n k t e =
    by_either (nat_eq n k) (is_within n t) (Contains (strands_in k t) n) e
    (λ e. at_first n k (strands_within t) (eqb-true n k e))
    (λ e. behind_first n k (strands_within t) (within_contains n t e))

-- a strand that needs something is one of the strands of the configuration
pub needs-contains : (parts : ProgramParts) (service : ℕ) (c : Config) (n : ℕ) (m : Need)
    → needed parts service c n ≡ Some m → Contains (strands_in 0 c.form) n
needs-contains parts service c n m e = go c.ended (is_finished c.form) (fault_in s 0 c.form) refl e
  where
    s : Seen
    s = seen_by parts service c n given.Nothing

    zero_alone : (n : ℕ) → asked_at_end n ≡ Some m → n ≡ 0
    zero_alone zero e = refl
    zero_alone (suc n) e = absurd (none-some m e)

    go : (ended finished : Bool) (o : Option Fault) → fault_in s 0 c.form ≡ o
        → (if ended then None else (if finished then asked_at_end n else asked_with s c.form o)) ≡ Some m
        → Contains (strands_in 0 c.form) n
    go true finished o f e = absurd (none-some m e)
    go false true o f e = at_first n 0 (strands_within c.form) (zero_alone n e)
    go false false (Some f) there e = stands-contains n 0 c.form (faults-stands s 0 c.form f there)
    go false false None none e = stands-contains n 0 c.form (asks-stands s 0 c.form m e)

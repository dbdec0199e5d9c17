-- A strand that has an event stands in the form, so that its number is below the next.
use Rattle.std.proofs.Common.{◌≡◌, ℕ, zero, suc, Bool, true, false, ◌&&◌, ◌||◌, List, [], ◌∷◌, ◌++◌, Option, None, Some, is_some, option_map, if◌then◌else◌, nat_eq, refl, sym, ap, subst, ◌∙◌}
use Rattle.std.specs.Prelude.{nat_lt}
use Rattle.std.specs.List.{list_all}
use Rattle.std.proofs.lemmas.Bool.{false≢true}
use Rattle.std.specs.Cmp.{unsigned_Decides}
use Rattle.behaviour_tree.specs.declared.words.Given.{Given}
use Rattle.behaviour_tree.specs.declared.words.Given.TheVariants as given
use Rattle.behaviour_tree.specs.Data.{ProgramParts}
use Rattle.session_calculus.specs.Terms.{Fault, Term, Strands, done, place, thrown, seq, par, in_scope, exec, fail, wait, dead_wait, prot, no_strands, strand, is_within, is_among, stands_in}
use Rattle.session_calculus.specs.Moves.{Seen, Move, in_strand, ungiven, within, inside, in_its_scope}
use Rattle.session_calculus.specs.Faults.{fault_of, fault_in, fault_among}
use Rattle.session_calculus.specs.Replies.{outcome_of_fault, reply_of, replies}
use Rattle.session_calculus.specs.Answers.{call_of, answers, dead_answers, with_answer}
use Rattle.session_calculus.specs.Scopes.{scope_acts}
use Rattle.session_calculus.specs.After.{Config, Done, act, moves, moves_among, is_finished, raises, moved, acts, finishes, seen_by, after}
use Rattle.session_calculus.specs.Sound.{strands_of, strands_among}

-- ---- the form that acts

-- what a strand has at its own place
own : {A : Type 0} (b w : Bool) (o : Option A) → is_some (if b then o else None) ≡ true → (b || w) ≡ true
own true w o h = refl
own false w o h = absurd (false≢true h)

-- what is mapped is there
of_mapped : {A B : Type 0} (f : A → B) (o : Option A) → is_some (option_map f o) ≡ true → is_some o ≡ true
of_mapped f None h = h
of_mapped f (Some x) h = refl

pub or_right : (a b : Bool) → b ≡ true → (a || b) ≡ true
or_right true b h = refl
or_right false b h = h

-- what is there in the member that the test chooses, or in the others
member : {A : Type 0} (b w : Bool) (o p : Option A) → (is_some p ≡ true → w ≡ true)
    → is_some (elim b [ true ↦ o | false ↦ p ]) ≡ true → (b || w) ≡ true
member true w o p f h = refl
member false w o p f h = f h

mutual
  -- a strand that moves stands in the form
  stands-moves : (s : Seen) (k : ℕ) (t : Term) → is_some (moves s k t) ≡ true → stands_in s.strand k t ≡ true
  stands-moves s k (place p) h = own (nat_eq s.strand k) false (act s p) h
  stands-moves s k (seq t rest) h = stands-moves s k t (of_mapped (within (λ t'. seq t' rest)) (moves s k t) h)
  stands-moves s k (par ts) h =
      or_right (nat_eq s.strand k) (is_among s.strand ts)
      (stands-among s ts (of_mapped (within par) (moves_among s ts) h))
  stands-moves s k (in_scope q done c u) h =
      own (nat_eq s.strand k) false (elim (scope_acts s q c u) [ None ↦ None | Some m ↦ ungiven s m ]) h
  stands-moves s k (in_scope q t c u) h =
      stands-moves (inside s q c) k t (of_mapped (in_its_scope s q u) (moves (inside s q c) k t) h)
  stands-moves s k (exec m o y done) h =
      own (nat_eq s.strand k) false (ungiven s (replies s m (reply_of s o y) done)) h
  stands-moves s k (exec m o y t) h = stands-moves s k t (of_mapped (within (exec m o y)) (moves s k t) h)
  stands-moves s k (fail m f t) h =
      own (nat_eq s.strand k) (is_within s.strand t) (ungiven s (replies s m (outcome_of_fault s.parts f) t)) h
  stands-moves s k (wait n port op x list) h =
      let c = call_of n port op in own (nat_eq s.strand k) false (with_answer s c (answers s c x list)) h
  stands-moves s k (dead_wait n port op list) h =
      let c = call_of n port op in own (nat_eq s.strand k) false (with_answer s c (dead_answers s c list)) h
  stands-moves s k (prot t) h = stands-moves s k t (of_mapped (within prot) (moves s k t) h)
  stands-moves s k t h = absurd (false≢true h)

  stands-among : (s : Seen) (ts : Strands) → is_some (moves_among s ts) ≡ true → is_among s.strand ts ≡ true
  stands-among s no_strands h = absurd (false≢true h)
  stands-among s (strand k t ts) h =
      member (stands_in s.strand k t) (is_among s.strand ts) (option_map (within (λ t'. strand k t' ts)) (moves s k t))
      (option_map (within (strand k t)) (moves_among s ts))
      (λ there. stands-among s ts (of_mapped (within (strand k t)) (moves_among s ts) there)) h

mutual
  -- so does one that has a fault
  stands-fault : (s : Seen) (k : ℕ) (t : Term) → is_some (fault_in s k t) ≡ true → stands_in s.strand k t ≡ true
  stands-fault s k (place p) h = own (nat_eq s.strand k) false (fault_of s p) h
  stands-fault s k (thrown f) h = own (nat_eq s.strand k) false (Some f) h
  stands-fault s k (seq t rest) h = stands-fault s k t h
  stands-fault s k (par ts) h = or_right (nat_eq s.strand k) (is_among s.strand ts) (faults-among s ts h)
  stands-fault s k (in_scope q t c u) h = stands-fault (inside s q c) k t h
  stands-fault s k (exec m o y t) h = stands-fault s k t h
  stands-fault s k (prot t) h = stands-fault s k t h
  stands-fault s k t h = absurd (false≢true h)

  faults-among : (s : Seen) (ts : Strands) → is_some (fault_among s ts) ≡ true → is_among s.strand ts ≡ true
  faults-among s no_strands h = absurd (false≢true h)
  faults-among s (strand k t ts) h =
      member (stands_in s.strand k t) (is_among s.strand ts) (fault_in s k t) (fault_among s ts) (faults-among s ts) h

stands-acts : (c : Config) (s : Seen) → is_some (acts c s) ≡ true → stands_in s.strand 0 c.form ≡ true
stands-acts c s = by (fault_in s 0 c.form) refl
  where
    by : (o : Option Fault) → fault_in s 0 c.form ≡ o
        → is_some (elim o [ Some f ↦ raises c s.strand s.gift f | None ↦ option_map (moved c) (moves s 0 c.form) ]) ≡ true
        → stands_in s.strand 0 c.form ≡ true
    by (Some f) e h = stands-fault s 0 c.form (ap is_some e)
    by None e h = stands-moves s 0 c.form (of_mapped (moved c) (moves s 0 c.form) h)

stands-finishes : (c : Config) (n : ℕ) (g : Given) → is_some (finishes c n g) ≡ true → stands_in n 0 c.form ≡ true
stands-finishes c zero given.Nothing h = refl
stands-finishes c n g h = absurd (false≢true h)

stands-after : (parts : ProgramParts) (service : ℕ) (c : Config) (n : ℕ) (g : Given)
    → is_some (after parts service c n g) ≡ true → stands_in n 0 c.form ≡ true
stands-after parts service c n g = by c.ended (is_finished c.form)
  where
    by : (ended finished : Bool)
        → is_some (elim ended [
          | true ↦ None
          | false ↦ elim finished [ true ↦ finishes c n g | false ↦ acts c (seen_by parts service c n g) ]
        ]) ≡ true
        → stands_in n 0 c.form ≡ true
    by true finished h = absurd (false≢true h)
    by false true h = stands-finishes c n g h
    by false false h = stands-acts c (seen_by parts service c n g) h

-- ---- below the next

pub both_left : (a b : Bool) → (a && b) ≡ true → a ≡ true
both_left true b h = refl
both_left false b h = h

pub both_right : (a b : Bool) → (a && b) ≡ true → b ≡ true
both_right true b h = h
both_right false b h = absurd (false≢true h)

-- all of two lists
all_first : {A : Type 0} (p : A → Bool) (xs ys : List A) → list_all p (xs ++ ys) ≡ true → list_all p xs ≡ true
all_first p [] ys h = refl
all_first p (x ∷ xs) ys h =
    (λ i. both_left (p x) (list_all p (xs ++ ys)) h i && all_first p xs ys (both_right (p x) (list_all p (xs ++ ys)) h) i)

all_last : {A : Type 0} (p : A → Bool) (xs ys : List A) → list_all p (xs ++ ys) ≡ true → list_all p ys ≡ true
all_last p [] ys h = h
all_last p (x ∷ xs) ys h = all_last p xs ys (both_right (p x) (list_all p (xs ++ ys)) h)

-- a number that is another one is below what that is
is_below : (most n k : ℕ) → nat_eq n k ≡ true → nat_lt k most ≡ true → nat_lt n most ≡ true
is_below most n k e h = ap (λ m. nat_lt m most) ((unsigned_Decides n k).0 e) ∙ h

-- what is below, by which of two it is
by_either : (most n : ℕ) (a b : Bool) → (a ≡ true → nat_lt n most ≡ true) → (b ≡ true → nat_lt n most ≡ true)
    → (a || b) ≡ true → nat_lt n most ≡ true
by_either most n true b f g h = f refl
by_either most n false b f g h = g h

mutual
  below-within : (most n : ℕ) (t : Term) → list_all (λ m. nat_lt m most) (strands_of t) ≡ true → is_within n t ≡ true
      → nat_lt n most ≡ true
  below-within most n (seq t rest) a h = below-within most n t a h
  below-within most n (par ts) a h = below-among most n ts a h
  below-within most n (in_scope q t c u) a h = below-within most n t a h
  below-within most n (exec m o y t) a h = below-within most n t a h
  below-within most n (fail m f t) a h = below-within most n t a h
  below-within most n (prot t) a h = below-within most n t a h
  below-within most n t a h = absurd (false≢true h)

  below-among : (most n : ℕ) (ts : Strands) → list_all (λ m. nat_lt m most) (strands_among ts) ≡ true → is_among n ts ≡ true
      → nat_lt n most ≡ true
  below-among most n no_strands a h = absurd (false≢true h)
  below-among most n (strand k t ts) a h =
      let lower : ℕ → Bool = λ m. nat_lt m most in
      let rest = both_right (lower k) (list_all lower (strands_of t ++ strands_among ts)) a in
      by_either most n (nat_eq n k || is_within n t) (is_among n ts)
      (by_either most n (nat_eq n k) (is_within n t)
      (λ e. is_below most n k e (both_left (lower k) (list_all lower (strands_of t ++ strands_among ts)) a))
      (below-within most n t (all_first lower (strands_of t) (strands_among ts) rest)))
      (below-among most n ts (all_last lower (strands_of t) (strands_among ts) rest)) h

-- a strand that has an event is below the next, where all are
pub acts_below : (parts : ProgramParts) (service : ℕ) (c : Config) (n : ℕ) (g : Given)
    → list_all (λ m. nat_lt m c.next) (0 ∷ strands_of c.form) ≡ true
    → is_some (after parts service c n g) ≡ true → nat_lt n c.next ≡ true
acts_below parts service c n g a h =
    let lower : ℕ → Bool = λ m. nat_lt m c.next in
    by_either c.next n (nat_eq n 0) (is_within n c.form)
    (λ e. is_below c.next n 0 e (both_left (lower 0) (list_all lower (strands_of c.form)) a))
    (below-within c.next n c.form (both_right (lower 0) (list_all lower (strands_of c.form)) a))
    (stands-after parts service c n g h)

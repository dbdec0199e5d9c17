-- The key of a session in each set, once a variable of it is written.
use Rattle.std.proofs.Common.{◌≡◌, ℕ, Bool, true, false, not, ◌&&◌, ◌||◌, if◌then◌else◌, nat_eq, List, [], ◌∷◌, ◌++◌, map, Option, Some, None, is_some, option_map, refl, sym, ap, subst, ◌∙◌, arith}
use Rattle.std.specs.Prelude.{option_and_then}
use Rattle.std.specs.Option.{is_none}
use Rattle.std.specs.List.{list_all, list_any}
use Rattle.std.proofs.lemmas.Bool.{false≢true}
use Rattle.jolie_trees.specs.declared.root.Root.{Root}
use Rattle.correlation.specs.Sessions.{SetKey, all_there, are_sets, completed, differ, first, key_in, key_of, key_with, set_with, value_of, variables_of, write}
use Rattle.correlation.specs.declared.session.Session.{Session}
use Rattle.correlation.specs.declared.session.SetOf.{SetOf}
use Rattle.correlation.specs.declared.session.Written.{Written}
use Rattle.correlation.proofs.Halving.{and_left, and_right}
use Rattle.correlation.proofs.KeySets.{is_that, itself}

-- ---- tests

-- neither of two
or_left : (a b : Bool) → a || b ≡ false → a ≡ false
or_left true b e = absurd (false≢true (sym e))
or_left false b e = refl

or_right : (a b : Bool) → a || b ≡ false → b ≡ false
or_right true b e = absurd (false≢true (sym e))
or_right false b e = e

-- the opposite
pub is_false : (b : Bool) → not b ≡ true → b ≡ false
is_false true e = absurd (false≢true e)
is_false false e = refl

-- what is not there
pub nothing : (o : Option Root) → is_some o ≡ false → o ≡ None
nothing None e = refl
nothing (Some r) e = absurd (false≢true (sym e))

-- ---- values

-- a variable that was not written has no value; the others have theirs
value_stays : (ws : List Written) (w : Written) (u : ℕ) → nat_eq w.variable u ≡ false → value_of (ws ++ w ∷ []) u ≡ value_of ws u
value_stays [] w u e = ap (λ b. if b then Some w.value else None) e
value_stays (x ∷ xs) w u e = ap (λ o. if nat_eq x.variable u then Some x.value else o) (value_stays xs w u e)

-- a value and those behind it
follows : (o : Option Root) (l m : List (Option Root)) → all_there l ≡ all_there m → all_there (o ∷ l) ≡ all_there (o ∷ m)
follows None l m e = refl
follows (Some r) l m e = ap (option_map (λ ys. r ∷ ys)) e

-- a value that is not there
lacks : (o : Option Root) (l : List (Option Root)) → all_there l ≡ None → all_there (o ∷ l) ≡ None
lacks None l e = refl
lacks (Some r) l e = ap (option_map (λ ys. r ∷ ys)) e

-- the values of other variables stay
values_stay : (ws : List Written) (w : Written) (vs : List ℕ) → list_any (nat_eq w.variable) vs ≡ false
    → all_there (map (value_of (ws ++ w ∷ [])) vs) ≡ all_there (map (value_of ws) vs)
values_stay ws w [] h = refl
values_stay ws w (u ∷ us) h =
    ap (λ o. all_there (o ∷ map (value_of (ws ++ w ∷ [])) us)) (value_stays ws w u (or_left (nat_eq w.variable u) (list_any (nat_eq w.variable) us) h))
    ∙ follows (value_of ws u) (map (value_of (ws ++ w ∷ [])) us) (map (value_of ws) us) (values_stay ws w us (or_right (nat_eq w.variable u) (list_any (nat_eq w.variable) us) h))

-- without one of them they are not all there
incomplete : (ws : List Written) (v : ℕ) (vs : List ℕ) → list_any (nat_eq v) vs ≡ true → value_of ws v ≡ None → all_there (map (value_of ws) vs) ≡ None
incomplete ws v [] h e = absurd (false≢true h)
incomplete ws v (u ∷ us) h e = go (nat_eq v u) refl h (λ g. incomplete ws v us g e)
  where
    go : (b : Bool) → nat_eq v u ≡ b → b || list_any (nat_eq v) us ≡ true
        → (list_any (nat_eq v) us ≡ true → all_there (map (value_of ws) us) ≡ None) → all_there (map (value_of ws) (u ∷ us)) ≡ None
    go true f g i = ap (λ o. all_there (o ∷ map (value_of ws) us)) (ap (value_of ws) (sym (is_that v u f)) ∙ e)
    go false f g i = lacks (value_of ws u) (map (value_of ws) us) (i g)

-- ---- sets

-- a set that comes later has another number
other_number : (v : ℕ) (s t : SetOf) (ss : List SetOf) → list_all (differ s) ss ≡ true → set_with v ss ≡ Some t → nat_eq s.set t.set ≡ false
other_number v s t [] h e = absurd (false≢true (sym (ap is_none e)))
other_number v s t (u ∷ us) h e = go (list_any (nat_eq v) u.variables) e (λ f. other_number v s t us (and_right (differ s u) (list_all (differ s) us) h) f)
  where
    go : (b : Bool) → (if b then Some u else set_with v us) ≡ Some t → (set_with v us ≡ Some t → nat_eq s.set t.set ≡ false) → nat_eq s.set t.set ≡ false
    go true f i =
        let two = and_left (differ s u) (list_all (differ s) us) h in
        let number = is_false (nat_eq s.set u.set) (and_left (not (nat_eq s.set u.set)) (not (list_any (λ x. list_any (nat_eq x) u.variables) s.variables)) two) in
        let g : Some u ≡ Some t = f in
        let same : u ≡ t = cc in
        subst (λ (x : SetOf). nat_eq s.set x.set ≡ false) same number
    go false f i = i f

-- a variable of one list is in no list that shares none with it
not_in : (v : ℕ) (vs us : List ℕ) → list_any (λ x. list_any (nat_eq x) us) vs ≡ false → list_any (nat_eq v) vs ≡ true → list_any (nat_eq v) us ≡ false
not_in v [] us h e = absurd (false≢true e)
not_in v (x ∷ xs) us h e =
    go (nat_eq v x) refl e (λ g. not_in v xs us (or_right (list_any (nat_eq x) us) (list_any (λ y. list_any (nat_eq y) us) xs) h) g)
  where
    go : (b : Bool) → nat_eq v x ≡ b → b || list_any (nat_eq v) xs ≡ true → (list_any (nat_eq v) xs ≡ true → list_any (nat_eq v) us ≡ false) → list_any (nat_eq v) us ≡ false
    go true f g i = ap (λ y. list_any (nat_eq y) us) (is_that v x f) ∙ or_left (list_any (nat_eq x) us) (list_any (λ y. list_any (nat_eq y) us) xs) h
    go false f g i = i g

-- a variable is not among those of a set, if there is one
abbrev pub Lacks : ℕ → Option (List ℕ) → Type 0
Lacks v None = Unit {0}
Lacks v (Some vs) = list_any (nat_eq v) vs ≡ false

lacks_more : (v : ℕ) (b : Bool) (vs : List ℕ) (o : Option (List ℕ)) → list_any (nat_eq v) vs ≡ false → Lacks v o → Lacks v (if b then Some vs else o)
lacks_more v true vs o e i = e
lacks_more v false vs o e i = i

-- a variable of one set is in none of later sets
later_lack : (v n : ℕ) (s : SetOf) (ss : List SetOf) → list_all (differ s) ss ≡ true → list_any (nat_eq v) s.variables ≡ true → Lacks v (variables_of n ss)
later_lack v n s [] h e = tt
later_lack v n s (u ∷ us) h e =
    let two = and_left (differ s u) (list_all (differ s) us) h in
    let shares = list_any (λ x. list_any (nat_eq x) u.variables) s.variables in
    let apart = is_false shares (and_right (not (nat_eq s.set u.set)) (not shares) two) in
    lacks_more v (nat_eq u.set n) u.variables (variables_of n us) (not_in v s.variables u.variables apart e)
    (later_lack v n s us (and_right (differ s u) (list_all (differ s) us) h) e)

-- no set has a variable
none_has : (v n : ℕ) (ss : List SetOf) → set_with v ss ≡ None → Lacks v (variables_of n ss)
none_has v n [] e = tt
none_has v n (s ∷ ss) e = go (list_any (nat_eq v) s.variables) refl e (λ g. none_has v n ss g)
  where
    go : (b : Bool) → list_any (nat_eq v) s.variables ≡ b → (if b then Some s else set_with v ss) ≡ None
        → (set_with v ss ≡ None → Lacks v (variables_of n ss)) → Lacks v (variables_of n (s ∷ ss))
    go true f g i = absurd (false≢true (ap is_none g))
    go false f g i = lacks_more v (nat_eq s.set n) s.variables (variables_of n ss) f (i g)

-- the set that has a variable: its number names it, and no set of another number has the variable
pub record IsSetWith (v : ℕ) (sets : List SetOf) (t : SetOf) : Type 0 where
  pub named : variables_of t.set sets ≡ Some t.variables
  pub has : list_any (nat_eq v) t.variables ≡ true
  pub others : (n : ℕ) → nat_eq t.set n ≡ false → Lacks v (variables_of n sets)

pub set_found : (v : ℕ) (sets : List SetOf) (t : SetOf) → are_sets sets ≡ true → set_with v sets ≡ Some t → IsSetWith v sets t
set_found v [] t h e = absurd (false≢true (sym (ap is_none e)))
set_found v (s ∷ ss) t h e =
    let front = is_some (first s.variables) && list_all (differ s) ss in
    let later = and_right (is_some (first s.variables)) (list_all (differ s) ss) (and_left front (are_sets ss) h) in
    go later (list_any (nat_eq v) s.variables) refl e (λ g. set_found v ss t (and_right front (are_sets ss) h) g)
  where
    go : list_all (differ s) ss ≡ true → (b : Bool) → list_any (nat_eq v) s.variables ≡ b → (if b then Some s else set_with v ss) ≡ Some t
        → (set_with v ss ≡ Some t → IsSetWith v ss t) → IsSetWith v (s ∷ ss) t
    go later true f g i =
        let k : Some s ≡ Some t = g in
        let same : s ≡ t = cc in
        subst (IsSetWith v (s ∷ ss)) same (record {
          named = ap (λ b. if b then Some s.variables else variables_of s.set ss) (itself s.set s.set refl);
          has = f;
          others = λ n d. subst (Lacks v) (sym (ap (λ b. if b then Some s.variables else variables_of n ss) d)) (later_lack v n s ss later f);
        })
    go later false f g i =
        let rest = i g in
        record {
          named = ap (λ b. if b then Some s.variables else variables_of t.set ss) (other_number v s t ss later g) ∙ rest.named;
          has = rest.has;
          others = λ n d. lacks_more v (nat_eq s.set n) s.variables (variables_of n ss) f (rest.others n d);
        }

-- ---- keys

-- a variable and a value
abbrev pub next : ℕ → Root → Written
next v x = record { variable = v; value = x }

-- the key of a set that lacks the variable stays
key_stays : (s : Session) (v : ℕ) (x : Root) (n : ℕ) → Lacks v (variables_of n s.sets) → key_of (write v x s) n ≡ key_of s n
key_stays s v x n h = go s.released (variables_of n s.sets) h
  where
    go : (b : Bool) (o : Option (List ℕ)) → Lacks v o
        → (if b then None else option_and_then (λ vs. all_there (map (value_of (s.written ++ next v x ∷ [])) vs)) o)
        ≡ (if b then None else option_and_then (λ vs. all_there (map (value_of s.written) vs)) o)
    go true o l = refl
    go false None l = refl
    go false (Some vs) l = values_stay s.written (next v x) vs l

-- before the variable is written the key of its set is not complete
key_lacks : (s : Session) (v : ℕ) (t : SetOf) → IsSetWith v s.sets t → value_of s.written v ≡ None → key_of s t.set ≡ None
key_lacks s v t f e = go s.released
  where
    go : (b : Bool) → (if b then None else option_and_then (λ vs. all_there (map (value_of s.written) vs)) (variables_of t.set s.sets)) ≡ None
    go true = refl
    go false = ap (option_and_then (λ vs. all_there (map (value_of s.written) vs))) f.named ∙ incomplete s.written v t.variables f.has e

-- a value completes the key of one set, and those of the others stay
pub record Fills (s : Session) (v : ℕ) (x : Root) (k : SetKey) : Type 0 where
  pub before : key_of s k.set ≡ None
  pub after : key_of (write v x s) k.set ≡ Some k.values
  pub others : (n : ℕ) → nat_eq k.set n ≡ false → key_of (write v x s) n ≡ key_of s n

-- what becomes of keys where a value completes a key, or none
abbrev pub Completes : Session → ℕ → Root → Option SetKey → Type 0
Completes s v x None = (n : ℕ) → key_of (write v x s) n ≡ key_of s n
Completes s v x (Some k) = Fills s v x k

pub completes : (s : Session) (v : ℕ) (x : Root) → are_sets s.sets ≡ true → value_of s.written v ≡ None → Completes s v x (completed s v x)
completes s v x h e = go (set_with v s.sets) refl
  where
    found : (t : SetOf) → IsSetWith v s.sets t → (k : Option (List Root)) → key_of (write v x s) t.set ≡ k → Completes s v x (key_in t.set k)
    found t f None g = λ n. each n (nat_eq t.set n) refl
      where
        each : (n : ℕ) (b : Bool) → nat_eq t.set n ≡ b → key_of (write v x s) n ≡ key_of s n
        each n true d = subst (λ m. key_of (write v x s) m ≡ key_of s m) (is_that t.set n d) (g ∙ sym (key_lacks s v t f e))
        each n false d = key_stays s v x n (f.others n d)
    found t f (Some k) g = record {
      before = key_lacks s v t f e;
      after = g;
      others = λ n d. key_stays s v x n (f.others n d);
    }

    go : (o : Option SetOf) → set_with v s.sets ≡ o → Completes s v x (option_and_then (λ (t : SetOf). key_in t.set (key_of (write v x s) t.set)) o)
    go None f = λ n. key_stays s v x n (none_has v n s.sets f)
    go (Some t) f = found t (set_found v s.sets t h f) (key_of (write v x s) t.set) refl

-- ---- what the code finds

-- the key in the set that has a variable, of a live session
pub key_found : (s : Session) (v : ℕ) (t : SetOf) → s.released ≡ false → are_sets s.sets ≡ true → Some t ≡ set_with v s.sets
    → key_in t.set (all_there (map (value_of s.written) t.variables)) ≡ key_with v s
key_found s v t l h e =
    let f = set_found v s.sets t h (sym e) in
    let key = ap (λ b. if b then None else option_and_then (λ vs. all_there (map (value_of s.written) vs)) (variables_of t.set s.sets)) l
    ∙ ap (option_and_then (λ vs. all_there (map (value_of s.written) vs))) f.named in
    ap (key_in t.set) (sym key) ∙ ap (option_and_then (λ (u : SetOf). key_in u.set (key_of s u.set))) e

-- where no set has it there is none
pub no_key : (s : Session) (v : ℕ) → None ≡ set_with v s.sets → None ≡ key_with v s
no_key s v e = ap (option_and_then (λ (u : SetOf). key_in u.set (key_of s u.set))) e

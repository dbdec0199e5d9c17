-- What is written into the variables of a session, one after the other, is all written.
use Rattle.std.proofs.Common.{◌≡◌, ◌≤◌, ◌<◌, ℕ, zero, suc, ◌+◌, Bool, true, false, not, ◌&&◌, ◌||◌, List, [], ◌∷◌, ◌++◌, map, length, drop, get_or, refl, sym, ap, subst, ◌∙◌, Option, None, Some, option_copied, Bor, true≢false, arith}
use Rattle.std.specs.Prelude.{nat_eq, flat_map, if◌then◌else◌}
use Rattle.std.specs.List.{cons_option, filter_map}
use Rattle.std.proofs.lemmas.List.{length-map}
use Rattle.std.proofs.lemmas.List.Elements.{filter_map-append}
use Rattle.jolie_trees.specs.declared.root.Root.{Root}
use Rattle.jolie_trees.specs.Data.{Tree}
use Rattle.behaviour_tree.specs.Data.{TypeTree}
use Rattle.behaviour_tree.specs.PartsView.{set_view, variable_view}
use Rattle.behaviour_tree.specs.declared.program.CorrelationSet.{CorrelationSet}
use Rattle.behaviour_tree.specs.declared.program.SetVariable.{SetVariable}
use Rattle.correlation.specs.declared.bind_reply.BindReply.TheVariants as reply
use Rattle.correlation.specs.declared.session.SetOf.{SetOf}
use Rattle.correlation.specs.declared.session.Session.{Session}
use Rattle.correlation.specs.declared.session.Written.{Written}
use Rattle.correlation.specs.Sessions.{changed, is_born, is_live, newborn, reply_to, write}
use Rattle.office_core.specs.Keys.{value_of, variables_from, sets_from}
use Rattle.office_plain.specs.Lookups.{variable_of, value_in}
use Rattle.office_plain.proofs.Paths.{next_of}
use Rattle.office_plain.proofs.Variables.{value_free}
use Rattle.office_plain.specs.Accepting.{write_all, written_by, written_into, CanWrite}
use Rattle.office_plain.proofs.Lists.{itself}

append_nil : {A : Type 0} (xs : List A) → xs ++ [] ≡ xs
append_nil [] = refl
append_nil (x ∷ xs) = ap (λ l. x ∷ l) (append_nil xs)

append_assoc : {A : Type 0} (xs ys zs : List A) → (xs ++ ys) ++ zs ≡ xs ++ (ys ++ zs)
append_assoc [] ys zs = refl
append_assoc (x ∷ xs) ys zs = ap (λ l. x ∷ l) (append_assoc xs ys zs)

-- a session with this written
abbrev with_written : Session → List Written → Session
with_written s ws = record { number = s.number; sets = s.sets; written = ws; released = s.released }

-- ---- one after the other

twice_one : (n : ℕ) (a b : List Written) (s : Session) (t : Bool) → nat_eq s.number n ≡ t
    → (if nat_eq (if t then write_all a s else s).number n then write_all b (if t then write_all a s else s)
    else (if t then write_all a s else s))
    ≡ (if t then write_all (a ++ b) s else s)
twice_one n a b s true e =
    ap (λ x. if x then write_all b (write_all a s) else write_all a s) e
    ∙ ap (with_written s) (append_assoc s.written a b)
twice_one n a b s false e = ap (λ x. if x then write_all b s else s) e

none_left : {A : Type 0} (xs : List A) (i : ℕ) → length xs ≤ i → drop i xs ≡ []
none_left [] zero h = refl
none_left [] (suc i) h = refl
none_left (x ∷ xs) zero h = absurd (omega (arith, h))
none_left (x ∷ xs) (suc i) h = none_left xs i (omega (arith, h))

-- what is written after something else is written behind it
pub written_twice : (n : ℕ) (a b : List Written) (rows : List Session)
    → changed n (write_all b) (changed n (write_all a) rows) ≡ changed n (write_all (a ++ b)) rows
written_twice n a b [] = refl
written_twice n a b (s ∷ rows) = λ i. twice_one n a b s (nat_eq s.number n) refl i ∷ written_twice n a b rows i

none_one : (n : ℕ) (s : Session) (t : Bool) → (if t then write_all [] s else s) ≡ s
none_one n s true = ap (with_written s) (append_nil s.written)
none_one n s false = refl

-- where nothing is written sessions stay
pub written_none : (n : ℕ) (rows : List Session) → changed n (write_all []) rows ≡ rows
written_none n [] = refl
written_none n (s ∷ rows) = λ i. none_one n s (nat_eq s.number n) i ∷ written_none n rows i

-- of values that can be written one after the other, the first ones can be
can_before : (n : ℕ) (rows : List Session) (a b : List Written) → CanWrite n rows (a ++ b) → CanWrite n rows a
can_before n rows [] b can = tt
can_before n rows (x ∷ a) b can = (can.0, can_before n (changed n (write x.variable x.value) rows) a b can.1)

-- and then the others
can_behind : (n : ℕ) (rows : List Session) (a b : List Written) → CanWrite n rows (a ++ b)
    → CanWrite n (changed n (write_all a) rows) b
can_behind n rows [] b can = subst (λ l. CanWrite n l b) (sym (written_none n rows)) can
can_behind n rows (x ∷ a) b can =
    subst (λ l. CanWrite n l b) (written_twice n (x ∷ []) a rows)
    (can_behind n (changed n (write x.variable x.value) rows) a b can.1)

live_one : (n : ℕ) (ws : List Written) (s : Session) (t : Bool) → nat_eq s.number n ≡ t
    → (nat_eq (if t then write_all ws s else s).number n && not (if t then write_all ws s else s).released)
    ≡ (nat_eq s.number n && not s.released)
live_one n ws s true e = refl
live_one n ws s false e = refl

-- a session lives where something is written into its variables as it did
pub live_still : (n : ℕ) (ws : List Written) (rows : List Session)
    → is_live (changed n (write_all ws) rows) n ≡ is_live rows n
live_still n ws [] = refl
live_still n ws (s ∷ rows) = λ i. live_one n ws s (nat_eq s.number n) refl i || live_still n ws rows i

-- a session in whose variables something was written lives as it did
pub live_written : (n : ℕ) (ws : List Written) (rows new : List Session) → new ≡ changed n (write_all ws) rows
    → is_live rows n ≡ true → is_live new n ≡ true
live_written n ws rows new are live = ap (λ l. is_live l n) are ∙ live_still n ws rows ∙ live

-- ---- one value

-- what a value, where there is one, makes of sessions when it is written into a variable
abbrev pub with_value : ℕ → ℕ → List Session → Option (Bor Root) → List Session
with_value n k rows o = changed n (write_all (cons_option (written_into k (option_copied o)) [])) rows

pub value_none : (n k : ℕ) (o : Option (Bor Root)) (rows : List Session) → o ≡ None → rows ≡ with_value n k rows o
value_none n k o rows none = sym (ap (with_value n k rows) none ∙ written_none n rows)

pub value_some : (n k : ℕ) (o : Option (Bor Root)) (r : Bor Root) (x : Root) (rows new : List Session) → o ≡ Some r
    → x ≡ r.now → new ≡ changed n (write k x) rows → new ≡ with_value n k rows o
value_some n k o r x rows new some same are =
    are ∙ ap (λ y. changed n (write_all (record { variable = k; value = y } ∷ [])) rows) same
    ∙ sym (ap (with_value n k rows) some)

-- it can be written where it is there
pub value_can : (n k : ℕ) (o : Option (Bor Root)) (r : Bor Root) (x : Root) (rows : List Session) → o ≡ Some r
    → x ≡ r.now → CanWrite n rows (cons_option (written_into k (option_copied o)) [])
    → reply_to rows n k x ≡ Some reply.Bound
value_can n k o r x rows some same can =
    ap (reply_to rows n k) same
    ∙ (subst (λ p. CanWrite n rows (cons_option (written_into k (option_copied p)) [])) some can).0

-- ---- the variables of a message

first_before : (o : Option Written) (ws : List Written) → cons_option o [] ++ ws ≡ cons_option o ws
first_before None ws = refl
first_before (Some w) ws = refl

-- what a tree writes into variables from that of a place on, the first of which has the number k
abbrev pub writes_on : TypeTree → Tree → ℕ → ℕ → List SetVariable → List Written
writes_on ty t k i vs = filter_map (written_by ty t) (variables_from k (map variable_view (drop i vs)))

-- what is written from a variable on: into it, and into those behind it
variable_split : (k next i : ℕ) (ty : TypeTree) (t : Tree) (vs : List SetVariable) (v : SetVariable) (o : Option Root)
    → i < length vs → v ≡ get_or vs i v → o ≡ value_in ty t (variable_view v) → next ≡ k + 1
    → writes_on ty t k i vs ≡ cons_option (written_into k o) [] ++ writes_on ty t next (i + 1) vs
variable_split k next i ty t vs v o within is value number =
    ap (λ us. filter_map (written_by ty t) (variables_from k (map variable_view us))) (next_of vs i v within is)
    ∙ (λ j. cons_option (written_into k (given j))
    (filter_map (written_by ty t) (variables_from (after j) (map variable_view (drop (i + 1) vs)))))
    ∙ sym (first_before (written_into k o) (writes_on ty t next (i + 1) vs))
  where
    given : value_of ty t (variable_of k (variable_view v)) ≡ o
    given = value_free ty t k (variable_view v) ∙ sym value

    after : suc k ≡ next
    after = omega arith

-- one variable more
pub variable_turn : (n k next i : ℕ) (ty : TypeTree) (t : Tree) (vs : List SetVariable) (v : SetVariable)
    (o : Option Root)
    (all rows new : List Session) → i < length vs → v ≡ get_or vs i v → o ≡ value_in ty t (variable_view v)
    → new ≡ changed n (write_all (cons_option (written_into k o) [])) rows → next ≡ k + 1
    → all ≡ changed n (write_all (writes_on ty t k i vs)) rows
    → all ≡ changed n (write_all (writes_on ty t next (i + 1) vs)) new
variable_turn n k next i ty t vs v o all rows new within is value are number before =
    before
    ∙ ap (λ ws. changed n (write_all ws) rows) (variable_split k next i ty t vs v o within is value number)
    ∙ sym (written_twice n (cons_option (written_into k o) []) (writes_on ty t next (i + 1) vs) rows)
    ∙ ap (changed n (write_all (writes_on ty t next (i + 1) vs))) (sym are)

-- its value can be written
pub variable_can : (n k i : ℕ) (ty : TypeTree) (t : Tree) (vs : List SetVariable) (v : SetVariable) (o : Option Root)
    (rows : List Session) → i < length vs → v ≡ get_or vs i v → o ≡ value_in ty t (variable_view v)
    → CanWrite n rows (writes_on ty t k i vs) → CanWrite n rows (cons_option (written_into k o) [])
variable_can n k i ty t vs v o rows within is value can =
    can_before n rows (cons_option (written_into k o) []) (writes_on ty t (k + 1) (i + 1) vs)
    (subst (CanWrite n rows) (variable_split k (k + 1) i ty t vs v o within is value refl) can)

-- and then those behind it
pub variable_then : (n k next i : ℕ) (ty : TypeTree) (t : Tree) (vs : List SetVariable) (v : SetVariable)
    (o : Option Root) (rows new : List Session) → i < length vs → v ≡ get_or vs i v
    → o ≡ value_in ty t (variable_view v)
    → new ≡ changed n (write_all (cons_option (written_into k o) [])) rows → next ≡ k + 1
    → CanWrite n rows (writes_on ty t k i vs) → CanWrite n new (writes_on ty t next (i + 1) vs)
variable_then n k next i ty t vs v o rows new within is value are number can =
    subst (λ l. CanWrite n l (writes_on ty t next (i + 1) vs)) (sym are)
    (can_behind n rows (cons_option (written_into k o) []) (writes_on ty t next (i + 1) vs)
    (subst (CanWrite n rows) (variable_split k next i ty t vs v o within is value number) can))

-- no variable more
pub variables_end : (n k i : ℕ) (ty : TypeTree) (t : Tree) (vs : List SetVariable) (all rows : List Session)
    → length vs ≤ i
    → all ≡ changed n (write_all (writes_on ty t k i vs)) rows → rows ≡ all
variables_end n k i ty t vs all rows past before =
    sym (before
    ∙ ap (λ us. changed n (write_all (filter_map (written_by ty t) (variables_from k (map variable_view us)))) rows)
    (none_left vs i past)
    ∙ written_none n rows)

-- ---- the sets of a service

-- what a tree writes into the variables of sets from that of a place on
abbrev pub writes_in : TypeTree → Tree → ℕ → ℕ → List CorrelationSet → List Written
writes_in ty t k i sets = filter_map (written_by ty t) (flat_map (λ vs. vs) (sets_from k (map set_view (drop i sets))))

-- what a tree writes into the variables of a set, the first of which has the number k
abbrev pub writes_of : TypeTree → Tree → ℕ → List SetVariable → List Written
writes_of ty t k vs = filter_map (written_by ty t) (variables_from k (map variable_view vs))

-- what is written from a set on: into its variables, and into those behind them
set_split : (k next i : ℕ) (ty : TypeTree) (t : Tree) (sets : List CorrelationSet) (set : CorrelationSet)
    (vs : List SetVariable)
    → i < length sets → set ≡ get_or sets i set → vs ≡ set.variables.items → next ≡ k + length vs
    → writes_in ty t k i sets ≡ writes_of ty t k vs ++ writes_in ty t next (i + 1) sets
set_split k next i ty t sets set vs within is same number =
    ap (λ ss. filter_map (written_by ty t) (flat_map (λ vs. vs) (sets_from k (map set_view ss))))
    (next_of sets i set within is)
    ∙ filter_map-append (written_by ty t) (variables_from k (map variable_view set.variables.items))
    (flat_map (λ vs. vs)
    (sets_from (k + length (map variable_view set.variables.items)) (map set_view (drop (i + 1) sets))))
    ∙ (λ j. writes_of ty t k (sym same j) ++ writes_in ty t (many j) (i + 1) sets)
  where
    many : k + length (map variable_view set.variables.items) ≡ next
    many = ap (λ l. k + l) (length-map set.variables.items variable_view ∙ ap length (sym same)) ∙ sym number

-- one set more
pub set_turn : (n k next i : ℕ) (ty : TypeTree) (t : Tree) (sets : List CorrelationSet) (set : CorrelationSet)
    (vs : List SetVariable)
    (all rows new : List Session) → i < length sets → set ≡ get_or sets i set → vs ≡ set.variables.items
    → new ≡ changed n (write_all (writes_of ty t k vs)) rows → next ≡ k + length vs
    → all ≡ changed n (write_all (writes_in ty t k i sets)) rows
    → all ≡ changed n (write_all (writes_in ty t next (i + 1) sets)) new
set_turn n k next i ty t sets set vs all rows new within is same are number before =
    before
    ∙ ap (λ ws. changed n (write_all ws) rows) (set_split k next i ty t sets set vs within is same number)
    ∙ sym (written_twice n (writes_of ty t k vs) (writes_in ty t next (i + 1) sets) rows)
    ∙ ap (changed n (write_all (writes_in ty t next (i + 1) sets))) (sym are)

-- the values of its variables can be written
pub set_can : (n k i : ℕ) (ty : TypeTree) (t : Tree) (sets : List CorrelationSet) (set : CorrelationSet)
    (vs : List SetVariable) (rows : List Session)
    → i < length sets → set ≡ get_or sets i set → vs ≡ set.variables.items
    → CanWrite n rows (writes_in ty t k i sets) → CanWrite n rows (writes_of ty t k vs)
set_can n k i ty t sets set vs rows within is same can =
    can_before n rows (writes_of ty t k vs) (writes_in ty t (k + length vs) (i + 1) sets)
    (subst (CanWrite n rows) (set_split k (k + length vs) i ty t sets set vs within is same refl) can)

-- and then those behind them
pub set_then : (n k next i : ℕ) (ty : TypeTree) (t : Tree) (sets : List CorrelationSet) (set : CorrelationSet)
    (vs : List SetVariable) (rows new : List Session)
    → i < length sets → set ≡ get_or sets i set → vs ≡ set.variables.items
    → new ≡ changed n (write_all (writes_of ty t k vs)) rows → next ≡ k + length vs
    → CanWrite n rows (writes_in ty t k i sets) → CanWrite n new (writes_in ty t next (i + 1) sets)
set_then n k next i ty t sets set vs rows new within is same are number can =
    subst (λ l. CanWrite n l (writes_in ty t next (i + 1) sets)) (sym are)
    (can_behind n rows (writes_of ty t k vs) (writes_in ty t next (i + 1) sets)
    (subst (CanWrite n rows) (set_split k next i ty t sets set vs within is same number) can))

-- no set more
pub sets_end : (n k i : ℕ) (ty : TypeTree) (t : Tree) (sets : List CorrelationSet) (all rows : List Session)
    → length sets ≤ i
    → all ≡ changed n (write_all (writes_in ty t k i sets)) rows → rows ≡ all
sets_end n k i ty t sets all rows past before =
    sym (before
    ∙ ap (λ ss. changed n
    (write_all (filter_map (written_by ty t) (flat_map (λ vs. vs) (sets_from k (map set_view ss))))) rows)
    (none_left sets i past)
    ∙ written_none n rows)

-- ---- a session that is born

-- what is written into the variables of a session that was not born stays out
written_nowhere : (n : ℕ) (ws : List Written) (rows : List Session) → is_born rows n ≡ false
    → changed n (write_all ws) rows ≡ rows
written_nowhere n ws [] h = refl
written_nowhere n ws (s ∷ rows) h =
    λ i. (if front (nat_eq s.number n) (is_born rows n) h i then write_all ws s else s)
    ∷ written_nowhere n ws rows (rest (nat_eq s.number n) (is_born rows n) h) i
  where
    front : (a b : Bool) → (a || b) ≡ false → a ≡ false
    front true b g = g
    front false b g = refl

    rest : (a b : Bool) → (a || b) ≡ false → b ≡ false
    rest true b g = absurd (true≢false g)
    rest false b g = g

changed_append : (n : ℕ) (f : Session → Session) (rows : List Session) (s : Session)
    → changed n f (rows ++ s ∷ []) ≡ changed n f rows ++ changed n f (s ∷ [])
changed_append n f [] s = refl
changed_append n f (r ∷ rows) s = ap (λ l. (if nat_eq r.number n then f r else r) ∷ l) (changed_append n f rows s)

-- the session that is born has what is written into its variables
pub newborn_written : (n : ℕ) (sets : List SetOf) (ws : List Written) (rows : List Session) → is_born rows n ≡ false
    → changed n (write_all ws) (rows ++ newborn n sets ∷ [])
    ≡ rows ++ record { number = n; sets = sets; written = ws; released = false } ∷ []
newborn_written n sets ws rows h =
    changed_append n (write_all ws) rows (newborn n sets)
    ∙ (λ i. written_nowhere n ws rows h i ++
    (if itself n i then write_all ws (newborn n sets) else newborn n sets) ∷ [])

-- it lives
pub newborn_lives : (n : ℕ) (sets : List SetOf) (rows : List Session) → is_live (rows ++ newborn n sets ∷ []) n ≡ true
newborn_lives n sets [] = ap (λ b. (b && true) || false) (itself n)
newborn_lives n sets (s ∷ rows) =
    ap (λ b. (nat_eq s.number n && not s.released) || b) (newborn_lives n sets rows)
    ∙ or_true (nat_eq s.number n && not s.released)
  where
    or_true : (b : Bool) → (b || true) ≡ true
    or_true true = refl
    or_true false = refl

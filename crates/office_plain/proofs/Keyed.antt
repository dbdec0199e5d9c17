-- What correlation has of the sessions of a history: what their variables have, and which session has the key that values name.
use Rattle.std.proofs.Common.{◌≡◌, ◌≢◌, ◌<◌, ◌≤◌, ◌⊎◌, inl, inr, eq-or-lt_of_le, not-suc-le-zero, le_of_suc-le-suc, ℕ, zero, suc, ◌+◌, Bool, true, false, not, ◌&&◌, List, [], ◌∷◌, ◌++◌, length, map, take, sum_by, flat_map, refl, sym, ap, subst, ◌∙◌, Option, None, Some, option_map, arith}
use Rattle.std.specs.Prelude.{nat_eq, nat_lt, slice_get, if◌then◌else◌, option_and_then, unwrap_or}
use Rattle.std.specs.List.{filter_map, cons_option}
use Rattle.std.proofs.lemmas.Bool.Decides.{nat_tests}
use Rattle.std.proofs.lemmas.List.Sums.{sum_by-cons}
use Rattle.std.proofs.lemmas.Option.{slice_get_within}
use Rattle.jolie_trees.specs.declared.root.Root.{Root}
use Rattle.behaviour_tree.specs.Data.{VariablePart, SetPart, ServicePart, ProgramParts}
use Rattle.correlation.specs.declared.bind_reply.BindReply.TheVariants as reply
use Rattle.correlation.specs.declared.key.KeyRow.{KeyRow}
use Rattle.correlation.specs.declared.session.Written.{Written}
use Rattle.behaviour_tree.specs.Comparisons.{same}
use Rattle.correlation.specs.Order as order
use Rattle.correlation.specs.Rows.{session_with}
use Rattle.correlation.specs.Sessions.{value_of, variables_of, key_of, rows_of}
use Rattle.correlation.specs.Sessions as rows
use Rattle.office_core.specs.declared.history.Act.{Act}
use Rattle.office_core.specs.declared.history.Act.TheVariants as act
use Rattle.office_core.specs.declared.history.Entry.{Entry}
use Rattle.office_core.specs.Limits.{Setting}
use Rattle.office_core.specs.Past.{Past}
use Rattle.office_core.specs.Sessions.{births, has_ended}
use Rattle.office_core.specs.Keys.{first, Variable, variables_from, sets_from, sets_of, brought_by, bound_by, written, key, has_key, session_from}
use Rattle.office_core.specs.Keys as keys
use Rattle.office_plain.specs.SetNumbers.{numbered_from, sets_before, numbered_sets}
use Rattle.office_plain.specs.Kept.{variables_of as service_variables, written_first, written_in, values_of, keyed, keyed_from, keyed_sessions}
use Rattle.office_plain.proofs.Lists.{same_of, none_not_some, itself, eq_true, eq_false, not_eq, turned}

-- ---- the first of two lists

abbrev pub or_else : {A : Type 0} → Option A → Option A → Option A
or_else None y = y
or_else (Some x) y = Some x

pub value_of-append : (xs ys : List Written) (v : ℕ) → value_of (xs ++ ys) v ≡ or_else (value_of xs v) (value_of ys v)
value_of-append [] ys v = refl
value_of-append (x ∷ xs) ys v = by (nat_eq x.variable v) (value_of-append xs ys v)
  where
    by : (b : Bool) → value_of (xs ++ ys) v ≡ or_else (value_of xs v) (value_of ys v)
        → (if b then Some x.value else value_of (xs ++ ys) v) ≡ or_else (if b then Some x.value else value_of xs v) (value_of ys v)
    by true h = refl
    by false h = h

first-append : {A : Type 0} (xs ys : List A) → first (xs ++ ys) ≡ or_else (first xs) (first ys)
first-append [] ys = refl
first-append (x ∷ xs) ys = refl

-- ---- what binds wrote

bound_case : (v u : ℕ) (x : Root) (a : Bool) (ws : List Written) (xs : List Root) → value_of ws v ≡ first xs
    → value_of (cons_option (if a then Some (record { variable = u; value = x }) else None) ws) v
    ≡ first (cons_option (if a && nat_eq v u then Some x else None) xs)
bound_case v u x false ws xs h = h
bound_case v u x true ws xs h = ap (λ b. if b then Some x else value_of ws v) (turned u v) ∙ by (nat_eq v u)
  where
    by : (b : Bool) → (if b then Some x else value_of ws v) ≡ first (cons_option (if b then Some x else None) xs)
    by true = refl
    by false = h

bound_head : (s v actor : ℕ) (a : Act) (ws : List Written) (xs : List Root) → value_of ws v ≡ first xs
    → value_of (cons_option (written_in s (record { actor = actor; act = a })) ws) v
    ≡ first (cons_option (bound_by s v (record { actor = actor; act = a })) xs)
bound_head s v actor (act.Bind u x reply.Bound) ws xs h = bound_case v u x (nat_eq s actor) ws xs h
bound_head s v actor (act.Bind u x (reply.Held t)) ws xs h = h
bound_head s v actor (act.Bind u x reply.Fixed) ws xs h = h
bound_head s v actor a ws xs h = h

-- what entries wrote into a variable of a session
pub bound_values : (s v : ℕ) (es : List Entry) → value_of (filter_map (written_in s) es) v ≡ first (filter_map (bound_by s v) es)
bound_values s v [] = refl
bound_values s v (e ∷ es) =
    bound_head s v e.actor e.act (filter_map (written_in s) es) (filter_map (bound_by s v) es) (bound_values s v es)

-- ---- what variables have from the start

-- variables have the numbers from one on
abbrev pub AreNumbered : ℕ → List Variable → Type 0
AreNumbered base vs = (i : ℕ) (v : Variable) → slice_get vs i ≡ Some v → v.number ≡ base + i

next_number : (n base i : ℕ) → n ≡ base + suc i → n ≡ suc base + i
next_number n base i h = omega arith

past_number : (n base i : ℕ) → n ≡ suc base + i → n ≡ base + suc i
past_number n base i h = omega arith

-- a value of each variable that has one
abbrev pub given_to : (Variable → Option Root) → Variable → Option Written
given_to f v = option_map (λ x. record { variable = v.number; value = x }) (f v)

given_else : (o : Option Root) (number n : ℕ) (ws : List Written) → nat_eq number n ≡ false
    → value_of (cons_option (option_map (λ x. record { variable = number; value = x }) o) ws) n ≡ value_of ws n
given_else None number n ws h = refl
given_else (Some x) number n ws h = ap (λ b. if b then Some x else value_of ws n) h

given_here : (o : Option Root) (number n : ℕ) (ws : List Written) → nat_eq number n ≡ true → value_of ws n ≡ None
    → value_of (cons_option (option_map (λ x. record { variable = number; value = x }) o) ws) n ≡ o
given_here None number n ws e h = h
given_here (Some x) number n ws e h = ap (λ b. if b then Some x else value_of ws n) e

pub given_below : (f : Variable → Option Root) (base n : ℕ) (vs : List Variable) → AreNumbered base vs → n < base
    → value_of (filter_map (given_to f) vs) n ≡ None
given_below f base n [] numbered less = refl
given_below f base n (v ∷ vs) numbered less =
    let number : v.number ≡ base + 0 = numbered 0 v refl in
    let next : n < suc base = omega arith in
    given_else (f v) v.number n (filter_map (given_to f) vs) (not_eq v.number n (apart v.number number))
    ∙ given_below f (suc base) n vs (λ i u t. next_number u.number base i (numbered (suc i) u t)) next
  where
    apart : (m : ℕ) → m ≡ base + 0 → m ≢ n
    apart m e h = omega arith

pub given_at : (f : Variable → Option Root) (base : ℕ) (vs : List Variable) (i : ℕ) (v : Variable) → AreNumbered base vs
    → slice_get vs i ≡ Some v → value_of (filter_map (given_to f) vs) v.number ≡ f v
given_at f base [] i v numbered there = absurd (none_not_some v there)
given_at f base (u ∷ vs) zero v numbered there =
    let same : u ≡ v = same_of u v there in
    let number : v.number ≡ base + 0 = numbered 0 v there in
    let less : v.number < suc base = omega arith in
    given_here (f u) u.number v.number (filter_map (given_to f) vs)
    (ap (λ (x : Variable). nat_eq x.number v.number) same ∙ itself v.number)
    (given_below f (suc base) v.number vs (λ j x t. next_number x.number base j (numbered (suc j) x t)) less)
    ∙ ap f same
given_at f base (u ∷ vs) (suc i) v numbered there =
    given_else (f u) u.number v.number (filter_map (given_to f) vs)
    (not_eq u.number v.number (apart u.number v.number (numbered 0 u refl) (numbered (suc i) v there)))
    ∙ given_at f (suc base) vs i v (λ j x t. next_number x.number base j (numbered (suc j) x t)) there
  where
    apart : (m n : ℕ) → m ≡ base + 0 → n ≡ base + suc i → m ≢ n
    apart m n e g h = omega arith

-- ---- the variables of a service are numbered

numbered_append : (xs ys : List Variable) (base : ℕ) → AreNumbered base xs → AreNumbered (base + length xs) ys → AreNumbered base (xs ++ ys)
numbered_append [] ys base hx hy i v there = let n : v.number ≡ base + 0 + i = hy i v there in omega arith
numbered_append (x ∷ xs) ys base hx hy zero v there = hx zero v there
numbered_append (x ∷ xs) ys base hx hy (suc i) v there =
    past_number v.number base i
    (numbered_append xs ys (suc base)
    (λ j u t. next_number u.number base j (hx (suc j) u t))
    (λ j u t. moved u.number base (length xs) j (hy j u t))
    i v there)
  where
    moved : (n b l j : ℕ) → n ≡ b + suc l + j → n ≡ suc b + l + j
    moved n b l j h = omega arith

numbered_variables : (n : ℕ) (vs : List VariablePart) → AreNumbered n (variables_from n vs)
numbered_variables n [] i v there = absurd (none_not_some v there)
numbered_variables n (u ∷ vs) zero v there = ap (λ (x : Variable). x.number) (sym (same_of _ v there)) ∙ zero_more n
  where
    zero_more : (m : ℕ) → m ≡ m + 0
    zero_more m = omega arith
numbered_variables n (u ∷ vs) (suc i) v there = past_number v.number n i (numbered_variables (suc n) vs i v there)

length_variables : (n : ℕ) (vs : List VariablePart) → length (variables_from n vs) ≡ length vs
length_variables n [] = refl
length_variables n (v ∷ vs) = ap suc (length_variables (suc n) vs)

pub numbered_all : (n : ℕ) (sets : List SetPart) → AreNumbered n (flat_map (λ vs. vs) (sets_from n sets))
numbered_all n [] i v there = absurd (none_not_some v there)
numbered_all n (set ∷ sets) i v there =
    numbered_append (variables_from n set.variables) (flat_map (λ vs. vs) (sets_from (n + length set.variables) sets)) n
    (numbered_variables n set.variables)
    (subst (λ l. AreNumbered (n + l) (flat_map (λ vs. vs) (sets_from (n + length set.variables) sets))) (sym (length_variables n set.variables))
    (numbered_all (n + length set.variables) sets))
    i v there

-- ---- where a variable stands among all of its service

pub in_front : {A : Type 0} (xs ys : List A) (n : ℕ) (x : A) → slice_get xs n ≡ Some x → slice_get (xs ++ ys) n ≡ Some x
in_front [] ys n x h = absurd (none_not_some x h)
in_front (y ∷ xs) ys zero x h = h
in_front (y ∷ xs) ys (suc n) x h = in_front xs ys n x h

in_back : {A : Type 0} (xs ys : List A) (n : ℕ) (x : A) → slice_get ys n ≡ Some x → slice_get (xs ++ ys) (length xs + n) ≡ Some x
in_back [] ys n x h = ap (slice_get ys) (zero_less n) ∙ h
  where
    zero_less : (m : ℕ) → 0 + m ≡ m
    zero_less m = omega arith
in_back (y ∷ xs) ys n x h = ap (slice_get (y ∷ (xs ++ ys))) (later (length xs) n) ∙ in_back xs ys n x h
  where
    later : (l m : ℕ) → suc l + m ≡ suc (l + m)
    later l m = omega arith

pub in_all : {A : Type 0} (lists : List (List A)) (i j : ℕ) (xs : List A) (x : A) → slice_get lists i ≡ Some xs → slice_get xs j ≡ Some x
    → (k : ℕ) × (slice_get (flat_map (λ l. l) lists) k ≡ Some x)
in_all [] i j xs x at_i at_j = absurd (none_not_some xs at_i)
in_all (ys ∷ lists) zero j xs x at_i at_j =
    (j, in_front ys (flat_map (λ l. l) lists) j x (ap (λ l. slice_get l j) (same_of ys xs at_i) ∙ at_j))
in_all (ys ∷ lists) (suc i) j xs x at_i at_j =
    let rest = in_all lists i j xs x at_i at_j in
    (length ys + rest.0, in_back ys (flat_map (λ l. l) lists) rest.0 x rest.1)

-- ---- values

-- what a variable of a session of a service has: what was written into it
pub values_written : (w : Setting) (past : Past) (s d : ℕ) (service : ServicePart) (i j : ℕ) (set : List Variable) (v : Variable)
    → slice_get w.parts.services d ≡ Some service → slice_get (sets_of service) i ≡ Some set → slice_get set j ≡ Some v
    → value_of (values_of w past s d) v.number ≡ written w past s v
values_written w past s d service i j set v at_d at_i at_j =
    value_of-append (filter_map (written_first w past s) (service_variables w.parts d)) (filter_map (written_in s) past.entries) v.number
    ∙ (λ p. or_else (started p) (bound_values s v.number past.entries p))
    ∙ sym (first-append (filter_map (brought_by w s v) past.messages) (filter_map (bound_by s v.number) past.entries))
  where
    place : (k : ℕ) × (slice_get (flat_map (λ vs. vs) (sets_of service)) k ≡ Some v)
    place = in_all (sets_of service) i j set v at_i at_j

    started : value_of (filter_map (written_first w past s) (service_variables w.parts d)) v.number ≡ first (filter_map (brought_by w s v) past.messages)
    started =
        ap (λ g. value_of (filter_map (written_first w past s) (unwrap_or (option_map (λ (x : ServicePart). flat_map (λ vs. vs) (sets_of x)) g) [])) v.number) at_d
        ∙ given_at (λ u. first (filter_map (brought_by w s u) past.messages)) 0 (flat_map (λ vs. vs) (sets_of service)) place.0 v
        (numbered_all 0 service.sets) place.1

-- ---- sets by their numbers

abbrev numbers : List Variable → List ℕ
numbers vs = map (λ (u : Variable). u.number) vs

pub variables_below : (n m : ℕ) (sets : List (List Variable)) → n < m → variables_of n (numbered_from m sets) ≡ None
variables_below n m [] less = refl
variables_below n m ([] ∷ sets) less = let next : n < suc m = omega arith in variables_below n (suc m) sets next
variables_below n m ((v ∷ vs) ∷ sets) less =
    let next : n < suc m = omega arith in
    ap (λ b. if b then Some (numbers (v ∷ vs)) else variables_of n (numbered_from (suc m) sets)) (not_eq m n (apart m n less))
    ∙ variables_below n (suc m) sets next
  where
    apart : (a b : ℕ) → b < a → a ≢ b
    apart a b l h = omega arith

pub variables_above : (n m : ℕ) (sets : List (List Variable)) → m + length sets ≤ n → variables_of n (numbered_from m sets) ≡ None
variables_above n m [] less = refl
variables_above n m ([] ∷ sets) less = variables_above n (suc m) sets (next m (length sets) n less)
  where
    next : (a l b : ℕ) → a + suc l ≤ b → suc a + l ≤ b
    next a l b h = omega arith
variables_above n m ((v ∷ vs) ∷ sets) less =
    ap (λ b. if b then Some (numbers (v ∷ vs)) else variables_of n (numbered_from (suc m) sets)) (not_eq m n (apart m (length sets) n less))
    ∙ variables_above n (suc m) sets (next m (length sets) n less)
  where
    next : (a l b : ℕ) → a + suc l ≤ b → suc a + l ≤ b
    next a l b h = omega arith

    apart : (a l b : ℕ) → a + suc l ≤ b → a ≢ b
    apart a l b g h = omega arith

pub variables_at : (n m i : ℕ) (sets : List (List Variable)) (v : Variable) (vs : List Variable)
    → n ≡ m + i → slice_get sets i ≡ Some (v ∷ vs) → variables_of n (numbered_from m sets) ≡ Some (numbers (v ∷ vs))
variables_at n m i [] v vs e there = absurd (none_not_some (v ∷ vs) there)
variables_at n m zero ([] ∷ sets) v vs e there = absurd (nil_not_cons (same_of [] (v ∷ vs) there))
  where
    nil_not_cons : [] ≡ v ∷ vs → ⊥
    nil_not_cons h = cc
variables_at n m zero ((u ∷ us) ∷ sets) v vs e there =
    let here : m ≡ n = omega arith in
    ap (λ b. if b then Some (numbers (u ∷ us)) else variables_of n (numbered_from (suc m) sets)) (ap (nat_eq m) (sym here) ∙ itself m)
    ∙ ap (λ l. Some (numbers l)) (same_of (u ∷ us) (v ∷ vs) there)
variables_at n m (suc i) ([] ∷ sets) v vs e there = variables_at n (suc m) i sets v vs (next_number n m i e) there
variables_at n m (suc i) ((u ∷ us) ∷ sets) v vs e there =
    ap (λ b. if b then Some (numbers (u ∷ us)) else variables_of n (numbered_from (suc m) sets)) (not_eq m n (apart m n i e))
    ∙ variables_at n (suc m) i sets v vs (next_number n m i e) there
  where
    apart : (a b j : ℕ) → b ≡ a + suc j → a ≢ b
    apart a b j g h = omega arith

pub length_sets : (n : ℕ) (sets : List SetPart) → length (sets_from n sets) ≡ length sets
length_sets n [] = refl
length_sets n (set ∷ sets) = ap suc (length_sets (n + length set.variables) sets)

first_count : (l m r : ℕ) → m ≡ l → 0 + l ≤ m + r
first_count l m r h = omega arith

later_count : (a b c m : ℕ) → a + b ≤ c → m + a + b ≤ m + c
later_count a b c m h = omega arith

-- how many sets a service has
abbrev sets_in : ServicePart → ℕ
sets_in x = length x.sets

-- the sets of the services before a later one are those before this one, its own, and more
counts_rise : (ds : List ServicePart) (e d : ℕ) (service : ServicePart) → slice_get ds e ≡ Some service → e < d
    → sum_by (λ (x : ServicePart). length x.sets) (take e ds) + length service.sets ≤ sum_by (λ (x : ServicePart). length x.sets) (take d ds)
counts_rise [] e d service there less = absurd (none_not_some service there)
counts_rise (x ∷ ds) e zero service there less = absurd (not-suc-le-zero less)
counts_rise (x ∷ ds) zero (suc d) service there less =
    subst (λ n. 0 + length service.sets ≤ n) (sym (sum_by-cons sets_in x (take d ds)))
    (first_count (length service.sets) (length x.sets) (sum_by sets_in (take d ds))
    (ap sets_in (same_of x service there)))
counts_rise (x ∷ ds) (suc e) (suc d) service there less =
    subst (λ n. n + length service.sets ≤ sum_by sets_in (x ∷ take d ds)) (sym (sum_by-cons sets_in x (take e ds)))
    (subst (λ n. length x.sets + sum_by sets_in (take e ds) + length service.sets ≤ n) (sym (sum_by-cons sets_in x (take d ds)))
    (later_count (sum_by sets_in (take e ds)) (length service.sets) (sum_by sets_in (take d ds)) (length x.sets)
    (counts_rise ds e d service there (le_of_suc-le-suc less))))

later_of : (e d : ℕ) → nat_lt e d ≡ false → e ≢ d → d < e
later_of e d h apart = by (eq-or-lt_of_le (at_least))
  where
    at_least : d ≤ e
    at_least = grind (arith, nat_tests)

    by : (d ≡ e) ⊎ (d < e) → d < e
    by (inl q) = absurd (apart (sym q))
    by (inr l) = l

-- what a number names among the sets of a service that may be there
abbrev among : ProgramParts → ℕ → ℕ → Option ServicePart → Option (List ℕ)
among parts n e g = variables_of n (unwrap_or (option_map (λ (x : ServicePart). numbered_from (sets_before parts e) (sets_of x)) g) [])

-- the number of a set of a service is that of no set of another
elsewhere_by : (parts : ProgramParts) (d e i : ℕ) (service x : ServicePart) (b : Bool) → slice_get parts.services d ≡ Some service
    → slice_get parts.services e ≡ Some x → i < length service.sets → e ≢ d → nat_lt e d ≡ b
    → among parts (sets_before parts d + i) e (Some x) ≡ None
elsewhere_by parts d e i service x true at_d at_e within apart h =
    let less : e < d = grind (arith, nat_tests) in
    let rise : sets_before parts e + length x.sets ≤ sets_before parts d = counts_rise parts.services e d x at_e less in
    let sets : length (sets_of x) ≡ length x.sets = length_sets 0 x.sets in
    variables_above (sets_before parts d + i) (sets_before parts e) (sets_of x) (omega arith)
elsewhere_by parts d e i service x false at_d at_e within apart h =
    let rise : sets_before parts d + length service.sets ≤ sets_before parts e = counts_rise parts.services d e service at_d (later_of e d h apart) in
    variables_below (sets_before parts d + i) (sets_before parts e) (sets_of x) (omega arith)

pub variables_elsewhere : (parts : ProgramParts) (d e i : ℕ) (service : ServicePart) → slice_get parts.services d ≡ Some service
    → i < length service.sets → e ≢ d → variables_of (sets_before parts d + i) (numbered_sets parts e) ≡ None
variables_elsewhere parts d e i service at_d within apart = by (slice_get parts.services e) refl
  where
    by : (g : Option ServicePart) → slice_get parts.services e ≡ g → variables_of (sets_before parts d + i) (numbered_sets parts e) ≡ None
    by None h = ap (among parts (sets_before parts d + i) e) h
    by (Some x) h = ap (among parts (sets_before parts d + i) e) h ∙ elsewhere_by parts d e i service x (nat_lt e d) at_d h within apart refl

-- ---- keys

pub all_there_same : (f : ℕ → Option Root) (g : Variable → Option Root) (vs : List Variable)
    → ((j : ℕ) (v : Variable) → slice_get vs j ≡ Some v → f v.number ≡ g v)
    → rows.all_there (map f (numbers vs)) ≡ keys.all_there (map g vs)
all_there_same f g [] same = refl
all_there_same f g (v ∷ vs) same =
    ap (λ o. rows.all_there (o ∷ map f (numbers vs))) (same 0 v refl)
    ∙ by (g v) (all_there_same f g vs (λ j u t. same (suc j) u t))
  where
    by : (o : Option Root) → rows.all_there (map f (numbers vs)) ≡ keys.all_there (map g vs)
        → rows.all_there (o ∷ map f (numbers vs)) ≡ keys.all_there (o ∷ map g vs)
    by None h = refl
    by (Some x) h = ap (option_map (λ ys. x ∷ ys)) h

-- the key of a live session in a set of its service
pub key_here : (w : Setting) (past : Past) (s d i : ℕ) (service : ServicePart) (v : Variable) (vs : List Variable)
    → slice_get w.parts.services d ≡ Some service → slice_get (sets_of service) i ≡ Some (v ∷ vs) → has_ended past s ≡ false
    → key_of (keyed w past s d) (sets_before w.parts d + i) ≡ key w past s (v ∷ vs)
key_here w past s d i service v vs at_d at_i lives =
    ap (λ b. if b then None else option_and_then (λ us. rows.all_there (map (value_of (values_of w past s d)) us)) (variables_of (sets_before w.parts d + i) (numbered_sets w.parts d))) lives
    ∙ ap (option_and_then (λ us. rows.all_there (map (value_of (values_of w past s d)) us))) (ap (among w.parts (sets_before w.parts d + i) d) at_d
    ∙ variables_at (sets_before w.parts d + i) (sets_before w.parts d) i (sets_of service) v vs refl at_i)
    ∙ all_there_same (value_of (values_of w past s d)) (written w past s) (v ∷ vs)
    (λ j u at_j. values_written w past s d service i j (v ∷ vs) u at_d at_i at_j)

-- a session has no key in a set of another service
pub key_elsewhere : (w : Setting) (past : Past) (s e n : ℕ) → variables_of n (numbered_sets w.parts e) ≡ None → key_of (keyed w past s e) n ≡ None
key_elsewhere w past s e n none =
    ap (λ o. if has_ended past s then None else option_and_then (λ us. rows.all_there (map (value_of (values_of w past s e)) us)) o) none
    ∙ by (has_ended past s) None
  where
    by : (b : Bool) (o : Option (List Root)) → (if b then o else o) ≡ o
    by true o = refl
    by false o = refl

-- the key of a session of a service in the set of a number
pub key_by : (w : Setting) (past : Past) (d i : ℕ) (service : ServicePart) (v : Variable) (vs : List Variable)
    → slice_get w.parts.services d ≡ Some service → slice_get (sets_of service) i ≡ Some (v ∷ vs) → (s e : ℕ)
    → key_of (keyed w past s e) (sets_before w.parts d + i) ≡ (if nat_eq d e && not (has_ended past s) then key w past s (v ∷ vs) else None)
key_by w past d i service v vs at_d at_i s e = by (nat_eq d e) (has_ended past s) refl refl
  where
    within : i < length service.sets
    within =
        let less : i < length (sets_of service) = slice_get_within (sets_of service) i (v ∷ vs) at_i in
        let sets : length (sets_of service) ≡ length service.sets = length_sets 0 service.sets in
        omega arith

    by : (a b : Bool) → nat_eq d e ≡ a → has_ended past s ≡ b
        → key_of (keyed w past s e) (sets_before w.parts d + i) ≡ (if a && not b then key w past s (v ∷ vs) else None)
    by false b g h =
        key_elsewhere w past s e (sets_before w.parts d + i)
        (variables_elsewhere w.parts d e i service at_d within (λ q. eq_false d e g (sym q)))
    by true true g h =
        ap (λ c. if c then None else option_and_then (λ us. rows.all_there (map (value_of (values_of w past s e)) us)) (variables_of (sets_before w.parts d + i) (numbered_sets w.parts e))) h
    by true false g h =
        ap (λ x. key_of (keyed w past s x) (sets_before w.parts d + i)) (sym (eq_true d e g))
        ∙ key_here w past s d i service v vs at_d at_i h

-- ---- who has a key

are_alike : (k l : List Root) → order.are_equal k l ≡ keys.are_equal k l
are_alike [] [] = refl
are_alike [] (b ∷ l) = refl
are_alike (a ∷ k) [] = refl
are_alike (a ∷ k) (b ∷ l) = ap (λ c. same a b && c) (are_alike k l)

holder_head : (s : ℕ) (values : List Root) (a b : Bool) (o : Option (List Root)) (rest : List KeyRow) (r : Option ℕ)
    → session_with values rest ≡ r
    → session_with values (cons_option (option_map (λ k. record { key = k; session = s }) (if a && not b then o else None)) rest)
    ≡ (if a && (not b && elim o [ None ↦ false | Some k ↦ keys.are_equal k values ]) then Some s else r)
holder_head s values false b o rest r h = h
holder_head s values true true o rest r h = h
holder_head s values true false None rest r h = h
holder_head s values true false (Some k) rest r h =
    ap (λ c. if c then Some s else session_with values rest) (are_alike k values)
    ∙ ap (λ x. if keys.are_equal k values then Some s else x) h

holder_from : (w : Setting) (past : Past) (d n : ℕ) (set : List Variable) (values : List Root) (s : ℕ) (es : List ℕ)
    → ((t e : ℕ) → key_of (keyed w past t e) n ≡ (if nat_eq d e && not (has_ended past t) then key w past t set else None))
    → session_with values (rows_of (keyed_from w past s es) n) ≡ session_from d (has_key w past set values) s es
holder_from w past d n set values s [] fact = refl
holder_from w past d n set values s (e ∷ es) fact =
    ap (λ o. session_with values (cons_option (option_map (λ k. record { key = k; session = s }) o) (rows_of (keyed_from w past (suc s) es) n))) (fact s e)
    ∙ holder_head s values (nat_eq d e) (has_ended past s) (key w past s set) (rows_of (keyed_from w past (suc s) es) n)
    (session_from d (has_key w past set values) (suc s) es)
    (holder_from w past d n set values (suc s) es fact)

-- the live session that has values as its key in a set of a service
pub holder_is : (w : Setting) (past : Past) (d i : ℕ) (service : ServicePart) (v : Variable) (vs : List Variable) (values : List Root)
    → slice_get w.parts.services d ≡ Some service → slice_get (sets_of service) i ≡ Some (v ∷ vs)
    → rows.holder (keyed_sessions w past) (sets_before w.parts d + i) values ≡ keys.holder w past d (v ∷ vs) values
holder_is w past d i service v vs values at_d at_i =
    holder_from w past d (sets_before w.parts d + i) (v ∷ vs) values 0 (births w past) (key_by w past d i service v vs at_d at_i)

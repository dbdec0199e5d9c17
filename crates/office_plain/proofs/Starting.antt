-- What a message brings of the variables of the session that it starts: no live session has a key of these values.
use Rattle.std.proofs.Common.{◌≡◌, ◌≢◌, ◌<◌, ℕ, zero, suc, ◌+◌, Bool, true, false, not, ◌&&◌, ◌||◌, List, [], ◌∷◌, ◌++◌, append_assoc, length, map, flat_map, refl, sym, ap, ◌∙◌, Option, None, Some, option_map, is_some, true≢false, arith}
use Rattle.std.specs.Prelude.{nat_eq, nat_le, slice_get, option_and_then, unwrap_or, if◌then◌else◌}
use Rattle.std.specs.List.{list_any, filter_map, cons_option}
use Rattle.jolie_trees.specs.Data.{Tree}
use Rattle.jolie_trees.specs.declared.root.Root.{Root}
use Rattle.behaviour_tree.specs.Comparisons.{same}
use Rattle.behaviour_tree.specs.Conforms.{conforms, wide}
use Rattle.behaviour_tree.specs.Data.{TypeTree, ServicePart}
use Rattle.behaviour_tree.specs.FormedSets.{is_concurrent}
use Rattle.behaviour_tree.specs.declared.words.Reason.TheVariants as reason
use Rattle.correlation.specs.declared.session.Written.{Written}
use Rattle.correlation.specs.Sessions as rows
use Rattle.reqresp_book.specs.declared.origin.Origin.{Origin}
use Rattle.office_core.specs.declared.message.Message.{Message}
use Rattle.office_core.specs.declared.post.Posted.{Posted}
use Rattle.office_core.specs.Limits.{Setting}
use Rattle.office_core.specs.Past.{Past}
use Rattle.office_core.specs.Sessions.{births, has_ended}
use Rattle.office_core.specs.Boxes.{box}
use Rattle.office_core.specs.Keys.{first, all_there, Variable, sets_of, alias_of, value_of, value_at, is_in, are_equal, key, has_key, session_from, session_of, holder}
use Rattle.office_core.specs.Route.{Way, to_session, to_new, refused_for, Asked, asked_of, is_full, into_box, named_in, named_session, to_single, to_named, to_one, admitted, route}
use Rattle.office_core.specs.Accepted.{message_to}
use Rattle.office_plain.specs.Accepting.{brought, written_by}
use Rattle.office_plain.specs.Ways.{IsAsked}
use Rattle.office_plain.proofs.Alike.{AreAlike, IsAlike, value_alike}
use Rattle.office_plain.proofs.Keyed.{AreNumbered, given_at, given_below, given_to, in_all, numbered_all, or_else, value_of-append}
use Rattle.office_plain.proofs.Lists.{eq_true, itself, none_not_some, not_eq, same_of}

-- ---- lists

nil_not_cons : {A : Type 0} (x : A) (xs : List A) → [] ≡ x ∷ xs → ⊥
nil_not_cons x xs h = none_not_some x (ap first h)

-- a list without its first
abbrev others_of : {A : Type 0} → List A → List A
others_of [] = []
others_of (x ∷ xs) = xs

-- what is of one kind is of another
some_too : {A : Type 0} (p q : A → Bool) (xs : List A)
    → ((i : ℕ) (x : A) → slice_get xs i ≡ Some x → p x ≡ true → q x ≡ true) → list_any p xs ≡ true
    → list_any q xs ≡ true
some_too p q [] each h = absurd (true≢false (sym h))
some_too p q (x ∷ xs) each h = by (p x) refl h (some_too p q xs (λ i. each (suc i)))
  where
    or_true : (b : Bool) → (b || true) ≡ true
    or_true true = refl
    or_true false = refl

    by : (b : Bool) → p x ≡ b → (b || list_any p xs) ≡ true → (list_any p xs ≡ true → list_any q xs ≡ true)
        → (q x || list_any q xs) ≡ true
    by true e g rest = ap (λ c. c || list_any q xs) (each 0 x refl e)
    by false e g rest = ap (λ c. q x || c) (rest g) ∙ or_true (q x)

-- where each that is of a kind gives nothing, these give nothing
-- where a list gives nothing, none of it gives something
all_none : {A B : Type 0} (f : A → Option B) (xs : List A) (i : ℕ) (x : A) → first (filter_map f xs) ≡ None
    → slice_get xs i ≡ Some x → f x ≡ None
all_none f [] i x h there = absurd (none_not_some x there)
all_none {B = B} f (y ∷ xs) i x h there = by (f y) refl h i there (λ j. all_none f xs j x)
  where
    by : (o : Option B) → f y ≡ o → first (cons_option o (filter_map f xs)) ≡ None
        → (j : ℕ) → slice_get (y ∷ xs) j ≡ Some x
        → ((k : ℕ) → first (filter_map f xs) ≡ None → slice_get xs k ≡ Some x → f x ≡ None) → f x ≡ None
    by (Some z) e g j t rest = absurd (none_not_some z (sym g))
    by None e g zero t rest = ap f (sym (same_of y x t)) ∙ e
    by None e g (suc j) t rest = rest j g t

-- ---- what variables are given, each once

-- variables behind the first
numbered_rest : (base : ℕ) (v : Variable) (vs : List Variable) → AreNumbered base (v ∷ vs) → AreNumbered (suc base) vs
numbered_rest base v vs numbered i u there = moved u.number i (numbered (suc i) u there)
  where
    moved : (n j : ℕ) → n ≡ base + suc j → n ≡ suc base + j
    moved n j h = omega arith

numbered_first : (base : ℕ) (v : Variable) (vs : List Variable) → AreNumbered base (v ∷ vs) → v.number ≡ base
numbered_first base v vs numbered = numbered 0 v refl ∙ zero_more base
  where
    zero_more : (n : ℕ) → n + 0 ≡ n
    zero_more n = omega arith

-- what stands behind some values is among them and it
stands_behind : (us : List Written) (x : Written) (xs : List Written) → rows.value_of us x.variable ≡ None
    → rows.value_of (us ++ x ∷ xs) x.variable ≡ Some x.value
stands_behind us x xs none =
    value_of-append us (x ∷ xs) x.variable
    ∙ ap (λ o. or_else o (rows.value_of (x ∷ xs) x.variable)) none
    ∙ ap (λ b. if b then Some x.value else rows.value_of xs x.variable) (itself x.variable)

-- a value is of another variable than those before it
new_to : (f : Variable → Option Root) (base : ℕ) (vs : List Variable) (us : List Written) (x : Written)
    (xs : List Written) → AreNumbered base vs → filter_map (given_to f) vs ≡ us ++ x ∷ xs
    → rows.value_of us x.variable ≡ None
new_to f base vs [] x xs numbered h = refl
new_to f base [] (u ∷ us) x xs numbered h = absurd (nil_not_cons u (us ++ x ∷ xs) h)
new_to f base (v ∷ vs) (u ∷ us) x xs numbered h =
    by (f v) h (new_to f (suc base) vs us x xs behind) (new_to f (suc base) vs (u ∷ us) x xs behind)
  where
    behind : AreNumbered (suc base) vs
    behind = numbered_rest base v vs numbered

    below : (n : ℕ) → n ≡ base → n < suc base
    below n g = omega arith

    differ : filter_map (given_to f) vs ≡ us ++ x ∷ xs → rows.value_of us x.variable ≡ None → u.variable ≡ v.number
        → u.variable ≢ x.variable
    differ rest none number e =
        none_not_some x.value
        (sym (given_below f (suc base) x.variable vs behind
        (below x.variable (sym e ∙ number ∙ numbered_first base v vs numbered)))
        ∙ ap (λ l. rows.value_of l x.variable) rest ∙ stands_behind us x xs none)

    here : (y : Root) → record { variable = v.number; value = y } ∷ filter_map (given_to f) vs ≡ u ∷ (us ++ x ∷ xs)
        → (filter_map (given_to f) vs ≡ us ++ x ∷ xs → rows.value_of us x.variable ≡ None)
        → rows.value_of (u ∷ us) x.variable ≡ None
    here y g later =
        let rest : filter_map (given_to f) vs ≡ us ++ x ∷ xs = ap others_of g in
        let none : rows.value_of us x.variable ≡ None = later rest in
        let number : u.variable ≡ v.number
        = ap (λ (z : Written). z.variable)
        (sym (same_of (record { variable = v.number; value = y }) u (ap first g))) in
        ap (λ b. if b then Some u.value else rows.value_of us x.variable)
        (not_eq u.variable x.variable (differ rest none number))
        ∙ none

    by : (o : Option Root)
        → cons_option (option_map (λ y. record { variable = v.number; value = y }) o) (filter_map (given_to f) vs)
        ≡ u ∷ (us ++ x ∷ xs)
        → (filter_map (given_to f) vs ≡ us ++ x ∷ xs → rows.value_of us x.variable ≡ None)
        → (filter_map (given_to f) vs ≡ u ∷ (us ++ x ∷ xs) → rows.value_of (u ∷ us) x.variable ≡ None)
        → rows.value_of (u ∷ us) x.variable ≡ None
    by None g later same = same g
    by (Some y) g later same = here y g later

-- ---- values that are there, each alike

-- a value is there that is alike
record Finds (o : Option Root) (y : Root) : Type 0 where
  value : Root
  there : o ≡ Some value
  alike : IsAlike value y

-- values are there that equal the same keys
record FindsAll (o : Option (List Root)) (ys : List Root) : Type 0 where
  values : List Root
  there : o ≡ Some values
  alike : (k : List Root) → are_equal k values ≡ are_equal k ys

found : (o p : Option Root) (y : Root) → AreAlike o p → p ≡ Some y → Finds o y
found None None y alike h = absurd (none_not_some y h)
found None (Some z) y alike h = absurd alike
found (Some x) None y alike h = absurd alike
found (Some x) (Some z) y alike h =
    record { value = x; there = refl; alike = λ k. alike k ∙ ap (same k) (same_of z y h) }

equal_more : (x y : Root) (xs ys : List Root) → IsAlike x y → ((k : List Root) → are_equal k xs ≡ are_equal k ys)
    → (k : List Root) → are_equal k (x ∷ xs) ≡ are_equal k (y ∷ ys)
equal_more x y xs ys one all [] = refl
equal_more x y xs ys one all (a ∷ k) = λ i. one a i && all k i

found_all : (f g : Variable → Option Root) (vs : List Variable) (ys : List Root)
    → ((i : ℕ) (v : Variable) (y : Root) → slice_get vs i ≡ Some v → g v ≡ Some y → Finds (f v) y)
    → all_there (map g vs) ≡ Some ys → FindsAll (all_there (map f vs)) ys
found_all f g [] ys each h = record { values = []; there = refl; alike = λ k. ap (are_equal k) (same_of [] ys h) }
found_all f g (v ∷ vs) ys each h = by (g v) refl h (λ zs. found_all f g vs zs (λ i. each (suc i)))
  where
    Later : Type 0
    Later = (zs : List Root) → all_there (map g vs) ≡ Some zs → FindsAll (all_there (map f vs)) zs

    both : (y : Root) (zs : List Root) → y ∷ zs ≡ ys → Finds (f v) y → FindsAll (all_there (map f vs)) zs
        → FindsAll (all_there (f v ∷ map f vs)) ys
    both y zs e one rest = record {
      values = one.value ∷ rest.values;
      there = ap (λ o. all_there (o ∷ map f vs)) one.there ∙ ap (option_map (λ l. one.value ∷ l)) rest.there;
      alike = λ k. equal_more one.value y rest.values zs one.alike rest.alike k ∙ ap (are_equal k) e;
    }

    of : (y : Root) (p : Option (List Root)) → g v ≡ Some y → all_there (map g vs) ≡ p
        → option_map (λ l. y ∷ l) p ≡ Some ys → Later → FindsAll (all_there (f v ∷ map f vs)) ys
    of y None e at q later = absurd (none_not_some ys q)
    of y (Some zs) e at q later = both y zs (same_of (y ∷ zs) ys q) (each 0 v y refl e) (later zs at)

    by : (o : Option Root) → g v ≡ o → all_there (o ∷ map g vs) ≡ Some ys → Later
        → FindsAll (all_there (f v ∷ map f vs)) ys
    by None e q later = absurd (none_not_some ys q)
    by (Some y) e q later = of y (all_there (map g vs)) e refl q later

-- ---- who has a key

pub session_from_same : (d : ℕ) (f g : ℕ → Bool) (s : ℕ) (ds : List ℕ) → ((t : ℕ) → t < s + length ds → f t ≡ g t)
    → session_from d f s ds ≡ session_from d g s ds
session_from_same d f g s [] each = refl
session_from_same d f g s (e ∷ ds) each =
    λ i. if nat_eq d e && each s (here s (length ds)) i then Some s
    else session_from_same d f g (suc s) ds (λ t h. each t (later t s (length ds) h)) i
  where
    here : (s l : ℕ) → s < s + suc l
    here s l = omega arith

    later : (t s l : ℕ) → t < suc s + l → t < s + suc l
    later t s l h = omega arith

-- whether a key is there and is of a kind
abbrev pub is_there : (List Root → Bool) → Option (List Root) → Bool
is_there is_it o = elim o [ None ↦ false | Some k ↦ is_it k ]

-- values that equal the same keys are the key of the same session
pub holder_alike : (w : Setting) (past : Past) (d : ℕ) (set : List Variable) (xs ys : List Root)
    → ((k : List Root) → are_equal k xs ≡ are_equal k ys) → holder w past d set ys ≡ holder w past d set xs
holder_alike w past d set xs ys equal =
    session_from_same d (has_key w past set ys) (has_key w past set xs) 0 (births w past)
    (λ t less i. not (has_ended past t) && is_there (λ k. sym (equal k) i) (key w past t set))

-- what is bound of a session that is not born gives nobody a key
-- ---- the message

-- whether a way leads to a session that it starts
abbrev pub is_new : Way → Bool
is_new (to_session s) = false
is_new to_new = true
is_new (refused_for why) = false

into_no_new : (w : Setting) (past : Past) (s : ℕ) → is_new (into_box w past s) ≡ true → ⊥
into_no_new w past s h = by (nat_le w.limits.box (length (box past s))) h
  where
    by : (b : Bool) → is_new (if b then refused_for reason.BoxFull else to_session s) ≡ true → ⊥
    by true g = true≢false (sym g)
    by false g = true≢false (sym g)

single_no_new : (w : Setting) (past : Past) (o : Option ℕ) → is_new (to_single w past o) ≡ true → ⊥
single_no_new w past None h = true≢false (sym h)
single_no_new w past (Some s) h = by (has_ended past s) h
  where
    by : (b : Bool) → is_new (if b then refused_for reason.Correlation else into_box w past s) ≡ true → ⊥
    by true g = true≢false (sym g)
    by false g = into_no_new w past s g

named_new : (w : Setting) (past : Past) (a : Asked) (o : Option ℕ) → is_new (to_named w past a o) ≡ true → o ≡ None
named_new w past a None h = refl
named_new w past a (Some s) h = absurd (into_no_new w past s h)

-- a message that starts a session names none
pub new_unnamed : (w : Setting) (past : Past) (q : Posted) (a : Asked) → asked_of w q ≡ Some a
    → is_new (route w past q) ≡ true → named_session w past a ≡ None
new_unnamed w past q a asked h = full (is_full w past q.value) h
  where
    one : (b : Bool)
        → is_new (elim b [
          | true ↦ to_named w past a (named_session w past a)
          | false ↦ to_single w past (session_of w past a.number (λ s. true))
        ]) ≡ true → named_session w past a ≡ None
    one true g = named_new w past a (named_session w past a) g
    one false g = absurd (single_no_new w past (session_of w past a.number (λ s. true)) g)

    fits : (b : Bool)
        → is_new (elim b [ false ↦ refused_for reason.NotConforming | true ↦ to_one w past a ]) ≡ true
        → named_session w past a ≡ None
    fits true g = one (is_concurrent a.service.execution) g
    fits false g = absurd (true≢false (sym g))

    full : (b : Bool)
        → is_new (elim b [ true ↦ refused_for reason.RunFull | false ↦ admitted w past (asked_of w q) ]) ≡ true
        → named_session w past a ≡ None
    full true g = absurd (true≢false (sym g))
    full false g =
        fits (conforms w.parts.types a.value a.operation.request)
        (ap (λ o. is_new (admitted w past o)) (sym asked) ∙ g)

-- what a message asks for is of the program, and it names no session
-- what a message asks for is of the program, and it names no session
pub record Begins (w : Setting) (past : Past) (a : Asked) : Type 0 where
  pub asked : IsAsked w a
  pub unnamed : named_session w past a ≡ None

-- ---- the values that it brings

-- a type that has a value of a variable has an alias of it
has_alias : (ty : TypeTree) (t : Tree) (v : Variable) (x : Root) → value_of ty t v ≡ Some x
    → is_some (alias_of ty v) ≡ true
has_alias ty t v x h = by (alias_of ty v) h
  where
    by : (o : Option (List (List ℕ))) → option_and_then (value_at t) o ≡ Some x → is_some o ≡ true
    by None g = absurd (none_not_some x g)
    by (Some path) g = refl

-- the message that starts the next session
abbrev pub starting : Setting → Past → Origin → Asked → Message
starting w past from a = message_to w from (length (births w past)) true a

-- whether a set has a variable of a number
abbrev pub has_number : ℕ → List Variable → Bool
has_number n set = list_any (λ u. nat_eq n u.number) set

module _ (w : Setting) (past : Past) (from : Origin) (a : Asked) (begun : Begins w past a) where
  -- what the message has of a variable
  abbrev pub in_message : Variable → Option Root
  in_message = value_of a.operation.request (wide w.parts.types a.value a.operation.request)

  -- what it brings is that of the variables of all sets
  pub brings : brought w.parts a.operation (starting w past from a)
      ≡ filter_map (given_to in_message) (flat_map (λ vs. vs) (sets_of a.service))
  brings =
      ap (λ o. filter_map (written_by a.operation.request (wide w.parts.types a.value a.operation.request))
      (unwrap_or (option_map (λ (s : ServicePart). flat_map (λ vs. vs) (sets_of s)) o) []))
      begun.asked.service

  -- one of the values, which comes behind others
  module _ (us : List Written) (x : Written) (xs : List Written)
      (split : brought w.parts a.operation (starting w past from a) ≡ us ++ x ∷ xs) where
    -- the variable was not written before
    pub is_first : rows.value_of us x.variable ≡ None
    is_first =
        new_to in_message 0 (flat_map (λ vs. vs) (sets_of a.service)) us x xs (numbered_all 0 a.service.sets)
        (sym brings ∙ split)

    -- what is given to a variable of a set is what the message has of it
    is_given : (i j : ℕ) (set : List Variable) (v : Variable) → slice_get (sets_of a.service) i ≡ Some set
        → slice_get set j ≡ Some v → in_message v ≡ rows.value_of (us ++ x ∷ xs) v.number
    is_given i j set v at_i at_j =
        let place = in_all (sets_of a.service) i j set v at_i at_j in
        sym (given_at in_message 0 (flat_map (λ vs. vs) (sets_of a.service)) place.0 v (numbered_all 0 a.service.sets)
        place.1)
        ∙ ap (λ l. rows.value_of l v.number) (sym brings ∙ split)

    -- that of the variable itself
    is_own : (i j : ℕ) (set : List Variable) (v : Variable) → slice_get (sets_of a.service) i ≡ Some set
        → slice_get set j ≡ Some v → nat_eq x.variable v.number ≡ true → in_message v ≡ Some x.value
    is_own i j set v at_i at_j e =
        is_given i j set v at_i at_j
        ∙ ap (rows.value_of (us ++ x ∷ xs)) (sym (eq_true x.variable v.number e))
        ∙ stands_behind us x xs is_first

    -- what a variable of a set has up to there, the message has of it
    is_had : (i j : ℕ) (set : List Variable) (v : Variable) (y : Root) → slice_get (sets_of a.service) i ≡ Some set
        → slice_get set j ≡ Some v → rows.value_of (us ++ x ∷ []) v.number ≡ Some y → in_message v ≡ Some y
    is_had i j set v y at_i at_j h =
        is_given i j set v at_i at_j
        ∙ ap (λ l. rows.value_of l v.number) (sym (append_assoc us (x ∷ []) xs))
        ∙ value_of-append (us ++ x ∷ []) xs v.number
        ∙ ap (λ o. or_else o (rows.value_of xs v.number)) h

    -- nobody has the key of a set of the variable that is complete there
    pub not_held : (i : ℕ) (set : List Variable) (ys : List Root) → slice_get (sets_of a.service) i ≡ Some set
        → has_number x.variable set ≡ true
        → all_there (map (λ v. rows.value_of (us ++ x ∷ []) v.number) set) ≡ Some ys
        → holder w past a.number set ys ≡ None
    not_held i set ys at_i has there =
        let all = found_all (value_of a.operation.request a.value) (λ v. rows.value_of (us ++ x ∷ []) v.number) set ys
        (λ j v y at_j g. found (value_of a.operation.request a.value v) (in_message v) y
        (value_alike w.parts.types a.operation.request a.operation.request a.value v)
        (is_had i j set v y at_i at_j g))
        there in
        holder_alike w past a.number set all.values ys all.alike
        ∙ sym (ap (option_and_then (holder w past a.number set))
        (ap (λ c. if c then all_there (map (value_of a.operation.request a.value) set) else None) type_has
        ∙ all.there))
        ∙ all_none (named_in w past a) (sets_of a.service) i set begun.unnamed at_i
      where
        type_has : is_in set a.operation.request ≡ true
        type_has =
            some_too (λ u. nat_eq x.variable u.number) (λ v. is_some (alias_of a.operation.request v)) set
            (λ j v at_j e. has_alias a.operation.request (wide w.parts.types a.value a.operation.request) v x.value
            (is_own i j set v at_i at_j e))
            has

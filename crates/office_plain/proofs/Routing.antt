-- Where a message goes: what is kept answers as what happened does.
use Rattle.std.proofs.Common.{◌≡◌, ◌<◌, ◌≤◌, ℕ, zero, suc, ◌+◌, Bool, true, false, not, ◌&&◌, ◌||◌, List, [], ◌∷◌, length, map, drop, cond, refl, sym, ap, subst, ◌∙◌, Option, None, Some, option_map, IfSome, true≢false, add-one, zero-add, arith}
use Rattle.std.specs.Prelude.{nat_eq, nat_le, slice_get, is_some, if◌then◌else◌, option_and_then}
use Rattle.std.specs.List.{position_from, filter_map, cons_option}
use Rattle.jolie_trees.specs.declared.root.Root.{Root}
use Rattle.std.proofs.lemmas.Bool.Decides.{nat_tests}
use Rattle.jolie_trees.specs.Data.{Tree}
use Rattle.behaviour_tree.specs.declared.words.Reason.TheVariants as reason
use Rattle.behaviour_tree.specs.Data.{TypeTree, plain, named, undefined, AliasPart, VariablePart, SetPart, ServicePart, OperationPart}
use Rattle.behaviour_tree.specs.Operations.{number_named, service_operations}
use Rattle.correlation.specs.declared.session.Session.{Session}
use Rattle.correlation.specs.Sessions as rows
use Rattle.office_core.specs.declared.post.Posted.{Posted}
use Rattle.office_core.specs.Limits.{Setting}
use Rattle.office_core.specs.Past.{Past}
use Rattle.office_core.specs.Sessions.{births, service_of, has_ended, was_adopted}
use Rattle.office_core.specs.Keys.{first, all_there, Variable, variables_from, sets_from, sets_of, alias_of, value_at, value_of, is_in, named_by, are_equal, key, has_key, session_from, session_of, holder}
use Rattle.office_core.specs.Boxes.{box}
use Rattle.office_core.specs.Route.{to_session, to_new, refused_for, Asked, asked_at, asked_of, is_full, into_box, begins, named_in, named_session, is_starting, to_single, to_named, to_one, admitted, route}
use Rattle.behaviour_tree.specs.Conforms.{conforms}
use Rattle.behaviour_tree.specs.FormedSets.{is_concurrent}
use Rattle.office_plain.specs.SetNumbers.{sets_before}
use Rattle.office_plain.specs.declared.kept.SessionRow.{SessionRow}
use Rattle.office_plain.specs.Kept.{row_of, keyed_sessions}
use Rattle.office_plain.proofs.Acting.{left, not_true}
use Rattle.office_plain.proofs.Keyed.{holder_is, length_sets}
use Rattle.office_plain.proofs.Lists.{none_not_some, same_of, turned}
use Rattle.office_plain.proofs.Stays.{row_by}
use Rattle.office_plain.specs.Ways.{is_of, IsAsked}

-- ---- what is asked for

asked_in : (w : Setting) (q : Posted) (a : Asked) (d : ServicePart) (n : ℕ) (o : Option OperationPart)
    → slice_get w.parts.services q.service ≡ Some d → slice_get (service_operations w.parts d) n ≡ o
    → option_map (λ x. record { number = q.service; service = d; op = n; operation = x; value = q.value }) o ≡ Some a → IsAsked w a
asked_in w q a d n None at_d at_n h = absurd (none_not_some a h)
asked_in w q a d n (Some x) at_d at_n h =
    subst (IsAsked w) (same_of _ a h)
    (record { service = at_d; operation = ap (option_and_then (λ s. slice_get (service_operations w.parts s) n)) at_d ∙ at_n })

asked_by : (w : Setting) (q : Posted) (a : Asked) (d : ServicePart) (n : Option ℕ)
    → slice_get w.parts.services q.service ≡ Some d → option_and_then (asked_at w q d) n ≡ Some a → IsAsked w a
asked_by w q a d None at_d h = absurd (none_not_some a h)
asked_by w q a d (Some n) at_d h = asked_in w q a d n (slice_get (service_operations w.parts d) n) at_d refl h

-- what a message asks for is of the program
pub is_asked : (w : Setting) (q : Posted) (a : Asked) → asked_of w q ≡ Some a → IsAsked w a
is_asked w q a h = by (slice_get w.parts.services q.service) refl h
  where
    by : (g : Option ServicePart) → slice_get w.parts.services q.service ≡ g
        → option_and_then (λ d. option_and_then (asked_at w q d) (number_named w.parts q.op d)) g ≡ Some a → IsAsked w a
    by None at_d e = absurd (none_not_some a e)
    by (Some d) at_d e = asked_by w q a d (number_named w.parts q.op d) at_d e

-- ---- sessions

-- as many rows as births
pub rows_born : {A : Type 0} (rows : List A) (bs : List ℕ) (f : ℕ → ℕ → A)
    → ((s : ℕ) → slice_get rows s ≡ option_map (f s) (slice_get bs s)) → length rows ≡ length bs
rows_born [] [] f h = refl
rows_born [] (b ∷ bs) f h = absurd (none_not_some (f 0 b) (h 0))
rows_born (r ∷ rows) [] f h = absurd (none_not_some r (sym (h 0)))
rows_born (r ∷ rows) (b ∷ bs) f h = ap suc (rows_born rows bs (λ s. f (suc s)) (λ s. h (suc s)))

-- as many sessions are kept as were born
pub sessions_born : (w : Setting) (past : Past) (rows : List SessionRow) → ((s : ℕ) → slice_get rows s ≡ row_of w past s)
    → length rows ≡ length (births w past)
sessions_born w past rows h = rows_born rows (births w past) (λ s d. row_by d (was_adopted past s) (has_ended past s)) h

-- the first row of a service is that of its first session
first_row : (rows : List SessionRow) (bs : List ℕ) (f : ℕ → ℕ → SessionRow) (d n : ℕ) → ((s b : ℕ) → (f s b).service ≡ b)
    → ((s : ℕ) → slice_get rows s ≡ option_map (f s) (slice_get bs s))
    → position_from (is_of d) n rows ≡ session_from d (λ s. true) n bs
first_row [] [] f d n services h = refl
first_row [] (b ∷ bs) f d n services h = absurd (none_not_some (f 0 b) (h 0))
first_row (r ∷ rows) [] f d n services h = absurd (none_not_some r (sym (h 0)))
first_row (r ∷ rows) (b ∷ bs) f d n services h =
    ap (λ c. cond c (Some n) (position_from (is_of d) (n + 1) rows)) (here ∙ sym (and_true (nat_eq d b)))
    ∙ ap (λ o. if nat_eq d b && true then Some n else o)
    (ap (λ m. position_from (is_of d) m rows) (add-one n) ∙ first_row rows bs (λ s. f (suc s)) d (suc n) (λ s. services (suc s)) (λ s. h (suc s)))
  where
    and_true : (a : Bool) → (a && true) ≡ a
    and_true true = refl
    and_true false = refl

    here : nat_eq r.service d ≡ nat_eq d b
    here = ap (λ (x : SessionRow). nat_eq x.service d) (same_of r (f 0 b) (h 0)) ∙ ap (λ x. nat_eq x d) (services 0 b) ∙ turned b d

pub single_kept : (w : Setting) (past : Past) (rows : List SessionRow) (d : ℕ) → ((s : ℕ) → slice_get rows s ≡ row_of w past s)
    → position_from (is_of d) 0 rows ≡ session_from d (λ s. true) 0 (births w past)
single_kept w past rows d h =
    first_row rows (births w past) (λ s b. row_by b (was_adopted past s) (has_ended past s)) d 0 (λ s b. refl) h

-- ---- the sets of a message

-- an alias does not turn on the number of the variable
alias_same : (ty : TypeTree) (n m : ℕ) (aliases : List AliasPart)
    → alias_of ty (record { number = n; aliases = aliases }) ≡ alias_of ty (record { number = m; aliases = aliases })
alias_same (named t) n m aliases = refl
alias_same (plain k fields) n m aliases = refl
alias_same undefined n m aliases = refl

is_in_same : (ty : TypeTree) (n m : ℕ) (vs : List VariablePart) → is_in (variables_from n vs) ty ≡ is_in (variables_from m vs) ty
is_in_same ty n m [] = refl
is_in_same ty n m (v ∷ vs) = λ i. is_some (alias_same ty n m v.aliases i) || is_in_same ty (suc n) (suc m) vs i

values_same : (ty : TypeTree) (t : Tree) (n m : ℕ) (vs : List VariablePart)
    → map (value_of ty t) (variables_from n vs) ≡ map (value_of ty t) (variables_from m vs)
values_same ty t n m [] = refl
values_same ty t n m (v ∷ vs) = λ i. option_and_then (value_at t) (alias_same ty n m v.aliases i) ∷ values_same ty t (suc n) (suc m) vs i

-- what a tree says of a set does not turn on the numbers of the variables
named_same : (ty : TypeTree) (t : Tree) (n m : ℕ) (vs : List VariablePart) → named_by ty t (variables_from n vs) ≡ named_by ty t (variables_from m vs)
named_same ty t n m vs = λ i. if is_in_same ty n m vs i then all_there (values_same ty t n m vs i) else None

-- a set of a service, as correlation numbers its variables
set_at : (sets : List SetPart) (n i : ℕ) (x : SetPart) → slice_get sets i ≡ Some x
    → (m : ℕ) × (slice_get (sets_from n sets) i ≡ Some (variables_from m x.variables))
set_at [] n i x h = absurd (none_not_some x h)
set_at (y ∷ sets) n zero x h = (n, ap (λ (z : SetPart). Some (variables_from n z.variables)) (same_of y x h))
set_at (y ∷ sets) n (suc i) x h = set_at sets (n + length y.variables) i x h

-- from the element of a place on
pub drop_there : {A : Type 0} (xs : List A) (i : ℕ) (x : A) → slice_get xs i ≡ Some x → drop i xs ≡ x ∷ drop (i + 1) xs
drop_there {A} xs i x h = by xs i h ∙ ap (λ n. x ∷ drop n xs) (sym (add-one i))
  where
    by : (ys : List A) (j : ℕ) → slice_get ys j ≡ Some x → drop j ys ≡ x ∷ drop (suc j) ys
    by [] j g = absurd (none_not_some x g)
    by (y ∷ ys) zero g = ap (λ z. z ∷ ys) (same_of y x g)
    by (y ∷ ys) (suc j) g = by ys j g

-- the session that a set names is the one that correlation holds
held_same : (w : Setting) (past : Past) (a : Asked) (i : ℕ) (set : List Variable) (g : Option (List Root)) → IsAsked w a
    → slice_get (sets_of a.service) i ≡ Some set → g ≡ named_by a.operation.request a.value set
    → named_in w past a set ≡ option_and_then (rows.holder (keyed_sessions w past) (sets_before w.parts a.number + i)) g
held_same w past a i set None asked at_i e = ap (option_and_then (holder w past a.number set)) (sym e)
held_same w past a i [] (Some values) asked at_i e = absurd (none_not_some values (sym e))
held_same w past a i (v ∷ vs) (Some values) asked at_i e =
    ap (option_and_then (holder w past a.number (v ∷ vs))) (sym e)
    ∙ sym (holder_is w past a.number i a.service v vs values asked.service at_i)

-- the sets from one on, by what the message says of this one
pub named_turn : (w : Setting) (past : Past) (a : Asked) (sessions : List Session) (i n : ℕ) (x : SetPart) (g : Option (List Root))
    → IsAsked w a → sessions ≡ keyed_sessions w past → slice_get a.service.sets i ≡ Some x → n ≡ sets_before w.parts a.number + i
    → g ≡ named_by a.operation.request a.value (variables_from 0 x.variables)
    → first (filter_map (named_in w past a) (drop i (sets_of a.service)))
    ≡ first (cons_option (option_and_then (rows.holder sessions n) g) (filter_map (named_in w past a) (drop (i + 1) (sets_of a.service))))
named_turn w past a sessions i n x g asked tied there number names =
    let set = set_at a.service.sets 0 i x there in
    ap (λ l. first (filter_map (named_in w past a) l)) (drop_there (sets_of a.service) i (variables_from set.0 x.variables) set.1)
    ∙ ap (λ o. first (cons_option o (filter_map (named_in w past a) (drop (i + 1) (sets_of a.service)))))
    (held_same w past a i (variables_from set.0 x.variables) g asked set.1 (names ∙ named_same a.operation.request a.value 0 set.0 x.variables)
    ∙ (λ j. option_and_then (rows.holder (sym tied j) (sym number j)) g))

-- behind the last set there is none
pub named_end : (w : Setting) (past : Past) (a : Asked) (i : ℕ) → length a.service.sets ≤ i
    → first (filter_map (named_in w past a) (drop i (sets_of a.service))) ≡ None
named_end w past a i h = ap (λ l. first (filter_map (named_in w past a) l)) (by (sets_of a.service) i (subst (λ n. n ≤ i) (sym (length_sets 0 a.service.sets)) h))
  where
    by : (sets : List (List Variable)) (j : ℕ) → length sets ≤ j → drop j sets ≡ []
    by [] zero g = refl
    by [] (suc j) g = refl
    by (s ∷ sets) zero g = absurd (omega arith)
    by (s ∷ sets) (suc j) g = let less : length sets ≤ j = omega arith in by sets j less

-- ---- a session that is named lives

session_is : (d : ℕ) (is_it : ℕ → Bool) (s : ℕ) (es : List ℕ) (n : ℕ) → session_from d is_it s es ≡ Some n → is_it n ≡ true
session_is d is_it s [] n h = absurd (none_not_some n h)
session_is d is_it s (e ∷ es) n h = by (nat_eq d e) (is_it s) refl h (session_is d is_it (suc s) es n)
  where
    by : (a b : Bool) → is_it s ≡ b → (if a && b then Some s else session_from d is_it (suc s) es) ≡ Some n
        → (session_from d is_it (suc s) es ≡ Some n → is_it n ≡ true) → is_it n ≡ true
    by true true q g next = ap is_it (sym (same_of s n g)) ∙ q
    by true false q g next = next g
    by false b q g next = next g

named_by_lives : (w : Setting) (past : Past) (a : Asked) (set : List Variable) (g : Option (List Root)) (n : ℕ)
    → option_and_then (holder w past a.number set) g ≡ Some n → has_ended past n ≡ false
named_by_lives w past a set None n h = absurd (none_not_some n h)
named_by_lives w past a set (Some values) n h =
    let has : has_key w past set values n ≡ true = session_is a.number (has_key w past set values) 0 (births w past) n h in
    not_true (has_ended past n)
    (left (not (has_ended past n)) (elim (key w past n set) [ None ↦ false | Some k ↦ are_equal k values ]) has)

pub named_lives : (w : Setting) (past : Past) (a : Asked) (n : ℕ) → named_session w past a ≡ Some n → has_ended past n ≡ false
named_lives w past a n h = by (sets_of a.service) h
  where
    by_head : (set : List Variable) (sets : List (List Variable)) (o : Option ℕ) → named_in w past a set ≡ o
        → first (cons_option o (filter_map (named_in w past a) sets)) ≡ Some n
        → (first (filter_map (named_in w past a) sets) ≡ Some n → has_ended past n ≡ false) → has_ended past n ≡ false
    by_head set sets None q g next = next g
    by_head set sets (Some m) q g next =
        named_by_lives w past a set (named_by a.operation.request a.value set) n (q ∙ ap Some (same_of m n g))

    by : (sets : List (List Variable)) → first (filter_map (named_in w past a) sets) ≡ Some n → has_ended past n ≡ false
    by [] g = absurd (none_not_some n g)
    by (set ∷ sets) g = by_head set sets (named_in w past a set) refl g (by sets)

-- ---- limits

le_true : (m n : ℕ) → m ≤ n → nat_le m n ≡ true
le_true m n h = grind (arith, nat_tests)

lt_false : (m n : ℕ) → n < m → nat_le m n ≡ false
lt_false m n h = grind (arith, nat_tests)

-- a box that holds n messages
pub box_full : (w : Setting) (past : Past) (s n : ℕ) → n ≡ length (box past s) → w.limits.box ≤ n
    → refused_for reason.BoxFull ≡ into_box w past s
box_full w past s n e h =
    sym (ap (λ b. if b then refused_for reason.BoxFull else to_session s) (ap (nat_le w.limits.box) (sym e) ∙ le_true w.limits.box n h))

pub box_free : (w : Setting) (past : Past) (s n : ℕ) → n ≡ length (box past s) → n < w.limits.box → to_session s ≡ into_box w past s
box_free w past s n e h =
    sym (ap (λ b. if b then refused_for reason.BoxFull else to_session s) (ap (nat_le w.limits.box) (sym e) ∙ lt_false w.limits.box n h))

-- a run in which n sessions were born
pub run_full : (w : Setting) (past : Past) (n : ℕ) → n ≡ length (births w past) → w.limits.sessions ≤ n → refused_for reason.RunFull ≡ begins w past
run_full w past n e h =
    sym (ap (λ b. if b then refused_for reason.RunFull else to_new) (ap (nat_le w.limits.sessions) (sym e) ∙ le_true w.limits.sessions n h))

pub run_free : (w : Setting) (past : Past) (n : ℕ) → n ≡ length (births w past) → n < w.limits.sessions → to_new ≡ begins w past
run_free w past n e h =
    sym (ap (λ b. if b then refused_for reason.RunFull else to_new) (ap (nat_le w.limits.sessions) (sym e) ∙ lt_false w.limits.sessions n h))

-- ---- the session of a single service

-- the row of a session says whether it ended
row_ended : (w : Setting) (past : Past) (s : ℕ) (row : SessionRow) → row_of w past s ≡ Some row → row.ended ≡ has_ended past s
row_ended w past s row h = by (service_of w past s) h
  where
    by : (o : Option ℕ) → option_map (λ d. row_by d (was_adopted past s) (has_ended past s)) o ≡ Some row → row.ended ≡ has_ended past s
    by None g = absurd (none_not_some row g)
    by (Some d) g = ap (λ (r : SessionRow). r.ended) (sym (same_of (row_by d (was_adopted past s) (has_ended past s)) row g))

-- no session of the service was born
pub single_none : (w : Setting) (past : Past) (rows : List SessionRow) (d : ℕ) → ((s : ℕ) → slice_get rows s ≡ row_of w past s)
    → position_from (is_of d) 0 rows ≡ None → refused_for reason.Correlation ≡ to_single w past (session_of w past d (λ s. true))
single_none w past rows d tied h = sym (ap (to_single w past) (sym (single_kept w past rows d tied) ∙ h))

-- its first session ended or not
pub single_ended : (w : Setting) (past : Past) (rows : List SessionRow) (d p : ℕ) (row : SessionRow) → ((s : ℕ) → slice_get rows s ≡ row_of w past s)
    → position_from (is_of d) 0 rows ≡ Some p → slice_get rows p ≡ Some row → row.ended ≡ true
    → refused_for reason.Correlation ≡ to_single w past (session_of w past d (λ s. true))
single_ended w past rows d p row tied h there ended =
    sym (ap (to_single w past) (sym (single_kept w past rows d tied) ∙ h)
    ∙ ap (λ b. if b then refused_for reason.Correlation else into_box w past p) (sym (row_ended w past p row (sym (tied p) ∙ there)) ∙ ended))

pub single_lives : (w : Setting) (past : Past) (rows : List SessionRow) (d p : ℕ) (row : SessionRow) → ((s : ℕ) → slice_get rows s ≡ row_of w past s)
    → position_from (is_of d) 0 rows ≡ Some p → slice_get rows p ≡ Some row → row.ended ≡ false
    → (has_ended past p ≡ false) × (into_box w past p ≡ to_single w past (session_of w past d (λ s. true)))
single_lives w past rows d p row tied h there lives =
    let lives_yet : has_ended past p ≡ false = sym (row_ended w past p row (sym (tied p) ∙ there)) ∙ lives in (
      lives_yet,
      sym (ap (to_single w past) (sym (single_kept w past rows d tied) ∙ h)
          ∙ ap (λ b. if b then refused_for reason.Correlation else into_box w past p) lives_yet),
    )

-- at a place that is found something stands
pub record Stands (xs : List SessionRow) (n p : ℕ) : Type 0 where
  pub place : ℕ
  pub number : p ≡ n + place
  pub found : SessionRow
  pub there : slice_get xs place ≡ Some found

stands_at : (t : SessionRow → Bool) (n p : ℕ) (xs : List SessionRow) → position_from t n xs ≡ Some p → Stands xs n p
stands_at t n p [] h = absurd (none_not_some p h)
stands_at t n p (x ∷ xs) h = by (t x) h (stands_at t (n + 1) p xs)
  where
    later : (m : ℕ) → p ≡ n + 1 + m → p ≡ n + suc m
    later m e = omega arith

    here : n ≡ p → p ≡ n + 0
    here e = omega arith

    by : (b : Bool) → cond b (Some n) (position_from t (n + 1) xs) ≡ Some p
        → (position_from t (n + 1) xs ≡ Some p → Stands xs (n + 1) p) → Stands (x ∷ xs) n p
    by true g next = record { place = 0; number = here (same_of n p g); found = x; there = refl }
    by false g next =
        let rest = next g in
        record { place = suc rest.place; number = later rest.place rest.number; found = rest.found; there = rest.there }

pub position_there : (t : SessionRow → Bool) (p : ℕ) (xs : List SessionRow) → position_from t 0 xs ≡ Some p → slice_get xs p ≡ None → ⊥
position_there t p xs h none =
    let s : Stands xs 0 p = stands_at t 0 p xs h in
    none_not_some s.found (sym none ∙ ap (slice_get xs) (s.number ∙ zero-add s.place) ∙ s.there)

-- ---- the cases of a way

pub route_full : (w : Setting) (past : Past) (q : Posted) → is_full w past q.value ≡ true → refused_for reason.RunFull ≡ route w past q
route_full w past q full =
    sym (ap (λ b. elim b [ true ↦ refused_for reason.RunFull | false ↦ admitted w past (asked_of w q) ]) full)

pub route_asked : (w : Setting) (past : Past) (q : Posted) (g : Option Asked) → is_full w past q.value ≡ false → asked_of w q ≡ g
    → admitted w past g ≡ route w past q
route_asked w past q g free asked =
    sym (ap (λ b. elim b [ true ↦ refused_for reason.RunFull | false ↦ admitted w past (asked_of w q) ]) free ∙ ap (admitted w past) asked)

pub route_unknown : (w : Setting) (past : Past) (q : Posted) → is_full w past q.value ≡ false → asked_of w q ≡ None
    → refused_for reason.UnknownOperation ≡ route w past q
route_unknown w past q free asked = route_asked w past q None free asked

pub route_misfit : (w : Setting) (past : Past) (q : Posted) (a : Asked) → is_full w past q.value ≡ false → asked_of w q ≡ Some a
    → conforms w.parts.types a.value a.operation.request ≡ false → refused_for reason.NotConforming ≡ route w past q
route_misfit w past q a free asked misfit =
    sym (ap (λ b. elim b [ false ↦ refused_for reason.NotConforming | true ↦ to_one w past a ]) misfit) ∙ route_asked w past q (Some a) free asked

pub route_fit : (w : Setting) (past : Past) (q : Posted) (a : Asked) → is_full w past q.value ≡ false → asked_of w q ≡ Some a
    → conforms w.parts.types a.value a.operation.request ≡ true → to_one w past a ≡ route w past q
route_fit w past q a free asked fit =
    sym (ap (λ b. elim b [ false ↦ refused_for reason.NotConforming | true ↦ to_one w past a ]) fit) ∙ route_asked w past q (Some a) free asked

pub one_single : (w : Setting) (past : Past) (a : Asked) → is_concurrent a.service.execution ≡ false
    → to_single w past (session_of w past a.number (λ s. true)) ≡ to_one w past a
one_single w past a h =
    sym (ap (λ b. elim b [ true ↦ to_named w past a (named_session w past a) | false ↦ to_single w past (session_of w past a.number (λ s. true)) ]) h)

pub one_named : (w : Setting) (past : Past) (a : Asked) (g : Option ℕ) → is_concurrent a.service.execution ≡ true → named_session w past a ≡ g
    → to_named w past a g ≡ to_one w past a
one_named w past a g h names =
    sym (ap (λ b. elim b [ true ↦ to_named w past a (named_session w past a) | false ↦ to_single w past (session_of w past a.number (λ s. true)) ]) h
    ∙ ap (to_named w past a) names)

pub named_starts : (w : Setting) (past : Past) (a : Asked) → is_starting a ≡ true → begins w past ≡ to_named w past a None
named_starts w past a h = sym (ap (λ b. if b then begins w past else refused_for reason.Correlation) h)

-- ---- what a set names

-- nothing is named where it is not some
pub is_none : (o : Option ℕ) → is_some o ≡ false → o ≡ None
is_none None h = refl
is_none (Some n) h = absurd (true≢false h)

-- what is named first is what this set names
pub first_is : (o : Option ℕ) (rest : List ℕ) → is_some o ≡ true → first (cons_option o rest) ≡ o
first_is None rest h = absurd (true≢false (sym h))
first_is (Some n) rest h = refl

-- the session that is named lives
pub lives_if : (w : Setting) (past : Past) (a : Asked) (s : Option ℕ) → s ≡ named_session w past a → IfSome s (λ n. has_ended past n ≡ false)
lives_if w past a None h = tt
lives_if w past a (Some n) h = named_lives w past a n (sym h)

-- the sets from one on, by what this one names
pub named_here : (w : Setting) (past : Past) (a : Asked) (sessions : List Session) (i n : ℕ) (x : SetPart) (found : Option ℕ)
    → IsAsked w a → sessions ≡ keyed_sessions w past → slice_get a.service.sets i ≡ Some x → n ≡ sets_before w.parts a.number + i
    → found ≡ option_and_then (rows.holder sessions n) (named_by a.operation.request a.value (variables_from 0 x.variables))
    → named_session w past a ≡ first (filter_map (named_in w past a) (drop i (sets_of a.service)))
    → named_session w past a ≡ first (cons_option found (filter_map (named_in w past a) (drop (i + 1) (sets_of a.service))))
named_here w past a sessions i n x found asked tied there number is_it before =
    before
    ∙ named_turn w past a sessions i n x (named_by a.operation.request a.value (variables_from 0 x.variables)) asked tied there number refl
    ∙ ap (λ o. first (cons_option o (filter_map (named_in w past a) (drop (i + 1) (sets_of a.service))))) (sym is_it)

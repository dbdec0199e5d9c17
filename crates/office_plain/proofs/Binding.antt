-- A session binds a correlation variable: what is answered is what the history says, and what is kept says what was written.
use Rattle.std.proofs.Common.{◌≡◌, ◌≢◌, ◌≤◌, ◌<◌, ℕ, zero, suc, ◌+◌, Bool, true, false, ◌&&◌, ◌||◌, List, [], ◌∷◌, ◌++◌, append_assoc, length, map, refl, sym, ap, subst, ◌∙◌, Option, None, Some, option_map, true≢false, zero-add, add-zero, arith}
use Rattle.std.specs.Prelude.{nat_eq, nat_lt, slice_get, is_some, option_and_then, unwrap_or, if◌then◌else◌}
use Rattle.std.specs.List.{list_any, filter, filter_map, cons_option}
use Rattle.std.proofs.lemmas.Bool.Decides.{nat_tests}
use Rattle.jolie_trees.specs.Limits.{in_u64}
use Rattle.jolie_trees.specs.declared.root.Root.{Root}
use Rattle.behaviour_tree.specs.Data.{VariablePart, SetPart, ServicePart}
use Rattle.correlation.specs.declared.bind_reply.BindReply.{BindReply}
use Rattle.correlation.specs.declared.bind_reply.BindReply.TheVariants as reply
use Rattle.correlation.specs.declared.rows.Rows.{Rows}
use Rattle.correlation.specs.declared.session.SetOf.{SetOf}
use Rattle.correlation.specs.declared.session.Session.{Session}
use Rattle.correlation.specs.declared.session.Written.{Written}
use Rattle.correlation.specs.Sessions.{value_of, variables_of, set_with, key_of, write, changed, held, reply_of, reply_by, reply_to, if_bound, key_in, SetKey}
use Rattle.correlation.specs.Sessions as rows
use Rattle.correlation.specs.View.{sessions_of}
use Rattle.office_core.specs.declared.history.Act.TheVariants as act
use Rattle.office_core.specs.declared.history.Entry.{Entry}
use Rattle.office_core.specs.declared.message.Message.{Message}
use Rattle.office_core.specs.declared.outgoing.OutKind.TheVariants as kind
use Rattle.office_core.specs.Limits.{Setting}
use Rattle.office_core.specs.Past.{Past}
use Rattle.office_core.specs.Sessions.{births, service_of, has_ended, ends}
use Rattle.office_core.specs.Keys.{first, Variable, variables_from, sets_from, sets_of, written}
use Rattle.office_core.specs.Keys as keys
use Rattle.office_core.specs.Accepted.{then_one}
use Rattle.office_core.specs.Bound.{Binding, sets_with, was_written, written_then, held_in, bind_reply}
use Rattle.office_core.specs.Legal.{is_acting, has_variable, bound, IsLegalEntry}
use Rattle.office_core.proofs.Longer.{some_same, given_more, messages_same}
use Rattle.office_plain.specs.SetNumbers.{numbered_from, sets_before, numbered_sets}
use Rattle.office_plain.specs.declared.kept.Kept.{Kept}
use Rattle.office_plain.specs.Entries.{entry}
use Rattle.office_plain.specs.Kept.{values_of, keyed, keyed_from, keyed_sessions, written_first, written_in}
use Rattle.office_plain.specs.Kept as kept
use Rattle.office_plain.specs.Ties.{Ties}
use Rattle.office_plain.proofs.Keyed.{or_else, value_of-append, values_written, variables_at, all_there_same, holder_is}
use Rattle.office_plain.proofs.Lists.{same_of, none_not_some, itself, eq_true, not_eq}
use Rattle.office_plain.proofs.Stays.{weight_stays, row_stays, places_stay, waiting_stays, answers_stay, standings_stay, keyed_with, keyed_sessions_stay, calls_stay, brought_stays, unfetched_stays}

-- ---- the one set of a service that has a variable

-- whether a set has the variable of a number
abbrev has : ℕ → List Variable → Bool
has v set = list_any (λ (u : Variable). nat_eq v u.number) set

less_true : (a b : ℕ) → nat_lt a b ≡ true → a < b
less_true a b h = grind (arith, nat_tests)

less_false : (a b : ℕ) → nat_lt a b ≡ false → b ≤ a
less_false a b h = grind (arith, nat_tests)

below_apart : (a b : ℕ) → a < b → a ≢ b
below_apart a b l h = omega arith

has_below : (v n : ℕ) (ds : List VariablePart) → v < n → has v (variables_from n ds) ≡ false
has_below v n [] less = refl
has_below v n (d ∷ ds) less =
    let next : v < suc n = omega arith in
    ap (λ b. b || has v (variables_from (suc n) ds)) (not_eq v n (below_apart v n less)) ∙ has_below v (suc n) ds next

has_above : (v n : ℕ) (ds : List VariablePart) → n + length ds ≤ v → has v (variables_from n ds) ≡ false
has_above v n [] far = refl
has_above v n (d ∷ ds) far =
    ap (λ b. b || has v (variables_from (suc n) ds)) (not_eq v n (apart v n (length ds) far))
    ∙ has_above v (suc n) ds (next n (length ds) v far)
  where
    apart : (a b l : ℕ) → b + suc l ≤ a → a ≢ b
    apart a b l h e = omega arith

    next : (a l b : ℕ) → a + suc l ≤ b → suc a + l ≤ b
    next a l b h = omega arith

none_below : (v n : ℕ) (sets : List SetPart) → v < n → filter (has v) (sets_from n sets) ≡ []
none_below v n [] less = refl
none_below v n (s ∷ sets) less =
    let next : v < n + length s.variables = omega arith in
    ap
    (λ b. if b then variables_from n s.variables ∷ filter (has v) (sets_from (n + length s.variables) sets) else filter (has v) (sets_from (n + length s.variables) sets))
    (has_below v n s.variables less)
    ∙ none_below v (n + length s.variables) sets next

-- where a set has the variable, no set behind it has it
none_behind : (v n : ℕ) (s : SetPart) (sets : List SetPart) (b : Bool) → nat_lt v (n + length s.variables) ≡ b
    → has v (variables_from n s.variables) ≡ true → filter (has v) (sets_from (n + length s.variables) sets) ≡ []
none_behind v n s sets true q e = none_below v (n + length s.variables) sets (less_true v (n + length s.variables) q)
none_behind v n s sets false q e =
    absurd (true≢false (sym e ∙ has_above v n s.variables (less_false v (n + length s.variables) q)))

-- if a set has the variable, it is the one that has it
one_set : (v n : ℕ) (sets : List SetPart) → is_some (first (filter (has v) (sets_from n sets))) ≡ true
    → (set : List Variable) × (filter (has v) (sets_from n sets) ≡ set ∷ [])
one_set v n [] h = absurd (true≢false (sym h))
one_set v n (s ∷ sets) h =
    by (has v (variables_from n s.variables)) refl (one_set v (n + length s.variables) sets)
  where
    kept_by : Bool → List (List Variable)
    kept_by b = if b then variables_from n s.variables ∷ filter (has v) (sets_from (n + length s.variables) sets) else filter (has v) (sets_from (n + length s.variables) sets)

    by : (b : Bool) → has v (variables_from n s.variables) ≡ b
        → (is_some (first (filter (has v) (sets_from (n + length s.variables) sets))) ≡ true
        → (set : List Variable) × (filter (has v) (sets_from (n + length s.variables) sets) ≡ set ∷ []))
        → (set : List Variable) × (filter (has v) (sets_from n (s ∷ sets)) ≡ set ∷ [])
    by true e next = (
      variables_from n s.variables,
      ap kept_by e
          ∙ ap (λ l. variables_from n s.variables ∷ l) (none_behind v n s sets (nat_lt v (n + length s.variables)) refl e),
    )
    by false e next =
        let more = next (sym (ap (λ b. is_some (first (kept_by b))) e) ∙ h) in
        (more.0, ap kept_by e ∙ more.1)

-- ---- the same set among those that correlation has

abbrev numbers : List Variable → List ℕ
numbers vs = map (λ (u : Variable). u.number) vs

-- a set under a number
abbrev numbered : ℕ → List Variable → SetOf
numbered n vs = record { set = n; variables = numbers vs }

has_number : (v : ℕ) (vs : List Variable) → list_any (nat_eq v) (numbers vs) ≡ has v vs
has_number v [] = refl
has_number v (u ∷ vs) = ap (λ b. nat_eq v u.number || b) (has_number v vs)

-- the first set that has a variable stands at a place, and correlation finds it; the first set has the number m
record Found (v m : ℕ) (sets : List (List Variable)) (set : List Variable) : Type 0 where
  place : ℕ
  variable : Variable
  others : List Variable
  is : set ≡ variable ∷ others
  there : slice_get sets place ≡ Some (variable ∷ others)
  has_it : has v (variable ∷ others) ≡ true
  seen : set_with v (numbered_from m sets) ≡ Some (numbered (m + place) (variable ∷ others))

later_number : (m n : ℕ) → suc m + n ≡ m + suc n
later_number m n = omega arith

head_of : (x y : List Variable) (xs ys : List (List Variable)) → x ∷ xs ≡ y ∷ ys → y ≡ x
head_of x y xs ys h = cc

found : (v m : ℕ) (sets : List (List Variable)) (set : List Variable) (more : List (List Variable))
    → filter (has v) sets ≡ set ∷ more → Found v m sets set
found v m [] set more h = absurd (no_head h)
  where
    no_head : [] ≡ set ∷ more → ⊥
    no_head e = cc
found v m ([] ∷ sets) set more h =
    let f = found v (suc m) sets set more h in
    record {
      place = suc f.place;
      variable = f.variable;
      others = f.others;
      is = f.is;
      there = f.there;
      has_it = f.has_it;
      seen = f.seen ∙ ap (λ n. Some (numbered n (f.variable ∷ f.others))) (later_number m f.place);
    }
found v m ((u ∷ us) ∷ sets) set more h = by (has v (u ∷ us)) refl (found v (suc m) sets set more)
  where
    kept_by : Bool → List (List Variable)
    kept_by b = if b then (u ∷ us) ∷ filter (has v) sets else filter (has v) sets

    seen_by : Bool → Option SetOf
    seen_by b = if b then Some (numbered m (u ∷ us)) else set_with v (numbered_from (suc m) sets)

    by : (b : Bool) → has v (u ∷ us) ≡ b → (filter (has v) sets ≡ set ∷ more → Found v (suc m) sets set) → Found v m ((u ∷ us) ∷ sets) set
    by true e next = record {
      place = 0;
      variable = u;
      others = us;
      is = head_of (u ∷ us) set (filter (has v) sets) more (sym (ap kept_by e) ∙ h);
      there = refl;
      has_it = e;
      seen = ap seen_by (has_number v (u ∷ us) ∙ e)
          ∙ ap (λ n. Some (numbered n (u ∷ us))) (sym (add-zero m));
    }
    by false e next =
        let f = next (sym (ap kept_by e) ∙ h) in
        record {
          place = suc f.place;
          variable = f.variable;
          others = f.others;
          is = f.is;
          there = f.there;
          has_it = f.has_it;
          seen = ap seen_by (has_number v (u ∷ us) ∙ e) ∙ f.seen
              ∙ ap (λ n. Some (numbered n (f.variable ∷ f.others))) (later_number m f.place);
        }

-- ---- what is written

-- whether one of some variables has the number and is written, where what has the number has this
any_written : (v : ℕ) (f : Variable → Option Root) (x : Option Root) (vs : List Variable)
    → ((j : ℕ) (u : Variable) → slice_get vs j ≡ Some u → nat_eq v u.number ≡ true → f u ≡ x)
    → list_any (λ (u : Variable). if nat_eq v u.number then is_some (f u) else false) vs ≡ (has v vs && is_some x)
any_written v f x [] same = refl
any_written v f x (u ∷ vs) same = by (nat_eq v u.number) refl (any_written v f x vs (λ j t. same (suc j) t))
  where
    rest : Bool
    rest = list_any (λ (t : Variable). if nat_eq v t.number then is_some (f t) else false) vs

    absorbed : (a b : Bool) → (b || (a && b)) ≡ b
    absorbed true true = refl
    absorbed true false = refl
    absorbed false true = refl
    absorbed false false = refl

    by : (b : Bool) → nat_eq v u.number ≡ b → rest ≡ (has v vs && is_some x)
        → ((if b then is_some (f u) else false) || rest) ≡ ((b || has v vs) && is_some x)
    by true e h = ap (λ o. is_some o || rest) (same 0 u refl e) ∙ ap (λ b. is_some x || b) h ∙ absorbed (has v vs) (is_some x)
    by false e h = h

-- a variable and what was written into it
abbrev wrote : ℕ → Root → Written
wrote v x = record { variable = v; value = x }

-- what a variable has once a value is written into one that had none
value_then : (ws : List Written) (v n : ℕ) (x : Root) (o : Option Root) → value_of ws v ≡ None → value_of ws n ≡ o
    → value_of (ws ++ wrote v x ∷ []) n ≡ (if nat_eq v n then Some x else o)
value_then ws v n x o none stood = value_of-append ws (wrote v x ∷ []) n ∙ by (nat_eq v n) refl
  where
    nothing_else : (q : Option Root) → or_else q None ≡ q
    nothing_else None = refl
    nothing_else (Some y) = refl

    by : (b : Bool) → nat_eq v n ≡ b → or_else (value_of ws n) (if b then Some x else None) ≡ (if b then Some x else o)
    by true e = ap (λ q. or_else q (Some x)) (ap (value_of ws) (sym (eq_true v n e)) ∙ none)
    by false e = nothing_else (value_of ws n) ∙ stood

-- ---- the answer

abbrev binding : ℕ → ℕ → ℕ → Root → Binding
binding s d v x = record { session = s; service = d; variable = v; value = x }

-- where a service has a variable: the one set that has it
record Having (w : Setting) (d v : ℕ) : Type 0 where
  service : ServicePart
  at : slice_get w.parts.services d ≡ Some service
  set : List Variable
  alone : filter (has v) (sets_of service) ≡ set ∷ []

having_in : (w : Setting) (d v : ℕ) (g : Option ServicePart) → slice_get w.parts.services d ≡ g
    → is_some (first (elim g [ None ↦ [] | Some service ↦ filter (has v) (sets_of service) ])) ≡ true → Having w d v
having_in w d v None at h = absurd (true≢false (sym h))
having_in w d v (Some service) at h =
    let one = one_set v 0 service.sets h in
    record { service = service; at = at; set = one.0; alone = one.1 }

having : (w : Setting) (d v : ℕ) → is_some (first (sets_with w d v)) ≡ true → Having w d v
having w d v h = having_in w d v (slice_get w.parts.services d) refl h

-- the key that a value completes in a set of the service of a session
key_then : (w : Setting) (past : Past) (s d i v : ℕ) (service : ServicePart) (x : Root) (u : Variable) (us : List Variable)
    → slice_get w.parts.services d ≡ Some service → slice_get (sets_of service) i ≡ Some (u ∷ us)
    → has_ended past s ≡ false → value_of (values_of w past s d) v ≡ None
    → key_of (write v x (keyed w past s d)) (sets_before w.parts d + i)
    ≡ keys.all_there (map (written_then w past (binding s d v x)) (u ∷ us))
key_then w past s d i v service x u us at_d at_i lives none =
    ap (λ b. if b then None else option_and_then all (variables_of (sets_before w.parts d + i) (numbered_sets w.parts d))) lives
    ∙ ap (option_and_then all) (ap among at_d
    ∙ variables_at (sets_before w.parts d + i) (sets_before w.parts d) i (sets_of service) u us refl at_i)
    ∙ all_there_same (value_of ws) (written_then w past (binding s d v x)) (u ∷ us)
    (λ j t at_j. value_then (values_of w past s d) v t.number x (written w past s t) none (values_written w past s d service i j (u ∷ us) t at_d at_i at_j))
  where
    ws : List Written
    ws = values_of w past s d ++ wrote v x ∷ []

    all : List ℕ → Option (List Root)
    all ns = rows.all_there (map (value_of ws) ns)

    among : Option ServicePart → Option (List ℕ)
    among g = variables_of (sets_before w.parts d + i) (unwrap_or (option_map (λ (y : ServicePart). numbered_from (sets_before w.parts d) (sets_of y)) g) [])

-- the session that has the key which a value completes
held_is : (w : Setting) (past : Past) (s d v : ℕ) (x : Root) (service : ServicePart) (set : List Variable)
    → slice_get w.parts.services d ≡ Some service → Found v (sets_before w.parts d) (sets_of service) set
    → has_ended past s ≡ false → value_of (values_of w past s d) v ≡ None
    → held (keyed_sessions w past) (keyed w past s d) v x ≡ held_in w past (binding s d v x) set
held_is w past s d v x service set at_d f lives none =
    ap (option_and_then holds) (ap (option_and_then completes) here ∙ ap (key_in number) (key_then w past s d f.place v service x f.variable f.others at_d f.there lives none))
    ∙ by (keys.all_there (map (written_then w past (binding s d v x)) (f.variable ∷ f.others)))
    ∙ ap (held_in w past (binding s d v x)) (sym f.is)
  where
    number : ℕ
    number = sets_before w.parts d + f.place

    holds : SetKey → Option ℕ
    holds k = rows.holder (keyed_sessions w past) k.set k.values

    completes : SetOf → Option SetKey
    completes t = key_in t.set (key_of (write v x (keyed w past s d)) t.set)

    here : set_with v (numbered_sets w.parts d) ≡ Some (numbered number (f.variable ∷ f.others))
    here =
        ap (λ g. set_with v (unwrap_or (option_map (λ (y : ServicePart). numbered_from (sets_before w.parts d) (sets_of y)) g) [])) at_d
        ∙ f.seen

    by : (o : Option (List Root)) → option_and_then holds (key_in number o) ≡ option_and_then (keys.holder w past d (f.variable ∷ f.others)) o
    by None = refl
    by (Some k) = holder_is w past d f.place service f.variable f.others k at_d f.there

-- whether the variable of the binding was written
written_is : (w : Setting) (past : Past) (s d v : ℕ) (x : Root) (service : ServicePart) (set : List Variable)
    → slice_get w.parts.services d ≡ Some service → Found v (sets_before w.parts d) (sets_of service) set
    → list_any (was_written w past (binding s d v x)) (set ∷ []) ≡ is_some (value_of (values_of w past s d) v)
written_is w past s d v x service set at_d f =
    ap (λ l. list_any (was_written w past (binding s d v x)) (l ∷ [])) f.is
    ∙ ap (λ b. b || false) (any_written v (written w past s) (value_of (values_of w past s d) v) (f.variable ∷ f.others)
    (λ j t at_j e. sym (values_written w past s d service f.place j (f.variable ∷ f.others) t at_d f.there at_j)
    ∙ ap (value_of (values_of w past s d)) (sym (eq_true v t.number e))))
    ∙ ap (λ b. (b && is_some (value_of (values_of w past s d) v)) || false) f.has_it
    ∙ or_false (is_some (value_of (values_of w past s d) v))
  where
    or_false : (b : Bool) → (b || false) ≡ b
    or_false true = refl
    or_false false = refl

-- what is answered by whether the variable was written, and by who has the key
abbrev answer_by : Bool → Option ℕ → BindReply
answer_by before t = elim before [ true ↦ reply.Fixed | false ↦ elim t [ None ↦ reply.Bound | Some s ↦ reply.Held s ] ]

-- what correlation answers is what the history says
reply_is : (w : Setting) (past : Past) (s d v : ℕ) (x : Root)
    → is_some (first (sets_with w d v)) ≡ true → has_ended past s ≡ false
    → reply_of (keyed_sessions w past) (keyed w past s d) v x ≡ bind_reply w past (binding s d v x)
reply_is w past s d v x has_it lives =
    by (value_of (values_of w past s d) v) refl ∙ sym (ap by_sets sets_are)
  where
    h : Having w d v
    h = having w d v has_it

    f : Found v (sets_before w.parts d) (sets_of h.service) h.set
    f = found v (sets_before w.parts d) (sets_of h.service) h.set [] h.alone

    by_sets : List (List Variable) → BindReply
    by_sets sets = answer_by (list_any (was_written w past (binding s d v x)) sets) (first (filter_map (held_in w past (binding s d v x)) sets))

    sets_are : sets_with w d v ≡ h.set ∷ []
    sets_are = ap (λ g. elim g [ None ↦ [] | Some service ↦ filter (has v) (sets_of service) ]) h.at ∙ h.alone

    before : list_any (was_written w past (binding s d v x)) (h.set ∷ []) ≡ is_some (value_of (values_of w past s d) v)
    before = written_is w past s d v x h.service h.set h.at f

    only : (o : Option ℕ) → reply_by o ≡ answer_by false (first (cons_option o []))
    only None = refl
    only (Some t) = refl

    by : (o : Option Root) → value_of (values_of w past s d) v ≡ o
        → (if is_some o then reply.Fixed else reply_by (held (keyed_sessions w past) (keyed w past s d) v x)) ≡ by_sets (h.set ∷ [])
    by (Some y) e =
        sym (ap (λ b. answer_by b (first (filter_map (held_in w past (binding s d v x)) (h.set ∷ [])))) (before ∙ ap is_some e))
    by None e =
        ap reply_by (held_is w past s d v x h.service h.set h.at f lives e)
        ∙ only (held_in w past (binding s d v x) h.set)
        ∙ sym (ap (λ b. answer_by b (first (filter_map (held_in w past (binding s d v x)) (h.set ∷ [])))) (before ∙ ap is_some e))

-- ---- the session

session_at : (w : Setting) (past : Past) (from j s d : ℕ) (ds : List ℕ) → s ≡ from + j → slice_get ds j ≡ Some d
    → rows.session_of (keyed_from w past from ds) s ≡ Some (keyed w past s d)
session_at w past from j s d [] e h = absurd (none_not_some d h)
session_at w past from zero s d (c ∷ ds) e h =
    let is_s : from ≡ s = omega arith in
    let is_d : c ≡ d = same_of c d h in
    ap (λ b. if b then Some (keyed w past from c) else rows.session_of (keyed_from w past (suc from) ds) s) (ap (λ q. nat_eq q s) is_s ∙ itself s)
    ∙ (λ i. Some (keyed w past (is_s i) (is_d i)))
session_at w past from (suc j) s d (c ∷ ds) e h =
    let next : s ≡ suc from + j = omega arith in
    ap (λ b. if b then Some (keyed w past from c) else rows.session_of (keyed_from w past (suc from) ds) s) (not_eq from s (apart from s j e))
    ∙ session_at w past (suc from) j s d ds next h
  where
    apart : (a b k : ℕ) → b ≡ a + suc k → a ≢ b
    apart a b k g q = omega arith

-- what correlation answered is what the office answers
pub bound_is : (w : Setting) (past : Past) (s v : ℕ) (x : Root) (k : Kept) (r : BindReply) → Ties w past k
    → has_ended past s ≡ false → has_variable w past s v ≡ true → reply_to (sessions_of k.rows) s v x ≡ Some r
    → Some r ≡ bound w past s v x
bound_is w past s v x k r t lives has_it answered = by (service_of w past s) refl has_it
  where
    by : (o : Option ℕ) → service_of w past s ≡ o → is_some (option_and_then (λ d. first (sets_with w d v)) o) ≡ true
        → Some r ≡ option_map (λ d. bind_reply w past (binding s d v x)) (service_of w past s)
    by None born h = absurd (true≢false (sym h))
    by (Some d) born h =
        sym answered
        ∙ ap (λ ss. reply_to ss s v x) t.keys
        ∙ ap (option_map (λ (q : Session). reply_of (keyed_sessions w past) q v x)) (session_at w past 0 s s d (births w past) (sym (zero-add s)) born)
        ∙ ap Some (reply_is w past s d v x h lives)
        ∙ sym (ap (option_map (λ c. bind_reply w past (binding s c v x))) born)

-- the binding of a variable that the session has is legal
pub legal_bind : (w : Setting) (past : Past) (s v : ℕ) (x : Root) (r : BindReply)
    → is_acting w past s ≡ true → has_variable w past s v ≡ true → Some r ≡ bound w past s v x
    → IsLegalEntry w past (entry s (act.Bind v x r))
legal_bind w past s v x r acts has_it answered =
    record {
      allowed = ap (λ b. b && has_variable w past s v) acts ∙ has_it;
      reply = ap (option_map (act.Bind v x)) (sym answered);
    }

-- ---- what stays tied

abbrev writes : ℕ → ℕ → Root → Entry
writes s v x = entry s (act.Bind v x reply.Bound)

-- what correlation has of a session, once a value is written into a variable of one of them
keyed_written : (w : Setting) (past : Past) (s v : ℕ) (x : Root) (t d : ℕ) (b : Bool) → nat_eq t s ≡ b
    → (if b then write v x (keyed w past t d) else keyed w past t d) ≡ keyed w (then_one w past (writes s v x)) t d
keyed_written w past s v x t d true e =
    λ i. record {
      number = t;
      sets = numbered_sets w.parts d;
      written = more i;
      released = ended i;
    }
  where
    one : written_in t (writes s v x) ≡ Some (wrote v x)
    one = ap (λ b. if b then Some (wrote v x) else None) e

    more : values_of w past t d ++ wrote v x ∷ [] ≡ values_of w (then_one w past (writes s v x)) t d
    more =
        append_assoc (filter_map (written_first w past t) (kept.variables_of w.parts d)) (filter_map (written_in t) past.entries) (wrote v x ∷ [])
        ∙ ap (λ l. filter_map (written_first w past t) (kept.variables_of w.parts d) ++ l)
        (sym (given_more w past (writes s v x) (written_in t) (wrote v x) one))

    ended : has_ended past t ≡ has_ended (then_one w past (writes s v x)) t
    ended = sym (some_same w past (writes s v x) (ends t) refl)
keyed_written w past s v x t d false e =
    sym (keyed_with w past (writes s v x) t d (has_ended past t)
    (ap (λ b. if b then Some (wrote v x) else None) e)
    (some_same w past (writes s v x) (ends t) refl))

keyed_from_written : (w : Setting) (past : Past) (s v : ℕ) (x : Root) (t : ℕ) (ds : List ℕ)
    → changed s (write v x) (keyed_from w past t ds) ≡ keyed_from w (then_one w past (writes s v x)) t ds
keyed_from_written w past s v x t [] = refl
keyed_from_written w past s v x t (d ∷ ds) =
    λ i. keyed_written w past s v x t d (nat_eq t s) refl i ∷ keyed_from_written w past s v x (suc t) ds i

-- what correlation has after a binding, by its answer
pub keys_bound : (w : Setting) (past : Past) (s v : ℕ) (x : Root) (r : BindReply)
    → if_bound r (changed s (write v x) (keyed_sessions w past)) (keyed_sessions w past)
    ≡ keyed_sessions w (then_one w past (entry s (act.Bind v x r)))
keys_bound w past s v x reply.Bound = keyed_from_written w past s v x 0 (births w past)
keys_bound w past s v x (reply.Held t) = sym (keyed_sessions_stay w past (entry s (act.Bind v x (reply.Held t))) (λ u. refl) (λ u. refl))
keys_bound w past s v x reply.Fixed = sym (keyed_sessions_stay w past (entry s (act.Bind v x reply.Fixed)) (λ u. refl) (λ u. refl))

-- after a binding correlation has what was written
pub ties_bind : (w : Setting) (past : Past) (s v : ℕ) (x : Root) (r : BindReply) (k : Kept) (rs : Rows) → Ties w past k
    → sessions_of rs ≡ if_bound r (changed s (write v x) (sessions_of k.rows)) (sessions_of k.rows)
    → Ties w (then_one w past (entry s (act.Bind v x r))) (record k { rows = rs })
ties_bind w past s v x r k rs t changes =
    let e : Entry = entry s (act.Bind v x r) in
    record {
      messages = t.messages ∙ sym (messages_same w past e refl);
      few = subst (λ ms. length ms ≤ w.limits.messages) (sym (messages_same w past e refl)) t.few;
      weight = t.weight ∙ ap in_u64 (sym (weight_stays past e refl));
      sessions = λ u. t.sessions u ∙ sym (row_stays w past e u refl refl);
      places = λ u. t.places u ∙ sym (places_stay w past e u refl);
      boxes = λ u h. t.boxes u (sym (some_same w past e (ends u) refl) ∙ h) ∙ sym (waiting_stays w past e u refl);
      origins = λ j. t.origins j ∙ ap (λ ms. option_map (λ (m : Message). m.origin) (slice_get ms j)) (sym (messages_same w past e refl));
      standings = standings_stay w past e k.book (λ j m g. answers_stay w past e j m refl refl refl refl) t.standings;
      keys = changes ∙ ap (λ ss. if_bound r (changed s (write v x) ss) ss) t.keys ∙ keys_bound w past s v x r;
      sent = t.sent ∙ sym (calls_stay w past e refl);
      outcomes = λ i. t.outcomes i ∙ sym (brought_stays w past e i refl (λ c. refl));
      console = t.console ∙ sym (unfetched_stays w past e kind.Console refl (λ c. refl));
      remote = t.remote ∙ sym (unfetched_stays w past e kind.Remote refl (λ c. refl));
    }

-- where a binding gave up, what correlation has stays
pub ties_unbound : (w : Setting) (past : Past) (k : Kept) (rs : Rows) → Ties w past k → sessions_of rs ≡ sessions_of k.rows
    → Ties w past (record k { rows = rs })
ties_unbound w past k rs t same =
    record {
      messages = t.messages;
      few = t.few;
      weight = t.weight;
      sessions = t.sessions;
      places = t.places;
      boxes = t.boxes;
      origins = t.origins;
      standings = t.standings;
      keys = same ∙ t.keys;
      sent = t.sent;
      outcomes = t.outcomes;
      console = t.console;
      remote = t.remote;
    }

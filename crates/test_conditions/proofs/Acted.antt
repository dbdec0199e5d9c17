-- Whether the run goes on, sessions that act, and the variables of their services.
use Rattle.std.proofs.Common.{◌≡◌, ◌≢◌, ◌≤◌, ◌<◌, ℕ, zero, suc, ◌+◌, ◌-◌, Bool, true, false, not, ◌&&◌, ◌||◌, List, [], ◌∷◌, ◌++◌, length, refl, sym, ap, ◌∙◌, Option, None, Some, option_map, arith}
use Rattle.std.specs.Prelude.{nat_eq, nat_lt, slice_get, is_some, option_and_then, if◌then◌else◌}
use Rattle.std.specs.List.{list_any, filter}
use Rattle.std.proofs.lemmas.Bool.Decides.{nat_tests}
use Rattle.behaviour_tree.specs.Data.{VariablePart, SetPart, ServicePart}
use Rattle.office_core.specs.Limits.{Setting}
use Rattle.office_core.specs.Past.{Past, some_entry, closes, stops, is_running}
use Rattle.office_core.specs.Sessions.{service_of, has_ended, was_adopted}
use Rattle.office_core.specs.Keys.{first, Variable, variables_from, sets_from}
use Rattle.office_core.specs.Bound.{sets_with}
use Rattle.office_core.specs.Legal.{is_acting, has_variable}
use Rattle.office_plain.specs.declared.kept.Kept.{Kept}
use Rattle.office_plain.specs.Kept.{row_of}
use Rattle.office_plain.specs.declared.kept.SessionRow.{SessionRow}
use Rattle.office_plain.specs.Places.{places_kept}
use Rattle.office_plain.specs.Ties.{Ties}
use Rattle.office_plain.proofs.Lists.{eq_true, eq_false}
use Rattle.office_plain.proofs.Stays.{row_by}
use Rattle.test_conditions.specs.Told.{acts_by, reaches, variable_by}

-- ---- the run

-- the run goes on while more places are kept than that of a close that is still to come
pub running_is : (past : Past) (closed : Bool) (kept : ℕ) → closed ≡ some_entry past closes → kept ≡ places_kept past
    → nat_lt (if closed then 0 else 1) kept ≡ is_running past
running_is past closed kept closing places =
    (λ i. nat_lt (if closing i then 0 else 1) (places i)) ∙ by (some_entry past closes) (some_entry past stops)
  where
    by : (a b : Bool) → nat_lt (if a then 0 else 1) ((if a then 0 else 1) + (if b then 0 else 1)) ≡ not b
    by true true = refl
    by true false = refl
    by false true = refl
    by false false = refl

-- ---- acting

-- a session acts by its row
pub acting_is : (w : Setting) (past : Past) (s : ℕ) (k : Kept) → Ties w past k
    → acts_by (is_running past) (slice_get k.sessions s) ≡ is_acting w past s
acting_is w past s k t =
    ap (acts_by (is_running past)) (t.sessions s) ∙ by (is_running past) (service_of w past s)
  where
    by : (running : Bool) (d : Option ℕ)
        → acts_by running (option_map (λ n. row_by n (was_adopted past s) (has_ended past s)) d)
        ≡ (running && (is_some d && not (has_ended past s)) && was_adopted past s)
    by true None = refl
    by false None = refl
    by running (Some d) = refl

-- ---- variables

-- whether a set has the variable of a number
abbrev has : ℕ → List Variable → Bool
has v set = list_any (λ (u : Variable). nat_eq v u.number) set

-- variables that are numbered from n on have v where it is among their numbers
has_is : (v n : ℕ) (ds : List VariablePart) → n ≤ v → has v (variables_from n ds) ≡ nat_lt (v - n) (length ds)
has_is v n [] l = grind (arith, nat_tests)
has_is v n (d ∷ ds) l = by (nat_eq v n) refl (has_is v (suc n) ds)
  where
    first_one : (v n m : ℕ) → v ≡ n → true ≡ nat_lt (v - n) (suc m)
    first_one v n m e = grind (arith, nat_tests)

    later_one : (v n m : ℕ) → n ≤ v → v ≢ n → nat_lt (v - suc n) m ≡ nat_lt (v - n) (suc m)
    later_one v n m h d = grind (arith, nat_tests)

    above : (v n : ℕ) → n ≤ v → v ≢ n → suc n ≤ v
    above v n h d = omega (arith, h, d)

    by : (b : Bool) → nat_eq v n ≡ b
        → (suc n ≤ v → has v (variables_from (suc n) ds) ≡ nat_lt (v - suc n) (length ds))
        → (nat_eq v n || has v (variables_from (suc n) ds)) ≡ nat_lt (v - n) (suc (length ds))
    by true e rest =
        ap (λ b. b || has v (variables_from (suc n) ds)) e
        ∙ first_one v n (length ds) (eq_true v n e)
    by false e rest =
        ap (λ b. b || has v (variables_from (suc n) ds)) e
        ∙ rest (above v n l (eq_false v n e))
        ∙ later_one v n (length ds) l (eq_false v n e)

-- some set that is numbered from n on has v where it is among their numbers
pub reaches_is : (v n : ℕ) (sets : List SetPart) → n ≤ v
    → reaches (v - n) sets ≡ is_some (first (filter (has v) (sets_from n sets)))
reaches_is v n [] l = refl
reaches_is v n (s ∷ sets) l =
    by (nat_lt (v - n) (length s.variables)) refl (reaches_is v (n + length s.variables) sets)
  where
    beyond : (v n m : ℕ) → n ≤ v → nat_lt (v - n) m ≡ false → n + m ≤ v
    beyond v n m h e = grind (arith, nat_tests)

    apart : (v n m : ℕ) → v - (n + m) ≡ (v - n) - m
    apart v n m = omega arith

    here : has v (variables_from n s.variables) ≡ nat_lt (v - n) (length s.variables)
    here = has_is v n s.variables l

    rest : List (List Variable)
    rest = sets_from (n + length s.variables) sets

    found : Bool → Bool
    found b = is_some (first (if b then variables_from n s.variables ∷ filter (has v) rest else filter (has v) rest))

    by : (b : Bool) → nat_lt (v - n) (length s.variables) ≡ b
        → (n + length s.variables ≤ v → reaches (v - (n + length s.variables)) sets ≡ is_some (first (filter (has v) rest)))
        → (nat_lt (v - n) (length s.variables) || reaches ((v - n) - length s.variables) sets)
        ≡ found (has v (variables_from n s.variables))
    by true e later =
        ap (λ b. b || reaches ((v - n) - length s.variables) sets) e ∙ sym (ap found (here ∙ e))
    by false e later =
        ap (λ b. b || reaches ((v - n) - length s.variables) sets) e
        ∙ ap (λ m. reaches m sets) (sym (apart v n (length s.variables)))
        ∙ later (beyond v n (length s.variables) l e)
        ∙ sym (ap found (here ∙ e))

-- what a session's row says of a variable is what the history says
pub variable_kept : (w : Setting) (past : Past) (s v : ℕ) (sessions : List SessionRow)
    → ((u : ℕ) → slice_get sessions u ≡ row_of w past u)
    → variable_by w.parts v (slice_get sessions s) ≡ has_variable w past s v
variable_kept w past s v sessions tied = ap (variable_by w.parts v) (tied s) ∙ by (service_of w past s)
  where
    whole : (v : ℕ) → v ≡ v - 0
    whole v = omega arith

    low : (v : ℕ) → 0 ≤ v
    low v = omega arith

    there : (o : Option ServicePart)
        → (elim o [ None ↦ false | Some x ↦ reaches v x.sets ])
        ≡ is_some (first (elim o [ None ↦ [] | Some x ↦ filter (has v) (sets_from 0 x.sets) ]))
    there None = refl
    there (Some x) = ap (λ n. reaches n x.sets) (whole v) ∙ reaches_is v 0 x.sets (low v)

    by : (d : Option ℕ)
        → variable_by w.parts v (option_map (λ n. row_by n (was_adopted past s) (has_ended past s)) d)
        ≡ is_some (option_and_then (λ n. first (sets_with w n v)) d)
    by None = refl
    by (Some d) = there (slice_get w.parts.services d)

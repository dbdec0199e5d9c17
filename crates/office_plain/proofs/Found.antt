-- The session that a message is routed to was born, and its boxes are not full.
use Rattle.std.proofs.Common.{◌≡◌, ℕ, suc, ◌+◌, Bool, true, false, ◌&&◌, List, [], ◌∷◌, length, refl, sym, ap, subst, ◌∙◌, Option, None, Some, is_some, arith}
use Rattle.std.specs.Prelude.{nat_eq, nat_le, slice_get, option_and_then, if◌then◌else◌}
use Rattle.std.specs.List.{filter_map, cons_option}
use Rattle.jolie_trees.specs.declared.root.Root.{Root}
use Rattle.behaviour_tree.specs.Conforms.{conforms}
use Rattle.behaviour_tree.specs.FormedSets.{is_concurrent}
use Rattle.behaviour_tree.specs.declared.words.Reason.TheVariants as reason
use Rattle.office_core.specs.declared.post.Posted.{Posted}
use Rattle.office_core.specs.Limits.{Setting}
use Rattle.office_core.specs.Past.{Past}
use Rattle.office_core.specs.Sessions.{births, service_of, has_ended}
use Rattle.office_core.specs.Boxes.{box}
use Rattle.office_core.specs.Keys.{first, Variable, sets_of, named_by, has_key, session_from, session_of, holder}
use Rattle.office_core.specs.Route.{to_session, to_new, refused_for, Asked, asked_of, is_full, into_box, begins, named_in, named_session, is_starting, to_single, to_named, to_one, admitted, route}
use Rattle.office_plain.proofs.Lists.{same_of, none_not_some}
use Rattle.office_plain.proofs.Routed.{goes_to}

-- ---- sessions that are found

-- a place among services from a number on
record Place (s : ℕ) (ds : List ℕ) (t : ℕ) : Type 0 where
  place : ℕ
  number : t ≡ place + s
  there : is_some (slice_get ds place) ≡ true

within : (d : ℕ) (is_it : ℕ → Bool) (s : ℕ) (ds : List ℕ) (t : ℕ) → session_from d is_it s ds ≡ Some t → Place s ds t
within d is_it s [] t h = absurd (none_not_some t h)
within d is_it s (e ∷ ds) t h = by (nat_eq d e && is_it s) h (within d is_it (suc s) ds t)
  where
    zero_first : (s : ℕ) → s ≡ 0 + s
    zero_first s = omega arith

    moved_on : (t i s : ℕ) → t ≡ i + suc s → t ≡ suc i + s
    moved_on t i s e = omega arith

    by : (b : Bool) → (if b then Some s else session_from d is_it (suc s) ds) ≡ Some t
        → (session_from d is_it (suc s) ds ≡ Some t → Place (suc s) ds t) → Place s (e ∷ ds) t
    by true g rest = record { place = 0; number = sym (same_of s t g) ∙ zero_first s; there = refl }
    by false g rest =
        let p = rest g in record { place = suc p.place; number = moved_on t p.place s p.number; there = p.there }

-- a session of a service that is found was born
pub found_born : (w : Setting) (past : Past) (d : ℕ) (is_it : ℕ → Bool) (t : ℕ) → session_of w past d is_it ≡ Some t
    → is_some (service_of w past t) ≡ true
found_born w past d is_it t h =
    let p = within d is_it 0 (births w past) t h in
    ap (λ n. is_some (slice_get (births w past) n)) (plain t p.place p.number) ∙ p.there
  where
    plain : (t i : ℕ) → t ≡ i + 0 → t ≡ i
    plain t i e = omega arith

-- the first of some results has what each of them has
first_has : {A B : Type 0} (f : A → Option B) (P : B → Type 0) (xs : List A) (y : B)
    → ((x : A) (z : B) → f x ≡ Some z → P z) → first (filter_map f xs) ≡ Some y → P y
first_has f P [] y each h = absurd (none_not_some y h)
first_has {B = B} f P (x ∷ xs) y each h = by (f x) refl (first_has f P xs y each)
  where
    by : (o : Option B) → f x ≡ o → (first (filter_map f xs) ≡ Some y → P y) → P y
    by None e rest = rest (ap (λ o. first (cons_option o (filter_map f xs))) (sym e) ∙ h)
    by (Some z) e rest =
        subst P (same_of z y (ap (λ o. first (cons_option o (filter_map f xs))) (sym e) ∙ h)) (each x z e)

-- the session that the values of a message name was born
named_born : (w : Setting) (past : Past) (a : Asked) (t : ℕ) → named_session w past a ≡ Some t
    → is_some (service_of w past t) ≡ true
named_born w past a t h =
    first_has (named_in w past a) (λ s. is_some (service_of w past s) ≡ true) (sets_of a.service) t
    (λ set s g. of set s (named_by a.operation.request a.value set) g) h
  where
    of : (set : List Variable) (s : ℕ) (o : Option (List Root))
        → option_and_then (holder w past a.number set) o ≡ Some s → is_some (service_of w past s) ≡ true
    of set s None g = absurd (none_not_some s g)
    of set s (Some values) g = found_born w past a.number (has_key w past set values) s g

-- ---- the way

-- the session was born, and its boxes are not full
pub record Finds (w : Setting) (past : Past) (t : ℕ) : Type 0 where
  pub born : is_some (service_of w past t) ≡ true
  pub room : nat_le w.limits.box (length (box past t)) ≡ false

into : (w : Setting) (past : Past) (s t : ℕ) → is_some (service_of w past s) ≡ true
    → goes_to (into_box w past s) ≡ Some t → Finds w past t
into w past s t born h = by (nat_le w.limits.box (length (box past s))) refl h
  where
    by : (b : Bool) → nat_le w.limits.box (length (box past s)) ≡ b
        → goes_to (if b then refused_for reason.BoxFull else to_session s) ≡ Some t → Finds w past t
    by true e g = absurd (none_not_some t g)
    by false e g = subst (Finds w past) (same_of s t g) (record { born = born; room = e })

single_finds : (w : Setting) (past : Past) (o : Option ℕ) (t : ℕ)
    → ((s : ℕ) → o ≡ Some s → is_some (service_of w past s) ≡ true)
    → goes_to (to_single w past o) ≡ Some t → Finds w past t
single_finds w past None t born h = absurd (none_not_some t h)
single_finds w past (Some s) t born h = by (has_ended past s) h
  where
    by : (b : Bool) → goes_to (if b then refused_for reason.Correlation else into_box w past s) ≡ Some t → Finds w past t
    by true g = absurd (none_not_some t g)
    by false g = into w past s t (born s refl) g

nowhere : (w : Setting) (past : Past) (t : ℕ) → goes_to (begins w past) ≡ Some t → ⊥
nowhere w past t h = by (nat_le w.limits.sessions (length (births w past))) h
  where
    by : (b : Bool) → goes_to (if b then refused_for reason.RunFull else to_new) ≡ Some t → ⊥
    by true g = none_not_some t g
    by false g = none_not_some t g

named_finds : (w : Setting) (past : Past) (a : Asked) (o : Option ℕ) (t : ℕ)
    → ((s : ℕ) → o ≡ Some s → is_some (service_of w past s) ≡ true)
    → goes_to (to_named w past a o) ≡ Some t → Finds w past t
named_finds w past a (Some s) t born h = into w past s t (born s refl) h
named_finds w past a None t born h = by (is_starting a) h
  where
    by : (b : Bool) → goes_to (if b then begins w past else refused_for reason.Correlation) ≡ Some t → Finds w past t
    by true g = absurd (nowhere w past t g)
    by false g = absurd (none_not_some t g)

one_finds : (w : Setting) (past : Past) (a : Asked) (t : ℕ) → goes_to (to_one w past a) ≡ Some t → Finds w past t
one_finds w past a t h = by (is_concurrent a.service.execution) h
  where
    by : (b : Bool)
        → goes_to (elim b [
          | true ↦ to_named w past a (named_session w past a)
          | false ↦ to_single w past (session_of w past a.number (λ s. true))
        ]) ≡ Some t → Finds w past t
    by true g = named_finds w past a (named_session w past a) t (named_born w past a) g
    by false g =
        single_finds w past (session_of w past a.number (λ s. true)) t (found_born w past a.number (λ s. true)) g

admitted_finds : (w : Setting) (past : Past) (o : Option Asked) (t : ℕ) → goes_to (admitted w past o) ≡ Some t
    → Finds w past t
admitted_finds w past None t h = absurd (none_not_some t h)
admitted_finds w past (Some a) t h = by (conforms w.parts.types a.value a.operation.request) h
  where
    by : (b : Bool) → goes_to (elim b [ false ↦ refused_for reason.NotConforming | true ↦ to_one w past a ]) ≡ Some t
        → Finds w past t
    by true g = one_finds w past a t g
    by false g = absurd (none_not_some t g)

-- a message goes to a session that was born and whose boxes are not full
pub route_finds : (w : Setting) (past : Past) (q : Posted) (t : ℕ) → goes_to (route w past q) ≡ Some t → Finds w past t
route_finds w past q t h = by (is_full w past q.value) h
  where
    by : (b : Bool)
        → goes_to (elim b [ true ↦ refused_for reason.RunFull | false ↦ admitted w past (asked_of w q) ]) ≡ Some t
        → Finds w past t
    by true g = absurd (none_not_some t g)
    by false g = admitted_finds w past (asked_of w q) t g

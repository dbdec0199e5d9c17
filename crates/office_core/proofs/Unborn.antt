-- In a legal history a session that was not born did nothing.
use Rattle.std.proofs.Common.{◌≡◌, ℕ, zero, suc, Bool, true, false, not, ◌&&◌, ◌||◌, List, [], ◌∷◌, ◌++◌, refl, sym, ap, ◌∙◌, Option, None, Some, option_map, true≢false}
use Rattle.std.specs.Prelude.{nat_eq, slice_get, is_some, take}
use Rattle.std.specs.List.{list_any, filter_map}
use Rattle.std.specs.Cmp.{unsigned_Decides}
use Rattle.std.proofs.lemmas.List.Elements.{filter_map-append}
use Rattle.office_core.specs.declared.history.Act.{Act}
use Rattle.office_core.specs.declared.history.Act.TheVariants as act
use Rattle.office_core.specs.declared.history.Entry.{Entry}
use Rattle.office_core.specs.Limits.{Setting}
use Rattle.office_core.specs.Past.{Message, Past, nothing_yet, some_entry, is_running}
use Rattle.office_core.specs.Sessions.{singles_from, started_by, births, service_of, has_ended, is_live, was_adopted}
use Rattle.office_core.specs.Boxes.{took}
use Rattle.office_core.specs.Answers.{is_open}
use Rattle.office_core.specs.Accepted.{accepted_in, with_message, then_one, then_all, past_of}
use Rattle.office_core.specs.Calls.{next_call}
use Rattle.office_core.specs.Legal.{is_acting, has_variable, is_wanted, is_allowed, replied, AreLegal, IsLegal}
use Rattle.office_core.proofs.Longer.{some_same}

-- an entry by which session s did something
abbrev pub acts_as : ℕ → Entry → Bool
acts_as s e = elim e.act [
  | act.Adopt d ↦ nat_eq s e.actor
  | act.Take n ↦ nat_eq s e.actor
  | act.Bind v x r ↦ nat_eq s e.actor
  | act.Reply n o ↦ nat_eq s e.actor
  | act.Send k port op v wants r ↦ nat_eq s e.actor
  | act.Answer k o ↦ nat_eq s e.actor
  | act.End ↦ nat_eq s e.actor
  | _ ↦ false
]

-- a session that was not born did nothing
abbrev pub IsIdle : Setting → Past → ℕ → Type 0
IsIdle w past s = service_of w past s ≡ None → some_entry past (acts_as s) ≡ false

left : (a b : Bool) → (a && b) ≡ true → a ≡ true
left true b h = refl
left false b h = h

right : (a b : Bool) → (a && b) ≡ true → b ≡ true
right true b h = h
right false b h = absurd (true≢false (sym h))

-- ---- births

-- what does not stand in a list did not stand in a shorter one
none_before : {A : Type 0} (xs ys : List A) (n : ℕ) → slice_get (xs ++ ys) n ≡ None → slice_get xs n ≡ None
none_before [] ys n h = refl
none_before (x ∷ xs) ys zero h = absurd (true≢false (ap (λ o. elim o [ None ↦ false | Some y ↦ true ]) h))
none_before (x ∷ xs) ys (suc n) h = none_before xs ys n h

-- the sessions that one message more starts
abbrev started_more : Option Message → List ℕ
started_more None = []
started_more (Some m) = filter_map started_by (m ∷ [])

append_nil : {A : Type 0} (xs : List A) → xs ++ [] ≡ xs
append_nil [] = refl
append_nil (x ∷ xs) = ap (λ l. x ∷ l) (append_nil xs)

append_assoc : {A : Type 0} (xs ys zs : List A) → xs ++ (ys ++ zs) ≡ (xs ++ ys) ++ zs
append_assoc [] ys zs = refl
append_assoc (x ∷ xs) ys zs = ap (λ l. x ∷ l) (append_assoc xs ys zs)

births_with : (first : List ℕ) (ms : List Message) (more : Option Message)
    → first ++ filter_map started_by (with_message ms more) ≡ (first ++ filter_map started_by ms) ++ started_more more
births_with first ms None = sym (append_nil (first ++ filter_map started_by ms))
births_with first ms (Some m) =
    ap (λ l. first ++ l) (filter_map-append started_by ms (m ∷ []))
    ∙ append_assoc first (filter_map started_by ms) (filter_map started_by (m ∷ []))

-- a session that is not born after an entry was not born before
unborn_before : (w : Setting) (past : Past) (e : Entry) (s : ℕ) → service_of w (then_one w past e) s ≡ None → service_of w past s ≡ None
unborn_before w past e s h =
    none_before (births w past) (started_more (accepted_in w past e)) s
    (sym (ap (λ l. slice_get l s) (births_with (take w.limits.sessions (singles_from 0 w.parts.services)) past.messages (accepted_in w past e))) ∙ h)

-- ---- each entry

not_born : (w : Setting) (past : Past) (s : ℕ) → service_of w past s ≡ None → is_acting w past s ≡ true → ⊥
not_born w past s none h =
    let lives = right (is_running past) (is_live w past s) (left (is_running past && is_live w past s) (was_adopted past s) h) in
    true≢false (sym (left (is_some (service_of w past s)) (not (has_ended past s)) lives) ∙ ap is_some none)

-- a session that is not born is not the one that acts
is_another : (w : Setting) (past : Past) (s t : ℕ) (b : Bool) → nat_eq s t ≡ b → service_of w past s ≡ None
    → (service_of w past t ≡ None → ⊥) → b ≡ false
is_another w past s t true e none acts = absurd (acts (ap (service_of w past) (sym ((unsigned_Decides s t).0 e)) ∙ none))
is_another w past s t false e none acts = refl

adopted_born : (w : Setting) (past : Past) (t d : ℕ) → option_map act.Adopt (service_of w past t) ≡ Some (act.Adopt d)
    → service_of w past t ≡ None → ⊥
adopted_born w past t d h none =
    true≢false (sym (ap is_some h) ∙ ap (λ o. is_some (option_map act.Adopt o)) none)

another : (w : Setting) (past : Past) (s t : ℕ) (a : Act) → is_allowed w past t a ≡ true → replied w past t a ≡ Some a
    → service_of w past s ≡ None → acts_as s (record { actor = t; act = a }) ≡ false
another w past s t (act.Adopt d) h r none = is_another w past s t (nat_eq s t) refl none (adopted_born w past t d r)
another w past s t (act.Take n) h r none = is_another w past s t (nat_eq s t) refl none (λ u. not_born w past t u h)
another w past s t (act.Bind v x b) h r none =
    is_another w past s t (nat_eq s t) refl none (λ u. not_born w past t u (left (is_acting w past t) (has_variable w past t v) h))
another w past s t (act.Reply n o) h r none =
    is_another w past s t (nat_eq s t) refl none
    (λ u. not_born w past t u (left (is_acting w past t) (took past t n) (left (is_acting w past t && took past t n) (is_open w past n) h)))
another w past s t (act.Send k port op v wants p) h r none =
    is_another w past s t (nat_eq s t) refl none (λ u. not_born w past t u (left (is_acting w past t) (nat_eq k (next_call past t)) h))
another w past s t (act.Answer k o) h r none =
    is_another w past s t (nat_eq s t) refl none (λ u. not_born w past t u (left (is_acting w past t) (is_wanted past t k) h))
another w past s t act.End h r none = is_another w past s t (nat_eq s t) refl none (λ u. not_born w past t u h)
another w past s t a h r none = refl

idle_after : (w : Setting) (past : Past) (s : ℕ) (es : List Entry) → AreLegal w past es → IsIdle w past s → IsIdle w (then_all w past es) s
idle_after w past s [] h idle = idle
idle_after w past s (e ∷ es) h idle =
    idle_after w (then_one w past e) s es h.1
    (λ none.
    let before : service_of w past s ≡ None = unborn_before w past e s none in
    some_same w past e (acts_as s) (another w past s e.actor e.act (h.0).allowed (h.0).reply before) ∙ idle before)

-- in a legal history a session that was not born did nothing
pub unborn_idle : (w : Setting) (h : List Entry) (s : ℕ) → IsLegal w h → IsIdle w (past_of w h) s
unborn_idle w h s legal = idle_after w nothing_yet s h legal (λ none. refl)

-- A session is born: the rows of sessions with one more.
use Rattle.std.proofs.Common.{◌≡◌, ℕ, zero, suc, Bool, true, false, ◌||◌, List, [], ◌∷◌, ◌++◌, length, refl, sym, ap, ◌∙◌, Option, None, Some, option_map, true≢false}
use Rattle.std.specs.Prelude.{nat_eq, slice_get, if◌then◌else◌, take}
use Rattle.std.specs.List.{list_any, filter, filter_map, cons_option}
use Rattle.std.proofs.lemmas.List.Elements.{filter_map-append}
use Rattle.office_core.specs.declared.history.Act.{Act}
use Rattle.office_core.specs.declared.history.Act.TheVariants as act
use Rattle.office_core.specs.declared.history.Entry.{Entry}
use Rattle.office_core.specs.declared.message.Message.{Message}
use Rattle.office_core.specs.Limits.{Setting}
use Rattle.office_core.specs.Past.{Past, some_entry}
use Rattle.office_core.specs.Sessions.{singles_from, started_by, births, service_of, has_ended, was_adopted, ends, adopts}
use Rattle.office_core.proofs.Unborn.{acts_as, IsIdle}
use Rattle.office_plain.specs.declared.kept.SessionRow.{SessionRow}
use Rattle.office_plain.specs.Accepting.{with_accepted}
use Rattle.office_plain.specs.Kept.{row_of}
use Rattle.office_plain.proofs.Lists.{none_not_some}
use Rattle.office_plain.proofs.Stays.{row_by}

-- ---- births

append_nil : {A : Type 0} (xs : List A) → xs ++ [] ≡ xs
append_nil [] = refl
append_nil (x ∷ xs) = ap (λ l. x ∷ l) (append_nil xs)

append_assoc : {A : Type 0} (xs ys zs : List A) → xs ++ (ys ++ zs) ≡ (xs ++ ys) ++ zs
append_assoc [] ys zs = refl
append_assoc (x ∷ xs) ys zs = ap (λ l. x ∷ l) (append_assoc xs ys zs)

-- the services of the sessions with a message more, by whether it starts one
pub births_come : (w : Setting) (past : Past) (m : Message) (b : Bool) → m.starts ≡ b
    → births w (with_accepted past (Some m)) ≡ births w past ++ (if b then m.service ∷ [] else [])
births_come w past m b starts =
    ap (λ l. singles ++ l) (filter_map-append started_by past.messages (m ∷ []))
    ∙ append_assoc singles (filter_map started_by past.messages) (filter_map started_by (m ∷ []))
    ∙ ap (λ l. births w past ++ l) (ap (λ x. cons_option (if x then Some m.service else None) []) starts ∙ one b)
  where
    singles : List ℕ
    singles = take w.limits.sessions (singles_from 0 w.parts.services)

    one : (x : Bool) → cons_option (if x then Some m.service else None) [] ≡ (if x then m.service ∷ [] else [])
    one true = refl
    one false = refl

-- ---- lists beside the births

-- a list that says something of each birth, with what it says of one more
pub one_more_birth : {A : Type 0} (rows : List A) (bs : List ℕ) (f : ℕ → ℕ → A) (x : A) (d : ℕ)
    → ((s : ℕ) → slice_get rows s ≡ option_map (f s) (slice_get bs s)) → f (length bs) d ≡ x
    → (s : ℕ) → slice_get (rows ++ x ∷ []) s ≡ option_map (f s) (slice_get (bs ++ d ∷ []) s)
one_more_birth [] [] f x d h e zero = ap Some (sym e)
one_more_birth [] [] f x d h e (suc s) = refl
one_more_birth [] (b ∷ bs) f x d h e s = absurd (none_not_some (f 0 b) (h 0))
one_more_birth (r ∷ rows) [] f x d h e s = absurd (none_not_some r (sym (h 0)))
one_more_birth (r ∷ rows) (b ∷ bs) f x d h e zero = h zero
one_more_birth (r ∷ rows) (b ∷ bs) f x d h e (suc s) = one_more_birth rows bs (λ t. f (suc t)) x d (λ t. h (suc t)) e s

-- nothing stands behind the end of a list
pub none_at_end : {A : Type 0} (xs : List A) → slice_get xs (length xs) ≡ None
none_at_end [] = refl
none_at_end (x ∷ xs) = none_at_end xs

-- ---- what was never done

fewer : (es : List Entry) (p q : Entry → Bool) → ((e : Entry) → p e ≡ true → q e ≡ true)
    → list_any q es ≡ false → list_any p es ≡ false
fewer [] p q imply h = refl
fewer (e ∷ es) p q imply h = by (p e) refl (fewer es p q imply)
  where
    or_false_left : (a b : Bool) → (a || b) ≡ false → a ≡ false
    or_false_left true b g = g
    or_false_left false b g = refl

    or_false_right : (a b : Bool) → (a || b) ≡ false → b ≡ false
    or_false_right true b g = absurd (true≢false g)
    or_false_right false b g = g

    by : (b : Bool) → p e ≡ b → (list_any q es ≡ false → list_any p es ≡ false) → list_any p (e ∷ es) ≡ false
    by true at_e rest = absurd (true≢false (sym (imply e at_e) ∙ or_false_left (q e) (list_any q es) h))
    by false at_e rest = ap (λ b. b || list_any p es) at_e ∙ rest (or_false_right (q e) (list_any q es) h)

adopting_acts : (s actor : ℕ) (a : Act) → adopts s (record { actor = actor; act = a }) ≡ true
    → acts_as s (record { actor = actor; act = a }) ≡ true
adopting_acts s actor (act.Adopt d) h = h
adopting_acts s actor a h = absurd (true≢false (sym h))

ending_acts : (s actor : ℕ) (a : Act) → ends s (record { actor = actor; act = a }) ≡ true
    → acts_as s (record { actor = actor; act = a }) ≡ true
ending_acts s actor act.End h = h
ending_acts s actor a h = absurd (true≢false (sym h))

-- a session that was not born was not adopted, and did not end
pub unadopted : (w : Setting) (past : Past) (s : ℕ) → IsIdle w past s → service_of w past s ≡ None
    → was_adopted past s ≡ false
unadopted w past s idle none =
    fewer past.entries (adopts s) (acts_as s) (λ e. adopting_acts s e.actor e.act) (idle none)

pub unended : (w : Setting) (past : Past) (s : ℕ) → IsIdle w past s → service_of w past s ≡ None
    → has_ended past s ≡ false
unended w past s idle none =
    fewer past.entries (ends s) (acts_as s) (λ e. ending_acts s e.actor e.act) (idle none)

-- ---- rows

-- the rows where the message starts no session
pub rows_stay : (w : Setting) (past : Past) (m : Message) (rows : List SessionRow) → m.starts ≡ false
    → ((s : ℕ) → slice_get rows s ≡ row_of w past s) → (s : ℕ)
    → slice_get rows s ≡ row_of w (with_accepted past (Some m)) s
rows_stay w past m rows starts tied s =
    tied s ∙ sym (ap (λ bs. option_map (λ d. row_by d (was_adopted past s) (has_ended past s)) (slice_get bs s))
    (births_come w past m false starts ∙ append_nil (births w past)))

-- the rows with that of the session that the message starts
pub rows_come : (w : Setting) (past : Past) (m : Message) (rows : List SessionRow) → m.starts ≡ true
    → IsIdle w past (length (births w past))
    → ((s : ℕ) → slice_get rows s ≡ row_of w past s)
    → (s : ℕ) → slice_get (rows ++ row_by m.service false false ∷ []) s ≡ row_of w (with_accepted past (Some m)) s
rows_come w past m rows starts idle tied s =
    one_more_birth rows (births w past) (λ t d. row_by d (was_adopted past t) (has_ended past t))
    (row_by m.service false false) m.service tied fresh s
    ∙ sym (ap (λ bs. option_map (λ d. row_by d (was_adopted past s) (has_ended past s)) (slice_get bs s))
    (births_come w past m true starts))
  where
    none : service_of w past (length (births w past)) ≡ None
    none = none_at_end (births w past)

    fresh : row_by m.service (was_adopted past (length (births w past)))
        (has_ended past (length (births w past))) ≡ row_by m.service false false
    fresh = λ i. row_by m.service
        (unadopted w past (length (births w past)) idle none i)
        (unended w past (length (births w past)) idle none i)

-- In a legal history a session that was not adopted made no call.
use Rattle.std.proofs.Common.{◌≡◌, ℕ, Bool, true, false, not, ◌&&◌, ◌||◌, List, [], ◌∷◌, refl, sym, ap, ◌∙◌, true≢false}
use Rattle.std.specs.Prelude.{nat_eq, nat_le}
use Rattle.std.specs.List.{list_any}
use Rattle.std.specs.Cmp.{unsigned_Decides}
use Rattle.std.proofs.lemmas.List.Folds.{list_any-append}
use Rattle.office_core.specs.declared.history.Act.{Act}
use Rattle.office_core.specs.declared.history.Act.TheVariants as act
use Rattle.office_core.specs.declared.history.Entry.{Entry}
use Rattle.office_core.specs.Limits.{Setting, first_worker}
use Rattle.office_core.specs.Past.{Past, nothing_yet, closes, is_running, some_entry}
use Rattle.office_core.specs.Sessions.{adopts, is_live, was_adopted}
use Rattle.office_core.specs.Boxes.{took}
use Rattle.office_core.specs.Answers.{is_open}
use Rattle.office_core.specs.Accepted.{past_of, then_all, then_one}
use Rattle.office_core.specs.Calls.{next_call}
use Rattle.office_core.specs.Legal.{AreLegal, IsLegal, has_variable, is_acting, is_allowed, is_at_work, is_collectable, is_fetched, is_wanted}
use Rattle.run_record.specs.Steps.{Called, calls_after, calls_of, is_call_of}

left : (a b : Bool) → (a && b) ≡ true → a ≡ true
left true b h = refl
left false b h = h

right : (a b : Bool) → (a && b) ≡ true → b ≡ true
right true b h = h
right false b h = absurd (true≢false (sym h))

or_first : (a b : Bool) → (a || b) ≡ false → a ≡ false
or_first true b h = absurd (true≢false h)
or_first false b h = refl

-- ---- one entry

-- a session that was not adopted is not the one that acts
unlike-acting : (w : Setting) (past : Past) (s t : ℕ) (b : Bool) → nat_eq s t ≡ b → was_adopted past s ≡ false
    → is_acting w past t ≡ true → b ≡ false
unlike-acting w past s t false e new acts = refl
unlike-acting w past s t true e new acts =
    let same : s ≡ t = (unsigned_Decides s t).0 e in
    absurd (true≢false (sym (right (is_running past && is_live w past t) (was_adopted past t) acts) ∙ ap (was_adopted past) (sym same) ∙ new))

-- nor a worker
unlike-worker : (s t : ℕ) (b : Bool) → nat_eq s t ≡ b → nat_le first_worker s ≡ false → nat_le first_worker t ≡ true
    → b ≡ false
unlike-worker s t false e low works = refl
unlike-worker s t true e low works =
    absurd (true≢false (sym works ∙ ap (nat_le first_worker) (sym ((unsigned_Decides s t).0 e)) ∙ low))

no-call : (w : Setting) (past : Past) (s t : ℕ) (a : Act) → nat_le first_worker s ≡ false → was_adopted past s ≡ false
    → is_allowed w past t a ≡ true → is_call_of s (record { actor = t; act = a }) ≡ false
no-call w past s t (act.Post j i q r) low new h =
    unlike-worker s t (nat_eq s t) refl low (right (is_running past) (nat_le first_worker t) h)
no-call w past s t (act.Adopt d) low new h = refl
no-call w past s t (act.Take n) low new h = unlike-acting w past s t (nat_eq s t) refl new h
no-call w past s t (act.Bind v x r) low new h =
    unlike-acting w past s t (nat_eq s t) refl new (left (is_acting w past t) (has_variable w past t v) h)
no-call w past s t (act.Reply n o) low new h =
    unlike-acting w past s t (nat_eq s t) refl new
    (left (is_acting w past t) (took past t n) (left (is_acting w past t && took past t n) (is_open w past n) h))
no-call w past s t (act.Send k port op v wants r) low new h =
    unlike-acting w past s t (nat_eq s t) refl new (left (is_acting w past t) (nat_eq k (next_call past t)) h)
no-call w past s t (act.Answer k o) low new h =
    unlike-acting w past s t (nat_eq s t) refl new (left (is_acting w past t) (is_wanted past t k) h)
no-call w past s t act.End low new h = unlike-acting w past s t (nat_eq s t) refl new h
no-call w past s t (act.Collect n o) low new h =
    unlike-worker s t (nat_eq s t) refl low (left (nat_le first_worker t) (is_collectable past t n) h)
no-call w past s t (act.Fetch i k) low new h =
    unlike-worker s t (nat_eq s t) refl low (right (is_running past) (nat_le first_worker t) h)
no-call w past s t (act.Answered i k o) low new h =
    unlike-worker s t (nat_eq s t) refl low
    (right (is_running past) (nat_le first_worker t) (left (is_at_work past t) (is_fetched past t i k) h))
no-call w past s t act.Close low new h =
    unlike-worker s t (nat_eq s t) refl low (right (is_running past) (nat_le first_worker t) (left (is_at_work past t) (not (some_entry past closes)) h))
no-call w past s t act.Stop low new h =
    unlike-worker s t (nat_eq s t) refl low (right (is_running past) (nat_le first_worker t) h)

-- ---- histories

entries-all : (w : Setting) (past : Past) (es : List Entry) (f : Entry → Bool)
    → some_entry (then_all w past es) f ≡ (some_entry past f || list_any f es)
entries-all w past [] f = sym (or-nothing (some_entry past f))
  where
    or-nothing : (b : Bool) → (b || false) ≡ b
    or-nothing true = refl
    or-nothing false = refl
entries-all w past (e ∷ es) f =
    entries-all w (then_one w past e) es f
    ∙ ap (λ b. b || list_any f es) (list_any-append f past.entries (e ∷ []))
    ∙ one (some_entry past f) (f e) (list_any f es)
  where
    one : (a b c : Bool) → ((a || (b || false)) || c) ≡ (a || (b || c))
    one true b c = refl
    one false true c = refl
    one false false c = refl

new-before : (w : Setting) (past : Past) (es : List Entry) (s : ℕ) → was_adopted (then_all w past es) s ≡ false
    → was_adopted past s ≡ false
new-before w past es s h = or_first (was_adopted past s) (list_any (adopts s) es) (sym (entries-all w past es (adopts s)) ∙ h)

quiet-after : (w : Setting) (past : Past) (es : List Entry) (s : ℕ) → nat_le first_worker s ≡ false → AreLegal w past es
    → was_adopted (then_all w past es) s ≡ false → calls_after w s past es ≡ []
quiet-after w past [] s low legal new = refl
quiet-after w past (e ∷ es) s low legal new =
    ap (λ b. elim b as (λ _. List Called) [ true ↦ record { before = past; act = e.act } ∷ calls_after w s (then_one w past e) es | false ↦ calls_after w s (then_one w past e) es ])
    (no-call w past s e.actor e.act low (new-before w past (e ∷ es) s new) (legal.0).allowed)
    ∙ quiet-after w (then_one w past e) es s low legal.1 new

-- a session that was not adopted made no call
pub unadopted_quiet : (w : Setting) (h : List Entry) (s : ℕ) → nat_le first_worker s ≡ false → IsLegal w h
    → was_adopted (past_of w h) s ≡ false → calls_of w h s ≡ []
unadopted_quiet w h s low legal new = quiet-after w nothing_yet h s low legal new

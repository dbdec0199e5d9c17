-- A session that may call at a desk acts, as the office asks it: it was born, for it was adopted.
use Rattle.std.proofs.Common.{◌≡◌, ℕ, true, false, not, ◌&&◌, Option, None, Some, is_some, List, refl, sym, ◌∙◌}
use Rattle.std.proofs.lemmas.Bool.{and_parts, and_from, false≢true}
use Rattle.office_core.specs.declared.history.Act.{Act}
use Rattle.office_core.specs.declared.history.Act.TheVariants as act
use Rattle.office_core.specs.declared.history.Entry.{Entry}
use Rattle.office_core.specs.Limits.{Setting}
use Rattle.office_core.specs.Past.{Past, is_running, some_entry}
use Rattle.office_core.specs.Sessions.{adopts, has_ended, is_live, service_of, was_adopted}
use Rattle.office_core.specs.Accepted.{past_of}
use Rattle.office_core.specs.Legal.{IsLegal, is_acting}
use Rattle.office_core.proofs.Unborn.{acts_as, unborn_idle}
use Rattle.session_turn.specs.Asking.{is_at_work}
use Rattle.session_turn.proofs.Lists.{any_wider}

adopts_acts : (s : ℕ) (e : Entry) → adopts s e ≡ true → acts_as s e ≡ true
adopts_acts s e h = by e.actor e.act h
  where
    by : (t : ℕ) (a : Act) → adopts s (record { actor = t; act = a }) ≡ true
        → acts_as s (record { actor = t; act = a }) ≡ true
    by t (act.Adopt d) h = h
    by t a h = absurd (false≢true h)

-- a session that was adopted was born
pub born : (w : Setting) (h : List Entry) (s : ℕ) → IsLegal w h → was_adopted (past_of w h) s ≡ true
    → is_some (service_of w (past_of w h) s) ≡ true
born w h s legal adopted = by (service_of w (past_of w h) s) (unborn_idle w h s legal)
  where
    by : (o : Option ℕ) → (o ≡ None → some_entry (past_of w h) (acts_as s) ≡ false) → is_some o ≡ true
    by (Some d) idle = refl
    by None idle =
        absurd (false≢true
        (sym (idle refl) ∙ any_wider (adopts s) (acts_as s) (past_of w h).entries (adopts_acts s) adopted))

-- a session that is at work acts while the run goes on
pub acts : (w : Setting) (h : List Entry) (s : ℕ) → IsLegal w h → is_running (past_of w h) ≡ true
    → is_at_work (past_of w h) s ≡ true
    → is_acting w (past_of w h) s ≡ true
acts w h s legal runs works =
    let past : Past = past_of w h in
    let at = and_parts (was_adopted past s) (not (has_ended past s)) works in
    and_from (is_running past && is_live w past s) (was_adopted past s)
    (and_from (is_running past) (is_live w past s) runs
    (and_from (is_some (service_of w past s)) (not (has_ended past s)) (born w h s legal at.0) at.1)) at.0

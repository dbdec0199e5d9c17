-- What it is that a session acts, or a worker works.
use Rattle.std.proofs.Common.{◌≡◌, ℕ, Bool, true, false, not, ◌&&◌, refl, sym, ap, ◌∙◌, true≢false}
use Rattle.std.specs.Prelude.{is_some}
use Rattle.office_core.specs.Limits.{Setting}
use Rattle.office_core.specs.Past.{Past, is_running}
use Rattle.office_core.specs.Sessions.{service_of, has_ended, is_live, was_adopted}
use Rattle.office_core.specs.Legal.{is_acting}

pub left : (a b : Bool) → (a && b) ≡ true → a ≡ true
left true b h = refl
left false b h = h

pub right : (a b : Bool) → (a && b) ≡ true → b ≡ true
right true b h = h
right false b h = absurd (true≢false (sym h))

pub not_true : (a : Bool) → not a ≡ true → a ≡ false
not_true true h = sym h
not_true false h = refl

-- a session that acts lives
pub acting_is_live : (w : Setting) (past : Past) (s : ℕ) → is_acting w past s ≡ true → is_live w past s ≡ true
acting_is_live w past s h =
    right (is_running past) (is_live w past s) (left (is_running past && is_live w past s) (was_adopted past s) h)

-- a session that acts has not ended
pub acting_lives : (w : Setting) (past : Past) (s : ℕ) → is_acting w past s ≡ true → has_ended past s ≡ false
acting_lives w past s h =
    not_true (has_ended past s) (right (is_some (service_of w past s)) (not (has_ended past s)) (acting_is_live w past s h))

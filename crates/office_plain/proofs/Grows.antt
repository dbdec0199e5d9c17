-- What an office keeps of its history once that has an entry more: it is legal, and so many places are kept.
use Rattle.std.proofs.Common.{◌≡◌, ℕ, ◌+◌, Bool, true, false, List, [], ◌∷◌, ◌++◌, refl, sym, ap, subst, ◌∙◌}
use Rattle.std.specs.Prelude.{if◌then◌else◌}
use Rattle.office_core.specs.declared.history.Entry.{Entry}
use Rattle.office_core.specs.Limits.{Setting}
use Rattle.office_core.specs.Past.{Past, some_entry, closes, stops}
use Rattle.office_core.specs.Accepted.{then_one, past_of}
use Rattle.office_core.specs.Legal.{IsLegalEntry, IsLegal}
use Rattle.office_core.proofs.Longer.{past_more, legal_more, some_same}
use Rattle.office_plain.specs.declared.kept.Kept.{Kept}
use Rattle.office_plain.specs.Places.{places_kept}
use Rattle.office_plain.specs.Ties.{Ties}

pub past_after : (w : Setting) (old new : List Entry) (e : Entry) → new ≡ old ++ e ∷ []
    → past_of w new ≡ then_one w (past_of w old) e
past_after w old new e added = ap (past_of w) added ∙ past_more w old e

-- with a legal entry more the history is legal
pub legal_after : (w : Setting) (old new : List Entry) (e : Entry) → new ≡ old ++ e ∷ []
    → IsLegal w old → IsLegalEntry w (past_of w old) e → IsLegal w new
legal_after w old new e added legal entry = subst (IsLegal w) (sym added) (legal_more w old e legal entry)

-- what is tied to the entries with one more is tied to the new history
pub ties_after : (w : Setting) (old new : List Entry) (e : Entry) (k : Kept) → new ≡ old ++ e ∷ []
    → Ties w (then_one w (past_of w old) e) k → Ties w (past_of w new) k
ties_after w old new e k added t = subst (λ p. Ties w p k) (sym (past_after w old new e added)) t

-- whether the input was closed, after an entry that does not close it
pub closing_after : (w : Setting) (old new : List Entry) (e : Entry) → new ≡ old ++ e ∷ [] → closes e ≡ false
    → some_entry (past_of w old) closes ≡ some_entry (past_of w new) closes
closing_after w old new e added h =
    sym (ap (λ p. some_entry p closes) (past_after w old new e added) ∙ some_same w (past_of w old) e closes h)

-- the places that are kept by whether there is a close and a stop
abbrev pub places_by : Bool → Bool → ℕ
places_by closed stopped = (if closed then 0 else 1) + (if stopped then 0 else 1)

-- the places that are kept, after an entry that is no close and no stop
pub places_after : (w : Setting) (old new : List Entry) (e : Entry) → new ≡ old ++ e ∷ []
    → closes e ≡ false → stops e ≡ false → places_kept (past_of w old) ≡ places_kept (past_of w new)
places_after w old new e added c s =
    sym (ap places_kept (past_after w old new e added)
    ∙ (λ i. places_by (some_same w (past_of w old) e closes c i) (some_same w (past_of w old) e stops s i)))

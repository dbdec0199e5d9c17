-- What a session may ask by what its pass has seen, holds of each history at which the pass may be given the turn.
use Rattle.std.proofs.Common.{if◌then◌else◌, ◌≡◌, ℕ, Bool, true, false, List, [], ◌∷◌, ◌++◌, nat_eq, refl, sym, ap, subst, ◌∙◌}
use Rattle.std.specs.List.{filter}
use Rattle.std.proofs.lemmas.Bool.{and_parts}
use Rattle.std.proofs.lemmas.List.Elements.{filter-append}
use mathlib.Core.List.{IsPrefix}
use Rattle.behaviour_tree.specs.Data.{ProgramParts}
use Rattle.behaviour_tree.specs.declared.words.Need.{Need}
use Rattle.behaviour_tree.specs.declared.words.Need.TheVariants as need
use Rattle.office_core.specs.declared.history.Entry.{Entry}
use Rattle.office_core.specs.Limits.{run_of}
use Rattle.office_core.specs.Accepted.{past_of}
use Rattle.office_sharing.specs.declared.view.View.{View}
use Rattle.office_sharing.specs.Numbers.{entries_by}
use Rattle.office_turn.specs.Calls.{Follows}
use Rattle.session_turn.specs.Asking.{is_at_work, may_call, meets}
use Rattle.session_turn.specs.Seen.{AreForeign}
use Rattle.session_turn.proofs.Acting.{acts}
use Rattle.session_turn.proofs.Opened.{is_open_still, took_still}
use Rattle.session_shared_turns.specs.Stays.{ActsStill, HasStill, IsNextStill, IsOpenStill, MayAsk, TookStill, WantsStill, seat_of}
use Rattle.session_shared_turns.proofs.Foreign.{may_still}

-- ---- lists

same_rest : {A : Type 0} (xs ys : List A) → xs ++ ys ≡ xs → ys ≡ []
same_rest [] ys is = is
same_rest (x ∷ xs) ys is = same_rest xs ys (ap (λ (l : List _). elim l [ [] ↦ [] | z ∷ zs ↦ zs ]) is)

cons-nil : {A : Type 0} (x : A) (xs : List A) → x ∷ xs ≡ [] → ⊥
cons-nil x xs e = cc

-- where an actor has no entry, all are of others
none_by : (s : ℕ) (es : List Entry) → entries_by s es ≡ [] → AreForeign s es
none_by s [] none = tt
none_by s (e ∷ es) none = by (nat_eq s e.actor) refl none (none_by s es)
  where
    by : (b : Bool) → nat_eq s e.actor ≡ b → (if b then e ∷ entries_by s es else entries_by s es) ≡ []
        → (entries_by s es ≡ [] → AreForeign s es) → (nat_eq s e.actor ≡ false) × AreForeign s es
    by true is none rest = absurd (cons-nil e (entries_by s es) none)
    by false is none rest = (is, rest none)

-- where an actor has no entry after the beginning of a history, what comes after it is of others
pub others_by : (s : ℕ) (seen log : List Entry) (begins : IsPrefix seen log) → entries_by s log ≡ entries_by s seen
    → AreForeign s begins.0
others_by s seen log begins same =
    none_by s begins.0
    (same_rest (entries_by s seen) (entries_by s begins.0)
    (sym (filter-append (λ (e : Entry). nat_eq s e.actor) seen begins.0) ∙ (ap (entries_by s) begins.1 ∙ same)))

-- ---- a history at which the pass may be given the turn

module _ (parts : ProgramParts) (v : View) (n : Need) (m : MayAsk parts v n) (log : List Entry)
    (f : Follows parts v log) where
  others : AreForeign v.number f.begins.0
  others = others_by v.number v.seen log f.begins (f.own ∙ sym m.own)

  may_then : may_call (seat_of parts v) log n ≡ true
  may_then =
      subst (λ l. may_call (seat_of parts v) l n ≡ true) f.begins.1
      (may_still (seat_of parts v) v.seen f.begins.0 n others m.may)

  pub works_then : is_at_work (past_of (run_of parts) log) v.number ≡ true
  works_then =
      (and_parts (is_at_work (past_of (run_of parts) log) v.number)
      (meets (run_of parts) (past_of (run_of parts) log) v.number n) may_then).0

  pub meets_then : meets (run_of parts) (past_of (run_of parts) log) v.number n ≡ true
  meets_then =
      (and_parts (is_at_work (past_of (run_of parts) log) v.number)
      (meets (run_of parts) (past_of (run_of parts) log) v.number n) may_then).1

pub acts_still : ActsStill
acts_still parts v n m log f =
    acts (run_of parts) log v.number f.history.legal f.history.running (works_then parts v n m log f)

pub wants_still : WantsStill
wants_still parts v k m log f = meets_then parts v (need.Answer k) m log f

pub has_still : HasStill
has_still parts v n x m log f = meets_then parts v (need.Bind n x) m log f

pub took_then : TookStill
took_then parts v n o m log f =
    took_still (run_of parts) (past_of (run_of parts) log) v.number n (meets_then parts v (need.Reply n o) m log f)

pub open_then : IsOpenStill
open_then parts v n o m log f =
    is_open_still (run_of parts) log v.number n f.history.legal f.history.running
    (meets_then parts v (need.Reply n o) m log f)

pub next_then : IsNextStill
next_then parts v k port op x wants m log f = meets_then parts v (need.Send k port op x wants) m log f

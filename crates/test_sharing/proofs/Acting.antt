-- A session that was adopted and did not end acts, whatever others do.
use Rattle.std.proofs.Common.{if◌then◌else◌, ◌≡◌, ℕ, Bool, true, false, not, ◌||◌, List, [], ◌∷◌, nat_eq, refl, ap, ◌∙◌}
use Rattle.std.specs.List.{list_any}
use Rattle.std.proofs.lemmas.Bool.{and_from}
use Rattle.behaviour_tree.specs.Data.{ProgramParts}
use Rattle.office_core.specs.declared.history.Act.{Act}
use Rattle.office_core.specs.declared.history.Act.TheVariants as act
use Rattle.office_core.specs.declared.history.Entry.{Entry}
use Rattle.office_core.specs.Limits.{Setting, run_of}
use Rattle.office_core.specs.Past.{Past}
use Rattle.office_core.specs.Sessions.{adopts, ends, has_ended, was_adopted}
use Rattle.office_core.specs.Accepted.{past_of}
use Rattle.office_core.specs.Legal.{is_acting}
use Rattle.office_sharing.specs.declared.view.View.{View}
use Rattle.office_sharing.specs.Numbers.{entries_by}
use Rattle.office_turn.specs.Calls.{Stays}
use Rattle.session_turn.proofs.Acting.{acts}
use Rattle.session_turn.proofs.Histories.{some_of}
use Rattle.test_sharing.specs.Callers.{IsCaller}

-- ---- entries of one session alone

-- a test that finds entries of session s alone
abbrev pub IsMine : ℕ → (Entry → Bool) → Type 0
IsMine s f = (e : Entry) → nat_eq s e.actor ≡ false → f e ≡ false

pub adopts_mine : (s : ℕ) → IsMine s (adopts s)
adopts_mine s e h = go e.actor e.act h
  where
    go : (n : ℕ) (c : Act) → nat_eq s n ≡ false → adopts s (record { actor = n; act = c }) ≡ false
    go n (act.Adopt d) h = h
    go n c h = refl

pub ends_mine : (s : ℕ) → IsMine s (ends s)
ends_mine s e h = go e.actor e.act h
  where
    go : (n : ℕ) (c : Act) → nat_eq s n ≡ false → ends s (record { actor = n; act = c }) ≡ false
    go n act.End h = h
    go n c h = refl

-- such a test looks at the entries of the session alone
pub any_own : (s : ℕ) (f : Entry → Bool) → IsMine s f → (es : List Entry)
    → list_any f es ≡ list_any f (entries_by s es)
any_own s f mine [] = refl
any_own s f mine (e ∷ es) = by (nat_eq s e.actor) refl (any_own s f mine es)
  where
    by : (b : Bool) → nat_eq s e.actor ≡ b → list_any f es ≡ list_any f (entries_by s es)
        → (f e || list_any f es) ≡ list_any f (if b then e ∷ entries_by s es else entries_by s es)
    by true is rest = ap (λ b. f e || b) rest
    by false is rest = ap (λ b. b || list_any f es) (mine e is) ∙ rest

-- a session that was adopted acts, whatever others do
pub acts_still : (parts : ProgramParts) (v : View) → IsCaller v → list_any (adopts v.number) v.mine ≡ true
    → Stays parts v (λ w past. is_acting w past v.number)
acts_still parts v caller adopted log f =
    let w : Setting = run_of parts in
    let past : Past = past_of w log in
    let was : was_adopted past v.number ≡ true
    = some_of w log (adopts v.number) ∙ any_own v.number (adopts v.number) (adopts_mine v.number) log
    ∙ ap (list_any (adopts v.number)) f.own ∙ adopted in
    let lives : has_ended past v.number ≡ false
    = some_of w log (ends v.number) ∙ any_own v.number (ends v.number) (ends_mine v.number) log
    ∙ ap (list_any (ends v.number)) f.own ∙ caller.lives in
    acts w log v.number f.history.legal f.history.running
    (and_from (was_adopted past v.number) (not (has_ended past v.number)) was (ap not lives))

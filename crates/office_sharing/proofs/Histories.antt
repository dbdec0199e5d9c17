-- Beginnings of histories, the entries of an actor, and histories of a shared office with one entry more.
use Rattle.std.proofs.Common.{if◌then◌else◌, ◌≡◌, ◌≢◌, ℕ, Bool, true, false, not, ◌||◌, List, [], ◌∷◌, ◌++◌, length, drop, refl, ap, sym, subst, ◌∙◌, append_assoc, nat_eq}
use Rattle.std.specs.List.{filter}
use Rattle.std.proofs.lemmas.List.{append-nil}
use Rattle.std.proofs.lemmas.List.Elements.{filter-append}
use mathlib.Core.List.{IsPrefix}
use Rattle.behaviour_tree.specs.Data.{ProgramParts}
use Rattle.behaviour_tree.specs.PartsView.{parts_of}
use Rattle.office_core.specs.declared.history.Entry.{Entry}
use Rattle.office_core.specs.Limits.{run_of}
use Rattle.office_core.specs.Past.{is_running, some_entry, stops}
use Rattle.office_core.specs.Accepted.{past_of, then_one}
use Rattle.office_core.specs.Legal.{IsLegal}
use Rattle.office_core.proofs.Longer.{past_more, some_same}
use Rattle.office_plain.specs.declared.office.Office.{Office}
use Rattle.office_plain.specs.View.{entries_of}
use Rattle.office_plain.proofs.Lists.{itself, not_eq}
use Rattle.office_sharing.specs.Numbers.{entries_by}
use Rattle.office_sharing.specs.Rule.{HasHistory, IsHistory}

-- ---- beginnings

-- each list begins with itself
pub prefix_self : {A : Type 0} (xs : List A) → IsPrefix xs xs
prefix_self xs = ([], append-nil xs)

pub prefix_trans : {A : Type 0} (xs ys zs : List A) → IsPrefix xs ys → IsPrefix ys zs → IsPrefix xs zs
prefix_trans xs ys zs p q = (p.0 ++ q.0, sym (append_assoc xs p.0 q.0) ∙ (ap (λ w. w ++ q.0) p.1 ∙ q.1))

pub prefix_more : {A : Type 0} (xs ys more : List A) → IsPrefix xs ys → IsPrefix xs (ys ++ more)
prefix_more xs ys more p = prefix_trans xs ys (ys ++ more) p (more, refl)

pub drop_append : {A : Type 0} (xs ys : List A) → drop (length xs) (xs ++ ys) ≡ ys
drop_append [] ys = refl
drop_append (x ∷ xs) ys = drop_append xs ys

-- ---- the entries of an actor

one_by : (n : ℕ) (e : Entry) (b : Bool) → nat_eq n e.actor ≡ b → entries_by n (e ∷ []) ≡ (if b then e ∷ [] else [])
one_by n e b is = ap (λ (c : Bool). if c then e ∷ [] else []) is

-- an entry of another actor
pub by_passes : (n : ℕ) (log : List Entry) (e : Entry) → e.actor ≢ n → entries_by n (log ++ e ∷ []) ≡ entries_by n log
by_passes n log e other =
    filter-append (λ (x : Entry). nat_eq n x.actor) log (e ∷ [])
    ∙ (ap (λ es. entries_by n log ++ es) (one_by n e false (not_eq n e.actor (λ is. other (sym is))))
    ∙ append-nil (entries_by n log))

-- an entry of the actor
pub by_adds : (n : ℕ) (log : List Entry) (e : Entry) → e.actor ≡ n
    → entries_by n (log ++ e ∷ []) ≡ entries_by n log ++ e ∷ []
by_adds n log e own =
    filter-append (λ (x : Entry). nat_eq n x.actor) log (e ∷ [])
    ∙ ap (λ es. entries_by n log ++ es)
    (one_by n e true (subst (λ a. nat_eq n a ≡ true) (sym own) (itself n)))

-- ---- histories of a shared office

-- the history of an office of the program is legal
pub legal_of : (parts : ProgramParts) (log : List Entry) (o : Office) → HasHistory parts log o
    → IsLegal (run_of parts) log
legal_of parts log o has =
    subst (IsLegal (run_of parts)) has.entries (subst (λ p. IsLegal (run_of p) (entries_of o)) has.program o.legal)

-- one entry more that stops nothing
pub runs_more : (parts : ProgramParts) (log : List Entry) (e : Entry) → stops e ≡ false
    → is_running (past_of (run_of parts) log) ≡ true → is_running (past_of (run_of parts) (log ++ e ∷ [])) ≡ true
runs_more parts log e goes runs =
    ap is_running (past_more (run_of parts) log e)
    ∙ (ap not (some_same (run_of parts) (past_of (run_of parts) log) e stops goes) ∙ runs)

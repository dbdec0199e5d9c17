-- Which hints are kept and told.
use Rattle.std.proofs.Common.{◌≡◌, ◌+◌, ◌<◌, ◌≤◌, ◌⊎◌, inl, inr, ℕ, Bool, true, false, List, [], ◌∷◌, ◌++◌, length, take, get_or, sym, ap, subst, ◌∙◌}
use Rattle.std.specs.Prelude.{MatchBool}
use Rattle.std.proofs.lemmas.List.{take_more, take_all}
use Rattle.explain_hints.specs.declared.hint.Hint.{Hint}
use Rattle.explain_hints.specs.Hints.{said_by}
use Rattle.explain_hints.specs.MayStand.{MayStand, IsSaidBy, IsTold, AreKept, none, kept, left}

-- ---- one hint after the other

-- none is kept of none
pub none_kept : (Holds : Hint → Type 0) (hints told : List Hint) → told ≡ [] → AreKept Holds (take 0 hints) told
none_kept Holds [] told is = subst (λ ts. AreKept Holds [] ts) (sym is) none
none_kept Holds (h ∷ hs) told is = subst (λ ts. AreKept Holds [] ts) (sym is) none

-- one more that is kept
kept_behind : (Holds : Hint → Type 0) (hints told : List Hint) (h : Hint) → AreKept Holds hints told → Holds h → AreKept Holds (hints ++ h ∷ []) (told ++ h ∷ [])
kept_behind Holds _ _ h none holds = kept holds none
kept_behind Holds _ _ h (kept {hints = hints} {told = told} first rest) holds = kept first (kept_behind Holds hints told h rest holds)
kept_behind Holds _ _ h (left {hints = hints} {told = told} first rest) holds = left first (kept_behind Holds hints told h rest holds)

-- one more that is left out
left_behind : (Holds : Hint → Type 0) (hints told : List Hint) (h : Hint) → AreKept Holds hints told → (Holds h → ⊥) → AreKept Holds (hints ++ h ∷ []) told
left_behind Holds _ _ h none fails = left fails none
left_behind Holds _ _ h (kept {hints = hints} {told = told} first rest) fails = kept first (left_behind Holds hints told h rest fails)
left_behind Holds _ _ h (left {hints = hints} {told = told} first rest) fails = left first (left_behind Holds hints told h rest fails)

-- the next of a list of hints is kept
pub kept_more : (Holds : Hint → Type 0) (hints told : List Hint) (i : ℕ) (h : Hint) → i < length hints → h ≡ get_or hints i h → AreKept Holds (take i hints) told → Holds h
    → AreKept Holds (take (i + 1) hints) (told ++ h ∷ [])
kept_more Holds hints told i h there is so_far holds =
    let next : take (i + 1) hints ≡ take i hints ++ h ∷ [] = take_more hints i h there ∙ ap (λ x. take i hints ++ x ∷ []) (sym is) in
    subst (λ hs. AreKept Holds hs (told ++ h ∷ [])) (sym next) (kept_behind Holds (take i hints) told h so_far holds)

-- the next is left out
pub left_more : (Holds : Hint → Type 0) (hints told : List Hint) (i : ℕ) (h : Hint) → i < length hints → h ≡ get_or hints i h → AreKept Holds (take i hints) told → (Holds h → ⊥)
    → AreKept Holds (take (i + 1) hints) told
left_more Holds hints told i h there is so_far fails =
    let next : take (i + 1) hints ≡ take i hints ++ h ∷ [] = take_more hints i h there ∙ ap (λ x. take i hints ++ x ∷ []) (sym is) in
    subst (λ hs. AreKept Holds hs told) (sym next) (left_behind Holds (take i hints) told h so_far fails)

-- the same of the one that is read at a place
pub kept_at : (Holds : Hint → Type 0) (hints told : List Hint) (i : ℕ) (d : Hint) → i < length hints → AreKept Holds (take i hints) told → Holds (get_or hints i d)
    → AreKept Holds (take (i + 1) hints) (told ++ get_or hints i d ∷ [])
kept_at Holds hints told i d there so_far holds =
    subst (λ hs. AreKept Holds hs (told ++ get_or hints i d ∷ [])) (sym (take_more hints i d there)) (kept_behind Holds (take i hints) told (get_or hints i d) so_far holds)

pub left_at : (Holds : Hint → Type 0) (hints told : List Hint) (i : ℕ) (d : Hint) → i < length hints → AreKept Holds (take i hints) told → (Holds (get_or hints i d) → ⊥)
    → AreKept Holds (take (i + 1) hints) told
left_at Holds hints told i d there so_far fails =
    subst (λ hs. AreKept Holds hs told) (sym (take_more hints i d there)) (left_behind Holds (take i hints) told (get_or hints i d) so_far fails)

-- there is no next
pub all_kept : (Holds : Hint → Type 0) (hints told : List Hint) (i : ℕ) → length hints ≤ i → AreKept Holds (take i hints) told → AreKept Holds hints told
all_kept Holds hints told i over so_far = subst (λ hs. AreKept Holds hs told) (take_all i hints over) so_far

-- ---- whether a hint is told

-- one that may stand and that no other says
pub told : (text : List ℕ) (at : ℕ) (h : Hint) → MayStand text at h → (IsSaidBy text at (said_by h) → ⊥) → IsTold text at h
told text at h may unsaid = (may, unsaid)

-- one that may not stand
pub untold : (text : List ℕ) (at : ℕ) (h : Hint) → (MayStand text at h → ⊥) → IsTold text at h → ⊥
untold text at h never is = never is.0

-- one that another says
pub unsaid : (text : List ℕ) (at : ℕ) (h : Hint) → IsSaidBy text at (said_by h) → IsTold text at h → ⊥
unsaid text at h too is = is.1 too

-- ---- what says it too

-- nothing says it
pub never : ⊥ → ⊥
never h = h

-- the first of two
pub one : (P Q : Type 0) → P → P ⊎ Q
one P Q p = inl p

-- not the first of two, and so by the second
pub other : (P Q : Type 0) (b : Bool) → (P → ⊥) → MatchBool b Q (Q → ⊥) → MatchBool b (P ⊎ Q) (P ⊎ Q → ⊥)
other P Q true not_first second = inr second
other P Q false not_first second = λ either. elim either [ inl p ↦ not_first p | inr q ↦ second q ]

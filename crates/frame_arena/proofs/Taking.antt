-- What is taken off a list, or out of a row.
use Rattle.std.proofs.Common.{◌≡◌, ℕ, ◌+◌, ◌-◌, List, [], ◌∷◌, ◌++◌, length, get_or, set, slice_get, Option, Some, None, option_to_list, MatchOption, sym, ap, ◌∙◌, refl, arith}
use Rattle.std.proofs.lemmas.List.{length-append}
use Rattle.frame_arena.specs.Line.{Line}
use Rattle.frame_arena.specs.Lines.{with_kept}
use Rattle.frame_arena.specs.Entries.{entry, entries, over, lines_from}
use Rattle.frame_arena.specs.Places.{IsSound, IsRowOf}
use Rattle.frame_arena.specs.declared.row.Row.{Row}
use Rattle.frame_arena.proofs.Reading.{kept_sound, kept_lines}

-- nothing is read of an empty list
nothing_at : {F : Type 0} (xs : List F) (i : ℕ) → length xs ≡ 0 → None ≡ slice_get xs i
nothing_at [] i is = refl
nothing_at (x ∷ xs) i is = absurd (omega (arith, is))

last_at : {F : Type 0} (xs : List F) (x : F) → slice_get (xs ++ x ∷ []) (length xs) ≡ Some x
last_at [] x = refl
last_at (y ∷ ys) x = last_at ys x

last_is : {F : Type 0} (xs : List F) (x : F) → slice_get (xs ++ x ∷ []) (length (xs ++ x ∷ []) - 1) ≡ Some x
last_is xs x = ap (λ k. slice_get (xs ++ x ∷ []) k) (omega (arith, length-append xs (x ∷ []))) ∙ last_at xs x

-- what is taken off the end is what stood there
pub popped : {F : Type 0} (old new : List F) (o : Option F) (n m : ℕ) → n ≡ length old → old ≡ new ++ option_to_list o
    → MatchOption o ((n ≡ 0) × (m ≡ 0)) (λ _. m + 1 ≡ n) → o ≡ slice_get old (length old - 1)
popped old new None n m len is cases = nothing_at old (length old - 1) (omega (arith, len, cases.0))
popped {F} old new (Some x) n m len is cases = sym (ap (λ (l : List F). slice_get l (length l - 1)) is ∙ last_is new x)

-- a row that keeps something else
kept_alone : {F K : Type 0} (x r : Row F K) (ks : List K) → r.number ≡ x.number → r.is_live ≡ x.is_live → r.parent ≡ x.parent → r.first ≡ x.first
    → r.count ≡ x.count → r.undone ≡ x.undone → r.frames ≡ x.frames → r.kept.items ≡ ks
    → entry r ≡ over (λ (l : Line F K). record l { kept = ks }) (entry x)
kept_alone x r ks same_number same_live same_parent same_first same_count same_undone same_frames now = cc

pub keeping_sound : {F K : Type 0} (rows xs : List (Row F K)) (ls : List (Line F K)) (next n k : ℕ) (x r : Row F K) (ks : List K) → IsSound (entries rows) next
    → lines_from (entries rows) 0 next ≡ ls → xs ≡ rows → IsRowOf (entries xs) n k → x ≡ get_or rows k x
    → r.number ≡ x.number → r.is_live ≡ x.is_live → r.parent ≡ x.parent → r.first ≡ x.first → r.count ≡ x.count → r.undone ≡ x.undone → r.frames ≡ x.frames
    → r.kept.items ≡ ks → IsSound (entries (set rows k r)) next
keeping_sound {F} {K} rows xs ls next n k x r ks sound view is row at number live parent first count undone frames now =
    kept_sound rows xs ls next n k x r (λ (l : Line F K). record l { kept = ks }) (λ l. record { live = refl; parent = refl; first = refl; count = refl })
    sound view is row at (kept_alone x r ks number live parent first count undone frames now)

pub keeping_lines : {F K : Type 0} (rows xs : List (Row F K)) (ls : List (Line F K)) (next n k : ℕ) (x r : Row F K) (ks : List K) → IsSound (entries rows) next
    → lines_from (entries rows) 0 next ≡ ls → xs ≡ rows → IsRowOf (entries xs) n k → x ≡ get_or rows k x
    → r.number ≡ x.number → r.is_live ≡ x.is_live → r.parent ≡ x.parent → r.first ≡ x.first → r.count ≡ x.count → r.undone ≡ x.undone → r.frames ≡ x.frames
    → r.kept.items ≡ ks → lines_from (entries (set rows k r)) 0 next ≡ with_kept ls n ks
keeping_lines {F} {K} rows xs ls next n k x r ks sound view is row at number live parent first count undone frames now =
    kept_lines rows xs ls next n k x r (λ (l : Line F K). record l { kept = ks }) (λ l. record { live = refl; parent = refl; first = refl; count = refl })
    sound view is row at (kept_alone x r ks number live parent first count undone frames now)

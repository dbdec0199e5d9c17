-- Lists with one more, and whether there is an entry of a kind.
use Rattle.std.proofs.Common.{◌≡◌, ℕ, zero, suc, Bool, true, false, ◌||◌, ◌⊎◌, inl, inr, List, [], ◌∷◌, ◌++◌, slice_get, refl, sym, subst, ◌∙◌, Some}
use Rattle.std.specs.List.{list_any}
use Rattle.std.proofs.lemmas.Bool.{or_left}
use Rattle.std.proofs.lemmas.Option.{none-some, same_Some}
use Rattle.office_core.specs.declared.history.Entry.{Entry}
use Rattle.office_core.specs.Limits.{Setting}
use Rattle.office_core.specs.Past.{Past, some_entry}
use Rattle.office_core.specs.Accepted.{then_one}
use Rattle.office_core.proofs.Longer.{some_more}

-- what stands in a list with one more stood there, or is the last
pub last_or : {A : Type 0} (xs : List A) (x : A) (P : A → Type 0) (n : ℕ) (y : A)
    → ((k : ℕ) (z : A) → slice_get xs k ≡ Some z → P z) → P x → slice_get (xs ++ x ∷ []) n ≡ Some y → P y
last_or [] x P zero y before now h = subst P (same_Some x y h) now
last_or [] x P (suc n) y before now h = absurd (none-some y h)
last_or (z ∷ xs) x P zero y before now h = before zero y h
last_or (z ∷ xs) x P (suc n) y before now h = last_or xs x P n y (λ k u g. before (suc k) u g) now h

or_cases : (a b : Bool) → (a || b) ≡ true → (a ≡ true) ⊎ (b ≡ true)
or_cases true b h = inl refl
or_cases false b h = inr h

-- an entry of a kind among one more was there, or is the last
pub some_last : (w : Setting) (past : Past) (e : Entry) (f : Entry → Bool) → some_entry (then_one w past e) f ≡ true
    → (some_entry past f ≡ true) ⊎ (f e ≡ true)
some_last w past e f h = or_cases (some_entry past f) (f e) (sym (some_more w past e f) ∙ h)

-- an entry of a kind is there when there is one more
pub some_stays : (w : Setting) (past : Past) (e : Entry) (f : Entry → Bool) → some_entry past f ≡ true
    → some_entry (then_one w past e) f ≡ true
some_stays w past e f h = some_more w past e f ∙ or_left (some_entry past f) (f e) h

-- where there is one of a kind, there is one of a wider kind
pub any_wider : {A : Type 0} (f g : A → Bool) (xs : List A) → ((x : A) → f x ≡ true → g x ≡ true)
    → list_any f xs ≡ true → list_any g xs ≡ true
any_wider f g [] wider h = h
any_wider f g (x ∷ xs) wider h = by (f x) (g x) (list_any f xs) (list_any g xs) (wider x) (any_wider f g xs wider) h
  where
    by : (a b c d : Bool) → (a ≡ true → b ≡ true) → (c ≡ true → d ≡ true) → (a || c) ≡ true → (b || d) ≡ true
    by true b c d here rest h = or_left b d (here refl)
    by false true c d here rest h = refl
    by false false c d here rest h = rest h

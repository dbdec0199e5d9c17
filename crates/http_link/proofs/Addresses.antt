-- Where the path of an address begins.
use Rattle.std.proofs.Common.{◌≡◌, ◌≤◌, ℕ, Bool, cond, ltb, List, [], length, take, drop, Some, None, sym, ap, ◌∙◌, arith, inl, inr}
use Rattle.std.specs.List.{position, position_or_len}
use Rattle.std.proofs.lemmas.Bool.{ltb-true, ltb-false, cases_Bool}
use Rattle.std.proofs.lemmas.List.{take_all, drop_all}
use Rattle.std.proofs.lemmas.Option.{none-some, same_Some}

-- the first place at which a test passes
pub place_of : (p : ℕ → Bool) (xs : List ℕ) (at : ℕ) → Some at ≡ position p xs → (at ≡ position_or_len p xs) × (at ≤ length xs)
place_of p xs at e = elim (cases_Bool (ltb (position_or_len p xs) (length xs))) [
  | inl t ↦
      let same : at ≡ position_or_len p xs = same_Some at (position_or_len p xs) (e ∙ ap (λ b. cond b (Some (position_or_len p xs)) None) t) in
      let inside = ltb-true (position_or_len p xs) (length xs) t in
      (same, omega arith)
  | inr f ↦ absurd (none-some at (sym (e ∙ ap (λ b. cond b (Some (position_or_len p xs)) None) f)))
]

-- where there is none, all is in front
pub no_place : (p : ℕ → Bool) (xs : List ℕ) → None ≡ position p xs → length xs ≤ position_or_len p xs
no_place p xs e = elim (cases_Bool (ltb (position_or_len p xs) (length xs))) [
  | inl t ↦ absurd (none-some (position_or_len p xs) (e ∙ ap (λ b. cond b (Some (position_or_len p xs)) None) t))
  | inr f ↦ ltb-false (position_or_len p xs) (length xs) f
]

pub all_in_front : (p : ℕ → Bool) (xs : List ℕ) → None ≡ position p xs → xs ≡ take (position_or_len p xs) xs
all_in_front p xs e = sym (take_all (position_or_len p xs) xs (no_place p xs e))

pub none_behind : (p : ℕ → Bool) (xs : List ℕ) → None ≡ position p xs → [] ≡ drop (position_or_len p xs) xs
none_behind p xs e = sym (drop_all (position_or_len p xs) xs (no_place p xs e))

-- Words in a list of words.
use Rattle.std.proofs.Common.{◌≡◌, ℕ, zero, suc, Bool, true, false, ◌||◌, List, [], ◌∷◌, refl, arith, Contains}
use Rattle.std.specs.List.{list_any}
use Rattle.std.specs.Str.{bytes_eq}
use Rattle.std.proofs.lemmas.Slice.Eq.{bytes_eq-Decides}

contains_first : (w v : List ℕ) (words : List (List ℕ)) → v ≡ w → Contains (v ∷ words) w
contains_first w v words e = (0, omega arith, e)

contains_behind : (w v : List ℕ) (words : List (List ℕ)) → Contains words w → Contains (v ∷ words) w
contains_behind w v words h = (suc h.0, (let lt = h.1 in omega arith), h.2)

contained : (w v : List ℕ) (words : List (List ℕ)) → Contains (v ∷ words) w → (v ≡ w → ⊥) → Contains words w
contained w v words (zero, lt, e) other = absurd (other e)
contained w v words (suc k, lt, e) other = (k, omega arith, e)

-- a word is found in a list just where it is in it
pub word_found : (w : List ℕ) (words : List (List ℕ)) → list_any (λ v. bytes_eq v w) words ≡ true → Contains words w
word_found w [] e = absurd cc
word_found w (v ∷ words) e = by (bytes_eq v w) refl e (word_found w words)
  where
    by : (b : Bool) → bytes_eq v w ≡ b → b || list_any (λ u. bytes_eq u w) words ≡ true → (list_any (λ u. bytes_eq u w) words ≡ true → Contains words w) → Contains (v ∷ words) w
    by true b e on = contains_first w v words ((bytes_eq-Decides v w).0 b)
    by false b e on = contains_behind w v words (on e)

pub word_finds : (w : List ℕ) (words : List (List ℕ)) → Contains words w → list_any (λ v. bytes_eq v w) words ≡ true
word_finds w [] h = let lt = h.1 in absurd (omega arith)
word_finds w (v ∷ words) h = by (bytes_eq v w) refl (λ other. word_finds w words (contained w v words h other))
  where
    by : (b : Bool) → bytes_eq v w ≡ b → ((v ≡ w → ⊥) → list_any (λ u. bytes_eq u w) words ≡ true) → b || list_any (λ u. bytes_eq u w) words ≡ true
    by true b on = refl
    by false b on = on (λ e. let same = (bytes_eq-Decides v w).1 e in cc)

-- Laws of places among texts.
use Rattle.std.proofs.Common.{◌≡◌, ℕ, suc, Bool, true, false, List, [], ◌∷◌, length, Option, Some, None, refl, ap, sym, ◌∙◌, bytes_eq}
use Rattle.std.specs.Prelude.{if◌then◌else◌, option_map, unwrap_or}
use Rattle.check_base.specs.Files.{place_in}
use Rattle.check_base.specs.Repeated.{place_of}

-- the first text is it, or it is counted
pub counted_first : (b : Bool) (o : Option ℕ) (m n : ℕ) → m ≡ unwrap_or o n → (if b then 0 else suc m) ≡ unwrap_or (if b then Some 0 else option_map suc o) (suc n)
counted_first true o m n e = refl
counted_first false None m n e = ap suc e
counted_first false (Some place) m n e = ap suc e

-- as many texts stand before as the place says, all of them where there is none
pub place_counts : (ts : List (List ℕ)) (q : List ℕ) → place_in ts q ≡ unwrap_or (place_of ts q) (length ts)
place_counts [] q = refl
place_counts (t ∷ ts) q = counted_first (bytes_eq t q) (place_of ts q) (place_in ts q) (length ts) (place_counts ts q)

-- a text at its place
pub counted_there : (ts : List (List ℕ)) (q : List ℕ) (n : ℕ) → place_of ts q ≡ Some n → n ≡ place_in ts q
counted_there ts q n there = sym (place_counts ts q ∙ ap (λ o. unwrap_or o (length ts)) there)

-- a text that is not there
pub counted_missing : (ts : List (List ℕ)) (q : List ℕ) → place_of ts q ≡ None → length ts ≡ place_in ts q
counted_missing ts q missing = sym (place_counts ts q ∙ ap (λ o. unwrap_or o (length ts)) missing)

-- What one place more makes of a book.
use Rattle.std.proofs.Common.{◌≡◌, ℕ, zero, suc, List, [], ◌∷◌, ◌++◌, Option, None, refl}
use Rattle.reqresp_book.specs.declared.place.Place.{Place}
use Rattle.reqresp_book.specs.View.{place_in}

-- an empty place more
pub one_more : (places : List (Option Place)) (m : ℕ) → place_in (places ++ None ∷ []) m ≡ place_in places m
one_more [] zero = refl
one_more [] (suc m) = refl
one_more (p ∷ places) zero = refl
one_more (p ∷ places) (suc m) = one_more places m

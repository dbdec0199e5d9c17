-- Lines that are written one behind another.
use Rattle.std.proofs.Common.{◌≡◌, ℕ, List, ◌++◌, ap, ◌∙◌}
use Rattle.http_link.specs.Requests.{line}

-- one line more
pub pushed : (old new front first second a b : List ℕ) → new ≡ old ++ line first second → old ≡ front → first ≡ a → second ≡ b
    → new ≡ front ++ line a b
pushed old new front first second a b is was x y =
    is ∙ ap (λ l. l ++ line first second) was ∙ ap (λ l. front ++ line l second) x ∙ ap (λ l. front ++ line a l) y

-- An equation by way of a value in between.
use Rattle.std.proofs.Common.{◌≡◌, ◌∙◌}

-- the left side is told by the goal alone
pub through : {A : Type 0} {x z : A} (y : A) → y ≡ z → x ≡ y → x ≡ z
through y e h = h ∙ e

-- A text on its way out.
use Rattle.std.specs.Prelude.{ℕ, List}

-- a text that goes out: what is out of it, and what is left
pub record Outgoing : Type 0 where
  pub out : List ℕ
  pub left : List ℕ

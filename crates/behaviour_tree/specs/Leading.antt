-- What leads to what, step by step.
use Rattle.std.specs.Prelude.{◌≡◌, ℕ, zero, suc, List, [], ◌∷◌, Option, None, Some}

-- one thing leads to another, in one step or in more
pub data LeadsTo {A : Type 0} (next : A → Option A) : A → A → Type 0 where
  at_once : (a b : A) → next a ≡ Some b → LeadsTo next a b
  later : (a b c : A) → next a ≡ Some b → LeadsTo next b c → LeadsTo next a c

-- the things that one leads to, the nearest first, no more than so many
abbrev pub led_to : {A : Type 0} → (A → Option A) → ℕ → A → List A
led_to next zero a = []
led_to next (suc n) a = elim (next a) [ None ↦ [] | Some b ↦ b ∷ led_to next n b ]

-- A front halts in one call or in the next.
use Rattle.std.proofs.Common.{◌≡◌, ◌⊎◌, ℕ, ◌≤◌, true, refl, ◌∙◌, inl, inr, le_refl, arith}
use Rattle.outside_traits.specs.Causes.{Rose}
use Rattle.run_theorem.specs.Exchange.{Sent}
use Rattle.run_theorem.specs.Calls.{Halts}

rose_later : (a b c : ℕ) → Rose a b → b ≤ c → Rose a c
rose_later a b c h g = omega arith

rose_sooner : (a b c : ℕ) → a ≤ b → Rose b c → Rose a c
rose_sooner a b c h g = omega arith

le_both : (a b c : ℕ) → a ≤ b → b ≤ c → a ≤ c
le_both a b c h g = omega arith

-- it halted nowhere
pub halts_not : (s : Sent) → Halts s s
halts_not s = record { cause = λ h. inl h; unfailed = λ h. (h, refl); faults = le_refl s.faults }

-- it halted in the one or in the other
pub halts_on : (a b c : Sent) → Halts a b → Halts b c → Halts a c
halts_on a b c x y =
    record {
      cause = λ h. elim
          (y.cause h) [ inl g ↦ before (x.cause g) | inr g ↦ inr (rose_sooner a.faults b.faults c.faults x.faults g) ];
      unfailed = λ h. ((x.unfailed (y.unfailed h).0).0, (y.unfailed h).1 ∙ (x.unfailed (y.unfailed h).0).1);
      faults = le_both a.faults b.faults c.faults x.faults y.faults;
    }
  where
    before : (a.halted ≡ true) ⊎ Rose a.faults b.faults → (a.halted ≡ true) ⊎ Rose a.faults c.faults
    before (inl g) = inl g
    before (inr g) = inr (rose_later a.faults b.faults c.faults g y.faults)

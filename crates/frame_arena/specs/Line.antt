-- A strand as contracts see it.
use Rattle.std.specs.Prelude.{ℕ, Bool, List, Option, refl}
use Rattle.std.specs.Coded.{Coded, code_by, coded×, coded_ℕ, coded_bool, coded_list, coded_option}

-- whether it is there; the strand that it is a member of; its first member, how many members it has, and how many of
-- these are not done yet; its frames from the bottom to the top; and what it keeps beside them
pub record Line (F K : Type 0) : Type 0 where
  pub is_live : Bool
  pub parent : Option ℕ
  pub first : ℕ
  pub count : ℕ
  pub undone : ℕ
  pub frames : List F
  pub kept : List K

-- how what a strand has is coded, where frames and what is kept are
abbrev pub line_code : {F K : Type 0} → Coded F → Coded K → Coded (Line F K)
line_code {F = F} {K = K} f k =
    code_by (Bool × (Option ℕ × (ℕ × (ℕ × (ℕ × (List F × List K))))))
    (coded× coded_bool (coded× (coded_option coded_ℕ)
    (coded× coded_ℕ (coded× coded_ℕ (coded× coded_ℕ (coded× (coded_list f) (coded_list k)))))))
    (λ l. (l.is_live, (l.parent, (l.first, (l.count, (l.undone, (l.frames, l.kept)))))))
    (λ p. record {
      is_live = p.0;
      parent = p.1.0;
      first = p.1.1.0;
      count = p.1.1.1.0;
      undone = p.1.1.1.1.0;
      frames = p.1.1.1.1.1.0;
      kept = p.1.1.1.1.1.1;
    })
    (λ _. refl)

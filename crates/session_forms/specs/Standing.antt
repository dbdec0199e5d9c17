-- The strands that stand in a form.
use Rattle.std.specs.Prelude.{ℕ, List, [], ◌∷◌, ◌++◌}
use Rattle.session_calculus.specs.Terms.{Term, Strands, seq, par, in_scope, exec, fail, prot, no_strands, strand}

abbrev mutual
  -- the members of the parallels in a form
  pub strands_within : Term → List ℕ
  strands_within (seq t rest) = strands_within t
  strands_within (par ts) = strands_among ts
  strands_within (in_scope q t h u) = strands_within t
  strands_within (exec m o y t) = strands_within t
  strands_within (fail m f t) = strands_within t
  strands_within (prot t) = strands_within t
  strands_within t = []

  -- members, each with those in it
  pub strands_among : Strands → List ℕ
  strands_among no_strands = []
  strands_among (strand n t ts) = (n ∷ strands_within t) ++ strands_among ts

-- the strands of a form that runs in strand n: that one, and the members of the parallels in it
abbrev pub strands_in : ℕ → Term → List ℕ
strands_in n t = n ∷ strands_within t

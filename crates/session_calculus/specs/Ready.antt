-- Which strands go first before a fault comes to a scope.
use Rattle.std.specs.Prelude.{ℕ, nat_le, List, [], ◌∷◌, ◌++◌, if◌then◌else◌}
use Rattle.behaviour_tree.specs.Data.{install}
use Rattle.session_calculus.specs.Tables.{Table, fits}
use Rattle.session_calculus.specs.Terms.{Term, Strands, done, place, seq, par, in_scope, exec, no_strands, strand, live}

abbrev mutual
  -- the strands that are to install handlers that fit the table h of scope q, or to end a scope, in a form of that
  -- scope that runs in strand n. A scope's body, a failed request and what no fault ends any more are not looked into
  pub ready_in : ℕ → Table → ℕ → Term → List ℕ
  ready_in q h n (place (install list)) = if fits q h list then n ∷ [] else []
  ready_in q h n (in_scope r done g live) = n ∷ []
  ready_in q h n (seq t rest) = ready_in q h n t
  ready_in q h n (par ts) = ready_among q h ts
  ready_in q h n (exec m o y t) = ready_in q h n t
  ready_in q h n t = []

  -- the same of members
  pub ready_among : ℕ → Table → Strands → List ℕ
  ready_among q h no_strands = []
  ready_among q h (strand n t ts) = ready_in q h n t ++ ready_among q h ts

-- a number in its place among rising numbers
abbrev pub placed : ℕ → List ℕ → List ℕ
placed n [] = n ∷ []
placed n (m ∷ ms) = if nat_le n m then n ∷ m ∷ ms else m ∷ placed n ms

-- numbers in rising order
abbrev pub rising : List ℕ → List ℕ
rising [] = []
rising (n ∷ ns) = placed n (rising ns)

-- those strands in rising order
abbrev pub ready : ℕ → Table → ℕ → Term → List ℕ
ready q h n t = rising (ready_in q h n t)

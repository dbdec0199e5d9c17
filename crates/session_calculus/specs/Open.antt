-- The requests that a term still has to answer, and the calls whose answers it waits for.
use Rattle.std.specs.Prelude.{ℕ, List, [], ◌∷◌, ◌++◌}
use Rattle.session_calculus.specs.Terms.{Term, Strands, done, place, thrown, seq, par, in_scope}
use Rattle.session_calculus.specs.Terms.{exec, fail, wait, dead_wait, prot, no_strands, strand}

abbrev mutual
  -- what a term holds of its requests and of its calls, in order
  pub held : (ℕ → List ℕ) → (ℕ → List ℕ) → Term → List ℕ
  held requests calls (exec m o y t) = requests m ++ held requests calls t
  held requests calls (fail m f t) = requests m ++ held requests calls t
  held requests calls (wait k port op x list) = calls k
  held requests calls (dead_wait k port op list) = calls k
  held requests calls (seq t rest) = held requests calls t
  held requests calls (par ts) = held_among requests calls ts
  held requests calls (in_scope q t h u) = held requests calls t
  held requests calls (prot t) = held requests calls t
  held requests calls done = []
  held requests calls (place p) = []
  held requests calls (thrown f) = []

  -- the same of members
  pub held_among : (ℕ → List ℕ) → (ℕ → List ℕ) → Strands → List ℕ
  held_among requests calls no_strands = []
  held_among requests calls (strand n t ts) = held requests calls t ++ held_among requests calls ts

-- a number alone
abbrev pub only : ℕ → List ℕ
only n = n ∷ []

-- no number
abbrev pub none : ℕ → List ℕ
none n = []

-- the messages of the requests that are being answered, and of those that failed
abbrev pub open_requests : Term → List ℕ
open_requests t = held only none t

-- the calls that wait for an answer, those that were killed too
abbrev pub waiting : Term → List ℕ
waiting t = held none only t

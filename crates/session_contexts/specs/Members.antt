-- One member of a parallel, and all others.
use Rattle.std.specs.Prelude.{◌≡◌, ℕ, true, false}
use Rattle.session_calculus.specs.Terms.{Term, Strands, no_strands, strand, stands_in}
use Rattle.session_calculus.specs.Start.{begun, normal, normal_members}

-- a form in normal form: it stays, and draws no number
abbrev pub IsNormal : Term → Type 0
IsNormal t = (n : ℕ) → normal t n ≡ begun t n

-- members in normal form
abbrev pub AreNormal : Strands → Type 0
AreNormal ts = (n : ℕ) → normal_members ts n ≡ begun ts n

-- the members with form t in place of that in which strand n stands
abbrev pub with_member : ℕ → Term → Strands → Strands
with_member n t no_strands = no_strands
with_member n t (strand k u ts) = elim (stands_in n k u) [ true ↦ strand k t ts | false ↦ strand k u (with_member n t ts) ]

-- all members but that one are in normal form
abbrev pub OthersAreNormal : ℕ → Strands → Type 0
OthersAreNormal n no_strands = Unit {0}
OthersAreNormal n (strand k u ts) = elim (stands_in n k u) [ true ↦ AreNormal ts | false ↦ IsNormal u × OthersAreNormal n ts ]

-- strand n stands in one of the members
abbrev pub HasMember : ℕ → Strands → Type 0
HasMember n no_strands = ⊥
HasMember n (strand k u ts) = elim (stands_in n k u) [ true ↦ Unit {0} | false ↦ HasMember n ts ]

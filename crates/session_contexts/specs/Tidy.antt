-- Forms in which nothing is said twice: no head without rests is a sequence, and what is done or is kept already is not
-- kept once more.
use Rattle.session_calculus.specs.Terms.{Term, Strands, seq, par, in_scope, exec, fail, prot, no_strands, strand, seq_of, prot_of}
use Rattle.session_calculus.specs.Moves.{Move, moved_to}
use Rattle.session_calculus.specs.Throw.{Carried, surrounded}

abbrev mutual
  -- a form, said so
  pub tidy : Term → Term
  tidy (seq t ps) = seq_of (tidy t) ps
  tidy (par ts) = par (tidy_members ts)
  tidy (in_scope q t h u) = in_scope q (tidy t) h u
  tidy (exec m o y t) = exec m o y (tidy t)
  tidy (fail m f t) = fail m f (tidy t)
  tidy (prot t) = prot_of (tidy t)
  tidy t = t

  -- members, said so
  pub tidy_members : Strands → Strands
  tidy_members no_strands = no_strands
  tidy_members (strand n t ts) = strand n (tidy t) (tidy_members ts)

-- what an event made, with its form said so
abbrev pub tidied : Move Term → Move Term
tidied m = moved_to (tidy m.form) m.made

-- where a fault has come to, with the form said so
abbrev pub tidied_fault : Carried Term → Carried Term
tidied_fault c = surrounded tidy tidy c

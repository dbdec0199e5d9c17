-- What is left of a form that a fault beside it ends.
use Rattle.behaviour_tree.specs.Data.{no_procs}
use Rattle.session_calculus.specs.Terms.{Fault, Term, Strands, done, place, thrown, seq, par, in_scope, exec, fail, wait}
use Rattle.session_calculus.specs.Terms.{dead_wait, prot, no_strands, strand, live, caught, term, last, zombie, seq_of}

abbrev mutual
  -- a form that fault f kills
  pub kill : Fault → Term → Term
  -- a sequence drops its rests, and each member of a parallel is killed
  kill f (seq t rest) = seq_of (kill f t) no_procs
  kill f (par ts) = par (kill_members f ts)
  -- a scope that is about to end may end; any other is to run its termination handler, unless it came to that before
  kill f (in_scope q done h live) = prot (in_scope q done h live)
  kill f (in_scope q t h live) = prot (in_scope q (kill f t) h term)
  kill f (in_scope q t h (caught g)) = prot (in_scope q (kill f t) h term)
  kill f (in_scope q t h term) = prot (in_scope q t h term)
  kill f (in_scope q t h last) = prot (in_scope q t h last)
  kill f (in_scope q t h zombie) = prot (in_scope q t h zombie)
  -- a request fails by the fault, and one that failed before by the fault that it has
  kill f (exec m o y t) = prot (fail m f (kill f t))
  kill f (fail m g t) = prot (fail m g t)
  -- a call goes on waiting, for its handlers alone
  kill f (wait k port op x list) = prot (dead_wait k port op list)
  kill f (dead_wait k port op list) = prot (dead_wait k port op list)
  -- what no fault ends any more stays, and nothing is left of a form that acts
  kill f (prot t) = prot t
  kill f (place p) = done
  kill f (thrown g) = done
  kill f done = done

  -- members that fault f kills
  pub kill_members : Fault → Strands → Strands
  kill_members f no_strands = no_strands
  kill_members f (strand n t ts) = strand n (kill f t) (kill_members f ts)

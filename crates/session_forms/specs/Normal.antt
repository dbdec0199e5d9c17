-- Normal form of a form whose parts are in normal form.
use Rattle.std.specs.Prelude.{Bool, true, false}
use Rattle.session_calculus.specs.Terms.{Term, seq, par, in_scope, prot, State, last, zombie, seq_of, par_of, prot_of, scope_of}

-- a form whose parts are in normal form, and whose head is not done, brought to normal form
abbrev pub tidied : Term → Term
tidied (seq t ps) = seq_of t ps
tidied (par ts) = par_of ts
tidied (in_scope q t h u) = scope_of q t h u
tidied (prot t) = prot_of t
tidied t = t

-- whether a scope in a state is through once its body is done
abbrev pub is_over : State → Bool
is_over last = true
is_over zombie = true
is_over u = false

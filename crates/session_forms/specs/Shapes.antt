-- What is told of a form by its outermost shape.
use Rattle.std.specs.Prelude.{Bool, true, false}
use Rattle.session_calculus.specs.Terms.{Term, seq, prot}

-- whether no fault ends a form any more
abbrev pub is_prot : Term → Bool
is_prot (prot t) = true
is_prot t = false

-- the head of a sequence, and what is protected; any other form is itself
abbrev pub inner_of : Term → Term
inner_of (seq t rest) = t
inner_of (prot t) = t
inner_of t = t

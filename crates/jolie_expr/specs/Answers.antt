-- What a call that evaluates answers.
use Rattle.std.specs.Prelude.{◌≡◌, Option, None, Some, Result, Ok, Err}
use Rattle.std.specs.Borrow.{Bor}
use Rattle.std.specs.Option.{option_copied}
use Rattle.jolie_trees.specs.Data.{Tree}
use Rattle.jolie_expr.specs.declared.eval_error.EvalError.{EvalError}
use Rattle.jolie_expr.specs.declared.eval_error.EvalError.TheVariants.{ExprFault, Memory}

-- the value exactly where there is one, and ExprFault exactly where there is none; want of memory is free
abbrev pub Answers : {A : Type 0} → Option A → Result A EvalError → Type 0
Answers v (Ok a) = v ≡ Some a
Answers v (Err ExprFault) = v ≡ None
Answers v (Err (Memory cause)) = Unit {0}

-- the node that is lent, if it is there, as the value above
abbrev pub Finds : Option (Option Tree) → Result (Option (Bor Tree)) EvalError → Type 0
Finds v (Ok node) = v ≡ Some (option_copied node)
Finds v (Err e) = Answers v (Err e)

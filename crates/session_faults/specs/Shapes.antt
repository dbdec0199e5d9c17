-- What a fault does to a form by its outermost shape.
use Rattle.std.specs.Prelude.{Bool, true, false}
use Rattle.session_calculus.specs.Terms.{Fault, Term, done, exec, fail, wait, dead_wait, State, live, caught}

-- a killed scope with this body and in this state is to run its termination handler
abbrev pub terminates : Term → State → Bool
terminates done live = false
terminates t live = true
terminates t (caught g) = true
terminates t u = false

-- a scope with this body and in this state is about to end
abbrev pub may_end : Term → State → Bool
may_end done live = true
may_end t u = false

-- the body of a request becomes a failed request; any other form stays
abbrev pub failed : Fault → Term → Term
failed f (exec m o y t) = fail m f t
failed f t = t

-- a call that waits goes on for its handlers alone; any other form stays
abbrev pub unanswered : Term → Term
unanswered (wait k port op x list) = dead_wait k port op list
unanswered t = t

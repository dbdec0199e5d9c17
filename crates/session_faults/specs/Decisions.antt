-- Where a fault has come to, by a decision and what is left.
use Rattle.std.specs.Prelude.{Bool, true, false}
use Rattle.session_calculus.specs.Terms.{Fault, Term, in_scope}
use Rattle.session_calculus.specs.Throw.{Carried, up, caught_at, ended_at, blocked, absent, surrounded, at_scope}
use Rattle.session_faults.specs.declared.decision.Decision.{Decision}
use Rattle.session_faults.specs.declared.decision.Decision.TheVariants.{Up, Caught, Ended, Blocked, Absent}

-- a decision with what is left; where the fault is blocked or has no place, nothing is said of that
abbrev pub carried_by : {A : Type 0} → Decision → A → Carried A
carried_by Up t = up t
carried_by (Caught q) t = caught_at t q
carried_by (Ended q) t = ended_at t q
carried_by (Blocked n) t = blocked n
carried_by Absent t = absent

-- whether the fault goes on upward
abbrev pub is_up : Decision → Bool
is_up Up = true
is_up d = false

-- the decision alone, as the definitions say it
abbrev pub decision_view : Decision → Carried (Unit {0})
decision_view d = carried_by d tt

-- where a fault has come to, without what is left
abbrev pub decided : {A : Type 0} → Carried A → Carried (Unit {0})
decided c = surrounded (λ t. tt) (λ t. tt) c

-- a fault comes to a form from the body of that form, if it is a scope
abbrev pub arrived : Fault → Term → Carried Term
arrived f (in_scope q t h u) = at_scope q h u f t
arrived f t = absent

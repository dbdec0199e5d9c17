-- The ways of the office as the definitions have them, and what it is asked for.
use Rattle.std.specs.Prelude.{◌≡◌, ℕ, Bool, if◌then◌else◌, List, drop, nat_eq, Some, slice_get, Result, Ok, Err}
use Rattle.behaviour_tree.specs.declared.words.Reason.{Reason}
use Rattle.behaviour_tree.specs.Operations.{operation_at}
use Rattle.office_core.specs.declared.post.PostReply.{PostReply}
use Rattle.office_core.specs.declared.post.PostReply.TheVariants as answer
use Rattle.office_core.specs.declared.outgoing.OutKind.{OutKind}
use Rattle.office_core.specs.Calls.{same_kind}
use Rattle.office_core.specs.Limits.{Setting}
use Rattle.office_core.specs.Route as route
use Rattle.office_plain.specs.declared.kept.SessionRow.{SessionRow}
use Rattle.office_plain.specs.declared.route.Way.{Way}
use Rattle.office_plain.specs.declared.route.Way.TheVariants.{Session, New, Refused}

-- a way
abbrev pub way_view : Way → route.Way
way_view (Session s) = route.to_session s
way_view New = route.to_new
way_view (Refused why) = route.refused_for why

-- the number of a message, or why it was refused, as a post answers it
abbrev pub replied_as : Result ℕ Reason → PostReply
replied_as (Ok n) = answer.Accepted n
replied_as (Err why) = answer.Refused why

-- a message asks for an operation of a service of the program
pub record IsAsked (w : Setting) (a : route.Asked) : Type 0 where
  pub service : slice_get w.parts.services a.number ≡ Some a.service
  pub operation : operation_at w.parts a.number a.op ≡ Some a.operation

-- a session is of a service
abbrev pub is_of : ℕ → SessionRow → Bool
is_of d row = nat_eq row.service d

-- a queue once the call that waits first in that of a kind was fetched
abbrev pub queue_after : OutKind → OutKind → List ℕ → List ℕ
queue_after queue kind ps = if same_kind queue kind then drop 1 ps else ps

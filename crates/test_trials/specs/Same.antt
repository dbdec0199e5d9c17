-- Whether two values, outcomes or replies are the very same.
use Rattle.std.specs.Prelude.{Bool, true, false, ◌&&◌, nat_eq, bytes_eq}
use Rattle.std.specs.Ordering.{int_eq}
use Rattle.jolie_trees.specs.declared.root.Root.{Root}
use Rattle.jolie_trees.specs.declared.root.Root.TheVariants as root
use Rattle.jolie_trees.specs.Data.{Tree, node, Fields, no_fields, field, Trees, no_trees, tree}
use Rattle.behaviour_tree.specs.declared.words.Outcome.{Outcome}
use Rattle.behaviour_tree.specs.declared.words.Outcome.TheVariants as outcome
use Rattle.behaviour_tree.specs.declared.words.Reason.{Reason}
use Rattle.behaviour_tree.specs.declared.words.Reason.TheVariants as reason
use Rattle.correlation.specs.declared.bind_reply.BindReply.{BindReply}
use Rattle.correlation.specs.declared.bind_reply.BindReply.TheVariants as binding
use Rattle.office_core.specs.declared.post.PostReply.{PostReply}
use Rattle.office_core.specs.declared.post.PostReply.TheVariants as answer
use Rattle.office_core.specs.declared.history.Placed.{Placed}
use Rattle.office_core.specs.declared.history.Placed.TheVariants as at
use Rattle.office_core.specs.declared.history.Act.{Act}
use Rattle.office_core.specs.declared.history.Act.TheVariants as act

-- the same Boolean
abbrev pub same_bool : Bool → Bool → Bool
same_bool true true = true
same_bool false false = true
same_bool a b = false

-- the same root
abbrev pub same_root : Root → Root → Bool
same_root root.Void root.Void = true
same_root (root.Bool a) (root.Bool b) = same_bool a b
same_root (root.Int a) (root.Int b) = int_eq a b
same_root (root.Long a) (root.Long b) = int_eq a b
same_root (root.Text a) (root.Text b) = bytes_eq a b
same_root a b = false

abbrev mutual
  -- the same tree
  pub same_tree : Tree → Tree → Bool
  same_tree (node a fs) (node b gs) = same_root a b && same_fields fs gs

  -- the same children
  pub same_fields : Fields → Fields → Bool
  same_fields no_fields no_fields = true
  same_fields (field m ts fs) (field n us gs) = bytes_eq m n && same_trees ts us && same_fields fs gs
  same_fields fs gs = false

  -- the same vector
  pub same_trees : Trees → Trees → Bool
  same_trees no_trees no_trees = true
  same_trees (tree t ts) (tree u us) = same_tree t u && same_trees ts us
  same_trees ts us = false

-- the same reason
abbrev pub same_reason : Reason → Reason → Bool
same_reason reason.UnknownOperation reason.UnknownOperation = true
same_reason reason.NotConforming reason.NotConforming = true
same_reason reason.Correlation reason.Correlation = true
same_reason reason.BoxFull reason.BoxFull = true
same_reason reason.RunFull reason.RunFull = true
same_reason reason.Stopped reason.Stopped = true
same_reason reason.SessionEnded reason.SessionEnded = true
same_reason (reason.Other a) (reason.Other b) = int_eq a b
same_reason a b = false

-- the same outcome
abbrev pub same_outcome : Outcome → Outcome → Bool
same_outcome (outcome.Value t) (outcome.Value u) = same_tree t u
same_outcome (outcome.Fault f t) (outcome.Fault g u) = bytes_eq f g && same_tree t u
same_outcome (outcome.Refused a) (outcome.Refused b) = same_reason a b
same_outcome a b = false

-- the same answer of a post
abbrev pub same_post_reply : PostReply → PostReply → Bool
same_post_reply (answer.Accepted m) (answer.Accepted n) = nat_eq m n
same_post_reply (answer.Refused a) (answer.Refused b) = same_reason a b
same_post_reply a b = false

-- the same place of a send
abbrev pub same_placed : Placed → Placed → Bool
same_placed (at.At m) (at.At n) = nat_eq m n
same_placed (at.Refused a) (at.Refused b) = same_reason a b
same_placed at.Out at.Out = true
same_placed a b = false

-- the same answer of a bind
abbrev pub same_binding : BindReply → BindReply → Bool
same_binding binding.Bound binding.Bound = true
same_binding (binding.Held s) (binding.Held t) = nat_eq s t
same_binding binding.Fixed binding.Fixed = true
same_binding a b = false

-- the same reply, of two calls that ask the same
abbrev pub same_reply : Act → Act → Bool
same_reply (act.Post j i q r) (act.Post k l p s) = same_post_reply r s
same_reply (act.Adopt d) (act.Adopt e) = nat_eq d e
same_reply (act.Take m) (act.Take n) = nat_eq m n
same_reply (act.Bind v x r) (act.Bind u y s) = same_binding r s
same_reply (act.Reply m o) (act.Reply n p) = true
same_reply (act.Send k p o v w r) (act.Send l q u x y s) = same_placed r s
same_reply (act.Answer k o) (act.Answer l p) = same_outcome o p
same_reply act.End act.End = true
same_reply (act.Collect m o) (act.Collect n p) = same_outcome o p
same_reply (act.Fetch s k) (act.Fetch t l) = nat_eq s t && nat_eq k l
same_reply (act.Answered s k o) (act.Answered t l p) = true
same_reply act.Close act.Close = true
same_reply act.Stop act.Stop = true
same_reply a b = false

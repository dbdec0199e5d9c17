-- What the office answers where a session binds a correlation variable.
use Rattle.std.specs.Prelude.{ℕ, Bool, true, false, List, [], map, nat_eq, if◌then◌else◌, Option, None, Some, is_some}
use Rattle.std.specs.Prelude.{option_and_then, slice_get}
use Rattle.std.specs.List.{list_any, filter, filter_map}
use Rattle.jolie_trees.specs.declared.root.Root.{Root}
use Rattle.correlation.specs.declared.bind_reply.BindReply.{BindReply}
use Rattle.correlation.specs.declared.bind_reply.BindReply.TheVariants as reply
use Rattle.office_core.specs.Limits.{Setting}
use Rattle.office_core.specs.Past.{Past}
use Rattle.office_core.specs.Keys.{first, all_there, Variable, sets_of, written, holder}

-- a binding: the session and its service, the variable and the value
pub record Binding : Type 0 where
  pub session : ℕ
  pub service : ℕ
  pub variable : ℕ
  pub value : Root

-- the sets of a service that have a variable
abbrev pub sets_with : Setting → ℕ → ℕ → List (List Variable)
sets_with w d v = elim (slice_get w.parts.services d) [
  | None ↦ []
  | Some service ↦ filter (λ set. list_any (λ u. nat_eq v u.number) set) (sets_of service)
]

-- a variable of its session was written before
abbrev pub was_written : Setting → Past → Binding → List Variable → Bool
was_written w past b set =
    list_any (λ v. if nat_eq b.variable v.number then is_some (written w past b.session v) else false) set

-- what a variable has once the binding is done
abbrev pub written_then : Setting → Past → Binding → Variable → Option Root
written_then w past b v = if nat_eq b.variable v.number then Some b.value else written w past b.session v

-- the live session that has the key which the binding completes in a set
abbrev pub held_in : Setting → Past → Binding → List Variable → Option ℕ
held_in w past b set =
    option_and_then (holder w past b.service set) (all_there (map (written_then w past b) set))

-- Fixed where the variable was written; else Held where the binding completes a key that a live session has; else Bound
abbrev pub bind_reply : Setting → Past → Binding → BindReply
bind_reply w past b =
    let sets = sets_with w b.service b.variable in
    elim (list_any (was_written w past b) sets) [
      | true ↦ reply.Fixed
      | false ↦ elim (first (filter_map (held_in w past b) sets)) [ None ↦ reply.Bound | Some s ↦ reply.Held s ]
    ]

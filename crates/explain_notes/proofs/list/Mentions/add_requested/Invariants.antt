use Rattle.std.proofs.Common.{◌≡◌, ◌++◌, map, take}
use Rattle.explain_notes.specs.Mentions.{filled_role, in_role_of}
use Rattle.explain_notes.proofs.list.Mentions.add_requested.Given as goal

abbrev pub invariant-loop-mention : goal.invariant-loop-mention
invariant-loop-mention l = l.self ≡ l.initial.self ++ map (in_role_of l.variable filled_role) (take l.mention-index l.inner)

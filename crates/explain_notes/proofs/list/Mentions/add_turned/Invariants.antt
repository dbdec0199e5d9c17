use Rattle.std.proofs.Common.{◌≡◌, ◌++◌, map, take}
use Rattle.explain_notes.specs.Mentions.{in_role, turned_role}
use Rattle.explain_notes.proofs.list.Mentions.add_turned.Given as goal

abbrev pub invariant-loop-mention : goal.invariant-loop-mention
invariant-loop-mention l = l.self ≡ l.initial.self ++ map (in_role turned_role) (take l.mention-index l.inner)

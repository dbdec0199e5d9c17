use Rattle.std.proofs.Common.{◌≡◌, ◌++◌, map, take}
use Rattle.explain_notes.specs.Mentions.{out_of_scope}
use Rattle.explain_notes.proofs.list.Mentions.add_scoped.Given as goal

abbrev pub invariant-loop-mention : goal.invariant-loop-mention
invariant-loop-mention l = l.self ≡ l.initial.self ++ map (out_of_scope l.handled) (take l.mention-index l.inner)

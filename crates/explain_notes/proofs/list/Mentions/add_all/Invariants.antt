use Rattle.std.proofs.Common.{◌≡◌, ◌++◌, take}
use Rattle.explain_notes.proofs.list.Mentions.add_all.Given as goal

abbrev pub invariant-loop-mention : goal.invariant-loop-mention
invariant-loop-mention l = l.self ≡ l.initial.self ++ take l.mention-index l.inner

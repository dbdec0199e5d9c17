use Rattle.std.proofs.Common.{◌≡◌, ◌++◌, drop, false}
use Rattle.explain_notes.specs.Notes.{unanswered_after}
use Rattle.explain_notes.proofs.rules.add_unanswered_after.Given as goal

abbrev pub invariant-loop-mention : goal.invariant-loop-mention
invariant-loop-mention l =
    l.notes.items ++ unanswered_after l.content l.known l.asks (drop l.mention-index l.mentions)
    ≡ l.initial.notes.items ++ unanswered_after l.content l.known false l.mentions

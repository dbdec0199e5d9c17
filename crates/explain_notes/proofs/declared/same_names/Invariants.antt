use Rattle.std.proofs.Common.{◌≡◌, map, take}
use Rattle.explain_notes.proofs.declared.same_names.Given as goal

abbrev pub invariant-loop-text : goal.invariant-loop-text
invariant-loop-text l = l.same ≡ map (λ t. t.now) (take l.text-index l.text-items)

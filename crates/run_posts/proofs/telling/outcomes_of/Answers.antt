-- Call by call: the next outcome stands first among those that are left.
use Rattle.std.proofs.Common.{◌≡◌, ◌∙◌, ◌++◌, [], sym, ap}
use Rattle.std.proofs.lemmas.List.{nil_from_length}
use Rattle.std.specs.Vec.Iter.{into_iter_items}
use Rattle.run_order_laws.proofs.Lists.{append_nil}
use Rattle.run_posts.specs.CallStates.{outcomes_in}
use Rattle.run_posts.proofs.telling.outcomes_of.Goals as goal

pub returns : goal.returns
returns c =
    let at = c.loop-call_state in
    let empty : into_iter_items at.call_state-iterator ≡ [] =
    nil_from_length (into_iter_items at.call_state-iterator) (sym at.invariant.left ∙ c.in-None.ensures.steps.0) in
    sym (append_nil at.outcomes.items) ∙ ap (λ l. at.outcomes.items ++ outcomes_in l) (sym empty)
    ∙ at.invariant.outcomes

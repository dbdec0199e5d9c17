-- What is told of a posting is what is known of its calls.
use Rattle.std.proofs.Common.{◌∙◌}
use Rattle.std.proofs.lemmas.Result.{err_from_is_err_and}
use Rattle.behaviour_tree.specs.PartsView.{parts_of}
use Rattle.run_posts.specs.CallStates.{wait_of}
use Rattle.run_posts.proofs.Expecting.{answer_not_sent, answer_sent}
use Rattle.run_posts.proofs.telling.tell.Goals as goal

pub returns-in_err-outcomes : goal.returns-in_err-outcomes
returns-in_err-outcomes g c =
    let wanting = err_from_is_err_and c.from_residual.result c.from_residual.ensures.1 in
    answer_not_sent (g.F.Front.exchanged (parts_of c.args.program.now)) c.args.front.now (wait_of c.args.posting)
    c.from_residual.result wanting.0 wanting.1

pub returns : goal.returns
returns g c =
    answer_sent (g.F.Front.exchanged (parts_of c.args.program.now)) c.args.front.now c.answer.new.self
    (wait_of c.args.posting)
    c.as_slice.result.now c.answer.result (c.as_slice.ensures.value ∙ c.in_ok-outcomes.ensures) c.answer.ensures.told

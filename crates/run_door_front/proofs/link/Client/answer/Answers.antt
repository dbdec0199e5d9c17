-- The connection is told the text of its request.
use Rattle.std.proofs.Common.{◌≡◌, ◌∷◌, ◌++◌, [], refl, sym, ap, subst, None}
use Rattle.behaviour_tree.specs.PartsView.{parts_of}
use Rattle.conn_future.specs.declared.stage.Stage.TheVariants as Stages
use Rattle.conn_future.specs.Talking.{seen, IsTalking}
use Rattle.run_door_front.specs.Keeping.{ClientTold, stage_at}
use Rattle.run_door_front.specs.AnswerSteps.{told_of, IsTextOf, HasTold}
use Rattle.run_door_front.proofs.Owing.{owing_is, client_told}
use Rattle.run_door_front.proofs.link.Client.answer.Goals as goal

pub give-requires : goal.give-requires
give-requires g c = subst (λ (l : ClientTold). stage_at l ≡ Stages.Owes) (sym c.self.view_is) (owing_is c.requires.0 c.args.self.now c.requires.1).0

pub returns : goal.returns
returns g c = λ place owing.
    let told = g.W.PollWire.told in
    let x = c.self.inside in
    let was : ClientTold = record { service = x.service; seen = seen x.task.kept (told x.task.wire); waits = (told x.task.wire).waits; in_a_row = (told x.task.wire).in_a_row; longest = (told x.task.wire).longest; pending = x.pending } in
    let y = c.give.new.self in
    let now : ClientTold = record { service = x.service; seen = seen y.kept (told y.wire); waits = (told y.wire).waits; in_a_row = (told y.wire).in_a_row; longest = (told y.wire).longest; pending = None } in
    let text = c.in_ok-text.text in
    subst (λ l. HasTold (parts_of c.args.program.now) (told_of place c.args.outcomes.now) l now) c.self.view_is
    (client_told (parts_of c.args.program.now) (told_of place c.args.outcomes.now) text was now
    (subst (λ l. IsTextOf (parts_of c.args.program.now) (told_of place c.args.outcomes.now) l text) (sym c.self.view_is) (c.in_ok-text.ensures place owing))
    (record {
      owing = subst (λ (l : ClientTold). stage_at l ≡ Stages.Owes) (sym c.self.view_is) (owing_is c.requires.0 c.args.self.now c.requires.1).0;
      writes = c.give.ensures.stage;
      talks = λ first bodies texts h.
          subst (λ t. IsTalking first now.seen bodies (texts ++ t ∷ [])) c.in_ok-said.ensures (c.give.ensures.talks first bodies texts h);
    })
    refl refl (ap (λ w. told w) c.give.ensures.wire))

-- What a connection that asks hands out becomes a posting.
use Rattle.std.proofs.Common.{ap, ◌∙◌, refl}
use Rattle.run_door_front.specs.Keeping.{stage_at}
use Rattle.run_door_front.proofs.Handing.{some_asked, owes_asked, asks_asked, answers-so}
use Rattle.run_door_front.proofs.link.Client.ask.Goals as goal

pub unreachable-requires : goal.unreachable-requires
unreachable-requires g c =
    some_asked c.asked.result _ _ c.in-None.is c.asked.ensures.stage (ap stage_at c.self.view_is ∙ c.requires)

pub returns : goal.returns
returns g c =
    answers-so c.args.place _ _ _ c.asked.result c.in-Some.body c.as_slice.result.now c.in_ok-read-in-Some.read
    c.in_ok-posting-in-Some.posting c.in-Some.is c.as_slice.ensures c.in_ok-read-in-Some.ensures c.in_ok-posting-in-Some.ensures c.self.view_is refl refl
    (asks_asked c.asked.result c.in-Some.body _ _ c.in-Some.is c.asked.ensures.stage)
    (owes_asked c.asked.result c.in-Some.body _ _ c.in-Some.is c.asked.ensures.stage)
    (ap (λ w. g.W.PollWire.told w) c.asked.ensures.wire) c.asked.ensures.talks

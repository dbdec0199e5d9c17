-- The text that answers the request of the connection.
use Rattle.std.proofs.Common.{◌≡◌, sym, ap, ◌∙◌, subst, IfOk}
use Rattle.behaviour_tree.specs.PartsView.{parts_of}
use Rattle.jsonrpc_postings.specs.Told.{came_for, response_told}
use Rattle.run_door_front.specs.Keeping.{ClientTold}
use Rattle.run_door_front.proofs.Owing.{owing_some, text_is}
use Rattle.run_door_front.proofs.link.Client.text_of.Goals as goal

pub unreachable-requires : goal.unreachable-requires
unreachable-requires g c = owing_some c.requires.0 c.args.self.now c.requires.1 (ap (λ (l : ClientTold). l.pending) (sym c.self.view_is) ∙ c.in-None.is)

pub returns : goal.returns
returns g c = λ place owing.
    text_is c.response_to.result (parts_of c.args.program.now) place c.args.outcomes.now c.args.self.now c.in-Some.pending
    (ap (λ (l : ClientTold). l.pending) (sym c.self.view_is) ∙ c.in-Some.is) owing
    (subst (λ (l : ClientTold). IfOk c.response_to.result (λ text. text ≡ response_told (parts_of c.args.program.now) (came_for l.service c.in-Some.pending.read) c.args.outcomes.now)) c.self.view_is c.response_to.ensures)

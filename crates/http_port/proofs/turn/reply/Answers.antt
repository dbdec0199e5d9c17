use Rattle.std.proofs.Common.{ℕ, List, sym, subst}
use Rattle.std.specs.Prelude.{IfOk}
use Rattle.std.specs.Io.KnownBytes.{Appends}
use Rattle.http_port.specs.Responses.{response}
use Rattle.http_port.specs.Turns.{turn_behind, Writes, Answers, goes}
use Rattle.http_port.specs.Writing.{IsWritten}
use Rattle.http_port.proofs.turn.reply.Goals as goal

pub returns-in-Text-clause-answers : goal.returns-in-Text-clause-answers
returns-in-Text-clause-answers g c =
    subst (λ said. IfOk c.respond.result (λ turn. (went : List ℕ) × Answers said c.args.close went turn × Appends (g.W.Wire.told c.args.wire.now).written (g.W.Wire.told c.respond.new.wire).written went × IsWritten (g.W.Wire.told c.args.wire.now).calls (g.W.Wire.told c.respond.new.wire).calls went (goes turn)))
    (sym c.in-Text.is)
    (subst (λ text. IfOk c.respond.result (λ turn. (went : List ℕ) × Writes (response 200 text c.args.close) (turn_behind c.args.close) went turn × Appends (g.W.Wire.told c.args.wire.now).written (g.W.Wire.told c.respond.new.wire).written went × IsWritten (g.W.Wire.told c.args.wire.now).calls (g.W.Wire.told c.respond.new.wire).calls went (goes turn)))
    c.as_slice.ensures c.respond.ensures.writes)

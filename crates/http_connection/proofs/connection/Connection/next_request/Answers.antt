-- What is held is handed out, or what comes.
use Rattle.std.proofs.Common.{refl, sym, ◌∙◌, ◌++◌, List, ℕ}
use Rattle.std.specs.Prelude.{Option}
use Rattle.std.proofs.lemmas.Result.{err_from_is_err_and}
use Rattle.http_connection.specs.Seen.{seen}
use Rattle.http_connection.specs.Talking.{log, IsTalking, handed}
use Rattle.http_connection.proofs.Passing.{hands_out, stands_then, at_error, waits_where, may_hand_out}
use Rattle.http_connection.proofs.Calls.{called_nothing, called_on, is_prompt}
use Rattle.http_connection.specs.Stages.{stage_of}
use Rattle.http_connection.proofs.Ends.{asked_unended, ended_before}
use Rattle.http_connection.proofs.connection.Connection.next_request.Goals as goal

pub returns-then-not-waits-clause-talks : goal.returns-then-not-waits-clause-talks
returns-then-not-waits-clause-talks g c = λ first bodies texts h.
    hands_out first (seen c.args.self.now.kept (g.W.Wire.told c.args.self.now.wire)) (seen c.hand_out.new.self (g.W.Wire.told c.args.self.now.wire)) bodies texts c.hand_out.result h c.hand_out.ensures.handed
    (record { line = refl; read = c.hand_out.ensures.read; written = c.hand_out.ensures.written }) c.hand_out.ensures.reader

pub returns-then-not-waits-clause-stage : goal.returns-then-not-waits-clause-stage
returns-then-not-waits-clause-stage g c = stands_then c.args.self.now.kept.next c.hand_out.new.self.next c.hand_out.result c.hand_out.ensures.handed

pub hand_out-requires : goal.hand_out-requires
hand_out-requires g c = may_hand_out c.args.self.now.kept.next c.requires (sym c.waits.ensures ∙ c.if-not-waits.true)

pub settle-requires : goal.settle-requires
settle-requires g c = waits_where c.args.self.now.kept.next (sym c.waits.ensures ∙ c.if-not-waits.false)

pub returns-in_err-settle-clause-talks : goal.returns-in_err-settle-clause-talks
returns-in_err-settle-clause-talks g c = λ first bodies texts h.
    let wanting = err_from_is_err_and c.from_residual.result c.from_residual.ensures.1 in
    let now = seen c.settle.new.kept (g.W.Wire.told c.settle.new.wire) in
    at_error c.from_residual.result (λ (came : Option (List ℕ)). IsTalking first now (bodies ++ handed came) texts) (λ _. IsTalking first now bodies texts) wanting.0 wanting.1
    (c.in_err-settle.ensures.talks first bodies texts h)

pub returns-clause-talks : goal.returns-clause-talks
returns-clause-talks g c = λ first bodies texts h.
    hands_out first (seen c.settle.new.kept (g.W.Wire.told c.settle.new.wire)) (seen c.hand_out-2.new.self (g.W.Wire.told c.settle.new.wire)) bodies texts c.hand_out-2.result
    (c.in_ok-settle.ensures.talks first bodies texts h) c.hand_out-2.ensures.handed
    (record { line = refl; read = c.hand_out-2.ensures.read; written = c.hand_out-2.ensures.written }) c.hand_out-2.ensures.reader

pub returns-clause-stage : goal.returns-clause-stage
returns-clause-stage g c = stands_then c.settle.new.kept.next c.hand_out-2.new.self.next c.hand_out-2.result c.hand_out-2.ensures.handed

pub returns-then-not-waits-clause-prompt : goal.returns-then-not-waits-clause-prompt
returns-then-not-waits-clause-prompt g c = λ first bodies texts h.
    is_prompt (g.W.Wire.told c.args.self.now.wire).calls (g.W.Wire.told c.args.self.now.wire).calls (log c.args.self.now.kept.read.items c.args.self.now.kept.written.items bodies texts) (log c.hand_out.new.self.read.items c.hand_out.new.self.written.items bodies texts) (called_nothing (g.W.Wire.told c.args.self.now.wire).calls (g.W.Wire.told c.args.self.now.wire).calls (log c.args.self.now.kept.read.items c.args.self.now.kept.written.items bodies texts) (log c.hand_out.new.self.read.items c.hand_out.new.self.written.items bodies texts) refl c.hand_out.ensures.read c.hand_out.ensures.written)

pub returns-in_err-settle-clause-prompt : goal.returns-in_err-settle-clause-prompt
returns-in_err-settle-clause-prompt g c = λ first bodies texts h.
    is_prompt (g.W.Wire.told c.args.self.now.wire).calls (g.W.Wire.told c.settle.new.wire).calls (log c.args.self.now.kept.read.items c.args.self.now.kept.written.items bodies texts) (log c.settle.new.kept.read.items c.settle.new.kept.written.items bodies texts) (c.in_err-settle.ensures.called first bodies texts h)

pub returns-clause-prompt : goal.returns-clause-prompt
returns-clause-prompt g c = λ first bodies texts h.
    is_prompt (g.W.Wire.told c.args.self.now.wire).calls (g.W.Wire.told c.settle.new.wire).calls (log c.args.self.now.kept.read.items c.args.self.now.kept.written.items bodies texts) (log c.hand_out-2.new.self.read.items c.hand_out-2.new.self.written.items bodies texts)
    (called_on (g.W.Wire.told c.args.self.now.wire).calls (g.W.Wire.told c.settle.new.wire).calls (g.W.Wire.told c.settle.new.wire).calls (log c.args.self.now.kept.read.items c.args.self.now.kept.written.items bodies texts) (log c.settle.new.kept.read.items c.settle.new.kept.written.items bodies texts) (log c.hand_out-2.new.self.read.items c.hand_out-2.new.self.written.items bodies texts) refl refl (c.in_ok-settle.ensures.called first bodies texts h)
    (called_nothing (g.W.Wire.told c.settle.new.wire).calls (g.W.Wire.told c.settle.new.wire).calls (log c.settle.new.kept.read.items c.settle.new.kept.written.items bodies texts) (log c.hand_out-2.new.self.read.items c.hand_out-2.new.self.written.items bodies texts) refl c.hand_out-2.ensures.read c.hand_out-2.ensures.written))

pub returns-then-not-waits-clause-ended : goal.returns-then-not-waits-clause-ended
returns-then-not-waits-clause-ended g c = λ first bodies texts h o e.
    absurd (asked_unended (stage_of c.args.self.now.kept.next) c.requires (ended_before c.args.self.now.kept.next c.hand_out.new.self.next c.hand_out.result c.hand_out.ensures.handed e))

pub returns-in_err-settle-clause-ended : goal.returns-in_err-settle-clause-ended
returns-in_err-settle-clause-ended g c = λ first bodies texts h. c.in_err-settle.ensures.ended first bodies texts h

pub returns-clause-ended : goal.returns-clause-ended
returns-clause-ended g c = λ first bodies texts h o e.
    c.in_ok-settle.ensures.ended first bodies texts h o (ended_before c.settle.new.kept.next c.hand_out-2.new.self.next c.hand_out-2.result c.hand_out-2.ensures.handed e)

-- Nothing came until a look finds what comes next.
use Rattle.std.proofs.lemmas.Result.{err_from_is_err_and}
use Rattle.run_lines.specs.FrontSteps.{reading, IsIdle, Looks}
use Rattle.run_lines.proofs.Pieces.{at_error, idle-start, idle-trans, comes_nothing, comes_next, further_left}
use Rattle.run_lines.proofs.next_line.next_line.Goals as goal

pub loop-found-init : goal.loop-found-init
loop-found-init g c = idle-start (reading c.args.lines.now (g.S.Source.told c.args.source.now).unread (g.S.Source.told c.args.source.now).faults)

pub loop-found-preserved : goal.loop-found-preserved
loop-found-preserved g c =
    comes_nothing c.in_ok-found.found (reading c.args.lines.now (g.S.Source.told c.args.source.now).unread (g.S.Source.told c.args.source.now).faults)
    (reading c.loop-found.lines (g.S.Source.told c.loop-found.source).unread (g.S.Source.told c.loop-found.source).faults)
    (reading c.look.new.lines (g.S.Source.told c.look.new.source).unread (g.S.Source.told c.look.new.source).faults)
    c.in-None.is c.loop-found.invariant c.in_ok-found.ensures.comes

pub loop-found-smaller : goal.loop-found-smaller
loop-found-smaller g c = further_left c.in_ok-found.found c.loop-found.lines c.look.new.lines c.in-None.is c.look.ensures.within c.in_ok-found.ensures.further

pub returns-in-Some : goal.returns-in-Some
returns-in-Some g c =
    comes_next c.in_ok-found.found c.in-Some.step (reading c.args.lines.now (g.S.Source.told c.args.source.now).unread (g.S.Source.told c.args.source.now).faults)
    (reading c.loop-found.lines (g.S.Source.told c.loop-found.source).unread (g.S.Source.told c.loop-found.source).faults)
    (reading c.look.new.lines (g.S.Source.told c.look.new.source).unread (g.S.Source.told c.look.new.source).faults)
    c.in-Some.is c.loop-found.invariant c.in_ok-found.ensures.comes

pub returns-in_err-found : goal.returns-in_err-found
returns-in_err-found g c =
    let wanting = err_from_is_err_and c.from_residual.result c.from_residual.ensures.1 in
    at_error c.from_residual.result (λ s. Looks s (reading c.args.lines.now (g.S.Source.told c.args.source.now).unread (g.S.Source.told c.args.source.now).faults) (reading c.look.new.lines (g.S.Source.told c.look.new.source).unread (g.S.Source.told c.look.new.source).faults))
    (λ _. IsIdle (reading c.args.lines.now (g.S.Source.told c.args.source.now).unread (g.S.Source.told c.args.source.now).faults) (reading c.look.new.lines (g.S.Source.told c.look.new.source).unread (g.S.Source.told c.look.new.source).faults)) wanting.0 wanting.1
    (idle-trans (reading c.args.lines.now (g.S.Source.told c.args.source.now).unread (g.S.Source.told c.args.source.now).faults)
    (reading c.loop-found.lines (g.S.Source.told c.loop-found.source).unread (g.S.Source.told c.loop-found.source).faults)
    (reading c.look.new.lines (g.S.Source.told c.look.new.source).unread (g.S.Source.told c.look.new.source).faults)
    c.loop-found.invariant c.in_err-found.ensures.comes)

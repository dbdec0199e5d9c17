-- A piece is read behind what is there.
use Rattle.std.proofs.lemmas.Result.{err_from_is_err_and}
use Rattle.run_lines.specs.FrontSteps.{reading, Comes, IsIdle}
use Rattle.run_lines.proofs.Pieces.{at_error, idle-start, piece_comes-as, piece_further, nothing_further}
use Rattle.run_lines.proofs.next_line.read_on.Goals as goal

pub returns-in_err-piece-clause-comes : goal.returns-in_err-piece-clause-comes
returns-in_err-piece-clause-comes g c =
    let wanting = err_from_is_err_and c.from_residual.result c.from_residual.ensures.1 in
    at_error c.from_residual.result (λ s. Comes s (reading c.args.lines.now (g.S.Source.told c.args.source.now).unread (g.S.Source.told c.args.source.now).faults) (reading c.fill.new.self (g.S.Source.told c.fill.new.source).unread (g.S.Source.told c.fill.new.source).faults))
    (λ _. IsIdle (reading c.args.lines.now (g.S.Source.told c.args.source.now).unread (g.S.Source.told c.args.source.now).faults) (reading c.fill.new.self (g.S.Source.told c.fill.new.source).unread (g.S.Source.told c.fill.new.source).faults)) wanting.0 wanting.1
    (rw (c.in_err-piece.ensures.read.0, c.in_err-piece.ensures.read.1) (idle-start (reading c.args.lines.now (g.S.Source.told c.args.source.now).unread (g.S.Source.told c.args.source.now).faults)))

pub returns-clause-comes : goal.returns-clause-comes
returns-clause-comes g c =
    piece_comes-as (reading c.args.lines.now (g.S.Source.told c.args.source.now).unread (g.S.Source.told c.args.source.now).faults)
    (reading c.fill.new.self (g.S.Source.told c.fill.new.source).unread (g.S.Source.told c.fill.new.source).faults)
    c.requires.unended c.requires.ended c.in_ok-piece.ensures.short c.after_piece.result c.in_ok-piece.piece c.after_piece.ensures c.in_ok-piece.ensures.read

pub returns-in_err-piece-clause-further : goal.returns-in_err-piece-clause-further
returns-in_err-piece-clause-further g c =
    let wanting = err_from_is_err_and c.from_residual.result c.from_residual.ensures.1 in
    nothing_further c.from_residual.result wanting.0 c.args.lines.now c.fill.new.self wanting.1

pub returns-clause-further : goal.returns-clause-further
returns-clause-further g c =
    piece_further c.after_piece.result c.in_ok-piece.piece c.args.lines.now c.fill.new.self c.after_piece.ensures c.in_ok-piece.ensures.read.passed
    c.in_ok-piece.ensures.more

-- A sender is noted on the list of a session.
use Rattle.run_cells.proofs.Hearing.{note_kept, note_noted}
use Rattle.run_cells.proofs.news.note.Goals as goal

pub returns-clause-kept : goal.returns-clause-kept
returns-clause-kept c =
    note_kept c.push.result c.args.senders.now.items c.reach.new.senders.items c.args.session c.args.sender
    c.index_mut.result.now c.push.new.self c.in_ok-reach.ensures.kept c.in_ok-reach.ensures.within
    c.index_mut.ensures.value c.push.ensures.ok

pub returns-clause-noted : goal.returns-clause-noted
returns-clause-noted c =
    note_noted c.push.result c.reach.new.senders.items c.args.session c.args.sender c.index_mut.result.now
    c.push.new.self c.in_ok-reach.ensures.within c.push.ensures.ok

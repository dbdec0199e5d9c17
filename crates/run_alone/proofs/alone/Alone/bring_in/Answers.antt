-- What a front brings is taken in, until no more comes.
use Rattle.std.proofs.Common.{◌<◌, ap, length, refl, subst, sym, ◌∙◌}
use Rattle.behaviour_tree.specs.declared.program.Program.{Program}
use Rattle.behaviour_tree.specs.PartsView.{parts_of}
use Rattle.run_sweep.specs.Courses.{stays}
use Rattle.run_alone.proofs.Picking.{goes_both}
use Rattle.run_alone.proofs.Looks.{after_under, asks_so, at_end, at_first, at_move, at_posting, at_wait, unfailed_between, came_as, closes_so, exchanged_under, fewer_move, fewer_posting, fewer_wait, quiet_at, runs_so}
use Rattle.office_core.specs.Limits.{run_of}
use Rattle.run_alone.proofs.Completing.{completed_both}
use Rattle.run_alone.proofs.alone.Alone.bring_in.Goals as goal

pub looks-init : goal.looks-init
looks-init g c = record {
  program = refl;
  budget = refl;
  setting = refl;
  work = c.requires.work;
  between = c.requires.between;
  goes = stays;
  completed = λ first completed. completed;
  passed = λ first before so new passed. (before, so, at_first before passed new);
}

pub next-requires : goal.next-requires
next-requires g c = record {
  some = subst (λ (p : Program). 0 < length (parts_of p).services) (sym (c.program.ensures ∙ c.looks.invariant.program))
      c.requires.some;
}

pub take_in-requires-clause-between : goal.take_in-requires-clause-between
take_in-requires-clause-between g c =
    unfailed_between (asks_so c.looks.self.pendings.postings c.looks.looks c.looks.moves c.looks.unfailed c.halted-halted.result c.may_ask-going.result
    c.postings.result c.postings.ensures c.may_ask-going.ensures c.if-not-going.false).0 c.looks.invariant.between

pub take_in-requires-clause-room : goal.take_in-requires-clause-room
take_in-requires-clause-room g c = (asks_so c.looks.self.pendings.postings c.looks.looks c.looks.moves c.looks.unfailed c.halted-halted.result c.may_ask-going.result
    c.postings.result c.postings.ensures c.may_ask-going.ensures c.if-not-going.false).3

pub looks-preserved-in-Posting : goal.looks-preserved-in-Posting
looks-preserved-in-Posting g c =
    let i = c.looks.invariant in
    let e = c.in_ok-unfailed-in-Posting.ensures in
    let exchanged = g.F.Front.exchanged in
    let parts = parts_of c.args.self.now.cells.program in
    record {
      program = e.program ∙ i.program;
      budget = e.budget ∙ i.budget;
      setting = ap (λ (p : Program). run_of (parts_of p)) e.program ∙ i.setting;
      work = e.work;
      between = e.between;
      goes = goes_both i.goes e.goes;
      completed = completed_both i.setting i.completed e.completed;
      passed = λ first before so new passed.
          let at = i.passed first before so new passed in
          let running = runs_so c.postings.result c.looks.looks c.looks.moves c.looks.unfailed c.halted-halted.result at.0.sent.halted
          (c.halted-halted.ensures parts first at.0 at.1) (sym c.may_ask-going.ensures ∙ c.if-not-going.false) in
          at_posting at.2 (exchanged parts first c.next.new.self) c.in-Posting.posting (exchanged parts first c.take_in.new.front) running
          (came_as exchanged c.looks.front c.next.new.self (ap parts_of (c.program.ensures ∙ i.program)) c.in-Posting.is
          c.in_ok-posting.ensures.came first at.0 at.1 at.2.going running (quiet_at at.2))
          (λ mid is brings.
          after_under exchanged first c.take_in.new.front (ap parts_of i.program)
          (e.passed first mid (exchanged_under exchanged first c.next.new.self mid (sym (ap parts_of i.program)) is) brings));
    }

pub looks-smaller-in-Posting : goal.looks-smaller-in-Posting
looks-smaller-in-Posting g c =
    fewer_posting c.looks.self.pendings.postings c.take_in.new.self.pendings.postings c.looks.looks c.looks.moves
    c.in_ok-unfailed-in-Posting.ensures.count (asks_so c.looks.self.pendings.postings c.looks.looks c.looks.moves c.looks.unfailed c.halted-halted.result c.may_ask-going.result
    c.postings.result c.postings.ensures c.may_ask-going.ensures c.if-not-going.false).3

pub looks-preserved-in-Moved : goal.looks-preserved-in-Moved
looks-preserved-in-Moved g c =
    let i = c.looks.invariant in
    let exchanged = g.F.Front.exchanged in
    let parts = parts_of c.args.self.now.cells.program in
    record {
      program = i.program;
      budget = i.budget;
      setting = i.setting;
      work = i.work;
      between = i.between;
      goes = i.goes;
      completed = i.completed;
      passed = λ first before so new passed.
          let at = i.passed first before so new passed in
          at_move at.2 (exchanged parts first c.next.new.self)
          (asks_so c.looks.self.pendings.postings c.looks.looks c.looks.moves c.looks.unfailed c.halted-halted.result c.may_ask-going.result
          c.postings.result c.postings.ensures c.may_ask-going.ensures c.if-not-going.false).2
          (came_as exchanged c.looks.front c.next.new.self (ap parts_of (c.program.ensures ∙ i.program)) c.in-Moved.is
          c.in_ok-posting.ensures.came first at.0 at.1 at.2.going
          (runs_so c.postings.result c.looks.looks c.looks.moves c.looks.unfailed c.halted-halted.result at.0.sent.halted
          (c.halted-halted.ensures parts first at.0 at.1) (sym c.may_ask-going.ensures ∙ c.if-not-going.false))
          (quiet_at at.2));
    }

pub looks-smaller-in-Moved : goal.looks-smaller-in-Moved
looks-smaller-in-Moved g c =
    fewer_move c.looks.self.pendings.postings c.looks.looks c.looks.moves
    (asks_so c.looks.self.pendings.postings c.looks.looks c.looks.moves c.looks.unfailed c.halted-halted.result c.may_ask-going.result
    c.postings.result c.postings.ensures c.may_ask-going.ensures c.if-not-going.false).2

pub looks-preserved : goal.looks-preserved
looks-preserved g c =
    let i = c.looks.invariant in
    let exchanged = g.F.Front.exchanged in
    let parts = parts_of c.args.self.now.cells.program in
    record {
      program = i.program;
      budget = i.budget;
      setting = i.setting;
      work = i.work;
      between = i.between;
      goes = i.goes;
      completed = i.completed;
      passed = λ first before so new passed.
          let at = i.passed first before so new passed in
          at_wait at.2 (exchanged parts first c.next.new.self)
          (asks_so c.looks.self.pendings.postings c.looks.looks c.looks.moves c.looks.unfailed c.halted-halted.result c.may_ask-going.result
          c.postings.result c.postings.ensures c.may_ask-going.ensures c.if-not-going.false).1
          (came_as exchanged c.looks.front c.next.new.self (ap parts_of (c.program.ensures ∙ i.program)) c.in-NotYet.is
          c.in_ok-posting.ensures.came first at.0 at.1 at.2.going
          (runs_so c.postings.result c.looks.looks c.looks.moves c.looks.unfailed c.halted-halted.result at.0.sent.halted
          (c.halted-halted.ensures parts first at.0 at.1) (sym c.may_ask-going.ensures ∙ c.if-not-going.false))
          (quiet_at at.2));
    }

pub looks-smaller : goal.looks-smaller
looks-smaller g c =
    fewer_wait c.looks.self.pendings.postings c.looks.looks c.looks.moves
    (asks_so c.looks.self.pendings.postings c.looks.looks c.looks.moves c.looks.unfailed c.halted-halted.result c.may_ask-going.result
    c.postings.result c.postings.ensures c.may_ask-going.ensures c.if-not-going.false).1

pub returns-in-End-clause-passed : goal.returns-in-End-clause-passed
returns-in-End-clause-passed g c =
    let i = c.looks.invariant in
    let exchanged = g.F.Front.exchanged in
    let parts = parts_of c.args.self.now.cells.program in
    λ first before so new passed.
    let at = i.passed first before so new passed in
    at_end at.2 (exchanged parts first c.next.new.self)
    (came_as exchanged c.looks.front c.next.new.self (ap parts_of (c.program.ensures ∙ i.program)) c.in-End.is
    c.in_ok-posting.ensures.came first at.0 at.1 at.2.going
    (runs_so c.postings.result c.looks.looks c.looks.moves c.looks.unfailed c.halted-halted.result at.0.sent.halted
    (c.halted-halted.ensures parts first at.0 at.1) (sym c.may_ask-going.ensures ∙ c.if-not-going.false))
    (quiet_at at.2))

pub returns-then-not-going-clause-passed : goal.returns-then-not-going-clause-passed
returns-then-not-going-clause-passed g c =
    let i = c.looks.invariant in
    let parts = parts_of c.args.self.now.cells.program in
    λ first before so new passed.
    closes_so c.halted-halted.result c.may_ask-going.result c.postings.result c.postings.ensures
    (λ d is. c.halted-halted.ensures parts first d is) c.may_ask-going.ensures c.if-not-going.true
    (i.passed first before so new passed)

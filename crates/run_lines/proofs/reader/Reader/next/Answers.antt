-- What is found is received, and what came in stays.
use Rattle.std.proofs.Common.{[], sym, ◌∙◌, refl, length, take}
use Rattle.std.proofs.lemmas.Result.{err_from_is_err_and}
use Rattle.run_theorem.specs.Exchange.{Received}
use Rattle.run_theorem.specs.Calls.{Came}
use Rattle.run_lines.specs.Reading.{input_of, HasReceived}
use Rattle.run_lines.specs.declared.next_line.Step.TheVariants as step
use Rattle.run_lines.specs.FrontSteps.{reading}
use Rattle.run_lines.proofs.Postings.{all_passed, received-ended, looked-unfound, looked-line, looked-last, looked-end, looked-cut, no_longer, longer-by}
use Rattle.run_lines.proofs.Pieces.{at_error, line_there, found_as, fails-unfailed, fails-cut}
use Rattle.run_lines.proofs.reader.Reader.next.Goals as goal

pub returns-then-has_all-clause-came : goal.returns-then-has_all-clause-came
returns-then-has_all-clause-came g c = λ parts first before has_one h yet.
    received-ended first (input_of c.args.self.now.lines c.args.self.now.reads c.args.self.now.over (g.S.Source.told c.args.source.now).unread (g.S.Source.told c.args.source.now).faults) before
    (all_passed c.args.self.now.over (length c.args.self.now.reads) (sym c.has_all.ensures ∙ c.if-has_all.true)) h yet

pub returns-then-has_all-clause-longer : goal.returns-then-has_all-clause-longer
returns-then-has_all-clause-longer g c = no_longer c.args.self.now.reads c.args.self.now.reads refl

pub returns-then-has_all-clause-failed : goal.returns-then-has_all-clause-failed
returns-then-has_all-clause-failed g c = λ count h. h

pub returns-in_err-step-clause-came : goal.returns-in_err-step-clause-came
returns-in_err-step-clause-came g c = λ parts first before has_one h yet.
    let wanting = err_from_is_err_and c.from_residual.result c.from_residual.ensures.1 in
    at_error c.from_residual.result
    (λ w. (x : Received) × HasReceived first (input_of c.next_line.new.lines c.args.self.now.reads c.args.self.now.over (g.S.Source.told c.next_line.new.source).unread (g.S.Source.told c.next_line.new.source).faults) x × Came parts w before x)
    (λ _. HasReceived first (input_of c.next_line.new.lines c.args.self.now.reads c.args.self.now.over (g.S.Source.told c.next_line.new.source).unread (g.S.Source.told c.next_line.new.source).faults) before) wanting.0 wanting.1
    (looked-unfound first c.args.self.now.reads c.args.self.now.over (reading c.args.self.now.lines (g.S.Source.told c.args.source.now).unread (g.S.Source.told c.args.source.now).faults)
    (reading c.next_line.new.lines (g.S.Source.told c.next_line.new.source).unread (g.S.Source.told c.next_line.new.source).faults) before (sym c.has_all.ensures ∙ c.if-has_all.false) h yet c.in_err-step.ensures.0 c.in_err-step.ensures.1)

pub returns-in_err-step-clause-longer : goal.returns-in_err-step-clause-longer
returns-in_err-step-clause-longer g c = no_longer c.args.self.now.reads c.args.self.now.reads refl

pub returns-in_err-step-clause-failed : goal.returns-in_err-step-clause-failed
returns-in_err-step-clause-failed g c = λ count.
    fails-unfailed c.args.self.now.failed c.args.self.now.failed count (g.S.Source.told c.args.source.now).faults (g.S.Source.told c.next_line.new.source).faults refl c.in_err-step.ensures.1

pub give_line-requires : goal.give_line-requires
give_line-requires g c = line_there c.in_ok-step.step c.in-Line.length (reading c.args.self.now.lines (g.S.Source.told c.args.source.now).unread (g.S.Source.told c.args.source.now).faults)
    (reading c.next_line.new.lines (g.S.Source.told c.next_line.new.source).unread (g.S.Source.told c.next_line.new.source).faults) c.in-Line.is c.in_ok-step.ensures

pub returns-in-Line-clause-came : goal.returns-in-Line-clause-came
returns-in-Line-clause-came g c = λ parts first before has_one h yet.
    looked-line first c.args.self.now.reads c.args.self.now.over (reading c.args.self.now.lines (g.S.Source.told c.args.source.now).unread (g.S.Source.told c.args.source.now).faults)
    (reading c.next_line.new.lines (g.S.Source.told c.next_line.new.source).unread (g.S.Source.told c.next_line.new.source).faults) before (sym c.has_all.ensures ∙ c.if-has_all.false) h yet c.in_ok-step.step c.in_ok-step.ensures
    (input_of c.give_line.new.self.lines c.give_line.new.self.reads c.give_line.new.self.over (g.S.Source.told c.next_line.new.source).unread (g.S.Source.told c.next_line.new.source).faults) refl refl
    parts has_one c.in-Line.length c.in-Line.is c.give_line.result c.give_line.ensures.gives c.give_line.ensures.passed c.give_line.ensures.rest
    c.give_line.ensures.over c.give_line.ensures.lines c.give_line.ensures.reads

pub returns-in-Line-clause-longer : goal.returns-in-Line-clause-longer
returns-in-Line-clause-longer g c =
    longer-by c.give_line.result (take c.in-Line.length c.next_line.new.lines.rest) c.args.self.now.reads c.give_line.new.self.reads c.give_line.ensures.gives c.give_line.ensures.reads

pub returns-in-Line-clause-failed : goal.returns-in-Line-clause-failed
returns-in-Line-clause-failed g c = λ count.
    fails-unfailed c.args.self.now.failed c.give_line.new.self.failed count (g.S.Source.told c.args.source.now).faults (g.S.Source.told c.next_line.new.source).faults c.give_line.ensures.failed
    (found_as c.in_ok-step.step (step.Line c.in-Line.length) (reading c.args.self.now.lines (g.S.Source.told c.args.source.now).unread (g.S.Source.told c.args.source.now).faults)
    (reading c.next_line.new.lines (g.S.Source.told c.next_line.new.source).unread (g.S.Source.told c.next_line.new.source).faults) c.in-Line.is c.in_ok-step.ensures).0

pub returns-in-Last-clause-came : goal.returns-in-Last-clause-came
returns-in-Last-clause-came g c = λ parts first before has_one h yet.
    looked-last first c.args.self.now.reads c.args.self.now.over (reading c.args.self.now.lines (g.S.Source.told c.args.source.now).unread (g.S.Source.told c.args.source.now).faults)
    (reading c.next_line.new.lines (g.S.Source.told c.next_line.new.source).unread (g.S.Source.told c.next_line.new.source).faults) before (sym c.has_all.ensures ∙ c.if-has_all.false) h yet c.in_ok-step.step c.in_ok-step.ensures
    (input_of c.give_last.new.self.lines c.give_last.new.self.reads c.give_last.new.self.over (g.S.Source.told c.next_line.new.source).unread (g.S.Source.told c.next_line.new.source).faults) refl refl
    parts has_one c.in-Last.is c.give_last.result c.give_last.ensures.gives c.give_last.ensures.lines c.give_last.ensures.over c.give_last.ensures.still c.give_last.ensures.reads

pub returns-in-Last-clause-longer : goal.returns-in-Last-clause-longer
returns-in-Last-clause-longer g c =
    longer-by c.give_last.result c.next_line.new.lines.rest c.args.self.now.reads c.give_last.new.self.reads c.give_last.ensures.gives c.give_last.ensures.reads

pub returns-in-Last-clause-failed : goal.returns-in-Last-clause-failed
returns-in-Last-clause-failed g c = λ count.
    fails-unfailed c.args.self.now.failed c.give_last.new.self.failed count (g.S.Source.told c.args.source.now).faults (g.S.Source.told c.next_line.new.source).faults c.give_last.ensures.failed
    (found_as c.in_ok-step.step step.Last (reading c.args.self.now.lines (g.S.Source.told c.args.source.now).unread (g.S.Source.told c.args.source.now).faults)
    (reading c.next_line.new.lines (g.S.Source.told c.next_line.new.source).unread (g.S.Source.told c.next_line.new.source).faults) c.in-Last.is c.in_ok-step.ensures).0

pub returns-in-End-clause-came : goal.returns-in-End-clause-came
returns-in-End-clause-came g c = λ parts first before has_one h yet.
    looked-end first c.args.self.now.reads c.args.self.now.over (reading c.args.self.now.lines (g.S.Source.told c.args.source.now).unread (g.S.Source.told c.args.source.now).faults)
    (reading c.next_line.new.lines (g.S.Source.told c.next_line.new.source).unread (g.S.Source.told c.next_line.new.source).faults) before (sym c.has_all.ensures ∙ c.if-has_all.false) h yet c.in_ok-step.step c.in_ok-step.ensures
    (input_of c.end.new.self.lines c.end.new.self.reads c.end.new.self.over (g.S.Source.told c.next_line.new.source).unread (g.S.Source.told c.next_line.new.source).faults) refl refl
    parts c.end.result c.end.ensures.end c.end.ensures.lines c.end.ensures.reads c.end.ensures.over c.in-End.is

pub returns-in-End-clause-longer : goal.returns-in-End-clause-longer
returns-in-End-clause-longer g c = no_longer c.args.self.now.reads c.end.new.self.reads c.end.ensures.reads

pub returns-in-End-clause-failed : goal.returns-in-End-clause-failed
returns-in-End-clause-failed g c = λ count.
    fails-unfailed c.args.self.now.failed c.end.new.self.failed count (g.S.Source.told c.args.source.now).faults (g.S.Source.told c.next_line.new.source).faults c.end.ensures.failed
    (found_as c.in_ok-step.step step.End (reading c.args.self.now.lines (g.S.Source.told c.args.source.now).unread (g.S.Source.told c.args.source.now).faults)
    (reading c.next_line.new.lines (g.S.Source.told c.next_line.new.source).unread (g.S.Source.told c.next_line.new.source).faults) c.in-End.is c.in_ok-step.ensures).0

pub returns-in-Cut-clause-came : goal.returns-in-Cut-clause-came
returns-in-Cut-clause-came g c = λ parts first before has_one h yet.
    looked-cut first c.args.self.now.reads c.args.self.now.over (reading c.args.self.now.lines (g.S.Source.told c.args.source.now).unread (g.S.Source.told c.args.source.now).faults)
    (reading c.next_line.new.lines (g.S.Source.told c.next_line.new.source).unread (g.S.Source.told c.next_line.new.source).faults) before (sym c.has_all.ensures ∙ c.if-has_all.false) h yet c.in_ok-step.step c.in_ok-step.ensures
    (input_of c.end-in-Cut.new.self.lines c.end-in-Cut.new.self.reads c.end-in-Cut.new.self.over (g.S.Source.told c.next_line.new.source).unread (g.S.Source.told c.next_line.new.source).faults) refl refl
    parts c.end-in-Cut.result c.end-in-Cut.ensures.end c.end-in-Cut.ensures.lines c.end-in-Cut.ensures.reads c.end-in-Cut.ensures.over c.in-Cut.is

pub returns-in-Cut-clause-longer : goal.returns-in-Cut-clause-longer
returns-in-Cut-clause-longer g c = no_longer c.args.self.now.reads c.end-in-Cut.new.self.reads c.end-in-Cut.ensures.reads

pub returns-in-Cut-clause-failed : goal.returns-in-Cut-clause-failed
returns-in-Cut-clause-failed g c = λ count.
    fails-cut c.args.self.now.failed c.end-in-Cut.new.self.failed count (g.S.Source.told c.args.source.now).faults (g.S.Source.told c.next_line.new.source).faults c.end-in-Cut.ensures.failed
    (found_as c.in_ok-step.step step.Cut (reading c.args.self.now.lines (g.S.Source.told c.args.source.now).unread (g.S.Source.told c.args.source.now).faults)
    (reading c.next_line.new.lines (g.S.Source.told c.next_line.new.source).unread (g.S.Source.told c.next_line.new.source).faults) c.in-Cut.is c.in_ok-step.ensures).0 c.in_ok-step.ensures.same.grows.later

-- Looking for an end changes nothing.
use Rattle.std.proofs.Common.{ap, sym, subst, ◌∙◌, IfOk, MatchResult}
use Rattle.run_theorem.specs.Split.{IsOpen, split}
use Rattle.run_lines.specs.Passing.{Passing, IsLine}
use Rattle.run_lines.specs.FrontSteps.{reading, Comes, ComesFurther, IsIdle}
use Rattle.run_lines.proofs.next_line.look.Goals as goal

pub line_of-requires-clause-line : goal.line_of-requires-clause-line
line_of-requires-clause-line g c = subst (λ (v : Passing). IsLine c.in-Some.length v.rest) (sym c.find.ensures.same) c.in-Some.ensures.found

pub line_of-requires-clause-ended : goal.line_of-requires-clause-ended
line_of-requires-clause-ended g c = ap (λ (v : Passing). (split v.passed).1) c.find.ensures.same ∙ c.find.ensures.ended

pub read_on-requires-clause-unended : goal.read_on-requires-clause-unended
read_on-requires-clause-unended g c = subst (λ (v : Passing). IsOpen v.rest) (sym c.find.ensures.same) c.in-None.ensures.found

pub read_on-requires-clause-ended : goal.read_on-requires-clause-ended
read_on-requires-clause-ended g c = ap (λ (v : Passing). (split v.passed).1) c.find.ensures.same ∙ c.find.ensures.ended

pub returns-in-Some-clause-comes : goal.returns-in-Some-clause-comes
returns-in-Some-clause-comes g c =
    let left = (g.S.Source.told c.args.source.now).unread in
    let faults = (g.S.Source.told c.args.source.now).faults in
    subst (λ (v : Passing). Comes c.line_of.result (reading v left faults) (reading c.line_of.new.lines left faults)) c.find.ensures.same (c.line_of.ensures.comes left faults)

pub returns-in-None-clause-comes : goal.returns-in-None-clause-comes
returns-in-None-clause-comes g c =
    let left = (g.S.Source.told c.args.source.now).unread in
    let faults = (g.S.Source.told c.args.source.now).faults in
    let now = reading c.read_on.new.lines (g.S.Source.told c.read_on.new.source).unread (g.S.Source.told c.read_on.new.source).faults in
    subst (λ (v : Passing). MatchResult c.read_on.result (λ s. Comes s (reading v left faults) now) (λ _. IsIdle (reading v left faults) now)) c.find.ensures.same c.read_on.ensures.comes

pub returns-in-Some-clause-further : goal.returns-in-Some-clause-further
returns-in-Some-clause-further g c =
    subst (λ (v : Passing). ComesFurther c.line_of.result v c.line_of.new.lines) c.find.ensures.same c.line_of.ensures.further

pub returns-in-None-clause-further : goal.returns-in-None-clause-further
returns-in-None-clause-further g c =
    subst (λ (v : Passing). IfOk c.read_on.result (λ s. ComesFurther s v c.read_on.new.lines)) c.find.ensures.same c.read_on.ensures.further

pub returns-in-Some-clause-within : goal.returns-in-Some-clause-within
returns-in-Some-clause-within g c = c.find.ensures.within

pub returns-in-None-clause-within : goal.returns-in-None-clause-within
returns-in-None-clause-within g c = c.find.ensures.within

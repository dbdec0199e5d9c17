use Rattle.std.proofs.Common.{◌≡◌, false, cond, length, take, sym, ap, ◌∙◌, subst, arith}
use Rattle.std.proofs.lemmas.Bool.{lt-ltb, le-ltb}
use Rattle.std.proofs.lemmas.List.{length-take-le}
use Rattle.http_port.specs.HeadPart.{longest_head, lines, part_length, HoldsScan}
use Rattle.http_port.specs.Rules.{JudgesPart}
use Rattle.http_port.specs.declared.verdict.Verdict.TheVariants.{Pending, Refuses}
use Rattle.http_port.proofs.PartLemmas.{take_min, part_within}
use Rattle.http_port.proofs.JudgeLemmas.{judges_by_part, judges_no_part}
use Rattle.http_port.proofs.verdict.judge.Goals as goal

pub finish-requires : goal.finish-requires
finish-requires c =
    let looked : take c.min.result c.args.bytes.now ≡ take longest_head c.args.bytes.now = ap (λ k. take k c.args.bytes.now) c.min.ensures ∙ take_min longest_head c.args.bytes.now in
    subst (λ bytes. HoldsScan bytes c.args.scan.now) (sym looked) c.requires

pub slice_bounds-judge_part-end : goal.slice_bounds-judge_part-end
slice_bounds-judge_part-end c =
    sym (length-take-le c.in-Some.end (take c.min.result c.args.bytes.now) (part_within _ _ (sym c.in-Some.ensures.length)))

pub returns-in-Some-clause-verdict : goal.returns-in-Some-clause-verdict
returns-in-Some-clause-verdict c =
    let looked : take c.min.result c.args.bytes.now ≡ take longest_head c.args.bytes.now = ap (λ k. take k c.args.bytes.now) c.min.ensures ∙ take_min longest_head c.args.bytes.now in
    judges_by_part c.args.bytes.now c.in-Some.end c.judge_part.result
    (ap (λ bytes. part_length false (lines bytes)) (sym looked) ∙ sym c.in-Some.ensures.length)
    (subst (λ bytes. JudgesPart (take c.in-Some.end bytes) c.judge_part.result) looked c.judge_part.ensures)

pub returns-in-Some-clause-scan : goal.returns-in-Some-clause-scan
returns-in-Some-clause-scan c =
    let looked : take c.min.result c.args.bytes.now ≡ take longest_head c.args.bytes.now = ap (λ k. take k c.args.bytes.now) c.min.ensures ∙ take_min longest_head c.args.bytes.now in
    subst (λ bytes. HoldsScan bytes c.finish.new.self) looked c.finish.ensures.scan

pub returns-in-None-clause-verdict : goal.returns-in-None-clause-verdict
returns-in-None-clause-verdict c =
    let looked : take c.min.result c.args.bytes.now ≡ take longest_head c.args.bytes.now = ap (λ k. take k c.args.bytes.now) c.min.ensures ∙ take_min longest_head c.args.bytes.now in
    judges_no_part c.args.bytes.now Pending
    (ap (λ bytes. part_length false (lines bytes)) (sym looked) ∙ sym c.in-None.ensures.length)
    (sym (ap (λ t. cond t Pending (Refuses 431)) (lt-ltb (length c.args.bytes.now) longest_head (omega arith))))

pub returns-in-None-clause-scan : goal.returns-in-None-clause-scan
returns-in-None-clause-scan c =
    let looked : take c.min.result c.args.bytes.now ≡ take longest_head c.args.bytes.now = ap (λ k. take k c.args.bytes.now) c.min.ensures ∙ take_min longest_head c.args.bytes.now in
    subst (λ bytes. HoldsScan bytes c.finish.new.self) looked c.finish.ensures.scan

pub returns-in-None-2-clause-verdict : goal.returns-in-None-2-clause-verdict
returns-in-None-2-clause-verdict c =
    let looked : take c.min.result c.args.bytes.now ≡ take longest_head c.args.bytes.now = ap (λ k. take k c.args.bytes.now) c.min.ensures ∙ take_min longest_head c.args.bytes.now in
    judges_no_part c.args.bytes.now (Refuses 431)
    (ap (λ bytes. part_length false (lines bytes)) (sym looked) ∙ sym c.in-None.ensures.length)
    (sym (ap (λ t. cond t Pending (Refuses 431)) (le-ltb (length c.args.bytes.now) longest_head (omega arith))))

pub returns-in-None-2-clause-scan : goal.returns-in-None-2-clause-scan
returns-in-None-2-clause-scan c =
    let looked : take c.min.result c.args.bytes.now ≡ take longest_head c.args.bytes.now = ap (λ k. take k c.args.bytes.now) c.min.ensures ∙ take_min longest_head c.args.bytes.now in
    subst (λ bytes. HoldsScan bytes c.finish.new.self) looked c.finish.ensures.scan

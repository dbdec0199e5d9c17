use Rattle.std.proofs.Common.{◌≡◌, false, take, sym, refl, ap, ◌∙◌, subst, arith, inl, inr}
use Rattle.std.proofs.lemmas.List.{length-take-le}
use Rattle.http_port.specs.HeadPart.{longest_head, lines, part_length, HoldsScan}
use Rattle.http_port.proofs.PartLemmas.{take_min, part_within}
use Rattle.http_link.specs.Steps.{Announces}
use Rattle.http_link.proofs.Heads.{head_by_part, never_long}
use Rattle.http_link.proofs.announced.announced_in.Goals as goal

pub finish-requires : goal.finish-requires
finish-requires c =
    let looked : take c.min.result c.args.bytes.now ≡ take longest_head c.args.bytes.now = ap (λ k. take k c.args.bytes.now) c.min.ensures ∙ take_min longest_head c.args.bytes.now in
    subst (λ bytes. HoldsScan bytes c.args.scan.now) (sym looked) c.requires

pub slice_bounds-announced_by-end : goal.slice_bounds-announced_by-end
slice_bounds-announced_by-end c =
    sym (length-take-le c.in-Some.end (take c.min.result c.args.bytes.now) (part_within _ _ (sym c.in-Some.ensures.length)))

pub returns-in-Some-clause-some : goal.returns-in-Some-clause-some
returns-in-Some-clause-some c =
    let looked : take c.min.result c.args.bytes.now ≡ take longest_head c.args.bytes.now = ap (λ k. take k c.args.bytes.now) c.min.ensures ∙ take_min longest_head c.args.bytes.now in
    inl (head_by_part c.args.bytes.now c.in-Some.end c.announced_by.result
    (ap (λ bytes. part_length false (lines bytes)) (sym looked) ∙ sym c.in-Some.ensures.length)
    (subst (λ bytes. Announces (take c.in-Some.end bytes) c.announced_by.result) looked c.announced_by.ensures.announces))

pub returns-in-Some-clause-scan : goal.returns-in-Some-clause-scan
returns-in-Some-clause-scan c =
    let looked : take c.min.result c.args.bytes.now ≡ take longest_head c.args.bytes.now = ap (λ k. take k c.args.bytes.now) c.min.ensures ∙ take_min longest_head c.args.bytes.now in
    subst (λ bytes. HoldsScan bytes c.finish.new.self) looked c.finish.ensures.scan

pub returns-in-None-clause-none : goal.returns-in-None-clause-none
returns-in-None-clause-none c =
    let looked : take c.min.result c.args.bytes.now ≡ take longest_head c.args.bytes.now = ap (λ k. take k c.args.bytes.now) c.min.ensures ∙ take_min longest_head c.args.bytes.now in
    (ap (λ bytes. part_length false (lines bytes)) (sym looked) ∙ sym c.in-None.ensures.length, omega arith)

pub returns-in-None-clause-scan : goal.returns-in-None-clause-scan
returns-in-None-clause-scan c =
    let looked : take c.min.result c.args.bytes.now ≡ take longest_head c.args.bytes.now = ap (λ k. take k c.args.bytes.now) c.min.ensures ∙ take_min longest_head c.args.bytes.now in
    subst (λ bytes. HoldsScan bytes c.finish.new.self) looked c.finish.ensures.scan

pub returns-in-None-2-clause-some : goal.returns-in-None-2-clause-some
returns-in-None-2-clause-some c =
    let looked : take c.min.result c.args.bytes.now ≡ take longest_head c.args.bytes.now = ap (λ k. take k c.args.bytes.now) c.min.ensures ∙ take_min longest_head c.args.bytes.now in
    inr (
      refl,
      never_long c.args.bytes.now false
          (ap (λ bytes. part_length false (lines bytes)) (sym looked) ∙ sym c.in-None-2.ensures.length) (omega arith),
    )

pub returns-in-None-2-clause-scan : goal.returns-in-None-2-clause-scan
returns-in-None-2-clause-scan c =
    let looked : take c.min.result c.args.bytes.now ≡ take longest_head c.args.bytes.now = ap (λ k. take k c.args.bytes.now) c.min.ensures ∙ take_min longest_head c.args.bytes.now in
    subst (λ bytes. HoldsScan bytes c.finish.new.self) looked c.finish.ensures.scan

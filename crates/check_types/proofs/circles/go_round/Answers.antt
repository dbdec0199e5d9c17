use Rattle.std.proofs.Common.{◌≡◌, ◌+◌, ◌<◌, suc, Some, None, length, refl, ap, sym, ◌∙◌, subst, inl, inr, arith}
use Rattle.std.specs.Prelude.{◌⊎◌, option_and_then}
use Rattle.check_types.specs.declared.circles.Mark.TheVariants.{Circle}
use Rattle.check_types.specs.Circles.{KnownOnRound, mark_at, next_place, steps_on}
use Rattle.check_types.proofs.Steps.{leads_before, round_leads_back}
use Rattle.check_types.proofs.Marks.{known_on_round, known_after_round, only_circles_on, start_on_round, start_after_round, unseen_no_more}
use Rattle.check_types.proofs.circles.go_round.Goals as goal

pub loop-step-init : goal.loop-step-init
loop-step-init c = record {
  place_in = c.requires.start_in;
  here = refl;
  known = c.requires.known;
  first = inl refl;
  only = λ p. inl refl;
  counted = omega arith;
}

pub loop-step-preserved : goal.loop-step-preserved
loop-step-preserved c =
    let next = next_place c.args.types.now in
    let marks = c.loop-step.marks in
    let i = c.loop-step.place in
    let start = c.args.start in
    let below : i < length marks = omega arith in
    let on : next i ≡ Some c.in-Some.next = sym c.in-Some.ensures.next in
    let back = round_leads_back next (length c.args.types.now) c.args.round c.loop-step._step start i c.requires.round c.requires.some c.requires.within c.loop-step.invariant.here in
    record {
      place_in = c.in-Some.ensures.within;
      here = ap (λ k. steps_on next k start) (let e : c.loop-step._step + 1 ≡ suc c.loop-step._step = omega arith in e) ∙ ap (option_and_then next) c.loop-step.invariant.here ∙ on;
      known = known_on_round next (length c.args.types.now) marks start i c.in-Some.next below on back c.loop-step.invariant.known;
      first = inr (start_on_round marks start i c.loop-step._step below (λ none. let e : Some start ≡ Some i = ap (λ k. steps_on next k start) (sym none) ∙ c.loop-step.invariant.here in cc) c.loop-step.invariant.first);
      only = only_circles_on c.args.marks.now marks i below c.loop-step.invariant.only;
      counted = let fewer = unseen_no_more marks i below in let before = c.loop-step.invariant.counted in omega arith;
    }

pub returns-in-None : goal.returns-in-None
returns-in-None c =
    let next = next_place c.args.types.now in
    let off : next c.loop-step.place ≡ None = sym c.in-None.ensures.next in
    absurd (leads_before next c.args.round c.loop-step._step c.args.start c.args.start c.requires.round c.loop-step-test.true (ap (option_and_then next) c.loop-step.invariant.here ∙ off))

pub returns : goal.returns
returns c =
    let next = next_place c.args.types.now in
    let start = c.args.start in
    let last : c.loop-step._step ≡ c.args.round = omega arith in
    let here : Some c.loop-step.place ≡ Some start = sym c.loop-step.invariant.here ∙ ap (λ k. steps_on next k start) last ∙ c.requires.round in
    let ended : c.loop-step.place ≡ start = cc in
    let circle = start_after_round c.loop-step.marks start c.args.round c.requires.some (subst (λ k. (k ≡ 0) ⊎ (mark_at c.loop-step.marks start ≡ Circle)) last c.loop-step.invariant.first) in
    record {
      known = known_after_round next (length c.args.types.now) c.loop-step.marks start circle
          (subst (KnownOnRound next (length c.args.types.now) c.loop-step.marks start) ended c.loop-step.invariant.known);
      only = c.loop-step.invariant.only;
      counted = c.loop-step.invariant.counted;
    }

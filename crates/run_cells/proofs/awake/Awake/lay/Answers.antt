-- A number that was found is taken off.
use Rattle.std.proofs.Common.{subst, ℕ, List}
use Rattle.run_cells.specs.Awake.{TakesOff}
use Rattle.run_cells.proofs.Rising.{taken_off, taken_rises}
use Rattle.run_cells.proofs.awake.Awake.lay.Goals as goal

pub invariant_of-self : goal.invariant_of-self
invariant_of-self c =
    taken_rises c.self.inside.numbers.items c.deref.result.now c.args.session c.in-Ok.place c.deref.ensures.value
    c.self.invariant c.in-Ok.ensures.position c.remove.ensures.items

pub returns-in-Ok : goal.returns-in-Ok
returns-in-Ok c = record {
  laid = subst (λ (l : List ℕ). TakesOff c.args.session l c.remove.new.self.items) c.self.view_is
      (taken_off c.self.inside.numbers.items c.deref.result.now c.args.session c.in-Ok.place c.deref.ensures.value
      c.self.invariant c.in-Ok.ensures.position c.remove.ensures.items);
}

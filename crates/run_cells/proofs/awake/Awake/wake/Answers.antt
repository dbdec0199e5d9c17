-- A number that was not found is put where it was looked for.
use Rattle.std.proofs.Common.{subst, ℕ, List}
use Rattle.run_cells.specs.Awake.{PutsOn}
use Rattle.run_cells.proofs.Rising.{put_rises, put_there}
use Rattle.run_cells.proofs.awake.Awake.wake.Goals as goal

pub invariant_of-self-in-Err : goal.invariant_of-self-in-Err
invariant_of-self-in-Err c =
    put_rises c.self.inside.numbers.items c.deref.result.now c.args.session c.in-Err.place c.deref.ensures.value
    c.self.invariant c.in-Err.ensures.position c.insert.result c.insert.ensures.items

pub returns-in_ok-insert-in-Err : goal.returns-in_ok-insert-in-Err
returns-in_ok-insert-in-Err c = record {
  woken = subst (λ (l : List ℕ). PutsOn c.args.session l c.insert.new.self.items) c.self.view_is
      (put_there c.self.inside.numbers.items c.deref.result.now c.args.session c.in-Err.place c.deref.ensures.value
      c.self.invariant c.in-Err.ensures.position c.in_ok-insert-in-Err.ensures.items);
}

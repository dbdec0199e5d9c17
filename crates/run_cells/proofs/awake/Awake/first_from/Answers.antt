-- Where the number is not on the list, what stands where it was looked for is the first from it on.
use Rattle.std.proofs.Common.{ap, slice_get, ◌∙◌, ℕ, List}
use Rattle.run_cells.proofs.Rising.{nothing_next, some_next}
use Rattle.run_cells.proofs.awake.Awake.first_from.Goals as goal

pub returns-in-Err-clause-some : goal.returns-in-Err-clause-some
returns-in-Err-clause-some c =
    some_next c.self.inside.numbers.items c.deref.result.now c.args.number c.in-Err.place c.deref.ensures.value
    c.self.invariant c.in-Err.ensures.position c.number_at.result
    (c.number_at.ensures ∙ ap (λ (l : List ℕ). slice_get l c.in-Err.place) c.as_slice.ensures.value) c.self.view_is

pub returns-in-Err-clause-none : goal.returns-in-Err-clause-none
returns-in-Err-clause-none c =
    nothing_next c.self.inside.numbers.items c.deref.result.now c.args.number c.in-Err.place c.deref.ensures.value
    c.self.invariant c.in-Err.ensures.position c.number_at.result
    (c.number_at.ensures ∙ ap (λ (l : List ℕ). slice_get l c.in-Err.place) c.as_slice.ensures.value) c.self.view_is

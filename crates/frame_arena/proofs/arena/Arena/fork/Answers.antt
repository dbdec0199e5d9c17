use Rattle.std.proofs.Common.{rules, ◌≡◌, ◌+◌, false, List, length, is_ok, refl, sym, ap, subst, ◌∙◌, arith}
use Rattle.std.proofs.lemmas.Bool.{cond-false}
use Rattle.frame_arena.specs.Entries.{Entry, entries, lines_from}
use Rattle.frame_arena.specs.Places.{IsSound}
use Rattle.frame_arena.proofs.Lines.{length_lines}
use Rattle.frame_arena.proofs.Reading.{rising_in, grown_in, parent_in, fork_sound, fork_lines}
use Rattle.frame_arena.proofs.arena.Arena.fork.Goals as goal

pub grow-requires : goal.grow-requires
grow-requires g c =
    let i = c.self.inside in
    omega (arith, c.requires.numbers, ap length c.self.view_is, length_lines (entries i.rows.items) 0 i.next)

pub overflow_add-self : goal.overflow_add-self
overflow_add-self g c =
    let i = c.self.inside in
    omega (arith, c.requires.numbers, ap length c.self.view_is, length_lines (entries i.rows.items) 0 i.next)

pub invariant_of-self : goal.invariant_of-self
invariant_of-self g c =
    subst (λ (es : List (Entry g.row.F.Denot g.row.K.Denot)). IsSound es c.self.inside.next) (sym c.in_err-grow.ensures) c.self.invariant

pub returns-in_err-grow-clause-strands : goal.returns-in_err-grow-clause-strands
returns-in_err-grow-clause-strands g c =
    let failed : is_ok c.from_residual.result ≡ false = search rules in
    ap (λ (es : List (Entry g.row.F.Denot g.row.K.Denot)). lines_from es 0 c.self.inside.next) c.in_err-grow.ensures ∙ c.self.view_is
    ∙ sym (cond-false (is_ok c.from_residual.result) _ _ failed)

pub live_row-place-requires-clause-rising : goal.live_row-place-requires-clause-rising
live_row-place-requires-clause-rising g c =
    let i = c.self.inside in
    let more = c.grow.new.rows.items in
    rising_in more c.deref.result.now (i.next + c.args.count)
    (grown_in i.rows.items more c.args.self.now i.next c.args.strand.number c.args.count c.self.invariant c.self.view_is c.requires.live c.in_ok-grow.ensures)
    c.deref.ensures.value

pub live_row-place-requires-clause-live : goal.live_row-place-requires-clause-live
live_row-place-requires-clause-live g c =
    let i = c.self.inside in
    parent_in i.rows.items c.grow.new.rows.items c.deref.result.now c.args.self.now i.next c.args.strand.number c.args.count
    c.self.invariant c.self.view_is c.requires.live c.in_ok-grow.ensures c.deref.ensures.value

pub invariant_of-self-2 : goal.invariant_of-self-2
invariant_of-self-2 g c =
    let i = c.self.inside in
    fork_sound i.rows.items c.grow.new.rows.items c.deref.result.now c.args.self.now i.next c.args.strand.number c.args.count c.live_row-place.result
    c.index_mut-row.result.now _ c.self.invariant c.self.view_is c.requires.live c.in_ok-grow.ensures c.deref.ensures.value c.live_row-place.ensures.row
    c.index_mut-row.ensures.value refl

pub returns-clause-strands : goal.returns-clause-strands
returns-clause-strands g c =
    let i = c.self.inside in
    fork_lines i.rows.items c.grow.new.rows.items c.deref.result.now c.args.self.now i.next c.args.strand.number c.args.count c.live_row-place.result
    c.index_mut-row.result.now _ c.self.invariant c.self.view_is c.requires.live c.in_ok-grow.ensures c.deref.ensures.value c.live_row-place.ensures.row
    c.index_mut-row.ensures.value refl

pub returns-clause-first : goal.returns-clause-first
returns-clause-first g c =
    let i = c.self.inside in
    sym (length_lines (entries i.rows.items) 0 i.next) ∙ ap length c.self.view_is

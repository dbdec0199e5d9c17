use Rattle.std.proofs.Common.{◌≡◌, ◌+◌, ◌≤◌, ap, arith, drop, length, map, subst, sym, refl, None, Some, ◌∙◌, option_map}
use Rattle.std.specs.Prelude.{slice_get}
use Rattle.std.specs.List.{filter_map, cons_option}
use Rattle.std.proofs.lemmas.List.{length-map}
use Rattle.std.proofs.lemmas.Option.{slice_get-map, slice_get_read}
use Rattle.behaviour_tree.specs.PartsView.{set_view}
use Rattle.correlation.specs.View.{sessions_of}
use Rattle.office_core.specs.Keys.{first, sets_of}
use Rattle.office_core.specs.Route.{named_in, named_session}
use Rattle.office_plain.specs.Views.{asked_view}
use Rattle.office_plain.specs.View.{setting_of, past_in}
use Rattle.office_plain.proofs.Routing.{named_here, named_end, is_none, first_is, lives_if}
use Rattle.office_plain.proofs.office.Office.named_session.Goals as goal

pub sum-number-requires : goal.sum-number-requires
sum-number-requires c =
    let items = c.args.asked.service.now.sets.items in
    let few = c.sets_before-number.ensures.few (asked_view c.args.asked).service c.requires.asked.service in
    omega (
      arith,
      few,
      c.loop-set.invariant.number,
      c.sets_before-number.ensures.count,
      c.loop-set-test.true,
      ap length c.deref-set-items.ensures.value,
      length-map items set_view,
    )

pub loop-set-preserved : goal.loop-set-preserved
loop-set-preserved c =
    let o = c.args.self.now in
    let a = asked_view c.args.asked in
    let i = c.loop-set.set-index in
    let items = c.args.asked.service.now.sets.items in
    let there : slice_get (map set_view items) i ≡ Some (set_view c.set-item.result) =
    ap (λ sets. slice_get (map set_view sets) i) (sym c.deref-set-items.ensures.value)
    ∙ slice_get-map set_view c.deref-set-items.result.now i
    ∙ ap (option_map set_view) (slice_get_read c.deref-set-items.result.now (length c.deref-set-items.result.now) i c.set-item.result refl c.loop-set-test.true c.set-item.is) in
    let rest = filter_map (named_in (setting_of o) (past_in o) a) (drop (i + 1) (sets_of a.service)) in
    let here = named_here (setting_of o) (past_in o) a (sessions_of o.kept.rows) i c.loop-set.number (set_view c.set-item.result) c.in_ok-named.named
    c.requires.asked (o.tied c.requires.ready).keys there c.loop-set.invariant.number c.in_ok-named.ensures c.loop-set.invariant.named in
    let none : c.in_ok-named.named ≡ None = is_none c.in_ok-named.named (sym c.is_some.ensures ∙ c.if-is_some.false) in
    record {
      number = omega (arith, c.sum-number.ensures, c.loop-set.invariant.number);
      named = here ∙ ap (λ x. first (cons_option x rest)) none;
    }

pub returns-then-is_some : goal.returns-then-is_some
returns-then-is_some c =
    let o = c.args.self.now in
    let a = asked_view c.args.asked in
    let i = c.loop-set.set-index in
    let items = c.args.asked.service.now.sets.items in
    let there : slice_get (map set_view items) i ≡ Some (set_view c.set-item.result) =
    ap (λ sets. slice_get (map set_view sets) i) (sym c.deref-set-items.ensures.value)
    ∙ slice_get-map set_view c.deref-set-items.result.now i
    ∙ ap (option_map set_view) (slice_get_read c.deref-set-items.result.now (length c.deref-set-items.result.now) i c.set-item.result refl c.loop-set-test.true c.set-item.is) in
    let rest = filter_map (named_in (setting_of o) (past_in o) a) (drop (i + 1) (sets_of a.service)) in
    let here = named_here (setting_of o) (past_in o) a (sessions_of o.kept.rows) i c.loop-set.number (set_view c.set-item.result) c.in_ok-named.named
    c.requires.asked (o.tied c.requires.ready).keys there c.loop-set.invariant.number c.in_ok-named.ensures c.loop-set.invariant.named in
    let named : c.in_ok-named.named ≡ named_session (setting_of o) (past_in o) a =
    sym (here ∙ first_is c.in_ok-named.named rest (sym c.is_some.ensures ∙ c.if-is_some.true)) in
    record { named = named; lives = lives_if (setting_of o) (past_in o) a c.in_ok-named.named named }

pub returns-clause-named : goal.returns-clause-named
returns-clause-named c =
    let o = c.args.self.now in
    let items = c.args.asked.service.now.sets.items in
    let over : length (map set_view items) ≤ c.loop-set.set-index =
    subst (λ n. n ≤ c.loop-set.set-index) (ap length c.deref-set-items.ensures.value ∙ sym (length-map items set_view)) c.loop-set-test.false in
    sym (c.loop-set.invariant.named ∙ named_end (setting_of o) (past_in o) (asked_view c.args.asked) c.loop-set.set-index over)

use Rattle.std.proofs.Common.{◌+◌, drop, ap, ◌∙◌}
use Rattle.session_calculus.specs.Ready.{rising, ready, ready_among}
use Rattle.handler_table.specs.View.{table_view}
use Rattle.session_forms.specs.View.{members_view, term_view}
use Rattle.session_faults.specs.Least.{first, lesser_of}
use Rattle.session_faults.proofs.Least.{least-goes_on}
use Rattle.session_faults.proofs.ready.+ready.Goals as goal

pub least_among-loop-member-preserved : goal.least_among-loop-member-preserved
least_among-loop-member-preserved t c =
    let q = c.args.installed.now.scope in
    let h = table_view c.args.installed.now.table in
    let xs = c.args.strands.now in
    let i = c.loop-member.member-index in
    let x = c.member-item.result in
    let found = c.least_ready-ready.ensures ∙ ap (λ u. first (ready q h x.number (term_view u))) c.deref.ensures in
    ap (λ o. lesser_of o (first (rising (ready_among q h (members_view (drop (i + 1) xs)))))) c.lesser-least.ensures
    ∙ least-goes_on q h xs i x c.loop-member.least c.least_ready-ready.result c.loop-member-test.true c.member-item.is found
    ∙ c.loop-member.invariant

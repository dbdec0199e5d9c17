use Rattle.std.proofs.Common.{◌≡◌, sym, ◌∙◌, rules}
use Rattle.behaviour_tree.specs.declared.words.Given.TheVariants as given
use Rattle.handler_table.specs.View.{table_view}
use Rattle.session_forms.specs.View.{state_view}
use Rattle.term_session.specs.Turns.{seen_at}
use Rattle.term_session.proofs.Gifts.{own_scope_event}
use Rattle.term_session.proofs.act_here.scope_event.Goals as goal

pub returns-clause-event : goal.returns-clause-event
returns-clause-event c =
    let s = seen_at c.args.turn c.args.around.now c.args.memory.now in
    let nothing : s.gift ≡ given.Nothing = search rules in
    let own = c.args.own.now in
    c.in_ok-scope_acts.ensures.event
    ∙ sym (own_scope_event s own.scope (table_view own.table) (state_view c.args.state.now) nothing)

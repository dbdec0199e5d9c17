-- What a message asks for.
use Rattle.std.proofs.Common.{◌≡◌, rules}
use Rattle.behaviour_tree.specs.declared.behaviour.Behaviour as behaviour
use Rattle.behaviour_tree.specs.Data.{notify, solicit}
use Rattle.behaviour_tree.specs.View.{behaviour_view, expr_view, handlers_view, path_view}
use Rattle.std.specs.Prelude.{option_map}
use Rattle.session_events.proofs.asked.asked_at.Goals as goal

pub returns-in-Notify : goal.returns-in-Notify
returns-in-Notify c =
    let seen : behaviour_view c.args.place.now ≡ notify c.in-Notify.port c.in-Notify.op (expr_view c.in-Notify.value) = search (rules, behaviour.the_lemmas) in
    rw seen c.send_asked.ensures

pub returns-in-Solicit : goal.returns-in-Solicit
returns-in-Solicit c =
    let s = c.in-Solicit in
    let seen : behaviour_view c.args.place.now ≡ solicit s.port s.op (expr_view s.value) (option_map path_view s.target) (handlers_view s.handlers) = search (rules, behaviour.the_lemmas) in
    rw seen c.send_asked-in-Solicit.ensures

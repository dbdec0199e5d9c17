use Rattle.std.proofs.Common.{◌≡◌, rules}
use Rattle.behaviour_tree.specs.Data.{nothing}
use Rattle.behaviour_tree.specs.View.{behaviour_view}
use Rattle.behaviour_tree.specs.declared.behaviour.Behaviour as behaviour
use Rattle.session_forms.specs.Begins.{begun_view}
use Rattle.term_session.proofs.Beginning.{begins_at_once}
use Rattle.term_session.proofs.config.begun.Goals as goal

pub returns-in_ok-begun-in-Nothing : goal.returns-in_ok-begun-in-Nothing
returns-in_ok-begun-in-Nothing c =
    let s = c.args.service.now in
    let first : behaviour_view s.init ≡ nothing = search (rules, behaviour.the_lemmas) in
    begins_at_once (behaviour_view s.init) (behaviour_view s.main) 1 (begun_view c.in_ok-begun-in-Nothing.begun) first c.in_ok-begun-in-Nothing.ensures

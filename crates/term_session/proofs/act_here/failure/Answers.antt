use Rattle.std.proofs.Common.{◌≡◌, Some, ap, sym, ◌∙◌, rules}
use Rattle.behaviour_tree.specs.declared.words.Given.TheVariants as given
use Rattle.session_calculus.specs.Replies.{outcome_of_fault, replies}
use Rattle.session_forms.specs.View.{fault_view, term_view}
use Rattle.term_session.specs.Turns.{seen_at}
use Rattle.term_session.proofs.Gifts.{ungiven_some}
use Rattle.term_session.proofs.act_here.failure.Goals as goal

pub returns-clause-event : goal.returns-clause-event
returns-clause-event c k =
    let s = seen_at c.args.turn c.args.installed.now k in
    let nothing : s.gift ≡ given.Nothing = search rules in
    let outcome = outcome_of_fault s.parts (fault_view c.args.fault.now) in
    ap Some
    (c.in_ok-failure_told.ensures k ∙ ap (λ b. replies s c.args.message outcome (term_view b)) c.replaced-body.ensures.given)
    ∙ sym (ungiven_some s (replies s c.args.message outcome (term_view c.args.body.now.value)) nothing)

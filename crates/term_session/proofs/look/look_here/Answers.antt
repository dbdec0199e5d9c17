use Rattle.std.proofs.Common.{◌≡◌, sym, ap, ◌∙◌, rules}
use Rattle.behaviour_tree.specs.declared.words.Given.TheVariants as given
use Rattle.session_calculus.specs.Moves.{Move}
use Rattle.session_calculus.specs.Terms.{Term, fail}
use Rattle.session_events.specs.Seen.{seen_in}
use Rattle.session_forms.specs.View.{fault_view, term_view}
use Rattle.session_forms.specs.declared.term.Term as term
use Rattle.term_session.specs.Walks.{asking, looks_here}
use Rattle.term_session.proofs.look.look_here.Goals as goal

pub returns-in_ok-told-in-Fail : goal.returns-in_ok-told-in-Fail
returns-in_ok-told-in-Fail c =
    let k = c.args.memory.now in
    let s = seen_in c.args.scene given.Nothing k in
    let f = fault_view c.deref-in-Fail.result.now in
    let seen : term_view c.args.term.now ≡ fail c.in-Fail.message f (term_view c.in-Fail.body.value) = search (rules, term.the_lemmas) in
    ap (λ (m : Move Term). asking m.made.need) (c.in_ok-told-in-Fail.ensures k) ∙ ap (looks_here s) (sym seen)

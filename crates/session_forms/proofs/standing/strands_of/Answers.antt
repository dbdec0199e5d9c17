use Rattle.std.proofs.Common.{◌≡◌, ◌↔◌, true, sym, subst, rules}
use Rattle.std.specs.List.{Contains}
use Rattle.session_calculus.specs.Terms.{stands_in}
use Rattle.session_forms.specs.Standing.{strands_in}
use Rattle.session_forms.specs.View.{term_view}
use Rattle.session_forms.proofs.Listed.{listed}
use Rattle.session_forms.proofs.standing.strands_of.Goals as goal

pub returns-clause-all : goal.returns-clause-all
returns-clause-all c = λ n.
    let term = term_view c.args.term.now in
    let same : c.from_vec.result ≡ strands_in c.args.own term = search rules in
    subst (λ strands. (stands_in n c.args.own term ≡ true) ↔ Contains strands n) (sym same) (listed n c.args.own term)

-- A head with rests is a sequence.
use Rattle.std.proofs.Common.{◌≡◌, ◌∙◌, ap, sym, map, rules}
use Rattle.std.proofs.lemmas.Result.{IfOk-weaker}
use Rattle.behaviour_tree.specs.View.{behaviour_view, procs_of}
use Rattle.session_calculus.specs.Terms.{seq, seq_of}
use Rattle.session_forms.specs.Rests.{rest_items}
use Rattle.session_forms.specs.View.{term_view}
use Rattle.session_forms.specs.declared.term.Term as term
use Rattle.session_forms.proofs.Begins.{seq_of_some}
use Rattle.session_forms.proofs.start.in_sequence.Goals as goal

pub returns : goal.returns
returns c =
    let seen : term_view (term.TheViews.Seq c.args.head c.args.rest) ≡ seq (term_view c.args.head.value) (procs_of (map behaviour_view (rest_items c.args.rest))) = search (rules, term.the_lemmas) in
    let all = seen ∙ sym (seq_of_some (term_view c.args.head.value) (rest_items c.args.rest) (search rules)) in
    IfOk-weaker c.boxed.result (λ t. t.value ≡ term.TheViews.Seq c.args.head c.args.rest) (λ t. term_view t.value ≡ seq_of (term_view c.args.head.value) (procs_of (map behaviour_view (rest_items c.args.rest)))) (λ t h. ap term_view h ∙ all) c.boxed.ensures

use Rattle.std.proofs.Common.{◌≡◌, ◌∙◌, ap, sym, map, rules}
use Rattle.behaviour_tree.specs.View.{behaviour_view, procs_of}
use Rattle.session_calculus.specs.Terms.{seq}
use Rattle.session_forms.specs.Normal.{tidied}
use Rattle.session_forms.specs.Rests.{rest_items}
use Rattle.session_forms.specs.View.{term_view}
use Rattle.session_forms.specs.declared.term.Term as term
use Rattle.session_forms.proofs.Begins.{seq_of_some}
use Rattle.session_forms.proofs.normal.tidy.Goals as goal

pub returns-else-is_empty : goal.returns-else-is_empty
returns-else-is_empty c =
    let rest = rest_items c.in-Seq.rest in
    let seen : term_view c.args.form.now.value ≡ seq (term_view c.in-Seq.head.value) (procs_of (map behaviour_view rest)) = search (rules, term.the_lemmas) in
    seen ∙ sym (seq_of_some (term_view c.in-Seq.head.value) rest (search rules)) ∙ ap tidied (sym seen)

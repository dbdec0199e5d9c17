use Rattle.std.proofs.Common.{◌≡◌, [], ◌∷◌, ◌++◌, refl, ap, ◌∙◌, rules}
use Rattle.behaviour_tree.specs.PartsView.{parts_of}
use Rattle.correlation.specs.Sessions.{are_sets, newborn}
use Rattle.correlation.specs.View.{sessions_of}
use Rattle.office_plain.specs.SetNumbers.{numbered_sets}
use Rattle.office_plain.proofs.SetsDiffer.{sets_differ}
use Rattle.office_plain.proofs.kept.Kept.open_session.Goals as goal

pub birth-requires-clause-sets : goal.birth-requires-clause-sets
birth-requires-clause-sets c =
    let are : c.as_slice.result.now ≡ numbered_sets (parts_of c.args.program.now) c.args.service = search rules in
    ap are_sets are ∙ sets_differ (parts_of c.args.program.now) c.args.service

pub returns : goal.returns
returns c =
    let are : c.as_slice.result.now ≡ numbered_sets (parts_of c.args.program.now) c.args.service = search rules in
    record {
      sessions = search rules;
      places = search rules;
      rows =
          c.in_ok-birth.ensures.ok
          ∙ ap (λ ss. sessions_of c.args.self.now.rows ++ newborn c.args.session ss ∷ []) are;
      others = refl;
    }

use Rattle.std.proofs.Common.{◌≡◌, ◌++◌, flat_map, ap, sym, ◌∙◌, rules}
use Rattle.std.specs.List.{filter_map}
use Rattle.check_base.specs.declared.refusal.CheckName.TheVariants.{DuplicateName}
use Rattle.check_base.specs.Files.{execution_of, is_concurrent, set_in, set_names}
use Rattle.check_base.specs.Least.{joined, refused}
use Rattle.check_base.specs.Repeated.{repeated}
use Rattle.check_ports.specs.SetRules.{set_of_single, set_refused, two_sets}
use Rattle.check_base.proofs.Joined.{joined_four}
use Rattle.check_ports.proofs.set_rules.sets_refused.Goals as goal

pub returns : goal.returns
returns c =
    let types = c.args.types.now in
    let service = c.args.service.now in
    let least = c.args.least.now in
    let clauses = c.as_slice-clauses.result.now in
    let concurrent = is_concurrent (execution_of service) in
    let same : clauses ≡ service.clauses = search rules in
    let named : c.as_slice.result.now ≡ flat_map set_names (filter_map set_in clauses) = search rules in
    c.sets_of_single.ensures
    ∙ ap (λ b. joined c.two_sets.new.least (flat_map (set_of_single b) clauses)) c.is_concurrent.ensures
    ∙ ap (λ p. joined p (flat_map (set_of_single concurrent) clauses)) (c.in_ok-two_sets.ensures
    ∙ ap (λ p. joined p (two_sets (filter_map set_in clauses))) (c.in_ok-each_set_refused.ensures
    ∙ ap (λ p. joined p (flat_map (set_refused types) (filter_map set_in clauses))) (c.in_ok-repeated_refused.ensures
    ∙ ap (λ ns. joined least (refused DuplicateName (repeated ns))) named)))
    ∙ sym (joined_four least (refused DuplicateName (repeated (flat_map set_names (filter_map set_in clauses)))) (flat_map (set_refused types) (filter_map set_in clauses)) (two_sets (filter_map set_in clauses)) (flat_map (set_of_single concurrent) clauses))
    ∙ ap (λ cs. joined least (refused DuplicateName (repeated (flat_map set_names (filter_map set_in cs))) ++ flat_map (set_refused types) (filter_map set_in cs) ++ two_sets (filter_map set_in cs) ++ flat_map (set_of_single concurrent) cs)) same

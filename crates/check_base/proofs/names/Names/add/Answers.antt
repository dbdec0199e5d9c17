use Rattle.std.proofs.Common.{rules, Some, ◌∙◌}
use Rattle.std.proofs.lemmas.Map.Text.{btree_map_updates_str}
use Rattle.std.specs.BTreeMap.{get_by}
use Rattle.std.specs.Cmp.Lexicographic.{slice_cmp}
use Rattle.std.specs.Ordering.{nat_cmp}
use Rattle.check_base.proofs.Lookups.{added_new, added_known}
use Rattle.check_base.proofs.names.Names.add.Goals as goal

pub invariant_of-self-in_default : goal.invariant_of-self-in_default
invariant_of-self-in_default c = λ q.
    btree_map_updates_str c.args.text.now c.self.inside.places c.insert.new.self (Some c.len-place.result) c.in_default.ensures.updates q
    ∙ added_new c.self.inside.texts.items c.push.new.self.items c.args.text c.len-place.result (λ bs. get_by (λ k. slice_cmp nat_cmp bs k.now) c.self.inside.places)
    c.self.invariant (search rules) (search rules) (search rules) q

pub invariant_of-self-else-not-known : goal.invariant_of-self-else-not-known
invariant_of-self-else-not-known c = λ q.
    c.self.invariant q ∙ added_known c.self.inside.texts.items c.push.new.self.items c.args.text (search rules) (search rules) q

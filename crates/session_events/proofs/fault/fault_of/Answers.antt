-- The fault of a place is the same whatever the office gave.
use Rattle.std.proofs.Common.{◌≡◌, ◌∙◌, sym, option_map}
use Rattle.std.proofs.lemmas.Result.{IfOk-weaker}
use Rattle.behaviour_tree.specs.View.{behaviour_view}
use Rattle.behaviour_tree.specs.declared.words.Given.TheVariants as given
use Rattle.session_calculus.specs.Faults as spec
use Rattle.session_forms.specs.View.{fault_view}
use Rattle.session_events.specs.Seen.{seen_by, seen_in}
use Rattle.session_events.proofs.Giftless.{fault_for}
use Rattle.session_events.proofs.fault.fault_of.Goals as goal

pub returns : goal.returns
returns c = λ g.
    let a = c.args.actor in
    let h = c.args.installed.now in
    let m = c.args.memory.now in
    let p = behaviour_view c.args.place.now in
    let same : spec.fault_of (seen_in c.scene_of.result given.Nothing m) p ≡ spec.fault_of (seen_by a g h m) p =
    rw (c.scene_of.ensures.actor, c.scene_of.ensures.installed) (sym (fault_for (seen_by a given.Nothing h m) g p)) in
    IfOk-weaker c.fault_at.result (λ f. option_map fault_view f ≡ spec.fault_of (seen_in c.scene_of.result given.Nothing m) p)
    (λ f. option_map fault_view f ≡ spec.fault_of (seen_by a g h m) p) (λ f e. e ∙ same) c.fault_at.ensures

-- What a place asks for is the same whatever the office gave.
use Rattle.std.proofs.Common.{◌≡◌, ◌∙◌, sym, option_map}
use Rattle.std.proofs.lemmas.Result.{IfOk-weaker}
use Rattle.behaviour_tree.specs.View.{behaviour_view}
use Rattle.behaviour_tree.specs.declared.words.Given.TheVariants as given
use Rattle.session_events.specs.Asked.{asked}
use Rattle.session_events.specs.Seen.{seen_by, seen_in}
use Rattle.session_events.proofs.Giftless.{asked_for}
use Rattle.session_events.proofs.asked.asked_of.Goals as goal

pub returns : goal.returns
returns c = λ g.
    let a = c.args.actor in
    let h = c.args.installed.now in
    let m = c.args.memory.now in
    let p = behaviour_view c.args.place.now in
    let same : asked (seen_in c.scene_of.result given.Nothing m) p ≡ asked (seen_by a g h m) p =
    rw (c.scene_of.ensures.actor, c.scene_of.ensures.installed) (sym (asked_for (seen_by a given.Nothing h m) g p)) in
    IfOk-weaker c.asked_at.result (λ n. option_map (λ b. b.value) n ≡ asked (seen_in c.scene_of.result given.Nothing m) p)
    (λ n. option_map (λ b. b.value) n ≡ asked (seen_by a g h m) p) (λ n e. e ∙ same) c.asked_at.ensures

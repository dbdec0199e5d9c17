use Rattle.std.proofs.Common.{◌≡◌, Some, option_map, ap, sym, ◌∙◌, rules}
use Rattle.behaviour_tree.specs.View.{path_view}
use Rattle.behaviour_tree.specs.declared.words.Given.TheVariants as given
use Rattle.session_calculus.specs.Replies.{reply_of, replies}
use Rattle.session_calculus.specs.Terms.{done}
use Rattle.term_session.specs.Turns.{seen_at}
use Rattle.term_session.proofs.Gifts.{ungiven_some}
use Rattle.term_session.proofs.act_here.reply.Goals as goal

pub returns : goal.returns
returns c =
    let s = seen_at c.args.turn c.args.installed.now c.args.memory.now in
    let nothing : s.gift ≡ given.Nothing = search rules in
    let outcome = reply_of s c.args.op (option_map path_view c.args.path.now) in
    ap Some c.in_ok-replied.ensures ∙ sym (ungiven_some s (replies s c.args.message outcome done) nothing)

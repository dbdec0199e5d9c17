use Rattle.explain_hints.proofs.FewTokens.{joined_is}
use Rattle.explain_hints.proofs.copies.joined.Goals as goal

pub returns : goal.returns
returns c =
    joined_is c.args.by c.args.tokens.now c.args.more.now c.in_ok-all.all c.in_ok-moved_copies.field-0 c.append.new.self
    c.in_ok-all.ensures c.in_ok-moved_copies.ensures c.in_ok-append.ensures

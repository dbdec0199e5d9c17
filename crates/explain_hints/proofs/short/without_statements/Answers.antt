-- One token after the other comes to the short list, and what may be left out does not.
use Rattle.std.proofs.Common.{arith}
use Rattle.explain_hints.proofs.FewTokens.{nothing_yet, goes_further, stands_for}
use Rattle.explain_hints.proofs.short.without_statements.Goals as goal

pub loop-at-init : goal.loop-at-init
loop-at-init c = nothing_yet c.args.text.now c.args.tokens.now c.new-short.result c.new-short.ensures

pub loop-at-preserved : goal.loop-at-preserved
loop-at-preserved c =
    goes_further c.args.text.now c.args.tokens.now c.loop-at.at c.in_ok-next.next c.index-tokens-next.result c.in_ok-moved_copy.field-0 c.loop-at.short c.push.new.self
    c.requires.stand c.requires.shallow c.in_ok-next.ensures c.index-tokens-next.is c.in_ok-moved_copy.ensures c.loop-at.invariant c.in_ok-push.ensures.ok

pub returns : goal.returns
returns c = stands_for c.args.text.now c.args.tokens.now c.loop-at.short c.loop-at.at c.requires.fits c.requires.lexed (omega (arith, c.loop-at-test.false)) c.loop-at.invariant

use Rattle.std.proofs.Common.{◌<◌, ◌≤◌, ◌+◌, false, true, not, length, sym, refl, subst}
use Rattle.std.proofs.lemmas.Bool.{MatchBool-at_true, MatchBool-at_false}
use Rattle.outside_dials.specs.Dials.{traffic}
use Rattle.http_link.specs.Steps.{HasHead, Heard}
use Rattle.http_link.proofs.Heads.{head_grows, sized_head, sized_unfinished, sized_short, sized_found}
use Rattle.http_link.proofs.receiving.read_sized.Goals as goal

pub read_to-requires-clause-unfinished : goal.read_to-requires-clause-unfinished
read_to-requires-clause-unfinished g c = λ more short. sized_unfinished c.args.inbox.now c.args.head c.args.size c.requires.head more short

pub returns-in-Ok-true : goal.returns-in-Ok-true
returns-in-Ok-true g c =
    let heard = subst (λ t. Heard (traffic (g.W.Wire.told c.args.wire.now)) (traffic (g.W.Wire.told c.read_to.new.wire)) c.args.inbox.now c.read_to.new.inbox (not t)) c.in-Ok-true.field-0-test c.in-Ok-true.ensures.heard in
    let head = subst (λ l. HasHead l (sized_head c.args.head c.args.size)) (sym heard.grown) (head_grows c.args.inbox.now heard.piece (sized_head c.args.head c.args.size) c.requires.head) in
    let long : c.args.head + c.args.size ≤ length c.read_to.new.inbox = MatchBool-at_true _ _ c.in-Ok-true.field-0-test c.in-Ok-true.ensures.there in
    (false, sized_found c.read_to.new.inbox c.args.head c.args.size (c.args.head + c.args.size) refl head long, heard)

pub returns-in-Ok-false : goal.returns-in-Ok-false
returns-in-Ok-false g c =
    let heard = subst (λ t. Heard (traffic (g.W.Wire.told c.args.wire.now)) (traffic (g.W.Wire.told c.read_to.new.wire)) c.args.inbox.now c.read_to.new.inbox (not t)) c.in-Ok-false.field-0-test c.in-Ok-false.ensures.heard in
    let head = subst (λ l. HasHead l (sized_head c.args.head c.args.size)) (sym heard.grown) (head_grows c.args.inbox.now heard.piece (sized_head c.args.head c.args.size) c.requires.head) in
    let short : length c.read_to.new.inbox < c.args.head + c.args.size = MatchBool-at_false _ _ c.in-Ok-false.field-0-test c.in-Ok-false.ensures.there in
    (true, sized_short c.read_to.new.inbox c.args.head c.args.size head short, heard)

use Rattle.std.proofs.Common.{◌<◌, ◌≤◌, ◌+◌, ℕ, false, true, not, Some, length, sym, subst, arith}
use Rattle.std.proofs.lemmas.Bool.{MatchBool-at_true, MatchBool-at_false}
use Rattle.outside_dials.specs.Dials.{traffic}
use Rattle.http_link.specs.Steps.{Finds, HasHead, Heard}
use Rattle.http_link.proofs.Heads.{head_grows, open_head, open_unfinished, open_long, open_found}
use Rattle.http_link.proofs.receiving.read_to_end.Goals as goal

pub read_to-requires-clause-unfinished : goal.read_to-requires-clause-unfinished
read_to-requires-clause-unfinished g c = λ more short. open_unfinished c.args.inbox.now c.args.head c.requires.head more

pub returns-in-Ok-true : goal.returns-in-Ok-true
returns-in-Ok-true g c =
    let heard = subst (λ t. Heard (traffic (g.W.Wire.told c.args.wire.now)) (traffic (g.W.Wire.told c.read_to.new.wire)) c.args.inbox.now c.read_to.new.inbox (not t)) c.in-Ok-true.field-0-test c.in-Ok-true.ensures.heard in
    let head = subst (λ l. HasHead l (open_head c.args.head)) (sym heard.grown) (head_grows c.args.inbox.now heard.piece (open_head c.args.head) c.requires.head) in
    let long : c.args.head + 65536 + 1 ≤ length c.read_to.new.inbox = MatchBool-at_true _ _ c.in-Ok-true.field-0-test c.in-Ok-true.ensures.there in
    (false, open_long c.read_to.new.inbox c.args.head head (omega arith), heard)

pub returns-in-Ok-false : goal.returns-in-Ok-false
returns-in-Ok-false g c =
    let heard = subst (λ t. Heard (traffic (g.W.Wire.told c.args.wire.now)) (traffic (g.W.Wire.told c.read_to.new.wire)) c.args.inbox.now c.read_to.new.inbox (not t)) c.in-Ok-false.field-0-test c.in-Ok-false.ensures.heard in
    let head = subst (λ l. HasHead l (open_head c.args.head)) (sym heard.grown) (head_grows c.args.inbox.now heard.piece (open_head c.args.head) c.requires.head) in
    let short : length c.read_to.new.inbox < c.args.head + 65536 + 1 = MatchBool-at_false _ _ c.in-Ok-false.field-0-test c.in-Ok-false.ensures.there in
    let found : Finds c.read_to.new.inbox true (Some (record { start = c.args.head; end = c.len-end.result })) =
    subst (λ (n : ℕ). Finds c.read_to.new.inbox true (Some (record { start = c.args.head; end = n }))) (sym c.len-end.ensures.len)
    (open_found c.read_to.new.inbox c.args.head head (omega arith)) in
    (true, found, heard)

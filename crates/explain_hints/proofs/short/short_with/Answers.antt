-- The tokens of a sample, behind few that stand for those of bytes.
use Rattle.std.proofs.Common.{◌≡◌, ◌+◌, ◌≤◌, ◌∷◌, ◌++◌, length, arith, sym, subst}
use Rattle.jolie_tokens.specs.Texts.{longest, IsRead}
use Rattle.jolie_parse.proofs.Spellings.{tokens_stand}
use Rattle.explain_hints.specs.Short.{StandFor}
use Rattle.explain_hints.proofs.FewTokens.{places_fit, stand_behind}
use Rattle.explain_hints.proofs.short.short_with.Goals as goal

pub joined-requires-clause-on : goal.joined-requires-clause-on
joined-requires-clause-on c =
    let viewed = c.as_slice.ensures in
    let kept = c.tokens.view_is in
    let same : c.as_slice.result.now ≡ c.in-Ok.tokens = cc in
    let read : IsRead c.args.sample.now c.as_slice.result.now = subst (λ z. IsRead c.args.sample.now z) (sym same) (subst (λ z. IsRead z c.in-Ok.tokens) c.as_bytes.ensures.value c.in-Ok.ensures.ok) in
    let fits : length c.args.sample.now + (length c.args.bytes.now + 1) ≤ longest = omega (arith, c.if-bytes-ge-LONGEST.false, c.if-bytes-sample.false) in
    places_fit c.args.sample.now c.as_slice.result.now (length c.args.bytes.now + 1) (tokens_stand c.args.sample.now c.as_slice.result.now read) fits

pub returns-in_ok-joined-in-Ok : goal.returns-in_ok-joined-in-Ok
returns-in_ok-joined-in-Ok c =
    let viewed = c.as_slice.ensures in
    let kept = c.tokens.view_is in
    let same : c.as_slice.result.now ≡ c.in-Ok.tokens = cc in
    let read : IsRead c.args.sample.now c.as_slice.result.now = subst (λ z. IsRead c.args.sample.now z) (sym same) (subst (λ z. IsRead z c.in-Ok.tokens) c.as_bytes.ensures.value c.in-Ok.ensures.ok) in
    let fits : length c.args.bytes.now + 1 + length c.args.sample.now ≤ longest = omega (arith, c.if-bytes-ge-LONGEST.false, c.if-bytes-sample.false) in
    subst (StandFor (c.args.bytes.now ++ 10 ∷ c.args.sample.now)) (sym c.in_ok-joined-in-Ok.ensures)
    (stand_behind c.args.bytes.now c.args.sample.now c.args.short.now c.as_slice.result.now c.requires read fits)

use Rattle.std.proofs.Common.{◌≡◌, ◌++◌, ◌∷◌, [], length, drop, refl, sym, ap, subst, ◌∙◌, arith, append-nil, length-drop}
use Rattle.std.proofs.lemmas.Result.{err_from_is_err_and}
use Rattle.jolie_tokens.specs.Pieces.{kind_of}
use Rattle.jolie_tokens.specs.Texts.{Reads, token_of}
use Rattle.jolie_tokens.proofs.Readings.{piece_some, reads_push, written_push, rest_is}
use Rattle.jolie_tokens.proofs.Steps.{nonempty, found, found_len, found_within, refused, pushed, token_some, token_none}
use Rattle.jolie_tokens.proofs.lexing.tokens_of.Goals as goal
use Rattle.jolie_tokens.proofs.lexing.tokens_of.Goals.{in-Some+in_ok-push, in_default}

pub returns-in_err-kind : goal.returns-in_err-kind
returns-in_err-kind c =
    let i = c.loop-rest.invariant in
    let some = nonempty c.loop-rest.rest.now c.loop-rest-test.ensures in
    let e = err_from_is_err_and c.from_residual.result c.from_residual.ensures.1 in
    rw (e.1, e.2) (refused c.args.text.now c.loop-rest.rest.now i.1.0 c.loop-rest.at c.in_err-kind.field-0.0 i.1.1 i.1.3 some c.in_err-kind.ensures)

pub behind-rest-requires : goal.behind-rest-requires
behind-rest-requires c =
    let now = c.loop-rest.rest.now in
    found_within now c.in_ok-kind.field-0 (found now c.loop-rest.at c.in_ok-kind.field-0 (nonempty now c.loop-rest-test.ensures) c.in_ok-kind.ensures)

pub overflow_add-at : goal.overflow_add-at
overflow_add-at c =
    let now = c.loop-rest.rest.now in
    let within = found_within now c.in_ok-kind.field-0 (found now c.loop-rest.at c.in_ok-kind.field-0 (nonempty now c.loop-rest-test.ensures) c.in_ok-kind.ensures) in
    let all = c.loop-rest.invariant.0 in
    let short = c.requires in
    omega arith

pub loop-rest-smaller : goal.loop-rest-smaller
loop-rest-smaller c =
    let now = c.loop-rest.rest.now in
    let some = nonempty now c.loop-rest-test.ensures in
    let lexeme = c.in_ok-kind.field-0 in
    let h = found now c.loop-rest.at lexeme some c.in_ok-kind.ensures in
    let fits = h.fits in
    let part = piece_some h.piece fits.valid in
    let len = found_len now lexeme h in
    omega (arith, ap length c.behind-rest.ensures, length-drop lexeme.len now)

pub loop-rest-preserved : goal.loop-rest-preserved
loop-rest-preserved c =
    let i = c.loop-rest.invariant in
    let now = c.loop-rest.rest.now in
    let lexeme = c.in_ok-kind.field-0 in
    let h = found now c.loop-rest.at lexeme (nonempty now c.loop-rest-test.ensures) c.in_ok-kind.ensures in
    let len = found_len now lexeme h in
    let within = found_within now lexeme h in
    let kind : lexeme.kind ≡ kind_of h.piece = ap (λ x. x.kind) h.same in
    let rest : c.behind-rest.result.now ≡ h.fits.rest = c.behind-rest.ensures ∙ ap (λ n. drop n now) len ∙ rest_is now h.piece h.fits in
    let more : c.match-kind.tokens ≡ c.loop-rest.tokens ++ token_of lexeme.kind c.loop-rest.at lexeme.len = elim c.match-kind.branch [
      | in-Some+in_ok-push w ↦ w.tokens-is ∙ w.in_ok-push.ensures.ok ∙ ap (λ x. c.loop-rest.tokens ++ x) (sym (token_some lexeme.kind w.in-Some.kind c.loop-rest.at lexeme.len lexeme.len w.in-Some.is refl))
      | in_default w ↦ w.tokens-is ∙ sym (append-nil c.loop-rest.tokens) ∙ ap (λ x. c.loop-rest.tokens ++ x) (sym (token_none lexeme.kind c.loop-rest.at lexeme.len w.in_default.is))
    ] in (
      omega (arith, i.0, ap length c.behind-rest.ensures, length-drop lexeme.len now),
      (
        i.1.0 ++ h.piece ∷ [],
        subst (Reads c.args.text.now (i.1.0 ++ h.piece ∷ [])) (sym rest) (reads_push c.args.text.now i.1.0 h.piece now h.fits i.1.1),
        pushed i.1.0 h.piece lexeme.kind lexeme.len c.loop-rest.at c.loop-rest.tokens c.match-kind.tokens kind len i.1.3 i.1.2 more,
        omega (arith, i.1.3, len, written_push i.1.0 h.piece),
      ),
    )

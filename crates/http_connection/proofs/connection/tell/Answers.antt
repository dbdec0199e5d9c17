-- Where none is owed memory ran out before.
use Rattle.std.proofs.Common.{refl, ◌++◌, ◌∷◌, [], option_copied}
use Rattle.std.proofs.lemmas.Result.{err_from_is_err_and}
use Rattle.http_connection.specs.Seen.{seen}
use Rattle.http_connection.specs.Talking.{IsTalking}
use Rattle.http_connection.proofs.Passing.{at_error, may_tell}
use Rattle.http_connection.proofs.Calls.{writes_nothing}
use Rattle.http_connection.proofs.connection.tell.Goals as goal

pub owed-requires : goal.owed-requires
owed-requires g c = may_tell c.args.kept.now.next c.requires

pub returns-in_err-close-clause-talks : goal.returns-in_err-close-clause-talks
returns-in_err-close-clause-talks g c = λ first bodies texts h.
    let wanting = err_from_is_err_and c.from_residual.result c.from_residual.ensures.1 in
    let now = seen c.args.kept.now (g.W.Wire.told c.args.wire.now) in
    at_error c.from_residual.result (λ _. IsTalking first now bodies (texts ++ option_copied c.args.text ∷ [])) (λ _. IsTalking first now bodies texts) wanting.0 wanting.1 h

pub returns-in_err-close-clause-wrote : goal.returns-in_err-close-clause-wrote
returns-in_err-close-clause-wrote g c =
    writes_nothing (g.W.Wire.told c.args.wire.now).calls (g.W.Wire.told c.args.wire.now).calls c.args.kept.now.written.items c.args.kept.now.written.items refl refl

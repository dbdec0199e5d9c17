use Rattle.std.proofs.Common.{◌∙◌, refl}
use Rattle.std.specs.Prelude.{not, ◌==◌}
use Rattle.http1.specs.declared.fields.KnownFields.{KnownFields}
use Rattle.http_port.proofs.FieldLemmas.{wishes_of_later}
use Rattle.http_port.proofs.verdict.Wishes.of.Goals as goal

pub returns : goal.returns
returns c headers is =
    (λ i. let k : KnownFields = is i in record { lacks_host = not (k.hosts == 1); close = k.close; interim = k.expect_continue })
    ∙ wishes_of_later c.args.minor headers _ c.if-minor-eq0.false refl

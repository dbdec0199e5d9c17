use Rattle.std.proofs.Common.{◌≡◌, false, take, subst}
use Rattle.std.proofs.lemmas.Result.{IfOk-weaker}
use Rattle.http_port.specs.HeadPart.{longest_head, HoldsScan}
use Rattle.http_port.specs.Rules.{Judges}
use Rattle.http_port.specs.Feeding.{Gives, next_in_body, place_of}
use Rattle.http_port.specs.declared.head_reader.Came.{Came}
use Rattle.http_port.specs.declared.verdict.Verdict.TheVariants.{Pending, Refuses, Admits}
use Rattle.http_port.proofs.JudgeLemmas.{gives_pending, gives_refused, gives_interim, gives_at_once}
use Rattle.http_port.proofs.head_reader.from_head.Goals as goal

pub from_body-requires : goal.from_body-requires
from_body-requires c = ∣ subst (λ bytes. Judges bytes (Admits c.in-Admits.admission)) c.as_slice.ensures c.in-Admits.ensures.verdict ∣₁

pub returns-in-Pending-clause-gives : goal.returns-in-Pending-clause-gives
returns-in-Pending-clause-gives c = ∣ gives_pending c.args.unread.now false (subst (λ bytes. Judges bytes Pending) c.as_slice.ensures c.in-Pending.ensures.verdict) ∣₁

pub returns-in-Pending-clause-stage : goal.returns-in-Pending-clause-stage
returns-in-Pending-clause-stage c = ∣ subst (λ bytes. HoldsScan (take longest_head bytes) c.judge.new.scan) c.as_slice.ensures c.judge.ensures.scan ∣₁

pub returns-in-Refuses-clause-gives : goal.returns-in-Refuses-clause-gives
returns-in-Refuses-clause-gives c =
    let given = gives_refused c.args.unread.now false c.in-Refuses.status (subst (λ bytes. Judges bytes (Refuses c.in-Refuses.status)) c.as_slice.ensures c.in-Refuses.ensures.verdict) in
    rw (c.over.ensures.fed, c.over.ensures.stage) (∣ given ∣₁)

pub returns-in-Admits-clause-gives : goal.returns-in-Admits-clause-gives
returns-in-Admits-clause-gives c =
    ∣ gives_interim c.args.unread.now c.in-Admits.admission (subst (λ bytes. Judges bytes (Admits c.in-Admits.admission)) c.as_slice.ensures c.in-Admits.ensures.verdict) c.if-admission.true ∣₁

pub returns-in-Admits-clause-stage : goal.returns-in-Admits-clause-stage
returns-in-Admits-clause-stage c = ∣ subst (λ bytes. Judges bytes (Admits c.in-Admits.admission)) c.as_slice.ensures c.in-Admits.ensures.verdict ∣₁

pub returns-in-Admits-2-clause-gives : goal.returns-in-Admits-2-clause-gives
returns-in-Admits-2-clause-gives c =
    let judged = subst (λ bytes. Judges bytes (Admits c.in-Admits.admission)) c.as_slice.ensures c.in-Admits.ensures.verdict in
    IfOk-weaker c.from_body.result
    (λ (came : Came). (came.fed, place_of c.from_body.new.unread came.stage) ≡ next_in_body c.args.unread.now c.in-Admits.admission)
    (λ (came : Came). ∥ Gives c.args.unread.now false came.fed (place_of c.from_body.new.unread came.stage) ∥₁)
    (λ (came : Came) is. ∣ gives_at_once c.args.unread.now c.in-Admits.admission came.fed (place_of c.from_body.new.unread came.stage) judged c.if-admission.false is ∣₁)
    c.from_body.ensures.gives

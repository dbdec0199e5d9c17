use Rattle.std.proofs.Common.{◌≡◌, ◌++◌, false, take, sym, subst}
use Rattle.std.specs.Prelude.{IfOk}
use Rattle.std.proofs.Math.Logic.{∥∥₁_map, ∥∥₁_elim}
use Rattle.std.proofs.lemmas.Result.{IfOk-weaker}
use Rattle.http_port.specs.HeadPart.{longest_head, HoldsScan}
use Rattle.http_port.specs.Rules.{Judges}
use Rattle.http_port.specs.Feeding.{Feeds, Gives, next_in_body, place_of, StageHolds}
use Rattle.http_port.specs.declared.head_reader.Came.{Came}
use Rattle.http_port.specs.declared.verdict.Verdict.TheVariants.{Admits}
use Rattle.http_port.proofs.PartLemmas.{scan_grows}
use Rattle.http_port.proofs.JudgeLemmas.{HoldsScan-prop, admits_grows, gives_in_body}
use Rattle.http_port.proofs.head_reader.advance.Goals as goal

pub from_head-requires : goal.from_head-requires
from_head-requires c =
    let held = subst (λ stage. ∥ StageHolds c.args.unread.now stage ∥₁) c.in-Head.is c.requires in
    subst (λ bytes. HoldsScan (take longest_head bytes) c.in-Head.scan) (sym c.in_ok-append-in-Head.ensures)
    (∥∥₁_elim held (HoldsScan-prop _ _) (scan_grows c.args.unread.now c.args.piece.now c.in-Head.scan))

pub from_body-requires : goal.from_body-requires
from_body-requires c =
    let held = subst (λ stage. ∥ StageHolds c.args.unread.now stage ∥₁) c.in-Body.is c.requires in
    subst (λ bytes. ∥ Judges bytes (Admits c.in-Body.admission) ∥₁) (sym c.in_ok-append-in-Body.ensures)
    (∥∥₁_map held (admits_grows c.args.unread.now c.args.piece.now c.in-Body.admission))

pub returns-in_ok-append-in-Head-clause-gives : goal.returns-in_ok-append-in-Head-clause-gives
returns-in_ok-append-in-Head-clause-gives c =
    let given = subst (λ bytes. IfOk c.from_head.result (λ (came : Came). ∥ Gives bytes false came.fed (place_of c.from_head.new.unread came.stage) ∥₁)) c.in_ok-append-in-Head.ensures c.from_head.ensures.gives in
    subst (λ stage. IfOk c.from_head.result (λ (came : Came). Feeds (place_of c.args.unread.now stage) c.args.piece.now came.fed (place_of c.from_head.new.unread came.stage)))
    (sym c.in-Head.is) given

pub returns-in_ok-append-in-Body-clause-gives : goal.returns-in_ok-append-in-Body-clause-gives
returns-in_ok-append-in-Body-clause-gives c =
    let a = c.in-Body.admission in
    let held = subst (λ stage. ∥ StageHolds c.args.unread.now stage ∥₁) c.in-Body.is c.requires in
    let judged = ∥∥₁_map held (admits_grows c.args.unread.now c.args.piece.now a) in
    let given = subst (λ bytes. IfOk c.from_body.result (λ (came : Came). (came.fed, place_of c.from_body.new.unread came.stage) ≡ next_in_body bytes a)) c.in_ok-append-in-Body.ensures c.from_body.ensures.gives in
    subst (λ stage. IfOk c.from_body.result (λ (came : Came). Feeds (place_of c.args.unread.now stage) c.args.piece.now came.fed (place_of c.from_body.new.unread came.stage)))
    (sym c.in-Body.is)
    (IfOk-weaker c.from_body.result
    (λ (came : Came). (came.fed, place_of c.from_body.new.unread came.stage) ≡ next_in_body (c.args.unread.now ++ c.args.piece.now) a)
    (λ (came : Came). ∥ Gives (c.args.unread.now ++ c.args.piece.now) a.interim came.fed (place_of c.from_body.new.unread came.stage) ∥₁)
    (λ (came : Came) is. ∥∥₁_map judged (λ j. gives_in_body (c.args.unread.now ++ c.args.piece.now) a came.fed (place_of c.from_body.new.unread came.stage) j is))
    given)

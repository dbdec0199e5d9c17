use Rattle.std.proofs.Common.{◌≡◌, ap, ◌∙◌, subst}
use Rattle.outside_dials.specs.Dials.{Dials}
use Rattle.http_link.specs.Requests.{request}
use Rattle.http_link.specs.Steps.{Finds}
use Rattle.http_link.specs.Trips.{Failing, Linked, telling}
use Rattle.http_link.proofs.Trips.{fails_unanswered, fails_by}
use Rattle.http_link.proofs.link.HttpLinkLink.trip.Goals as goal

pub returns-in-Ok-None-clause-trip : goal.returns-in-Ok-None-clause-trip
returns-in-Ok-None-clause-trip g c =
    let visited = c.in-Ok-None.ensures.visited in
    let was = ap (λ (l : Linked _). l.dial) c.self.view_is in
    let asked : c.as_slice.result.now ≡ request c.args.location.now c.args.text.now = c.as_slice.ensures.value ∙ c.in_ok-request.ensures in (
      subst (λ d. Dials (g.D.Dial.told d).dialled (g.D.Dial.told c.visit.new.dial).dialled c.args.location.now) was c.in-Ok-None.ensures.dialled,
      subst (λ d. Failing (request c.args.location.now c.args.text.now) (telling g.D.Dial.blank (g.D.Dial.told d)) (telling g.D.Dial.blank (g.D.Dial.told c.visit.new.dial))) was
          (fails_unanswered (request c.args.location.now c.args.text.now) c.as_slice.result.now c.visit.new.inbox visited.0
          (telling g.D.Dial.blank (g.D.Dial.told c.self.inside.dial)) (telling g.D.Dial.blank (g.D.Dial.told c.visit.new.dial)) asked visited.2
          (subst (λ o. Finds c.visit.new.inbox visited.0 o) c.in-Ok-None.field-0-is visited.1) visited.3),
    )

pub returns-clause-trip : goal.returns-clause-trip
returns-clause-trip g c =
    let was = ap (λ (l : Linked _). l.dial) c.self.view_is in
    let asked : c.as_slice.result.now ≡ request c.args.location.now c.args.text.now = c.as_slice.ensures.value ∙ c.in_ok-request.ensures in (
      subst (λ d. Dials (g.D.Dial.told d).dialled (g.D.Dial.told c.visit.new.dial).dialled c.args.location.now) was c.in-Err.ensures.dialled,
      subst (λ d. Failing (request c.args.location.now c.args.text.now) (telling g.D.Dial.blank (g.D.Dial.told d)) (telling g.D.Dial.blank (g.D.Dial.told c.visit.new.dial))) was
          (fails_by (request c.args.location.now c.args.text.now) c.as_slice.result.now
          (telling g.D.Dial.blank (g.D.Dial.told c.self.inside.dial)) (telling g.D.Dial.blank (g.D.Dial.told c.visit.new.dial)) asked c.in-Err.ensures.visited),
    )

use Rattle.std.proofs.Common.{◌≡◌, sym, ap, ◌∙◌, Some}
use Rattle.correlation.specs.Places.{searched}
use Rattle.correlation.specs.declared.key.KeyRow.{KeyRow}
use Rattle.correlation.proofs.Sessions.{found, found_session, none_found}
use Rattle.correlation.proofs.keys.Keys.find.Goals as goal

pub returns-in-Ok-clause-session : goal.returns-in-Ok-clause-session
returns-in-Ok-clause-session g c =
    let rows = c.args.self.now.rows.items in
    let d = c.index.result.now in
    let place = c.in-Ok.ensures.place ∙ ap (searched c.args.sought.now.values) c.deref.ensures.value in
    ap (λ (r : KeyRow). Some r.session) c.index.ensures ∙ ap (λ s. found s rows d) place ∙ found_session c.args.sought.now.values rows d c.args.self.now.rising

pub returns-in-Err-clause-session : goal.returns-in-Err-clause-session
returns-in-Err-clause-session g c =
    let place = c.in-Err.ensures.place ∙ ap (searched c.args.sought.now.values) c.deref.ensures.value in
    none_found c.args.sought.now.values c.in-Err.field-0 c.args.self.now.rows.items c.args.self.now.rising place

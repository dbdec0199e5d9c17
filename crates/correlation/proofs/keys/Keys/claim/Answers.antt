use Rattle.std.proofs.Common.{◌≡◌, sym, ap, ◌∙◌, Some}
use Rattle.std.specs.Result.{is_ok}
use Rattle.correlation.specs.Places.{searched}
use Rattle.correlation.specs.declared.key.KeyRow.{KeyRow}
use Rattle.correlation.proofs.Sessions.{found, found_session, none_found, rising_insert}
use Rattle.correlation.proofs.keys.Keys.claim.Goals as goal

pub invariant_of-self : goal.invariant_of-self
invariant_of-self c =
    let old = c.args.self.now in
    let rows = old.rows.items in
    let place = c.in-Err.ensures.place ∙ ap (λ v. searched v c.deref.result.now) c.deref-2.ensures.value ∙ ap (searched c.args.values.items) c.deref.ensures.value in
    record {
      rising = rising_insert (is_ok c.insert.result) c.in-Err.place (record { key = c.new-key.result; session = c.args.session }) rows c.insert.new.self.items
          old.rising (place ∙ ap (λ v. searched v rows) (sym c.new-key.ensures)) c.insert.ensures.items;
    }

pub returns-in-Ok-clause-holder : goal.returns-in-Ok-clause-holder
returns-in-Ok-clause-holder c =
    let old = c.args.self.now in
    let rows = old.rows.items in
    let d = c.index.result.now in
    let place = c.in-Ok.ensures.place ∙ ap (λ v. searched v c.deref.result.now) c.deref-2.ensures.value ∙ ap (searched c.args.values.items) c.deref.ensures.value in
    ap (λ (r : KeyRow). Some r.session) c.index.ensures ∙ ap (λ s. found s rows d) place ∙ found_session c.args.values.items rows d old.rising

pub returns-in_ok-insert-in-Err-clause-holder : goal.returns-in_ok-insert-in-Err-clause-holder
returns-in_ok-insert-in-Err-clause-holder c =
    let old = c.args.self.now in
    let place = c.in-Err.ensures.place ∙ ap (λ v. searched v c.deref.result.now) c.deref-2.ensures.value ∙ ap (searched c.args.values.items) c.deref.ensures.value in
    none_found c.args.values.items c.in-Err.place old.rows.items old.rising place

use Rattle.std.proofs.Common.{◌≡◌, sym, ap, ◌∙◌, if◌then◌else◌}
use Rattle.std.specs.Result.{is_ok}
use Rattle.std.proofs.lemmas.Result.{IfOk-weaker}
use Rattle.correlation.specs.Places.{with_row}
use Rattle.correlation.specs.Rows.{session_with}
use Rattle.correlation.specs.Index.{row_of, shown}
use Rattle.correlation.specs.declared.set_keys.SetKeys.{SetKeys}
use Rattle.correlation.proofs.KeySets.{keys_at, put_in}
use Rattle.correlation.proofs.index.Index.put.Goals as goal

pub returns-clause-holder : goal.returns-clause-holder
returns-clause-holder c =
    let mid = c.reach.new.self.sets.items in
    let key = c.args.key in
    let i = c.in_ok-place.place in
    let d = c.index_mut.result.now in
    let reached = c.in_ok-place.ensures in
    let rows = ap (λ (s : SetKeys). s.keys.rows.items) c.index_mut.ensures.value
    ∙ sym (keys_at key.set i mid d reached.within reached.first (reached.set d)) ∙ reached.keys key.set in
    IfOk-weaker c.claim.result _ _ (λ t h. h ∙ ap (session_with key.values.items) rows) c.claim.ensures.holder

pub returns-clause-keys : goal.returns-clause-keys
returns-clause-keys c =
    let mid = c.reach.new.self.sets.items in
    let key = c.args.key in
    let i = c.in_ok-place.place in
    let d = c.index_mut.result.now in
    let value = c.index_mut.ensures.value in
    let reached = c.in_ok-place.ensures in
    let b = is_ok c.claim.result in
    let x : SetKeys = record { set = d.set; keys = c.claim.new.self } in
    let row = row_of c.args.session key.values.items in
    let rows = c.claim.ensures.rows ∙ ap (λ (s : SetKeys). if b then with_row row s.keys.rows.items else s.keys.rows.items) value in
    λ n. put_in mid c.args.self.now.sets.items i c.args.session (shown key) b x d n reached.within reached.first (reached.set d) reached.keys
    (ap (λ (s : SetKeys). s.set) value ∙ reached.set d) rows

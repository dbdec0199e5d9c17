use Rattle.std.proofs.Common.{rules, ◌≡◌, ◌^◌, ◌-◌, ◌≤◌, ◌+◌, ◌*◌, length, sym, ap, subst, ◌∙◌, arith}
use Rattle.correlation.specs.Rows.{session_with}
use Rattle.correlation.specs.Sought.{Sought}
use Rattle.correlation.proofs.KeySets.{keys_here}
use Rattle.correlation.proofs.index.Index.find.Goals as goal

pub returns-then-keys-set-clause-session : goal.returns-then-keys-set-clause-session
returns-then-keys-set-clause-session g c =
    let row = c.keys-item.result in
    let here = keys_here c.deref-keys-items.result.now c.loop-keys.keys-index c.args.set row c.loop-keys-test.true c.keys-item.is c.if-keys-set.true in
    c.find.ensures.session ∙ ap (λ (x : Sought). session_with x.values row.keys.rows.items) c.loop-keys.invariant.steps
    ∙ ap (session_with c.args.sought.now.values) (sym (c.loop-keys.invariant.keys ∙ here))

pub returns-then-keys-set-clause-counted : goal.returns-then-keys-set-clause-counted
returns-then-keys-set-clause-counted g c =
    subst (λ (x : Sought). x.steps ≤ c.find.new.sought.steps) c.loop-keys.invariant.steps c.find.ensures.counted

pub returns-then-keys-set-clause-cost : goal.returns-then-keys-set-clause-cost
returns-then-keys-set-clause-cost g c =
    let row = c.keys-item.result in
    let here = keys_here c.deref-keys-items.result.now c.loop-keys.keys-index c.args.set row c.loop-keys-test.true c.keys-item.is c.if-keys-set.true in
    let cost = subst (λ (x : Sought). 2 ^ (c.find.new.sought.steps - x.steps) ≤ 2 * length row.keys.rows.items + 1) c.loop-keys.invariant.steps c.find.ensures.cost in
    subst (λ l. 2 ^ (c.find.new.sought.steps - c.args.sought.now.steps) ≤ 2 * l + 1) (sym (ap length (c.loop-keys.invariant.keys ∙ here))) cost

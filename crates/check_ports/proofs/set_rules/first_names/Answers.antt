use Rattle.std.proofs.Common.{◌≡◌, ◌+◌, [], append-nil, map, sym, take}
use Rattle.jolie_ast.specs.declared.name.Name.{Name}
use Rattle.behaviour_tree.specs.Distinct.{is_in}
use Rattle.check_ports.proofs.Nows.{nows, nows_more, nows_push, texts_more}
use Rattle.check_base.proofs.Firsts.{firsts_more}
use Rattle.check_ports.proofs.set_rules.first_names.Goals as goal
use Rattle.check_ports.proofs.set_rules.first_names.Goals.{then-not-is_known+in_ok-push, else-not-is_known}

pub loop-name-preserved : goal.loop-name-preserved
loop-name-preserved c =
    let xs = c.args.names.now in
    let i = c.loop-name.name-index in
    let name = c.name-item.result.now in
    let more = nows_more xs i c.name-item.result c.loop-name-test.true c.name-item.is in
    let known = c.in_ok-is_known.is_known in
    let there : known ≡ is_in name.text (map (λ (m : Name). m.text) (nows (take i xs))) = rw (← c.loop-name.invariant.0, ← c.as_str.ensures) c.in_ok-is_known.ensures.known in (
      texts_more [] c.loop-name.texts c.add.new.self (nows (take i xs)) (nows (take (i + 1) xs)) name more c.loop-name.invariant.0 (rw (← c.as_str.ensures) c.in_ok-is_known.ensures.added),
      firsts_more (nows c.loop-name.firsts.items) (nows c.if-not-is_known.firsts.items) (nows (take i xs)) (nows (take (i + 1) xs)) name known more there c.loop-name.invariant.1
          (elim c.if-not-is_known.branch [
            | then-not-is_known+in_ok-push w ↦ rw (w.firsts-is, w.if-not-is_known.true) (nows_push c.loop-name.firsts.items w.push.new.self.items c.name-item.result w.in_ok-push.ensures.items)
            | else-not-is_known w ↦ rw (w.firsts-is, w.if-not-is_known.false) (sym (append-nil (nows c.loop-name.firsts.items)))
          ]),
    )

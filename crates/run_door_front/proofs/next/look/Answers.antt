-- Doors and connections go on, turn by turn.
use Rattle.std.proofs.Common.{refl, inl, inr, ◌<◌, sym, ap₂, ◌∙◌, subst, length, arith, ◌&&◌}
use Rattle.std.specs.List.{list_all}
use Rattle.run_theorem.specs.Calls.{most_postings}
use Rattle.run_door_front.specs.Keeping.{closed_off, owes_there}
use Rattle.run_door_front.specs.NextSteps.{queued, PollsAll, going, listing}
use Rattle.run_door_front.proofs.Links.{clients-long}
use Rattle.run_door_front.proofs.Looking.{goes-none, goes-accepts, turned, first-asks, looks-post, looks-end, looks-stay, looks-still}
use Rattle.run_door_front.proofs.Looking.{changed-so, unchanged-so, left-less}
use Rattle.run_door_front.proofs.Turning.{turned-none, rounds-post, rounds-end, rounds-changed, rounds-moved, rounds-still}
use Rattle.run_door_front.proofs.next.look.Goals as goal

pub loop-opened-init : goal.loop-opened-init
loop-opened-init g c = record { goes = goes-none _ c.args.most _; turned = turned-none _ c.args.most _ }

pub poll_all-requires : goal.poll_all-requires
poll_all-requires g c =
    let x = going c.args.doors.now c.args.connections.now.items c.args.opened.now.items c.args.queue.now.items c.args.traffics.now.items in
    let at = c.loop-opened in
    let y = going at.doors at.connections.items at.opened.items at.queue.items at.traffics.items in
    let came = c.accept_all.new in
    (goes-accepts _ c.args.most x y came.doors came.connections.items came.opened.items at.invariant.goes c.in_ok-accept_all.ensures.0).ordered c.requires

pub hand_out-requires : goal.hand_out-requires
hand_out-requires g c =
    let x = going c.args.doors.now c.args.connections.now.items c.args.opened.now.items c.args.queue.now.items c.args.traffics.now.items in
    let at = c.loop-opened in
    let y = going at.doors at.connections.items at.opened.items at.queue.items at.traffics.items in
    let came = c.accept_all.new in
    let now = c.poll_all.new in
    first-asks _ c.args.most x y came.doors came.connections.items now.connections.items came.opened.items now.opened.items now.queue.items
    at.invariant.goes c.in_ok-accept_all.ensures.0 c.in_ok-moved.ensures.0 c.in-Some.number c.first_in_line.new.queue.items c.in-Some.ensures

pub returns-in-Some-clause-looks : goal.returns-in-Some-clause-looks
returns-in-Some-clause-looks g c =
    let x = going c.args.doors.now c.args.connections.now.items c.args.opened.now.items c.args.queue.now.items c.args.traffics.now.items in
    let at = c.loop-opened in
    let y = going at.doors at.connections.items at.opened.items at.queue.items at.traffics.items in
    let came = c.accept_all.new in
    let now = c.poll_all.new in
    let few : length c.args.traffics.now.items < most_postings = omega (arith, c.if-len-ge-MOST_POSTINGS.false, c.len.ensures, c.args.traffics.now.ok.0) in
    looks-post _ c.args.most x y came.doors came.connections.items now.connections.items came.opened.items now.opened.items now.queue.items
    at.invariant.goes c.in_ok-accept_all.ensures.0 c.in_ok-moved.ensures.0 c.in-Some.number c.first_in_line.new.queue.items _
    (listing c.hand_out.new.connections.items c.hand_out.new.traffics.items) few c.in-Some.ensures c.in_ok-hand_out.ensures

pub returns-in-Some-clause-rounds : goal.returns-in-Some-clause-rounds
returns-in-Some-clause-rounds g c =
    let x = going c.args.doors.now c.args.connections.now.items c.args.opened.now.items c.args.queue.now.items c.args.traffics.now.items in
    let at = c.loop-opened in
    let y = going at.doors at.connections.items at.opened.items at.queue.items at.traffics.items in
    let came = c.accept_all.new in
    let now = c.poll_all.new in
    let few : length c.args.traffics.now.items < most_postings = omega (arith, c.if-len-ge-MOST_POSTINGS.false, c.len.ensures, c.args.traffics.now.ok.0) in
    rounds-post _ c.args.most at.changed x y came.doors came.connections.items now.connections.items came.opened.items now.opened.items now.queue.items
    few at.invariant.turned c.in_ok-accept_all.ensures.0 c.in_ok-accept_all.ensures.1 c.in_ok-moved.ensures.0 c.in_ok-moved.ensures.2
    c.in-Some.number c.first_in_line.new.queue.items _ (listing c.hand_out.new.connections.items c.hand_out.new.traffics.items) c.in-Some.ensures c.in_ok-hand_out.ensures

pub returns-then-is_done-clause-looks : goal.returns-then-is_done-clause-looks
returns-then-is_done-clause-looks g c =
    let x = going c.args.doors.now c.args.connections.now.items c.args.opened.now.items c.args.queue.now.items c.args.traffics.now.items in
    let at = c.loop-opened in
    let y = going at.doors at.connections.items at.opened.items at.queue.items at.traffics.items in
    let came = c.accept_all.new in
    let now = c.poll_all.new in
    let rest = c.first_in_line.new.queue.items in
    let polls = subst (λ q. PollsAll (queued came.connections.items came.opened.items at.queue.items) (queued now.connections.items now.opened.items q))
    (c.in_default.ensures.0 ∙ sym c.in_default.ensures.1) c.in_ok-moved.ensures.0 in
    looks-end _ c.args.most x y came.doors came.connections.items now.connections.items came.opened.items now.opened.items rest
    at.invariant.goes c.in_ok-accept_all.ensures.0 polls c.in_default.ensures.1
    (ap₂ (λ ls ns. closed_off c.args.most came.doors ls && list_all (owes_there ls) ns) (sym c.deref.ensures.value) (sym c.deref-in-loop-opened.ensures.value)
    ∙ sym c.is_done.ensures ∙ c.if-is_done.true)

pub returns-then-is_done-clause-rounds : goal.returns-then-is_done-clause-rounds
returns-then-is_done-clause-rounds g c =
    let x = going c.args.doors.now c.args.connections.now.items c.args.opened.now.items c.args.queue.now.items c.args.traffics.now.items in
    let at = c.loop-opened in
    let y = going at.doors at.connections.items at.opened.items at.queue.items at.traffics.items in
    let came = c.accept_all.new in
    let now = c.poll_all.new in
    let rest = c.first_in_line.new.queue.items in
    let polls = subst (λ q. PollsAll (queued came.connections.items came.opened.items at.queue.items) (queued now.connections.items now.opened.items q))
    (c.in_default.ensures.0 ∙ sym c.in_default.ensures.1) c.in_ok-moved.ensures.0 in
    let few : length c.args.traffics.now.items < most_postings = omega (arith, c.if-len-ge-MOST_POSTINGS.false, c.len.ensures, c.args.traffics.now.ok.0) in
    rounds-end _ c.args.most at.changed x y came.doors came.connections.items now.connections.items came.opened.items now.opened.items rest
    few at.invariant.turned c.in_ok-accept_all.ensures.0 c.in_ok-accept_all.ensures.1 polls c.in_ok-moved.ensures.2
    c.in_default.ensures.1
    (ap₂ (λ ls ns. closed_off c.args.most came.doors ls && list_all (owes_there ls) ns) (sym c.deref.ensures.value) (sym c.deref-in-loop-opened.ensures.value)
    ∙ sym c.is_done.ensures ∙ c.if-is_done.true)

pub loop-opened-preserved : goal.loop-opened-preserved
loop-opened-preserved g c =
    let x = going c.args.doors.now c.args.connections.now.items c.args.opened.now.items c.args.queue.now.items c.args.traffics.now.items in
    let at = c.loop-opened in
    let y = going at.doors at.connections.items at.opened.items at.queue.items at.traffics.items in
    let came = c.accept_all.new in
    let now = c.poll_all.new in
    let rest = c.first_in_line.new.queue.items in
    let polls = subst (λ q. PollsAll (queued came.connections.items came.opened.items at.queue.items) (queued now.connections.items now.opened.items q))
    (c.in_default.ensures.0 ∙ sym c.in_default.ensures.1) c.in_ok-moved.ensures.0 in
    let few : length c.args.traffics.now.items < most_postings = omega (arith, c.if-len-ge-MOST_POSTINGS.false, c.len.ensures, c.args.traffics.now.ok.0) in
    let so = changed-so _ _ _ _ c.len-known.result c.len-in-loop-opened.result c.len-among.result c.len-in-loop-opened-2.result
    c.has_changed.result (c.len-known.ensures ∙ at.connections.ok.0)
    (c.len-in-loop-opened.ensures ∙ now.connections.ok.0 ∙ clients-long came.connections.items now.connections.items c.in_ok-moved.ensures.0.goes)
    (c.len-among.ensures ∙ came.opened.ok.0) (c.len-in-loop-opened-2.ensures ∙ now.opened.ok.0) c.has_changed.ensures c.if-has_changed.true in
    record {
      goes =
          turned _ c.args.most x y came.doors came.connections.items now.connections.items came.opened.items now.opened.items rest
          at.invariant.goes c.in_ok-accept_all.ensures.0 polls;
      turned =
          rounds-changed _ c.args.most at.changed x y came.doors came.connections.items now.connections.items came.opened.items now.opened.items rest
          few at.invariant.turned c.in_ok-accept_all.ensures.0 c.in_ok-accept_all.ensures.1 polls c.in_ok-moved.ensures.2
          c.in_default.ensures.1
          (ap₂ (λ ls ns. closed_off c.args.most came.doors ls && list_all (owes_there ls) ns) (sym c.deref.ensures.value) (sym c.deref-in-loop-opened.ensures.value)
          ∙ sym c.is_done.ensures ∙ c.if-is_done.false)
          so;
    }

pub loop-opened-smaller : goal.loop-opened-smaller
loop-opened-smaller g c =
    let x = going c.args.doors.now c.args.connections.now.items c.args.opened.now.items c.args.queue.now.items c.args.traffics.now.items in
    let at = c.loop-opened in
    let y = going at.doors at.connections.items at.opened.items at.queue.items at.traffics.items in
    let came = c.accept_all.new in
    let now = c.poll_all.new in
    let rest = c.first_in_line.new.queue.items in
    let polls = subst (λ q. PollsAll (queued came.connections.items came.opened.items at.queue.items) (queued now.connections.items now.opened.items q))
    (c.in_default.ensures.0 ∙ sym c.in_default.ensures.1) c.in_ok-moved.ensures.0 in
    let less = left-less _ c.args.most x y came.doors came.connections.items now.connections.items came.opened.items now.opened.items rest
    at.invariant.goes c.in_ok-accept_all.ensures.0 polls
    (changed-so _ _ _ _ c.len-known.result c.len-in-loop-opened.result c.len-among.result c.len-in-loop-opened-2.result
    c.has_changed.result (c.len-known.ensures ∙ at.connections.ok.0)
    (c.len-in-loop-opened.ensures ∙ now.connections.ok.0 ∙ clients-long came.connections.items now.connections.items c.in_ok-moved.ensures.0.goes)
    (c.len-among.ensures ∙ came.opened.ok.0) (c.len-in-loop-opened-2.ensures ∙ now.opened.ok.0) c.has_changed.ensures c.if-has_changed.true) in
    omega (arith, less)

pub returns-then-changed-clause-looks : goal.returns-then-changed-clause-looks
returns-then-changed-clause-looks g c =
    let x = going c.args.doors.now c.args.connections.now.items c.args.opened.now.items c.args.queue.now.items c.args.traffics.now.items in
    let at = c.loop-opened in
    let y = going at.doors at.connections.items at.opened.items at.queue.items at.traffics.items in
    let came = c.accept_all.new in
    let now = c.poll_all.new in
    let rest = c.first_in_line.new.queue.items in
    let polls = subst (λ q. PollsAll (queued came.connections.items came.opened.items at.queue.items) (queued now.connections.items now.opened.items q))
    (c.in_default.ensures.0 ∙ sym c.in_default.ensures.1) c.in_ok-moved.ensures.0 in
    let same = unchanged-so _ _ _ _ c.len-known.result c.len-in-loop-opened.result c.len-among.result c.len-in-loop-opened-2.result
    c.has_changed.result (c.len-known.ensures ∙ at.connections.ok.0)
    (c.len-in-loop-opened.ensures ∙ now.connections.ok.0 ∙ clients-long came.connections.items now.connections.items c.in_ok-moved.ensures.0.goes)
    (c.len-among.ensures ∙ came.opened.ok.0) (c.len-in-loop-opened-2.ensures ∙ now.opened.ok.0) c.has_changed.ensures c.if-has_changed.false in
    looks-stay _ c.args.most x y came.doors came.connections.items now.connections.items came.opened.items now.opened.items rest
    at.invariant.goes c.in_ok-accept_all.ensures.0 polls c.in_default.ensures.1
    (ap₂ (λ ls ns. closed_off c.args.most came.doors ls && list_all (owes_there ls) ns) (sym c.deref.ensures.value) (sym c.deref-in-loop-opened.ensures.value)
    ∙ sym c.is_done.ensures ∙ c.if-is_done.false) same.0 same.1 c.rest.new.doors c.rest.ensures

pub returns-then-changed-clause-rounds : goal.returns-then-changed-clause-rounds
returns-then-changed-clause-rounds g c =
    let x = going c.args.doors.now c.args.connections.now.items c.args.opened.now.items c.args.queue.now.items c.args.traffics.now.items in
    let at = c.loop-opened in
    let y = going at.doors at.connections.items at.opened.items at.queue.items at.traffics.items in
    let came = c.accept_all.new in
    let now = c.poll_all.new in
    let rest = c.first_in_line.new.queue.items in
    let polls = subst (λ q. PollsAll (queued came.connections.items came.opened.items at.queue.items) (queued now.connections.items now.opened.items q))
    (c.in_default.ensures.0 ∙ sym c.in_default.ensures.1) c.in_ok-moved.ensures.0 in
    let few : length c.args.traffics.now.items < most_postings = omega (arith, c.if-len-ge-MOST_POSTINGS.false, c.len.ensures, c.args.traffics.now.ok.0) in
    let same = unchanged-so _ _ _ _ c.len-known.result c.len-in-loop-opened.result c.len-among.result c.len-in-loop-opened-2.result
    c.has_changed.result (c.len-known.ensures ∙ at.connections.ok.0)
    (c.len-in-loop-opened.ensures ∙ now.connections.ok.0 ∙ clients-long came.connections.items now.connections.items c.in_ok-moved.ensures.0.goes)
    (c.len-among.ensures ∙ came.opened.ok.0) (c.len-in-loop-opened-2.ensures ∙ now.opened.ok.0) c.has_changed.ensures c.if-has_changed.false in
    rounds-moved _ c.args.most at.changed x y came.doors came.connections.items now.connections.items came.opened.items now.opened.items rest
    few at.invariant.turned c.in_ok-accept_all.ensures.0 c.in_ok-accept_all.ensures.1 polls c.in_ok-moved.ensures.2
    c.in_default.ensures.1
    (ap₂ (λ ls ns. closed_off c.args.most came.doors ls && list_all (owes_there ls) ns) (sym c.deref.ensures.value) (sym c.deref-in-loop-opened.ensures.value)
    ∙ sym c.is_done.ensures ∙ c.if-is_done.false) same.0 same.1 c.in_ok-moved.moved c.in_ok-moved.ensures.1
    (elim c.then-changed.either [ inl before ↦ inl before | inr both ↦ inr both.1 ]) c.rest.new.doors c.rest.ensures

pub returns-in-loop-opened-clause-looks : goal.returns-in-loop-opened-clause-looks
returns-in-loop-opened-clause-looks g c =
    let x = going c.args.doors.now c.args.connections.now.items c.args.opened.now.items c.args.queue.now.items c.args.traffics.now.items in
    let at = c.loop-opened in
    let y = going at.doors at.connections.items at.opened.items at.queue.items at.traffics.items in
    let came = c.accept_all.new in
    let now = c.poll_all.new in
    let rest = c.first_in_line.new.queue.items in
    let polls = subst (λ q. PollsAll (queued came.connections.items came.opened.items at.queue.items) (queued now.connections.items now.opened.items q))
    (c.in_default.ensures.0 ∙ sym c.in_default.ensures.1) c.in_ok-moved.ensures.0 in
    let same = unchanged-so _ _ _ _ c.len-known.result c.len-in-loop-opened.result c.len-among.result c.len-in-loop-opened-2.result
    c.has_changed.result (c.len-known.ensures ∙ at.connections.ok.0)
    (c.len-in-loop-opened.ensures ∙ now.connections.ok.0 ∙ clients-long came.connections.items now.connections.items c.in_ok-moved.ensures.0.goes)
    (c.len-among.ensures ∙ came.opened.ok.0) (c.len-in-loop-opened-2.ensures ∙ now.opened.ok.0) c.has_changed.ensures c.if-has_changed.false in
    looks-still _ c.args.most x y came.doors came.connections.items now.connections.items came.opened.items now.opened.items rest
    at.invariant.goes c.in_ok-accept_all.ensures.0 polls c.in_default.ensures.1
    (ap₂ (λ ls ns. closed_off c.args.most came.doors ls && list_all (owes_there ls) ns) (sym c.deref.ensures.value) (sym c.deref-in-loop-opened.ensures.value)
    ∙ sym c.is_done.ensures ∙ c.if-is_done.false) same.0 same.1 c.in_ok-moved.moved c.in_ok-moved.ensures.1 c.if-moved.false c.in_ok-moved.ensures.2 c.requires
    (omega (arith, now.connections.ok.0, now.connections.ok.1, now.connections.small)) (at.invariant.turned.same c.if-changed.false) c.rest.new.doors c.rest.ensures

pub returns-in-loop-opened-clause-rounds : goal.returns-in-loop-opened-clause-rounds
returns-in-loop-opened-clause-rounds g c =
    let x = going c.args.doors.now c.args.connections.now.items c.args.opened.now.items c.args.queue.now.items c.args.traffics.now.items in
    let at = c.loop-opened in
    let y = going at.doors at.connections.items at.opened.items at.queue.items at.traffics.items in
    let came = c.accept_all.new in
    let now = c.poll_all.new in
    let rest = c.first_in_line.new.queue.items in
    let polls = subst (λ q. PollsAll (queued came.connections.items came.opened.items at.queue.items) (queued now.connections.items now.opened.items q))
    (c.in_default.ensures.0 ∙ sym c.in_default.ensures.1) c.in_ok-moved.ensures.0 in
    let few : length c.args.traffics.now.items < most_postings = omega (arith, c.if-len-ge-MOST_POSTINGS.false, c.len.ensures, c.args.traffics.now.ok.0) in
    let same = unchanged-so _ _ _ _ c.len-known.result c.len-in-loop-opened.result c.len-among.result c.len-in-loop-opened-2.result
    c.has_changed.result (c.len-known.ensures ∙ at.connections.ok.0)
    (c.len-in-loop-opened.ensures ∙ now.connections.ok.0 ∙ clients-long came.connections.items now.connections.items c.in_ok-moved.ensures.0.goes)
    (c.len-among.ensures ∙ came.opened.ok.0) (c.len-in-loop-opened-2.ensures ∙ now.opened.ok.0) c.has_changed.ensures c.if-has_changed.false in
    rounds-still _ c.args.most at.changed x y came.doors came.connections.items now.connections.items came.opened.items now.opened.items rest
    few at.invariant.turned c.in_ok-accept_all.ensures.0 c.in_ok-accept_all.ensures.1 polls c.in_ok-moved.ensures.2
    c.in_default.ensures.1
    (ap₂ (λ ls ns. closed_off c.args.most came.doors ls && list_all (owes_there ls) ns) (sym c.deref.ensures.value) (sym c.deref-in-loop-opened.ensures.value)
    ∙ sym c.is_done.ensures ∙ c.if-is_done.false) same.0 same.1 c.in_ok-moved.moved c.in_ok-moved.ensures.1
    c.if-changed.false c.if-moved.false c.rest.new.doors c.rest.ensures

use Rattle.std.proofs.Common.{◌≡◌, ap, length, subst, sym, rules}
use Rattle.behaviour_tree.specs.PartsView.{operation_view, parts_of}
use Rattle.post_box.specs.Refusals.{HasRoom}
use Rattle.post_box.specs.View.{box_of}
use Rattle.office_plain.specs.declared.kept.Kept.{Kept}
use Rattle.office_plain.proofs.Assembled.{accepts_all}
use Rattle.office_plain.proofs.kept.Kept.accept.Goals as goal

pub put-requires : goal.put-requires
put-requires c =
    subst (λ boxes. HasRoom (box_of boxes c.args.message.session))
    (sym (ap (λ (k : Kept). k.boxes) c.in_ok-start.ensures.others)) c.requires.room

pub returns : goal.returns
returns c =
    let next : c.numbered-number.result ≡ length c.args.self.now.messages = search rules in
    let note = c.in_ok-note.ensures in
    accepts_all (parts_of c.args.program.now) (operation_view c.args.operation.now) c.args.message c.args.self.now
    c.start.new.self c.note.new.book c.put.new.boxes c.numbered-number.result _ _ next
    (record { noted = note.noted; others = note.origins }) (record { changed = note.standing; others = note.standings })
    c.in_ok-start.ensures c.in_ok-put.ensures (search rules) c.in_ok-push.ensures.ok

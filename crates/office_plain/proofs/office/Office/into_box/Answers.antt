use Rattle.std.proofs.Common.{◌≡◌, ap, sym, ◌∙◌, length}
use Rattle.office_core.specs.Boxes.{box}
use Rattle.office_plain.proofs.Waiting.{box_count}
use Rattle.office_plain.specs.View.{setting_of, past_in}
use Rattle.office_plain.proofs.Routing.{box_full, box_free}
use Rattle.office_plain.proofs.office.Office.into_box.Goals as goal

pub returns-then-len-ge-MOST_WAITING : goal.returns-then-len-ge-MOST_WAITING
returns-then-len-ge-MOST_WAITING c =
    let o = c.args.self.now in
    let s = c.args.session in
    let count : c.len.result ≡ length (box (past_in o) s) =
    c.len.ensures.count ∙ ap length ((o.tied c.requires.ready).boxes s c.requires.lives) ∙ sym (box_count (past_in o) s) in
    box_full (setting_of o) (past_in o) s c.len.result count c.if-len-ge-MOST_WAITING.true

pub returns : goal.returns
returns c =
    let o = c.args.self.now in
    let s = c.args.session in
    let count : c.len.result ≡ length (box (past_in o) s) =
    c.len.ensures.count ∙ ap length ((o.tied c.requires.ready).boxes s c.requires.lives) ∙ sym (box_count (past_in o) s) in
    box_free (setting_of o) (past_in o) s c.len.result count c.if-len-ge-MOST_WAITING.false

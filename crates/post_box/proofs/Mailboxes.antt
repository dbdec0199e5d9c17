-- What one box more makes of all boxes.
use Rattle.std.proofs.Common.{◌≡◌, ℕ, zero, suc, ◌<◌, List, [], ◌∷◌, ◌++◌, length, get_or, refl, sym, ap, subst, ◌∙◌, arith}
use Rattle.post_box.specs.declared.mailbox.Mailbox.{Mailbox}
use Rattle.std.specs.Vec.{vec_len}
use Rattle.post_box.specs.declared.boxes.Boxes.{Boxes}
use Rattle.post_box.specs.View.{box_in, box_of, AreSame}

-- an empty box more
pub one_more : (boxes : List Mailbox) (box : Mailbox) (s : ℕ) → box.list.items ≡ [] → box_in (boxes ++ box ∷ []) s ≡ box_in boxes s
one_more [] box zero e = e
one_more [] box (suc s) e = refl
one_more (b ∷ boxes) box zero e = refl
one_more (b ∷ boxes) box (suc s) e = one_more boxes box s e

-- the box of a number
pub box_at : (boxes : List Mailbox) (s : ℕ) (box : Mailbox) → s < length boxes → box ≡ get_or boxes s box → box_in boxes s ≡ box.list.items
box_at [] s box h e = absurd (omega arith)
box_at (b ∷ boxes) zero box h e = ap (λ (m : Mailbox). m.list.items) (sym e)
box_at (b ∷ boxes) (suc s) box h e = let g : s < length boxes = omega arith in box_at boxes s box g e

-- the box of a session, once some boxes were added
pub box_reached : (old mid : Boxes) (s : ℕ) (box : Mailbox) → AreSame old mid → s < vec_len mid.list → box ≡ get_or mid.list.items s box
    → box.list.items ≡ box_of old s
box_reached old mid s box same h e = sym (box_at mid.list.items s box (subst (λ n. s < n) mid.list.ok.0 h) e) ∙ same s

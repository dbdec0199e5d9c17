-- What the steps of an acceptance did, put together.
use Rattle.std.proofs.Common.{◌≡◌, ℕ, ◌+◌, true, false, List, [], ◌∷◌, ◌++◌, length, refl, sym, ap, subst, ◌∙◌, Some, is_some}
use Rattle.std.specs.Prelude.{if◌then◌else◌}
use Rattle.jolie_trees.specs.Limits.{in_u64}
use Rattle.behaviour_tree.specs.Data.{OperationPart, ProgramParts}
use Rattle.correlation.specs.declared.rows.Rows.{Rows}
use Rattle.correlation.specs.Sessions.{changed, is_born, is_live}
use Rattle.correlation.specs.View.{sessions_of}
use Rattle.post_box.specs.declared.boxes.Boxes.{Boxes}
use Rattle.post_box.specs.Oldest.{waiting}
use Rattle.post_box.specs.View.{box_of, ChangesOnly}
use Rattle.reqresp_book.specs.declared.book.Book.{Book}
use Rattle.reqresp_book.specs.View.{ComesFrom, Stands}
use Rattle.office_core.specs.declared.message.Message.{Message}
use Rattle.office_core.specs.Weights.{weight}
use Rattle.office_plain.specs.SetNumbers.{numbered_sets}
use Rattle.office_plain.specs.declared.kept.Kept.{Kept}
use Rattle.office_plain.specs.Accepting.{brought, newborn_row, if_starts, started, standing_first, write_all, Accepts, CanStart, CanWrite, Opens, Starts}
use Rattle.office_plain.proofs.Writes.{newborn_written, newborn_lives}

-- ---- the session that a message starts

if_not : {A : Type 0} (m : Message) (x : A) (xs : List A) → m.starts ≡ false → xs ≡ if_starts m x xs
if_not m x xs off = sym (ap (λ b. if b then xs ++ x ∷ [] else xs) off)

if_so : {A : Type 0} (m : Message) (x : A) (xs : List A) → m.starts ≡ true → xs ++ x ∷ [] ≡ if_starts m x xs
if_so m x xs on = sym (ap (λ b. if b then xs ++ x ∷ [] else xs) on)

-- a message that starts none
pub starts_none : (parts : ProgramParts) (o : OperationPart) (m : Message) (k : Kept) → m.starts ≡ false
    → Starts parts o m k k
starts_none parts o m k off =
    record {
      sessions = if_not m (newborn_row m.service) k.sessions off;
      places = if_not m [] k.places.items off;
      rows = if_not m (started parts o m) (sessions_of k.rows) off;
      others = refl;
    }

-- the session that is opened lives
pub opened_lives : (parts : ProgramParts) (s d : ℕ) (old mid : Kept) → Opens parts s d old mid
    → is_live (sessions_of mid.rows) s ≡ true
opened_lives parts s d old mid opens =
    ap (λ l. is_live l s) opens.rows ∙ newborn_lives s (numbered_sets parts d) (sessions_of old.rows)

-- what the message brings can be written into it
pub opened_can : (parts : ProgramParts) (o : OperationPart) (m : Message) (old mid : Kept)
    → Opens parts m.session m.service old mid → CanStart parts o m (sessions_of old.rows) → m.starts ≡ true
    → CanWrite m.session (sessions_of mid.rows) (brought parts o m)
opened_can parts o m old mid opens can on =
    subst (λ l. CanWrite m.session l (brought parts o m)) (sym opens.rows) (can on)

-- a message that starts one, in whose variables is written what it brings
pub starts_one : (parts : ProgramParts) (o : OperationPart) (m : Message) (old mid : Kept) (rows : Rows)
    → m.starts ≡ true
    → is_born (sessions_of old.rows) m.session ≡ false → Opens parts m.session m.service old mid
    → sessions_of rows ≡ changed m.session (write_all (brought parts o m)) (sessions_of mid.rows)
    → Starts parts o m old (record mid { rows = rows })
starts_one parts o m old mid rows on unborn opens written =
    record {
      sessions = opens.sessions ∙ if_so m (newborn_row m.service) old.sessions on;
      places = opens.places ∙ if_so m [] old.places.items on;
      rows =
          written
          ∙ ap (changed m.session (write_all (brought parts o m))) opens.rows
          ∙ newborn_written m.session (numbered_sets parts m.service) (brought parts o m) (sessions_of old.rows) unborn
          ∙ if_so m (started parts o m) (sessions_of old.rows) on;
      others = ap (λ (k : Kept). record k { rows = rows }) opens.others;
    }

-- ---- all steps

pub accepts_all : (parts : ProgramParts) (o : OperationPart) (m : Message) (old mid : Kept) (book : Book)
    (boxes : Boxes)
    (number w : ℕ) (messages : List Message) → number ≡ length old.messages
    → ComesFrom number m.origin old.book book → Stands number (Some (standing_first (is_some o.response))) old.book book
    → Starts parts o m (record old { book = book }) mid
    → ChangesOnly m.session (box_of mid.boxes m.session ++ waiting m.op number ∷ []) mid.boxes boxes
    → w ≡ in_u64 (mid.weight + in_u64 (weight m.value)) → messages ≡ mid.messages ++ m ∷ []
    → Accepts parts o m old (record mid { boxes = boxes; weight = w; messages = messages })
accepts_all parts o m old mid book boxes number w messages next comes stands starts puts heavier pushed =
    record {
      messages = pushed ∙ ap (λ (k : Kept). k.messages ++ m ∷ []) starts.others;
      weight = heavier ∙ ap (λ (k : Kept). in_u64 (k.weight + in_u64 (weight m.value))) starts.others;
      sessions = starts.sessions;
      places = starts.places;
      boxes =
          subst (λ (p : ℕ × Boxes). ChangesOnly m.session (box_of p.1 m.session ++ waiting m.op p.0 ∷ []) p.1 boxes)
          (λ i. (next i, (starts.others i).boxes)) puts;
      origins =
          subst (λ (p : ℕ × Book). ComesFrom p.0 m.origin old.book p.1)
          (λ i. (next i, (sym starts.others i).book)) comes;
      standings =
          subst (λ (p : ℕ × Book). Stands p.0 (Some (standing_first (is_some o.response))) old.book p.1)
          (λ i. (next i, (sym starts.others i).book)) stands;
      rows = starts.rows;
      calls = ap (λ (k : Kept). k.calls) starts.others;
      outcomes = ap (λ (k : Kept). k.outcomes) starts.others;
      console = ap (λ (k : Kept). k.console) starts.others;
      remote = ap (λ (k : Kept). k.remote) starts.others;
    }

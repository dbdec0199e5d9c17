-- The entries of what happened in a history are those of the history.
use Rattle.std.proofs.Common.{◌≡◌, Bool, List, [], ◌∷◌, ◌++◌, refl, sym, ap, ◌∙◌}
use Rattle.std.specs.List.{list_any}
use Rattle.office_core.specs.declared.history.Entry.{Entry}
use Rattle.office_core.specs.Limits.{Setting}
use Rattle.office_core.specs.Past.{Past, nothing_yet, some_entry}
use Rattle.office_core.specs.Accepted.{then_one, then_all, past_of}

append_nil : (es : List Entry) → es ++ [] ≡ es
append_nil [] = refl
append_nil (e ∷ es) = ap (λ l. e ∷ l) (append_nil es)

append_one : (ds : List Entry) (e : Entry) (es : List Entry) → (ds ++ e ∷ []) ++ es ≡ ds ++ (e ∷ es)
append_one [] e es = refl
append_one (d ∷ ds) e es = ap (λ l. d ∷ l) (append_one ds e es)

entries_after : (w : Setting) (past : Past) (es : List Entry) → (then_all w past es).entries ≡ past.entries ++ es
entries_after w past [] = sym (append_nil past.entries)
entries_after w past (e ∷ es) = entries_after w (then_one w past e) es ∙ append_one past.entries e es

pub entries_kept : (w : Setting) (h : List Entry) → (past_of w h).entries ≡ h
entries_kept w h = entries_after w nothing_yet h

-- whether a history has an entry of a kind
pub some_in : (w : Setting) (h : List Entry) (is_it : Entry → Bool) → list_any is_it h ≡ some_entry (past_of w h) is_it
some_in w h is_it = ap (list_any is_it) (sym (entries_kept w h))

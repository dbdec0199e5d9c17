-- What one entry more makes of what happened: the filters of a longer history.
use Rattle.std.proofs.Common.{◌≡◌, ℕ, zero, suc, Bool, true, false, ◌&&◌, ◌||◌, List, [], ◌∷◌, ◌++◌, refl, sym, ap, subst, ◌∙◌, Option, None, Some}
use Rattle.std.specs.List.{list_any, filter_map, cons_option}
use Rattle.std.proofs.lemmas.List.Elements.{filter_map-append}
use Rattle.std.proofs.lemmas.List.Folds.{list_any-append}
use Rattle.office_core.specs.declared.history.Entry.{Entry}
use Rattle.office_core.specs.Limits.{Setting}
use Rattle.office_core.specs.Past.{Message, Past, nothing_yet, some_entry}
use Rattle.office_core.specs.Accepted.{accepted_in, with_message, then_one, then_all, past_of}
use Rattle.office_core.specs.Legal.{IsLegalEntry, AreLegal, IsLegal}

-- ---- histories

then_all_more : (w : Setting) (past : Past) (es : List Entry) (e : Entry)
    → then_all w past (es ++ e ∷ []) ≡ then_one w (then_all w past es) e
then_all_more w past [] e = refl
then_all_more w past (d ∷ es) e = then_all_more w (then_one w past d) es e

-- what happened in a history with one entry more
pub past_more : (w : Setting) (h : List Entry) (e : Entry) → past_of w (h ++ e ∷ []) ≡ then_one w (past_of w h) e
past_more w h e = then_all_more w nothing_yet h e

are_legal_more : (w : Setting) (past : Past) (es : List Entry) (e : Entry)
    → AreLegal w past es → IsLegalEntry w (then_all w past es) e → AreLegal w past (es ++ e ∷ [])
are_legal_more w past [] e h g = (g, tt)
are_legal_more w past (d ∷ es) e h g = (h.0, are_legal_more w (then_one w past d) es e h.1 g)

-- a legal history with one legal entry more
pub legal_more : (w : Setting) (h : List Entry) (e : Entry)
    → IsLegal w h → IsLegalEntry w (past_of w h) e → IsLegal w (h ++ e ∷ [])
legal_more w h e legal g = are_legal_more w nothing_yet h e legal g

-- ---- whether there is an entry

or_false : (b : Bool) → (b || false) ≡ b
or_false true = refl
or_false false = refl

or_true : (b : Bool) → (b || true) ≡ true
or_true true = refl
or_true false = refl

-- whether there is an entry of a kind among one more
pub some_more : (w : Setting) (past : Past) (e : Entry) (is_it : Entry → Bool)
    → some_entry (then_one w past e) is_it ≡ (some_entry past is_it || is_it e)
some_more w past e is_it =
    list_any-append is_it past.entries (e ∷ []) ∙ ap (λ b. some_entry past is_it || b) (or_false (is_it e))

-- an entry of another kind
pub some_same : (w : Setting) (past : Past) (e : Entry) (is_it : Entry → Bool)
    → is_it e ≡ false → some_entry (then_one w past e) is_it ≡ some_entry past is_it
some_same w past e is_it h =
    some_more w past e is_it ∙ ap (λ b. some_entry past is_it || b) h ∙ or_false (some_entry past is_it)

-- an entry of the kind
pub some_now : (w : Setting) (past : Past) (e : Entry) (is_it : Entry → Bool)
    → is_it e ≡ true → some_entry (then_one w past e) is_it ≡ true
some_now w past e is_it h =
    some_more w past e is_it ∙ ap (λ b. some_entry past is_it || b) h ∙ or_true (some_entry past is_it)

-- ---- what entries give

append_nil : {A : Type 0} (xs : List A) → xs ++ [] ≡ xs
append_nil [] = refl
append_nil (x ∷ xs) = ap (λ l. x ∷ l) (append_nil xs)

-- an entry that gives nothing
pub given_same : {A : Type 0} (w : Setting) (past : Past) (e : Entry) (f : Entry → Option A)
    → f e ≡ None → filter_map f (then_one w past e).entries ≡ filter_map f past.entries
given_same w past e f h =
    filter_map-append f past.entries (e ∷ [])
    ∙ ap (λ o. filter_map f past.entries ++ cons_option o []) h
    ∙ append_nil (filter_map f past.entries)

-- an entry that gives something
pub given_more : {A : Type 0} (w : Setting) (past : Past) (e : Entry) (f : Entry → Option A) (x : A)
    → f e ≡ Some x → filter_map f (then_one w past e).entries ≡ filter_map f past.entries ++ x ∷ []
given_more w past e f x h =
    filter_map-append f past.entries (e ∷ []) ∙ ap (λ o. filter_map f past.entries ++ cons_option o []) h

-- ---- messages

-- an entry that accepts none
pub messages_same : (w : Setting) (past : Past) (e : Entry)
    → accepted_in w past e ≡ None → (then_one w past e).messages ≡ past.messages
messages_same w past e h = ap (with_message past.messages) h

-- an entry that accepts one
pub messages_more : (w : Setting) (past : Past) (e : Entry) (m : Message)
    → accepted_in w past e ≡ Some m → (then_one w past e).messages ≡ past.messages ++ m ∷ []
messages_more w past e m h = ap (with_message past.messages) h

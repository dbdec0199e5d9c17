-- What installing and merging make of a table, one handler after the other.
use Rattle.std.proofs.Common.{◌≡◌, ℕ, true, ◌&&◌, List, [], ◌∷◌, ◌++◌, map, refl, sym, ap, subst, ◌∙◌}
use Rattle.std.proofs.lemmas.List.{map-append}
use Rattle.behaviour_tree.specs.declared.behaviour.Handler.{Handler}
use Rattle.behaviour_tree.specs.declared.behaviour.Handlers.{Handlers, out-Handlers}
use Rattle.behaviour_tree.specs.Data.{Proc}
use Rattle.behaviour_tree.specs.View.{HandlerView, handler_view, handlers_of, handlers_view}
use Rattle.session_calculus.specs.Tables.{Entries, Table, over, plus, put_over, taken_in, with, with_handler}
use Rattle.handler_table.specs.Entries.{are_of_scopes, entries_in, entries_of, entry_of, is_scope, number_of}
use Rattle.handler_table.specs.Rows.{are_scopes, views_of}
use Rattle.handler_table.specs.Filled.{taken, with_all}
use Rattle.handler_table.proofs.Places.{and_both, and_left, and_right}
use Rattle.handler_table.proofs.Views.{handlers_seen}

-- handlers as a table takes them go over it one after the other
taken_over : (q : ℕ) (h : Table) (vs : List HandlerView) (new : Table) → with_all q (map (taken q h) vs) new ≡ put_over q h (handlers_of vs) new
taken_over q h [] new = refl
taken_over q h (v ∷ vs) new = taken_over q h vs (with_handler q v.key (taken_in q h v.key v.body) new)

-- handlers as a table takes them, over that table
pub installed : (q : ℕ) (h : Table) (hs : Handlers) (vs : List HandlerView) (faults scopes : Entries)
    → vs ≡ map (taken q h) (map handler_view (out-Handlers hs).list.items) → faults ≡ h.faults → scopes ≡ h.scopes
    → with_all q vs (record { faults = faults; scopes = scopes }) ≡ plus q h (handlers_view hs)
installed q h hs vs faults scopes e f g =
    let table : Entries → Entries → Table = λ a b. record { faults = a; scopes = b } in
    ap (λ us. with_all q us (table faults scopes)) e
    ∙ ap (λ a. with_all q (map (taken q h) (map handler_view (out-Handlers hs).list.items)) (table a scopes)) f
    ∙ ap (λ b. with_all q (map (taken q h) (map handler_view (out-Handlers hs).list.items)) (table h.faults b)) g
    ∙ taken_over q h (map handler_view (out-Handlers hs).list.items) h
    ∙ ap (plus q h) (sym (handlers_seen hs))

-- the last of some entries goes over others first
over_last : (es : Entries) (e : ℕ × Proc) (more : Entries) → over (es ++ e ∷ []) more ≡ over es (with e.0 e.1 more)
over_last [] e more = refl
over_last (d ∷ es) e more = ap (with d.0 d.1) (over_last es e more)

-- the same of the last of some handlers
pub over_popped : (hs before : List Handler) (h : Handler) (more : Entries) → hs ≡ before ++ h ∷ []
    → over (entries_of hs) more ≡ over (entries_of before) (with (number_of (handler_view h).key) (handler_view h).body more)
over_popped hs before h more e =
    ap (λ l. over (entries_of l) more) e
    ∙ ap (λ es. over es more) (map-append entry_of before (h ∷ []))
    ∙ over_last (entries_of before) (entry_of h) more

-- handlers of scopes are so to the last
scopes_last : (before : List Handler) (h : Handler) → are_scopes (views_of (before ++ h ∷ [])) ≡ true
    → (are_scopes (views_of before) ≡ true) × (is_scope (handler_view h).key ≡ true)
scopes_last [] h s = (refl, and_left (is_scope (handler_view h).key) true s)
scopes_last (g ∷ before) h s =
    let here = is_scope (handler_view g).key in
    let rest = are_scopes (views_of (before ++ h ∷ [])) in
    let e = scopes_last before h (and_right here rest s) in
    (and_both here (are_scopes (views_of before)) (and_left here rest s) e.0, e.1)

pub scopes_popped : (hs before : List Handler) (h : Handler) → hs ≡ before ++ h ∷ [] → are_scopes (views_of hs) ≡ true
    → (are_scopes (views_of before) ≡ true) × (is_scope (handler_view h).key ≡ true)
scopes_popped hs before h e s = scopes_last before h (subst (λ l. are_scopes (views_of l) ≡ true) e s)

-- the entries of handlers
pub entries_listed : (hs : List Handler) → entries_in (handlers_of (views_of hs)) ≡ entries_of hs
entries_listed [] = refl
entries_listed (h ∷ hs) = ap (λ es. entry_of h ∷ es) (entries_listed hs)

pub entries_seen : (hs : Handlers) → entries_in (handlers_view hs) ≡ entries_of (out-Handlers hs).list.items
entries_seen hs = ap entries_in (handlers_seen hs) ∙ entries_listed (out-Handlers hs).list.items

-- the keys of handlers
pub keys_listed : (vs : List HandlerView) → are_of_scopes (handlers_of vs) ≡ are_scopes vs
keys_listed [] = refl
keys_listed (v ∷ vs) = ap (λ b. is_scope v.key && b) (keys_listed vs)

pub keys_seen : (hs : Handlers) → are_of_scopes (handlers_view hs) ≡ are_scopes (views_of (out-Handlers hs).list.items)
keys_seen hs = ap are_of_scopes (handlers_seen hs) ∙ keys_listed (views_of (out-Handlers hs).list.items)

-- How many entries handlers are.
use Rattle.std.proofs.Common.{◌≡◌, List, [], ◌∷◌, suc, length, map, refl, ap}
use Rattle.std.proofs.lemmas.List.{length-map}
use Rattle.behaviour_tree.specs.declared.behaviour.Handlers.{Handlers, out-Handlers}
use Rattle.behaviour_tree.specs.View.{HandlerView, handler_view, handlers_of, handlers_view}
use Rattle.handler_table.specs.Entries.{entries_in}
use Rattle.handler_table.proofs.Views.{handlers_seen}

listed : (vs : List HandlerView) → length (entries_in (handlers_of vs)) ≡ length vs
listed [] = refl
listed (v ∷ vs) = ap suc (listed vs)

pub entries_counted : (hs : Handlers) → length (out-Handlers hs).list.items ≡ length (entries_in (handlers_view hs))
entries_counted hs =
    let items = (out-Handlers hs).list.items in
    rw (handlers_seen hs, listed (map handler_view items), length-map items handler_view) refl

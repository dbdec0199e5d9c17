-- Handlers of Rust as plain data, and one element more of a list.
use Rattle.std.proofs.Common.{rules, ◌≡◌, ℕ, ◌+◌, ◌<◌, List, [], ◌∷◌, ◌++◌, map, length, take, get_or, sym, ap, ◌∙◌}
use Rattle.std.proofs.lemmas.List.{map_more}
use Rattle.behaviour_tree.specs.declared.behaviour.Handler as handler
use Rattle.behaviour_tree.specs.declared.behaviour.Handler.{Handler, out-Handler}
use Rattle.behaviour_tree.specs.declared.behaviour.Handlers as handlers
use Rattle.behaviour_tree.specs.declared.behaviour.Handlers.{Handlers, out-Handlers}
use Rattle.behaviour_tree.specs.View.{behaviour_view, handler_view, handlers_of, handlers_view}

-- a handler by its parts
pub handler_seen : (h : Handler) → handler_view h ≡ record { key = (out-Handler h).key; body = behaviour_view (out-Handler h).body }
handler_seen h = search (rules, handler.the_lemmas)

-- handlers by their list
pub handlers_seen : (hs : Handlers) → handlers_view hs ≡ handlers_of (map handler_view (out-Handlers hs).list.items)
handlers_seen hs = search (rules, handlers.the_lemmas)

-- one element more of a list
pub one_more : {A B : Type 0} (f : A → B) (xs : List A) (i : ℕ) (x : A) → i < length xs → x ≡ get_or xs i x
    → map f (take i xs) ++ f x ∷ [] ≡ map f (take (i + 1) xs)
one_more f xs i x below is = ap (λ y. map f (take i xs) ++ f y ∷ []) is ∙ sym (map_more f xs i x below)

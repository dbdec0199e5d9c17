-- The entries that handlers are: their numbers and behaviours.
use Rattle.std.specs.Prelude.{ℕ, Bool, true, false, ◌&&◌, List, [], ◌∷◌, map}
use Rattle.behaviour_tree.specs.declared.behaviour.HandlerKey.{HandlerKey}
use Rattle.behaviour_tree.specs.declared.behaviour.HandlerKey.TheVariants as key
use Rattle.behaviour_tree.specs.declared.behaviour.Handler.{Handler}
use Rattle.behaviour_tree.specs.Data.{Proc, HandlerList, no_handlers, handler}
use Rattle.behaviour_tree.specs.View.{HandlerView, handler_view}
use Rattle.session_calculus.specs.Tables.{Entries}

-- the number in a key; the scope around has none
abbrev pub number_of : HandlerKey → ℕ
number_of key.This = 0
number_of (key.Fault f) = f
number_of (key.Scope q) = q

-- the entry that a handler is
abbrev pub entry_seen : HandlerView → ℕ × Proc
entry_seen h = (number_of h.key, h.body)

-- the entry that a handler of Rust is
abbrev pub entry_of : Handler → ℕ × Proc
entry_of h = entry_seen (handler_view h)

-- the entries that handlers of Rust are
abbrev pub entries_of : List Handler → Entries
entries_of hs = map entry_of hs

-- the entries that the handlers of a list are
abbrev pub entries_in : HandlerList → Entries
entries_in no_handlers = []
entries_in (handler k p rest) = (number_of k, p) ∷ entries_in rest

-- a key is the name of a scope
abbrev pub is_scope : HandlerKey → Bool
is_scope key.This = false
is_scope (key.Fault f) = false
is_scope (key.Scope q) = true

-- each key of a list of handlers is
abbrev pub are_of_scopes : HandlerList → Bool
are_of_scopes no_handlers = true
are_of_scopes (handler k p rest) = is_scope k && are_of_scopes rest

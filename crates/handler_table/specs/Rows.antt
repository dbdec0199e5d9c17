-- These definitions serve the proofs alone: no promise speaks of them.
-- What a row of handlers keeps, and where a number stands in it.
use Rattle.std.specs.Prelude.{ℕ, suc, ◌+◌, Bool, true, ◌&&◌, nat_lt, List, [], ◌∷◌, map, Result, Ok, Err}
use Rattle.std.specs.Ordering.{nat_cmp, match_ordering}
use Rattle.behaviour_tree.specs.declared.behaviour.Handler.{Handler}
use Rattle.behaviour_tree.specs.View.{HandlerView, handler_view}
use Rattle.session_calculus.specs.Tables.{Entries}
use Rattle.handler_table.specs.Entries.{is_scope}

-- ---- what a row keeps

-- handlers of Rust as plain data
abbrev pub views_of : List Handler → List HandlerView
views_of hs = map handler_view hs

-- the first number is above another
abbrev pub starts_above : ℕ → Entries → Bool
starts_above n [] = true
starts_above n (e ∷ es) = nat_lt n e.0

-- the numbers rise
abbrev pub is_rising : Entries → Bool
is_rising [] = true
is_rising (e ∷ es) = starts_above e.0 es && is_rising es

-- each key is the name of a scope
abbrev pub are_scopes : List HandlerView → Bool
are_scopes [] = true
are_scopes (h ∷ hs) = is_scope h.key && are_scopes hs

-- ---- where a number stands

-- a place after another entry
abbrev pub behind : Result ℕ ℕ → Result ℕ ℕ
behind (Ok k) = Ok (suc k)
behind (Err k) = Err (suc k)

-- a place after n entries
abbrev pub moved : ℕ → Result ℕ ℕ → Result ℕ ℕ
moved n (Ok k) = Ok (n + k)
moved n (Err k) = Err (n + k)

-- where a number stands, or where it would
abbrev pub searched : ℕ → Entries → Result ℕ ℕ
searched n [] = Err 0
searched n (e ∷ es) = match_ordering (nat_cmp n e.0) (Err 0) (Ok 0) (behind (searched n es))

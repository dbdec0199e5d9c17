-- What sessions are of, what their variables have, and which live session has the key that values name.
use Rattle.std.specs.Prelude.{ℕ, Bool, List, [], ◌∷◌, map, nat_eq, ◌++◌, true, false, not, is_some, ◌&&◌}
use Rattle.std.specs.Prelude.{if◌then◌else◌, Option, None, Some, option_map, option_and_then}
use Rattle.std.specs.List.{filter_map, list_all, list_any}
use Rattle.jolie_trees.specs.declared.root.Root.{Root}
use Rattle.correlation.specs.Rows.{session_with}
use Rattle.correlation.specs.declared.bind_reply.BindReply.{BindReply}
use Rattle.correlation.specs.declared.bind_reply.BindReply.TheVariants as reply
use Rattle.correlation.specs.declared.key.KeyRow.{KeyRow}
use Rattle.correlation.specs.declared.session.SetOf.{SetOf}
use Rattle.correlation.specs.declared.session.Written.{Written}
use Rattle.correlation.specs.declared.session.Session.{Session}

-- what a variable has, once it is written
abbrev pub value_of : List Written → ℕ → Option Root
value_of [] v = None
value_of (w ∷ ws) v = if nat_eq w.variable v then Some w.value else value_of ws v

-- all of them, where each is there
abbrev pub all_there : {A : Type 0} → List (Option A) → Option (List A)
all_there [] = Some []
all_there (None ∷ xs) = None
all_there (Some x ∷ xs) = option_map (λ ys. x ∷ ys) (all_there xs)

-- the variables of the set of a number
abbrev pub variables_of : ℕ → List SetOf → Option (List ℕ)
variables_of n [] = None
variables_of n (s ∷ ss) = if nat_eq s.set n then Some s.variables else variables_of n ss

-- the key of a session in a set, once each variable is written; a released session has none
abbrev pub key_of : Session → ℕ → Option (List Root)
key_of s n =
    if s.released then None
    else option_and_then (λ vs. all_there (map (value_of s.written) vs)) (variables_of n s.sets)

-- the complete keys of a set, each with its session
abbrev pub rows_of : List Session → ℕ → List KeyRow
rows_of rows n =
    filter_map (λ (s : Session). option_map (λ k. record { key = k; session = s.number }) (key_of s n)) rows

-- the live session whose key in a set has these values
abbrev pub holder : List Session → ℕ → List Root → Option ℕ
holder rows n values = session_with values (rows_of rows n)

-- ---- what calls make of sessions

-- whether a session was born
abbrev pub is_born : List Session → ℕ → Bool
is_born rows n = list_any (λ (s : Session). nat_eq s.number n) rows

-- whether a session was born and not released
abbrev pub is_live : List Session → ℕ → Bool
is_live rows n = list_any (λ (s : Session). nat_eq s.number n && not s.released) rows

-- the session of a number
abbrev pub session_of : List Session → ℕ → Option Session
session_of [] n = None
session_of (s ∷ ss) n = if nat_eq s.number n then Some s else session_of ss n

-- the first of a list
abbrev pub first : {A : Type 0} → List A → Option A
first [] = None
first (x ∷ xs) = Some x

-- two sets have different numbers, and share no variable
abbrev pub differ : SetOf → SetOf → Bool
differ s t = not (nat_eq s.set t.set) && not (list_any (λ v. list_any (nat_eq v) t.variables) s.variables)

-- each set has a variable, a number of its own, and variables of its own
abbrev pub are_sets : List SetOf → Bool
are_sets [] = true
are_sets (s ∷ ss) = is_some (first s.variables) && list_all (differ s) ss && are_sets ss

-- a session that is born
abbrev pub newborn : ℕ → List SetOf → Session
newborn n sets = record { number = n; sets = sets; written = []; released = false }

-- a session with one more value
abbrev pub write : ℕ → Root → Session → Session
write v x s = record {
  number = s.number;
  sets = s.sets;
  written = s.written ++ record { variable = v; value = x } ∷ [];
  released = s.released;
}

-- a session that is released
abbrev pub freed : Session → Session
freed s = record { number = s.number; sets = s.sets; written = s.written; released = true }

-- the sessions once that of a number is changed
abbrev pub changed : ℕ → (Session → Session) → List Session → List Session
changed n f rows = map (λ (s : Session). if nat_eq s.number n then f s else s) rows

-- ---- what a binding answers

-- a complete key, and the number of its set
pub record SetKey : Type 0 where
  pub set : ℕ
  pub values : List Root

-- the first set that has a variable
abbrev pub set_with : ℕ → List SetOf → Option SetOf
set_with v [] = None
set_with v (s ∷ ss) = if list_any (nat_eq v) s.variables then Some s else set_with v ss

-- the key of a set, once it is complete
abbrev pub key_in : ℕ → Option (List Root) → Option SetKey
key_in n None = None
key_in n (Some k) = Some (record { set = n; values = k })

-- the key of a session in the set that has a variable
abbrev pub key_with : ℕ → Session → Option SetKey
key_with v s = option_and_then (λ (t : SetOf). key_in t.set (key_of s t.set)) (set_with v s.sets)

-- the key that a value completes
abbrev pub completed : Session → ℕ → Root → Option SetKey
completed s v x = key_with v (write v x s)

-- the live session that has the key which a value completes
abbrev pub held : List Session → Session → ℕ → Root → Option ℕ
held rows s v x = option_and_then (λ (k : SetKey). holder rows k.set k.values) (completed s v x)

-- Held where a session has the key, else Bound
abbrev pub reply_by : Option ℕ → BindReply
reply_by None = reply.Bound
reply_by (Some t) = reply.Held t

-- Fixed where the variable was written; else Held where the value completes a key that a live session has; else Bound
abbrev pub reply_of : List Session → Session → ℕ → Root → BindReply
reply_of rows s v x = if is_some (value_of s.written v) then reply.Fixed else reply_by (held rows s v x)

-- what a binding of a variable of the session of a number answers
abbrev pub reply_to : List Session → ℕ → ℕ → Root → Option BindReply
reply_to rows n v x = option_map (λ (s : Session). reply_of rows s v x) (session_of rows n)

-- the first where a binding was answered Bound, else the second
abbrev pub if_bound : {A : Type 0} → BindReply → A → A → A
if_bound reply.Bound new old = new
if_bound (reply.Held t) new old = old
if_bound reply.Fixed new old = old

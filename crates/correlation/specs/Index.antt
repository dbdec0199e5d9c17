-- These definitions serve the proofs: no promise speaks of them but that of `Session::key_with`.
-- How the sorted keys of each set mirror the sessions.
use Rattle.std.specs.Prelude.{◌≡◌, ℕ, Bool, true, false, not, ◌&&◌, List, [], ◌∷◌, length, nat_eq, filter}
use Rattle.std.specs.Prelude.{if◌then◌else◌, Option, None, Some, option_and_then}
use Rattle.std.specs.Option.{is_none}
use Rattle.jolie_trees.specs.declared.root.Root.{Root}
use Rattle.correlation.specs.Rows.{session_with}
use Rattle.correlation.specs.Sessions.{SetKey, are_sets, is_born, rows_of}
use Rattle.correlation.specs.Places.{with_row}
use Rattle.correlation.specs.declared.key.KeyRow.{KeyRow}
use Rattle.correlation.specs.declared.session.Session.{Session}
use Rattle.correlation.specs.declared.session.Completed.{Completed}
use Rattle.correlation.specs.declared.set_keys.SetKeys.{SetKeys}

-- the keys of the set of a number
abbrev pub keys_of : List SetKeys → ℕ → List KeyRow
keys_of [] n = []
keys_of (s ∷ ss) n = if nat_eq s.set n then s.keys.rows.items else keys_of ss n

-- a set of the number is there
abbrev pub has_set : ℕ → List SetKeys → Bool
has_set n [] = false
has_set n (s ∷ ss) = if nat_eq s.set n then true else has_set n ss

-- a row is of another session
abbrev pub is_of_other : ℕ → KeyRow → Bool
is_of_other s r = not (nat_eq r.session s)

-- the row of a key
abbrev pub row_of : ℕ → List Root → KeyRow
row_of s k = record { key = k; session = s }

-- what a complete key is
abbrev pub shown : Completed → SetKey
shown k = record { set = k.set; values = k.values.items }

-- the session that has a key
abbrev pub has_key : List SetKeys → Option SetKey → Option ℕ
has_key sets key = option_and_then (λ (k : SetKey). session_with k.values (keys_of sets k.set)) key

-- the keys of the set of a number, with a key of a session if it is of this set and no session has it
abbrev pub with_key : Option SetKey → ℕ → ℕ → List KeyRow → List KeyRow
with_key None s n rows = rows
with_key (Some k) s n rows = if nat_eq k.set n then with_row (row_of s k.values) rows else rows

-- no two keys are equal
abbrev pub are_apart : List KeyRow → Bool
are_apart [] = true
are_apart (r ∷ rs) = is_none (session_with r.key rs) && are_apart rs

-- rows by which the same sessions are found, as many in all and of each kind of session
pub record AreAlike (keys rows : List KeyRow) : Type 0 where
  pub same : (values : List Root) → session_with values keys ≡ session_with values rows
  pub count : length keys ≡ length rows
  pub each : (p : ℕ → Bool)
      → length (filter (λ (r : KeyRow). p r.session) keys) ≡ length (filter (λ (r : KeyRow). p r.session) rows)
  pub apart : are_apart rows ≡ true

-- the keys of each set are those of the sessions
pub record Mirrors (sets : List SetKeys) (sessions : List Session) : Type 0 where
  pub alike : (n : ℕ) → AreAlike (keys_of sets n) (rows_of sessions n)

-- ---- sessions

-- no two sessions have one number
abbrev pub are_numbered : List Session → Bool
are_numbered [] = true
are_numbered (s ∷ ss) = not (is_born ss s.number) && are_numbered ss

-- the sets of each session are of its own
abbrev pub have_sets : List Session → Bool
have_sets [] = true
have_sets (s ∷ ss) = are_sets s.sets && have_sets ss

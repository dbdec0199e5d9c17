-- What is told of the order in which a wire is read and written.
use Rattle.std.specs.Prelude.{◌==◌, ◌&&◌, ℕ, Bool, false, not, Result, Ok, Err}

-- how many bytes a call gave or took: none where it failed
abbrev pub moved : {E : Type 0} → Result ℕ E → ℕ
moved (Ok count) = count
moved (Err cause) = 0

-- A read tells that no more bytes come in: it gave none, though there was room for so many, and the wire was not
-- closed.
abbrev pub tells_end : {E : Type 0} → Bool → ℕ → Result ℕ E → Bool
tells_end closed room (Ok count) = not closed && (not (room == 0) && (count == 0))
tells_end closed room (Err cause) = false

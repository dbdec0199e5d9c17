-- The standard faults and main by their places in the names of a program.
use Rattle.std.specs.Prelude.{ℕ, List, [], unwrap_or, slice_get}
use Rattle.behaviour_tree.specs.Data.{ProgramParts}

-- the outside failed
abbrev pub io_exception : ℕ
io_exception = 0

-- a value is not of its type
abbrev pub type_mismatch : ℕ
type_mismatch = 1

-- a correlation variable was written before, or another session has the key
abbrev pub correlation_error : ℕ
correlation_error = 2

-- a call was refused, with the code as its value
abbrev pub refused : ℕ
refused = 3

-- a call was answered by a fault that its operation does not throw
abbrev pub undeclared_fault : ℕ
undeclared_fault = 4

-- an expression has no value
abbrev pub expr_fault : ℕ
expr_fault = 5

-- a handler would pass a limit
abbrev pub handler_too_large : ℕ
handler_too_large = 6

-- the store would pass a limit
abbrev pub store_too_large : ℕ
store_too_large = 7

-- the outermost scope of a session
abbrev pub main : ℕ
main = 8

-- the text of a fault or scope
abbrev pub name_at : ProgramParts → ℕ → List ℕ
name_at parts name = unwrap_or (slice_get parts.names name) []

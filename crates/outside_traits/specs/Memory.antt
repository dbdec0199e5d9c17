-- What a contract sees of the objects in memory.
use Rattle.std.specs.Prelude.{◌≡◌, ℕ, ◌+◌, ◌-◌, ◌^◌, min, List, length, Option}

-- a script: the numbers of the calls that fail, the number of the next call, and the count of faults
pub record Plan : Type 0 where
  pub failing : List ℕ
  pub call : ℕ
  pub faults : ℕ

-- a script before its first call
abbrev pub plan_of : List ℕ → Plan
plan_of failing = record { failing = failing; call = 0; faults = 0 }

-- a script one call further on; the number of the call stops at the last value of its type
pub record IsNext (before now : Plan) : Type 0 where
  pub failing : now.failing ≡ before.failing
  pub call : now.call ≡ min (before.call + 1) (2 ^ 64 - 1)

-- bytes that were taken, and how many there is room for in all
pub record Shelved : Type 0 where
  pub taken : List ℕ
  pub room : ℕ

-- for how many more bytes there is room
abbrev pub room_left : Shelved → ℕ
room_left shelf = shelf.room - length shelf.taken

-- a sink in memory that fails only for want of room
pub record Taking : Type 0 where
  pub shelf : Shelved
  pub faults : ℕ

-- a source that follows a script, and gives at most so many bytes a call
pub record ScriptedInput : Type 0 where
  pub script : Plan
  pub left : List ℕ
  pub piece : ℕ

-- a sink that follows a script, and takes at most so many bytes a call
pub record ScriptedOutput : Type 0 where
  pub script : Plan
  pub shelf : Shelved
  pub piece : ℕ

-- files, each of these bytes, and the names that were asked for, which are told while there is memory for them
pub record UnfailingStore : Type 0 where
  pub content : List ℕ
  pub asked : Option (List (List ℕ))

-- the same, which follow a script
pub record ScriptedStore : Type 0 where
  pub script : Plan
  pub content : List ℕ
  pub asked : Option (List (List ℕ))

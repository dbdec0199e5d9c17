-- What a contract sees of the wires in memory.
use Rattle.std.specs.Prelude.{ℕ, Bool, if◌then◌else◌, List, [], Option}
use Rattle.outside_traits.specs.Memory.{Plan, Shelved}
use Rattle.outside_traits.specs.declared.calls.WireCall.{WireCall}

-- bytes that are given away from the front: those that were given, and those that are left
pub record Taped : Type 0 where
  pub given : List ℕ
  pub left : List ℕ

-- a wire that fails only for want of room, or because it is closed; its calls are told while there is memory for them;
-- whether a write failed before it was closed; and whether a read told the end of what comes in
pub record UnfailingLine : Type 0 where
  pub tape : Taped
  pub shelf : Shelved
  pub calls : Option (List WireCall)
  pub cut : Bool
  pub closed : Bool
  pub ended : Bool

-- a wire that follows a script, and gives and takes at most so many bytes a call; whether a read failed it tells too
pub record ScriptedLine : Type 0 where
  pub script : Plan
  pub tape : Taped
  pub shelf : Shelved
  pub calls : Option (List WireCall)
  pub piece : ℕ
  pub lost : Bool
  pub cut : Bool
  pub closed : Bool
  pub ended : Bool

-- the bytes that can be read yet: none where the wire is closed
abbrev pub readable : Bool → Taped → List ℕ
readable closed tape = if closed then [] else tape.left

-- What holds of all codes.
use Rattle.std.specs.Prelude.{◌≡◌, ℤ, Bool, true, false}
use Rattle.behaviour_tree.specs.declared.words.Reason.{Reason}
use Rattle.behaviour_tree.specs.declared.words.Reason.TheVariants as reason
use Rattle.behaviour_tree.specs.Reasons.{code_of}
use Rattle.jsonrpc_calls.specs.Heard.{reason_of}

-- a reason that has a code of its own
abbrev pub is_named : Reason → Bool
is_named (reason.Other code) = false
is_named r = true

-- The code of a reason with a name is read as that reason, so that no such code is read as another refusal.
abbrev pub ReadsNames : Type 0
ReadsNames = (r : Reason) → is_named r ≡ true → reason_of (code_of r) ≡ r

-- A code is that of the reason that it is read as.
abbrev pub KeepsCodes : Type 0
KeepsCodes = (code : ℤ) → code_of (reason_of code) ≡ code

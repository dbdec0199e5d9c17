-- A name with what is done with it, and how what stands around changes that.
use Rattle.std.specs.Prelude.{ℕ, Bool, true, false, ◌&&◌, bytes_eq, if◌then◌else◌, List, [], ◌∷◌, codes, map}
use Rattle.std.specs.Prelude.{flat_map}
use Rattle.std.specs.List.{list_any}
use Rattle.behaviour_tree.specs.Distinct.{is_in}
use Rattle.jolie_ast.specs.declared.name.Name.{Name}
use Rattle.explain_notes.specs.declared.role.Role.{Role}
use Rattle.explain_notes.specs.declared.role.Role.TheVariants as role

-- a name where it stands, and what is done with it
pub record Mentioned : Type 0 where
  pub role : Role
  pub name : Name

-- mentions in a row
abbrev pub Seen : Type 0
Seen = List Mentioned

-- a mention of a name in a role
abbrev pub mention : Role → Name → Mentioned
mention r n = record { role = r; name = n }

-- a text at a place, as a name has it
abbrev pub word : ℕ → List ℕ → Name
word at text = record { text = text; at = at }

-- ExprFault at a place, where an expression there may have no value
abbrev pub fails_at : Bool → ℕ → Seen
fails_at fails at = if fails then mention role.Failing (word at (codes "ExprFault")) ∷ [] else []

-- the faults with which a call at a socket may come back, whatever is called there, at the place of its port
abbrev pub calling : Name → Seen
calling port =
    mention role.Calling (word port.at (codes "IOException"))
    ∷ mention role.Calling (word port.at (codes "TypeMismatch"))
    ∷ mention role.Calling (word port.at (codes "UndeclaredFault")) ∷ []

-- ---- roles

-- a variable gets a value
abbrev pub is_set : Role → Bool
is_set role.Set = true
is_set role.Kept = true
is_set role.Received = true
is_set role.Filled = true
is_set r = false

-- a fault is thrown that nothing caught yet
abbrev pub is_free : Role → Bool
is_free role.Thrown = true
is_free role.ThrownInLoop = true
is_free role.Rethrown = true
is_free r = false

-- a fault has a handler in the nearest scope
abbrev pub is_handled : Role → Bool
is_handled role.Handled = true
is_handled r = false

-- an expression may have no value there, or a call come back with a fault, and no scope around it handles that yet
abbrev pub is_failing : Role → Bool
is_failing role.Failing = true
is_failing role.FailingInLoop = true
is_failing role.Calling = true
is_failing role.CallingInLoop = true
is_failing r = false

-- the message of an operation is taken
abbrev pub is_taken : Role → Bool
is_taken role.Taken = true
is_taken role.TakenInLoop = true
is_taken r = false

-- the nearest scope has a handler under `this`
abbrev pub is_undoing : Role → Bool
is_undoing role.Undoing = true
is_undoing r = false

-- in a loop
abbrev pub looped_role : Role → Role
looped_role role.Thrown = role.ThrownInLoop
looped_role role.Taken = role.TakenInLoop
looped_role r = r

-- in a `while` that takes messages, as a service has one for message after message
abbrev pub turned_role : Role → Role
turned_role role.Failing = role.FailingInLoop
turned_role role.Calling = role.CallingInLoop
turned_role r = looped_role r

-- in the braces after an input that is not answered
abbrev pub kept_role : Role → Role
kept_role role.Set = role.Kept
kept_role r = r

-- where faults end by themselves
abbrev pub caught_role : Role → Role
caught_role r = if is_free r then role.Caught else if is_failing r then role.FailingSafely else r

-- in the handler of this fault: thrown again it passes its own scope
abbrev pub rethrown_role : Role → Role
rethrown_role r = if is_free r then role.Rethrown else r

-- in the body of a request that is answered by this variable
abbrev pub filled_role : Role → Role
filled_role r = if is_set r then role.Filled else r

-- around a scope that does not handle the fault
abbrev pub freed_role : Role → Role
freed_role role.Rethrown = role.Thrown
freed_role role.Handled = role.HandledInside
freed_role role.Undoing = role.UndoingInside
freed_role r = r

-- around a scope that handles the fault: where the loop in it is ended by what has no value or by a call, that stays so
abbrev pub handled_role : Role → Role
handled_role role.Thrown = role.Caught
handled_role role.ThrownInLoop = role.Caught
handled_role role.Failing = role.FailingSafely
handled_role role.Calling = role.FailingSafely
handled_role r = freed_role r

-- ---- mentions

-- in the role that is made of its own
abbrev pub in_role : (Role → Role) → Mentioned → Mentioned
in_role change m = mention (change m.role) m.name

-- the same, where it is of this name
abbrev pub in_role_of : Name → (Role → Role) → Mentioned → Mentioned
in_role_of n change m = if bytes_eq m.name.text n.text then in_role change m else m

-- the names that stand in such roles
abbrev pub names_in : (Role → Bool) → Seen → List (List ℕ)
names_in is_such ms = flat_map (λ (m : Mentioned). if is_such m.role then m.name.text ∷ [] else []) ms

-- the variable of this name gets a value
abbrev pub sets : Name → Seen → Bool
sets variable ms = list_any (λ (m : Mentioned). is_set m.role && bytes_eq m.name.text variable.text) ms

-- a fault is thrown that nothing of this catches
abbrev pub faults : Seen → Bool
faults ms = list_any (λ (m : Mentioned). is_free m.role) ms

-- a message is taken
abbrev pub takes : Seen → Bool
takes ms = list_any (λ (m : Mentioned). is_taken m.role) ms

-- a handler under `this` is put up in the nearest scope
abbrev pub undoes : Seen → Bool
undoes ms = list_any (λ (m : Mentioned). is_undoing m.role) ms

-- around a scope with handlers for the faults of these names
abbrev pub out_of_scope : List (List ℕ) → Mentioned → Mentioned
out_of_scope names m = mention (if is_in m.name.text names then handled_role m.role else freed_role m.role) m.name

-- a scope of these mentions, seen from around it
abbrev pub around_scope : Seen → Seen
around_scope body = map (out_of_scope (names_in is_handled body)) body

-- a scope, by whether it has a handler under `this`
abbrev pub scope_role : Seen → Role
scope_role body = if undoes body then role.Undone else role.Scope

-- a `while` of these mentions, seen from around it
abbrev pub around_while : Seen → Seen
around_while inside = if takes inside then map (in_role turned_role) inside else map (in_role looped_role) inside

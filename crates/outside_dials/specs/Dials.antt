-- What is told of a dialler: the locations that it dialled, and what was done with the last wire that came back to it.
use Rattle.std.specs.Prelude.{◌≡◌, ◌≤◌, ℕ, Bool, true, false, List, [], ◌∷◌, ◌++◌, Option, None, Some, IfSome}
use Rattle.std.specs.Prelude.{Result, Ok, Err}
use Rattle.outside_traits.specs.Causes.{Rose}
use Rattle.outside_traits.specs.Told.{WireTold}
use Rattle.outside_traits.specs.Wires.{UnfailingLine, ScriptedLine}
use Rattle.outside_traits.specs.declared.calls.WireCall.{WireCall}

-- What was done with a wire: the bytes that were read of it, those that were written on it and its calls in order, each
-- where it is told; whether a read failed, whether a write did before it was closed, and whether a read told the end of
-- what comes in.
pub record WireTraffic : Type 0 where
  pub read : Option (List ℕ)
  pub written : Option (List ℕ)
  pub calls : Option (List WireCall)
  pub read_failed : Bool
  pub write_failed : Bool
  pub ended : Bool

-- what was done with a wire that tells this
abbrev pub traffic : WireTold → WireTraffic
traffic wire = record {
  read = wire.read;
  written = wire.written;
  calls = wire.calls;
  read_failed = wire.read_failed;
  write_failed = wire.write_failed;
  ended = wire.ended;
}

-- What is told of a dialler: the locations that it dialled in order, where they are told; what was done with the last
-- wire that came back, where it is told; and a number that rises where a call fails or a wire comes back that had
-- failed, and stands else.
pub record DialTold : Type 0 where
  pub dialled : Option (List (List ℕ))
  pub last : Option WireTraffic
  pub faults : ℕ

-- what is told of a wire with which nothing was done yet
pub record IsNew (t : WireTraffic) : Type 0 where
  pub read : IfSome t.read (λ bytes. bytes ≡ [])
  pub written : IfSome t.written (λ bytes. bytes ≡ [])
  pub calls : IfSome t.calls (λ calls. calls ≡ [])
  pub read_failed : t.read_failed ≡ false
  pub write_failed : t.write_failed ≡ false
  pub ended : t.ended ≡ false

-- What is told grows by a location, as long as it is told. A dialler that tells its locations no more never begins
-- again.
abbrev pub Dials : Option (List (List ℕ)) → Option (List (List ℕ)) → List ℕ → Type 0
Dials None None location = Unit {0}
Dials None (Some now) location = ⊥
Dials (Some before) None location = Unit {0}
Dials (Some before) (Some now) location = now ≡ before ++ location ∷ []

-- where it is told what was done with the last wire that came back, it is this
abbrev pub Tells : Option WireTraffic → WireTraffic → Type 0
Tells told t = IfSome told (λ last. last ≡ t)

-- a dialler's count of faults rises with a wire that comes back exactly where that had failed
pub record CountsWire (had_failed : Bool) (before now : ℕ) : Type 0 where
  pub later : before ≤ now
  pub unfailed : had_failed ≡ false → now ≡ before
  pub failed : had_failed ≡ true → Rose before now

-- ---- in memory

-- what is told of a new wire in memory
abbrev pub blank_in_memory : WireTraffic
blank_in_memory = record {
  read = Some [];
  written = Some [];
  calls = Some [];
  read_failed = false;
  write_failed = false;
  ended = false;
}

-- a wire in memory as it is made: nothing was done with it, no call of it failed or told an end, and it is open
pub record IsFreshUnfailing (w : UnfailingLine) : Type 0 where
  pub given : w.tape.given ≡ []
  pub taken : w.shelf.taken ≡ []
  pub calls : w.calls ≡ Some []
  pub cut : w.cut ≡ false
  pub closed : w.closed ≡ false
  pub ended : w.ended ≡ false

-- the same of a scripted one
pub record IsFreshScripted (w : ScriptedLine) : Type 0 where
  pub given : w.tape.given ≡ []
  pub taken : w.shelf.taken ≡ []
  pub calls : w.calls ≡ Some []
  pub lost : w.lost ≡ false
  pub cut : w.cut ≡ false
  pub closed : w.closed ≡ false
  pub ended : w.ended ≡ false

-- what was done with a wire in memory
abbrev pub unfailed_traffic : UnfailingLine → WireTraffic
unfailed_traffic w = record {
  read = Some w.tape.given;
  written = Some w.shelf.taken;
  calls = w.calls;
  read_failed = false;
  write_failed = w.cut;
  ended = w.ended;
}

-- the same of a scripted one
abbrev pub scripted_traffic : ScriptedLine → WireTraffic
scripted_traffic w = record {
  read = Some w.tape.given;
  written = Some w.shelf.taken;
  calls = w.calls;
  read_failed = w.lost;
  write_failed = w.cut;
  ended = w.ended;
}

-- the wire that a call gave, none where it failed
abbrev pub wire_given : {W E : Type 0} → Result W E → Option W
wire_given (Ok wire) = Some wire
wire_given (Err cause) = None

-- the wire that comes next of these: the first, none behind the last
abbrev pub next_unfailed : List UnfailingLine → Option UnfailingLine
next_unfailed [] = None
next_unfailed (wire ∷ rest) = Some wire

-- the same of scripted ones, and none where there is none in the first place
abbrev pub next_scripted : List (Option ScriptedLine) → Option ScriptedLine
next_scripted [] = None
next_scripted (first ∷ rest) = first

-- a dialler in memory: the wires that it gives next, the locations that it dialled, which are told while there is
-- memory for them, the last wire that came back, and its count of faults
pub record UnfailingSwitch : Type 0 where
  pub coming : List UnfailingLine
  pub dialled : Option (List (List ℕ))
  pub last : Option UnfailingLine
  pub faults : ℕ

-- the same of scripted wires; where it has none in a place, that call fails
pub record ScriptedSwitch : Type 0 where
  pub coming : List (Option ScriptedLine)
  pub dialled : Option (List (List ℕ))
  pub last : Option ScriptedLine
  pub faults : ℕ

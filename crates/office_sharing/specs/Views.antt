-- What seats know at first, and what each step makes of it.
use Rattle.std.specs.Prelude.{ℕ, ◌+◌, ◌++◌, ◌||◌, Bool, true, false, List, [], ◌∷◌, length, drop, if◌then◌else◌}
use Rattle.office_core.specs.declared.history.Entry.{Entry}
use Rattle.office_sharing.specs.declared.view.KeptCalls.{KeptCalls}
use Rattle.office_sharing.specs.declared.view.View.{View}

-- a seat without a number, which has seen nothing: a seat that was joined into another is left so
abbrev pub nobody : View
nobody = record {
  seen = [];
  told = [];
  number = 0;
  may_call = false;
  mine = [];
  kept = [];
  turn = false;
  makes = false;
  given = 0;
}

-- a new seat of a number, which may call
abbrev pub newcomer : ℕ → View
newcomer n = record nobody { number = n; may_call = true }

-- the first seat, which makes the others
abbrev pub founder : View
founder = record nobody { may_call = true; makes = true; given = 1 }

-- one number more was given
abbrev pub one_more : View → View
one_more v = record v { given = v.given + 1 }

-- the seat to which the next number is given
abbrev pub next_seat : View → View
next_seat v = newcomer v.given

-- a seat that has seen as much, and may not call
abbrev pub copied : View → View
copied v = record nobody { seen = v.seen; number = v.number }

-- the calls that a seat hands on: its own, where it may call, and those that it kept
abbrev pub kept_of : View → List KeptCalls
kept_of v = if v.may_call then record { number = v.number; calls = v.mine } ∷ v.kept else v.kept

-- a seat into which another was joined
abbrev pub merged : View → View → View
merged v w = record v {
  told = w.seen;
  kept = v.kept ++ kept_of w;
  makes = v.makes || w.makes;
  given = if w.makes then w.given else v.given;
}

-- the seat that has the turn has seen the whole history
abbrev pub in_turn : View → List Entry → View
in_turn v log = record v { seen = log; turn = true }

-- the seat gave the turn back
abbrev pub off_turn : View → View
off_turn v = record v { turn = false }

-- the seat with the turn made the calls that the history has after what it had seen
abbrev pub committed : View → List Entry → View
committed v log = record v { seen = log; mine = v.mine ++ drop (length v.seen) log }

-- the seat has seen the whole history, and so what it was told
abbrev pub looked : View → List Entry → View
looked v log = record v { seen = log; told = [] }

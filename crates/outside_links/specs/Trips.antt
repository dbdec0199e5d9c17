-- What is told of the trips of a link: those that it made, what the next ones bring, and how often one has failed.
use Rattle.std.specs.Prelude.{◌≡◌, ℕ, ◌+◌, ◌-◌, ◌^◌, min, List, [], ◌∷◌, Option, None, Some, Result, Ok, Err}
use Rattle.outside_traits.specs.declared.errors.CallError.{CallError}
use Rattle.outside_traits.specs.declared.errors.CallError.TheVariants.{Failed, Memory}

-- a trip: where to, with which text, and the bytes that came back, none where it failed
pub record Made : Type 0 where
  pub location : List ℕ
  pub text : List ℕ
  pub came : Option (List ℕ)

-- a trip from which bytes came back
abbrev pub there_and_back : List ℕ → List ℕ → List ℕ → Made
there_and_back location text bytes = record { location = location; text = text; came = Some bytes }

-- a trip that failed
abbrev pub there_alone : List ℕ → List ℕ → Made
there_alone location text = record { location = location; text = text; came = None }

-- what is told of a link: the trips that it made in order, where they are told; what the next trips bring in order,
-- where it is told, the bytes that come back, or none of one that fails; and how often a trip has failed, as far as a
-- number of 64 bits goes
pub record LinkTold : Type 0 where
  pub trips : Option (List Made)
  pub coming : Option (List (Option (List ℕ)))
  pub faults : ℕ

-- What a trip brought, bytes or none where it failed, is the first of what was told that the next trips bring, and what
-- is told then is the rest. Behind the last of it a trip brings no bytes, without a failure.
abbrev pub Brings : Option (List (Option (List ℕ))) → Option (List (Option (List ℕ))) → Option (List ℕ) → Type 0
Brings None now came = Unit {0}
Brings (Some []) now came = (came ≡ Some []) × (now ≡ Some [])
Brings (Some (first ∷ rest)) now came = (came ≡ first) × (now ≡ Some rest)

-- What is told that the next trips bring is as it was, or it is told no more.
abbrev pub StaysTold : Option (List (Option (List ℕ))) → Option (List (Option (List ℕ))) → Type 0
StaysTold before None = Unit {0}
StaysTold before (Some now) = before ≡ Some now

-- a count of failures with one more; it stops at the last value of its type
abbrev pub one_more : ℕ → ℕ
one_more faults = min (faults + 1) (2 ^ 64 - 1)

-- how often a trip has failed behind one more, where one had failed so often; want of memory is no failure
abbrev pub faults_after : {T : Type 0} → Result T CallError → ℕ → ℕ
faults_after (Ok came) before = before
faults_after (Err Failed) before = one_more before
faults_after (Err (Memory cause)) before = before

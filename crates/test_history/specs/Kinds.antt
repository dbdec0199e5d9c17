-- Entries of a kind, for questions that are asked of a whole history.
use Rattle.std.specs.Prelude.{ℕ, Bool, false, ◌&&◌, nat_eq}
use Rattle.office_core.specs.declared.history.Act.TheVariants as act
use Rattle.office_core.specs.declared.history.Entry.{Entry}

-- an entry by which message n was taken
abbrev pub takes_it : ℕ → Entry → Bool
takes_it n e = elim e.act [ act.Take m ↦ nat_eq n m | _ ↦ false ]

-- an entry that replies to message n
abbrev pub replies_to : ℕ → Entry → Bool
replies_to n e = elim e.act [ act.Reply m o ↦ nat_eq n m | _ ↦ false ]

-- an entry by which an actor fetched call k of session s
abbrev pub fetches_as : ℕ → ℕ → ℕ → Entry → Bool
fetches_as actor s k e =
    elim e.act [ act.Fetch t n ↦ nat_eq actor e.actor && (nat_eq t s && nat_eq n k) | _ ↦ false ]

-- an entry that brings the outcome of call k of session s
abbrev pub brings_for : ℕ → ℕ → Entry → Bool
brings_for s k e = elim e.act [ act.Answered t n o ↦ nat_eq t s && nat_eq n k | _ ↦ false ]

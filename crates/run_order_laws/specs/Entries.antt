-- These definitions serve the proofs of runs: no promise of the program speaks of them.
-- Kinds of entries, by what they do to postings and answers.
use Rattle.std.specs.Prelude.{ℕ, Bool, true, false, not, ◌&&◌, ◌||◌, nat_eq, nat_le, nat_lt}
use Rattle.office_core.specs.declared.history.Act.TheVariants as act
use Rattle.office_core.specs.declared.history.Entry.{Entry}
use Rattle.office_core.specs.Limits.{first_worker}
use Rattle.office_core.specs.Past.{stops}
use Rattle.run_record.specs.Quiet.{posts}
use Rattle.run_record.specs.Run.{alone, is_of_hand}

-- an entry collects an answer
abbrev pub is_collect : Entry → Bool
is_collect e = elim e.act [ act.Collect n o ↦ true | _ ↦ false ]

-- an entry by which nothing is answered, and no message comes
abbrev pub adds_none : Entry → Bool
adds_none e = elim e.act [
  | act.Adopt d ↦ true
  | act.Collect n o ↦ true
  | act.Close ↦ true
  | act.Fetch s k ↦ true
  | act.Answered s k o ↦ true
  | _ ↦ false
]

-- a post is by the first worker
abbrev pub is_by_first : Entry → Bool
is_by_first e = elim e.act [ act.Post j i q r ↦ nat_eq e.actor first_worker | _ ↦ true ]

-- a post is for a posting below a number
abbrev pub posts_under : ℕ → Entry → Bool
posts_under count e = elim e.act [ act.Post j i q r ↦ nat_lt j count | _ ↦ true ]

-- an entry is no post, and of a session or of the worker
abbrev pub is_other : Entry → Bool
is_other e = not (posts e) && is_of_hand alone e

-- an entry is no post of a posting below a number
abbrev pub posts_over : ℕ → Entry → Bool
posts_over count e = elim e.act [ act.Post j i q r ↦ nat_le count j | _ ↦ true ]

-- a post of the first worker for a posting from a number on
abbrev pub posts_on : ℕ → Entry → Bool
posts_on count e = elim e.act [ act.Post j i q r ↦ nat_eq first_worker e.actor && nat_le count j | _ ↦ false ]

-- the same, or the stop
abbrev pub cuts : ℕ → Entry → Bool
cuts count e = posts_on count e || stops e

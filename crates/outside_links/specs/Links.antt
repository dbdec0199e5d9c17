-- What a contract sees of the links in memory.
use Rattle.std.specs.Prelude.{ℕ, List, Option}
use Rattle.outside_links.specs.Trips.{Made}

-- What the next trips of a link bring, bytes or none of one that fails; the trips that it made, which are told while
-- there is memory for them; and how often one failed.
pub record Road : Type 0 where
  pub coming : List (Option (List ℕ))
  pub trips : Option (List Made)
  pub faults : ℕ

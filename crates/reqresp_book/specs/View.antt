-- What the book has of each message: where it came from, and how it stands with it.
use Rattle.std.specs.Prelude.{◌≡◌, ◌≢◌, ℕ, List, slice_get, Option, None, Some}
use Rattle.reqresp_book.specs.declared.origin.Origin.{Origin}
use Rattle.reqresp_book.specs.declared.place.Place.{Place}
use Rattle.reqresp_book.specs.declared.place.Standing.{Standing}
use Rattle.reqresp_book.specs.declared.book.Book.{Book}

-- what stands at a number among some places
abbrev pub place_in : List (Option Place) → ℕ → Option Place
place_in places m = elim (slice_get places m) [ None ↦ None | Some p ↦ p ]

-- what the book has of a message; nothing where it was never noted
abbrev pub place_of : Book → ℕ → Option Place
place_of book m = place_in book.places.items m

-- where a message came from
abbrev pub origin_of : Book → ℕ → Option Origin
origin_of book m = elim (place_of book m) [ None ↦ None | Some p ↦ Some p.origin ]

-- how it stands with a message
abbrev pub standing_of : Book → ℕ → Option Standing
standing_of book m = elim (place_of book m) [ None ↦ None | Some p ↦ Some p.standing ]

-- each message comes from where it came from
abbrev pub HaveSameOrigins : Book → Book → Type 0
HaveSameOrigins old new = (m : ℕ) → origin_of new m ≡ origin_of old m

-- each message stays as it is
pub record AreSame (old new : Book) : Type 0 where
  pub origins : HaveSameOrigins old new
  pub standings : (m : ℕ) → standing_of new m ≡ standing_of old m

-- one message is noted as coming from there, and all others come from where they came from
pub record ComesFrom (message : ℕ) (origin : Origin) (old new : Book) : Type 0 where
  pub noted : origin_of new message ≡ Some origin
  pub others : (m : ℕ) → m ≢ message → origin_of new m ≡ origin_of old m

-- it stands so with one message, and with all others as before
pub record Stands (message : ℕ) (standing : Option Standing) (old new : Book) : Type 0 where
  pub changed : standing_of new message ≡ standing
  pub others : (m : ℕ) → m ≢ message → standing_of new m ≡ standing_of old m

-- These definitions serve the proofs alone: no promise speaks of them.
-- What it means that a strand needs something.
use Rattle.std.specs.Prelude.{◌≡◌, ℕ, Option, None, Some}
use Rattle.behaviour_tree.specs.declared.words.Given.{Given}
use Rattle.behaviour_tree.specs.declared.words.Need.{Need}
use Rattle.behaviour_tree.specs.Data.{ProgramParts}
use Rattle.session_calculus.specs.After.{Config, Done, after, HasEvent}
use Rattle.term_session.specs.Asks.{needed}

-- Where a strand needs something, it has an event, and whatever the office gives, its event asks just that.
abbrev pub AsksForItsEvent : Type 0
AsksForItsEvent =
    (parts : ProgramParts) (service : ℕ) (c : Config) (n : ℕ) (need : Need)
    → needed parts service c n ≡ Some need
    → HasEvent parts service c n × ((g : Given) (d : Done) → after parts service c n g ≡ Some d → d.need ≡ need)

-- A strand that needs nothing at all has no event.
abbrev pub HasNoEventUnasked : Type 0
HasNoEventUnasked =
    (parts : ProgramParts) (service : ℕ) (c : Config) (n : ℕ)
    → needed parts service c n ≡ None → HasEvent parts service c n → ⊥

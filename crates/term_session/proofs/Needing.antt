-- The strands of a form that need something are those that have an event.
use Rattle.std.proofs.Common.{◌≡◌, ℕ, List, Option, None, Some, is_some, Bool, true, false, refl, sym, ap, ◌∙◌, subst}
use Rattle.std.specs.Prelude.{Contains, MatchOption, ◌↔◌}
use Rattle.std.specs.List.{filter}
use Rattle.std.specs.List.Sorted.{IsStrictlyIncreasing}
use Rattle.std.proofs.lemmas.List.Kept.{IsStrictlyIncreasing-filter}
use Rattle.behaviour_tree.specs.declared.words.Given.{Given}
use Rattle.behaviour_tree.specs.declared.words.Need.{Need}
use Rattle.behaviour_tree.specs.Data.{ProgramParts}
use Rattle.session_calculus.specs.After.{Config, Done, after, HasEvent}
use Rattle.session_forms.specs.Standing.{strands_in}
use Rattle.term_session.specs.Asks.{needed}
use Rattle.term_session.proofs.HasEvents.{there, asks_for_its_event, has_no_event_unasked}
use Rattle.term_session.proofs.Filtering.{contains-filter, from_filter}
use Rattle.term_session.proofs.Standing.{needs-contains}

-- what is needed tells whether there is an event, and what it asks
pub needed_tells : (parts : ProgramParts) (service : ℕ) (c : Config) (n : ℕ) (o : Option Need) → o ≡ needed parts service c n
    → MatchOption o (¬ HasEvent parts service c n)
    (λ need. HasEvent parts service c n × ((g : Given) (d : Done) → after parts service c n g ≡ Some d → d.need ≡ need))
needed_tells parts service c n None e = has_no_event_unasked parts service c n (sym e)
needed_tells parts service c n (Some m) e = asks_for_its_event parts service c n m (sym e)

-- a strand with an event needs something
needs : (parts : ProgramParts) (service : ℕ) (c : Config) (n : ℕ) (o : Option Need) → o ≡ needed parts service c n
    → HasEvent parts service c n → is_some o ≡ true
needs parts service c n None e h = absurd (has_no_event_unasked parts service c n (sym e) h)
needs parts service c n (Some m) e h = refl

-- of numbers among which all strands of the form are
pub enabled_by : (parts : ProgramParts) (service : ℕ) (c : Config) (standing : List ℕ)
    → ((n : ℕ) → Contains (strands_in 0 c.form) n → Contains standing n)
    → (n : ℕ) → Contains (filter (λ n. is_some (needed parts service c n)) standing) n ↔ HasEvent parts service c n
enabled_by parts service c standing all n = (forth, back)
  where
    p : ℕ → Bool
    p n = is_some (needed parts service c n)

    forth : Contains (filter p standing) n → HasEvent parts service c n
    forth h =
        let m = there (needed parts service c n) (from_filter p standing n h).1 in
        (asks_for_its_event parts service c n m.0 m.1).0

    back : HasEvent parts service c n → Contains (filter p standing) n
    back h =
        let some : p n ≡ true = needs parts service c n (needed parts service c n) refl h in
        let m = there (needed parts service c n) some in
        contains-filter p standing n (all n (needs-contains parts service c n m.0 m.1)) some

-- and of those that pass
pub enabled_exactly : (parts : ProgramParts) (service : ℕ) (c : Config) (standing strands : List ℕ)
    → ((n : ℕ) → Contains (strands_in 0 c.form) n → Contains standing n)
    → strands ≡ filter (λ n. is_some (needed parts service c n)) standing
    → (n : ℕ) → Contains strands n ↔ HasEvent parts service c n
enabled_exactly parts service c standing strands all e n =
    subst (λ xs. Contains xs n ↔ HasEvent parts service c n) (sym e) (enabled_by parts service c standing all n)

pub enabled_rise : (p : ℕ → Bool) (standing strands : List ℕ) → strands ≡ filter p standing → IsStrictlyIncreasing standing
    → IsStrictlyIncreasing strands
enabled_rise p standing strands e h = subst IsStrictlyIncreasing (sym e) (IsStrictlyIncreasing-filter p standing h)

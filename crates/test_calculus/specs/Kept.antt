-- What is claimed of every configuration of a run, computed along the acts of one session.
use Rattle.std.specs.Prelude.{ℕ, zero, suc, ◌+◌, Bool, true, false, ◌&&◌, nat_le, nat_eq, List, [], ◌∷◌, None, Some}
use Rattle.behaviour_tree.specs.Data.{ProgramParts}
use Rattle.behaviour_tree.specs.Distinct.{numbers_differ}
use Rattle.session_calculus.specs.Terms.{Term}
use Rattle.session_calculus.specs.Start.{normal}
use Rattle.session_calculus.specs.After.{Config, after, seen_by}
use Rattle.session_calculus.specs.Throw.{Carried, absent, throw}
use Rattle.session_calculus.specs.Faults.{fault_in}
use Rattle.session_calculus.specs.Open.{open_requests, waiting}
use Rattle.session_calculus.specs.Runs.{start_of}
use Rattle.session_calculus.specs.Sound.{is_exposed, strands_of, are_below}
use Rattle.session_calculus.specs.Members.{is_within_few, drawn_in_all}
use Rattle.behaviour_tree.specs.declared.words.Given.TheVariants as given
use Rattle.test_calculus.specs.Told.{Act, act}

-- a configuration is sound
abbrev pub is_sound : Config → Bool
is_sound c =
    is_exposed c.form && are_below c.next (0 ∷ strands_of c.form) && are_below c.call (waiting c.form)
    && numbers_differ (open_requests c.form)

-- its form is in normal form: bringing it there draws nothing
abbrev pub draws_nothing : Config → Bool
draws_nothing c = nat_eq (normal c.form c.next).next c.next

-- an event adds at most so many strands
abbrev pub adds_few : ℕ → Config → Config → Bool
adds_few most c d = is_within_few most d.form && nat_le (drawn_in_all d) (drawn_in_all c + most)

-- the fault of a strand, if it has one, is not absent
abbrev pub is_there : Carried Term → Bool
is_there absent = false
is_there c = true

-- no fault of the strands below a number is absent
abbrev pub faults_are_there : ProgramParts → ℕ → Config → ℕ → Bool
faults_are_there parts service c zero = true
faults_are_there parts service c (suc n) =
    elim (fault_in (seen_by parts service c n given.Nothing) 0 c.form) [
      | None ↦ faults_are_there parts service c n
      | Some f ↦ is_there (throw n f 0 c.form) && faults_are_there parts service c n
    ]

-- all this holds at the start and after each act
abbrev pub kept_from : ProgramParts → ℕ → Config → List Act → Bool
kept_from parts service c [] = true
kept_from parts service c (act n g ∷ acts) =
    elim (after parts service c n g) [
      | None ↦ false
      | Some d ↦
          is_sound d.config && draws_nothing d.config && adds_few 65536 c d.config
          && faults_are_there parts service d.config d.config.next && kept_from parts service d.config acts
    ]

-- the same for a session of a service
abbrev pub kept : ProgramParts → ℕ → List Act → Bool
kept parts service acts =
    elim (start_of parts service) [ None ↦ false | Some c ↦ is_sound c && kept_from parts service c acts ]

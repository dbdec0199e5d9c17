-- Whether nothing is left to do in a record, as a value that computes: what the office could give is tried.
use Rattle.std.specs.Prelude.{ℕ, zero, suc, Bool, true, false, not, ◌&&◌, ◌||◌, List, [], ◌∷◌}
use Rattle.std.specs.Prelude.{◌++◌, length, map, nat_eq, if◌then◌else◌, Option, None, Some}
use Rattle.std.specs.List.{list_any, list_all}
use Rattle.jolie_trees.specs.Trees.{void_tree}
use Rattle.behaviour_tree.specs.declared.words.Event.{Event}
use Rattle.behaviour_tree.specs.declared.words.Given.{Given}
use Rattle.behaviour_tree.specs.declared.words.Given.TheVariants as given
use Rattle.behaviour_tree.specs.declared.words.Outcome.TheVariants as outcome
use Rattle.behaviour_tree.specs.Data.{ProgramParts}
use Rattle.session_calculus.specs.After.{Config, after}
use Rattle.session_calculus.specs.Runs.{TakenStep, start_of}
use Rattle.office_core.specs.declared.history.Act.TheVariants as act
use Rattle.office_core.specs.declared.history.Entry.{Entry}
use Rattle.office_core.specs.Limits.{Setting}
use Rattle.office_core.specs.Past.{Past}
use Rattle.office_core.specs.Sessions.{births, service_of, has_ended, was_adopted}
use Rattle.office_core.specs.Boxes.{box}
use Rattle.office_core.specs.Accepted.{past_of}
use Rattle.run_record.specs.Steps.{calls_of, steps_of, mail}
use Rattle.run_record.specs.Quiet.{is_given, outstanding, posts_for, sessions_at}
use Rattle.std.specs.Prelude.{slice_get, option_and_then}

-- the numbers below a number
abbrev pub below : ℕ → List ℕ
below zero = []
below (suc n) = below n ++ n ∷ []

-- gifts of which each event that can be has one: nothing, a variable that is bound, an outcome, and the messages that
-- wait
abbrev pub offers : Past → ℕ → List Given
offers past s =
    given.Nothing ∷ given.Bound ∷ given.Answer (outcome.Value void_tree)
    ∷ map (λ n. mail n (slice_get past.messages n)) (box past s)

-- a strand has an event with a gift, and the history has what that asks for
abbrev pub acts_on : Setting → Past → ℕ → Config → ℕ × Given → Bool
acts_on w past s c ng =
    elim (service_of w past s) [
      | None ↦ false
      | Some d ↦ elim (after w.parts d c ng.0 ng.1) [ None ↦ false | Some k ↦ is_given w past s k.need ]
    ]

-- some strand has such an event
abbrev pub acts_after : Setting → Past → ℕ → Config → Bool
acts_after w past s c = list_any (λ n. list_any (λ g. acts_on w past s c (n, g)) (offers past s)) (below c.next)

-- where steps lead
abbrev pub leads_from : ProgramParts → ℕ → Config → List TakenStep → Option Config
leads_from parts d c [] = Some c
leads_from parts d c (s ∷ steps) = elim (after parts d c s.event.strand s.gift) [
  | None ↦ None
  | Some k ↦ leads_from parts d k.config steps
]

-- where the events of a session of service d lead
abbrev pub leads_as : Setting → List Entry → ℕ → List Event → ℕ → Option Config
leads_as w h s events d =
    option_and_then (λ c. leads_from w.parts d c (steps_of events (calls_of w h s))) (start_of w.parts d)

-- where the events of a session lead
abbrev pub leads_to : Setting → List Entry → ℕ → List Event → Option Config
leads_to w h s events = option_and_then (leads_as w h s events) (service_of w (past_of w h) s)

-- a session that lives can act
abbrev pub can_act : Setting → List Entry → ℕ → List Event → Bool
can_act w h s events =
    elim (has_ended (past_of w h) s) [
      | true ↦ false
      | false ↦ elim (leads_to w h s events) [ None ↦ false | Some c ↦ acts_after w (past_of w h) s c ]
    ]

-- no session from number s on can act, unless it used its whole budget
abbrev pub are_idle : Setting → ℕ → List Entry → ℕ → List (List Event) → Bool
are_idle w budget h s [] = true
are_idle w budget h s (events ∷ sessions) =
    (if nat_eq (length events) budget then true else not (can_act w h s events)) && are_idle w budget h (suc s) sessions

-- a list has nothing
abbrev pub is_empty : {A : Type 0} → List A → Bool
is_empty [] = true
is_empty (x ∷ xs) = false

-- nothing is left to do
abbrev pub is_quiet : Setting → ℕ → List Entry → List (List Event) → Bool
is_quiet w budget h sessions =
    list_all (was_adopted (past_of w h)) (below (length (births w (past_of w h))))
    && is_empty (outstanding (past_of w h)) && are_idle w budget h 0 sessions

-- posting j may begin
abbrev pub may_begin : Setting → ℕ → ℕ → List Entry → List (List Event) → Bool
may_begin w budget zero h sessions = is_empty h
may_begin w budget (suc j) h sessions = is_quiet w budget h sessions

-- an entry after others begins no posting, or one that may begin
abbrev pub begins_well : Setting → ℕ → List (List Event) → List Entry → Entry → Bool
begins_well w budget sessions before e =
    elim e.act [
      | act.Post j i q r ↦ elim (list_any (posts_for e.actor j) before) [
        | true ↦ true
        | false ↦ may_begin w budget j before (sessions_at w before 0 sessions)
      ]
      | _ ↦ true
    ]

-- each posting, from some entries on, began where it may
abbrev pub is_still_after : Setting → ℕ → List (List Event) → List Entry → List Entry → Bool
is_still_after w budget sessions before [] = true
is_still_after w budget sessions before (e ∷ es) =
    begins_well w budget sessions before e && is_still_after w budget sessions (before ++ e ∷ []) es

-- each posting began where it may
abbrev pub is_still : Setting → ℕ → List Entry → List (List Event) → Bool
is_still w budget h sessions = is_still_after w budget sessions [] h

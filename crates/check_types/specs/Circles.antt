-- These definitions serve the proofs alone: no promise speaks of them.
-- Types that lead to types, place by place, and what is known of them while they are walked over.
use Rattle.std.specs.Prelude.{◌≡◌, ℕ, zero, suc, Bool, true, false, ◌-◌, ◌<◌, ◌⊎◌, List, sum_by, slice_get}
use Rattle.std.specs.Prelude.{slice_index_or, Option, None, Some, option_and_then}
use Rattle.jolie_ast.specs.declared.types.TypeDefinition.{TypeDefinition}
use Rattle.jolie_ast.specs.declared.types.TypeBody.{out-TypeBody}
use Rattle.check_types.specs.declared.circles.Mark.{Mark}
use Rattle.check_types.specs.declared.circles.Mark.TheVariants.{Unseen, Walked, Circle}
use Rattle.behaviour_tree.specs.Leading.{led_to}
use Rattle.behaviour_tree.specs.Operations.{is_among}
use Rattle.check_base.specs.Repeated.{place_of}
use Rattle.check_base.specs.Files.{type_names, body_of, name_in}

-- ---- places that lead to places

-- the name that a type is defined as, if it is one
abbrev pub name_of : TypeDefinition → Option (List ℕ)
name_of ty = name_in (out-TypeBody (body_of ty.body))

-- the place that a place leads to: that of the name that the type at it is defined as, if there is a type of it
abbrev pub next_place : List TypeDefinition → ℕ → Option ℕ
next_place types place = option_and_then (place_of (type_names types)) (option_and_then name_of (slice_get types place))

-- whether the places that one leads to have the start among them
abbrev pub place_leads_back : (ℕ → Option ℕ) → ℕ → ℕ → ℕ → Bool
place_leads_back next n start p = is_among (led_to next n p) start

-- where n steps from a place on lead to
abbrev pub steps_on : (ℕ → Option ℕ) → ℕ → ℕ → Option ℕ
steps_on next zero p = Some p
steps_on next (suc n) p = option_and_then next (steps_on next n p)

-- ---- marks

-- the mark of a place
abbrev pub mark_at : List Mark → ℕ → Mark
mark_at marks p = slice_index_or marks p Unseen

-- no walk has come to it
abbrev pub is_unseen : Mark → Bool
is_unseen Unseen = true
is_unseen (Walked walk step) = false
is_unseen Circle = false

-- it is known to be on a circle
abbrev pub is_circle : Mark → Bool
is_circle Unseen = false
is_circle (Walked walk step) = false
is_circle Circle = true

-- one for a place to which no walk has come
abbrev pub unseen_count : Mark → ℕ
unseen_count Unseen = 1
unseen_count (Walked walk step) = 0
unseen_count Circle = 0

-- to how many places no walk has come
abbrev pub unseen : List Mark → ℕ
unseen marks = sum_by unseen_count marks

-- what was seen stays seen
abbrev pub StaysSeen : List Mark → List Mark → Type 0
StaysSeen before after = (p : ℕ) → is_unseen (mark_at before p) ≡ false → is_unseen (mark_at after p) ≡ false

-- each mark stays, or a circle is found
abbrev pub OnlyCircles : List Mark → List Mark → Type 0
OnlyCircles before after = (p : ℕ) → (mark_at after p ≡ mark_at before p) ⊎ (mark_at after p ≡ Circle)

-- a walk is one of the first
abbrev pub IsWalkBelow : ℕ → Mark → Type 0
IsWalkBelow walks Unseen = Unit {0}
IsWalkBelow walks (Walked walk step) = walk < walks
IsWalkBelow walks Circle = Unit {0}

-- all walks are among the first
abbrev pub WalksBelow : ℕ → List Mark → Type 0
WalksBelow walks marks = (p : ℕ) → IsWalkBelow walks (mark_at marks p)

-- ---- what is known of marks

-- a place to which a walk came before, or the same walk later, or one on a circle
abbrev pub IsAhead : ℕ → ℕ → Mark → Type 0
IsAhead walk step Unseen = ⊥
IsAhead walk step (Walked w s) = (w < walk) ⊎ ((w ≡ walk) × (step < s))
IsAhead walk step Circle = Unit {0}

-- a place leads nowhere, or ahead
abbrev pub LeadsAhead : List Mark → ℕ → ℕ → Option ℕ → Type 0
LeadsAhead marks walk step None = Unit {0}
LeadsAhead marks walk step (Some p) = IsAhead walk step (mark_at marks p)

-- a place leads to one on a circle
abbrev pub LeadsRound : List Mark → Option ℕ → Type 0
LeadsRound marks None = ⊥
LeadsRound marks (Some p) = mark_at marks p ≡ Circle

-- what a mark says of a place that leads to another, or nowhere, and back to itself or not
abbrev pub Says : List Mark → Option ℕ → Bool → Mark → Type 0
Says marks next leads_back Unseen = Unit {0}
Says marks next leads_back (Walked walk step) = LeadsAhead marks walk step next
Says marks next leads_back Circle = (leads_back ≡ true) × LeadsRound marks next

-- the same within a walk, which is to come to a place, or to none: what it came to last leads there
abbrev pub SaysOnWalk : List Mark → ℕ → Option ℕ → Option ℕ → Bool → Mark → Type 0
SaysOnWalk marks walk to next leads_back Unseen = Unit {0}
SaysOnWalk marks walk to next leads_back (Walked w s) = LeadsAhead marks w s next ⊎ ((w ≡ walk) × (next ≡ to))
SaysOnWalk marks walk to next leads_back Circle = (leads_back ≡ true) × LeadsRound marks next

-- the steps from a place to which a walk came lead to where the walk is
abbrev pub CameBy : ℕ → ℕ → Option ℕ → (ℕ → Option ℕ) → Mark → Type 0
CameBy walk steps to steps_from Unseen = Unit {0}
CameBy walk steps to steps_from (Walked w s) = w ≡ walk → (s < steps) × (steps_from (steps - s) ≡ to)
CameBy walk steps to steps_from Circle = Unit {0}

-- the same while a circle is gone round from a start on, at a place
abbrev pub SaysOnRound : List Mark → ℕ → ℕ → Option ℕ → Bool → Mark → Type 0
SaysOnRound marks start at next leads_back Unseen = Unit {0}
SaysOnRound marks start at next leads_back (Walked w s) = LeadsAhead marks w s next ⊎ (next ≡ Some start)
SaysOnRound marks start at next leads_back Circle = (leads_back ≡ true) × (LeadsRound marks next ⊎ (next ≡ Some at))

-- each mark says what is so
abbrev pub Known : (ℕ → Option ℕ) → ℕ → List Mark → Type 0
Known next n marks = (p : ℕ) → Says marks (next p) (place_leads_back next n p p) (mark_at marks p)

-- each mark says what is so, within a walk
abbrev pub KnownOnWalk : (ℕ → Option ℕ) → ℕ → List Mark → ℕ → Option ℕ → Type 0
KnownOnWalk next n marks walk to =
    (p : ℕ) → SaysOnWalk marks walk to (next p) (place_leads_back next n p p) (mark_at marks p)

-- all places to which a walk came lead to where it is
abbrev pub Came : (ℕ → Option ℕ) → List Mark → ℕ → ℕ → Option ℕ → Type 0
Came next marks walk steps to = (p : ℕ) → CameBy walk steps to (λ k. steps_on next k p) (mark_at marks p)

-- each mark says what is so, on the way round
abbrev pub KnownOnRound : (ℕ → Option ℕ) → ℕ → List Mark → ℕ → ℕ → Type 0
KnownOnRound next n marks start at =
    (p : ℕ) → SaysOnRound marks start at (next p) (place_leads_back next n p p) (mark_at marks p)

-- a walk has come to every place
abbrev pub AllSeen : ℕ → List Mark → Type 0
AllSeen n marks = (p : ℕ) → p < n → is_unseen (mark_at marks p) ≡ false

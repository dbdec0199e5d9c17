-- What there is no event for, where the office gave something.
use Rattle.std.proofs.Common.{◌≡◌, ℕ, zero, suc, true, None, Some, Option, refl}
use Rattle.behaviour_tree.specs.declared.words.Given.{Given}
use Rattle.behaviour_tree.specs.declared.words.Given.TheVariants as given
use Rattle.session_calculus.specs.Tables.{Table}
use Rattle.session_calculus.specs.Terms.{Fault, Term, State, live, caught, term, last, zombie}
use Rattle.session_calculus.specs.Moves.{Seen, Move, ungiven}
use Rattle.session_calculus.specs.Scopes.{scope_acts, ends, handles_fault, handles_end}
use Rattle.session_calculus.specs.After.{Config, Done, finish_event, finishes, raises}
use Rattle.term_session.specs.Steps.{stepped, stepped_by}
use Rattle.term_session.specs.Walks.{scope_event}

-- whatever is there for nothing alone is not there for a gift
for_nothing : {A : Type 0} (g : Given) (o : Option A) → (g ≡ given.Nothing → ⊥)
    → ◌≡◌ {A = Option A} (elim g [ given.Nothing ↦ o | _ ↦ None ]) None
for_nothing given.Nothing o h = absurd (h refl)
for_nothing (given.Mail m o v) x h = refl
for_nothing (given.Answer o) x h = refl
for_nothing given.Bound x h = refl
for_nothing (given.Held t) x h = refl
for_nothing given.Fixed x h = refl

pub ungiven_none : (s : Seen) (m : Move Term) → (s.gift ≡ given.Nothing → ⊥) → ungiven s m ≡ None
ungiven_none s m h = for_nothing s.gift (Some m) h

pub ungiven_some : (s : Seen) (m : Move Term) → s.gift ≡ given.Nothing → ungiven s m ≡ Some m
ungiven_some s m h = rw h refl

-- a scope has no event for a gift
pub no_scope_event : (s : Seen) (q : ℕ) (h : Table) (u : State) → (s.gift ≡ given.Nothing → ⊥) → scope_event s q h u ≡ None
no_scope_event s q h live g = ungiven_none s (ends s q h) g
no_scope_event s q h (caught f) g = ungiven_none s (handles_fault s q h f) g
no_scope_event s q h term g = ungiven_none s (handles_end s q h) g
no_scope_event s q h last g = refl
no_scope_event s q h zombie g = refl

-- for nothing it has the event that it has of itself
pub own_scope_event : (s : Seen) (q : ℕ) (h : Table) (u : State) → s.gift ≡ given.Nothing
    → scope_event s q h u ≡ scope_acts (record s { gift = given.Nothing }) q h u
own_scope_event s q h live g = ungiven_some s (ends s q h) g
own_scope_event s q h (caught f) g = ungiven_some s (handles_fault s q h f) g
own_scope_event s q h term g = ungiven_some s (handles_end s q h) g
own_scope_event s q h last g = refl
own_scope_event s q h zombie g = refl

pub raises_none : (c : Config) (n : ℕ) (g : Given) (f : Fault) → (g ≡ given.Nothing → ⊥) → stepped c None ≡ stepped_by c (raises c n g f)
raises_none c n given.Nothing f h = absurd (h refl)
raises_none c n (given.Mail m o v) f h = refl
raises_none c n (given.Answer o) f h = refl
raises_none c n given.Bound f h = refl
raises_none c n (given.Held t) f h = refl
raises_none c n given.Fixed f h = refl

-- the end is for strand 0 alone, and for no gift
pub finishes_none : (c : Config) (n : ℕ) (g : Given) → ((n ≡ 0) → (g ≡ given.Nothing) → ⊥)
    → stepped c None ≡ stepped_by c (finishes c n g)
finishes_none c zero given.Nothing h = absurd (h refl refl)
finishes_none c zero (given.Mail m o v) h = refl
finishes_none c zero (given.Answer o) h = refl
finishes_none c zero given.Bound h = refl
finishes_none c zero (given.Held t) h = refl
finishes_none c zero given.Fixed h = refl
finishes_none c (suc n) g h = refl

pub finishes_now : (c : Config) (n : ℕ) (g : Given) → n ≡ 0 → g ≡ given.Nothing
    → stepped (record c { ended = true }) (Some finish_event) ≡ stepped_by c (finishes c n g)
finishes_now c n g e h = rw (e, h) refl

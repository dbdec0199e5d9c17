-- The events that a session had at an earlier moment: those before the event that makes the next call.
use Rattle.std.proofs.Common.{◌≡◌, ◌≤◌, ℕ, zero, suc, ◌+◌, Bool, true, false, List, [], ◌∷◌, ◌++◌, length, Option, None, Some, option_map, refl, sym, ap, ◌∙◌, arith, le_of_suc-le-suc}
use Rattle.std.specs.Prelude.{slice_get}
use Rattle.std.proofs.lemmas.Option.{none-some}
use Rattle.behaviour_tree.specs.declared.words.Event.{Event}
use Rattle.session_calculus.specs.Runs.{TakenStep}
use Rattle.office_core.specs.declared.history.Entry.{Entry}
use Rattle.office_core.specs.Limits.{Setting}
use Rattle.run_record.specs.Steps.{Called, calls_of, makes_call}
use Rattle.run_record.specs.Quiet.{events_for, sessions_at}
use Rattle.session_turn.specs.Lives.{Kept, Moment}
use Rattle.session_turn.specs.Seen.{Seat}
use Rattle.session_turn.proofs.Agreeing.{Paired, called, done, paired_here, quiet}
use Rattle.run_quiet_laws.proofs.Once.{same_of}

-- ---- how many calls events make

-- so many more, where an event makes a call
abbrev count_if : Bool → ℕ → ℕ
count_if b n = elim b [ true ↦ suc n | false ↦ n ]

-- how many of some events make a call
abbrev pub calls_made : List Event → ℕ
calls_made [] = 0
calls_made (e ∷ es) = count_if (makes_call e.kind) (calls_made es)

paired_made : {es : List Event} {cs : List Called} {xs : List TakenStep} → Paired es cs xs → calls_made es ≡ length cs
paired_made done = refl
paired_made (called e c es cs xs m p) = ap (λ b. count_if b (calls_made es)) m ∙ ap suc (paired_made p)
paired_made (quiet e es cs xs m p) = ap (λ b. count_if b (calls_made es)) m ∙ paired_made p

-- The events of session s make as many calls as the history has of it.
abbrev pub MadeAll : Setting → List Entry → ℕ → List Event → Type 0
MadeAll w h s es = calls_made es ≡ length (calls_of w h s)

pub made_all : {a : Seat} {es : List Event} {now : Moment} → Kept a es now → MadeAll a.setting now.seen a.session es
made_all k = paired_made (paired_here k.lives)

-- ---- cuts

-- the events up to the next call, by whether the first makes one
abbrev front_by : Bool → ℕ → Event → (ℕ → List Event) → List Event
front_by b n e rest = elim b [ false ↦ e ∷ rest n | true ↦ elim n [ zero ↦ [] | suc m ↦ e ∷ rest m ] ]

none_within : (n : ℕ) → suc n ≤ 0 → ⊥
none_within n h = omega (arith, h)

all_by : (b : Bool) (n : ℕ) (e : Event) (es : List Event) → count_if b (calls_made es) ≤ n
    → ((k : ℕ) → calls_made es ≤ k → events_for k es ≡ es)
    → front_by b n e (λ k. events_for k es) ≡ e ∷ es
all_by true zero e es h rest = absurd (none_within (calls_made es) h)
all_by true (suc n) e es h rest = ap (λ (xs : List Event). e ∷ xs) (rest n (le_of_suc-le-suc h))
all_by false n e es h rest = ap (λ (xs : List Event). e ∷ xs) (rest n h)

-- where no more calls are made than that, all events come before the next
events_all : (n : ℕ) (es : List Event) → calls_made es ≤ n → events_for n es ≡ es
events_all n [] h = refl
events_all n (e ∷ es) h = all_by (makes_call e.kind) n e es h (λ k. events_all k es)

same_below : (m n : ℕ) → m ≡ n → m ≤ n
same_below m n e = omega (arith, e)

-- a session that made all calls of a history has all its events there
pub events_whole : (w : Setting) (h : List Entry) (s : ℕ) (es : List Event) → MadeAll w h s es
    → events_for (length (calls_of w h s)) es ≡ es
events_whole w h s es made =
    events_all (length (calls_of w h s)) es (same_below (calls_made es) (length (calls_of w h s)) made)

-- What one event more makes of a cut: nothing; or it makes no call, all events came before the cut, and now also it.
pub data Cut (longer shorter es : List Event) (x : Event) : Type 0 where
  same : longer ≡ shorter → Cut longer shorter es x
  more : makes_call x.kind ≡ false → shorter ≡ es → longer ≡ es ++ x ∷ [] → Cut longer shorter es x

cut_more : (e : Event) {longer shorter es : List Event} {x : Event} → Cut longer shorter es x
    → Cut (e ∷ longer) (e ∷ shorter) (e ∷ es) x
cut_more e (same p) = same (ap (λ (xs : List Event). e ∷ xs) p)
cut_more e (more q p r) = more q (ap (λ (xs : List Event). e ∷ xs) p) (ap (λ (xs : List Event). e ∷ xs) r)

cut_first : (n : ℕ) (x : Event) → n ≤ 0 → Cut (events_for n (x ∷ [])) [] [] x
cut_first zero x h = go (makes_call x.kind) refl
  where
    go : (b : Bool) → makes_call x.kind ≡ b → Cut (front_by b 0 x (λ k. [])) [] [] x
    go true e = same refl
    go false e = more e refl refl
cut_first (suc n) x h = absurd (none_within n h)

cut_by : (b : Bool) (n : ℕ) (e : Event) (es : List Event) (x : Event) → n ≤ count_if b (calls_made es)
    → ((k : ℕ) → k ≤ calls_made es → Cut (events_for k (es ++ x ∷ [])) (events_for k es) es x)
    → Cut (front_by b n e (λ k. events_for k (es ++ x ∷ []))) (front_by b n e (λ k. events_for k es)) (e ∷ es) x
cut_by true zero e es x h rest = same refl
cut_by true (suc n) e es x h rest = cut_more e (rest n (le_of_suc-le-suc h))
cut_by false n e es x h rest = cut_more e (rest n h)

pub cut : (n : ℕ) (es : List Event) (x : Event) → n ≤ calls_made es
    → Cut (events_for n (es ++ x ∷ [])) (events_for n es) es x
cut n [] x h = cut_first n x h
cut n (e ∷ es) x h = cut_by (makes_call e.kind) n e es x h (λ k. cut k es x)

-- ---- all sessions

here : (s n : ℕ) → n ≡ s + 0 → s ≡ n
here s n e = omega (arith, e)

later : (s i n : ℕ) → n ≡ s + suc i → n ≡ suc s + i
later s i n e = omega (arith, e)

at_from : (w : Setting) (h : List Entry) (s i n : ℕ) (ss : List (List Event)) → n ≡ s + i
    → slice_get (sessions_at w h s ss) i ≡ option_map (events_for (length (calls_of w h n))) (slice_get ss i)
at_from w h s i n [] e = refl
at_from w h s zero n (es ∷ ss) e = ap (λ k. Some (events_for (length (calls_of w h k)) es)) (here s n e)
at_from w h s (suc i) n (es ∷ ss) e = at_from w h (suc s) i n ss (later s i n e)

from_none : (n : ℕ) → n ≡ 0 + n
from_none n = omega arith

-- the events that session s had then
pub session_at : (w : Setting) (h : List Entry) (ss : List (List Event)) (s : ℕ)
    → slice_get (sessions_at w h 0 ss) s ≡ option_map (events_for (length (calls_of w h s))) (slice_get ss s)
session_at w h ss s = at_from w h 0 s s ss (from_none s)

-- Session s is there, and what events it had.
pub record WasAt (w : Setting) (h : List Entry) (ss : List (List Event)) (s : ℕ) (events : List Event) : Type 0 where
  pub now : List Event
  pub there : slice_get ss s ≡ Some now
  pub then_had : events_for (length (calls_of w h s)) now ≡ events

pub was_at : (w : Setting) (h : List Entry) (ss : List (List Event)) (s : ℕ) (events : List Event)
    → slice_get (sessions_at w h 0 ss) s ≡ Some events → WasAt w h ss s events
was_at w h ss s events e = go (slice_get ss s) refl (sym (session_at w h ss s) ∙ e)
  where
    go : (o : Option (List Event)) → slice_get ss s ≡ o
        → option_map (events_for (length (calls_of w h s))) o ≡ Some events
        → WasAt w h ss s events
    go None there f = absurd (none-some events f)
    go (Some es) there f = record { now = es; there = there; then_had = same_of f }

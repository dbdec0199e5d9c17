-- Whose an event is, when it ends a session, and that the events of one session make one run.
use Rattle.std.proofs.Common.{◌≡◌, ℕ, zero, Bool, true, false, [], ◌∷◌, Option, None, Some, option_map, refl, sym, ap, ◌∙◌, subst}
use Rattle.std.proofs.lemmas.Bool.{false≢true}
use Rattle.behaviour_tree.specs.declared.words.Kind.{Kind}
use Rattle.behaviour_tree.specs.declared.words.Kind.TheVariants as kind
use Rattle.behaviour_tree.specs.declared.words.Given.{Given}
use Rattle.behaviour_tree.specs.declared.words.Given.TheVariants as given
use Rattle.behaviour_tree.specs.Data.{ProgramParts}
use Rattle.session_calculus.specs.Terms.{Fault, Term, done, in_scope, live}
use Rattle.session_calculus.specs.Throw.{Carried, up, caught_at, ended_at, blocked, absent, throw}
use Rattle.session_calculus.specs.Moves.{Seen}
use Rattle.session_calculus.specs.Faults.{fault_in}
use Rattle.session_calculus.specs.After.{Config, Done, moves, is_finished, raised, raises, moved, acts, finishes, seen_by, after}
use Rattle.session_calculus.specs.Open.{open_requests, waiting}
use Rattle.session_calculus.specs.Runs.{Leads}
use Rattle.session_calculus.specs.Laws.{EndsForGood, EndsByFinish, EndsClean, IsOfItsStrand, GoesOn}
use Rattle.session_calculus.proofs.Options.{OnValue, OnValue-map, OnValue-imp, OnValue-some}
use Rattle.session_calculus.proofs.Steps.{is_finish, IsStep, Steps, step-moves}

-- an event is one of a session that has not ended: its last, or one by which a strand acts
pub after-split : (P : Option Done → Type 0) (parts : ProgramParts) (service : ℕ) (c : Config) (n : ℕ) (g : Given) → P None
    → (c.ended ≡ false → is_finished c.form ≡ true → P (finishes c n g))
    → (c.ended ≡ false → P (acts c (seen_by parts service c n g)))
    → P (after parts service c n g)
after-split P parts service c n g none finish act = go c.ended (is_finished c.form) refl refl
  where
    go : (ended finished : Bool) → c.ended ≡ ended → is_finished c.form ≡ finished
        → P (elim ended [
          | true ↦ None
          | false ↦ elim finished [ true ↦ finishes c n g | false ↦ acts c (seen_by parts service c n g) ]
        ])
    go true finished e f = none
    go false true e f = finish e f
    go false false e f = act e

-- an act is a fault that is raised, or a move
pub acts-split : (P : Done → Type 0) (c : Config) (s : Seen)
    → ((f : Fault) → s.gift ≡ given.Nothing → OnValue P (raised c s.strand f.name (throw s.strand f 0 c.form)))
    → OnValue (λ m. P (moved c m)) (moves s 0 c.form) → OnValue P (acts c s)
acts-split P c s raise move = go (fault_in s 0 c.form)
  where
    given_nothing : (f : Fault) (g : Given) → s.gift ≡ g → OnValue P (raises c s.strand g f)
    given_nothing f given.Nothing e = raise f e
    given_nothing f g e = tt

    go : (o : Option Fault)
        → OnValue P (elim o [ Some f ↦ raises c s.strand s.gift f | None ↦ option_map (moved c) (moves s 0 c.form) ])
    go None = OnValue-map P (moved c) (moves s 0 c.form) move
    go (Some f) = given_nothing f s.gift refl

-- ---- whose it is, and when it ends the session

-- an event of strand n; the session ends exactly by Finish, and nothing is open and nothing waits where it ended
pub record IsEvent (n : ℕ) (d : Done) : Type 0 where
  pub strand : d.event.strand ≡ n
  pub finish : d.config.ended ≡ is_finish d.event.kind
  pub closed : d.config.ended ≡ true → (open_requests d.config.form ≡ []) × (waiting d.config.form ≡ [])

-- a step after which the session goes on
goes_on_after : (n : ℕ) (d : Done) → d.config.ended ≡ false → IsStep n d.event → IsEvent n d
goes_on_after n d e h = record { strand = h.0; finish = e ∙ sym h.1; closed = λ t. absurd (false≢true (sym e ∙ t)) }

-- nothing is open where nothing is left to do
finished-clean : (t : Term) → is_finished t ≡ true → (open_requests t ≡ []) × (waiting t ≡ [])
finished-clean done h = (refl, refl)
finished-clean (in_scope q done hs live) h = (refl, refl)
finished-clean t h = absurd (false≢true h)

-- the last event is such an event
is_event-finishes : (c : Config) (n : ℕ) (g : Given) → is_finished c.form ≡ true → OnValue (IsEvent n) (finishes c n g)
is_event-finishes c zero given.Nothing h = record { strand = refl; finish = refl; closed = λ t. finished-clean c.form h }
is_event-finishes c n g h = tt

-- so is a fault that was carried
is_event-raised : (c : Config) (n f : ℕ) (x : Carried Term) → c.ended ≡ false → OnValue (IsEvent n) (raised c n f x)
is_event-raised c n f (up t) e = goes_on_after n _ e (refl, refl)
is_event-raised c n f (caught_at t q) e = goes_on_after n _ e (refl, refl)
is_event-raised c n f (ended_at t q) e = goes_on_after n _ e (refl, refl)
is_event-raised c n f (blocked m) e = tt
is_event-raised c n f absent e = tt

-- so is a step of a strand
is_event-acts : (c : Config) (s : Seen) → c.ended ≡ false → OnValue (IsEvent s.strand) (acts c s)
is_event-acts c s e =
    acts-split (IsEvent s.strand) c s (λ f g. is_event-raised c s.strand f.name (throw s.strand f 0 c.form) e)
    (OnValue-imp (Steps s.strand) (λ m. IsEvent s.strand (moved c m)) (moves s 0 c.form)
    (λ m h. goes_on_after s.strand (moved c m) e h.0) (step-moves s 0 c.form))

-- each event is of its strand, and ends the session exactly where it is Finish
pub is_event : (parts : ProgramParts) (service : ℕ) (c : Config) (n : ℕ) (g : Given) (d : Done)
    → after parts service c n g ≡ Some d → IsEvent n d
is_event parts service c n g d e =
    OnValue-some (IsEvent n) (after parts service c n g) d e
    (after-split (OnValue (IsEvent n)) parts service c n g tt (λ ended finished. is_event-finishes c n g finished)
    (λ ended. is_event-acts c (seen_by parts service c n g) ended))

-- the kind of the last event
is_finish-kind : (k : Kind) → is_finish k ≡ true → k ≡ kind.Finish
is_finish-kind kind.Finish h = refl
is_finish-kind k h = absurd (false≢true h)

-- no session has an event after it ended
pub ends_for_good : EndsForGood
ends_for_good parts service c n g e =
    ap (λ b. elim b [
      | true ↦ None
      | false ↦ elim (is_finished c.form) [ true ↦ finishes c n g | false ↦ acts c (seen_by parts service c n g) ]
    ]) e

-- an event ends a session exactly where it is Finish
pub ends_by_finish : EndsByFinish
ends_by_finish parts service c n g d e =
    let h = is_event parts service c n g d e in
    (λ ended. is_finish-kind d.event.kind (sym h.finish ∙ ended), λ last. h.finish ∙ ap is_finish last)

-- a session ends only where nothing is open and nothing waits
pub ends_clean : EndsClean
ends_clean parts service c n g d e k =
    let h = is_event parts service c n g d e in h.closed (h.finish ∙ ap is_finish k)

-- an event is of the strand that it was asked of
pub is_of_its_strand : IsOfItsStrand
is_of_its_strand parts service c n g d e = (is_event parts service c n g d e).strand

-- an event after some steps is a step more
pub goes_on : GoesOn
goes_on parts service from mid [] n g d w e =
    let strand = is_of_its_strand parts service mid n g d e in
    subst (λ c. Leads parts service c (record { event = d.event; gift = g } ∷ []) d.config) (sym w)
    (d, subst (λ k. after parts service mid k g ≡ Some d) (sym strand) e, refl, refl)
goes_on parts service from mid (s ∷ steps) n g d w e =
    (w.0, w.1, w.2, goes_on parts service w.0.config mid steps n g d w.3 e)

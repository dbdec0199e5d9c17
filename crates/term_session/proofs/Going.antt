-- What a step makes of a session that goes on, by what acting in its form came to.
use Rattle.std.proofs.Common.{◌≡◌, ℕ, Bool, true, false, Option, None, Some, refl, sym, ap, ◌∙◌}
use Rattle.std.proofs.lemmas.Bool.{false≢true}
use Rattle.behaviour_tree.specs.declared.words.Given.{Given}
use Rattle.behaviour_tree.specs.Data.{ProgramParts}
use Rattle.behaviour_tree.specs.PartsView.{parts_of}
use Rattle.session_calculus.specs.After.{Config, raises, acts, finishes, after, is_finished, seen_by}
use Rattle.session_calculus.specs.Moves.{Seen}
use Rattle.session_calculus.specs.Names.{main}
use Rattle.session_calculus.specs.Tables.{empty}
use Rattle.session_calculus.specs.Terms.{Fault, Term}
use Rattle.handler_table.specs.View.{table_view}
use Rattle.session_events.specs.Seen as scenes
use Rattle.session_values.specs.declared.actor.Actor.{Actor}
use Rattle.session_forms.specs.declared.installed.Installed.{Installed}
use Rattle.term_session.specs.Configs.{config_view}
use Rattle.term_session.specs.Steps.{stepped, stepped_by}
use Rattle.term_session.specs.Walks.{stuck, faulted, acted_in}
use Rattle.term_session.specs.declared.config.Config as session
use Rattle.term_session.proofs.Stepping.{goes_on, goes_on_acted, form_stays, seen_stays}

-- what a strand sees of a session, around which stands a scope main without handlers
pub seen_outermost : (a : Actor) (g : Given) (h : Installed) (c : session.Config) → h.scope ≡ main → table_view h.table ≡ empty
    → scenes.seen_by a g h c.memory ≡ seen_by (parts_of a.program.now) a.service (config_view c) a.strand g
seen_outermost a g h c named without =
    let s = scenes.seen_by a g h c.memory in
    ap (λ q. record s { scope = q }) named ∙ ap (λ b. record s { scope = main; table = b }) without

-- the session with another form, where this is seen of it
abbrev pub seen_with : Config → Term → Seen → Config
seen_with c t s = record { form = t; store = s.store; next = s.next; call = s.call; ended = c.ended }

module _ (parts : ProgramParts) (service : ℕ) (c : Config) (n : ℕ) (g : Given) where
  -- no event came
  pub step_stuck : (t : Term) (i : Seen) → stuck t i ≡ acted_in (seen_by parts service c n g) 0 c.form
      → stepped (seen_with c t i) None ≡ stepped_by c (acts c (seen_by parts service c n g))
  step_stuck t i e =
      let s = seen_by parts service c n g in
      ap (λ u. stepped (seen_with c u i) None) (form_stays s 0 c.form (stuck t i) e)
      ∙ ap (λ j. stepped (seen_with c c.form j) None) (seen_stays s 0 c.form (stuck t i) e)
      ∙ ap (stepped_by c) (ap (goes_on c s) e ∙ goes_on_acted c s)

  -- the strand has a fault
  pub step_faulted : (f : Fault) (t : Term) (i : Seen) → faulted f t i ≡ acted_in (seen_by parts service c n g) 0 c.form
      → stepped_by (seen_with c t i) (raises (seen_with c t i) n g f) ≡ stepped_by c (acts c (seen_by parts service c n g))
  step_faulted f t i e =
      let s = seen_by parts service c n g in
      ap (λ u. stepped_by (seen_with c u i) (raises (seen_with c u i) n g f)) (form_stays s 0 c.form (faulted f t i) e)
      ∙ ap (λ j. stepped_by (seen_with c c.form j) (raises (seen_with c c.form j) n g f)) (seen_stays s 0 c.form (faulted f t i) e)
      ∙ ap (stepped_by c) (ap (goes_on c s) e ∙ goes_on_acted c s)

-- one of three, by two tests
first_of : {A : Type 0} (b d : Bool) (x y z : A) → b ≡ true
    → ◌≡◌ {A = A} (elim b [ true ↦ x | false ↦ elim d [ true ↦ y | false ↦ z ] ]) x
first_of true d x y z e = refl
first_of false d x y z e = absurd (false≢true e)

second_of : {A : Type 0} (b d : Bool) (x y z : A) → b ≡ false → d ≡ true
    → ◌≡◌ {A = A} (elim b [ true ↦ x | false ↦ elim d [ true ↦ y | false ↦ z ] ]) y
second_of true d x y z e f = absurd (false≢true (sym e))
second_of false true x y z e f = refl
second_of false false x y z e f = absurd (false≢true f)

third_of : {A : Type 0} (b d : Bool) (x y z : A) → b ≡ false → d ≡ false
    → ◌≡◌ {A = A} (elim b [ true ↦ x | false ↦ elim d [ true ↦ y | false ↦ z ] ]) z
third_of true d x y z e f = absurd (false≢true (sym e))
third_of false true x y z e f = absurd (false≢true (sym f))
third_of false false x y z e f = refl

module _ (parts : ProgramParts) (service : ℕ) (c : Config) (n : ℕ) (g : Given) where
  -- a session that ended, one that has nothing left to do, and one that goes on
  pub after_ended : c.ended ≡ true → after parts service c n g ≡ None
  after_ended e =
      first_of c.ended (is_finished c.form) None (finishes c n g) (acts c (seen_by parts service c n g)) e

  pub after_finished : c.ended ≡ false → is_finished c.form ≡ true → after parts service c n g ≡ finishes c n g
  after_finished e f =
      second_of c.ended (is_finished c.form) None (finishes c n g) (acts c (seen_by parts service c n g)) e f

  pub after_going : c.ended ≡ false → is_finished c.form ≡ false
      → after parts service c n g ≡ acts c (seen_by parts service c n g)
  after_going e f =
      third_of c.ended (is_finished c.form) None (finishes c n g) (acts c (seen_by parts service c n g)) e f

-- What holds of every event of a configuration: of its last, of a fault that is raised, and of a move.
use Rattle.std.proofs.Common.{◌≡◌, ℕ, Bool, true, false, Option, None, Some, option_map, refl}
use Rattle.behaviour_tree.specs.declared.words.Given.{Given}
use Rattle.behaviour_tree.specs.declared.words.Given.TheVariants as given
use Rattle.behaviour_tree.specs.Data.{ProgramParts}
use Rattle.session_calculus.specs.Terms.{Fault}
use Rattle.session_calculus.specs.Throw.{throw}
use Rattle.session_calculus.specs.Faults.{fault_in}
use Rattle.session_calculus.specs.After.{Config, Done, moves, is_finished, raised, raises, moved, finishes, seen_by, after}
use Rattle.session_laws.proofs.Options.{OnValue, OnValue-lift, OnValue-some}

module _ (P : Done → Type 0) (parts : ProgramParts) (service : ℕ) (c : Config) (n : ℕ) (g : Given)
    (last : c.ended ≡ false → is_finished c.form ≡ true → OnValue P (finishes c n g))
    (fault : (f : Fault) → is_finished c.form ≡ false → g ≡ given.Nothing
    → fault_in (seen_by parts service c n g) 0 c.form ≡ Some f → OnValue P (raised c n f.name (throw n f 0 c.form)))
    (move : is_finished c.form ≡ false → fault_in (seen_by parts service c n g) 0 c.form ≡ None
    → OnValue (λ m. P (moved c m)) (moves (seen_by parts service c n g) 0 c.form)) where
  -- a fault is raised where nothing was given
  on-raises : (f : Fault) → is_finished c.form ≡ false → fault_in (seen_by parts service c n g) 0 c.form ≡ Some f
      → OnValue P (raises c n g f)
  on-raises f going there = go g refl
    where
      go : (h : Given) → g ≡ h
          → OnValue P (elim h [ given.Nothing ↦ raised c n f.name (throw n f 0 c.form) | _ ↦ None ])
      go given.Nothing e = fault f going e there
      go h e = tt

  -- what holds of each of the three
  on-after : OnValue P (after parts service c n g)
  on-after = go c.ended (is_finished c.form) (fault_in (seen_by parts service c n g) 0 c.form) refl refl refl
    where
      go : (ended finished : Bool) (o : Option Fault) → c.ended ≡ ended → is_finished c.form ≡ finished
          → fault_in (seen_by parts service c n g) 0 c.form ≡ o
          → OnValue P
          (elim ended [
            | true ↦ None
            | false ↦ elim finished [
              | true ↦ finishes c n g
              | false ↦ elim o [
                | Some f ↦ raises c n g f
                | None ↦ option_map (moved c) (moves (seen_by parts service c n g) 0 c.form)
              ]
            ]
          ])
      go true finished o e f h = tt
      go false true o e f h = last e f
      go false false (Some x) e f h = on-raises x f h
      go false false None e f h =
          OnValue-lift (λ m. P (moved c m)) P (moved c) (moves (seen_by parts service c n g) 0 c.form) (λ m k. k)
          (move f h)

  -- holds of the event
  pub of_event : (d : Done) → after parts service c n g ≡ Some d → P d
  of_event d e = OnValue-some P (after parts service c n g) d e on-after

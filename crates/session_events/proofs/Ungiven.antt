-- A place that the office gives nothing for has no event for a gift.
use Rattle.std.proofs.Common.{◌≡◌, Bool, true, false, Option, Some, None, refl}
use Rattle.std.proofs.lemmas.Bool.{false≢true}
use Rattle.jolie_trees.specs.Data.{Tree}
use Rattle.behaviour_tree.specs.declared.words.Given.{Given}
use Rattle.behaviour_tree.specs.declared.words.Given.TheVariants as given
use Rattle.behaviour_tree.specs.Data as plain
use Rattle.behaviour_tree.specs.Data.{Proc, nothing}
use Rattle.behaviour_tree.specs.Values.{truth_of}
use Rattle.session_calculus.specs.After.{act, changes, tests, turn_of}
use Rattle.session_calculus.specs.Calls.{message_value, notifies, solicits}
use Rattle.session_calculus.specs.Effects.{Effect, faults, stores, effect_of, copied, effect_of_undef}
use Rattle.session_calculus.specs.Moves.{Seen, Move, ungiven}
use Rattle.session_calculus.specs.Scopes.{installs, compensates}
use Rattle.session_calculus.specs.Terms.{Term, wait}
use Rattle.session_events.specs.Gifts.{wants_nothing}

-- no event for a gift
gives_none : (g : Given) (m : Move Term) → (g ≡ given.Nothing → ⊥) → ◌≡◌ {A = Option (Move Term)} (elim g [ given.Nothing ↦ Some m | _ ↦ None ]) None
gives_none given.Nothing m h = absurd (h refl)
gives_none (given.Mail a b c) m h = refl
gives_none (given.Answer a) m h = refl
gives_none given.Bound m h = refl
gives_none (given.Held a) m h = refl
gives_none given.Fixed m h = refl

module _ (s : Seen) (other : s.gift ≡ given.Nothing → ⊥) where
  none : (m : Move Term) → ungiven s m ≡ None
  none m = gives_none s.gift m other

  changes_none : (e : Effect) → changes s e ≡ None
  changes_none (faults f) = refl
  changes_none (stores t) = none _

  tests_none : (b : Option Bool) (p q : Proc) → tests s b p q ≡ None
  tests_none None p q = refl
  tests_none (Some true) p q = none _
  tests_none (Some false) p q = none _

  sends_none : (v : Option Tree) (f : Tree → Move Term) → ◌≡◌ {A = Option (Move Term)} (elim v [ None ↦ None | Some w ↦ ungiven s (f w) ]) None
  sends_none None f = refl
  sends_none (Some v) f = none (f v)

  pub acts_none : (p : Proc) → wants_nothing p ≡ true → act s p ≡ None
  acts_none plain.nothing h = refl
  acts_none (plain.assign p e) h = changes_none (effect_of s.store p e)
  acts_none (plain.undef p) h = changes_none (effect_of_undef s.store p)
  acts_none (plain.copy p e) h = changes_none (copied s.store p e)
  acts_none (plain.bind v e) h = absurd (false≢true h)
  acts_none (plain.sequence ps) h = refl
  acts_none (plain.parallel ps) h = refl
  acts_none (plain.choose e p q) h = tests_none (truth_of s.store e) p q
  acts_none (plain.repeat e p) h = tests_none (truth_of s.store e) (turn_of e p) nothing
  acts_none (plain.choice bs) h = absurd (false≢true h)
  acts_none (plain.notify port op e) h = sends_none (message_value s port op e) (λ v. notifies s port op v)
  acts_none (plain.solicit port op e x list) h = sends_none (message_value s port op e) (λ v. solicits s port op v (wait s.call port op x list))
  acts_none (plain.install list) h = none (installs s list)
  acts_none (plain.throw f e) h = refl
  acts_none (plain.comp r) h = none (compensates s r)
  acts_none plain.inner_handler h = refl
  acts_none (plain.scope q p) h = refl
  acts_none (plain.block p) h = refl

-- A variable is bound, or not.
use Rattle.std.proofs.Common.{◌≡◌, ℕ, None, Some, refl}
use Rattle.std.specs.Prelude.{option_map}
use Rattle.jolie_trees.specs.declared.root.Root.{Root}
use Rattle.behaviour_tree.specs.declared.words.Given.{Given}
use Rattle.behaviour_tree.specs.declared.words.Given.TheVariants as given
use Rattle.session_calculus.specs.Calls.{asks_to_bind, binds}
use Rattle.session_calculus.specs.Moves.{Seen, moved_to}
use Rattle.session_events.specs.Goes.{bound_form}

binds_for : (s : Seen) (g : Given) (v : ℕ) (r : Root) → binds (record s { gift = g }) v r ≡ option_map (λ t. moved_to t (asks_to_bind s v r)) (bound_form g)
binds_for s given.Nothing v r = refl
binds_for s (given.Mail a b c) v r = refl
binds_for s (given.Answer a) v r = refl
binds_for s given.Bound v r = refl
binds_for s (given.Held t) v r = refl
binds_for s given.Fixed v r = refl

-- the event of a binding, by what stands there then
pub binds_by : (s : Seen) (v : ℕ) (r : Root) → binds s v r ≡ option_map (λ t. moved_to t (asks_to_bind s v r)) (bound_form s.gift)
binds_by s v r = binds_for s s.gift v r

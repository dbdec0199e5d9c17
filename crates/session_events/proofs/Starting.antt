-- A behaviour starts.
use Rattle.std.proofs.Common.{◌≡◌, refl}
use Rattle.behaviour_tree.specs.Data.{Proc}
use Rattle.session_calculus.specs.Moves.{Made, moved_to, starts}
use Rattle.session_calculus.specs.Start.{Begun, start}
use Rattle.session_calculus.specs.Terms.{Term}

pub starts_by : (p : Proc) (m : Made) (b : Begun Term) → b ≡ start p m.next → moved_to b.form (record m { next = b.next }) ≡ starts p m
starts_by p m b h = rw h refl

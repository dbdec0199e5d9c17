-- Reading an outcome asks only for the program and the service.
use Rattle.std.proofs.Common.{◌≡◌, refl}
use Rattle.behaviour_tree.specs.declared.words.Given.{Given}
use Rattle.behaviour_tree.specs.declared.words.Outcome.{Outcome}
use Rattle.behaviour_tree.specs.declared.words.Outcome.TheVariants as outcome
use Rattle.session_calculus.specs.Answers.{Call, read}
use Rattle.session_values.specs.declared.actor.Actor.{Actor}
use Rattle.session_values.specs.declared.memory.Memory.{Memory}
use Rattle.session_forms.specs.declared.installed.Installed.{Installed}
use Rattle.session_events.specs.Seen.{seen_by}
use Rattle.session_events.specs.Reads.{seen_of}

pub read_by : (a : Actor) (g : Given) (h : Installed) (m : Memory) (c : Call) (o : Outcome) → read (seen_of a) c o ≡ read (seen_by a g h m) c o
read_by a g h m c (outcome.Value v) = refl
read_by a g h m c (outcome.Fault name v) = refl
read_by a g h m c (outcome.Refused r) = refl

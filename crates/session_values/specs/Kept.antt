-- What a change of the store leaves alone.
use Rattle.std.specs.Prelude.{◌≡◌}
use Rattle.session_values.specs.declared.memory.Memory.{Memory}

-- the next strand and the next call stay
pub record Keeps (old new : Memory) : Type 0 where
  pub next : new.next ≡ old.next
  pub call : new.call ≡ old.call

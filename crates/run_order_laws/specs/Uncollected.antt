-- These definitions serve the proofs of runs: no promise of the program speaks of them.
-- Messages that a worker posted and whose answers were not collected yet.
use Rattle.std.specs.Prelude.{◌≡◌, ℕ, true, false, List, [], ◌∷◌, nat_eq, Some, slice_get}
use Rattle.std.specs.List.{list_any}
use Rattle.office_core.specs.declared.message.Message.{Message}
use Rattle.office_core.specs.Limits.{first_worker}
use Rattle.office_core.specs.Past.{Past, some_entry}
use Rattle.office_core.specs.Legal.{collects, posts_as, is_from_port}

-- The first worker posted message n, which came in at a port, and nobody collected its answer.
pub record IsUncollected (past : Past) (n : ℕ) : Type 0 where
  pub message : Message
  pub there : slice_get past.messages n ≡ Some message
  pub port : is_from_port message ≡ true
  pub uncollected : some_entry past (collects n) ≡ false
  pub posted : some_entry past (posts_as first_worker n) ≡ true

-- it is so of each of these messages, and each stands there once
abbrev pub AreUncollected : Past → List ℕ → Type 0
AreUncollected past [] = Unit {0}
AreUncollected past (n ∷ ns) = IsUncollected past n × (list_any (nat_eq n) ns ≡ false) × AreUncollected past ns

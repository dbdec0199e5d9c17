-- These definitions serve the proofs alone: no promise speaks of them.
-- What is found in something that may be there.
use Rattle.std.specs.Prelude.{List, [], Option, None, Some}

-- what is found in something that may be there
abbrev pub if_there : {X A : Type 0} → (X → List A) → Option X → List A
if_there f None = []
if_there f (Some x) = f x

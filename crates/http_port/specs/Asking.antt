-- What is told of who is asked for the answers.
use Rattle.std.specs.Prelude.{◌≡◌, List, ◌++◌}
use Rattle.std.specs.declared.option.Option.{Option}
use Rattle.std.specs.declared.option.Option.TheVariants.{None, Some}

-- what is told grows by these, where it is told
abbrev pub Grows : {A : Type 0} → Option (List A) → Option (List A) → List A → Type 0
Grows None now more = Unit {0}
Grows (Some xs) None more = ⊥
Grows (Some xs) (Some ys) more = ys ≡ xs ++ more

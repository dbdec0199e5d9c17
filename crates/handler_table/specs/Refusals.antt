-- Why handlers were not installed.
use Rattle.std.specs.Prelude.{◌≡◌, Bool, true, false}
use Rattle.handler_table.specs.declared.table.InstallError.{InstallError}
use Rattle.handler_table.specs.declared.table.InstallError.TheVariants.{TooLarge, Memory}

-- whether handlers fit, as a refusal tells it: those that are too large do not, and where memory was wanting they do
abbrev pub TellsWhether : Bool → InstallError → Type 0
TellsWhether fit TooLarge = fit ≡ false
TellsWhether fit (Memory e) = fit ≡ true

use Rattle.std.proofs.Common.{arith, ◌<◌, length}
use Rattle.program_locations.proofs.Addresses.{value_more}
use Rattle.program_locations.proofs.locations.value_of.Goals as goal

pub loop-digit-preserved : goal.loop-digit-preserved
loop-digit-preserved c =
    let ds = c.args.digits.now in
    let i = c.loop-digit.digit-index in
    let within : i < length ds = omega arith in
    let step = value_more ds i c.loop-digit.value within (c.requires i 0 within) c.loop-digit.invariant in
    rw (c.saturating_add-value.ensures, c.saturating_mul.ensures, c.from.ensures, c.saturating_sub.ensures) step

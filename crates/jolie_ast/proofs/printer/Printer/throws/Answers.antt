use Rattle.std.proofs.Common.{◌∷◌, arith, ap, codes, refl, sym}
use Rattle.jolie_ast.specs.Printed.{fault_tokens, throws_tokens}
use Rattle.jolie_ast.proofs.Spacing.{turn_of, token_then, all_behind, first_split}
use Rattle.jolie_ast.proofs.printer.Printer.throws.Goals as goal

pub loop-fault-preserved : goal.loop-fault-preserved
loop-fault-preserved c =
    turn_of fault_tokens c.fault.new.self c.loop-fault.self c.fault-in-loop-fault.new.self _ c.loop-fault.fault-index c.fault-item.result c.loop-fault-test.true c.fault-item.is c.loop-fault.invariant (c.in_ok-fault-2.ensures)

pub returns-after-loop-fault : goal.returns-after-loop-fault
returns-after-loop-fault c =
    all_behind fault_tokens c.args.self.now c.fault.new.self c.loop-fault.self (codes "throws" ∷ fault_tokens c.first-item.result) (throws_tokens c.args.faults.now) _ c.loop-fault.fault-index
    (token_then c.args.self.now c.token.new.self c.fault.new.self (codes "throws") (fault_tokens c.first-item.result) _ (c.in_ok-token.ensures) (c.in_ok-fault.ensures) refl)
    c.loop-fault.invariant (omega arith) (sym (ap throws_tokens (first_split c.args.faults.now c.first-item.result c.in-len1-up.len_at_least c.first-item.is)))

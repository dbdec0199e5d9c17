use Rattle.std.proofs.Common.{◌≡◌, sym, false, true}
use Rattle.jsonrpc_text.proofs.Reading.{value_of-text, value_of-broken}
use Rattle.jsonrpc_text.proofs.read.value_of.Goals as goal

pub returns-in_default : goal.returns-in_default
returns-in_default c = sym (value_of-broken c.args.bytes.now c.in_default.ensures.cases.0)

pub returns-in-Ok-from_str : goal.returns-in-Ok-from_str
returns-in-Ok-from_str c = rw (value_of-text c.args.bytes.now c.in-Ok.ensures.cases.1, ← c.in-Ok.ensures.cases.0, c.in-Ok-from_str.ensures.ok)

pub returns-else-is_memory : goal.returns-else-is_memory
returns-else-is_memory c =
    rw (value_of-text c.args.bytes.now c.in-Ok.ensures.cases.1, ← c.in-Ok.ensures.cases.0, c.in-Err.ensures.err (λ m. let t : false ≡ true = c.if-is_memory.ensures.1 m in cc))

use Rattle.correlation.specs.View.{sessions_of}
use Rattle.office_plain.proofs.Writes.{value_can, value_none, value_some}
use Rattle.office_plain.proofs.writing.write_value.Goals as goal

pub returns-in_default : goal.returns-in_default
returns-in_default c = value_none c.args.session c.args.variable c.args.value (sessions_of c.args.rows.now) c.in_default.is

pub write_one-requires-clause-free : goal.write_one-requires-clause-free
write_one-requires-clause-free c =
    value_can c.args.session c.args.variable c.args.value c.in-Some.root c.in_ok-copy.copy (sessions_of c.args.rows.now)
    c.in-Some.is c.in_ok-copy.ensures c.requires.free

pub returns : goal.returns
returns c =
    value_some c.args.session c.args.variable c.args.value c.in-Some.root c.in_ok-copy.copy (sessions_of c.args.rows.now) _
    c.in-Some.is c.in_ok-copy.ensures c.in_ok-write_one.ensures

-- A look finds what would be taken.
use Rattle.behaviour_tree.specs.declared.words.Need.TheVariants as need
use Rattle.session_turn.proofs.Passing.{acts_in, mail_there}
use Rattle.session_turn.proofs.plain.PlainDeskDesk.has_mail.Goals as goal

pub has_mail-requires : goal.has_mail-requires
has_mail-requires c = acts_in c.args.session (need.Take c.args.ops.now) c.requires.pass c.requires.may

pub returns-clause-exact : goal.returns-clause-exact
returns-clause-exact c =
    mail_there c.args.session c.args.ops.now c.has_mail.result c.requires.pass
    (c.has_mail.ensures c.requires.pass.ready)

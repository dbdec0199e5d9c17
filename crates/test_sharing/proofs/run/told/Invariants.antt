use Rattle.std.proofs.Common.{Some}
use Rattle.test_sharing.proofs.run.told.Given as goal

abbrev pub ghosts-told_of : goal.ghosts-told_of
ghosts-told_of g a = record { table = a.opened.table.shared.table_id; program = Some a.opened.table.shared.key.value }

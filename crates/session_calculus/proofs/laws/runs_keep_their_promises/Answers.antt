use Rattle.session_calculus.proofs.Absent.{no_fault_is_absent}
use Rattle.session_calculus.proofs.Asks.{answers_all}
use Rattle.session_calculus.proofs.Endings.{ends_for_good, ends_by_finish, ends_clean, is_of_its_strand, goes_on}
use Rattle.session_calculus.proofs.Histories.{ends_answered}
use Rattle.session_calculus.proofs.Kept.{kill_keeps_calls}
use Rattle.session_calculus.proofs.Settled.{begins_normal}
use Rattle.session_calculus.proofs.Unblocked.{raises_unblocked}
use Rattle.session_calculus.proofs.Upward.{throw_keeps_calls}
use Rattle.session_calculus.proofs.Waits.{waits_for_all}
use Rattle.session_calculus.proofs.laws.runs_keep_their_promises.Goals as goal

pub returns-clause-begun : goal.returns-clause-begun
returns-clause-begun c = begins_normal

pub returns-clause-for_good : goal.returns-clause-for_good
returns-clause-for_good c = ends_for_good

pub returns-clause-finish : goal.returns-clause-finish
returns-clause-finish c = ends_by_finish

pub returns-clause-clean : goal.returns-clause-clean
returns-clause-clean c = ends_clean

pub returns-clause-strand : goal.returns-clause-strand
returns-clause-strand c = is_of_its_strand

pub returns-clause-one_run : goal.returns-clause-one_run
returns-clause-one_run c = goes_on

pub returns-clause-answered : goal.returns-clause-answered
returns-clause-answered c = answers_all

pub returns-clause-at_end : goal.returns-clause-at_end
returns-clause-at_end c = ends_answered

pub returns-clause-waited : goal.returns-clause-waited
returns-clause-waited c = waits_for_all

pub returns-clause-kill : goal.returns-clause-kill
returns-clause-kill c = kill_keeps_calls

pub returns-clause-throw : goal.returns-clause-throw
returns-clause-throw c = throw_keeps_calls

pub returns-clause-unblocked : goal.returns-clause-unblocked
returns-clause-unblocked c = raises_unblocked

pub returns-clause-there : goal.returns-clause-there
returns-clause-there c = no_fault_is_absent

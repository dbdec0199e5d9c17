use Rattle.office_sharing.proofs.Dealing.{begins, copies, makes}
use Rattle.office_sharing.proofs.Ending.{ends}
use Rattle.office_sharing.proofs.Joining.{joins}
use Rattle.office_sharing.proofs.Steps.{commits, gives_back, looks, takes_turn}
use Rattle.office_sharing.proofs.laws.steps_keep_the_rule.Goals as goal

pub returns-clause-begins : goal.returns-clause-begins
returns-clause-begins c = begins

pub returns-clause-takes : goal.returns-clause-takes
returns-clause-takes c = takes_turn

pub returns-clause-commits : goal.returns-clause-commits
returns-clause-commits c = commits

pub returns-clause-gives : goal.returns-clause-gives
returns-clause-gives c = gives_back

pub returns-clause-looks : goal.returns-clause-looks
returns-clause-looks c = looks

pub returns-clause-copies : goal.returns-clause-copies
returns-clause-copies c = copies

pub returns-clause-joins : goal.returns-clause-joins
returns-clause-joins c = joins

pub returns-clause-ends : goal.returns-clause-ends
returns-clause-ends c = ends

pub returns-clause-makes : goal.returns-clause-makes
returns-clause-makes c = makes

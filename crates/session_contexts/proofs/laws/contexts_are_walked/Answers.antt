use Rattle.session_contexts.proofs.Killing.{kills_inward}
use Rattle.session_contexts.proofs.Moving.{moves_inside}
use Rattle.session_contexts.proofs.Settling.{tidy_normal, normal_outward, settles_alone}
use Rattle.session_contexts.proofs.Standing.{strands_inside, faults_inside, ready_inside, scopes_outward}
use Rattle.session_contexts.proofs.Throwing.{throws_outward}
use Rattle.session_contexts.proofs.laws.contexts_are_walked.Goals as goal

pub returns-clause-tidy : goal.returns-clause-tidy
returns-clause-tidy c = tidy_normal

pub returns-clause-normal : goal.returns-clause-normal
returns-clause-normal c = normal_outward

pub returns-clause-members : goal.returns-clause-members
returns-clause-members c = settles_alone

pub returns-clause-strands : goal.returns-clause-strands
returns-clause-strands c = strands_inside

pub returns-clause-faults : goal.returns-clause-faults
returns-clause-faults c = faults_inside

pub returns-clause-ready : goal.returns-clause-ready
returns-clause-ready c = ready_inside

pub returns-clause-moves : goal.returns-clause-moves
returns-clause-moves c = moves_inside

pub returns-clause-throws : goal.returns-clause-throws
returns-clause-throws c = throws_outward

pub returns-clause-kills : goal.returns-clause-kills
returns-clause-kills c = kills_inward

pub returns-clause-scopes : goal.returns-clause-scopes
returns-clause-scopes c = scopes_outward

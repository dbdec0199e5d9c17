use Rattle.session_laws.proofs.Adding.{adds_few, draws_few}
use Rattle.session_laws.proofs.Answering.{answers_once}
use Rattle.session_laws.proofs.Asking.{asks_one_thing}
use Rattle.session_laws.proofs.Compensating.{compensates_once}
use Rattle.session_laws.proofs.Entries.{names_no_scope}
use Rattle.session_laws.proofs.Normal.{normal_stays}
use Rattle.session_laws.proofs.Putting.{entries_come_from_events, entries_were_put, strands_differ_in_runs}
use Rattle.session_laws.proofs.Sending.{sends_once}
use Rattle.session_laws.proofs.Sounding.{begins_sound, stays_sound}
use Rattle.session_laws.proofs.laws.further_laws_of_runs.Goals as goal

pub returns-clause-asks : goal.returns-clause-asks
returns-clause-asks c = asks_one_thing

pub returns-clause-sent : goal.returns-clause-sent
returns-clause-sent c = sends_once

pub returns-clause-answered : goal.returns-clause-answered
returns-clause-answered c = answers_once c.runs_keep_their_promises.ensures.answered

pub returns-clause-normal : goal.returns-clause-normal
returns-clause-normal c = normal_stays

pub returns-clause-begins : goal.returns-clause-begins
returns-clause-begins c = begins_sound

pub returns-clause-stays : goal.returns-clause-stays
returns-clause-stays c =
    let laws = c.runs_keep_their_promises.ensures in stays_sound laws.one_run laws.waited laws.answered

pub returns-clause-adds : goal.returns-clause-adds
returns-clause-adds c = adds_few

pub returns-clause-draws : goal.returns-clause-draws
returns-clause-draws c = draws_few

pub returns-clause-differ : goal.returns-clause-differ
returns-clause-differ c = strands_differ_in_runs

pub returns-clause-sources : goal.returns-clause-sources
returns-clause-sources c = entries_come_from_events c.runs_keep_their_promises.ensures.strand

pub returns-clause-put : goal.returns-clause-put
returns-clause-put c = entries_were_put (entries_come_from_events c.runs_keep_their_promises.ensures.strand)

pub returns-clause-keys : goal.returns-clause-keys
returns-clause-keys c = names_no_scope

pub returns-clause-spent : goal.returns-clause-spent
returns-clause-spent c = compensates_once

use Rattle.http_port.proofs.ReadingLemmas.{gives_a_front, gives_all}
use Rattle.http_port.proofs.laws.cuts_do_not_matter.Goals as goal

pub returns-clause-front : goal.returns-clause-front
returns-clause-front c = gives_a_front

pub returns-clause-all : goal.returns-clause-all
returns-clause-all c = gives_all

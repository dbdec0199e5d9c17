use Rattle.outside_links.proofs.Comings.{first_brought, none_brought}
use Rattle.outside_links.proofs.unfailing_link.next_bytes.Goals as goal

pub returns-in-None : goal.returns-in-None
returns-in-None c = none_brought _ _ _ _ c.in-None.ensures c.new.ensures.items

pub returns-in-Some : goal.returns-in-Some
returns-in-Some c = first_brought _ _ _ c.in-Some.bytes c.in-Some.ensures

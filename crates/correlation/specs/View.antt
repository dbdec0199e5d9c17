-- What rows are of: the sessions that were born, in this order, with what their variables have.
use Rattle.std.specs.Prelude.{List}
use Rattle.correlation.specs.declared.rows.Rows.{Rows}
use Rattle.correlation.specs.declared.session.Session.{Session}

-- the sessions that were born
abbrev pub sessions_of : Rows → List Session
sessions_of rows = rows.sessions.items

-- What a session is at a moment, and which service it is of.
use Rattle.std.specs.Prelude.{ℕ, Option, option_map}
use Rattle.session_calculus.specs.After.{Config}
use Rattle.term_session.specs.Configs.{config_view}
use Rattle.term_session.specs.declared.session.TermSession.{TermSession}

-- the configuration of a session, none once memory ran out in a step
abbrev pub config_of : TermSession → Option Config
config_of s = option_map config_view s.config

-- the number of its service
abbrev pub service_of : TermSession → ℕ
service_of s = s.service

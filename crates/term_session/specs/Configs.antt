-- What a session is at a moment.
use Rattle.session_calculus.specs.After as spec
use Rattle.session_forms.specs.View.{term_view}
use Rattle.term_session.specs.declared.config.Config.{Config}

-- the configuration that a session is in
abbrev pub config_view : Config → spec.Config
config_view c = record {
  form = term_view c.form.value;
  store = c.memory.store;
  next = c.memory.next;
  call = c.memory.call;
  ended = c.ended;
}

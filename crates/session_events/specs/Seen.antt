-- What a place sees, and the moves that the events of Rust stand for.
use Rattle.behaviour_tree.specs.declared.words.Event.{Event}
use Rattle.behaviour_tree.specs.declared.words.Need.{Need}
use Rattle.behaviour_tree.specs.declared.words.Given.{Given}
use Rattle.behaviour_tree.specs.PartsView.{parts_of}
use Rattle.session_calculus.specs.Terms.{Term}
use Rattle.session_calculus.specs.Moves.{Seen, Made, Move, moved_to}
use Rattle.handler_table.specs.View.{table_view}
use Rattle.session_values.specs.declared.actor.Actor.{Actor}
use Rattle.session_values.specs.declared.memory.Memory.{Memory}
use Rattle.session_forms.specs.View.{term_view}
use Rattle.session_forms.specs.declared.installed.Installed.{Installed}
use Rattle.session_events.specs.declared.event.Moved.{Moved}
use Rattle.session_events.specs.declared.scene.Scene.{Scene}

-- what a place sees: who acts, what the office gave, the nearest scope with its handlers, and the memory of the session
abbrev pub seen_by : Actor → Given → Installed → Memory → Seen
seen_by a g h m = record {
  parts = parts_of a.program.now;
  service = a.service;
  strand = a.strand;
  gift = g;
  scope = h.scope;
  table = table_view h.table;
  store = m.store;
  next = m.next;
  call = m.call;
}

-- what is seen where an event is
abbrev pub seen_in : Scene → Given → Memory → Seen
seen_in p g m = seen_by p.actor g p.installed.now m

-- what an event made, with the nearest scope and the memory as they are then
abbrev pub made_with : Installed → Memory → Event → Need → Made
made_with h m e n = record {
  table = table_view h.table;
  store = m.store;
  next = m.next;
  call = m.call;
  event = e;
  need = n;
}

-- an event that came, with the nearest scope and the memory as they are then
abbrev pub moved_view : Moved → Installed → Memory → Move Term
moved_view x h m = moved_to (term_view x.form.value) (made_with h m x.event x.need.value)

-- the same where the handlers stay
abbrev pub moved_in : Scene → Moved → Memory → Move Term
moved_in p x m = moved_view x p.installed.now m

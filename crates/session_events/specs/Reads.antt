-- What a caller reads, and the event of an answer.
use Rattle.std.specs.Prelude.{ℕ}
use Rattle.behaviour_tree.specs.declared.words.Event.{Event}
use Rattle.behaviour_tree.specs.declared.words.Kind.TheVariants as kind
use Rattle.behaviour_tree.specs.declared.words.Given.TheVariants as given
use Rattle.behaviour_tree.specs.PartsView.{parts_of}
use Rattle.session_calculus.specs.Answers as spec
use Rattle.session_calculus.specs.Moves.{Seen}
use Rattle.session_calculus.specs.Tables.{empty}
use Rattle.jolie_trees.specs.Trees.{void_tree}
use Rattle.session_values.specs.declared.actor.Actor.{Actor}
use Rattle.session_forms.specs.View.{fault_view}
use Rattle.session_forms.specs.declared.call.Call as waiting
use Rattle.session_events.specs.declared.read.Read as read
use Rattle.session_events.specs.declared.read.SentCall.{SentCall}

-- where the call that waits was sent
abbrev pub as_sent : waiting.Call → SentCall
as_sent c = record { number = c.number; port = c.port; op = c.op }

-- a call by its number, port and operation
abbrev pub call_of : SentCall → spec.Call
call_of c = spec.call_of c.number c.port c.op

-- a value or a fault
abbrev pub read_view : read.Read → spec.Read
read_view (read.TheVariants.Answered v) = spec.answered v
read_view (read.TheVariants.Faulted f) = spec.faulted (fault_view f)

-- what is seen of who acts alone, which is all that reading an outcome asks for
abbrev pub seen_of : Actor → Seen
seen_of a = record {
  parts = parts_of a.program.now;
  service = a.service;
  strand = a.strand;
  gift = given.Nothing;
  scope = 0;
  table = empty;
  store = void_tree;
  next = 0;
  call = 0;
}

-- the event of the answer of a call
abbrev pub answer_event : Actor → ℕ → Event
answer_event a n = record { strand = a.strand; kind = kind.Answer; number = n; place = 0; fault = 0 }

-- One event of a session: what it makes of a configuration, what is seen of it, and what it asks of the office.
use Rattle.std.specs.Prelude.{◌≡◌, ℕ, zero, Option, None, Some, option_map, option_and_then, Bool, true, false}
use Rattle.jolie_trees.specs.Data.{Tree}
use Rattle.jolie_trees.specs.Trees.{void_tree}
use Rattle.behaviour_tree.specs.declared.words.Kind.TheVariants as kind
use Rattle.behaviour_tree.specs.declared.words.Event.{Event}
use Rattle.behaviour_tree.specs.declared.words.Need.{Need}
use Rattle.behaviour_tree.specs.declared.words.Need.TheVariants as need
use Rattle.behaviour_tree.specs.declared.words.Given.{Given}
use Rattle.behaviour_tree.specs.declared.words.Given.TheVariants as given
use Rattle.behaviour_tree.specs.Data.{Exp, Proc, nothing, no_procs, proc, assign, undef, copy, bind, sequence}
use Rattle.behaviour_tree.specs.Data.{choose, repeat, choice, notify, solicit, install, comp, ProgramParts}
use Rattle.behaviour_tree.specs.Values.{truth_of}
use Rattle.session_calculus.specs.Names.{main}
use Rattle.session_calculus.specs.Tables.{empty}
use Rattle.session_calculus.specs.Terms.{Fault, Term, Strands, done, place, seq, par, in_scope, exec}
use Rattle.session_calculus.specs.Terms.{fail, wait, dead_wait, prot, no_strands, strand, live, stands_in}
use Rattle.session_calculus.specs.Start.{begin, normal}
use Rattle.session_calculus.specs.Throw.{Carried, up, caught_at, ended_at, blocked, absent, throw}
use Rattle.session_calculus.specs.Moves.{Seen, Move, moved_to, within, quietly, starts}
use Rattle.session_calculus.specs.Moves.{in_strand, ungiven, inside, in_its_scope}
use Rattle.session_calculus.specs.Effects.{Effect, faults, stores, effect_of, copied, effect_of_undef}
use Rattle.session_calculus.specs.Faults.{binding, fault_in}
use Rattle.session_calculus.specs.Inputs.{inputs}
use Rattle.session_calculus.specs.Replies.{outcome_of_fault, reply_of, replies}
use Rattle.session_calculus.specs.Calls.{message_value, notifies, solicits, binds}
use Rattle.session_calculus.specs.Answers.{call_of, answers, dead_answers, with_answer}
use Rattle.session_calculus.specs.Scopes.{installs, compensates, scope_acts}

-- what a session is at a moment: its term, its store, the next strand, the next call, and whether it ended
pub record Config : Type 0 where
  pub form : Term
  pub store : Tree
  pub next : ℕ
  pub call : ℕ
  pub ended : Bool

-- an event done: the configuration after it, the event, and the office call that it makes
pub record Done : Type 0 where
  pub config : Config
  pub event : Event
  pub need : Need

-- where a session of the behaviour begins: its scope main in strand 0, with an empty store
abbrev pub first_config : Proc → Config
first_config p =
    let b = begin p 1 in
    record { form = in_scope main b.form empty live; store = void_tree; next = b.next; call = 0; ended = false }

-- ---- the events of places

-- an action on the store without a fault
abbrev pub changes : Seen → Effect → Option (Move Term)
changes s (faults f) = None
changes s (stores store) = ungiven s (moved_to done (record (quietly s kind.Local) { store = store }))

-- a test starts one behaviour or the other
abbrev pub tests : Seen → Option Bool → Proc → Proc → Option (Move Term)
tests s None p q = None
tests s (Some true) p q = ungiven s (starts p (quietly s kind.Local))
tests s (Some false) p q = ungiven s (starts q (quietly s kind.Local))

-- a body followed by the while that it is of
abbrev pub turn_of : Exp → Proc → Proc
turn_of e body = sequence (proc body (proc (repeat e body) no_procs))

-- the event of a form without a fault, for what the office gave. A throw has a fault, and the other forms are no places
abbrev pub act : Seen → Proc → Option (Move Term)
act s (assign p e) = changes s (effect_of s.store p e)
act s (undef p) = changes s (effect_of_undef s.store p)
act s (copy p e) = changes s (copied s.store p e)
act s (choose e p q) = tests s (truth_of s.store e) p q
act s (repeat e body) = tests s (truth_of s.store e) (turn_of e body) nothing
act s (install list) = ungiven s (installs s list)
act s (comp r) = ungiven s (compensates s r)
act s (choice bs) = inputs s bs
act s (notify port op e) = option_and_then (λ v. ungiven s (notifies s port op v)) (message_value s port op e)
act s (solicit port op e x list) =
    option_and_then (λ v. ungiven s (solicits s port op v (wait s.call port op x list))) (message_value s port op e)
act s (bind v e) = option_and_then (binds s v) (binding s.store e)
act s p = None

-- ---- an event in a form, before normal form

abbrev mutual
  -- the event of the strand that acts, in a form without a fault that runs in strand k
  pub moves : Seen → ℕ → Term → Option (Move Term)
  moves s k (place p) = in_strand s k (act s p)
  moves s k (seq t rest) = option_map (within (λ t'. seq t' rest)) (moves s k t)
  moves s k (par ts) = option_map (within par) (moves_among s ts)
  moves s k (in_scope q done h u) = in_strand s k (elim (scope_acts s q h u) [ None ↦ None | Some m ↦ ungiven s m ])
  moves s k (in_scope q t h u) = option_map (in_its_scope s q u) (moves (inside s q h) k t)
  moves s k (exec m o y done) = in_strand s k (ungiven s (replies s m (reply_of s o y) done))
  moves s k (exec m o y t) = option_map (within (exec m o y)) (moves s k t)
  -- nothing in a failed request acts before its fault is told
  moves s k (fail m f t) = in_strand s k (ungiven s (replies s m (outcome_of_fault s.parts f) t))
  moves s k (wait n port op x list) =
      let c = call_of n port op in in_strand s k (with_answer s c (answers s c x list))
  moves s k (dead_wait n port op list) =
      let c = call_of n port op in in_strand s k (with_answer s c (dead_answers s c list))
  moves s k (prot t) = option_map (within prot) (moves s k t)
  moves s k t = None

  -- the same in the member that the strand stands in
  pub moves_among : Seen → Strands → Option (Move Strands)
  moves_among s no_strands = None
  moves_among s (strand k t ts) =
      elim (stands_in s.strand k t) [
        | true ↦ option_map (within (λ t'. strand k t' ts)) (moves s k t)
        | false ↦ option_map (within (strand k t)) (moves_among s ts)
      ]

-- ---- an event of a configuration

-- what strand n sees of a configuration. No scope stands around the whole term
abbrev pub seen_by : ProgramParts → ℕ → Config → ℕ → Given → Seen
seen_by parts service c n g = record {
  parts = parts;
  service = service;
  strand = n;
  gift = g;
  scope = main;
  table = empty;
  store = c.store;
  next = c.next;
  call = c.call;
}

-- nothing is left to do: the whole term is done, or the body of the outermost scope is
abbrev pub is_finished : Term → Bool
is_finished done = true
is_finished (in_scope q done h live) = true
is_finished t = false

-- the last event of a session
abbrev pub finish_event : Event
finish_event = record { strand = 0; kind = kind.Finish; number = 0; place = 0; fault = 0 }

-- the event of a fault: way 0 where a scope caught it, 1 where it ended at a scope, 2 where nobody kept it
abbrev pub raise_event : ℕ → ℕ → ℕ → ℕ → Event
raise_event n way scope f = record { strand = n; kind = kind.Raise; number = way; place = scope; fault = f }

-- a configuration whose form became t, in normal form
abbrev pub with_form : Config → Term → ℕ → Config
with_form c t next = let b = normal t next in record c { form = b.form; next = b.next }

-- a fault that came to where it is kept, or went above the outermost scope
abbrev pub settled : Config → Term → Event → Done
settled c t e = record { config = with_form c t c.next; event = e; need = need.Nothing }

-- fault f of strand n, as it was carried
abbrev pub raised : Config → ℕ → ℕ → Carried Term → Option Done
raised c n f (up t) = Some (settled c t (raise_event n 2 main f))
raised c n f (caught_at t q) = Some (settled c t (raise_event n 0 q f))
raised c n f (ended_at t q) = Some (settled c t (raise_event n 1 q f))
raised c n f (blocked m) = None
raised c n f absent = None

-- a fault is raised where the office gave nothing
abbrev pub raises : Config → ℕ → Given → Fault → Option Done
raises c n g f = elim g [ given.Nothing ↦ raised c n f.name (throw n f 0 c.form) | _ ↦ None ]

-- a move in the form of a configuration
abbrev pub moved : Config → Move Term → Done
moved c m = record {
  config = with_form (record c { store = m.made.store; call = m.made.call }) m.form m.made.next;
  event = m.made.event;
  need = m.made.need;
}

-- a strand whose place has a fault has the event Raise and no other
abbrev pub acts : Config → Seen → Option Done
acts c s =
    elim (fault_in s 0 c.form) [
      | Some f ↦ raises c s.strand s.gift f
      | None ↦ option_map (moved c) (moves s 0 c.form)
    ]

-- strand 0 finishes a session that has nothing left to do
abbrev pub finishes : Config → ℕ → Given → Option Done
finishes c zero given.Nothing =
    Some (record { config = record c { ended = true }; event = finish_event; need = need.Finish })
finishes c n g = None

-- the event of strand n for a gift, or none; a session that ended has no event
abbrev pub after : ProgramParts → ℕ → Config → ℕ → Given → Option Done
after parts service c n g =
    elim c.ended [
      | true ↦ None
      | false ↦ elim (is_finished c.form) [
        | true ↦ finishes c n g
        | false ↦ acts c (seen_by parts service c n g)
      ]
    ]

-- strand n has an event for some gift
abbrev pub HasEvent : ProgramParts → ℕ → Config → ℕ → Type 0
HasEvent parts service c n = (g : Given) × (d : Done) × (after parts service c n g ≡ Some d)

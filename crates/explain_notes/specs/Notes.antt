-- What is noted of a file.
use Rattle.std.specs.Prelude.{ℕ, Bool, false, ◌&&◌, not, if◌then◌else◌, List, [], ◌∷◌, ◌++◌, codes, map, flat_map}
use Rattle.behaviour_tree.specs.Distinct.{is_in}
use Rattle.jolie_ast.specs.declared.name.Name.{Name}
use Rattle.jolie_ast.specs.declared.interface.Fault.{Fault}
use Rattle.jolie_ast.specs.declared.service.Service.{Service}
use Rattle.jolie_ast.specs.declared.tree.Definition.{Definition}
use Rattle.check_base.specs.Files.{Operation, execution_of, interfaces_of, is_concurrent, operations_in, services_of}
use Rattle.explain_notes.specs.Mentions.{Mentioned, Seen, names_in}
use Rattle.explain_notes.specs.Services.{own_sockets, service_mentions}
use Rattle.explain_notes.specs.declared.kind.NoteKind.{NoteKind}
use Rattle.explain_notes.specs.declared.kind.NoteKind.TheVariants as kind
use Rattle.explain_notes.specs.Answers.{content_names}
use Rattle.explain_notes.specs.Rules.{is_asked, is_met, is_noted, is_sent}

-- what is noted of a name
pub record Noted : Type 0 where
  pub kind : NoteKind
  pub name : Name

-- a note of a name
abbrev pub note : NoteKind → Name → Noted
note k n = record { kind = k; name = n }

-- what the definitions of a file say: the faults that its operations throw, the operations that are content with void,
-- and the sockets at which its services are called
pub record Told : Type 0 where
  pub faults : List (List ℕ)
  pub content : List (List ℕ)
  pub sockets : List (List ℕ)

-- told by these
abbrev pub told : List (List ℕ) → List (List ℕ) → List (List ℕ) → Told
told faults content sockets = record { faults = faults; content = content; sockets = sockets }

-- ---- the notes of a kind

-- of each name in its roles that is not known, which is known from there on
abbrev pub notes_after : NoteKind → List (List ℕ) → Seen → List Noted
notes_after k known [] = []
notes_after k known (m ∷ ms) =
    if is_noted k m.role && not (is_in m.name.text known)
    then note k m.name ∷ notes_after k (known ++ m.name.text ∷ []) ms
    else notes_after k known ms

-- of each mention in its roles whose name is known
abbrev pub notes_known : NoteKind → List (List ℕ) → Seen → List Noted
notes_known k known ms =
    flat_map (λ (m : Mentioned). if is_noted k m.role && is_in m.name.text known then note k m.name ∷ [] else []) ms

-- of the first mention in its roles whose name is known
abbrev pub first_known : NoteKind → List (List ℕ) → Seen → List Noted
first_known k known [] = []
first_known k known (m ∷ ms) =
    if is_noted k m.role && is_in m.name.text known then note k m.name ∷ [] else first_known k known ms

-- of each name in its roles, where no name is met
abbrev pub notes_unmet : NoteKind → List (List ℕ) → Seen → List Noted
notes_unmet k [] ms = notes_after k [] ms
notes_unmet k (name ∷ met) ms = []

-- the answers that are set nowhere: of each request whose operation is not content with void, where its body does not
-- set the variable, and no part of the service does that these texts tell of
abbrev pub unanswered_after : List (List ℕ) → List (List ℕ) → Bool → Seen → List Noted
unanswered_after content known asks [] = []
unanswered_after content known asks (m ∷ ms) =
    if is_asked m.role then unanswered_after content known (not (is_in m.name.text content)) ms
    else if is_noted kind.Unanswered m.role && asks && not (is_in m.name.text known)
    then note kind.Unanswered m.name ∷ unanswered_after content known asks ms
    else unanswered_after content known asks ms

-- the faults that may end a loop by a call: of each that is not known, where a call at one of these ports may come back
-- with it, and which is known from there on
abbrev pub called_after : List (List ℕ) → List (List ℕ) → Bool → Seen → List Noted
called_after ports known there [] = []
called_after ports known there (m ∷ ms) =
    if is_sent m.role then called_after ports known (is_in m.name.text ports) ms
    else if is_noted kind.CallEndsLoop m.role && there && not (is_in m.name.text known)
    then note kind.CallEndsLoop m.name ∷ called_after ports (known ++ m.name.text ∷ []) there ms
    else called_after ports known there ms

-- the notes of a kind, by the texts that meet its names and by the operations that are content with void: where values
-- are cut, and of a socket of its own, it is noted of names that are met, otherwise of those that are not; where a call
-- ends a loop, by the ports that are met; of what is not shared once, and of what is answered once where nothing is met
abbrev pub notes_by : NoteKind → List (List ℕ) → List (List ℕ) → Seen → List Noted
notes_by kind.TreeCut met content ms = notes_known kind.TreeCut met ms
notes_by kind.LiteralCut met content ms = notes_known kind.LiteralCut met ms
notes_by kind.OwnSocket met content ms = notes_known kind.OwnSocket met ms
notes_by kind.Unanswered met content ms = unanswered_after content met false ms
notes_by kind.CallEndsLoop met content ms = called_after met [] false ms
notes_by kind.NotShared met content ms = first_known kind.NotShared met ms
notes_by kind.AnsweredOnce met content ms = notes_unmet kind.AnsweredOnce met ms
notes_by k met content ms = notes_after k met ms

-- ---- what meets a name

-- the names of faults
abbrev pub fault_names : List Fault → List (List ℕ)
fault_names faults = map (λ (f : Fault). f.name.text) faults

-- the faults that operations throw
abbrev pub faults_of : List Operation → List (List ℕ)
faults_of operations = flat_map (λ (o : Operation). fault_names o.throws) operations

-- the faults of the operations of a file
abbrev pub declared_faults : List Definition → List (List ℕ)
declared_faults file = flat_map (λ i. faults_of (operations_in i)) (interfaces_of file)

-- the faults that the language throws: those that calls come back with, and those of a session's own statements
abbrev pub standard_faults : List (List ℕ)
standard_faults =
    codes "IOException" ∷ codes "TypeMismatch" ∷ codes "CorrelationError" ∷ codes "Refused" ∷ codes "UndeclaredFault"
    ∷ codes "ExprFault" ∷ codes "HandlerTooLarge" ∷ codes "StoreTooLarge" ∷ []

-- the texts that meet a name of a kind in a file of which this is told, whatever is mentioned: `main` is the outermost
-- scope, whose faults stand below its name, and `global` is what sessions share in another Jolie
abbrev pub texts_met : Told → NoteKind → List (List ℕ)
texts_met t kind.Uncaught = t.faults
texts_met t kind.UncaughtInLoop = t.faults
texts_met t kind.Unthrown = t.faults ++ standard_faults
texts_met t kind.OwnSocket = t.sockets
texts_met t kind.Unset = codes "main" ∷ []
texts_met t kind.NotShared = codes "global" ∷ []
texts_met t k = []

-- the notes of a kind where this is seen, in a file of which this is told
abbrev pub notes_for : Told → Seen → NoteKind → List Noted
notes_for t ms k = notes_by k (texts_met t k ++ names_in (is_met k) ms) t.content ms

-- ---- services and files

-- the kinds that are noted of each service, in their order
abbrev pub kinds_always : List NoteKind
kinds_always =
    kind.Uncaught ∷ kind.Unthrown ∷ kind.NothingUndone ∷ kind.Unsent ∷ kind.OwnSocket ∷ kind.Unset ∷ kind.Unread
    ∷ kind.TreeCut ∷ kind.LiteralCut ∷ kind.Unanswered ∷ []

-- the kinds that are noted of a service by how its sessions are run
abbrev pub kinds_by_sessions : Service → List NoteKind
kinds_by_sessions s =
    if is_concurrent (execution_of s)
    then kind.UncaughtInLoop ∷ kind.EndsLoop ∷ kind.CallEndsLoop ∷ kind.NotShared ∷ []
    else kind.EndsService ∷ kind.EndsLoop ∷ kind.CallEndsLoop ∷ kind.Forgotten ∷ kind.AnsweredOnce ∷ []

-- what is noted of a service: of one kind after the other
abbrev pub service_notes : Told → Service → List Noted
service_notes t s = flat_map (notes_for t (service_mentions s)) (kinds_always ++ kinds_by_sessions s)

-- what is noted of a file of which this is told: of one service after the other
abbrev pub notes_in : Told → List Definition → List Noted
notes_in t file = flat_map (service_notes t) (services_of file)

-- what is noted of a file
abbrev pub notes_of : List Definition → List Noted
notes_of file = notes_in (told (declared_faults file) (content_names file) (own_sockets file)) file

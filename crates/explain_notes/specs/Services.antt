-- What a service mentions.
use Rattle.std.specs.Prelude.{ℕ, Bool, nat_eq, if◌then◌else◌, List, [], ◌∷◌, codes, flat_map}
use Rattle.std.specs.List.{starts_with}
use Rattle.jolie_ast.specs.declared.service.Clause.{Clause}
use Rattle.jolie_ast.specs.declared.service.Clause.TheVariants as clause
use Rattle.jolie_ast.specs.declared.service.Port.{Port}
use Rattle.jolie_ast.specs.declared.service.Service.{Service}
use Rattle.jolie_ast.specs.declared.tree.Definition.{Definition}
use Rattle.check_base.specs.Files.{services_of}
use Rattle.explain_notes.specs.declared.role.Role.TheVariants as role
use Rattle.explain_notes.specs.Mentions.{Seen, mention, word, around_scope}
use Rattle.explain_notes.specs.Processes.{block_mentions}

-- a location is one of a socket
abbrev pub is_socket : List ℕ → Bool
is_socket location = starts_with nat_eq location (codes "socket://")

-- the location of an output port, and its name once more where that is a socket
abbrev pub dialled_mentions : Port → Seen
dialled_mentions port =
    mention role.Dialled (word port.location.at port.location.text)
    ∷ (if is_socket port.location.text then mention role.Elsewhere port.name ∷ [] else [])

-- what an output port mentions: its name and its location
abbrev pub port_mentions : Port → Seen
port_mentions port = mention role.Port port.name ∷ dialled_mentions port

-- what a clause mentions: its output port, or what stands in its braces; `main` is the outermost scope
abbrev pub clause_mentions : Clause → Seen
clause_mentions (clause.OutputPort port) = port_mentions port
clause_mentions (clause.Init at body) = block_mentions body
clause_mentions (clause.Main at body) = around_scope (block_mentions body)
clause_mentions _ = []

-- what a service mentions, in the order of its text
abbrev pub service_mentions : Service → Seen
service_mentions s = flat_map clause_mentions s.clauses

-- ---- the sockets of a file

-- the location of a port, where it is one of a socket
abbrev pub socket_of : Port → List (List ℕ)
socket_of port = if is_socket port.location.text then port.location.text ∷ [] else []

-- the same of a clause that is an input port
abbrev pub socket_in : Clause → List (List ℕ)
socket_in (clause.InputPort port) = socket_of port
socket_in _ = []

-- the sockets at which a service is called
abbrev pub sockets_of : Service → List (List ℕ)
sockets_of s = flat_map socket_in s.clauses

-- the sockets at which the services of a file are called
abbrev pub own_sockets : List Definition → List (List ℕ)
own_sockets file = flat_map sockets_of (services_of file)

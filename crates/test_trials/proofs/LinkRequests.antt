-- What is written to a location.
use Rattle.std.proofs.Common.{◌≡◌, refl, List, ℕ, ◌++◌}
use Rattle.std.specs.Prelude.{codes}
use Rattle.std.specs.Fmt.{digits}
use Rattle.http_link.specs.Requests.{address, host, path, request}

-- without a path
pub no_path : request (codes "socket://localhost:9000") (codes "ask")
    ≡ codes "POST / HTTP/1.1\r\nHost: localhost:9000\r\nContent-Type: application/json\r\nContent-Length: 3\r\nConnection: close\r\n\r\nask"
unfolding digits
no_path = refl

-- with one
pub a_path : path (address (codes "socket://a.b:1/c/d?e")) ≡ codes "/c/d?e"
a_path = refl

pub its_host : host (address (codes "socket://a.b:1/c/d?e")) ≡ codes "a.b:1"
its_host = refl

-- of a text that is no location of a socket, as it stands
pub no_socket : host (address (codes "local://p")) ≡ codes "local:"
no_socket = refl

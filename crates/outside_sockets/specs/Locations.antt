-- Where a socket connects or listens.
use Rattle.std.specs.Prelude.{ℕ, Bool, ◌==◌, List, length, take, drop, bytes_eq, codes}
use Rattle.std.specs.List.{before_first}

-- what the location of a socket begins with
abbrev pub scheme : List ℕ
scheme = codes "socket://"

-- whether a location is that of a socket
abbrev pub is_of_socket : List ℕ → Bool
is_of_socket location = bytes_eq (take (length scheme) location) scheme

-- the byte `/`, with which a path begins
abbrev pub is_slash : ℕ → Bool
is_slash b = b == 47

-- the host and the port of such a location: what stands behind `socket://` and before the first `/`
abbrev pub address : List ℕ → List ℕ
address location = before_first is_slash (drop (length scheme) location)

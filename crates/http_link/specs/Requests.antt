-- The bytes of the request that takes a text to a location.
use Rattle.std.specs.Prelude.{ℕ, Bool, ◌==◌, if◌then◌else◌, List, [], ◌∷◌, ◌++◌, length, take, drop, bytes_eq, codes}
use Rattle.std.specs.List.{before_first, position_or_len}
use Rattle.std.specs.Fmt.{decimal}
use Rattle.httparse.specs.Ascii.{crlf_bytes}

-- what the location of a socket begins with
abbrev pub scheme : List ℕ
scheme = codes "socket://"

-- the address of a location: what stands after `socket://`, or the whole of a text that does not begin so
abbrev pub address : List ℕ → List ℕ
address location =
    if bytes_eq (take (length scheme) location) scheme then drop (length scheme) location else location

-- the byte `/`, with which a path begins
abbrev pub is_slash : ℕ → Bool
is_slash b = b == 47

-- the host and the port of an address: what stands before the first `/`
abbrev pub host : List ℕ → List ℕ
host address = before_first is_slash address

-- a path, which is `/` where none is written
abbrev pub path_or_root : List ℕ → List ℕ
path_or_root [] = codes "/"
path_or_root (b ∷ bs) = b ∷ bs

-- the path of an address: what stands from the first `/` on
abbrev pub path : List ℕ → List ℕ
path address = path_or_root (drop (position_or_len is_slash address) address)

-- a line of a head, of two parts
abbrev pub line : List ℕ → List ℕ → List ℕ
line first second = first ++ (second ++ crlf_bytes)

-- the lines of a request to an address, before its body, which has so many bytes
abbrev pub request_head : List ℕ → ℕ → List ℕ
request_head address length =
    codes "POST "
    ++ line (path address) (codes " HTTP/1.1")
    ++ line (codes "Host: ") (host address)
    ++ line (codes "Content-Type: ") (codes "application/json")
    ++ line (codes "Content-Length: ") (decimal length)
    ++ line (codes "Connection: ") (codes "close")
    ++ crlf_bytes

-- the request that takes a text to a location
abbrev pub request : List ℕ → List ℕ → List ℕ
request location text = request_head (address location) (length text) ++ text

-- Which texts are locations: `socket://host:port` with a path that may follow, and `local://name`.
use Rattle.std.specs.Prelude.{ℕ, Bool, true, false, not, ◌&&◌, ◌||◌, ◌==◌, List, [], ◌∷◌, drop, take_while}
use Rattle.std.specs.Prelude.{nat_le, codes, if◌then◌else◌, Option, None, Some, is_some}
use Rattle.std.specs.List.{list_all, prefix_len}
use Rattle.std.specs.Option.{option_map_or}
use Rattle.std.specs.Str.Parse.{digits_value}
use Rattle.behaviour_tree.specs.Texts.{is_digit}
use Rattle.behaviour_tree.specs.Distinct.{is_some_list}

-- the bytes of a text behind a beginning, where it has it
abbrev pub behind : List ℕ → List ℕ → Option (List ℕ)
behind [] text = Some text
behind (b ∷ bs) [] = None
behind (b ∷ bs) (c ∷ text) = if b == c then behind bs text else None

-- the bytes from the first on that a test does not hold of
abbrev pub back : (ℕ → Bool) → List ℕ → List ℕ
back test text = drop (prefix_len test text) text

-- an ASCII letter, a digit, `.`, `-` or `_`
abbrev pub is_host_byte : ℕ → Bool
is_host_byte b =
    (nat_le 65 b && nat_le b 90) || (nat_le 97 b && nat_le b 122) || is_digit b || b == 46 || b == 45 || b == 95

-- a byte from `!` to `~`
abbrev pub is_visible : ℕ → Bool
is_visible b = nat_le 33 b && nat_le b 126

-- a text that does not begin with 0
abbrev pub has_no_leading_zero : List ℕ → Bool
has_no_leading_zero [] = true
has_no_leading_zero (b ∷ bs) = not (b == 48)

-- a decimal number from 1 to 65535 without a leading zero
abbrev pub is_port_number : List ℕ → Bool
is_port_number digits = is_some_list digits && has_no_leading_zero digits && nat_le (digits_value 10 digits) 65535

-- nothing, or `/` and visible bytes
abbrev pub is_path : List ℕ → Bool
is_path [] = true
is_path (b ∷ bs) = (b == 47) && list_all is_visible bs

-- a port number and a path
abbrev pub is_port_and_path : List ℕ → Bool
is_port_and_path text = is_port_number (take_while is_digit text) && is_path (back is_digit text)

-- `:`, a port number and a path
abbrev pub is_colon_and_port : List ℕ → Bool
is_colon_and_port [] = false
is_colon_and_port (b ∷ bs) = (b == 58) && is_port_and_path bs

-- a host, a port number and a path
abbrev pub is_address : List ℕ → Bool
is_address text = is_some_list (take_while is_host_byte text) && is_colon_and_port (back is_host_byte text)

-- a name of a local location
abbrev pub is_local_name : List ℕ → Bool
is_local_name text = is_some_list text && list_all is_visible text

-- a text that begins as a local location
abbrev pub begins_local : List ℕ → Bool
begins_local text = is_some (behind (codes "local://") text)

-- a location of a local service
abbrev pub is_local : List ℕ → Bool
is_local text = option_map_or is_local_name (behind (codes "local://") text) false

-- a location of a socket
abbrev pub is_socket : List ℕ → Bool
is_socket text = option_map_or is_address (behind (codes "socket://") text) false

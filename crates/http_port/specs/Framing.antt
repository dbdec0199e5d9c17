-- What the fields of a head say of the body.
use Rattle.std.specs.Prelude.{nat_lt, min, ℕ, Bool, ◌&&◌, if◌then◌else◌, List, [], ◌∷◌, length, codes}
use Rattle.std.specs.List.{list_all, list_any}
use Rattle.std.specs.Char.{is_ascii_digit}
use Rattle.std.specs.Str.Parse.{digits_value}
use Rattle.http1.specs.Fields.{Header, is_named, values_named}
use Rattle.http_port.specs.declared.fields.Framing.{Framing}
use Rattle.http_port.specs.declared.fields.Stated.{Stated}
use Rattle.http_port.specs.declared.fields.Stated.TheVariants.{Nothing, Length, Unclear}

-- digits alone, and one at least
abbrev pub is_digits : List ℕ → Bool
is_digits value = nat_lt 0 (length value) && list_all is_ascii_digit value

-- the values of the fields named Content-Length, in any case
abbrev pub lengths_in : List Header → List (List ℕ)
lengths_in headers = values_named (codes "content-length") headers

-- there is a Transfer-Encoding
abbrev pub is_coded : List Header → Bool
is_coded headers = list_any (is_named (codes "transfer-encoding")) headers

-- what one value of Content-Length states; 65,537 stands for each larger number
abbrev pub stated_by : List ℕ → Stated
stated_by value = if is_digits value then Length (min (digits_value 10 value) 65537) else Unclear

-- what the values state: several are as unclear as one that is no number
abbrev pub stated : List (List ℕ) → Stated
stated [] = Nothing
stated (value ∷ []) = stated_by value
stated (value ∷ next ∷ more) = Unclear

-- what the fields of a head say of the body
abbrev pub framing_of : List Header → Framing
framing_of headers = record { stated = stated (lengths_in headers); is_coded = is_coded headers }

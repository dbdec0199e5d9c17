-- The bytes that answer a connection.
use Rattle.std.specs.Prelude.{ℕ, Bool, true, if◌then◌else◌, List, [], ◌∷◌, ◌++◌, Option, None, Some}
use Rattle.http_port.specs.Responses.{interim, response}
use Rattle.http_port.specs.Connections.{RequestRead, End, WithInterim, RefusedBy}

-- the answer of a request: a text, or that there is nothing to say
abbrev pub answer : Option (List ℕ) → Bool → List ℕ
answer (Some text) close = response 200 text close
answer None close = response 204 [] close

-- the interim line of a request, if it asks for one
abbrev pub interim_of : RequestRead → List ℕ
interim_of request = if request.interim then interim else []

-- what is said behind the last request
abbrev pub last_words : End → List ℕ
last_words WithInterim = interim
last_words (RefusedBy status) = response status [] true
last_words end = []

-- the interim lines and the responses in order, up to the first request whose text is not given, its interim line
-- included
abbrev pub talk : List RequestRead → End → List (Option (List ℕ)) → List ℕ
talk [] end texts = last_words end
talk (request ∷ more) end [] = interim_of request
talk (request ∷ more) end (text ∷ texts) = (interim_of request ++ answer text request.close) ++ talk more end texts

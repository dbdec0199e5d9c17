-- How tokens stand in a printed text.
use Rattle.std.specs.Prelude.{ℕ, List, [], ◌∷◌, ◌++◌, Option, Some, None, flat_map}

-- a token, as it is written
abbrev pub Token : Type 0
Token = List ℕ

-- tokens in a row
abbrev pub Tokens : Type 0
Tokens = List Token

-- tokens that stand behind another, each with one space before it
abbrev pub spaced : Tokens → List ℕ
spaced [] = []
spaced (t ∷ ts) = 32 ∷ (t ++ spaced ts)

-- tokens with one space between every two
abbrev pub joined : Tokens → List ℕ
joined [] = []
joined (t ∷ ts) = t ++ spaced ts

-- a text of tokens: one space between every two, and a line feed
abbrev pub text_of : Tokens → List ℕ
text_of ts = joined ts ++ 10 ∷ []

-- the tokens of several things with a sign between every two
abbrev pub separated : {X : Type 0} → Token → (X → Tokens) → List X → Tokens
separated sign f [] = []
separated sign f (x ∷ xs) = f x ++ flat_map (λ y. sign ∷ f y) xs

-- what has been written, if anything has, with one more token
abbrev pub with_token : Option (List ℕ) → Token → Option (List ℕ)
with_token None t = Some t
with_token (Some text) t = Some (text ++ 32 ∷ t)

-- what has been written, with more tokens
abbrev pub after : Option (List ℕ) → Tokens → Option (List ℕ)
after text [] = text
after text (t ∷ ts) = after (with_token text t) ts

-- what has been written, if anything has, closed by a line feed
abbrev pub ended : Option (List ℕ) → List ℕ
ended None = 10 ∷ []
ended (Some text) = text ++ 10 ∷ []

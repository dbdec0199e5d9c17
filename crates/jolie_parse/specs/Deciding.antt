-- These definitions serve the proofs alone: no promise speaks of them.
-- The test that one token decides each choice of a grammar.
use Rattle.std.specs.Prelude.{Bool, true, false, ◌&&◌, ◌||◌, not, List, [], ◌∷◌, ◌++◌, if◌then◌else◌}
use Rattle.jolie_parse.specs.declared.class.Class.{Class}
use Rattle.jolie_parse.specs.Classes.{has}
use Rattle.jolie_parse.specs.ClassNames.{sign_open_bracket, sign_dot, the_else}
use Rattle.jolie_parse.specs.Syntax.{Part, an_operand, an_else_if, Syn}
use Rattle.jolie_parse.specs.Syntax.{token, give, both, either, many, means, inside, prefix}

-- no class is in both
abbrev pub disjoint : List Class → List Class → Bool
disjoint [] b = true
disjoint (j ∷ js) b = not (has b j) && disjoint js b

-- each of the first is in the second
abbrev pub covers : List Class → List Class → Bool
covers [] b = true
covers (j ∷ js) b = has b j && covers js b

-- the classes with which what stands after a prefix may go on where it could have ended
abbrev pub later : Part → List Class
later an_operand = sign_open_bracket ∷ sign_dot ∷ []
later an_else_if = the_else ∷ []
later _ = []

-- it derives no tokens
abbrev pub nullable : {A : Type 0} → Syn A → Bool
nullable (token ks) = false
nullable (give a) = true
nullable (both s t) = nullable s && nullable t
nullable (either s t) = nullable s || nullable t
nullable (many s) = true
nullable (means f s) = nullable s
nullable (inside o r c) = false
nullable (prefix ks r) = false

-- the classes of its first token
abbrev pub first : {A : Type 0} → Syn A → List Class
first (token ks) = ks
first (give a) = []
first (both s t) = if nullable s then first s ++ first t else first s
first (either s t) = first s ++ first t
first (many s) = first s
first (means f s) = first s
first (inside o r c) = o ∷ []
first (prefix ks r) = ks

-- the classes with which it may go on where it could have ended
abbrev pub further : {A : Type 0} → Syn A → List Class
further (token ks) = []
further (give a) = []
further (both s t) = if nullable t then further s ++ further t else further t
further (either s t) = if nullable t then first s ++ (further s ++ further t) else further s ++ further t
further (many s) = first s ++ further s
further (means f s) = further s
further (inside o r c) = []
further (prefix ks r) = later r

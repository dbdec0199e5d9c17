-- The words that name nothing, since the language uses them itself.
use Rattle.std.specs.Prelude.{ℕ, List, [], ◌∷◌, codes}

-- the bytes of each reserved word
abbrev pub reserved_words : List (List ℕ)
reserved_words =
    codes "type" ∷ codes "interface" ∷ codes "service" ∷ codes "inputPort" ∷ codes "outputPort" ∷ codes "execution" ∷
    codes "cset" ∷ codes "csets" ∷ codes "init" ∷ codes "main" ∷ codes "scope" ∷ codes "install" ∷ codes "throw" ∷
    codes "comp" ∷ codes "cH" ∷ codes "this" ∷ codes "nullProcess" ∷ codes "if" ∷ codes "else" ∷ codes "while" ∷
    codes "for" ∷ codes "undef" ∷ codes "is_defined" ∷ codes "true" ∷ codes "false" ∷ codes "void" ∷ codes "bool" ∷
    codes "int" ∷ codes "long" ∷ codes "string" ∷ codes "any" ∷ codes "undefined" ∷ codes "throws" ∷
    codes "RequestResponse" ∷ codes "OneWay" ∷ []

-- The words that count in the grammar, as they are written.
use Rattle.std.specs.Prelude.{ℕ, List, [], ◌∷◌, codes, Option, Some, None}
use Rattle.std.specs.List.{find}
use Rattle.std.specs.Str.{bytes_eq}
use Rattle.jolie_parse.specs.declared.word.Word.{Word}
use Rattle.jolie_parse.specs.declared.word.Word.TheVariants as word

-- the bytes of a word that counts; none of a plain one
abbrev pub spelling : Word → List ℕ
spelling word.Plain = []
spelling word.Location = codes "location"
spelling word.Protocol = codes "protocol"
spelling word.Interfaces = codes "interfaces"
spelling word.Concurrent = codes "concurrent"
spelling word.Single = codes "single"
spelling word.Type = codes "type"
spelling word.Interface = codes "interface"
spelling word.Service = codes "service"
spelling word.InputPort = codes "inputPort"
spelling word.OutputPort = codes "outputPort"
spelling word.Execution = codes "execution"
spelling word.Cset = codes "cset"
spelling word.Csets = codes "csets"
spelling word.Init = codes "init"
spelling word.Main = codes "main"
spelling word.Scope = codes "scope"
spelling word.Install = codes "install"
spelling word.Throw = codes "throw"
spelling word.Comp = codes "comp"
spelling word.InnerHandler = codes "cH"
spelling word.This = codes "this"
spelling word.NullProcess = codes "nullProcess"
spelling word.If = codes "if"
spelling word.Else = codes "else"
spelling word.While = codes "while"
spelling word.For = codes "for"
spelling word.Undef = codes "undef"
spelling word.IsDefined = codes "is_defined"
spelling word.True = codes "true"
spelling word.False = codes "false"
spelling word.Void = codes "void"
spelling word.Bool = codes "bool"
spelling word.Int = codes "int"
spelling word.Long = codes "long"
spelling word.Str = codes "string"
spelling word.Any = codes "any"
spelling word.Undefined = codes "undefined"
spelling word.Throws = codes "throws"
spelling word.RequestResponse = codes "RequestResponse"
spelling word.OneWay = codes "OneWay"

-- the words that count: all but the plain one
abbrev pub counted_words : List Word
counted_words =
    word.Location ∷ word.Protocol ∷ word.Interfaces ∷ word.Concurrent ∷ word.Single ∷ word.Type ∷ word.Interface ∷
    word.Service ∷ word.InputPort ∷ word.OutputPort ∷ word.Execution ∷ word.Cset ∷ word.Csets ∷ word.Init ∷
    word.Main ∷ word.Scope ∷ word.Install ∷ word.Throw ∷ word.Comp ∷ word.InnerHandler ∷ word.This ∷
    word.NullProcess ∷ word.If ∷ word.Else ∷ word.While ∷ word.For ∷ word.Undef ∷ word.IsDefined ∷ word.True ∷
    word.False ∷ word.Void ∷ word.Bool ∷ word.Int ∷ word.Long ∷ word.Str ∷ word.Any ∷ word.Undefined ∷ word.Throws ∷
    word.RequestResponse ∷ word.OneWay ∷ []

-- the word that counts and is written in these bytes
unfoldable pub counted : List ℕ → Option Word
counted bytes = find (λ w. bytes_eq (spelling w) bytes) counted_words

-- the word that is written in these bytes
unfoldable pub word_of : List ℕ → Word
word_of bytes = elim (counted bytes) [ Some w ↦ w | None ↦ word.Plain ]

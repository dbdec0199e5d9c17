-- A token of each class.
use Rattle.std.proofs.Common.{◌≡◌, ℕ, List, [], refl, ap, pos}
use Rattle.jolie_tokens.specs.declared.token.TokenKind.{TokenKind}
use Rattle.jolie_tokens.specs.declared.token.TokenKind.TheVariants as kind
use Rattle.jolie_parse.specs.declared.word.Word.{Word}
use Rattle.jolie_parse.specs.declared.word.Word.TheVariants as word
use Rattle.jolie_parse.specs.declared.class.Class.{Class}
use Rattle.jolie_parse.specs.declared.class.Class.TheVariants as classed
use Rattle.jolie_parse.specs.Words.{spelling, counted, word_of}
use Rattle.jolie_parse.specs.Classes.{Spelled, class}

-- each word is what is written as it
spelled_back : (w : Word) → word_of (spelling w) ≡ w
unfolding word_of counted
spelled_back word.Plain = refl
spelled_back word.Location = refl
spelled_back word.Protocol = refl
spelled_back word.Interfaces = refl
spelled_back word.Concurrent = refl
spelled_back word.Single = refl
spelled_back word.Type = refl
spelled_back word.Interface = refl
spelled_back word.Service = refl
spelled_back word.InputPort = refl
spelled_back word.OutputPort = refl
spelled_back word.Execution = refl
spelled_back word.Cset = refl
spelled_back word.Csets = refl
spelled_back word.Init = refl
spelled_back word.Main = refl
spelled_back word.Scope = refl
spelled_back word.Install = refl
spelled_back word.Throw = refl
spelled_back word.Comp = refl
spelled_back word.InnerHandler = refl
spelled_back word.This = refl
spelled_back word.NullProcess = refl
spelled_back word.If = refl
spelled_back word.Else = refl
spelled_back word.While = refl
spelled_back word.For = refl
spelled_back word.Undef = refl
spelled_back word.IsDefined = refl
spelled_back word.True = refl
spelled_back word.False = refl
spelled_back word.Void = refl
spelled_back word.Bool = refl
spelled_back word.Int = refl
spelled_back word.Long = refl
spelled_back word.Str = refl
spelled_back word.Any = refl
spelled_back word.Undefined = refl
spelled_back word.Throws = refl
spelled_back word.RequestResponse = refl
spelled_back word.OneWay = refl

sample_kind : Class → TokenKind
sample_kind (classed.Word w) = kind.Word
sample_kind classed.Int = kind.Int (pos 0)
sample_kind classed.Long = kind.Long (pos 0)
sample_kind classed.Str = kind.Str []
sample_kind (classed.Sign s) = kind.Sign s

sample_spelling : Class → List ℕ
sample_spelling (classed.Word w) = spelling w
sample_spelling _ = []

pub sample : Class → Spelled
unfolding sample_kind sample_spelling
sample k = record { token = record { kind = sample_kind k; at = 0; len = 0 }; spelling = sample_spelling k }

-- each class has a token
pub sample_class : (k : Class) → class (sample k) ≡ k
unfolding sample sample_kind sample_spelling
sample_class (classed.Word w) = ap classed.Word (spelled_back w)
sample_class classed.Int = refl
sample_class classed.Long = refl
sample_class classed.Str = refl
sample_class (classed.Sign s) = refl

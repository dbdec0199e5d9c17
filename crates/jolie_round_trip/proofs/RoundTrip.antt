-- Each file of a text reads back.
use Rattle.std.proofs.Common.{◌≡◌, ℕ, List, map, flat_map, sym, ap, subst, ◌∙◌}
use Rattle.jolie_tokens.specs.declared.token.Token.{Token}
use Rattle.jolie_tokens.specs.Texts.{tokens_of, IsRead}
use Rattle.jolie_tokens.specs.Laws.{HaveOneReading}
use Rattle.jolie_ast.specs.declared.tree.Definition.{Definition}
use Rattle.jolie_ast.specs.Spacing.{text_of}
use Rattle.jolie_ast.specs.Printed.{definition_tokens, printed_text}
use Rattle.jolie_parse.specs.Classes.{spelled}
use Rattle.jolie_parse.specs.Grammar as grammar
use Rattle.jolie_parse.specs.Grammar.{IsFile}
use Rattle.jolie_parse.specs.Laws.{HaveOneTree}
use Rattle.jolie_round_trip.specs.Placeless.{definition_placeless}
use Rattle.jolie_round_trip.specs.ReadsBack.{IsFileOf, Same, PrintedFilesReadBack}
use Rattle.jolie_round_trip.proofs.Lexemes.{spellings}
use Rattle.jolie_round_trip.proofs.Nesting.{bounded}
use Rattle.jolie_round_trip.proofs.Lexed.{lexed}
use Rattle.jolie_round_trip.proofs.ValidTokens.{valid_tokens}
use Rattle.jolie_round_trip.proofs.Echo.{Echo}
use Rattle.jolie_round_trip.proofs.EveryPart.{every_part}
use Rattle.jolie_round_trip.proofs.ReprintsServices.{file_reprints}
use Rattle.jolie_round_trip.proofs.PrintedAlike.{printed_alike}

-- ---- what is printed is read as a file

-- what is printed of the file is the text of one that is the same but for places
record Again (file : List Definition) : Type 0 where
  found : List Definition
  is_file : IsFileOf (printed_text file) found
  same : Same found file

-- what is printed so that it is read again is a file
printed_again : (file : List Definition) → Echo (map definition_placeless) grammar.file file (flat_map definition_tokens file) → Again file
printed_again file e =
    let l = lexed e.lexemes e.printed in
    let text = text_of (spellings e.lexemes) in
    let r = e.read (spelled text l.tokens) l.same in
    let derived = bounded grammar.file (spelled text l.tokens) r.0 r.1 in
    record {
      found = r.0;
      is_file = subst (λ t. IsFileOf t r.0) (ap text_of e.spelt) (record { tokens = l.tokens; nesting = derived.0; read = l.read; derived = derived.1 });
      same = r.2;
    }

file_echo : (text : List ℕ) (file : List Definition) → IsFileOf text file → Echo (map definition_placeless) grammar.file file (flat_map definition_tokens file)
file_echo text file h = (file_reprints (every_part h.nesting)).echo (spelled text h.tokens) file h.derived (valid_tokens text h.tokens h.read)

-- ---- and as no other

one_list : HaveOneReading → (text : List ℕ) (s t : List Token) → IsRead text s → IsRead text t → s ≡ t
one_list law text s t h k = sym h.meant ∙ ap (λ x. tokens_of x 0) (law.one_reading text h.pieces k.pieces h.reads k.reads) ∙ k.meant

one_file : HaveOneReading → HaveOneTree → (text : List ℕ) (f g : List Definition) → IsFileOf text f → IsFileOf text g → f ≡ g
one_file reading tree text f g h k =
    let same = one_list reading text h.tokens k.tokens h.read k.read in
    tree h.nesting k.nesting (spelled text k.tokens) f g (subst (λ ts. IsFile h.nesting (spelled text ts) f) same h.derived) k.derived

pub files_read_back : HaveOneReading → HaveOneTree → PrintedFilesReadBack
files_read_back reading tree text file h =
    let again = printed_again file (file_echo text file h) in
    record {
      again = (again.found, again.is_file);
      same = λ g k. ap (map definition_placeless) (one_file reading tree (printed_text file) g again.found k again.is_file) ∙ again.same;
      printed = λ g same. printed_alike file g same;
    }

-- A program with its notes.
use Rattle.std.proofs.Common.{◌≡◌, ℕ, List, Result, Ok, Err, refl, subst}
use Rattle.std.specs.Prelude.{MatchResult}
use Rattle.jolie_ast.specs.declared.tree.Definition.{Definition}
use Rattle.service_check.specs.Programs.{program_of}
use Rattle.check_verdicts.specs.declared.refusal.Refusal.{Refusal}
use Rattle.check_verdicts.specs.RefusalLines.{refusal_line}
use Rattle.check_verdicts.specs.Programs.{IsChecked, IsFileOf, IsUncheckedBy}
use Rattle.explain_notes.specs.Notes.{notes_of}
use Rattle.explain_text.specs.Noted.{IsNoted, noted_text}

-- what was found of a text
abbrev IsFound : List ℕ → Result (List Definition) Refusal → Type 0
IsFound text found = MatchResult found (λ file. IsFileOf text file) (λ refusal. IsUncheckedBy text (refusal_line refusal))

-- a text that is no program
pub is_refused : (text : List ℕ) (found : Result (List Definition) Refusal) (refusal : Refusal) → IsFound text found → found ≡ Err refusal
    → IsUncheckedBy text (refusal_line refusal)
is_refused text found refusal right is = subst (λ x. IsFound text x) is right

-- a program, by the definitions that were found
pub is_noted : (file text bytes : List ℕ) (found : Result (List Definition) Refusal) (definitions : List Definition) → IsFound text found → found ≡ Ok definitions
    → bytes ≡ noted_text file text (notes_of definitions) → IsNoted file text bytes
is_noted file text bytes found definitions right is lines =
    let of : IsFileOf text definitions = subst (λ x. IsFound text x) is right in
    let checked : IsChecked text (program_of definitions) = record { file = definitions; accepted = of.accepted; passes = of.passes; means = refl } in
    record { parts = program_of definitions; checked = checked; lines = lines }

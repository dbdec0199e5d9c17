-- Which program a text is.
use Rattle.std.proofs.Common.{◌≡◌, ◌<◌, ℕ, List, [], ◌∷◌, ◌++◌, length, None, Result, Ok, Err, subst, sym, ap, arith}
use Rattle.std.specs.Prelude.{MatchResult}
use Rattle.std.proofs.lemmas.List.{length-map}
use Rattle.std.proofs.lemmas.Option.{none-some}
use Rattle.behaviour_tree.specs.Data.{ProgramParts}
use Rattle.behaviour_tree.specs.PartsView.{parts_of}
use Rattle.behaviour_tree.specs.declared.program.Program.{Program}
use Rattle.jolie_ast.specs.declared.tree.Definition.{Definition}
use Rattle.jolie_ast.specs.declared.service.Service.{Service}
use Rattle.check_base.specs.declared.refusal.CheckName.{CheckName}
use Rattle.check_base.specs.declared.refusal.CheckError.{CheckError}
use Rattle.check_base.specs.declared.refusal.CheckError.TheVariants as error
use Rattle.check_base.specs.declared.refusal.Refusal.{Refusal as Refused}
use Rattle.check_base.specs.Least.{least}
use Rattle.check_base.specs.Files.{services_of}
use Rattle.service_check.specs.Answers.{Checks}
use Rattle.service_check.specs.Programs.{program_of}
use Rattle.service_check.specs.Refusals.{no_service, refusal_of, refusals}
use Rattle.check_verdicts.specs.declared.refusal.Refusal.{Refusal}
use Rattle.check_verdicts.specs.declared.verdict.Verdict.{Verdict}
use Rattle.check_verdicts.specs.declared.verdict.Verdict.TheVariants as verdict
use Rattle.check_verdicts.specs.Verdicts.{check_line}
use Rattle.check_verdicts.specs.RefusalLines.{refusal_line, IsVerdict}
use Rattle.check_verdicts.specs.Programs.{IsChecked, IsFileOf, IsProgram, IsUncheckedBy, no_file, no_program}

-- a text that has no definitions is no program
pub unread : (text : List ℕ) (v : Verdict) (r : Refusal) → IsVerdict text v → v ≡ verdict.Refused r → IsUncheckedBy text (refusal_line r)
unread text v r right is = no_file (refusal_line r) (subst (λ x. IsVerdict text x) is right)

-- one whose definitions no check refuses is one
pub passed : (text : List ℕ) (v : Verdict) (file : List Definition) (result : Result Program CheckError) (p : Program) → IsVerdict text v → v ≡ verdict.File file
    → Checks file result → result ≡ Ok p → IsChecked text (parts_of p)
passed text v file result p right is checks ok =
    let facts : Checks file (Ok p) = subst (λ r. Checks file r) ok checks in
    record { file = file; accepted = subst (λ x. IsVerdict text x) is right; passes = facts.0; means = facts.1 }

-- the definitions of one that no check refuses
pub is_file_of : (text : List ℕ) (v : Verdict) (file : List Definition) (result : Result Program CheckError) (p : Program) → IsVerdict text v → v ≡ verdict.File file
    → Checks file result → result ≡ Ok p → IsFileOf text file
is_file_of text v file result p right is checks ok =
    let facts : Checks file (Ok p) = subst (λ r. Checks file r) ok checks in
    record { accepted = subst (λ x. IsVerdict text x) is right; passes = facts.0 }

-- one whose definitions a check refuses is none
pub refused : (text : List ℕ) (v : Verdict) (file : List Definition) (result : Result Program CheckError) (name : CheckName) (at : ℕ) (r : Refusal) → IsVerdict text v → v ≡ verdict.File file
    → Checks file result → result ≡ Err (error.Refused name at) → refusal_line r ≡ check_line name at → IsUncheckedBy text (refusal_line r)
refused text v file result name at r right is checks err line =
    subst (λ l. IsUncheckedBy text l) (sym line)
    (no_program file name at (subst (λ x. IsVerdict text x) is right) (subst (λ x. Checks file x) err checks))

-- ---- a program has a service

-- where the first of what is refused is that there is none, there is one
none_refused : (ss : List Service) (a b c d : List Refused) → least (no_service ss ++ a ++ b ++ c ++ d) ≡ None → 0 < length ss
none_refused [] a b c d none = absurd (none-some _ (sym none))
none_refused (s ∷ ss) a b c d none = omega arith

has_service : (file : List Definition) → refusal_of file ≡ None → 0 < length (services_of file)
unfolding refusals
has_service file none = none_refused (services_of file) _ _ _ _ none

checked_has_some : (text : List ℕ) (parts : ProgramParts) → IsChecked text parts → 0 < length parts.services
unfolding program_of
checked_has_some text parts is =
    let there : 0 < length (services_of is.file) = has_service is.file is.passes in
    let many : length (program_of is.file).services ≡ length (services_of is.file) = length-map (services_of is.file) _ in
    let same : length parts.services ≡ length (program_of is.file).services = ap (λ (p : ProgramParts). length p.services) is.means in
    omega arith

pub has_some : (text : List ℕ) (found : Result Program Refusal) (program : Program)
    → MatchResult found (λ p. IsChecked text (parts_of p)) (λ why. IsUncheckedBy text (refusal_line why)) → found ≡ Ok program
    → 0 < length (parts_of program).services
has_some text found program right is =
    checked_has_some text (parts_of program)
    (subst (λ x. MatchResult x (λ p. IsChecked text (parts_of p)) (λ why. IsUncheckedBy text (refusal_line why))) is right)

-- a text that means a program is one
pub is_program : (text : List ℕ) (parts : ProgramParts) → IsChecked text parts → IsProgram text
is_program text parts checked = record { parts = parts; checked = checked }

-- Operations that do not answer have no faults, and are not asked for an answer.
use Rattle.std.proofs.Common.{◌≡◌, ℕ, List, [], ◌∷◌, map, refl, ap, ◌∙◌}
use Rattle.jolie_ast.specs.declared.interface.OneWay.{OneWay}
use Rattle.jolie_ast.specs.declared.types.TypeDefinition.{TypeDefinition}
use Rattle.jolie_ast.specs.declared.interface.OperationGroup.{OperationGroup}
use Rattle.jolie_ast.specs.declared.interface.OperationGroup.TheVariants as group
use Rattle.check_base.specs.Files.{group_operations, silent}
use Rattle.explain_notes.specs.Answers.{content_among}
use Rattle.explain_notes.specs.Notes.{faults_of}

-- they throw nothing
pub no_faults : (operations : List OneWay) → faults_of (map silent operations) ≡ []
no_faults [] = refl
no_faults (o ∷ os) = no_faults os

-- none of them is content with void
pub none_content : (types : List TypeDefinition) (operations : List OneWay) → content_among types (map silent operations) ≡ []
none_content types [] = refl
none_content types (o ∷ os) = none_content types os

-- nor do those behind one word
pub no_faults_behind : (g : OperationGroup) (at : ℕ) (operations : List OneWay) → g ≡ group.OneWay at operations
    → faults_of (group_operations g) ≡ []
no_faults_behind g at operations is = ap (λ h. faults_of (group_operations h)) is ∙ no_faults operations

-- nor are they
pub none_behind : (types : List TypeDefinition) (g : OperationGroup) (at : ℕ) (operations : List OneWay) → g ≡ group.OneWay at operations
    → content_among types (group_operations g) ≡ []
none_behind types g at operations is =
    ap (λ h. content_among types (group_operations h)) is ∙ none_content types operations

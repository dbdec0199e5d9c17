-- The texts of the standard names, also in every well-formed program.
use Rattle.std.proofs.Common.{◌≡◌, ℕ, zero, suc, true, List, [], ◌∷◌, Option, Some, bytes_eq, refl, ap, sym, ◌∙◌}
use Rattle.std.specs.Prelude.{slice_get, unwrap_or}
use Rattle.std.proofs.lemmas.Bool.{and_parts, false≢true}
use Rattle.std.proofs.lemmas.Option.{none-some}
use Rattle.std.proofs.lemmas.Slice.Eq.{bytes_eq-Decides}
use Rattle.behaviour_tree.specs.Data.{ProgramParts}
use Rattle.behaviour_tree.specs.WellFormed.{begin_with, standard_names, is_well_formed}
use Rattle.session_calculus.specs.Names.{name_at}
use Rattle.session_calculus.specs.StandardTexts.{IsNamed}

-- where texts begin with others, each of these stands among them at its place
begins_so : (ss ts : List (List ℕ)) (k : ℕ) (s : List ℕ) → begin_with ss ts ≡ true → slice_get ss k ≡ Some s → slice_get ts k ≡ Some s
begins_so [] ts k s b e = absurd (none-some s e)
begins_so (x ∷ ss) [] k s b e = absurd (false≢true b)
begins_so (x ∷ ss) (t ∷ ts) zero s b e = ap Some (sym ((bytes_eq-Decides x t).0 (and_parts (bytes_eq x t) (begin_with ss ts) b).0)) ∙ e
begins_so (x ∷ ss) (t ∷ ts) (suc k) s b e = begins_so ss ts k s (and_parts (bytes_eq x t) (begin_with ss ts) b).1 e

-- a standard name is the name of its number in a well-formed program
named_so : (k : ℕ) (s : List ℕ) → slice_get standard_names k ≡ Some s → (parts : ProgramParts) → is_well_formed parts ≡ true → name_at parts k ≡ s
unfolding is_well_formed
named_so k s e parts h =
    ap (λ (o : Option (List ℕ)). unwrap_or o [])
    (begins_so standard_names parts.names k s (and_parts _ _ (and_parts _ _ (and_parts _ _ (and_parts _ _ (and_parts _ _ h).0).0).0).0).0 e)

-- what stands among the standard names is named so
pub is_named : (coded number : ℕ) (text : List ℕ) → coded ≡ number → slice_get standard_names number ≡ Some text → IsNamed coded number text
is_named coded number text same stands = record { same = same; stands = stands; in_programs = named_so number text stands }

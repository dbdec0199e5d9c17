-- The test of two classes says whether they are one.
use Rattle.std.proofs.Common.{◌≡◌, true, refl, ap, subst}
use denote.Enum.Bare.{same_true, true_same}
use Rattle.jolie_tokens.specs.contracts.sign.Sign as sign_row
use Rattle.jolie_parse.specs.contracts.word.Word as word_row
use Rattle.jolie_parse.specs.declared.class.Class.{Class}
use Rattle.jolie_parse.specs.declared.class.Class.TheVariants as classed
use Rattle.jolie_parse.specs.Classes.{same}

pub same_eq : (j k : Class) → same j k ≡ true → j ≡ k
same_eq (classed.Word v) (classed.Word w) e = ap classed.Word (same_true word_row.the_type tt v w e)
same_eq (classed.Sign r) (classed.Sign s) e = ap classed.Sign (same_true sign_row.the_type tt r s e)
same_eq classed.Int classed.Int e = refl
same_eq classed.Long classed.Long e = refl
same_eq classed.Str classed.Str e = refl
same_eq _ _ e = cc

same_refl : (k : Class) → same k k ≡ true
same_refl (classed.Word w) = true_same word_row.the_type w w refl
same_refl (classed.Sign s) = true_same sign_row.the_type s s refl
same_refl classed.Int = refl
same_refl classed.Long = refl
same_refl classed.Str = refl

pub eq_same : (j k : Class) → j ≡ k → same j k ≡ true
eq_same j k e = subst (λ x. same j x ≡ true) e (same_refl j)

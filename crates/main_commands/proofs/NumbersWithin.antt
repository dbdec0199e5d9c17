-- A number is what its text reads as, where that is from the least to the most.
use Rattle.std.specs.Prelude.{◌≡◌, ◌≤◌, ◌<◌, ◌^◌, ◌&&◌, ℕ, Bool, true, false, List, nat_le, if◌then◌else◌, refl}
use Rattle.std.specs.Str.Parse.{IsNumeral, digits_value, without_leading_plus}
use Rattle.std.proofs.Common.{◌∙◌, sym, arith, true≢false}
use Rattle.std.proofs.lemmas.Bool.{le-leb, leb-true}
use Rattle.clap.specs.Values.{IsUnsignedIn}
use Rattle.clap.specs.ValueTests.{is_unsigned_in}
use Rattle.clap.specs.declared.builder.value_parser.ValueParser.TheVariants as parser
use Rattle.clap.proofs.ValueTestLemmas.{Accepts-accepts, accepts-Accepts}
use Rattle.main_commands.specs.Numbers.{number_of}
use Rattle.main_commands.specs.Steps.{within}
use Rattle.main_commands.proofs.Origins.{both_true}

-- the number that a text writes, whatever the most is
abbrev value_of : List ℕ → ℕ
value_of text = digits_value 10 (without_leading_plus text)

module _ (least most : ℕ) (small : most < 2 ^ 32) where
  -- a number in the range
  in_range : (text : List ℕ) (n : ℕ) → IsNumeral 10 (without_leading_plus text) → n ≡ value_of text → least ≤ n → n ≤ most
      → n ≡ number_of least most text
  in_range text n numeral is low_n high_n =
      let fits : value_of text < 2 ^ 64 = omega arith in
      let low : least ≤ value_of text = omega arith in
      let high : value_of text ≤ most = omega arith in
      rw (Accepts-accepts false (parser.Unsigned least most) text (numeral, fits, low, high)) is

  -- and what is none
  other_text : (text : List ℕ) (b : Bool) → is_unsigned_in least most text ≡ b → (IsUnsignedIn least most text → ⊥)
      → most ≡ (if b then value_of text else most)
  other_text text true is never = absurd (never (accepts-Accepts false (parser.Unsigned least most) text is))
  other_text text false is never = refl

  pub number_read : (text : List ℕ) (n r : ℕ) → IsNumeral 10 (without_leading_plus text) → n ≡ value_of text → r ≡ within n least most
      → r ≡ number_of least most text
  number_read text n r numeral is given = go (nat_le least n && nat_le n most) refl given
    where
      go : (b : Bool) → (nat_le least n && nat_le n most) ≡ b → r ≡ (if b then n else most) → r ≡ number_of least most text
      go true inside given =
          let both = both_true (nat_le least n) (nat_le n most) inside in
          given ∙ in_range text n numeral is (leb-true least n both.0) (leb-true n most both.1)
      go false outside given =
          given ∙ other_text text (is_unsigned_in least most text) refl
          (λ has.
          let low : least ≤ value_of text = has.2 in
          let high : value_of text ≤ most = has.3 in
          let above : least ≤ n = omega arith in
          let below : n ≤ most = omega arith in
          let inside : (nat_le least n && nat_le n most) ≡ true = rw (le-leb least n above, le-leb n most below) refl in
          true≢false (sym inside ∙ outside))

  pub number_unread : (text : List ℕ) → ((IsNumeral 10 (without_leading_plus text) × (value_of text < 2 ^ 32)) → ⊥) → most ≡ number_of least most text
  number_unread text never =
      other_text text (is_unsigned_in least most text) refl
      (λ has.
      let high : value_of text ≤ most = has.3 in
      never (has.0, omega arith))

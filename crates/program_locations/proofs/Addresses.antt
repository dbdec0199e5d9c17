-- Laws of the bytes of locations.
use Rattle.std.proofs.Common.{◌≡◌, ℕ, ◌+◌, ◌*◌, ◌-◌, ◌^◌, ◌<◌, Bool, true, false, List, [], ◌∷◌, ◌++◌, length, take, drop, get_or, min, refl, ap, sym, ◌∙◌, arith, Option, Some, None, Bor, eqb, eq-eqb, MatchOption, eqb-true}
use Rattle.std.specs.Prelude.{if◌then◌else◌, nat_le}
use Rattle.std.specs.Option.{option_copied}
use Rattle.std.specs.Char.{digit_value}
use Rattle.std.specs.Str.Parse.{digits_value}
use Rattle.std.specs.Str.Pattern.{FindsTextPrefix, StripsPrefix}
use Rattle.std.proofs.lemmas.Bool.Decides.{nat_tests}
use Rattle.std.proofs.lemmas.Int.Digits.{digits_value_more}
use Rattle.std.proofs.lemmas.Str.{digit_value_digit}
pub use Rattle.jolie_tokens.proofs.Runs.{run_is, run_passes}
use Rattle.behaviour_tree.specs.Texts.{is_digit}
use Rattle.behaviour_tree.specs.Locations.{behind}

-- ---- beginnings

-- the same byte stands in front, or another one does
behind_more : (t : Bool) (b c : ℕ) (bs text rest : List ℕ) → eqb b c ≡ t → (behind bs text ≡ Some rest → text ≡ bs ++ rest) → (if t then behind bs text else None) ≡ Some rest → c ∷ text ≡ b ∷ bs ++ rest
behind_more true b c bs text rest same h e = ap (λ d. d ∷ text) (sym (eqb-true b c same)) ∙ ap (λ xs. b ∷ xs) (h e)
behind_more false b c bs text rest other h e = cc

-- a text with something behind a beginning is the two
pub behind_splits : (beginning text rest : List ℕ) → behind beginning text ≡ Some rest → text ≡ beginning ++ rest
behind_splits [] text rest e = cc
behind_splits (b ∷ bs) [] rest e = cc
behind_splits (b ∷ bs) (c ∷ text) rest e = behind_more (eqb b c) b c bs text rest refl (behind_splits bs text rest) e

-- what is behind a beginning
pub behind_it : (beginning rest : List ℕ) → behind beginning (beginning ++ rest) ≡ Some rest
behind_it [] rest = refl
behind_it (b ∷ bs) rest = ap (λ (t : Bool). if t then behind bs (bs ++ rest) else None) (eq-eqb b b refl) ∙ behind_it bs rest

-- nothing is behind a beginning that a text lacks
pub nothing_behind_it : (beginning text : List ℕ) (o : Option (List ℕ)) → behind beginning text ≡ o → ((rest : List ℕ) → text ≡ beginning ++ rest → ⊥) → None ≡ o
nothing_behind_it beginning text None e lacks = refl
nothing_behind_it beginning text (Some rest) e lacks = absurd (lacks rest (behind_splits beginning text rest e))

-- a prefix that is stripped leaves what is behind it
pub stripped : (beginning text : List ℕ) (r : Option (Bor (List ℕ))) → MatchOption r (FindsTextPrefix beginning text None) (λ x. StripsPrefix (FindsTextPrefix beginning) text x.now) → option_copied r ≡ behind beginning text
stripped beginning text None lacks = nothing_behind_it beginning text (behind beginning text) refl lacks
stripped beginning text (Some x) strips =
    ap Some strips.2 ∙ sym (ap (behind beginning) strips.1.1 ∙ behind_it beginning (drop strips.0 text))

-- ---- numbers

pub digit_is : (b : ℕ) → is_digit b ≡ true → digit_value b + 48 ≡ b
digit_is b e = digit_value_digit b (search (arith))

-- one more digit behind a value that is cut
pub value_more : (ds : List ℕ) (i v : ℕ) → i < length ds → is_digit (get_or ds i 0) ≡ true → v ≡ min (digits_value 10 (take i ds)) (2 ^ 32 - 1) → min (min (v * 10) (2 ^ 32 - 1) + (get_or ds i 0 - 48)) (2 ^ 32 - 1) ≡ min (digits_value 10 (take (i + 1) ds)) (2 ^ 32 - 1)
value_more ds i v lt d e =
    let step : digits_value 10 (take (i + 1) ds) ≡ digits_value 10 (take i ds) * 10 + digit_value (get_or ds i 0) = digits_value_more 10 ds i lt in
    let digit : digit_value (get_or ds i 0) + 48 ≡ get_or ds i 0 = digit_is (get_or ds i 0) d in
    omega arith

-- a number is small if its value when cut is
pub small_when_cut : (v n : ℕ) → v ≡ min n (2 ^ 32 - 1) → nat_le v 65535 ≡ nat_le n 65535
small_when_cut v n e = grind (arith, nat_tests)

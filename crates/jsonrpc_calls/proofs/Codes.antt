-- Codes, and the reasons that have them.
use Rattle.std.proofs.Common.{◌≡◌, ◌≢◌, refl, sym, ℤ, Bool, true, false, true≢false, List, [], ◌∷◌}
use Rattle.std.specs.Prelude.{if◌then◌else◌}
use Rattle.std.specs.Ordering.{int_eq}
use Rattle.std.proofs.lemmas.Bool.{false_from_ne_true}
use Rattle.std.proofs.lemmas.Bool.Decides.{Decides-int_eq}
use Rattle.behaviour_tree.specs.declared.words.Reason.{Reason}
use Rattle.behaviour_tree.specs.declared.words.Reason.TheVariants as reason
use Rattle.behaviour_tree.specs.Reasons.{code_of}
use Rattle.jsonrpc_calls.specs.Heard.{named_reasons, reason_among, reason_of}
use Rattle.jsonrpc_calls.specs.Laws.{is_named}

-- codes that differ
pub unequal : (a b : ℤ) → a ≢ b → int_eq a b ≡ false
unequal a b h = false_from_ne_true (int_eq a b) (λ e. h ((Decides-int_eq a b).0 e))

-- a named reason is found by its code
pub named-found : (r : Reason) → is_named r ≡ true → reason_of (code_of r) ≡ r
named-found reason.UnknownOperation h = refl
named-found reason.NotConforming h = refl
named-found reason.Correlation h = refl
named-found reason.BoxFull h = refl
named-found reason.RunFull h = refl
named-found reason.Stopped h = refl
named-found reason.SessionEnded h = refl
named-found (reason.Other code) h = absurd (true≢false (sym h))

chosen : (b : Bool) (r s : Reason) (code : ℤ) → (b ≡ true → code_of r ≡ code) → code_of s ≡ code → code_of (if b then r else s) ≡ code
chosen true r s code h k = h refl
chosen false r s code h k = k

among-has_code : (rs : List Reason) (code : ℤ) → code_of (reason_among rs code) ≡ code
among-has_code [] code = refl
among-has_code (r ∷ rs) code =
    chosen (int_eq code (code_of r)) r (reason_among rs code) code (λ h. sym ((Decides-int_eq code (code_of r)).0 h)) (among-has_code rs code)

-- what is found has the code
pub found-has_code : (code : ℤ) → code_of (reason_of code) ≡ code
found-has_code code = among-has_code named_reasons code

-- Where as many callers came back as were made, the maker of callers has the calls of all.
use Rattle.std.proofs.Common.{if◌then◌else◌, ◌≡◌, ℕ, suc, ◌+◌, Bool, true, List, [], ◌∷◌, length, refl, ap, ◌∙◌, arith}
use Rattle.office_sharing.specs.declared.view.KeptCalls.{KeptCalls}
use Rattle.office_sharing.specs.declared.view.View.{View}
use Rattle.office_sharing.specs.Numbers.{numbers_kept}
use Rattle.office_sharing.specs.Plays.{HasAll}
use Rattle.test_sharing.specs.Callers.{IsMaker}

count_kept : (ks : List KeptCalls) → length (numbers_kept ks) ≡ length ks
count_kept [] = refl
count_kept (k ∷ ks) = ap suc (count_kept ks)

count_all : (b : Bool) (n : ℕ) (ks : List KeptCalls) → b ≡ true
    → length (if b then n ∷ numbers_kept ks else numbers_kept ks) ≡ length ks + 1
count_all b n ks is =
    ap (λ (x : Bool). length (if x then n ∷ numbers_kept ks else numbers_kept ks)) is ∙ omega (arith, count_kept ks)

pub has_all : (count joined : ℕ) (v : View) → IsMaker count joined v → joined + 1 ≡ count → HasAll v
has_all count joined v m all =
    (m.makes, count_all v.may_call v.number v.kept m.calls ∙ omega (arith, m.kept, m.given, all))

-- Members before a place, there, and behind it.
use Rattle.std.proofs.Common.{◌≡◌, ℕ, ◌+◌, ◌<◌, ◌≤◌, false, ◌||◌, List, [], ◌∷◌, ◌++◌, take, drop, length, get_or, set, refl, sym, ap, ◌∙◌, arith, suc, ◌-◌, append_assoc, length-drop}
use Rattle.std.proofs.lemmas.List.{take_more, take-append-drop, take-set, drop-set-lt, get_or-set_same, take_all, drop_all, append-nil}
use Rattle.std.proofs.Math.ListN.{length-set}
use borrow.Rule.Slice.PartMut.{put_mid}
use Rattle.session_calculus.specs.Terms.{Strands, no_strands, strand, stands_in, is_among}
use Rattle.session_forms.specs.View.{StrandView, strand_view, members_view, term_view}
use Rattle.session_forms.specs.declared.term.Strand.{Strand}
use Rattle.session_forms.proofs.Held.{viewed, members_left}
use Rattle.session_forms.proofs.Lists.{taken_off}
use Rattle.session_faults.specs.Places.{joined}
use Rattle.session_faults.proofs.Tests.{left_false, right_false, both_false}

-- members behind members
pub members-append : (xs ys : List Strand) → members_view (xs ++ ys) ≡ joined (members_view xs) (members_view ys)
members-append [] ys = refl
members-append (x ∷ xs) ys = ap (strand (strand_view x).number (strand_view x).form) (members-append xs ys)

-- a strand that stands in neither
among-joined : (n : ℕ) (ts us : Strands) → is_among n ts ≡ false → is_among n us ≡ false → is_among n (joined ts us) ≡ false
among-joined n no_strands us h i = i
among-joined n (strand k t ts) us h i =
    both_false (stands_in n k t) (is_among n (joined ts us)) (left_false (stands_in n k t) (is_among n ts) h) (among-joined n ts us (right_false (stands_in n k t) (is_among n ts) h) i)

-- the strand stands in none up to here, nor in this one
pub passes_place : (n : ℕ) (xs : List Strand) (i : ℕ) (x : Strand) → i < length xs → x ≡ get_or xs i x → is_among n (members_view (take i xs)) ≡ false
    → stands_in n x.number (term_view x.form.value) ≡ false → is_among n (members_view (take (i + 1) xs)) ≡ false
passes_place n xs i x lt is h other =
    let one : is_among n (members_view (x ∷ [])) ≡ false =
    ap (λ (v : StrandView). stands_in n v.number v.form || false) (viewed x) ∙ both_false (stands_in n x.number (term_view x.form.value)) false other refl in
    ap (λ zs. is_among n (members_view zs)) (take_more xs i x lt ∙ ap (λ y. take i xs ++ (y ∷ [])) (sym is))
    ∙ ap (is_among n) (members-append (take i xs) (x ∷ []))
    ∙ among-joined n (members_view (take i xs)) (members_view (x ∷ [])) h one

-- all members are those before a place, the one there, and those behind it
pub members-split : (xs : List Strand) (i : ℕ) (x : Strand) → i < length xs → x ≡ get_or xs i x
    → members_view xs ≡ joined (members_view (take i xs)) (strand x.number (term_view x.form.value) (members_view (drop (i + 1) xs)))
members-split xs i x lt is =
    ap members_view (sym (take-append-drop i xs)) ∙ members-append (take i xs) (drop i xs) ∙ ap (joined (members_view (take i xs))) (members_left xs i x lt is)

-- and those where another is put there
pub members-put : (xs : List Strand) (i : ℕ) (y : Strand) → i < length xs
    → members_view (set xs i y) ≡ joined (members_view (take i xs)) (strand y.number (term_view y.form.value) (members_view (drop (i + 1) xs)))
members-put xs i y lt =
    let whole : i < length (set xs i y) = omega (arith, length-set xs i y) in
    let further : i < i + 1 = omega arith in
    members-split (set xs i y) i y whole (sym (get_or-set_same xs i y y lt))
    ∙ ap (λ zs. joined (members_view zs) (strand y.number (term_view y.form.value) (members_view (drop (i + 1) (set xs i y))))) (take-set xs i y)
    ∙ ap (λ zs. joined (members_view (take i xs)) (strand y.number (term_view y.form.value) (members_view zs))) (drop-set-lt (i + 1) xs i y further)

-- two names of the member at a place
pub same_there : (xs : List Strand) (i : ℕ) (x y : Strand) → i < length xs → x ≡ get_or xs i x → y ≡ get_or xs i y → x ≡ y
same_there xs i x y lt is js = let e = sym (taken_off xs i x lt is) ∙ taken_off xs i y lt js in cc

take-past : {A : Type 0} (front : List A) (x : A) (rest : List A) → take (suc (length front)) (front ++ (x ∷ rest)) ≡ front ++ (x ∷ [])
take-past [] x rest = refl
take-past (y ∷ front) x rest = ap (λ zs. y ∷ zs) (take-past front x rest)

drop-past : {A : Type 0} (front : List A) (x : A) (rest : List A) → drop (suc (length front)) (front ++ (x ∷ rest)) ≡ rest
drop-past [] x rest = refl
drop-past (y ∷ front) x rest = drop-past front x rest

-- what is behind a place is what was, where others stand before it
pub left_behind : (xs front : List Strand) (i : ℕ) (x : Strand) → i < length xs → x ≡ get_or xs i x → length front ≡ i
    → drop (i + 1) (front ++ drop i xs) ≡ drop (i + 1) xs
left_behind xs front i x lt is la =
    let next : i + 1 ≡ suc (length front) = omega arith in
    ap (λ zs. drop (i + 1) (front ++ zs)) (taken_off xs i x lt is) ∙ ap (λ k. drop k (front ++ (x ∷ drop (i + 1) xs))) next ∙ drop-past front x (drop (i + 1) xs)

-- all of that
pub all_behind : (xs front : List Strand) (i : ℕ) (x : Strand) → i < length xs → x ≡ get_or xs i x → length front ≡ i
    → take (length (front ++ drop i xs) - (i + 1)) (drop (i + 1) (front ++ drop i xs)) ≡ drop (i + 1) xs
all_behind xs front i x lt is la =
    let zs = front ++ drop i xs in
    let enough : length (drop (i + 1) zs) ≤ length zs - (i + 1) = omega (arith, length-drop (i + 1) zs) in
    take_all (length zs - (i + 1)) (drop (i + 1) zs) enough ∙ left_behind xs front i x lt is la

-- others before the member at a place, and others behind it
pub members-around : (xs front back : List Strand) (i : ℕ) (x : Strand) (ts us : Strands) → i < length xs → x ≡ get_or xs i x → length front ≡ i
    → members_view front ≡ ts → members_view back ≡ us
    → members_view (put_mid (i + 1) (length (front ++ drop i xs) - (i + 1)) (front ++ drop i xs) back) ≡ joined ts (strand x.number (term_view x.form.value) us)
members-around xs front back i x ts us lt is la ef eb =
    let zs = front ++ drop i xs in
    let rest = drop (i + 1) xs in
    let next : i + 1 ≡ suc (length front) = omega arith in
    let none_over : length (drop (i + 1) zs) ≤ length zs - (i + 1) = omega (arith, length-drop (i + 1) zs) in
    let over = drop_all (length zs - (i + 1)) (drop (i + 1) zs) none_over in
    let up_to : take (i + 1) zs ≡ front ++ (x ∷ []) =
    ap (λ ys. take (i + 1) (front ++ ys)) (taken_off xs i x lt is) ∙ ap (λ k. take k (front ++ (x ∷ rest))) next ∙ take-past front x rest in
    let list : put_mid (i + 1) (length zs - (i + 1)) zs back ≡ front ++ (x ∷ back) =
    ap (λ ys. ys ++ (back ++ drop (length zs - (i + 1)) (drop (i + 1) zs))) up_to
    ∙ ap (λ ys. (front ++ (x ∷ [])) ++ (back ++ ys)) over
    ∙ ap (λ ys. (front ++ (x ∷ [])) ++ ys) (append-nil back)
    ∙ append_assoc front (x ∷ []) back in
    ap members_view list
    ∙ members-append front (x ∷ back)
    ∙ ap (λ (v : StrandView). joined (members_view front) (strand v.number v.form (members_view back))) (viewed x)
    ∙ ap (λ vs. joined vs (strand x.number (term_view x.form.value) (members_view back))) ef
    ∙ ap (λ vs. joined ts (strand x.number (term_view x.form.value) vs)) eb

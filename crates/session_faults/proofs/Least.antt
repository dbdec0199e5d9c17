-- The least of the ready strands, member by member.
use Rattle.std.proofs.Common.{◌≡◌, ℕ, ◌+◌, ◌<◌, ◌≤◌, min, Bool, true, false, if◌then◌else◌, nat_le, List, [], ◌∷◌, ◌++◌, Option, None, Some, drop, length, get_or, refl, sym, ap, ◌∙◌, arith}
use Rattle.std.proofs.lemmas.Bool.{leb-true, leb-false}
use Rattle.session_calculus.specs.Tables.{Table}
use Rattle.session_calculus.specs.Ready.{placed, rising, ready, ready_in, ready_among}
use Rattle.session_forms.specs.View.{members_view, term_view}
use Rattle.session_forms.specs.declared.term.Strand.{Strand}
use Rattle.session_forms.proofs.Held.{members_left, none_left}
use Rattle.session_faults.specs.Least.{first, lesser_of}

-- the lesser of two, the second being missing
lesser-none : (o : Option ℕ) → lesser_of o None ≡ o
lesser-none None = refl
lesser-none (Some n) = refl

-- the least of three, however they are taken
lesser-assoc : (a b c : Option ℕ) → lesser_of a (lesser_of b c) ≡ lesser_of (lesser_of a b) c
lesser-assoc None b c = refl
lesser-assoc (Some n) None c = refl
lesser-assoc (Some n) (Some m) None = refl
lesser-assoc (Some n) (Some m) (Some k) = let e : min n (min m k) ≡ min (min n m) k = omega arith in ap Some e

first-chosen : (n m : ℕ) (ms : List ℕ) (b : Bool) → nat_le n m ≡ b → first (if b then n ∷ m ∷ ms else m ∷ placed n ms) ≡ Some (min n m)
first-chosen n m ms true e = let h : n ≤ m = leb-true n m e in let s : n ≡ min n m = omega arith in ap Some s
first-chosen n m ms false e = let h : m < n = leb-false n m e in let s : m ≡ min n m = omega arith in ap Some s

first-placed : (n : ℕ) (ms : List ℕ) → first (placed n ms) ≡ lesser_of (Some n) (first ms)
first-placed n [] = refl
first-placed n (m ∷ ms) = first-chosen n m ms (nat_le n m) refl

-- the least of two lists
first-append : (xs ys : List ℕ) → first (rising (xs ++ ys)) ≡ lesser_of (first (rising xs)) (first (rising ys))
first-append [] ys = refl
first-append (x ∷ xs) ys =
    first-placed x (rising (xs ++ ys))
    ∙ ap (lesser_of (Some x)) (first-append xs ys)
    ∙ lesser-assoc (Some x) (first (rising xs)) (first (rising ys))
    ∙ ap (λ o. lesser_of o (first (rising ys))) (sym (first-placed x (rising xs)))

-- the next member
pub least-goes_on : (q : ℕ) (h : Table) (xs : List Strand) (i : ℕ) (x : Strand) (least found : Option ℕ) → i < length xs → x ≡ get_or xs i x
    → found ≡ first (ready q h x.number (term_view x.form.value))
    → lesser_of (lesser_of least found) (first (rising (ready_among q h (members_view (drop (i + 1) xs))))) ≡ lesser_of least (first (rising (ready_among q h (members_view (drop i xs)))))
least-goes_on q h xs i x least found lt is e =
    let here = ready_in q h x.number (term_view x.form.value) in
    let others = ready_among q h (members_view (drop (i + 1) xs)) in
    sym (lesser-assoc least found (first (rising others)))
    ∙ ap (λ o. lesser_of least (lesser_of o (first (rising others)))) e
    ∙ ap (lesser_of least) (sym (first-append here others) ∙ ap (λ ts. first (rising (ready_among q h ts))) (sym (members_left xs i x lt is)))

-- no member is left
pub least-through : (q : ℕ) (h : Table) (xs : List Strand) (i : ℕ) (least all : Option ℕ) → length xs ≤ i
    → lesser_of least (first (rising (ready_among q h (members_view (drop i xs))))) ≡ all → least ≡ all
least-through q h xs i least all over e =
    sym (lesser-none least) ∙ ap (λ ts. lesser_of least (first (rising (ready_among q h ts)))) (sym (none_left xs i over)) ∙ e

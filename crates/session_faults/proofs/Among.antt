-- A fault in the member at a place.
use Rattle.std.proofs.Common.{◌≡◌, ℕ, ◌+◌, ◌<◌, true, false, List, take, drop, get_or, set, sym, ap, ◌∙◌, arith}
use Rattle.std.proofs.lemmas.List.{take-set, drop-set-lt, get_or-set_same}
use Rattle.session_calculus.specs.Kill.{kill_members}
use Rattle.session_calculus.specs.Terms.{Fault, Term, Strands, strand}
use Rattle.session_calculus.specs.Throw.{up, surrounded, throw, throw_among}
use Rattle.session_forms.specs.View.{members_view, term_view}
use Rattle.session_forms.specs.declared.term.Strand.{Strand}
use Rattle.session_faults.specs.declared.decision.Decision.{Decision}
use Rattle.session_faults.specs.Decisions.{carried_by, is_up}
use Rattle.session_faults.specs.Places.{StandsFirst, joined}
use Rattle.session_faults.proofs.Carried.{passed_up, kept_there, throw_among-at}
use Rattle.session_faults.proofs.Positions.{members-split, members-put}

-- what the members are where the fault goes on from the member x at place i
abbrev passed : Fault → List Strand → ℕ → Strand → Term → Strands
passed f xs i x t = joined (kill_members f (members_view (take i xs))) (strand x.number t (kill_members f (members_view (drop (i + 1) xs))))

-- and where it was kept there
abbrev kept : List Strand → ℕ → Strand → Term → Strands
kept xs i x t = joined (members_view (take i xs)) (strand x.number t (members_view (drop (i + 1) xs)))

-- the fault comes from that member
from_member : (n : ℕ) (f : Fault) (xs : List Strand) (i : ℕ) (x : Strand) → StandsFirst n xs i → x ≡ get_or xs i x
    → surrounded (passed f xs i x) (kept xs i x) (throw n f x.number (term_view x.form.value)) ≡ throw_among n f (members_view xs)
from_member n f xs i x first is =
    sym (throw_among-at n f (members_view (take i xs)) x.number (term_view x.form.value) (members_view (drop (i + 1) xs)) first.not_before (first.here x is))
    ∙ ap (throw_among n f) (sym (members-split xs i x first.within is))

-- one that was kept there, y being what is left of x
pub kept_among : (n : ℕ) (f : Fault) (xs : List Strand) (i : ℕ) (x y : Strand) (d : Decision) → StandsFirst n xs i → x ≡ get_or xs i x → y.number ≡ x.number
    → carried_by d (term_view y.form.value) ≡ throw n f x.number (term_view x.form.value) → is_up d ≡ false
    → carried_by d (members_view (set xs i y)) ≡ throw_among n f (members_view xs)
kept_among n f xs i x y d first is same e u =
    ap (carried_by d) (members-put xs i y first.within ∙ ap (λ k. joined (members_view (take i xs)) (strand k (term_view y.form.value) (members_view (drop (i + 1) xs)))) same)
    ∙ kept_there (passed f xs i x) (kept xs i x) d (term_view y.form.value) (throw n f x.number (term_view x.form.value)) e u
    ∙ from_member n f xs i x first is

-- one that goes on: the others are killed, and zs are left
pub passed_among : (n : ℕ) (f : Fault) (xs zs : List Strand) (i : ℕ) (x y : Strand) (d : Decision) → StandsFirst n xs i → x ≡ get_or xs i x → y.number ≡ x.number
    → carried_by d (term_view y.form.value) ≡ throw n f x.number (term_view x.form.value) → is_up d ≡ true
    → ((z : Strand) → z ≡ get_or (set xs i y) i z → members_view zs ≡ passed f (set xs i y) i z (term_view z.form.value))
    → up (members_view zs) ≡ throw_among n f (members_view xs)
passed_among n f xs zs i x y d first is same e u left =
    let further : i < i + 1 = omega arith in
    let t = term_view y.form.value in
    let put =
    left y (sym (get_or-set_same xs i y y first.within))
    ∙ ap (λ ws. joined (kill_members f (members_view ws)) (strand y.number t (kill_members f (members_view (drop (i + 1) (set xs i y)))))) (take-set xs i y)
    ∙ ap (λ ws. joined (kill_members f (members_view (take i xs))) (strand y.number t (kill_members f (members_view ws)))) (drop-set-lt (i + 1) xs i y further)
    ∙ ap (λ k. joined (kill_members f (members_view (take i xs))) (strand k t (kill_members f (members_view (drop (i + 1) xs))))) same in
    ap (λ ts. up ts) put
    ∙ passed_up (passed f xs i x) (kept xs i x) d t (throw n f x.number (term_view x.form.value)) e u
    ∙ from_member n f xs i x first is

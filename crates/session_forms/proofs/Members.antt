-- How the members of a parallel come to normal form, one by one.
use Rattle.std.proofs.Common.{◌≡◌, ℕ, ◌+◌, ◌<◌, ◌≤◌, false, List, [], ◌∷◌, ◌++◌, map, take, drop, length, get_or, set, refl, sym, ap, ◌∙◌}
use Rattle.std.proofs.lemmas.List.{drop_all, take_all, map-append, take_more_set}
use Rattle.session_calculus.specs.Terms.{Term, Strands, done, no_strands, strand, all_done}
use Rattle.session_calculus.specs.Start.{Begun, begun, around, normal, normal_members}
use Rattle.session_forms.specs.View.{StrandView, strand_view, members_view}
use Rattle.session_forms.specs.declared.term.Strand.{Strand}
use Rattle.session_forms.proofs.Begins.{before, before-more, before-none}
use Rattle.session_forms.proofs.Lists.{first_unvisited}

-- the next member comes to normal form
normal-more : (ss : List StrandView) (s : StrandView) (ts : Strands) (n : ℕ) (t : Term) (m : ℕ) → begun t m ≡ normal s.form n
    → around (before (ss ++ (record { number = s.number; form = t } ∷ []))) (normal_members ts m) ≡ around (before ss) (normal_members (strand s.number s.form ts) n)
normal-more ss s ts n t m e =
    let others = normal_members ts m in
    ap (λ us. begun us others.next) (before-more ss (record { number = s.number; form = t }) others.form)
    ∙ ap (λ b. around (before ss) (around (strand s.number b.form) (normal_members ts b.next))) e

-- the next of a list does, y being what is left of x
pub members_go_on : (xs ys : List Strand) (i n : ℕ) (x y : Strand) (t : Term) (m : ℕ) → i < length ys → drop i ys ≡ drop i xs → x ≡ get_or ys i x
    → strand_view y ≡ record { number = (strand_view x).number; form = t } → begun t m ≡ normal (strand_view x).form n
    → around (before (map strand_view (take (i + 1) (set ys i y)))) (normal_members (members_view (drop (i + 1) xs)) m)
    ≡ around (before (map strand_view (take i ys))) (normal_members (members_view (drop i xs)) n)
members_go_on xs ys i n x y t m lt h is seen e =
    let grown = ap (map strand_view) (take_more_set ys i y lt) ∙ map-append strand_view (take i ys) (y ∷ []) ∙ ap (λ s. map strand_view (take i ys) ++ (s ∷ [])) seen in
    ap (λ ss. around (before ss) (normal_members (members_view (drop (i + 1) xs)) m)) grown
    ∙ normal-more (map strand_view (take i ys)) (strand_view x) (members_view (drop (i + 1) xs)) n t m e
    ∙ ap (λ zs. around (before (map strand_view (take i ys))) (normal_members (members_view zs) n)) (sym (first_unvisited xs ys i x lt h is))

-- all of a list did
pub members_through : (xs ys : List Strand) (i m : ℕ) (b : Begun Strands) → length xs ≤ i → length ys ≤ i
    → around (before (map strand_view (take i ys))) (normal_members (members_view (drop i xs)) m) ≡ b → begun (members_view ys) m ≡ b
members_through xs ys i m b hx hy e =
    ap (λ ts. begun ts m) (sym (before-none (map strand_view ys)))
    ∙ ap (λ zs. around (before (map strand_view zs)) (begun no_strands m)) (sym (take_all i ys hy))
    ∙ ap (λ zs. around (before (map strand_view (take i ys))) (normal_members (members_view zs) m)) (sym (drop_all i xs hx))
    ∙ e

-- members of which the first is not done
pub all_done-other : (n : ℕ) (t : Term) (ts : Strands) → (t ≡ done → ⊥) → all_done (strand n t ts) ≡ false
all_done-other n done ts h = absurd (h refl)
all_done-other n t ts h = refl

-- members of which the first is done
pub all_done-next : (n : ℕ) (t : Term) (ts : Strands) → t ≡ done → all_done (strand n t ts) ≡ all_done ts
all_done-next n t ts h = rw h refl

-- How members are killed, one by one.
use Rattle.std.proofs.Common.{◌≡◌, ℕ, ◌+◌, ◌<◌, ◌≤◌, List, [], ◌∷◌, map, take, drop, length, get_or, set, sym, ap, ◌∙◌}
use Rattle.std.proofs.lemmas.List.{drop_all, take_all, map-append, take_more_set}
use Rattle.session_calculus.specs.Terms.{Fault, Strands, no_strands, strand}
use Rattle.session_calculus.specs.Kill.{kill, kill_members}
use Rattle.session_forms.specs.View.{StrandView, strand_view, members_view}
use Rattle.session_forms.specs.declared.term.Strand.{Strand}
use Rattle.session_forms.proofs.Begins.{before, before-more, before-none}
use Rattle.session_forms.proofs.Lists.{first_unvisited}

-- the next member is killed, y being what is left of x
pub kill-goes_on : (f : Fault) (xs ys : List Strand) (i : ℕ) (x y : Strand) → i < length ys → drop i ys ≡ drop i xs → x ≡ get_or ys i x
    → strand_view y ≡ record { number = (strand_view x).number; form = kill f (strand_view x).form }
    → before (map strand_view (take (i + 1) (set ys i y))) (kill_members f (members_view (drop (i + 1) xs)))
    ≡ before (map strand_view (take i ys)) (kill_members f (members_view (drop i xs)))
kill-goes_on f xs ys i x y lt h is seen =
    let others = kill_members f (members_view (drop (i + 1) xs)) in
    let grown = ap (map strand_view) (take_more_set ys i y lt) ∙ map-append strand_view (take i ys) (y ∷ []) in
    ap (λ ss. before ss others) grown
    ∙ before-more (map strand_view (take i ys)) (strand_view y) others
    ∙ ap (λ (s : StrandView). before (map strand_view (take i ys)) (strand s.number s.form others)) seen
    ∙ ap (λ zs. before (map strand_view (take i ys)) (kill_members f (members_view zs))) (sym (first_unvisited xs ys i x lt h is))

-- all are killed
pub kill-through : (f : Fault) (xs ys : List Strand) (i : ℕ) (ts : Strands) → length xs ≤ i → length ys ≤ i
    → before (map strand_view (take i ys)) (kill_members f (members_view (drop i xs))) ≡ ts → members_view ys ≡ ts
kill-through f xs ys i ts hx hy e =
    sym (before-none (map strand_view ys))
    ∙ ap (λ zs. before (map strand_view zs) no_strands) (sym (take_all i ys hy))
    ∙ ap (λ zs. before (map strand_view (take i ys)) (kill_members f (members_view zs))) (sym (drop_all i xs hx))
    ∙ e

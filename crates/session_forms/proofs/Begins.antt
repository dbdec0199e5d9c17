-- How the members of a parallel start.
use Rattle.std.proofs.Common.{◌≡◌, ℕ, suc, ◌+◌, ◌<◌, ◌≤◌, List, [], ◌∷◌, ◌++◌, map, drop, length, get_or, refl, sym, ap, ◌∙◌, arith}
use Rattle.std.proofs.lemmas.List.{drop_all}
use Rattle.behaviour_tree.specs.Data.{Proc, Procs, proc}
use Rattle.behaviour_tree.specs.View.{behaviour_view, procs_of}
use Rattle.behaviour_tree.specs.declared.behaviour.Behaviour.{Behaviour}
use Rattle.session_calculus.specs.Terms.{Term, Strands, seq, no_strands, strand, seq_of}
use Rattle.behaviour_tree.specs.FormedBehaviours.{count_of}
use Rattle.session_calculus.specs.Start.{Begun, begun, around, start, start_members}
use Rattle.session_forms.specs.View.{StrandView, strands_of}
use Rattle.session_forms.proofs.Lists.{taken_off}

-- a head with rests is a sequence
pub seq_of_some : (t : Term) (xs : List Behaviour) → (xs ≡ [] → ⊥) → seq_of t (procs_of (map behaviour_view xs)) ≡ seq t (procs_of (map behaviour_view xs))
seq_of_some t [] h = absurd (h refl)
seq_of_some t (x ∷ xs) h = refl

-- there are as many behaviours as in the list
pub count_of-procs_of : (xs : List Behaviour) → count_of (procs_of (map behaviour_view xs)) ≡ length xs
count_of-procs_of [] = refl
count_of-procs_of (x ∷ xs) = ap suc (count_of-procs_of xs)

-- members before others
abbrev pub before : List StrandView → Strands → Strands
before [] ts = ts
before (s ∷ ss) ts = strand s.number s.form (before ss ts)

-- one more before the others
pub before-more : (ss : List StrandView) (s : StrandView) (ts : Strands) → before (ss ++ (s ∷ [])) ts ≡ before ss (strand s.number s.form ts)
before-more [] s ts = refl
before-more (r ∷ ss) s ts = ap (strand r.number r.form) (before-more ss s ts)

-- all of them, and no others
pub before-none : (ss : List StrandView) → before ss no_strands ≡ strands_of ss
before-none [] = refl
before-none (s ∷ ss) = ap (strand s.number s.form) (before-none ss)

-- the next member starts
start-more : (q : Proc) (ps : Procs) (ss : List StrandView) (k n : ℕ) (b : Begun Term) → b ≡ start q n
    → around (before (ss ++ (record { number = k; form = b.form } ∷ []))) (start_members ps (suc k) b.next) ≡ around (before ss) (start_members (proc q ps) k n)
start-more q ps ss k n b e =
    let others = start_members ps (suc k) b.next in
    ap (λ ts. begun ts others.next) (before-more ss (record { number = k; form = b.form }) others.form)
    ∙ ap (λ b'. around (before ss) (around (strand k b'.form) (start_members ps (suc k) b'.next))) e

-- the next member of a list starts
pub members_go_on : (xs : List Behaviour) (i : ℕ) (x : Behaviour) (ss : List StrandView) (k n : ℕ) (b : Begun Term) → i < length xs → x ≡ get_or xs i x → b ≡ start (behaviour_view x) n
    → around (before (ss ++ (record { number = k; form = b.form } ∷ []))) (start_members (procs_of (map behaviour_view (drop (i + 1) xs))) (k + 1) b.next)
    ≡ around (before ss) (start_members (procs_of (map behaviour_view (drop i xs))) k n)
members_go_on xs i x ss k n b h is e =
    let rest = procs_of (map behaviour_view (drop (i + 1) xs)) in
    let next : k + 1 ≡ suc k = omega arith in
    ap (λ j. around (before (ss ++ (record { number = k; form = b.form } ∷ []))) (start_members rest j b.next)) next
    ∙ start-more (behaviour_view x) rest ss k n b e
    ∙ ap (λ zs. around (before ss) (start_members (procs_of (map behaviour_view zs)) k n)) (sym (taken_off xs i x h is))

-- all members of a list started
pub members_started : (xs : List Behaviour) (i : ℕ) (ss : List StrandView) (k n : ℕ) (b : Begun Strands) → length xs ≤ i
    → around (before ss) (start_members (procs_of (map behaviour_view (drop i xs))) k n) ≡ b → begun (strands_of ss) n ≡ b
members_started xs i ss k n b h e =
    ap (λ ts. begun ts n) (sym (before-none ss))
    ∙ ap (λ zs. around (before ss) (start_members (procs_of (map behaviour_view zs)) k n)) (sym (drop_all i xs h))
    ∙ e

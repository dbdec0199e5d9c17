-- What a member of a parallel adds to what is told of all.
use Rattle.std.proofs.Common.{◌≡◌, ℕ, ◌+◌, ◌<◌, ◌≤◌, true, false, ◌||◌, List, [], ◌∷◌, ◌++◌, drop, length, get_or, sym, ap, ◌∙◌, append_assoc, rules}
use Rattle.std.proofs.lemmas.List.{drop_all}
use Rattle.session_calculus.specs.Terms.{no_strands, strand, stands_in, is_among}
use Rattle.session_calculus.specs.Open.{held, held_among}
use Rattle.session_forms.specs.Standing.{strands_in, strands_within, strands_among}
use Rattle.session_forms.specs.View.{StrandView, strand_view, members_view, term_view}
use Rattle.session_forms.specs.declared.term.Strand.{Strand}
use Rattle.session_forms.specs.declared.term.Strand as declared
use Rattle.session_forms.proofs.Lists.{taken_off}

-- a member by its parts
pub viewed : (x : Strand) → strand_view x ≡ record { number = x.number; form = term_view x.form.value }
viewed x = search (rules, declared.the_lemmas)

-- what is left of the members begins with the next one
pub members_left : (xs : List Strand) (i : ℕ) (x : Strand) → i < length xs → x ≡ get_or xs i x
    → members_view (drop i xs) ≡ strand x.number (term_view x.form.value) (members_view (drop (i + 1) xs))
members_left xs i x lt is =
    ap members_view (taken_off xs i x lt is) ∙ ap (λ (v : StrandView). strand v.number v.form (members_view (drop (i + 1) xs))) (viewed x)

-- no member is left
pub none_left : (xs : List Strand) (i : ℕ) → length xs ≤ i → members_view (drop i xs) ≡ no_strands
none_left xs i h = ap members_view (drop_all i xs h)

-- a strand that does not stand in the next member stands in the others, or in none
pub passes_member : (n : ℕ) (xs : List Strand) (i : ℕ) (x : Strand) → i < length xs → x ≡ get_or xs i x → stands_in n x.number (term_view x.form.value) ≡ false
    → is_among n (members_view (drop (i + 1) xs)) ≡ is_among n (members_view (drop i xs))
passes_member n xs i x lt is h = sym (ap (is_among n) (members_left xs i x lt is) ∙ ap (λ b. b || is_among n (members_view (drop (i + 1) xs))) h)

-- one that does stands among them
pub stops_at_member : (n : ℕ) (xs : List Strand) (i : ℕ) (x : Strand) → i < length xs → x ≡ get_or xs i x → stands_in n x.number (term_view x.form.value) ≡ true
    → true ≡ is_among n (members_view (drop i xs))
stops_at_member n xs i x lt is h = sym (ap (is_among n) (members_left xs i x lt is) ∙ ap (λ b. b || is_among n (members_view (drop (i + 1) xs))) h)

-- what the next member holds comes before what the others hold
pub held-member : (f g : ℕ → List ℕ) (xs : List Strand) (i : ℕ) (x : Strand) (before after all : List ℕ) → i < length xs → x ≡ get_or xs i x
    → after ≡ before ++ held f g (term_view x.form.value) → before ++ held_among f g (members_view (drop i xs)) ≡ all
    → after ++ held_among f g (members_view (drop (i + 1) xs)) ≡ all
held-member f g xs i x before after all lt is e h =
    let others = held_among f g (members_view (drop (i + 1) xs)) in
    ap (λ ns. ns ++ others) e ∙ append_assoc before (held f g (term_view x.form.value)) others
    ∙ ap (λ ts. before ++ held_among f g ts) (sym (members_left xs i x lt is)) ∙ h

-- the strands of the next member come before those of the others
pub standing-member : (xs : List Strand) (i : ℕ) (x : Strand) (before after all : List ℕ) → i < length xs → x ≡ get_or xs i x
    → after ≡ (before ++ (x.number ∷ [])) ++ strands_within (term_view x.form.value) → before ++ strands_among (members_view (drop i xs)) ≡ all
    → after ++ strands_among (members_view (drop (i + 1) xs)) ≡ all
standing-member xs i x before after all lt is e h =
    let inner = strands_within (term_view x.form.value) in
    let others = strands_among (members_view (drop (i + 1) xs)) in
    ap (λ ns. ns ++ others) (e ∙ append_assoc before (x.number ∷ []) inner) ∙ append_assoc before (strands_in x.number (term_view x.form.value)) others
    ∙ ap (λ ts. before ++ strands_among ts) (sym (members_left xs i x lt is)) ∙ h

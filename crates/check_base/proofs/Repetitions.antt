-- Laws of names that stand a second time.
use Rattle.std.proofs.Common.{◌≡◌, ℕ, Bool, true, false, ◌+◌, ◌<◌, List, [], ◌∷◌, ◌++◌, map, length, get_or, take, Option, refl, ap, sym, ◌∙◌, bytes_eq, append_assoc, append-nil}
use Rattle.std.specs.Prelude.{◌||◌, if◌then◌else◌}
use Rattle.std.proofs.lemmas.List.{map-append, take_more}
use Rattle.jolie_ast.specs.declared.name.Name.{Name}
use Rattle.behaviour_tree.specs.Distinct.{is_in}
use Rattle.check_base.specs.declared.refusal.CheckName.{CheckName}
use Rattle.check_base.specs.declared.refusal.Refusal.{Refusal}
use Rattle.check_base.specs.Least.{joined, refused, refused_if}
use Rattle.check_base.specs.Repeated.{repeated, repeated_after}
use Rattle.check_base.proofs.Joined.{joined_append, refused_append}

-- a text among others, in another order of three tests
pub in_any_order : (a b c : Bool) → ((a || b) || c) ≡ (b || (a || c))
in_any_order true true c = refl
in_any_order true false c = refl
in_any_order false true c = refl
in_any_order false false c = refl

-- nothing stands behind a test
pub or_false : (a : Bool) → (a || false) ≡ a
or_false true = refl
or_false false = refl

-- the places of a name that may stand a second time
abbrev pub second : Bool → Name → List ℕ
second known n = if known then n.at ∷ [] else []

-- one name more behind others
pub repeated_behind : (before : List (List ℕ)) (ns : List Name) (n : Name) → repeated_after before (ns ++ n ∷ []) ≡ repeated_after before ns ++ second (is_in n.text before || is_in n.text (map (λ (m : Name). m.text) ns)) n
repeated_behind before [] n = append-nil (second (is_in n.text before) n) ∙ ap (λ b. second b n) (sym (or_false (is_in n.text before)))
repeated_behind before (m ∷ ns) n =
    ap (λ rest. second (is_in m.text before) m ++ rest) (repeated_behind (m.text ∷ before) ns n)
    ∙ ap (λ b. second (is_in m.text before) m ++ (repeated_after (m.text ∷ before) ns ++ second b n)) (in_any_order (bytes_eq m.text n.text) (is_in n.text before) (is_in n.text (map (λ (m : Name). m.text) ns)))
    ∙ sym (append_assoc (second (is_in m.text before) m) (repeated_after (m.text ∷ before) ns) (second (is_in n.text before || is_in n.text (map (λ (m : Name). m.text) (m ∷ ns))) n))

-- what is refused of a name that may stand a second time
pub second_refused : (cause : CheckName) (known : Bool) (n : Name) → refused cause (second known n) ≡ refused_if known cause n.at
second_refused cause true n = refl
second_refused cause false n = refl

-- a turn of a loop over names
pub repeated_turn : (cause : CheckName) (p0 p1 p2 : Option Refusal) (ns : List Name) (i : ℕ) (n : Name) (known : Bool) → i < length ns → n ≡ get_or ns i n
    → known ≡ is_in n.text (map (λ (m : Name). m.text) (take i ns))
    → p1 ≡ joined p0 (refused cause (repeated (take i ns))) → p2 ≡ joined p1 (refused_if known cause n.at) → p2 ≡ joined p0 (refused cause (repeated (take (i + 1) ns)))
repeated_turn cause p0 p1 p2 ns i n known below item there before turn =
    turn
    ∙ ap (λ p. joined p (refused_if known cause n.at)) before
    ∙ sym (joined_append p0 (refused cause (repeated (take i ns))) (refused_if known cause n.at))
    ∙ ap (λ rs. joined p0 (refused cause (repeated (take i ns)) ++ rs)) (sym (second_refused cause known n))
    ∙ ap (joined p0) (sym (refused_append cause (repeated (take i ns)) (second known n)))
    ∙ ap (λ b. joined p0 (refused cause (repeated (take i ns) ++ second b n))) there
    ∙ ap (λ xs. joined p0 (refused cause xs)) (sym (repeated_behind [] (take i ns) n))
    ∙ ap (λ m. joined p0 (refused cause (repeated (take i ns ++ m ∷ [])))) item
    ∙ ap (λ ms. joined p0 (refused cause (repeated ms))) (sym (take_more ns i n below))

-- the texts of a turn of a loop over names
pub texts_turn : (ts us : List (List ℕ)) (ns : List Name) (i : ℕ) (n : Name) → i < length ns → n ≡ get_or ns i n → ts ≡ map (λ (m : Name). m.text) (take i ns) → us ≡ ts ++ n.text ∷ [] → us ≡ map (λ (m : Name). m.text) (take (i + 1) ns)
texts_turn ts us ns i n below item before turn =
    turn
    ∙ ap (λ xs. xs ++ n.text ∷ []) before
    ∙ sym (map-append (λ (m : Name). m.text) (take i ns) (n ∷ []))
    ∙ ap (λ m. map (λ (m : Name). m.text) (take i ns ++ m ∷ [])) item
    ∙ ap (map (λ (m : Name). m.text)) (sym (take_more ns i n below))

-- Names that stand a second time, and names that are there.
use Rattle.std.specs.Prelude.{ℕ, List, [], ◌∷◌, ◌++◌, if◌then◌else◌, Option, None, Some, suc, bytes_eq, option_map}
use Rattle.behaviour_tree.specs.Distinct.{is_in}
use Rattle.jolie_ast.specs.declared.name.Name.{Name}
use Rattle.jolie_ast.specs.declared.name.Quoted.{Quoted}

-- texts
abbrev pub Texts : Type 0
Texts = List (List ℕ)

-- texts and one more, where it is not among them
unfoldable pub with_text : Texts → List ℕ → Texts
with_text texts text = if is_in text texts then texts else texts ++ text ∷ []

-- texts and further ones, each where it is not among those before
abbrev pub with_texts : Texts → Texts → Texts
with_texts texts [] = texts
with_texts texts (t ∷ ts) = with_texts (with_text texts t) ts

-- a text with its place
abbrev pub named : List ℕ → ℕ → Name
named text at = record { text = text; at = at }

-- a string as a text with its place
abbrev pub as_name : Quoted → Name
as_name q = named q.text q.at

-- the places of the names that are among the texts before or stand a second time
abbrev pub repeated_after : List (List ℕ) → List Name → List ℕ
repeated_after before [] = []
repeated_after before (n ∷ ns) = (if is_in n.text before then n.at ∷ [] else []) ++ repeated_after (n.text ∷ before) ns

-- the places of the names that stand a second time
abbrev pub repeated : List Name → List ℕ
repeated names = repeated_after [] names

-- each thing once by its text, where it first stands, but those whose text is among the texts before
abbrev pub once_after : {A : Type 0} → (A → List ℕ) → List (List ℕ) → List A → List A
once_after text before [] = []
once_after text before (a ∷ rest) =
    (if is_in (text a) before then [] else a ∷ []) ++ once_after text (text a ∷ before) rest

-- each text once, where it first stands
abbrev pub firsts : List (List ℕ) → List (List ℕ)
firsts texts = once_after (λ t. t) [] texts

-- each name once, where it first stands
abbrev pub first_names : List Name → List Name
first_names names = once_after (λ (n : Name). n.text) [] names

-- the place of the first text that is this one
abbrev pub place_of : List (List ℕ) → List ℕ → Option ℕ
place_of [] text = None
place_of (t ∷ ts) text = if bytes_eq t text then Some 0 else option_map suc (place_of ts text)

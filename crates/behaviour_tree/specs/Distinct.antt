-- Lists in which nothing stands twice, and that have something.
use Rattle.std.specs.Prelude.{ℕ, Bool, true, false, not, ◌&&◌, bytes_eq, List, [], ◌∷◌}
use Rattle.std.specs.List.{list_any}
use Rattle.behaviour_tree.specs.Operations.{is_among}

-- there is something in a list
abbrev pub is_some_list : {A : Type 0} → List A → Bool
is_some_list [] = false
is_some_list (a ∷ rest) = true

-- one of the texts
abbrev pub is_in : List ℕ → List (List ℕ) → Bool
is_in text texts = list_any (λ t. bytes_eq t text) texts

-- no text stands twice
abbrev pub texts_differ : List (List ℕ) → Bool
texts_differ [] = true
texts_differ (t ∷ ts) = not (is_in t ts) && texts_differ ts

-- no number stands twice
abbrev pub numbers_differ : List ℕ → Bool
numbers_differ [] = true
numbers_differ (n ∷ ns) = not (is_among ns n) && numbers_differ ns

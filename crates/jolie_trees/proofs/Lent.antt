-- What is lent to be written under a name.
use Rattle.std.proofs.Common.{◌≡◌, ◌⊎◌, inl, ℕ, List, [], ◌∷◌, ◌++◌, Bool, true, false, refl, ap, sym, ◌∙◌, cond, take, drop, length, arith}
use Rattle.std.specs.Cmp.Lexicographic.{texts_ties}
use Rattle.std.specs.Map.{set_value}
use Rattle.std.specs.Prelude.{bytes_eq, if◌then◌else◌}
use Rattle.jolie_trees.specs.Data.{Fields, field, Tree, tree, Trees}
use Rattle.jolie_trees.specs.Lending.{replaced_under, written_over}
use Rattle.jolie_trees.specs.TreeView.{fields_of, trees_of}
use Rattle.jolie_trees.proofs.Entries.{Entry, is_name}

replaced-step : (b : Bool) (e : Entry) (w : Trees) (es set : List Entry) (replaced : Fields) → fields_of set ≡ replaced
    → fields_of (cond b ((e.0, w) ∷ es) (e ∷ set)) ≡ (if b then field e.0 w (fields_of es) else field e.0 e.1 replaced)
replaced-step true e w es set replaced h = refl
replaced-step false e w es set replaced h = ap (field e.0 e.1) h

-- the vector that is there is written over, and no other
pub replaced_under-set : (name : List ℕ) (es : List Entry) (w : Trees) → fields_of (set_value (is_name name) es w) ≡ replaced_under name w (fields_of es)
replaced_under-set name [] w = refl
replaced_under-set name (e ∷ es) w = rw (← texts_ties name e.0) (replaced-step (bytes_eq name e.0) e w es _ _ (replaced_under-set name es w))

-- two loans under one name that end alike
pub same_lent : {N A B C : Type 0} {name : N} {f g : A → B} → ((x : A) → f x ≡ g x) → ◌≡◌ {A = (N × (A → B)) ⊎ C} (inl (name, f)) (inl (name, g))
same_lent {name = name} h = λ i. inl (name, λ x. h x i)

whole : (ts : List Tree) → trees_of (take (length ts) ts) ≡ trees_of ts
whole [] = refl
whole (t ∷ ts) = ap (tree t) (whole ts)

over : (ws ts : List Tree) → trees_of (take (length ts) (ws ++ drop (length ws) ts)) ≡ written_over ws (trees_of ts)
over [] [] = refl
over (w ∷ ws) [] = refl
over [] (t ∷ ts) = whole (t ∷ ts)
over (w ∷ ws) (t ∷ ts) = ap (tree w) (over ws ts)

-- a vector that was written through a slice of it has what was written, in its places
pub written_through : (ws ts : List Tree) (n : ℕ) → length ts ≡ n → trees_of (take n (ws ++ drop (length ws) ts)) ≡ written_over ws (trees_of ts)
written_through ws ts n h = ap (λ m. trees_of (take m (ws ++ drop (length ws) ts))) (sym h) ∙ over ws ts

-- as many others are the whole
pub all_written : (ws ts : List Tree) → length ws ≡ length ts → written_over ws (trees_of ts) ≡ trees_of ws
all_written [] [] h = refl
all_written [] (t ∷ ts) h = absurd (omega (arith, h))
all_written (w ∷ ws) [] h = absurd (omega (arith, h))
all_written (w ∷ ws) (t ∷ ts) h = ap (tree w) (all_written ws ts (omega (arith, h)))

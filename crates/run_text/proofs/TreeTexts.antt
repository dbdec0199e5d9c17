-- What the parts of a tree's text make together.
use Rattle.std.proofs.Common.{◌≡◌, ℕ, ◌+◌, ◌-◌, ◌<◌, ◌≤◌, max, List, [], ◌∷◌, ◌++◌, length, get_or, take, drop, refl, ap, sym, ◌∙◌, arith, append_assoc, append-nil, codes, Result, Ok, Err, OnOk}
use Rattle.std.proofs.lemmas.List.{take_all}
use Rattle.jolie_trees.specs.declared.root.Root.{Root}
use Rattle.jolie_trees.specs.Data.{Tree, node, Trees}
use Rattle.jolie_trees.specs.Trees.{children_of, root_of, levels, fields_levels, trees_levels}
use Rattle.jolie_trees.specs.TreeView.{trees_of, fields_of}
use Rattle.run_text.specs.Strings.{text_string}
use Rattle.run_text.specs.Nodes.{root_text, tree_text, children_text, more_children, trees_text, more_trees, named}
use Rattle.run_text.proofs.Turns.{turn}

-- a node is its root and its children
pub tree_parts : (t : Tree) → tree_text t ≡ root_text (root_of t) ++ children_text (children_of t)
tree_parts (node r fs) = refl

pub node_written : {A E : Type 0} (r : Result A E) (t : Tree) (root : Root) (old first new : List ℕ) → root ≡ root_of t
    → first ≡ old ++ root_text root → OnOk r (new ≡ first ++ children_text (children_of t)) → OnOk r (new ≡ old ++ tree_text t)
node_written (Ok a) t root old first new is begun rest =
    rest
    ∙ ap (λ w. w ++ children_text (children_of t)) (begun ∙ ap (λ x. old ++ root_text x) is)
    ∙ append_assoc old (root_text (root_of t)) (children_text (children_of t))
    ∙ ap (λ w. old ++ w) (sym (tree_parts t))
node_written (Err e) t root old first new is begun rest = tt

-- a node without children
pub no_children : (t : Tree) (es : List (List ℕ × Trees)) (w : List ℕ) → fields_of es ≡ children_of t → es ≡ [] → w ≡ w ++ children_text (children_of t)
no_children t es w all none = sym (append-nil w) ∙ ap (λ fs. w ++ children_text fs) (sym (ap fields_of none) ∙ all)

-- the first child, after the brace
pub children_begun : (t : Tree) (es rest : List (List ℕ × Trees)) (name : List ℕ) (ts : Trees) (w0 w1 w2 : List ℕ) → fields_of es ≡ children_of t
    → es ≡ (name, ts) ∷ rest → w1 ≡ w0 ++ codes "{" → w2 ≡ w1 ++ named name (trees_text ts)
    → w2 ++ more_children (fields_of rest) ≡ w0 ++ children_text (children_of t)
children_begun t es rest name ts w0 w1 w2 all split brace child =
    let more = more_children (fields_of rest) in
    ap (λ w. w ++ more) (child ∙ ap (λ w. w ++ named name (trees_text ts)) brace)
    ∙ append_assoc (w0 ++ codes "{") (named name (trees_text ts)) more
    ∙ append_assoc w0 (codes "{") (named name (trees_text ts) ++ more)
    ∙ ap (λ fs. w0 ++ children_text fs) (sym (ap fields_of split) ∙ all)

-- one child more, after a comma
pub children_turn : (es rest : List (List ℕ × Trees)) (name : List ℕ) (ts : Trees) (w0 w1 w2 whole : List ℕ) → es ≡ (name, ts) ∷ rest
    → w1 ≡ w0 ++ codes "," → w2 ≡ w1 ++ named name (trees_text ts) → w0 ++ more_children (fields_of es) ≡ whole
    → w2 ++ more_children (fields_of rest) ≡ whole
children_turn es rest name ts w0 w1 w2 whole split comma child before =
    let more = more_children (fields_of rest) in
    ap (λ w. w ++ more) (child ∙ ap (λ w. w ++ named name (trees_text ts)) comma)
    ∙ append_assoc (w0 ++ codes ",") (named name (trees_text ts)) more
    ∙ append_assoc w0 (codes ",") (named name (trees_text ts) ++ more)
    ∙ ap (λ ds. w0 ++ more_children (fields_of ds)) (sym split)
    ∙ before

-- no further child, and the brace
pub children_ended : {A E : Type 0} (r : Result A E) (es : List (List ℕ × Trees)) (w new whole : List ℕ) → es ≡ []
    → w ++ more_children (fields_of es) ≡ whole → OnOk r (new ≡ w ++ codes "}") → OnOk r (new ≡ whole)
children_ended (Ok a) es w new whole none before brace = brace ∙ ap (λ ds. w ++ more_children (fields_of ds)) (sym none) ∙ before
children_ended (Err e) es w new whole none before brace = tt

pub lower_step : (es next : List (List ℕ × Trees)) (e : List ℕ × Trees) (n : ℕ) → es ≡ e ∷ next → fields_levels (fields_of es) ≤ n → fields_levels (fields_of next) ≤ n
lower_step es next e n more lower =
    let h : fields_levels (fields_of es) ≡ fields_levels (fields_of (e ∷ next)) = ap (λ xs. fields_levels (fields_of xs)) more in
    omega (arith, h, lower)

-- the trees of a child have fewer levels than the node
pub lower_child : (t : Tree) (es rest : List (List ℕ × Trees)) (name : List ℕ) (ts : Trees) → es ≡ (name, ts) ∷ rest
    → fields_levels (fields_of es) ≤ fields_levels (children_of t) → trees_levels ts + 1 ≤ levels t
lower_child (node r fs) es rest name ts split lower =
    let h : fields_levels (fields_of es) ≡ max (trees_levels ts) (fields_levels (fields_of rest)) = ap (λ xs. fields_levels (fields_of xs)) split in
    omega (arith, h, lower)

-- so have those of the first child
pub lower_first : (t : Tree) (es rest : List (List ℕ × Trees)) (name : List ℕ) (ts : Trees) → fields_of es ≡ children_of t → es ≡ (name, ts) ∷ rest
    → trees_levels ts + 1 ≤ levels t
lower_first t es rest name ts all split =
    let h : fields_levels (fields_of es) ≡ fields_levels (children_of t) = ap fields_levels all in
    lower_child t es rest name ts split (omega (arith, h))

-- what comes after the first child has no more levels than all
pub lower_rest : (t : Tree) (es rest : List (List ℕ × Trees)) (e : List ℕ × Trees) → fields_of es ≡ children_of t → es ≡ e ∷ rest
    → fields_levels (fields_of rest) ≤ fields_levels (children_of t)
lower_rest t es rest e all split =
    let h : fields_levels (fields_of es) ≡ fields_levels (children_of t) = ap fields_levels all in
    lower_step es rest e (fields_levels (children_of t)) split (omega (arith, h))

-- a name with its trees
pub named_written : {A E : Type 0} (r : Result A E) (name inside w0 w1 w2 w3 w4 : List ℕ) → w1 ≡ w0 ++ text_string name → w2 ≡ w1 ++ codes ":["
    → w3 ≡ w2 ++ inside → OnOk r (w4 ≡ w3 ++ codes "]") → OnOk r (w4 ≡ w0 ++ named name inside)
named_written (Ok a) name inside w0 w1 w2 w3 w4 e1 e2 e3 e4 =
    e4
    ∙ ap (λ w. w ++ codes "]") (e3 ∙ ap (λ w. w ++ inside) (e2 ∙ ap (λ w. w ++ codes ":[") e1))
    ∙ regrouped w0 (text_string name) (codes ":[") inside (codes "]")
  where
    regrouped : (a b c d e : List ℕ) → (((a ++ b) ++ c) ++ d) ++ e ≡ a ++ (b ++ (c ++ (d ++ e)))
    regrouped a b c d e = simp append_assoc
named_written (Err e) name inside w0 w1 w2 w3 w4 e1 e2 e3 e4 = tt

-- ---- the trees of a vector

-- a list is its first item and what comes after it
pub first_split : {X : Type 0} (xs : List X) (x : X) → 1 ≤ length xs → x ≡ get_or xs 0 x → x ∷ take (length xs - 1) (drop 1 xs) ≡ xs
first_split [] x h e = absurd (omega (arith, h))
first_split (y ∷ xs) x h e =
    let n : length (y ∷ xs) - 1 ≡ length xs = omega arith in
    rw n (ap (λ q. q ∷ take (length xs) xs) e ∙ ap (λ q. y ∷ q) (take_all (length xs) xs (omega arith)))

pub first_tree : (ts : List Tree) (t : Tree) (w0 w1 : List ℕ) → 1 ≤ length ts → t ≡ get_or ts 0 t → w1 ≡ w0 ++ tree_text t
    → w1 ++ more_trees (trees_of (take (length ts - 1) (drop 1 ts))) ≡ w0 ++ trees_text (trees_of ts)
first_tree ts t w0 w1 some item is =
    let rest = take (length ts - 1) (drop 1 ts) in
    ap (λ w. w ++ more_trees (trees_of rest)) is
    ∙ append_assoc w0 (tree_text t) (more_trees (trees_of rest))
    ∙ ap (λ us. w0 ++ trees_text (trees_of us)) (first_split ts t some item)

pub next_tree : (ts : List Tree) (i : ℕ) (t : Tree) (w0 w1 w2 whole : List ℕ) → i < length ts → t ≡ get_or ts i t → w1 ≡ w0 ++ codes ","
    → w2 ≡ w1 ++ tree_text t → w0 ++ more_trees (trees_of (drop i ts)) ≡ whole → w2 ++ more_trees (trees_of (drop (i + 1) ts)) ≡ whole
next_tree ts i t w0 w1 w2 whole below item comma is before =
    turn (λ us. more_trees (trees_of us)) (λ u. codes "," ++ tree_text u) w0 w2 whole ts i t t
    (λ u us. sym (append_assoc (codes ",") (tree_text u) (more_trees (trees_of us)))) below item
    (is ∙ ap (λ w. w ++ tree_text t) comma ∙ append_assoc w0 (codes ",") (tree_text t)) before

-- the first tree and the others have no more levels than all
pub levels_split : (ts : List Tree) (t : Tree) → 1 ≤ length ts → t ≡ get_or ts 0 t
    → (levels t ≤ trees_levels (trees_of ts)) × (trees_levels (trees_of (take (length ts - 1) (drop 1 ts))) ≤ trees_levels (trees_of ts))
levels_split ts t some item =
    let h : max (levels t) (trees_levels (trees_of (take (length ts - 1) (drop 1 ts)))) ≡ trees_levels (trees_of ts) = ap (λ us. trees_levels (trees_of us)) (first_split ts t some item) in
    (omega (arith, h), omega (arith, h))

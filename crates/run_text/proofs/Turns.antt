-- What a loop has written and what it has still to write are the whole.
use Rattle.std.proofs.Common.{◌≡◌, ℕ, suc, ◌+◌, ◌<◌, ◌≤◌, List, [], ◌∷◌, ◌++◌, length, get_or, drop, ap, sym, ◌∙◌, arith, append_assoc, append-nil, drop-cons, map, flat_map}
use Rattle.std.proofs.lemmas.List.{drop_all}
use Rattle.std.proofs.lemmas.Grind.{flat_map-append}
use Rattle.behaviour_tree.specs.declared.words.Event.{Event}
use Rattle.run_text.specs.declared.line.Line.TheVariants as line
use Rattle.run_text.specs.Lines.{event_lines, line_text}

-- the item at an index is the first of what is left
pub first_left : {X : Type 0} (xs : List X) (i : ℕ) (x d : X) → i < length xs → x ≡ get_or xs i d
    → drop i xs ≡ x ∷ drop (i + 1) xs
first_left xs i x d below item =
    let next : i + 1 ≡ suc i = omega arith in
    rw next (drop-cons xs i d below ∙ ap (λ y. y ∷ drop (suc i) xs) (sym item))

-- what is written next comes off what is still to come
pub written_next : (now next this later left whole : List ℕ) → left ≡ this ++ later → next ≡ now ++ this
    → now ++ left ≡ whole → next ++ later ≡ whole
written_next now next this later left whole split turn before =
    ap (λ xs. xs ++ later) turn ∙ append_assoc now this later ∙ ap (λ xs. now ++ xs) (sym split) ∙ before

-- where nothing is still to come, all is written
pub all_written : (now left whole : List ℕ) → left ≡ [] → now ++ left ≡ whole → now ≡ whole
all_written now left whole none before = sym (append-nil now) ∙ ap (λ xs. now ++ xs) (sym none) ∙ before

-- a turn of a loop over a list
pub turn : {X : Type 0} (g : List X → List ℕ) (f : X → List ℕ) (now next whole : List ℕ) (xs : List X) (i : ℕ) (x d : X)
    → ((y : X) (ys : List X) → g (y ∷ ys) ≡ f y ++ g ys) → i < length xs → x ≡ get_or xs i d → next ≡ now ++ f x
    → now ++ g (drop i xs) ≡ whole → next ++ g (drop (i + 1) xs) ≡ whole
turn g f now next whole xs i x d one below item is before =
    written_next now next (f x) (g (drop (i + 1) xs)) (g (drop i xs)) whole
    (ap g (first_left xs i x d below item) ∙ one x (drop (i + 1) xs)) is before

-- the end of a loop over a list
pub ended : {X : Type 0} (g : List X → List ℕ) (now whole : List ℕ) (xs : List X) (i : ℕ) → g [] ≡ [] → length xs ≤ i
    → now ++ g (drop i xs) ≡ whole → now ≡ whole
ended g now whole xs i none past before =
    all_written now (g (drop i xs)) whole (ap g (drop_all i xs past) ∙ none) before

-- a turn of the loop over sessions: the events of the next one
pub session_turn : (now next whole : List ℕ) (xs : List (List Event)) (i : ℕ) (x : List Event) → i < length xs → x ≡ get_or xs i x
    → next ≡ now ++ flat_map line_text (map (line.Event i) x)
    → now ++ flat_map line_text (event_lines i (drop i xs)) ≡ whole
    → next ++ flat_map line_text (event_lines (i + 1) (drop (i + 1) xs)) ≡ whole
session_turn now next whole xs i x below item is before =
    let later : i + 1 ≡ suc i = omega arith in
    let rest = drop (i + 1) xs in
    written_next now next (flat_map line_text (map (line.Event i) x)) (flat_map line_text (event_lines (i + 1) rest))
    (flat_map line_text (event_lines i (drop i xs))) whole
    (ap (λ ys. flat_map line_text (event_lines i ys)) (first_left xs i x x below item)
    ∙ flat_map-append line_text (map (line.Event i) x) (event_lines (suc i) rest)
    ∙ ap (λ n. flat_map line_text (map (line.Event i) x) ++ flat_map line_text (event_lines n rest)) (sym later))
    is before

-- the end of the loop over sessions
pub sessions_ended : (now whole : List ℕ) (xs : List (List Event)) (i : ℕ) → length xs ≤ i
    → now ++ flat_map line_text (event_lines i (drop i xs)) ≡ whole → now ≡ whole
sessions_ended now whole xs i past before =
    all_written now (flat_map line_text (event_lines i (drop i xs))) whole
    (ap (λ ys. flat_map line_text (event_lines i ys)) (drop_all i xs past)) before

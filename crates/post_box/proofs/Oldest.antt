-- Where the oldest message of some operations stands in a box.
use Rattle.std.proofs.Common.{◌≡◌, ℕ, zero, suc, ◌+◌, ◌<◌, Bool, true, false, ◌||◌, nat_eq, if◌then◌else◌, List, [], ◌∷◌, length, remove, get_or, Some, None, is_some, unwrap_or, cond, refl, sym, ap, subst, ◌∙◌, arith}
use Rattle.std.specs.Cmp.{nat_eq_equiv}
use Rattle.std.specs.List.{list_any, position_from}
use Rattle.std.proofs.lemmas.Bool.{false≢true}
use Rattle.post_box.specs.declared.mailbox.Waiting.{Waiting}
use Rattle.post_box.specs.Oldest.{is_of, oldest, without_oldest}

-- a number is among others, whichever side of each comparison it stands on
pub among : (ops : List ℕ) (op : ℕ) → list_any (λ o. nat_eq o op) ops ≡ list_any (nat_eq op) ops
among [] op = refl
among (o ∷ ops) op =
    ap (λ b. b || list_any (λ p. nat_eq p op) ops) (nat_eq_equiv.symm o op) ∙ ap (λ b. nat_eq op o || b) (among ops op)

-- place j of a box has its oldest message of the operations
pub record Found (ops : List ℕ) (j : ℕ) (box : List Waiting) : Type 0 where
  pub within : j < length box
  pub value : (d : Waiting) → oldest ops box ≡ Some (get_or box j d).message
  pub rest : without_oldest ops box ≡ remove box j

found_first : (ops : List ℕ) (w : Waiting) (ws : List Waiting) → is_of ops w ≡ true → Found ops zero (w ∷ ws)
found_first ops w ws e = record {
  within = omega arith;
  value = λ d. ap (λ b. if b then Some w.message else oldest ops ws) e;
  rest = ap (λ b. if b then ws else w ∷ without_oldest ops ws) e;
}

found_later : (ops : List ℕ) (j : ℕ) (w : Waiting) (ws : List Waiting) → is_of ops w ≡ false → Found ops j ws → Found ops (suc j) (w ∷ ws)
found_later ops j w ws e f = record {
  within = let h : j < length ws = f.within in omega arith;
  value = λ d. ap (λ b. if b then Some w.message else oldest ops ws) e ∙ f.value d;
  rest = ap (λ b. if b then ws else w ∷ without_oldest ops ws) e ∙ ap (λ l. w ∷ l) f.rest;
}

-- what a search that counts from i on finds is i places further on
found_from : (ops : List ℕ) (i k : ℕ) (box : List Waiting) → Some k ≡ position_from (is_of ops) i box
    → (j : ℕ) × ((k ≡ i + j) × Found ops j box)
found_from ops i k [] e = absurd (false≢true (sym (ap is_some e)))
found_from ops i k (w ∷ ws) e = go (is_of ops w) refl e (found_from ops (i + 1) k ws)
  where
    go : (b : Bool) → is_of ops w ≡ b → Some k ≡ cond b (Some i) (position_from (is_of ops) (i + 1) ws)
        → (Some k ≡ position_from (is_of ops) (i + 1) ws → (j : ℕ) × ((k ≡ i + 1 + j) × Found ops j ws))
        → (j : ℕ) × ((k ≡ i + j) × Found ops j (w ∷ ws))
    go true h f later = let s : k ≡ i = ap (λ o. unwrap_or o 0) f in (zero, (omega arith, found_first ops w ws h))
    go false h f later =
        let s : k ≡ i + 1 + (later f).0 = (later f).1.0 in
        let t : k ≡ i + suc (later f).0 = omega arith in
        (suc (later f).0, (t, found_later ops (later f).0 w ws h (later f).1.1))

-- the place that a search finds
pub found : (ops : List ℕ) (k : ℕ) (box : List Waiting) → Some k ≡ position_from (is_of ops) 0 box → Found ops k box
found ops k box e =
    let from = found_from ops 0 k box e in
    let s : k ≡ 0 + from.0 = from.1.0 in
    let t : from.0 ≡ k = omega arith in
    subst (λ j. Found ops j box) t from.1.1

-- a search that finds nothing
missing_from : (ops : List ℕ) (i : ℕ) (box : List Waiting) → None ≡ position_from (is_of ops) i box
    → (None ≡ oldest ops box) × (box ≡ without_oldest ops box)
missing_from ops i [] e = (refl, refl)
missing_from ops i (w ∷ ws) e = go (is_of ops w) e (missing_from ops (i + 1) ws)
  where
    go : (b : Bool) → None ≡ cond b (Some i) (position_from (is_of ops) (i + 1) ws)
        → (None ≡ position_from (is_of ops) (i + 1) ws → (None ≡ oldest ops ws) × (ws ≡ without_oldest ops ws))
        → (None ≡ (if b then Some w.message else oldest ops ws)) × (w ∷ ws ≡ (if b then ws else w ∷ without_oldest ops ws))
    go true f rest = absurd (false≢true (ap is_some f))
    go false f rest = ((rest f).0, ap (λ l. w ∷ l) (rest f).1)

pub none_oldest : (ops : List ℕ) (box : List Waiting) → None ≡ position_from (is_of ops) 0 box → None ≡ oldest ops box
none_oldest ops box e = (missing_from ops 0 box e).0

pub none_without : (ops : List ℕ) (box : List Waiting) → None ≡ position_from (is_of ops) 0 box → box ≡ without_oldest ops box
none_without ops box e = (missing_from ops 0 box e).1

use Rattle.std.proofs.Common.{◌≡◌, ℕ, zero, suc, ◌+◌, ◌<◌, ◌≤◌, Bool, List, [], ◌∷◌, ◌++◌, map, length, take, drop, get_or, refl, sym, ◌∙◌, ap, subst, add-one, rules, append_assoc, Some, None}
use Rattle.std.proofs.lemmas.Option.{slice_get-map, slice_get_past, slice_get_read, none-some, same_Some}
use Rattle.std.specs.Prelude.{slice_get, if◌then◌else◌}
use Rattle.behaviour_tree.specs.Data.{PortPart}
use Rattle.behaviour_tree.specs.PartsView.{port_view}
use Rattle.behaviour_tree.specs.declared.program.Port.{Port}
use Rattle.behaviour_tree.specs.Operations.{inputs_of, inputs_at, is_among, mentions, passed, coming, rest_from}

drop-none : {A : Type 0} (xs : List A) (j : ℕ) → slice_get xs j ≡ None → drop j xs ≡ []
drop-none [] zero e = refl
drop-none [] (suc j) e = refl
drop-none (x ∷ xs) zero e = absurd (none-some x (sym e))
drop-none (x ∷ xs) (suc j) e = drop-none xs j e

drop-none-suc : {A : Type 0} (xs : List A) (j : ℕ) → slice_get xs j ≡ None → drop (suc j) xs ≡ []
drop-none-suc [] j e = refl
drop-none-suc (x ∷ xs) zero e = absurd (none-some x (sym e))
drop-none-suc (x ∷ xs) (suc j) e = drop-none-suc xs j e

take-none : {A : Type 0} (xs : List A) (j : ℕ) → slice_get xs j ≡ None → take j xs ≡ xs
take-none [] zero e = refl
take-none [] (suc j) e = refl
take-none (x ∷ xs) zero e = absurd (none-some x (sym e))
take-none (x ∷ xs) (suc j) e = ap (λ ys. x ∷ ys) (take-none xs j e)

drop-some : {A : Type 0} (xs : List A) (j : ℕ) (y : A) → slice_get xs j ≡ Some y → drop j xs ≡ y ∷ drop (suc j) xs
drop-some [] j y e = absurd (none-some y e)
drop-some (x ∷ xs) zero y e = ap (λ v. v ∷ xs) (same_Some x y e)
drop-some (x ∷ xs) (suc j) y e = drop-some xs j y e

take-some : {A : Type 0} (xs : List A) (j : ℕ) (y : A) → slice_get xs j ≡ Some y → take (suc j) xs ≡ take j xs ++ y ∷ []
take-some [] j y e = absurd (none-some y e)
take-some (x ∷ xs) zero y e = ap (λ v. v ∷ []) (same_Some x y e)
take-some (x ∷ xs) (suc j) y e = ap (λ ys. x ∷ ys) (take-some xs j y e)

take-map : {A B : Type 0} (f : A → B) (xs : List A) (i : ℕ) → take i (map f xs) ≡ map f (take i xs)
take-map f [] zero = refl
take-map f [] (suc i) = refl
take-map f (x ∷ xs) zero = refl
take-map f (x ∷ xs) (suc i) = ap (λ ys. f x ∷ ys) (take-map f xs i)

-- what the ports from a place on mention is what the first of them does, and then the others
mentions-drop : (ports : List PortPart) (i : ℕ) → mentions (drop i ports) ≡ inputs_at ports i ++ mentions (drop (suc i) ports)
mentions-drop [] zero = refl
mentions-drop [] (suc i) = refl
mentions-drop (p ∷ ps) zero = refl
mentions-drop (p ∷ ps) (suc i) = mentions-drop ps i

-- what the ports up to a place mention
mentions-take : (ports : List PortPart) (i : ℕ) → mentions (take (suc i) ports) ≡ mentions (take i ports) ++ inputs_at ports i
mentions-take [] zero = refl
mentions-take [] (suc i) = refl
mentions-take (p ∷ ps) zero = search rules
mentions-take (p ∷ ps) (suc i) = ap (λ ns. inputs_of p ++ ns) (mentions-take ps i) ∙ sym (append_assoc (inputs_of p) (mentions (take i ps)) (inputs_at ps i))

-- behind the last interface of a port stands the first of the next
coming-next : (ports : List PortPart) (i j : ℕ) → slice_get (inputs_at ports i) j ≡ None → coming ports i j ≡ coming ports (suc i) 0
coming-next ports i j e = rw (drop-none (inputs_at ports i) j e, add-one i, add-one (suc i)) (mentions-drop ports (suc i))

passed-next : (ports : List PortPart) (i j : ℕ) → slice_get (inputs_at ports i) j ≡ None → passed ports i j ≡ passed ports (suc i) 0
passed-next ports i j e = rw (take-none (inputs_at ports i) j e, mentions-take ports i) (search rules)

rest-next : (ports : List PortPart) (i j : ℕ) → slice_get (inputs_at ports i) j ≡ None → rest_from ports i j ≡ rest_from ports (suc i) 0
rest-next ports i j e = rw (coming-next ports i j e, passed-next ports i j e) refl

-- the next interface of a port comes if it is new
coming-further : (ports : List PortPart) (i j n : ℕ) → slice_get (inputs_at ports i) j ≡ Some n → coming ports i j ≡ n ∷ coming ports i (suc j)
coming-further ports i j n e = rw (drop-some (inputs_at ports i) j n e) refl

passed-further : (ports : List PortPart) (i j n : ℕ) → slice_get (inputs_at ports i) j ≡ Some n → passed ports i (suc j) ≡ passed ports i j ++ n ∷ []
passed-further ports i j n e = rw (take-some (inputs_at ports i) j n e) (sym (append_assoc (mentions (take i ports)) (take j (inputs_at ports i)) (n ∷ [])))

rest-further : (ports : List PortPart) (i j n : ℕ) → slice_get (inputs_at ports i) j ≡ Some n → rest_from ports i j ≡ (if is_among (passed ports i j) n then [] else n ∷ []) ++ rest_from ports i (suc j)
rest-further ports i j n e = rw (coming-further ports i j n e, passed-further ports i j n e) refl

-- the interfaces of a port at hand
inputs-at : (ports : List Port) (i : ℕ) (p : Port) → slice_get ports i ≡ Some p → inputs_at (map port_view ports) i ≡ inputs_of (port_view p)
inputs-at ports i p e = rw (slice_get-map port_view ports i, e) refl

-- nothing comes behind the last port
pub rest-end : (ports : List Port) (i j : ℕ) → slice_get ports i ≡ None → rest_from (map port_view ports) i j ≡ []
rest-end ports i j e =
    let none : slice_get (map port_view ports) i ≡ None = rw (slice_get-map port_view ports i, e) refl in
    rw (none, drop-none [] j refl, add-one i, drop-none-suc (map port_view ports) i none) refl

-- where a port has no further interface the walk goes on with the next port
pub coming-at_end : (ports : List Port) (i j : ℕ) (p : Port) → slice_get ports i ≡ Some p → slice_get (inputs_of (port_view p)) j ≡ None → coming (map port_view ports) i j ≡ coming (map port_view ports) (i + 1) 0
coming-at_end ports i j p at e =
    let P : ℕ → Type 0 = λ k. coming (map port_view ports) i j ≡ coming (map port_view ports) k 0 in
    subst P (sym (add-one i)) (coming-next (map port_view ports) i j (rw (inputs-at ports i p at) e))

pub rest-at_end : (ports : List Port) (i j : ℕ) (p : Port) → slice_get ports i ≡ Some p → slice_get (inputs_of (port_view p)) j ≡ None → rest_from (map port_view ports) i j ≡ rest_from (map port_view ports) (i + 1) 0
rest-at_end ports i j p at e =
    let P : ℕ → Type 0 = λ k. rest_from (map port_view ports) i j ≡ rest_from (map port_view ports) k 0 in
    subst P (sym (add-one i)) (rest-next (map port_view ports) i j (rw (inputs-at ports i p at) e))

-- a further interface of a port comes next, unless it was mentioned before
pub coming-at_more : (ports : List Port) (i j n : ℕ) (p : Port) → slice_get ports i ≡ Some p → slice_get (inputs_of (port_view p)) j ≡ Some n → coming (map port_view ports) i j ≡ n ∷ coming (map port_view ports) i (j + 1)
coming-at_more ports i j n p at e = rw (add-one j) (coming-further (map port_view ports) i j n (rw (inputs-at ports i p at) e))

pub rest-at_more : (ports : List Port) (i j n : ℕ) (p : Port) (repeated : Bool) → slice_get ports i ≡ Some p → slice_get (inputs_of (port_view p)) j ≡ Some n → repeated ≡ is_among (mentions (map port_view (take i ports)) ++ take j (inputs_of (port_view p))) n → rest_from (map port_view ports) i j ≡ (if repeated then [] else n ∷ []) ++ rest_from (map port_view ports) i (j + 1)
rest-at_more ports i j n p repeated at e r =
    let before : passed (map port_view ports) i j ≡ mentions (map port_view (take i ports)) ++ take j (inputs_of (port_view p)) = rw (take-map port_view ports i, inputs-at ports i p at) refl in
    rw (r, sym before, add-one j) (rest-further (map port_view ports) i j n (rw (inputs-at ports i p at) e))

-- what a read of the interfaces of a port says
pub inputs-none : (p : Port) (j : ℕ) (xs : List ℕ) → xs ≡ inputs_of (port_view p) → length xs ≤ j → slice_get (inputs_of (port_view p)) j ≡ None
inputs-none p j xs e le =
    let P : List ℕ → Type 0 = λ ys. slice_get ys j ≡ None in
    subst P e (slice_get_past xs j le)

pub inputs-some : (p : Port) (j n : ℕ) (xs : List ℕ) → xs ≡ inputs_of (port_view p) → j < length xs → n ≡ get_or xs j n → slice_get (inputs_of (port_view p)) j ≡ Some n
inputs-some p j n xs e lt is =
    let P : List ℕ → Type 0 = λ ys. slice_get ys j ≡ Some n in
    subst P e (slice_get_read xs (length xs) j n refl lt is)

pub inputs-repeated : (p : Port) (before : List ℕ) (j n : ℕ) (xs : List ℕ) (b : Bool) → xs ≡ inputs_of (port_view p) → b ≡ is_among (before ++ take j xs) n → b ≡ is_among (before ++ take j (inputs_of (port_view p))) n
inputs-repeated p before j n xs b e is =
    let P : List ℕ → Type 0 = λ ys. b ≡ is_among (before ++ take j ys) n in
    subst P e is

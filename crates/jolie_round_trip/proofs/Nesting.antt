-- What derives with some nesting derives with more, and phrases of whatever nesting.
use Rattle.std.proofs.Common.{◌≡◌, ℕ, zero, suc, ◌≤◌, inl, inr, ◌+◌, List, [], ◌∷◌, ◌++◌, arith}
use Rattle.jolie_parse.specs.Classes.{Spelled}
use Rattle.jolie_parse.specs.Syntax.{Syn, token, give, both, either, many, means, inside, prefix, Part, Meant, Lang, Derives, Many}
use Rattle.jolie_parse.specs.Grammar.{production, Allowed}
use Rattle.jolie_parse.proofs.Unique.{Derives_more}

Allowed_more : (n m : ℕ) → n ≤ m → (r : Part) (ts : List Spelled) (v : Meant r) → Allowed n r ts v → Allowed m r ts v
Allowed_more zero m le r ts v d = absurd d
Allowed_more (suc n) zero le r ts v d = let never : ⊥ = omega arith in absurd never
Allowed_more (suc n) (suc m) le r ts v d = Derives_more (Allowed n) (Allowed m) (Allowed_more n m (omega arith)) (production r) ts v d

-- what derives with some nesting derives with more
pub nests_more : {A : Type 0} (n m : ℕ) (s : Syn A) → n ≤ m → (ts : List Spelled) (v : A) → Derives (Allowed n) s ts v → Derives (Allowed m) s ts v
nests_more n m s le ts v d = Derives_more (Allowed n) (Allowed m) (Allowed_more n m le) s ts v d

-- ---- of whatever nesting

-- what stands a level further in, of whatever nesting
abbrev pub Nested : (r : Part) → Lang (Meant r)
Nested r ts v = (n : ℕ) × Allowed n r ts v

-- of some nesting that serves for all of it
abbrev pub Bounded : {A : Type 0} → Syn A → Lang A
Bounded s ts v = (n : ℕ) × Derives (Allowed n) s ts v

many_bounded : {A : Type 0} (s : Syn A) → ((ts : List Spelled) (v : A) → Derives Nested s ts v → Bounded s ts v) → (ts : List Spelled) (vs : List A) → Many (Derives Nested s) ts vs → Bounded (many s) ts vs
many_bounded s h ts [] d = (0, d)
many_bounded s h ts (v ∷ vs) d =
    let a = h d.0 v d.3 in
    let b = many_bounded s h d.1 vs d.4 in
    (a.0 + b.0, (d.0, d.1, d.2, nests_more a.0 (a.0 + b.0) s (omega arith) d.0 v a.1, nests_more b.0 (a.0 + b.0) (many s) (omega arith) d.1 vs b.1))

both_bounded : {A B : Type 0} (s : Syn A) (t : Syn B) (x y : List Spelled) (v : A × B) (ts : List Spelled) → ts ≡ x ++ y → Bounded s x v.0 → Bounded t y v.1 → Bounded (both s t) ts v
both_bounded s t x y v ts e a b =
    (a.0 + b.0, (x, y, e, nests_more a.0 (a.0 + b.0) s (omega arith) x v.0 a.1, nests_more b.0 (a.0 + b.0) t (omega arith) y v.1 b.1))

either_left : {A : Type 0} (s t : Syn A) (ts : List Spelled) (v : A) → Bounded s ts v → Bounded (either s t) ts v
either_left s t ts v a = (a.0, inl a.1)

either_right : {A : Type 0} (s t : Syn A) (ts : List Spelled) (v : A) → Bounded t ts v → Bounded (either s t) ts v
either_right s t ts v a = (a.0, inr a.1)

-- a phrase of whatever nesting has a greatest nesting
pub bounded : {A : Type 0} (s : Syn A) (ts : List Spelled) (v : A) → Derives Nested s ts v → Bounded s ts v
bounded (token ks) ts v d = (0, d)
bounded (give a) ts v d = (0, d)
bounded (both s t) ts v d = both_bounded s t d.0 d.1 v ts d.2 (bounded s d.0 v.0 d.3) (bounded t d.1 v.1 d.4)
bounded (either s t) ts v d = elim d [ inl h ↦ either_left s t ts v (bounded s ts v h) | inr h ↦ either_right s t ts v (bounded t ts v h) ]
bounded (many s) ts v d = many_bounded s (bounded s) ts v d
bounded (means f s) ts v d = let a = bounded s ts d.0 d.2 in (a.0, (d.0, d.1, a.1))
bounded (inside o r c) ts v d = (d.5.0, (d.0, d.1, d.2, d.3, d.4, d.5.1))
bounded (prefix ks r) ts v d = (d.3.0, (d.0, d.1, d.2, d.3.1))

-- what derives is a part
pub nested : (r : Part) (ts : List Spelled) (v : Meant r) → Derives Nested (production r) ts v → Nested r ts v
nested r ts v d = let a = bounded (production r) ts v d in (suc a.0, a.1)

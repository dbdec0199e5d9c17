-- Reading what stands in brackets and behind prefixes.
use Rattle.std.proofs.Common.{◌≡◌, ℕ, zero, suc, ◌<◌, ◌-◌, Bool, true, false, List, [], ◌∷◌, Result, refl, ap, arith, if◌then◌else◌}
use Rattle.jolie_parse.specs.declared.class.Class.{Class}
use Rattle.jolie_parse.specs.declared.stop.Stop.{Stop}
use Rattle.jolie_parse.specs.declared.stop.Stop.TheVariants.{Syntax, TooDeep, Memory}
use Rattle.jolie_parse.specs.Classes.{Spelled, begins, open_brackets}
use Rattle.jolie_parse.specs.Syntax.{Part, Meant, inside, prefix, between}
use Rattle.jolie_parse.specs.Factored.{rule}
use Rattle.jolie_parse.specs.Reading.{Outcome, got, refused, too_deep, and_then, take_token, deepen, read}
use Rattle.jolie_parse.specs.Reads.{Reads, Stops, opening_token, closing}
use Rattle.jolie_parse.proofs.Lists.{stops_then}

none_joined : {A B : Type 0} (b : Bool) (q : List Spelled) (f : A → List Spelled → Outcome B) → (if b then too_deep q else refused q) ≡ and_then (if b then too_deep q else refused q) f
none_joined true q f = refl
none_joined false q f = refl

refusal_joined : {A B : Type 0} (n : ℕ) (q : List Spelled) (f : A → List Spelled → Outcome B) → deepen (refused q) n ≡ and_then (deepen (refused q) n) f
refusal_joined zero q f = none_joined (begins open_brackets q) q f
refusal_joined (suc n) q f = refl

close_joined : {A : Type 0} (o : Outcome Spelled) (n : ℕ) (t : Spelled) (v : A) → deepen {A = Spelled × A} (and_then o (λ _ r. got (t, v) r)) n ≡ and_then (deepen (and_then o (λ _ r. got v r)) n) (λ w r. got (t, w) r)
close_joined (got u q) n t v = refl
close_joined (refused q) n t v = refusal_joined n q (λ w r. got (t, w) r)
close_joined (too_deep q) n t v = refl

-- what is read in a bracket is joined with the bracket's token
joined : {A : Type 0} (o : Outcome A) (c : Class) (n : ℕ) (t : Spelled)
    → deepen {A = Spelled × A} (and_then o (λ v r2. and_then (take_token (c ∷ []) r2) (λ _ r3. got (t, v) r3))) n ≡ and_then (closing o c n) (λ v r. got (t, v) r)
joined (got v r) c n t = close_joined (take_token (c ∷ []) r) n t v
joined (refused r) c n t = refusal_joined n r (λ v q. got (t, v) q)
joined (too_deep r) c n t = refl

no_level_stops : (A B : Type 0) (b : Bool) (ts q : List Spelled) (e : Stop) → Stops {A = A} (if b then too_deep ts else refused ts) e q → Stops {A = B} (if b then too_deep ts else refused ts) e q
no_level_stops A B true ts q Syntax h = cc
no_level_stops A B true ts q TooDeep h = let same : ts ≡ q = cc in ap too_deep same
no_level_stops A B false ts q Syntax h = let same : ts ≡ q = cc in ap refused same
no_level_stops A B false ts q TooDeep h = cc
no_level_stops A B b ts q (Memory a) h = tt

-- ---- brackets

module _ (o : Class) (r : Part) (c : Class) where
  pub opened_stops : (n : ℕ) (ts q : List Spelled) (e : Stop) → Stops (opening_token n (o ∷ []) ts) e q → Stops (read n (inside o r c) ts) e q
  opened_stops zero ts q e h = no_level_stops Spelled (Spelled × Meant r) (begins (o ∷ []) ts) ts q e h
  opened_stops (suc n) ts q e h = stops_then (take_token (o ∷ []) ts) _ e q h

  pub inside_by : (n m : ℕ) (ts r1 : List Spelled) (t : Spelled) → 0 < n → m ≡ n - 1 → opening_token n (o ∷ []) ts ≡ got t r1
      → read n (inside o r c) ts ≡ and_then (closing (read m (rule r) r1) c m) (λ v q. got (t, v) q)
  inside_by zero m ts r1 t z d h = let never : ⊥ = omega arith in absurd never
  inside_by (suc n) m ts r1 t z d h =
      let same : m ≡ n = omega arith in
      let h2 : take_token (o ∷ []) ts ≡ got t r1 = h in
      rw (same, h2) (joined (read n (rule r) r1) c n t)

  pub inside_stops : (n m : ℕ) (ts r1 r2 q : List Spelled) (t : Spelled) (part : Result (Meant r) Stop) (e : Stop) → 0 < n → m ≡ n - 1 → opening_token n (o ∷ []) ts ≡ got t r1
      → Reads (read m (rule r) r1) part r2 → ((x : Outcome (Meant r)) → Reads x part r2 → Stops (closing x c m) e q) → Stops (read n (inside o r c) ts) e q
  inside_stops n m ts r1 r2 q t part e z d h p k =
      rw (inside_by n m ts r1 t z d h) (stops_then (closing (read m (rule r) r1) c m) (λ v u. got (t, v) u) e q (k (read m (rule r) r1) p))

  pub inside_read : (n m : ℕ) (ts r1 r2 q : List Spelled) (t : Spelled) (part : Result (Meant r) Stop) (v : Meant r) → 0 < n → m ≡ n - 1 → opening_token n (o ∷ []) ts ≡ got t r1
      → Reads (read m (rule r) r1) part r2 → ((x : Outcome (Meant r)) → Reads x part r2 → closing x c m ≡ got v q) → read n (inside o r c) ts ≡ got (t, v) q
  inside_read n m ts r1 r2 q t part v z d h p k = rw (inside_by n m ts r1 t z d h, k (read m (rule r) r1) p) refl

  -- ---- the same where the brackets are not kept

  pub between_unopened : (n : ℕ) (ts q : List Spelled) (e : Stop) → Stops (opening_token n (o ∷ []) ts) e q → Stops (read n (between o r c) ts) e q
  between_unopened n ts q e h = stops_then (read n (inside o r c) ts) _ e q (opened_stops n ts q e h)

  unkept : (x : Outcome (Meant r)) (t : Spelled) → and_then (and_then x (λ v q. got (t, v) q)) (λ p q. let p : Spelled × Meant r = p in got p.1 q) ≡ x
  unkept (got v q) t = refl
  unkept (refused q) t = refl
  unkept (too_deep q) t = refl

  pub between_reads : (n m : ℕ) (ts r1 r2 q : List Spelled) (t : Spelled) (part result : Result (Meant r) Stop) → 0 < n → m ≡ n - 1 → opening_token n (o ∷ []) ts ≡ got t r1
      → Reads (read m (rule r) r1) part r2 → ((x : Outcome (Meant r)) → Reads x part r2 → Reads (closing x c m) result q) → Reads (read n (between o r c) ts) result q
  between_reads n m ts r1 r2 q t part result z d h p k =
      rw (inside_by n m ts r1 t z d h, unkept (closing (read m (rule r) r1) c m) t) (k (read m (rule r) r1) p)

-- ---- prefixes

module _ (ks : List Class) (r : Part) where
  pub prefix_unopened : (n : ℕ) (ts q : List Spelled) (e : Stop) → Stops (opening_token n ks ts) e q → Stops (read n (prefix ks r) ts) e q
  prefix_unopened zero ts q e h = no_level_stops Spelled (Spelled × Meant r) (begins ks ts) ts q e h
  prefix_unopened (suc n) ts q e h = stops_then (take_token ks ts) _ e q h

  pub prefix_stops : (n m : ℕ) (ts r1 q : List Spelled) (t : Spelled) (e : Stop) → 0 < n → m ≡ n - 1 → opening_token n ks ts ≡ got t r1 → Stops (read m (rule r) r1) e q → Stops (read n (prefix ks r) ts) e q
  prefix_stops zero m ts r1 q t e z d h g = let never : ⊥ = omega arith in absurd never
  prefix_stops (suc n) m ts r1 q t e z d h g =
      let same : m ≡ n = omega arith in
      let h2 : take_token ks ts ≡ got t r1 = h in
      rw h2 (stops_then (read n (rule r) r1) _ e q (rw same at g))

  pub prefix_read : (n m : ℕ) (ts r1 r2 : List Spelled) (t : Spelled) (v : Meant r) → 0 < n → m ≡ n - 1 → opening_token n ks ts ≡ got t r1 → read m (rule r) r1 ≡ got v r2 → read n (prefix ks r) ts ≡ got (t, v) r2
  prefix_read zero m ts r1 r2 t v z d h g = let never : ⊥ = omega arith in absurd never
  prefix_read (suc n) m ts r1 r2 t v z d h g =
      let same : m ≡ n = omega arith in
      let h2 : take_token ks ts ≡ got t r1 = h in
      let g2 : read n (rule r) r1 ≡ got v r2 = rw same at g in
      rw (h2, g2) refl

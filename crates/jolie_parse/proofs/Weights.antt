-- Phrases have at least as many tokens as their meanings weigh, where what stands a level further in has.
use Rattle.std.proofs.Common.{◌≡◌, ℕ, ◌+◌, ◌≤◌, inl, inr, List, [], ◌∷◌, length, ap, subst, arith, length-append, sum_by, Some, None}
use Rattle.std.specs.Prelude.{option_map}
use Rattle.std.proofs.lemmas.List.Sums.{sum_by-cons}
use Rattle.jolie_ast.specs.Members.{optional_count}
use Rattle.jolie_parse.specs.declared.class.Class.{Class}
use Rattle.jolie_parse.specs.Classes.{Spelled}
use Rattle.jolie_parse.specs.Syntax.{Part, Meant, Syn, token, give, both, either, many, means, inside, prefix, Lang, Derives, behind, separated, some_of, optional, between}

module _ (w : (r : Part) → Lang (Meant r)) where
  -- each phrase has at least as many tokens as its meaning weighs
  abbrev pub Weighs : {A : Type 0} → Syn A → (A → ℕ) → Type 0
  Weighs {A} s m = (ts : List Spelled) (v : A) → Derives w s ts v → m v ≤ length ts

  pub nothing_weighs : {A : Type 0} (s : Syn A) → Weighs s (λ _. 0)
  nothing_weighs s ts v d = omega arith

  pub less_weighs : {A : Type 0} (s : Syn A) (m n : A → ℕ) → Weighs s m → ((v : A) → n v ≤ m v) → Weighs s n
  less_weighs s m n h g ts v d = omega (arith, h ts v d, g v)

  pub token_weighs : (ks : List Class) → Weighs (token ks) (λ _. 1)
  token_weighs ks ts v d = omega (arith, ap length d.1)

  pub give_weighs : {A : Type 0} (a : A) (n : A → ℕ) → n a ≡ 0 → Weighs (give a) n
  give_weighs a n h ts v d = let k : n v ≡ 0 = subst (λ z. n z ≡ 0) d.1 h in omega arith

  pub both_weighs : {A B : Type 0} (s : Syn A) (t : Syn B) (m : A → ℕ) (n : B → ℕ) → Weighs s m → Weighs t n → Weighs (both s t) (λ q. m q.0 + n q.1)
  both_weighs s t m n h g ts v d = omega (arith, h d.0 v.0 d.3, g d.1 v.1 d.4, ap length d.2, length-append d.0 d.1)

  pub either_weighs : {A : Type 0} (s t : Syn A) (n : A → ℕ) → Weighs s n → Weighs t n → Weighs (either s t) n
  either_weighs s t n h g ts v d = elim d [ inl e ↦ h ts v e | inr e ↦ g ts v e ]

  pub many_weighs : {A : Type 0} (s : Syn A) (m : A → ℕ) → Weighs s m → Weighs (many s) (sum_by m)
  many_weighs s m h ts [] d = omega arith
  many_weighs s m h ts (v ∷ vs) d =
      omega (arith, h d.0 v d.3, many_weighs s m h d.1 vs d.4, ap length d.2, length-append d.0 d.1, sum_by-cons m v vs)

  pub means_weighs : {A B : Type 0} (s : Syn A) (f : A → B) (m : A → ℕ) (n : B → ℕ) → Weighs s m → ((a : A) → n (f a) ≤ m a) → Weighs (means f s) n
  means_weighs s f m n h g ts v d =
      let k : n (f d.0) ≤ length ts = omega (arith, h ts d.0 d.2, g d.0) in
      subst (λ z. n z ≤ length ts) d.1 k

  -- ---- the forms that grammars are made of

  -- a token before a phrase
  pub led_weighs : {B : Type 0} (ks : List Class) (t : Syn B) (n : B → ℕ) → Weighs t n → Weighs (both (token ks) t) (λ q. n q.1 + 1)
  led_weighs ks t n h ts v d = omega (arith, both_weighs (token ks) t (λ _. 1) n (token_weighs ks) h ts v d)

  pub behind_weighs : {A : Type 0} (k : Class) (s : Syn A) (m : A → ℕ) → Weighs s m → Weighs (behind k s) (λ v. m v + 1)
  behind_weighs k s m h =
      means_weighs (both (token (k ∷ [])) s) (λ q. q.1) (λ q. m q.1 + 1) (λ v. m v + 1) (led_weighs (k ∷ []) s m h) (λ q. omega arith)

  -- a list of one or more: the first weighs m, and each further one a token more
  pub separated_weighs : {A : Type 0} (k : Class) (s : Syn A) (m : A → ℕ) (n : List A → ℕ) → Weighs s m
      → ((v : A) (vs : List A) → n (v ∷ vs) ≤ m v + sum_by (λ z. m z + 1) vs) → Weighs (separated k s) n
  separated_weighs k s m n h g =
      means_weighs (both s (many (behind k s))) (λ q. q.0 ∷ q.1) (λ q. m q.0 + sum_by (λ z. m z + 1) q.1) n
      (both_weighs s (many (behind k s)) m (sum_by (λ z. m z + 1)) h (many_weighs (behind k s) (λ z. m z + 1) (behind_weighs k s m h)))
      (λ q. g q.0 q.1)

  pub some_of_weighs : {A : Type 0} (s : Syn A) (m : A → ℕ) (n : List A → ℕ) → Weighs s m
      → ((v : A) (vs : List A) → n (v ∷ vs) ≤ m v + sum_by m vs) → Weighs (some_of s) n
  some_of_weighs s m n h g =
      means_weighs (both s (many s)) (λ q. q.0 ∷ q.1) (λ q. m q.0 + sum_by m q.1) n
      (both_weighs s (many s) m (sum_by m) h (many_weighs s m h)) (λ q. g q.0 q.1)

  pub optional_weighs : {A : Type 0} (s : Syn A) (m : A → ℕ) → Weighs s m → Weighs (optional s) (λ v. optional_count (option_map m v))
  optional_weighs s m h =
      either_weighs (means Some s) (give None) (λ v. optional_count (option_map m v))
      (means_weighs s Some m (λ v. optional_count (option_map m v)) h (λ v. omega arith))
      (give_weighs None (λ v. optional_count (option_map m v)) (omega arith))

  -- ---- a level further in

  module _ (m : (r : Part) → Meant r → ℕ) (h : (r : Part) (ts : List Spelled) (v : Meant r) → w r ts v → m r v ≤ length ts) where
    pub inside_weighs : (o : Class) (r : Part) (c : Class) → Weighs (inside o r c) (λ q. m r q.1 + 2)
    inside_weighs o r c ts v d = omega (arith, h r d.1 v.1 d.5, ap length d.4, length-append d.1 (d.0 ∷ []))

    pub between_weighs : (o : Class) (r : Part) (c : Class) → Weighs (between o r c) (m r)
    between_weighs o r c = means_weighs (inside o r c) (λ q. q.1) (λ q. m r q.1 + 2) (m r) (inside_weighs o r c) (λ q. omega arith)

    pub prefix_weighs : (ks : List Class) (r : Part) → Weighs (prefix ks r) (λ q. m r q.1 + 1)
    prefix_weighs ks r ts v d = omega (arith, h r d.0 v.1 d.3, ap length d.2)

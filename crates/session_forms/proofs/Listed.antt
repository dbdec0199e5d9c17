-- The strands that are listed for a form are those that stand in it.
use Rattle.std.proofs.Common.{◌≡◌, ℕ, zero, suc, ◌+◌, ◌<◌, Bool, true, false, ◌||◌, ◌⊎◌, inl, inr, List, [], ◌∷◌, ◌++◌, length, nat_eq, refl, sym, arith}
use Rattle.std.specs.List.{Contains}
use Rattle.std.proofs.lemmas.Bool.{false≢true, eqb-true, eq-eqb}
use Rattle.std.proofs.lemmas.List.Elements.{Contains-append_left, Contains-append_right, Contains-append_cases}
use Rattle.session_calculus.specs.Terms.{Term, Strands, done, place, thrown, seq, par, in_scope, exec, fail, wait, dead_wait, prot, no_strands, strand, stands_in, is_within, is_among}
use Rattle.session_forms.specs.Standing.{strands_in, strands_within, strands_among}

-- the first, and those behind it
first_there : (n m : ℕ) (ns : List ℕ) → n ≡ m → Contains (n ∷ ns) m
first_there n m ns e = (0, omega arith, e)

behind_there : (n m : ℕ) (ns : List ℕ) → Contains ns m → Contains (n ∷ ns) m
behind_there n m ns c = (suc c.0, omega (arith, c.1), c.2)

there_cases : (n m : ℕ) (ns : List ℕ) → Contains (n ∷ ns) m → (n ≡ m) ⊎ Contains ns m
there_cases n m ns (zero, lt, e) = inl e
there_cases n m ns (suc k, lt, e) = inr (k, omega (arith, lt), e)

none_there : (m : ℕ) → Contains [] m → ⊥
none_there m c = omega (arith, c.1)

-- one of two tests
either : (a b : Bool) → (a || b) ≡ true → (a ≡ true) ⊎ (b ≡ true)
either true b e = inl refl
either false b e = inr e

left_true : (a b : Bool) → a ≡ true → (a || b) ≡ true
left_true true b e = refl
left_true false b e = absurd (false≢true e)

right_true : (a b : Bool) → b ≡ true → (a || b) ≡ true
right_true true b e = refl
right_true false b e = e

-- a member, by its own number or by one in it
stands-listed : (n k : ℕ) (t : Term) → stands_in n k t ≡ true → (is_within n t ≡ true → Contains (strands_within t) n) → Contains (strands_in k t) n
stands-listed n k t h inner =
    elim (either (nat_eq n k) (is_within n t) h) [
      | inl e ↦ first_there k n (strands_within t) (sym (eqb-true n k e))
      | inr w ↦ behind_there k n (strands_within t) (inner w)
    ]

listed-stands : (n k : ℕ) (t : Term) → Contains (strands_in k t) n → (Contains (strands_within t) n → is_within n t ≡ true) → stands_in n k t ≡ true
listed-stands n k t c inner =
    elim (there_cases k n (strands_within t) c) [
      | inl e ↦ left_true (nat_eq n k) (is_within n t) (eq-eqb n k (sym e))
      | inr w ↦ right_true (nat_eq n k) (is_within n t) (inner w)
    ]

mutual
  within-listed : (n : ℕ) (t : Term) → is_within n t ≡ true → Contains (strands_within t) n
  within-listed n (seq t rest) h = within-listed n t h
  within-listed n (par ts) h = among-listed n ts h
  within-listed n (in_scope q t g u) h = within-listed n t h
  within-listed n (exec m o y t) h = within-listed n t h
  within-listed n (fail m f t) h = within-listed n t h
  within-listed n (prot t) h = within-listed n t h
  within-listed n t h = absurd (false≢true h)

  among-listed : (n : ℕ) (ts : Strands) → is_among n ts ≡ true → Contains (strands_among ts) n
  among-listed n no_strands h = absurd (false≢true h)
  among-listed n (strand k t ts) h =
      elim (either (stands_in n k t) (is_among n ts) h) [
        | inl a ↦ Contains-append_left (strands_in k t) (strands_among ts) n (stands-listed n k t a (within-listed n t))
        | inr b ↦ Contains-append_right (strands_in k t) (strands_among ts) n (among-listed n ts b)
      ]

mutual
  listed-within : (n : ℕ) (t : Term) → Contains (strands_within t) n → is_within n t ≡ true
  listed-within n (seq t rest) c = listed-within n t c
  listed-within n (par ts) c = listed-among n ts c
  listed-within n (in_scope q t g u) c = listed-within n t c
  listed-within n (exec m o y t) c = listed-within n t c
  listed-within n (fail m f t) c = listed-within n t c
  listed-within n (prot t) c = listed-within n t c
  listed-within n t c = absurd (none_there n c)

  listed-among : (n : ℕ) (ts : Strands) → Contains (strands_among ts) n → is_among n ts ≡ true
  listed-among n no_strands c = absurd (none_there n c)
  listed-among n (strand k t ts) c =
      elim (Contains-append_cases (strands_in k t) (strands_among ts) n c) [
        | inl a ↦ left_true (stands_in n k t) (is_among n ts) (listed-stands n k t a (listed-within n t))
        | inr b ↦ right_true (stands_in n k t) (is_among n ts) (listed-among n ts b)
      ]

-- the strands that are listed stand there, and no others
pub listed : (n k : ℕ) (t : Term) → (stands_in n k t ≡ true → Contains (strands_in k t) n) × (Contains (strands_in k t) n → stands_in n k t ≡ true)
listed n k t = (λ h. stands-listed n k t h (within-listed n t), λ c. listed-stands n k t c (listed-within n t))

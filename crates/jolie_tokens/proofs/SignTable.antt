-- Signs: the table is whole and has the longest first.
use Rattle.std.proofs.Common.{◌≡◌, ℕ, zero, suc, ◌<◌, ◌≤◌, ◌≢◌, Bool, true, false, cond, ◌&&◌, leb, ◌⊎◌, inl, inr, ⊎_elim, List, [], ◌∷◌, ◌++◌, length, take, drop, refl, sym, ap, subst, ◌∙◌, arith, Option, None, Some, nat_eq}
use Rattle.std.specs.List.{find, starts_with}
use Rattle.std.proofs.lemmas.Bool.Decides.{nat_tests}
use Rattle.std.proofs.lemmas.List.{take-append-drop}
use Rattle.std.proofs.lemmas.Slice.Eq.{bytes_eq-Decides}
use Rattle.std.proofs.Math.Seq.{take-append_seam}
use Rattle.jolie_tokens.specs.declared.sign.Sign.{Sign}
use Rattle.jolie_tokens.specs.declared.sign.Sign.TheVariants as sign
use Rattle.jolie_tokens.specs.declared.sign.TheConstants.{SIGNS}
use Rattle.jolie_tokens.specs.Signs.{sign_bytes, sign_at, IsLongest}

-- a sign stands in a list
data IsIn (s : Sign) : List Sign → Type 0 where
  here : (ss : List Sign) → IsIn s (s ∷ ss)
  there : (t : Sign) (ss : List Sign) → IsIn s ss → IsIn s (t ∷ ss)

abbrev nth : ℕ → List Sign → Option Sign
nth n [] = None
nth zero (s ∷ ss) = Some s
nth (suc n) (s ∷ ss) = nth n ss

in_at : (n : ℕ) (ss : List Sign) (s : Sign) → nth n ss ≡ Some s → IsIn s ss
in_at n [] s e = absurd cc
in_at zero (t ∷ ss) s e = let same : t ≡ s = cc in subst (λ x. IsIn s (x ∷ ss)) (sym same) (here ss)
in_at (suc n) (t ∷ ss) s e = there t ss (in_at n ss s e)

-- each sign stands in the table
in_table : (s : Sign) → IsIn s SIGNS
in_table sign.Arrow = in_at 0 SIGNS sign.Arrow refl
in_table sign.Equal = in_at 1 SIGNS sign.Equal refl
in_table sign.NotEqual = in_at 2 SIGNS sign.NotEqual refl
in_table sign.AtMost = in_at 3 SIGNS sign.AtMost refl
in_table sign.AtLeast = in_at 4 SIGNS sign.AtLeast refl
in_table sign.DeepAssign = in_at 5 SIGNS sign.DeepAssign refl
in_table sign.Increment = in_at 6 SIGNS sign.Increment refl
in_table sign.Decrement = in_at 7 SIGNS sign.Decrement refl
in_table sign.And = in_at 8 SIGNS sign.And refl
in_table sign.Or = in_at 9 SIGNS sign.Or refl
in_table sign.OpenBrace = in_at 10 SIGNS sign.OpenBrace refl
in_table sign.CloseBrace = in_at 11 SIGNS sign.CloseBrace refl
in_table sign.OpenParen = in_at 12 SIGNS sign.OpenParen refl
in_table sign.CloseParen = in_at 13 SIGNS sign.CloseParen refl
in_table sign.OpenBracket = in_at 14 SIGNS sign.OpenBracket refl
in_table sign.CloseBracket = in_at 15 SIGNS sign.CloseBracket refl
in_table sign.Comma = in_at 16 SIGNS sign.Comma refl
in_table sign.Semicolon = in_at 17 SIGNS sign.Semicolon refl
in_table sign.Colon = in_at 18 SIGNS sign.Colon refl
in_table sign.Dot = in_at 19 SIGNS sign.Dot refl
in_table sign.Bar = in_at 20 SIGNS sign.Bar refl
in_table sign.Assign = in_at 21 SIGNS sign.Assign refl
in_table sign.Less = in_at 22 SIGNS sign.Less refl
in_table sign.Greater = in_at 23 SIGNS sign.Greater refl
in_table sign.Plus = in_at 24 SIGNS sign.Plus refl
in_table sign.Minus = in_at 25 SIGNS sign.Minus refl
in_table sign.Star = in_at 26 SIGNS sign.Star refl
in_table sign.Slash = in_at 27 SIGNS sign.Slash refl
in_table sign.Percent = in_at 28 SIGNS sign.Percent refl
in_table sign.Not = in_at 29 SIGNS sign.Not refl
in_table sign.Hash = in_at 30 SIGNS sign.Hash refl
in_table sign.At = in_at 31 SIGNS sign.At refl
in_table sign.Question = in_at 32 SIGNS sign.Question refl

-- no sign of a list is longer than n or than one before it
abbrev falls : List Sign → ℕ → Bool
falls [] n = true
falls (s ∷ ss) n = leb (length (sign_bytes s)) n && falls ss (length (sign_bytes s))

table_falls : falls SIGNS 2 ≡ true
table_falls = refl

both_true : (a b : Bool) → a && b ≡ true → (a ≡ true) × (b ≡ true)
both_true true b e = (refl, e)
both_true false b e = absurd cc

leb_is : (a b : ℕ) → leb a b ≡ true → a ≤ b
leb_is a b e = grind (arith, nat_tests)

-- whether a sign is the head of a list or behind it
in_cases : (s t : Sign) (ss : List Sign) → IsIn s (t ∷ ss) → (s ≡ t) ⊎ IsIn s ss
in_cases s t ss (here us) = inl refl
in_cases s t ss (there u us i) = inr i

in_nothing : (s : Sign) → IsIn s [] → ⊥
in_nothing s i = elim i [ ]

bounded : (n : ℕ) (t : Sign) (ss : List Sign) → IsIn t ss → falls ss n ≡ true → length (sign_bytes t) ≤ n
bounded n t [] i f = absurd (in_nothing t i)
bounded n t (s ∷ ss) i f =
    let both = both_true (leb (length (sign_bytes s)) n) (falls ss (length (sign_bytes s))) f in
    let le : length (sign_bytes s) ≤ n = leb_is (length (sign_bytes s)) n both.0 in
    ⊎_elim (λ e. rw e le) (λ rest. let low = bounded (length (sign_bytes s)) t ss rest both.1 in omega arith) (in_cases t s ss i)

-- the first that passes is the longest that does
first_longest : (p : Sign → Bool) (ss : List Sign) (n : ℕ) (s t : Sign) → falls ss n ≡ true → find p ss ≡ Some s → IsIn t ss → p t ≡ true → length (sign_bytes t) ≤ length (sign_bytes s)
first_longest p [] n s t f e i h = absurd (in_nothing t i)
first_longest p (u ∷ ss) n s t f e i h = by (p u) refl e (λ f' e' i'. first_longest p ss (length (sign_bytes u)) s t f' e' i' h)
  where
    by : (b : Bool) → p u ≡ b → cond b (Some u) (find p ss) ≡ Some s → (falls ss (length (sign_bytes u)) ≡ true → find p ss ≡ Some s → IsIn t ss → length (sign_bytes t) ≤ length (sign_bytes s)) → length (sign_bytes t) ≤ length (sign_bytes s)
    by true pu found on =
        let same : u ≡ s = cc in
        ⊎_elim (λ q. let long : length (sign_bytes t) ≡ length (sign_bytes s) = ap (λ x. length (sign_bytes x)) (q ∙ same) in omega arith) (λ rest. subst (λ x. length (sign_bytes t) ≤ length (sign_bytes x)) same (bounded (length (sign_bytes u)) t ss rest (both_true (leb (length (sign_bytes u)) n) (falls ss (length (sign_bytes u))) f).1)) (in_cases t u ss i)
    by false pu found on = ⊎_elim (λ q. let never : p t ≡ false = ap p q ∙ pu in absurd cc) (λ rest. on (both_true (leb (length (sign_bytes u)) n) (falls ss (length (sign_bytes u))) f).1 found rest) (in_cases t u ss i)

first_passes : (p : Sign → Bool) (ss : List Sign) (s : Sign) → find p ss ≡ Some s → p s ≡ true
first_passes p [] s e = absurd cc
first_passes p (u ∷ ss) s e = by (p u) refl e (first_passes p ss s)
  where
    by : (b : Bool) → p u ≡ b → cond b (Some u) (find p ss) ≡ Some s → (find p ss ≡ Some s → p s ≡ true) → p s ≡ true
    by true pu found on = let same : u ≡ s = cc in subst (λ x. p x ≡ true) same pu
    by false pu found on = on found

first_some : (p : Sign → Bool) (ss : List Sign) (t : Sign) → IsIn t ss → p t ≡ true → find p ss ≡ None → ⊥
first_some p [] t i h e = in_nothing t i
first_some p (u ∷ ss) t i h e = by (p u) refl e (λ i' e'. first_some p ss t i' h e')
  where
    by : (b : Bool) → p u ≡ b → cond b (Some u) (find p ss) ≡ None → (IsIn t ss → find p ss ≡ None → ⊥) → ⊥
    by true pu found on = cc
    by false pu found on = ⊎_elim (λ q. let never : p t ≡ false = ap p q ∙ pu in absurd cc) (λ rest. on rest found) (in_cases t u ss i)

-- what the test of a sign says
begins_with : (bs sign : List ℕ) → starts_with nat_eq bs sign ≡ true → bs ≡ sign ++ drop (length sign) bs
begins_with bs sign e = sym (take-append-drop (length sign) bs) ∙ ap (λ x. x ++ drop (length sign) bs) (sym ((bytes_eq-Decides sign (take (length sign) bs)).0 e))

with_begins : (bs sign rest : List ℕ) → bs ≡ sign ++ rest → starts_with nat_eq bs sign ≡ true
with_begins bs sign rest e = (bytes_eq-Decides sign (take (length sign) bs)).1 (sym (ap (take (length sign)) e ∙ take-append_seam sign rest))

-- a sign that is found stands there and is the longest
pub sign_found : (bs : List ℕ) (s : Sign) → sign_at bs ≡ Some s → (bs ≡ sign_bytes s ++ drop (length (sign_bytes s)) bs) × IsLongest s (drop (length (sign_bytes s)) bs)
unfolding sign_at
sign_found bs s e =
    let test : Sign → Bool = λ t. starts_with nat_eq bs (sign_bytes t) in
    let stands = begins_with bs (sign_bytes s) (first_passes test SIGNS s e) in
    (stands, λ t others whole. first_longest test SIGNS 2 s t table_falls e (in_table t) (with_begins bs (sign_bytes t) others (stands ∙ whole)))

-- none is found only where none stands
pub sign_none : (bs : List ℕ) → sign_at bs ≡ None → (s : Sign) (rest : List ℕ) → bs ≢ sign_bytes s ++ rest
unfolding sign_at
sign_none bs e s rest whole = first_some (λ t. starts_with nat_eq bs (sign_bytes t)) SIGNS s (in_table s) (with_begins bs (sign_bytes s) rest whole) e

-- the bytes of a sign begin with that sign alone
sign_itself : (s : Sign) → sign_at (sign_bytes s) ≡ Some s
unfolding sign_at
sign_itself sign.Arrow = refl
sign_itself sign.Equal = refl
sign_itself sign.NotEqual = refl
sign_itself sign.AtMost = refl
sign_itself sign.AtLeast = refl
sign_itself sign.DeepAssign = refl
sign_itself sign.Increment = refl
sign_itself sign.Decrement = refl
sign_itself sign.And = refl
sign_itself sign.Or = refl
sign_itself sign.OpenBrace = refl
sign_itself sign.CloseBrace = refl
sign_itself sign.OpenParen = refl
sign_itself sign.CloseParen = refl
sign_itself sign.OpenBracket = refl
sign_itself sign.CloseBracket = refl
sign_itself sign.Comma = refl
sign_itself sign.Semicolon = refl
sign_itself sign.Colon = refl
sign_itself sign.Dot = refl
sign_itself sign.Bar = refl
sign_itself sign.Assign = refl
sign_itself sign.Less = refl
sign_itself sign.Greater = refl
sign_itself sign.Plus = refl
sign_itself sign.Minus = refl
sign_itself sign.Star = refl
sign_itself sign.Slash = refl
sign_itself sign.Percent = refl
sign_itself sign.Not = refl
sign_itself sign.Hash = refl
sign_itself sign.At = refl
sign_itself sign.Question = refl

same_sign : (s t : Sign) → sign_bytes s ≡ sign_bytes t → s ≡ t
same_sign s t e = let both : Some s ≡ Some t = sym (sign_itself s) ∙ ap sign_at e ∙ sign_itself t in cc

-- the longest sign is found
pub sign_finds : (s : Sign) (rest : List ℕ) → IsLongest s rest → sign_at (sign_bytes s ++ rest) ≡ Some s
sign_finds s rest longest = by (sign_at (sign_bytes s ++ rest)) refl
  where
    by : (o : Option Sign) → sign_at (sign_bytes s ++ rest) ≡ o → o ≡ Some s
    by None e = absurd (sign_none (sign_bytes s ++ rest) e s rest refl)
    by (Some t) e =
        let found = sign_found (sign_bytes s ++ rest) t e in
        let others = drop (length (sign_bytes t)) (sign_bytes s ++ rest) in
        let le : length (sign_bytes t) ≤ length (sign_bytes s) = longest t others found.0 in
        let ge : length (sign_bytes s) ≤ length (sign_bytes t) = found.1 s rest (sym found.0) in
        let same : length (sign_bytes s) ≡ length (sign_bytes t) = omega arith in
        let bytes : sign_bytes s ≡ sign_bytes t =
        sym (take-append_seam (sign_bytes s) rest) ∙ ap (λ n. take n (sign_bytes s ++ rest)) same ∙ ap (take (length (sign_bytes t))) found.0 ∙ take-append_seam (sign_bytes t) others in
        ap Some (sym (same_sign s t bytes))

-- a sign has a byte
pub sign_some : (s : Sign) → 0 < length (sign_bytes s)
sign_some sign.Arrow = omega arith
sign_some sign.Equal = omega arith
sign_some sign.NotEqual = omega arith
sign_some sign.AtMost = omega arith
sign_some sign.AtLeast = omega arith
sign_some sign.DeepAssign = omega arith
sign_some sign.Increment = omega arith
sign_some sign.Decrement = omega arith
sign_some sign.And = omega arith
sign_some sign.Or = omega arith
sign_some sign.OpenBrace = omega arith
sign_some sign.CloseBrace = omega arith
sign_some sign.OpenParen = omega arith
sign_some sign.CloseParen = omega arith
sign_some sign.OpenBracket = omega arith
sign_some sign.CloseBracket = omega arith
sign_some sign.Comma = omega arith
sign_some sign.Semicolon = omega arith
sign_some sign.Colon = omega arith
sign_some sign.Dot = omega arith
sign_some sign.Bar = omega arith
sign_some sign.Assign = omega arith
sign_some sign.Less = omega arith
sign_some sign.Greater = omega arith
sign_some sign.Plus = omega arith
sign_some sign.Minus = omega arith
sign_some sign.Star = omega arith
sign_some sign.Slash = omega arith
sign_some sign.Percent = omega arith
sign_some sign.Not = omega arith
sign_some sign.Hash = omega arith
sign_some sign.At = omega arith
sign_some sign.Question = omega arith

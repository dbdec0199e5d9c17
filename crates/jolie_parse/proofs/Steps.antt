-- Small steps of reading.
use Rattle.std.proofs.Common.{◌≡◌, ℕ, zero, suc, Bool, true, false, List, [], ◌∷◌, ◌++◌, length, map, refl, sym, ap, ◌∙◌, if◌then◌else◌}
use Rattle.jolie_parse.specs.declared.class.Class.{Class}
use Rattle.jolie_parse.specs.declared.stop.Stop.{Stop}
use Rattle.jolie_parse.specs.declared.stop.Stop.TheVariants.{Syntax, TooDeep, Memory}
use Rattle.jolie_parse.specs.Classes.{Spelled, class, has, begins}
use Rattle.jolie_parse.specs.Syntax.{Syn, token, many, means}
use Rattle.jolie_parse.specs.Deciding.{first}
use Rattle.jolie_parse.specs.Reading.{Outcome, got, refused, too_deep, and_then, take_token, repeat, read}
use Rattle.jolie_parse.specs.Reads.{Stops, tail, after, more}

-- ---- a token that is passed

-- the token that is found is taken
pub found_taken : (ks : List Class) (ts r : List Spelled) (b : Bool) → b ≡ begins ks ts → b ≡ true → r ≡ after ks ts → (t : Spelled) × (take_token ks ts ≡ got t r)
found_taken ks [] r b found so rest = let never : true ≡ false = sym so ∙ found in cc
found_taken ks (t ∷ ts) r b found so rest =
    let h : has ks (class t) ≡ true = sym found ∙ so in
    let e : r ≡ ts = rest ∙ rw h refl in
    (t, rw (h, e) refl)

-- nothing is taken where none is found
pub none_taken : (ks : List Class) (ts r : List Spelled) (b : Bool) → b ≡ begins ks ts → b ≡ false → r ≡ after ks ts → r ≡ ts
none_taken ks ts r b found so rest = rest ∙ ap (λ (x : Bool). if x then tail ts else ts) (sym found ∙ so)

-- ---- meanings

-- what a phrase that means something is read from
pub unmeant : {A B : Type 0} (f : A → B) (o : Outcome A) (v : B) (r : List Spelled) → and_then o (λ a q. got (f a) q) ≡ got v r → (a : A) × (o ≡ got a r) × (v ≡ f a)
unmeant f (got a q) v r h = (a, (let e : q ≡ r = cc in ap (got a) e), cc)
unmeant f (refused q) v r h = cc
unmeant f (too_deep q) v r h = cc

pub unmeant_stops : {A B : Type 0} (f : A → B) (o : Outcome A) (e : Stop) (q : List Spelled) → Stops (and_then o (λ a r. got (f a) r)) e q → Stops o e q
unmeant_stops f (got a r) Syntax q h = cc
unmeant_stops f (got a r) TooDeep q h = cc
unmeant_stops f (refused r) Syntax q h = let e : r ≡ q = cc in ap refused e
unmeant_stops f (refused r) TooDeep q h = cc
unmeant_stops f (too_deep r) Syntax q h = cc
unmeant_stops f (too_deep r) TooDeep q h = let e : r ≡ q = cc in ap too_deep e
unmeant_stops f o (Memory a) q h = tt

-- ---- lists that begin empty

none_before : {A : Type 0} (o : Outcome (List A)) → and_then o (λ vs r. got ([] ++ vs) r) ≡ o
none_before (got vs r) = refl
none_before (refused r) = refl
none_before (too_deep r) = refl

-- more members than none are all of them
pub none_read : {A : Type 0} (n : ℕ) (s : Syn A) (ts : List Spelled) → more n s [] ts ≡ read n (many s) ts
unfolding more
none_read n s ts = none_before (read n (many s) ts)

-- ---- a list of meanings

mapped_rest : {A B : Type 0} (f : A → B) (o : Outcome (List A)) (a : A)
    → and_then (and_then o (λ vs q. got (map f vs) q)) (λ more q. got (f a ∷ more) q) ≡ and_then (and_then o (λ more q. got (a ∷ more) q)) (λ vs q. got (map f vs) q)
mapped_rest f (got vs q) a = refl
mapped_rest f (refused q) a = refl
mapped_rest f (too_deep q) a = refl

mapped_turn : {A B : Type 0} (f : A → B) (o : Outcome A) (g : List Spelled → Outcome (List B)) (h : List Spelled → Outcome (List A))
    → ((r : List Spelled) → g r ≡ and_then (h r) (λ vs q. got (map f vs) q))
    → and_then (and_then o (λ a r. got (f a) r)) (λ b r. and_then (g r) (λ more q. got (b ∷ more) q))
    ≡ and_then (and_then o (λ a r. and_then (h r) (λ more q. got (a ∷ more) q))) (λ vs q. got (map f vs) q)
mapped_turn f (got a r) g h same = ap (λ z. and_then z (λ more q. got (f a ∷ more) q)) (same r) ∙ mapped_rest f (h r) a
mapped_turn f (refused r) g h same = refl
mapped_turn f (too_deep r) g h same = refl

mapped_if : {A B : Type 0} (f : A → B) (b : Bool) (x : Outcome (List B)) (y : Outcome (List A)) (ts : List Spelled) → x ≡ and_then y (λ vs r. got (map f vs) r)
    → (if b then x else got [] ts) ≡ and_then (if b then y else got [] ts) (λ vs r. got (map f vs) r)
mapped_if f true x y ts e = e
mapped_if f false x y ts e = refl

repeat_mapped : {A B : Type 0} (f : A → B) (one : List Spelled → Outcome A) (ks : List Class) (n : ℕ) (ts : List Spelled)
    → repeat (λ z. and_then (one z) (λ a r. got (f a) r)) ks n ts ≡ and_then (repeat one ks n ts) (λ vs r. got (map f vs) r)
repeat_mapped f one ks zero ts = refl
repeat_mapped f one ks (suc n) ts =
    mapped_if f (begins ks ts) _ _ ts
    (mapped_turn f (one ts) (repeat (λ z. and_then (one z) (λ a r. got (f a) r)) ks n) (repeat one ks n) (repeat_mapped f one ks n))

-- members that are read as what they mean
pub many_mapped : {A B : Type 0} (n : ℕ) (f : A → B) (s : Syn A) (ts : List Spelled) → read n (many (means f s)) ts ≡ and_then (read n (many s) ts) (λ vs r. got (map f vs) r)
many_mapped n f s ts = repeat_mapped f (read n s) (first s) (length ts) ts

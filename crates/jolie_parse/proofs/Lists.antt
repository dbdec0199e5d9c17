-- Reading a list a member at a time.
use Rattle.std.proofs.Common.{◌≡◌, ℕ, zero, suc, ◌≤◌, ◌<◌, ◌+◌, ◌-◌, Bool, true, false, not, List, [], ◌∷◌, ◌++◌, length, refl, sym, ap, ◌∙◌, arith, append_assoc, append-nil, length-append, Option, Some, None, Result, if◌then◌else◌}
use Rattle.std.specs.Result.{IsErrAnd}
use Rattle.std.proofs.lemmas.Result.{err_from_is_err_and}
use Rattle.jolie_parse.specs.declared.class.Class.{Class}
use Rattle.jolie_parse.specs.declared.stop.Stop.{Stop}
use Rattle.jolie_parse.specs.declared.stop.Stop.TheVariants.{Syntax, TooDeep, Memory}
use Rattle.jolie_parse.specs.Classes.{Spelled, class, has, begins}
use Rattle.jolie_parse.specs.Syntax.{Syn, token, both, either, many, means, optional, behind}
use Rattle.jolie_parse.specs.Deciding.{first, further, nullable, disjoint}
use Rattle.jolie_parse.specs.Made.{list_of}
use Rattle.jolie_parse.specs.Factored.{Within, Nests, decided}
use Rattle.jolie_parse.specs.Reading.{Outcome, got, refused, too_deep, and_then, repeat, read}
use Rattle.jolie_parse.specs.Reads.{Reads, Stops, after, more}
use Rattle.jolie_parse.proofs.Complete.{empty}
use Rattle.jolie_parse.proofs.OneToken.{rules_decided}
use Rattle.jolie_parse.proofs.Outcomes.{Explains}
use Rattle.jolie_parse.proofs.Explain.{explain, Bef}
use Rattle.jolie_parse.proofs.Phrases.{rules_some}
use Rattle.jolie_parse.proofs.Sets.{and_left, and_right, not_true}
use Rattle.jolie_parse.proofs.Steps.{found_taken, none_taken}

-- ---- what is read takes tokens

shorter : {A : Type 0} (n : ℕ) (s : Syn A) (ts r : List Spelled) (v : A) (o : Outcome A) → o ≡ got v r → Explains (Nests n s) (Bef n s) (λ z u. read n s z ≡ u) ts o → nullable s ≡ false → length r < length ts
shorter n s ts r v (got a q) e x needs =
    let same : q ≡ r = cc in
    part x.0 q r ts same x.1 (λ h. let y = empty (Within n) s a (rw h at x.2) in cc)
  where
    part : (w q r ts : List Spelled) → q ≡ r → ts ≡ w ++ q → (w ≡ [] → ⊥) → length r < length ts
    part [] q r ts s e h = absurd (h refl)
    part (t ∷ w) q r ts s e h = omega (arith, ap length s, ap length e, length-append w q)
shorter n s ts r v (refused q) e x needs = cc
shorter n s ts r v (too_deep q) e x needs = cc

pub read_shorter : {A : Type 0} (n : ℕ) (s : Syn A) (ts r : List Spelled) (v : A) → decided s ≡ true → nullable s ≡ false → read n s ts ≡ got v r → length r < length ts
read_shorter n s ts r v dec needs e = shorter n s ts r v (read n s ts) e (explain rules_decided rules_some n n (omega arith) s dec ts) needs

fuel_next : {A : Type 0} (o : Outcome A) (f g : A → List Spelled → Outcome (List A)) → ((a : A) (r : List Spelled) → o ≡ got a r → f a r ≡ g a r) → and_then o f ≡ and_then o g
fuel_next (got a r) f g h = h a r refl
fuel_next (refused r) f g h = refl
fuel_next (too_deep r) f g h = refl

pub repeat_nil : {A : Type 0} (one : List Spelled → Outcome A) (ks : List Class) (j : ℕ) → repeat one ks j [] ≡ got [] []
repeat_nil one ks zero = refl
repeat_nil one ks (suc j) = refl

-- the count of turns does not matter
pub repeat_fuel : {A : Type 0} (one : List Spelled → Outcome A) (ks : List Class) → ((ts r : List Spelled) (v : A) → one ts ≡ got v r → length r < length ts)
    → (i j : ℕ) (r : List Spelled) → length r ≤ i → length r ≤ j → repeat one ks i r ≡ repeat one ks j r
repeat_fuel one ks sh i j [] li lj = repeat_nil one ks i ∙ sym (repeat_nil one ks j)
repeat_fuel one ks sh zero j (t ∷ r) li lj = let no : ⊥ = omega arith in absurd no
repeat_fuel one ks sh (suc i) zero (t ∷ r) li lj = let no : ⊥ = omega arith in absurd no
repeat_fuel one ks sh (suc i) (suc j) (t ∷ r) li lj =
    ap (λ o. if has ks (class t) then o else got [] (t ∷ r)) (fuel_next (one (t ∷ r)) (λ a q. and_then (repeat one ks i q) (λ m rest. got (a ∷ m) rest)) (λ a q. and_then (repeat one ks j q) (λ m rest. got (a ∷ m) rest))
    (λ a q e. let h = sh (t ∷ r) q a e in ap (λ o. and_then o (λ m rest. got (a ∷ m) rest)) (repeat_fuel one ks sh i j q (omega arith) (omega arith))))

-- ---- outcomes

pub stops_then : {A B : Type 0} (o : Outcome A) (f : A → List Spelled → Outcome B) (e : Stop) (q : List Spelled) → Stops o e q → Stops (and_then o f) e q
stops_then o f Syntax q h = rw h refl
stops_then o f TooDeep q h = rw h refl
stops_then o f (Memory a) q h = tt

pub passes : {B : Type 0} (o : Outcome B) (r : Result B Stop) (e : Stop) (q : List Spelled) → IsErrAnd r (λ y. y ≡ e) → Stops o e q → Reads o r q
passes o r e q h s = let p = err_from_is_err_and r h in rw (p.1, p.2) s

-- ---- a list of which some members were read

regroup : {A : Type 0} (xs : List A) (v : A) (o : Outcome (List A))
    → and_then (and_then o (λ m rest. got (v ∷ m) rest)) (λ vs r. got (xs ++ vs) r) ≡ and_then o (λ vs r. got ((xs ++ v ∷ []) ++ vs) r)
regroup xs v (got m r) = ap (λ z. got z r) (sym (append_assoc xs (v ∷ []) m))
regroup xs v (refused r) = refl
regroup xs v (too_deep r) = refl

pub more_stops : {A : Type 0} (n : ℕ) (s : Syn A) (xs : List A) (r : List Spelled) → begins (first s) r ≡ false → more n s xs r ≡ got xs r
unfolding more
more_stops n s xs [] h = rw append-nil refl
more_stops n s xs (t ∷ r) h = rw (h, append-nil) refl

module _ {A : Type 0} (n : ℕ) (s : Syn A) (dec : decided (many s) ≡ true) where
  needed : nullable s ≡ false
  needed = not_true (nullable s) (and_left (not (nullable s)) _ dec)

  pub more_goes : (xs : List A) (r q : List Spelled) (v : A) → begins (first s) r ≡ true → read n s r ≡ got v q → more n s xs r ≡ more n s (xs ++ v ∷ []) q
  unfolding more
  more_goes xs [] q v b e = cc
  more_goes xs (t ∷ r) q v b e =
      let dec2 = and_right (disjoint (first s) (further s)) (decided s) (and_right (not (nullable s)) _ dec) in
      let sh : length q < length (t ∷ r) = read_shorter n s (t ∷ r) q v dec2 needed e in
      let fuel = repeat_fuel (read n s) (first s) (λ ts r2 w x. read_shorter n s ts r2 w dec2 needed x) (length r) (length q) q (omega arith) (omega arith) in
      rw (b, e, fuel) (regroup xs v (repeat (read n s) (first s) (length q) q))

  pub more_fails : (xs : List A) (r q : List Spelled) (e : Stop) → begins (first s) r ≡ true → Stops (read n s r) e q → Stops (more n s xs r) e q
  unfolding more
  more_fails xs [] q e b h = cc
  more_fails xs (t ∷ r) q Syntax b h = rw (b, h) refl
  more_fails xs (t ∷ r) q TooDeep b h = rw (b, h) refl
  more_fails xs (t ∷ r) q (Memory a) b h = tt

  pub turn_shorter : (r q : List Spelled) (v : A) → read n s r ≡ got v q → length q < length r
  turn_shorter r q v h = read_shorter n s r q v (and_right (disjoint (first s) (further s)) (decided s) (and_right (not (nullable s)) _ dec)) needed h

-- ---- the first member and then more

joined_first : {A : Type 0} (v : A) (o : Outcome (List A))
    → and_then (and_then o (λ vs q. got (v, vs) q)) (λ p q. let p : A × List A = p in got (p.0 ∷ p.1) q) ≡ and_then o (λ vs q. got (v ∷ vs) q)
joined_first v (got vs q) = refl
joined_first v (refused q) = refl
joined_first v (too_deep q) = refl

-- a list of these: the first, and then many of the others
abbrev pub list_syn : {A : Type 0} → Syn A → Syn A → Syn (List A)
list_syn s m = means (λ q. q.0 ∷ q.1) (both s (many m))

module _ {A : Type 0} (n : ℕ) (s m : Syn A) where
  pub first_stops : (ts q : List Spelled) (e : Stop) → Stops (read n s ts) e q → Stops (read n (list_syn s m) ts) e q
  first_stops ts q Syntax h = rw h refl
  first_stops ts q TooDeep h = rw h refl
  first_stops ts q (Memory a) h = tt

  list_by : (ts r : List Spelled) (v : A) → read n s ts ≡ got v r → read n (list_syn s m) ts ≡ more n m (v ∷ []) r
  unfolding more
  list_by ts r v h = rw h (joined_first v (read n (many m) r))

  pub list_begun : (ts r : List Spelled) (v : A) (one : List A) → read n s ts ≡ got v r → one ≡ v ∷ [] → read n (list_syn s m) ts ≡ more n m one r
  list_begun ts r v one h o = list_by ts r v h ∙ ap (λ xs. more n m xs r) (sym o)

-- a list that may be left out, where nothing is the empty list
pub unwrapped : {A : Type 0} (o : Outcome (List A)) → and_then (and_then o (λ a r. got (Some a) r)) (λ a r. got (list_of a) r) ≡ o
unwrapped (got v q) = refl
unwrapped (refused q) = refl
unwrapped (too_deep q) = refl

-- ---- the turns of a loop that reads more members

module _ {A : Type 0} (n : ℕ) (s : Syn A) (dec : decided (many s) ≡ true) where
  pub turn_fails : (o : Outcome (List A)) (ys : List A) (r q : List Spelled) (b : Bool) (e : Stop) → o ≡ more n s ys r → b ≡ begins (first s) r → b ≡ true → Stops (read n s r) e q → Stops o e q
  turn_fails o ys r q b e inv found so h = rw inv (more_fails n s dec ys r q e (sym found ∙ so) h)

  pub turn_goes : (o : Outcome (List A)) (ys zs : List A) (r q : List Spelled) (b : Bool) (v : A) → o ≡ more n s ys r → b ≡ begins (first s) r → b ≡ true → read n s r ≡ got v q → zs ≡ ys ++ v ∷ [] → o ≡ more n s zs q
  turn_goes o ys zs r q b v inv found so h pushed = inv ∙ more_goes n s dec ys r q v (sym found ∙ so) h ∙ ap (λ z. more n s z q) (sym pushed)

  pub turns_end : (o : Outcome (List A)) (ys : List A) (r : List Spelled) (b : Bool) → o ≡ more n s ys r → b ≡ begins (first s) r → b ≡ false → o ≡ got ys r
  turns_end o ys r b inv found stop = inv ∙ more_stops n s ys r (sym found ∙ stop)

-- ---- the turns of a loop that takes a sign and reads a member behind it

module _ {A : Type 0} (n : ℕ) (k : Class) (s : Syn A) (dec : decided (many (behind k s)) ≡ true) where
  behind_read : (r p q : List Spelled) (b : Bool) (v : A) → b ≡ begins (k ∷ []) r → p ≡ after (k ∷ []) r → b ≡ true → read n s p ≡ got v q → read n (behind k s) r ≡ got v q
  behind_read r p q b v found passed so h = let sign = found_taken (k ∷ []) r p b found so passed in rw (sign.1, h) refl

  behind_stops : (r p q : List Spelled) (b : Bool) (e : Stop) → b ≡ begins (k ∷ []) r → p ≡ after (k ∷ []) r → b ≡ true → Stops (read n s p) e q → Stops (read n (behind k s) r) e q
  behind_stops r p q b e found passed so h =
      let sign = found_taken (k ∷ []) r p b found so passed in rw sign.1 (stops_then _ _ _ _ (stops_then (read n s p) _ _ _ h))

  pub next_fails : (o : Outcome (List A)) (ys : List A) (r p q : List Spelled) (b : Bool) (e : Stop) → o ≡ more n (behind k s) ys r → b ≡ begins (k ∷ []) r → p ≡ after (k ∷ []) r → b ≡ true → Stops (read n s p) e q → Stops o e q
  next_fails o ys r p q b e inv found passed so h = turn_fails n (behind k s) dec o ys r q b e inv found so (behind_stops r p q b e found passed so h)

  pub next_shorter : (r p q : List Spelled) (b : Bool) (v : A) → b ≡ begins (k ∷ []) r → p ≡ after (k ∷ []) r → b ≡ true → read n s p ≡ got v q → length q < length r
  next_shorter r p q b v found passed so h = turn_shorter n (behind k s) dec r q v (behind_read r p q b v found passed so h)

  pub next_goes : (o : Outcome (List A)) (ys zs : List A) (r p q : List Spelled) (b : Bool) (v : A) → o ≡ more n (behind k s) ys r → b ≡ begins (k ∷ []) r → p ≡ after (k ∷ []) r → b ≡ true → read n s p ≡ got v q → zs ≡ ys ++ v ∷ [] → o ≡ more n (behind k s) zs q
  next_goes o ys zs r p q b v inv found passed so h pushed = turn_goes n (behind k s) dec o ys zs r q b v inv found so (behind_read r p q b v found passed so h) pushed

  pub nexts_end : (o : Outcome (List A)) (ys : List A) (r p : List Spelled) (b : Bool) → o ≡ more n (behind k s) ys r → b ≡ begins (k ∷ []) r → p ≡ after (k ∷ []) r → b ≡ false → o ≡ got ys p
  nexts_end o ys r p b inv found passed stop =
      turns_end n (behind k s) dec o ys r b inv found stop ∙ ap (got ys) (sym (none_taken (k ∷ []) r p b found stop passed))

-- ---- what may be left out, and choices

module _ {A : Type 0} (n : ℕ) (s : Syn A) where
  pub optional_none : (ts : List Spelled) (b : Bool) → b ≡ begins (first s) ts → b ≡ false → read n (optional s) ts ≡ got None ts
  optional_none ts b found so = rw (sym found ∙ so) refl

  pub optional_stops : (ts q : List Spelled) (b : Bool) (e : Stop) → b ≡ begins (first s) ts → b ≡ true → Stops (read n s ts) e q → Stops (read n (optional s) ts) e q
  optional_stops ts q b e found so h = rw (sym found ∙ so) (stops_then (read n s ts) (λ a r. got (Some a) r) e q h)

  pub optional_read : (ts q : List Spelled) (b : Bool) (v : A) → b ≡ begins (first s) ts → b ≡ true → read n s ts ≡ got v q → read n (optional s) ts ≡ got (Some v) q
  optional_read ts q b v found so h = rw (sym found ∙ so, h) refl

module _ {A : Type 0} (n : ℕ) (s t : Syn A) where
  pub left_reads : (ts q : List Spelled) (b : Bool) (result : Result A Stop) → b ≡ begins (first s) ts → b ≡ true → Reads (read n s ts) result q → Reads (read n (either s t) ts) result q
  left_reads ts q b result found so h = rw (sym found ∙ so) h

  pub right_reads : (ts q : List Spelled) (b : Bool) (result : Result A Stop) → b ≡ begins (first s) ts → b ≡ false → Reads (read n t ts) result q → Reads (read n (either s t) ts) result q
  right_reads ts q b result found so h = rw (sym found ∙ so) h

-- a token that may be left out is taken where it is next
pub eaten : (n : ℕ) (k : Class) (ts r : List Spelled) → r ≡ after (k ∷ []) ts → (v : Option Spelled) × (read n (optional (token (k ∷ []))) ts ≡ got v r)
eaten n k [] r e = (None, ap (got None) (sym e))
eaten n k (t ∷ ts) r e = next (has (k ∷ []) (class t)) refl
  where
    next : (b : Bool) → has (k ∷ []) (class t) ≡ b → (v : Option Spelled) × (read n (optional (token (k ∷ []))) (t ∷ ts) ≡ got v r)
    next true h = (Some t, (let same : r ≡ ts = rw h at e in rw h (ap (got (Some t)) (sym same))))
    next false h = (None, (let same : r ≡ t ∷ ts = rw h at e in rw h (ap (got None) (sym same))))

-- Comments: the `*/` that closes one.
use Rattle.std.proofs.Common.{◌≡◌, ℕ, suc, ◌+◌, ◌-◌, ◌<◌, ◌≤◌, ◌≢◌, Bool, true, false, cond, ◌&&◌, List, [], ◌∷◌, ◌++◌, length, take, drop, refl, sym, ap, subst, ◌∙◌, arith, length-append, Option, None, Some}
use Rattle.std.specs.Prelude.{◌==◌}
use Rattle.std.proofs.lemmas.Bool.{eqb-true}
use Rattle.std.proofs.lemmas.List.{drop-drop}
use Rattle.std.proofs.Math.Seq.{take-append_seam, drop-append_seam}
use Rattle.jolie_tokens.specs.Bytes.{star, slash}
use Rattle.jolie_tokens.specs.Pieces.{HasNoEnd}
use Rattle.jolie_tokens.specs.Fronts.{comment_end_from, comment_end}

-- a star before the bytes, or none
abbrev starred : Bool → List ℕ → List ℕ
starred true bs = star ∷ bs
starred false bs = bs

end_behind : (b : ℕ) (bs : List ℕ) → HasNoEnd bs → (begins_slash : (rest : List ℕ) → b ≡ star → bs ≢ slash ∷ rest) → HasNoEnd (b ∷ bs)
end_behind b bs h k [] back e = let here : b ≡ star = cc in let rest : bs ≡ slash ∷ back = cc in k back here rest
end_behind b bs h k (c ∷ front) back e = let rest : bs ≡ front ++ star ∷ slash ∷ back = cc in h front back rest

no_end_tail : (b : ℕ) (bs : List ℕ) → HasNoEnd (b ∷ bs) → HasNoEnd bs
no_end_tail b bs h front back e = h (b ∷ front) back (ap (λ x. b ∷ x) e)

no_end_nil : HasNoEnd []
no_end_nil [] back e = cc
no_end_nil (b ∷ front) back e = cc

differs : (a b : ℕ) → (a == b) ≡ false → a ≢ b
differs a b e f = grind arith

-- an end of a comment after bytes that have none
record Ends (bs : List ℕ) (m : ℕ) : Type 0 where
  pub front : List ℕ
  pub back : List ℕ
  pub whole : bs ≡ front ++ star ∷ slash ∷ back
  pub no_end : HasNoEnd front
  pub place : m ≡ length front

-- the end behind a byte, of which it is known whether it is a star
ends_behind : (b : ℕ) (bs : List ℕ) (k : Bool) (m : ℕ) → (b == star) ≡ k → Ends (starred k bs) m → Ends (b ∷ bs) (m + cond k 0 1)
ends_behind b bs true m e h = record {
  front = h.front;
  back = h.back;
  whole = ap (λ x. x ∷ bs) (eqb-true b star e) ∙ h.whole;
  no_end = h.no_end;
  place = let p = h.place in omega arith;
}
ends_behind b bs false m e h = record {
  front = b ∷ h.front;
  back = h.back;
  whole = ap (λ x. b ∷ x) h.whole;
  no_end = end_behind b h.front h.no_end (λ rest is_star _. differs b star e is_star);
  place = let p = h.place in omega arith;
}

first_differs : (b : ℕ) (bs front back rest : List ℕ) → (b == slash) ≡ false → b ∷ bs ≡ front ++ back → front ≢ slash ∷ rest
first_differs b bs [] back rest e whole f = cc
first_differs b bs (c ∷ front) back rest e whole f = let here : b ≡ c = cc in let same : c ≡ slash = cc in differs b slash e (here ∙ same)

ends_after_star : (b : ℕ) (bs : List ℕ) (m : ℕ) → (b == slash) ≡ false → Ends (b ∷ bs) m → Ends (star ∷ b ∷ bs) (suc m)
ends_after_star b bs m e h = record {
  front = star ∷ h.front;
  back = h.back;
  whole = ap (λ x. star ∷ x) h.whole;
  no_end = end_behind star h.front h.no_end (λ rest _ f. first_differs b bs h.front (star ∷ slash ∷ h.back) rest e h.whole f);
  place = let p = h.place in omega arith;
}

counted_star : (k : Bool) (n i m : ℕ) → n + cond k 1 0 ≡ i + 1 + m → n + 1 ≡ i + suc (m + cond k 0 1)
counted_star true n i m e = omega arith
counted_star false n i m e = omega arith

counted : (k : Bool) (n i m : ℕ) → n + cond k 1 0 ≡ i + 1 + m → n + 0 ≡ i + (m + cond k 0 1)
counted true n i m e = omega arith
counted false n i m e = omega arith

comment_ends : (k : Bool) (i : ℕ) (bs : List ℕ) (n : ℕ) → (k ≡ true → 0 < i) → comment_end_from k i bs ≡ Some n → (m : ℕ) × (n + cond k 1 0 ≡ i + m) × Ends (starred k bs) m
comment_ends k i [] n some e = absurd cc
comment_ends true i (b ∷ bs) n some e = by (b == slash) refl e (b == star) refl (comment_ends (b == star) (i + 1) bs n (λ _. omega arith))
  where
    by : (c : Bool) → (b == slash) ≡ c → cond c (Some (i - 1)) (comment_end_from (b == star) (i + 1) bs) ≡ Some n → (k : Bool) → (b == star) ≡ k
        → (comment_end_from (b == star) (i + 1) bs ≡ Some n → (m : ℕ) × (n + cond (b == star) 1 0 ≡ i + 1 + m) × Ends (starred (b == star) bs) m)
        → (m : ℕ) × (n + 1 ≡ i + m) × Ends (star ∷ b ∷ bs) m
    by true eb found k ek on =
        let place : i - 1 ≡ n = cc in
        let more = some refl in
        (0, omega arith, record { front = []; back = bs; whole = ap (λ x. star ∷ x ∷ bs) (eqb-true b slash eb); no_end = no_end_nil; place = refl })
    by false eb found k ek on =
        let rest = on found in
        let place : n + cond k 1 0 ≡ i + 1 + rest.0 = subst (λ z. n + cond z 1 0 ≡ i + 1 + rest.0) ek rest.1 in
        let ends : Ends (b ∷ bs) (rest.0 + cond k 0 1) = ends_behind b bs k rest.0 ek (subst (λ z. Ends (starred z bs) rest.0) ek rest.2) in
        (suc (rest.0 + cond k 0 1), counted_star k n i rest.0 place, ends_after_star b bs (rest.0 + cond k 0 1) eb ends)
comment_ends false i (b ∷ bs) n some e = by (b == star) refl (comment_ends (b == star) (i + 1) bs n (λ _. omega arith) e)
  where
    by : (k : Bool) → (b == star) ≡ k → (m : ℕ) × (n + cond (b == star) 1 0 ≡ i + 1 + m) × Ends (starred (b == star) bs) m → (m : ℕ) × (n + 0 ≡ i + m) × Ends (b ∷ bs) m
    by k ek rest =
        let place : n + cond k 1 0 ≡ i + 1 + rest.0 = subst (λ z. n + cond z 1 0 ≡ i + 1 + rest.0) ek rest.1 in
        (rest.0 + cond k 0 1, counted k n i rest.0 place, ends_behind b bs k rest.0 ek (subst (λ z. Ends (starred z bs) rest.0) ek rest.2))

-- the place of an end that is found has the first one
pub record IsEnded (bs : List ℕ) (n : ℕ) : Type 0 where
  pub whole : bs ≡ take n bs ++ star ∷ slash ∷ drop (n + 2) bs
  pub no_end : HasNoEnd (take n bs)
  pub within : n + 2 ≤ length bs

ended_at : (bs front back : List ℕ) (n : ℕ) → bs ≡ front ++ star ∷ slash ∷ back → HasNoEnd front → n ≡ length front → IsEnded bs n
ended_at bs front back n whole no_end place =
    let before : take n bs ≡ front = ap (λ k. take k bs) place ∙ ap (take (length front)) whole ∙ take-append_seam front (star ∷ slash ∷ back) in
    let behind : drop n bs ≡ star ∷ slash ∷ back = ap (λ k. drop k bs) place ∙ ap (drop (length front)) whole ∙ drop-append_seam front (star ∷ slash ∷ back) in
    let after : drop (n + 2) bs ≡ back = sym (drop-drop 2 n bs) ∙ ap (drop 2) behind in
    record {
      whole = whole ∙ ap (λ x. x ++ star ∷ slash ∷ back) (sym before) ∙ ap (λ x. take n bs ++ star ∷ slash ∷ x) (sym after);
      no_end = subst HasNoEnd (sym before) no_end;
      within = omega (arith, ap length whole, length-append front (star ∷ slash ∷ back));
    }

pub comment_ended : (bs : List ℕ) (n : ℕ) → comment_end bs ≡ Some n → IsEnded bs n
unfolding comment_end
comment_ended bs n e =
    let found = comment_ends false 0 bs n (λ q. absurd cc) e in
    let ends = found.2 in
    ended_at bs ends.front ends.back n ends.whole ends.no_end (omega (arith, found.1, ends.place))

no_end_in : (k : Bool) (b : ℕ) (bs : List ℕ) → HasNoEnd (starred k (b ∷ bs)) → HasNoEnd (b ∷ bs)
no_end_in true b bs h = no_end_tail star (b ∷ bs) h
no_end_in false b bs h = h

no_end_on : (k : Bool) (b : ℕ) (bs : List ℕ) → (b == star) ≡ k → HasNoEnd (b ∷ bs) → HasNoEnd (starred k bs)
no_end_on true b bs e h = subst (λ x. HasNoEnd (x ∷ bs)) (eqb-true b star e) h
no_end_on false b bs e h = no_end_tail b bs h

no_slash : (k : Bool) (b : ℕ) (bs : List ℕ) → HasNoEnd (starred k (b ∷ bs)) → k && (b == slash) ≡ false
no_slash false b bs h = refl
no_slash true b bs h = by (b == slash) refl
  where
    by : (c : Bool) → (b == slash) ≡ c → c ≡ false
    by true e = absurd (h [] bs (ap (λ x. star ∷ x ∷ bs) (eqb-true b slash e)))
    by false e = refl

no_slash_star : (k : Bool) → k && (star == slash) ≡ false
no_slash_star true = refl
no_slash_star false = refl

comment_finds : (k : Bool) (i : ℕ) (bs rest : List ℕ) → HasNoEnd (starred k bs) → comment_end_from k i (bs ++ star ∷ slash ∷ rest) ≡ Some (i + length bs)
comment_finds k i [] rest h = rw (no_slash_star k) (ap Some (let e : i + 1 - 1 ≡ i + 0 = omega arith in e))
comment_finds k i (b ∷ bs) rest h =
    rw (no_slash k b bs h) (comment_finds (b == star) (i + 1) bs rest (no_end_on (b == star) b bs refl (no_end_in k b bs h)) ∙ ap Some (let e : i + 1 + length bs ≡ i + suc (length bs) = omega arith in e))

pub end_of_comment : (bs rest : List ℕ) → HasNoEnd bs → comment_end (bs ++ star ∷ slash ∷ rest) ≡ Some (length bs)
unfolding comment_end
end_of_comment bs rest h = comment_finds false 0 bs rest h ∙ ap Some (let e : 0 + length bs ≡ length bs = omega arith in e)

no_end_star : HasNoEnd (star ∷ [])
no_end_star [] back e = cc
no_end_star (b ∷ []) back e = cc
no_end_star (b ∷ c ∷ front) back e = cc

no_end_before : (k : Bool) (b : ℕ) (bs : List ℕ) → (b == star) ≡ k → HasNoEnd (starred k bs) → HasNoEnd (b ∷ bs)
no_end_before true b bs e h = subst (λ x. HasNoEnd (x ∷ bs)) (sym (eqb-true b star e)) h
no_end_before false b bs e h = end_behind b bs h (λ rest is_star _. differs b star e is_star)

comment_has_none : (k : Bool) (i : ℕ) (bs : List ℕ) → comment_end_from k i bs ≡ None → HasNoEnd (starred k bs)
comment_has_none true i [] e = no_end_star
comment_has_none false i [] e = no_end_nil
comment_has_none true i (b ∷ bs) e = by (b == slash) refl e (comment_has_none (b == star) (i + 1) bs)
  where
    by : (c : Bool) → (b == slash) ≡ c → cond c (Some (i - 1)) (comment_end_from (b == star) (i + 1) bs) ≡ None → (comment_end_from (b == star) (i + 1) bs ≡ None → HasNoEnd (starred (b == star) bs)) → HasNoEnd (star ∷ b ∷ bs)
    by true eb found on = absurd cc
    by false eb found on = end_behind star (b ∷ bs) (no_end_before (b == star) b bs refl (on found)) (λ rest _ f. let same : b ≡ slash = cc in differs b slash eb same)
comment_has_none false i (b ∷ bs) e = no_end_before (b == star) b bs refl (comment_has_none (b == star) (i + 1) bs e)

pub comment_open : (bs : List ℕ) → comment_end bs ≡ None → HasNoEnd bs
unfolding comment_end
comment_open bs e = comment_has_none false 0 bs e

pub open_comment : (bs : List ℕ) → HasNoEnd bs → comment_end bs ≡ None
open_comment bs h = by (comment_end bs) refl
  where
    by : (o : Option ℕ) → comment_end bs ≡ o → o ≡ None
    by None e = refl
    by (Some n) e = let found = comment_ended bs n e in absurd (h (take n bs) (drop (n + 2) bs) found.whole)

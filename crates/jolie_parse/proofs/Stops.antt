-- Tokens are a file or stop beginning one, at one place.
use Rattle.std.proofs.Common.{◌≡◌, ℕ, zero, suc, ◌≤◌, ◌+◌, ◌⊎◌, inl, inr, List, [], ◌∷◌, ◌++◌, length, refl, sym, ap, subst, ◌∙◌, arith, append_assoc, append-nil, length-append}
use Rattle.std.proofs.lemmas.List.{append_cancel_right}
use Rattle.jolie_ast.specs.declared.tree.Definition.{Definition}
use Rattle.jolie_parse.specs.Classes.{Spelled}
use Rattle.jolie_parse.specs.Syntax.{Part, Meant, Syn, token, give, both, either, many, means, inside, prefix, Lang}
use Rattle.jolie_parse.specs.Grammar.{file, IsFile, BeginsFile}
use Rattle.jolie_parse.specs.Factored.{rule, Within, Nests}
use Rattle.jolie_parse.specs.Reading.{Outcome, got, refused, too_deep, SameHead, read}
use Rattle.jolie_parse.specs.Levels.{Opener, bracket, before, opened, IsDead}
use Rattle.jolie_parse.specs.Laws.{IsStop, StopAtOnePlace}
use Rattle.jolie_parse.proofs.Complete.{complete}
use Rattle.jolie_parse.proofs.OneToken.{rules_decided, file_decided}
use Rattle.jolie_parse.proofs.Unique.{Nests_more}
use Rattle.jolie_parse.proofs.Equal.{file_factored, file_spread}
use Rattle.jolie_parse.proofs.Outcomes.{Explains}
use Rattle.jolie_parse.proofs.Explain.{explain, Bef}
use Rattle.jolie_parse.proofs.Phrases.{rules_some}
use Rattle.jolie_parse.proofs.Openings.{CanEnd, Stands, LeadsTo, Leads}

-- ---- a level takes a token

lead_long : (n : ℕ) (within : (r : Part) → Lang (Meant r)) (at : Opener → List Spelled → Type 0) → ((p : Opener) (y : List Spelled) → at p y → n ≤ length y)
    → {A : Type 0} (s : Syn A) (w : List Spelled) → LeadsTo within at s w → n ≤ length w
lead_long n within at h (token ks) w l = absurd l
lead_long n within at h (give a) w l = absurd l
lead_long n within at h (both s t) w l = elim l [
  | inl e ↦ lead_long n within at h s w e
  | inr e ↦ (let le = lead_long n within at h t e.1 e.5 in let len = length-append e.0 e.1 in omega (arith, ap length e.3))
]
lead_long n within at h (either s t) w l = elim l [ inl e ↦ lead_long n within at h s w e | inr e ↦ lead_long n within at h t w e ]
lead_long n within at h (many s) w l = let le = lead_long n within at h s l.1 l.5 in let len = length-append l.0 l.1 in omega (arith, ap length l.3)
lead_long n within at h (means f s) w l = lead_long n within at h s w l
lead_long n within at h (inside o r c) w l = h (bracket o r c) w l
lead_long n within at h (prefix ks r) w l = h (before ks r) w l

stands_first : (n : ℕ) (t : Spelled) (p : Opener) (z : List Spelled) → Stands n t p z → n ≤ length z
stands_first zero t p z h = omega arith
stands_first (suc n) t p z h = absurd h

leads_long : (n : ℕ) (t : Spelled) (p : Opener) (y : List Spelled) → Leads n t p y → n ≤ length y
leads_long zero t p y l = omega arith
leads_long (suc n) t p y (u, z, h, e, l) =
    let le : n ≤ length z = elim l [
      | inl k ↦ lead_long n (Within n) (Leads n t) (leads_long n t) (rule (opened p)) z k
      | inr k ↦ stands_first n t p z k
    ] in
    omega (arith, ap length e)

-- ---- files and their beginnings

pub file_read : (n : ℕ) (ts : List Spelled) (f : List Definition) → Nests n file ts f → read n file ts ≡ got f []
file_read n ts f d = ap (read n file) (sym (append-nil ts)) ∙ complete rules_decided n file file_decided ts [] f d refl

pub begins_file : (w : List Spelled) → CanEnd file w → BeginsFile w
begins_file w (more, f, (m, d)) = (more, m, f, file_spread m (w ++ more) f d)

-- what is read the same whatever follows the next token is no file
dead : (n : ℕ) (w r : List Spelled) → ((m : ℕ) → n ≤ m → (z : List Spelled) → SameHead r z → (f : List Definition) → read m file (w ++ z) ≡ got f [] → ⊥) → IsDead w r
dead n w [] h = λ m f d. h (n + m) (omega arith) [] tt f
    (file_read (n + m) (w ++ []) f (Nests_more m (n + m) file (omega arith) (w ++ []) f (rw append-nil (file_factored m w f d))))
dead n w (t ∷ r) h = λ (more, m, f, d). h (n + m) (omega arith) (t ∷ more) refl f
    (file_read (n + m) (w ++ t ∷ more) f (Nests_more m (n + m) file (omega arith) (w ++ t ∷ more) f (rw append_assoc at (file_factored m ((w ++ t ∷ []) ++ more) f d))))

same_front : (w v r : List Spelled) (ts : List Spelled) → ts ≡ w ++ r → ts ≡ v ++ r → v ≡ w
same_front w v r ts a b = append_cancel_right v w r (sym b ∙ a)

-- what reading n levels deep says of the tokens, at each deeper limit
abbrev pub Facts : ℕ → List Spelled → Outcome (List Definition) → Type 0
Facts n ts o = (m : ℕ) → n ≤ m → Explains (Nests n file) (Bef n file) (λ z u. read m file z ≡ u) ts o

pub file_facts : (n : ℕ) (ts : List Spelled) → Facts n ts (read n file ts)
file_facts n ts m le = explain rules_decided rules_some n m le file file_decided ts

-- the tokens stop where that rest begins
abbrev pub StopsAt : List Spelled → List Spelled → Type 0
StopsAt ts r = (w : List Spelled) × (ts ≡ w ++ r) × IsStop w r

-- where a file is read and tokens are left
pub left_stops : (n : ℕ) (ts : List Spelled) (f : List Definition) (t : Spelled) (r : List Spelled) → Facts n ts (got f (t ∷ r)) → StopsAt ts (t ∷ r)
left_stops n ts f t r ex =
    let e = ex n (omega arith) in (
      e.0,
      e.1,
      (
        ([], n, f, rw append-nil (file_spread n e.0 f e.2)),
        dead n e.0 (t ∷ r) (λ m lm z h g read_it. let e2 = ex m lm in let same = same_front e.0 e2.0 (t ∷ r) ts e.1 e2.1 in
            not_left z t r h f g (sym (rw same at (e2.3 z h)) ∙ read_it)),
      ),
    )
  where
    not_left : (z : List Spelled) (t : Spelled) (r : List Spelled) → SameHead (t ∷ r) z → (f g : List Definition) → got f z ≡ got g [] → ⊥
    not_left [] t r h f g e = h
    not_left (u ∷ us) t r h f g e = cc

-- where reading refuses
pub refused_stops : (n : ℕ) (ts r : List Spelled) → Facts n ts (refused r) → StopsAt ts r
refused_stops n ts r ex =
    let e = ex n (omega arith) in (
      e.0,
      e.1,
      (
        begins_file e.0 e.2.0,
        dead n e.0 r (λ m lm z h g read_it. let e2 = ex m lm in let same = same_front e.0 e2.0 r ts e.1 e2.1 in
            let q : refused z ≡ got g [] = sym (rw same at (e2.3 z h)) ∙ read_it in cc),
      ),
    )

answer : (n : ℕ) (ts : List Spelled) → length ts ≤ n → (o : Outcome (List Definition)) → Facts n ts o
    → ((m : ℕ) × (f : List Definition) × IsFile m ts f) ⊎ ((w r : List Spelled) × (ts ≡ w ++ r) × IsStop w r)
answer n ts le (got f []) ex = let e = ex n (omega arith) in inl (n, f, file_spread n ts f (rw (e.1, append-nil) e.2))
answer n ts le (got f (t ∷ r)) ex = let e = left_stops n ts f t r ex in inr (e.0, t ∷ r, e.1, e.2)
answer n ts le (refused r) ex = let e = refused_stops n ts r ex in inr (e.0, r, e.1, e.2)
answer n ts le (too_deep r) ex =
    let e = ex n (omega arith) in
    let o = e.2.1 in
    let long = lead_long n (Within n) (Leads n o.0) (leads_long n o.0) file e.0 o.3 in
    let len = length-append e.0 r in
    let never : ⊥ = omega (arith, ap length e.1, ap length o.2) in
    absurd never

some_answer : (ts : List Spelled) → ((m : ℕ) × (f : List Definition) × IsFile m ts f) ⊎ ((w r : List Spelled) × (ts ≡ w ++ r) × IsStop w r)
some_answer ts =
    let n = length ts in
    answer n ts (omega arith) (read n file ts) (file_facts n ts)

-- ---- the place is one

begins_less : (w : List Spelled) (t : Spelled) (more : List Spelled) → BeginsFile (w ++ t ∷ more) → BeginsFile (w ++ t ∷ [])
begins_less w t more (rest, n, f, d) =
    (more ++ rest, n, f, subst (λ z. IsFile n z f) (append_assoc w (t ∷ more) rest ∙ sym (append_assoc w (t ∷ []) (more ++ rest))) d)

file_begins : (n : ℕ) (ts : List Spelled) (f : List Definition) → IsFile n ts f → BeginsFile ts
file_begins n ts f d = ([], n, f, rw append-nil d)

not_both : (n : ℕ) (f : List Definition) (w r : List Spelled) → IsFile n (w ++ r) f → IsStop w r → ⊥
not_both n f w [] d (b, k) = k n f (rw append-nil at d)
not_both n f w (t ∷ r) d (b, k) = k (begins_less w t r (file_begins n (w ++ t ∷ r) f d))

-- of two beginnings of the same tokens the one is the other, or goes on from it
pub compare : (w r v q : List Spelled) → w ++ r ≡ v ++ q
    → (w ≡ v) ⊎ (((t : Spelled) × (more : List Spelled) × (v ≡ w ++ t ∷ more) × (r ≡ t ∷ (more ++ q))) ⊎ ((t : Spelled) × (more : List Spelled) × (w ≡ v ++ t ∷ more) × (q ≡ t ∷ (more ++ r))))
compare [] r [] q e = inl refl
compare [] r (u ∷ v) q e = inr (inl (u, v, refl, e))
compare (t ∷ w) r [] q e = inr (inr (t, w, refl, sym e))
compare (t ∷ w) r (u ∷ v) q e =
    let h : t ≡ u = cc in
    elim (compare w r v q cc) [
      | inl k ↦ inl (let step : t ∷ w ≡ u ∷ w = ap (λ z. z ∷ w) h in step ∙ ap (λ z. u ∷ z) k)
      | inr (inl (a, more, k, l)) ↦ inr (inl (a, more, ap (λ z. u ∷ z) k ∙ sym (ap (λ z. z ∷ (w ++ a ∷ more)) h), l))
      | inr (inr (a, more, k, l)) ↦ inr (inr (a, more, ap (λ z. t ∷ z) k ∙ ap (λ z. z ∷ (v ++ a ∷ more)) h, l))
    ]

no_later : (w r v : List Spelled) (t : Spelled) (more q : List Spelled) → IsStop w r → BeginsFile v → v ≡ w ++ t ∷ more → r ≡ t ∷ (more ++ q) → ⊥
no_later w [] v t more q (b, k) h e l = cc
no_later w (u ∷ r) v t more q (b, k) h e l = let same : u ≡ t = cc in k (rw same (begins_less w t more (rw e at h)))

one_place : (w r v q : List Spelled) → w ++ r ≡ v ++ q → IsStop w r → IsStop v q → w ≡ v
one_place w r v q e a b = elim (compare w r v q e) [
  | inl k ↦ k
  | inr (inl (t, more, k, l)) ↦ absurd (no_later w r v t more q a b.0 k l)
  | inr (inr (t, more, k, l)) ↦ absurd (no_later v q w t more r b a.0 k l)
]

pub stop_at_one_place : StopAtOnePlace
stop_at_one_place = record { some = some_answer; one_place = one_place; never_both = not_both }

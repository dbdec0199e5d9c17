-- Rows by which the same sessions are found stay such rows.
use Rattle.std.proofs.Common.{◌≡◌, ℕ, zero, suc, Bool, true, false, not, ◌&&◌, if◌then◌else◌, cond, nat_eq, List, [], ◌∷◌, length, insert, filter, Option, Some, None, refl, sym, ap, subst, ◌∙◌}
use Rattle.std.specs.Option.{is_none}
use Rattle.jolie_trees.specs.declared.root.Root.{Root}
use Rattle.correlation.specs.Order.{are_equal}
use Rattle.correlation.specs.Rows.{session_with}
use Rattle.correlation.specs.Index.{AreAlike, are_apart, is_of_other}
use Rattle.correlation.specs.declared.key.KeyRow.{KeyRow}
use Rattle.correlation.proofs.Halving.{and_left, and_right}
use Rattle.correlation.proofs.Sessions.{apart_kept, equal_symm, inserted, none_of_rest, session_kept, skipped, unless}

-- ---- counting

-- rows of two kinds
filter_both : (p q : KeyRow → Bool) (rs : List KeyRow) → filter p (filter q rs) ≡ filter (λ r. q r && p r) rs
filter_both p q [] = refl
filter_both p q (r ∷ rs) = go (q r) (filter_both p q rs)
  where
    go : (b : Bool) → filter p (filter q rs) ≡ filter (λ r. q r && p r) rs
        → filter p (cond b (r ∷ filter q rs) (filter q rs)) ≡ cond (b && p r) (r ∷ filter (λ r. q r && p r) rs) (filter (λ r. q r && p r) rs)
    go true i = ap (λ l. cond (p r) (r ∷ l) l) i
    go false i = i

-- a row more
longer : (j : ℕ) (rs : List KeyRow) (r : KeyRow) → length (insert rs j r) ≡ suc (length rs)
longer zero rs r = refl
longer (suc j) [] r = refl
longer (suc j) (x ∷ xs) r = ap suc (longer j xs r)

-- a row more of a kind, wherever it comes in
one_more : (p : KeyRow → Bool) (j : ℕ) (rs : List KeyRow) (r : KeyRow) → length (filter p (insert rs j r)) ≡ length (filter p (r ∷ rs))
one_more p zero rs r = refl
one_more p (suc j) [] r = refl
one_more p (suc j) (x ∷ xs) r = go (p x) (p r) (one_more p j xs r)
  where
    go : (b c : Bool) → length (filter p (insert xs j r)) ≡ length (cond c (r ∷ filter p xs) (filter p xs))
        → length (cond b (x ∷ filter p (insert xs j r)) (filter p (insert xs j r)))
        ≡ length (cond c (r ∷ cond b (x ∷ filter p xs) (filter p xs)) (cond b (x ∷ filter p xs) (filter p xs)))
    go true true i = ap suc i
    go true false i = ap suc i
    go false true i = i
    go false false i = i

-- ---- keys that are apart

-- a key that no row has comes in
apart_more : (j : ℕ) (rs : List KeyRow) (r : KeyRow) → session_with r.key rs ≡ None → are_apart rs ≡ true → are_apart (insert rs j r) ≡ true
apart_more zero rs r n h = ap (λ o. is_none o && are_apart rs) n ∙ h
apart_more (suc j) [] r n h = refl
apart_more (suc j) (x ∷ xs) r n h =
    let differs = none_of_rest r.key x xs n in
    let none = sym (skipped r.key x xs differs) ∙ n in
    let found = inserted x.key j xs r none ∙ ap (λ b. if b then Some r.session else session_with x.key xs) (equal_symm r.key x.key ∙ differs) in
    ap (λ o. is_none o && are_apart (insert xs j r)) found
    ∙ ap (λ b. b && are_apart (insert xs j r)) (and_left (is_none (session_with x.key xs)) (are_apart xs) h)
    ∙ apart_more j xs r none (and_right (is_none (session_with x.key xs)) (are_apart xs) h)

-- ---- rows that are alike

-- the same rows
pub alike_by : (ks rs ls qs : List KeyRow) → AreAlike ks rs → ls ≡ ks → qs ≡ rs → AreAlike ls qs
alike_by ks rs ls qs a e f = subst (λ l. AreAlike l qs) (sym e) (subst (AreAlike ks) (sym f) a)

-- a key that no session has comes in
pub alike_more : (i j : ℕ) (ks rs : List KeyRow) (r : KeyRow) → session_with r.key ks ≡ None → AreAlike ks rs → AreAlike (insert ks i r) (insert rs j r)
alike_more i j ks rs r n a =
    let m = sym (a.same r.key) ∙ n in
    record {
      same = λ v. inserted v i ks r n ∙ ap (λ o. if are_equal r.key v then Some r.session else o) (a.same v) ∙ sym (inserted v j rs r m);
      count = longer i ks r ∙ ap suc a.count ∙ sym (longer j rs r);
      each = λ p. one_more (λ q. p q.session) i ks r ∙ both p (p r.session) (a.each p) ∙ sym (one_more (λ q. p q.session) j rs r);
      apart = apart_more j rs r m a.apart;
    }
  where
    both : (p : ℕ → Bool) (b : Bool) → length (filter (λ (q : KeyRow). p q.session) ks) ≡ length (filter (λ (q : KeyRow). p q.session) rs)
        → length (cond b (r ∷ filter (λ (q : KeyRow). p q.session) ks) (filter (λ (q : KeyRow). p q.session) ks))
        ≡ length (cond b (r ∷ filter (λ (q : KeyRow). p q.session) rs) (filter (λ (q : KeyRow). p q.session) rs))
    both p true e = ap suc e
    both p false e = e

-- the keys of a session are taken out
pub alike_kept : (s : ℕ) (ks rs : List KeyRow) → are_apart ks ≡ true → AreAlike ks rs → AreAlike (filter (is_of_other s) ks) (filter (is_of_other s) rs)
alike_kept s ks rs h a = record {
  same = λ v. session_kept v s ks h ∙ ap (unless s) (a.same v) ∙ sym (session_kept v s rs a.apart);
  count = a.each (λ n. not (nat_eq n s));
  each = λ p. ap length (filter_both (λ q. p q.session) (is_of_other s) ks) ∙ a.each (λ n. not (nat_eq n s) && p n) ∙ sym (ap length (filter_both (λ q. p q.session) (is_of_other s) rs));
  apart = apart_kept s rs a.apart;
}

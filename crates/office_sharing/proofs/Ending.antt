-- The last seat has all numbers, so that nobody else has the turn, and the office comes back with the history.
use Rattle.std.proofs.Common.{if◌then◌else◌, cond, ◌≡◌, ◌≢◌, ◌⊎◌, ℕ, suc, zero, ◌+◌, ◌<◌, ◌≤◌, ◌==◌, Bool, true, false, true≢false, List, [], ◌∷◌, length, refl, ap, sym, subst, ◌∙◌, arith, ⊎_elim, inl, inr, eq-eqb, ne_eqb, eqb-true, nat_lt}
use mathlib.Core.Option.{Option, some, none, some-injective, some-ne-none}
use Rattle.std.proofs.lemmas.Bool.Decides.{nat_tests}
use lib.ListN.{get_elem?}
use Rattle.atomic_table.specs.Table.{State, Final, Seen}
use Rattle.behaviour_tree.specs.Data.{ProgramParts}
use Rattle.behaviour_tree.specs.PartsView.{parts_of}
use Rattle.office_core.specs.declared.history.Entry.{Entry}
use Rattle.office_plain.specs.declared.office.Office.{Office}
use Rattle.office_plain.specs.View.{entries_of}
use Rattle.office_sharing.specs.declared.view.View.{View}
use Rattle.office_sharing.specs.Numbers.{entries_by, IsAmong, AreApart, numbers}
use Rattle.office_sharing.specs.Rule.{HasHistory, IsPlaced, IsShared}
use Rattle.office_sharing.specs.Plays.{Ended, HasAll}
use Rattle.office_sharing.proofs.Steps.{own_among}

-- ---- numbers below a bound

le_or_less : (a b : ℕ) → (a ≤ b) ⊎ (b < a)
le_or_less a b = by (nat_lt b a) refl
  where
    by : (c : Bool) → nat_lt b a ≡ c → (a ≤ b) ⊎ (b < a)
    by true is = inr (grind (arith, nat_tests, is))
    by false is = inl (grind (arith, nat_tests, is))

abbrev without : ℕ → List ℕ → List ℕ
without n [] = []
without n (x ∷ xs) = if x == n then without n xs else x ∷ without n xs

without_less : (n m : ℕ) (xs : List ℕ) → IsAmong m (without n xs) → IsAmong m xs × (m ≢ n)
without_less n m [] a = absurd a
without_less n m (x ∷ xs) a = by (λ h. without_less n m xs h) (x == n) refl a
  where
    by : (IsAmong m (without n xs) → IsAmong m xs × (m ≢ n)) → (b : Bool) → (x == n) ≡ b
        → IsAmong m (if b then without n xs else x ∷ without n xs) → IsAmong m (x ∷ xs) × (m ≢ n)
    by less true is a = (let r = less a in (inr r.0, r.1))
    by less false is a =
        ⊎_elim (λ (e : m ≡ x). (inl e, (λ mn. true≢false (sym (eq-eqb x n (sym e ∙ mn)) ∙ is))))
        (λ h. (let r = less h in (inr r.0, r.1))) a

without_apart : (n : ℕ) (xs : List ℕ) → AreApart xs → AreApart (without n xs)
without_apart n [] a = tt
without_apart n (x ∷ xs) a = by (without_apart n xs a.1) (x == n)
  where
    by : AreApart (without n xs) → (b : Bool) → AreApart (if b then without n xs else x ∷ without n xs)
    by rest true = rest
    by rest false = ((λ h. a.0 (without_less n x xs h).0), rest)

without_none : (n : ℕ) (xs : List ℕ) → (IsAmong n xs → ⊥) → without n xs ≡ xs
without_none n [] never = refl
without_none n (x ∷ xs) never =
    ap (λ (b : Bool). if b then without n xs else x ∷ without n xs) (ne_eqb x n (λ e. never (inl (sym e))))
    ∙ ap (λ (ys : List ℕ). x ∷ ys) (without_none n xs (λ a. never (inr a)))

without_one : (n : ℕ) (xs : List ℕ) → AreApart xs → length xs ≤ length (without n xs) + 1
without_one n [] a = omega arith
without_one n (x ∷ xs) a = by (without_one n xs a.1) (x == n) refl
  where
    by : length xs ≤ length (without n xs) + 1 → (b : Bool) → (x == n) ≡ b
        → length (x ∷ xs) ≤ length (if b then without n xs else x ∷ without n xs) + 1
    by below true is =
        let e : x ≡ n = eqb-true x n is in
        omega (arith, ap length (without_none n xs (subst (λ k. IsAmong k xs → ⊥) e a.0)))
    by below false is = omega (arith, below)

-- numbers below g that are all different are at most g
few_below : (g : ℕ) (xs : List ℕ) → AreApart xs → ((n : ℕ) → IsAmong n xs → n < g) → length xs ≤ g
few_below zero [] a low = omega arith
few_below zero (x ∷ xs) a low = absurd (omega (arith, low x (inl refl)))
few_below (suc g) xs a low =
    let r = few_below g (without g xs) (without_apart g xs a)
    (λ n h. (let k = without_less g n xs h in let m = low n k.0 in lower n g m k.1)) in
    omega (arith, r, without_one g xs a)
  where
    lower : (n g : ℕ) → n < suc g → n ≢ g → n < g
    lower n g m ne = omega (arith, m, ne)

is_among : (n : ℕ) (xs : List ℕ) → IsAmong n xs ⊎ (IsAmong n xs → ⊥)
is_among n [] = inr (λ a. a)
is_among n (x ∷ xs) = by (is_among n xs) (n == x) refl
  where
    by : (IsAmong n xs ⊎ (IsAmong n xs → ⊥)) → (b : Bool) → (n == x) ≡ b
        → IsAmong n (x ∷ xs) ⊎ (IsAmong n (x ∷ xs) → ⊥)
    by rest true is = inl (inl (eqb-true n x is))
    by rest false is =
        ⊎_elim (λ h. inl (inr h))
        (λ never. inr (λ a. ⊎_elim (λ e. true≢false (sym (eq-eqb n x e) ∙ is)) never a)) rest

-- as many different numbers below g as there are, are all of them
all_below : (g : ℕ) (xs : List ℕ) → AreApart xs → ((n : ℕ) → IsAmong n xs → n < g) → length xs ≡ g
    → (n : ℕ) → n < g → IsAmong n xs
all_below g xs a low all n less = ⊎_elim (λ h. h)
    (λ never. absurd (omega (
      arith,
      all,
      few_below g (n ∷ xs) (never, a)
          (λ m h. ⊎_elim (λ e. (omega (arith, e, less))) (λ k. low m k) h),
    )))
    (is_among n xs)

-- ---- the end

module _ (parts : ProgramParts) (id : ℕ) (v : View) (xs : List Office) (o : Office) (all : HasAll v)
    (idle : v.turn ≡ false) (s : State Office View) (h : IsShared parts s) (at : get_elem? s.views id ≡ some v) where
  every : (n : ℕ) → n < h.deal.given → IsAmong n (numbers v)
  every =
      let f = h.fits id v at in
      all_below h.deal.given (numbers v) f.apart (λ n a. (f.own n a).1) (all.1 ∙ (f.makes all.0).1)

  log_is : (es : List Entry) → h.log ≡ es → Ended parts v es
  log_is es e = (let f = h.fits id v at in subst (Ended parts v) e record {
    history = h.history;
    begins = f.seen;
    mine = f.mine;
    kept = f.kept;
    others = λ n never. h.fresh n (above n never);
  })
    where
      above : (n : ℕ) → (IsAmong n (numbers v) → ⊥) → h.deal.given ≤ n
      above n never = ⊎_elim (λ le. le) (λ less. absurd (never (every n less))) (le_or_less h.deal.given n)

  ends_in : ((p : Office) → get_elem? s.homes 0 ≡ some (some p) → get_elem? xs 0 ≡ some p) → get_elem? xs 0 ≡ some o
      → (parts_of o.program ≡ parts) × Ended parts v (entries_of o)
  ends_in known there = by h.deal.away refl
    where
      by : (b : Bool) → h.deal.away ≡ b → (parts_of o.program ≡ parts) × Ended parts v (entries_of o)
      by true away = (let who = h.held away in
          let g = h.fits h.deal.holder who.0 who.1 in
          let own = g.own who.0.number (own_among who.0 (g.turn who.2).0) in
          let seat : h.deal.holder ≡ id
          = sym own.0 ∙ ((h.fits id v at).own who.0.number (every who.0.number own.1)).0 in
          absurd (true≢false (sym who.2
          ∙ (ap (λ (u : View). u.turn)
          (some-injective who.0 v (sym who.1 ∙ (ap (λ k. get_elem? s.views k) seat ∙ at))) ∙ idle))))
      by false away = (
          let home : IsPlaced parts h.log false s.homes = subst (λ b. IsPlaced parts h.log b s.homes) away h.home in
          let same : home.0 ≡ o
          = some-injective home.0 o
          (sym (known home.0 (ap (λ (l : List (Option Office)). get_elem? l 0) home.1)) ∙ there) in (
            ap (λ (p : Office). parts_of p.program) (sym same) ∙ home.2.program,
            log_is (entries_of o) (sym home.2.entries ∙ ap entries_of same),
          ))

-- the office comes back with the whole history
pub ends : (parts : ProgramParts) (id : ℕ) (v : View) (ws : List ℕ) (xs : List Office) (o : Office) → HasAll v
    → v.turn ≡ false → Final (Seen (IsShared parts) id v) ws xs → get_elem? xs 0 ≡ some o
    → (parts_of o.program ≡ parts) × Ended parts v (entries_of o)
ends parts id v ws xs o all idle final there =
    ends_in parts id v xs o all idle final.0 final.1.0 final.1.1 (λ b is. final.4 0 b is) there

-- Two seats become one.
use Rattle.std.proofs.Common.{if◌then◌else◌, cond, ◌≡◌, ◌≢◌, ◌⊎◌, ◌||◌, ℕ, suc, zero, ◌+◌, ◌<◌, ◌≤◌, ◌==◌, Bool, true, false, true≢false, List, [], ◌∷◌, ◌++◌, length, set, refl, ap, sym, subst, ◌∙◌, arith, ⊎_elim, inl, inr, eq-eqb, ne_eqb, eqb-true}
use mathlib.Core.Option.{Option, some, none, some-injective, some-ne-none}
use lib.ListN.{get_elem?}
use Rattle.atomic_table.specs.Table.{State, Joins}
use Rattle.atomic_table.proofs.Lists.{at_set, set_here, set_else}
use Rattle.behaviour_tree.specs.Data.{ProgramParts}
use Rattle.office_core.specs.declared.history.Entry.{Entry}
use Rattle.office_plain.specs.declared.office.Office.{Office}
use Rattle.office_sharing.specs.declared.view.KeptCalls.{KeptCalls}
use Rattle.office_sharing.specs.declared.view.View.{View}
use Rattle.office_sharing.specs.Numbers.{entries_by, IsAmong, AreApart, numbers, numbers_kept, KeepsCalls}
use Rattle.office_sharing.specs.Views.{nobody, kept_of, merged}
use Rattle.office_sharing.specs.Rule.{Deal, Fits, FitAll, HasTurn, IsShared}
use Rattle.office_sharing.proofs.Steps.{fits_set, index_below, off}

-- ---- numbers

kept_append : (xs ys : List KeptCalls) → numbers_kept (xs ++ ys) ≡ numbers_kept xs ++ numbers_kept ys
kept_append [] ys = refl
kept_append (x ∷ xs) ys = ap (λ (ns : List ℕ). x.number ∷ ns) (kept_append xs ys)

abbrev kept_by : Bool → View → List KeptCalls
kept_by b w = if b then record { number = w.number; calls = w.mine } ∷ w.kept else w.kept

abbrev numbers_by : Bool → ℕ → List ℕ → List ℕ
numbers_by b n ns = if b then n ∷ ns else ns

-- the numbers of a seat into which another was joined are those of both
pub numbers_joined : (v w : View) → numbers (merged v w) ≡ numbers v ++ numbers w
numbers_joined v w = by v.may_call w.may_call
  where
    both : (c : Bool)
        → numbers_kept (v.kept ++ kept_by c w) ≡ numbers_kept v.kept ++ numbers_by c w.number (numbers_kept w.kept)
    both true = kept_append v.kept (record { number = w.number; calls = w.mine } ∷ w.kept)
    both false = kept_append v.kept w.kept

    by : (b c : Bool)
        → numbers_by b v.number (numbers_kept (v.kept ++ kept_by c w))
        ≡ numbers_by b v.number (numbers_kept v.kept) ++ numbers_by c w.number (numbers_kept w.kept)
    by true c = ap (λ (ns : List ℕ). v.number ∷ ns) (both c)
    by false c = both c

among_either : (n : ℕ) (xs ys : List ℕ) → IsAmong n (xs ++ ys) → IsAmong n xs ⊎ IsAmong n ys
among_either n [] ys a = inr a
among_either n (x ∷ xs) ys a =
    ⊎_elim (λ h. inl (inl h)) (λ h. ⊎_elim (λ k. inl (inr k)) (λ k. inr k) (among_either n xs ys h)) a

apart_both : (xs ys : List ℕ) → AreApart xs → AreApart ys → ((n : ℕ) → IsAmong n xs → IsAmong n ys → ⊥)
    → AreApart (xs ++ ys)
apart_both [] ys a b differ = b
apart_both (x ∷ xs) ys a b differ = (
  (λ h. ⊎_elim (λ k. a.0 k) (λ k. differ x (inl refl) k) (among_either x xs ys h)),
  apart_both xs ys a.1 b (λ n i j. differ n (inr i) j),
)

kept_fits : (log : List Entry) (xs ys : List KeptCalls) → KeepsCalls log xs → KeepsCalls log ys
    → KeepsCalls log (xs ++ ys)
kept_fits log [] ys a b = b
kept_fits log (x ∷ xs) ys a b = (a.0, kept_fits log xs ys a.1 b)

-- ---- to join

module _ (d : Deal) (id other : ℕ) (w : View) where
  -- what was the other's is the seat's
  abbrev joined : Deal
  joined = record d {
    owner = λ n. if d.owner n == other then id else d.owner n;
    maker = if w.makes then id else d.maker;
  }

  owner_else : (n : ℕ) → d.owner n ≢ other → joined.owner n ≡ d.owner n
  owner_else n ne = ap (λ (b : Bool). if b then id else d.owner n) (ne_eqb (d.owner n) other ne)

  owner_moved : (n : ℕ) → d.owner n ≡ other → joined.owner n ≡ id
  owner_moved n is = ap (λ (b : Bool). if b then id else d.owner n) (eq-eqb (d.owner n) other is)

  others_joined : (log : List Entry) (j : ℕ) (u : View) → j ≢ other → Fits log d other w → Fits log d j u
      → Fits log joined j u
  others_joined log j u ne f g = record {
    seen = g.seen;
    told = g.told;
    mine = g.mine;
    kept = g.kept;
    own = λ n a. (let o = g.own n a in (owner_else n (λ is. ne (sym o.0 ∙ is)) ∙ o.0, o.1));
    apart = g.apart;
    turn = g.turn;
    makes = λ m. (still w.makes refl m, (g.makes m).1);
  }
    where
      still : (b : Bool) → w.makes ≡ b → u.makes ≡ true → (if b then id else d.maker) ≡ j
      still true is m = absurd (ne (sym (g.makes m).0 ∙ (f.makes is).0))
      still false is m = (g.makes m).0

  spent_fits : (log : List Entry) → Fits log joined other nobody
  spent_fits log = record {
    seen = (log, refl);
    told = (log, refl);
    mine = λ c. absurd (off c);
    kept = tt;
    own = λ n a. absurd a;
    apart = tt;
    turn = λ t. absurd (off t);
    makes = λ t. absurd (off t);
  }

  both_fit : (log : List Entry) (v : View) → v.turn ≡ false → other ≢ id → Fits log d id v → Fits log d other w
      → Fits log joined id (merged v w)
  both_fit log v idle ne f g = record {
    seen = f.seen;
    told = g.seen;
    mine = f.mine;
    kept = kept_fits log v.kept (kept_of w) f.kept (kept_too w.may_call refl);
    own = λ n a. ⊎_elim
        (λ h. (let o = f.own n h in (owner_else n (λ is. ne (sym is ∙ o.0)) ∙ o.0, o.1)))
        (λ h. (let o = g.own n h in (owner_moved n o.0, o.1)))
        (among_either n (numbers v) (numbers w) (subst (IsAmong n) (numbers_joined v w) a));
    apart = subst AreApart (sym (numbers_joined v w))
        (apart_both (numbers v) (numbers w) f.apart g.apart (λ n i j. ne (sym (g.own n j).0 ∙ (f.own n i).0)));
    turn = λ t. absurd (true≢false (sym t ∙ idle));
    makes = makes_too w.makes refl;
  }
    where
      kept_too : (b : Bool) → w.may_call ≡ b → KeepsCalls log (kept_by b w)
      kept_too true is = (g.mine is, g.kept)
      kept_too false is = g.kept

      makes_too : (b : Bool) → w.makes ≡ b → (v.makes || b) ≡ true
          → ((if b then id else d.maker) ≡ id) × ((if b then w.given else v.given) ≡ d.given)
      makes_too true is t = (refl, (g.makes is).1)
      makes_too false is t = f.makes (or_false v.makes t)
        where
          or_false : (a : Bool) → (a || false) ≡ true → a ≡ true
          or_false true t = refl
          or_false false t = t

-- a seat that has not the turn is joined into another that has it neither
pub joins : (parts : ProgramParts) (id other : ℕ) (v w : View) → v.turn ≡ false → w.turn ≡ false
    → Joins (IsShared parts) id v other w (merged v w) nobody
joins parts id other v w idle idle' s h at ne at' =
    let there : get_elem? s.views other ≡ some w = sym (set_else s.views id other (merged v w) ne) ∙ at' in
    let f = h.fits id v at in
    let g = h.fits other w there in
    let d' = joined h.deal id other w in
    record {
      log = h.log;
      deal = d';
      history = h.history;
      size = h.size;
      words = h.words;
      home = h.home;
      held = λ t. (let who = h.held t in
          let not_id : h.deal.holder ≢ id
          = (λ is. true≢false (sym who.2
          ∙ (ap (λ (u : View). u.turn) (some-injective who.0 v (sym who.1 ∙ (ap (λ k. get_elem? s.views k) is ∙ at)))
          ∙ idle))) in
          let not_other : h.deal.holder ≢ other
          = (λ is. true≢false (sym who.2
          ∙ (ap (λ (u : View). u.turn)
          (some-injective who.0 w (sym who.1 ∙ (ap (λ k. get_elem? s.views k) is ∙ there))) ∙ idle'))) in (
            who.0,
            set_else (set s.views id (merged v w)) other h.deal.holder nobody not_other
                ∙ (set_else s.views id h.deal.holder (merged v w) not_id ∙ who.1),
            who.2,
          ));
      fits = fits_set h.log d' (set s.views id (merged v w)) other nobody
          (λ j u nj e. ⊎_elim
          (λ (y : (j ≡ id) × (merged v w ≡ u)).
          subst (λ (z : ℕ × View). Fits h.log d' z.0 z.1) (λ i. (sym y.0 i, y.1 i))
          (both_fit h.deal id other w h.log v idle ne f g))
          (λ (y : (j ≢ id) × (get_elem? s.views j ≡ some u)).
          others_joined h.deal id other w h.log j u nj g (h.fits j u y.1))
          (at_set s.views id j (merged v w) u e))
          (spent_fits h.deal id other w h.log);
      fresh = h.fresh;
    }

-- Seats are made and copied, and the office begins.
use Rattle.std.proofs.Common.{if◌then◌else◌, cond, ◌≡◌, ◌≢◌, ◌⊎◌, ◌||◌, ℕ, suc, zero, ◌+◌, ◌<◌, ◌≤◌, ◌==◌, Bool, true, false, true≢false, List, [], ◌∷◌, ◌++◌, length, set, refl, ap, sym, subst, ◌∙◌, arith, ⊎_elim, inl, inr, MatchBool, eqb, eq-eqb, ne_eqb}
use mathlib.Core.Option.{some, none, some-injective, some-ne-none}
use lib.ListN.{get_elem?}
use Rattle.atomic_table.specs.Table.{State, Splits, opening}
use Rattle.atomic_table.proofs.Lists.{at_set, set_here, set_else, at_longer}
use Rattle.behaviour_tree.specs.Data.{ProgramParts}
use Rattle.behaviour_tree.specs.PartsView.{parts_of}
use Rattle.office_core.specs.declared.history.Entry.{Entry}
use Rattle.office_plain.specs.declared.office.Office.{Office}
use Rattle.office_plain.specs.View.{entries_of}
use Rattle.office_sharing.specs.declared.view.View.{View}
use Rattle.office_sharing.specs.Numbers.{entries_by, IsAmong, numbers}
use Rattle.office_sharing.specs.Views.{founder, newcomer, one_more, next_seat, copied}
use Rattle.office_sharing.specs.Rule.{HasHistory, Deal, Fits, FitAll, HasTurn, IsShared}
use Rattle.office_sharing.proofs.Steps.{index_below, off}

at_end : {A : Type 0} (l : List A) (a b : A) (j : ℕ) → get_elem? (l ++ a ∷ []) j ≡ some b
    → (get_elem? l j ≡ some b) ⊎ ((j ≡ length l) × (a ≡ b))
at_end [] a b zero e = inr (refl, some-injective a b e)
at_end [] a b (suc j) e = absurd (some-ne-none b (sym e))
at_end (x ∷ l) a b zero e = inl e
at_end (x ∷ l) a b (suc j) e = ⊎_elim (λ h. inl h) (λ h. inr (omega (arith, h.0), h.1)) (at_end l a b j e)

set_length : {A : Type 0} (l : List A) (i : ℕ) (a : A) → length (set l i a) ≡ length l
set_length [] i a = refl
set_length (x ∷ l) zero a = refl
set_length (x ∷ l) (suc i) a = ap suc (set_length l i a)

-- the views are one more, and one of them changed
fits_one_more : (log : List Entry) (d : Deal) (views : List View) (seat : ℕ) (w u : View)
    → ((j : ℕ) (x : View) → j ≢ seat → j < length views → get_elem? views j ≡ some x → Fits log d j x)
    → Fits log d seat w → Fits log d (length views) u → FitAll log d (set views seat w ++ u ∷ [])
fits_one_more log d views seat w u others mine new j x e =
    ⊎_elim
    (λ (h : get_elem? (set views seat w) j ≡ some x).
    ⊎_elim
    (λ (y : (j ≡ seat) × (w ≡ x)). subst (λ (z : ℕ × View). Fits log d z.0 z.1) (λ i. (sym y.0 i, y.1 i)) mine)
    (λ (y : (j ≢ seat) × (get_elem? views j ≡ some x)). others j x y.0 (index_below views j x y.1) y.1)
    (at_set views seat j w x h))
    (λ (h : (j ≡ length (set views seat w)) × (u ≡ x)).
    subst (λ (z : ℕ × View). Fits log d z.0 z.1) (λ i. (sym (h.0 ∙ set_length views seat w) i, h.1 i)) new)
    (at_end (set views seat w) u x j e)

-- a holder of the turn holds it still, where its view is the same or has the turn still
held_more : (views : List View) (seat k : ℕ) (w u : View)
    → ((v : View) → get_elem? views seat ≡ some v → v.turn ≡ true → w.turn ≡ true) → HasTurn views k
    → HasTurn (set views seat w ++ u ∷ []) k
held_more views seat k w u stays h = by (k == seat) refl
  where
    by : (b : Bool) → (k == seat) ≡ b → HasTurn (set views seat w ++ u ∷ []) k
    by true e =
        let is : k ≡ seat = grind (arith, e) in
        let at : get_elem? views seat ≡ some h.0 = ap (λ n. get_elem? views n) (sym is) ∙ h.1 in (
          w,
          at_longer (set views seat w) (u ∷ []) k w
              (ap (λ n. get_elem? (set views seat w) n) is ∙ set_here views seat w (index_below views seat h.0 at)),
          stays h.0 at h.2,
        )
    by false e =
        let ne : k ≢ seat = (λ is. absurd (true≢false (sym (eq-eqb k seat is) ∙ e))) in
        (h.0, at_longer (set views seat w) (u ∷ []) k h.0 (set_else views seat k w ne ∙ h.1), h.2)

-- ---- to make

-- the number that is given belongs to the new seat
abbrev dealt : Deal → ℕ → Deal
dealt d seat = record d { owner = λ n. if n == d.given then seat else d.owner n; given = d.given + 1 }

owner_stays : (d : Deal) (seat n : ℕ) → n < d.given → (dealt d seat).owner n ≡ d.owner n
owner_stays d seat n less =
    ap (λ b. if b then seat else d.owner n) (ne_eqb n d.given (λ is. absurd (omega (arith, less, is))))

others_dealt : (log : List Entry) (d : Deal) (seat j : ℕ) (x : View) → (x.makes ≡ true → ⊥) → Fits log d j x
    → Fits log (dealt d seat) j x
others_dealt log d seat j x not_maker f = record {
  seen = f.seen;
  told = f.told;
  mine = f.mine;
  kept = f.kept;
  own = λ n a. (let o = f.own n a in (owner_stays d seat n o.1 ∙ o.0, omega (arith, o.1)));
  apart = f.apart;
  turn = f.turn;
  makes = λ m. absurd (not_maker m);
}

-- the maker gives the next number to a new seat
pub makes : (parts : ProgramParts) (id : ℕ) (v : View) → v.makes ≡ true
    → Splits (IsShared parts) id v (one_more v) (next_seat v)
makes parts id v maker s h at =
    let d' = dealt h.deal (length s.views) in
    let f = h.fits id v at in
    let m = f.makes maker in
    record {
      log = h.log;
      deal = d';
      history = h.history;
      size = h.size;
      words = h.words;
      home = h.home;
      held = λ t. held_more s.views id h.deal.holder (one_more v) (next_seat v)
          (λ u at' tu. subst (λ (x : View). x.turn ≡ true) (some-injective u v (sym at' ∙ at)) tu) (h.held t);
      fits = fits_one_more h.log d' s.views id (one_more v) (next_seat v)
          (λ j x ne less at'. others_dealt h.log h.deal (length s.views) j x
          (λ mx. ne (sym ((h.fits j x at').makes mx).0 ∙ m.0)) (h.fits j x at'))
          record {
            seen = f.seen;
            told = f.told;
            mine = f.mine;
            kept = f.kept;
            own = λ n a. (let o = f.own n a in (owner_stays h.deal (length s.views) n o.1 ∙ o.0, omega (arith, o.1)));
            apart = f.apart;
            turn = f.turn;
            makes = λ _. (m.0, ap (λ n. n + 1) m.1);
          }
          record {
            seen = (h.log, refl);
            told = (h.log, refl);
            mine = λ _. h.fresh v.given (omega (arith, m.1));
            kept = tt;
            own = λ n a. ⊎_elim
                (λ (is : n ≡ v.given). (
                  ap (λ b. if b then length s.views else h.deal.owner n) (eq-eqb n h.deal.given (is ∙ m.1)),
                  omega (arith, is, m.1),
                ))
                (λ never. absurd never) a;
            apart = ((λ never. never), tt);
            turn = λ t. absurd (off t);
            makes = λ t. absurd (off t);
          };
      fresh = λ n le. h.fresh n (omega (arith, le));
    }

-- ---- to copy

-- a seat is copied, whatever it has
pub copies : (parts : ProgramParts) (id : ℕ) (v : View) → Splits (IsShared parts) id v v (copied v)
copies parts id v s h at =
    let f = h.fits id v at in
    record {
      log = h.log;
      deal = h.deal;
      history = h.history;
      size = h.size;
      words = h.words;
      home = h.home;
      held = λ t. held_more s.views id h.deal.holder v (copied v)
          (λ u at' tu. subst (λ (x : View). x.turn ≡ true) (some-injective u v (sym at' ∙ at)) tu) (h.held t);
      fits = fits_one_more h.log h.deal s.views id v (copied v) (λ j x ne less at'. h.fits j x at') f
          record {
            seen = f.seen;
            told = (h.log, refl);
            mine = λ c. absurd (off c);
            kept = tt;
            own = λ n a. absurd a;
            apart = tt;
            turn = λ t. absurd (off t);
            makes = λ t. absurd (off t);
          };
      fresh = h.fresh;
    }

-- ---- the beginning

abbrev at_first : Deal
at_first = record { owner = λ n. 0; maker = 0; given = 1; holder = 0; away = false }

-- an office in which nothing happened yet, with the first seat
pub begins : (parts : ProgramParts) (o : Office) → parts_of o.program ≡ parts → entries_of o ≡ []
    → IsShared parts (opening (0 ∷ 0 ∷ []) (o ∷ []) founder)
begins parts o program empty = record {
  log = [];
  deal = at_first;
  history = record { legal = tt; running = refl };
  size = omega arith;
  words = refl;
  home = (o, refl, record { program = program; entries = empty });
  held = λ t. absurd (off t);
  fits = one;
  fresh = λ n le. refl;
}
  where
    one : FitAll [] at_first (founder ∷ [])
    one zero v e = subst (Fits [] at_first 0) (some-injective founder v e) record {
      seen = ([], refl);
      told = ([], refl);
      mine = λ _. refl;
      kept = tt;
      own = λ n a. ⊎_elim (λ (is : n ≡ 0). (refl, omega (arith, is))) (λ never. absurd never) a;
      apart = ((λ never. never), tt);
      turn = λ t. absurd (off t);
      makes = λ _. (refl, refl);
    }
    one (suc j) v e = absurd (some-ne-none v (sym e))

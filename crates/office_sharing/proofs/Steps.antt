-- A seat takes the turn, commits a call, gives the turn back, and looks: each step keeps the rule.
use Rattle.std.proofs.Common.{if◌then◌else◌, cond, ◌≡◌, ◌≢◌, ◌⊎◌, ℕ, suc, zero, ◌+◌, ◌%◌, ◌^◌, ◌<◌, ◌≤◌, ◌==◌, Bool, true, false, true≢false, List, [], ◌∷◌, ◌++◌, length, drop, set, refl, ap, sym, subst, ◌∙◌, arith, ⊎_elim, inl, inr, length-append, MatchBool}
use mathlib.Core.Option.{Option, some, none, some-injective, some-ne-none}
use mathlib.Core.List.{IsPrefix}
use lib.ListN.{get_elem?}
use prog.Atomic.{either}
use Rattle.std.specs.Prelude.{slice_index}
use Rattle.std.proofs.Math.Nat.{mod-eq_of_lt}
use Rattle.atomic_table.specs.Table.{State, Me, Step, step, Act, Allows, Valid, stepped, carried_after, keeps, takes, gives}
use Rattle.atomic_table.proofs.Lists.{at_set, set_here, set_else, set_again}
use Rattle.behaviour_tree.specs.Data.{ProgramParts}
use Rattle.office_core.specs.declared.history.Entry.{Entry}
use Rattle.office_core.specs.Past.{stops}
use Rattle.office_plain.specs.declared.office.Office.{Office}
use Rattle.office_plain.specs.View.{entries_of}
use Rattle.office_sharing.specs.declared.view.KeptCalls.{KeptCalls}
use Rattle.office_sharing.specs.declared.view.View.{View}
use Rattle.office_sharing.specs.Numbers.{entries_by, IsAmong, AreApart, numbers, numbers_kept, KeepsCalls}
use Rattle.office_sharing.specs.Views.{in_turn, off_turn, committed, looked}
use Rattle.office_sharing.specs.Rule.{IsHistory, HasHistory, Deal, Fits, FitAll, HasTurn, word_of, IsPlaced, IsShared}
use Rattle.office_sharing.specs.Plays.{in_hand, TakesTurn, Commits, GivesBack, Looks}
use Rattle.office_sharing.specs.Steps.{IsCall}
use Rattle.office_sharing.proofs.Histories.{prefix_self, prefix_more, drop_append, by_passes, by_adds, legal_of, runs_more}

pub off : false ≡ true → ⊥
off e = true≢false (sym e)

pub index_below : {A : Type 0} (xs : List A) (i : ℕ) (a : A) → get_elem? xs i ≡ some a → i < length xs
index_below [] i a e = absurd (some-ne-none a (sym e))
index_below (x ∷ xs) zero a e = omega arith
index_below (x ∷ xs) (suc i) a e = let h = index_below xs i a e in omega (arith)

-- one seat's view changes
pub fits_set : (log : List Entry) (d : Deal) (views : List View) (seat : ℕ) (w : View)
    → ((j : ℕ) (u : View) → j ≢ seat → get_elem? views j ≡ some u → Fits log d j u) → Fits log d seat w
    → FitAll log d (set views seat w)
fits_set log d views seat w others mine j u e =
    ⊎_elim
    (λ (x : (j ≡ seat) × (w ≡ u)). subst (λ (y : ℕ × View). Fits log d y.0 y.1) (λ i. (sym x.0 i, x.1 i)) mine)
    (λ (x : (j ≢ seat) × (get_elem? views j ≡ some u)). others j u x.0 x.1)
    (at_set views seat j w u e)

-- a seat's own number is among its numbers
pub own_among : (v : View) → v.may_call ≡ true → IsAmong v.number (numbers v)
own_among v may =
    subst (λ b. IsAmong v.number (if b then v.number ∷ numbers_kept v.kept else numbers_kept v.kept)) (sym may)
    (inl refl)

-- ---- to take the turn

-- who has the turn
abbrev with_turn : Deal → Bool → ℕ → Deal
with_turn d b seat = record d { away = b; holder = seat }

-- where nobody had the turn, others fit as they did
others_fit : (log : List Entry) (d : Deal) (seat j : ℕ) (u : View) (b : Bool) → d.away ≡ false → Fits log d j u
    → Fits log (with_turn d b seat) j u
others_fit log d seat j u b home f = record {
  seen = f.seen;
  told = f.told;
  mine = f.mine;
  kept = f.kept;
  own = f.own;
  apart = f.apart;
  turn = λ t. absurd (true≢false (sym (f.turn t).1 ∙ home));
  makes = f.makes;
}

-- the seat that takes the turn has seen all
taker_fits : (log : List Entry) (d : Deal) (seat : ℕ) (v : View) → v.may_call ≡ true → Fits log d seat v
    → Fits log (with_turn d true seat) seat (in_turn v log)
taker_fits log d seat v may f = record {
  seen = prefix_self log;
  told = f.told;
  mine = f.mine;
  kept = f.kept;
  own = f.own;
  apart = f.apart;
  turn = λ t. (may, refl, refl, refl);
  makes = f.makes;
}

module _ (parts : ProgramParts) (id : ℕ) (v : View) (may : v.may_call ≡ true) where
  abbrev Taken : State Office View → Type 0
  Taken s = (w : View) × (a : Act Office) × Valid s.homes [] a
      × IsShared parts (stepped s 0 (either (slice_index s.words 0 == 0) 1 (slice_index s.words 0)) id [] w a)
      × TakesTurn parts (step 1 0 0 1 none) (v, []) (slice_index s.words 0) (w, carried_after [] a)

  takes_free : (views : List View) (log : List Entry) (d : Deal) (o : Office) → IsHistory parts log
      → length log < 9223372036854775808 → d.away ≡ false → HasHistory parts log o → FitAll log d views
      → ((n : ℕ) → d.given ≤ n → entries_by n log ≡ []) → get_elem? views id ≡ some v
      → Taken record { words = 0 ∷ length log ∷ []; homes = some o ∷ []; views = views }
  takes_free views log d o history size home has fits fresh at =
      let d' = with_turn d true id in
      let mine = fits id v at in (
        in_turn v log,
        takes 0 o,
        refl,
        record {
          log = log;
          deal = d';
          history = history;
          size = size;
          words = refl;
          home = refl;
          held = λ t. (in_turn v log, set_here views id (in_turn v log) (index_below views id v at), refl);
          fits = fits_set log d' views id (in_turn v log) (λ j u ne e. others_fit log d id j u true home (fits j u e))
              (taker_fits log d id v may mine);
          fresh = fresh;
        },
        record {
          log = log;
          history = history;
          begins = mine.seen;
          own = mine.mine may;
          view = refl;
          hand = record { office = o; hand = refl; has = has };
        },
      )

  takes_taken : (s : State Office View) (h : IsShared parts s) → s.words ≡ 1 ∷ length h.log ∷ []
      → get_elem? s.views id ≡ some v → Taken s
  takes_taken s h e at =
      subst Taken (λ i. record { words = sym e i; homes = s.homes; views = s.views }) (
        v,
        keeps,
        tt,
        subst (IsShared parts)
            (λ i. record { words = e i; homes = s.homes; views = sym (set_again s.views id v at) i }) h,
        refl,
      )

  by_turn : (b : Bool) (s : State Office View) (h : IsShared parts s) → h.deal.away ≡ b → get_elem? s.views id ≡ some v
      → Taken s
  by_turn true s h e at = takes_taken s h (subst (λ b. s.words ≡ word_of b ∷ length h.log ∷ []) e h.words) at
  by_turn false s h e at =
      let home : IsPlaced parts h.log false s.homes = subst (λ b. IsPlaced parts h.log b s.homes) e h.home in
      let words : s.words ≡ 0 ∷ length h.log ∷ [] = subst (λ b. s.words ≡ word_of b ∷ length h.log ∷ []) e h.words in
      subst Taken (λ i. record { words = sym words i; homes = sym home.1 i; views = s.views })
      (takes_free s.views h.log h.deal home.0 h.history h.size e home.2 h.fits h.fresh at)

-- whatever the office is, a seat that may call takes the turn, or finds it taken
pub takes_turn : (parts : ProgramParts) (id : ℕ) (v : View) → v.may_call ≡ true
    → Allows (IsShared parts) 1 id (v, []) 0 (λ n. either (n == 0) 1 n) (TakesTurn parts (step 1 0 0 1 none) (v, []))
takes_turn parts id v may s h n at small = by_turn parts id v may h.deal.away s h refl at

-- ---- to commit

-- others fit a history that has one call more, of the seat that has the turn
others_longer : (log : List Entry) (d : Deal) (seat j : ℕ) (u : View) (e : Entry) → d.owner e.actor ≡ seat
    → d.holder ≡ seat → j ≢ seat → Fits log d j u → Fits (log ++ e ∷ []) d j u
others_longer log d seat j u e owns holds apart f = record {
  seen = prefix_more u.seen log (e ∷ []) f.seen;
  told = prefix_more u.told log (e ∷ []) f.told;
  mine = λ may. by_passes u.number log e (foreign u.number (own_among u may)) ∙ f.mine may;
  kept = kept_longer u.kept (λ n a. f.own n (kept_among u n a)) f.kept;
  own = f.own;
  apart = f.apart;
  turn = λ t. absurd (apart (sym (f.turn t).2 ∙ holds));
  makes = f.makes;
}
  where
    foreign : (n : ℕ) → IsAmong n (numbers u) → e.actor ≢ n
    foreign n a = (λ is. apart (sym (f.own n a).0 ∙ (ap d.owner (sym is) ∙ owns)))

    kept_among : (v : View) (n : ℕ) → IsAmong n (numbers_kept v.kept) → IsAmong n (numbers v)
    kept_among v n a = by v.may_call
      where
        by : (b : Bool) → IsAmong n (if b then v.number ∷ numbers_kept v.kept else numbers_kept v.kept)
        by true = inr a
        by false = a

    kept_longer : (ks : List KeptCalls) → ((n : ℕ) → IsAmong n (numbers_kept ks) → (d.owner n ≡ j) × (n < d.given))
        → KeepsCalls log ks → KeepsCalls (log ++ e ∷ []) ks
    kept_longer [] own fits = tt
    kept_longer (k ∷ ks) own fits = (
      by_passes k.number log e (λ is. apart (sym (own k.number (inl refl)).0 ∙ (ap d.owner (sym is) ∙ owns))) ∙ fits.0,
      kept_longer ks (λ n a. own n (inr a)) fits.1,
    )

-- the seat that has the turn and made a call
caller_fits : (log : List Entry) (d : Deal) (seat : ℕ) (v : View) (e : Entry) → v.turn ≡ true → e.actor ≡ v.number
    → Fits log d seat v → Fits (log ++ e ∷ []) d seat (committed v (log ++ e ∷ []))
caller_fits log d seat v e turn by f =
    let t = f.turn turn in record {
      seen = prefix_self (log ++ e ∷ []);
      told = prefix_more v.told log (e ∷ []) f.told;
      mine = λ may. by_adds v.number log e by
          ∙ (ap (λ es. es ++ e ∷ []) (f.mine may)
          ∙ ap (λ es. v.mine ++ es)
          (sym (ap (λ (l : List Entry). drop (length l) (log ++ e ∷ [])) t.3 ∙ drop_append log (e ∷ []))));
      kept = kept_stays v.kept (not_own v t.0 f.apart) f.kept;
      own = f.own;
      apart = f.apart;
      turn = λ _. (t.0, t.1, t.2, refl);
      makes = f.makes;
    }
  where
    not_own : (u : View) → u.may_call ≡ true → AreApart (numbers u) → IsAmong u.number (numbers_kept u.kept) → ⊥
    not_own u may a =
        (subst (λ b. AreApart (if b then u.number ∷ numbers_kept u.kept else numbers_kept u.kept)) may a).0

    kept_stays : (ks : List KeptCalls) → (IsAmong v.number (numbers_kept ks) → ⊥) → KeepsCalls log ks
        → KeepsCalls (log ++ e ∷ []) ks
    kept_stays [] apart fits = tt
    kept_stays (k ∷ ks) apart fits = (
      by_passes k.number log e (λ is. apart (inl (sym by ∙ is))) ∙ fits.0,
      kept_stays ks (λ a. apart (inr a)) fits.1,
    )

module _ (parts : ProgramParts) (id : ℕ) (v : View) (o : Office) (e : Entry) (turn : v.turn ≡ true) (call : IsCall v e)
    (has : HasHistory parts (v.seen ++ e ∷ []) o) (size : length (entries_of o) < 9223372036854775808) where
  abbrev Committed : State Office View → Type 0
  Committed s = (w : View) × (a : Act Office) × Valid s.homes ((0, o) ∷ []) a
      × IsShared parts (stepped s 1 ((slice_index s.words 1 + 1) % 2 ^ 64) id ((0, o) ∷ []) w a)
      × Commits (step 1 1 1 0 none) (v, (0, o) ∷ []) (slice_index s.words 1) (w, carried_after ((0, o) ∷ []) a)

  commits_away : (views : List View) (log : List Entry) (d : Deal) → IsHistory parts log → v.seen ≡ log → d.away ≡ true
      → d.holder ≡ id → FitAll log d views → ((n : ℕ) → d.given ≤ n → entries_by n log ≡ [])
      → get_elem? views id ≡ some v → Committed record { words = 1 ∷ length log ∷ []; homes = none ∷ []; views = views }
  commits_away views log d history seen away holds fits fresh at =
      let mine = fits id v at in
      let now : entries_of o ≡ log ++ e ∷ [] = has.entries ∙ ap (λ l. l ++ e ∷ []) seen in
      let w = committed v (entries_of o) in
      let long : length (entries_of o) ≡ length log + 1 = ap length now ∙ length-append log (e ∷ []) in
      let sum : (length log + 1) % 18446744073709551616 ≡ length (entries_of o)
      = mod-eq_of_lt (omega (arith, long, size)) ∙ sym long in
      let owns = mine.own v.number (own_among v (mine.turn turn).0) in (
        w,
        keeps,
        tt,
        record {
          log = entries_of o;
          deal = d;
          history = subst (IsHistory parts) (sym now) record {
            legal = legal_of parts (log ++ e ∷ []) o record { program = has.program; entries = now };
            running = runs_more parts log e call.goes history.running;
          };
          size = size;
          words = (λ i. word_of (sym away i) ∷ sum i ∷ []);
          home = subst (λ b. IsPlaced parts (entries_of o) b (none ∷ [])) (sym away) refl;
          held = λ t. (
            w,
            subst (λ k. get_elem? (set views id w) k ≡ some w) (sym holds)
                (set_here views id w (index_below views id v at)),
            turn,
          );
          fits = subst (λ l. FitAll l d (set views id (committed v l))) (sym now)
              (fits_set (log ++ e ∷ []) d views id (committed v (log ++ e ∷ []))
              (λ j u ne at'. others_longer log d id j u e (ap d.owner call.by ∙ owns.0) holds ne (fits j u at'))
              (caller_fits log d id v e turn call.by mine));
          fresh = λ n le. ap (entries_by n) now ∙ (by_passes n log e (below n le owns.1) ∙ fresh n le);
        },
        refl,
      )
    where
      below : (n : ℕ) → d.given ≤ n → v.number < d.given → e.actor ≢ n
      below n le less = (λ is. absurd (omega (arith, less, le, call.by, is)))

  commits_shared : (s : State Office View) (h : IsShared parts s) → get_elem? s.views id ≡ some v → Committed s
  commits_shared s h at =
      let mine = (h.fits id v at).turn turn in
      let words : s.words ≡ 1 ∷ length h.log ∷ []
      = subst (λ b. s.words ≡ word_of b ∷ length h.log ∷ []) mine.1 h.words in
      let home : s.homes ≡ none ∷ [] = subst (λ b. IsPlaced parts h.log b s.homes) mine.1 h.home in
      subst Committed (λ i. record { words = sym words i; homes = sym home i; views = s.views })
      (commits_away s.views h.log h.deal h.history mine.3 mine.1 mine.2 h.fits h.fresh at)

-- a seat that has the turn, and made a call on the office in its hand, commits it
pub commits : (parts : ProgramParts) (id : ℕ) (v : View) (o : Office) (e : Entry) → v.turn ≡ true → IsCall v e
    → HasHistory parts (v.seen ++ e ∷ []) o → length (entries_of o) < 9223372036854775808
    → Allows (IsShared parts) 1 id (v, (0, o) ∷ []) 1 (λ n. (n + 1) % 2 ^ 64)
    (Commits (step 1 1 1 0 none) (v, (0, o) ∷ []))
commits parts id v o e turn call has size s h n at small = commits_shared parts id v o e turn call has size s h at

-- ---- to give the turn back

-- others fit as they did where another than they gives the turn back
others_rest : (log : List Entry) (d : Deal) (seat j : ℕ) (u : View) → d.holder ≡ seat → j ≢ seat → Fits log d j u
    → Fits log (with_turn d false seat) j u
others_rest log d seat j u holds apart f = record {
  seen = f.seen;
  told = f.told;
  mine = f.mine;
  kept = f.kept;
  own = f.own;
  apart = f.apart;
  turn = λ t. absurd (apart (sym (f.turn t).2 ∙ holds));
  makes = f.makes;
}

module _ (parts : ProgramParts) (id : ℕ) (v : View) (o : Office) (turn : v.turn ≡ true)
    (has : HasHistory parts v.seen o) where
  abbrev Given : State Office View → Type 0
  Given s = (w : View) × (a : Act Office) × Valid s.homes ((0, o) ∷ []) a
      × IsShared parts (stepped s 0 0 id ((0, o) ∷ []) w a)
      × GivesBack (step 1 0 0 0 none) (v, (0, o) ∷ []) 0 (w, carried_after ((0, o) ∷ []) a)

  gives_away : (views : List View) (log : List Entry) (d : Deal) → IsHistory parts log
      → length log < 9223372036854775808 → v.seen ≡ log → d.holder ≡ id → FitAll log d views → ((n : ℕ) → d.given ≤ n → entries_by n log ≡ [])
      → get_elem? views id ≡ some v → Given record { words = 1 ∷ length log ∷ []; homes = none ∷ []; views = views }
  gives_away views log d history size seen holds fits fresh at =
      let f = fits id v at in (
        off_turn v,
        gives,
        tt,
        record {
          log = log;
          deal = with_turn d false id;
          history = history;
          size = size;
          words = refl;
          home = (o, refl, record { program = has.program; entries = has.entries ∙ seen });
          held = λ t. absurd (off t);
          fits = fits_set log (with_turn d false id) views id (off_turn v)
              (λ j u ne at'. others_rest log d id j u holds ne (fits j u at'))
              record {
                seen = f.seen;
                told = f.told;
                mine = f.mine;
                kept = f.kept;
                own = f.own;
                apart = f.apart;
                turn = λ t. absurd (off t);
                makes = f.makes;
              };
          fresh = fresh;
        },
        refl,
      )

  gives_shared : (s : State Office View) (h : IsShared parts s) → get_elem? s.views id ≡ some v → Given s
  gives_shared s h at =
      let mine = (h.fits id v at).turn turn in
      let words : s.words ≡ 1 ∷ length h.log ∷ []
      = subst (λ b. s.words ≡ word_of b ∷ length h.log ∷ []) mine.1 h.words in
      let home : s.homes ≡ none ∷ [] = subst (λ b. IsPlaced parts h.log b s.homes) mine.1 h.home in
      subst Given (λ i. record { words = sym words i; homes = sym home i; views = s.views })
      (gives_away s.views h.log h.deal h.history h.size mine.3 mine.2 h.fits h.fresh at)

-- a seat that has the turn, and has seen what the office in its hand has, gives it back
pub gives_back : (parts : ProgramParts) (id : ℕ) (v : View) (o : Office) → v.turn ≡ true → HasHistory parts v.seen o
    → Allows (IsShared parts) 1 id (v, (0, o) ∷ []) 0 (λ _. 0) (λ _. GivesBack (step 1 0 0 0 none) (v, (0, o) ∷ []) 0)
gives_back parts id v o turn has s h n at small = gives_shared parts id v o turn has s h at

-- ---- to look

-- a seat without the turn sees how long the history is, and has seen all then
pub looks : (parts : ProgramParts) (id : ℕ) (v : View) → v.turn ≡ false
    → Allows (IsShared parts) 1 id (v, []) 1 (λ n. n) (Looks parts (step 1 1 0 0 none) (v, []))
looks parts id v turn s h n at small =
    let f = h.fits id v at in
    let w : View = looked v h.log in
    let word : slice_index s.words 1 ≡ length h.log = ap (λ l. slice_index l 1) h.words in (
      w,
      keeps,
      tt,
      record {
        log = h.log;
        deal = h.deal;
        history = h.history;
        size = h.size;
        words = ap (λ l. set l 1 (slice_index s.words 1)) h.words ∙ ap (λ k. word_of h.deal.away ∷ k ∷ []) word;
        home = h.home;
        held = λ t. let who = h.held t in (
          who.0,
          set_else s.views id h.deal.holder w
              (λ is. true≢false (sym who.2
              ∙ (ap (λ (u : View). u.turn) (some-injective who.0 v (sym who.1 ∙ (ap (λ k. get_elem? s.views k) is ∙ at)))
              ∙ turn)))
              ∙ who.1,
          who.2,
        );
        fits = fits_set h.log h.deal s.views id w (λ j u ne at'. h.fits j u at')
            record {
              seen = prefix_self h.log;
              told = (h.log, refl);
              mine = f.mine;
              kept = f.kept;
              own = f.own;
              apart = f.apart;
              turn = λ t. absurd (true≢false (sym t ∙ turn));
              makes = f.makes;
            };
        fresh = h.fresh;
      },
      (
        record {
          log = h.log;
          history = h.history;
          begins = f.seen;
          told = f.told;
          own = f.mine;
          count = sym word;
          view = refl;
        },
        refl,
      ),
    )

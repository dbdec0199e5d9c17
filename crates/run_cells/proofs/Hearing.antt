-- What a look at an entry makes of who is awake, piece by piece.
use Rattle.std.proofs.Common.{◌≡◌, ◌⊎◌, ◌≤◌, ◌<◌, ℕ, zero, suc, ◌+◌, Bool, true, false, ◌||◌, List, [], ◌∷◌, ◌++◌, length, inl, inr, refl, sym, ap, subst, ◌∙◌, arith}
use Rattle.std.specs.Prelude.{Err, Ok, OnOk, Result, get_or, nat_eq, slice_set, take}
use Rattle.std.specs.List.{list_any}
use Rattle.std.proofs.lemmas.Bool.{eq-eqb, eqb-true, false≢true, or_left, or_right}
use Rattle.std.proofs.lemmas.List.{take_all, take_more}
use Rattle.std.proofs.lemmas.List.Folds.{list_any-append}
use Rattle.reqresp_book.specs.declared.origin.Origin.{Origin}
use Rattle.reqresp_book.specs.declared.origin.Origin.TheVariants as origin
use Rattle.office_core.specs.declared.message.Message.{Message}
use Rattle.run_cells.specs.Awake.{IsOn, PutsOn}
use Rattle.run_cells.specs.News.{IsReceived, IsWoken, Keeps, Told, Widens, is_sender}

-- ---- who is awake

pub widens_not : (count : ℕ) (ns : List ℕ) → Widens count ns ns
widens_not count ns = record { stay = λ n on. on; below = λ n on. inl on }

pub widens_on : {count : ℕ} {old mid new : List ℕ} → Widens count old mid → Widens count mid new → Widens count old new
widens_on {count} {old} {mid} {new} x y = record {
  stay = λ n on. y.stay n (x.stay n on);
  below = λ n on. go n (y.below n on);
}
  where
    go : (n : ℕ) → IsOn mid n ⊎ (n < count) → IsOn old n ⊎ (n < count)
    go n (inl on) = x.below n on
    go n (inr l) = inr l

pub widens_put : {count n : ℕ} {old new : List ℕ} → n < count → PutsOn n old new → Widens count old new
widens_put {count} {n} {old} {new} l put = record {
  stay = put.stay;
  below = λ m on. go m (put.only m on);
}
  where
    go : (m : ℕ) → IsOn old m ⊎ (m ≡ n) → IsOn old m ⊎ (m < count)
    go m (inl on) = inl on
    go m (inr e) = inr (subst (λ (k : ℕ). k < count) (sym e) l)

pub woken_on : {count n : ℕ} {old new : List ℕ} → Widens count old new → IsWoken count old n → IsWoken count new n
woken_on {n = n} x woken l = x.stay n (woken l)

-- ---- those on a list, one after the other

-- those before a place are awake
abbrev pub AreWoken : ℕ → List ℕ → List ℕ → Type 0
AreWoken count awake ss = (s : ℕ) → list_any (nat_eq s) ss ≡ true → IsWoken count awake s

pub woken_none : (count : ℕ) (awake : List ℕ) → AreWoken count awake []
woken_none count awake s h = absurd (false≢true h)

pub woken_more : {count n : ℕ} {old new : List ℕ} (ss : List ℕ) → Widens count old new → IsWoken count new n
    → AreWoken count old ss → AreWoken count new (ss ++ n ∷ [])
woken_more {count} {n} {old} {new} ss x woken before s h = by (list_any (nat_eq s) ss) refl
  where
    by : (b : Bool) → list_any (nat_eq s) ss ≡ b → IsWoken count new s
    by true is = woken_on x (before s is)
    by false is = last (nat_eq s n) refl (sym (ap (λ b. b || (nat_eq s n || false)) is) ∙ sym (list_any-append (nat_eq s) ss (n ∷ [])) ∙ h)
      where
        last : (b : Bool) → nat_eq s n ≡ b → (b || false) ≡ true → IsWoken count new s
        last true e f = subst (IsWoken count new) (sym (eqb-true s n e)) woken
        last false e f = absurd (false≢true f)

-- one session of a list after those before it
pub woken_step : {count : ℕ} {old new : List ℕ} (ss : List ℕ) (i : ℕ) → i < length ss → Widens count old new
    → IsWoken count new (get_or ss i 0) → AreWoken count old (take i ss) → AreWoken count new (take (i + 1) ss)
woken_step {count} {old} {new} ss i l x woken before =
    subst (AreWoken count new) (sym (take_more ss i 0 l)) (woken_more (take i ss) x woken before)

-- all of a list
pub woken_all : {count : ℕ} {awake : List ℕ} (ss : List ℕ) (i : ℕ) → length ss ≤ i → AreWoken count awake (take i ss)
    → AreWoken count awake ss
woken_all {count} {awake} ss i l woken = subst (AreWoken count awake) (take_all i ss l) woken

-- ---- senders

pub keeps_not : (senders : List (List ℕ)) → Keeps senders senders
keeps_not senders t s h = h

pub keeps_on : (old mid new : List (List ℕ)) → Keeps old mid → Keeps mid new → Keeps old new
keeps_on old mid new x y t s h = y t s (x t s h)

-- an empty list more
pub keeps_more : (senders : List (List ℕ)) (none : List ℕ) → Keeps senders (senders ++ none ∷ [])
keeps_more [] none t s h = absurd (false≢true h)
keeps_more (ss ∷ senders) none zero s h = h
keeps_more (ss ∷ senders) none (suc t) s h = keeps_more senders none t s h

any-more : (s n : ℕ) (ss : List ℕ) → list_any (nat_eq s) ss ≡ true → list_any (nat_eq s) (ss ++ n ∷ []) ≡ true
any-more s n ss h = list_any-append (nat_eq s) ss (n ∷ []) ∙ or_left (list_any (nat_eq s) ss) (nat_eq s n || false) h

any-last : (n : ℕ) (ss : List ℕ) → list_any (nat_eq n) (ss ++ n ∷ []) ≡ true
any-last n ss =
    list_any-append (nat_eq n) ss (n ∷ [])
    ∙ or_right (list_any (nat_eq n) ss) (nat_eq n n || false) (or_left (nat_eq n n) false (eq-eqb n n refl))

-- one more on the list of a session
pub keeps_set : (senders : List (List ℕ)) (t n : ℕ) (ss : List ℕ) → t < length senders → ss ≡ get_or senders t ss
    → Keeps senders (slice_set senders t (ss ++ n ∷ []))
keeps_set [] t n ss l is r s h = absurd (false≢true h)
keeps_set (xs ∷ senders) zero n ss l is zero s h =
    subst (λ (ys : List ℕ). list_any (nat_eq s) (ys ++ n ∷ []) ≡ true) (sym is) (any-more s n xs h)
keeps_set (xs ∷ senders) zero n ss l is (suc r) s h = h
keeps_set (xs ∷ senders) (suc t) n ss l is zero s h = h
keeps_set (xs ∷ senders) (suc t) n ss l is (suc r) s h = keeps_set senders t n ss (omega arith) is r s h

pub noted_set : (senders : List (List ℕ)) (t n : ℕ) (ss : List ℕ) → t < length senders
    → is_sender (slice_set senders t (ss ++ n ∷ [])) t n ≡ true
noted_set [] t n ss l = absurd (omega arith)
noted_set (xs ∷ senders) zero n ss l = any-last n ss
noted_set (xs ∷ senders) (suc t) n ss l = noted_set senders t n ss (omega arith)

-- where one more was put on the list of a session
pub note_kept : {X E : Type 0} (r : Result X E) (old mid : List (List ℕ)) (t n : ℕ) (ss new : List ℕ) → Keeps old mid
    → t < length mid → ss ≡ get_or mid t ss → OnOk r (new ≡ ss ++ n ∷ []) → OnOk r (Keeps old (slice_set mid t new))
note_kept (Ok x) old mid t n ss new keeps l is e =
    keeps_on old mid (slice_set mid t new) keeps
    (subst (λ (ys : List ℕ). Keeps mid (slice_set mid t ys)) (sym e) (keeps_set mid t n ss l is))
note_kept (Err x) old mid t n ss new keeps l is e = tt

pub note_noted : {X E : Type 0} (r : Result X E) (mid : List (List ℕ)) (t n : ℕ) (ss new : List ℕ) → t < length mid
    → OnOk r (new ≡ ss ++ n ∷ []) → OnOk r (is_sender (slice_set mid t new) t n ≡ true)
note_noted (Ok x) mid t n ss new l e =
    subst (λ (ys : List ℕ). is_sender (slice_set mid t ys) t n ≡ true) (sym e) (noted_set mid t n ss l)
note_noted (Err x) mid t n ss new l e = tt

-- ---- a message that came

-- it came in at a port
pub received_port : {count j i : ℕ} {m : Message} {told : Told} → m.origin ≡ origin.Port j i
    → IsWoken count told.awake m.session → IsReceived count m told
received_port {count} {j} {i} {m} {told} e woken = record {
  woken = woken;
  noted = λ s mine.
      absurd (false≢true (sym (ap (λ (g : Origin). elim g [ origin.Port a b ↦ false | origin.Session t k ↦ nat_eq s t ]) e) ∙ mine));
}

-- a session sent it
pub received_session : {count t k : ℕ} {m : Message} {told : Told} → m.origin ≡ origin.Session t k
    → IsWoken count told.awake m.session → is_sender told.senders m.session t ≡ true → IsReceived count m told
received_session {count} {t} {k} {m} {told} e woken noted = record {
  woken = woken;
  noted = λ s mine.
      subst (λ (x : ℕ). is_sender told.senders m.session x ≡ true)
      (sym (eqb-true s t (sym (ap (λ (g : Origin). elim g [ origin.Port a b ↦ false | origin.Session x y ↦ nat_eq s x ]) e) ∙ mine)))
      noted;
}

-- In a legal history the calls of a session are numbered from 0, in order.
use Rattle.std.proofs.Common.{◌≡◌, ◌<◌, ◌≤◌, ℕ, zero, suc, ◌+◌, Bool, true, false, ◌&&◌, List, [], ◌∷◌, ◌++◌, length, refl, sym, ap, subst, ◌∙◌, Option, None, Some, true≢false, arith}
use Rattle.std.specs.Prelude.{nat_eq, slice_get, if◌then◌else◌}
use Rattle.std.specs.List.{filter, filter_map}
use Rattle.std.specs.Cmp.{unsigned_Decides}
use Rattle.jolie_trees.specs.Data.{Tree}
use Rattle.office_core.specs.declared.history.Act.{Act}
use Rattle.office_core.specs.declared.history.Act.TheVariants as act
use Rattle.office_core.specs.declared.history.Entry.{Entry}
use Rattle.office_core.specs.declared.history.Placed.{Placed}
use Rattle.office_core.specs.Limits.{Setting}
use Rattle.office_core.specs.Past.{Past, nothing_yet}
use Rattle.office_core.specs.Accepted.{then_one, then_all, past_of}
use Rattle.office_core.specs.Calls.{Call, calls, sent_in, next_call}
use Rattle.office_core.specs.Legal.{is_acting, is_allowed, AreLegal, IsLegal}
use Rattle.office_core.proofs.Longer.{given_same, given_more}

-- the calls of a session, in order
abbrev pub calls_by : Past → ℕ → List Call
calls_by past s = filter (λ c. nat_eq s c.session) (calls past)

-- each call of a session has the number of its place
abbrev pub Numbered : Past → ℕ → Type 0
Numbered past s = (k : ℕ) (c : Call) → slice_get (calls_by past s) k ≡ Some c → c.number ≡ k

none_not_some : {A : Type 0} (x : A) → None ≡ Some x → ⊥
none_not_some x h = true≢false (sym (ap (λ o. elim o [ None ↦ false | Some y ↦ true ]) h))

same_of : {A : Type 0} (x y : A) → Some x ≡ Some y → x ≡ y
same_of x y h = ap (λ o. elim o [ None ↦ x | Some z ↦ z ]) h

-- the kept elements of a list with one more
filter_more : {A : Type 0} (p : A → Bool) (xs : List A) (x : A) → filter p (xs ++ x ∷ []) ≡ filter p xs ++ (if p x then x ∷ [] else [])
filter_more p [] x = refl
filter_more p (y ∷ xs) x = by (p y) (filter_more p xs x)
  where
    by : (b : Bool) → filter p (xs ++ x ∷ []) ≡ filter p xs ++ (if p x then x ∷ [] else [])
        → (if b then y ∷ filter p (xs ++ x ∷ []) else filter p (xs ++ x ∷ []))
        ≡ (if b then y ∷ filter p xs else filter p xs) ++ (if p x then x ∷ [] else [])
    by true h = ap (λ l. y ∷ l) h
    by false h = h

-- where each element has the number of its place, so it is with one more that has the next number
numbers_more : (xs : List Call) (x : Call) (base : ℕ) → ((k : ℕ) (c : Call) → slice_get xs k ≡ Some c → c.number ≡ base + k)
    → x.number ≡ base + length xs → (k : ℕ) (c : Call) → slice_get (xs ++ x ∷ []) k ≡ Some c → c.number ≡ base + k
numbers_more [] x base h e zero c g = ap (λ (y : Call). y.number) (sym (same_of x c g)) ∙ e
numbers_more [] x base h e (suc k) c g = absurd (none_not_some c g)
numbers_more (y ∷ xs) x base h e zero c g = h zero c g
numbers_more (y ∷ xs) x base h e (suc k) c g =
    let next : x.number ≡ suc base + length xs = later x.number base (length xs) e in
    back c.number base k (numbers_more xs x (suc base) (λ j d q. later d.number base j (h (suc j) d q)) next k c g)
  where
    later : (n b l : ℕ) → n ≡ b + suc l → n ≡ suc b + l
    later n b l q = omega arith

    back : (n b l : ℕ) → n ≡ suc b + l → n ≡ b + suc l
    back n b l q = omega arith

both_right : (a b : Bool) → (a && b) ≡ true → b ≡ true
both_right true b h = h
both_right false b h = absurd (true≢false (sym h))

-- the calls of a session with one more call, by whether it is of the session
by_send : (w : Setting) (past : Past) (t : ℕ) (e : Entry) (x : Call) (b : Bool) → sent_in e ≡ Some x → nat_eq t x.session ≡ b
    → (b ≡ true → x.number ≡ next_call past t) → Numbered past t → Numbered (then_one w past e) t
by_send w past t e x b sent q number h =
    subst (λ (cs : List Call). (k : ℕ) (c : Call) → slice_get cs k ≡ Some c → c.number ≡ k) (sym more) (of b refl)
  where
    more : calls_by (then_one w past e) t ≡ calls_by past t ++ (if b then x ∷ [] else [])
    more =
        ap (filter (λ c. nat_eq t c.session)) (given_more w past e sent_in x sent)
        ∙ filter_more (λ (c : Call). nat_eq t c.session) (calls past) x
        ∙ ap (λ y. calls_by past t ++ (if y then x ∷ [] else [])) q

    append_nil : (xs : List Call) → xs ++ [] ≡ xs
    append_nil [] = refl
    append_nil (y ∷ xs) = ap (λ l. y ∷ l) (append_nil xs)

    zero_more : (n k : ℕ) → n ≡ k → n ≡ 0 + k
    zero_more n k e = omega arith

    zero_less : (n k : ℕ) → n ≡ 0 + k → n ≡ k
    zero_less n k e = omega arith

    of : (y : Bool) → b ≡ y → (k : ℕ) (c : Call) → slice_get (calls_by past t ++ (if y then x ∷ [] else [])) k ≡ Some c → c.number ≡ k
    of true y k c g =
        zero_less c.number k
        (numbers_more (calls_by past t) x 0 (λ j d p. zero_more d.number j (h j d p)) (zero_more x.number (next_call past t) (number y)) k c g)
    of false y k c g = h k c (sym (ap (λ cs. slice_get cs k) (append_nil (calls_by past t))) ∙ g)

by_act : (w : Setting) (past : Past) (t s : ℕ) (a : Act)
    → is_allowed w past s a ≡ true → Numbered past t → Numbered (then_one w past (record { actor = s; act = a })) t
by_act w past t s (act.Send k port op v wants r) h numbered =
    by_send w past t
    (record { actor = s; act = act.Send k port op v wants r })
    (record { session = s; number = k; port = port; op = op; value = v; wants = wants; placed = r })
    (nat_eq t s)
    refl
    refl
    (λ q. (unsigned_Decides k (next_call past s)).0 (both_right (is_acting w past s) (nat_eq k (next_call past s)) h)
    ∙ ap (next_call past) (sym ((unsigned_Decides t s).0 q)))
    numbered
by_act w past t s a h numbered =
    subst (λ (cs : List Call). (k : ℕ) (c : Call) → slice_get (filter (λ d. nat_eq t d.session) cs) k ≡ Some c → c.number ≡ k)
    (sym (given_same w past (record { actor = s; act = a }) sent_in refl)) numbered

numbered_after : (w : Setting) (past : Past) (t : ℕ) (es : List Entry)
    → AreLegal w past es → Numbered past t → Numbered (then_all w past es) t
numbered_after w past t [] h numbered = numbered
numbered_after w past t (e ∷ es) h numbered =
    numbered_after w (then_one w past e) t es h.1 (by_act w past t e.actor e.act (h.0).allowed numbered)

-- the calls of each session of a legal history are numbered from 0
pub calls_rise : (w : Setting) (h : List Entry) (s : ℕ) → IsLegal w h → Numbered (past_of w h) s
calls_rise w h s legal = numbered_after w nothing_yet s h legal (λ k c g. absurd (none_not_some c g))

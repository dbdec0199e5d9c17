-- The calls of a kind by their places, and the one call that has a number.
use Rattle.std.proofs.Common.{◌≡◌, ◌≢◌, ℕ, zero, suc, ◌+◌, Bool, true, false, not, ◌&&◌, List, [], ◌∷◌, ◌++◌, refl, sym, ap, subst, ◌∙◌, Option, None, Some, true≢false, add-zero, arith}
use Rattle.std.specs.Prelude.{nat_eq, slice_get, if◌then◌else◌}
use Rattle.std.specs.List.{filter}
use Rattle.office_core.specs.declared.message.Call.{Call}
use Rattle.office_core.specs.Past.{Past}
use Rattle.office_core.specs.Keys.{first}
use Rattle.office_core.specs.Calls.{calls, is_call, call}
use Rattle.office_core.proofs.Numbers.{calls_by, Numbered}
use Rattle.office_plain.specs.Kept.{places_from, call_places}
use Rattle.office_plain.proofs.Acting.{left, right}
use Rattle.office_plain.proofs.Lists.{same_of, none_not_some, itself, eq_true, not_eq}

-- ---- the place of a rank

-- the place of rank k, behind base others: the call there is of the kind, and the one of that rank
pub record At (q : Call → Bool) (base : ℕ) (cs : List Call) (k p : ℕ) : Type 0 where
  pub place : ℕ
  pub number : p ≡ base + place
  pub found : Call
  pub there : slice_get cs place ≡ Some found
  pub is_it : q found ≡ true
  pub ranks : slice_get (filter q cs) k ≡ Some found

behind : (p base j : ℕ) → p ≡ suc base + j → p ≡ base + suc j
behind p base j h = omega arith

at_head : (q : Call → Bool) (base : ℕ) (c : Call) (cs : List Call) (k p : ℕ) (b : Bool) → q c ≡ b
    → ((j : ℕ) → slice_get (places_from q (suc base) cs) j ≡ Some p → At q (suc base) cs j p)
    → slice_get (places_from q base (c ∷ cs)) k ≡ Some p → At q base (c ∷ cs) k p
at_head q base c cs zero p true e next h =
    record {
      place = 0;
      number = sym (same_of base p (sym (ap (λ b. slice_get ((if b then base ∷ [] else []) ++ places_from q (suc base) cs) 0) e) ∙ h)) ∙ sym (add-zero base);
      found = c;
      there = refl;
      is_it = e;
      ranks = ap (λ b. slice_get (if b then c ∷ filter q cs else filter q cs) 0) e;
    }
at_head q base c cs (suc k) p true e next h =
    let seat = next k (sym (ap (λ b. slice_get ((if b then base ∷ [] else []) ++ places_from q (suc base) cs) (suc k)) e) ∙ h) in
    record {
      place = suc seat.place;
      number = behind p base seat.place seat.number;
      found = seat.found;
      there = seat.there;
      is_it = seat.is_it;
      ranks = ap (λ b. slice_get (if b then c ∷ filter q cs else filter q cs) (suc k)) e ∙ seat.ranks;
    }
at_head q base c cs k p false e next h =
    let seat = next k (sym (ap (λ b. slice_get ((if b then base ∷ [] else []) ++ places_from q (suc base) cs) k) e) ∙ h) in
    record {
      place = suc seat.place;
      number = behind p base seat.place seat.number;
      found = seat.found;
      there = seat.there;
      is_it = seat.is_it;
      ranks = ap (λ b. slice_get (if b then c ∷ filter q cs else filter q cs) k) e ∙ seat.ranks;
    }

pub at_place : (q : Call → Bool) (base : ℕ) (cs : List Call) (k p : ℕ)
    → slice_get (places_from q base cs) k ≡ Some p → At q base cs k p
at_place q base [] k p h = absurd (none_not_some p h)
at_place q base (c ∷ cs) k p h = at_head q base c cs k p (q c) refl (λ j g. at_place q (suc base) cs j p g) h

-- ---- the rank of a place

-- a call of the kind has a rank: that of its place
pub record Ranked (q : Call → Bool) (base : ℕ) (cs : List Call) (j : ℕ) (c : Call) : Type 0 where
  pub rank : ℕ
  pub placed : slice_get (places_from q base cs) rank ≡ Some (base + j)
  pub ranks : slice_get (filter q cs) rank ≡ Some c

further : (base j : ℕ) → suc base + j ≡ base + suc j
further base j = omega arith

rank_head : (q : Call → Bool) (base : ℕ) (d : Call) (cs : List Call) (j : ℕ) (c : Call) (b : Bool) → q d ≡ b
    → Ranked q (suc base) cs j c → Ranked q base (d ∷ cs) (suc j) c
rank_head q base d cs j c true e r =
    record {
      rank = suc r.rank;
      placed = ap (λ b. slice_get ((if b then base ∷ [] else []) ++ places_from q (suc base) cs) (suc r.rank)) e
          ∙ r.placed ∙ ap Some (further base j);
      ranks = ap (λ b. slice_get (if b then d ∷ filter q cs else filter q cs) (suc r.rank)) e ∙ r.ranks;
    }
rank_head q base d cs j c false e r =
    record {
      rank = r.rank;
      placed = ap (λ b. slice_get ((if b then base ∷ [] else []) ++ places_from q (suc base) cs) r.rank) e
          ∙ r.placed ∙ ap Some (further base j);
      ranks = ap (λ b. slice_get (if b then d ∷ filter q cs else filter q cs) r.rank) e ∙ r.ranks;
    }

pub ranked : (q : Call → Bool) (base : ℕ) (cs : List Call) (j : ℕ) (c : Call)
    → slice_get cs j ≡ Some c → q c ≡ true → Ranked q base cs j c
ranked q base [] j c h e = absurd (none_not_some c h)
ranked q base (d ∷ cs) zero c h e =
    let here : q d ≡ true = ap q (same_of d c h) ∙ e in
    record {
      rank = 0;
      placed = ap (λ b. slice_get ((if b then base ∷ [] else []) ++ places_from q (suc base) cs) 0) here ∙ ap Some (sym (add-zero base));
      ranks = ap (λ b. slice_get (if b then d ∷ filter q cs else filter q cs) 0) here ∙ h;
    }
ranked q base (d ∷ cs) (suc j) c h e = rank_head q base d cs j c (q d) refl (ranked q (suc base) cs j c h e)

-- ---- one call has a number

-- a call by its number: the one of that rank among those of its session
is_call_parts : (s n : ℕ) (c : Call) → is_call s n c ≡ true → (nat_eq s c.session ≡ true) × (nat_eq n c.number ≡ true)
is_call_parts s n c h = (left (nat_eq s c.session) (nat_eq n c.number) h, right (nat_eq s c.session) (nat_eq n c.number) h)

-- two calls with one session and number stand at one place
pub one_place : (past : Past) (s n i j : ℕ) (c d : Call) → Numbered past s
    → slice_get (calls past) i ≡ Some c → is_call s n c ≡ true
    → slice_get (calls past) j ≡ Some d → is_call s n d ≡ true → i ≡ j
one_place past s n i j c d numbered at_i is_c at_j is_d =
    let rc = ranked (λ x. nat_eq s x.session) 0 (calls past) i c at_i (is_call_parts s n c is_c).0 in
    let rd = ranked (λ x. nat_eq s x.session) 0 (calls past) j d at_j (is_call_parts s n d is_d).0 in
    let c_number : n ≡ c.number = eq_true n c.number (is_call_parts s n c is_c).1 in
    let d_number : n ≡ d.number = eq_true n d.number (is_call_parts s n d is_d).1 in
    let same_rank : rc.rank ≡ rd.rank = sym (numbered rc.rank c rc.ranks) ∙ sym c_number ∙ d_number ∙ numbered rd.rank d rd.ranks in
    let places : Some (0 + i) ≡ Some (0 + j) =
    sym rc.placed ∙ ap (slice_get (places_from (λ x. nat_eq s x.session) 0 (calls past))) same_rank ∙ rd.placed in
    let sums : 0 + i ≡ 0 + j = same_of (0 + i) (0 + j) places in
    omega arith

-- ---- the call of a number

-- among numbered calls, the first of a number is the one of that rank
first_numbered : (xs : List Call) (base k n : ℕ) → ((j : ℕ) (c : Call) → slice_get xs j ≡ Some c → c.number ≡ base + j)
    → n ≡ base + k → first (filter (λ c. nat_eq n c.number) xs) ≡ slice_get xs k
first_numbered [] base k n h e = refl
first_numbered (x ∷ xs) base zero n h e =
    let here : nat_eq n x.number ≡ true = ap (nat_eq n) (h 0 x refl ∙ sym e) ∙ itself n in
    ap (λ b. first (if b then x ∷ filter (λ c. nat_eq n c.number) xs else filter (λ c. nat_eq n c.number) xs)) here
first_numbered (x ∷ xs) base (suc k) n h e =
    let is_base : x.number ≡ base + 0 = h 0 x refl in
    let elsewhere : nat_eq n x.number ≡ false = not_eq n x.number (apart n x.number base k e is_base) in
    let next : n ≡ suc base + k = omega arith in
    ap (λ b. first (if b then x ∷ filter (λ c. nat_eq n c.number) xs else filter (λ c. nat_eq n c.number) xs)) elsewhere
    ∙ first_numbered xs (suc base) k n (λ j c g. later c.number base j (h (suc j) c g)) next
  where
    apart : (n m base k : ℕ) → n ≡ base + suc k → m ≡ base + 0 → n ≢ m
    apart n m base k e h q = omega arith

    later : (m base j : ℕ) → m ≡ base + suc j → m ≡ suc base + j
    later m base j h = omega arith

both_filters : (s n : ℕ) (cs : List Call)
    → filter (is_call s n) cs ≡ filter (λ c. nat_eq n c.number) (filter (λ c. nat_eq s c.session) cs)
both_filters s n [] = refl
both_filters s n (c ∷ cs) = by (nat_eq s c.session) (both_filters s n cs)
  where
    by : (b : Bool) → filter (is_call s n) cs ≡ filter (λ d. nat_eq n d.number) (filter (λ d. nat_eq s d.session) cs)
        → (if b && nat_eq n c.number then c ∷ filter (is_call s n) cs else filter (is_call s n) cs)
        ≡ filter (λ d. nat_eq n d.number) (if b then c ∷ filter (λ d. nat_eq s d.session) cs else filter (λ d. nat_eq s d.session) cs)
    by true h = ap (λ xs. if nat_eq n c.number then c ∷ xs else xs) h
    by false h = h

zero_more : (m k : ℕ) → m ≡ k → m ≡ 0 + k
zero_more m k h = omega arith

-- the call of a number of a session is the one of that rank
pub call_is : (past : Past) (s n : ℕ) → Numbered past s → call past s n ≡ slice_get (calls_by past s) n
call_is past s n numbered =
    ap first (both_filters s n (calls past))
    ∙ first_numbered (calls_by past s) 0 n n (λ j c g. zero_more c.number j (numbered j c g)) (zero_more n n refl)

-- a call that stands at a place is the call of its number
pub call_at : (past : Past) (p : ℕ) (c : Call) → Numbered past c.session → slice_get (calls past) p ≡ Some c
    → call past c.session c.number ≡ Some c
call_at past p c numbered at_p =
    let r = ranked (λ x. nat_eq c.session x.session) 0 (calls past) p c at_p (itself c.session) in
    let number : c.number ≡ r.rank = numbered r.rank c r.ranks in
    call_is past c.session c.number numbered ∙ ap (slice_get (calls_by past c.session)) number ∙ r.ranks

-- ---- the place of a rank, once the call is known

-- a call of a rank among those of a kind stands at a place, and is of the kind
pub record Seated (q : Call → Bool) (base : ℕ) (cs : List Call) (k : ℕ) (c : Call) : Type 0 where
  pub place : ℕ
  pub placed : slice_get (places_from q base cs) k ≡ Some (base + place)
  pub there : slice_get cs place ≡ Some c
  pub is_it : q c ≡ true

seated_head : (q : Call → Bool) (base : ℕ) (d : Call) (cs : List Call) (k : ℕ) (c : Call) (b : Bool) → q d ≡ b
    → ((j : ℕ) → slice_get (filter q cs) j ≡ Some c → Seated q (suc base) cs j c)
    → slice_get (filter q (d ∷ cs)) k ≡ Some c → Seated q base (d ∷ cs) k c
seated_head q base d cs zero c true e next h =
    let is_c : d ≡ c = same_of d c (sym (ap (λ b. slice_get (if b then d ∷ filter q cs else filter q cs) 0) e) ∙ h) in
    record {
      place = 0;
      placed = ap (λ b. slice_get ((if b then base ∷ [] else []) ++ places_from q (suc base) cs) 0) e ∙ ap Some (sym (add-zero base));
      there = ap Some is_c;
      is_it = ap q (sym is_c) ∙ e;
    }
seated_head q base d cs (suc k) c true e next h =
    let seat = next k (sym (ap (λ b. slice_get (if b then d ∷ filter q cs else filter q cs) (suc k)) e) ∙ h) in
    record {
      place = suc seat.place;
      placed = ap (λ b. slice_get ((if b then base ∷ [] else []) ++ places_from q (suc base) cs) (suc k)) e
          ∙ seat.placed ∙ ap Some (further base seat.place);
      there = seat.there;
      is_it = seat.is_it;
    }
seated_head q base d cs k c false e next h =
    let seat = next k (sym (ap (λ b. slice_get (if b then d ∷ filter q cs else filter q cs) k) e) ∙ h) in
    record {
      place = suc seat.place;
      placed = ap (λ b. slice_get ((if b then base ∷ [] else []) ++ places_from q (suc base) cs) k) e
          ∙ seat.placed ∙ ap Some (further base seat.place);
      there = seat.there;
      is_it = seat.is_it;
    }

pub seated : (q : Call → Bool) (base : ℕ) (cs : List Call) (k : ℕ) (c : Call)
    → slice_get (filter q cs) k ≡ Some c → Seated q base cs k c
seated q base [] k c h = absurd (none_not_some c h)
seated q base (d ∷ cs) k c h = seated_head q base d cs k c (q d) refl (λ j g. seated q (suc base) cs j c g) h

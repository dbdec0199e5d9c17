-- What derives is read.
use Rattle.std.proofs.Common.{◌≡◌, ℕ, zero, suc, ◌≤◌, inl, inr, Bool, true, false, ◌&&◌, not, List, [], ◌∷◌, ◌++◌, length, refl, sym, ap, ◌∙◌, arith, append_assoc, if◌then◌else◌, length-append}
use Rattle.jolie_parse.specs.declared.class.Class.{Class}
use Rattle.jolie_parse.specs.Classes.{same, Spelled, has, begins, class}
use Rattle.jolie_parse.specs.Syntax.{Syn, token, give, both, either, many, means, inside, prefix, Part, Meant, Lang, Derives, Many}
use Rattle.jolie_parse.specs.Deciding.{disjoint, later, covers, nullable, first, further}
use Rattle.jolie_parse.specs.Factored.{rule, Within, Nests, decided, usable}
use Rattle.jolie_parse.specs.Reading.{Outcome, got, take_token, repeat, enclosed, inner, read}
use Rattle.jolie_parse.proofs.SameClasses.{eq_same}
use Rattle.jolie_parse.proofs.Sets.{and_left, and_right, or_left, or_right, not_true, is_false, has_left, has_right, apart, begins_left, begins_right, begins_covered, cons_split, nil_split}

-- ---- the first token

pub many_head : {A : Type 0} (one : Lang A) (ks : List Class) → ((t : Spelled) (ts : List Spelled) (v : A) → one (t ∷ ts) v → has ks (class t) ≡ true)
    → (t : Spelled) (ts : List Spelled) (vs : List A) → Many one (t ∷ ts) vs → has ks (class t) ≡ true
many_head one ks h t ts [] d = cc
many_head one ks h t ts (v ∷ vs) d = elim (cons_split t ts d.0 d.1 d.2) [
  | inl e ↦ many_head one ks h t ts vs (rw e.1 at d.4)
  | inr e ↦ h t e.0 v (rw e.1 at d.3)
]

module _ (within : (r : Part) → Lang (Meant r)) where
  pub empty : {A : Type 0} (s : Syn A) (v : A) → Derives within s [] v → nullable s ≡ true
  empty (token ks) v d = cc
  empty (give a) v d = refl
  empty (both s t) v d =
      let e = nil_split d.0 d.1 d.2 in
      let l = empty s v.0 (rw e.0 at d.3) in
      let m = empty t v.1 (rw e.1 at d.4) in
      rw l m
  empty (either s t) v d = elim d [ inl h ↦ or_left (nullable s) (nullable t) (empty s v h) | inr h ↦ or_right (nullable s) (nullable t) (empty t v h) ]
  empty (many s) v d = refl
  empty (means f s) v d = empty s d.0 d.2
  empty (inside o r c) v d = cc
  empty (prefix ks r) v d = cc

  pub head : {A : Type 0} (s : Syn A) (t : Spelled) (ts : List Spelled) (v : A) → Derives within s (t ∷ ts) v → has (first s) (class t) ≡ true
  head (token ks) t ts v d = let e : t ≡ v = cc in ap (λ u. has ks (class u)) e ∙ d.0
  head (give a) t ts v d = cc
  head (both s u) t ts v d = elim (cons_split t ts d.0 d.1 d.2) [
    | inl e ↦ (let n = empty s v.0 (rw e.0 at d.3) in rw n (has_right (first s) (first u) (class t) (head u t ts v.1 (rw e.1 at d.4))))
    | inr e ↦ (let h = head s t e.0 v.0 (rw e.1 at d.3) in
        elim (nullable s) as (λ b. has (if b then first s ++ first u else first s) (class t) ≡ true) [ true ↦ has_left (first s) (first u) (class t) h | false ↦ h ])
  ]
  head (either s u) t ts v d = elim d [ inl h ↦ has_left (first s) (first u) (class t) (head s t ts v h) | inr h ↦ has_right (first s) (first u) (class t) (head u t ts v h) ]
  head (many s) t ts v d = many_head (Derives within s) (first s) (head s) t ts v d
  head (means f s) t ts v d = head s t ts d.0 d.2
  head (inside o r c) t ts v d = let e : t ≡ v.0 = cc in or_left (same o (class t)) false (eq_same o (class t) (sym (ap class e ∙ d.2)))
  head (prefix ks r) t ts v d = let e : t ≡ v.0 = cc in ap (λ u. has ks (class u)) e ∙ d.1

-- ---- what derives is read

-- the tokens after the first part do not go on with it
pub apart_after : (ks js : List Class) (y r : List Spelled) → disjoint js ks ≡ true → ((t : Spelled) (ts : List Spelled) → y ≡ t ∷ ts → has js (class t) ≡ true)
    → (y ≡ [] → begins ks r ≡ false) → begins ks (y ++ r) ≡ false
apart_after ks js [] r d h g = g refl
apart_after ks js (t ∷ ts) r d h g = is_false (has ks (class t)) (λ yes. apart js ks (class t) d (h t ts refl) yes)

pub take_it : (ks : List Class) (t : Spelled) (r : List Spelled) → has ks (class t) ≡ true → take_token ks (t ∷ r) ≡ got t r
take_it ks t r h = rw h refl

pub starts : (ks : List Class) (x r : List Spelled) → ((t : Spelled) (ts : List Spelled) → x ≡ t ∷ ts → has ks (class t) ≡ true) → (x ≡ [] → ⊥) → begins ks (x ++ r) ≡ true
starts ks [] r h g = absurd (g refl)
starts ks (t ∷ ts) r h g = h t ts refl

pub repeat_stops : {A : Type 0} (one : List Spelled → Outcome A) (ks : List Class) (n : ℕ) (r : List Spelled) → begins ks r ≡ false → repeat one ks n r ≡ got [] r
repeat_stops one ks zero r h = refl
repeat_stops one ks (suc n) r h = rw h refl

pub repeat_goes : {A : Type 0} (one : List Spelled → Outcome A) (ks : List Class) (n : ℕ) (z r r2 : List Spelled) (a : A) (vs : List A) → begins ks z ≡ true → one z ≡ got a r → repeat one ks n r ≡ got vs r2
    → repeat one ks (suc n) z ≡ got (a ∷ vs) r2
repeat_goes one ks n z r r2 a vs b e f = rw (b, e, f) refl

pub nonempty_shorter : (x z : List Spelled) (n : ℕ) → (x ≡ [] → ⊥) → length (x ++ z) ≤ suc n → length z ≤ n
nonempty_shorter [] z n h le = absurd (h refl)
nonempty_shorter (t ∷ x) z n h le = let e = length-append x z in omega arith

pub nonempty_some : (x z : List Spelled) → (x ≡ [] → ⊥) → length (x ++ z) ≤ 0 → ⊥
nonempty_some [] z h le = h refl
nonempty_some (t ∷ x) z h le = omega arith

many_reads : {A : Type 0} (D : Lang A) (one : List Spelled → Outcome A) (ks js : List Class)
    → ((x r : List Spelled) (v : A) → D x v → begins js r ≡ false → one (x ++ r) ≡ got v r)
    → ((t : Spelled) (ts : List Spelled) (v : A) → D (t ∷ ts) v → has ks (class t) ≡ true)
    → ((v : A) → D [] v → ⊥)
    → disjoint ks js ≡ true
    → (n : ℕ) (x r : List Spelled) (vs : List A) → length (x ++ r) ≤ n → Many D x vs → begins ks r ≡ false → begins js r ≡ false → repeat one ks n (x ++ r) ≡ got vs r
many_reads D one ks js ok hd ne dis n x r [] le d stop stop2 = rw d (repeat_stops one ks n r stop)
many_reads D one ks js ok hd ne dis zero x r (v ∷ vs) le d stop stop2 =
    absurd (nonempty_some d.0 (d.1 ++ r) (λ e. ne v (rw e at d.3)) (rw (d.2, append_assoc) at le))
many_reads D one ks js ok hd ne dis (suc n) x r (v ∷ vs) le d stop stop2 =
    let regroup : x ++ r ≡ d.0 ++ (d.1 ++ r) = ap (λ z. z ++ r) d.2 ∙ append_assoc d.0 d.1 r in
    let some : d.0 ≡ [] → ⊥ = λ e. ne v (rw e at d.3) in
    let le2 : length (d.1 ++ r) ≤ n = nonempty_shorter d.0 (d.1 ++ r) n some (rw regroup at le) in
    let later : begins js (d.1 ++ r) ≡ false = apart_after js ks d.1 r dis (λ t ts e. many_head D ks hd t ts vs (rw e at d.4)) (λ _. stop2) in
    rw regroup (repeat_goes one ks n (d.0 ++ (d.1 ++ r)) (d.1 ++ r) r v vs
    (starts ks d.0 (d.1 ++ r) (λ t ts e. hd t ts v (rw e at d.3)) some)
    (ok d.0 (d.1 ++ r) v d.3 later)
    (many_reads D one ks js ok hd ne dis n d.1 r vs le2 d.4 stop stop2))

enclosed_reads : {A : Type 0} (n : ℕ) (inn : List Spelled → Outcome A) (o c : Class) (u close : Spelled) (x r : List Spelled) (v : A)
    → class u ≡ o → class close ≡ c → inn (x ++ close ∷ r) ≡ got v (close ∷ r)
    → enclosed (suc n) inn o c (u ∷ (x ++ close ∷ r)) ≡ got (u, v) r
enclosed_reads n inn o c u close x r v eo ec e =
    let h : has (o ∷ []) (class u) ≡ true = or_left (same o (class u)) false (eq_same o (class u) (sym eo)) in
    let g : has (c ∷ []) (class close) ≡ true = or_left (same c (class close)) false (eq_same c (class close) (sym ec)) in
    rw (h, e, g) refl

pub stop_right : (b : Bool) (p q : List Class) (r : List Spelled) → begins (if b then p ++ q else q) r ≡ false → begins q r ≡ false
stop_right true p q r h = begins_right p q r h
stop_right false p q r h = h

pub stop_left : (b : Bool) (p q : List Class) (r : List Spelled) → b ≡ true → begins (if b then p ++ q else q) r ≡ false → begins p r ≡ false
stop_left true p q r e h = begins_left p q r h
stop_left false p q r e h = cc

pub stop_parts : (b : Bool) (p q : List Class) (r : List Spelled) → begins (if b then p ++ q else q) r ≡ false → begins q r ≡ false
stop_parts true p q r h = begins_right p q r h
stop_parts false p q r h = h

pub stop_first : (b : Bool) (p q : List Class) (r : List Spelled) → b ≡ true → begins (if b then p ++ q else q) r ≡ false → begins p r ≡ false
stop_first true p q r e h = begins_left p q r h
stop_first false p q r e h = cc

inside_at : (n : ℕ) → ((r : Part) (x z : List Spelled) (v : Meant r) → Within n r x v → begins (further (rule r)) z ≡ false → inner n r (x ++ z) ≡ got v z)
    → (o : Class) (r : Part) (c : Class) → decided (inside o r c) ≡ true → (x z : List Spelled) (v : Spelled × Meant r) → Nests n (inside o r c) x v → read n (inside o r c) (x ++ z) ≡ got v z
inside_at zero down o r c ok x z v d = absurd d.5
inside_at (suc n) down o r c ok x z v d =
    let no = not_true (has (further (rule r)) c) ok in
    let no2 : begins (further (rule r)) (d.0 ∷ z) ≡ false = ap (has (further (rule r))) d.3 ∙ no in
    let e = down r d.1 (d.0 ∷ z) v.1 d.5 no2 in
    let whole : x ++ z ≡ v.0 ∷ (d.1 ++ d.0 ∷ z) = ap (λ y. y ++ z) d.4 ∙ ap (λ y. v.0 ∷ y) (append_assoc d.1 (d.0 ∷ []) z) in
    rw whole (enclosed_reads n (inner (suc n) r) o c v.0 d.0 d.1 z v.1 d.2 d.3 e)

prefix_at : (n : ℕ) → ((r : Part) (x z : List Spelled) (v : Meant r) → Within n r x v → begins (further (rule r)) z ≡ false → inner n r (x ++ z) ≡ got v z)
    → (ks : List Class) (r : Part) → decided (prefix ks r) ≡ true → (x z : List Spelled) (v : Spelled × Meant r) → Nests n (prefix ks r) x v → begins (later r) z ≡ false → read n (prefix ks r) (x ++ z) ≡ got v z
prefix_at zero down ks r ok x z v d stop = absurd d.3
prefix_at (suc n) down ks r ok x z v d stop =
    let h : has ks (class v.0) ≡ true = d.1 in
    let e = down r d.0 z v.1 d.3 (begins_covered (further (rule r)) (later r) z (and_right (usable ks) (covers (further (rule r)) (later r)) ok) stop) in
    rw (d.2, h, e) refl

-- one level
module _ (n : ℕ) (down : (r : Part) (x z : List Spelled) (v : Meant r) → Within n r x v → begins (further (rule r)) z ≡ false → inner n r (x ++ z) ≡ got v z) where
  pub reads : {A : Type 0} (s : Syn A) → decided s ≡ true → (x r : List Spelled) (v : A) → Nests n s x v → begins (further s) r ≡ false → read n s (x ++ r) ≡ got v r
  reads (token ks) ok x r v d stop = rw d.1 (take_it ks v r d.0)
  reads (give a) ok x r v d stop = rw (d.0, d.1) refl
  reads (both s t) ok x r v d stop =
      let ok1 = and_left (disjoint (first t) (further s)) (decided s && decided t) ok in
      let ok2 = and_right (disjoint (first t) (further s)) (decided s && decided t) ok in
      let stop_t : begins (further t) r ≡ false = stop_right (nullable t) (further s) (further t) r stop in
      let later : begins (further s) (d.1 ++ r) ≡ false = apart_after (further s) (first t) d.1 r ok1
      (λ u us e. head (Within n) t u us v.1 (rw e at d.4))
      (λ e. stop_left (nullable t) (further s) (further t) r (empty (Within n) t v.1 (rw e at d.4)) stop) in
      let e1 = reads s (and_left (decided s) (decided t) ok2) d.0 (d.1 ++ r) v.0 d.3 later in
      let e2 = reads t (and_right (decided s) (decided t) ok2) d.1 r v.1 d.4 stop_t in
      rw (d.2, append_assoc, e1, e2) refl
  reads (either s t) ok x r v d stop =
      let some = not_true (nullable s) (and_left (not (nullable s)) _ ok) in
      let ok1 = and_right (not (nullable s)) (disjoint (first t) (first s) && (decided s && decided t)) ok in
      let ok2 = and_right (disjoint (first t) (first s)) (decided s && decided t) ok1 in
      elim d [
        | inl h ↦ (let b = starts (first s) x r (λ u us e. head (Within n) s u us v (rw e at h)) (λ e. let y = empty (Within n) s v (rw e at h) in cc) in
            rw b (reads s (and_left (decided s) (decided t) ok2) x r v h (begins_left (further s) (further t) r (stop_parts (nullable t) (first s) _ r stop))))
        | inr h ↦ (let b : begins (first s) (x ++ r) ≡ false = apart_after (first s) (first t) x r (and_left (disjoint (first t) (first s)) (decided s && decided t) ok1)
            (λ u us e. head (Within n) t u us v (rw e at h)) (λ e. stop_first (nullable t) (first s) _ r (empty (Within n) t v (rw e at h)) stop) in
            rw b (reads t (and_right (decided s) (decided t) ok2) x r v h (begins_right (further s) (further t) r (stop_parts (nullable t) (first s) _ r stop))))
      ]
  reads (many s) ok x r v d stop =
      let some = not_true (nullable s) (and_left (not (nullable s)) _ ok) in
      let ok1 = and_right (not (nullable s)) (disjoint (first s) (further s) && decided s) ok in
      many_reads (Derives (Within n) s) (read n s) (first s) (further s)
      (λ y z w h e. reads s (and_right (disjoint (first s) (further s)) (decided s) ok1) y z w h e)
      (λ u us w h. head (Within n) s u us w h) (λ w h. let y = empty (Within n) s w h in cc)
      (and_left (disjoint (first s) (further s)) (decided s) ok1) (length (x ++ r)) x r v (omega arith) d
      (begins_left (first s) (further s) r stop) (begins_right (first s) (further s) r stop)
  reads (means f s) ok x r v d stop = rw (reads s ok x r d.0 d.2 stop, d.1) refl
  reads (inside o r c) ok x z v d stop = inside_at n down o r c ok x z v d
  reads (prefix ks r) ok x z v d stop = prefix_at n down ks r ok x z v d stop

-- each rule is decided
pub record Decided : Type 0 where
  pub each : (r : Part) → decided (rule r) ≡ true

pub within_reads : Decided → (n : ℕ) (r : Part) (x z : List Spelled) (v : Meant r) → Within n r x v → begins (further (rule r)) z ≡ false → inner n r (x ++ z) ≡ got v z
within_reads ok zero r x z v d stop = absurd d
within_reads ok (suc n) r x z v d stop = reads n (within_reads ok n) (rule r) (ok.each r) x z v d stop

pub complete : Decided → (n : ℕ) {A : Type 0} (s : Syn A) → decided s ≡ true → (x r : List Spelled) (v : A) → Nests n s x v → begins (further s) r ≡ false → read n s (x ++ r) ≡ got v r
complete ok n s = reads n (within_reads ok n) s

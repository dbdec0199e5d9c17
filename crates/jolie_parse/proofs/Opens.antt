-- A token that opens a level too many is found, or one before it is.
use Rattle.std.proofs.Common.{◌≡◌, ℕ, zero, suc, ◌≤◌, ◌⊎◌, inl, inr, Bool, true, false, ◌&&◌, not, List, [], ◌∷◌, ◌++◌, length, refl, sym, ap, ◌∙◌, arith, append_assoc, append-nil, if◌then◌else◌}
use Rattle.std.proofs.lemmas.List.{append_cancel_right}
use Rattle.jolie_parse.specs.declared.class.Class.{Class}
use Rattle.jolie_parse.specs.Classes.{Spelled, class, has, same, begins, open_brackets}
use Rattle.jolie_parse.specs.Syntax.{Part, Meant, Syn, token, give, both, either, many, means, inside, prefix}
use Rattle.jolie_parse.specs.Deciding.{disjoint, nullable, first, further}
use Rattle.jolie_parse.specs.Factored.{rule, Within, Nests, decided}
use Rattle.jolie_parse.specs.Reading.{Outcome, got, refused, too_deep, and_then, take_token, repeat, deepen, inner, read}
use Rattle.jolie_parse.specs.Levels.{Opener, bracket, before, opening}
use Rattle.jolie_parse.proofs.SameClasses.{same_eq}
use Rattle.jolie_parse.proofs.Sets.{and_left, and_right, or_cases, not_true, is_false, has_left, has_right, apart}
use Rattle.jolie_parse.proofs.Complete.{within_reads, reads, complete, empty, head, starts, apart_after, nonempty_shorter, nonempty_some, many_head}
use Rattle.jolie_parse.proofs.OneToken.{rules_decided}
use Rattle.jolie_parse.proofs.Openings.{CanEnd, Stands, LeadsTo, Leads}
use Rattle.jolie_parse.proofs.Outcomes.{Explains}
use Rattle.jolie_parse.proofs.Explain.{explain, Bef}
use Rattle.jolie_parse.proofs.Phrases.{rules_some}
use Rattle.jolie_parse.proofs.Passes.{Passes, left_over, plain, passes_read, still_there, rules_plain}

begins_more_left : (a b : List Class) (z : List Spelled) → begins a z ≡ true → begins (a ++ b) z ≡ true
begins_more_left a b [] h = h
begins_more_left a b (t ∷ z) h = has_left a b (class t) h

begins_more_right : (a b : List Class) (z : List Spelled) → begins b z ≡ true → begins (a ++ b) z ≡ true
begins_more_right a b [] h = cc
begins_more_right a b (t ∷ z) h = has_right a b (class t) h

begins_apart : (a b : List Class) (z : List Spelled) → disjoint b a ≡ true → begins b z ≡ true → begins a z ≡ false
begins_apart a b [] d h = refl
begins_apart a b (t ∷ z) d h = is_false (has a (class t)) (λ y. apart b a (class t) d h y)

-- ---- what leads to an opening begins as the whole may

first_both : {A B : Type 0} (n : ℕ) (s : Syn A) (t : Syn B) (x z : List Spelled) (a : A) → Nests n s x a → begins (first t) z ≡ true → begins (first (both s t)) (x ++ z) ≡ true
first_both n s t [] z a d h = let e = empty (Within n) s a d in rw e (begins_more_right (first s) (first t) z h)
first_both n s t (u ∷ x) z a d h = in_either (nullable s) (first s) (first t) (class u) (head (Within n) s u x a d)
  where
    in_either : (b : Bool) (p q : List Class) (k : Class) → has p k ≡ true → has (if b then p ++ q else p) k ≡ true
    in_either true p q k h = has_left p q k h
    in_either false p q k h = h

first_left : {A B : Type 0} (s : Syn A) (t : Syn B) (z : List Spelled) → begins (first s) z ≡ true → begins (first (both s t)) z ≡ true
first_left s t z h = elim (nullable s) as (λ b. begins (if b then first s ++ first t else first s) z ≡ true) [ true ↦ begins_more_left (first s) (first t) z h | false ↦ h ]

first_many : {A : Type 0} (n : ℕ) (s : Syn A) (x z : List Spelled) (vs : List A) → Nests n (many s) x vs → begins (first s) z ≡ true → begins (first s) (x ++ z) ≡ true
first_many n s [] z vs d h = h
first_many n s (u ∷ x) z vs d h = head (Within n) (many s) u x vs d

leads_first : (n : ℕ) (t : Spelled) (p : Opener) (w z : List Spelled) → Leads n t p w → begins (opening p) (w ++ t ∷ z) ≡ true
leads_first zero t p w z l = rw l.0 l.1
leads_first (suc n) t p w z l = rw l.3 l.2

lead_first : (n : ℕ) {A : Type 0} (s : Syn A) (t : Spelled) (w z : List Spelled) → LeadsTo (Within n) (Leads n t) s w → begins (first s) (w ++ t ∷ z) ≡ true
lead_first n (token ks) t w z l = absurd l
lead_first n (give a) t w z l = absurd l
lead_first n (both s u) t w z l = elim l [
  | inl h ↦ first_left s u (w ++ t ∷ z) (lead_first n s t w z h)
  | inr h ↦ (let e : w ++ t ∷ z ≡ h.0 ++ (h.1 ++ t ∷ z) = ap (λ y. y ++ t ∷ z) h.3 ∙ append_assoc h.0 h.1 (t ∷ z) in
      rw e (first_both n s u h.0 (h.1 ++ t ∷ z) h.2 h.4 (lead_first n u t h.1 z h.5)))
]
lead_first n (either s u) t w z l = elim l [
  | inl h ↦ begins_more_left (first s) (first u) (w ++ t ∷ z) (lead_first n s t w z h)
  | inr h ↦ begins_more_right (first s) (first u) (w ++ t ∷ z) (lead_first n u t w z h)
]
lead_first n (many s) t w z l =
    let e : w ++ t ∷ z ≡ l.0 ++ (l.1 ++ t ∷ z) = ap (λ y. y ++ t ∷ z) l.3 ∙ append_assoc l.0 l.1 (t ∷ z) in
    rw e (first_many n s l.0 (l.1 ++ t ∷ z) l.2 l.4 (lead_first n s t l.1 z l.5))
lead_first n (means f s) t w z l = lead_first n s t w z l
lead_first n (inside o r c) t w z l = leads_first n t (bracket o r c) w z l
lead_first n (prefix ks r) t w z l = leads_first n t (before ks r) w z l

-- ---- any number in a row

repeat_deep : {A : Type 0} (one : List Spelled → Outcome A) (ks : List Class) (j : ℕ) (z q : List Spelled) → begins ks z ≡ true → length z ≤ j → one z ≡ too_deep q → repeat one ks j z ≡ too_deep q
repeat_deep one ks j [] q b le e = cc
repeat_deep one ks zero (t ∷ z) q b le e = let no : ⊥ = omega arith in absurd no
repeat_deep one ks (suc j) (t ∷ z) q b le e = rw (b, e) refl

repeat_on : {A : Type 0} (one : List Spelled → Outcome A) (ks : List Class) (j : ℕ) (z r q : List Spelled) (a : A) → begins ks z ≡ true → one z ≡ got a r → repeat one ks j r ≡ too_deep q → repeat one ks (suc j) z ≡ too_deep q
repeat_on one ks j z r q a b e f = rw (b, e, f) refl

many_deep : {A : Type 0} (n : ℕ) (s : Syn A) (one : List Spelled → Outcome A) (ks js : List Class)
    → ((x r : List Spelled) (v : A) → Nests n s x v → begins js r ≡ false → one (x ++ r) ≡ got v r)
    → ((t : Spelled) (ts : List Spelled) (v : A) → Nests n s (t ∷ ts) v → has ks (class t) ≡ true)
    → ((v : A) → Nests n s [] v → ⊥) → disjoint ks js ≡ true
    → (j : ℕ) (x z q : List Spelled) (vs : List A) → length (x ++ z) ≤ j → Nests n (many s) x vs → begins ks z ≡ true → one z ≡ too_deep q → repeat one ks j (x ++ z) ≡ too_deep q
many_deep n s one ks js ok hd ne dis j x z q [] le d b e = rw d (repeat_deep one ks j z q b (rw d at le) e)
many_deep n s one ks js ok hd ne dis zero x z q (v ∷ vs) le d b e = absurd (nonempty_some d.0 (d.1 ++ z) (λ h. ne v (rw h at d.3)) (rw (d.2, append_assoc) at le))
many_deep n s one ks js ok hd ne dis (suc j) x z q (v ∷ vs) le d b e =
    let regroup : x ++ z ≡ d.0 ++ (d.1 ++ z) = ap (λ y. y ++ z) d.2 ∙ append_assoc d.0 d.1 z in
    let some : d.0 ≡ [] → ⊥ = λ h. ne v (rw h at d.3) in
    let le2 : length (d.1 ++ z) ≤ j = nonempty_shorter d.0 (d.1 ++ z) j some (rw regroup at le) in
    let later : begins js (d.1 ++ z) ≡ false = apart_after js ks d.1 z dis (λ t ts h. many_head (Nests n s) ks hd t ts vs (rw h at d.4)) (λ _. begins_apart js ks z dis b) in
    rw regroup (repeat_on one ks j (d.0 ++ (d.1 ++ z)) (d.1 ++ z) q v
    (starts ks d.0 (d.1 ++ z) (λ t ts h. hd t ts v (rw h at d.3)) some)
    (ok d.0 (d.1 ++ z) v d.3 later)
    (many_deep n s one ks js ok hd ne dis j d.1 z q vs le2 d.4 b e))

-- ---- a bracket that opens in the innermost bracket

-- reading gives that this token, or one before it, opens a level too many
abbrev pub DeepBy : {A : Type 0} → Outcome A → List Spelled → Type 0
DeepBy o ts = (y : List Spelled) × (o ≡ too_deep (y ++ ts))

has_none : (c k : Class) → has open_brackets c ≡ false → has open_brackets k ≡ true → has (c ∷ []) k ≡ false
has_none c k h g = is_false (has (c ∷ []) k) (λ e. elim (or_cases (same c k) false e) [
  | inl x ↦ (let y : has open_brackets c ≡ has open_brackets k = ap (has open_brackets) (same_eq c k x) in cc)
  | inr x ↦ cc
])

goes_past : {A : Type 0} (a b : A) (t : Spelled) (r : List Spelled) → got a (t ∷ r) ≡ got b [] → ⊥
goes_past a b t r e = cc

never_refused : {A : Type 0} (b : A) (r z : List Spelled) → refused r ≡ got b z → ⊥
never_refused b r z e = cc

module _ (r : Part) (c : Class) (u t : Spelled) (z q : List Spelled)
    (opens : has open_brackets (class t) ≡ true) (closes : has open_brackets c ≡ false) (can : CanEnd (rule r) z) where
  -- what is read behind the bracket
  abbrev Behind : Outcome (Meant r) → Outcome (Spelled × Meant r)
  Behind o = deepen (and_then o (λ v r2. and_then (take_token (c ∷ []) r2) (λ _ r3. got (u, v) r3))) zero

  got_there : (v : Meant r) (s : List Spelled) → s ≡ t ∷ q → Behind (got v s) ≡ too_deep (t ∷ q)
  got_there v s e = let n = has_none c (class t) closes opens in rw (e, n, opens) refl

  refused_there : (s : List Spelled) → s ≡ t ∷ q → Behind (refused s) ≡ too_deep (t ∷ q)
  refused_there s e = rw (e, opens) refl

  -- those tokens can be read to their end
  whole_read : (k : ℕ) (v : Meant r) → Nests k (rule r) (z ++ can.0) v → read k (rule r) (z ++ can.0) ≡ got v []
  whole_read k v d = ap (read k (rule r)) (sym (append-nil (z ++ can.0))) ∙ complete rules_decided k (rule r) (rules_decided.each r) (z ++ can.0) [] v d refl

  abbrev Facts : Outcome (Meant r) → Type 0
  Facts o = Explains (Nests 0 (rule r)) (Bef 0 (rule r)) (λ x u. read can.2.0 (rule r) x ≡ u) (z ++ t ∷ q) o

  -- what is read behind the same tokens before it
  further_on : (w w2 : List Spelled) (b : Spelled) (y : List Spelled) (s : List Spelled) → z ≡ w ++ b ∷ y → s ≡ b ∷ (y ++ t ∷ q) → z ++ t ∷ q ≡ w2 ++ s
      → w2 ++ (b ∷ (y ++ can.0)) ≡ z ++ can.0
  further_on w w2 b y s e f h =
      let all : z ++ t ∷ q ≡ w ++ s = ap (λ x. x ++ t ∷ q) e ∙ append_assoc w (b ∷ y) (t ∷ q) ∙ ap (λ x. w ++ x) (sym f) in
      let same : w2 ≡ w = append_cancel_right w2 w s (sym h ∙ all) in
      ap (λ x. x ++ (b ∷ (y ++ can.0))) same ∙ sym (append_assoc w (b ∷ y) can.0) ∙ ap (λ x. x ++ can.0) (sym e)

  got_by : (v : Meant r) (s w y : List Spelled) → z ≡ w ++ y → s ≡ y ++ t ∷ q → Facts (got v s) → DeepBy (Behind (got v s)) (t ∷ q)
  got_by v s w [] e f x = ([], got_there v s f)
  got_by v s w (b ∷ y) e f x =
      let l = x.3 (b ∷ (y ++ can.0)) (rw f refl) in
      let g = ap (read can.2.0 (rule r)) (further_on w x.0 b y s e f x.1) in
      absurd (goes_past v can.1 b (y ++ can.0) (sym l ∙ g ∙ whole_read can.2.0 can.1 can.2.1))

  refused_by : (s w y : List Spelled) → z ≡ w ++ y → s ≡ y ++ t ∷ q → Facts (refused s) → DeepBy (Behind (refused s)) (t ∷ q)
  refused_by s w [] e f x = ([], refused_there s f)
  refused_by s w (b ∷ y) e f x =
      let l = x.3 (b ∷ (y ++ can.0)) (rw f refl) in
      let g = ap (read can.2.0 (rule r)) (further_on w x.0 b y s e f x.1) in
      absurd (never_refused can.1 (b ∷ (y ++ can.0)) [] (sym l ∙ g ∙ whole_read can.2.0 can.1 can.2.1))

  stops_by : (o : Outcome (Meant r)) → Passes (z ++ t ∷ q) (left_over o) → Facts o → DeepBy (Behind o) (t ∷ q)
  stops_by (got v s) p x = let k = still_there t q opens z p.0 s p.1 p.2 in got_by v s p.0 k.0 k.1 k.2 x
  stops_by (refused s) p x = let k = still_there t q opens z p.0 s p.1 p.2 in refused_by s p.0 k.0 k.1 k.2 x
  stops_by (too_deep s) p x = let k = still_there t q opens z p.0 s p.1 p.2 in (k.0, ap too_deep k.2)

  pub stands_deep : DeepBy (Behind (read 0 (rule r) (z ++ t ∷ q))) (t ∷ q)
  stands_deep =
      stops_by (read 0 (rule r) (z ++ t ∷ q)) (passes_read (rule r) (rules_plain r) (z ++ t ∷ q))
      (explain rules_decided rules_some 0 can.2.0 (omega arith) (rule r) (rules_decided.each r) (z ++ t ∷ q))

-- ---- the forms

-- the same one level further in
abbrev Below : ℕ → Type 0
Below zero = Unit {0}
Below (suc n) = (r : Part) (t : Spelled) (w z : List Spelled) → LeadsTo (Within n) (Leads n t) (rule r) w → DeepBy (read n (rule r) (w ++ t ∷ z)) (t ∷ z)

inner_opens : (n : ℕ) → Below (suc n) → (o : Class) (r : Part) (c : Class) → not (has open_brackets c) ≡ true → (t u : Spelled) (w z : List Spelled)
    → LeadsTo (Within n) (Leads n t) (rule r) w ⊎ Stands n t (bracket o r c) w
    → DeepBy {A = Spelled × Meant r} (deepen (and_then (inner (suc n) r (w ++ t ∷ z)) (λ v r2. and_then (take_token (c ∷ []) r2) (λ _ r3. got (u, v) r3))) n) (t ∷ z)
inner_opens n below o r c p t u w z (inl h) = (let e = below r t w z h in (e.0, rw e.1 refl))
inner_opens zero below o r c p t u w z (inr h) =
    let can : CanEnd (rule r) w = (h.1.0, h.1.1, (h.1.2, h.1.3)) in
    stands_deep r c u t w z h.0 (not_true (has open_brackets c) p) can
inner_opens (suc n) below o r c p t u w z (inr h) = absurd h

inside_opens : (n : ℕ) → Below n → (o : Class) (r : Part) (c : Class) → not (has open_brackets c) ≡ true → (t : Spelled) (w z : List Spelled) → Leads n t (bracket o r c) w
    → DeepBy {A = Spelled × Meant r} (read n (inside o r c) (w ++ t ∷ z)) (t ∷ z)
inside_opens zero below o r c p t w z l = let h : has (o ∷ []) (class t) ≡ true = l.1 in ([], rw (l.0, h) refl)
inside_opens (suc n) below o r c p t w z l =
    let h : has (o ∷ []) (class l.0) ≡ true = l.2 in
    let e = inner_opens n below o r c p t l.0 l.1 z l.4 in
    (e.0, rw (l.3, h) e.1)

prefix_opens : (n : ℕ) → Below n → (ks : List Class) (r : Part) (t : Spelled) (w z : List Spelled) → Leads n t (before ks r) w
    → DeepBy {A = Spelled × Meant r} (read n (prefix ks r) (w ++ t ∷ z)) (t ∷ z)
prefix_opens zero below ks r t w z l = let h : has ks (class t) ≡ true = l.1 in ([], rw (l.0, h) refl)
prefix_opens (suc n) below ks r t w z l = let h : has ks (class l.0) ≡ true = l.2 in elim l.4 [
  | inl k ↦ (let e = below r t l.1 z k in (e.0, rw (l.3, h, e.1) refl))
  | inr k ↦ absurd (never_behind n t ks r l.1 k)
]
  where
    never_behind : (n : ℕ) (t : Spelled) (ks : List Class) (r : Part) (z : List Spelled) → Stands n t (before ks r) z → ⊥
    never_behind zero t ks r z k = k
    never_behind (suc n) t ks r z k = k

module _ (n : ℕ) (below : Below n) where
  opens_at : {A : Type 0} (s : Syn A) → decided s ≡ true → plain s ≡ true → (t : Spelled) (w z : List Spelled) → LeadsTo (Within n) (Leads n t) s w → DeepBy (read n s (w ++ t ∷ z)) (t ∷ z)
  opens_at (token ks) dec p t w z l = absurd l
  opens_at (give a) dec p t w z l = absurd l
  opens_at (both s u) dec p t w z l =
      let ok1 = and_left (disjoint (first u) (further s)) (decided s && decided u) dec in
      let ok2 = and_right (disjoint (first u) (further s)) (decided s && decided u) dec in
      let decs = and_left (decided s) (decided u) ok2 in
      let decu = and_right (decided s) (decided u) ok2 in
      elim l [
        | inl h ↦ (let e = opens_at s decs (and_left (plain s) (plain u) p) t w z h in (e.0, rw e.1 refl))
        | inr h ↦ (let f = lead_first n u t h.1 z h.5 in
            let e1 = reads n (within_reads rules_decided n) s decs h.0 (h.1 ++ t ∷ z) h.2 h.4 (begins_apart (further s) (first u) (h.1 ++ t ∷ z) ok1 f) in
            let e2 = opens_at u decu (and_right (plain s) (plain u) p) t h.1 z h.5 in
            (e2.0, rw (h.3, append_assoc, e1, e2.1) refl))
      ]
  opens_at (either s u) dec p t w z l =
      let ok1 = and_right (not (nullable s)) (disjoint (first u) (first s) && (decided s && decided u)) dec in
      let dis = and_left (disjoint (first u) (first s)) (decided s && decided u) ok1 in
      let ok2 = and_right (disjoint (first u) (first s)) (decided s && decided u) ok1 in
      elim l [
        | inl h ↦ (let b = lead_first n s t w z h in
            let e = opens_at s (and_left (decided s) (decided u) ok2) (and_left (plain s) (plain u) p) t w z h in (e.0, rw b e.1))
        | inr h ↦ (let b = begins_apart (first s) (first u) (w ++ t ∷ z) dis (lead_first n u t w z h) in
            let e = opens_at u (and_right (decided s) (decided u) ok2) (and_right (plain s) (plain u) p) t w z h in (e.0, rw b e.1))
      ]
  opens_at (many s) dec p t w z l =
      let some = not_true (nullable s) (and_left (not (nullable s)) (disjoint (first s) (further s) && decided s) dec) in
      let ok1 = and_right (not (nullable s)) (disjoint (first s) (further s) && decided s) dec in
      let dis = and_left (disjoint (first s) (further s)) (decided s) ok1 in
      let decs = and_right (disjoint (first s) (further s)) (decided s) ok1 in
      let e : w ++ t ∷ z ≡ l.0 ++ (l.1 ++ t ∷ z) = ap (λ y. y ++ t ∷ z) l.3 ∙ append_assoc l.0 l.1 (t ∷ z) in
      let k = opens_at s decs p t l.1 z l.5 in (
        k.0,
        rw e (many_deep n s (read n s) (first s) (further s)
            (λ x r v d stop. reads n (within_reads rules_decided n) s decs x r v d stop) (λ u us v d. head (Within n) s u us v d) (λ v d. let y = empty (Within n) s v d in cc) dis
            (length (l.0 ++ (l.1 ++ t ∷ z))) l.0 (l.1 ++ t ∷ z) (k.0 ++ t ∷ z) l.2 (omega arith) l.4 (lead_first n s t l.1 z l.5) k.1),
      )
  opens_at (means f s) dec p t w z l = let e = opens_at s dec p t w z l in (e.0, rw e.1 refl)
  opens_at (inside o r c) dec p t w z l = inside_opens n below o r c p t w z l
  opens_at (prefix ks r) dec p t w z l = prefix_opens n below ks r t w z l

-- where the next token opens a level too many, reading says so of it or of one before it
pub opens_read : (n : ℕ) {A : Type 0} (s : Syn A) → decided s ≡ true → plain s ≡ true → (t : Spelled) (w z : List Spelled) → LeadsTo (Within n) (Leads n t) s w → DeepBy (read n s (w ++ t ∷ z)) (t ∷ z)
opens_read zero s dec p t w z l = opens_at zero tt s dec p t w z l
opens_read (suc n) s dec p t w z l = opens_at (suc n) (λ r u x y h. opens_read n (rule r) (rules_decided.each r) (rules_plain r) u x y h) s dec p t w z l

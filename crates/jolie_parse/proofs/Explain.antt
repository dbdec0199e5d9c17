-- What reading a grammar's tokens gives is explained by what derives.
use Rattle.std.proofs.Common.{◌≡◌, ℕ, zero, suc, ◌≤◌, ◌+◌, inl, inr, Bool, true, false, ◌&&◌, not, List, [], ◌∷◌, ◌++◌, length, refl, sym, ap, subst, ◌∙◌, arith, append_assoc, append-nil, if◌then◌else◌}
use Rattle.jolie_parse.specs.declared.class.Class.{Class}
use Rattle.jolie_parse.specs.Classes.{Spelled, has, class, begins, same, open_brackets}
use Rattle.jolie_parse.specs.Syntax.{Syn, token, give, both, either, many, means, inside, prefix, Part, Meant, Lang}
use Rattle.jolie_parse.specs.Deciding.{disjoint, later, covers, nullable, first, further}
use Rattle.jolie_parse.specs.Factored.{rule, Within, Nests, decided, usable}
use Rattle.jolie_parse.specs.Reading.{Outcome, got, refused, too_deep, and_then, SameHead, take_token, repeat, deepen, enclosed, prefixed, inner, read}
use Rattle.jolie_parse.proofs.SameClasses.{same_eq, eq_same}
use Rattle.jolie_parse.proofs.Sets.{and_left, and_right, or_cases, or_left, not_true}
use Rattle.jolie_parse.proofs.Samples.{sample, sample_class}
use Rattle.jolie_parse.proofs.Complete.{Decided, empty, nonempty_shorter, nonempty_some, repeat_stops}
use Rattle.jolie_parse.proofs.Unique.{Nests_more}
use Rattle.jolie_parse.specs.Levels.{bracket}
use Rattle.jolie_parse.proofs.Openings.{Any, CanEnd, Stands, LeadsTo, Leads, OpensNext}
use Rattle.jolie_parse.proofs.Outcomes.{Before, Reading, Explains, same_more, begins_same, ex_map, ex_give, ex_means, ex_then}

-- ---- what can be completed

abbrev pub Some : {A : Type 0} → Syn A → Type 0
Some {A} s = (y : List Spelled) × (v : A) × Any s y v

-- something derives from each rule
abbrev pub AllSome : Type 0
AllSome = (r : Part) → Some (rule r)

pub usable_some : (ks : List Class) → usable ks ≡ true → (t : Spelled) × (has ks (class t) ≡ true)
usable_some [] u = cc
usable_some (c ∷ cs) u = (sample c, or_left (same c (class (sample c))) _ (eq_same c (class (sample c)) (sym (sample_class c))))

pub both_any : {A B : Type 0} (s : Syn A) (t : Syn B) (x y : List Spelled) (a : A) (b : B) → Any s x a → Any t y b → Any (both s t) (x ++ y) (a, b)
both_any s t x y a b p q = (p.0 + q.0, (x, y, refl, Nests_more p.0 (p.0 + q.0) s (omega arith) x a p.1, Nests_more q.0 (p.0 + q.0) t (omega arith) y b q.1))

pub inside_any : (o : Class) (r : Part) (c : Class) (t u : Spelled) (x : List Spelled) (v : Meant r) → class t ≡ o → class u ≡ c → Any (rule r) x v → Any (inside o r c) (t ∷ (x ++ u ∷ [])) (t, v)
inside_any o r c t u x v ht hu p = (suc p.0, (u, x, ht, hu, refl, p.1))

pub prefix_any : (ks : List Class) (r : Part) (t : Spelled) (x : List Spelled) (v : Meant r) → has ks (class t) ≡ true → Any (rule r) x v → Any (prefix ks r) (t ∷ x) (t, v)
prefix_any ks r t x v h p = (suc p.0, (x, h, refl, p.1))

module _ (enough : AllSome) where
  pub some : {A : Type 0} (s : Syn A) → decided s ≡ true → Some s
  some (token ks) ok = let t = usable_some ks ok in (t.0 ∷ [], t.0, (0, (t.1, refl)))
  some (give a) ok = ([], a, (0, (refl, refl)))
  some (both s t) ok =
      let ok2 = and_right _ (decided s && decided t) ok in
      let p = some s (and_left (decided s) (decided t) ok2) in
      let q = some t (and_right (decided s) (decided t) ok2) in
      (p.0 ++ q.0, (p.1, q.1), both_any s t p.0 q.0 p.1 q.1 p.2 q.2)
  some (either s t) ok =
      let ok1 = and_right (not (nullable s)) (disjoint (first t) (first s) && (decided s && decided t)) ok in
      let ok2 = and_right (disjoint (first t) (first s)) (decided s && decided t) ok1 in
      let p = some s (and_left (decided s) (decided t) ok2) in
      (p.0, p.1, (p.2.0, inl p.2.1))
  some (many s) ok = ([], [], (0, refl))
  some (means f s) ok = let p = some s ok in (p.0, f p.1, (p.2.0, (p.1, refl, p.2.1)))
  some (inside o r c) ok =
      let p = enough r in
      (sample o ∷ (p.0 ++ sample c ∷ []), (sample o, p.1), inside_any o r c (sample o) (sample c) p.0 p.1 (sample_class o) (sample_class c) p.2)
  some (prefix ks r) ok =
      let p = enough r in
      let t = usable_some ks (and_left (usable ks) (covers (further (rule r)) (later r)) ok) in
      (t.0 ∷ p.0, (t.0, p.1), prefix_any ks r t.0 p.0 p.1 t.1 p.2)

-- ---- one token

-- where a token opens a level too many
abbrev pub OpensIf : Bool → ℕ → {A : Type 0} → Syn A → List Spelled → List Spelled → Type 0
OpensIf false n s w r = Unit {0}
OpensIf true n s w r = OpensNext n s w r

opens_map : {A C : Type 0} (b : Bool) (n : ℕ) (s : Syn A) (t : Syn C) (w y r : List Spelled) → ((u : Spelled) → LeadsTo (Within n) (Leads n u) s w → LeadsTo (Within n) (Leads n u) t y) → OpensIf b n s w r → OpensIf b n t y r
opens_map false n s t w y r h o = tt
opens_map true n s t w y r h o = (o.0, o.1, o.2, h o.0 o.3)

opens_in : {C : Type 0} (b : Bool) (n : ℕ) (k : Part) (s : Syn C) (w y r : List Spelled) → ((u : Spelled) → LeadsTo (Within n) (Leads n u) (rule k) w → LeadsTo (Within (suc n)) (Leads (suc n) u) s y) → OpensIf b n (rule k) w r → OpensIf b (suc n) s y r
opens_in false n k s w y r h o = tt
opens_in true n k s w y r h o = (o.0, o.1, o.2, h o.0 o.3)

-- what comes before a refusal
abbrev pub Bef : {A : Type 0} → ℕ → Syn A → Before
Bef n s b w r = CanEnd s w × OpensIf b n s w r

token_next : (n : ℕ) (ks : List Class) (B : Before) (t : Spelled) (ts : List Spelled) (b : Bool) → has ks (class t) ≡ b → B false [] (t ∷ ts)
    → Explains (Nests n (token ks)) B (λ z o. take_token ks z ≡ o) (t ∷ ts) (if b then got t ts else refused (t ∷ ts))
token_next n ks B t ts true e p = (t ∷ [], refl, (e, refl), λ z h. rw e refl)
token_next n ks B t ts false e p = ([], refl, p, again ks t ts e)
  where
    again : (ks : List Class) (t : Spelled) (ts : List Spelled) → has ks (class t) ≡ false → (z : List Spelled) → SameHead (t ∷ ts) z → take_token ks z ≡ refused z
    again ks t ts e [] h = absurd h
    again ks t ts e (u ∷ us) h = let g : has ks (class u) ≡ false = ap (λ x. has ks (class x)) (sym h) ∙ e in rw g refl

pub ex_token : (n : ℕ) (ks : List Class) (B : Before) (ts : List Spelled) → B false [] ts → Explains (Nests n (token ks)) B (λ z o. take_token ks z ≡ o) ts (take_token ks ts)
ex_token n ks B [] p = ([], refl, p, token_end ks)
  where
    token_end : (ks : List Class) (z : List Spelled) → SameHead [] z → take_token ks z ≡ refused z
    token_end ks [] h = refl
    token_end ks (u ∷ us) h = absurd h
ex_token n ks B (t ∷ ts) p = token_next n ks B t ts (has ks (class t)) refl p

-- ---- many

repeat_fails : {A : Type 0} (one : List Spelled → Outcome A) (ks : List Class) (j : ℕ) (z r : List Spelled) → begins ks z ≡ true → length z ≤ j → one z ≡ refused r → repeat one ks j z ≡ refused r
repeat_fails one ks j [] r b le e = cc
repeat_fails one ks zero (t ∷ z) r b le e = let no : ⊥ = omega arith in absurd no
repeat_fails one ks (suc j) (t ∷ z) r b le e = rw (b, e) refl

repeat_next : {A : Type 0} (one : List Spelled → Outcome A) (ks : List Class) (j : ℕ) (w z : List Spelled) (a : A) (o : Outcome (List A)) → (w ≡ [] → ⊥) → begins ks (w ++ z) ≡ true → one (w ++ z) ≡ got a z
    → ((i : ℕ) → length z ≤ i → and_then (repeat one ks i z) (λ more rest. got (a ∷ more) rest) ≡ o) → length (w ++ z) ≤ j → repeat one ks j (w ++ z) ≡ o
repeat_next one ks zero w z a o some b e h le = absurd (nonempty_some w z some le)
repeat_next one ks (suc j) w z a o some b e h le = rw (b, e) (h j (nonempty_shorter w z j some le))

module _ {A : Type 0} (n m : ℕ) (s : Syn A) (one : List Spelled → Outcome A) (ks : List Class)
    (ex : (ts : List Spelled) → Explains (Nests n s) (Bef n s) (λ z o. read m s z ≡ o) ts (one ts))
    (nonempty : (v : A) → Nests n s [] v → ⊥) where
  abbrev Goes : Reading (List A)
  Goes z o = (j : ℕ) → length z ≤ j → repeat (read m s) ks j z ≡ o

  can_end_one : (w : List Spelled) → CanEnd s w → CanEnd (many s) w
  can_end_one w (more, v, (k, d)) = (more, v ∷ [], (k, (w ++ more, [], sym (append-nil (w ++ more)), d, refl)))

  can_end_more : (w : List Spelled) (a : A) (y : List Spelled) → Nests n s w a → CanEnd (many s) y → CanEnd (many s) (w ++ y)
  can_end_more w a y d (more, vs, (k, e)) = (more, a ∷ vs, (n + k, (w, y ++ more, append_assoc w y more, Nests_more n (n + k) s (omega arith) w a d, Nests_more k (n + k) (many s) (omega arith) (y ++ more) vs e)))

  ex_some : (k : ℕ) (ts : List Spelled) → begins ks ts ≡ true
      → ((r : List Spelled) → length r ≤ k → Explains (Nests n (many s)) (Bef n (many s)) Goes r (repeat one ks k r))
      → length ts ≤ suc k
      → Explains (Nests n (many s)) (Bef n (many s)) Goes ts (and_then (one ts) (λ a r. and_then (repeat one ks k r) (λ more rest. got (a ∷ more) rest)))
  ex_some k ts b again le =
      ex_then (Nests n s) (Bef n s) (λ z o. (begins ks z ≡ true) × (read m s z ≡ o)) (Nests n (many s)) (Bef n (many s)) Goes
      (λ a z o. (j : ℕ) → length z ≤ j → and_then (repeat (read m s) ks j z) (λ more rest. got (a ∷ more) rest) ≡ o)
      (λ d w r h. (can_end_one w h.0, opens_map d n s (many s) w w r (λ u l. ([], w, [], refl, refl, l)) h.1))
      (λ z r h j l. repeat_fails (read m s) ks j z r h.0 l h.1)
      (λ w z a o d h g j l. repeat_next (read m s) ks j w z a o (λ e. nonempty a (rw e at d)) h.0 h.1 g l)
      ts (λ a r. and_then (repeat one ks k r) (λ more rest. got (a ∷ more) rest)) (one ts)
      (ex_map (Nests n s) (Nests n s) (Bef n s) (Bef n s) (λ z o. read m s z ≡ o) (λ z o. (begins ks z ≡ true) × (read m s z ≡ o)) ts
      (λ w v x. x) (λ d w r x. x) (λ w r z o eq h x. (sym (begins_same ks (w ++ r) (w ++ z) (same_more w r z h)) ∙ sym (ap (begins ks) eq) ∙ b, x)) (one ts) (ex ts))
      (λ w r a eq d. ex_means (λ vs. a ∷ vs) (Nests n (many s)) (λ y c. Nests n (many s) (w ++ y) c) (Bef n (many s)) (λ c y. Bef n (many s) c (w ++ y)) Goes
      (λ z o. (j : ℕ) → length z ≤ j → and_then (repeat (read m s) ks j z) (λ more rest. got (a ∷ more) rest) ≡ o) r
      (λ y vs h. (w, y, refl, d, h))
      (λ c y q h. (can_end_more w a y d h.0, opens_map c n (many s) (many s) y (w ++ y) q (λ u l. (w ++ l.0, l.1, a ∷ l.2, ap (λ z. w ++ z) l.3 ∙ sym (append_assoc w l.0 l.1), (w, l.0, refl, d, l.4), l.5)) h.1))
      (λ z q vs h j l. rw (h j l) refl) (λ z q h j l. rw (h j l) refl)
      (repeat one ks k r) (again r (nonempty_shorter w r k (λ e. nonempty a (rw e at d)) (rw eq at le))))

  ex_done : (ts : List Spelled) → begins ks ts ≡ false → Explains (Nests n (many s)) (Bef n (many s)) Goes ts (got [] ts)
  ex_done ts b = ex_give (Nests n (many s)) (Bef n (many s)) Goes ts [] refl (λ z h j l. repeat_stops (read m s) ks j z (sym (begins_same ks ts z h) ∙ b))

  ex_turn : (k : ℕ) (ts : List Spelled) (b : Bool) → begins ks ts ≡ b
      → ((r : List Spelled) → length r ≤ k → Explains (Nests n (many s)) (Bef n (many s)) Goes r (repeat one ks k r))
      → length ts ≤ suc k
      → Explains (Nests n (many s)) (Bef n (many s)) Goes ts (if b then and_then (one ts) (λ a r. and_then (repeat one ks k r) (λ more rest. got (a ∷ more) rest)) else got [] ts)
  ex_turn k ts true e again le = ex_some k ts e again le
  ex_turn k ts false e again le = ex_done ts e

  no_tokens : (ts : List Spelled) → length ts ≤ 0 → begins ks ts ≡ false
  no_tokens [] le = refl
  no_tokens (t ∷ ts) le = let no : ⊥ = omega arith in absurd no

  pub ex_repeat : (k : ℕ) (ts : List Spelled) → length ts ≤ k → Explains (Nests n (many s)) (Bef n (many s)) Goes ts (repeat one ks k ts)
  ex_repeat zero ts le = ex_done ts (no_tokens ts le)
  ex_repeat (suc k) ts le = ex_turn k ts (begins ks ts) refl (ex_repeat k) le

-- ---- the other forms

begun : AllSome → {A B : Type 0} (s : Syn A) (t : Syn B) → decided t ≡ true → (w : List Spelled) → CanEnd s w → CanEnd (both s t) w
begun enough s t okt w (more, a, (k, d)) =
    let p = some enough t okt in
    let j = k + p.2.0 in
    (more ++ p.0, (a, p.1), (k + p.2.0, (w ++ more, p.0, sym (append_assoc w more p.0), Nests_more k (k + p.2.0) s (omega arith) (w ++ more) a d, Nests_more p.2.0 (k + p.2.0) t (omega arith) p.0 p.1 p.2.1)))

goes_on : (n : ℕ) {A B : Type 0} (s : Syn A) (t : Syn B) (w : List Spelled) (a : A) (y : List Spelled) → Nests n s w a → CanEnd t y → CanEnd (both s t) (w ++ y)
goes_on n s t w a y d (more, b, (k, e)) =
    (more, (a, b), (n + k, (w, y ++ more, append_assoc w y more, Nests_more n (n + k) s (omega arith) w a d, Nests_more k (n + k) t (omega arith) (y ++ more) b e)))

module _ (n m : ℕ) (le : n ≤ m) (ok : Decided) (enough : AllSome) where
  ex_both : {A B : Type 0} (s : Syn A) (t : Syn B) → decided (both s t) ≡ true
      → ((ts : List Spelled) → Explains (Nests n s) (Bef n s) (λ z o. read m s z ≡ o) ts (read n s ts))
      → ((ts : List Spelled) → Explains (Nests n t) (Bef n t) (λ z o. read m t z ≡ o) ts (read n t ts))
      → (ts : List Spelled) → Explains (Nests n (both s t)) (Bef n (both s t)) (λ z o. read m (both s t) z ≡ o) ts (read n (both s t) ts)
  ex_both s t dec exs ext ts =
      let ok2 = and_right (disjoint (first t) (further s)) (decided s && decided t) dec in
      let oks = and_left (decided s) (decided t) ok2 in
      let okt = and_right (decided s) (decided t) ok2 in
      ex_then (Nests n s) (Bef n s) (λ z o. read m s z ≡ o) (Nests n (both s t)) (Bef n (both s t)) (λ z o. read m (both s t) z ≡ o)
      (λ a z o. and_then (read m t z) (λ b r2. got (a, b) r2) ≡ o)
      (λ b w r h. (begun enough s t okt w h.0, opens_map b n s (both s t) w w r (λ u l. inl l) h.1))
      (λ z r e. rw e refl)
      (λ w z a o d e g. rw e g)
      ts (λ a r. and_then (read n t r) (λ b r2. got (a, b) r2)) (read n s ts) (exs ts)
      (λ w r a eq d. ex_means (λ b. (a, b)) (Nests n t) (λ y c. Nests n (both s t) (w ++ y) c) (Bef n t) (λ b y. Bef n (both s t) b (w ++ y)) (λ z o. read m t z ≡ o)
      (λ z o. and_then (read m t z) (λ b r2. got (a, b) r2) ≡ o) r
      (λ y b h. (w, y, refl, d, h))
      (λ b y q h. (goes_on n s t w a y d h.0, opens_map b n t (both s t) y (w ++ y) q (λ u l. inr (w, y, a, refl, d, l)) h.1))
      (λ z q b e. rw e refl) (λ z q e. rw e refl) (read n t r) (ext r))

  ex_either : {A : Type 0} (s t : Syn A)
      → ((ts : List Spelled) → Explains (Nests n s) (Bef n s) (λ z o. read m s z ≡ o) ts (read n s ts))
      → ((ts : List Spelled) → Explains (Nests n t) (Bef n t) (λ z o. read m t z ≡ o) ts (read n t ts))
      → (ts : List Spelled) (b : Bool) → begins (first s) ts ≡ b
      → Explains (Nests n (either s t)) (Bef n (either s t)) (λ z o. read m (either s t) z ≡ o) ts (if b then read n s ts else read n t ts)
  ex_either s t exs ext ts true e =
      ex_map (Nests n s) (Nests n (either s t)) (Bef n s) (Bef n (either s t)) (λ z o. read m s z ≡ o) (λ z o. read m (either s t) z ≡ o) ts
      (λ w v d. inl d) (λ b w r h. ((h.0.0, h.0.1, (h.0.2.0, inl h.0.2.1)), opens_map b n s (either s t) w w r (λ u l. inl l) h.1))
      (λ w r z o eq h g. let b = sym (begins_same (first s) (w ++ r) (w ++ z) (same_more w r z h)) ∙ sym (ap (begins (first s)) eq) ∙ e in rw b g) (read n s ts) (exs ts)
  ex_either s t exs ext ts false e =
      ex_map (Nests n t) (Nests n (either s t)) (Bef n t) (Bef n (either s t)) (λ z o. read m t z ≡ o) (λ z o. read m (either s t) z ≡ o) ts
      (λ w v d. inr d) (λ b w r h. ((h.0.0, h.0.1, (h.0.2.0, inr h.0.2.1)), opens_map b n t (either s t) w w r (λ u l. inr l) h.1))
      (λ w r z o eq h g. let b = sym (begins_same (first s) (w ++ r) (w ++ z) (same_more w r z h)) ∙ sym (ap (begins (first s)) eq) ∙ e in rw b g) (read n t ts) (ext ts)

-- ---- brackets

has_one : (c k : Class) → has (c ∷ []) k ≡ true → c ≡ k
has_one c k h = elim (or_cases (same c k) false h) [ inl e ↦ same_eq c k e | inr e ↦ cc ]

one_token : (c : Class) → Some (token (c ∷ []))
one_token c = (sample c ∷ [], sample c, (0, (or_left (same c (class (sample c))) false (eq_same c (class (sample c)) (sym (sample_class c))), refl)))

no_level_explained : {A : Type 0} (D : Lang A) (ks : List Class) (B : Before) (R : Reading A) (ts : List Spelled) (b : Bool) → begins ks ts ≡ b
    → B false [] ts → ((t : Spelled) (q : List Spelled) → ts ≡ t ∷ q → has ks (class t) ≡ true → B true [] ts)
    → ((z : List Spelled) → begins ks z ≡ false → R z (refused z)) → Explains D B R ts (if b then too_deep ts else refused ts)
no_level_explained D ks B R [] true e p h g = cc
no_level_explained D ks B R (t ∷ ts) true e p h g = ([], refl, h t ts refl e)
no_level_explained D ks B R ts false e p h g = ([], refl, p, λ z s. g z (sym (begins_same ks ts z s) ∙ e))

take_none : (ks : List Class) (z : List Spelled) → begins ks z ≡ false → take_token ks z ≡ refused z
take_none ks [] e = refl
take_none ks (t ∷ z) e = rw e refl

not_opened : (m : ℕ) {A : Type 0} (inn : List Spelled → Outcome A) (o c : Class) (z : List Spelled) → begins (o ∷ []) z ≡ false → enclosed m inn o c z ≡ refused z
not_opened zero inn o c z e = rw e refl
not_opened (suc m) inn o c z e = rw (take_none (o ∷ []) z e) refl

not_prefixed : (m : ℕ) {A : Type 0} (inn : List Spelled → Outcome A) (ks : List Class) (z : List Spelled) → begins ks z ≡ false → prefixed m inn ks z ≡ refused z
not_prefixed zero inn ks z e = rw e refl
not_prefixed (suc m) inn ks z e = rw (take_none ks z e) refl

inside_begun : (o : Class) (r : Part) (c : Class) → Some (rule r) → (w : List Spelled) → CanEnd (token (o ∷ [])) w → CanEnd (inside o r c) w
inside_begun o r c p w (more, t, (k, d)) =
    let q = inside_any o r c t (sample c) p.0 p.1 (sym (has_one o (class t) d.0)) (sample_class c) p.2 in (
      more ++ (p.0 ++ sample c ∷ []),
      (t, p.1),
      (q.0, subst (λ z. Nests q.0 (inside o r c) z (t, p.1)) (sym (ap (λ z. z ++ (p.0 ++ sample c ∷ [])) d.1) ∙ append_assoc w more (p.0 ++ sample c ∷ [])) q.1),
    )

inside_goes : (o : Class) (r : Part) (c : Class) → (t : Spelled) (y : List Spelled) → class t ≡ o → CanEnd (rule r) y → CanEnd (inside o r c) (t ∷ y)
inside_goes o r c t y h (more, v, (k, d)) =
    let q = inside_any o r c t (sample c) (y ++ more) v h (sample_class c) (k, d) in
    (more ++ sample c ∷ [], (t, v), (q.0, subst (λ z. Nests q.0 (inside o r c) (t ∷ z) (t, v)) (append_assoc y more (sample c ∷ [])) q.1))

inside_ends : (o : Class) (r : Part) (c : Class) (k : ℕ) (t : Spelled) (y y2 : List Spelled) (v : Meant r) → class t ≡ o → Nests k (rule r) y v → CanEnd (token (c ∷ [])) y2 → CanEnd (inside o r c) (t ∷ (y ++ y2))
inside_ends o r c k t y y2 v h d (more, u, (j, e)) =
    let q = inside_any o r c t u y v h (sym (has_one c (class u) e.0)) (k, d) in
    (more, (t, v), (q.0, subst (λ z. Nests q.0 (inside o r c) (t ∷ z) (t, v)) (sym (append_assoc y y2 more ∙ ap (λ z. y ++ z) e.1)) q.1))

stood : (n : ℕ) → n ≡ 0 → (u : Spelled) (o : Class) (r : Part) (c : Class) (y : List Spelled) → has open_brackets (class u) ≡ true → CanEnd (rule r) y → Stands n u (bracket o r c) y
stood zero z u o r c y hb h = (hb, (h.0, h.1, h.2.0, h.2.1))
stood (suc n) z u o r c y hb h = let no : ⊥ = omega arith in absurd no

deepen_none : {A : Type 0} (m : ℕ) (z : List Spelled) → begins open_brackets z ≡ false → deepen {A = A} (refused z) m ≡ refused z
deepen_none zero z h = rw h refl
deepen_none (suc m) z h = refl

-- where no level is left, a refused bracket is one too many
module _ {A : Type 0} (D : Lang A) (B C : Before) (f : List Spelled → Outcome A) (ts : List Spelled) where
  ex_refused : (m : ℕ) (w r : List Spelled) → ts ≡ w ++ r → C false w r → ((z : List Spelled) → SameHead r z → f (w ++ z) ≡ refused z)
      → (b : Bool) → begins open_brackets r ≡ b → ((u : Spelled) (q : List Spelled) → r ≡ u ∷ q → has open_brackets (class u) ≡ true → C true w r)
      → Explains D C (λ z u. deepen (f z) m ≡ u) ts (if b then too_deep r else refused r)
  ex_refused m w [] e p loc true hb h = cc
  ex_refused m w (u ∷ q) e p loc true hb h = (w, e, h u q refl hb)
  ex_refused m w r e p loc false hb h = (w, e, p, λ z s. rw (loc z s) (deepen_none m z (sym (begins_same open_brackets r z s) ∙ hb)))

  pub ex_deepen : (n m : ℕ) → n ≤ m → ((b : Bool) (w r : List Spelled) → B b w r → C b w r)
      → (n ≡ 0 → (w r : List Spelled) (u : Spelled) (q : List Spelled) → r ≡ u ∷ q → has open_brackets (class u) ≡ true → B false w r → C true w r)
      → (o : Outcome A) → Explains D B (λ z u. f z ≡ u) ts o → Explains D C (λ z u. deepen (f z) m ≡ u) ts (deepen o n)
  ex_deepen n m le same h (got v r) e = (e.0, e.1, e.2, λ z s. rw (e.3 z s) refl)
  ex_deepen n m le same h (too_deep r) e = (e.0, e.1, same true e.0 r e.2)
  ex_deepen zero m le same h (refused r) e = ex_refused m e.0 r e.1 (same false e.0 r e.2) e.3 (begins open_brackets r) refl (λ u q eq hb. h refl e.0 r u q eq hb e.2)
  ex_deepen (suc n) zero le same h (refused r) e = let no : ⊥ = omega arith in absurd no
  ex_deepen (suc n) (suc m) le same h (refused r) e = (e.0, e.1, same false e.0 r e.2, λ z s. rw (e.3 z s) refl)

-- a refusal at the first token of a part
abbrev Here : {A : Type 0} → Syn A → Before
Here s false w r = (w ≡ []) × CanEnd s []
Here s true w r = ⊥

here_bef : {A : Type 0} (n : ℕ) (s : Syn A) (b : Bool) (w r : List Spelled) → Here s b w r → Bef n s b w r
here_bef n s false w r h = (rw h.0 h.1, tt)
here_bef n s true w r h = absurd h

module _ (n m : ℕ) (enough : AllSome)
    (down : (r : Part) (ts : List Spelled) → Explains (Nests n (rule r)) (Bef n (rule r)) (λ z o. read m (rule r) z ≡ o) ts (read n (rule r) ts)) where
  -- what comes before a refusal behind a bracket: the tokens begin what stands in it
  abbrev Inner : (o : Class) (r : Part) (c : Class) → Spelled → Before
  Inner o r c t false y q = CanEnd (inside o r c) (t ∷ y) × CanEnd (rule r) y
  Inner o r c t true y q = Bef (suc n) (inside o r c) true (t ∷ y) q

  inner_bef : (o : Class) (r : Part) (c : Class) (t : Spelled) (b : Bool) (y q : List Spelled) → Inner o r c t b y q → Bef (suc n) (inside o r c) b (t ∷ y) q
  inner_bef o r c t false y q h = (h.0, tt)
  inner_bef o r c t true y q h = h

  goes_inner : (o : Class) (r : Part) (c : Class) (t : Spelled) → class t ≡ o → has (o ∷ []) (class t) ≡ true → (b : Bool) (y q : List Spelled) → Bef n (rule r) b y q → Inner o r c t b y q
  goes_inner o r c t ht hh false y q h = (inside_goes o r c t y ht h.0, h.0)
  goes_inner o r c t ht hh true y q h = (inside_goes o r c t y ht h.0, opens_in true n r (inside o r c) y (t ∷ y) q (λ u l. (t, y, hh, refl, inl l)) h.1)

  ends_here : (o : Class) (r : Part) (c : Class) (t : Spelled) (y : List Spelled) (v : Meant r) → class t ≡ o → Nests n (rule r) y v → (b : Bool) (y2 q : List Spelled) → Here (token (c ∷ [])) b y2 q → Inner o r c t b (y ++ y2) q
  ends_here o r c t y v ht d false y2 q h = (inside_ends o r c n t y y2 v ht d (rw h.0 h.1), ([], v, (n, rw (h.0, append-nil, append-nil) d)))
  ends_here o r c t y v ht d true y2 q h = absurd h

  ex_inside : n ≤ m → (o : Class) (r : Part) (c : Class) → (ts : List Spelled)
      → Explains (Nests (suc n) (inside o r c)) (Bef (suc n) (inside o r c)) (λ z u. enclosed (suc m) (inner (suc m) r) o c z ≡ u) ts (enclosed (suc n) (inner (suc n) r) o c ts)
  ex_inside le o r c ts =
      ex_then (Nests (suc n) (token (o ∷ []))) (Here (inside o r c)) (λ z u. take_token (o ∷ []) z ≡ u)
      (Nests (suc n) (inside o r c)) (Bef (suc n) (inside o r c)) (λ z u. enclosed (suc m) (inner (suc m) r) o c z ≡ u)
      (λ t z u. deepen (and_then (inner (suc m) r z) (λ v r2. and_then (take_token (c ∷ []) r2) (λ _ r3. got (t, v) r3))) m ≡ u)
      (here_bef (suc n) (inside o r c))
      (λ z q e. rw e refl)
      (λ w z a u d e g. rw e g)
      ts (λ t r1. deepen (and_then (inner (suc n) r r1) (λ v r2. and_then (take_token (c ∷ []) r2) (λ _ r3. got (t, v) r3))) n) (take_token (o ∷ []) ts)
      (ex_token (suc n) (o ∷ []) (Here (inside o r c)) ts (refl, inside_begun o r c (enough r) [] (one_token o)))
      (λ w r1 t eq d. rw d.1 (deeper t r1 (sym (has_one o (class t) d.0)) d.0))
    where
      stands : (t u : Spelled) (y : List Spelled) → has (o ∷ []) (class t) ≡ true → has open_brackets (class u) ≡ true → n ≡ 0 → CanEnd (rule r) y → LeadsTo (Within (suc n)) (Leads (suc n) u) (inside o r c) (t ∷ y)
      stands t u y hh hb z h = (t, y, hh, refl, inr (stood n z u o r c y hb h))

      turned : (t : Spelled) → has (o ∷ []) (class t) ≡ true → (y q : List Spelled) (u : Spelled) (q2 : List Spelled) → n ≡ 0 → q ≡ u ∷ q2 → has open_brackets (class u) ≡ true → Inner o r c t false y q → Bef (suc n) (inside o r c) true (t ∷ y) q
      turned t hh y q u q2 z e hb h = (h.0, (u, q2, e, stands t u y hh hb z h.1))

      behind : (t : Spelled) (r1 : List Spelled) → class t ≡ o → has (o ∷ []) (class t) ≡ true → Explains (λ y c2. Nests (suc n) (inside o r c) (t ∷ y) c2) (Inner o r c t)
          (λ z u. and_then (inner (suc m) r z) (λ v r2. and_then (take_token (c ∷ []) r2) (λ _ r3. got (t, v) r3)) ≡ u) r1
          (and_then (inner (suc n) r r1) (λ v r2. and_then (take_token (c ∷ []) r2) (λ _ r3. got (t, v) r3)))
      behind t r1 ht hh =
          ex_then (Nests n (rule r)) (Bef n (rule r)) (λ z u. read m (rule r) z ≡ u)
          (λ y c2. Nests (suc n) (inside o r c) (t ∷ y) c2) (Inner o r c t)
          (λ z u. and_then (inner (suc m) r z) (λ v r2. and_then (take_token (c ∷ []) r2) (λ _ r3. got (t, v) r3)) ≡ u)
          (λ v z u. and_then (take_token (c ∷ []) z) (λ _ r3. got (t, v) r3) ≡ u)
          (goes_inner o r c t ht hh)
          (λ z q e. rw e refl)
          (λ w z v u d e g. rw e g)
          r1 (λ v r2. and_then (take_token (c ∷ []) r2) (λ _ r3. got (t, v) r3)) (inner (suc n) r r1) (down r r1)
          (λ y r2 v eq d. ex_means (λ _. (t, v)) (Nests n (token (c ∷ []))) (λ y2 c2. Nests (suc n) (inside o r c) (t ∷ (y ++ y2)) c2)
          (Here (token (c ∷ []))) (λ b y2. Inner o r c t b (y ++ y2))
          (λ z u. take_token (c ∷ []) z ≡ u) (λ z u. and_then (take_token (c ∷ []) z) (λ _ r3. got (t, v) r3) ≡ u) r2
          (λ y2 u h. (u, y, ht, sym (has_one c (class u) h.0), ap (λ z. t ∷ (y ++ z)) h.1, d))
          (ends_here o r c t y v ht d)
          (λ z q u e. rw e refl) (λ z q e. rw e refl) (take_token (c ∷ []) r2) (ex_token n (c ∷ []) (Here (token (c ∷ []))) r2 (refl, one_token c)))

      deeper : (t : Spelled) (r1 : List Spelled) → class t ≡ o → has (o ∷ []) (class t) ≡ true → Explains (λ y c2. Nests (suc n) (inside o r c) (t ∷ y) c2) (λ b y. Bef (suc n) (inside o r c) b (t ∷ y))
          (λ z u. deepen (and_then (inner (suc m) r z) (λ v r2. and_then (take_token (c ∷ []) r2) (λ _ r3. got (t, v) r3))) m ≡ u) r1
          (deepen (and_then (inner (suc n) r r1) (λ v r2. and_then (take_token (c ∷ []) r2) (λ _ r3. got (t, v) r3))) n)
      deeper t r1 ht hh =
          ex_deepen (λ y c2. Nests (suc n) (inside o r c) (t ∷ y) c2) (Inner o r c t) (λ b y. Bef (suc n) (inside o r c) b (t ∷ y))
          (λ z. and_then (inner (suc m) r z) (λ v r2. and_then (take_token (c ∷ []) r2) (λ _ r3. got (t, v) r3))) r1 n m le (inner_bef o r c t)
          (λ z y q u q2 e hb h. turned t hh y q u q2 z e hb h)
          (and_then (inner (suc n) r r1) (λ v r2. and_then (take_token (c ∷ []) r2) (λ _ r3. got (t, v) r3))) (behind t r1 ht hh)

  prefix_goes : (ks : List Class) (r : Part) (t : Spelled) (y : List Spelled) → has ks (class t) ≡ true → CanEnd (rule r) y → CanEnd (prefix ks r) (t ∷ y)
  prefix_goes ks r t y h (more, v, (k, d)) = let q = prefix_any ks r t (y ++ more) v h (k, d) in (more, (t, v), q)

  ex_prefix : (ks : List Class) (r : Part) → CanEnd (prefix ks r) [] → (ts : List Spelled)
      → Explains (Nests (suc n) (prefix ks r)) (Bef (suc n) (prefix ks r)) (λ z u. prefixed (suc m) (inner (suc m) r) ks z ≡ u) ts (prefixed (suc n) (inner (suc n) r) ks ts)
  ex_prefix ks r start ts =
      ex_then (Nests (suc n) (token ks)) (Here (prefix ks r)) (λ z u. take_token ks z ≡ u)
      (Nests (suc n) (prefix ks r)) (Bef (suc n) (prefix ks r)) (λ z u. prefixed (suc m) (inner (suc m) r) ks z ≡ u)
      (λ t z u. and_then (inner (suc m) r z) (λ v r2. got (t, v) r2) ≡ u)
      (here_bef (suc n) (prefix ks r))
      (λ z q e. rw e refl)
      (λ w z a u d e g. rw e g)
      ts (λ t r1. and_then (inner (suc n) r r1) (λ v r2. got (t, v) r2)) (take_token ks ts)
      (ex_token (suc n) ks (Here (prefix ks r)) ts (refl, start))
      (λ w r1 t eq d. rw d.1 (ex_means (λ v. (t, v)) (Nests n (rule r)) (λ y c2. Nests (suc n) (prefix ks r) (t ∷ y) c2) (Bef n (rule r)) (λ b y. Bef (suc n) (prefix ks r) b (t ∷ y))
      (λ z u. read m (rule r) z ≡ u) (λ z u. and_then (inner (suc m) r z) (λ v r2. got (t, v) r2) ≡ u) r1
      (λ y v h. (y, d.0, refl, h))
      (λ b y q h. (prefix_goes ks r t y d.0 h.0, opens_in b n r (prefix ks r) y (t ∷ y) q (λ u l. (t, y, d.0, refl, inl l)) h.1))
      (λ z q v e. rw e refl) (λ z q e. rw e refl) (inner (suc n) r r1) (down r r1)))

-- ---- the whole

-- the same one level further in
abbrev Down : ℕ → ℕ → Type 0
Down zero m = Unit {0}
Down (suc n) zero = Unit {0}
Down (suc n) (suc m) = (r : Part) (ts : List Spelled) → Explains (Nests n (rule r)) (Bef n (rule r)) (λ z o. read m (rule r) z ≡ o) ts (read n (rule r) ts)

ex_inside_at : (n m : ℕ) → n ≤ m → AllSome → Down n m → (o : Class) (r : Part) (c : Class) → decided (inside o r c) ≡ true → (ts : List Spelled)
    → Explains (Nests n (inside o r c)) (Bef n (inside o r c)) (λ z u. read m (inside o r c) z ≡ u) ts (read n (inside o r c) ts)
ex_inside_at zero m le enough down o r c dec ts =
    let start = some enough (inside o r c) dec in
    no_level_explained (Nests 0 (inside o r c)) (o ∷ []) (Bef 0 (inside o r c)) (λ z u. read m (inside o r c) z ≡ u) ts (begins (o ∷ []) ts) refl
    (start, tt) (λ t q e h. (start, (t, q, e, (refl, h)))) (λ z e. not_opened m (inner m r) o c z e)
ex_inside_at (suc n) zero le enough down o r c dec ts = let no : ⊥ = omega arith in absurd no
ex_inside_at (suc n) (suc m) le enough down o r c dec ts =
    ex_inside n m enough down (omega arith) o r c ts

ex_prefix_at : (n m : ℕ) → n ≤ m → AllSome → Down n m → (ks : List Class) (r : Part) → decided (prefix ks r) ≡ true → (ts : List Spelled)
    → Explains (Nests n (prefix ks r)) (Bef n (prefix ks r)) (λ z u. read m (prefix ks r) z ≡ u) ts (read n (prefix ks r) ts)
ex_prefix_at zero m le enough down ks r dec ts =
    let start = some enough (prefix ks r) dec in
    no_level_explained (Nests 0 (prefix ks r)) ks (Bef 0 (prefix ks r)) (λ z u. read m (prefix ks r) z ≡ u) ts (begins ks ts) refl
    (start, tt) (λ t q e h. (start, (t, q, e, (refl, h)))) (λ z e. not_prefixed m (inner m r) ks z e)
ex_prefix_at (suc n) zero le enough down ks r dec ts = let no : ⊥ = omega arith in absurd no
ex_prefix_at (suc n) (suc m) le enough down ks r dec ts = ex_prefix n m enough down ks r (some enough (prefix ks r) dec) ts

module _ (n m : ℕ) (le : n ≤ m) (ok : Decided) (enough : AllSome) (down : Down n m) where
  explain_at : {A : Type 0} (s : Syn A) → decided s ≡ true → (ts : List Spelled) → Explains (Nests n s) (Bef n s) (λ z o. read m s z ≡ o) ts (read n s ts)
  explain_at (token ks) dec ts = ex_token n ks (Bef n (token ks)) ts (some enough (token ks) dec, tt)
  explain_at (give a) dec ts = ex_give (Nests n (give a)) (Bef n (give a)) (λ z o. read m (give a) z ≡ o) ts a (refl, refl) (λ z h. refl)
  explain_at (both s t) dec ts =
      let ok2 = and_right (disjoint (first t) (further s)) (decided s && decided t) dec in
      ex_both n m le ok enough s t dec (explain_at s (and_left (decided s) (decided t) ok2)) (explain_at t (and_right (decided s) (decided t) ok2)) ts
  explain_at (either s t) dec ts =
      let ok1 = and_right (not (nullable s)) (disjoint (first t) (first s) && (decided s && decided t)) dec in
      let ok2 = and_right (disjoint (first t) (first s)) (decided s && decided t) ok1 in
      ex_either n m le ok enough s t (explain_at s (and_left (decided s) (decided t) ok2)) (explain_at t (and_right (decided s) (decided t) ok2)) ts (begins (first s) ts) refl
  explain_at (many s) dec ts =
      let no = not_true (nullable s) (and_left (not (nullable s)) (disjoint (first s) (further s) && decided s) dec) in
      let ok1 = and_right (not (nullable s)) (disjoint (first s) (further s) && decided s) dec in
      let oks = and_right (disjoint (first s) (further s)) (decided s) ok1 in
      ex_map (Nests n (many s)) (Nests n (many s)) (Bef n (many s)) (Bef n (many s)) (λ z o. (j : ℕ) → length z ≤ j → repeat (read m s) (first s) j z ≡ o) (λ z o. read m (many s) z ≡ o) ts
      (λ w v x. x) (λ b w r x. x) (λ w r z o _ _ x. x (length (w ++ z)) (omega arith)) (read n (many s) ts)
      (ex_repeat n m s (read n s) (first s) (explain_at s oks) (λ v d. let y = empty (Within n) s v d in cc) (length ts) ts (omega arith))
  explain_at (means f s) dec ts =
      ex_means f (Nests n s) (Nests n (means f s)) (Bef n s) (Bef n (means f s)) (λ z o. read m s z ≡ o) (λ z o. read m (means f s) z ≡ o) ts
      (λ w v d. (v, refl, d)) (λ b w r h. ((h.0.0, f h.0.1, (h.0.2.0, (h.0.1, refl, h.0.2.1))), opens_map b n s (means f s) w w r (λ u l. l) h.1))
      (λ z r v e. rw e refl) (λ z r e. rw e refl) (read n s ts) (explain_at s dec ts)
  explain_at (inside o r c) dec ts = ex_inside_at n m le enough down o r c dec ts
  explain_at (prefix ks r) dec ts = ex_prefix_at n m le enough down ks r dec ts

pub explain : Decided → AllSome → (n m : ℕ) → n ≤ m → {A : Type 0} (s : Syn A) → decided s ≡ true → (ts : List Spelled) → Explains (Nests n s) (Bef n s) (λ z o. read m s z ≡ o) ts (read n s ts)
explain ok enough zero m le s dec ts = explain_at zero m le ok enough tt s dec ts
explain ok enough (suc n) zero le s dec ts = let no : ⊥ = omega arith in absurd no
explain ok enough (suc n) (suc m) le s dec ts = explain_at (suc n) (suc m) le ok enough (λ r us. explain ok enough n m (omega arith) (rule r) (ok.each r) us) s dec ts

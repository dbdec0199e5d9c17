-- Strings: the closing quote, the parts of the inside, bad escapes and the first fault.
use Rattle.std.proofs.Common.{◌≡◌, ℕ, suc, ◌+◌, ◌-◌, ◌<◌, ◌≤◌, ◌≢◌, min, ◌⊎◌, inl, inr, ⊎_elim, Bool, true, false, cond, not, List, [], ◌∷◌, ◌++◌, map, length, take, drop, get_or, refl, sym, ap, subst, ◌∙◌, arith, append_assoc, length-append, length-take, Option, None, Some, Ok}
use Rattle.std.specs.Prelude.{◌==◌}
use Rattle.std.specs.List.{All}
use Rattle.std.specs.Option.{MatchOption}
use Rattle.std.specs.Str.{IsUtf8}
use Rattle.std.proofs.lemmas.Bool.Decides.{nat_tests}
use Rattle.std.proofs.lemmas.Str.{IsUtf8-append, IsUtf8-take, IsCharBoundary-before_ascii}
use Rattle.std.proofs.Math.Seq.{take-append_seam}
use Rattle.std.proofs.lemmas.Bool.{eqb-true, ne_eqb}
use Rattle.std.proofs.lemmas.List.Elements.{All-nil, All-cons, All-head, All-tail}
use Rattle.jolie_tokens.specs.Bytes.{quote, backslash, is_escape, meant_byte}
use Rattle.jolie_tokens.specs.Utf8.{StopsAt}
use Rattle.jolie_tokens.specs.Pieces.{Part, plain, escape, part_bytes, IsPart, IsKnown, inside}
use Rattle.jolie_tokens.specs.Pieces as p
use Rattle.jolie_tokens.specs.Refusals.{ClosesNothing, IsBadEscape, IsFirstFault}
use Rattle.jolie_tokens.specs.Fronts.{string_end_from, string_end, bad_escape_from, bad_escape, parts_from, parts, meant, least, utf8_stop, string, Gives}
use Rattle.jolie_tokens.specs.declared.lexeme.Lexeme.{Lexeme}
use Rattle.jolie_tokens.specs.declared.token.TokenKind.TheVariants as kind
use Rattle.jolie_tokens.proofs.Encoding.{stop_found, stop_some, after_text, utf8_one}

-- a backslash before the bytes, or none
abbrev opened : Bool → List ℕ → List ℕ
opened true bs = backslash ∷ bs
opened false bs = bs

-- the first m bytes are parts of a string's inside, and a quote follows them
record Closed (escaped : Bool) (bs : List ℕ) (m : ℕ) : Type 0 where
  pub bytes : inside (parts_from escaped (take m bs)) ≡ opened escaped (take m bs)
  pub each : All IsPart (parts_from escaped (take m bs))
  pub next : bs ≡ take m bs ++ quote ∷ drop (suc m) bs

closed_escape : (b : ℕ) (bs : List ℕ) (m : ℕ) → Closed false bs m → Closed true (b ∷ bs) (suc m)
closed_escape b bs m h = record {
  bytes = ap (λ x. backslash ∷ b ∷ x) h.bytes;
  each = All-cons IsPart (escape b) (parts_from false (take m bs)) tt h.each;
  next = ap (λ x. b ∷ x) h.next;
}

closed_backslash : (b : ℕ) (bs : List ℕ) (m : ℕ) → (b == backslash) ≡ true → Closed true bs m → Closed false (b ∷ bs) (suc m)
closed_backslash b bs m e h =
    let same : b ≡ backslash = eqb-true b backslash e in
    record {
      bytes = rw e (h.bytes ∙ ap (λ x. x ∷ take m bs) (sym same));
      each = rw e h.each;
      next = ap (λ x. b ∷ x) h.next;
    }

differs : (a b : ℕ) → (a == b) ≡ false → a ≢ b
differs a b e f = grind arith

closed_plain : (b : ℕ) (bs : List ℕ) (m : ℕ) → (b == quote) ≡ false → (b == backslash) ≡ false → Closed false bs m → Closed false (b ∷ bs) (suc m)
closed_plain b bs m e f h = record {
  bytes = rw f (ap (λ x. b ∷ x) h.bytes);
  each = rw f (All-cons IsPart (plain b) (parts_from false (take m bs)) (differs b quote e, differs b backslash f) h.each);
  next = ap (λ x. b ∷ x) h.next;
}

closed_here : (b : ℕ) (bs : List ℕ) → (b == quote) ≡ true → Closed false (b ∷ bs) 0
closed_here b bs e = record {
  bytes = refl;
  each = All-nil IsPart;
  next = ap (λ x. x ∷ bs) (eqb-true b quote e);
}

string_closes : (escaped : Bool) (i : ℕ) (bs : List ℕ) (n : ℕ) → string_end_from escaped i bs ≡ Some n → (m : ℕ) × (n ≡ i + m) × Closed escaped bs m
string_closes escaped i [] n e = absurd cc
string_closes true i (b ∷ bs) n e =
    let rest = string_closes false (i + 1) bs n e in
    (suc rest.0, omega (arith, rest.1), closed_escape b bs rest.0 rest.2)
string_closes false i (b ∷ bs) n e = by (b == quote) refl e (b == backslash) refl (string_closes true (i + 1) bs n) (string_closes false (i + 1) bs n)
  where
    by : (q : Bool) → (b == quote) ≡ q → (cond q (Some i) (string_end_from (b == backslash) (i + 1) bs) ≡ Some n) → (k : Bool) → (b == backslash) ≡ k
        → (string_end_from true (i + 1) bs ≡ Some n → (m : ℕ) × (n ≡ i + 1 + m) × Closed true bs m)
        → (string_end_from false (i + 1) bs ≡ Some n → (m : ℕ) × (n ≡ i + 1 + m) × Closed false bs m)
        → (m : ℕ) × (n ≡ i + m) × Closed false (b ∷ bs) m
    by true eq h k ek _ _ = (0, (let same : i ≡ n = cc in omega arith), closed_here b bs eq)
    by false eq h true ek escaped_on _ =
        let rest = escaped_on (subst (λ z. string_end_from z (i + 1) bs ≡ Some n) ek h) in
        (suc rest.0, omega (arith, rest.1), closed_backslash b bs rest.0 ek rest.2)
    by false eq h false ek _ on =
        let rest = on (subst (λ z. string_end_from z (i + 1) bs ≡ Some n) ek h) in
        (suc rest.0, omega (arith, rest.1), closed_plain b bs rest.0 eq ek rest.2)

-- a quote behind parts is found
string_finds : (i : ℕ) (ps : List Part) (rest : List ℕ) → All IsPart ps → string_end_from false i (inside ps ++ quote ∷ rest) ≡ Some (i + length (inside ps))
string_finds i [] rest each = ap Some (let e : i ≡ i + 0 = omega arith in e)
string_finds i (plain b ∷ ps) rest each =
    let here : IsPart (plain b) = All-head IsPart (plain b) ps each in
    let no_quote : (b == quote) ≡ false = ne_eqb b quote here.0 in
    let no_backslash : (b == backslash) ≡ false = ne_eqb b backslash here.1 in
    rw (no_quote, no_backslash) (string_finds (i + 1) ps rest (All-tail IsPart (plain b) ps each) ∙ ap Some (let e : i + 1 + length (inside ps) ≡ i + suc (length (inside ps)) = omega arith in e))
string_finds i (escape b ∷ ps) rest each =
    string_finds (i + 1 + 1) ps rest (All-tail IsPart (escape b) ps each) ∙ ap Some (let e : i + 1 + 1 + length (inside ps) ≡ i + suc (suc (length (inside ps))) = omega arith in e)

pub end_found : (ps : List Part) (rest : List ℕ) → All IsPart ps → string_end (inside ps ++ quote ∷ rest) ≡ Some (length (inside ps))
unfolding string_end
end_found ps rest each = string_finds 0 ps rest each ∙ ap Some (let e : 0 + length (inside ps) ≡ length (inside ps) = omega arith in e)

-- the inside up to the closing quote is made of parts
pub record IsClosed (bs : List ℕ) (n : ℕ) : Type 0 where
  pub bytes : inside (parts (take n bs)) ≡ take n bs
  pub each : All IsPart (parts (take n bs))
  pub next : bs ≡ take n bs ++ quote ∷ drop (suc n) bs

pub end_closes : (bs : List ℕ) (n : ℕ) → string_end bs ≡ Some n → IsClosed bs n
unfolding string_end parts
end_closes bs n e =
    let found = string_closes false 0 bs n e in
    let same : found.0 ≡ n = omega (arith, found.1) in
    let closed : Closed false bs n = subst (λ m. Closed false bs m) same found.2 in
    record { bytes = closed.bytes; each = closed.each; next = closed.next }

-- where no closing quote is found there is none
pub end_none : (bs : List ℕ) → string_end bs ≡ None → ClosesNothing bs
end_none bs e ps rest each whole = let found : string_end bs ≡ Some (length (inside ps)) = ap string_end whole ∙ end_found ps rest each in cc

pub end_closes_nothing : (bs : List ℕ) → ClosesNothing bs → string_end bs ≡ None
end_closes_nothing bs open_end = by (string_end bs) refl
  where
    by : (o : Option ℕ) → string_end bs ≡ o → o ≡ None
    by None e = refl
    by (Some n) e = let closed = end_closes bs n e in absurd (open_end (parts (take n bs)) (drop (suc n) bs) closed.each (closed.next ∙ ap (λ x. x ++ quote ∷ drop (suc n) bs) (sym closed.bytes)))

-- the parts of parts are those
pub parts_inside : (ps : List Part) → All IsPart ps → parts (inside ps) ≡ ps
unfolding parts
parts_inside [] each = refl
parts_inside (plain b ∷ ps) each =
    let here : IsPart (plain b) = All-head IsPart (plain b) ps each in
    let no_backslash : (b == backslash) ≡ false = ne_eqb b backslash here.1 in
    rw no_backslash (ap (λ x. plain b ∷ x) (parts_inside ps (All-tail IsPart (plain b) ps each)))
parts_inside (escape b ∷ ps) each = ap (λ x. escape b ∷ x) (parts_inside ps (All-tail IsPart (escape b) ps each))

-- the first bad escape among parts, of which the first stands at the place i
abbrev first_bad : ℕ → List Part → Option ℕ
first_bad i [] = None
first_bad i (plain b ∷ ps) = first_bad (i + 1) ps
first_bad i (escape b ∷ ps) = cond (not (is_escape b)) (Some (i + 1 - 1)) (first_bad (i + 1 + 1) ps)

bad_from_inside : (i : ℕ) (ps : List Part) → All IsPart ps → bad_escape_from false i (inside ps) ≡ first_bad i ps
bad_from_inside i [] each = refl
bad_from_inside i (plain b ∷ ps) each =
    let here : IsPart (plain b) = All-head IsPart (plain b) ps each in
    let no_backslash : (b == backslash) ≡ false = ne_eqb b backslash here.1 in
    rw no_backslash (bad_from_inside (i + 1) ps (All-tail IsPart (plain b) ps each))
bad_from_inside i (escape b ∷ ps) each = ap (cond (not (is_escape b)) (Some (i + 1 - 1))) (bad_from_inside (i + 1 + 1) ps (All-tail IsPart (escape b) ps each))

-- the first bad escape is k places on, or all escapes are known
abbrev IsFirstBad : ℕ → List Part → Option ℕ → Type 0
IsFirstBad i ps None = All IsKnown ps
IsFirstBad i ps (Some n) = (k : ℕ) × (n ≡ i + k) × IsBadEscape ps k × ((j : ℕ) → IsBadEscape ps j → k ≤ j)

bad_after : (p : Part) (ps : List Part) (k : ℕ) → IsBadEscape ps k → IsBadEscape (p ∷ ps) (length (part_bytes p) + k)
bad_after p ps k (before, after, b, whole, bad, place) =
    (p ∷ before, after, b, ap (λ x. p ∷ x) whole, bad, omega (arith, place, length-append (part_bytes p) (inside before)))

bad_before : (p : Part) (ps : List Part) (j : ℕ) → IsKnown p → IsBadEscape (p ∷ ps) j → (k : ℕ) × (j ≡ length (part_bytes p) + k) × IsBadEscape ps k
bad_before p ps j known ([], after, b, whole, bad, place) = let here : p ≡ escape b = cc in let k : is_escape b ≡ true = subst IsKnown here known in absurd cc
bad_before p ps j known (q ∷ before, after, b, whole, bad, place) =
    let head : p ≡ q = cc in
    let tail : ps ≡ before ++ escape b ∷ after = cc in
    (length (inside before), rw head (place ∙ length-append (part_bytes q) (inside before)), (before, after, b, tail, bad, refl))

known_first : (i : ℕ) (p : Part) (ps : List Part) (n : ℕ) → IsKnown p → n ≡ i + length (part_bytes p) → (o : Option ℕ) → IsFirstBad n ps o → IsFirstBad i (p ∷ ps) o
known_first i p ps n known e None h = All-cons IsKnown p ps known h
known_first i p ps n known e (Some m) h = (
  length (part_bytes p) + h.0,
  omega (arith, h.1),
  bad_after p ps h.0 h.2,
  λ j bad. let rest = bad_before p ps j known bad in omega (arith, rest.1, h.3 rest.0 rest.2),
)

first_bad_is : (i : ℕ) (ps : List Part) → IsFirstBad i ps (first_bad i ps)
first_bad_is i [] = All-nil IsKnown
first_bad_is i (plain b ∷ ps) = known_first i (plain b) ps (i + 1) tt (omega arith) (first_bad (i + 1) ps) (first_bad_is (i + 1) ps)
first_bad_is i (escape b ∷ ps) = by (is_escape b) refl (first_bad_is (i + 1 + 1) ps)
  where
    by : (k : Bool) → is_escape b ≡ k → IsFirstBad (i + 1 + 1) ps (first_bad (i + 1 + 1) ps) → IsFirstBad i (escape b ∷ ps) (cond (not k) (Some (i + 1 - 1)) (first_bad (i + 1 + 1) ps))
    by true e h = known_first i (escape b) ps (i + 1 + 1) e (omega arith) (first_bad (i + 1 + 1) ps) h
    by false e h = (0, omega arith, ([], ps, b, refl, e, refl), λ j bad. omega arith)

-- the first bad escape is found just where there is one
pub escape_found : (ps : List Part) → All IsPart ps → MatchOption (bad_escape (inside ps)) (All IsKnown ps) (λ k. IsBadEscape ps k × ((j : ℕ) → IsBadEscape ps j → k ≤ j))
unfolding bad_escape
escape_found ps each = rw (bad_from_inside 0 ps each) (by (first_bad 0 ps) (first_bad_is 0 ps))
  where
    by : (o : Option ℕ) → IsFirstBad 0 ps o → MatchOption o (All IsKnown ps) (λ k. IsBadEscape ps k × ((j : ℕ) → IsBadEscape ps j → k ≤ j))
    by None h = h
    by (Some n) h = let same : h.0 ≡ n = omega (arith, h.1) in subst (λ k. IsBadEscape ps k × ((j : ℕ) → IsBadEscape ps j → k ≤ j)) same (h.2, h.3)

known_not_bad : (ps : List Part) (j : ℕ) → All IsKnown ps → IsBadEscape ps j → ⊥
known_not_bad [] j known ([], after, b, whole, bad, place) = cc
known_not_bad [] j known (q ∷ before, after, b, whole, bad, place) = cc
known_not_bad (p ∷ ps) j known bad = let rest = bad_before p ps j (All-head IsKnown p ps known) bad in known_not_bad ps rest.0 (All-tail IsKnown p ps known) rest.2

order : (m n : ℕ) → (m < n) ⊎ (n ≤ m)
order m n = grind arith

-- the first fault is found just where there is one
pub fault_found : (ps : List Part) → All IsPart ps → MatchOption (least (bad_escape (inside ps)) (utf8_stop (inside ps))) (All IsKnown ps × IsUtf8 (inside ps)) (IsFirstFault ps)
fault_found ps each = by (bad_escape (inside ps)) (utf8_stop (inside ps)) (escape_found ps each) (stop_found (inside ps)) (λ k. stop_some (inside ps) k)
  where
    by : (a b : Option ℕ) → MatchOption a (All IsKnown ps) (λ k. IsBadEscape ps k × ((j : ℕ) → IsBadEscape ps j → k ≤ j)) → MatchOption b (IsUtf8 (inside ps)) (StopsAt (inside ps)) → ((k : ℕ) → StopsAt (inside ps) k → b ≡ Some k)
        → MatchOption (least a b) (All IsKnown ps × IsUtf8 (inside ps)) (IsFirstFault ps)
    by None None h g one = (h, g)
    by None (Some k) h g one = record { fault = inr g; least = λ j f. ⊎_elim (λ bad. absurd (known_not_bad ps j h bad)) (λ s. let e = one j s in let same : k ≡ j = cc in omega arith) f }
    by (Some k) None h g one = record { fault = inl h.0; least = λ j f. ⊎_elim (λ bad. h.1 j bad) (λ s. let e = one j s in absurd cc) f }
    by (Some k) (Some l) h g one = record {
      fault = ⊎_elim (λ lt. inl (subst (IsBadEscape ps) (let e : k ≡ min k l = omega arith in e) h.0)) (λ le. inr (subst (StopsAt (inside ps)) (let e : l ≡ min k l = omega arith in e) g)) (order k l);
      least = λ j f. ⊎_elim (λ bad. let le = h.1 j bad in omega arith) (λ s. let e = one j s in let same : l ≡ j = cc in omega arith) f;
    }

pub fault_first : (ps : List Part) (k : ℕ) → All IsPart ps → IsFirstFault ps k → least (bad_escape (inside ps)) (utf8_stop (inside ps)) ≡ Some k
fault_first ps k each first = by (least (bad_escape (inside ps)) (utf8_stop (inside ps))) (fault_found ps each)
  where
    by : (o : Option ℕ) → MatchOption o (All IsKnown ps × IsUtf8 (inside ps)) (IsFirstFault ps) → o ≡ Some k
    by None h = absurd (⊎_elim (λ bad. known_not_bad ps k h.0 bad) (λ s. s.broken h.1) first.fault)
    by (Some j) h = let le = first.least j h.fault in let ge = h.least k first.fault in let same : j ≡ k = omega arith in ap Some same

pub fault_none : (ps : List Part) → All IsPart ps → All IsKnown ps → IsUtf8 (inside ps) → least (bad_escape (inside ps)) (utf8_stop (inside ps)) ≡ None
fault_none ps each known utf8 = by (least (bad_escape (inside ps)) (utf8_stop (inside ps))) (fault_found ps each)
  where
    by : (o : Option ℕ) → MatchOption o (All IsKnown ps × IsUtf8 (inside ps)) (IsFirstFault ps) → o ≡ None
    by None h = refl
    by (Some j) h = absurd (⊎_elim (λ bad. known_not_bad ps j known bad) (λ s. s.broken utf8) h.fault)

escape_ascii : (b : ℕ) → is_escape b ≡ true → b < 128
escape_ascii b e = grind (arith, nat_tests)

meant_ascii : (b : ℕ) → b < 128 → meant_byte b < 128
meant_ascii b e = grind (arith, nat_tests)

byte_behind : (a : List ℕ) (b : ℕ) (rest : List ℕ) → get_or (a ++ b ∷ rest) (length a) 0 ≡ b
byte_behind [] b rest = refl
byte_behind (x ∷ a) b rest = byte_behind a b rest

-- a text up to a byte of ASCII is one
pub before_ascii : (a : List ℕ) (b : ℕ) (rest : List ℕ) → b < 128 → IsUtf8 (a ++ b ∷ rest) → IsUtf8 a
before_ascii a b rest low u =
    let there : get_or (a ++ b ∷ rest) (length a) 0 ≡ b = byte_behind a b rest in
    subst IsUtf8 (take-append_seam a (b ∷ rest))
    (IsUtf8-take (a ++ b ∷ rest) (length a) u (IsCharBoundary-before_ascii (a ++ b ∷ rest) (length a) (omega (arith, length-append a (b ∷ rest))) (rw there low)))

-- what the parts of a text mean is a text, behind any bytes
meant_behind : (front : List ℕ) (ps : List Part) → All IsKnown ps → IsUtf8 (front ++ inside ps) → IsUtf8 (front ++ map p.meant ps)
meant_behind front [] known u = u
meant_behind front (plain b ∷ ps) known u =
    let more = meant_behind (front ++ b ∷ []) ps (All-tail IsKnown (plain b) ps known) (subst IsUtf8 (sym (append_assoc front (b ∷ []) (inside ps))) u) in
    subst IsUtf8 (append_assoc front (b ∷ []) (map p.meant ps)) more
meant_behind front (escape b ∷ ps) known u =
    let low : b < 128 = escape_ascii b (All-head IsKnown (escape b) ps known) in
    let start = before_ascii front backslash (b ∷ inside ps) (omega arith) u in
    let behind = after_text (b ∷ []) (inside ps) (utf8_one b low) (after_text (backslash ∷ []) (b ∷ inside ps) (utf8_one backslash (omega arith)) (after_text front (backslash ∷ b ∷ inside ps) start u)) in
    let rest = meant_behind [] ps (All-tail IsKnown (escape b) ps known) behind in
    IsUtf8-append front (meant_byte b ∷ map p.meant ps) start (IsUtf8-append (meant_byte b ∷ []) (map p.meant ps) (utf8_one (meant_byte b) (meant_ascii b low)) rest)

pub meant_utf8 : (ps : List Part) → All IsKnown ps → IsUtf8 (inside ps) → IsUtf8 (map p.meant ps)
meant_utf8 ps known u = meant_behind [] ps known u

-- the inside of a string that is closed and has no fault means a text
pub string_meant : (bs : List ℕ) (n : ℕ) → string_end bs ≡ Some n → least (bad_escape (take n bs)) (utf8_stop (take n bs)) ≡ None → IsUtf8 (meant (take n bs))
string_meant bs n e f =
    let closed = end_closes bs n e in
    let ps = parts (take n bs) in
    let faultless : least (bad_escape (inside ps)) (utf8_stop (inside ps)) ≡ None = ap (λ x. least (bad_escape x) (utf8_stop x)) closed.bytes ∙ f in
    let found = fault_found ps closed.each in
    let good = subst (λ o. MatchOption o (All IsKnown ps × IsUtf8 (inside ps)) (IsFirstFault ps)) faultless found in
    meant_utf8 ps good.0 good.1

abbrev string_lexeme : List ℕ → ℕ → Lexeme
string_lexeme text len = record { kind = Some (kind.Str text); len = len }

same_lexeme : (s t : List ℕ) (m n : ℕ) → s ≡ t → m ≡ n → string_lexeme s m ≡ string_lexeme t n
same_lexeme s t m n e f = ap (λ x. string_lexeme x m) e ∙ ap (string_lexeme t) f

pub string_gives : (bs : List ℕ) (at n : ℕ) (text : List ℕ) (len : ℕ) → string_end bs ≡ Some n → n < length bs → least (bad_escape (take n bs)) (utf8_stop (take n bs)) ≡ None → text ≡ meant (take n bs) → len ≡ n + 2
    → Gives (string bs at) (Ok (record { kind = Some (kind.Str text); len = len }))
unfolding string
string_gives bs at n text len e lt f t l =
    let closed = end_closes bs n e in
    let long : length (inside (parts (take n bs))) ≡ n = ap length closed.bytes ∙ (let q : length (take n bs) ≡ n = omega (arith, length-take n bs) in q) in
    let all : len ≡ length (quote ∷ (inside (parts (take n bs)) ++ quote ∷ [])) = omega (arith, long, length-append (inside (parts (take n bs))) (quote ∷ [])) in
    rw (e, f) (same_lexeme text (meant (take n bs)) len _ t all)

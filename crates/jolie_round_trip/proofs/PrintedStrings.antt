-- The printed form of a string is one: its escapes are written as they were, and each line feed, tab and carriage return
-- that was written as itself is escaped.
use Rattle.std.proofs.Common.{◌≡◌, ◌≢◌, ℕ, ◌+◌, ◌<◌, ◌⊎◌, inl, inr, true, List, [], ◌∷◌, ◌++◌, map, length, get_or, refl, sym, ap, subst, ◌∙◌, arith, append_assoc, length-append, Some}
use Rattle.std.specs.List.{All, flat_map}
use Rattle.std.specs.Str.{IsUtf8}
use Rattle.std.proofs.lemmas.Bool.{ne_eqb}
use Rattle.std.proofs.lemmas.Bool.Decides.{nat_tests}
use Rattle.std.proofs.lemmas.List.Elements.{All-nil, All-cons, All-head, All-tail}
use Rattle.std.proofs.lemmas.Str.{IsUtf8-append, IsUtf8-drop, IsUtf8-from_ascii, IsCharBoundary-after_ascii}
use Rattle.std.proofs.lemmas.Str.Ascii.{IsAscii-nil, IsAscii-cons}
use Rattle.std.proofs.Math.Seq.{drop-append-add, get_or-append_seam}
use Rattle.jolie_tokens.specs.declared.token.TokenKind.TheVariants as kind
use Rattle.jolie_tokens.specs.Bytes.{quote, backslash, is_escape, meant_byte}
use Rattle.jolie_tokens.proofs.Strings.{before_ascii}
use Rattle.jolie_tokens.specs.Pieces.{Part, plain, escape, part_bytes, IsPart, IsKnown, meant, inside, string, written, IsPiece, kind_of}
use Rattle.jolie_ast.specs.PrintedExpressions.{escaped_byte, quoted_token}

-- ---- one part

-- a byte of ASCII that is written anew as bytes of ASCII
record IsRewritten (p q : Part) : Type 0 where
  byte : ℕ
  low : byte < 128
  before : part_bytes p ≡ byte ∷ []
  after : IsUtf8 (part_bytes q)

-- q is how what p means is printed
record IsReprint (p q : Part) : Type 0 where
  bytes : part_bytes q ≡ escaped_byte (meant p)
  same : meant q ≡ meant p
  part : IsPart q
  known : IsKnown q
  form : (part_bytes p ≡ part_bytes q) ⊎ IsRewritten p q

escapes : (b : ℕ) → is_escape b ≡ true → (b ≡ 110) ⊎ ((b ≡ 116) ⊎ ((b ≡ 114) ⊎ ((b ≡ 34) ⊎ (b ≡ 92))))
escapes b e = grind (arith, nat_tests)

plains : (b : ℕ) → (b ≡ 10) ⊎ ((b ≡ 9) ⊎ ((b ≡ 13) ⊎ ((b ≢ 10) × (b ≢ 9) × (b ≢ 13))))
plains b = grind arith

escape_bytes : (b : ℕ) → is_escape b ≡ true → part_bytes (escape b) ≡ escaped_byte (meant_byte b)
escape_bytes b e = by (escapes b e)
  where
    to : (n : ℕ) → b ≡ n → part_bytes (escape n) ≡ escaped_byte (meant_byte n) → part_bytes (escape b) ≡ escaped_byte (meant_byte b)
    to n h k = subst (λ x. part_bytes (escape x) ≡ escaped_byte (meant_byte x)) (sym h) k

    by : (b ≡ 110) ⊎ ((b ≡ 116) ⊎ ((b ≡ 114) ⊎ ((b ≡ 34) ⊎ (b ≡ 92)))) → part_bytes (escape b) ≡ escaped_byte (meant_byte b)
    by (inl h) = to 110 h refl
    by (inr (inl h)) = to 116 h refl
    by (inr (inr (inl h))) = to 114 h refl
    by (inr (inr (inr (inl h)))) = to 34 h refl
    by (inr (inr (inr (inr h)))) = to 92 h refl

escape_utf8 : (b : ℕ) → b < 128 → IsUtf8 (part_bytes (escape b))
escape_utf8 b low = IsUtf8-from_ascii (backslash ∷ b ∷ []) (IsAscii-cons backslash (b ∷ []) (omega arith) (IsAscii-cons b [] low IsAscii-nil))

rewritten : (b n letter : ℕ) → n < 128 → letter < 128 → b ≡ n → part_bytes (escape letter) ≡ escaped_byte n → meant_byte letter ≡ n → is_escape letter ≡ true → (q : Part) × IsReprint (plain b) q
rewritten b n letter low low_letter e bytes same known = (
  escape letter,
  subst (λ x. IsReprint (plain x) (escape letter)) (sym e) (record {
    bytes = bytes;
    same = same;
    part = tt;
    known = known;
    form = inr (record { byte = n; low = low; before = refl; after = escape_utf8 letter low_letter });
  }),
)

reprint : (p : Part) → IsPart p → IsKnown p → (q : Part) × IsReprint p q
reprint (escape b) part known = (escape b, record { bytes = escape_bytes b known; same = refl; part = part; known = known; form = inl refl })
reprint (plain b) part known = by (plains b)
  where
    by : (b ≡ 10) ⊎ ((b ≡ 9) ⊎ ((b ≡ 13) ⊎ ((b ≢ 10) × (b ≢ 9) × (b ≢ 13)))) → (q : Part) × IsReprint (plain b) q
    by (inl e) = rewritten b 10 110 (omega arith) (omega arith) e refl refl refl
    by (inr (inl e)) = rewritten b 9 116 (omega arith) (omega arith) e refl refl refl
    by (inr (inr (inl e))) = rewritten b 13 114 (omega arith) (omega arith) e refl refl refl
    by (inr (inr (inr others))) = (
      plain b,
      record {
        bytes = rw (ne_eqb b 10 others.0, ne_eqb b 9 others.1, ne_eqb b 13 others.2, ne_eqb b 34 part.0, ne_eqb b 92 part.1) refl;
        same = refl;
        part = part;
        known = tt;
        form = inl refl;
      },
    )

-- ---- texts that are cut at a byte of ASCII

after_ascii : (a : List ℕ) (b : ℕ) (rest : List ℕ) → b < 128 → IsUtf8 (a ++ b ∷ rest) → IsUtf8 rest
after_ascii a b rest low u =
    let there : get_or (a ++ b ∷ rest) (length a) 0 ≡ b = get_or-append_seam a b rest 0 in
    subst IsUtf8 (drop-append-add a (b ∷ rest) 1)
    (IsUtf8-drop (a ++ b ∷ rest) (length a + 1) u (IsCharBoundary-after_ascii (a ++ b ∷ rest) (length a) u (omega (arith, length-append a (b ∷ rest))) (rw there low)))

-- ---- the inside of a string

-- qs are how what ps mean is printed; with the bytes before them they are a text where those and ps are one
record AreReprints (ps qs : List Part) : Type 0 where
  bytes : inside qs ≡ flat_map escaped_byte (map meant ps)
  same : map meant qs ≡ map meant ps
  parts : All IsPart qs
  known : All IsKnown qs
  utf8 : (front : List ℕ) → IsUtf8 (front ++ inside ps) → IsUtf8 (front ++ inside qs)

behind_same : (a b : List ℕ) (ps qs : List Part) → a ≡ b → ((front : List ℕ) → IsUtf8 (front ++ inside ps) → IsUtf8 (front ++ inside qs)) → (front : List ℕ) → IsUtf8 (front ++ (a ++ inside ps)) → IsUtf8 (front ++ (b ++ inside qs))
behind_same a b ps qs e more front u =
    subst IsUtf8 (append_assoc front b (inside qs))
    (more (front ++ b) (subst IsUtf8 (sym (append_assoc front b (inside ps))) (subst (λ x. IsUtf8 (front ++ (x ++ inside ps))) e u)))

behind_rewritten : (p q : Part) (ps qs : List Part) → IsRewritten p q → ((front : List ℕ) → IsUtf8 (front ++ inside ps) → IsUtf8 (front ++ inside qs)) → (front : List ℕ) → IsUtf8 (front ++ (part_bytes p ++ inside ps)) → IsUtf8 (front ++ (part_bytes q ++ inside qs))
behind_rewritten p q ps qs h more front u =
    let cut : IsUtf8 (front ++ h.byte ∷ inside ps) = subst (λ x. IsUtf8 (front ++ (x ++ inside ps))) h.before u in
    IsUtf8-append front (part_bytes q ++ inside qs) (before_ascii front h.byte (inside ps) h.low cut)
    (IsUtf8-append (part_bytes q) (inside qs) h.after (more [] (after_ascii front h.byte (inside ps) h.low cut)))

behind : (p q : Part) (ps qs : List Part) → (part_bytes p ≡ part_bytes q) ⊎ IsRewritten p q → ((front : List ℕ) → IsUtf8 (front ++ inside ps) → IsUtf8 (front ++ inside qs)) → (front : List ℕ) → IsUtf8 (front ++ (part_bytes p ++ inside ps)) → IsUtf8 (front ++ (part_bytes q ++ inside qs))
behind p q ps qs (inl e) more = behind_same (part_bytes p) (part_bytes q) ps qs e more
behind p q ps qs (inr h) more = behind_rewritten p q ps qs h more

reprints_more : (p q : Part) (ps qs : List Part) → IsReprint p q → AreReprints ps qs → AreReprints (p ∷ ps) (q ∷ qs)
reprints_more p q ps qs h more = record {
  bytes = ap (λ x. x ++ inside qs) h.bytes ∙ ap (λ x. escaped_byte (meant p) ++ x) more.bytes;
  same = ap (λ x. x ∷ map meant qs) h.same ∙ ap (λ x. meant p ∷ x) more.same;
  parts = All-cons IsPart q qs h.part more.parts;
  known = All-cons IsKnown q qs h.known more.known;
  utf8 = behind p q ps qs h.form more.utf8;
}

reprints : (ps : List Part) → All IsPart ps → All IsKnown ps → (qs : List Part) × AreReprints ps qs
reprints [] parts known = ([], record { bytes = refl; same = refl; parts = All-nil IsPart; known = All-nil IsKnown; utf8 = λ front u. u })
reprints (p ∷ ps) parts known =
    let first = reprint p (All-head IsPart p ps parts) (All-head IsKnown p ps known) in
    let rest = reprints ps (All-tail IsPart p ps parts) (All-tail IsKnown p ps known) in
    (first.0 ∷ rest.0, reprints_more p first.0 ps rest.0 first.1 rest.1)

-- the string that is printed of the text that these parts mean
pub record PrintsString (ps : List Part) : Type 0 where
  pub parts : List Part
  pub valid : IsPiece (string parts)
  pub same : kind_of (string parts) ≡ kind_of (string ps)
  pub bytes : written (string parts) ≡ quoted_token (map meant ps)

pub prints_string : (ps : List Part) → IsPiece (string ps) → PrintsString ps
prints_string ps valid =
    let printed = reprints ps valid.0 valid.1 in
    record {
      parts = printed.0;
      valid = (printed.1.parts, printed.1.known, printed.1.utf8 [] valid.2);
      same = ap (λ text. Some (kind.Str text)) printed.1.same;
      bytes = ap (λ x. quote ∷ (x ++ quote ∷ [])) printed.1.bytes;
    }

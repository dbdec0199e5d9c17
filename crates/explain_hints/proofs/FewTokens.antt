-- What stands for the tokens of bytes.
use Rattle.std.proofs.Common.{◌≡◌, ◌⊎◌, inl, inr, ℕ, zero, suc, ◌+◌, ◌-◌, ◌<◌, ◌≤◌, true, List, [], ◌∷◌, ◌++◌, length, map, take, drop, get_or, refl, sym, ap, subst, ◌∙◌, arith, add-zero, append_assoc, append-nil, length-append, length-drop, Option, None, Some}
use Rattle.std.specs.Prelude.{◌↔◌}
use Rattle.std.specs.List.{All}
use Rattle.std.specs.Str.{IsUtf8}
use Rattle.std.proofs.lemmas.List.{map-append, take_more, take_all, drop_more, drop-append-le, take-append-le, take-append-drop, get_or-append-add}
use Rattle.std.proofs.lemmas.List.Elements.{All-nil, All-append}
use Rattle.std.proofs.Math.Seq.{take-add}
use Rattle.jolie_tokens.specs.declared.sign.Sign.TheVariants.{Semicolon}
use Rattle.jolie_tokens.specs.declared.token.Token.{Token}
use Rattle.jolie_tokens.specs.declared.token.TokenKind.{TokenKind}
use Rattle.jolie_tokens.specs.declared.token.TokenKind.TheVariants as kind
use Rattle.jolie_tokens.specs.Pieces.{Piece, written, kind_of}
use Rattle.jolie_tokens.specs.Texts.{longest, all_written, Stand, token_of, tokens_of, IsRead}
use Rattle.jolie_tokens.proofs.Readings.{piece_some, one_list}
use Rattle.jolie_parse.specs.declared.class.Class.TheVariants as class
use Rattle.jolie_parse.specs.Classes.{Spelled, spelled_one, spelled, place, class_of, has, begins, StandsIn}
use Rattle.jolie_parse.specs.LeftOut.{IsFileOrBegun, IsShallow, AreNext}
use Rattle.jolie_parse.specs.Levels.{IsRefused, rest_place}
use Rattle.jolie_parse.proofs.LeftOut.{statements_left_out}
use Rattle.explain_hints.proofs.ReadPast.{definitions_left_out}
use Rattle.jolie_parse.proofs.Spellings.{tokens_stand}
use Rattle.explain_hints.specs.MayStand as placed
use Rattle.explain_hints.specs.MayStand.{MayGoOn}
use Rattle.explain_hints.specs.Short.{moved, ComesTo, StandFor, MayBeLeftOut, MayGoOnAt, AreDefinitions, definition_words}
use Rattle.explain_hints.proofs.Joined.{read_joined}

-- ---- lists

all_second : {A : Type 0} (P : A → Type 0) (xs ys : List A) → All P (xs ++ ys) → All P ys
all_second P xs ys h k d below = subst P (get_or-append-add xs ys k d) (h (length xs + k) d (omega (arith, length-append xs ys)))

all_first : {A : Type 0} (P : A → Type 0) (x : A) (xs : List A) → All P (x ∷ xs) → P x
all_first P x xs h = h 0 x (omega arith)

all_more : {A : Type 0} (P : A → Type 0) (x : A) (xs : List A) → All P (x ∷ xs) → All P xs
all_more P x xs h k d below = h (suc k) d (omega arith)

all_one : {A : Type 0} (P : A → Type 0) (x : A) → P x → All P (x ∷ [])
all_one P x h zero d below = h
all_one P x h (suc k) d below = let never : ⊥ = omega arith in absurd never

none_taken : {A : Type 0} (xs : List A) → take 0 xs ≡ []
none_taken [] = refl
none_taken (x ∷ xs) = refl

none_dropped : {A : Type 0} (xs : List A) → drop 0 xs ≡ xs
none_dropped [] = refl
none_dropped (x ∷ xs) = refl

-- ---- tokens of bytes, in longer bytes

one_longer : (a c : List ℕ) (t : Token) → StandsIn a t → spelled_one (a ++ c) t ≡ spelled_one a t
one_longer a c t h =
    let at : t.at ≤ length a = omega (arith, h.within) in
    let long : t.len ≤ length (drop t.at a) = omega (arith, h.within, length-drop t.at a) in
    ap (λ s. record { token = t; spelling = s }) (ap (take t.len) (drop-append-le t.at a c at) ∙ take-append-le t.len (drop t.at a) c long)

pub spelled_longer : (a c : List ℕ) (ts : List Token) → All (StandsIn a) ts → spelled (a ++ c) ts ≡ spelled a ts
spelled_longer a c [] h = refl
spelled_longer a c (t ∷ ts) h =
    ap (λ z. z ∷ spelled (a ++ c) ts) (one_longer a c t (all_first (StandsIn a) t ts h))
    ∙ ap (λ z. spelled_one a t ∷ z) (spelled_longer a c ts (all_more (StandsIn a) t ts h))

stands_longer : (a c : List ℕ) (t : Token) → StandsIn a t → StandsIn (a ++ c) t
stands_longer a c t h =
    record { within = omega (arith, h.within, length-append a c); utf8 = subst (λ z. IsUtf8 z.spelling) (sym (one_longer a c t h)) h.utf8 }

all_longer : (a c : List ℕ) (ts : List Token) → All (StandsIn a) ts → All (StandsIn (a ++ c)) ts
all_longer a c ts h k d below = stands_longer a c (get_or ts k d) (h k d below)

-- ---- tokens that are moved

one_unmoved : (t : Token) → moved 0 t ≡ t
one_unmoved t = ap (λ n. record { kind = t.kind; at = n; len = t.len }) (add-zero t.at)

unmoved : (ts : List Token) → map (moved 0) ts ≡ ts
unmoved [] = refl
unmoved (t ∷ ts) = ap (λ z. z ∷ map (moved 0) ts) (one_unmoved t) ∙ ap (λ z. t ∷ z) (unmoved ts)

-- none is copied yet
pub moved_nothing : (by : ℕ) (ts copies : List Token) → copies ≡ [] → copies ≡ map (moved by) (take 0 ts)
moved_nothing by ts copies none = none ∙ ap (map (moved by)) (sym (none_taken ts))

-- one more is copied
pub moved_more : (by : ℕ) (ts copies new : List Token) (i : ℕ) (t copy : Token) → i < length ts → t ≡ get_or ts i t → copies ≡ map (moved by) (take i ts) → copy ≡ moved by t
    → new ≡ copies ++ copy ∷ [] → new ≡ map (moved by) (take (i + 1) ts)
moved_more by ts copies new i t copy there item so_far copied pushed =
    let next : take (i + 1) ts ≡ take i ts ++ t ∷ [] = take_more ts i t there ∙ ap (λ z. take i ts ++ z ∷ []) (sym item) in
    pushed ∙ ap (λ z. copies ++ z ∷ []) copied ∙ ap (λ z. z ++ moved by t ∷ []) so_far ∙ sym (map-append (moved by) (take i ts) (t ∷ [])) ∙ ap (map (moved by)) (sym next)

-- all are copied
pub moved_all : (by : ℕ) (ts copies : List Token) (i : ℕ) → length ts ≤ i → copies ≡ map (moved by) (take i ts) → copies ≡ map (moved by) ts
moved_all by ts copies i over is = is ∙ ap (map (moved by)) (take_all i ts over)

-- copies of tokens and of others, one behind the other
pub joined_is : (by : ℕ) (ts us first second both : List Token) → first ≡ map (moved 0) ts → second ≡ map (moved by) us → both ≡ first ++ second → both ≡ ts ++ map (moved by) us
joined_is by ts us first second both here there is = is ∙ ap (λ z. z ++ second) (here ∙ unmoved ts) ∙ ap (λ z. ts ++ z) there

-- the places of tokens of a text are so small
pub places_fit : (text : List ℕ) (ts : List Token) (by : ℕ) → All (StandsIn text) ts → length text + by ≤ longest → All (λ t. t.at + by ≤ longest) ts
places_fit text ts by h fits k d below = let stands = h k d below in omega (arith, fits, stands.within)

-- the place of one of them
pub place_fits : (by : ℕ) (ts : List Token) (i : ℕ) (t : Token) → All (λ u. u.at + by ≤ longest) ts → i < length ts → t ≡ get_or ts i t → t.at + by ≤ longest
place_fits by ts i t h there item = subst (λ u. u.at + by ≤ longest) (sym item) (h i t there)

-- the place of one that is read of a text
pub next_fits : (text : List ℕ) (ts : List Token) (i : ℕ) (t : Token) → length text ≤ longest → IsRead text ts → i < length ts → t ≡ get_or ts i t → t.at + 0 ≤ longest
next_fits text ts i t fits read there item = place_fits 0 ts i t (places_fit text ts 0 (tokens_stand text ts read) (omega (arith, fits))) there item

-- ---- tokens that stand for those of bytes, before a line feed and more bytes

parted : (a c : List ℕ) (xs ys : List Token) (more : List Spelled) → All (StandsIn a) xs
    → spelled (a ++ c) (xs ++ ys) ++ more ≡ spelled a xs ++ (spelled (a ++ c) ys ++ more)
parted a c xs ys more h =
    ap (λ z. z ++ more) (map-append (spelled_one (a ++ c)) xs ys) ∙ append_assoc (spelled (a ++ c) xs) (spelled (a ++ c) ys) more
    ∙ ap (λ z. z ++ (spelled (a ++ c) ys ++ more)) (spelled_longer a c xs h)

same_behind : (a c : List ℕ) (ts short ys : List Token) → All (StandsIn a) ts → All (StandsIn a) short → ComesTo (spelled a ts) (spelled a short)
    → ComesTo (spelled (a ++ c) (ts ++ ys)) (spelled (a ++ c) (short ++ ys))
same_behind a c ts short ys h k same more =
    let all = parted a c ts ys more h in
    let few = parted a c short ys more k in
    let both = same (spelled (a ++ c) ys ++ more) in
    (λ x. subst (IsFileOrBegun 64) (sym few) (both.0 (subst (IsFileOrBegun 64) all x)), λ x. subst (IsFileOrBegun 64) (sym all) (both.1 (subst (IsFileOrBegun 64) few x)))

pub stand_behind : (a b : List ℕ) (short us : List Token) → StandFor a short → IsRead b us → length a + 1 + length b ≤ longest
    → StandFor (a ++ 10 ∷ b) (short ++ map (moved (length a + 1)) us)
stand_behind a b short us f r fit =
    let text = a ++ 10 ∷ b in
    let behind = map (moved (length a + 1)) us in
    let read = read_joined a b f.tokens us f.read r in
    record {
      fits = omega (arith, fit, length-append a (10 ∷ b));
      tokens = f.tokens ++ behind;
      read = read;
      within =
          All-append (StandsIn text) short behind (all_longer a (10 ∷ b) short f.within)
          (all_second (StandsIn text) f.tokens behind (tokens_stand text (f.tokens ++ behind) read));
      same = same_behind a (10 ∷ b) f.tokens short behind (tokens_stand a f.tokens f.read) f.within f.same;
    }

-- ---- the end of bytes

-- the tokens begin before that place
abbrev Below : ℕ → List Token → Type 0
Below n [] = Unit {0}
Below n (t ∷ ts) = (t.at < n) × Below n ts

below_append : (n : ℕ) (xs ys : List Token) → Below n xs → Below n ys → Below n (xs ++ ys)
below_append n [] ys h k = k
below_append n (x ∷ xs) ys h k = (h.0, below_append n xs ys h.1 k)

below_one : (n : ℕ) (o : Option TokenKind) (at len : ℕ) → at < n → Below n (token_of o at len)
below_one n None at len h = tt
below_one n (Some k) at len h = (h, tt)

below_all : (n : ℕ) (ps : List Piece) (at : ℕ) → Stand ps [] → at + length (all_written ps) ≤ n → Below n (tokens_of ps at)
below_all n [] at s h = tt
below_all n (q ∷ ps) at s h =
    let some = piece_some q s.0 in
    let long = length-append (written q) (all_written ps) in
    let here : at < n = omega (arith, some, long, h) in
    let there : at + length (written q) + length (all_written ps) ≤ n = omega (arith, long, h) in
    below_append n (token_of (kind_of q) at (length (written q))) (tokens_of ps (at + length (written q)))
    (below_one n (kind_of q) at (length (written q)) here) (below_all n ps (at + length (written q)) s.2 there)

below_read : (bytes : List ℕ) (tokens : List Token) → IsRead bytes tokens → Below (length bytes) tokens
below_read bytes tokens r =
    let fits : 0 + length (all_written r.pieces) ≤ length bytes = omega (arith, ap length r.reads.whole, length-append (all_written r.pieces) []) in
    subst (Below (length bytes)) r.meant (below_all (length bytes) r.pieces 0 r.reads.each fits)

below_at : (bytes : List ℕ) (n : ℕ) (tokens : List Token) → Below n tokens → (w : List Spelled) (t : Spelled) (r : List Spelled) → spelled bytes tokens ≡ w ++ t ∷ r → place t < n
below_at bytes n [] b [] t r e = absurd cc
below_at bytes n [] b (u ∷ w) t r e = absurd cc
below_at bytes n (k ∷ ks) b [] t r e = let same : spelled_one bytes k ≡ t = cc in subst (λ z. place z < n) same b.0
below_at bytes n (k ∷ ks) b (u ∷ w) t r e = let rest : spelled bytes ks ≡ w ++ t ∷ r = cc in below_at bytes n ks b.1 w t r rest

to_end : (end : ℕ) (ts : List Spelled) → IsFileOrBegun 64 ts → placed.IsFileOrBegun end ts
to_end end ts (inl file) = inl file
to_end end ts (inr begun) = inr ([], refl, begun)

none_left : (bytes : List ℕ) (tokens : List Token) → IsRead bytes tokens → (rest : List Spelled) → length bytes ≡ rest_place (length bytes) rest → IsRefused 64 (spelled bytes tokens) rest
    → IsRefused 64 (spelled bytes tokens) []
none_left bytes tokens r [] at begun = begun
none_left bytes tokens r (t ∷ rest) at begun =
    let before : place t < length bytes = below_at bytes (length bytes) tokens (below_read bytes tokens r) begun.0 t rest begun.1 in
    let never : ⊥ = omega (arith, before, at) in
    absurd never

from_end : (bytes : List ℕ) (tokens : List Token) → IsRead bytes tokens → placed.IsFileOrBegun (length bytes) (spelled bytes tokens) → IsFileOrBegun 64 (spelled bytes tokens)
from_end bytes tokens r (inl file) = inl file
from_end bytes tokens r (inr begun) = inr (none_left bytes tokens r begun.0 begun.1 begun.2)

-- ---- whether bytes may go on

pub goes_on : (bytes : List ℕ) (short : List Token) → StandFor bytes short → IsFileOrBegun 64 (spelled bytes short) → MayGoOn bytes
goes_on bytes short f h =
    let whole = (f.same []).1 (subst (IsFileOrBegun 64) (sym (append-nil (spelled bytes short))) h) in
    record { fits = f.fits; tokens = f.tokens; read = f.read; begun = to_end (length bytes) (spelled bytes f.tokens) (subst (IsFileOrBegun 64) (append-nil (spelled bytes f.tokens)) whole) }

pub goes_not : (bytes : List ℕ) (short : List Token) → StandFor bytes short → (IsFileOrBegun 64 (spelled bytes short) → ⊥) → MayGoOn bytes → ⊥
goes_not bytes short f never may =
    let same = one_list bytes may.tokens f.tokens may.read f.read in
    let whole = from_end bytes f.tokens f.read (subst (λ ts. placed.IsFileOrBegun (length bytes) (spelled bytes ts)) same may.begun) in
    never (subst (IsFileOrBegun 64) (append-nil (spelled bytes short)) ((f.same []).0 (subst (IsFileOrBegun 64) (sym (append-nil (spelled bytes f.tokens))) whole)))

-- ---- statements that are left out

shallow_front : (n : ℕ) (x z : List Spelled) → IsShallow n (x ++ z) → IsShallow n x
shallow_front n x z h r (w, e, begins_file, (t, q, is, leads), none) =
    h (r ++ z) (w, ap (λ y. y ++ z) e ∙ append_assoc w r z, begins_file, (t, q ++ z, ap (λ y. y ++ z) is, leads), none)

kept : (before out short : List Spelled) (k : Spelled) → ((more : List Spelled) → IsFileOrBegun 64 (before ++ (out ++ k ∷ more)) ↔ IsFileOrBegun 64 (before ++ k ∷ more))
    → ComesTo before short → ComesTo (before ++ (out ++ k ∷ [])) (short ++ k ∷ [])
kept before out short k left same more =
    let whole : (before ++ (out ++ k ∷ [])) ++ more ≡ before ++ (out ++ k ∷ more) = append_assoc before (out ++ k ∷ []) more ∙ ap (λ z. before ++ z) (append_assoc out (k ∷ []) more) in
    let cut : (short ++ k ∷ []) ++ more ≡ short ++ k ∷ more = append_assoc short (k ∷ []) more in
    let one = left more in
    let two = same (k ∷ more) in
    (λ x. subst (IsFileOrBegun 64) (sym cut) (two.0 (one.0 (subst (IsFileOrBegun 64) whole x))), λ x. subst (IsFileOrBegun 64) (sym whole) (one.1 (two.1 (subst (IsFileOrBegun 64) cut x))))

nothing_left_out : (before out : List Spelled) (k : Spelled) → out ≡ [] → (more : List Spelled) → IsFileOrBegun 64 (before ++ (out ++ k ∷ more)) ↔ IsFileOrBegun 64 (before ++ k ∷ more)
nothing_left_out before out k none more =
    let same : before ++ (out ++ k ∷ more) ≡ before ++ k ∷ more = ap (λ z. before ++ (z ++ k ∷ more)) none in
    (λ x. subst (IsFileOrBegun 64) same x, λ x. subst (IsFileOrBegun 64) (sym same) x)

definitions_before : (text : List ℕ) (tokens : List Token) (at next : ℕ) (d : Token) → at ≡ 0 → next < length tokens → AreDefinitions text tokens next → (more : List Spelled)
    → IsFileOrBegun 64 (spelled text (take at tokens) ++ (spelled text (take (next - at) (drop at tokens)) ++ spelled_one text (get_or tokens next d) ∷ more))
    ↔ IsFileOrBegun 64 (spelled text (take at tokens) ++ spelled_one text (get_or tokens next d) ∷ more)
definitions_before text tokens at next d start within ((f, derived), begun) more =
    let k = spelled_one text (get_or tokens next d) in
    let begins_next : begins definition_words (k ∷ more) ≡ true = subst (λ z. begins definition_words (spelled text z) ≡ true) (drop_more tokens next d within) begun in
    let all_long : next - 0 ≡ next = omega arith in
    let all : spelled text (take at tokens) ++ (spelled text (take (next - at) (drop at tokens)) ++ k ∷ more) ≡ spelled text (take next tokens) ++ k ∷ more =
    ap (λ a. spelled text (take a tokens) ++ (spelled text (take (next - a) (drop a tokens)) ++ k ∷ more)) start
    ∙ ap (λ z. spelled text z ++ (spelled text (take (next - 0) (drop 0 tokens)) ++ k ∷ more)) (none_taken tokens)
    ∙ ap (λ z. spelled text (take (next - 0) z) ++ k ∷ more) (none_dropped tokens) ∙ ap (λ m. spelled text (take m tokens) ++ k ∷ more) all_long in
    let few : spelled text (take at tokens) ++ k ∷ more ≡ k ∷ more = ap (λ a. spelled text (take a tokens) ++ k ∷ more) start ∙ ap (λ z. spelled text z ++ k ∷ more) (none_taken tokens) in
    let law = definitions_left_out 64 (spelled text (take next tokens)) (k ∷ more) f derived begins_next in
    (λ x. subst (IsFileOrBegun 64) (sym few) (law.0 (subst (IsFileOrBegun 64) all x)), λ x. subst (IsFileOrBegun 64) (sym all) (law.1 (subst (IsFileOrBegun 64) few x)))

left_out : (text : List ℕ) (tokens : List Token) (at next : ℕ) (d : Token) → IsShallow 32 (spelled text tokens) → MayGoOnAt text tokens at next → (more : List Spelled)
    → IsFileOrBegun 64 (spelled text (take at tokens) ++ (spelled text (take (next - at) (drop at tokens)) ++ spelled_one text (get_or tokens next d) ∷ more))
    ↔ IsFileOrBegun 64 (spelled text (take at tokens) ++ spelled_one text (get_or tokens next d) ∷ more)
left_out text tokens at next d shallow on more = by on.between
  where
    by : (next ≡ at) ⊎ (MayBeLeftOut text tokens at next ⊎ ((at ≡ 0) × AreDefinitions text tokens next))
        → IsFileOrBegun 64 (spelled text (take at tokens) ++ (spelled text (take (next - at) (drop at tokens)) ++ spelled_one text (get_or tokens next d) ∷ more))
        ↔ IsFileOrBegun 64 (spelled text (take at tokens) ++ spelled_one text (get_or tokens next d) ∷ more)
    by (inl same) =
        let zero_long : next - at ≡ 0 = omega (arith, same) in
        nothing_left_out (spelled text (take at tokens)) (spelled text (take (next - at) (drop at tokens))) (spelled_one text (get_or tokens next d))
        (ap (λ n. spelled text (take n (drop at tokens))) zero_long ∙ ap (spelled text) (none_taken (drop at tokens))) more
    by (inr (inl out)) =
        let parts : spelled text tokens ≡ spelled text (take at tokens) ++ spelled text (drop at tokens) =
        ap (spelled text) (sym (take-append-drop at tokens)) ∙ map-append (spelled_one text) (take at tokens) (drop at tokens) in
        let levels : 32 + 32 ≤ 64 = omega arith in
        statements_left_out 32 32 64 (spelled text (take at tokens)) (spelled text (take (next - at) (drop at tokens))) (spelled_one text (get_or tokens next d) ∷ more) levels
        (shallow_front 32 (spelled text (take at tokens)) (spelled text (drop at tokens)) (subst (IsShallow 32) parts shallow)) out.0
        (subst (λ z. begins (class.Sign Semicolon ∷ []) (spelled text z) ≡ true) (drop_more tokens next d on.within) out.1)
    by (inr (inr (start, definitions))) = definitions_before text tokens at next d start on.within definitions more

taken_on : (text : List ℕ) (tokens : List Token) (at next : ℕ) (d : Token) → at ≤ next → next < length tokens
    → spelled text (take (next + 1) tokens) ≡ spelled text (take at tokens) ++ (spelled text (take (next - at) (drop at tokens)) ++ spelled_one text (get_or tokens next d) ∷ [])
taken_on text tokens at next d ordered within =
    let sum : next ≡ at + (next - at) = omega (arith, ordered) in
    let front : take next tokens ≡ take at tokens ++ take (next - at) (drop at tokens) = ap (λ n. take n tokens) sum ∙ take-add at (next - at) tokens in
    ap (spelled text) (take_more tokens next d within ∙ ap (λ z. z ++ get_or tokens next d ∷ []) front ∙ append_assoc (take at tokens) (take (next - at) (drop at tokens)) (get_or tokens next d ∷ []))
    ∙ map-append (spelled_one text) (take at tokens) (take (next - at) (drop at tokens) ++ get_or tokens next d ∷ [])
    ∙ ap (λ z. spelled text (take at tokens) ++ z) (map-append (spelled_one text) (take (next - at) (drop at tokens)) (get_or tokens next d ∷ []))

-- the tokens up to a place come to the same as these
pub record ComesSoFar (text : List ℕ) (tokens : List Token) (at : ℕ) (short : List Token) : Type 0 where
  pub within : All (StandsIn text) short
  pub same : ComesTo (spelled text (take at tokens)) (spelled text short)

pub nothing_yet : (text : List ℕ) (tokens short : List Token) → short ≡ [] → ComesSoFar text tokens 0 short
nothing_yet text tokens short none = record {
  within = subst (All (StandsIn text)) (sym none) (All-nil (StandsIn text));
  same = λ more. (
    λ x. subst (λ z. IsFileOrBegun 64 (spelled text z ++ more)) (none_taken tokens ∙ sym none) x,
    λ x. subst (λ z. IsFileOrBegun 64 (spelled text z ++ more)) (sym (none_taken tokens ∙ sym none)) x,
  );
}

pub goes_further : (text : List ℕ) (tokens : List Token) (at next : ℕ) (t copy : Token) (short new : List Token) → All (StandsIn text) tokens → IsShallow 32 (spelled text tokens)
    → MayGoOnAt text tokens at next → t ≡ get_or tokens next t → copy ≡ moved 0 t → ComesSoFar text tokens at short → new ≡ short ++ copy ∷ [] → ComesSoFar text tokens (next + 1) new
goes_further text tokens at next t copy short new each shallow on item copied so pushed =
    let k = get_or tokens next t in
    let behind = kept (spelled text (take at tokens)) (spelled text (take (next - at) (drop at tokens))) (spelled text short) (spelled_one text k) (left_out text tokens at next t shallow on) so.same in
    let all = taken_on text tokens at next t on.ordered on.within in
    let few : spelled text short ++ spelled_one text k ∷ [] ≡ spelled text (short ++ k ∷ []) = sym (map-append (spelled_one text) short (k ∷ [])) in
    let same : ComesTo (spelled text (take (next + 1) tokens)) (spelled text (short ++ k ∷ [])) =
    subst (λ z. ComesTo z (spelled text (short ++ k ∷ []))) (sym all)
    (subst (ComesTo (spelled text (take at tokens) ++ (spelled text (take (next - at) (drop at tokens)) ++ spelled_one text k ∷ []))) few behind) in
    let is : new ≡ short ++ k ∷ [] = pushed ∙ ap (λ z. short ++ z ∷ []) (copied ∙ one_unmoved t ∙ item) in
    subst (ComesSoFar text tokens (next + 1)) (sym is)
    (record { within = All-append (StandsIn text) short (k ∷ []) so.within (all_one (StandsIn text) k (each next t on.within)); same = same })

pub stands_for : (text : List ℕ) (tokens short : List Token) (at : ℕ) → length text ≤ longest → IsRead text tokens → length tokens ≤ at → ComesSoFar text tokens at short → StandFor text short
stands_for text tokens short at fits read over so = record {
  fits = fits;
  tokens = tokens;
  read = read;
  within = so.within;
  same = subst (λ z. ComesTo (spelled text z) (spelled text short)) (take_all at tokens over) so.same;
}

-- ---- where tokens may go on

pub stays : (text : List ℕ) (tokens : List Token) (at : ℕ) → at < length tokens → MayGoOnAt text tokens at at
stays text tokens at within = record { ordered = omega arith; within = within; between = inl refl }

is_next : (text : List ℕ) (tokens : List Token) (at : ℕ) (t : Token) → at < length tokens → t ≡ get_or tokens at t → t.kind ≡ kind.Sign Semicolon
    → begins (class.Sign Semicolon ∷ []) (spelled text (drop at tokens)) ≡ true
is_next text tokens at t within item is =
    let there : (get_or tokens at t).kind ≡ kind.Sign Semicolon = subst (λ z. z.kind ≡ kind.Sign Semicolon) item is in
    subst (λ z. begins (class.Sign Semicolon ∷ []) (spelled text z) ≡ true) (sym (drop_more tokens at t within))
    (subst (λ z. has (class.Sign Semicolon ∷ []) (class_of z (spelled_one text (get_or tokens at t)).spelling) ≡ true) (sym there) refl)

pub behind_statements : (text : List ℕ) (tokens : List Token) (at next : ℕ) (t : Token) → at ≤ next → next < length tokens → t ≡ get_or tokens next t → t.kind ≡ kind.Sign Semicolon
    → AreNext 32 (spelled text (take (next - at) (drop at tokens))) → MayGoOnAt text tokens at next
behind_statements text tokens at next t ordered within item is out =
    record { ordered = ordered; within = within; between = inr (inl (out, is_next text tokens next t within item is)) }

-- at the front, as is known of the front
pub begins_there : (text : List ℕ) (tokens : List Token) (at begun : ℕ) → at ≡ 0 → MayGoOnAt text tokens 0 begun → MayGoOnAt text tokens at begun
begins_there text tokens at begun is known = subst (λ a. MayGoOnAt text tokens a begun) (sym is) known

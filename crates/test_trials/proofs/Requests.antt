-- Bytes that are one request, by the head that they begin with.
use Rattle.std.proofs.Common.{◌≡◌, ◌≤◌, ◌<◌, ◌+◌, ℕ, Bool, true, false, ◌&&◌, ltb, leb, eqb, List, [], ◌∷◌, ◌++◌, length, take, drop, get_or, map, Option, Some, None, sym, refl, ap, ◌∙◌, subst, arith, append-nil, true≢false}
use Rattle.std.specs.Prelude.{All, IsUtf8, codes, if◌then◌else◌}
use Rattle.std.specs.List.{list_all}
use Rattle.std.proofs.lemmas.Bool.{and_parts, ltb-true, leb-true}
use Rattle.std.proofs.lemmas.List.Sums.{AllPass-from_list_all}
use Rattle.httparse.specs.Grammar.{crlf, Field, IsField, is_token_byte, is_value_byte, is_uri_byte, RequestHead, IsRequestHead, print_request}
use Rattle.http_port.specs.HeadPart.{head_part}
use Rattle.http_port.specs.Rules.{BeginsWith, Head, Judges, admission, head_of, verdict_of}
use Rattle.http_port.specs.Connections.{Reading, requests, end_of, given, given_first}
use Rattle.http_port.specs.Serving.{bodies_in}
use Rattle.http_port.specs.Talk.{answer, talk}
use Rattle.http_port.specs.Feeding.{body_of}
use Rattle.http_port.specs.declared.head_reader.Fed.{Fed}
use Rattle.http_port.specs.declared.head_reader.Fed.TheVariants.{Interim, Request}
use Rattle.http_port.proofs.ReadingLemmas.{Tail, pending_given}
use Rattle.http_port.proofs.TalkLemmas.{spoken, talk_given, bodies_given}
use Rattle.http_connection.specs.Law.{holding, bodies_of, talk_of}
use mathlib.Core.Logic.{inl, inr}

-- a token, as a test
abbrev is_a_token : List ℕ → Bool
is_a_token bytes = ltb 0 (length bytes) && list_all is_token_byte bytes

-- a field
abbrev is_field : Field → Bool
is_field f = is_a_token f.name && list_all is_value_byte f.raw

-- a head, apart from the coding of its target
abbrev pub is_head : RequestHead → Bool
is_head h =
    is_a_token h.method
    && ((ltb 0 (length h.target) && list_all is_uri_byte h.target) && (leb h.minor 1 && list_all is_field h.fields))

field_is : (f : Field) → is_field f ≡ true → IsField f
field_is f e =
    let both = and_parts (is_a_token f.name) (list_all is_value_byte f.raw) e in
    let name = and_parts (ltb 0 (length f.name)) (list_all is_token_byte f.name) both.0 in
    record {
      name = (ltb-true 0 (length f.name) name.0, AllPass-from_list_all is_token_byte f.name name.1);
      raw = AllPass-from_list_all is_value_byte f.raw both.1;
    }

head_is : (h : RequestHead) → is_head h ≡ true → IsUtf8 h.target → IsRequestHead h
head_is h e coded =
    let all = and_parts (is_a_token h.method) _ e in
    let method = and_parts (ltb 0 (length h.method)) (list_all is_token_byte h.method) all.0 in
    let more = and_parts (ltb 0 (length h.target) && list_all is_uri_byte h.target) (leb h.minor 1 && list_all is_field h.fields) all.1 in
    let target = and_parts (ltb 0 (length h.target)) (list_all is_uri_byte h.target) more.0 in
    let last = and_parts (leb h.minor 1) (list_all is_field h.fields) more.1 in
    let fields = AllPass-from_list_all is_field h.fields last.1 in
    record {
      method = (ltb-true 0 (length h.method) method.0, AllPass-from_list_all is_token_byte h.method method.1);
      target = (ltb-true 0 (length h.target) target.0, AllPass-from_list_all is_uri_byte h.target target.1);
      target_text = coded;
      minor = leb-true h.minor 1 last.0;
      fields = λ k d below. field_is (get_or h.fields k d) (fields k d below);
    }

-- bytes whose head part is this head are judged by it
pub judged : (bytes : List ℕ) (n : ℕ) (h : RequestHead) → head_part bytes ≡ Some n → is_head h ≡ true → IsUtf8 h.target
    → leb (length h.fields) 64 ≡ true → take n bytes ≡ print_request h → Judges bytes (verdict_of (head_of h))
judged bytes n h part e coded few is =
    rw part (inl (
      h,
      record {
        rest = [];
        reads = (head_is h e coded, is ∙ sym (append-nil (print_request h)));
        few = leb-true (length h.fields) 64 few;
      },
      refl,
    ))

-- what follows the head of bytes that begin with this one, which has a body of so many bytes
abbrev pub HasTail : (bytes : List ℕ) → Reading bytes → Head → ℕ → Type 0
HasTail bytes r h n =
    (tail : List Fed) × (given bytes r ≡ given_first (admission h n) ++ tail) × Tail bytes (admission h n) tail

-- nothing is given of no bytes
nothing_given : (left : List ℕ) → left ≡ [] → (s : Reading left) → given left s ≡ []
nothing_given left is =
    subst (λ (l : List ℕ). (s : Reading l) → given l s ≡ []) (sym is) (λ s. pending_given [] refl s)

-- what is given of bytes that begin with a request, with which the connection goes on
pub more_requests : (bytes : List ℕ) (h : Head) (n : ℕ) (fs : List Fed) → (admission h n).interim ≡ false
    → (admission h n).close ≡ false → h.length + n ≤ length bytes
    → ((s : Reading (drop (h.length + n) bytes)) → given (drop (h.length + n) bytes) s ≡ fs)
    → (r : Reading bytes) → HasTail bytes r h n
    → given bytes r ≡ Request (body_of bytes (admission h n)) false ∷ fs
more_requests bytes h n fs plain stays whole rest r has =
    has.1 ∙ ap (λ (i : Bool). (if i then Interim ∷ [] else []) ++ has.0) plain ∙ by_tail has.0 has.2
  where
    by_tail : (tail : List Fed) → Tail bytes (admission h n) tail → tail ≡ Request (body_of bytes (admission h n)) false ∷ fs
    by_tail tail (inl short) = let too = short.0 in absurd (omega arith)
    by_tail tail (inr (inl closes)) = absurd (true≢false (sym closes.1 ∙ stays))
    by_tail tail (inr (inr goes)) =
        goes.2.1
        ∙ ap (λ (c : Bool). Request (body_of bytes (admission h n)) c ∷ given (drop (h.length + n) bytes) goes.2.0) stays
        ∙ ap (λ (l : List Fed). Request (body_of bytes (admission h n)) false ∷ l) (rest goes.2.0)

-- what is given of bytes that are one request, with which the connection goes on, and nothing else
pub one_request : (bytes : List ℕ) (h : Head) (n : ℕ) → (admission h n).interim ≡ false → (admission h n).close ≡ false
    → h.length + n ≤ length bytes → drop (h.length + n) bytes ≡ [] → (r : Reading bytes) → HasTail bytes r h n
    → given bytes r ≡ Request (body_of bytes (admission h n)) false ∷ []
one_request bytes h n plain stays whole all r has =
    more_requests bytes h n [] plain stays whole (nothing_given (drop (h.length + n) bytes) all) r has

-- the bodies of bytes of which this is given, and what is to be written on them
pub bodies_by : (bytes : List ℕ) (r : Reading bytes) (fs : List Fed) → given bytes r ≡ fs → bodies_of (holding bytes r).queue ≡ bodies_in fs
bodies_by bytes r fs is = bodies_given bytes r ∙ ap bodies_in is

pub talk_by : (bytes : List ℕ) (r : Reading bytes) (fs : List Fed) (texts : List (Option (List ℕ))) → given bytes r ≡ fs
    → talk_of (holding bytes r) texts ≡ spoken fs texts
talk_by bytes r fs texts is = talk_given bytes r texts ∙ ap (λ (l : List Fed). spoken l texts) is

-- ---- lists

abbrev has_none : {A : Type 0} → List A → Bool
has_none [] = true
has_none (x ∷ xs) = false

pub cons_nil : {A : Type 0} (x : A) (xs : List A) → x ∷ xs ≡ [] → ⊥
cons_nil x xs e = true≢false (ap has_none (sym e))

abbrev first_or : {A : Type 0} → A → List A → A
first_or d [] = d
first_or d (x ∷ xs) = x

pub head_same : {A : Type 0} (x y : A) (xs ys : List A) → x ∷ xs ≡ y ∷ ys → x ≡ y
head_same x y xs ys e = ap (first_or x) e

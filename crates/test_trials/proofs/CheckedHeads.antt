-- Whether a head is valid, as a test; and what a text is by the head that it begins with.
use Rattle.std.proofs.Common.{◌≡◌, ◌≤◌, ◌<◌, ℕ, Bool, true, false, ◌&&◌, ltb, leb, eqb, List, [], ◌∷◌, ◌++◌, length, take, drop, get_or, Some, None, sym, refl, ap, ◌∙◌, subst, arith, append-nil}
use Rattle.std.specs.Prelude.{All}
use Rattle.std.specs.List.{list_all}
use Rattle.std.specs.Char.{is_ascii_digit}
use Rattle.std.proofs.lemmas.Bool.{and_parts, ltb-true, leb-true, eqb-true}
use Rattle.std.proofs.lemmas.List.{take-append-drop}
use Rattle.std.proofs.lemmas.List.Sums.{AllPass-from_list_all}
use Rattle.httparse.specs.Grammar.{Field, IsField, IsToken, is_token_byte, is_value_byte, ResponseHead, IsResponseHead, ReadsResponse, print_response, reason_phrase}
use Rattle.httparse.proofs.GrammarLemmas.{response_unique}
use Rattle.http_port.specs.HeadPart.{head_part}
use Rattle.http_link.specs.Responses.{BeginsWith, extent_of, HasBody, IsResponse, IsNoResponse}
use Rattle.http_link.proofs.Heads.{never_one, same_part, without_head}
use Rattle.http_port.proofs.PartLemmas.{head_part_grows}

-- a token, as a test
abbrev pub is_a_token : List ℕ → Bool
is_a_token bytes = ltb 0 (length bytes) && list_all is_token_byte bytes

-- a field
abbrev pub is_field : Field → Bool
is_field f = is_a_token f.name && list_all is_value_byte f.raw

-- the status line of a head
abbrev pub is_status_line : ResponseHead → Bool
is_status_line h =
    (leb h.minor 1 && (eqb (length h.digits) 3 && list_all is_ascii_digit h.digits))
    && list_all is_value_byte (reason_phrase h.reason)

-- a head
abbrev pub is_head : ResponseHead → Bool
is_head h = is_status_line h && list_all is_field h.fields

field_is : (f : Field) → is_field f ≡ true → IsField f
field_is f e =
    let both = and_parts (is_a_token f.name) (list_all is_value_byte f.raw) e in
    let name = and_parts (ltb 0 (length f.name)) (list_all is_token_byte f.name) both.0 in
    record {
      name = (ltb-true 0 (length f.name) name.0, AllPass-from_list_all is_token_byte f.name name.1);
      raw = AllPass-from_list_all is_value_byte f.raw both.1;
    }

pub head_is : (h : ResponseHead) → is_head h ≡ true → IsResponseHead h
head_is h e =
    let all = and_parts (is_status_line h) (list_all is_field h.fields) e in
    let start = and_parts (leb h.minor 1 && (eqb (length h.digits) 3 && list_all is_ascii_digit h.digits)) (list_all is_value_byte (reason_phrase h.reason)) all.0 in
    let number = and_parts (leb h.minor 1) (eqb (length h.digits) 3 && list_all is_ascii_digit h.digits) start.0 in
    let digits = and_parts (eqb (length h.digits) 3) (list_all is_ascii_digit h.digits) number.1 in
    let fields = AllPass-from_list_all is_field h.fields all.1 in
    record {
      minor = leb-true h.minor 1 number.0;
      digits = (eqb-true (length h.digits) 3 digits.0, AllPass-from_list_all is_ascii_digit h.digits digits.1);
      reason = AllPass-from_list_all is_value_byte (reason_phrase h.reason) start.1;
      fields = λ k d below. field_is (get_or h.fields k d) (fields k d below);
    }

-- a head part that is a head
pub begins : (part : List ℕ) (h : ResponseHead) → is_head h ≡ true → leb (length h.fields) 64 ≡ true → part ≡ print_response h → BeginsWith part h
begins part h e few is = record {
  rest = [];
  reads = (head_is h e, is ∙ sym (append-nil (print_response h)));
  few = leb-true (length h.fields) 64 few;
}

-- a response, by its head and its body
pub a_response : (text : List ℕ) (n : ℕ) (h : ResponseHead) (ended : Bool) (body : List ℕ) → head_part text ≡ Some n → is_head h ≡ true
    → leb (length h.fields) 64 ≡ true → take n text ≡ print_response h → HasBody (extent_of h) (drop (length (print_response h)) text) ended body
    → IsResponse text ended body
a_response text n h ended body part e few is has =
    record { length_of_part = n; part = part; head = h; begins = begins (take n text) h e few is; has_body = has }

-- the head part of a text is a head
pub whole_head : (text : List ℕ) (n : ℕ) (h : ResponseHead) → is_head h ≡ true → leb (length h.fields) 64 ≡ true → take n text ≡ print_response h
    → BeginsWith (take n text) h
whole_head text n h e few is = begins (take n text) h e few is

-- none, whatever follows, by the number of its fields
pub too_many_fields : (text : List ℕ) (n : ℕ) (h : ResponseHead) → head_part text ≡ Some n → is_head h ≡ true → ltb 64 (length h.fields) ≡ true
    → take n text ≡ print_response h → IsNoResponse text false
too_many_fields text n h part e many is =
    never_one text false (λ more body. without_head (text ++ more) n (head_part_grows text more n part) (λ k b. none_few more k b) true body)
  where
    none_few : (more : List ℕ) (k : ResponseHead) → BeginsWith (take n (text ++ more)) k → ⊥
    none_few more k b =
        let reads : ReadsResponse (take n (text ++ more)) h [] = (head_is h e, same_part text more n part ∙ is ∙ sym (append-nil (print_response h))) in
        let same : h ≡ k = (response_unique (take n (text ++ more)) h k [] b.rest reads b.reads).0 in
        let few : length h.fields ≤ 64 = subst (λ x. length x.fields ≤ 64) (sym same) b.few in
        let long = ltb-true 64 (length h.fields) many in
        omega arith

-- bytes that lead to a response are not none
pub still_open : (text body : List ℕ) → IsResponse text true body → (k : ℕ) → ¬ (IsNoResponse (take k text) false)
still_open text body r k none = none (drop k text) body (subst (λ l. IsResponse l true body) (sym (take-append-drop k text)) r)

-- What bytes are, by the head that they begin with.
use Rattle.std.proofs.Common.{◌≡◌, ◌<◌, ◌≤◌, ◌+◌, ◌-◌, ℕ, Bool, true, false, List, [], ◌∷◌, ◌++◌, length, take, drop, Some, None, sym, refl, ap, ◌∙◌, subst, arith, inl, inr, length-append, append-nil}
use Rattle.std.specs.Prelude.{◌⊎◌, slice_range}
use Rattle.std.proofs.lemmas.List.{take-append-le, take_all, take-take, length-take, length-drop}
use Rattle.std.proofs.lemmas.Option.{none-some, same_Some}
use Rattle.httparse.specs.Grammar.{ResponseHead, print_response}
use Rattle.httparse.proofs.GrammarLemmas.{response_unique}
use Rattle.http_port.specs.HeadPart.{longest_head, head_part, lines, part_length}
use Rattle.http_port.proofs.PartLemmas.{head_part_grows, head_part_within}
use Rattle.http_link.specs.Responses.{BeginsWith, extent_of, HasBody, IsResponse, IsNoResponse, IsUnfinished}
use Rattle.http_link.specs.Steps.{Announces, HasHead, Knows, Finds}
use Rattle.http_link.specs.declared.announced.Announced.{Announced}
use Rattle.http_link.specs.declared.announced.Extent.{Extent}
use Rattle.http_link.specs.declared.announced.Extent.TheVariants.{Sized, ToEnd, Refused}

-- ---- one head

-- a part begins with one head
pub same_head : (part : List ℕ) (h k : ResponseHead) → BeginsWith part h → BeginsWith part k → h ≡ k
same_head part h k x y = (response_unique part h k x.rest y.rest x.reads y.reads).0

-- what follows a head is the body of a response
pub body_by_head : (bytes : List ℕ) (n : ℕ) (h : ResponseHead) → head_part bytes ≡ Some n → BeginsWith (take n bytes) h
    → (ended : Bool) (body : List ℕ) → IsResponse bytes ended body
    → HasBody (extent_of h) (drop (length (print_response h)) bytes) ended body
body_by_head bytes n h e b ended body r =
    let same : r.length_of_part ≡ n = same_Some r.length_of_part n (sym r.part ∙ e) in
    let begins : BeginsWith (take n bytes) r.head = subst (λ k. BeginsWith (take k bytes) r.head) same r.begins in
    let heads : r.head ≡ h = same_head (take n bytes) r.head h begins b in
    subst (λ k. HasBody (extent_of k) (drop (length (print_response k)) bytes) ended body) heads r.has_body

-- a part that begins with no head is of no response
pub without_head : (bytes : List ℕ) (n : ℕ) → head_part bytes ≡ Some n → ((h : ResponseHead) → ¬ (BeginsWith (take n bytes) h))
    → (ended : Bool) (body : List ℕ) → ¬ (IsResponse bytes ended body)
without_head bytes n e none ended body r =
    let same : r.length_of_part ≡ n = same_Some r.length_of_part n (sym r.part ∙ e) in
    none r.head (subst (λ k. BeginsWith (take k bytes) r.head) same r.begins)

-- bytes without a head part are no response
pub without_part : (bytes : List ℕ) → head_part bytes ≡ None → (ended : Bool) (body : List ℕ) → ¬ (IsResponse bytes ended body)
without_part bytes e ended body r = none-some r.length_of_part (sym e ∙ r.part)

-- ---- more bytes

-- a whole head part stays as it is
pub same_part : (bytes more : List ℕ) (n : ℕ) → head_part bytes ≡ Some n → take n (bytes ++ more) ≡ take n bytes
same_part bytes more n e =
    let within = head_part_within bytes n e in
    let inside : n ≤ length bytes = omega (arith, length-take longest_head bytes) in
    take-append-le n bytes more inside

-- behind the longest head there is no head part any more
pub none_grows : (bytes more : List ℕ) → head_part bytes ≡ None → longest_head ≤ length bytes → head_part (bytes ++ more) ≡ None
none_grows bytes more e long =
    ap (λ l. part_length false (lines l)) (take-append-le longest_head bytes more long) ∙ e

-- what is announced stays so
pub head_grows : (bytes more : List ℕ) (a : Announced) → HasHead bytes a → HasHead (bytes ++ more) a
head_grows bytes more a h = record {
  length_of_part = h.length_of_part;
  part = head_part_grows bytes more h.length_of_part h.part;
  announces = subst (λ part. Announces part a) (sym (same_part bytes more h.length_of_part h.part)) h.announces;
}

-- what is announced by the front that is looked at
pub head_by_part : (bytes : List ℕ) (n : ℕ) (a : Announced) → head_part bytes ≡ Some n → Announces (take n (take longest_head bytes)) a → HasHead bytes a
head_by_part bytes n a e announces =
    let within = head_part_within bytes n e in
    let short : n ≤ longest_head = omega (arith, length-take longest_head bytes) in
    record {
      length_of_part = n;
      part = e;
      announces = subst (λ part. Announces part a) (take-take n longest_head bytes short) announces;
    }

-- ---- no response

-- what is no response with any bytes that follow
pub never_one : (bytes : List ℕ) (ended : Bool) → ((more body : List ℕ) → ¬ (IsResponse (bytes ++ more) true body)) → IsNoResponse bytes ended
never_one bytes true never = λ body r. never [] body (subst (λ l. IsResponse l true body) (sym (append-nil bytes)) r)
never_one bytes false never = never

-- behind the longest head without a head part
pub never_long : (bytes : List ℕ) (ended : Bool) → head_part bytes ≡ None → longest_head ≤ length bytes → IsNoResponse bytes ended
never_long bytes ended e long = never_one bytes ended (λ more body. without_part (bytes ++ more) (none_grows bytes more e long) true body)

-- a response by what is announced
pub body_announced : (bytes : List ℕ) (a : Announced) → HasHead bytes a → (ended : Bool) (body : List ℕ) → IsResponse bytes ended body
    → HasBody a.extent (drop a.head bytes) ended body
body_announced bytes a h ended body r = by_parts h.announces
  where
    by_parts : Announces (take h.length_of_part bytes) a → HasBody a.extent (drop a.head bytes) ended body
    by_parts (inl x) =
        let b = body_by_head bytes h.length_of_part x.0 h.part x.1 ended body r in
        subst (λ n. HasBody a.extent (drop n bytes) ended body) (sym x.2)
        (subst (λ (e : Extent). HasBody e (drop (length (print_response x.0)) bytes) ended body) (sym x.3) b)
    by_parts (inr x) = absurd (without_head bytes h.length_of_part h.part x.0 ended body r)

-- where no response is announced
pub never_announced : (bytes : List ℕ) (a : Announced) (ended : Bool) → HasHead bytes a → a.extent ≡ Refused → IsNoResponse bytes ended
never_announced bytes a ended h e =
    never_one bytes ended (λ more body r.
    subst (λ (x : Extent). HasBody x (drop a.head (bytes ++ more)) true body) e (body_announced (bytes ++ more) a (head_grows bytes more a h) true body r))

-- a whole response is announced
pub is_announced : (bytes : List ℕ) (a : Announced) → HasHead bytes a → (ended : Bool) (body : List ℕ) → HasBody a.extent (drop a.head bytes) ended body
    → IsResponse bytes ended body
is_announced bytes a h ended body has = by_parts h.announces
  where
    by_parts : Announces (take h.length_of_part bytes) a → IsResponse bytes ended body
    by_parts (inl x) = record {
      length_of_part = h.length_of_part;
      part = h.part;
      head = x.0;
      begins = x.1;
      has_body = subst (λ (e : Extent). HasBody e (drop (length (print_response x.0)) bytes) ended body) x.3
          (subst (λ n. HasBody a.extent (drop n bytes) ended body) x.2 has);
    }
    by_parts (inr x) = absurd (subst (λ (e : Extent). HasBody e (drop a.head bytes) ended body) x.1 has)

-- a head lies in the bytes, and is not too long
pub head_inside : (bytes : List ℕ) (a : Announced) → HasHead bytes a → (a.extent ≡ Refused → ⊥) → (a.head ≤ longest_head) × (a.head ≤ length bytes)
head_inside bytes a h some = by_parts h.announces
  where
    by_parts : Announces (take h.length_of_part bytes) a → (a.head ≤ longest_head) × (a.head ≤ length bytes)
    by_parts (inl x) =
        let within = head_part_within bytes h.length_of_part h.part in
        let is : length (take h.length_of_part bytes) ≡ length (print_response x.0) + length x.1.rest = ap length x.1.reads.1 ∙ length-append (print_response x.0) x.1.rest in
        let head = x.2 in (
          omega (arith, length-take longest_head bytes, length-take h.length_of_part bytes),
          omega (arith, length-take longest_head bytes, length-take h.length_of_part bytes),
        )
    by_parts (inr x) = absurd (some x.1)

-- ---- by a head of the grammar

-- what a head announces
abbrev pub announced : ResponseHead → Announced
announced h = record { head = length (print_response h); extent = extent_of h }

-- a whole head part that begins with it
pub head_of_part : (bytes : List ℕ) (n : ℕ) (h : ResponseHead) → head_part bytes ≡ Some n → BeginsWith (take n bytes) h
    → HasHead bytes (announced h)
head_of_part bytes n h e begins =
    record { length_of_part = n; part = e; announces = inl (h, begins, refl, refl) }

-- where it is of no response
pub never_by_head : (bytes : List ℕ) (n : ℕ) (h : ResponseHead) → head_part bytes ≡ Some n → BeginsWith (take n bytes) h → extent_of h ≡ Refused
    → IsNoResponse bytes false
never_by_head bytes n h e begins refused = never_announced bytes (announced h) false (head_of_part bytes n h e begins) refused

-- ---- bodies of a length

abbrev pub sized_head : ℕ → ℕ → Announced
sized_head head n = record { head = head; extent = Sized n }

pub not_refused : (n : ℕ) → Sized n ≡ Refused → ⊥
not_refused n e = absurd (cc)

-- short of its length it is not finished
pub sized_unfinished : (bytes : List ℕ) (head n : ℕ) → HasHead bytes (sized_head head n) → (more : List ℕ)
    → length (bytes ++ more) < head + n → IsUnfinished (bytes ++ more)
sized_unfinished bytes head n h more short body r =
    let has = body_announced (bytes ++ more) (sized_head head n) (head_grows bytes more (sized_head head n) h) false body r in
    let long = has.0 in
    let inside = head_inside bytes (sized_head head n) h (not_refused n) in
    omega (arith, length-drop head (bytes ++ more), length-append bytes more)

-- and none where no more come
pub sized_short : (bytes : List ℕ) (head n : ℕ) → HasHead bytes (sized_head head n) → length bytes < head + n → IsNoResponse bytes true
sized_short bytes head n h short body r =
    let has = body_announced bytes (sized_head head n) h true body r in
    let long = has.0 in
    let inside = head_inside bytes (sized_head head n) h (not_refused n) in
    omega (arith, length-drop head bytes)

-- with so many bytes it is there
pub sized_found : (bytes : List ℕ) (head n end : ℕ) → end ≡ head + n → HasHead bytes (sized_head head n) → end ≤ length bytes
    → Finds bytes false (Some (record { start = head; end = end }))
sized_found bytes head n end e h long = (
  (omega arith, long),
  is_announced bytes (sized_head head n) h false (slice_range bytes head end)
      (omega (arith, length-drop head bytes), ap (λ k. take k (drop head bytes)) (omega arith)),
)

-- ---- bodies to the end

abbrev pub open_head : ℕ → Announced
open_head head = record { head = head; extent = ToEnd }

pub open_not_refused : ToEnd ≡ Refused → ⊥
open_not_refused e = absurd (cc)

-- before the end it is not finished
pub open_unfinished : (bytes : List ℕ) (head : ℕ) → HasHead bytes (open_head head) → (more : List ℕ) → IsUnfinished (bytes ++ more)
open_unfinished bytes head h more body r =
    let has = body_announced (bytes ++ more) (open_head head) (head_grows bytes more (open_head head) h) false body r in
    let e = has.0 in absurd (cc)

-- it is none where it is too long
pub open_long : (bytes : List ℕ) (head : ℕ) → HasHead bytes (open_head head) → head + 65537 ≤ length bytes → IsNoResponse bytes false
open_long bytes head h long more body r =
    let has = body_announced (bytes ++ more) (open_head head) (head_grows bytes more (open_head head) h) true body r in
    let short = has.1 in
    omega (arith, length-drop head (bytes ++ more), length-append bytes more)

-- and else it is there at the end
pub open_found : (bytes : List ℕ) (head : ℕ) → HasHead bytes (open_head head) → length bytes < head + 65537
    → Finds bytes true (Some (record { start = head; end = length bytes }))
open_found bytes head h short = (
  (inside, omega arith),
  is_announced bytes (open_head head) h true (slice_range bytes head (length bytes))
      (refl, omega (arith, length-drop head bytes), all_taken),
)
  where
    inside : head ≤ length bytes
    inside = (head_inside bytes (open_head head) h open_not_refused).1

    all_taken : take (length bytes - head) (drop head bytes) ≡ drop head bytes
    all_taken = ap (λ k. take k (drop head bytes)) (sym (length-drop head bytes)) ∙ take_all (length (drop head bytes)) (drop head bytes) (omega arith)

-- ---- once the head was read

-- what the bytes at hand announce
pub knows_front : (bytes inbox : List ℕ) (a : Announced) → bytes ≡ inbox → HasHead bytes a ⊎ ((a.extent ≡ Refused) × IsNoResponse bytes false)
    → Knows inbox false a
knows_front bytes inbox a e (inl h) = inl (refl, subst (λ l. HasHead l a) e h)
knows_front bytes inbox a e (inr n) = inr (n.0, subst (λ l. IsNoResponse l false) e n.1)

-- nothing is announced at the end of what comes
pub knows_end : (bytes inbox next piece : List ℕ) (a : Announced) → bytes ≡ inbox → head_part bytes ≡ None → next ≡ inbox ++ piece → length piece ≡ 0
    → a.extent ≡ Refused → Knows next true a
knows_end bytes inbox next [] a e none is long refused =
    inr (refused, subst (λ l. IsNoResponse l true) (e ∙ sym (is ∙ append-nil inbox)) (λ body. without_part bytes none true body))
knows_end bytes inbox next (b ∷ piece) a e none is long refused = absurd (omega arith)

-- without a head part the bytes are not finished
pub unfinished_front : (bytes inbox : List ℕ) → bytes ≡ inbox → head_part bytes ≡ None → IsUnfinished inbox
unfinished_front bytes inbox e none = subst IsUnfinished e (λ body. without_part bytes none false body)

-- what is known where the head is of some response
pub known_head : (bytes : List ℕ) (ended : Bool) (a : Announced) (x : Extent) → a.extent ≡ x → (x ≡ Refused → ⊥) → Knows bytes ended a
    → (ended ≡ false) × HasHead bytes (record { head = a.head; extent = x })
known_head bytes ended a x e some (inl k) = (k.0, subst (λ (y : Extent). HasHead bytes (record { head = a.head; extent = y })) e k.1)
known_head bytes ended a x e some (inr k) = absurd (some (sym e ∙ k.0))

-- and where it is of none
pub known_none : (bytes : List ℕ) (ended : Bool) (a : Announced) → a.extent ≡ Refused → Knows bytes ended a → IsNoResponse bytes ended
known_none bytes ended a e (inl k) = never_announced bytes a ended k.1 e
known_none bytes ended a e (inr k) = k.1

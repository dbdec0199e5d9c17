-- UTF-8: where bytes stop beginning any.
use Rattle.std.proofs.Common.{◌≡◌, ℕ, zero, suc, ◌+◌, ◌-◌, ◌*◌, ◌/◌, ◌<◌, ◌≤◌, ◌⊎◌, inl, inr, ⊎_elim, Bool, true, false, cond, ◌&&◌, List, [], ◌∷◌, ◌++◌, length, take, drop, get_or, refl, sym, ap, subst, ◌∙◌, arith, append_assoc, append-nil, Option, None, Some}
use Rattle.std.specs.Int.{is_in_range}
use Rattle.std.specs.Str.{is_utf8, IsUtf8}
use Rattle.std.specs.Str.Lossy.{utf8_valid_len, valid_len_up_to}
use Rattle.std.proofs.lemmas.Bool.Decides.{nat_tests}
use Rattle.std.proofs.lemmas.Str.{is_utf8-from_IsUtf8, IsUtf8-from_is_utf8, IsUtf8-nil, IsUtf8-append, IsUtf8-drop, IsCharBoundary-from_take, utf8_valid_len_le}
use Rattle.std.proofs.lemmas.List.{length-drop, length-append, take-append-drop, take-take}
use Rattle.std.proofs.Math.Seq.{drop-append_seam, take-append_seam, take-add}
use Rattle.std.specs.Option.{MatchOption}
use Rattle.std.proofs.lemmas.Bool.{lt-ltb, le-ltb}
use lib.Utf8.{scalar, scalars, encode, encodes, scalar_cases, next}
use Rattle.jolie_tokens.specs.Utf8.{BeginsUtf8, StopsAt}
use Rattle.jolie_tokens.specs.Fronts.{utf8_stop, is_lead, is_second, begun_len, begun_second, begun_third}

not_utf8 : (bs : List ℕ) → ¬ (IsUtf8 bs) → (b : Bool) → is_utf8 bs ≡ b → is_utf8 bs ≡ false
not_utf8 bs broken true e = absurd (broken (IsUtf8-from_is_utf8 bs e))
not_utf8 bs broken false e = e

utf8_stop_at : (bs : List ℕ) → ¬ (IsUtf8 bs) → utf8_stop bs ≡ Some (utf8_valid_len bs + begun_len (drop (utf8_valid_len bs) bs))
unfolding utf8_stop
utf8_stop_at bs broken = rw (not_utf8 bs broken (is_utf8 bs) refl)

-- the place where bytes stop that are no UTF-8, from how long the text at their front is
pub utf8_stop_is : (bs : List ℕ) (n begun : ℕ) → ¬ (IsUtf8 bs) → n ≡ utf8_valid_len bs → begun ≡ begun_len (drop n bs) → Some (n + begun) ≡ utf8_stop bs
utf8_stop_is bs n begun broken e f = rw (f, e) (sym (utf8_stop_at bs broken))

third_short : (bs : List ℕ) → begun_third bs ≤ length bs
third_short [] = omega arith
third_short (z ∷ bs) = elim (is_in_range 0x80 0xBF z) as (λ b. cond b 1 0 ≤ suc (length bs)) [ true ↦ omega arith | false ↦ omega arith ]

second_short : (x : ℕ) (bs : List ℕ) → begun_second x bs ≤ length bs
second_short x [] = omega arith
second_short x (y ∷ bs) = let h = third_short bs in elim (is_second x y) as (λ b. cond b (1 + begun_third bs) 0 ≤ suc (length bs)) [ true ↦ omega arith | false ↦ omega arith ]

begun_short : (bs : List ℕ) → begun_len bs ≤ length bs
begun_short [] = omega arith
begun_short (x ∷ bs) = let h = second_short x bs in elim (is_lead x) as (λ b. cond b (1 + begun_second x bs) 0 ≤ suc (length bs)) [ true ↦ omega arith | false ↦ omega arith ]

pub utf8_stop_within : (bs : List ℕ) (n begun : ℕ) → n ≡ utf8_valid_len bs → begun ≡ begun_len (drop n bs) → n + begun ≤ length bs
utf8_stop_within bs n begun e f =
    let within : n ≤ length bs = rw e (utf8_valid_len_le bs) in
    omega (arith, begun_short (drop n bs), length-drop n bs)

-- the bytes of a character by its range
one : (c : ℕ) → c < 128 → encode c ≡ c ∷ []
unfolding encode
one c h = rw (lt-ltb c 128 h)

two : (c : ℕ) → 128 ≤ c → c < 2048 → encode c ≡ (192 + c / 64) ∷ next c ∷ []
unfolding encode
two c l h = rw (le-ltb c 128 l, lt-ltb c 2048 h)

three : (c : ℕ) → 2048 ≤ c → c < 65536 → encode c ≡ (224 + c / 4096) ∷ next (c / 64) ∷ next c ∷ []
unfolding encode
three c l h = rw (le-ltb c 128 (omega arith), le-ltb c 2048 l, lt-ltb c 65536 h)

four : (c : ℕ) → 65536 ≤ c → encode c ≡ (240 + c / 262144) ∷ next (c / 4096) ∷ next (c / 64) ∷ next c ∷ []
unfolding encode
four c l = rw (le-ltb c 128 (omega arith), le-ltb c 2048 (omega arith), le-ltb c 65536 l)

abbrev Follows : ℕ → Type 0
Follows b = (128 ≤ b) × (b < 192)

-- a scalar value by its range
scalar_is : (c : ℕ) → (c < 55296) ⊎ ((57344 ≤ c) × (c < 1114112)) → scalar c ≡ true
scalar_is c (inl h) = grind (arith, nat_tests)
scalar_is c (inr h) = grind (arith, nat_tests)

one_char : (c : ℕ) (bs : List ℕ) → scalar c ≡ true → encode c ≡ bs → IsUtf8 bs
one_char c bs s e = (c ∷ [], (rw s refl, append-nil (encode c) ∙ e))

-- what a character's second byte is after its first
abbrev Second : ℕ → ℕ → Type 0
Second x y = (128 ≤ y) × (y < 192) × (x ≡ 224 → 160 ≤ y) × (x ≡ 237 → y < 160) × (x ≡ 240 → 144 ≤ y) × (x ≡ 244 → y < 144)

pub utf8_one : (x : ℕ) → x < 128 → IsUtf8 (x ∷ [])
utf8_one x h = one_char x (x ∷ []) (scalar_is x (inl (omega arith))) (one x h)

same_two : (a b x y : ℕ) → a ≡ x → b ≡ y → a ∷ b ∷ [] ≡ x ∷ y ∷ []
same_two a b x y e f = cc

same_three : (a b d x y z : ℕ) → a ≡ x → b ≡ y → d ≡ z → a ∷ b ∷ d ∷ [] ≡ x ∷ y ∷ z ∷ []
same_three a b d x y z e f g = cc

same_four : (a b d m x y z w : ℕ) → a ≡ x → b ≡ y → d ≡ z → m ≡ w → a ∷ b ∷ d ∷ m ∷ [] ≡ x ∷ y ∷ z ∷ w ∷ []
same_four a b d m x y z w e f g h = cc

utf8_two : (x y : ℕ) → 194 ≤ x → x < 224 → Follows y → IsUtf8 (x ∷ y ∷ [])
utf8_two x y l u f =
    let c : ℕ = (x - 192) * 64 + (y - 128) in
    one_char c (x ∷ y ∷ []) (scalar_is c (inl (omega arith))) (two c (omega arith) (omega arith) ∙ same_two _ _ x y (omega arith) (omega arith))

three_scalar : (x y z c : ℕ) → 224 ≤ x → x < 240 → Second x y → Follows z → c + 925824 ≡ x * 4096 + y * 64 + z → (x < 237) ⊎ (237 ≤ x) → (x < 238) ⊎ (238 ≤ x) → (c < 55296) ⊎ ((57344 ≤ c) × (c < 1114112))
three_scalar x y z c l u s f e (inl a) _ = inl (omega arith)
three_scalar x y z c l u s f e (inr a) (inl b) = let top : y < 160 = s.3 (omega arith) in inl (omega arith)
three_scalar x y z c l u s f e (inr a) (inr b) = inr (omega arith, omega arith)

order : (m n : ℕ) → (m < n) ⊎ (n ≤ m)
order m n = grind arith

three_least : (x y z c : ℕ) → 224 ≤ x → Second x y → Follows z → c + 925824 ≡ x * 4096 + y * 64 + z → (x < 225) ⊎ (225 ≤ x) → 2048 ≤ c
three_least x y z c l s f e (inl a) = let low : 160 ≤ y = s.2 (omega arith) in omega arith
three_least x y z c l s f e (inr a) = omega arith

utf8_three : (x y z : ℕ) → 224 ≤ x → x < 240 → Second x y → Follows z → IsUtf8 (x ∷ y ∷ z ∷ [])
utf8_three x y z l u s f =
    let c : ℕ = (x - 224) * 4096 + ((y - 128) * 64 + (z - 128)) in
    let e : c + 925824 ≡ x * 4096 + y * 64 + z = omega arith in
    let low : 2048 ≤ c = three_least x y z c l s f e (order x 225) in
    one_char c (x ∷ y ∷ z ∷ []) (scalar_is c (three_scalar x y z c l u s f e (order x 237) (order x 238)))
    (three c low (omega arith) ∙ same_three _ _ _ x y z (omega arith) (omega arith) (omega arith))

four_least : (x y z w c : ℕ) → 240 ≤ x → Second x y → Follows z → Follows w → c + 63447168 ≡ x * 262144 + y * 4096 + z * 64 + w → (x < 241) ⊎ (241 ≤ x) → 65536 ≤ c
four_least x y z w c l s f g e (inl a) = let low : 144 ≤ y = s.4 (omega arith) in omega arith
four_least x y z w c l s f g e (inr a) = omega arith

four_most : (x y z w c : ℕ) → x < 245 → Second x y → Follows z → Follows w → c + 63447168 ≡ x * 262144 + y * 4096 + z * 64 + w → (x < 244) ⊎ (244 ≤ x) → c < 1114112
four_most x y z w c u s f g e (inl a) = omega arith
four_most x y z w c u s f g e (inr a) = let top : y < 144 = s.5 (omega arith) in omega arith

utf8_four : (x y z w : ℕ) → 240 ≤ x → x < 245 → Second x y → Follows z → Follows w → IsUtf8 (x ∷ y ∷ z ∷ w ∷ [])
utf8_four x y z w l u s f g =
    let c : ℕ = (x - 240) * 262144 + ((y - 128) * 4096 + ((z - 128) * 64 + (w - 128))) in
    let e : c + 63447168 ≡ x * 262144 + y * 4096 + z * 64 + w = omega arith in
    let low : 65536 ≤ c = four_least x y z w c l s f g e (order x 241) in
    let top : c < 1114112 = four_most x y z w c u s f g e (order x 244) in
    one_char c (x ∷ y ∷ z ∷ w ∷ []) (scalar_is c (inr (omega arith, top)))
    (four c low ∙ same_four _ _ _ _ x y z w (omega arith) (omega arith) (omega arith) (omega arith))

-- what the first byte of a text says of the bytes after it
record Led (x : ℕ) (bs : List ℕ) : Type 0 where
  pub first : (x < 128) ⊎ ((194 ≤ x) × (x < 245))
  pub second : 194 ≤ x → (0 < length bs) × Second x (get_or bs 0 0)
  pub third : 224 ≤ x → (1 < length bs) × Follows (get_or bs 1 0)
  pub fourth : 240 ≤ x → (2 < length bs) × Follows (get_or bs 2 0)

led_one : (x : ℕ) (r : List ℕ) → x < 128 → Led x r
led_one x r h = record {
  first = inl h;
  second = λ t. absurd (omega arith);
  third = λ t. absurd (omega arith);
  fourth = λ t. absurd (omega arith);
}

led_two : (x y : ℕ) (r : List ℕ) → 194 ≤ x → x < 224 → Follows y → Led x (y ∷ r)
led_two x y r l u f = record {
  first = inr (l, omega arith);
  second = λ t. (omega arith, (f.0, f.1, (λ q. absurd (omega arith)), (λ q. absurd (omega arith)), (λ q. absurd (omega arith)), (λ q. absurd (omega arith))));
  third = λ t. absurd (omega arith);
  fourth = λ t. absurd (omega arith);
}

led_three : (x y z : ℕ) (r : List ℕ) → 224 ≤ x → x < 240 → Second x y → Follows z → Led x (y ∷ z ∷ r)
led_three x y z r l u s f = record {
  first = inr (omega arith, omega arith);
  second = λ t. (omega arith, s);
  third = λ t. (omega arith, f);
  fourth = λ t. absurd (omega arith);
}

led_four : (x y z w : ℕ) (r : List ℕ) → 240 ≤ x → x < 245 → Second x y → Follows z → Follows w → Led x (y ∷ z ∷ w ∷ r)
led_four x y z w r l u s f g = record {
  first = inr (omega arith, omega arith);
  second = λ t. (omega arith, s);
  third = λ t. (omega arith, f);
  fourth = λ t. (omega arith, g);
}

follows : (n : ℕ) → Follows (next n)
follows n = (omega arith, omega arith)

second_three : (c : ℕ) → 2048 ≤ c → c < 65536 → (c < 55296) ⊎ ((57344 ≤ c) × (c < 1114112)) → Second (224 + c / 4096) (next (c / 64))
second_three c l u (inl h) = (omega arith, omega arith, (λ q. omega arith), (λ q. omega arith), (λ q. absurd (omega arith)), (λ q. absurd (omega arith)))
second_three c l u (inr h) = (omega arith, omega arith, (λ q. omega arith), (λ q. absurd (omega arith)), (λ q. absurd (omega arith)), (λ q. absurd (omega arith)))

second_four : (c : ℕ) → 65536 ≤ c → c < 1114112 → Second (240 + c / 262144) (next (c / 4096))
second_four c l u = (omega arith, omega arith, (λ q. absurd (omega arith)), (λ q. absurd (omega arith)), (λ q. omega arith), (λ q. omega arith))

below : (c : ℕ) → (c < 55296) ⊎ ((57344 ≤ c) × (c < 1114112)) → c < 1114112
below c (inl h) = omega arith
below c (inr h) = h.1

led_char : (c : ℕ) (r : List ℕ) → (c < 55296) ⊎ ((57344 ≤ c) × (c < 1114112)) → (c < 128) ⊎ (128 ≤ c) → (c < 2048) ⊎ (2048 ≤ c) → (c < 65536) ⊎ (65536 ≤ c)
    → (x : ℕ) × (bs : List ℕ) × (encode c ++ r ≡ x ∷ bs) × Led x bs
led_char c r s (inl h) _ _ = (c, r, ap (λ p. p ++ r) (one c h), led_one c r h)
led_char c r s (inr l) (inl h) _ =
    (192 + c / 64, next c ∷ r, ap (λ p. p ++ r) (two c l h), led_two (192 + c / 64) (next c) r (omega arith) (omega arith) (follows c))
led_char c r s (inr _) (inr l) (inl h) =
    (224 + c / 4096, next (c / 64) ∷ next c ∷ r, ap (λ p. p ++ r) (three c l h), led_three (224 + c / 4096) (next (c / 64)) (next c) r (omega arith) (omega arith) (second_three c l h s) (follows c))
led_char c r s (inr _) (inr _) (inr l) =
    let top : c < 1114112 = below c s in (
      240 + c / 262144,
      next (c / 4096) ∷ next (c / 64) ∷ next c ∷ r,
      ap (λ p. p ++ r) (four c l),
      led_four (240 + c / 262144) (next (c / 4096)) (next (c / 64)) (next c) r (omega arith) (omega arith) (second_four c l top) (follows (c / 64)) (follows c),
    )

same_led : (x y : ℕ) (bs ds : List ℕ) → x ∷ bs ≡ y ∷ ds → Led x bs → Led y ds
same_led x y bs ds e h = let f : x ≡ y = cc in let g : bs ≡ ds = cc in rw (← f, ← g) h

first_true : (a b : Bool) → a && b ≡ true → a ≡ true
first_true true b e = refl
first_true false b e = e

led_of : (x : ℕ) (bs cs : List ℕ) → scalars cs ≡ true → encodes cs ≡ x ∷ bs → Led x bs
led_of x bs [] s e = absurd cc
led_of x bs (c ∷ cs) s e =
    let found = led_char c (encodes cs) (scalar_cases c (first_true (scalar c) (scalars cs) s)) (order c 128) (order c 2048) (order c 65536) in
    same_led found.0 x found.1 bs (sym found.2 ∙ e) found.3

led : (x : ℕ) (bs : List ℕ) → IsUtf8 (x ∷ bs) → Led x bs
led x bs u = led_of x bs u.0 u.1.0 u.1.1

-- no front of the bytes but the empty one is UTF-8
abbrev NoFront : List ℕ → Type 0
NoFront ts = (m : ℕ) → 0 < m → m ≤ length ts → ¬ (IsUtf8 (take m ts))

record StopsFront (ts : List ℕ) (k : ℕ) : Type 0 where
  pub short : k ≤ length ts
  pub begin : BeginsUtf8 (take k ts)
  pub stop : k < length ts → ¬ (BeginsUtf8 (take (suc k) ts))

second_some : (x : ℕ) → (x < 237) ⊎ (237 ≤ x) → (x < 238) ⊎ (238 ≤ x) → (x < 244) ⊎ (244 ≤ x) → (y : ℕ) × Second x y
second_some x (inl h) _ _ = (160, (omega arith, omega arith, (λ q. omega arith), (λ q. absurd (omega arith)), (λ q. omega arith), (λ q. absurd (omega arith))))
second_some x (inr l) (inl h) _ = (128, (omega arith, omega arith, (λ q. absurd (omega arith)), (λ q. omega arith), (λ q. absurd (omega arith)), (λ q. omega arith)))
second_some x (inr _) (inr l) (inl h) = (160, (omega arith, omega arith, (λ q. omega arith), (λ q. absurd (omega arith)), (λ q. omega arith), (λ q. absurd (omega arith))))
second_some x (inr _) (inr _) (inr l) = (128, (omega arith, omega arith, (λ q. absurd (omega arith)), (λ q. omega arith), (λ q. absurd (omega arith)), (λ q. omega arith)))

begins_two : (x y : ℕ) → 224 ≤ x → x < 245 → Second x y → (x < 240) ⊎ (240 ≤ x) → BeginsUtf8 (x ∷ y ∷ [])
begins_two x y l u s (inl h) = (128 ∷ [], utf8_three x y 128 l h s (omega arith, omega arith))
begins_two x y l u s (inr h) = (128 ∷ 128 ∷ [], utf8_four x y 128 128 h u s (omega arith, omega arith) (omega arith, omega arith))

begins_one : (x : ℕ) → 194 ≤ x → x < 245 → (x < 224) ⊎ (224 ≤ x) → BeginsUtf8 (x ∷ [])
begins_one x l u (inl h) = (128 ∷ [], utf8_two x 128 l h (omega arith, omega arith))
begins_one x l u (inr h) =
    let second = second_some x (order x 237) (order x 238) (order x 244) in
    let two_of = begins_two x second.0 h u second.1 (order x 240) in
    (second.0 ∷ two_of.0, two_of.1)

follows_is : (z : ℕ) → is_in_range 0x80 0xBF z ≡ true → Follows z
follows_is z e = (grind (arith, nat_tests), grind (arith, nat_tests))

follows_not : (z : ℕ) → is_in_range 0x80 0xBF z ≡ false → ¬ (Follows z)
follows_not z e f = grind (arith, nat_tests)

second_is : (x y : ℕ) → 194 ≤ x → x < 245 → is_second x y ≡ true → Second x y
second_is x y l u e = (grind (arith, nat_tests), grind (arith, nat_tests), grind (arith, nat_tests), grind (arith, nat_tests), grind (arith, nat_tests), grind (arith, nat_tests))

second_not : (x y : ℕ) → 194 ≤ x → x < 245 → is_second x y ≡ false → ¬ (Second x y)
second_not x y l u e s = grind (arith, nat_tests)

lead_is : (x : ℕ) → is_lead x ≡ true → (194 ≤ x) × (x < 245)
lead_is x e = (grind (arith, nat_tests), grind (arith, nat_tests))

lead_not : (x : ℕ) → is_lead x ≡ false → ¬ ((194 ≤ x) × (x < 245))
lead_not x e h = grind (arith, nat_tests)

-- the third byte: it is there and follows, or not
stop_four : (x y z : ℕ) (ts : List ℕ) → 240 ≤ x → x < 245 → Second x y → Follows z → NoFront (x ∷ y ∷ z ∷ ts) → StopsFront (x ∷ y ∷ z ∷ ts) 3
stop_four x y z [] l u s f none = record {
  short = omega arith;
  begin = (128 ∷ [], utf8_four x y z 128 l u s f (omega arith, omega arith));
  stop = λ h. absurd (omega arith);
}
stop_four x y z (w ∷ ts) l u s f none = record {
  short = omega arith;
  begin = (128 ∷ [], utf8_four x y z 128 l u s f (omega arith, omega arith));
  stop = λ h b. none 4 (omega arith) (omega arith) (utf8_four x y z w l u s f ((led x (y ∷ z ∷ w ∷ b.0) b.1).fourth l).1);
}

stop_third : (x y z : ℕ) (ts : List ℕ) → 224 ≤ x → x < 245 → Second x y → NoFront (x ∷ y ∷ z ∷ ts) → (b : Bool) → is_in_range 0x80 0xBF z ≡ b → (x < 240) ⊎ (240 ≤ x) → StopsFront (x ∷ y ∷ z ∷ ts) (1 + (1 + cond b 1 0))
stop_third x y z ts l u s none true e (inl h) = absurd (none 3 (omega arith) (omega arith) (utf8_three x y z l h s (follows_is z e)))
stop_third x y z ts l u s none true e (inr h) = stop_four x y z ts h u s (follows_is z e) none
stop_third x y z ts l u s none false e _ = record {
  short = omega arith;
  begin = begins_two x y l u s (order x 240);
  stop = λ h b. follows_not z e ((led x (y ∷ z ∷ b.0) b.1).third l).1;
}

stop_after : (x y : ℕ) (ts : List ℕ) → 224 ≤ x → x < 245 → Second x y → NoFront (x ∷ y ∷ ts) → StopsFront (x ∷ y ∷ ts) (1 + (1 + begun_third ts))
stop_after x y [] l u s none = record {
  short = omega arith;
  begin = begins_two x y l u s (order x 240);
  stop = λ h. absurd (omega arith);
}
stop_after x y (z ∷ ts) l u s none = stop_third x y z ts l u s none (is_in_range 0x80 0xBF z) refl (order x 240)

stop_second : (x y : ℕ) (ts : List ℕ) → 194 ≤ x → x < 245 → NoFront (x ∷ y ∷ ts) → (b : Bool) → is_second x y ≡ b → (x < 224) ⊎ (224 ≤ x) → StopsFront (x ∷ y ∷ ts) (1 + cond b (1 + begun_third ts) 0)
stop_second x y ts l u none true e (inl h) =
    let s = second_is x y l u e in
    absurd (none 2 (omega arith) (omega arith) (utf8_two x y l h (s.0, s.1)))
stop_second x y ts l u none true e (inr h) = stop_after x y ts h u (second_is x y l u e) none
stop_second x y ts l u none false e _ = record {
  short = omega arith;
  begin = begins_one x l u (order x 224);
  stop = λ h b. second_not x y l u e ((led x (y ∷ b.0) b.1).second l).1;
}

stop_lead : (x : ℕ) (ts : List ℕ) → 194 ≤ x → x < 245 → NoFront (x ∷ ts) → StopsFront (x ∷ ts) (1 + begun_second x ts)
stop_lead x [] l u none = record {
  short = omega arith;
  begin = begins_one x l u (order x 224);
  stop = λ h. absurd (omega arith);
}
stop_lead x (y ∷ ts) l u none = stop_second x y ts l u none (is_second x y) refl (order x 224)

stop_first : (x : ℕ) (ts : List ℕ) → NoFront (x ∷ ts) → (b : Bool) → is_lead x ≡ b → StopsFront (x ∷ ts) (cond b (1 + begun_second x ts) 0)
stop_first x ts none true e = let l = lead_is x e in stop_lead x ts l.0 l.1 none
stop_first x ts none false e = record {
  short = omega arith;
  begin = ([], IsUtf8-nil);
  stop = λ h b. ⊎_elim (λ low. none 1 (omega arith) (omega arith) (utf8_one x low)) (lead_not x e) (led x b.0 b.1).first;
}

stop_front : (ts : List ℕ) → NoFront ts → StopsFront ts (begun_len ts)
stop_front [] none = record {
  short = omega arith;
  begin = ([], IsUtf8-nil);
  stop = λ h. absurd (omega arith);
}
stop_front (x ∷ ts) none = stop_first x ts none (is_lead x) refl

-- the text at the front is the longest
record IsLongestFront (bs : List ℕ) (n v : ℕ) : Type 0 where
  pub utf8 : IsUtf8 (take v bs)
  pub within : v ≤ n
  pub longest : (m : ℕ) → v < m → m ≤ n → ¬ (IsUtf8 (take m bs))

not_both : (b : Bool) → b ≡ false → b ≡ true → ⊥
not_both b f t = cc

longest_on : (bs : List ℕ) (n v : ℕ) → IsLongestFront bs n v → (b : Bool) → is_utf8 (take (suc n) bs) ≡ b → IsLongestFront bs (suc n) (cond b (suc n) v)
longest_on bs n v rest true e = record {
  utf8 = IsUtf8-from_is_utf8 (take (suc n) bs) e;
  within = omega arith;
  longest = λ m more le. absurd (omega arith);
}
longest_on bs n v rest false e = record {
  utf8 = rest.utf8;
  within = let le = rest.within in omega arith;
  longest = λ m more le u. ⊎_elim
      (λ below_it. rest.longest m more (omega arith) u)
      (λ at_it. let same : m ≡ suc n = omega arith in not_both (is_utf8 (take (suc n) bs)) e (is_utf8-from_IsUtf8 (take (suc n) bs) (subst (λ k. IsUtf8 (take k bs)) same u)))
      (order m (suc n));
}

longest_to : (bs : List ℕ) (n : ℕ) → IsLongestFront bs n (valid_len_up_to bs n)
longest_to bs zero = record {
  utf8 = IsUtf8-nil;
  within = omega arith;
  longest = λ m more le. absurd (omega arith);
}
longest_to bs (suc n) = longest_on bs n (valid_len_up_to bs n) (longest_to bs n) (is_utf8 (take (suc n) bs)) refl

longest_front : (bs : List ℕ) → IsLongestFront bs (length bs) (utf8_valid_len bs)
unfolding utf8_valid_len
longest_front bs = longest_to bs (length bs)

-- what follows a text in a text is one
pub after_text : (a b : List ℕ) → IsUtf8 a → IsUtf8 (a ++ b) → IsUtf8 b
after_text a b u v =
    let front : take (length a) (a ++ b) ≡ a = take-append_seam a b in
    let cut = IsCharBoundary-from_take (a ++ b) (length a) v (omega (arith, length-append a b)) (rw front u) in
    let back : drop (length a) (a ++ b) ≡ b = drop-append_seam a b in
    subst IsUtf8 back (IsUtf8-drop (a ++ b) (length a) v cut)

begins_behind : (a b : List ℕ) → IsUtf8 a → BeginsUtf8 (a ++ b) → BeginsUtf8 b
begins_behind a b u h = (h.0, after_text a (b ++ h.0) u (subst IsUtf8 (append_assoc a b h.0) h.1))

begins_before : (a b : List ℕ) → IsUtf8 a → BeginsUtf8 b → BeginsUtf8 (a ++ b)
begins_before a b u h = (h.0, subst IsUtf8 (sym (append_assoc a b h.0)) (IsUtf8-append a (b ++ h.0) u h.1))

stops_at : (bs : List ℕ) (v k : ℕ) → ¬ (IsUtf8 bs) → v ≤ length bs → IsUtf8 (take v bs) → StopsFront (drop v bs) k → StopsAt bs (v + k)
stops_at bs v k broken le u s =
    let short = s.short in
    let here : take (v + k) bs ≡ take v bs ++ take k (drop v bs) = take-add v k bs in
    let next_one : take (suc (v + k)) bs ≡ take v bs ++ take (suc k) (drop v bs) = ap (λ n. take n bs) (let q : suc (v + k) ≡ v + suc k = omega arith in q) ∙ take-add v (suc k) bs in
    record {
      broken = broken;
      within = omega (arith, length-drop v bs);
      begin = subst BeginsUtf8 (sym here) (begins_before (take v bs) (take k (drop v bs)) u s.begin);
      stop = λ lt h. s.stop (omega (arith, length-drop v bs)) (begins_behind (take v bs) (take (suc k) (drop v bs)) u (subst BeginsUtf8 next_one h));
    }

broken_stop : (bs : List ℕ) → ¬ (IsUtf8 bs) → StopsAt bs (utf8_valid_len bs + begun_len (drop (utf8_valid_len bs) bs))
broken_stop bs broken =
    let v = utf8_valid_len bs in
    let front = longest_front bs in
    stops_at bs v (begun_len (drop v bs)) broken front.within front.utf8
    (stop_front (drop v bs) (λ m some le u. front.longest (v + m) (omega arith) (omega (arith, length-drop v bs)) (subst IsUtf8 (sym (take-add v m bs)) (IsUtf8-append (take v bs) (take m (drop v bs)) front.utf8 u))))

stop_found_by : (bs : List ℕ) (b : Bool) → is_utf8 bs ≡ b → MatchOption (cond b None (Some (utf8_valid_len bs + begun_len (drop (utf8_valid_len bs) bs)))) (IsUtf8 bs) (StopsAt bs)
stop_found_by bs true e = IsUtf8-from_is_utf8 bs e
stop_found_by bs false e = broken_stop bs (λ u. not_both (is_utf8 bs) e (is_utf8-from_IsUtf8 bs u))

-- a stop is found just where there is one
pub stop_found : (bs : List ℕ) → MatchOption (utf8_stop bs) (IsUtf8 bs) (StopsAt bs)
unfolding utf8_stop
stop_found bs = stop_found_by bs (is_utf8 bs) refl

pub begins_front : (bs : List ℕ) (m k : ℕ) → m ≤ k → BeginsUtf8 (take k bs) → BeginsUtf8 (take m bs)
begins_front bs m k le h =
    let front : take m (take k bs) ≡ take m bs = take-take m k bs le in
    let whole : take m bs ++ (drop m (take k bs) ++ h.0) ≡ take k bs ++ h.0 =
    sym (append_assoc (take m bs) (drop m (take k bs)) h.0) ∙ ap (λ x. x ++ h.0) (ap (λ x. x ++ drop m (take k bs)) (sym front) ∙ take-append-drop m (take k bs)) in
    (drop m (take k bs) ++ h.0, subst IsUtf8 (sym whole) h.1)

stop_before : (bs : List ℕ) (j k : ℕ) → j < k → StopsAt bs j → StopsAt bs k → ⊥
stop_before bs j k lt a b = let le = b.within in a.stop (omega arith) (begins_front bs (suc j) k (omega arith) b.begin)

-- bytes stop at one place
pub stop_unique : (bs : List ℕ) (j k : ℕ) → StopsAt bs j → StopsAt bs k → j ≡ k
stop_unique bs j k a b = ⊎_elim (λ lt. absurd (stop_before bs j k lt a b)) (λ le. ⊎_elim (λ lt. absurd (stop_before bs k j lt b a)) (λ ge. omega arith) (order k j)) (order j k)

pub stop_none : (bs : List ℕ) → IsUtf8 bs → utf8_stop bs ≡ None
stop_none bs u = by (utf8_stop bs) (stop_found bs)
  where
    by : (o : Option ℕ) → MatchOption o (IsUtf8 bs) (StopsAt bs) → o ≡ None
    by None h = refl
    by (Some k) h = absurd (h.broken u)

pub stop_some : (bs : List ℕ) (k : ℕ) → StopsAt bs k → utf8_stop bs ≡ Some k
stop_some bs k s = by (utf8_stop bs) (stop_found bs)
  where
    by : (o : Option ℕ) → MatchOption o (IsUtf8 bs) (StopsAt bs) → o ≡ Some k
    by None h = absurd (s.broken h)
    by (Some j) h = ap Some (stop_unique bs j k h s)

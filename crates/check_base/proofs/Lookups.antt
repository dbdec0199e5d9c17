-- Laws of names that are looked up.
use Rattle.std.proofs.Common.{◌≡◌, ℕ, suc, Bool, true, false, ◌+◌, ◌<◌, arith, List, [], ◌∷◌, ◌++◌, map, length, Option, Some, None, Bor, refl, ap, sym, ◌∙◌, bytes_eq, cond}
use Rattle.std.specs.Prelude.{◌||◌, if◌then◌else◌, is_some, option_map, IfSome}
use Rattle.std.specs.Map.{update}
use Rattle.std.proofs.lemmas.Bool.{false≢true}
use Rattle.std.proofs.lemmas.List.{map-append, length-map}
use Rattle.std.proofs.lemmas.Slice.Eq.{bytes_eq-Decides}
use Rattle.behaviour_tree.specs.Distinct.{is_in}
use Rattle.check_base.specs.Repeated.{place_of}

-- the first text is it, or one behind is
pub first_or_behind : (b : Bool) (o : Option ℕ) (i : Bool) → is_some o ≡ i → is_some (if b then Some 0 else option_map suc o) ≡ (b || i)
first_or_behind true o i e = refl
first_or_behind false None i e = e
first_or_behind false (Some n) i e = e

-- a text that has a place is there
pub place_is_in : (text : List ℕ) (ts : List (List ℕ)) → is_some (place_of ts text) ≡ is_in text ts
place_is_in text [] = refl
place_is_in text (t ∷ ts) = first_or_behind (bytes_eq t text) (place_of ts text) (is_in text ts) (place_is_in text ts)

-- a place in a list of n texts, else one in the list behind it
abbrev pub or_behind : ℕ → Option ℕ → Option ℕ → Option ℕ
or_behind n (Some place) other = Some place
or_behind n None other = option_map (λ m. n + m) other

-- one text more stands before
pub behind_one_more : (b : Bool) (n : ℕ) (o other : Option ℕ) → (if b then Some 0 else option_map suc (or_behind n o other)) ≡ or_behind (suc n) (if b then Some 0 else option_map suc o) other
behind_one_more true n o other = refl
behind_one_more false n (Some place) other = refl
behind_one_more false n None None = refl
behind_one_more false n None (Some m) = ap Some (omega arith)

-- no text stands before
pub behind_none : (other : Option ℕ) → other ≡ or_behind 0 None other
behind_none None = refl
behind_none (Some m) = ap Some (omega arith)

-- a text has its place in the first of two lists, else in the second
pub place_behind : (ts us : List (List ℕ)) (q : List ℕ) → place_of (ts ++ us) q ≡ or_behind (length ts) (place_of ts q) (place_of us q)
place_behind [] us q = behind_none (place_of us q)
place_behind (t ∷ ts) us q =
    ap (λ o. if bytes_eq t q then Some 0 else option_map suc o) (place_behind ts us q)
    ∙ behind_one_more (bytes_eq t q) (length ts) (place_of ts q) (place_of us q)

-- a text behind others that it is not among
pub behind_new : (b : Bool) (o : Option ℕ) (n : ℕ) → (b ≡ true → is_some o ≡ false) → or_behind n o (if b then Some 0 else None) ≡ cond b (Some n) o
behind_new true None n free = ap Some (omega arith)
behind_new true (Some m) n free = absurd (false≢true (sym (free refl)))
behind_new false None n free = refl
behind_new false (Some m) n free = refl

-- a text behind others that it is among
pub behind_known : (b : Bool) (o : Option ℕ) (n : ℕ) → (b ≡ true → is_some o ≡ true) → or_behind n o (if b then Some 0 else None) ≡ o
behind_known true None n there = absurd (false≢true (there refl))
behind_known true (Some m) n there = refl
behind_known false None n there = refl
behind_known false (Some m) n there = refl

-- what is known of a text is known of a text that is the same
pub same_known : (ts : List (List ℕ)) (text q : List ℕ) (known : Bool) → is_in text ts ≡ known → bytes_eq text q ≡ true → is_some (place_of ts q) ≡ known
same_known ts text q known h e = ap (λ t. is_some (place_of ts t)) (sym ((bytes_eq-Decides text q).0 e)) ∙ place_is_in text ts ∙ h

-- the texts of references, with one more
pub now_more : (items new : List (Bor (List ℕ))) (text : Bor (List ℕ)) → new ≡ items ++ text ∷ [] → map (λ t. t.now) new ≡ map (λ t. t.now) items ++ text.now ∷ []
now_more items new text e = ap (map (λ (t : Bor (List ℕ)). t.now)) e ∙ map-append (λ (t : Bor (List ℕ)). t.now) items (text ∷ [])

-- a look-up after a text was added that was not there
pub added_new : (items new : List (Bor (List ℕ))) (text : Bor (List ℕ)) (n : ℕ) (f : List ℕ → Option ℕ) → ((q : List ℕ) → f q ≡ place_of (map (λ t. t.now) items) q)
    → is_in text.now (map (λ t. t.now) items) ≡ false → n ≡ length items → new ≡ items ++ text ∷ [] → (q : List ℕ) → update bytes_eq f text.now (Some n) q ≡ place_of (map (λ t. t.now) new) q
added_new items new text n f finds free size e q =
    ap (λ o. cond (bytes_eq text.now q) (Some n) o) (finds q)
    ∙ ap (λ m. cond (bytes_eq text.now q) (Some m) (place_of (map (λ t. t.now) items) q)) (size ∙ sym (length-map items (λ (t : Bor (List ℕ)). t.now)))
    ∙ sym (behind_new (bytes_eq text.now q) (place_of (map (λ t. t.now) items) q) (length (map (λ t. t.now) items)) (same_known (map (λ t. t.now) items) text.now q false free))
    ∙ sym (place_behind (map (λ t. t.now) items) (text.now ∷ []) q)
    ∙ ap (λ ts. place_of ts q) (sym (now_more items new text e))

-- a look-up after a text was added that was there
pub added_known : (items new : List (Bor (List ℕ))) (text : Bor (List ℕ)) → is_in text.now (map (λ t. t.now) items) ≡ true → new ≡ items ++ text ∷ [] → (q : List ℕ) → place_of (map (λ t. t.now) items) q ≡ place_of (map (λ t. t.now) new) q
added_known items new text there e q =
    sym (behind_known (bytes_eq text.now q) (place_of (map (λ t. t.now) items) q) (length (map (λ t. t.now) items)) (same_known (map (λ t. t.now) items) text.now q true there))
    ∙ sym (place_behind (map (λ t. t.now) items) (text.now ∷ []) q)
    ∙ ap (λ ts. place_of ts q) (sym (now_more items new text e))

-- the place of the first text or of one behind it is within
pub within_one_more : (b : Bool) (o : Option ℕ) (n : ℕ) → IfSome o (λ place. place < n) → IfSome (if b then Some 0 else option_map suc o) (λ place. place < suc n)
within_one_more true o n h = omega arith
within_one_more false None n h = tt
within_one_more false (Some m) n h = omega (arith, h)

-- a place is within the list
pub place_within : (ts : List (List ℕ)) (q : List ℕ) → IfSome (place_of ts q) (λ place. place < length ts)
place_within [] q = tt
place_within (t ∷ ts) q = within_one_more (bytes_eq t q) (place_of ts q) (length ts) (place_within ts q)

-- what is a place is within the list
pub found_within : (o : Option ℕ) (ts : List (List ℕ)) (q : List ℕ) → o ≡ place_of ts q → IfSome o (λ place. place < length ts)
found_within o ts q e = rw e (place_within ts q)

-- What an outcome says of the tokens, put together from those of the parts.
use Rattle.std.proofs.Common.{◌≡◌, Bool, true, false, List, [], ◌∷◌, ◌++◌, refl, sym, ap, ◌∙◌, append_assoc}
use Rattle.jolie_parse.specs.declared.class.Class.{Class}
use Rattle.jolie_parse.specs.Classes.{Spelled, has, class, begins}
use Rattle.jolie_parse.specs.Syntax.{Lang}
use Rattle.jolie_parse.specs.Reading.{Outcome, got, refused, too_deep, and_then, SameHead}

abbrev pub Before : Type 1
Before = Bool → List Spelled → List Spelled → Type 0

-- reading these gives that
abbrev pub Reading : Type 0 → Type 1
Reading A = List Spelled → Outcome A → Type 0

-- What was read derives, what was refused had begun, and the next token alone decides which.
abbrev pub Explains : {A : Type 0} → Lang A → Before → Reading A → List Spelled → Outcome A → Type 0
Explains D B R ts (got v r) = (w : List Spelled) × (ts ≡ w ++ r) × D w v × ((z : List Spelled) → SameHead r z → R (w ++ z) (got v z))
Explains D B R ts (refused r) = (w : List Spelled) × (ts ≡ w ++ r) × B false w r × ((z : List Spelled) → SameHead r z → R (w ++ z) (refused z))
Explains D B R ts (too_deep r) = (w : List Spelled) × (ts ≡ w ++ r) × B true w r

pub same_more : (w r z : List Spelled) → SameHead r z → SameHead (w ++ r) (w ++ z)
same_more [] r z h = h
same_more (t ∷ w) r z h = refl

pub begins_same : (ks : List Class) (r z : List Spelled) → SameHead r z → begins ks r ≡ begins ks z
begins_same ks [] [] h = refl
begins_same ks [] (u ∷ us) h = absurd h
begins_same ks (t ∷ ts) [] h = absurd h
begins_same ks (t ∷ ts) (u ∷ us) h = ap (λ x. has ks (class x)) h

pub ex_map : {A : Type 0} (D E : Lang A) (B C : Before) (R S : Reading A) (ts : List Spelled)
    → ((w : List Spelled) (v : A) → D w v → E w v) → ((b : Bool) (w r : List Spelled) → B b w r → C b w r)
    → ((w r z : List Spelled) (o : Outcome A) → ts ≡ w ++ r → SameHead r z → R (w ++ z) o → S (w ++ z) o)
    → (o : Outcome A) → Explains D B R ts o → Explains E C S ts o
ex_map D E B C R S ts hd hb hr (got v r) e = (e.0, e.1, hd e.0 v e.2, λ z h. hr e.0 r z (got v z) e.1 h (e.3 z h))
ex_map D E B C R S ts hd hb hr (refused r) e = (e.0, e.1, hb false e.0 r e.2, λ z h. hr e.0 r z (refused z) e.1 h (e.3 z h))
ex_map D E B C R S ts hd hb hr (too_deep r) e = (e.0, e.1, hb true e.0 r e.2)

-- nothing is read
pub ex_give : {A : Type 0} (D : Lang A) (B : Before) (R : Reading A) (ts : List Spelled) (v : A) → D [] v → ((z : List Spelled) → SameHead ts z → R z (got v z)) → Explains D B R ts (got v ts)
ex_give D B R ts v d h = ([], refl, d, h)

-- the meaning alone changes
pub ex_means : {A C : Type 0} (f : A → C) (D : Lang A) (E : Lang C) (B B2 : Before) (R : Reading A) (S : Reading C) (ts : List Spelled)
    → ((w : List Spelled) (v : A) → D w v → E w (f v)) → ((b : Bool) (w r : List Spelled) → B b w r → B2 b w r)
    → ((z r : List Spelled) (v : A) → R z (got v r) → S z (got (f v) r)) → ((z r : List Spelled) → R z (refused r) → S z (refused r))
    → (o : Outcome A) → Explains D B R ts o → Explains E B2 S ts (and_then o (λ a r. got (f a) r))
ex_means f D E B B2 R S ts hd hb hg hr (got v r) e = (e.0, e.1, hd e.0 v e.2, λ z h. hg (e.0 ++ z) z v (e.3 z h))
ex_means f D E B B2 R S ts hd hb hg hr (refused r) e = (e.0, e.1, hb false e.0 r e.2, λ z h. hr (e.0 ++ z) z (e.3 z h))
ex_means f D E B B2 R S ts hd hb hg hr (too_deep r) e = (e.0, e.1, hb true e.0 r e.2)

-- one after the other
module _ {A C : Type 0} (Da : Lang A) (B1 : Before) (Ra : Reading A) (D : Lang C) (B : Before) (R : Reading C) (Rb : A → Reading C)
    (hb : (b : Bool) (w r : List Spelled) → B1 b w r → B b w r)
    (hr : (z r : List Spelled) → Ra z (refused r) → R z (refused r))
    (hg : (w z : List Spelled) (a : A) (o : Outcome C) → Da w a → Ra (w ++ z) (got a z) → Rb a z o → R (w ++ z) o) where
  ex_after : (ts w r : List Spelled) (a : A) → ts ≡ w ++ r → Da w a → ((z : List Spelled) → SameHead r z → Ra (w ++ z) (got a z))
      → (o : Outcome C) → Explains (λ y c. D (w ++ y) c) (λ b y. B b (w ++ y)) (Rb a) r o → Explains D B R ts o
  ex_after ts w r a eq d loc (got c s) e = (
    w ++ e.0,
    eq ∙ ap (λ y. w ++ y) e.1 ∙ sym (append_assoc w e.0 s),
    e.2,
    λ z h. rw append_assoc (hg w (e.0 ++ z) a (got c z) d (loc (e.0 ++ z) (rw e.1 (same_more e.0 s z h))) (e.3 z h)),
  )
  ex_after ts w r a eq d loc (refused s) e = (
    w ++ e.0,
    eq ∙ ap (λ y. w ++ y) e.1 ∙ sym (append_assoc w e.0 s),
    e.2,
    λ z h. rw append_assoc (hg w (e.0 ++ z) a (refused z) d (loc (e.0 ++ z) (rw e.1 (same_more e.0 s z h))) (e.3 z h)),
  )
  ex_after ts w r a eq d loc (too_deep s) e = (w ++ e.0, eq ∙ ap (λ y. w ++ y) e.1 ∙ sym (append_assoc w e.0 s), e.2)

  pub ex_then : (ts : List Spelled) (f : A → List Spelled → Outcome C) (o : Outcome A) → Explains Da B1 Ra ts o
      → ((w r : List Spelled) (a : A) → ts ≡ w ++ r → Da w a → Explains (λ y c. D (w ++ y) c) (λ b y. B b (w ++ y)) (Rb a) r (f a r))
      → Explains D B R ts (and_then o f)
  ex_then ts f (got a r) e g = ex_after ts e.0 r a e.1 e.2 e.3 (f a r) (g e.0 r a e.1 e.2)
  ex_then ts f (refused r) e g = (e.0, e.1, hb false e.0 r e.2, λ z h. hr (e.0 ++ z) z (e.3 z h))
  ex_then ts f (too_deep r) e g = (e.0, e.1, hb true e.0 r e.2)

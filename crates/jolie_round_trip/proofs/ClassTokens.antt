-- Classes of which each token is printed in the same bytes: the signs and the words that count.
use Rattle.std.proofs.Common.{◌≡◌, ℕ, Bool, true, false, ◌||◌, List, [], ◌∷◌, Option, Some, None, refl, sym, subst, if◌then◌else◌}
use Rattle.std.specs.List.{find}
use Rattle.std.specs.Str.{bytes_eq}
use Rattle.std.proofs.lemmas.Slice.Eq.{bytes_eq-Decides}
use Rattle.jolie_tokens.specs.declared.token.TokenKind.{TokenKind}
use Rattle.jolie_tokens.specs.declared.token.TokenKind.TheVariants as kind
use Rattle.jolie_tokens.specs.Signs.{sign_bytes}
use Rattle.jolie_parse.specs.declared.word.Word.{Word}
use Rattle.jolie_parse.specs.declared.word.Word.TheVariants as word
use Rattle.jolie_parse.specs.declared.class.Class.{Class}
use Rattle.jolie_parse.specs.declared.class.Class.TheVariants as classed
use Rattle.jolie_parse.specs.Words.{spelling, counted_words, counted, word_of}
use Rattle.jolie_parse.specs.Classes.{class_of, has, same}
use Rattle.jolie_parse.proofs.SameClasses.{same_eq}
use Rattle.jolie_round_trip.proofs.Lexemes.{printed_spelling, Every}

-- ---- words

chosen : (b : Bool) (bytes : List ℕ) (v w : Word) (rest : Option Word) → bytes_eq (spelling v) bytes ≡ b → (if b then Some v else rest) ≡ Some w → (rest ≡ Some w → spelling w ≡ bytes) → spelling w ≡ bytes
chosen true bytes v w rest h e k =
    let same : v ≡ w = cc in
    subst (λ x. spelling x ≡ bytes) same ((bytes_eq-Decides (spelling v) bytes).0 h)
chosen false bytes v w rest h e k = k e

find_spelled : (bytes : List ℕ) (words : List Word) (w : Word) → find (λ v. bytes_eq (spelling v) bytes) words ≡ Some w → spelling w ≡ bytes
find_spelled bytes [] w e = cc
find_spelled bytes (v ∷ words) w e = chosen (bytes_eq (spelling v) bytes) bytes v w (find (λ v. bytes_eq (spelling v) bytes) words) refl e (find_spelled bytes words w)

-- it is a word that counts
abbrev pub counts : Word → Bool
counts word.Plain = false
counts _ = true

found_spelled : (bytes : List ℕ) (found : Option Word) (w : Word) → ((v : Word) → found ≡ Some v → spelling v ≡ bytes) → elim found [ Some v ↦ v | None ↦ word.Plain ] ≡ w → counts w ≡ true → bytes ≡ spelling w
found_spelled bytes None w h e k =
    let plain : counts word.Plain ≡ true = subst (λ x. counts x ≡ true) (sym e) k in
    cc
found_spelled bytes (Some v) w h e k = subst (λ x. bytes ≡ spelling x) e (sym (h v refl))

-- a word that counts is written in its bytes
pub word_spelled : (bytes : List ℕ) (w : Word) → word_of bytes ≡ w → counts w ≡ true → bytes ≡ spelling w
unfolding word_of counted
word_spelled bytes w e k = found_spelled bytes (counted bytes) w (find_spelled bytes counted_words) e k

-- ---- classes

-- each token of the class has the same bytes
abbrev pub is_fixed : Class → Bool
is_fixed (classed.Word w) = counts w
is_fixed classed.Int = false
is_fixed classed.Long = false
is_fixed classed.Str = false
is_fixed (classed.Sign s) = true

-- these bytes
abbrev pub class_bytes : Class → List ℕ
class_bytes (classed.Word w) = spelling w
class_bytes classed.Int = []
class_bytes classed.Long = []
class_bytes classed.Str = []
class_bytes (classed.Sign s) = sign_bytes s

pub fixed_spelling : (k : TokenKind) (bytes : List ℕ) → is_fixed (class_of k bytes) ≡ true → printed_spelling k bytes ≡ class_bytes (class_of k bytes)
fixed_spelling kind.Word bytes h = word_spelled bytes (word_of bytes) refl h
fixed_spelling (kind.Int n) bytes h = cc
fixed_spelling (kind.Long n) bytes h = cc
fixed_spelling (kind.Str text) bytes h = cc
fixed_spelling (kind.Sign s) bytes h = refl

either_has : (P : Class → Type 0) (b : Bool) (j k : Class) (rest : Bool) → same j k ≡ b → (b || rest) ≡ true → P j → (rest ≡ true → P k) → P k
either_has P true j k rest e h p q = subst P (same_eq j k e) p
either_has P false j k rest e h p q = q h

-- what each class of a list is, a class in it is
pub every_has : (P : Class → Type 0) (ks : List Class) (k : Class) → Every P ks → has ks k ≡ true → P k
every_has P [] k p h = cc
every_has P (j ∷ ks) k p h = either_has P (same j k) j k (has ks k) refl h p.0 (every_has P ks k p.1)

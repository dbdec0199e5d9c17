-- Tokens, brackets and the forms that grammars are made of: each is printed so that it is read again.
use Rattle.std.proofs.Common.{◌≡◌, ℕ, Bool, true, false, List, [], ◌∷◌, ◌++◌, refl, ap, subst, ◌∙◌}
use Rattle.jolie_tokens.specs.declared.token.TokenKind.{TokenKind}
use Rattle.jolie_tokens.specs.declared.token.TokenKind.TheVariants as kind
use Rattle.jolie_ast.specs.Spacing.{Token}
use Rattle.jolie_parse.specs.declared.class.Class.{Class}
use Rattle.jolie_parse.specs.declared.class.Class.TheVariants as classed
use Rattle.jolie_parse.specs.Classes.{Spelled, class, class_of, has}
use Rattle.jolie_parse.specs.Syntax.{token, inside, prefix, Part, Meant, Lang, between}
use Rattle.jolie_round_trip.proofs.Lexemes.{Lexeme, lexeme_of, lexeme_class, printed_form, printed_spelling, printed_class, IsValid, Every, Every-left, Every-right}
use Rattle.jolie_round_trip.proofs.ClassTokens.{is_fixed, class_bytes, fixed_spelling, every_has}
use Rattle.jolie_round_trip.proofs.Echo.{Echo, echo_as}
use Rattle.jolie_round_trip.proofs.Parts.{part_placeless, part_tokens, Inner, part_echo}
use Rattle.jolie_round_trip.proofs.EchoTokens.{echo_token, echo_inside, inside_kept, echo_prefix, prefix_kept}
use Rattle.jolie_round_trip.proofs.Reprints.{Reprints, reprints_means}

-- nothing is kept of it
abbrev pub nothing_kept : {A : Type 0} → A → Unit {0}
nothing_kept a = tt

-- the form in which a token is printed
abbrev pub form_of : Spelled → Lexeme
form_of t = printed_form (lexeme_of t)

-- the bytes in which a token is printed
abbrev pub printed_bytes : Spelled → Token
printed_bytes t = printed_spelling t.token.kind t.spelling

-- the kind of a token
abbrev pub kind_kept : Spelled → TokenKind
kind_kept t = t.token.kind

-- the bytes of a token
abbrev pub spelling_kept : Spelled → List ℕ
spelling_kept t = t.spelling

-- each token of these classes is printed so
abbrev pub AreSpelled : List Class → (Class → Token) → Type 0
AreSpelled ks p = Every (λ k. (is_fixed k ≡ true) × (class_bytes k ≡ p k)) ks

fixed_bytes : (t : Spelled) (p : Class → Token) → (is_fixed (class t) ≡ true) × (class_bytes (class t) ≡ p (class t)) → printed_bytes t ≡ p (class t)
fixed_bytes t p h = fixed_spelling t.token.kind t.spelling h.0 ∙ h.1

form_class : (w t : Spelled) → lexeme_of w ≡ form_of t → class w ≡ class t
form_class w t e = ap lexeme_class e ∙ printed_class (lexeme_of t)

module _ {w : (r : Part) → Lang (Meant r)} where
  pub reprints_token : {B : Type 0} (ks : List Class) (kept : Spelled → B) (p : Spelled → Token)
      → ((t : Spelled) → has ks (class t) ≡ true → printed_bytes t ≡ p t) → ((u t : Spelled) → has ks (class t) ≡ true → lexeme_of u ≡ form_of t → kept u ≡ kept t)
      → Reprints w (token ks) kept (λ t. p t ∷ [])
  reprints_token ks kept p bytes same = record {
    echo = λ ts t d valid.
        let known : has ks (lexeme_class (form_of t)) ≡ true = ap (has ks) (printed_class (lexeme_of t)) ∙ d.0 in
        let is_valid : Every IsValid (t ∷ []) = subst (Every IsValid) d.1 valid in
        echo_as (echo_token kept ks t (form_of t) is_valid.0 known (λ u e. same u t d.0 e)) (p t ∷ []) (ap (λ z. z ∷ []) (bytes t d.0));
  }

  -- a token of one class that has its bytes
  pub reprints_one : (k : Class) → is_fixed k ≡ true → Reprints w (token (k ∷ [])) nothing_kept (λ t. class_bytes k ∷ [])
  reprints_one k fixed =
      reprints_token (k ∷ []) nothing_kept (λ t. class_bytes k)
      (λ t h. fixed_bytes t (λ _. class_bytes k) (every_has (λ j. (is_fixed j ≡ true) × (class_bytes j ≡ class_bytes k)) (k ∷ []) (class t) ((fixed, refl), tt) h))
      (λ u t h e. refl)

  -- a token of one of several classes that have their bytes
  pub reprints_among : (ks : List Class) (p : Class → Token) → AreSpelled ks p → Reprints w (token ks) class (λ t. p (class t) ∷ [])
  reprints_among ks p spelled =
      reprints_token ks class (λ t. p (class t))
      (λ t h. fixed_bytes t p (every_has (λ j. (is_fixed j ≡ true) × (class_bytes j ≡ p j)) ks (class t) spelled h))
      (λ u t h e. form_class u t e)

-- it is a class of words
abbrev pub is_word : Class → Bool
is_word (classed.Word w) = true
is_word classed.Int = false
is_word classed.Long = false
is_word classed.Str = false
is_word (classed.Sign s) = false

word_kind : (k : TokenKind) (bytes : List ℕ) → is_word (class_of k bytes) ≡ true → k ≡ kind.Word
word_kind kind.Word bytes h = refl
word_kind (kind.Int n) bytes h = cc
word_kind (kind.Long n) bytes h = cc
word_kind (kind.Str text) bytes h = cc
word_kind (kind.Sign s) bytes h = cc

word_bytes : (t : Spelled) → t.token.kind ≡ kind.Word → printed_bytes t ≡ t.spelling
word_bytes t e = ap (λ k. printed_spelling k t.spelling) e

module _ {w : (r : Part) → Lang (Meant r)} where
  -- a word
  pub reprints_words : (ks : List Class) → Every (λ k. is_word k ≡ true) ks → Reprints w (token ks) spelling_kept (λ t. t.spelling ∷ [])
  reprints_words ks all_words =
      let are_words : (t : Spelled) → has ks (class t) ≡ true → t.token.kind ≡ kind.Word = λ t h. word_kind t.token.kind t.spelling (every_has (λ k. is_word k ≡ true) ks (class t) all_words h) in
      reprints_token ks spelling_kept spelling_kept (λ t h. word_bytes t (are_words t h)) (λ u t h e. ap (λ l. l.spelling) e ∙ word_bytes t (are_words t h))

  -- a token of which the kind says how it is printed
  pub reprints_kinds : (ks : List Class) (p : TokenKind → Token) → ((k : TokenKind) (bytes : List ℕ) → has ks (class_of k bytes) ≡ true → printed_spelling k bytes ≡ p k) → Reprints w (token ks) kind_kept (λ t. p t.token.kind ∷ [])
  reprints_kinds ks p bytes = reprints_token ks kind_kept (λ t. p t.token.kind) (λ t h. bytes t.token.kind t.spelling h) (λ u t h e. ap (λ l. l.kind) e)

-- ---- brackets and prefixes

module _ {w : (r : Part) → Lang (Meant r)} (inner : Inner w) where
  pub reprints_inside : (o : Class) (r : Part) (c : Class) → is_fixed o ≡ true → is_fixed c ≡ true → Reprints w (inside o r c) (inside_kept r) (λ q. class_bytes o ∷ (part_tokens r q.1 ++ class_bytes c ∷ []))
  reprints_inside o r c open_fixed close_fixed = record { echo = λ ts q d valid. closed ts q d.0 d.1 d.2 d.3 (subst (Every IsValid) d.4 valid) d.5 }
    where
      spelt : (t : Spelled) (k : Class) → class t ≡ k → is_fixed k ≡ true → printed_bytes t ≡ class_bytes k
      spelt t k e fixed = fixed_spelling t.token.kind t.spelling (ap is_fixed e ∙ fixed) ∙ ap class_bytes e

      closed : (ts : List Spelled) (q : Spelled × Meant r) (close : Spelled) (x : List Spelled) → class q.0 ≡ o → class close ≡ c → Every IsValid (q.0 ∷ (x ++ close ∷ [])) → w r x q.1
          → Echo (inside_kept r) (inside o r c) q (class_bytes o ∷ (part_tokens r q.1 ++ class_bytes c ∷ []))
      closed ts q close x opens closes valid d =
          let part_valid : Every IsValid x = Every-left IsValid x (close ∷ []) valid.1 in
          let close_valid : Every IsValid (close ∷ []) = Every-right IsValid x (close ∷ []) valid.1 in
          let e : Echo (part_placeless r) _ q.1 (part_tokens r q.1) = part_echo r q.1 (inner r x q.1 d part_valid) in
          echo_as (echo_inside o r c q.0 q.1 (form_of q.0) (form_of close) (printed_class (lexeme_of q.0) ∙ opens) (printed_class (lexeme_of close) ∙ closes) e valid.0 close_valid.0)
          (class_bytes o ∷ (part_tokens r q.1 ++ class_bytes c ∷ []))
          (rw (spelt q.0 o opens open_fixed, spelt close c closes close_fixed) refl)

  -- a part between brackets
  pub reprints_between : (o : Class) (r : Part) (c : Class) → is_fixed o ≡ true → is_fixed c ≡ true → Reprints w (between o r c) (part_placeless r) (λ v. class_bytes o ∷ (part_tokens r v ++ class_bytes c ∷ []))
  reprints_between o r c open_fixed close_fixed =
      reprints_means (λ q. q.1) (part_placeless r) (λ v. class_bytes o ∷ (part_tokens r v ++ class_bytes c ∷ [])) (λ z. z) (λ q. refl) (λ q. refl)
      (reprints_inside o r c open_fixed close_fixed)

  -- a token of one of several classes that have their bytes, and a part
  pub reprints_prefix : (ks : List Class) (r : Part) (p : Class → Token) → AreSpelled ks p → Reprints w (prefix ks r) (prefix_kept r) (λ q. p (class q.0) ∷ part_tokens r q.1)
  reprints_prefix ks r p spelled = record { echo = λ ts q d valid. prefixed q d.0 d.1 (subst (Every IsValid) d.2 valid) d.3 }
    where
      prefixed : (q : Spelled × Meant r) (x : List Spelled) → has ks (class q.0) ≡ true → Every IsValid (q.0 ∷ x) → w r x q.1 → Echo (prefix_kept r) (prefix ks r) q (p (class q.0) ∷ part_tokens r q.1)
      prefixed q x h valid d =
          let e : Echo (part_placeless r) _ q.1 (part_tokens r q.1) = part_echo r q.1 (inner r x q.1 d valid.1) in
          echo_as (echo_prefix ks r q.0 q.1 (form_of q.0) (ap (has ks) (printed_class (lexeme_of q.0)) ∙ h) (printed_class (lexeme_of q.0)) e valid.0)
          (p (class q.0) ∷ part_tokens r q.1)
          (ap (λ z. z ∷ part_tokens r q.1) (fixed_bytes q.0 p (every_has (λ j. (is_fixed j ≡ true) × (class_bytes j ≡ p j)) ks (class q.0) spelled h)))

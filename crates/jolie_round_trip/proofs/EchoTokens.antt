-- Tokens, brackets and prefixes that are read again.
use Rattle.std.proofs.Common.{◌≡◌, true, List, [], ◌∷◌, ◌++◌, refl, ap, ◌∙◌}
use Rattle.jolie_ast.specs.Spacing.{Token}
use Rattle.jolie_parse.specs.declared.class.Class.{Class}
use Rattle.jolie_parse.specs.Classes.{Spelled, class, has}
use Rattle.jolie_parse.specs.Syntax.{token, inside, prefix, Part, Meant, Derives}
use Rattle.jolie_parse.specs.Grammar.{production}
use Rattle.jolie_round_trip.proofs.Lexemes.{Lexeme, lexeme_of, lexeme_class, spellings-append, IsPrinted, Every-append, Begun, begun, Split, split}
use Rattle.jolie_round_trip.proofs.Nesting.{Nested, nested}
use Rattle.jolie_round_trip.proofs.Echo.{Echo, none_left}
use Rattle.jolie_round_trip.proofs.Parts.{part_placeless}

alone : (us : List Spelled) (l : Lexeme) (b : Begun us l []) → us ≡ b.head ∷ []
alone us l b = b.whole ∙ ap (λ z. b.head ∷ z) (none_left b.tail b.is_tail)

-- ---- one token

module _ {B : Type 0} (kept : Spelled → B) (ks : List Class) (t : Spelled) (l : Lexeme) where
  token_read : has ks (lexeme_class l) ≡ true → ((w : Spelled) → lexeme_of w ≡ l → kept w ≡ kept t) → (us : List Spelled) → Begun us l [] → (w : Spelled) × Derives Nested (token ks) us w × (kept w ≡ kept t)
  token_read h same us b =
      let has_it : has ks (class b.head) ≡ true = ap (λ z. has ks (lexeme_class z)) b.is_head ∙ h in
      (b.head, (has_it, alone us l b), same b.head b.is_head)

  pub echo_token : IsPrinted l → has ks (lexeme_class l) ≡ true → ((w : Spelled) → lexeme_of w ≡ l → kept w ≡ kept t) → Echo kept (token ks) t (l.spelling ∷ [])
  echo_token valid h same = record {
    lexemes = l ∷ [];
    printed = (valid, tt);
    spelt = refl;
    read = λ us e. token_read h same us (begun us l [] e);
  }

-- ---- brackets

-- what is kept of what stands in brackets
abbrev pub inside_kept : (r : Part) → Spelled × Meant r → Meant r
inside_kept r q = part_placeless r q.1

module _ (o : Class) (r : Part) (c : Class) (t : Spelled) (v : Meant r) {x : List Token} (open_lexeme close_lexeme : Lexeme) (opens : lexeme_class open_lexeme ≡ o) (closes : lexeme_class close_lexeme ≡ c) (a : Echo (part_placeless r) (production r) v x) where
  closed_read : (us : List Spelled) (b : Begun us open_lexeme (a.lexemes ++ close_lexeme ∷ [])) (s : Split b.tail a.lexemes (close_lexeme ∷ [])) (d : Begun s.back close_lexeme [])
      → (w : Spelled × Meant r) × Derives Nested (inside o r c) us w × (inside_kept r w ≡ inside_kept r (t, v))
  closed_read us b s d =
      let e = a.read s.front s.is_front in
      let whole : us ≡ b.head ∷ (s.front ++ d.head ∷ []) = b.whole ∙ ap (λ z. b.head ∷ z) (s.whole ∙ ap (λ z. s.front ++ z) (alone s.back close_lexeme d)) in
      ((b.head, e.0), (d.head, s.front, ap lexeme_class b.is_head ∙ opens, ap lexeme_class d.is_head ∙ closes, whole, nested r s.front e.0 e.1), e.2)

  inside_read : (us : List Spelled) (b : Begun us open_lexeme (a.lexemes ++ close_lexeme ∷ [])) (s : Split b.tail a.lexemes (close_lexeme ∷ []))
      → (w : Spelled × Meant r) × Derives Nested (inside o r c) us w × (inside_kept r w ≡ inside_kept r (t, v))
  inside_read us b s = closed_read us b s (begun s.back close_lexeme [] s.is_back)

  opened_read : (us : List Spelled) → Begun us open_lexeme (a.lexemes ++ close_lexeme ∷ []) → (w : Spelled × Meant r) × Derives Nested (inside o r c) us w × (inside_kept r w ≡ inside_kept r (t, v))
  opened_read us b = inside_read us b (split b.tail a.lexemes (close_lexeme ∷ []) b.is_tail)

  pub echo_inside : IsPrinted open_lexeme → IsPrinted close_lexeme → Echo (inside_kept r) (inside o r c) (t, v) (open_lexeme.spelling ∷ (x ++ close_lexeme.spelling ∷ []))
  echo_inside valid also_valid = record {
    lexemes = open_lexeme ∷ (a.lexemes ++ close_lexeme ∷ []);
    printed = (valid, Every-append IsPrinted a.lexemes (close_lexeme ∷ []) a.printed (also_valid, tt));
    spelt = ap (λ z. open_lexeme.spelling ∷ z) (spellings-append a.lexemes (close_lexeme ∷ []) ∙ ap (λ z. z ++ close_lexeme.spelling ∷ []) a.spelt);
    read = λ us e. opened_read us (begun us open_lexeme (a.lexemes ++ close_lexeme ∷ []) e);
  }

-- ---- prefixes

-- what is kept of a part and the token before it
abbrev pub prefix_kept : (r : Part) → Spelled × Meant r → Class × Meant r
prefix_kept r q = (class q.0, part_placeless r q.1)

module _ (ks : List Class) (r : Part) (t : Spelled) (v : Meant r) {x : List Token} (l : Lexeme) (known : has ks (lexeme_class l) ≡ true) (is_class : lexeme_class l ≡ class t) (a : Echo (part_placeless r) (production r) v x) where
  prefix_read : (us : List Spelled) → Begun us l a.lexemes → (w : Spelled × Meant r) × Derives Nested (prefix ks r) us w × (prefix_kept r w ≡ prefix_kept r (t, v))
  prefix_read us b =
      let e = a.read b.tail b.is_tail in
      let head_class : class b.head ≡ class t = ap lexeme_class b.is_head ∙ is_class in
      let has_it : has ks (class b.head) ≡ true = ap (λ z. has ks (lexeme_class z)) b.is_head ∙ known in
      ((b.head, e.0), (b.tail, has_it, b.whole, nested r b.tail e.0 e.1), rw (head_class, e.2) refl)

  pub echo_prefix : IsPrinted l → Echo (prefix_kept r) (prefix ks r) (t, v) (l.spelling ∷ x)
  echo_prefix valid = record {
    lexemes = l ∷ a.lexemes;
    printed = (valid, a.printed);
    spelt = ap (λ z. l.spelling ∷ z) a.spelt;
    read = λ us e. prefix_read us (begun us l a.lexemes e);
  }

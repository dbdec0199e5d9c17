-- What it means that a phrase is printed so that it is read again: the generic lemmas.
use Rattle.std.proofs.Common.{◌≡◌, List, [], ◌∷◌, ◌++◌, map, inl, inr, refl, sym, ap, ◌∙◌}
use Rattle.jolie_ast.specs.Spacing.{Token}
use Rattle.jolie_parse.specs.Classes.{Spelled}
use Rattle.jolie_parse.specs.Syntax.{Syn, give, both, either, many, means, Derives}
use Rattle.jolie_round_trip.proofs.Lexemes.{Lexeme, lexemes_of, spellings, IsPrinted, Every, Every-append, spellings-append, Split, split}
use Rattle.jolie_round_trip.proofs.Nesting.{Nested}

-- the tokens are valid, and whatever reads them has a phrase of which the same is kept
pub record Echo {A B : Type 0} (kept : A → B) (s : Syn A) (v : A) (out : List Token) : Type 0 where
  pub lexemes : List Lexeme
  pub printed : Every IsPrinted lexemes
  pub spelt : spellings lexemes ≡ out
  pub read : (us : List Spelled) → lexemes_of us ≡ lexemes → (w : A) × Derives Nested s us w × (kept w ≡ kept v)

-- what has no lexemes has no tokens
pub none_left : (us : List Spelled) → lexemes_of us ≡ [] → us ≡ []
none_left [] e = refl
none_left (u ∷ us) e = cc

-- what is kept of a pair
abbrev pub pair_kept : {A B C D : Type 0} → (A → B) → (C → D) → A × C → B × D
pair_kept f g w = (f w.0, g w.1)

pub echo_give : {A B : Type 0} (kept : A → B) (a : A) → Echo kept (give a) a []
echo_give kept a = record { lexemes = []; printed = tt; spelt = refl; read = λ us e. (a, (none_left us e, refl), refl) }

module _ {A B C D : Type 0} {kept : A → B} {also : C → D} {s : Syn A} {t : Syn C} {v : A} {u : C} {x y : List Token} (a : Echo kept s v x) (b : Echo also t u y) where
  both_read : (us : List Spelled) → Split us a.lexemes b.lexemes → (w : A × C) × Derives Nested (both s t) us w × (pair_kept kept also w ≡ pair_kept kept also (v, u))
  both_read us parts =
      let c = a.read parts.front parts.is_front in
      let d = b.read parts.back parts.is_back in
      ((c.0, d.0), (parts.front, parts.back, parts.whole, c.1, d.1), rw (c.2, d.2) refl)

  pub echo_both : Echo (pair_kept kept also) (both s t) (v, u) (x ++ y)
  echo_both = record {
    lexemes = a.lexemes ++ b.lexemes;
    printed = Every-append IsPrinted a.lexemes b.lexemes a.printed b.printed;
    spelt = spellings-append a.lexemes b.lexemes ∙ rw (a.spelt, b.spelt) refl;
    read = λ us e. both_read us (split us a.lexemes b.lexemes e);
  }

module _ {A B : Type 0} {kept : A → B} {s : Syn A} {v : A} {x : List Token} (a : Echo kept s v x) where
  pub echo_left : (t : Syn A) → Echo kept (either s t) v x
  echo_left t = record {
    lexemes = a.lexemes;
    printed = a.printed;
    spelt = a.spelt;
    read = λ us e. let c = a.read us e in (c.0, inl c.1, c.2);
  }

  pub echo_right : (t : Syn A) → Echo kept (either t s) v x
  echo_right t = record {
    lexemes = a.lexemes;
    printed = a.printed;
    spelt = a.spelt;
    read = λ us e. let c = a.read us e in (c.0, inr c.1, c.2);
  }

  -- what is kept of the meaning is a function of what is kept
  pub echo_means : {C D : Type 0} (also : C → D) (f : A → C) (k : B → D) → ((w : A) → also (f w) ≡ k (kept w)) → Echo also (means f s) (f v) x
  echo_means also f k h = record {
    lexemes = a.lexemes;
    printed = a.printed;
    spelt = a.spelt;
    read = λ us e. let c = a.read us e in (f c.0, (c.0, refl, c.1), h c.0 ∙ ap k c.2 ∙ sym (h v));
  }

  -- less may be kept
  pub echo_kept : {D : Type 0} (also : A → D) (k : B → D) → ((w : A) → also w ≡ k (kept w)) → Echo also s v x
  echo_kept also k h = record {
    lexemes = a.lexemes;
    printed = a.printed;
    spelt = a.spelt;
    read = λ us e. let c = a.read us e in (c.0, c.1, h c.0 ∙ ap k c.2 ∙ sym (h v));
  }

  -- of another value of which the same is kept
  pub echo_of : (w : A) → kept v ≡ kept w → Echo kept s w x
  echo_of w same = record {
    lexemes = a.lexemes;
    printed = a.printed;
    spelt = a.spelt;
    read = λ us e. let c = a.read us e in (c.0, c.1, c.2 ∙ same);
  }

  pub echo_as : (y : List Token) → x ≡ y → Echo kept s v y
  echo_as y same = record { lexemes = a.lexemes; printed = a.printed; spelt = a.spelt ∙ same; read = a.read }

pub echo_nil : {A B : Type 0} (kept : A → B) (s : Syn A) → Echo (map kept) (many s) [] []
echo_nil kept s = record { lexemes = []; printed = tt; spelt = refl; read = λ us e. ([], none_left us e, refl) }

module _ {A B : Type 0} {kept : A → B} {s : Syn A} {v : A} {vs : List A} {x y : List Token} (a : Echo kept s v x) (b : Echo (map kept) (many s) vs y) where
  cons_read : (us : List Spelled) → Split us a.lexemes b.lexemes → (w : List A) × Derives Nested (many s) us w × (map kept w ≡ map kept (v ∷ vs))
  cons_read us parts =
      let c = a.read parts.front parts.is_front in
      let d = b.read parts.back parts.is_back in
      (c.0 ∷ d.0, (parts.front, parts.back, parts.whole, c.1, d.1), rw (c.2, d.2) refl)

  pub echo_cons : Echo (map kept) (many s) (v ∷ vs) (x ++ y)
  echo_cons = record {
    lexemes = a.lexemes ++ b.lexemes;
    printed = Every-append IsPrinted a.lexemes b.lexemes a.printed b.printed;
    spelt = spellings-append a.lexemes b.lexemes ∙ rw (a.spelt, b.spelt) refl;
    read = λ us e. cons_read us (split us a.lexemes b.lexemes e);
  }

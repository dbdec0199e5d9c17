-- Productions of which each phrase is printed so that it is read again: the form of a production, and its parts.
use Rattle.std.proofs.Common.{◌≡◌, List, [], ◌∷◌, ◌++◌, map, inl, inr, sym, subst}
use Rattle.std.specs.Prelude.{flat_map}
use Rattle.jolie_ast.specs.Spacing.{Token}
use Rattle.jolie_parse.specs.Classes.{Spelled}
use Rattle.jolie_parse.specs.Syntax.{Syn, give, both, either, many, means, Part, Meant, Lang, Derives, Many}
use Rattle.jolie_round_trip.proofs.Lexemes.{IsValid, Every, Every-left, Every-right}
use Rattle.jolie_round_trip.proofs.Echo.{Echo, pair_kept, echo_give, echo_both, echo_left, echo_right, echo_means, echo_as, echo_nil, echo_cons}

-- each phrase whose tokens are valid is printed so and read again, with the same kept
pub record Reprints {A B : Type 0} (w : (r : Part) → Lang (Meant r)) (s : Syn A) (kept : A → B) (tokens : A → List Token) : Type 0 where
  pub echo : (ts : List Spelled) (v : A) → Derives w s ts v → Every IsValid ts → Echo kept s v (tokens v)

module _ {w : (r : Part) → Lang (Meant r)} where
  pub reprints_give : {A B : Type 0} (kept : A → B) (tokens : A → List Token) (a : A) → tokens a ≡ [] → Reprints w (give a) kept tokens
  reprints_give kept tokens a none = record {
    echo = λ ts v d valid. subst (λ z. Echo kept (give a) z (tokens z)) d.1 (echo_as (echo_give kept a) (tokens a) (sym none));
  }

  pub reprints_both : {A B C D : Type 0} {s : Syn A} {t : Syn C} {kept : A → B} {also : C → D} {p : A → List Token} {q : C → List Token} → Reprints w s kept p → Reprints w t also q → Reprints w (both s t) (pair_kept kept also) (λ v. p v.0 ++ q v.1)
  reprints_both a b = record {
    echo = λ ts v d valid.
        let whole : Every IsValid (d.0 ++ d.1) = subst (Every IsValid) d.2 valid in
        echo_both (a.echo d.0 v.0 d.3 (Every-left IsValid d.0 d.1 whole)) (b.echo d.1 v.1 d.4 (Every-right IsValid d.0 d.1 whole));
  }

  pub reprints_either : {A B : Type 0} {s t : Syn A} {kept : A → B} {p : A → List Token} → Reprints w s kept p → Reprints w t kept p → Reprints w (either s t) kept p
  reprints_either {s} {t} a b = record {
    echo = λ ts v d valid. elim d [ inl h ↦ echo_left (a.echo ts v h valid) t | inr h ↦ echo_right (b.echo ts v h valid) s ];
  }

  -- what is kept of the meaning and how it is printed are functions of the phrase
  pub reprints_means : {A B C D : Type 0} {s : Syn A} {kept : A → B} {p : A → List Token} (f : A → C) (also : C → D) (q : C → List Token) (k : B → D)
      → ((v : A) → also (f v) ≡ k (kept v)) → ((v : A) → q (f v) ≡ p v) → Reprints w s kept p → Reprints w (means f s) also q
  reprints_means {s} f also q k same printed a = record {
    echo = λ ts v d valid.
        subst (λ z. Echo also (means f s) z (q z)) d.1
        (echo_as (echo_means (a.echo ts d.0 d.2 valid) also f k same) (q (f d.0)) (sym (printed d.0)));
  }

  many_echo : {A B : Type 0} (s : Syn A) (kept : A → B) (p : A → List Token) → Reprints w s kept p → (ts : List Spelled) (vs : List A) → Many (Derives w s) ts vs → Every IsValid ts → Echo (map kept) (many s) vs (flat_map p vs)
  many_echo s kept p a ts [] d valid = echo_nil kept s
  many_echo s kept p a ts (v ∷ vs) d valid =
      let whole : Every IsValid (d.0 ++ d.1) = subst (Every IsValid) d.2 valid in
      echo_cons (a.echo d.0 v d.3 (Every-left IsValid d.0 d.1 whole)) (many_echo s kept p a d.1 vs d.4 (Every-right IsValid d.0 d.1 whole))

  pub reprints_many : {A B : Type 0} {s : Syn A} {kept : A → B} {p : A → List Token} → Reprints w s kept p → Reprints w (many s) (map kept) (flat_map p)
  reprints_many {s} {kept} {p} a = record { echo = λ ts vs d valid. many_echo s kept p a ts vs d valid }

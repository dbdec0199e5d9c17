-- The forms that grammars are made of: each is printed so that it is read again.
use Rattle.std.proofs.Common.{◌≡◌, true, List, [], ◌∷◌, ◌++◌, map, Some, None, refl, subst}
use Rattle.std.specs.Prelude.{option_map, flat_map}
use Rattle.std.proofs.lemmas.List.{append-nil}
use Rattle.jolie_ast.specs.Spacing as spacing
use Rattle.jolie_ast.specs.Spacing.{Token}
use Rattle.jolie_ast.specs.PrintedParts.{maybe}
use Rattle.jolie_parse.specs.declared.class.Class.{Class}
use Rattle.jolie_parse.specs.Syntax.{Syn, both, means, Part, Meant, Lang, behind, separated, some_of, optional, ended}
use Rattle.jolie_round_trip.proofs.Lexemes.{IsValid, Every, Every-left, Every-right}
use Rattle.jolie_round_trip.proofs.ClassTokens.{is_fixed, class_bytes}
use Rattle.jolie_round_trip.proofs.Echo.{Echo, echo_give, echo_both, echo_right, echo_of, echo_as, echo_kept}
use Rattle.jolie_round_trip.proofs.Reprints.{Reprints, reprints_give, reprints_both, reprints_either, reprints_means, reprints_many}
use Rattle.jolie_round_trip.proofs.ReprintsTokens.{nothing_kept, reprints_one}

module _ {w : (r : Part) → Lang (Meant r)} where
  -- a phrase behind a token that is not kept
  pub reprints_behind : {A B : Type 0} {s : Syn A} {kept : A → B} {p : A → List Token} (k : Class) → is_fixed k ≡ true → Reprints w s kept p → Reprints w (behind k s) kept (λ v. class_bytes k ∷ p v)
  reprints_behind {kept} {p} k fixed a = reprints_means (λ q. q.1) kept (λ v. class_bytes k ∷ p v) (λ z. z.1) (λ q. refl) (λ q. refl) (reprints_both (reprints_one k fixed) a)

  -- a phrase before a token that is not kept
  pub reprints_ended : {A B : Type 0} {s : Syn A} {kept : A → B} {p : A → List Token} (k : Class) → is_fixed k ≡ true → Reprints w s kept p → Reprints w (ended s k) kept (λ v. p v ++ class_bytes k ∷ [])
  reprints_ended {kept} {p} k fixed a = reprints_means (λ q. q.0) kept (λ v. p v ++ class_bytes k ∷ []) (λ z. z.0) (λ q. refl) (λ q. refl) (reprints_both a (reprints_one k fixed))

  -- phrases with a token between every two
  pub reprints_separated : {A B : Type 0} {s : Syn A} {kept : A → B} {p : A → List Token} (k : Class) → is_fixed k ≡ true → Reprints w s kept p → Reprints w (separated k s) (map kept) (spacing.separated (class_bytes k) p)
  reprints_separated {kept} {p} k fixed a =
      reprints_means (λ q. q.0 ∷ q.1) (map kept) (spacing.separated (class_bytes k) p) (λ z. z.0 ∷ z.1) (λ q. refl) (λ q. refl)
      (reprints_both a (reprints_many (reprints_behind k fixed a)))

  -- one phrase or more
  pub reprints_some : {A B : Type 0} {s : Syn A} {kept : A → B} {p : A → List Token} → Reprints w s kept p → Reprints w (some_of s) (map kept) (flat_map p)
  reprints_some {kept} {p} a =
      reprints_means (λ q. q.0 ∷ q.1) (map kept) (flat_map p) (λ z. z.0 ∷ z.1) (λ q. refl) (λ q. refl) (reprints_both a (reprints_many a))

  -- a phrase or none
  pub reprints_optional : {A B : Type 0} {s : Syn A} {kept : A → B} {p : A → List Token} → Reprints w s kept p → Reprints w (optional s) (option_map kept) (λ v. maybe (option_map p v))
  reprints_optional {kept} {p} a =
      reprints_either
      (reprints_means Some (option_map kept) (λ v. maybe (option_map p v)) Some (λ v. refl) (λ v. refl) a)
      (reprints_give (option_map kept) (λ v. maybe (option_map p v)) None refl)

  -- a phrase behind one that is not printed
  pub reprints_dropped : {A C D : Type 0} {t : Syn C} {also : C → D} {q : C → List Token} (s : Syn A) → Reprints w t also q → Reprints w (both (optional s) t) (λ v. also v.1) (λ v. q v.1)
  reprints_dropped {A} {t} {also} {q} s a = record {
    echo = λ ts v d valid.
        let whole : Every IsValid (d.0 ++ d.1) = subst (Every IsValid) d.2 valid in
        let e : Echo also t v.1 (q v.1) = a.echo d.1 v.1 d.4 (Every-right IsValid d.0 d.1 whole) in
        let none : Echo nothing_kept (optional s) None [] = echo_right (echo_give nothing_kept None) (means Some s) in
        let both_kept = echo_kept (echo_both none e) (λ z. also z.1) (λ z. z.1) (λ z. refl) in
        echo_of both_kept v refl;
  }

  -- a phrase before one that is not printed
  pub reprints_dropped_after : {A C D : Type 0} {t : Syn C} {also : C → D} {q : C → List Token} (s : Syn A) → Reprints w t also q → Reprints w (both t (optional s)) (λ v. also v.0) (λ v. q v.0)
  reprints_dropped_after {A} {t} {also} {q} s a = record {
    echo = λ ts v d valid.
        let whole : Every IsValid (d.0 ++ d.1) = subst (Every IsValid) d.2 valid in
        let e : Echo also t v.0 (q v.0) = a.echo d.0 v.0 d.3 (Every-left IsValid d.0 d.1 whole) in
        let none : Echo nothing_kept (optional s) None [] = echo_right (echo_give nothing_kept None) (means Some s) in
        let both_kept = echo_kept (echo_both e none) (λ z. also z.0) (λ z. z.0) (λ z. refl) in
        echo_as (echo_of both_kept v refl) (q v.0) (append-nil (q v.0));
  }

-- What phrases mean passes a test, where what stands a level further in does.
use Rattle.std.proofs.Common.{◌≡◌, Bool, true, ◌&&◌, inl, inr, List, [], ◌∷◌, Some, None, refl, subst, ◌∙◌}
use Rattle.std.specs.List.{list_all}
use Rattle.std.proofs.lemmas.Bool.{and_from}
use Rattle.jolie_ast.specs.Formed.{option_all}
use Rattle.jolie_parse.specs.declared.class.Class.{Class}
use Rattle.jolie_parse.specs.Classes.{Spelled}
use Rattle.jolie_parse.specs.Syntax.{Part, Meant, Syn, token, give, both, either, many, means, inside, prefix, Lang, Derives, behind, separated, some_of, optional, between}

module _ (w : (r : Part) → Lang (Meant r)) where
  -- whatever a phrase of the grammar means passes the test
  abbrev pub Makes : {A : Type 0} → Syn A → (A → Bool) → Type 0
  Makes {A} s f = (ts : List Spelled) (v : A) → Derives w s ts v → f v ≡ true

  -- nothing is asked
  pub any_makes : {A : Type 0} (s : Syn A) → Makes s (λ _. true)
  any_makes s ts v d = refl

  pub give_makes : {A : Type 0} (a : A) (f : A → Bool) → f a ≡ true → Makes (give a) f
  give_makes a f h ts v d = subst (λ z. f z ≡ true) d.1 h

  pub both_makes : {A B : Type 0} (s : Syn A) (t : Syn B) (f : A → Bool) (g : B → Bool) → Makes s f → Makes t g → Makes (both s t) (λ q. f q.0 && g q.1)
  both_makes s t f g h k ts v d = and_from (f v.0) (g v.1) (h d.0 v.0 d.3) (k d.1 v.1 d.4)

  -- of two phrases the second alone is asked
  pub second_makes : {A B : Type 0} (s : Syn A) (t : Syn B) (g : B → Bool) → Makes t g → Makes (both s t) (λ q. g q.1)
  second_makes s t g k ts v d = k d.1 v.1 d.4

  pub either_makes : {A : Type 0} (s t : Syn A) (f : A → Bool) → Makes s f → Makes t f → Makes (either s t) f
  either_makes s t f h k ts v d = elim d [ inl e ↦ h ts v e | inr e ↦ k ts v e ]

  pub many_makes : {A : Type 0} (s : Syn A) (f : A → Bool) → Makes s f → Makes (many s) (list_all f)
  many_makes s f h ts [] d = refl
  many_makes s f h ts (v ∷ vs) d = and_from (f v) (list_all f vs) (h d.0 v d.3) (many_makes s f h d.1 vs d.4)

  -- what is made of a meaning passes where the meaning does
  pub means_makes : {A B : Type 0} (s : Syn A) (m : A → B) (f : A → Bool) (g : B → Bool) → Makes s f → ((a : A) → g (m a) ≡ f a) → Makes (means m s) g
  means_makes s m f g h e ts v d = subst (λ z. g z ≡ true) d.1 (e d.0 ∙ h ts d.0 d.2)

  -- ---- the forms that grammars are made of

  -- one token
  pub word_makes : {B : Type 0} (ks : List Class) (m : Spelled → B) (g : B → Bool) → ((t : Spelled) → g (m t) ≡ true) → Makes (means m (token ks)) g
  word_makes ks m g e = means_makes (token ks) m (λ _. true) g (any_makes (token ks)) e

  pub behind_makes : {A : Type 0} (k : Class) (s : Syn A) (f : A → Bool) → Makes s f → Makes (behind k s) f
  behind_makes k s f h = means_makes (both (token (k ∷ [])) s) (λ q. q.1) (λ q. f q.1) f (second_makes (token (k ∷ [])) s f h) (λ q. refl)

  -- a list of one or more with tokens between them
  pub separated_makes : {A : Type 0} (k : Class) (s : Syn A) (f : A → Bool) (g : List A → Bool) → Makes s f
      → ((v : A) (vs : List A) → g (v ∷ vs) ≡ list_all f (v ∷ vs)) → Makes (separated k s) g
  separated_makes k s f g h e =
      means_makes (both s (many (behind k s))) (λ q. q.0 ∷ q.1) (λ q. f q.0 && list_all f q.1) g
      (both_makes s (many (behind k s)) f (list_all f) h (many_makes (behind k s) f (behind_makes k s f h)))
      (λ q. e q.0 q.1)

  -- a list of one or more in a row
  pub some_of_makes : {A : Type 0} (s : Syn A) (f : A → Bool) (g : List A → Bool) → Makes s f
      → ((v : A) (vs : List A) → g (v ∷ vs) ≡ list_all f (v ∷ vs)) → Makes (some_of s) g
  some_of_makes s f g h e =
      means_makes (both s (many s)) (λ q. q.0 ∷ q.1) (λ q. f q.0 && list_all f q.1) g
      (both_makes s (many s) f (list_all f) h (many_makes s f h)) (λ q. e q.0 q.1)

  pub optional_makes : {A : Type 0} (s : Syn A) (f : A → Bool) → Makes s f → Makes (optional s) (option_all f)
  optional_makes s f h =
      either_makes (means Some s) (give None) (option_all f) (means_makes s Some f (option_all f) h (λ v. refl)) (give_makes None (option_all f) refl)

  -- ---- a level further in

  module _ (f : (r : Part) → Meant r → Bool) (h : (r : Part) (ts : List Spelled) (v : Meant r) → w r ts v → f r v ≡ true) where
    pub inside_makes : (o : Class) (r : Part) (c : Class) → Makes (inside o r c) (λ q. f r q.1)
    inside_makes o r c ts v d = h r d.1 v.1 d.5

    pub between_makes : (o : Class) (r : Part) (c : Class) → Makes (between o r c) (f r)
    between_makes o r c = means_makes (inside o r c) (λ q. q.1) (λ q. f r q.1) (f r) (inside_makes o r c) (λ q. refl)

    pub prefix_makes : (ks : List Class) (r : Part) → Makes (prefix ks r) (λ q. f r q.1)
    prefix_makes ks r ts v d = h r d.0 v.1 d.3

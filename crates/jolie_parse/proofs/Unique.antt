-- No tokens derive two trees in the factored grammar, and what derives with some nesting derives with more.
use Rattle.std.proofs.Common.{◌≡◌, ℕ, zero, suc, ◌≤◌, inl, inr, ◌+◌, List, [], ◌∷◌, refl, sym, ◌∙◌, arith}
use Rattle.jolie_ast.specs.declared.tree.Definition.{Definition}
use Rattle.jolie_parse.specs.Classes.{Spelled}
use Rattle.jolie_parse.specs.Syntax.{Syn, token, give, both, either, many, means, inside, prefix, Part, Meant, Lang, Derives, Many}
use Rattle.jolie_parse.specs.Grammar.{file}
use Rattle.jolie_parse.specs.Factored.{rule, Within, Nests}
use Rattle.jolie_parse.specs.Reading.{got}
use Rattle.jolie_parse.proofs.Complete.{complete}
use Rattle.jolie_parse.proofs.OneToken.{rules_decided, file_decided}

-- phrases in a row, where each phrase has a further reading
pub Many_more : {A : Type 0} (D E : Lang A) → ((ts : List Spelled) (v : A) → D ts v → E ts v) → (ts : List Spelled) (vs : List A) → Many D ts vs → Many E ts vs
Many_more D E h ts [] d = d
Many_more D E h ts (v ∷ vs) d = (d.0, d.1, d.2, h d.0 v d.3, Many_more D E h d.1 vs d.4)

module _ (w w2 : (r : Part) → Lang (Meant r)) (more : (r : Part) (ts : List Spelled) (v : Meant r) → w r ts v → w2 r ts v) where
  -- a phrase is one also where more stands a level further in
  pub Derives_more : {A : Type 0} (s : Syn A) (ts : List Spelled) (v : A) → Derives w s ts v → Derives w2 s ts v
  Derives_more (token ks) ts v d = d
  Derives_more (give a) ts v d = d
  Derives_more (both s t) ts v d = (d.0, d.1, d.2, Derives_more s d.0 v.0 d.3, Derives_more t d.1 v.1 d.4)
  Derives_more (either s t) ts v d = elim d [ inl h ↦ inl (Derives_more s ts v h) | inr h ↦ inr (Derives_more t ts v h) ]
  Derives_more (many s) ts v d = Many_more (Derives w s) (Derives w2 s) (Derives_more s) ts v d
  Derives_more (means f s) ts v d = (d.0, d.1, Derives_more s ts d.0 d.2)
  Derives_more (inside o r c) ts v d = (d.0, d.1, d.2, d.3, d.4, more r d.1 v.1 d.5)
  Derives_more (prefix ks r) ts v d = (d.0, d.1, d.2, more r d.0 v.1 d.3)

pub Within_more : (n m : ℕ) → n ≤ m → (r : Part) (ts : List Spelled) (v : Meant r) → Within n r ts v → Within m r ts v
Within_more zero m le r ts v d = absurd d
Within_more (suc n) zero le r ts v d = let no : ⊥ = omega arith in absurd no
Within_more (suc n) (suc m) le r ts v d = Derives_more (Within n) (Within m) (Within_more n m (omega arith)) (rule r) ts v d

-- what derives with some nesting derives with more
pub Nests_more : {A : Type 0} (n m : ℕ) (s : Syn A) → n ≤ m → (ts : List Spelled) (v : A) → Nests n s ts v → Nests m s ts v
Nests_more n m s le ts v d = Derives_more (Within n) (Within m) (Within_more n m le) s ts v d

same_got : {A : Type 0} (a b : A) (ts us : List Spelled) → got a ts ≡ got b us → a ≡ b
same_got a b ts us e = cc

-- no tokens are a file in two ways
pub one_file : (n m : ℕ) (ts : List Spelled) (f g : List Definition) → Nests n file ts f → Nests m file ts g → f ≡ g
one_file n m ts f g d e =
    let a = complete rules_decided (n + m) file file_decided ts [] f (Nests_more n (n + m) file (omega arith) ts f d) refl in
    let b = complete rules_decided (n + m) file file_decided ts [] g (Nests_more m (n + m) file (omega arith) ts g e) refl in
    same_got f g [] [] (sym a ∙ b)

-- From what reading a file answers to what `parse` gives.
use Rattle.std.proofs.Common.{◌≡◌, ℕ, ◌≤◌, true, length, inl, inr, List, [], ◌∷◌, ◌++◌, Result, Ok, Err, IfOk, refl, sym, ap, subst, ◌∙◌}
use Rattle.std.proofs.lemmas.List.{append_cancel_left}
use Rattle.jolie_tokens.specs.declared.token.Token.{Token}
use Rattle.jolie_tokens.specs.Texts.{IsRead, longest}
use Rattle.jolie_ast.specs.declared.tree.Definition.{Definition}
use Rattle.jolie_ast.specs.Formed.{is_formed}
use Rattle.jolie_ast.specs.Members.{parallel_members, most_members}
use Rattle.jolie_parse.specs.declared.parse_error.ParseError.{ParseError}
use Rattle.jolie_parse.specs.declared.parse_error.ParseError.TheVariants as error
use Rattle.jolie_parse.specs.declared.stop.Stop.{Stop}
use Rattle.jolie_parse.specs.declared.stop.Stop.TheVariants as stop
use Rattle.jolie_parse.specs.Classes.{Spelled, spelled}
use Rattle.jolie_parse.specs.Grammar.{file, file_part, IsFile}
use Rattle.jolie_parse.specs.Reading.{Outcome, got, refused, too_deep, read}
use Rattle.jolie_parse.specs.Reads.{Stops, more}
use Rattle.jolie_parse.specs.Levels.{IsRefused, IsTooDeep, OpensNext, NoneOpens, rest_place}
use Rattle.jolie_parse.specs.Answers.{IsRefusedAt, IsTooDeepAt, UnlessMemory}
use Rattle.jolie_parse.specs.WholeFiles.{whole, read_file, IsAnswer, error_at, Gives}
use Rattle.jolie_parse.proofs.Files.{answers, complete_file, none_opens_in}
use Rattle.jolie_parse.proofs.Steps.{none_read}
use Rattle.jolie_parse.proofs.Stops.{compare, stop_at_one_place}
use Rattle.jolie_parse.proofs.Sizes.{file_fits}
use Rattle.jolie_parse.proofs.Formed.{file_formed}

-- ---- the whole of the tokens

pub parts_read : (n : ℕ) (ts : List Spelled) → more n file_part [] ts ≡ read n file ts
unfolding file
parts_read n ts = none_read n file_part ts

pub whole_stops : (o : Outcome (List Definition)) (e : Stop) (q : List Spelled) → Stops o e q → Stops (whole o) e q
whole_stops o stop.Syntax q h = ap whole h
whole_stops o stop.TooDeep q h = ap whole h
whole_stops o (stop.Memory cause) q h = tt

-- tokens are left over
pub whole_left : (o : Outcome (List Definition)) (f : List Definition) (r : List Spelled) → o ≡ got f r → (r ≡ [] → ⊥) → whole o ≡ refused r
whole_left o f [] h some = absurd (some refl)
whole_left o f (t ∷ r) h some = ap whole h

pub whole_ends : (o : Outcome (List Definition)) (f : List Definition) (r : List Spelled) → o ≡ got f r → r ≡ [] → whole o ≡ got f r
whole_ends o f [] h none = ap whole h
whole_ends o f (t ∷ r) h none = cc

-- ---- a stop as an error

pub error_gives : (end : ℕ) (o : Outcome (List Definition)) (s : Stop) (r : List Spelled) → Stops o s r → Gives end o (Err (error_at s (rest_place end r)))
error_gives end o stop.Syntax r h = (r, refl, h)
error_gives end o stop.TooDeep r h = (r, refl, h)
error_gives end o (stop.Memory cause) r h = tt

-- ---- an answer is the only one

module _ (n : ℕ) (ts : List Spelled) where
  rest_is : (w v r q : List Spelled) → ts ≡ w ++ r → ts ≡ v ++ q → w ≡ v → r ≡ q
  rest_is w v r q a b e = append_cancel_left w r q (sym a ∙ b ∙ ap (λ z. z ++ q) (sym e))

  pub not_a_file : (f : List Definition) (r : List Spelled) → IsFile n ts f → IsRefused n ts r → ⊥
  not_a_file f r d (w, e, begins, dead, none) = stop_at_one_place.never_both n f w r (subst (λ z. IsFile n z f) e d) (begins, dead)

  pub one_refusal : (r q : List Spelled) → IsRefused n ts r → IsRefused n ts q → r ≡ q
  one_refusal r q (w, e, begins, dead, none) (v, g, begins2, dead2, none2) =
      rest_is w v r q e g (stop_at_one_place.one_place w r v q (sym e ∙ g) (begins, dead) (begins2, dead2))

  pub not_deep : (r q : List Spelled) → IsRefused n ts r → IsTooDeep n ts q → ⊥
  not_deep r q (w, e, begins, dead, none) (v, g, begins2, opens, none2) = none v q g opens

  -- the token that opens a level does so whatever follows it
  opens_alike : (w q : List Spelled) (t : Spelled) (more : List Spelled) → OpensNext n w (t ∷ q) → OpensNext n w (t ∷ more)
  opens_alike w q t more (u, rest, e, l) = let same : u ≡ t = cc in (u, more, ap (λ z. z ∷ more) (sym same), l)

  no_earlier : (w r v q : List Spelled) (t : Spelled) (more : List Spelled) → OpensNext n w r → NoneOpens n v → v ≡ w ++ t ∷ more → r ≡ t ∷ (more ++ q) → ⊥
  no_earlier w r v q t more o none e g = none w (t ∷ more) e (opens_alike w (more ++ q) t more (subst (OpensNext n w) g o))

  one_depth : (r q : List Spelled) → IsTooDeep n ts r → IsTooDeep n ts q → r ≡ q
  one_depth r q (w, e, begins, opens, none) (v, g, begins2, opens2, none2) = elim (compare w r v q (sym e ∙ g)) [
    | inl k ↦ rest_is w v r q e g k
    | inr (inl (t, more, k, l)) ↦ absurd (no_earlier w r v q t more opens none2 k l)
    | inr (inr (t, more, k, l)) ↦ absurd (no_earlier v q w r t more opens2 none k l)
  ]

  -- ---- what is given

  pub answer_at : (o : Outcome (List Definition)) → read_file n ts ≡ o → IsAnswer n ts o
  answer_at o e = subst (IsAnswer n ts) e (answers n ts)

  module _ (end : ℕ) where
    pub found_by : (result : Result (List Definition) ParseError) → Gives end (read_file n ts) result → IfOk result (λ ast. IsFile n ts ast)
    found_by (Ok ast) (r, e) = (answer_at (got ast r) e).1
    found_by (Err e) g = tt

    pub complete_by : (result : Result (List Definition) ParseError) (f : List Definition) → Gives end (read_file n ts) result → IsFile n ts f → UnlessMemory result (Ok f)
    complete_by (Ok ast) f (r, e) d =
        let same : got ast r ≡ got f [] = sym e ∙ complete_file n ts f d in
        let tree : ast ≡ f = cc in
        ap Ok tree
    complete_by (Err (error.Syntax at)) f (r, place, e) d = let never : refused r ≡ got f [] = sym e ∙ complete_file n ts f d in cc
    complete_by (Err (error.TooDeep at)) f (r, place, e) d = let never : too_deep r ≡ got f [] = sym e ∙ complete_file n ts f d in cc
    complete_by (Err (error.Memory cause)) f g d = tt

    pub syntax_by : (result : Result (List Definition) ParseError) (at : ℕ) → Gives end (read_file n ts) result → result ≡ Err (error.Syntax at) → IsRefusedAt n end ts at
    syntax_by result at g h = let (r, place, e) = subst (Gives end (read_file n ts)) h g in (r, place, answer_at (refused r) e)

    pub too_deep_by : (result : Result (List Definition) ParseError) (at : ℕ) → Gives end (read_file n ts) result → result ≡ Err (error.TooDeep at) → IsTooDeepAt n end ts at
    too_deep_by result at g h = let (r, place, e) = subst (Gives end (read_file n ts)) h g in (r, place, answer_at (too_deep r) e)

    pub refused_by : (result : Result (List Definition) ParseError) (at : ℕ) → Gives end (read_file n ts) result → IsRefusedAt n end ts at → UnlessMemory result (Err (error.Syntax at))
    refused_by (Ok ast) at (r, e) (q, place, d) = absurd (not_a_file ast q (answer_at (got ast r) e).1 d)
    refused_by (Err (error.Syntax k)) at (r, place, e) (q, place2, d) =
        let same = one_refusal r q (answer_at (refused r) e) d in
        let here : k ≡ at = place ∙ ap (rest_place end) same ∙ sym place2 in
        ap (λ z. Err (error.Syntax z)) here
    refused_by (Err (error.TooDeep k)) at (r, place, e) (q, place2, d) = absurd (not_deep q r d (answer_at (too_deep r) e))
    refused_by (Err (error.Memory cause)) at g d = tt

    pub deep_by : (result : Result (List Definition) ParseError) (at : ℕ) → Gives end (read_file n ts) result → IsTooDeepAt n end ts at → UnlessMemory result (Err (error.TooDeep at))
    deep_by (Ok ast) at (r, e) (q, place, (v, g, begins, opens, none)) = absurd (none_opens_in n ts ast (answer_at (got ast r) e).1 v q g opens)
    deep_by (Err (error.Syntax k)) at (r, place, e) (q, place2, d) = absurd (not_deep r q (answer_at (refused r) e) d)
    deep_by (Err (error.TooDeep k)) at (r, place, e) (q, place2, d) =
        let same = one_depth r q (answer_at (too_deep r) e) d in
        let here : k ≡ at = place ∙ ap (rest_place end) same ∙ sym place2 in
        ap (λ z. Err (error.TooDeep z)) here
    deep_by (Err (error.Memory cause)) at g d = tt

-- ---- the tree of a text

-- what is given has few enough members of parallels
pub members_fit : (n : ℕ) (text : List ℕ) (tokens : List Token) (f : List Definition) (r : List Spelled) → length text ≤ longest → IsRead text tokens
    → read_file n (spelled text tokens) ≡ got f r → parallel_members f ≤ most_members
members_fit n text tokens f r fits lexed e = file_fits n text tokens f lexed fits (answer_at n (spelled text tokens) (got f r) e).1

-- what is given is formed
pub members_formed : (n : ℕ) (ts : List Spelled) (f : List Definition) (r : List Spelled) → read_file n ts ≡ got f r → is_formed f ≡ true
members_formed n ts f r e = file_formed n ts f (answer_at n ts (got f r) e).1

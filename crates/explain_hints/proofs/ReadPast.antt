-- Definitions that stand whole may be left out before a definition, where it is asked whether tokens are a file or begin
-- one.
use Rattle.std.proofs.Common.{◌≡◌, ℕ, zero, suc, ◌<◌, ◌≤◌, true, false, ◌&&◌, not, List, [], ◌∷◌, ◌++◌, length, refl, sym, ap, subst, ◌∙◌, arith, append_assoc}
use Rattle.std.specs.Prelude.{◌↔◌}
use Rattle.jolie_ast.specs.declared.tree.Definition.{Definition}
use Rattle.jolie_parse.specs.Classes.{Spelled, class, has, begins}
use Rattle.jolie_parse.specs.Deciding.{first, further, nullable, disjoint}
use Rattle.jolie_parse.specs.Factored.{Within, Nests, decided}
use Rattle.jolie_parse.specs.Grammar.{IsFile, file, file_part, type_definition, interface, service}
use Rattle.jolie_parse.specs.LeftOut.{IsFileOrBegun}
use Rattle.jolie_parse.specs.Reading.{Outcome, got, refused, too_deep, and_then, repeat, read}
use Rattle.jolie_parse.specs.Syntax.{many}
use Rattle.jolie_parse.specs.WholeFiles.{whole}
use Rattle.jolie_parse.proofs.Complete.{complete, head, many_head}
use Rattle.jolie_parse.proofs.Equal.{file_factored}
use Rattle.jolie_parse.proofs.LeftOut.{Ends, begun_ends, ends_begun}
use Rattle.jolie_parse.proofs.Lists.{read_shorter, repeat_fuel}
use Rattle.jolie_parse.proofs.OneToken.{rules_decided, file_decided}
use Rattle.jolie_parse.proofs.Sets.{and_left, and_right, not_true, is_false, apart}
use Rattle.explain_hints.specs.Short.{definition_words}

-- ---- one token decides where a definition begins

parts_decided : decided (many file_part) ≡ true
unfolding file
parts_decided = file_decided

part_some : nullable file_part ≡ false
part_some = not_true (nullable file_part) (and_left (not (nullable file_part)) (disjoint (first file_part) (further file_part) && decided file_part) parts_decided)

parts_apart : disjoint (first file_part) (further file_part) ≡ true
parts_apart = and_left (disjoint (first file_part) (further file_part)) (decided file_part)
    (and_right (not (nullable file_part)) (disjoint (first file_part) (further file_part) && decided file_part) parts_decided)

part_decided : decided file_part ≡ true
part_decided = and_right (disjoint (first file_part) (further file_part)) (decided file_part)
    (and_right (not (nullable file_part)) (disjoint (first file_part) (further file_part) && decided file_part) parts_decided)

words_begin : first file_part ≡ definition_words
unfolding file_part type_definition interface service
words_begin = refl

-- ---- outcomes

-- they differ in what was read alone
abbrev Past : Outcome (List Definition) → Outcome (List Definition) → Type 0
Past (got f r) (got g s) = r ≡ s
Past (refused r) (refused s) = r ≡ s
Past (too_deep r) (too_deep s) = r ≡ s
Past _ _ = ⊥

past_itself : (o : Outcome (List Definition)) → Past o o
past_itself (got f r) = refl
past_itself (refused r) = refl
past_itself (too_deep r) = refl

past_left : (p q : Outcome (List Definition)) (d : Definition) → Past p q → Past (and_then p (λ more r. got (d ∷ more) r)) q
past_left (got a r) (got b s) d h = h
past_left (refused r) (refused s) d h = h
past_left (too_deep r) (too_deep s) d h = h
past_left (got a r) (refused s) d h = h
past_left (got a r) (too_deep s) d h = h
past_left (refused r) (got b s) d h = h
past_left (refused r) (too_deep s) d h = h
past_left (too_deep r) (got b s) d h = h
past_left (too_deep r) (refused s) d h = h

got_alike : (f g : List Definition) (r : List Spelled) → Ends (whole (got f r)) → Ends (whole (got g r))
got_alike f g [] h = tt
got_alike f g (t ∷ r) h = h

past_ends : (p q : Outcome (List Definition)) → Past p q → (Ends (whole p) → Ends (whole q)) × (Ends (whole q) → Ends (whole p))
past_ends (got f r) (got g s) e = (λ h. subst (λ z. Ends (whole (got g z))) e (got_alike f g r h), λ h. subst (λ z. Ends (whole (got f z))) (sym e) (got_alike g f s h))
past_ends (refused r) (refused s) e = (λ h. subst (λ z. Ends (refused z)) e h, λ h. subst (λ z. Ends (refused z)) (sym e) h)
past_ends (too_deep r) (too_deep s) e = (λ h. absurd h, λ h. absurd h)
past_ends (got f r) (refused s) e = absurd e
past_ends (got f r) (too_deep s) e = absurd e
past_ends (refused r) (got g s) e = absurd e
past_ends (refused r) (too_deep s) e = absurd e
past_ends (too_deep r) (got g s) e = absurd e
past_ends (too_deep r) (refused s) e = absurd e

-- ---- definitions that stand whole are read past

module _ (n : ℕ) (after : List Spelled) (starts : begins (first file_part) after ≡ true) where
  next_starts : (x : List Spelled) (f : List Definition) → Nests n (many file_part) x f → begins (first file_part) (x ++ after) ≡ true
  next_starts [] f d = starts
  next_starts (t ∷ x) f d = many_head (Nests n file_part) (first file_part) (head (Within n) file_part) t x f d

  not_further : (r : List Spelled) → begins (first file_part) r ≡ true → begins (further file_part) r ≡ false
  not_further [] h = refl
  not_further (t ∷ r) h = is_false (has (further file_part) (class t)) (λ yes. apart (first file_part) (further file_part) (class t) parts_apart h yes)

  past_turn : (i : ℕ) (z r : List Spelled) (d : Definition) (q : Outcome (List Definition)) → begins (first file_part) z ≡ true → read n file_part z ≡ got d r
      → Past (repeat (read n file_part) (first file_part) i r) q → Past (repeat (read n file_part) (first file_part) (suc i) z) q
  past_turn i z r d q b e h = rw (b, e) (past_left (repeat (read n file_part) (first file_part) i r) q d h)

  past_parts : (i j : ℕ) (x : List Spelled) (f : List Definition) → length (x ++ after) ≤ i → length after ≤ j → Nests n (many file_part) x f
      → Past (repeat (read n file_part) (first file_part) i (x ++ after)) (repeat (read n file_part) (first file_part) j after)
  past_parts i j x [] li lj d =
      let same = repeat_fuel (read n file_part) (first file_part) (λ ts r v e. read_shorter n file_part ts r v part_decided part_some e) i j after (rw d at li) lj in
      rw (d, same) (past_itself (repeat (read n file_part) (first file_part) j after))
  past_parts i j x (v ∷ f) li lj d =
      let rest = d.1 ++ after in
      let regroup : x ++ after ≡ d.0 ++ rest = ap (λ w. w ++ after) d.2 ∙ append_assoc d.0 d.1 after in
      let more = next_starts d.1 f d.4 in
      let item : read n file_part (x ++ after) ≡ got v rest =
      ap (read n file_part) regroup ∙ complete rules_decided n file_part part_decided d.0 rest v d.3 (not_further rest more) in
      let less = read_shorter n file_part (x ++ after) rest v part_decided part_some item in
      turn i (next_starts x (v ∷ f) d) item less li (λ i2 l2. past_parts i2 j d.1 f l2 lj d.4)
    where
      turn : (i : ℕ) {rest : List Spelled} → begins (first file_part) (x ++ after) ≡ true → read n file_part (x ++ after) ≡ got v rest → length rest < length (x ++ after) → length (x ++ after) ≤ i
          → ((i2 : ℕ) → length rest ≤ i2 → Past (repeat (read n file_part) (first file_part) i2 rest) (repeat (read n file_part) (first file_part) j after))
          → Past (repeat (read n file_part) (first file_part) i (x ++ after)) (repeat (read n file_part) (first file_part) j after)
      turn zero b item less l h = let no : ⊥ = omega arith in absurd no
      turn (suc i) {rest} b item less l h = past_turn i (x ++ after) rest v _ b item (h i (omega arith))

  past_file : (x : List Spelled) (f : List Definition) → Nests n file x f → Past (read n file (x ++ after)) (read n file after)
  unfolding file
  past_file x f d = past_parts (length (x ++ after)) (length after) x f (omega arith) (omega arith) d

-- ---- the law

pub definitions_left_out : (n : ℕ) (left_out after : List Spelled) (f : List Definition) → IsFile n left_out f → begins definition_words after ≡ true
    → IsFileOrBegun n (left_out ++ after) ↔ IsFileOrBegun n after
definitions_left_out n x after f d starts =
    let begun : begins (first file_part) after ≡ true = ap (λ ks. begins ks after) words_begin ∙ starts in
    let same = past_ends (read n file (x ++ after)) (read n file after) (past_file n after begun x f (file_factored n x f d)) in
    (λ h. ends_begun n after (same.0 (begun_ends n (x ++ after) h)), λ h. ends_begun n (x ++ after) (same.1 (begun_ends n after h)))

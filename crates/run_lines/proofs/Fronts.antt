-- Lines of the bytes that were passed, among all lines that were read.
use Rattle.std.proofs.Common.{◌≡◌, ◌≢◌, refl, sym, ap, subst, ◌∙◌, ℕ, zero, suc, ◌+◌, ◌≤◌, min, arith, List, [], ◌∷◌, ◌++◌, length, take, map}
use Rattle.std.proofs.Common.{append_assoc, append-nil, length-append}
use Rattle.std.proofs.lemmas.List.{map-append, length-map, length-take, take-append-le}
use Rattle.run_theorem.specs.Split.{split, whole_lines, all_lines, sent_lines}
use Rattle.run_theorem.specs.Lines.{line_in, come_in, most_postings, IsPrefix, IsProperPrefix}
use Rattle.run_lines.specs.Passing.{Passing, read_in}
use Rattle.run_lines.proofs.Splitting.{split-append}
use Rattle.run_lines.proofs.Postings.{sent_lines-append}

-- ---- fronts

-- all is a front of itself
pub IsPrefix-all : {A : Type 0} (xs : List A) → IsPrefix xs xs
IsPrefix-all xs = ([], append-nil xs)

-- a front of a front
pub IsPrefix-trans : {A : Type 0} (xs ys zs : List A) → IsPrefix xs ys → IsPrefix ys zs → IsPrefix xs zs
IsPrefix-trans xs ys zs f g = (f.0 ++ g.0, sym (append_assoc xs f.0 g.0) ∙ ap (λ l. l ++ g.0) f.1 ∙ g.1)

-- what is not empty stays so
longer_is_some : {A : Type 0} (xs ys : List A) → xs ≢ [] → (xs ++ ys) ≢ []
longer_is_some [] ys some none = some refl
longer_is_some (x ∷ xs) ys some none = let clash : (x ∷ (xs ++ ys)) ≡ [] = none in cc

-- a front that is not all of a front
pub IsProperPrefix-trans : {A : Type 0} (xs ys zs : List A) → IsProperPrefix xs ys → IsPrefix ys zs → IsProperPrefix xs zs
IsProperPrefix-trans xs ys zs f g =
    (f.0 ++ g.0, longer_is_some f.0 g.0 f.1, sym (append_assoc xs f.0 g.0) ∙ ap (λ l. l ++ g.0) f.2 ∙ g.1)

-- the first of a list are a front of the first of a longer one
take_front : {A : Type 0} (n : ℕ) (xs ys : List A) → IsPrefix (take n xs) (take n (xs ++ ys))
take_front zero xs ys = ([], refl)
take_front (suc n) [] ys = (take (suc n) ys, refl)
take_front (suc n) (x ∷ xs) ys = let f = take_front n xs ys in (f.0, ap (λ l. x ∷ l) f.1)

-- what more lines bring in
come_in-front : (lines more : List (List ℕ)) → IsPrefix (come_in lines) (come_in (lines ++ more))
come_in-front lines more =
    subst (λ l. IsPrefix (come_in lines) (take most_postings l)) (sym (map-append line_in lines more))
    (take_front most_postings (map line_in lines) (map line_in more))

-- where lines received the most in, more bring nothing
come_in-full : (lines more : List (List ℕ)) → most_postings ≤ length lines → come_in (lines ++ more) ≡ come_in lines
come_in-full lines more many =
    ap (take most_postings) (map-append line_in lines more)
    ∙ take-append-le most_postings (map line_in lines) (map line_in more)
    (subst (λ n. most_postings ≤ n) (sym (length-map lines line_in)) many)

-- as many as there are first ones at least
front_long : {A : Type 0} (n : ℕ) (xs : List A) → n ≤ length (take n xs) → n ≤ length xs
front_long n xs h = let short : length (take n xs) ≡ min n (length xs) = length-take n xs in omega arith

-- a count that is at least a part of it
le_more : (n a b c : ℕ) → n ≤ a → c ≡ a + b → n ≤ c
le_more n a b c h is = omega arith

-- ---- lines that were passed

module _ (p : Passing) where
  -- what stands behind the lines that were passed, as lines with their ends
  abbrev behind : List (List ℕ) × List ℕ
  behind = split ((split p.passed).1 ++ p.rest)

  -- the lines that have their end
  whole_lines-read : whole_lines (read_in p) ≡ whole_lines p.passed ++ behind.0
  whole_lines-read = ap (λ s. s.0) (split-append p.passed p.rest)

  -- all lines
  all_lines-read : all_lines (read_in p) ≡ whole_lines p.passed ++ (behind.0 ++ behind.1 ∷ [])
  all_lines-read =
      ap (λ s. s.0 ++ s.1 ∷ []) (split-append p.passed p.rest) ∙ append_assoc (whole_lines p.passed) behind.0 (behind.1 ∷ [])

  -- what those bring in that have their end begins with what was passed
  pub whole_front : IsPrefix (come_in (sent_lines (whole_lines p.passed))) (come_in (sent_lines (whole_lines (read_in p))))
  whole_front =
      subst (λ ls. IsPrefix (come_in (sent_lines (whole_lines p.passed))) (come_in ls))
      (sym (ap sent_lines whole_lines-read ∙ sent_lines-append (whole_lines p.passed) behind.0))
      (come_in-front (sent_lines (whole_lines p.passed)) (sent_lines behind.0))

  -- all sent lines
  sent_all : sent_lines (all_lines (read_in p)) ≡ sent_lines (whole_lines p.passed) ++ sent_lines (behind.0 ++ behind.1 ∷ [])
  sent_all = ap sent_lines all_lines-read ∙ sent_lines-append (whole_lines p.passed) (behind.0 ++ behind.1 ∷ [])

  module _ (many : most_postings ≤ length (come_in (sent_lines (whole_lines p.passed)))) where
    -- so many lines were passed
    passed_most : most_postings ≤ length (sent_lines (whole_lines p.passed))
    passed_most =
        subst (λ n. most_postings ≤ n) (length-map (sent_lines (whole_lines p.passed)) line_in)
        (front_long most_postings (map line_in (sent_lines (whole_lines p.passed))) many)

    -- all lines bring nothing more in
    pub all_full : come_in (sent_lines (all_lines (read_in p))) ≡ come_in (sent_lines (whole_lines p.passed))
    all_full =
        ap come_in sent_all
        ∙ come_in-full (sent_lines (whole_lines p.passed)) (sent_lines (behind.0 ++ behind.1 ∷ [])) passed_most

    -- they are the most
    pub all_most : most_postings ≤ length (sent_lines (all_lines (read_in p)))
    all_most =
        le_more most_postings (length (sent_lines (whole_lines p.passed))) (length (sent_lines (behind.0 ++ behind.1 ∷ [])))
        (length (sent_lines (all_lines (read_in p)))) passed_most
        (ap length sent_all ∙ length-append (sent_lines (whole_lines p.passed)) (sent_lines (behind.0 ++ behind.1 ∷ [])))

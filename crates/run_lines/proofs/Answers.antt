-- The lines that a front writes of what it was told are those that answer what came in.
use Rattle.std.proofs.Common.{◌≡◌, refl, sym, ap, ap₂, subst, ◌∙◌, ℕ, suc, arith, List, [], ◌∷◌, ◌++◌, map}
use Rattle.std.proofs.Common.{Option, Some, None, option_map, slice_get, Contains, flat_map}
use Rattle.std.specs.Option.{option_map_or}
use Rattle.std.proofs.lemmas.Option.{slice_get-map}
use Rattle.behaviour_tree.specs.declared.words.Outcome.{Outcome}
use Rattle.office_core.specs.declared.front.Posting.{Posting}
use Rattle.office_core.specs.Limits.{Setting, first_worker}
use Rattle.office_core.specs.Past.{Past}
use Rattle.run_record.specs.Postings.{told}
use Rattle.run_theorem.specs.Texts.{Came, posting_of, response}
use Rattle.run_theorem.specs.Lines.{line_if, line_of}
use Rattle.run_theorem.specs.Exchange.{Told}
use Rattle.jsonrpc_postings.proofs.Responses.{response_told-of}
use Rattle.run_lines.specs.Told.{line_to, line_told, lines_told}
use Rattle.run_alone.specs.Ran.{IsTold}

-- ---- the line of a place

module _ (w : Setting) (past : Past) where
  -- a line by what came in at its place
  abbrev told_at : Told → Option Came → List ℕ
  told_at t o = elim o [ None ↦ [] | Some c ↦ line_to w.parts c t.outcomes ]

  abbrev answer_at : ℕ → Option Came → List ℕ
  answer_at j o = option_map_or (λ c. line_if (response w past first_worker j c)) o []

  -- the line of a posting that was told of
  line_to-response : (c : Came) (j : ℕ) (os : List Outcome) → told w past first_worker j (posting_of c) ≡ Some os
      → line_to w.parts c os ≡ line_if (response w past first_worker j c)
  line_to-response c j os h = ap line_if (response_told-of w past c j os h)

  -- the same at its place
  at_place : (t : Told) (p : Posting) (o : Option Came) → option_map posting_of o ≡ Some p → told w past first_worker t.place p ≡ Some t.outcomes
      → told_at t o ≡ answer_at t.place o
  at_place t p None is h = refl
  at_place t p (Some c) is h =
      let same : p ≡ posting_of c = cc in
      line_to-response c t.place t.outcomes (subst (λ q. told w past first_worker t.place q ≡ Some t.outcomes) same h)

  module _ (came : List Came) where
    -- the line of what was told is that of its place
    line_told-of : (t : Told) → IsTold w past (map posting_of came) t → line_told w.parts came t ≡ line_of w past came t.place
    line_told-of t k =
        at_place t k.0 (slice_get came t.place) (sym (slice_get-map posting_of came t.place) ∙ k.1) k.2

    -- so are all lines
    pub lines_told-of : (ts : List Told) → ((t : Told) → Contains ts t → IsTold w past (map posting_of came) t)
        → lines_told w.parts came ts ≡ flat_map (line_of w past came) (map (λ (t : Told). t.place) ts)
    lines_told-of [] h = refl
    lines_told-of (t ∷ ts) h =
        ap₂ (λ x y. x ++ y) (line_told-of t (h t (0, omega arith, refl)))
        (lines_told-of ts (λ u k. let inside = k.1 in h u (suc k.0, omega arith, k.2)))

-- The texts that are told of a posting are its response.
use Rattle.std.proofs.Common.{◌≡◌, refl, sym, ap, ap₂, ◌∙◌, ℕ, suc, List, [], ◌∷◌, ◌++◌, map}
use Rattle.std.proofs.Common.{Option, Some, None, option_map}
use Rattle.behaviour_tree.specs.declared.words.Outcome.{Outcome}
use Rattle.jsonrpc_text.specs.declared.message.ReadCall.{ReadCall}
use Rattle.office_core.specs.Limits.{Setting, first_worker}
use Rattle.office_core.specs.Past.{Past}
use Rattle.office_core.specs.Keys.{all_there}
use Rattle.run_record.specs.Postings.{outcome_of, outcomes_from, told}
use Rattle.run_theorem.specs.Texts.{Came, call_in, posting_of, sent_to, texts_from, response_of, response}
use Rattle.jsonrpc_postings.specs.Told.{texts_told, response_told}

-- ---- outcomes that are all there

-- the first is there, and so are the others
record IsThere (o : Option Outcome) (rest : List (Option Outcome)) (os : List Outcome) : Type 0 where
  first : Outcome
  others : List Outcome
  is : o ≡ Some first
  are : all_there rest ≡ Some others
  all : os ≡ first ∷ others

there_by : (x : Outcome) (rest : List (Option Outcome)) (os : List Outcome) (found : Option (List Outcome)) → all_there rest ≡ found
    → option_map (λ ys. x ∷ ys) found ≡ Some os → IsThere (Some x) rest os
there_by x rest os None is h = absurd (let clash : None ≡ Some os = h in cc)
there_by x rest os (Some ys) is h =
    let same : x ∷ ys ≡ os = cc in record { first = x; others = ys; is = refl; are = is; all = sym same }

there : (o : Option Outcome) (rest : List (Option Outcome)) (os : List Outcome) → all_there (o ∷ rest) ≡ Some os → IsThere o rest os
there None rest os h = absurd (let clash : None ≡ Some os = h in cc)
there (Some x) rest os h = there_by x rest os (all_there rest) refl h

-- ---- the texts of a posting

module _ (w : Setting) (past : Past) where
  -- the texts of calls by what they came to
  pub texts_told-from : (j i service : ℕ) (cs : List ReadCall) (os : List Outcome)
      → all_there (outcomes_from w past first_worker (j, i) (map (call_in service) cs)) ≡ Some os
      → texts_told w.parts service cs os ≡ texts_from w past first_worker (j, i) (service, cs)
  texts_told-from j i service [] os h = refl
  texts_told-from j i service (c ∷ cs) os h =
      let k = there (outcome_of w past first_worker (j, i) (call_in service c)) (outcomes_from w past first_worker (j, suc i) (map (call_in service) cs)) os h in
      ap (texts_told w.parts service (c ∷ cs)) k.all
      ∙ ap₂ (λ o ts. sent_to w.parts service c o ++ ts) (sym k.is) (texts_told-from j (suc i) service cs k.others k.are)

  -- the response to a posting that was told of
  pub response_told-of : (c : Came) (j : ℕ) (os : List Outcome) → told w past first_worker j (posting_of c) ≡ Some os
      → response_told w.parts c os ≡ response w past first_worker j c
  response_told-of c j os h = ap (response_of c.read.batch) (texts_told-from j 0 c.service c.read.calls os h)

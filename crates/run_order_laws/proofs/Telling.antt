-- What a front is told of a posting stays what its calls came to in every longer legal history.
use Rattle.std.proofs.Common.{◌≡◌, ℕ, suc, List, [], ◌∷◌, ◌++◌, refl, sym, ap, ◌∙◌, Option, None, Some, option_map}
use Rattle.std.proofs.Common.{option_and_then}
use Rattle.std.specs.List.{filter_map}
use Rattle.behaviour_tree.specs.declared.words.Outcome.{Outcome}
use Rattle.office_core.specs.declared.front.CallIn.{CallIn}
use Rattle.office_core.specs.declared.front.CallIn.TheVariants as call
use Rattle.office_core.specs.declared.front.Posting.{Posting}
use Rattle.office_core.specs.declared.history.Entry.{Entry}
use Rattle.office_core.specs.declared.post.PostReply.{PostReply}
use Rattle.office_core.specs.declared.post.PostReply.TheVariants as answer
use Rattle.office_core.specs.Limits.{Setting}
use Rattle.office_core.specs.Past.{Past}
use Rattle.office_core.specs.Keys.{first, all_there}
use Rattle.office_core.specs.Accepted.{then_one, past_of}
use Rattle.office_core.specs.Legal.{IsLegalEntry, IsLegal}
use Rattle.run_record.specs.Postings.{reply_in, outcome_by, outcome_of, outcomes_from, told}
pub use Rattle.run_order_laws.specs.Posting.{reply_of}
use Rattle.run_order_laws.proofs.Lists.{given_append, first_stays, same_of, none_not_some}
use Rattle.run_order_laws.proofs.Growing.{kept_longer}
use Rattle.run_order_laws.proofs.Staying.{answer_stays}

-- a reply stays
pub reply_stays : (w : Setting) (past : Past) (e : Entry) (actor j i : ℕ) (r : PostReply)
    → reply_of past actor j i ≡ Some r → reply_of (then_one w past e) actor j i ≡ Some r
reply_stays w past e actor j i r h =
    ap first (given_append (reply_in actor j i) past.entries (e ∷ []))
    ∙ first_stays (filter_map (reply_in actor j i) past.entries) (filter_map (reply_in actor j i) (e ∷ [])) r h

outcome_by_stays : (w : Setting) (past : Past) (e : Entry) (r : PostReply) (o : Outcome) → IsLegalEntry w past e
    → outcome_by w past r ≡ Some o → outcome_by w (then_one w past e) r ≡ Some o
outcome_by_stays w past e (answer.Accepted n) o legal h = answer_stays w n o past e legal h
outcome_by_stays w past e (answer.Refused why) o legal h = h

-- the outcome of a call stays
pub outcome_stays : (w : Setting) (past : Past) (e : Entry) (actor : ℕ) (ji : ℕ × ℕ) (c : CallIn) (o : Outcome)
    → IsLegalEntry w past e → outcome_of w past actor ji c ≡ Some o
    → outcome_of w (then_one w past e) actor ji c ≡ Some o
outcome_stays w past e actor ji (call.Answered q) o legal h = h
outcome_stays w past e actor ji (call.Post q) o legal h = by (reply_of past actor ji.0 ji.1) refl h
  where
    by : (g : Option PostReply) → reply_of past actor ji.0 ji.1 ≡ g → option_and_then (outcome_by w past) g ≡ Some o
        → option_and_then (outcome_by w (then_one w past e)) (reply_of (then_one w past e) actor ji.0 ji.1) ≡ Some o
    by None e q = absurd (none_not_some o q)
    by (Some r) q g =
        ap (option_and_then (outcome_by w (then_one w past e))) (reply_stays w past e actor ji.0 ji.1 r q)
        ∙ outcome_by_stays w past e r o legal g

-- ---- all outcomes

-- all are there where the first and the others are
pub record AllThere {A : Type 0} (x : Option A) (xs : List (Option A)) (all : List A) : Type 0 where
  pub head : A
  pub others : List A
  pub first_there : x ≡ Some head
  pub others_there : all_there xs ≡ Some others
  pub are : all ≡ head ∷ others

pub parted : {A : Type 0} (x : Option A) (xs : List (Option A)) (all : List A)
    → all_there (x ∷ xs) ≡ Some all → AllThere x xs all
parted None xs all h = absurd (none_not_some all h)
parted {A} (Some y) xs all h = by (all_there xs) refl h
  where
    by : (g : Option (List A)) → all_there xs ≡ g → option_map (λ ys. y ∷ ys) g ≡ Some all → AllThere (Some y) xs all
    by None e q = absurd (none_not_some all q)
    by (Some ys) e q =
        record { head = y; others = ys; first_there = refl; others_there = e; are = sym (same_of (y ∷ ys) all q) }

pub joined : {A : Type 0} (x : Option A) (xs : List (Option A)) (y : A) (ys : List A)
    → x ≡ Some y → all_there xs ≡ Some ys → all_there (x ∷ xs) ≡ Some (y ∷ ys)
joined x xs y ys h g = ap (λ o. all_there (o ∷ xs)) h ∙ ap (option_map (λ zs. y ∷ zs)) g

outcomes_stay : (w : Setting) (past : Past) (e : Entry) (actor : ℕ) (ji : ℕ × ℕ) (cs : List CallIn) (os : List Outcome)
    → IsLegalEntry w past e → all_there (outcomes_from w past actor ji cs) ≡ Some os
    → all_there (outcomes_from w (then_one w past e) actor ji cs) ≡ Some os
outcomes_stay w past e actor ji [] os legal h = h
outcomes_stay w past e actor ji (c ∷ cs) os legal h =
    let a : AllThere (outcome_of w past actor ji c) (outcomes_from w past actor (ji.0, suc ji.1) cs) os =
    parted (outcome_of w past actor ji c) (outcomes_from w past actor (ji.0, suc ji.1) cs) os h in
    joined (outcome_of w (then_one w past e) actor ji c) (outcomes_from w (then_one w past e) actor (ji.0, suc ji.1) cs)
    a.head a.others
    (outcome_stays w past e actor ji c a.head legal a.first_there)
    (outcomes_stay w past e actor (ji.0, suc ji.1) cs a.others legal a.others_there)
    ∙ ap (λ qs. Some qs) (sym a.are)

-- what a posting came to, it comes to in every longer legal history
pub told_stays : (w : Setting) (actor j : ℕ) (p : Posting) (os : List Outcome) (h more : List Entry)
    → IsLegal w (h ++ more) → told w (past_of w h) actor j p ≡ Some os
    → told w (past_of w (h ++ more)) actor j p ≡ Some os
told_stays w actor j p os h more legal there =
    kept_longer w (λ past. told w past actor j p ≡ Some os)
    (λ past e fits. outcomes_stay w past e actor (j, 0) p.calls os fits) h more legal there

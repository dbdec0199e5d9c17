-- Verdicts on more bytes, and what a reader gives by them.
use Rattle.std.proofs.Common.{◌≡◌, ℕ, ◌≤◌, Bool, true, false, not, cond, ◌&&◌, ltb, List, ◌++◌, length, take, Some, None, sym, refl, ap, ◌∙◌, subst, arith}
use Rattle.std.specs.Prelude.{Option}
use Rattle.std.proofs.Props.{props}
use Rattle.std.proofs.lemmas.List.{take-append-le, take-take, length-take}
use Rattle.http_port.specs.declared.scan.Scan.{Scan}
use Rattle.http_port.specs.declared.verdict.Admission.{Admission}
use Rattle.http_port.specs.declared.verdict.Verdict.{Verdict}
use Rattle.http_port.specs.declared.verdict.Verdict.TheVariants.{Pending, Refuses, Admits}
use Rattle.http_port.specs.declared.head_reader.Fed.{Fed}
use Rattle.http_port.specs.declared.head_reader.Fed.TheVariants.{NotYet, Interim, Refused}
use Rattle.http_port.specs.HeadPart.{longest_head, head_part, HoldsScan}
use Rattle.http_port.specs.Rules.{JudgesPart, JudgesBy, Judges}
use Rattle.http_port.specs.Feeding.{Place, Open, Over, next_in_body, Gives}
use Rattle.http_port.proofs.PartLemmas.{head_part_grows, head_part_within}

pub HoldsScan-prop : (bytes : List ℕ) (scan : Scan) → IsProp (HoldsScan bytes scan)
HoldsScan-prop bytes scan = hlevel props

-- without a head part nothing is admitted
not_admitted : (t : Bool) (a : Admission) → Admits a ≡ cond t Pending (Refuses 431) → ⊥
not_admitted true a e = cc
not_admitted false a e = cc

-- a request stays admitted with more bytes
pub admits_grows : (bytes more : List ℕ) (a : Admission) → Judges bytes (Admits a) → Judges (bytes ++ more) (Admits a)
admits_grows bytes more a h = by_part (head_part bytes) refl h
  where
    by_part : (o : Option ℕ) → head_part bytes ≡ o → JudgesBy bytes o (Admits a) → Judges (bytes ++ more) (Admits a)
    by_part None e j = absurd (not_admitted (ltb (length bytes) longest_head) a j)
    by_part (Some n) e j =
        let within = head_part_within bytes n e in
        let inside : n ≤ length bytes = omega (arith, length-take longest_head bytes) in
        subst (λ o. JudgesBy (bytes ++ more) o (Admits a)) (sym (head_part_grows bytes more n e))
        (subst (λ part. JudgesPart part (Admits a)) (sym (take-append-le n bytes more inside)) j)

-- a verdict by the front that is looked at
pub judges_by_part : (bytes : List ℕ) (n : ℕ) (verdict : Verdict) → head_part bytes ≡ Some n
    → JudgesPart (take n (take longest_head bytes)) verdict → Judges bytes verdict
judges_by_part bytes n verdict e j =
    let within = head_part_within bytes n e in
    let short : n ≤ longest_head = omega (arith, length-take longest_head bytes) in
    subst (λ o. JudgesBy bytes o verdict) (sym e) (subst (λ part. JudgesPart part verdict) (take-take n longest_head bytes short) j)

pub judges_no_part : (bytes : List ℕ) (verdict : Verdict) → head_part bytes ≡ None
    → verdict ≡ cond (ltb (length bytes) longest_head) Pending (Refuses 431) → Judges bytes verdict
judges_no_part bytes verdict e is = subst (λ o. JudgesBy bytes o verdict) (sym e) is

pub gives_pending : (bytes : List ℕ) (asked : Bool) → Judges bytes Pending → Gives bytes asked NotYet (Open bytes false)
gives_pending bytes asked j = (Pending, j, refl)

pub gives_refused : (bytes : List ℕ) (asked : Bool) (status : ℕ) → Judges bytes (Refuses status) → Gives bytes asked (Refused status) Over
gives_refused bytes asked status j = (Refuses status, j, refl)

pub gives_interim : (bytes : List ℕ) (a : Admission) → Judges bytes (Admits a) → a.interim ≡ true → Gives bytes false Interim (Open bytes a.interim)
gives_interim bytes a j e = (Admits a, j, at a.interim e)
  where
    at : (t : Bool) → t ≡ true → (Interim, Open bytes t) ≡ cond (t && not false) (Interim, Open bytes true) (next_in_body bytes a)
    at true f = refl
    at false f = absurd (cc)

pub gives_at_once : (bytes : List ℕ) (a : Admission) (fed : Fed) (place : Place) → Judges bytes (Admits a) → a.interim ≡ false
    → (fed, place) ≡ next_in_body bytes a → Gives bytes false fed place
gives_at_once bytes a fed place j e is =
    (Admits a, j, is ∙ sym (ap (λ t. cond (t && not false) (Interim, Open bytes true) (next_in_body bytes a)) e))

pub gives_in_body : (bytes : List ℕ) (a : Admission) (fed : Fed) (place : Place) → Judges bytes (Admits a)
    → (fed, place) ≡ next_in_body bytes a → Gives bytes a.interim fed place
gives_in_body bytes a fed place j is = (Admits a, j, is ∙ at a.interim)
  where
    at : (t : Bool) → next_in_body bytes a ≡ cond (t && not t) (Interim, Open bytes true) (next_in_body bytes a)
    at true = refl
    at false = refl

-- Whatever bytes a connection has, there is a reading of them.
use Rattle.std.proofs.Common.{◌≡◌, ℕ, ◌+◌, ◌<◌, ◌≤◌, inl, inr, Bool, true, false, cond, ◌||◌, not, ltb, List, [], ◌∷◌, length, take, Some, None, sym, refl, ap, subst, arith, length-append}
use Rattle.std.specs.Prelude.{Option, IfNone, IfSome, bytes_eq, codes}
use Rattle.std.specs.Str.Parse.{digits_value}
use Rattle.std.proofs.lemmas.Bool.{lt-ltb, le-ltb, cases_lt}
use Rattle.httparse.specs.Grammar.{RequestHead, IsRequestHead, print_request}
use Rattle.http_port.specs.declared.verdict.Admission.{Admission}
use Rattle.http_port.specs.declared.verdict.Verdict.{Verdict}
use Rattle.http_port.specs.declared.verdict.Verdict.TheVariants.{Pending, Refuses, Admits}
use Rattle.http_port.specs.Framing.{lengths_in}
use Rattle.http_port.specs.HeadPart.{longest_head, head_part}
use Rattle.http_port.specs.Rules.{Head, head_of, lacks_host, has_unclear_length, admission, verdict_by_length, verdict_of, JudgesPart, JudgesBy, Judges}
use Rattle.http_port.specs.Connections.{Reading, waits, refuses, lacks, closes, goes_on}
use Rattle.http_port.specs.Walks.{length_of_open, LeadsOn}

same_head : (a b : Admission) → Admits a ≡ Admits b → a.head ≡ b.head
same_head a b e = let f : a ≡ b = cc in ap (λ (x : Admission). x.head) f

-- an admitted head has the length that it has
admits_head : (h : Head) (a : Admission) → Admits a ≡ verdict_of h → a.head ≡ h.length
admits_head h a e = by_host (lacks_host h.minor h.headers || has_unclear_length h) e
  where
    by_test : (t : Bool) (body : ℕ) → Admits a ≡ cond t (Refuses 413) (Admits (admission h body)) → a.head ≡ h.length
    by_test true body f = absurd (cc)
    by_test false body f = same_head a (admission h body) f

    by_length : (lengths : List (List ℕ)) → Admits a ≡ verdict_by_length h lengths → a.head ≡ h.length
    by_length [] f = absurd (cc)
    by_length (value ∷ more) f = by_test (ltb 65536 (digits_value 10 value)) (digits_value 10 value) f

    by_method : (t : Bool) → Admits a ≡ cond t (Refuses 405) (verdict_by_length h (lengths_in h.headers)) → a.head ≡ h.length
    by_method true f = absurd (cc)
    by_method false f = by_length (lengths_in h.headers) f

    by_host : (t : Bool) → Admits a ≡ cond t (Refuses 400) (cond (not (bytes_eq h.method (codes "POST"))) (Refuses 405) (verdict_by_length h (lengths_in h.headers)))
        → a.head ≡ h.length
    by_host true f = absurd (cc)
    by_host false f = by_method (not (bytes_eq h.method (codes "POST"))) f

head_counts : (h : RequestHead) → IsRequestHead h → 0 < length (print_request h)
unfolding print_request
head_counts h is = let method : 0 < length h.method = is.method.0 in simp length-append (omega arith)

never_admitted : (t : Bool) (a : Admission) → Admits a ≡ cond t Pending (Refuses 431) → ⊥
never_admitted true a e = cc
never_admitted false a e = cc

-- an admitted head has bytes
admits_some : (bytes : List ℕ) (a : Admission) → Judges bytes (Admits a) → 0 < a.head
admits_some bytes a = by_part (head_part bytes)
  where
    by_judged : (part : List ℕ) → JudgesPart part (Admits a) → 0 < a.head
    by_judged part (inl x) = subst (λ n. 0 < n) (sym (admits_head (head_of x.0) a x.2)) (head_counts x.0 x.1.reads.0)
    by_judged part (inr x) = let e = x.1 in absurd (cc)

    by_part : (o : Option ℕ) → JudgesBy bytes o (Admits a) → 0 < a.head
    by_part None j = absurd (never_admitted (ltb (length bytes) longest_head) a j)
    by_part (Some n) j = by_judged (take n bytes) j

-- what does not lead on is read
pub reads_here : (bytes : List ℕ) (verdict : Verdict) → Judges bytes verdict → IfNone (length_of_open (length bytes) verdict) ∥ Reading bytes ∥₁
reads_here bytes Pending j = ∣ waits bytes j ∣₁
reads_here bytes (Refuses status) j = ∣ refuses bytes status j ∣₁
reads_here bytes (Admits a) j = elim (cases_lt (length bytes) (a.head + a.body)) [
  | inl short ↦
      subst (λ t. IfNone (cond (t || a.close) None (Some (a.head + a.body))) ∥ Reading bytes ∥₁) (sym (lt-ltb (length bytes) (a.head + a.body) short))
      ∣ lacks bytes a j short ∣₁
  | inr whole ↦
      subst (λ t. IfNone (cond (t || a.close) None (Some (a.head + a.body))) ∥ Reading bytes ∥₁) (sym (le-ltb (length bytes) (a.head + a.body) whole))
      (by_close whole a.close refl)
]
  where
    by_close : a.head + a.body ≤ length bytes → (c : Bool) → a.close ≡ c → IfNone (cond (false || c) None (Some (a.head + a.body))) ∥ Reading bytes ∥₁
    by_close whole true e = ∣ closes bytes a j whole e ∣₁
    by_close whole false e = tt

-- what leads on does so
pub leads_on : (bytes : List ℕ) (verdict : Verdict) → Judges bytes verdict → IfSome (length_of_open (length bytes) verdict) (LeadsOn bytes)
leads_on bytes Pending j = tt
leads_on bytes (Refuses status) j = tt
leads_on bytes (Admits a) j = elim (cases_lt (length bytes) (a.head + a.body)) [
  | inl short ↦
      subst (λ t. IfSome (cond (t || a.close) None (Some (a.head + a.body))) (LeadsOn bytes)) (sym (lt-ltb (length bytes) (a.head + a.body) short)) tt
  | inr whole ↦
      subst (λ t. IfSome (cond (t || a.close) None (Some (a.head + a.body))) (LeadsOn bytes)) (sym (le-ltb (length bytes) (a.head + a.body) whole))
      (by_close whole a.close refl)
]
  where
    by_close : a.head + a.body ≤ length bytes → (c : Bool) → a.close ≡ c → IfSome (cond (false || c) None (Some (a.head + a.body))) (LeadsOn bytes)
    by_close whole true e = tt
    by_close whole false e =
        let some = admits_some bytes a j in
        record { some = omega arith; within = whole; leads = λ r. goes_on bytes a j whole e r }

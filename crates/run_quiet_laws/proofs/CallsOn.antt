-- The calls of a session in a longer history.
use Rattle.std.proofs.Common.{◌≡◌, ◌≤◌, ℕ, ◌+◌, Bool, true, false, List, [], ◌∷◌, ◌++◌, length, refl, ap, ◌∙◌, arith}
use Rattle.std.proofs.lemmas.List.{append-nil, length-append}
use Rattle.office_core.specs.declared.history.Entry.{Entry}
use Rattle.office_core.specs.Limits.{Setting}
use Rattle.office_core.specs.Past.{Past, nothing_yet}
use Rattle.office_core.specs.Accepted.{past_of, then_all, then_one}
use Rattle.run_record.specs.Steps.{Called, calls_after, calls_of, is_call_of}

-- calls behind a first entry, by whether it is one
abbrev calls_if : Bool → Called → List Called → List Called
calls_if b c rest = elim b [ true ↦ c ∷ rest | false ↦ rest ]

if_both : (b : Bool) (c : Called) (xs ys : List Called) → calls_if b c (xs ++ ys) ≡ calls_if b c xs ++ ys
if_both true c xs ys = refl
if_both false c xs ys = refl

-- a call of an entry, with what happened before it
abbrev pub called : Setting → Past → Entry → Called
called w past e = record { before = past; act = e.act }

-- the calls of a session in two histories, one behind the other
calls_both : (w : Setting) (s : ℕ) (past : Past) (xs ys : List Entry)
    → calls_after w s past (xs ++ ys) ≡ calls_after w s past xs ++ calls_after w s (then_all w past xs) ys
calls_both w s past [] ys = refl
calls_both w s past (x ∷ xs) ys =
    ap (calls_if (is_call_of s x) (called w past x)) (calls_both w s (then_one w past x) xs ys)
    ∙ if_both (is_call_of s x) (called w past x) (calls_after w s (then_one w past x) xs)
    (calls_after w s (then_all w (then_one w past x) xs) ys)

module _ (w : Setting) (h : List Entry) (s : ℕ) (e : Entry) where
  last_call : calls_of w (h ++ e ∷ []) s ≡ calls_of w h s ++ calls_if (is_call_of s e) (called w (past_of w h) e) []
  last_call = calls_both w s nothing_yet h (e ∷ [])

  -- an entry that is no call of the session leaves its calls
  pub calls_same : is_call_of s e ≡ false → calls_of w (h ++ e ∷ []) s ≡ calls_of w h s
  calls_same other =
      last_call ∙ ap (λ b. calls_of w h s ++ calls_if b (called w (past_of w h) e) []) other
      ∙ append-nil (calls_of w h s)

  -- a call of the session is one more
  pub calls_more : is_call_of s e ≡ true
      → calls_of w (h ++ e ∷ []) s ≡ calls_of w h s ++ called w (past_of w h) e ∷ []
  calls_more own = last_call ∙ ap (λ b. calls_of w h s ++ calls_if b (called w (past_of w h) e) []) own

some_fewer : (all before later : ℕ) → all ≡ before + later → before ≤ all
some_fewer all before later e = omega (arith, e)

-- a session made no more calls before
pub calls_fewer : (w : Setting) (before later : List Entry) (s : ℕ)
    → length (calls_of w before s) ≤ length (calls_of w (before ++ later) s)
calls_fewer w before later s =
    let rest : List Called = calls_after w s (past_of w before) later in
    some_fewer (length (calls_of w (before ++ later) s)) (length (calls_of w before s)) (length rest)
    (ap (λ (cs : List Called). length cs) (calls_both w s nothing_yet before later)
    ∙ length-append (calls_of w before s) rest)

-- A reader gives the interim line of a head once.
use Rattle.std.proofs.Common.{◌≡◌, ℕ, ◌+◌, Bool, true, false, not, cond, ◌&&◌, List, ◌++◌, length, ap}
use Rattle.std.specs.Prelude.{nat_lt}
use Rattle.std.proofs.Math.Logic.{∥∥₁_map, ∥∥₁_elim}
use Rattle.http_port.specs.declared.verdict.Admission.{Admission}
use Rattle.http_port.specs.declared.verdict.Verdict.{Verdict}
use Rattle.http_port.specs.declared.verdict.Verdict.TheVariants.{Pending, Refuses, Admits}
use Rattle.http_port.specs.declared.head_reader.Fed.{Fed}
use Rattle.http_port.specs.declared.head_reader.Fed.TheVariants.{NotYet, Interim, Request}
use Rattle.http_port.specs.Feeding.{Place, Open, Over, Spent, body_of, behind, next_in_body, next, Feeds}

-- what is given of a request whose interim line was given
abbrev in_body : List ℕ → Admission → Bool → Fed × Place
in_body bytes a short = cond short (NotYet, Open bytes a.interim) (Request (body_of bytes a) a.close, behind bytes a)

given_next : (bytes : List ℕ) (asked : Bool) (v : Verdict) (after : Place) → (Interim, after) ≡ next bytes asked v → after ≡ Open bytes true
given_next bytes asked Pending after e = let f = ap (λ x. x.0) e in absurd (cc)
given_next bytes asked (Refuses status) after e = let f = ap (λ x. x.0) e in absurd (cc)
given_next bytes asked (Admits a) after e = by_test (a.interim && not asked) e
  where
    by_body : (t : Bool) → (Interim, after) ≡ in_body bytes a t → after ≡ Open bytes true
    by_body true is = let f = ap (λ x. x.0) is in absurd (cc)
    by_body false is = let f = ap (λ x. x.0) is in absurd (cc)

    by_test : (t : Bool) → (Interim, after) ≡ cond t (Interim, Open bytes true) (next_in_body bytes a) → after ≡ Open bytes true
    by_test true is = ap (λ x. x.1) is
    by_test false is = by_body (nat_lt (length bytes) (a.head + a.body)) is

-- it is then behind that line
pub given_then : (before after : Place) (piece : List ℕ) → Feeds before piece Interim after → ∥ ((left : List ℕ) × (after ≡ Open left true)) ∥₁
given_then (Open left asked) after piece feeds = ∥∥₁_map feeds (λ g. (left ++ piece, given_next (left ++ piece) asked g.0 after g.2))
given_then Over after piece feeds = let f = feeds.0 in absurd (cc)
given_then Spent after piece feeds = absurd feeds

once_next : (bytes : List ℕ) (v : Verdict) (after : Place) → (Interim, after) ≡ next bytes true v → ⊥
once_next bytes Pending after e = let f = ap (λ x. x.0) e in cc
once_next bytes (Refuses status) after e = let f = ap (λ x. x.0) e in cc
once_next bytes (Admits a) after e = by_test a.interim e
  where
    by_body : (t : Bool) → (Interim, after) ≡ in_body bytes a t → ⊥
    by_body true is = let f = ap (λ x. x.0) is in cc
    by_body false is = let f = ap (λ x. x.0) is in cc

    by_test : (t : Bool) → (Interim, after) ≡ cond (t && not true) (Interim, Open bytes true) (next_in_body bytes a) → ⊥
    by_test true is = by_body (nat_lt (length bytes) (a.head + a.body)) is
    by_test false is = by_body (nat_lt (length bytes) (a.head + a.body)) is

-- and gives no second one of the same head
pub given_once : (left : List ℕ) (after : Place) (piece : List ℕ) → Feeds (Open left true) piece Interim after → ⊥
given_once left after piece feeds = ∥∥₁_elim feeds (λ x y. absurd x) (λ g. once_next (left ++ piece) g.0 after g.2)

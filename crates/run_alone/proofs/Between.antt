-- What a sweep adds to a legal history is between postings: no post and no collection, of sessions and of the worker.
use Rattle.std.proofs.Common.{◌≡◌, ◌<◌, ◌≤◌, ℕ, true, false, not, List, [], ◌∷◌, nat_eq, nat_le, nat_lt, refl, sym, ap, ◌∙◌, ⊎_elim, arith}
use Rattle.std.specs.List.{list_all, list_any}
use Rattle.std.proofs.lemmas.Bool.{and_from, and_parts, eq-eqb, eqb-true, false≢true, leb-true, ltb-true, or_cases, or_from, or_left, or_right}
use Rattle.office_core.specs.declared.history.Act.{Act}
use Rattle.office_core.specs.declared.history.Act.TheVariants as act
use Rattle.office_core.specs.declared.history.Entry.{Entry}
use Rattle.office_core.specs.Limits.{Setting, first_worker}
use Rattle.office_core.specs.Past.{Past, closes, is_running, some_entry}
use Rattle.office_core.specs.Accepted.{then_one}
use Rattle.office_core.specs.Legal.{AreLegal, is_allowed, is_at_work, is_collectable}
use Rattle.run_record.specs.Run.{alone, is_hand, is_of_hand}
use Rattle.run_cells.specs.Rounds.{is_by_session}
use Rattle.run_posts.proofs.Opening.{is_between}
use Rattle.run_sweep.specs.Swept.{is_errand, is_swept}
use Rattle.run_trip_laws.specs.Going.{is_inward}

-- an entry
abbrev entry : ℕ → Act → Entry
entry n a = record { actor = n; act = a }

-- a session is no worker
no_worker : (n : ℕ) → nat_lt n first_worker ≡ true → nat_le first_worker n ≡ true → ⊥
no_worker n less most =
    let a : n < first_worker = ltb-true n first_worker less in
    let b : first_worker ≤ n = leb-true first_worker n most in
    omega (arith, a, b)

-- what is swept is of a session or of the worker
hand_of : (n : ℕ) (a : Act) → is_swept (entry n a) ≡ true → is_of_hand alone (entry n a) ≡ true
hand_of n a h =
    ⊎_elim
    (λ (session : nat_lt n first_worker ≡ true). or_left (nat_lt n first_worker) (is_hand alone n) session)
    (λ (errand : is_errand (entry n a) ≡ true).
    or_right (nat_lt n first_worker) (is_hand alone n)
    (eq-eqb n first_worker
    (sym (eqb-true first_worker n (and_parts (nat_eq first_worker n) (not (is_inward (entry n a))) errand).0))))
    (or_cases (is_by_session (entry n a)) (is_errand (entry n a)) h)

-- what only a worker may do, and no errand is, is not swept
not_swept : (n : ℕ) (a : Act) → is_inward (entry n a) ≡ true → nat_le first_worker n ≡ true
    → is_swept (entry n a) ≡ true → ⊥
not_swept n a inward worker h =
    ⊎_elim
    (λ (session : nat_lt n first_worker ≡ true). no_worker n session worker)
    (λ (errand : is_errand (entry n a) ≡ true).
    false≢true (sym (ap not inward)
    ∙ (and_parts (nat_eq first_worker n) (not (is_inward (entry n a))) errand).1))
    (or_cases (is_by_session (entry n a)) (is_errand (entry n a)) h)

one_between : (w : Setting) (past : Past) (n : ℕ) (a : Act) → is_allowed w past n a ≡ true
    → is_swept (entry n a) ≡ true → is_between (entry n a) ≡ true
one_between w past n (act.Post j i q r) allowed swept =
    absurd (not_swept n (act.Post j i q r) refl (and_parts (is_running past) (nat_le first_worker n) allowed).1 swept)
one_between w past n (act.Collect m o) allowed swept =
    absurd (not_swept n (act.Collect m o) refl (and_parts (nat_le first_worker n) (is_collectable past n m) allowed).0 swept)
one_between w past n a allowed swept = and_from (is_of_hand alone (entry n a)) true (hand_of n a swept) refl

pub swept_between : (w : Setting) (past : Past) (es : List Entry) → AreLegal w past es → list_all is_swept es ≡ true
    → list_all is_between es ≡ true
swept_between w past [] legal swept = refl
swept_between w past (e ∷ es) legal swept =
    let both = and_parts (is_swept e) (list_all is_swept es) swept in
    and_from (is_between e) (list_all is_between es)
    (one_between w past e.actor e.act (legal.0).allowed both.0)
    (swept_between w (then_one w past e) es legal.1 both.1)

-- the input is not closed by it
one_unclosed : (w : Setting) (past : Past) (n : ℕ) (a : Act) → is_allowed w past n a ≡ true
    → is_swept (entry n a) ≡ true → closes (entry n a) ≡ false
one_unclosed w past n act.Close allowed swept =
    absurd (not_swept n act.Close refl (and_parts (is_running past) (nat_le first_worker n)
    (and_parts (is_at_work past n) (not (some_entry past closes)) allowed).0).1 swept)
one_unclosed w past n a allowed swept = refl

pub swept_unclosed : (w : Setting) (past : Past) (es : List Entry) → AreLegal w past es → list_all is_swept es ≡ true
    → list_any closes es ≡ false
swept_unclosed w past [] legal swept = refl
swept_unclosed w past (e ∷ es) legal swept =
    let both = and_parts (is_swept e) (list_all is_swept es) swept in
    or_from (closes e) (list_any closes es) (one_unclosed w past e.actor e.act (legal.0).allowed both.0)
    (swept_unclosed w (then_one w past e) es legal.1 both.1)

-- so are the adoptions of sessions
adoption_swept : (n : ℕ) (a : Act) → nat_lt n first_worker ≡ true → is_swept (entry n a) ≡ true
adoption_swept n a h = or_left (nat_lt n first_worker) (is_errand (entry n a)) h

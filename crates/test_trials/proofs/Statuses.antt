-- Statuses by the causes that came, and statuses that no run has.
use Rattle.std.proofs.Common.{◌≡◌, ◌≢◌, ℕ, suc, ◌+◌, ◌-◌, ◌^◌, ◌≤◌, min, Bool, true, false, None, refl, sym, ◌∙◌, true≢false, arith}
use Rattle.std.specs.Prelude.{nat_eq}
use Rattle.std.specs.Cmp.{unsigned_Decides}
use Rattle.outside_traits.specs.Causes.{Rose}
use Rattle.outside_doors.specs.Counts.{no_tally}
use Rattle.run_theorem.specs.Statuses.{Failed, status_of}
use Rattle.run_theorem.specs.Theorem.{Outside, Around, HasStatus}

-- ---- the causes

-- an outside of which the source, the output, the notes and the doors failed so often
abbrev outside : ℕ → ℕ → ℕ → ℕ → Outside
outside source output notes doors = record {
  source = record { unread = None; faults = source };
  output = record { written = None; faults = output };
  notes = record { written = None; faults = notes };
  doors = record { faults = doors; tally = no_tally; tries = None; returned = None; returned_doors = None };
  link = record { trips = None; coming = None; faults = 0 };
}

-- a run in which they did
abbrev pub failed : ℕ → ℕ → ℕ → ℕ → Around
failed source output notes doors = record { before = outside 0 0 0 0; now = outside source output notes doors }

pub rose : Rose 0 1
rose = omega arith

pub stood : Rose 0 0 → ⊥
stood h = absurd (omega (arith, h))

-- numbers that are found to differ do
differ : (m n : ℕ) → nat_eq m n ≡ false → m ≢ n
differ m n e h = true≢false (sym ((unsigned_Decides m n).1 h) ∙ e)

-- ---- statuses that runs have

pub nothing_failed : HasStatus (failed 0 0 0 0) ⊥ 0
nothing_failed = record {
  causes = record { source = false; output = false; notes = false; doors = false; spent = false };
  source = refl;
  output = refl;
  notes = refl;
  doors = refl;
  spent = (λ e. true≢false (sym e), λ more. absurd more);
  is = refl;
}

pub session_spent : HasStatus (failed 0 0 0 0) (Unit {0}) 6
session_spent = record {
  causes = record { source = false; output = false; notes = false; doors = false; spent = true };
  source = refl;
  output = refl;
  notes = refl;
  doors = refl;
  spent = (λ e. tt, λ more. refl);
  is = refl;
}

-- the source's is the first
pub source_failed : HasStatus (failed 1 1 1 1) (Unit {0}) 4
source_failed = record {
  causes = record { source = true; output = true; notes = true; doors = true; spent = true };
  source = rose;
  output = rose;
  notes = rose;
  doors = rose;
  spent = (λ e. tt, λ more. refl);
  is = refl;
}

pub output_failed : HasStatus (failed 0 1 0 1) (Unit {0}) 5
output_failed = record {
  causes = record { source = false; output = true; notes = false; doors = true; spent = true };
  source = refl;
  output = rose;
  notes = refl;
  doors = rose;
  spent = (λ e. tt, λ more. refl);
  is = refl;
}

pub notes_failed : HasStatus (failed 0 0 1 0) (Unit {0}) 5
notes_failed = record {
  causes = record { source = false; output = false; notes = true; doors = false; spent = true };
  source = refl;
  output = refl;
  notes = rose;
  doors = refl;
  spent = (λ e. tt, λ more. refl);
  is = refl;
}

-- a session that used its budget is not told of then
pub doors_failed : HasStatus (failed 0 0 0 1) (Unit {0}) 7
doors_failed = record {
  causes = record { source = false; output = false; notes = false; doors = true; spent = true };
  source = refl;
  output = refl;
  notes = refl;
  doors = rose;
  spent = (λ e. tt, λ more. refl);
  is = refl;
}

-- ---- statuses that they do not have

-- what failed once did, and what did not did not
fell : (b : Bool) → Failed b 0 1 → b ≡ true
fell true h = refl
fell false h = let clash : 1 ≡ 0 = h in absurd (differ 1 0 refl clash)

stayed : (b : Bool) → Failed b 0 0 → b ≡ false
stayed true h = absurd (stood h)
stayed false h = refl

-- the status of a run whose causes are these
by_causes : (s o n d m : Bool) (status : ℕ) (a : Around) (IsMore : Type 0) (r : HasStatus a IsMore status)
    → r.causes.source ≡ s → r.causes.output ≡ o → r.causes.notes ≡ n → r.causes.doors ≡ d → r.causes.spent ≡ m
    → status ≡ status_of (record { source = s; output = o; notes = n; doors = d; spent = m })
by_causes s o n d m status a IsMore r is io in_ id im = r.is ∙ rw (is, io, in_, id, im) refl

pub spoilt_budget_not_told : HasStatus (failed 0 0 0 0) (Unit {0}) 0 → ⊥
spoilt_budget_not_told r =
    differ 0 6 refl (by_causes false false false false true 0 (failed 0 0 0 0) (Unit {0}) r (stayed r.causes.source r.source)
    (stayed r.causes.output r.output) (stayed r.causes.notes r.notes) (stayed r.causes.doors r.doors) (r.spent.1 tt))

pub spoilt_budget_without_a_session : HasStatus (failed 0 0 0 0) ⊥ 6 → ⊥
spoilt_budget_without_a_session r =
    by r.causes.spent refl
  where
    by : (m : Bool) → r.causes.spent ≡ m → ⊥
    by true e = r.spent.0 e
    by false e =
        differ 6 0 refl (by_causes false false false false false 6 (failed 0 0 0 0) ⊥ r (stayed r.causes.source r.source)
        (stayed r.causes.output r.output) (stayed r.causes.notes r.notes) (stayed r.causes.doors r.doors) e)

pub spoilt_source_not_told : HasStatus (failed 1 0 0 0) (Unit {0}) 0 → ⊥
spoilt_source_not_told r =
    differ 0 4 refl (by_causes true false false false true 0 (failed 1 0 0 0) (Unit {0}) r (fell r.causes.source r.source)
    (stayed r.causes.output r.output) (stayed r.causes.notes r.notes) (stayed r.causes.doors r.doors) (r.spent.1 tt))

pub spoilt_output_before_the_source : HasStatus (failed 1 1 0 0) (Unit {0}) 5 → ⊥
spoilt_output_before_the_source r =
    differ 5 4 refl (by_causes true true false false true 5 (failed 1 1 0 0) (Unit {0}) r (fell r.causes.source r.source)
    (fell r.causes.output r.output) (stayed r.causes.notes r.notes) (stayed r.causes.doors r.doors) (r.spent.1 tt))

pub spoilt_source_without_a_fault : HasStatus (failed 0 1 0 0) (Unit {0}) 4 → ⊥
spoilt_source_without_a_fault r =
    differ 4 5 refl (by_causes false true false false true 4 (failed 0 1 0 0) (Unit {0}) r (stayed r.causes.source r.source)
    (fell r.causes.output r.output) (stayed r.causes.notes r.notes) (stayed r.causes.doors r.doors) (r.spent.1 tt))

pub spoilt_output_without_a_fault : HasStatus (failed 0 0 0 1) (Unit {0}) 5 → ⊥
spoilt_output_without_a_fault r =
    differ 5 7 refl (by_causes false false false true true 5 (failed 0 0 0 1) (Unit {0}) r (stayed r.causes.source r.source)
    (stayed r.causes.output r.output) (stayed r.causes.notes r.notes) (fell r.causes.doors r.doors) (r.spent.1 tt))

pub spoilt_doors_before_the_notes : HasStatus (failed 0 0 1 1) (Unit {0}) 7 → ⊥
spoilt_doors_before_the_notes r =
    differ 7 5 refl (by_causes false false true true true 7 (failed 0 0 1 1) (Unit {0}) r (stayed r.causes.source r.source)
    (stayed r.causes.output r.output) (fell r.causes.notes r.notes) (fell r.causes.doors r.doors) (r.spent.1 tt))

pub spoilt_doors_not_told : HasStatus (failed 0 0 0 1) (Unit {0}) 6 → ⊥
spoilt_doors_not_told r =
    differ 6 7 refl (by_causes false false false true true 6 (failed 0 0 0 1) (Unit {0}) r (stayed r.causes.source r.source)
    (stayed r.causes.output r.output) (stayed r.causes.notes r.notes) (fell r.causes.doors r.doors) (r.spent.1 tt))

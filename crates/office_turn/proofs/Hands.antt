-- The office in the hand of a seat, lent to a call and as it comes back.
use Rattle.std.proofs.Common.{◌≡◌, ℕ, ◌<◌, Bool, true, false, List, [], ◌∷◌, ◌++◌, Option, None, Some, length, refl, ap, sym, subst, ◌∙◌, arith}
use Rattle.std.specs.Prelude.{IfOk, IfSome, OnErr, Result}
use Rattle.std.specs.declared.alloc.AllocError.{AllocError}
use Rattle.std.specs.declared.result.Result.TheVariants as result
use Rattle.atomic_table.specs.Table.{Me, rest}
use Rattle.behaviour_tree.specs.Data.{ProgramParts}
use Rattle.behaviour_tree.specs.PartsView.{parts_of}
use Rattle.office_core.specs.declared.history.Entry.{Entry}
use Rattle.office_core.specs.Limits.{Setting, run_of}
use Rattle.office_core.specs.Past.{Past}
use Rattle.office_core.specs.Accepted.{past_of}
use Rattle.office_plain.specs.declared.office.Office.{Office}
use Rattle.office_plain.specs.View.{Adds, entries_of, past_in, setting_of, with_entry}
use Rattle.office_sharing.specs.declared.view.View.{View}
use Rattle.office_sharing.specs.Rule.{HasHistory}
use Rattle.office_sharing.specs.Plays.{InHand, in_hand}
use Rattle.office_turn.specs.Hands.{Did, HasOffice}

-- there are few entries in an office
pub few : (o : Office) → length (entries_of o) < 9223372036854775808
few o = omega (arith, o.log.history.entries.ok, o.log.history.entries.small)

module _ {parts : ProgramParts} {log : List Entry} where
  -- the history of the office in the hand
  pub hand_log : (m : Me Office View) → InHand parts log m → in_hand m.1 ≡ log
  hand_log m h = ap in_hand h.hand ∙ h.has.entries

  -- the same office, with the history that it has
  pub as_office : (m : Me Office View) → InHand parts log m → HasOffice parts m
  as_office m h = subst (λ l. InHand parts l m) (sym (hand_log m h)) h

  -- what holds of a run of the program and the history, holds of the office
  pub of_office : (P : Setting → Past → Type 0) (o : Office) → HasHistory parts log o → P (run_of parts) (past_of (run_of parts) log)
      → P (setting_of o) (past_in o)
  of_office P o has h =
      subst (λ p. P (run_of p) (past_of (run_of p) (entries_of o))) (sym has.program)
      (subst (λ l. P (run_of parts) (past_of (run_of parts) l)) (sym has.entries) h)

  -- and the other way
  pub of_run : (P : Setting → Past → Type 0) (o : Office) → HasHistory parts log o → P (setting_of o) (past_in o)
      → P (run_of parts) (past_of (run_of parts) log)
  of_run P o has h =
      subst (λ l. P (run_of parts) (past_of (run_of parts) l)) has.entries
      (subst (λ p. P (run_of p) (past_of (run_of p) (entries_of o))) has.program h)

-- ---- the office is lent

abbrev office_at : Office → List (ℕ × Office) → Office
office_at o [] = o
office_at o (x ∷ xs) = x.1

module _ {parts : ProgramParts} (m : Me Office View) (h : HasOffice parts m) where
  -- there is an office to lend
  pub lent_hand : (o : Office) × (m.1 ≡ (0, o) ∷ rest m.1)
  lent_hand = (h.office, h.hand ∙ ap (λ (r : List (ℕ × Office)). (0, h.office) ∷ r) (sym (ap rest h.hand)))

  module _ (old : Office) (is : m.1 ≡ (0, old) ∷ rest m.1) where
    -- what was lent is the office in the hand
    pub lent_has : HasHistory parts (in_hand m.1) old
    lent_has = record {
      program = ap (λ (l : List (ℕ × Office)). parts_of (office_at old l).program) (sym is ∙ h.hand) ∙ h.has.program;
      entries = sym (ap in_hand is);
    }

    module _ (new : Office) where
      -- a call that added an entry, where there is one
      pub did : (more : Option Entry) → Adds more old new → Did parts more m (m.0, (0, new) ∷ rest m.1)
      did more a = record {
        view = refl;
        hand = record {
          office = new;
          hand = ap (λ (l : List (ℕ × Office)). (0, new) ∷ l) (ap rest h.hand);
          has = record {
            program = a.program ∙ lent_has.program;
            entries = a.entries ∙ ap (λ es. with_entry es more) lent_has.entries;
          };
        };
      }

      -- where the call succeeds
      pub did_ok : {T : Type 0} (more : T → Option Entry) (q : Result T AllocError) → IfOk q (λ x. Adds (more x) old new)
          → IfOk q (λ x. Did parts (more x) m (m.0, (0, new) ∷ rest m.1))
      did_ok more (result.Ok x) a = did (more x) a
      did_ok more (result.Err e) a = tt

      -- where memory was wanting
      pub did_err : {T : Type 0} (q : Result T AllocError) → OnErr q (Adds None old new)
          → OnErr q (Did parts None m (m.0, (0, new) ∷ rest m.1))
      did_err (result.Ok x) a = tt
      did_err (result.Err e) a = did None a

-- an office that was only looked at
pub as_lent : (m : Me Office View) (o : Office) → m.1 ≡ (0, o) ∷ rest m.1 → (m.0, (0, o) ∷ rest m.1) ≡ m
as_lent m o is = ap (λ (l : List (ℕ × Office)). (m.0, l)) (sym is)

-- Texts that are noted to a front, one after the other.
use Rattle.std.proofs.Common.{◌≡◌, ◌⊎◌, ℕ, ◌≤◌, true, List, [], ◌++◌, refl, sym}
use Rattle.std.proofs.Common.{ap, ◌∙◌, inl, inr, le_refl, append_assoc, append-nil, arith, Result, Ok, Err}
use Rattle.std.proofs.Common.{MatchResult, IsErrAnd}
use Rattle.outside_traits.specs.Causes.{Rose}
use Rattle.behaviour_tree.specs.Data.{ProgramParts}
use Rattle.run_theorem.specs.Exchange.{Sent, Exchange}
use Rattle.run_theorem.specs.Calls.{Halts, Notes}
use Rattle.office_core.specs.declared.history.Entry.{Entry}
use Rattle.office_core.specs.Limits.{Setting}
use Rattle.run_sweep.specs.Swept.{PassedOn, NotesBy, NotesMore}

rose_later : (a b c : ℕ) → Rose a b → b ≤ c → Rose a c
rose_later a b c h g = omega arith

rose_sooner : (a b c : ℕ) → a ≤ b → Rose b c → Rose a c
rose_sooner a b c h g = omega arith

le_both : (a b c : ℕ) → a ≤ b → b ≤ c → a ≤ c
le_both a b c h g = omega arith

-- it halted nowhere
halts_not : (s : Sent) → Halts s s
halts_not s = record { cause = λ h. inl h; unfailed = λ h. (h, refl); faults = le_refl s.faults }

-- it halted in the one or in the other
halts_on : (a b c : Sent) → Halts a b → Halts b c → Halts a c
halts_on a b c x y =
    record {
      cause = λ h. elim
          (y.cause h) [ inl g ↦ before (x.cause g) | inr g ↦ inr (rose_sooner a.faults b.faults c.faults x.faults g) ];
      unfailed = λ h. ((x.unfailed (y.unfailed h).0).0, (y.unfailed h).1 ∙ (x.unfailed (y.unfailed h).0).1);
      faults = le_both a.faults b.faults c.faults x.faults y.faults;
    }
  where
    before : (a.halted ≡ true) ⊎ Rose a.faults b.faults → (a.halted ≡ true) ⊎ Rose a.faults c.faults
    before (inl g) = inl g
    before (inr g) = inr (rose_later a.faults b.faults c.faults g y.faults)

-- nothing was noted
pub notes_none : (d : Exchange) → d.sent.notes_failed ≡ d.sent.halted → NotesMore d d
notes_none d notes_failed =
    record {
      text = [];
      notes = record {
        told = refl;
        noted = sym (append-nil d.sent.noted);
        notes_failed = notes_failed;
        halts = halts_not d.sent;
        received = refl;
      };
    }

-- one text was noted
pub notes_one : (text : List ℕ) (a b : Exchange) → Notes text a b → NotesMore a b
notes_one text a b x = record { text = text; notes = x }

-- some texts were noted, and then some more
pub notes_on : (a b c : Exchange) → NotesMore a b → NotesMore b c → NotesMore a c
notes_on a b c x y =
    record {
      text = x.text ++ y.text;
      notes = record {
        told = y.notes.told ∙ x.notes.told;
        noted = y.notes.noted ∙ ap (λ n. n ++ y.text) x.notes.noted ∙ append_assoc a.sent.noted x.text y.text;
        notes_failed = y.notes.notes_failed;
        halts = halts_on a.sent b.sent c.sent x.notes.halts y.notes.halts;
        received = y.notes.received ∙ x.notes.received;
      };
    }

-- then no answer halted it
pub notes_mute : (w : Setting) (old new : List Entry) (a b : Exchange) → NotesBy w old new a b
    → b.sent.notes_failed ≡ b.sent.halted
notes_mute w old new a b n = (n.0).notes.notes_failed

-- nothing passed
pub passed_none : {F : Type 0} (exchanged : ProgramParts → F → F → Exchange → Type 0) (front : F)
    (P : Exchange → Exchange → Type 0)
    → ((d : Exchange) → d.sent.notes_failed ≡ d.sent.halted → P d d) → PassedOn exchanged front front P
passed_none exchanged front P none parts first before d notes_failed = (before, d, none before notes_failed)

-- what passed first, by which no answer halted it, and then
pub passed_on : {F : Type 0} (exchanged : ProgramParts → F → F → Exchange → Type 0) (old mid new : F)
    (P Q R : Exchange → Exchange → Type 0)
    → PassedOn exchanged old mid P → PassedOn exchanged mid new Q → ((a b : Exchange) → P a b → b.sent.notes_failed ≡ b.sent.halted)
    → ((a b c : Exchange) → P a b → Q b c → R a c) → PassedOn exchanged old new R
passed_on exchanged old mid new P Q R x y keeps join parts first before d notes_failed =
    let one = x parts first before d notes_failed in
    let two = y parts first one.0 one.1 (keeps before one.0 one.2) in
    (two.0, two.1, join before one.0 two.0 one.2 two.2)

-- what passed says less
pub passed_as : {F : Type 0} (exchanged : ProgramParts → F → F → Exchange → Type 0) (old new : F)
    (P Q : Exchange → Exchange → Type 0)
    → PassedOn exchanged old new P → ((a b : Exchange) → P a b → Q a b) → PassedOn exchanged old new Q
passed_as exchanged old new P Q x imply parts first before d notes_failed =
    let one = x parts first before d notes_failed in
    (one.0, one.1, imply before one.0 one.2)

-- what holds both where a call succeeds and where it fails
pub both_ways : {T E : Type 0} {A B : Type 0} (r : Result T E) → A → B → MatchResult r (λ _. A) (λ _. B)
both_ways (Ok x) a b = a
both_ways (Err e) a b = b

-- what holds where a call failed
pub failing : {T E B : Type 0} (A : Type 0) (Q : E → Type 0) (r : Result T E) → IsErrAnd r Q → B
    → MatchResult r (λ _. A) (λ _. B)
failing A Q (Ok x) h b = absurd h
failing A Q (Err y) h b = b

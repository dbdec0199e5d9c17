-- What the calls of an office that is ready are at its desk.
use Rattle.std.proofs.Common.{◌≡◌, ℕ, Bool, true, false, not, ◌||◌, List, [], ◌∷◌, ◌++◌, Option, None, Some, is_some, Result, Ok, Err, refl, sym, ap, subst, ◌∙◌}
use Rattle.std.specs.Prelude.{IfOk, IfSome, MatchOption, OnErr, OnOk}
use Rattle.std.specs.List.{list_any}
use Rattle.std.proofs.lemmas.Bool.{and_parts}
use Rattle.behaviour_tree.specs.declared.words.Need.{Need}
use Rattle.behaviour_tree.specs.declared.words.Outcome.{Outcome}
use Rattle.behaviour_tree.specs.Data.{ProgramParts}
use Rattle.behaviour_tree.specs.PartsView.{parts_of}
use Rattle.office_core.specs.declared.history.Act.{Act}
use Rattle.office_core.specs.declared.history.Act.TheVariants as act
use Rattle.office_core.specs.declared.history.Entry.{Entry}
use Rattle.office_core.specs.declared.history.Placed.{Placed}
use Rattle.office_core.specs.declared.post.Mail.{Mail}
use Rattle.office_core.specs.Limits.{Setting, run_of}
use Rattle.office_core.specs.Past.{Past, is_running, nothing_yet, stops}
use Rattle.office_core.specs.Boxes.{queue}
use Rattle.office_core.specs.Calls.{result}
use Rattle.office_core.specs.Keys.{first}
use Rattle.office_core.specs.Accepted.{past_of, then_all, then_one}
use Rattle.office_core.specs.Legal.{AreLegal, IsLegal, IsLegalEntry, is_acting}
use Rattle.office_plain.specs.Entries.{answer_entry, entry, take_entry}
use Rattle.office_plain.specs.Replies.{next_mail}
use Rattle.office_plain.specs.declared.office.Office.{Office}
use Rattle.office_plain.specs.View.{Adds, entries_of, past_in, setting_of, with_entry}
use Rattle.session_turn.specs.Asking.{is_at_work, may_call, meets}
use Rattle.session_turn.specs.Seen.{Called, FoundNone, Grew, HasNone, Took, seat}
use Rattle.session_turn.proofs.Growing.{grew_not}
use Rattle.session_turn.proofs.Histories.{any_last, some_of}
use Rattle.session_turn.specs.Passes.{IsReady, office_alone}
use Rattle.session_turn.proofs.Acting.{acts}
use Rattle.session_turn.proofs.Finding.{Waits, none_waits, some_waits, waits_first}

-- ---- the office of a program

module _ (parts : ProgramParts) (o : Office) (program : parts_of o.program ≡ parts) where
  -- what holds of a run of the program and the history, holds of the office
  pub of_office : (P : Setting → Past → Type 0) → P (run_of parts) (past_of (run_of parts) (entries_of o))
      → P (setting_of o) (past_in o)
  of_office P h = subst (λ p. P (run_of p) (past_of (run_of p) (entries_of o))) (sym program) h

  -- and the other way
  pub of_run : (P : Setting → Past → Type 0) → P (setting_of o) (past_in o)
      → P (run_of parts) (past_of (run_of parts) (entries_of o))
  of_run P h = subst (λ p. P (run_of p) (past_of (run_of p) (entries_of o))) program h

  -- its history is legal
  pub legal_run : IsLegal (run_of parts) (entries_of o)
  legal_run = subst (λ p. IsLegal (run_of p) (entries_of o)) program o.legal

-- ---- the last entry of a legal history

last_after : (w : Setting) (past : Past) (es : List Entry) (e : Entry) → AreLegal w past (es ++ e ∷ [])
    → IsLegalEntry w (then_all w past es) e
last_after w past [] e h = h.0
last_after w past (d ∷ es) e h = last_after w (then_one w past d) es e h.1

pub last_legal : (w : Setting) (h : List Entry) (e : Entry) → IsLegal w (h ++ e ∷ []) → IsLegalEntry w (past_of w h) e
last_legal w h e legal = last_after w nothing_yet h e legal

-- ---- what the office asks

module _ {parts : ProgramParts} {o : Office} (s : ℕ) (n : Need) (r : IsReady parts o) where
  -- a session that may call acts
  pub acts_in : may_call (seat (office_alone parts) s) (entries_of o) n ≡ true
      → is_acting (setting_of o) (past_in o) s ≡ true
  acts_in may =
      let past : Past = past_of (run_of parts) (entries_of o) in
      of_office parts o r.program (λ w past. is_acting w past s ≡ true)
      (acts (run_of parts) (entries_of o) s (legal_run parts o r.program)
      (of_run parts o r.program (λ w past. is_running past ≡ true) r.running)
      (and_parts (is_at_work past s) (meets (run_of parts) past s n) may).0)

  -- and meets what the call asks beside that
  pub meets_in : may_call (seat (office_alone parts) s) (entries_of o) n ≡ true
      → meets (setting_of o) (past_in o) s n ≡ true
  meets_in may =
      let past : Past = past_of (run_of parts) (entries_of o) in
      of_office parts o r.program (λ w past. meets w past s n ≡ true)
      (and_parts (is_at_work past s) (meets (run_of parts) past s n) may).1

-- ---- what the office adds

unstopped : (w v : Setting) (h : List Entry) (more : Option Entry) → IfSome more (λ e. stops e ≡ false)
    → is_running (past_of w h) ≡ true → is_running (past_of v (with_entry h more)) ≡ true
unstopped w v h None others runs = ap not (some_of v h stops ∙ sym (some_of w h stops)) ∙ runs
unstopped w v h (Some e) other runs =
    ap not (some_of v (h ++ e ∷ []) stops ∙ any_last stops h e ∙ or_false (list_any stops h) (stops e) other
    ∙ sym (some_of w h stops))
    ∙ runs
  where
    or_false : (a b : Bool) → b ≡ false → (a || b) ≡ a
    or_false true b g = refl
    or_false false b g = g

module _ {parts : ProgramParts} {old : Office} (new : Office) where
  -- an office to which a call was added that stops nothing is ready
  pub ready_after : (more : Option Entry) → IfSome more (λ e. stops e ≡ false) → IsReady parts old → Adds more old new
      → new.spent ≡ false → IsReady parts new
  ready_after more other r a ready = record {
    program = a.program ∙ r.program;
    ready = ready;
    running = subst (λ h. is_running (past_of (setting_of new) h) ≡ true) (sym a.entries)
        (unstopped (setting_of old) (setting_of new) (entries_of old) more other r.running);
  }

  -- where a call succeeds
  pub ready_ok : {A E : Type 0} (q : Result A E) (more : A → Option Entry)
      → ((x : A) → IfSome (more x) (λ e. stops e ≡ false)) → IsReady parts old → IfOk q (λ x. Adds (more x) old new)
      → OnOk q (new.spent ≡ false) → OnOk q (IsReady parts new)
  ready_ok (Ok x) more other r a ready = ready_after (more x) (other x) r a ready
  ready_ok (Err e) more other r a ready = tt

module _ (parts : ProgramParts) (s : ℕ) (old new : Office) where
  -- nothing is added, and nothing more is seen
  pub grew_none : Adds None old new → Grew (seat (office_alone parts) s) (entries_of old) (entries_of new)
  grew_none a = subst (Grew (seat (office_alone parts) s) (entries_of old)) (sym a.entries) (grew_not (entries_of old))

  -- where memory is wanting
  pub grew_err : {A E : Type 0} (q : Result A E) → OnErr q (Adds None old new)
      → OnErr q (Grew (seat (office_alone parts) s) (entries_of old) (entries_of new))
  grew_err (Ok x) a = tt
  grew_err (Err e) a = grew_none a

module _ {parts : ProgramParts} (s : ℕ) {old : Office} (new : Office) where
  -- a call is added, with its reply
  pub called : (call : Act) → IsReady parts old → Adds (Some (entry s call)) old new
      → Called (seat (office_alone parts) s) (entries_of old) (entries_of new) call
  called call r a = record {
    before = entries_of old;
    grew = grew_not (entries_of old);
    reply = (last_legal (run_of parts) (entries_of old) (entry s call)
        (subst (IsLegal (run_of parts)) a.entries (legal_run parts new (a.program ∙ r.program)))).reply;
    is = a.entries;
  }

  -- where a call succeeds
  pub called_ok : {A E : Type 0} (q : Result A E) (call : A → Act) → IsReady parts old
      → IfOk q (λ x. Adds (Some (entry s (call x))) old new)
      → IfOk q (λ x. Called (seat (office_alone parts) s) (entries_of old) (entries_of new) (call x))
  called_ok (Ok x) call r a = called (call x) r a
  called_ok (Err e) call r a = tt

  -- where a send succeeds, it is placed somewhere
  pub sent_ok : {A E : Type 0} (q : Result A E) (send : Placed → Act) (to : Placed) → IsReady parts old
      → OnOk q (Adds (Some (entry s (send to))) old new)
      → OnOk q ((p : Placed) × Called (seat (office_alone parts) s) (entries_of old) (entries_of new) (send p))
  sent_ok (Ok x) send to r a = (to, called (send to) r a)
  sent_ok (Err e) send to r a = tt

  -- no message was there to take
  pub found_none : (ops : List ℕ) → IsReady parts old → None ≡ next_mail (past_in old) s ops → Adds None old new
      → FoundNone (seat (office_alone parts) s) ops (entries_of old) (entries_of new)
  found_none ops r m a = record {
    grew = grew_none parts s old new a;
    empty = subst (λ h. queue (past_of (run_of parts) h) s ops ≡ []) (sym a.entries)
        (of_run parts old r.program (λ w past. queue past s ops ≡ []) (none_waits (past_in old) s ops (sym m)));
  }

  -- the first message that waited was taken
  pub took_first : (ops : List ℕ) (mail : Mail) → IsReady parts old → Some mail ≡ next_mail (past_in old) s ops
      → Adds (Some (entry s (act.Take mail.message))) old new
      → Took (seat (office_alone parts) s) ops (entries_of old) (entries_of new) mail
  unfolding called
  took_first ops mail r m a =
      let x : Waits (past_of (run_of parts) (entries_of old)) s ops mail
      = of_run parts old r.program (λ w past. Waits past s ops mail) (waits_first (past_in old) s ops mail m) in
      record {
        called = called (act.Take mail.message) r a;
        first = x.first;
        message = x.message;
        is = x.there;
        op = x.op;
        value = x.value;
      }

  pub taken_ok : {E : Type 0} (ops : List ℕ) (q : Result (Option Mail) E) → IsReady parts old
      → IfOk q (λ m. m ≡ next_mail (past_in old) s ops) → IfOk q (λ m. Adds (take_entry s m) old new)
      → IfOk q (λ m. MatchOption m (FoundNone (seat (office_alone parts) s) ops (entries_of old) (entries_of new))
      (Took (seat (office_alone parts) s) ops (entries_of old) (entries_of new)))
  taken_ok ops (Ok None) r m a = found_none ops r m a
  taken_ok ops (Ok (Some mail)) r m a = took_first ops mail r m a
  taken_ok ops (Err e) r m a = tt

  -- the call has no outcome
  pub has_none : (k : ℕ) → IsReady parts old → None ≡ result (setting_of old) (past_in old) s k → Adds None old new
      → HasNone (seat (office_alone parts) s) k (entries_of old) (entries_of new)
  has_none k r m a = record {
    grew = grew_none parts s old new a;
    none = subst (λ h. result (run_of parts) (past_of (run_of parts) h) s k ≡ None) (sym a.entries)
        (of_run parts old r.program (λ w past. result w past s k ≡ None) (sym m));
  }

  pub answered_ok : {E : Type 0} (k : ℕ) (q : Result (Option Outcome) E) → IsReady parts old
      → IfOk q (λ m. m ≡ result (setting_of old) (past_in old) s k) → IfOk q (λ m. Adds (answer_entry s k m) old new)
      → IfOk q (λ m. MatchOption m (HasNone (seat (office_alone parts) s) k (entries_of old) (entries_of new))
      (λ x. Called (seat (office_alone parts) s) (entries_of old) (entries_of new) (act.Answer k x)))
  answered_ok k (Ok None) r m a = has_none k r m a
  answered_ok k (Ok (Some x)) r m a = called (act.Answer k x) r a
  answered_ok k (Err e) r m a = tt

-- a take and an answer that is taken stop nothing
pub take_unstopped : (s : ℕ) (m : Option Mail) → IfSome (take_entry s m) (λ e. stops e ≡ false)
take_unstopped s None = tt
take_unstopped s (Some m) = refl

pub answer_unstopped : (s k : ℕ) (m : Option Outcome) → IfSome (answer_entry s k m) (λ e. stops e ≡ false)
answer_unstopped s k None = tt
answer_unstopped s k (Some m) = refl

module _ {parts : ProgramParts} (s : ℕ) {o : Office} where
  -- a look tells whether a message waits
  pub mail_there : (ops : List ℕ) (b : Bool) → IsReady parts o → b ≡ is_some (next_mail (past_in o) s ops)
      → b ≡ is_some (first (queue (past_of (run_of parts) (entries_of o)) s ops))
  mail_there ops b r e =
      of_run parts o r.program (λ w past. b ≡ is_some (first (queue past s ops))) (e ∙ some_waits (past_in o) s ops)

  -- and whether the call has an outcome
  pub outcome_there : (k : ℕ) (b : Bool) → IsReady parts o → b ≡ is_some (result (setting_of o) (past_in o) s k)
      → b ≡ is_some (result (run_of parts) (past_of (run_of parts) (entries_of o)) s k)
  outcome_there k b r e = of_run parts o r.program (λ w past. b ≡ is_some (result w past s k)) e

-- A session that takes messages goes on so, and may answer what it took.
use Rattle.std.proofs.Common.{◌≡◌, ℕ, ◌+◌, ◌≤◌, ◌<◌, Bool, true, false, not, ◌&&◌, ◌||◌, List, [], ◌∷◌, ◌++◌, length, Option, None, Some, if◌then◌else◌, nat_eq, option_map, slice_get, Result, Ok, Err, refl, sym, ap, subst, ◌∙◌, append_assoc, arith}
use Rattle.std.specs.Prelude.{IfOk, IfSome, OnErr}
use Rattle.std.specs.List.{list_any}
use Rattle.std.proofs.lemmas.Bool.{and_from}
use Rattle.std.proofs.lemmas.List.{append-nil}
use Rattle.std.proofs.lemmas.Option.{none-some, same_Some}
use mathlib.Core.List.{IsPrefix}
use Rattle.behaviour_tree.specs.Data.{ProgramParts}
use Rattle.behaviour_tree.specs.declared.words.Need.TheVariants as need
use Rattle.behaviour_tree.specs.declared.words.Outcome.{Outcome}
use Rattle.office_core.specs.declared.history.Act.TheVariants as act
use Rattle.office_core.specs.declared.history.Entry.{Entry}
use Rattle.office_core.specs.declared.message.Message.{Message}
use Rattle.office_core.specs.declared.post.Birth.{Birth}
use Rattle.office_core.specs.declared.post.Mail.{Mail}
use Rattle.office_core.specs.Limits.{Setting, run_of}
use Rattle.office_core.specs.Past.{Past, some_entry}
use Rattle.office_core.specs.Accepted.{past_of}
use Rattle.office_core.specs.Boxes.{takes}
use Rattle.office_core.specs.Sessions.{adopts, ends, service_of, was_adopted}
use Rattle.office_plain.specs.Entries.{adopt_entry, entry, take_entry}
use Rattle.office_plain.specs.Replies.{birth_of, next_mail}
use Rattle.office_plain.specs.View.{with_entry}
use Rattle.office_plain.proofs.Lists.{eq_true, itself}
use Rattle.office_sharing.specs.declared.view.View.{View}
use Rattle.office_sharing.specs.Views.{newcomer}
use Rattle.office_turn.specs.Calls.{Called, Made, Saw, past_at}
use Rattle.session_turn.specs.Asking.{answers_message, has_response, is_at_work, is_request_to, is_to_answer}
use Rattle.session_turn.proofs.Finding.{Waits, waits_first}
use Rattle.session_turn.proofs.Histories.{any_last, foreign-call, message_stays, own-answers_message, own-takes, service_stays, some_of}
use Rattle.session_shared_turns.specs.Stays.{MayAsk}
use Rattle.test_sharing.proofs.Acting.{IsMine, adopts_mine, any_own, ends_mine}
use Rattle.test_sharing.specs.Servers.{IsServer, MayAnswer}

-- ---- truths

last_true : (a b : Bool) → b ≡ true → (a || b) ≡ true
last_true true b is = refl
last_true false b is = is

and_false : (a b : Bool) → b ≡ false → (a && b) ≡ false
and_false true b is = is
and_false false b is = refl

-- ---- one entry more, where there is one

more_of : Option Entry → List Entry
more_of None = []
more_of (Some e) = e ∷ []

with_more : (es : List Entry) (o : Option Entry) → with_entry es o ≡ es ++ more_of o
unfolding more_of
with_more es None = sym (append-nil es)
with_more es (Some e) = refl

true_still : (f : Entry → Bool) (es : List Entry) (o : Option Entry) → list_any f es ≡ true
    → list_any f (with_entry es o) ≡ true
true_still f es None is = is
true_still f es (Some e) is = any_last f es e ∙ ap (λ b. b || f e) is

false_still : (f : Entry → Bool) (es : List Entry) (o : Option Entry) → list_any f es ≡ false
    → IfSome o (λ e. f e ≡ false) → list_any f (with_entry es o) ≡ false
false_still f es None is new = is
false_still f es (Some e) is new = any_last f es e ∙ (λ i. is i || new i)

-- a session keeps its service, however long the history gets
service_longer : (w : Setting) (h more : List Entry) (s d : ℕ) → service_of w (past_of w h) s ≡ Some d
    → service_of w (past_of w (h ++ more)) s ≡ Some d
service_longer w h [] s d is = subst (λ l. service_of w (past_of w l) s ≡ Some d) (sym (append-nil h)) is
service_longer w h (e ∷ more) s d is =
    subst (λ l. service_of w (past_of w l) s ≡ Some d) (append_assoc h (e ∷ []) more)
    (service_longer w (h ++ e ∷ []) more s d (service_stays w h e s d is))

service_later : (w : Setting) (h l : List Entry) (s d : ℕ) → IsPrefix h l → service_of w (past_of w h) s ≡ Some d
    → service_of w (past_of w l) s ≡ Some d
service_later w h l s d begins is =
    subst (λ es. service_of w (past_of w es) s ≡ Some d) begins.1 (service_longer w h begins.0 s d is)

-- a number below another is not it
below_differs : (n k : ℕ) → n < k → nat_eq k n ≡ false
below_differs n k below = by (nat_eq k n) refl
  where
    by : (b : Bool) → nat_eq k n ≡ b → b ≡ false
    by true is = let same : k ≡ n = eq_true k n is in absurd (omega (arith, same, below))
    by false is = refl

-- ---- what a call leaves

module _ {parts : ProgramParts} {d next : ℕ} (v w : View) (sv : IsServer parts d next v) where
  -- no entry was made
  pub saw_serves : Saw parts v w → IsServer parts d next w
  saw_serves x =
      let number : w.number ≡ v.number = ap (λ (u : View). u.number) x.same in
      let mine : w.mine ≡ v.mine = ap (λ (u : View). u.mine) x.same in
      record {
        calls = ap (λ (u : View). u.may_call) x.same ∙ sv.calls;
        kept = ap (λ (u : View). length u.kept) x.same ∙ sv.kept;
        makes = ap (λ (u : View). u.makes) x.same ∙ sv.makes;
        own = x.own sv.calls;
        adopted = (λ i. list_any (adopts (number i)) (mine i)) ∙ sv.adopted;
        lives = (λ i. list_any (ends (number i)) (mine i)) ∙ sv.lives;
        service = ap (service_of (run_of parts) (past_at parts w.seen)) number
            ∙ service_later (run_of parts) v.seen w.seen v.number d x.begins sv.service;
        answered = λ n above. (λ i. list_any (answers_message (number i) n) (mine i)) ∙ sv.answered n above;
      }

  -- an entry was made, where one was, that neither ends the session nor answers a message from this number on
  pub made_serves : (after : ℕ) → next ≤ after → {more : Setting → Past → Option Entry} (m : Made parts v w more)
      → IfSome (more (run_of parts) (past_at parts m.before)) (λ e. ends v.number e ≡ false)
      → ((n : ℕ) → after ≤ n
      → IfSome (more (run_of parts) (past_at parts m.before)) (λ e. answers_message v.number n e ≡ false))
      → IsServer parts d after w
  made_serves after above {more} m unended unanswered =
      let o : Option Entry = more (run_of parts) (past_at parts m.before) in
      let number : w.number ≡ v.number = ap (λ (u : View). u.number) m.same in
      record {
        calls = ap (λ (u : View). u.may_call) m.same ∙ sv.calls;
        kept = ap (λ (u : View). length u.kept) m.same ∙ sv.kept;
        makes = ap (λ (u : View). u.makes) m.same ∙ sv.makes;
        own = m.own;
        adopted = (λ i. list_any (adopts (number i)) (m.mine i)) ∙ true_still (adopts v.number) v.mine o sv.adopted;
        lives = (λ i. list_any (ends (number i)) (m.mine i)) ∙ false_still (ends v.number) v.mine o sv.lives unended;
        service = ap (service_of (run_of parts) (past_at parts w.seen)) number
            ∙ subst (λ l. service_of (run_of parts) (past_at parts l) v.number ≡ Some d)
            (sym (m.seen ∙ with_more m.before o))
            (service_longer (run_of parts) m.before (more_of o) v.number d
            (service_later (run_of parts) v.seen m.before v.number d m.follows.begins sv.service));
        answered = λ n over. (λ i. list_any (answers_message (number i) n) (m.mine i))
            ∙ false_still (answers_message v.number n) v.mine o (sv.answered n (omega (arith, above, over)))
            (unanswered n over);
      }

-- ---- what a session may ask

module _ {parts : ProgramParts} {d next : ℕ} (v : View) (sv : IsServer parts d next v) where
  -- a question about the session's own entries, asked of all that was seen
  own_seen : (f : Entry → Bool) → IsMine v.number f → some_entry (past_at parts v.seen) f ≡ list_any f v.mine
  own_seen f mine = some_of (run_of parts) v.seen f ∙ any_own v.number f mine v.seen ∙ ap (list_any f) sv.own

  works : is_at_work (past_at parts v.seen) v.number ≡ true
  works =
      and_from (some_entry (past_at parts v.seen) (adopts v.number))
      (not (some_entry (past_at parts v.seen) (ends v.number)))
      (own_seen (adopts v.number) (adopts_mine v.number) ∙ sv.adopted)
      (ap not (own_seen (ends v.number) (ends_mine v.number) ∙ sv.lives))

  pub may_take : (ops : List ℕ) → MayAsk parts v (need.Take ops)
  may_take ops = record { may = and_from _ _ works refl; own = sv.own }

  pub may_reply : (n : ℕ) (o : Outcome) → next ≤ n → list_any (takes v.number n) v.mine ≡ true
      → is_request_to (run_of parts) (past_at parts v.seen) v.number n ≡ true
      → MayAsk parts v (need.Reply n o)
  may_reply n o over took request =
      let past : Past = past_at parts v.seen in
      record {
        may = and_from (is_at_work past v.number) (is_to_answer (run_of parts) past v.number n) works
            (and_from _ (is_request_to (run_of parts) past v.number n)
            (and_from (some_entry past (takes v.number n)) (not (some_entry past (answers_message v.number n)))
            (own_seen (takes v.number n) (λ e k. own-takes v.number n e (foreign-call v.number e k)) ∙ took)
            (ap not
            (own_seen (answers_message v.number n)
            (λ e k. own-answers_message v.number n e (foreign-call v.number e k))
            ∙ sv.answered n over)))
            request);
        own = sv.own;
      }

-- ---- a message that was taken

module _ {parts : ProgramParts} {d next : ℕ} (v w : View) (sv : IsServer parts d next v) (mail : Mail) (ops : List ℕ)
    (m : Made parts v w (λ x past. Some (entry v.number (act.Take mail.message)))) where
  taken : IsServer parts d next w
  taken = made_serves v w sv next (omega arith) m refl (λ n over. refl)

  number_same : w.number ≡ v.number
  number_same = ap (λ (u : View). u.number) m.same

  was_taken : list_any (takes w.number mail.message) w.mine ≡ true
  was_taken =
      (λ i. list_any (takes (number_same i) mail.message) (m.mine i))
      ∙ any_last (takes v.number mail.message) v.mine (entry v.number (act.Take mail.message))
      ∙ last_true (list_any (takes v.number mail.message) v.mine)
      (nat_eq v.number v.number && nat_eq mail.message mail.message)
      (and_from (nat_eq v.number v.number) (nat_eq mail.message mail.message) (itself v.number) (itself mail.message))

  -- it is a request, where its operation has a response
  is_request : Some mail ≡ next_mail (past_at parts m.before) v.number ops
      → has_response (run_of parts) d mail.op ≡ true
      → is_request_to (run_of parts) (past_at parts w.seen) w.number mail.message ≡ true
  is_request first has =
      let x : Waits (past_at parts m.before) v.number ops mail
      = waits_first (past_at parts m.before) v.number ops mail first in
      let there : slice_get (past_at parts w.seen).messages mail.message ≡ Some x.message
      = subst (λ l. slice_get (past_at parts l).messages mail.message ≡ Some x.message) (sym m.seen)
      (message_stays (run_of parts) m.before (entry v.number (act.Take mail.message)) mail.message x.message x.there)
      in
      ap (λ (g : Option Message). elim g [
        | None ↦ false
        | Some y ↦ elim (service_of (run_of parts) (past_at parts w.seen) w.number) [
          | None ↦ false
          | Some e ↦ has_response (run_of parts) e y.op
        ]
      ]) there
      ∙ ap (λ (o : Option ℕ). elim o [ None ↦ false | Some e ↦ has_response (run_of parts) e x.message.op ])
      taken.service
      ∙ ap (has_response (run_of parts) d) (sym x.op) ∙ has

  may_answer : (o : Outcome) → next ≤ mail.message → Some mail ≡ next_mail (past_at parts m.before) v.number ops
      → has_response (run_of parts) d mail.op ≡ true → MayAsk parts w (need.Reply mail.message o)
  may_answer o over first has = may_reply w taken mail.message o over was_taken (is_request first has)

-- ---- a session that was adopted

birth_service : (w : Setting) (past : Past) (s : ℕ) (b : Birth) → Some b ≡ birth_of w past s
    → service_of w past s ≡ Some b.service
birth_service w past s b is = by (was_adopted past s) (service_of w past s) is
  where
    by : (a : Bool) (o : Option ℕ)
        → Some b ≡ (if a then None else option_map (λ d. record { session = s; service = d }) o) → o ≡ Some b.service
    by true o is = absurd (none-some b (sym is))
    by false None is = absurd (none-some b (sym is))
    by false (Some d) is =
        ap (λ (x : Birth). Some x.service) (sym (same_Some b (record { session = s; service = d }) is))

pub adopted_serves : {parts : ProgramParts} (v w : View) (b : Birth) → v ≡ newcomer v.number
    → Called parts v w (λ x past. Some b ≡ birth_of x past v.number) (λ x past. adopt_entry v.number (Some b))
    → IsServer parts b.service 0 w
adopted_serves {parts} v w b new told =
    let m = told.made in
    let e : Entry = entry v.number (act.Adopt b.service) in
    let number : w.number ≡ v.number = ap (λ (u : View). u.number) m.same in
    let nothing : v.mine ≡ [] = ap (λ (u : View). u.mine) new in
    record {
      calls = ap (λ (u : View). u.may_call) m.same ∙ ap (λ (u : View). u.may_call) new;
      kept = ap (λ (u : View). length u.kept) m.same ∙ ap (λ (u : View). length u.kept) new;
      makes = ap (λ (u : View). u.makes) m.same ∙ ap (λ (u : View). u.makes) new;
      own = m.own;
      adopted = (λ i. list_any (adopts (number i)) (m.mine i)) ∙ any_last (adopts v.number) v.mine e
          ∙ last_true (list_any (adopts v.number) v.mine) (adopts v.number e) (itself v.number);
      lives = (λ i. list_any (ends (number i)) (m.mine i))
          ∙ false_still (ends v.number) v.mine (Some e) (ap (list_any (ends v.number)) nothing) refl;
      service = ap (service_of (run_of parts) (past_at parts w.seen)) number
          ∙ subst (λ l. service_of (run_of parts) (past_at parts l) v.number ≡ Some b.service) (sym m.seen)
          (service_longer (run_of parts) m.before (e ∷ []) v.number b.service
          (birth_service (run_of parts) (past_at parts m.before) v.number b told.reply));
      answered = λ n over. (λ i. list_any (answers_message (number i) n) (m.mine i))
          ∙ false_still (answers_message v.number n) v.mine (Some e)
          (ap (list_any (answers_message v.number n)) nothing) refl;
    }

-- ---- a message that was answered

pub answered_serves : {parts : ProgramParts} {d next : ℕ} (v w : View) (sv : IsServer parts d next v) (n after : ℕ)
    (o : Outcome) → next ≤ n → after ≡ n + 1
    → Made parts v w (λ x past. Some (entry v.number (act.Reply n o))) → IsServer parts d after w
answered_serves v w sv n after o over is m =
    made_serves v w sv after (omega (arith, over, is)) m refl
    (λ k above. and_false (nat_eq v.number v.number) (nat_eq k n) (below_differs n k (omega (arith, is, above))))

-- ---- by what a call gave

module _ (parts : ProgramParts) {d next : ℕ} {v : View} (w : View) (sv : IsServer parts d next v) where
  pub take_serves : {E : Type 0} (ops : List ℕ) (q : Result (Option Mail) E)
      → IfOk q (λ x. Called parts v w (λ y past. x ≡ next_mail past v.number ops) (λ y past. take_entry v.number x))
      → OnErr q (Saw parts v w) → IsServer parts d next w
  take_serves ops (Ok None) told err =
      made_serves v w sv next (omega arith) told.made tt (λ n over. tt)
  take_serves ops (Ok (Some mail)) told err = taken v w sv mail ops told.made
  take_serves ops (Err e) told err = saw_serves v w sv err

  pub take_may : {E : Type 0} (ops : List ℕ) (q : Result (Option Mail) E)
      → IfOk q (λ x. Called parts v w (λ y past. x ≡ next_mail past v.number ops) (λ y past. take_entry v.number x))
      → IfOk q (λ x. IfSome x (MayAnswer parts d next w))
  take_may ops (Ok None) told = tt
  take_may ops (Ok (Some mail)) told =
      λ over has o. may_answer v w sv mail ops told.made o over told.reply has
  take_may ops (Err e) told = tt

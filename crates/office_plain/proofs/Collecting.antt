-- The answer of a message is collected: then the book has it no more, and all else stays tied.
use Rattle.std.proofs.Common.{◌≤◌, length, subst, ◌≡◌, ◌≢◌, ℕ, Bool, true, false, not, ◌&&◌, ◌||◌, List, [], ◌∷◌, refl, sym, ap, ◌∙◌, Option, None, Some, option_map, true≢false}
use Rattle.std.specs.Prelude.{nat_eq, nat_le, slice_get}
use Rattle.jolie_trees.specs.Limits.{in_u64}
use Rattle.behaviour_tree.specs.declared.words.Outcome.{Outcome}
use Rattle.reqresp_book.specs.declared.book.Book.{Book}
use Rattle.reqresp_book.specs.declared.origin.Origin.{Origin}
use Rattle.reqresp_book.specs.declared.origin.Origin.TheVariants as origin
use Rattle.reqresp_book.specs.declared.place.Standing.{Standing}
use Rattle.reqresp_book.specs.Standing.{outcome_at}
use Rattle.reqresp_book.specs.View.{standing_of, HaveSameOrigins, Stands}
use Rattle.office_core.specs.declared.history.Act.TheVariants as act
use Rattle.office_core.specs.declared.history.Entry.{Entry}
use Rattle.office_core.specs.declared.outgoing.OutKind.TheVariants as kind
use Rattle.office_core.specs.Limits.{Setting, first_worker}
use Rattle.office_core.specs.declared.message.Message.{Message}
use Rattle.office_core.specs.Past.{Past, some_entry, is_running}
use Rattle.office_core.specs.Sessions.{ends}
use Rattle.office_core.specs.Accepted.{then_one}
use Rattle.office_core.specs.Answers.{answers_of, answers}
use Rattle.office_core.specs.Keys.{first}
use Rattle.office_core.specs.Legal.{collects, posts_as, is_from_port, is_collectable, IsLegalEntry}
use Rattle.office_core.proofs.Longer.{some_same, some_now, messages_same}
use Rattle.office_plain.specs.declared.kept.Kept.{Kept}
use Rattle.office_plain.specs.Entries.{entry}
use Rattle.office_plain.specs.Stands.{was_handed_out, standing_by, StandsSo}
use Rattle.office_plain.specs.Ties.{Ties}
use Rattle.office_plain.proofs.Lists.{same_of, itself, eq_true, eq_false}
use Rattle.office_plain.proofs.Acting.{left, right, not_true}
use Rattle.office_plain.proofs.Stays.{weight_stays, row_stays, places_stay, waiting_stays, handed_before, answers_stay, keyed_sessions_stay, calls_stay, brought_stays, unfetched_stays}

-- ---- what may be collected

-- a message that may be collected: it came in at a port, and was not handed out
record Collectable (past : Past) (n : ℕ) : Type 0 where
  message : Message
  there : slice_get past.messages n ≡ Some message
  port : is_from_port message ≡ true
  unhanded : was_handed_out past n message.origin ≡ false

by_origin : (past : Past) (n : ℕ) (from : Origin)
    → (elim from [ origin.Port posting index ↦ true | origin.Session s k ↦ false ]) ≡ true
    → some_entry past (collects n) ≡ false → was_handed_out past n from ≡ false
by_origin past n (origin.Port posting index) h g = g
by_origin past n (origin.Session s k) h g = absurd (true≢false (sym h))

-- whether a message that may be there came in at a port
abbrev port_at : Option Message → Bool
port_at g = elim g [ None ↦ false | Some m ↦ is_from_port m ]

at_message : (past : Past) (n : ℕ) (g : Option Message) → slice_get past.messages n ≡ g → port_at g ≡ true
    → some_entry past (collects n) ≡ false → Collectable past n
at_message past n None there h g = absurd (true≢false (sym h))
at_message past n (Some m) there h g =
    record { message = m; there = there; port = h; unhanded = by_origin past n m.origin h g }

collectable : (past : Past) (actor n : ℕ) → is_collectable past actor n ≡ true → Collectable past n
collectable past actor n h =
    let may : Bool = not (is_running past) || some_entry past (posts_as actor n) in
    let fresh : Bool = not (some_entry past (collects n)) in
    let front = left (fresh && port_at (slice_get past.messages n)) may h in
    at_message past n (slice_get past.messages n) refl
    (right fresh (port_at (slice_get past.messages n)) front)
    (not_true (some_entry past (collects n)) (left fresh (port_at (slice_get past.messages n)) front))

outcome_first : (os : List Outcome) → outcome_at (Some (standing_by os)) ≡ first os
outcome_first [] = refl
outcome_first (o ∷ os) = refl

-- the book has the answer of a message that was not handed out
pub answer_kept : (w : Setting) (past : Past) (book : Book) (n : ℕ) (m : Message)
    → StandsSo w past book → slice_get past.messages n ≡ Some m → was_handed_out past n m.origin ≡ false
    → outcome_at (standing_of book n) ≡ first (answers w past n)
answer_kept w past book n m stands there unhanded =
    ap outcome_at (stands n m there unhanded) ∙ outcome_first (answers_of w past n m)
    ∙ sym (ap (λ g. first (elim g [ None ↦ [] | Some x ↦ answers_of w past n x ])) there)

-- the book has the answer of a message that may be collected
pub collected_answer : (w : Setting) (past : Past) (actor n : ℕ) (k : Kept) → Ties w past k
    → is_collectable past actor n ≡ true → outcome_at (standing_of k.book n) ≡ first (answers w past n)
collected_answer w past actor n k t h =
    let c = collectable past actor n h in
    answer_kept w past k.book n c.message t.standings c.there c.unhanded

-- the collection of an answer is legal
pub legal_collect : (w : Setting) (past : Past) (actor n : ℕ) (o : Outcome)
    → nat_le first_worker actor ≡ true → is_collectable past actor n ≡ true → first (answers w past n) ≡ Some o
    → IsLegalEntry w past (entry actor (act.Collect n o))
legal_collect w past actor n o works may h =
    record {
      allowed = ap (λ b. b && is_collectable past actor n) works ∙ may;
      reply = ap (option_map (act.Collect n)) h;
    }

-- ---- what stays tied

-- once it is collected, a message that came in at a port was handed out
handed_now : (w : Setting) (past : Past) (actor n : ℕ) (o : Outcome) (from : Origin)
    → (elim from [ origin.Port posting index ↦ true | origin.Session s k ↦ false ]) ≡ true
    → was_handed_out (then_one w past (entry actor (act.Collect n o))) n from ≡ true
handed_now w past actor n o (origin.Port posting index) h = some_now w past (entry actor (act.Collect n o)) (collects n) (itself n)
handed_now w past actor n o (origin.Session s k) h = absurd (true≢false (sym h))

standings_collect : (w : Setting) (past : Past) (actor n : ℕ) (o : Outcome) (old new : Book) (standing : Option Standing)
    → Collectable past n → StandsSo w past old → Stands n standing old new
    → StandsSo w (then_one w past (entry actor (act.Collect n o))) new
standings_collect w past actor n o old new standing c stands changes j m there unhanded = by (nat_eq j n) refl
  where
    e : Entry
    e = entry actor (act.Collect n o)

    before : slice_get past.messages j ≡ Some m
    before = sym (ap (λ ms. slice_get ms j) (messages_same w past e refl)) ∙ there

    by : (b : Bool) → nat_eq j n ≡ b → standing_of new j ≡ Some (standing_by (answers_of w (then_one w past e) j m))
    by true q =
        let same : c.message ≡ m = same_of c.message m (sym c.there ∙ ap (slice_get past.messages) (sym (eq_true j n q)) ∙ before) in
        let handed : was_handed_out (then_one w past e) j m.origin ≡ true =
        ap (λ i. was_handed_out (then_one w past e) i m.origin) (eq_true j n q)
        ∙ ap (λ (x : Message). was_handed_out (then_one w past e) n x.origin) (sym same)
        ∙ handed_now w past actor n o c.message.origin c.port in
        absurd (true≢false (sym handed ∙ unhanded))
    by false q =
        changes.others j (eq_false j n q)
        ∙ stands j m before (handed_before w past e j m.origin unhanded)
        ∙ sym (ap (λ os. Some (standing_by os)) (answers_stay w past e j m refl refl refl refl))

-- after a collection the book has the answer no more
pub ties_collect : (w : Setting) (past : Past) (actor n : ℕ) (o : Outcome) (k : Kept) (book : Book) (standing : Option Standing)
    → is_collectable past actor n ≡ true → Ties w past k → HaveSameOrigins k.book book → Stands n standing k.book book
    → Ties w (then_one w past (entry actor (act.Collect n o))) (record k { book = book })
ties_collect w past actor n o k book standing may t from changes =
    let e : Entry = entry actor (act.Collect n o) in
    record {
      messages = t.messages ∙ sym (messages_same w past e refl);
      few = subst (λ ms. length ms ≤ w.limits.messages) (sym (messages_same w past e refl)) t.few;
      weight = t.weight ∙ ap in_u64 (sym (weight_stays past e refl));
      sessions = λ u. t.sessions u ∙ sym (row_stays w past e u refl refl);
      places = λ u. t.places u ∙ sym (places_stay w past e u refl);
      boxes = λ u h. t.boxes u (sym (some_same w past e (ends u) refl) ∙ h) ∙ sym (waiting_stays w past e u refl);
      origins = λ j. from j ∙ t.origins j ∙ ap (λ ms. option_map (λ (m : Message). m.origin) (slice_get ms j)) (sym (messages_same w past e refl));
      standings = standings_collect w past actor n o k.book book standing (collectable past actor n may) t.standings changes;
      keys = t.keys ∙ sym (keyed_sessions_stay w past e (λ u. refl) (λ u. refl));
      sent = t.sent ∙ sym (calls_stay w past e refl);
      outcomes = λ i. t.outcomes i ∙ sym (brought_stays w past e i refl (λ c. refl));
      console = t.console ∙ sym (unfetched_stays w past e kind.Console refl (λ c. refl));
      remote = t.remote ∙ sym (unfetched_stays w past e kind.Remote refl (λ c. refl));
    }

-- What brings a session nothing leaves one that could not act so.
use Rattle.std.proofs.Common.{◌≡◌, ℕ, zero, suc, Bool, true, false, not, List, [], ◌∷◌, ◌++◌, length, Option, None, Some, refl, sym, ap, ◌∙◌, append_assoc}
use Rattle.std.specs.Prelude.{if◌then◌else◌, is_some, option_and_then, slice_get, take}
use Rattle.std.specs.List.{cons_option, filter_map}
use Rattle.std.proofs.lemmas.Bool.{and_from, and_parts, eq-eqb, false≢true, or_left}
use Rattle.std.proofs.lemmas.List.{append-nil}
use Rattle.std.proofs.lemmas.List.Elements.{filter_map-append}
use Rattle.std.proofs.lemmas.Option.{none-some}
use Rattle.behaviour_tree.specs.declared.words.Need.{Need}
use Rattle.behaviour_tree.specs.declared.words.Need.TheVariants as need
use Rattle.behaviour_tree.specs.declared.words.Outcome.{Outcome}
use Rattle.reqresp_book.specs.declared.origin.Origin.{Origin}
use Rattle.office_core.specs.declared.history.Entry.{Entry}
use Rattle.office_core.specs.declared.post.Posted.{Posted}
use Rattle.office_core.specs.declared.message.Message.{Message}
use Rattle.office_core.specs.Limits.{Setting}
use Rattle.office_core.specs.Past.{Past}
use Rattle.office_core.specs.Sessions.{births, ends, has_ended, is_live, service_of, singles_from, started_by}
use Rattle.office_core.specs.Boxes.{queue}
use Rattle.office_core.specs.Keys.{first}
use Rattle.office_core.specs.Accepted.{accepted_in, handed_in, message_of, origin_of, past_of, then_one, with_message}
use Rattle.office_core.specs.Calls.{result}
use Rattle.office_core.proofs.Longer.{past_more, some_more}
use Rattle.office_core.proofs.Sent.{AreSent, calls_are_messages}
use Rattle.office_plain.proofs.Unseen.{starts_next}
use Rattle.run_record.specs.Quiet.{is_given}
use Rattle.session_turn.proofs.Histories.{foreign-call}
use Rattle.run_quiet_laws.specs.Brings.{BringsNothing}
use Rattle.run_quiet_laws.specs.Laws.{OthersLeave}
use Rattle.run_quiet_laws.proofs.Absent.{queue_on, result_on}
use Rattle.run_quiet_laws.proofs.CallsOn.{calls_same}
use Rattle.run_quiet_laws.proofs.Once.{agrees_with}

-- ---- births

-- what stands in a list with one more, and is not that one
stood-before : {A : Type 0} (xs : List A) (x : A) (n : ℕ) (y : A) → (n ≡ length xs → ⊥)
    → slice_get (xs ++ x ∷ []) n ≡ Some y → slice_get xs n ≡ Some y
stood-before [] x zero y other h = absurd (other refl)
stood-before [] x (suc n) y other h = absurd (none-some y h)
stood-before (z ∷ xs) x zero y other h = h
stood-before (z ∷ xs) x (suc n) y other h = stood-before xs x n y (λ e. other (ap suc e)) h

-- the births with those of a message more
abbrev births_by : Setting → List Message → List ℕ
births_by w ms = take w.limits.sessions (singles_from 0 w.parts.services) ++ filter_map started_by ms

births-one : (w : Setting) (ms : List Message) (m : Message)
    → births_by w (ms ++ m ∷ []) ≡ births_by w ms ++ filter_map started_by (m ∷ [])
births-one w ms m =
    ap (λ l. take w.limits.sessions (singles_from 0 w.parts.services) ++ l) (filter_map-append started_by ms (m ∷ []))
    ∙ sym (append_assoc (take w.limits.sessions (singles_from 0 w.parts.services)) (filter_map started_by ms)
    (filter_map started_by (m ∷ [])))

-- a message that starts a session starts the next one
accepted-next : (w : Setting) (past : Past) (from : Origin) (g : Option Posted) (m : Message)
    → option_and_then (message_of w past from) g ≡ Some m → m.starts ≡ true → m.session ≡ length (births w past)
accepted-next w past from None m h starts = absurd (none-some m h)
accepted-next w past from (Some q) m h starts = starts_next w past from q m h starts

module _ (w : Setting) (past : Past) (s : ℕ) (e : Entry) (b : BringsNothing w past s e) where
  -- the session was born before
  born-before : (d : ℕ) → service_of w (then_one w past e) s ≡ Some d → service_of w past s ≡ Some d
  born-before d h = go (accepted_in w past e) refl h
    where
      starts : (m : Message) → accepted_in w past e ≡ Some m → (q : Bool) → m.starts ≡ q
          → slice_get (births_by w past.messages ++ filter_map started_by (m ∷ [])) s ≡ Some d → service_of w past s ≡ Some d
      starts m is true q g =
          stood-before (births_by w past.messages) m.service s d
          (λ same.
          false≢true
          (sym (b.mail m is)
          ∙ eq-eqb s m.session
          (same
          ∙ sym (accepted-next w past (origin_of e.actor e.act) (handed_in w past e.actor e.act) m is q))))
          (ap (λ r. slice_get (births_by w past.messages ++ cons_option (if r then Some m.service else None) []) s) (sym q)
          ∙ g)
      starts m is false q g =
          ap (λ l. slice_get l s) (sym (append-nil (births_by w past.messages)))
          ∙ ap (λ r. slice_get (births_by w past.messages ++ cons_option (if r then Some m.service else None) []) s) (sym q)
          ∙ g

      go : (o : Option Message) → accepted_in w past e ≡ o
          → slice_get (births_by w (with_message past.messages o)) s ≡ Some d → service_of w past s ≡ Some d
      go None is g = g
      go (Some m) is g =
          starts m is m.starts refl (ap (λ l. slice_get l s) (sym (births-one w past.messages m)) ∙ g)

  -- it lived before
  live-before : is_live w (then_one w past e) s ≡ true → is_live w past s ≡ true
  live-before h =
      and_from (is_some (service_of w past s)) (not (has_ended past s)) (born (service_of w (then_one w past e) s) refl both.0)
      (going (has_ended past s) refl)
    where
      both : (is_some (service_of w (then_one w past e) s) ≡ true) × (not (has_ended (then_one w past e) s) ≡ true)
      both = and_parts (is_some (service_of w (then_one w past e) s)) (not (has_ended (then_one w past e) s)) h

      born : (o : Option ℕ) → service_of w (then_one w past e) s ≡ o → is_some (service_of w (then_one w past e) s) ≡ true
          → is_some (service_of w past s) ≡ true
      born None is g = absurd (false≢true (sym (ap is_some is) ∙ g))
      born (Some d) is g = ap is_some (born-before d is)

      not-both : (x : Bool) → not x ≡ true → x ≡ true → ⊥
      not-both true f g = false≢true f
      not-both false f g = false≢true g

      going : (q : Bool) → has_ended past s ≡ q → not q ≡ true
      going false is = refl
      going true is =
          absurd
          (not-both (has_ended (then_one w past e) s) both.1
          (some_more w past e (ends s) ∙ or_left (has_ended past s) (ends s e) is))

  -- what is there was there before
  given-before : AreSent past → (n : Need) → is_given w (then_one w past e) s n ≡ true → is_given w past s n ≡ true
  given-before sent (need.Take ops) h = by (queue past s ops) refl
    where
      by : (q : List ℕ) → queue past s ops ≡ q → is_some (first q) ≡ true
      by (n ∷ q) is = refl
      by [] is = absurd (false≢true (sym (ap (λ (l : List ℕ). is_some (first l)) (queue_on w past s e b ops is)) ∙ h))
  given-before sent (need.Answer k) h = by (result w past s k) refl
    where
      by : (o : Option Outcome) → result w past s k ≡ o → is_some o ≡ true
      by (Some o) is = refl
      by None is = absurd (false≢true (sym (ap (λ (o : Option Outcome). is_some o) (result_on w past s e b sent k is)) ∙ h))
  given-before sent n h = refl

-- after an entry that brings a session nothing, one that could not act can not
pub others_leave : OthersLeave
others_leave w h e s es legal b not x = not (record {
  last = x.last;
  agrees = agrees_with (λ d born. born-before w (past_of w h) s e b d (sym (ap (λ (p : Past). service_of w p s) (past_more w h e)) ∙ born))
      (calls_same w h s e (foreign-call s e b.other)) x.agrees;
  acts = record {
    live = live-before w (past_of w h) s e b (sym (ap (λ (p : Past). is_live w p s) (past_more w h e)) ∙ x.acts.live);
    strand = x.acts.strand;
    gift = x.acts.gift;
    done = x.acts.done;
    event = x.acts.event;
    given = given-before w (past_of w h) s e b (calls_are_messages w h legal) x.acts.done.need
        (sym (ap (λ (p : Past). is_given w p s x.acts.done.need) (past_more w h e)) ∙ x.acts.given);
  };
})

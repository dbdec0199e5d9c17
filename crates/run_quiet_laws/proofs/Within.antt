-- No more sessions are born than there may be.
use Rattle.std.proofs.Common.{◌≡◌, ◌≤◌, ◌<◌, ℕ, ◌+◌, min, Bool, true, false, List, [], ◌∷◌, ◌++◌, length, take, Option, None, Some, nat_le, refl, ap, ◌∙◌, arith}
use Rattle.std.specs.Prelude.{if◌then◌else◌}
use Rattle.std.specs.List.{cons_option, filter_map}
use Rattle.std.proofs.lemmas.Bool.{false≢true, leb-false}
use Rattle.std.proofs.lemmas.List.{length-append, length-take}
use Rattle.std.proofs.lemmas.List.Elements.{filter_map-append}
use Rattle.std.proofs.lemmas.Option.{none-some, option_and_then_some}
use Rattle.behaviour_tree.specs.Conforms.{conforms}
use Rattle.behaviour_tree.specs.FormedSets.{is_concurrent}
use Rattle.behaviour_tree.specs.declared.words.Reason.{Reason}
use Rattle.behaviour_tree.specs.declared.words.Reason.TheVariants as reason
use Rattle.reqresp_book.specs.declared.origin.Origin.{Origin}
use Rattle.office_core.specs.declared.history.Entry.{Entry}
use Rattle.office_core.specs.declared.message.Message.{Message}
use Rattle.office_core.specs.declared.post.Posted.{Posted}
use Rattle.office_core.specs.Limits.{Setting}
use Rattle.office_core.specs.Past.{Past, nothing_yet}
use Rattle.office_core.specs.Sessions.{births, has_ended, singles_from, started_by}
use Rattle.office_core.specs.Boxes.{box}
use Rattle.office_core.specs.Keys.{session_of}
use Rattle.office_core.specs.Route.{Asked, Way, admitted, asked_of, begins, into_box, is_full, is_starting, named_session, refused_for, route, to_named, to_new, to_one, to_session, to_single}
use Rattle.office_core.specs.Accepted.{accepted_in, handed_in, message_of, message_on, origin_of, past_of, then_all, then_one, with_message}
use Rattle.run_quiet_laws.proofs.Once.{same_of}

module _ (w : Setting) (past : Past) where
  -- there is room for one more, where a message goes to a new session
  abbrev Room : Way → Type 0
  Room way = way ≡ to_new → nat_le w.limits.sessions (length (births w past)) ≡ false

  room_if : (b : Bool) (x y : Way) → Room x → Room y → Room (if b then x else y)
  room_if true x y f g = f
  room_if false x y f g = g

  room_by : (b : Bool) (x y : Way) → Room x → Room y → Room (elim b [ true ↦ x | false ↦ y ])
  room_by true x y f g = f
  room_by false x y f g = g

  room_refused : (why : Reason) → Room (refused_for why)
  room_refused why e = cc

  room_session : (s : ℕ) → Room (to_session s)
  room_session s e = cc

  room_begins : Room (begins w past)
  room_begins = go (nat_le w.limits.sessions (length (births w past)))
    where
      go : (b : Bool) → (if b then refused_for reason.RunFull else to_new) ≡ to_new → b ≡ false
      go true e = cc
      go false e = refl

  room_box : (s : ℕ) → Room (into_box w past s)
  room_box s =
      room_if (nat_le w.limits.box (length (box past s))) (refused_for reason.BoxFull) (to_session s)
      (room_refused reason.BoxFull) (room_session s)

  room_named : (a : Asked) (o : Option ℕ) → Room (to_named w past a o)
  room_named a (Some s) = room_box s
  room_named a None =
      room_if (is_starting a) (begins w past) (refused_for reason.Correlation) room_begins
      (room_refused reason.Correlation)

  room_single : (o : Option ℕ) → Room (to_single w past o)
  room_single None = room_refused reason.Correlation
  room_single (Some s) =
      room_if (has_ended past s) (refused_for reason.Correlation) (into_box w past s) (room_refused reason.Correlation)
      (room_box s)

  room_one : (a : Asked) → Room (to_one w past a)
  room_one a =
      room_by (is_concurrent a.service.execution) (to_named w past a (named_session w past a))
      (to_single w past (session_of w past a.number (λ s. true)))
      (room_named a (named_session w past a))
      (room_single (session_of w past a.number (λ s. true)))

  room_admitted : (o : Option Asked) → Room (admitted w past o)
  room_admitted None = room_refused reason.UnknownOperation
  room_admitted (Some a) =
      room_by (conforms w.parts.types a.value a.operation.request) (to_one w past a) (refused_for reason.NotConforming)
      (room_one a) (room_refused reason.NotConforming)

  room_route : (q : Posted) → Room (route w past q)
  room_route q =
      room_by (is_full w past q.value) (refused_for reason.RunFull) (admitted w past (asked_of w q))
      (room_refused reason.RunFull) (room_admitted (asked_of w q))

  -- a message that starts a session goes to a new one
  starts_new : (from : Origin) (a : Asked) (way : Way) (m : Message) → message_on w past from a way ≡ Some m
      → m.starts ≡ true → way ≡ to_new
  starts_new from a (to_session s) m e t =
      absurd (false≢true (ap (λ (x : Message). x.starts) (same_of e) ∙ t))
  starts_new from a to_new m e t = refl
  starts_new from a (refused_for why) m e t = absurd (none-some m e)

  -- so there is room for the session that a message starts
  room_accepted : (e : Entry) (m : Message) → accepted_in w past e ≡ Some m → m.starts ≡ true
      → nat_le w.limits.sessions (length (births w past)) ≡ false
  room_accepted e m is t =
      option_and_then_some (message_of w past (origin_of e.actor e.act)) (handed_in w past e.actor e.act) m is
      (λ q handed made.
      option_and_then_some (λ a. message_on w past (origin_of e.actor e.act) a (route w past q)) (asked_of w q) m made
      (λ a asked on. room_route q (starts_new (origin_of e.actor e.act) a (route w past q) m on t)))

  -- ---- one entry more

  abbrev singles : List ℕ
  singles = take w.limits.sessions (singles_from 0 w.parts.services)

  some_more : (all few more rest first limit : ℕ) → all ≡ first + rest → rest ≡ few + more → first + few + more ≤ limit
      → all ≤ limit
  some_more all few more rest first limit e f g = omega (arith, e, f, g)

  same_sum : (all first few limit : ℕ) → all ≡ first + few → all ≤ limit → first + few + 0 ≤ limit
  same_sum all first few limit e h = omega (arith, e, h)

  next_sum : (all first few limit : ℕ) → all ≡ first + few → all < limit → first + few + 1 ≤ limit
  next_sum all first few limit e h = omega (arith, e, h)

  within_more : (m : Message) (b : Bool) → m.starts ≡ b
      → (b ≡ true → nat_le w.limits.sessions (length (births w past)) ≡ false)
      → length (births w past) ≤ w.limits.sessions
      → length singles + length (filter_map started_by past.messages)
      + length (cons_option (if b then Some m.service else None) [])
      ≤ w.limits.sessions
  within_more m true is room few =
      next_sum (length (births w past)) (length singles)
      (length (filter_map started_by past.messages)) w.limits.sessions
      (length-append singles (filter_map started_by past.messages))
      (leb-false w.limits.sessions (length (births w past)) (room refl))
  within_more m false is room few =
      same_sum (length (births w past)) (length singles)
      (length (filter_map started_by past.messages)) w.limits.sessions
      (length-append singles (filter_map started_by past.messages)) few

  within_one : (e : Entry) → length (births w past) ≤ w.limits.sessions
      → length (births w (then_one w past e)) ≤ w.limits.sessions
  within_one e few = go (accepted_in w past e) refl
    where
      go : (o : Option Message) → accepted_in w past e ≡ o
          → length (singles ++ filter_map started_by (with_message past.messages o)) ≤ w.limits.sessions
      go None is = few
      go (Some m) is =
          some_more (length (singles ++ filter_map started_by (past.messages ++ m ∷ [])))
          (length (filter_map started_by past.messages)) (length (filter_map started_by (m ∷ [])))
          (length (filter_map started_by (past.messages ++ m ∷ []))) (length singles) w.limits.sessions
          (length-append singles (filter_map started_by (past.messages ++ m ∷ [])))
          (ap (λ (xs : List ℕ). length xs) (filter_map-append started_by past.messages (m ∷ []))
          ∙ length-append (filter_map started_by past.messages) (filter_map started_by (m ∷ [])))
          (within_more m m.starts refl (room_accepted e m is) few)

within_all : (w : Setting) (past : Past) (es : List Entry) → length (births w past) ≤ w.limits.sessions
    → length (births w (then_all w past es)) ≤ w.limits.sessions
within_all w past [] few = few
within_all w past (e ∷ es) few = within_all w (then_one w past e) es (within_one w past e few)

first_within : (all first limit some : ℕ) → all ≡ first + 0 → first ≡ min limit some → all ≤ limit
first_within all first limit some e f = omega (arith, e, f)

-- no more sessions are born than there may be
pub births_within : (w : Setting) (h : List Entry) → length (births w (past_of w h)) ≤ w.limits.sessions
births_within w h =
    within_all w nothing_yet h
    (first_within (length (births w nothing_yet)) (length (singles w nothing_yet)) w.limits.sessions
    (length (singles_from 0 w.parts.services))
    (length-append (singles w nothing_yet) [])
    (length-take w.limits.sessions (singles_from 0 w.parts.services)))

-- A message is accepted: what is kept stays tied to what happened, with the message.
use Rattle.std.proofs.Common.{◌≡◌, ◌≢◌, ◌≤◌, ◌<◌, ℕ, zero, suc, ◌+◌, Bool, true, false, not, ◌&&◌, List, [], ◌∷◌, ◌++◌, length, length-append, refl, sym, ap, ◌∙◌, Option, None, Some, option_map, arith}
use Rattle.std.specs.Prelude.{nat_eq, slice_get, is_some, option_and_then, if◌then◌else◌}
use Rattle.jolie_trees.specs.Limits.{in_u64}
use Rattle.behaviour_tree.specs.Data.{OperationPart, ServicePart}
use Rattle.behaviour_tree.specs.Operations.{operation_at}
use Rattle.correlation.specs.Sessions.{is_born}
use Rattle.correlation.specs.View.{sessions_of}
use Rattle.reqresp_book.specs.View.{origin_of}
use Rattle.reqresp_book.specs.declared.origin.Origin.{Origin}
use Rattle.office_core.specs.declared.history.Entry.{Entry}
use Rattle.office_core.specs.declared.message.Call.{Call}
use Rattle.office_core.specs.declared.message.Message.{Message}
use Rattle.office_core.specs.declared.outgoing.OutKind.{OutKind}
use Rattle.office_core.specs.declared.outgoing.OutKind.TheVariants as kind
use Rattle.office_core.specs.declared.post.Posted.{Posted}
use Rattle.office_core.specs.Limits.{Setting}
use Rattle.office_core.specs.Past.{Past, some_entry, stops}
use Rattle.office_core.specs.Sessions.{births, service_of, has_ended, was_adopted}
use Rattle.office_core.specs.Boxes.{was_taken}
use Rattle.office_core.specs.Weights.{weight}
use Rattle.office_core.specs.Accepted.{message_of, past_of}
use Rattle.office_core.specs.Answers.{is_request}
use Rattle.office_core.specs.Calls.{calls, fetches, kind_of, goes_out, is_waiting, same_kind}
use Rattle.office_core.specs.Legal.{IsLegal}
use Rattle.office_core.proofs.OneAnswer.{one_reply}
use Rattle.office_core.proofs.Unborn.{IsIdle, unborn_idle}
use Rattle.office_plain.specs.declared.kept.Kept.{Kept}
use Rattle.office_plain.specs.declared.kept.SessionRow.{SessionRow}
use Rattle.office_plain.specs.Accepting.{with_accepted, newborn_row, if_starts, started, standing_first, Accepts}
use Rattle.office_plain.specs.Kept.{places_from, call_places, row_of, places_of, unfetched, keyed_sessions}
use Rattle.office_plain.specs.Ties.{Ties}
use Rattle.office_plain.proofs.Births.{births_come, none_at_end, one_more_birth, rows_come, rows_stay}
use Rattle.office_plain.proofs.Coming.{weight_come, boxes_come}
use Rattle.office_plain.proofs.Idle.{unborn_calls, caller_born}
use Rattle.office_plain.proofs.KeysCome.{keys_come, next_unborn}
use Rattle.office_plain.proofs.Noted.{origins_come, standings_come}
use Rattle.office_plain.proofs.Routed.{Comes, comes}
use Rattle.office_plain.proofs.Unseen.{none_taken, none_started, starts_next}

append_nil : {A : Type 0} (xs : List A) → xs ++ [] ≡ xs
append_nil [] = refl
append_nil (x ∷ xs) = ap (λ l. x ∷ l) (append_nil xs)

-- ---- sessions

rows_by : (w : Setting) (past : Past) (m : Message) (rows : List SessionRow) (b : Bool) → m.starts ≡ b
    → IsIdle w past (length (births w past))
    → ((s : ℕ) → slice_get rows s ≡ row_of w past s)
    → (s : ℕ)
    → slice_get (if b then rows ++ newborn_row m.service ∷ [] else rows) s ≡ row_of w (with_accepted past (Some m)) s
rows_by w past m rows true starts idle tied s = rows_come w past m rows starts idle tied s
rows_by w past m rows false starts idle tied s = rows_stay w past m rows starts tied s

places_by : (w : Setting) (past : Past) (m : Message) (places : List (List ℕ)) (b : Bool) → m.starts ≡ b
    → IsIdle w past (length (births w past))
    → ((s : ℕ) → slice_get places s ≡ places_of w past s)
    → (s : ℕ) → slice_get (if b then places ++ [] ∷ [] else places) s ≡ places_of w (with_accepted past (Some m)) s
places_by w past m places true starts idle tied s =
    one_more_birth places (births w past) (λ t d. call_places past t) [] m.service tied
    (unborn_calls w past (length (births w past)) idle (none_at_end (births w past))) s
    ∙ sym (ap (λ bs. option_map (λ d. call_places past s) (slice_get bs s)) (births_come w past m true starts))
places_by w past m places false starts idle tied s =
    tied s
    ∙ sym (ap (λ bs. option_map (λ d. call_places past s) (slice_get bs s))
    (births_come w past m false starts ∙ append_nil (births w past)))

-- ---- what goes out

-- what stands in a list stands there in a longer one
in_front : {A : Type 0} (xs ys : List A) (n : ℕ) → (slice_get xs n ≡ None → ⊥) → slice_get (xs ++ ys) n ≡ slice_get xs n
in_front [] ys n there = absurd (there refl)
in_front (x ∷ xs) ys zero there = refl
in_front (x ∷ xs) ys (suc n) there = in_front xs ys n there

-- the kind of a call by the service of its session
abbrev kind_by : Setting → ℕ → Option ℕ → OutKind
kind_by w port d =
    if is_some
    (option_and_then (λ (s : ServicePart). slice_get s.ports port) (option_and_then (slice_get w.parts.services) d))
    then kind.Remote else kind.Console

-- the kind of a call of a session that was born
kind_come : (w : Setting) (past : Past) (m : Message) (c : Call) → (service_of w past c.session ≡ None → ⊥)
    → kind_of w (with_accepted past (Some m)) c ≡ kind_of w past c
kind_come w past m c born =
    ap (kind_by w c.port)
    (ap (λ bs. slice_get bs c.session) (births_come w past m m.starts refl)
    ∙ in_front (births w past) (if m.starts then m.service ∷ [] else []) c.session born)

places_same : (f g : Call → Bool) (n : ℕ) (cs : List Call) → ((i : ℕ) (c : Call) → slice_get cs i ≡ Some c → f c ≡ g c)
    → places_from f n cs ≡ places_from g n cs
places_same f g n [] h = refl
places_same f g n (c ∷ cs) h =
    λ i. (if h 0 c refl i then n ∷ [] else []) ++ places_same f g (suc n) cs (λ j d there. h (suc j) d there) i

unfetched_come : (w : Setting) (past : Past) (m : Message) (k : OutKind) → ((s : ℕ) → IsIdle w past s)
    → unfetched w (with_accepted past (Some m)) k ≡ unfetched w past k
unfetched_come w past m k idle =
    places_same
    (λ c. is_waiting past c && same_kind k (kind_of w (with_accepted past (Some m)) c))
    (λ c. is_waiting past c && same_kind k (kind_of w past c))
    0
    (calls past)
    (λ i c there. ap (λ x. is_waiting past c && same_kind k x)
    (kind_come w past m c (caller_born w past i c (idle c.session) there)))

-- ---- all that is kept

few_more : (ms : List Message) (m : Message) (most : ℕ) → length ms < most → length (ms ++ m ∷ []) ≤ most
few_more ms m most h = simp length-append (omega arith)

-- what is kept is tied to what happened with the message that was accepted
pub ties_accepted : (w : Setting) (h : List Entry) (q : Posted) (m : Message) (o : OperationPart) (old new : Kept)
    → IsLegal w h → some_entry (past_of w h) stops ≡ false
    → message_of w (past_of w h) m.origin q ≡ Some m → operation_at w.parts m.service m.op ≡ Some o
    → Ties w (past_of w h) old → Accepts w.parts o m old new
    → Ties w (with_accepted (past_of w h) (Some m)) new
ties_accepted w h q m o old new legal running becomes operation t accepts =
    record {
      messages = accepts.messages ∙ ap (λ ms. ms ++ m ∷ []) t.messages;
      few = few_more past.messages m w.limits.messages coming.few;
      weight = accepts.weight ∙ ap (λ x. in_u64 (x + in_u64 (weight m.value))) t.weight ∙ weight_come past m;
      sessions =
          λ s. ap (λ rows. slice_get rows s) accepts.sessions
          ∙ rows_by w past m old.sessions m.starts refl idle t.sessions s;
      places =
          λ s. ap (λ places. slice_get places s) accepts.places
          ∙ places_by w past m old.places.items m.starts refl idle t.places s;
      boxes = boxes_come past n m old.boxes new.boxes number untaken t.boxes accepts.boxes coming.lives;
      origins = origins_come past n m old.book new.book number t.origins accepts.origins.noted accepts.origins.others;
      standings =
          standings_come w past n m old.book new.book number running coming.lives (one_reply w h n legal) t.standings
          (accepts.standings.changed ∙ sym (ap (λ b. Some (standing_first b)) request))
          accepts.standings.others;
      keys =
          keys_come w past m o (sessions_of new.rows)
          (accepts.rows ∙ ap (if_starts m (started w.parts o m)) t.keys)
          coming.next (unborn_idle w h m.session legal) (none_started w h) operation;
      sent = accepts.calls ∙ t.sent;
      outcomes = λ i. ap (λ os. slice_get os i) accepts.outcomes ∙ t.outcomes i;
      console = accepts.console ∙ t.console ∙ sym (unfetched_come w past m kind.Console (λ s. unborn_idle w h s legal));
      remote = accepts.remote ∙ t.remote ∙ sym (unfetched_come w past m kind.Remote (λ s. unborn_idle w h s legal));
    }
  where
    past : Past
    past = past_of w h

    n : ℕ
    n = length old.messages

    number : n ≡ length past.messages
    number = ap length t.messages

    idle : IsIdle w past (length (births w past))
    idle = unborn_idle w h (length (births w past)) legal

    coming : Comes w past m
    coming = comes w past m.origin q m idle becomes

    untaken : was_taken past n ≡ false
    untaken = none_taken w h legal n (ap (slice_get past.messages) number ∙ none_at_end past.messages)

    request : is_request w m ≡ is_some o.response
    request = ap (λ (x : Option OperationPart). elim x [ None ↦ false | Some p ↦ is_some p.response ]) operation

-- ---- what an acceptance asks

-- the next message was not noted yet
pub fresh_number : (w : Setting) (past : Past) (k : Kept) → Ties w past k → origin_of k.book (length k.messages) ≡ None
fresh_number w past k t =
    t.origins (length k.messages)
    ∙ ap (option_map (λ (m : Message). m.origin))
    (ap (slice_get past.messages) (ap length t.messages) ∙ none_at_end past.messages)

-- the session that a message starts was not born yet
pub unborn_session : (w : Setting) (past : Past) (from : Origin) (q : Posted) (m : Message) (k : Kept) → Ties w past k
    → message_of w past from q ≡ Some m → m.starts ≡ true → is_born (sessions_of k.rows) m.session ≡ false
unborn_session w past from q m k t becomes starts =
    ap (λ rows. is_born rows m.session) t.keys
    ∙ next_unborn w past m.session (starts_next w past from q m becomes starts)

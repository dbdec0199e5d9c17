-- What passed between a front over doors and its run, as answers are told to it and texts are noted.
use Rattle.std.proofs.Common.{◌≡◌, ◌≢◌, ◌⊎◌, inl, inr, refl, sym, ap, ap₂, subst, ◌∙◌, ℕ, zero, suc, ◌+◌, ◌-◌, ◌^◌, ◌<◌, ◌≤◌, min, nat_lt, Bool, true, false, ◌&&◌, ◌||◌, arith, List, [], ◌∷◌, ◌++◌, length, map, take, Option, None, Some, true≢false}
use Rattle.run_door_front.proofs.Requests.{same_door}
use Rattle.std.proofs.Common.{length-append, append-nil, append_assoc, Result, Ok, Err, MatchResult, IfOk}
use Rattle.std.specs.Prelude.{nat_eq, nat_le, slice_get, slice_set, count_by, sum_by, option_map, option_and_then}
use Rattle.std.specs.List.{list_all, list_any}
use Rattle.std.proofs.lemmas.Bool.{and_from, or_from, lt-ltb}
use Rattle.std.proofs.lemmas.List.{take-append-le, length-set}
use Rattle.std.proofs.lemmas.List.Sums.{sum_by-cons}
use Rattle.std.proofs.KnownBytes.{Appends-nil}
use Rattle.std.proofs.lemmas.List.Folds.{list_all-append, list_any-append}
use Rattle.std.proofs.lemmas.List.Elements.{Contains-append_left, Contains-append_right}
use Rattle.std.proofs.lemmas.Option.{slice_get_within}
use Rattle.outside_doors.specs.Counts.{DoorTold, has_ended}
use Rattle.behaviour_tree.specs.Data.{ProgramParts}
use Rattle.behaviour_tree.specs.declared.words.Outcome.{Outcome}
use Rattle.jsonrpc_text.specs.declared.message.Read.{Read}
use Rattle.run_theorem.specs.Exchange.{Asked, Told, Received, Sent, Exchange, IsNew}
use Rattle.run_theorem.specs.Calls.{After, Halts, IsDue, Tells, Notes, is_of}
use Rattle.run_theorem.specs.Texts.{Came}
use Rattle.run_theorem.specs.Lines.{IsPrefix}
use Rattle.jsonrpc_postings.specs.Told.{came_for, response_told}
use Rattle.run_theorem.specs.RunConnections.{RunConnection, came_with, came_of, came_at, AreTaken}
use Rattle.conn_future.specs.declared.stage.Stage.{Stage}
use Rattle.conn_future.specs.declared.stage.Stage.TheVariants as Stages
use Rattle.conn_future.specs.Stages.{stage_of, IsOver}
use Rattle.outside_traits.specs.Told.{WireTold}
use Rattle.run_door_front.specs.declared.link.PendingReply.{PendingReply}
use Rattle.run_door_front.specs.Keeping.{is_led, leads_of, lead_of, ListenerTold, ClientTold, Keeping, AreNew, IsEmpty, services_of, rests_at, rests_in_a_row_at, is_quiet, is_open_at, no_more, leads_to, AreLed}
use Rattle.outside_traits.specs.Told.{SinkTold}
use Rattle.outside_writing.specs.Sinks.{Takes}
use Rattle.run_door_front.specs.Exchanged.{Sides, sides_of, OwesAt, IsClient, AreClients, IsHeard, IsPending, AreHeard, HadNoAnswer, Pause, for_answer, for_wire, for_room, at_end, is_unended, row_of, WasPaused, WerePaused, HadNone, most_open, entire, HasExchanged, PausedSo, HasRunOut, MayHaveExchanged}
use Rattle.run_door_front.specs.AnswerSteps.{told_of, Awaits, HasTold, HasAnswered}
use Rattle.run_door_front.proofs.Changing.{eq_true, eq_false, not_eq, same_of, none_not_some, set_here, set_other, set_cases, list_all-set, slice_get-front, slice_get-last, map_alike, slice_get-mapped}
use Rattle.run_door_front.proofs.Leading.{led-set, led-new}
use Rattle.run_door_front.proofs.Owing.{given_before, due_awaits}
use Rattle.run_door_front.proofs.OneByOne.{one_by_one-longer, heard_by-longer}
use Rattle.run_door_front.proofs.Notes.{halts_still, halts_unknown, NotesSo, sent_told, sent_cut, sent_noted}

-- ---- stages

-- a connection that owes an answer is not over
not_over : (stage : Stage) → stage ≡ Stages.Owes → IsOver stage → ⊥
not_over stage owes (inl ended) = let clash : Stages.Owes ≡ Stages.Ended = sym owes ∙ ended in cc
not_over stage owes (inr (inl closed)) = let clash : Stages.Owes ≡ Stages.Closed = sym owes ∙ closed in cc
not_over stage owes (inr (inr (inl failed))) = let clash : Stages.Owes ≡ Stages.ReadFailed = sym owes ∙ failed in cc
not_over stage owes (inr (inr (inr cut))) = let clash : Stages.Owes ≡ Stages.WriteFailed = sym owes ∙ cut in cc

-- ---- connections

-- what passed on the connection of a number
record IsIn (IsMade : WireTold → Type 0) (connections : List RunConnection) (n : ℕ) (link : ClientTold) : Type 0 where
  connection : RunConnection
  there : slice_get connections n ≡ Some connection
  is : IsClient IsMade link connection

link_in : (IsMade : WireTold → Type 0) (ls : List ClientTold) (vs : List RunConnection) (n : ℕ) (l : ClientTold) → AreClients IsMade ls vs → slice_get ls n ≡ Some l
    → IsIn IsMade vs n l
link_in IsMade [] vs n l h there = absurd (none_not_some l there)
link_in IsMade (x ∷ ls) [] n l h there = absurd h
link_in IsMade (x ∷ ls) (v ∷ vs) zero l h there = record { connection = v; there = refl; is = subst (λ y. IsClient IsMade y v) (same_of x l there) h.0 }
link_in IsMade (x ∷ ls) (v ∷ vs) (suc n) l h there =
    let r = link_in IsMade ls vs n l h.1 there in record { connection = r.connection; there = r.there; is = r.is }

-- something passed on one connection
links_set : (IsMade : WireTold → Type 0) (ls : List ClientTold) (vs : List RunConnection) (n : ℕ) (l : ClientTold) (v : RunConnection) → AreClients IsMade ls vs → IsClient IsMade l v
    → AreClients IsMade (slice_set ls n l) (slice_set vs n v)
links_set IsMade [] [] n l v h k = h
links_set IsMade [] (w ∷ vs) n l v h k = absurd h
links_set IsMade (x ∷ ls) [] n l v h k = absurd h
links_set IsMade (x ∷ ls) (w ∷ vs) zero l v h k = (k, h.1)
links_set IsMade (x ∷ ls) (w ∷ vs) (suc n) l v h k = (h.0, links_set IsMade ls vs n l v h.1 k)

-- a connection with a text more
abbrev with_text : Option (List ℕ) → Stage → RunConnection → RunConnection
with_text text stage v = record { door = v.door; service = v.service; stage = stage; bodies = v.bodies; texts = v.texts ++ text ∷ [] }

-- a connection was told a text
link_told : (IsMade : WireTold → Type 0) (parts : ProgramParts) (t : Told) (l after : ClientTold) (v : RunConnection) (a : HasTold parts t l after) → IsClient IsMade l v
    → IsClient IsMade after (with_text a.text (stage_of after.seen.kept.next) v)
link_told IsMade parts t l after v a h = record {
  service = h.service ∙ sym a.service;
  door = same_door h.first l.seen after.seen v.bodies v.bodies v.texts (v.texts ++ a.text ∷ []) v.door h.door h.talks
      (a.tells.talks h.first v.bodies v.texts h.talks);
  stage = refl;
  memory = λ e. (let clash : Stages.Writes ≡ Stages.Spent = sym a.tells.writes ∙ e in cc);
  owes = subst (λ o. OwesAt o (stage_of after.seen.kept.next)) (sym a.paid) (λ e. (let clash : Stages.Writes ≡ Stages.Owes = sym a.tells.writes ∙ e in cc));
  row = λ _. subst (λ n. n ≤ after.longest) (sym a.row) (subst (λ n. l.in_a_row ≤ n) (sym a.longest) (h.row (inl (inr a.tells.owing))));
  first = h.first;
  made = h.made;
  fresh = h.fresh;
  talks = a.tells.talks h.first v.bodies v.texts h.talks;
  ended = λ e. absurd (let clash : Stages.Writes ≡ Stages.Ended = sym a.tells.writes ∙ e in cc);
}

-- ---- when there was no posting

-- what was told last does not count as told when the front was asked last
no_answer-more : (d later : Exchange) (k : ℕ) → later.received ≡ d.received → (ts : List Told) → later.sent.told ≡ d.sent.told ++ ts
    → d.received.seen ≤ length d.sent.told → HadNoAnswer d k → HadNoAnswer later k
no_answer-more d later k same ts more seen h = record {
  place = h.place;
  asked = h.asked;
  there = ap (λ (b : Received). slice_get b.asked h.place) same ∙ h.there;
  traffic = h.traffic;
  last = h.last ∙ sym (ap (λ (b : Received). count_by (is_of k) b.asked) same);
  untold =
      ap (list_any (λ (t : Told). nat_eq h.place t.place))
      (ap₂ (λ (b : Received) told. take b.seen told) same more ∙ take-append-le d.received.seen d.sent.told ts seen)
      ∙ h.untold;
}

-- how often in a row nothing was found stays
row_same : (d later : Exchange) → later.received ≡ d.received → row_of later ≡ row_of d
row_same d later same = ap (λ (b : Received). min b.waits (2 ^ 64 - 1)) same

module _ (d later : Exchange) (same : later.received ≡ d.received) (ts : List Told) (more : later.sent.told ≡ d.sent.told ++ ts)
    (seen : d.received.seen ≤ length d.sent.told) where
  was_paused-more : (k : ℕ) (p : Pause) (l : ClientTold) → WasPaused false d k p l → WasPaused false later k p l
  was_paused-more k for_answer l h = no_answer-more d later k same ts more seen h
  was_paused-more k for_wire l h = (
    h.0,
    subst (λ n. n ≤ l.waits) (sym (row_same d later same)) h.1,
    subst (λ n. n ≤ l.in_a_row) (sym (row_same d later same)) h.2,
  )
  was_paused-more k for_room l h = absurd (true≢false (sym h.0))
  was_paused-more k at_end l h = h

  paused_more : (k : ℕ) (ps : List Pause) (ls : List ClientTold) → WerePaused false d k ps ls → WerePaused false later k ps ls
  paused_more k [] [] h = h
  paused_more k [] (l ∷ ls) h = absurd h
  paused_more k (p ∷ ps) [] h = absurd h
  paused_more k (p ∷ ps) (l ∷ ls) h = (was_paused-more k p l h.0, paused_more (suc k) ps ls h.1)

-- what a connection that owed an answer is told changes nothing of why nothing came of it
owing_paused : (d : Exchange) (k : ℕ) (p : Pause) (l after : ClientTold) → stage_of l.seen.kept.next ≡ Stages.Owes
    → stage_of after.seen.kept.next ≡ Stages.Writes → after.waits ≡ l.waits → after.in_a_row ≡ l.in_a_row → WasPaused false d k p l
    → WasPaused false d k p after
owing_paused d k for_answer l after owes writes waits row h = h
owing_paused d k for_wire l after owes writes waits row h =
    (ap is_open_at writes, subst (λ n. row_of d ≤ n) (sym waits) h.1, subst (λ n. row_of d ≤ n) (sym row) h.2)
owing_paused d k for_room l after owes writes waits row h = absurd (true≢false (sym h.0))
owing_paused d k at_end l after owes writes waits row h = absurd (not_over (stage_of l.seen.kept.next) owes h)

-- nor of the others
paused_set : (d : Exchange) (k : ℕ) (ps : List Pause) (ls : List ClientTold) (n : ℕ) (l after : ClientTold) → slice_get ls n ≡ Some l
    → stage_of l.seen.kept.next ≡ Stages.Owes → stage_of after.seen.kept.next ≡ Stages.Writes → after.waits ≡ l.waits → after.in_a_row ≡ l.in_a_row
    → WerePaused false d k ps ls → WerePaused false d k ps (slice_set ls n after)
paused_set d k [] [] n l after there owes writes waits row h = h
paused_set d k [] (x ∷ ls) n l after there owes writes waits row h = absurd h
paused_set d k (p ∷ ps) [] n l after there owes writes waits row h = absurd h
paused_set d k (p ∷ ps) (x ∷ ls) zero l after there owes writes waits row h =
    (owing_paused d k p l after owes writes waits row (subst (WasPaused false d k p) (same_of x l there) h.0), h.1)
paused_set d k (p ∷ ps) (x ∷ ls) (suc n) l after there owes writes waits row h = (h.0, paused_set d (suc k) ps ls n l after there owes writes waits row h.1)

-- whether a connection can come asks for the doors and for how many connections there are
no_more-same : (before now : Keeping) → now.doors ≡ before.doors → now.most ≡ before.most → length now.connections ≡ length before.connections
    → no_more now ≡ no_more before
no_more-same before now ports most count = λ i. nat_le (most i) (count i) || list_all (λ (p : ListenerTold). has_ended p.door) (ports i)

-- ---- an answer is told

-- the request of a place that says so
abbrev pending_of : ℕ → Read → PendingReply
pending_of place read = record { place = place; read = read }

-- what came in with a request, told twice
came_is : (service : ℕ) (c : Came) (read : Read) → c.service ≡ service → c.read ≡ read → came_for service read ≡ c
came_is service c read s r = λ i. came_for (sym s i) (sym r i)

-- whose service a request's posting is for
service_came : (service : ℕ) (body : Option (List ℕ)) (c : Came) → option_map (came_with service) body ≡ Some c → c.service ≡ service
service_came service None c is = absurd (none_not_some c is)
service_came service (Some body) c is = sym (ap (λ (x : Came). x.service) (same_of (came_with service body) c is))

-- a request was told the text of its place
heard_longer : (parts : ProgramParts) (heard : List Told) (t : Told) (j : ℕ) (c : Came) (text : Option (Option (List ℕ))) → IsHeard parts heard j c text
    → IsHeard parts (heard ++ t ∷ []) j c text
heard_longer parts heard t j c text h = record {
  told = h.told;
  there = Contains-append_left heard (t ∷ []) h.told h.there;
  place = h.place;
  sent = h.sent;
}

module _ (IsMade : WireTold → Type 0) (parts : ProgramParts) (first : Sides) (old new : Keeping) (notes : SinkTold) (d : Exchange) (place : ℕ) (outcomes : List Outcome)
    (h : HasExchanged IsMade parts first (sides_of old notes) d) (due : IsDue place outcomes d) (a : HasAnswered parts (told_of place outcomes) old new)
    (running : old.halted ≡ false) where
  -- what passed on the connection
  here : IsIn IsMade h.connections a.number a.link
  here = link_in IsMade old.connections h.connections a.number a.link h.clients a.there

  -- and with the text
  abbrev now_here : RunConnection
  now_here = with_text a.tells.text (stage_of a.after.seen.kept.next) here.connection

  abbrev now_all : List RunConnection
  now_all = slice_set h.connections a.number now_here

  abbrev now_heard : List Told
  now_heard = h.heard ++ told_of place outcomes ∷ []

  abbrev now_exchanged : Exchange
  now_exchanged = record { received = d.received; sent = record d.sent { told = d.sent.told ++ told_of place outcomes ∷ [] } }

  -- its posting is a request of the connection
  of_connection : (q : Asked) → slice_get h.all.asked place ≡ Some q → q.traffic ≡ a.number
  of_connection q there =
      same_of q.traffic a.number
      (sym (slice_get-mapped (λ (x : Asked). x.traffic) h.all.asked place q there) ∙ ap (λ l. slice_get l place) h.traffics ∙ a.place)

  -- the service for which a request came in
  came_for_service : (j : ℕ) (q : Asked) (c : Came) (connection : RunConnection) → slice_get h.all.asked j ≡ Some q → slice_get h.all.came j ≡ Some c
      → slice_get h.connections q.traffic ≡ Some connection → c.service ≡ connection.service
  came_for_service j q c connection asked came there =
      let is : came_at h.connections q ≡ Some c =
      same_of (came_at h.connections q) (Some c)
      (sym (slice_get-mapped (came_at h.connections) h.all.asked j q asked) ∙ ap (λ l. slice_get l j) h.came ∙ slice_get-mapped Some h.all.came j c came) in
      service_came connection.service (slice_get connection.bodies q.request) c (sym (ap (option_and_then (came_of q.request)) there) ∙ is)

  -- what came in stays
  came_stays : (q : Asked) → came_at now_all q ≡ came_at h.connections q
  came_stays q = by (nat_eq q.traffic a.number) refl
    where
      by : (b : Bool) → nat_eq q.traffic a.number ≡ b → came_at now_all q ≡ came_at h.connections q
      by true e =
          let is : q.traffic ≡ a.number = eq_true q.traffic a.number e in
          ap (option_and_then (came_of q.request)) (ap (slice_get now_all) is ∙ set_here h.connections a.number here.connection now_here here.there)
          ∙ sym (ap (option_and_then (came_of q.request)) (ap (slice_get h.connections) is ∙ here.there))
      by false e = ap (option_and_then (came_of q.request)) (set_other h.connections a.number q.traffic now_here (eq_false q.traffic a.number e))

  -- what was taken stays
  taken_stays : AreTaken now_all h.all.asked
  taken_stays = record {
    in_order = h.taken.in_order;
    all = λ k connection there. taken_by k connection (set_cases h.connections a.number k here.connection now_here connection here.there there);
  }
    where
      taken_by : (k : ℕ) (connection : RunConnection) → ((k ≡ a.number) × (connection ≡ now_here)) ⊎ ((k ≢ a.number) × (slice_get h.connections k ≡ Some connection))
          → count_by (is_of k) h.all.asked ≡ length connection.bodies
      taken_by k connection (inl is) =
          h.taken.all k here.connection (ap (slice_get h.connections) is.0 ∙ here.there) ∙ sym (ap (λ (v : RunConnection). length v.bodies) is.1)
      taken_by k connection (inr other) = h.taken.all k connection other.1

  -- ---- the requests

  -- the request that waited was told its text
  heard_now : (j : ℕ) (q : Asked) (c : Came) → slice_get h.all.asked j ≡ Some q → slice_get h.all.came j ≡ Some c → q.traffic ≡ a.number
      → IsPending old.connections j q c here.connection → IsHeard parts now_heard j c (slice_get (here.connection.texts ++ a.tells.text ∷ []) q.request)
  heard_now j q c asked came is pending =
      let same_link : pending.link ≡ a.link = same_of pending.link a.link (sym pending.there ∙ ap (slice_get old.connections) is ∙ a.there) in
      let same_pending : pending_of j c.read ≡ pending_of place a.tells.of_place.read =
      same_of (pending_of j c.read) (pending_of place a.tells.of_place.read)
      (sym pending.pending ∙ ap (λ (l : ClientTold). l.pending) same_link ∙ a.tells.of_place.pending) in
      let service : c.service ≡ a.link.service = came_for_service j q c here.connection asked came (ap (slice_get h.connections) is ∙ here.there) ∙ here.is.service in
      record {
        told = told_of place outcomes;
        there = Contains-append_right h.heard (told_of place outcomes ∷ []) (told_of place outcomes) (0, omega arith, refl);
        place = sym (ap (λ (o : PendingReply). o.place) same_pending);
        sent =
            ap (slice_get (here.connection.texts ++ a.tells.text ∷ [])) pending.last ∙ slice_get-last here.connection.texts a.tells.text
            ∙ ap Some (a.tells.of_place.sent
            ∙ ap (λ x. response_told parts x outcomes) (came_is a.link.service c a.tells.of_place.read service (ap (λ (o : PendingReply). o.read) same_pending)));
      }

  -- those of the connection
  heard_here : (j : ℕ) (q : Asked) (c : Came) → slice_get h.all.asked j ≡ Some q → slice_get h.all.came j ≡ Some c → q.traffic ≡ a.number
      → IsHeard parts h.heard j c (slice_get here.connection.texts q.request) ⊎
      (IsPending old.connections j q c here.connection × (list_any (λ (t : Told). nat_eq j t.place) h.heard ≡ false))
      → IsHeard parts now_heard j c (slice_get (here.connection.texts ++ a.tells.text ∷ []) q.request)
  heard_here j q c asked came is (inl heard) =
      let within : q.request < length here.connection.texts =
      slice_get_within here.connection.texts q.request (response_told parts c heard.told.outcomes) heard.sent in
      subst (IsHeard parts now_heard j c) (sym (slice_get-front here.connection.texts (a.tells.text ∷ []) q.request within))
      (heard_longer parts h.heard (told_of place outcomes) j c (slice_get here.connection.texts q.request) heard)
  heard_here j q c asked came is (inr pending) = heard_now j q c asked came is pending.0

  -- those of the others
  heard_there : (j : ℕ) (q : Asked) (c : Came) (connection : RunConnection) → slice_get h.all.asked j ≡ Some q → q.traffic ≢ a.number
      → IsHeard parts h.heard j c (slice_get connection.texts q.request) ⊎
      (IsPending old.connections j q c connection × (list_any (λ (t : Told). nat_eq j t.place) h.heard ≡ false))
      → IsHeard parts now_heard j c (slice_get connection.texts q.request) ⊎
      (IsPending new.connections j q c connection × (list_any (λ (t : Told). nat_eq j t.place) now_heard ≡ false))
  heard_there j q c connection asked other (inl heard) =
      inl (heard_longer parts h.heard (told_of place outcomes) j c (slice_get connection.texts q.request) heard)
  heard_there j q c connection asked other (inr pending) =
      let elsewhere : j ≢ place = λ is. other (of_connection q (sym (ap (slice_get h.all.asked) is) ∙ asked)) in
      inr (
        record {
          link = pending.0.link;
          there = ap (λ l. slice_get l q.traffic) a.connections ∙ set_other old.connections a.number q.traffic a.after other ∙ pending.0.there;
          pending = pending.0.pending;
          last = pending.0.last;
        },
        list_any-append (λ (t : Told). nat_eq j t.place) h.heard (told_of place outcomes ∷ [])
            ∙ or_from (list_any (λ (t : Told). nat_eq j t.place) h.heard) (nat_eq j place || false) pending.1
            (or_from (nat_eq j place) false (not_eq j place elsewhere) refl),
      )

  -- all of them
  all_heard : AreHeard parts new now_all h.all now_heard
  all_heard j q c connection asked came there = by (set_cases h.connections a.number q.traffic here.connection now_here connection here.there there)
    where
      by : ((q.traffic ≡ a.number) × (connection ≡ now_here)) ⊎ ((q.traffic ≢ a.number) × (slice_get h.connections q.traffic ≡ Some connection))
          → IsHeard parts now_heard j c (slice_get connection.texts q.request) ⊎
          (IsPending new.connections j q c connection × (list_any (λ (t : Told). nat_eq j t.place) now_heard ≡ false))
      by (inl is) =
          inl (subst (λ (v : RunConnection). IsHeard parts now_heard j c (slice_get v.texts q.request)) (sym is.1)
          (heard_here j q c asked came is.0 (h.answers j q c here.connection asked came (ap (slice_get h.connections) is.0 ∙ here.there))))
      by (inr other) = heard_there j q c connection asked other.0 (h.answers j q c connection asked came other.1)

  -- ---- all of it

  count : length new.connections ≡ length old.connections
  count = ap length a.connections ∙ length-set old.connections a.number a.after

  -- where there was no posting the connection waited for its answer
  none_now : HadNone false old d → HadNone false new now_exchanged
  none_now n = record {
    pauses = n.pauses;
    each = subst (WerePaused false now_exchanged 0 n.pauses) (sym a.connections)
        (paused_more d now_exchanged refl (told_of place outcomes ∷ []) refl h.seen 0 n.pauses (slice_set old.connections a.number a.after)
        (paused_set d 0 n.pauses old.connections a.number a.link a.after a.there a.tells.tells.owing a.tells.tells.writes a.tells.waits a.tells.row n.each));
    over = λ ended. (no_more-same old new a.doors a.most count ∙ (n.over ended).0, (n.over ended).1);
    rested = subst (λ ps. row_of d ≤ rests_in_a_row_at ps) (sym a.doors) n.rested;
    quiet = elim n.quiet [
      | inl full ↦ inl (ap₂ (λ m k. nat_le m k || nat_le most_open (count_by is_unended n.pauses)) a.most count ∙ full)
      | inr all ↦ inr (subst (λ ps. list_all (is_quiet (row_of d)) ps ≡ true) (sym a.doors) all)
    ];
  }

  pub paused_now : PausedSo false old d → PausedSo false new now_exchanged
  paused_now before = λ runs gave. elim (before runs gave) [ inl n ↦ inl (none_now n) | inr many ↦ inr many ]

  -- what passed, with the answer
  exchanged_now : HasExchanged IsMade parts first (sides_of new notes) now_exchanged
  exchanged_now =
      let as_many : length new.connections ≡ length old.connections = count in
      let heard_all : h.heard ≡ d.sent.told = h.all_told (h.sent.halted ∙ running) in
      let accepted : length old.connections ≤ old.most = h.accepted in
      let most : new.most ≡ old.most = a.most in
      let seen : d.received.seen ≤ length d.sent.told = h.seen in
      let longer : length now_exchanged.sent.told ≡ length d.sent.told + 1 = length-append d.sent.told (told_of place outcomes ∷ []) in
      record {
        services = ap (map (λ (p : ListenerTold). p.service)) a.doors ∙ h.services;
        in_place = ap (map (λ (p : ListenerTold). p.door.place)) a.doors ∙ h.in_place;
        most = a.most ∙ h.most;
        within = subst (λ ps. list_all (λ n. nat_lt n (length parts.services)) (map (λ (p : ListenerTold). p.service) ps) ≡ true) (sym a.doors) h.within;
        connections = now_all;
        clients = subst (λ ls. AreClients IsMade ls now_all) (sym a.connections)
            (links_set IsMade old.connections h.connections a.number a.after now_here h.clients
            (link_told IsMade parts (told_of place outcomes) a.link a.after here.connection a.tells here.is));
        came_in = ap (sum_by (λ (p : ListenerTold). p.door.wires)) a.doors ∙ h.came_in ∙ sym count;
        led = subst (λ ps. AreLed ps new.connections) (sym a.doors)
            (led-set old.doors old.connections new.connections a.number a.link a.after a.there a.tells.service a.connections h.led);
        at_doors = subst (λ ps. list_all (λ (v : RunConnection). list_any (is_led v.door v.service) (map lead_of ps)) now_all ≡ true) (sym a.doors)
            (list_all-set (λ (v : RunConnection). list_any (is_led v.door v.service) (leads_of old)) h.connections a.number here.connection now_here here.there refl ∙ h.at_doors);
        accepted = omega arith;
        all = h.all;
        asked = h.asked;
        traffics = h.traffics ∙ sym a.traffics;
        taken = taken_stays;
        came = map_alike (came_at now_all) (came_at h.connections) h.all.asked came_stays ∙ h.came;
        given = h.given;
        heard = now_heard;
        told = ([], append-nil now_heard ∙ ap (λ l. l ++ told_of place outcomes ∷ []) heard_all);
        all_told = λ _. ap (λ l. l ++ told_of place outcomes ∷ []) heard_all;
        heard_by = heard_by-longer d.received.seens h.heard (told_of place outcomes ∷ []) h.heard_by;
        places =
            list_all-append (λ (t : Told). nat_lt t.place (length h.all.asked)) h.heard (told_of place outcomes ∷ [])
            ∙ and_from (list_all (λ (t : Told). nat_lt t.place (length h.all.asked)) h.heard) (nat_lt place (length h.all.asked) && true) h.places
            (and_from (nat_lt place (length h.all.asked)) true (lt-ltb place (length h.all.asked) (given_before IsMade parts first old notes d place outcomes h due)) refl);
        answers = all_heard;
        one_by_one = one_by_one-longer d now_exchanged.sent (told_of place outcomes ∷ []) refl h.one_by_one;
        sent = sent_told first (sides_of old notes) d.sent h.sent new (told_of place outcomes) a.halted;
        noted_by_then = h.noted_by_then;
        left = h.left;
        faults = h.faults;
        seen = omega arith;
        moved = subst (λ ps. min d.received.moves (2 ^ 64 - 1) ≤ rests_at ps) (sym a.doors) h.moved;
      }

-- ---- an answer is told to a front that halted

module _ (IsMade : WireTold → Type 0) (parts : ProgramParts) (first before : Sides) (d : Exchange) (t : Told)
    (h : HasExchanged IsMade parts first before d) (cut : before.kept.halted ≡ true) where
  -- what was heard stays the front of what was told
  front_longer : IsPrefix h.heard (d.sent.told ++ t ∷ [])
  front_longer = (h.told.0 ++ t ∷ [], sym (append_assoc h.heard h.told.0 (t ∷ [])) ∙ ap (λ l. l ++ t ∷ []) h.told.1)

  exchanged_cut : HasExchanged IsMade parts first before (record { received = d.received; sent = record d.sent { told = d.sent.told ++ t ∷ [] } })
  exchanged_cut =
      let seen : d.received.seen ≤ length d.sent.told = h.seen in
      let longer : length (d.sent.told ++ t ∷ []) ≡ length d.sent.told + 1 = length-append d.sent.told (t ∷ []) in
      record {
        services = h.services;
        in_place = h.in_place;
        most = h.most;
        within = h.within;
        connections = h.connections;
        clients = h.clients;
        came_in = h.came_in;
        led = h.led;
        at_doors = h.at_doors;
        accepted = h.accepted;
        all = h.all;
        asked = h.asked;
        traffics = h.traffics;
        taken = h.taken;
        came = h.came;
        given = h.given;
        heard = h.heard;
        told = front_longer;
        all_told = λ runs. absurd (true≢false (sym (h.sent.halted ∙ cut) ∙ runs));
        heard_by = h.heard_by;
        places = h.places;
        answers = h.answers;
        one_by_one = one_by_one-longer d (record d.sent { told = d.sent.told ++ t ∷ [] }) (t ∷ []) refl h.one_by_one;
        sent = sent_told first before d.sent h.sent before.kept t refl;
        noted_by_then = h.noted_by_then;
        left = h.left;
        faults = h.faults;
        seen = omega arith;
        moved = h.moved;
      }

  paused_cut : PausedSo false before.kept (record { received = d.received; sent = record d.sent { told = d.sent.told ++ t ∷ [] } })
  paused_cut = λ runs. absurd (true≢false (sym (h.sent.halted ∙ cut) ∙ runs))

-- ---- a text is noted

-- a front of a front
longer_front : (xs ys zs : List ℕ) → IsPrefix xs ys → IsPrefix ys zs → IsPrefix xs zs
longer_front xs ys zs f g = (f.0 ++ g.0, sym (append_assoc xs f.0 g.0) ∙ ap (λ l. l ++ g.0) f.1 ∙ g.1)

module _ (IsMade : WireTold → Type 0) (parts : ProgramParts) (first : Sides) (old : Keeping) (was notes : SinkTold) (halted : Bool) (text : List ℕ) (d : Exchange)
    (h : HasExchanged IsMade parts first (sides_of old was) d)
    (n : NotesSo first (sides_of (record old { halted = halted }) notes) d.sent h.sent.notes text) where
  abbrev noted_exchanged : Exchange
  noted_exchanged = record { received = d.received; sent = n.after }

  -- there was no posting as before
  none_noted : HadNone false old d → HadNone false (record old { halted = halted }) noted_exchanged
  none_noted k = record {
    pauses = k.pauses;
    each = paused_more d noted_exchanged refl [] (n.told ∙ sym (append-nil d.sent.told)) h.seen 0 k.pauses old.connections k.each;
    over = k.over;
    rested = k.rested;
    quiet = k.quiet;
  }

  paused_noted : PausedSo false old d → PausedSo false (record old { halted = halted }) noted_exchanged
  paused_noted before = λ runs gave. elim (before (n.stays runs) gave) [ inl k ↦ inl (none_noted k) | inr many ↦ inr many ]

  exchanged_noted : HasExchanged IsMade parts first (sides_of (record old { halted = halted }) notes) noted_exchanged
  exchanged_noted = record {
    services = h.services;
    in_place = h.in_place;
    most = h.most;
    within = h.within;
    connections = h.connections;
    clients = h.clients;
    came_in = h.came_in;
    led = h.led;
    at_doors = h.at_doors;
    accepted = h.accepted;
    all = h.all;
    asked = h.asked;
    traffics = h.traffics;
    taken = h.taken;
    came = h.came;
    given = h.given;
    heard = h.heard;
    told = subst (IsPrefix h.heard) (sym n.told) h.told;
    all_told = λ runs. h.all_told (n.stays runs) ∙ sym n.told;
    heard_by = h.heard_by;
    places = h.places;
    answers = h.answers;
    one_by_one = one_by_one-longer d n.after [] (n.told ∙ sym (append-nil d.sent.told)) h.one_by_one;
    sent = n.sent;
    noted_by_then = longer_front d.received.noted h.sent.notes n.sent.notes h.noted_by_then n.grew;
    left = h.left;
    faults = h.faults;
    seen = subst (λ l. d.received.seen ≤ length l) (sym n.told) h.seen;
    moved = h.moved;
  }

-- ---- calls

-- whether the front halted is known, also where memory ran out
pub halted_is : (IsMade : WireTold → Type 0) (parts : ProgramParts) (first now : Sides) (d : Exchange) → MayHaveExchanged IsMade parts first now d
    → d.sent.halted ≡ now.kept.halted
halted_is IsMade parts first now d (inl out) = out.1
halted_is IsMade parts first now d (inr h) = h.0.sent.halted

module _ (IsMade : WireTold → Type 0) (parts : ProgramParts) (A B : Type 0) (a : A) (b : B) (first : Sides) (old : Keeping) (was : SinkTold) (d : Exchange)
    (h : MayHaveExchanged IsMade parts first (sides_of old was) d) where
  -- the same front, as far as its outside is concerned
  abbrev pub Same : Sides → Exchange → Type 0
  Same now x = A × B × MayHaveExchanged IsMade parts first now x

  -- what passed where memory had not run out
  exchanged_yet : old.spent ≡ false → HasExchanged IsMade parts first (sides_of old was) d × PausedSo false old d
  exchanged_yet lasts = by h
    where
      by : MayHaveExchanged IsMade parts first (sides_of old was) d → HasExchanged IsMade parts first (sides_of old was) d × PausedSo false old d
      by (inl out) = absurd (true≢false (sym out.0 ∙ lasts))
      by (inr k) = k

  -- nothing more passes once memory ran out
  pub untold-so : {T E : Type 0} (r : Result T E) (e : E) (place : ℕ) (outcomes : List Outcome) → r ≡ Err e
      → MatchResult r (λ _. After (Same (sides_of old was)) (Tells place outcomes d)) (λ _. Same (sides_of old was) d)
  untold-so r e place outcomes is =
      subst (λ v. MatchResult v (λ _. After (Same (sides_of old was)) (Tells place outcomes d)) (λ _. Same (sides_of old was) d)) (sym is) (a, b, h)

  -- a front that halted is told of a place
  pub told_cut-so : (place : ℕ) (outcomes : List Outcome) → old.spent ≡ false → old.halted ≡ true
      → After (Same (sides_of old was)) (Tells place outcomes d)
  told_cut-so place outcomes lasts cut =
      let t : Told = told_of place outcomes in (
        record { received = d.received; sent = record d.sent { told = d.sent.told ++ t ∷ [] } },
        (
          a,
          b,
          inr (
            exchanged_cut IsMade parts first (sides_of old was) d t (exchanged_yet lasts).0 cut,
            paused_cut IsMade parts first (sides_of old was) d t (exchanged_yet lasts).0 cut,
          ),
        ),
        record { told = refl; noted = refl; notes_failed = refl; halts = halts_still d.sent (record d.sent { told = d.sent.told ++ t ∷ [] }) refl refl; received = refl },
      )

  -- it is told of a place, or memory ran out
  pub told-so : {T E : Type 0} (r : Result T E) (new : Keeping) (place : ℕ) (outcomes : List Outcome) → old.spent ≡ false → old.halted ≡ false
      → IsDue place outcomes d → ((n : ℕ) → Awaits place n old → IfOk r (λ _. HasAnswered parts (told_of place outcomes) old new))
      → MatchResult r (λ _. old.spent ≡ false → new.spent ≡ false) (λ _. new.spent ≡ true) → new.halted ≡ old.halted
      → MatchResult r (λ _. After (Same (sides_of new was)) (Tells place outcomes d)) (λ _. Same (sides_of new was) d)
  told-so (Ok v) new place outcomes lasts running due answered out halted =
      let t : Told = told_of place outcomes in
      let yet = exchanged_yet lasts in
      let at = due_awaits IsMade parts first old was d place outcomes yet.0 due in (
        record { received = d.received; sent = record d.sent { told = d.sent.told ++ t ∷ [] } },
        (
          a,
          b,
          inr (
            exchanged_now IsMade parts first old new was d place outcomes yet.0 due (answered at.0 at.1) running,
            paused_now IsMade parts first old new was d place outcomes yet.0 due (answered at.0 at.1) running yet.1,
          ),
        ),
        record { told = refl; noted = refl; notes_failed = refl; halts = halts_still d.sent (record d.sent { told = d.sent.told ++ t ∷ [] }) refl refl; received = refl },
      )
  told-so (Err e) new place outcomes lasts running due answered out halted =
      (a, b, inl (out, halted_is IsMade parts first (sides_of old was) d h ∙ sym halted))

  -- a text is noted to a front that halted, by no answer
  pub noted_cut-so : (text : List ℕ) → old.halted ≡ true → d.sent.notes_failed ≡ d.sent.halted
      → After (Same (sides_of old was)) (Notes text d)
  noted_cut-so text cut notes_failed = by h
    where
      by : MayHaveExchanged IsMade parts first (sides_of old was) d → After (Same (sides_of old was)) (Notes text d)
      by (inl out) =
          let after : Sent = record d.sent { noted = d.sent.noted ++ text } in (
            record { received = d.received; sent = after },
            (a, b, inl out),
            record { told = refl; noted = refl; notes_failed = notes_failed; halts = halts_still d.sent after refl refl; received = refl },
          )
      by (inr k) =
          let n : NotesSo first (sides_of old was) d.sent k.0.sent.notes text = sent_cut first (sides_of old was) d.sent k.0.sent text cut in (
            record { received = d.received; sent = n.after },
            (
              a,
              b,
              inr (
                exchanged_noted IsMade parts first old was was old.halted text d k.0 n,
                paused_noted IsMade parts first old was was old.halted text d k.0 n k.1,
              ),
            ),
            record { told = n.told; noted = n.noted; notes_failed = n.notes_failed; halts = n.halts; received = refl },
          )

  -- what is known where memory had run out
  out_noted : (halted : Bool) (text : List ℕ) → old.halted ≡ false → HasRunOut old d → (after : Sent) × (after.halted ≡ halted)
      × (after.told ≡ d.sent.told) × (after.noted ≡ d.sent.noted ++ text) × (after.notes_failed ≡ after.halted) × Halts d.sent after
  out_noted true text running out =
      let after : Sent = record { told = d.sent.told; noted = d.sent.noted ++ text; halted = true; notes_failed = true; faults = d.sent.faults + 1 } in
      (after, refl, refl, refl, refl, halts_unknown d.sent after refl refl)
  out_noted false text running out =
      let after : Sent = record { told = d.sent.told; noted = d.sent.noted ++ text; halted = false; notes_failed = false; faults = d.sent.faults } in
      (after, refl, refl, refl, refl, halts_still d.sent after (sym (out.1 ∙ running)) refl)

  -- a text is noted, as far as the sink takes it
  noted-so : (halted : Bool) (notes : SinkTold) (text : List ℕ) (count : ℕ) → old.halted ≡ false → halted ≡ nat_lt count (length text) → Takes text count was notes
      → After (Same (sides_of (record old { halted = halted }) notes)) (Notes text d)
  noted-so halted notes text count running cut takes = by h
    where
      by : MayHaveExchanged IsMade parts first (sides_of old was) d → After (Same (sides_of (record old { halted = halted }) notes)) (Notes text d)
      by (inl out) =
          let n = out_noted halted text running out in (
            record { received = d.received; sent = n.0 },
            (a, b, inl (out.0, n.1)),
            record { told = n.2; noted = n.3; notes_failed = n.4; halts = n.5; received = refl },
          )
      by (inr k) =
          let n : NotesSo first (sides_of (record old { halted = halted }) notes) d.sent k.0.sent.notes text =
          sent_noted first (sides_of old was) d.sent k.0.sent halted notes text count running cut takes in (
            record { received = d.received; sent = n.after },
            (
              a,
              b,
              inr (
                exchanged_noted IsMade parts first old was notes halted text d k.0 n,
                paused_noted IsMade parts first old was notes halted text d k.0 n k.1,
              ),
            ),
            record { told = n.told; noted = n.noted; notes_failed = n.notes_failed; halts = n.halts; received = refl },
          )

  -- the sink took all of it
  pub noted_whole-so : (notes : SinkTold) (text : List ℕ) (count : ℕ) → old.halted ≡ false → nat_lt count (length text) ≡ false → Takes text count was notes
      → After (Same (sides_of old notes)) (Notes text d)
  noted_whole-so notes text count running whole takes =
      let same : record old { halted = false } ≡ old = λ i. record old { halted = sym running i } in
      subst (λ k. After (Same (sides_of k notes)) (Notes text d)) same (noted-so false notes text count running (sym whole) takes)

  -- the sink failed
  pub noted_part-so : (new : Keeping) (notes : SinkTold) (text : List ℕ) (count : ℕ) → old.halted ≡ false → nat_lt count (length text) ≡ true
      → Takes text count was notes → new ≡ record old { halted = true } → After (Same (sides_of new notes)) (Notes text d)
  noted_part-so new notes text count running part takes is =
      subst (λ k. After (Same (sides_of k notes)) (Notes text d)) (sym is) (noted-so true notes text count running (sym part) takes)

-- ---- before the first call

-- no door has given a wire
no_wires : (ports : List ListenerTold) → AreNew ports → sum_by (λ (p : ListenerTold). p.door.wires) ports ≡ 0
no_wires [] new = refl
no_wires (p ∷ ps) new =
    sum_by-cons (λ (p : ListenerTold). p.door.wires) p ps
    ∙ ap₂ (λ m n. m + n) (ap (λ (t : DoorTold). t.wires) new.0) (no_wires ps new.1)

-- nothing passed with a front that was just made
pub nothing_exchanged : (IsMade : WireTold → Type 0) (parts : ProgramParts) (kept : Keeping) (notes : SinkTold) → IsEmpty kept
    → list_all (λ n. nat_lt n (length parts.services)) (services_of kept) ≡ true
    → (d : Exchange) × IsNew d × MayHaveExchanged IsMade parts (sides_of kept notes) (sides_of kept notes) d
nothing_exchanged IsMade parts kept notes empty within = (
  record {
    received = record {
      given = [];
      asked = [];
      left = None;
      waits = 0;
      moves = 0;
      ended = false;
      faults = 0;
      seen = 0;
      noted = [];
      seens = [];
    };
    sent = record { told = []; noted = []; halted = false; notes_failed = false; faults = notes.faults };
  },
  record {
    given = refl;
    asked = refl;
    waits = refl;
    unmoved = refl;
    open_yet = refl;
    unseen = refl;
    unnoted = refl;
    unasked = refl;
    told = refl;
    noted = refl;
    writes = refl;
    notes_unfailed = refl;
  },
  inr (
    record {
      services = refl;
      in_place = refl;
      most = refl;
      within = within;
      connections = [];
      clients = subst (λ ls. AreClients IsMade ls []) (sym empty.connections) tt;
      came_in = no_wires kept.doors empty.doors ∙ sym (ap length empty.connections);
      led = λ n. led-new n kept.doors empty.doors ∙ sym (ap (count_by (leads_to n)) empty.connections);
      at_doors = refl;
      accepted = subst (λ (ls : List ClientTold). length ls ≤ kept.most) (sym empty.connections) (omega arith);
      all = record { asked = []; came = [] };
      asked = refl;
      traffics = sym empty.traffics;
      taken = record { in_order = λ j q there. absurd (none_not_some q there); all = λ k connection there. absurd (none_not_some connection there) };
      came = refl;
      given = refl;
      heard = [];
      told = ([], refl);
      all_told = λ _. refl;
      heard_by = λ j n there. absurd (none_not_some n there);
      places = refl;
      answers = λ j q c connection asked. absurd (none_not_some q asked);
      one_by_one = record { counts = refl; each = λ i j n q r there. absurd (none_not_some q there) };
      sent = record {
        notes = [];
        written = Appends-nil notes.written;
        noted = entire refl refl refl;
        halted = sym empty.halted;
        notes_failed = refl;
        faults = refl;
      };
      noted_by_then = ([], refl);
      left = refl;
      faults = refl;
      seen = omega arith;
      moved = none_counted (rests_at kept.doors) (2 ^ 64 - 1);
    },
    λ runs gave. absurd (not_asked gave),
  ),
)
  where
    none_counted : (a cap : ℕ) → min 0 cap ≤ a
    none_counted a cap = omega arith

    not_asked : (false ≡ true) ⊎ (0 < 0) → ⊥
    not_asked (inl ended) = true≢false (sym ended)
    not_asked (inr waits) = omega arith

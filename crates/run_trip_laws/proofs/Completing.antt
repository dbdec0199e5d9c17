-- The trips of the calls to services elsewhere, as a history grows.
use Rattle.std.proofs.Common.{◌≡◌, ℕ, Bool, true, false, cond, ◌&&◌, ◌||◌, List, [], ◌∷◌, ◌++◌, refl}
use Rattle.outside_links.specs.Trips.{LinkTold}
use Rattle.std.proofs.Common.{sym, ap, subst, ◌∙◌, Option, None, Some, option_map, true≢false, slice_get, filter}
use Rattle.std.proofs.Common.{filter_map, is_some, nat_eq, option_and_then, append_assoc, unwrap_or, if◌then◌else◌}
use Rattle.std.specs.Prelude.{fold}
use Rattle.std.specs.List.{list_any, list_all, cons_option, AllZip}
use Rattle.std.proofs.lemmas.List.{append-nil}
use Rattle.std.proofs.lemmas.List.Sums.{fold-append}
use Rattle.std.proofs.lemmas.Option.{slice_get-get_or}
use Rattle.std.proofs.lemmas.List.Elements.{filter-append, filter_map-append}
use Rattle.jolie_trees.specs.Trees.{void_tree}
use Rattle.behaviour_tree.specs.Data.{PortPart, ServicePart}
use Rattle.behaviour_tree.specs.declared.words.Outcome.{Outcome}
use Rattle.office_core.specs.declared.history.Act.{Act}
use Rattle.office_core.specs.declared.history.Act.TheVariants as act
use Rattle.office_core.specs.declared.history.Entry.{Entry}
use Rattle.office_core.specs.declared.history.Placed.TheVariants as at
use Rattle.office_core.specs.declared.message.Call.{Call}
use Rattle.office_core.specs.declared.outgoing.Outgoing.{Outgoing}
use Rattle.office_core.specs.declared.outgoing.OutKind.{OutKind}
use Rattle.office_core.specs.declared.outgoing.OutKind.TheVariants as kind
use Rattle.office_core.specs.Limits.{Setting, first_worker}
use Rattle.office_core.specs.Past.{Past}
use Rattle.office_core.specs.Sessions.{service_of}
use Rattle.office_core.specs.Keys.{first}
use Rattle.office_core.specs.Accepted.{past_of, port_of}
use Rattle.office_core.specs.Calls.{calls, call, is_call, brought_in, goes_out, kind_of, same_kind}
use Rattle.office_core.specs.Calls.{outcome_by}
use Rattle.office_core.specs.Legal.{IsLegal}
use Rattle.office_core.proofs.Numbers.{calls_rise}
use Rattle.office_plain.specs.Entries.{entry}
use Rattle.office_plain.specs.Replies.{going, next_outgoing}
use Rattle.office_plain.proofs.Acting.{left}
use Rattle.office_plain.proofs.CallPlaces.{call_at, seated, Seated}
use Rattle.office_plain.proofs.Lists.{none_not_some, itself}
use Rattle.office_plain.proofs.Sending.{speaks_of, was_sent, calls_known}
use Rattle.session_turn.proofs.Histories.{past_on, some_of, service_stays}
use Rattle.run_record.specs.Outside.{Trip, trips, fetched_in, trip_of, console_calls}
use Rattle.outside_traits.specs.Told.{Lists}
use Rattle.outside_links.specs.Trips.{Made}
use Rattle.run_theorem.specs.Trips.{faults_after_trip, HasCounted, IsTrip, Travelled, AreVoid}
use Rattle.run_trip_laws.specs.Going.{is_inward, is_of_session, fetch_of, answer_of, went_out, goes_to, AreSettled}
use Rattle.run_trip_laws.specs.Going.{IsCompletedCall, AreCompletedCalls, Completed, IsHeard}
use Rattle.run_trip_laws.proofs.Places.{filter_map_same, any_at, at_front}
use Rattle.run_trip_laws.proofs.Growing.{legal_parts, caller, port_stays, calls_on, sent_by}
use Rattle.run_trip_laws.proofs.Fetched.{IsOldest, placed_out, fetching, bringing, outcome_back}
use Rattle.run_trip_laws.proofs.Settling.{over_all, sessions_inward, past_went, of_next}

-- ---- what stays

-- the first of a list is the first of a longer one
first_stays : {A : Type 0} (xs ys : List A) (x : A) → first xs ≡ Some x → first (xs ++ ys) ≡ Some x
first_stays [] ys x h = absurd (none_not_some x h)
first_stays (y ∷ xs) ys x h = h

-- a call that was sent stays the call of its number
call_stays : (w : Setting) (h : List Entry) (e : Entry) (s k : ℕ) (c : Call) → call (past_of w h) s k ≡ Some c
    → call (past_of w (h ++ e ∷ [])) s k ≡ Some c
call_stays w h e s k c there =
    ap (λ cs. first (filter (is_call s k) cs)) (calls_on w h e)
    ∙ ap first (filter-append (is_call s k) (calls (past_of w h)) (sent_by e))
    ∙ first_stays (filter (is_call s k) (calls (past_of w h))) (filter (is_call s k) (sent_by e)) c there

-- and so does what was received for a call
received_stays : (w : Setting) (h : List Entry) (e : Entry) (c : Call) (o : Outcome)
    → first (filter_map (brought_in c) (past_of w h).entries) ≡ Some o
    → first (filter_map (brought_in c) (past_of w (h ++ e ∷ [])).entries) ≡ Some o
received_stays w h e c o there =
    ap (λ (p : Past). first (filter_map (brought_in c) p.entries)) (past_on w h e)
    ∙ ap first (filter_map-append (brought_in c) (past_of w h).entries (e ∷ []))
    ∙ first_stays (filter_map (brought_in c) (past_of w h).entries) (filter_map (brought_in c) (e ∷ [])) o there

-- a completed call stays one
completed_call_stays : (w : Setting) (h : List Entry) (e : Entry) (t : Trip) (m : Made) → IsCompletedCall w (past_of w h) t m
    → IsCompletedCall w (past_of w (h ++ e ∷ [])) t m
completed_call_stays w h e t m x =
    record {
      service = x.service;
      born = service_stays w h e t.made.session x.service x.born;
      location = x.location;
      text = x.text;
      sent = call_stays w h e t.made.session t.made.number t.made x.sent;
      out = x.out;
      outcome = received_stays w h e t.made _ x.outcome;
    }

completed_calls_stay : (w : Setting) (h : List Entry) (e : Entry) (ts : List Trip) (ms : List Made)
    → AreCompletedCalls w (past_of w h) ts ms
    → AreCompletedCalls w (past_of w (h ++ e ∷ [])) ts ms
completed_calls_stay w h e [] [] x = tt
completed_calls_stay w h e [] (m ∷ ms) x = x
completed_calls_stay w h e (t ∷ ts) [] x = x
completed_calls_stay w h e (t ∷ ts) (m ∷ ms) x = (completed_call_stays w h e t m x.0, completed_calls_stay w h e ts ms x.1)

-- one completed call more
completed_calls_more : (w : Setting) (past : Past) (ts : List Trip) (ms : List Made) (t : Trip) (m : Made) → AreCompletedCalls w past ts ms
    → IsCompletedCall w past t m → AreCompletedCalls w past (ts ++ t ∷ []) (ms ++ m ∷ [])
completed_calls_more w past [] [] t m xs x = (x, tt)
completed_calls_more w past [] (n ∷ ms) t m xs x = absurd xs
completed_calls_more w past (s ∷ ts) [] t m xs x = absurd xs
completed_calls_more w past (s ∷ ts) (n ∷ ms) t m xs x = (xs.0, completed_calls_more w past ts ms t m xs.1 x)

-- ---- the trips of a history

-- the trip of the call that an entry of the first worker fetched
abbrev pub trip_in : Setting → Past → Entry → Option Trip
trip_in w past e = option_and_then (trip_of w past) (fetched_in past first_worker e)

-- a call of a session and a number
abbrev numbered : ℕ → ℕ → Call
numbered s k =
    record { session = s; number = k; port = 0; op = 0; value = void_tree; wants = false; placed = at.Out }

first_of : (p : Call → Bool) (cs : List Call) → list_any p cs ≡ true → (c : Call) × (first (filter p cs) ≡ Some c)
first_of p [] h = absurd (true≢false (sym h))
first_of p (c ∷ cs) h = by (p c) h (first_of p cs)
  where
    by : (b : Bool) → (b || list_any p cs) ≡ true
        → (list_any p cs ≡ true → (d : Call) × (first (filter p cs) ≡ Some d))
        → (d : Call) × (first (cond b (c ∷ filter p cs) (filter p cs)) ≡ Some d)
    by true g next = (c, refl)
    by false g next = next g

-- the trip of a call that was sent stays
trip_same : (w : Setting) (h : List Entry) (e : Entry) (s k : ℕ) → IsLegal w h
    → was_sent (past_of w h) (numbered s k) ≡ true
    → option_and_then (trip_of w (past_of w (h ++ e ∷ []))) (call (past_of w (h ++ e ∷ [])) s k)
    ≡ option_and_then (trip_of w (past_of w h)) (call (past_of w h) s k)
trip_same w h e s k legal sent =
    ap (option_and_then (trip_of w (past_of w (h ++ e ∷ [])))) (call_stays w h e s k c.0 c.1)
    ∙ ap (option_map (λ (p : PortPart). record { location = p.location; made = c.0 }))
    (port_stays w h e (c.0).session (c.0).port born.0 born.1)
    ∙ sym (ap (option_and_then (trip_of w (past_of w h))) c.1)
  where
    c : (d : Call) × (call (past_of w h) s k ≡ Some d)
    c = first_of (is_call s k) (calls (past_of w h)) sent

    seat : Seated (is_call s k) 0 (calls (past_of w h)) 0 c.0
    seat = seated (is_call s k) 0 (calls (past_of w h)) 0 c.0
        (at_front (filter (is_call s k) (calls (past_of w h))) c.0 c.1)

    born : (d : ℕ) × (service_of w (past_of w h) (c.0).session ≡ Some d)
    born = caller w h seat.place c.0 legal seat.there

-- a call that an entry fetched was sent
known : (w : Setting) (h : List Entry) (i actor s k : ℕ) → IsLegal w h
    → slice_get h i ≡ Some (entry actor (act.Fetch s k)) → was_sent (past_of w h) (numbered s k) ≡ true
known w h i actor s k legal there =
    calls_known w h legal (numbered s k)
    (some_of w h (speaks_of (numbered s k))
    ∙ any_at (speaks_of (numbered s k)) h i (entry actor (act.Fetch s k)) there (λ j. itself s j && itself k j))

trip_in_same : (w : Setting) (h : List Entry) (e : Entry) (i actor : ℕ) (a : Act) → IsLegal w h
    → slice_get h i ≡ Some (entry actor a)
    → trip_in w (past_of w (h ++ e ∷ [])) (entry actor a) ≡ trip_in w (past_of w h) (entry actor a)
trip_in_same w h e i actor (act.Fetch s k) legal there = by (nat_eq first_worker actor)
  where
    by : (b : Bool)
        → option_and_then (trip_of w (past_of w (h ++ e ∷ []))) (if b then call (past_of w (h ++ e ∷ [])) s k else None)
        ≡ option_and_then (trip_of w (past_of w h)) (if b then call (past_of w h) s k else None)
    by true = trip_same w h e s k legal (known w h i actor s k legal there)
    by false = refl
trip_in_same w h e i actor a legal there = refl

-- with one entry more there is its trip, where it has one
pub trips_on : (w : Setting) (h : List Entry) (e : Entry) → IsLegal w h
    → trips w (h ++ e ∷ []) first_worker
    ≡ trips w h first_worker ++ cons_option (trip_in w (past_of w (h ++ e ∷ [])) e) []
trips_on w h e legal =
    filter_map-append (trip_in w (past_of w (h ++ e ∷ []))) h (e ∷ [])
    ∙ ap (λ ts. ts ++ cons_option (trip_in w (past_of w (h ++ e ∷ [])) e) [])
    (filter_map_same (trip_in w (past_of w h)) (trip_in w (past_of w (h ++ e ∷ []))) h
    (λ i x there. trip_in_same w h e i x.actor x.act legal there))

-- ---- an entry that makes no trip

completed_by : (w : Setting) (before now : LinkTold) (h : List Entry) (e : Entry) → IsLegal w h
    → trip_in w (past_of w (h ++ e ∷ [])) e ≡ None → Completed w h before now → Completed w (h ++ e ∷ []) before now
completed_by w before now h e legal none t =
    record {
      made = t.made;
      are = subst (λ ts. AreCompletedCalls w (past_of w (h ++ e ∷ [])) ts t.made) (sym same)
          (completed_calls_stay w h e (trips w h first_worker) t.made t.are);
      told = t.told;
      counts = t.counts;
    }
  where
    same : trips w (h ++ e ∷ []) first_worker ≡ trips w h first_worker
    same =
        trips_on w h e legal ∙ ap (λ o. trips w h first_worker ++ cons_option o []) none
        ∙ append-nil (trips w h first_worker)

untripped : (w : Setting) (past : Past) (actor : ℕ) (a : Act) → is_inward (entry actor a) ≡ true
    → trip_in w past (entry actor a) ≡ None
untripped w past actor (act.Fetch s k) off = absurd (true≢false (sym off))
untripped w past actor a off = refl

-- an entry that fetches nothing makes no trip
pub completed_on : (w : Setting) (before now : LinkTold) (h : List Entry) (e : Entry) → is_inward e ≡ true
    → IsLegal w (h ++ e ∷ []) → Completed w h before now → Completed w (h ++ e ∷ []) before now
completed_on w before now h e off legal t =
    completed_by w before now h e (legal_parts w h e legal).0 (untripped w (past_of w (h ++ e ∷ [])) e.actor e.act off) t

-- sessions make no trip
pub completed_over : (w : Setting) (before now : LinkTold) (h more : List Entry) → IsLegal w (h ++ more)
    → list_all is_of_session more ≡ true → Completed w h before now → Completed w (h ++ more) before now
completed_over w before now h more legal below t =
    over_all w is_inward (λ g. Completed w g before now) (completed_on w before now) h more
    (sessions_inward w h more legal below) legal t

-- before the first call
nothing_made : (now : Option (List Made)) → Lists now now []
nothing_made None = tt
nothing_made (Some ms) = sym (append-nil ms)

-- trips and further ones are counted one after the other
counted_on : (before now later : ℕ) (some more : List Made) → HasCounted before now some → HasCounted now later more
    → HasCounted before later (some ++ more)
counted_on before now later some more a b =
    b ∙ ap (λ n. fold faults_after_trip n more) a ∙ sym (fold-append faults_after_trip before some more)

pub completed_first : (w : Setting) (now : LinkTold) → Completed w [] now now
completed_first w now =
    record { made = []; are = tt; told = nothing_made now.trips; counts = refl }

-- ---- a call that goes out

-- what is told of trips, one after the other
pub travels_on : (a b c : Option (List Made)) (xs ys : List Made) → Lists a b xs → Lists b c ys
    → Lists a c (xs ++ ys)
travels_on None None None xs ys f g = tt
travels_on None None (Some c) xs ys f g = g
travels_on None (Some b) c xs ys f g = absurd f
travels_on (Some a) None None xs ys f g = tt
travels_on (Some a) None (Some c) xs ys f g = absurd g
travels_on (Some a) (Some b) None xs ys f g = tt
travels_on (Some a) (Some b) (Some c) xs ys f g = g ∙ ap (λ zs. zs ++ ys) f ∙ append_assoc a xs ys

-- the call that was fetched just now
fetched_now : (w : Setting) (h : List Entry) (k : OutKind) (c : Call) → IsOldest w (past_of w h) k c
    → fetched_in (past_of w (h ++ fetching first_worker c ∷ [])) first_worker (fetching first_worker c) ≡ Some c
fetched_now w h k c old =
    ap (λ b. if b then call (past_of w (h ++ fetching first_worker c ∷ [])) c.session c.number else None)
    (itself first_worker)
    ∙ call_stays w h (fetching first_worker c) c.session c.number c old.named

-- a port of a call, by its kind
remote_port : (o : Option PortPart) → (if is_some o then kind.Remote else kind.Console) ≡ kind.Remote
    → (p : PortPart) × (o ≡ Some p)
remote_port None h = absurd (true≢false (ap (λ k. elim k [ kind.Console ↦ true | kind.Remote ↦ false ]) h))
remote_port (Some p) h = (p, refl)

console_port : (o : Option PortPart) → (if is_some o then kind.Remote else kind.Console) ≡ kind.Console → o ≡ None
console_port None h = refl
console_port (Some p) h = absurd (true≢false (sym (ap (λ k. elim k [ kind.Console ↦ true | kind.Remote ↦ false ]) h)))

-- the trip that the fetch of a call makes
trip_now : (w : Setting) (h : List Entry) (k : OutKind) (c : Call) (d : ℕ) → IsOldest w (past_of w h) k c
    → service_of w (past_of w h) c.session ≡ Some d
    → trip_in w (past_of w (h ++ fetching first_worker c ∷ [])) (fetching first_worker c) ≡ trip_of w (past_of w h) c
trip_now w h k c d old born =
    ap (option_and_then (trip_of w (past_of w (h ++ fetching first_worker c ∷ [])))) (fetched_now w h k c old)
    ∙ ap (option_map (λ (p : PortPart). record { location = p.location; made = c }))
    (port_stays w h (fetching first_worker c) c.session c.port d born)

-- no trip is made for a call to the console
pub completed_console : (w : Setting) (before now : LinkTold) (h : List Entry) (out : Outgoing) (o : Outcome)
    → IsLegal w (went_out h first_worker out o) → next_outgoing w (past_of w h) kind.Console ≡ Some out
    → Completed w h before now → Completed w (went_out h first_worker out o) before now
completed_console w before now h out o legal next t =
    completed_by w before now (h ++ fetch_of first_worker out ∷ []) (answer_of first_worker out o) mid refl
    (completed_by w before now h (fetch_of first_worker out) start
    (of_next w h kind.Console out
    (λ x. trip_in w (past_of w (h ++ fetch_of first_worker x ∷ [])) (fetch_of first_worker x) ≡ None) start next
    (λ c d old born. trip_now w h kind.Console c d old born
    ∙ ap (option_map (λ (p : PortPart). record { location = p.location; made = c }))
    (console_port (port_of w (past_of w h) c.session c.port) old.kind_is)))
    t)
  where
    mid : IsLegal w (h ++ fetch_of first_worker out ∷ [])
    mid = (legal_parts w (h ++ fetch_of first_worker out ∷ []) (answer_of first_worker out o) legal).0

    start : IsLegal w h
    start = (legal_parts w h (fetch_of first_worker out) mid).0

-- the completed call of a call to a service elsewhere
completed_call_now : (w : Setting) (h : List Entry) (c : Call) (d : ℕ) (p : PortPart) (o : Outcome) (m : Made) → AreSettled w h
    → IsOldest w (past_of w h) kind.Remote c → service_of w (past_of w h) c.session ≡ Some d
    → port_of w (past_of w h) c.session c.port ≡ Some p → IsHeard w.parts (going c d) m o
    → IsCompletedCall w (past_of w (went_out h first_worker (going c d) o)) (record { location = p.location; made = c }) m
completed_call_now w h c d p o m s old born ported x =
    record {
      service = d;
      born = service_stays w (h ++ f ∷ []) a c.session d (service_stays w h f c.session d born);
      location = x.location
          ∙ ap (λ q. unwrap_or (option_map (λ (z : PortPart). z.location) q) [])
          (sym (ap (λ g. option_and_then (λ (z : ServicePart). slice_get z.ports c.port)
          (option_and_then (slice_get w.parts.services) g)) born)
          ∙ ported);
      text = x.text;
      sent = call_stays w (h ++ f ∷ []) a c.session c.number c (call_stays w h f c.session c.number c old.named);
      out = placed_out c.placed old.goes;
      outcome = ap (λ (q : Past). first (filter_map (brought_in c) q.entries)) (past_went w h first_worker c d o)
          ∙ ap first (outcome_back w (past_of w h) first_worker kind.Remote c o s.received old)
          ∙ ap Some x.outcome;
    }
  where
    f : Entry
    f = fetching first_worker c

    a : Entry
    a = bringing first_worker c o

completed_next : (w : Setting) (before now later : LinkTold) (h : List Entry) (c : Call) (d : ℕ) (p : PortPart)
    (o : Outcome) (m : Made)
    → IsLegal w (went_out h first_worker (going c d) o) → AreSettled w h
    → IsOldest w (past_of w h) kind.Remote c → service_of w (past_of w h) c.session ≡ Some d
    → port_of w (past_of w h) c.session c.port ≡ Some p → IsHeard w.parts (going c d) m o
    → Lists now.trips later.trips (m ∷ []) → HasCounted now.faults later.faults (m ∷ [])
    → Completed w h before now → Completed w (went_out h first_worker (going c d) o) before later
completed_next w before now later h c d p o m legal s old born ported x travels counts t =
    record {
      made = t.made ++ m ∷ [];
      are = subst (λ ts. AreCompletedCalls w (past_of w (went_out h first_worker (going c d) o)) ts (t.made ++ m ∷ []))
          (sym more)
          (completed_calls_more w (past_of w (went_out h first_worker (going c d) o)) (trips w h first_worker) t.made trip m
          (completed_calls_stay w (h ++ f ∷ []) a (trips w h first_worker) t.made
          (completed_calls_stay w h f (trips w h first_worker) t.made t.are))
          (completed_call_now w h c d p o m s old born ported x));
      told = travels_on before.trips now.trips later.trips t.made (m ∷ []) t.told travels;
      counts = counted_on before.faults now.faults later.faults t.made (m ∷ []) t.counts counts;
    }
  where
    f : Entry
    f = fetching first_worker c

    a : Entry
    a = bringing first_worker c o

    trip : Trip
    trip = record { location = p.location; made = c }

    mid : IsLegal w (h ++ f ∷ [])
    mid = (legal_parts w (h ++ f ∷ []) a legal).0

    more : trips w (went_out h first_worker (going c d) o) first_worker ≡ trips w h first_worker ++ trip ∷ []
    more =
        trips_on w (h ++ f ∷ []) a mid
        ∙ append-nil (trips w (h ++ f ∷ []) first_worker)
        ∙ trips_on w h f (legal_parts w h f mid).0
        ∙ ap (λ q. trips w h first_worker ++ cons_option q [])
        (trip_now w h kind.Remote c d old born
        ∙ ap (option_map (λ (z : PortPart). record { location = z.location; made = c })) ported)

-- the trip of a call to a service elsewhere was made
pub completed_remote : (w : Setting) (before now later : LinkTold) (h : List Entry) (out : Outgoing)
    (o : Outcome) (m : Made)
    → IsLegal w (went_out h first_worker out o) → AreSettled w h → next_outgoing w (past_of w h) kind.Remote ≡ Some out
    → IsHeard w.parts out m o → Lists now.trips later.trips (m ∷ []) → HasCounted now.faults later.faults (m ∷ [])
    → Completed w h before now → Completed w (went_out h first_worker out o) before later
completed_remote w before now later h out o m legal s next x travels counts t =
    of_next w h kind.Remote out
    (λ y. IsLegal w (went_out h first_worker y o) → IsHeard w.parts y m o
    → Completed w (went_out h first_worker y o) before later)
    start next
    (λ c d old born all heard_is.
    let p = remote_port (port_of w (past_of w h) c.session c.port) old.kind_is in
    completed_next w before now later h c d p.0 o m all s old born p.1 heard_is travels counts t)
    legal x
  where
    start : IsLegal w h
    start =
        (legal_parts w h (fetch_of first_worker out)
        (legal_parts w (h ++ fetch_of first_worker out ∷ []) (answer_of first_worker out o) legal).0).0

-- ---- at the end

trip_is : (w : Setting) (past : Past) (t : Trip) (m : Made) → IsCompletedCall w past t m → IsTrip w past t m
trip_is w past t m x =
    record {
      service = x.service;
      born = x.born;
      location = x.location;
      text = x.text;
      outcome = ap (option_and_then (λ c. outcome_by w past c c.placed)) x.sent
          ∙ ap (outcome_by w past t.made) x.out ∙ x.outcome;
    }

trips_are : (w : Setting) (past : Past) (ts : List Trip) (ms : List Made) → AreCompletedCalls w past ts ms
    → AllZip (IsTrip w past) ts ms
trips_are w past [] [] x = tt
trips_are w past [] (m ∷ ms) x = x
trips_are w past (t ∷ ts) [] x = x
trips_are w past (t ∷ ts) (m ∷ ms) x = (trip_is w past t m x.0, trips_are w past ts ms x.1)

-- the link travelled as the history says
pub travelled : (w : Setting) (h : List Entry) (before now : LinkTold) → Completed w h before now
    → Travelled w h before now
travelled w h before now t =
    record {
      made = t.made;
      are = trips_are w (past_of w h) (trips w h first_worker) t.made t.are;
      told = t.told;
      counts = t.counts;
    }

-- what calls to the console came to is void
pub void_is : (w : Setting) (h : List Entry) → IsLegal w h → AreSettled w h → AreVoid w (past_of w h)
void_is w h legal s c o at_k has =
    s.void seat.place c o seat.there seat.is_it
    (sym (ap (option_and_then (λ (d : Call). outcome_by w past d d.placed)) named ∙ ap (outcome_by w past c) out) ∙ has)
  where
    past : Past
    past = past_of w h

    seat : Seated (goes_to w past kind.Console) 0 (calls past) at_k.0 c
    seat =
        seated (goes_to w past kind.Console) 0 (calls past) at_k.0 c
        (slice_get-get_or (console_calls w past) at_k.0 c at_k.1 ∙ ap Some at_k.2)

    named : call past c.session c.number ≡ Some c
    named = call_at past seat.place c (calls_rise w h c.session legal) seat.there

    out : c.placed ≡ at.Out
    out = placed_out c.placed (left (goes_out c) (same_kind kind.Console (kind_of w past c)) seat.is_it)

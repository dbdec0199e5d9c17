-- What passed between a front over doors and its run, when it is asked for a posting.
use Rattle.std.proofs.Common.{◌≡◌, refl, sym, ap, ap₂, ◌∙◌, subst, arith, ℕ, zero, suc, ◌+◌, ◌-◌, ◌^◌, ◌<◌, ◌≤◌, min, Bool, true, false, ◌&&◌, ◌||◌, ◌⊎◌, inl, inr, List, [], ◌∷◌, ◌++◌, length, map, take, None, Some, count_by, slice_get, nat_eq, nat_lt, nat_le, Result, Ok, Err, MatchResult}
use Rattle.std.specs.declared.alloc.AllocError.{AllocError}
use Rattle.std.specs.List.{list_all, list_any, sum_by}
use Rattle.std.proofs.lemmas.Bool.{and_parts, and_from, lt-ltb, le-leb, ltb-true, ltb-false, leb-false, true≢false}
use Rattle.std.proofs.lemmas.List.{length-map, map-append, take_all, length_push}
use Rattle.jolie_trees.specs.Data.{Tree}
use Rattle.behaviour_tree.specs.Data.{ProgramParts}
use Rattle.jsonrpc_text.specs.declared.message.Id.{Id}
use Rattle.jsonrpc_text.specs.declared.message.Early.{Early}
use Rattle.jsonrpc_text.specs.declared.message.ReadCall.{ReadCall}
use Rattle.office_core.specs.declared.front.Posting.{Posting}
use Rattle.run_theorem.specs.Exchange.{Asked, Received, Told, Exchange}
use Rattle.run_theorem.specs.declared.front.Next.{Next}
use Rattle.run_theorem.specs.declared.front.Next.TheVariants as nexts
use Rattle.run_theorem.specs.Calls.{After, most_postings, names_service, is_of, Leaves, Gives, GivesNone, none_left, Ends, IsQuiet, Asks}
use Rattle.run_theorem.specs.Lines.{IsPrefix}
use Rattle.run_theorem.specs.Texts.{Came as Incoming, call_in, posting_of}
use Rattle.run_theorem.specs.RunConnections.{RunConnection, came_with}
use Rattle.outside_traits.specs.Told.{WireTold}
use Rattle.run_door_front.specs.Keeping.{is_led, leads_of, lead_of, Lead, ListenerTold, Keeping, services_of, rests_at, rests_in_a_row_at, is_quiet, is_open, closed_off, AreLed}
use Rattle.outside_traits.specs.Told.{SinkTold}
use Rattle.run_door_front.specs.Exchanged.{most_open, Sides, sides_of, row_of, is_full, HadNone, GaveNone, HasSent, HasExchanged, PausedSo, MayHaveExchanged}
use Rattle.run_door_front.specs.NextSteps.{service_of, place_of, wires_of, has_room, listing, Hands, going_of, Goes, Ends as EndsFront, Posts, IsStill, Stays, Looks}
use Rattle.run_door_front.proofs.Entries.{length_set, nat_eq_is}
use Rattle.run_door_front.proofs.Doors.{services-same, places-same, leads-same, fallen_further, rests-on}
use Rattle.run_door_front.proofs.Leading.{led-asked}
use Rattle.run_door_front.proofs.Looking.{goes-none}
use Rattle.run_door_front.proofs.Requests.{Serves, serves-on, came_length}
use Rattle.run_door_front.proofs.OneMore.{one_more, next_of, serves-more, service_there}
use Rattle.run_door_front.proofs.OneByOne.{told_all, one_count_more, told_first-more, heard_by-more, heard-where_asks}
use Rattle.run_door_front.proofs.Notes.{noted_all}
use Rattle.run_door_front.proofs.Waiting.{AllRows, rows-none, rows-more, once_more, quiet-none, quiet-more, pause_of, pause-count, none_for_wire, paused-all, owing-all, paused-open, paused-rows}

-- ---- calls

-- what each of some numbers is, one among them is
each_step : (p : ℕ → Bool) (n m : ℕ) (ns : List ℕ) → p m ≡ true → (list_any (nat_eq n) ns ≡ true → p n ≡ true) → (b : Bool) → nat_eq n m ≡ b
    → b || list_any (nat_eq n) ns ≡ true → p n ≡ true
each_step p n m ns is rest true same e = ap p (nat_eq_is n m same) ∙ is
each_step p n m ns is rest false other e = rest e

each_is : (p : ℕ → Bool) (n : ℕ) (ns : List ℕ) → list_all p ns ≡ true → list_any (nat_eq n) ns ≡ true → p n ≡ true
each_is p n [] h e = absurd (true≢false (sym e))
each_is p n (m ∷ ns) h e =
    let both = and_parts (p m) (list_all p ns) h in
    each_step p n m ns both.0 (λ k. each_is p n ns both.1 k) (nat_eq n m) refl e

module _ (parts : ProgramParts) (service : ℕ) (has : nat_lt service (length parts.services) ≡ true) where
  -- a call as it comes in is to the service
  named : (i : Id) (what : Result (List ℕ × Tree) Early) → names_service parts (call_in service (record { id = i; what = what })) ≡ true
  named i (Ok w) = has
  named i (Err e) = refl

  -- so are all calls
  all_named : (cs : List ReadCall) → list_all (names_service parts) (map (call_in service) cs) ≡ true
  all_named [] = refl
  all_named (c ∷ cs) = ap₂ (λ x y. x && y) (named c.id c.what) (all_named cs)

-- places below a number are below a larger one
places_below : (m n : ℕ) → m ≤ n → (told : List Told) → list_all (λ (t : Told). nat_lt t.place m) told ≡ true
    → list_all (λ (t : Told). nat_lt t.place n) told ≡ true
places_below m n le [] h = refl
places_below m n le (t ∷ told) h =
    let both = and_parts (nat_lt t.place m) (list_all (λ (t : Told). nat_lt t.place m) told) h in
    let less : t.place < m = ltb-true t.place m both.0 in
    and_from (nat_lt t.place n) (list_all (λ (t : Told). nat_lt t.place n) told) (lt-ltb t.place n (omega arith)) (places_below m n le told both.1)

-- all of a list are its first
take_length : {A : Type 0} (xs : List A) → xs ≡ take (length xs) xs
take_length xs = sym (take_all (length xs) xs (omega arith))

-- where there is no more room as many were accepted as may be, or as many are open as may be at once
no_room-full : (most accepted opened : ℕ) → has_room most accepted opened ≡ false → nat_le most accepted || nat_le most_open opened ≡ true
no_room-full most accepted opened none = by_count (nat_le most accepted) refl
  where
    second : (a b : Bool) → a ≡ true → a && b ≡ false → b ≡ false
    second a true e f = absurd (true≢false (sym (and_from a true e refl) ∙ f))
    second a false e f = refl

    by_count : (b : Bool) → nat_le most accepted ≡ b → b || nat_le most_open opened ≡ true
    by_count true e = refl
    by_count false e =
        le-leb most_open opened (ltb-false opened most_open
        (second (nat_lt accepted most) (nat_lt opened most_open) (lt-ltb accepted most (leb-false most accepted e)) none))

-- with any last value of their type
none_counted : (cap : ℕ) → min 0 cap ≡ 0
none_counted cap = omega arith

least : (a b : ℕ) → a ≡ 0 → a ≤ b
least a b e = omega arith

-- how a front stood that found nothing so often in a row
record WasStill (row : ℕ) (kept : Keeping) : Type 0 where
  rows : AllRows row kept.connections
  rested : row ≤ rests_in_a_row_at kept.doors
  quiet : (nat_le kept.most (length kept.connections) || nat_le most_open (count_by is_open kept.connections) ≡ true)
      ⊎ (list_all (is_quiet row) kept.doors ≡ true)

module _ (IsMade : WireTold → Type 0) (parts : ProgramParts) (first : Sides) (notes : SinkTold) (before now : Keeping) (d : Exchange)
    (h : HasExchanged IsMade parts first (sides_of before notes) d) (paused : PausedSo false before d) (most : now.most ≡ before.most) (halted : now.halted ≡ before.halted) where
  -- what was asked and told by then
  serves : Serves IsMade parts (leads_of before) before.connections h.all h.heard
  serves = record { connections = h.connections; are = h.clients; doors = h.at_doors; taken = h.taken; came = h.came; answers = h.answers }

  -- as many were given as were asked
  given_count : length d.received.given ≡ length before.traffics
  given_count =
      ap length h.given ∙ length-map h.all.came posting_of ∙ sym (came_length h.connections h.all.asked h.all.came h.came)
      ∙ sym (length-map h.all.asked (λ (a : Asked). a.traffic)) ∙ ap length h.traffics

  abbrev sent_still : HasSent first (sides_of now notes) d.sent
  sent_still = record {
    notes = h.sent.notes;
    written = h.sent.written;
    noted = h.sent.noted;
    halted = h.sent.halted ∙ sym halted;
    notes_failed = h.sent.notes_failed;
    faults = h.sent.faults;
  }

  -- the sink took all that was noted
  all_taken : d.sent.halted ≡ false → IsPrefix d.sent.noted h.sent.notes
  all_taken running = noted_all first.notes notes d.sent h.sent.notes running h.sent.noted

  -- what was received where there is no posting
  abbrev without : ℕ → ℕ → Bool → Received
  without waits moves ended = record {
    given = d.received.given;
    asked = d.received.asked;
    left = None;
    waits = waits;
    moves = moves;
    ended = ended;
    faults = d.received.faults;
    seen = length d.sent.told;
    noted = d.sent.noted;
    seens = d.received.seens;
  }

  gives_none : (waits moves : ℕ) (ended : Bool) → GivesNone d.received (without waits moves ended)
  gives_none waits moves ended =
      record { given = refl; asked = refl; left = inl (sym h.left); faults = omega arith; seens = refl }

  -- what passed, and why there was no posting where there was none
  abbrev HasPassed : Exchange → Type 0
  HasPassed x = HasExchanged IsMade parts first (sides_of now notes) x × PausedSo false now x

  -- ---- there is no posting

  module _ (g : Goes IsMade before.most (going_of before) (going_of now)) where
    abbrev same_services : services_of now ≡ services_of before
    same_services = services-same before.doors now.doors g.doors

    abbrev same_leads : leads_of now ≡ leads_of before
    same_leads = leads-same before.doors now.doors g.doors

    still_serves : Serves IsMade parts (leads_of before) now.connections h.all h.heard
    still_serves = serves-on IsMade (leads_of before) parts before.connections now.connections h.all h.heard g.connections serves

    none-so : d.sent.halted ≡ false → (waits moves : ℕ) (ended : Bool) → min moves (2 ^ 64 - 1) ≤ rests_at now.doors
        → HasExchanged IsMade parts first (sides_of now notes) (record { received = without waits moves ended; sent = d.sent })
    none-so running waits moves ended moved = record {
      services = same_services ∙ h.services;
      in_place = places-same before.doors now.doors g.doors ∙ h.in_place;
      most = most ∙ h.most;
      within = ap (list_all (λ n. nat_lt n (length parts.services))) same_services ∙ h.within;
      connections = still_serves.connections;
      clients = still_serves.are;
      came_in = g.wires h.came_in;
      led = g.led h.came_in h.led;
      at_doors = subst (λ ls. list_all (λ (v : RunConnection). list_any (is_led v.door v.service) ls) still_serves.connections ≡ true) (sym same_leads) still_serves.doors;
      accepted = subst (λ n. length now.connections ≤ n) (sym most) (g.within h.accepted);
      all = h.all;
      asked = h.asked;
      traffics = h.traffics ∙ sym g.traffics;
      taken = still_serves.taken;
      came = still_serves.came;
      given = h.given;
      heard = h.heard;
      told = h.told;
      all_told = h.all_told;
      heard_by = h.heard_by;
      places = h.places;
      answers = still_serves.answers;
      one_by_one = record { counts = h.one_by_one.counts; each = h.one_by_one.each };
      sent = sent_still;
      noted_by_then = all_taken running;
      left = refl;
      faults = h.faults;
      seen = omega arith;
      moved = moved;
    }

    -- no more looks at which something moved
    moved_still : min d.received.moves (2 ^ 64 - 1) ≤ rests_at now.doors
    moved_still = fallen_further d.received.moves (rests_at before.doors) (rests_at now.doors) (2 ^ 64 - 1) h.moved (rests-on before.doors now.doors g.doors)

  ends : Ends d.received (without 0 d.received.moves true)
  ends = record {
    none = gives_none 0 d.received.moves true;
    over = none_left (λ ps is. absurd (let clash : None ≡ Some ps = sym h.left ∙ is in cc));
    waits = refl;
    moves = refl;
    ended = refl;
  }

  abbrev ended_now : Exchange
  ended_now = record { received = without 0 d.received.moves true; sent = d.sent }

  -- there were the most postings
  most-so : d.sent.halted ≡ false → going_of now ≡ going_of before → most_postings ≤ length before.traffics
      → After HasPassed (Asks parts nexts.End d)
  most-so running same many =
      let g = subst (λ x. Goes IsMade before.most (going_of before) x) (sym same) (goes-none IsMade before.most (going_of before)) in (
        ended_now,
        (none-so g running 0 d.received.moves true (moved_still g), λ unfailed gave. inr (subst (λ n. most_postings ≤ n) (sym given_count) many)),
        record { came = ends; silent = refl; seen = refl; noted = refl },
      )

  -- nothing comes any more
  none_over : d.sent.halted ≡ false → EndsFront IsMade before.most (going_of before) (going_of now) → HadNone false now ended_now
  none_over unfailed e = record {
    pauses = map pause_of now.connections;
    each = owing-all IsMade parts (leads_of before) now.connections h.all h.heard ended_now (still_serves e.goes) h.asked
        (h.all_told unfailed ∙ take_length d.sent.told) e.owing;
    over = λ ended. (ap (λ n. closed_off n now.doors now.connections) most ∙ e.over, none_for_wire now.connections e.owing);
    rested = least (row_of ended_now) (rests_in_a_row_at now.doors) (none_counted (2 ^ 64 - 1));
    quiet = inr (quiet-none (row_of ended_now) (none_counted (2 ^ 64 - 1)) now.doors);
  }

  over-so : d.sent.halted ≡ false → EndsFront IsMade before.most (going_of before) (going_of now) → After HasPassed (Asks parts nexts.End d)
  over-so running e = (
    ended_now,
    (none-so e.goes running 0 d.received.moves true (moved_still e.goes), λ unfailed gave. inl (none_over unfailed e)),
    record { came = ends; silent = refl; seen = refl; noted = refl },
  )

  -- ---- there is none yet

  -- something moved
  moved-so : d.sent.halted ≡ false → Stays IsMade before.most (going_of before) (going_of now) → After HasPassed (Asks parts nexts.Moved d)
  moved-so running r = (
    record { received = without 0 (suc d.received.moves) false; sent = d.sent },
    (
      none-so r.rests.goes running 0 (suc d.received.moves) false
          (once_more d.received.moves (rests_at before.doors) (2 ^ 64 - 1) (rests_at now.doors) h.moved (r.more h.came_in)),
      λ unfailed gave. absurd (not_none gave),
    ),
    record {
      came = record { none = gives_none 0 (suc d.received.moves) false; waits = refl; moves = refl; ended = refl };
      silent = refl;
      seen = refl;
      noted = refl;
    },
  )
    where
      not_none : (false ≡ true) ⊎ (0 < 0) → ⊥
      not_none (inl ended) = true≢false (sym ended)
      not_none (inr waits) = omega arith

  -- nothing moved
  module _ (r : Stays IsMade before.most (going_of before) (going_of now)) (s : IsStill before.most (going_of before) (going_of now)) (quiet : IsQuiet d) where
    abbrev waits_now : Exchange
    waits_now = record { received = without (suc d.received.waits) d.received.moves false; sent = d.sent }

    at_rest : Serves IsMade parts (leads_of before) now.connections h.all h.heard
    at_rest = still_serves r.rests.goes

    positive : (n w : ℕ) → w ≡ suc n → 0 < w
    positive n w e = omega arith

    was_still : d.sent.halted ≡ false → WasStill (row_of d) before ⊎ (most_postings ≤ length d.received.given)
    was_still unfailed = by_waits d.received.waits refl
      where
        at_first : d.received.waits ≡ 0 → WasStill (row_of d) before
        at_first none =
            let no_row : row_of d ≡ 0 = ap (λ n. min n (2 ^ 64 - 1)) none ∙ none_counted (2 ^ 64 - 1) in
            record {
              rows = rows-none (row_of d) no_row before.connections;
              rested = least (row_of d) (rests_in_a_row_at before.doors) no_row;
              quiet = inr (quiet-none (row_of d) no_row before.doors);
            }

        by_pauses : (n : ℕ) → d.received.waits ≡ suc n → HadNone false before d → WasStill (row_of d) before
        by_pauses n is had =
            let told = h.all_told unfailed ∙ take_length d.sent.told ∙ ap (λ k. take k d.sent.told) (sym (quiet (positive n d.received.waits is))) in
            let opened = paused-open IsMade parts (leads_of before) before.connections h.all h.heard d serves h.asked told had.pauses had.each in
            record {
              rows = paused-rows IsMade parts (leads_of before) before.connections h.all h.heard d serves h.asked told had.pauses had.each;
              rested = had.rested;
              quiet = elim had.quiet [
                | inl full ↦ inl (ap (λ n. nat_le before.most (length before.connections) || nat_le most_open n) (sym opened) ∙ full)
                | inr all ↦ inr all
              ];
            }

        by_waits : (n : ℕ) → d.received.waits ≡ n → WasStill (row_of d) before ⊎ (most_postings ≤ length d.received.given)
        by_waits zero is = inl (at_first is)
        by_waits (suc n) is = elim (paused unfailed (inr (positive n d.received.waits is))) [
          | inl had ↦ inl (by_pauses n is had)
          | inr many ↦ inr many
        ]

    -- nobody is let in, by how many are open
    full_now : nat_le before.most (length now.connections) || nat_le most_open (count_by is_open now.connections) ≡ true
        → is_full now (map pause_of now.connections) ≡ true
    full_now full =
        ap₂ (λ m n. nat_le m (length now.connections) || nat_le most_open n) most (pause-count now.connections) ∙ full

    still_now : d.sent.halted ≡ false → WasStill (row_of d) before → HadNone false now waits_now
    still_now unfailed was = record {
      pauses = map pause_of now.connections;
      each = paused-all IsMade parts (leads_of before) now.connections h.all h.heard waits_now at_rest h.asked (h.all_told unfailed ∙ take_length d.sent.told)
          (rows-more IsMade (leads_of before) d.received.waits before.connections now.connections r.rests.goes.connections s.paused was.rows);
      over = λ e. absurd (true≢false (sym e));
      rested = once_more d.received.waits (rests_in_a_row_at before.doors) (2 ^ 64 - 1) (rests_in_a_row_at now.doors) was.rested (s.rests h.came_in);
      quiet = elim (s.tried h.came_in) [
        | inl none ↦ inl (full_now (no_room-full before.most (length now.connections) (count_by is_open now.connections) none))
        | inr tried ↦ elim was.quiet [
          | inl full ↦ inl (full_now (ap₂ (λ m n. nat_le before.most m || nat_le most_open n) s.as_many s.as_open ∙ full))
          | inr all ↦ inr (quiet-more d.received.waits before.doors now.doors r.rests.goes.doors tried all)
        ]
      ];
    }

    still-so : d.sent.halted ≡ false → After HasPassed (Asks parts nexts.NotYet d)
    still-so running = (
      waits_now,
      (
        none-so r.rests.goes running (suc d.received.waits) d.received.moves false (moved_still r.rests.goes),
        λ unfailed gave. elim (was_still unfailed) [ inl was ↦ inl (still_now unfailed was) | inr many ↦ inr many ],
      ),
      record {
        came = record { none = gives_none (suc d.received.waits) d.received.moves false; waits = refl; moves = refl; ended = refl };
        silent = refl;
        seen = refl;
        noted = refl;
      },
    )

  -- ---- a posting comes

  module _ (p : Posting) (running : d.sent.halted ≡ false) (g : Posts IsMade before.most p (going_of before) (going_of now)) where
    hands : Hands g.number p (listing g.mid.connections g.mid.traffics) (listing now.connections now.traffics)
    hands = g.hands

    mid_serves : Serves IsMade parts (leads_of before) g.mid.connections h.all h.heard
    mid_serves = serves-on IsMade (leads_of before) parts before.connections g.mid.connections h.all h.heard g.goes.connections serves

    long : length g.mid.traffics ≡ length h.all.asked
    long = ap length g.goes.traffics ∙ sym (ap length h.traffics) ∙ length-map h.all.asked (λ (a : Asked). a.traffic)

    -- whose request it is, and what it brings in
    abbrev asker : Asked
    asker = next_of g.number h.all.asked

    abbrev coming : Incoming
    coming = came_with hands.one.link.service hands.body

    now_serves : Serves IsMade parts (leads_of before) now.connections (one_more h.all asker coming) h.heard
    now_serves =
        serves-more IsMade parts (leads_of before) (listing g.mid.connections g.mid.traffics) (listing now.connections now.traffics) h.all h.heard g.number hands.body
        h.places long hands.one mid_serves

    abbrev received_now : Received
    received_now = record {
      given = d.received.given ++ p ∷ [];
      asked = d.received.asked ++ asker ∷ [];
      left = None;
      waits = 0;
      moves = d.received.moves;
      ended = false;
      faults = d.received.faults;
      seen = length d.sent.told;
      noted = d.sent.noted;
      seens = d.received.seens ++ length d.sent.told ∷ [];
    }

    services_now : services_of now ≡ services_of before
    services_now = ap (map service_of) g.doors ∙ services-same before.doors g.mid.doors g.goes.doors

    leads_now : leads_of now ≡ leads_of before
    leads_now = ap (map lead_of) g.doors ∙ leads-same before.doors g.mid.doors g.goes.doors

    -- the services are those of the leads
    services_led : (ports : List ListenerTold) → map (λ (lead : Lead). lead.service) (map lead_of ports) ≡ map (λ (p : ListenerTold). p.service) ports
    services_led [] = refl
    services_led (q ∷ qs) = ap (λ ns. q.service ∷ ns) (services_led qs)

    links_now : length now.connections ≡ length g.mid.connections
    links_now = ap length hands.one.set ∙ length_set g.mid.connections g.number hands.one.later

    given_now : d.received.given ++ p ∷ [] ≡ map posting_of (h.all.came ++ coming ∷ [])
    given_now =
        ap₂ (λ ps q. ps ++ q ∷ []) h.given hands.posting ∙ sym (map-append posting_of h.all.came (coming ∷ []))

    traffics_now : map (λ (a : Asked). a.traffic) (h.all.asked ++ asker ∷ []) ≡ now.traffics
    traffics_now =
        map-append (λ (a : Asked). a.traffic) h.all.asked (asker ∷ [])
        ∙ ap (λ ts. ts ++ g.number ∷ []) (h.traffics ∙ sym g.goes.traffics) ∙ sym hands.kept

    -- each request before it on its connection had been told of
    told_before : (i : ℕ) (a : Asked) → slice_get d.received.asked i ≡ Some a → a.traffic ≡ asker.traffic
        → list_any (λ (t : Told). nat_eq i t.place) (take (length d.sent.told) d.sent.told) ≡ true
    told_before i a there traffic =
        told_all (λ (t : Told). nat_eq i t.place) h.heard d.sent.told h.told
        (heard-where_asks IsMade parts (leads_of before) g.mid.connections h.all h.heard mid_serves g.number hands.one.link hands.one.there hands.one.asking
        i a (ap (λ xs. slice_get xs i) h.asked ∙ there) traffic)

    none_now : GaveNone (record { received = received_now; sent = d.sent }) → ⊥
    none_now gave = elim gave [ inl e ↦ true≢false (sym e) | inr more ↦ (omega arith) ]

    exchanged_now : HasExchanged IsMade parts first (sides_of now notes) (record { received = received_now; sent = d.sent })
    exchanged_now = record {
      services = services_now ∙ h.services;
      in_place = ap (map place_of) g.doors ∙ places-same before.doors g.mid.doors g.goes.doors ∙ h.in_place;
      most = most ∙ h.most;
      within = ap (list_all (λ n. nat_lt n (length parts.services))) services_now ∙ h.within;
      connections = now_serves.connections;
      clients = now_serves.are;
      came_in = ap (sum_by wires_of) g.doors ∙ g.goes.wires h.came_in ∙ sym links_now;
      led = subst (λ ps. AreLed ps now.connections) (sym g.doors)
          (led-asked g.mid.doors g.number hands.body (listing g.mid.connections g.mid.traffics) (listing now.connections now.traffics) hands.one
          (g.goes.led h.came_in h.led));
      at_doors = subst (λ ls. list_all (λ (v : RunConnection). list_any (is_led v.door v.service) ls) now_serves.connections ≡ true) (sym leads_now) now_serves.doors;
      accepted = subst (λ n. n ≤ now.most) (sym links_now) (subst (λ n. length g.mid.connections ≤ n) (sym most) (g.goes.within h.accepted));
      all = one_more h.all asker coming;
      asked = ap (λ xs. xs ++ asker ∷ []) h.asked;
      traffics = traffics_now;
      taken = now_serves.taken;
      came = now_serves.came;
      given = given_now;
      heard = h.heard;
      told = h.told;
      all_told = h.all_told;
      heard_by = heard_by-more d.received.seens h.heard d.sent.told (h.all_told running) h.heard_by;
      places = places_below (length h.all.asked) (length (h.all.asked ++ asker ∷ []))
          (let one = length_push h.all.asked asker in omega arith) h.heard h.places;
      answers = now_serves.answers;
      one_by_one = record {
        counts = one_count_more d.received.asked d.received.seens asker (length d.sent.told) h.one_by_one.counts;
        each = told_first-more d.received.asked d.received.seens d.sent.told asker h.one_by_one.counts h.one_by_one.each told_before;
      };
      sent = sent_still;
      noted_by_then = all_taken running;
      left = refl;
      faults = h.faults;
      seen = omega arith;
      moved = subst (λ ps. min d.received.moves (2 ^ 64 - 1) ≤ rests_at ps) (sym g.doors)
          (fallen_further d.received.moves (rests_at before.doors) (rests_at g.mid.doors) (2 ^ 64 - 1) h.moved (rests-on before.doors g.mid.doors g.goes.doors));
    }

    has_service : nat_lt hands.one.link.service (length parts.services) ≡ true
    has_service =
        each_is (λ n. nat_lt n (length parts.services)) hands.one.link.service (services_of before) h.within
        (subst (λ ns. list_any (nat_eq hands.one.link.service) ns ≡ true) (services_led before.doors)
        (service_there IsMade parts (leads_of before) (listing g.mid.connections g.mid.traffics) (listing now.connections now.traffics) h.all h.heard g.number hands.body
        h.places long hands.one mid_serves))

    gives_now : Gives parts p d.received received_now
    gives_now = record {
      given = refl;
      within = let one = length_push d.received.given p in let few = g.fewer in let many = given_count in omega arith;
      whose = asker;
      asked = refl;
      request = ap (count_by (is_of g.number)) h.asked;
      services = subst (λ (q : Posting). list_all (names_service parts) q.calls ≡ true) (sym hands.posting)
          (all_named parts hands.one.link.service has_service coming.read.calls);
      left = subst (λ l. Leaves p l d.received received_now) (sym h.left) refl;
      waits = refl;
      moves = refl;
      ended = refl;
      faults = omega arith;
      seens = refl;
    }

    post-so : After HasPassed (Asks parts (nexts.Posting p) d)
    post-so = (
      record { received = received_now; sent = d.sent },
      (exchanged_now, λ unfailed gave. absurd (none_now gave)),
      record { came = gives_now; silent = refl; seen = refl; noted = refl },
    )

  -- ---- all of it

  -- what the call came to
  pub asked-so : (which : Next) → d.sent.halted ≡ false → IsQuiet d → Looks IsMade before.most which (going_of before) (going_of now)
      → After HasPassed (Asks parts which d)
  asked-so (nexts.Posting p) running quiet l = post-so p running l
  asked-so nexts.Moved running quiet l = moved-so running l
  asked-so nexts.NotYet running quiet l = still-so l.0 l.1 quiet running
  asked-so nexts.End running quiet l =
      elim l [ inl many ↦ most-so running many.1 many.0 | inr ended ↦ over-so running ended ]

-- ---- and where memory ran out

module _ (IsMade : WireTold → Type 0) (parts : ProgramParts) (A B : Type 0) (a : A) (b : B) (first : Sides) (notes : SinkTold) (before now : Keeping) (d : Exchange)
    (most : now.most ≡ before.most) (halted : now.halted ≡ before.halted) (running : d.sent.halted ≡ false) (quiet : IsQuiet d) where
  -- the same front, as far as its outside is concerned
  abbrev Same : Keeping → Exchange → Type 0
  Same k x = A × B × MayHaveExchanged IsMade parts first (sides_of k notes) x

  pub next-so : MayHaveExchanged IsMade parts first (sides_of before notes) d → (result : Result Next AllocError)
      → MatchResult result (λ which. (before.spent ≡ false) × (now.spent ≡ false) × Looks IsMade before.most which (going_of before) (going_of now)) (λ _. now.spent ≡ true)
      → MatchResult result (λ which. After (Same now) (Asks parts which d)) (λ _. Same now d)
  next-so may (Ok which) looks = elim may [
    | inl out ↦ absurd (true≢false (sym out.0 ∙ looks.0))
    | inr h ↦
        let passed = asked-so IsMade parts first notes before now d h.0 h.1 most halted which running quiet looks.2 in
        (passed.0, (a, b, inr passed.1), passed.2)
  ]
  next-so may (Err error) spent = (a, b, inl (spent, elim may [ inl out ↦ out.1 ∙ sym halted | inr h ↦ h.0.sent.halted ∙ sym halted ]))

-- A run over doors by what its front and its worker say, and by what was opened and came back.
use Rattle.std.proofs.Common.{◌≡◌, ◌⊎◌, ◌≤◌, ◌<◌, ◌+◌, ◌-◌, ◌^◌, refl, sym, ap, subst, ◌∙◌, ℕ, suc, Bool, true, false, not, ◌||◌, List, [], ◌∷◌, length, map, arith}
use Rattle.std.proofs.Common.{inl, inr, ⊎_elim, nat_eq, nat_lt, sum_by, count_by, true≢false}
use Rattle.std.specs.List.{list_all, list_any, items_where_true}
use Rattle.std.proofs.lemmas.List.{length-map}
use Rattle.std.proofs.lemmas.List.Sums.{sum_by-cons}
use Rattle.outside_doors.specs.Counts.{DoorTold, Tally, with_opened}
use Rattle.outside_doors.specs.Returns.{DoorsTold}
use Rattle.outside_traits.specs.Causes.{Rose}
use Rattle.outside_traits.specs.Told.{Lists, SinkTold, SourceTold, WireTold}
use Rattle.office_core.specs.Limits.{Setting, run_of}
use Rattle.office_core.specs.declared.history.Entry.{Entry}
use Rattle.run_record.specs.declared.record.Record.{Record}
use Rattle.run_record.specs.declared.record.Traffic.{Traffic}
use Rattle.run_record.specs.Outside.{notes}
use Rattle.run_record.specs.Postings.{posts_of}
use Rattle.run_record.specs.Run.{Hands, alone, IsRun, IsSpent}
use Rattle.run_theorem.specs.Lines.{noted_before, most_postings, IsPrefix}
use Rattle.run_theorem.specs.Statuses.{Failed}
use Rattle.run_theorem.specs.Texts.{posting_of}
use Rattle.outside_links.specs.Trips.{LinkTold}
use Rattle.run_theorem.specs.Trips.{Travelled}
use Rattle.run_theorem.specs.Exchange.{Exchange}
use Rattle.run_alone.specs.declared.worker.Finished.{Finished}
use Rattle.run_alone.specs.Ran.{AreNotes, Ran}
use Rattle.run_theorem.specs.Picks.{TookPicks}
use Rattle.run_alone.proofs.Noting.{front_longer}
use Rattle.run_theorem.specs.Ports.{DoorAt, doors_of, has_door}
use Rattle.run_theorem.specs.RunConnections.{RunConnection}
use Rattle.run_door_front.specs.Keeping.{ListenerTold, ClientTold, Keeping, AreNew, IsEmpty, rests_at, services_of}
use Rattle.run_door_front.specs.Exchanged.{Sides, HasExchanged, MayHaveExchanged, PausedSo}
use Rattle.run_door_front.specs.Draining.{AreRested, HaveDrained, most_rests}
use Rattle.run_door_front.proofs.Closing.{exchanged_later, later as kept_later, paused_later}
use Rattle.run_theorem.specs.declared.ended.Ended.{Ended}
use Rattle.run_theorem.specs.Used.{Used, AreInOrder, IsUsed, RoseBy, came_at_door, leads_by, leads_to, wires_to, has_failed, with_wires, with_doors, tries_at}
use Rattle.run_theorem.specs.Theorem.{Task, Outside, Around, rules_of, HasStatus, AreNoted, RanProgram, IsDoored}
use Rattle.run_doors.specs.Steps.{Opens, opened_by, ports_at, GivesBack, BackTold, Closes, traffic_of, wire_of, door_of, some_failed, with_traffic, status_of}
use Rattle.run_doors.proofs.Lists.{length_map, all_map}
use Rattle.run_doors.proofs.Leading.{service_at, service_in, place_in, wires_at, leads_at, any_led, leads_as, same_first, same_rest}
use Rattle.run_doors.proofs.Serving.{served_so, as_many, given_long}
use Rattle.run_doors.proofs.Wires.{wires_are, written_out, AreOut, drained_out}
use Rattle.run_doors.proofs.Ending.{noted_so, notes_failed_so, rests_by, through_so}
use Rattle.run_doors.proofs.Telling.{rose_then, rose_some, stood_unfailed}
use Rattle.run_doors.proofs.Openings.{all_marked, any_marked, all_from}
use Rattle.run_order_laws.proofs.Lists.{all_weaker}

-- ---- the record with its traffic

module _ (w : Setting) (budget : ℕ) (run : Record) (t : List Traffic) where
  -- what a run is does not speak of its traffic
  run_with : (hands : Hands) (notes_failed : Bool) → IsRun w budget hands notes_failed run → IsRun w budget hands notes_failed (with_traffic run t)
  run_with hands notes_failed k = record {
    legal = k.legal;
    stopped = k.stopped;
    closed = k.closed;
    actors = k.actors;
    posted = k.posted;
    sessions = k.sessions;
    within = k.within;
    answered = k.answered;
    quiet = k.quiet;
    still = k.still;
    collected = k.collected;
  }

  -- nor is whether a session could still act
  spent_with : IsSpent w budget run → IsSpent w budget (with_traffic run t)
  spent_with k = record { session = k.session; events = k.events; there = k.there; used = k.used; more = k.more }

  spent_without : IsSpent w budget (with_traffic run t) → IsSpent w budget run
  spent_without k = record { session = k.session; events = k.events; there = k.there; used = k.used; more = k.more }

-- ---- services

services_at : (tally : Tally) (places : List DoorAt) → map service_in (ports_at tally places) ≡ map service_at places
services_at tally [] = refl
services_at tally (p ∷ ps) = ap (λ l. p.service ∷ l) (services_at (with_opened tally) ps)

-- of the doors that were opened each leads to a service of the program
pub within_so : (t : Task) (tally : Tally) (opened : List Bool) (kept : Keeping)
    → kept.doors ≡ ports_at tally (items_where_true opened (doors_of t.parts))
    → list_all (λ n. nat_lt n (length t.parts.services)) (services_of kept) ≡ true
within_so t tally opened kept ports =
    ap (λ ps. list_all (λ n. nat_lt n (length t.parts.services)) (map service_in ps)) ports
    ∙ ap (list_all (λ n. nat_lt n (length t.parts.services))) (services_at tally (items_where_true opened (doors_of t.parts)))
    ∙ all_map (λ n. nat_lt n (length t.parts.services)) service_at (items_where_true opened (doors_of t.parts))
    ∙ all_marked (λ (door : DoorAt). nat_lt door.service (length t.parts.services)) opened (doors_of t.parts)
    (subst (λ n. list_all (λ (door : DoorAt). nat_lt door.service n) (doors_of t.parts) ≡ true) (same (length t.parts.services))
    (all_from 0 t.parts.services))
  where
    same : (n : ℕ) → 0 + n ≡ n
    same n = omega arith

-- ---- places

-- doors in the order in which they were opened, by their places
in_order_by : (tally : Tally) (places : List DoorAt) (ports : List ListenerTold) → map place_in ports ≡ map place_in (ports_at tally places)
    → AreInOrder tally.opened (map door_of ports)
in_order_by tally [] [] e = tt
in_order_by tally [] (q ∷ qs) e = absurd (let clash : (q.door.place ∷ map place_in qs) ≡ [] = e in cc)
in_order_by tally (p ∷ ps) [] e = tt
in_order_by tally (p ∷ ps) (q ∷ qs) e = (
  same_first q.door.place tally.opened (map place_in qs) (map place_in (ports_at (with_opened tally) ps)) e,
  in_order_by (with_opened tally) ps qs
      (same_rest q.door.place tally.opened (map place_in qs) (map place_in (ports_at (with_opened tally) ps)) e),
)

-- ---- sums

wires_by : (ports : List ListenerTold) → sum_by (λ (door : DoorTold). door.wires) (map door_of ports) ≡ sum_by (λ (p : ListenerTold). p.door.wires) ports
wires_by [] = refl
wires_by (p ∷ ps) =
    sum_by-cons (λ (door : DoorTold). door.wires) p.door (map door_of ps)
    ∙ ap (λ n. p.door.wires + n) (wires_by ps)
    ∙ sym (sum_by-cons (λ (q : ListenerTold). q.door.wires) p ps)

-- ---- the run

-- something failed or did not
failed_by : (b : Bool) (x y : ℕ) → (b ≡ true → Rose x y) → (b ≡ false → y ≡ x) → Failed b x y
failed_by true x y rose unfailed = rose refl
failed_by false x y rose unfailed = unfailed refl

one_before : (m j : ℕ) → m ≡ suc j → j ≡ m - 1
one_before m j e = omega (arith, e)

-- the outside of a run over doors, with the source and the output, which it leaves alone, and the link
abbrev pub outside_of : SourceTold → SinkTold → DoorsTold → SinkTold → LinkTold → Outside
outside_of source output doors notes link =
    record { source = source; output = output; notes = notes; doors = doors; link = link }

module _ {new : Exchange} (IsMade : WireTold → Type 0) (most_accepted : ℕ) (t : Task) (before mid after : DoorsTold) (ports : List ListenerTold) (failed : Bool)
    (o : Opens (doors_of t.parts) (opened_by before [] false) (opened_by mid ports failed))
    (first now : Sides) (begins : first.kept.doors ≡ ports) (most : first.kept.most ≡ most_accepted)
    (d : Exchange) (finished : Finished) (ran : Ran (rules_of t) t.text new d finished) (f : HasExchanged IsMade t.parts first now d)
    (picked : TookPicks (rules_of t) t.picks finished.report)
    (drained : d.sent.halted ≡ false → AreOut now.kept.connections ⊎ (2 ^ 64 - 1 ≤ rests_at now.kept.doors))
    (paused : PausedSo true now.kept d)
    (back : GivesBack (map wire_of now.kept.connections) (map door_of now.kept.doors) mid after) where
  -- the history
  abbrev h : List Entry
  h = finished.report.history.entries.items

  -- the doors that were opened
  abbrev opened : List DoorAt
  opened = items_where_true o.opened (doors_of t.parts)

  -- what was done with doors
  abbrev used : Used
  used = record { opened = o.opened; doors = map door_of now.kept.doors; wires = map wire_of now.kept.connections }

  begins_opened : first.kept.doors ≡ ports_at before.tally opened
  begins_opened = begins ∙ o.ports

  -- the services of the doors
  services_now : services_of now.kept ≡ map service_at opened
  services_now = f.services ∙ ap (map service_in) begins_opened ∙ services_at before.tally opened

  -- each door came back
  back_so : length (map door_of now.kept.doors) ≡ length opened
  back_so =
      length_map door_of now.kept.doors ∙ sym (length_map service_in now.kept.doors)
      ∙ ap length services_now ∙ length_map service_at opened

  given_so : sum_by (λ (door : DoorTold). door.wires) used.doors ≡ length used.wires
  given_so = wires_by now.kept.doors ∙ f.came_in ∙ sym (length_map wire_of now.kept.connections)

  -- what the doors tell
  uses_so : IsUsed (doors_of t.parts) before after used
  uses_so = record {
    tried = o.tried;
    back = back_so;
    in_order = in_order_by before.tally opened now.kept.doors (f.in_place ∙ ap (map place_in) begins_opened);
    given = given_so;
    tally =
        back.doors_then.tally ∙ ap (with_doors used.doors) back.wires_first.tally
        ∙ ap (λ x. with_doors used.doors (with_wires used.wires x)) o.tally;
    tries = subst (λ x. Lists before.tries x (tries_at (doors_of t.parts) o.opened))
        (sym (back.doors_then.tries ∙ back.wires_first.tries)) o.tries;
    returned = subst (λ x. Lists x after.returned used.wires) o.returned
        (subst (λ x. Lists mid.returned x used.wires) (sym back.doors_then.returned) back.wires_first.returned);
    came_back = subst (λ x. Lists x after.returned_doors used.doors) (back.wires_first.came_back ∙ o.came_back)
        back.doors_then.came_back;
    faults = rose_then (count_by not o.opened) (count_by has_failed used.doors) before.faults mid.faults after.faults o.faults
        (subst (λ n. RoseBy (count_by has_failed used.doors) n after.faults) back.wires_first.faults back.doors_then.faults);
  }

  -- each connection came at a door that was opened
  at_doors : list_all (came_at_door (leads_by opened used.doors)) f.connections ≡ true
  at_doors =
      subst (λ leads. list_all (came_at_door leads) f.connections ≡ true) (leads_at opened now.kept.doors services_now) f.at_doors

  -- to each service lead as many connections as its doors gave
  led_so : (n : ℕ) → wires_to n opened used.doors ≡ count_by (leads_to n) f.connections
  led_so n = wires_at n opened now.kept.doors services_now ∙ f.led n ∙ leads_as IsMade n now.kept.connections f.connections f.clients

  abbrev doors_so : list_all (λ (connection : RunConnection). has_door t.parts connection.service) f.connections ≡ true
  doors_so =
      all_weaker (came_at_door (leads_by opened used.doors)) (λ (connection : RunConnection). has_door t.parts connection.service)
      (λ v at. any_marked (λ (door : DoorAt). nat_eq v.service door.service) o.opened (doors_of t.parts)
      (any_led v.door v.service opened used.doors at))
      f.connections at_doors

  abbrev noted : AreNoted (run_of t.parts) h d.sent.halted first.notes now.notes
  noted =
      noted_so (run_of t.parts) h first.notes now.notes d.sent f.sent.notes f.sent.written f.sent.noted
      (subst (λ m. AreNotes m d.sent.noted (notes (run_of t.parts) h)) f.sent.notes_failed ran.exchanged.noted)

  -- as many came in as were asked for
  given_came : length d.received.given ≡ length f.all.came
  given_came = ap length f.given ∙ length-map f.all.came posting_of

  came_long : length f.all.came ≡ length f.all.asked
  came_long = sym given_came ∙ given_long IsMade t.parts h first now d f ran.exchanged

  -- what is noted before the last posting was noted
  noted_early_so : (j : ℕ) → length f.all.came ≡ suc j → IsPrefix (noted_before (run_of t.parts) h j) f.sent.notes
  noted_early_so j long =
      front_longer (noted_before (run_of t.parts) h j) d.received.noted f.sent.notes
      (subst (λ (k : ℕ). IsPrefix (noted_before (run_of t.parts) h k) d.received.noted)
      (sym (one_before (length d.received.given) j (given_came ∙ long))) ran.exchanged.noted_then)
      f.noted_by_then

  -- the end
  abbrev pub ended : Ended
  ended = record {
    status = status_of d.sent.halted (some_failed used) finished.spent;
    report = with_traffic finished.report (map traffic_of now.kept.connections);
  }

  accepted : length f.connections ≤ most_accepted
  accepted =
      subst (λ n. n ≤ most_accepted) (as_many IsMade now.kept.connections f.connections f.clients)
      (subst (λ n. length now.kept.connections ≤ n) (f.most ∙ most) f.accepted)

  module _ (source : SourceTold) (output : SinkTold) (link link_now : LinkTold) (travelled : Travelled (run_of t.parts) h link link_now) where
    -- the outside before and after
    abbrev pub a : Around
    a = record { before = outside_of source output before first.notes link; now = outside_of source output after now.notes link_now }

    abbrev status_so : HasStatus a (IsSpent (run_of t.parts) t.budget ended.report) ended.status
    status_so = record {
      causes = record { source = false; output = false; notes = d.sent.halted; doors = some_failed used; spent = finished.spent };
      source = refl;
      output = refl;
      notes = notes_failed_so (run_of t.parts) h first.notes now.notes d.sent f.sent.notes f.sent.noted;
      doors = failed_by (some_failed used) before.faults after.faults
          (rose_some not has_failed o.opened used.doors before.faults after.faults uses_so.faults)
          (stood_unfailed not has_failed o.opened used.doors before.faults after.faults uses_so.faults);
      spent = (
        λ e. spent_with (run_of t.parts) t.budget finished.report (map traffic_of now.kept.connections) (ran.spent.0 e),
        λ more. ran.spent.1 (spent_without (run_of t.parts) t.budget finished.report (map traffic_of now.kept.connections) more),
      );
      is = refl;
    }

    abbrev ran_so : RanProgram t a ended
    ran_so = record {
      status = status_so;
      run = run_with (run_of t.parts) t.budget finished.report (map traffic_of now.kept.connections) alone d.sent.halted
          (subst (λ m. IsRun (run_of t.parts) t.budget alone m finished.report) f.sent.notes_failed ran.run);
      program = ran.program;
      came = f.all.came;
      posted = ran.exchanged.posted ∙ ap (posts_of 0) f.given;
      posters = ran.exchanged.posters;
      picks = picked;
      consoles = ran.consoles;
      noted = noted;
      noted_early = noted_early_so;
      trips = travelled;
    }

    -- A run over doors leaves what it is to leave.
    pub doored_so : IsDoored IsMade most_accepted t a ended
    doored_so = record {
      ran = ran_so;
      source = refl;
      output = refl;
      no_lines = (refl, refl);
      served = served_so IsMade t.parts h first now d f ran.exchanged doors_so;
      same = refl;
      accepted = accepted;
      doors = record {
        used = used;
        uses = uses_so;
        came = at_doors;
        led = led_so;
        wires = wires_are IsMade now.kept.connections f.connections f.clients;
      };
      written = λ running.
          ⊎_elim (λ out. inl (written_out IsMade now.kept.connections f.connections f.clients out))
          (λ rests. inr (subst (λ r. 2 ^ 64 - 1 ≤ r) (sym (rests_by now.kept.doors)) rests)) (drained running);
      through = λ running below.
          through_so IsMade t.parts h first now d f ran.exchanged o.opened most_accepted (f.most ∙ most) paused running
          (subst (λ n. n < most_postings) came_long below);
    }

  -- ---- by other words

  -- whether a door failed, by what was seen of it
  pub failed_is : (failed || list_any has_failed (map door_of now.kept.doors)) ≡ some_failed used
  failed_is = ap (λ x. x || list_any has_failed (map door_of now.kept.doors)) o.failed

-- the end of a run by its parts
ended_by : (it : Ended) (n : ℕ) (run : Record) → it.status ≡ n → it.report ≡ run → record { status = n; report = run } ≡ it
ended_by it n run s r =
    ap (λ m. record { status = m; report = run }) (sym s) ∙ ap (λ x. record { status = it.status; report = x }) (sym r)

-- a run over doors by other names of its outside and its end
doored-as : (IsMade : WireTold → Type 0) (most : ℕ) (t : Task) (before first now later : Outside) (a b : Ended) → before ≡ first → now ≡ later
    → a ≡ b → IsDoored IsMade most t (record { before = before; now = now }) a
    → IsDoored IsMade most t (record { before = first; now = later }) b
doored-as IsMade most t before first now later a b f l i k =
    subst (λ x. IsDoored IsMade most t (record { before = first; now = later }) x) i
    (subst (λ x. IsDoored IsMade most t (record { before = first; now = x }) a) l
    (subst (λ x. IsDoored IsMade most t (record { before = x; now = now }) a) f k))

-- memory did not run out
exchanged_so : (IsMade : WireTold → Type 0) (parts : _) (first now : Sides) (d : Exchange) → now.kept.spent ≡ false
    → MayHaveExchanged IsMade parts first now d → HasExchanged IsMade parts first now d × PausedSo false now.kept d
exchanged_so IsMade parts first now d unspent (inl out) = absurd (true≢false (sym out.0 ∙ unspent))
exchanged_so IsMade parts first now d unspent (inr f) = f

-- where there is no connection none has anything left to write
none_drained : (ms : List ClientTold) → 0 ≡ length ms → AreOut ms
none_drained [] none = tt
none_drained (m ∷ ms) none = absurd (omega (arith, none))

-- what is due was written, or there were the most rests: where there is no door there is no connection
drained_so : (ps qs : List ListenerTold) (ls ms : List ClientTold) → AreRested ps qs
    → sum_by (λ (p : ListenerTold). p.door.wires) qs ≡ length ms
    → HaveDrained ls ms ⊎ (0 < length ps → most_rests ≤ rests_at qs) → AreOut ms ⊎ (2 ^ 64 - 1 ≤ rests_at qs)
drained_so [] [] ls ms rested came done = inl (none_drained ms came)
drained_so [] (q ∷ qs) ls ms rested came done = absurd rested
drained_so (p ∷ ps) qs ls ms rested came (inl out) = inl (drained_out ls ms out)
drained_so (p ∷ ps) qs ls ms rested came (inr more) = inr (more (some (length ps)))
  where
    some : (n : ℕ) → 0 < suc n
    some n = omega arith

-- what came of the doors and of what the front kept
pub record Ends (failed : Bool) (mid after : DoorsTold) (kept : Keeping) (finished : Finished) (it : Ended) : Type 0 where
  pub back : BackTold
  pub closes : Closes kept back mid after
  pub status : it.status ≡ status_of kept.halted (failed || back.failed) finished.spent
  pub report : it.report ≡ with_traffic finished.report back.traffic

-- the whole by its parts
pub doored_by : {new : Exchange} (IsMade : WireTold → Type 0) (most_accepted : ℕ) (t : Task) (before mid after : DoorsTold) (ports : List ListenerTold) (failed : Bool)
    (o : Opens (doors_of t.parts) (opened_by before [] false) (opened_by mid ports failed))
    (first now : Sides) (begins : first.kept.doors ≡ ports) (most : first.kept.most ≡ most_accepted)
    (d : Exchange) (finished : Finished) (ran : Ran (rules_of t) t.text new d finished)
    (may : MayHaveExchanged IsMade t.parts first now d) (unspent : now.kept.spent ≡ false)
    (picked : TookPicks (rules_of t) t.picks finished.report) (it : Ended) (ends : Ends failed mid after now.kept finished it)
    (source : SourceTold) (output : SinkTold) (link link_now : LinkTold)
    (travelled : Travelled (run_of t.parts) finished.report.history.entries.items link link_now) (former later : Outside)
    → outside_of source output before first.notes link ≡ former → outside_of source output after now.notes link_now ≡ later
    → IsDoored IsMade most_accepted t (record { before = former; now = later }) it
doored_by IsMade most_accepted t before mid after ports failed o first now begins most d finished ran may unspent picked it ends source output link link_now travelled former later w l =
    let whole = exchanged_so IsMade t.parts first now d unspent may in
    let c = ends.closes in
    let then : Sides = record { kept = kept_later IsMade t.parts first now.kept now.notes d c.ports c.connections c.drains.doors c.drains.connections c.drains.stayed; notes = now.notes } in
    let f : HasExchanged IsMade t.parts first then d =
    exchanged_later IsMade t.parts first now.kept now.notes d c.ports c.connections c.drains.doors c.drains.connections c.drains.stayed whole.0 in
    let paused : PausedSo true then.kept d =
    paused_later IsMade t.parts first now.kept now.notes d c.ports c.connections c.drains.doors c.drains.connections c.drains.stayed whole.0 whole.1 in
    let halted : now.kept.halted ≡ d.sent.halted = sym whole.0.sent.halted in
    let drained : d.sent.halted ≡ false → AreOut c.connections ⊎ (2 ^ 64 - 1 ≤ rests_at c.ports)
    = λ running. drained_so now.kept.doors c.ports now.kept.connections c.connections c.drains.doors f.came_in (c.drains.drained (halted ∙ running)) in
    let doors =
    failed_is IsMade most_accepted t before mid after ports failed o first then begins most d finished ran f picked drained paused c.gives in
    doored-as IsMade most_accepted t (outside_of source output before first.notes link) former (outside_of source output after now.notes link_now) later
    (ended IsMade most_accepted t before mid after ports failed o first then begins most d finished ran f picked drained paused c.gives) it w l
    (ended_by it _ _
    (ends.status
    ∙ ap (λ x. status_of x (failed || ends.back.failed) finished.spent) halted
    ∙ ap (λ x. status_of d.sent.halted x finished.spent) (ap (λ x. failed || x) c.failed ∙ doors))
    (ends.report ∙ ap (with_traffic finished.report) c.traffic))
    (doored_so IsMade most_accepted t before mid after ports failed o first then begins most d finished ran f picked drained paused c.gives
    source output link link_now travelled)

-- ---- the front at the beginning

new_ports : (tally : Tally) (places : List DoorAt) → AreNew (ports_at tally places)
new_ports tally [] = tt
new_ports tally (p ∷ ps) = (refl, new_ports (with_opened tally) ps)

-- nothing came yet
pub empty_so : (kept : Keeping) (tally : Tally) (places : List DoorAt) → kept.doors ≡ ports_at tally places → kept.connections ≡ []
    → kept.traffics ≡ [] → kept.halted ≡ false → kept.spent ≡ false → IsEmpty kept
empty_so kept tally places ports connections traffics halted spent = record {
  doors = subst AreNew (sym ports) (new_ports tally places);
  connections = connections;
  traffics = traffics;
  halted = halted;
  spent = spent;
}

-- What passed with a front, by what its doors and connections are once all that is due is written.
use Rattle.std.proofs.Common.{◌≡◌, refl, sym, ap, ap₂, ◌∙◌, subst, arith, ℕ, suc, ◌+◌, ◌-◌, ◌^◌, ◌≤◌, min, Bool, true, false, cond, ◌&&◌, ◌||◌, inl, inr, List, [], ◌∷◌, length, map, count_by, nat_lt, nat_le}
use Rattle.std.specs.List.{list_all, list_any, sum_by}
use Rattle.std.proofs.lemmas.Bool.{true≢false}
use Rattle.std.proofs.lemmas.List.Sums.{sum_by-cons}
use Rattle.behaviour_tree.specs.Data.{ProgramParts}
use Rattle.outside_doors.specs.Counts.{has_ended}
use Rattle.run_theorem.specs.Exchange.{Exchange}
use Rattle.run_theorem.specs.RunConnections.{RunConnection}
use Rattle.conn_future.specs.Stages.{IsOver}
use Rattle.outside_traits.specs.Told.{SinkTold, WireTold}
use Rattle.run_door_front.specs.Keeping.{is_led, lead_of, leads_of, ListenerTold, ClientTold, Keeping, stage_at, services_of, rests_at, rests_in_a_row_at, is_quiet, wires_to, IsWithin}
use Rattle.run_door_front.specs.Exchanged.{most_open, Pause, for_answer, for_wire, for_room, at_end, is_for_wire, is_unended, AreClients, row_of, WasPaused, WerePaused, HadNone, PausedSo, Sides, sides_of, HasExchanged}
use Rattle.run_door_front.specs.NextSteps.{HasNotFallen, ClientGoesOn, ClientsGoOn, wires_of, service_of, place_of}
use Rattle.run_door_front.specs.Draining.{is_writing, AreRested, HaveStayed}
use Rattle.run_door_front.proofs.Drained.{writes_is}
use Rattle.run_door_front.proofs.Entries.{one_if, count_cons}
use Rattle.run_door_front.proofs.Doors.{sum_not_fallen, not_fallen}
use Rattle.run_door_front.proofs.Links.{clients-long, links-same, links-on}
use Rattle.run_door_front.proofs.Looking.{leads_on}
use Rattle.run_door_front.proofs.Requests.{Serves, serves-on}

-- ---- doors that were rested at

-- a door that was rested at so often, and so often in a row
abbrev with_rests : ListenerTold → ℕ → ℕ → ListenerTold
with_rests p n m = record p { door = record p.door { rests = n; rests_in_a_row = m } }

-- what does not speak of rests stays
pub map_rested : {A : Type 0} (f : ListenerTold → A) → ((p : ListenerTold) (n m : ℕ) → f (with_rests p n m) ≡ f p)
    → (ps qs : List ListenerTold) → AreRested ps qs → map f qs ≡ map f ps
map_rested f same [] [] g = refl
map_rested f same [] (q ∷ qs) g = absurd g
map_rested f same (p ∷ ps) [] g = absurd g
map_rested f same (p ∷ ps) (q ∷ qs) g = ap₂ (λ x xs. x ∷ xs) (ap f g.0 ∙ same p q.door.rests q.door.rests_in_a_row) (map_rested f same ps qs g.3)

pub sum_rested : (f : ListenerTold → ℕ) → ((p : ListenerTold) (n m : ℕ) → f (with_rests p n m) ≡ f p)
    → (ps qs : List ListenerTold) → AreRested ps qs → sum_by f qs ≡ sum_by f ps
sum_rested f same [] [] g = refl
sum_rested f same [] (q ∷ qs) g = absurd g
sum_rested f same (p ∷ ps) [] g = absurd g
sum_rested f same (p ∷ ps) (q ∷ qs) g =
    sum_by-cons f q qs ∙ ap₂ (λ m n. m + n) (ap f g.0 ∙ same p q.door.rests q.door.rests_in_a_row) (sum_rested f same ps qs g.3) ∙ sym (sum_by-cons f p ps)

all_rested : (f : ListenerTold → Bool) → ((p : ListenerTold) (n m : ℕ) → f (with_rests p n m) ≡ f p)
    → (ps qs : List ListenerTold) → AreRested ps qs → list_all f qs ≡ list_all f ps
all_rested f same [] [] g = refl
all_rested f same [] (q ∷ qs) g = absurd g
all_rested f same (p ∷ ps) [] g = absurd g
all_rested f same (p ∷ ps) (q ∷ qs) g = ap₂ (λ a b. a && b) (ap f g.0 ∙ same p q.door.rests q.door.rests_in_a_row) (all_rested f same ps qs g.3)

pub rests_rested : (ps qs : List ListenerTold) → AreRested ps qs → HasNotFallen (rests_at ps) (rests_at qs)
rests_rested [] [] g = not_fallen 0 (2 ^ 64 - 1)
rests_rested [] (q ∷ qs) g = absurd g
rests_rested (p ∷ ps) [] g = absurd g
rests_rested (p ∷ ps) (q ∷ qs) g =
    sum_not_fallen p.door.rests (rests_at ps) q.door.rests (rests_at qs) (rests_at (p ∷ ps)) (rests_at (q ∷ qs)) (2 ^ 64 - 1)
    (sum_by-cons (λ (p : ListenerTold). p.door.rests) p ps) (sum_by-cons (λ (p : ListenerTold). p.door.rests) q qs) g.1 (rests_rested ps qs g.3)

rows_rested : (ps qs : List ListenerTold) → AreRested ps qs → HasNotFallen (rests_in_a_row_at ps) (rests_in_a_row_at qs)
rows_rested [] [] g = not_fallen 0 (2 ^ 64 - 1)
rows_rested [] (q ∷ qs) g = absurd g
rows_rested (p ∷ ps) [] g = absurd g
rows_rested (p ∷ ps) (q ∷ qs) g =
    sum_not_fallen p.door.rests_in_a_row (rests_in_a_row_at ps) q.door.rests_in_a_row (rests_in_a_row_at qs)
    (rests_in_a_row_at (p ∷ ps)) (rests_in_a_row_at (q ∷ qs)) (2 ^ 64 - 1)
    (sum_by-cons (λ (p : ListenerTold). p.door.rests_in_a_row) p ps) (sum_by-cons (λ (p : ListenerTold). p.door.rests_in_a_row) q qs)
    g.2 (rows_rested ps qs g.3)

-- ---- connections that went on

-- where a text goes out the row of a wire is no longer than the longest to which a write came
abbrev AreWithin : List ClientTold → Type 0
AreWithin [] = Unit {0}
AreWithin (l ∷ ls) = IsWithin l × AreWithin ls

are_within : (IsMade : WireTold → Type 0) (ls : List ClientTold) (vs : List RunConnection) → AreClients IsMade ls vs → AreWithin ls
are_within IsMade [] [] a = tt
are_within IsMade [] (v ∷ vs) a = absurd a
are_within IsMade (l ∷ ls) [] a = absurd a
are_within IsMade (l ∷ ls) (v ∷ vs) a = (a.0.row, are_within IsMade ls vs a.1)

-- why nothing came of a connection, once what is due is written
abbrev pause_then : Pause → ClientTold → Pause
pause_then for_answer l = for_answer
pause_then for_wire l = cond (is_writing l) for_room for_wire
pause_then for_room l = for_room
pause_then at_end l = at_end

abbrev pauses_then : List Pause → List ClientTold → List Pause
pauses_then [] ls = []
pauses_then (p ∷ ps) [] = p ∷ ps
pauses_then (p ∷ ps) (l ∷ ls) = pause_then p l ∷ pauses_then ps ls

-- a test that does not tell whether a wire has room finds them as before
same_test : (test : Pause → Bool) → test for_room ≡ test for_wire → (p : Pause) (l : ClientTold) → test (pause_then p l) ≡ test p
same_test test e for_answer l = refl
same_test test e for_wire l = at (is_writing l)
  where
    at : (b : Bool) → test (cond b for_room for_wire) ≡ test for_wire
    at true = e
    at false = refl
same_test test e for_room l = refl
same_test test e at_end l = refl

any_then : (test : Pause → Bool) → test for_room ≡ test for_wire → (ps : List Pause) (ls : List ClientTold)
    → list_any test (pauses_then ps ls) ≡ list_any test ps
any_then test e [] ls = refl
any_then test e (p ∷ ps) [] = refl
any_then test e (p ∷ ps) (l ∷ ls) = ap₂ (λ a b. a || b) (same_test test e p l) (any_then test e ps ls)

count_then : (test : Pause → Bool) → test for_room ≡ test for_wire → (ps : List Pause) (ls : List ClientTold)
    → count_by test (pauses_then ps ls) ≡ count_by test ps
count_then test e [] ls = refl
count_then test e (p ∷ ps) [] = refl
count_then test e (p ∷ ps) (l ∷ ls) =
    count_cons test (pause_then p l) (pauses_then ps ls)
    ∙ ap₂ (λ (b : Bool) (n : ℕ). one_if b + n) (same_test test e p l) (count_then test e ps ls) ∙ sym (count_cons test p ps)

-- with any last value of their type
pub since : (n a b cap : ℕ) → min n cap ≤ a → min a cap ≤ b → min n cap ≤ b
since n a b cap h k = omega arith

within_longest : (n a b c cap : ℕ) → min n cap ≤ a → a ≤ b → min b cap ≤ c → min n cap ≤ c
within_longest n a b c cap h k l = omega arith

paused_on : (d : Exchange) (k : ℕ) (p : Pause) (l m : ClientTold) → ClientGoesOn l m → (is_writing l ≡ false → m ≡ l) → IsWithin l
    → WasPaused false d k p l → WasPaused true d k (pause_then p l) m
paused_on d k for_answer l m g s r h = h
paused_on d k for_wire l m g s r h = at (is_writing l) refl
  where
    at : (b : Bool) → is_writing l ≡ b → WasPaused true d k (cond b for_room for_wire) m
    at true e = (
      refl,
      since d.received.waits l.waits m.waits (2 ^ 64 - 1) h.1 g.waits,
      within_longest d.received.waits l.in_a_row l.longest m.longest (2 ^ 64 - 1) h.2 (r (inr (writes_is (stage_at l) e))) g.longest,
    )
    at false e = subst (WasPaused true d k for_wire) (sym (s e)) h
paused_on d k for_room l m g s r h = absurd (true≢false (sym h.0))
paused_on d k at_end l m g s r h = subst (λ (x : ClientTold). IsOver (stage_at x)) (sym (g.rests (inr h))) h

all_paused_on : (d : Exchange) (k : ℕ) (ps : List Pause) (ls ms : List ClientTold) → ClientsGoOn ls ms → HaveStayed ls ms → AreWithin ls
    → WerePaused false d k ps ls → WerePaused true d k (pauses_then ps ls) ms
all_paused_on d k [] [] [] g s r h = tt
all_paused_on d k [] [] (m ∷ ms) g s r h = absurd g
all_paused_on d k [] (l ∷ ls) ms g s r h = absurd h
all_paused_on d k (p ∷ ps) [] ms g s r h = absurd h
all_paused_on d k (p ∷ ps) (l ∷ ls) [] g s r h = absurd g
all_paused_on d k (p ∷ ps) (l ∷ ls) (m ∷ ms) g s r h =
    (paused_on d k p l m g.0 s.0 r.0 h.0, all_paused_on d (suc k) ps ls ms g.1 s.1 r.1 h.1)

-- ---- all of it

module _ (IsMade : WireTold → Type 0) (parts : ProgramParts) (first : Sides) (now : Keeping) (notes : SinkTold) (d : Exchange) (doors : List ListenerTold) (links : List ClientTold)
    (rested : AreRested now.doors doors) (goes : ClientsGoOn now.connections links) (stayed : HaveStayed now.connections links) where
  -- what the front keeps then
  abbrev pub later : Keeping
  later = record now { doors = doors; connections = links }

  pub same_leads : leads_of later ≡ leads_of now
  same_leads = map_rested lead_of (λ p n m. refl) now.doors doors rested

  pub same_services : services_of later ≡ services_of now
  same_services = map_rested service_of (λ p n m. refl) now.doors doors rested

  pub long : length links ≡ length now.connections
  long = clients-long now.connections links goes

  module _ (f : HasExchanged IsMade parts first (sides_of now notes) d) where
    pub serves : Serves IsMade parts (leads_of now) links f.all f.heard
    serves = serves-on IsMade (leads_of now) parts now.connections links f.all f.heard
        (links-on IsMade (leads_of now) now.connections now.connections links (links-same IsMade (leads_of now) now.connections) goes)
        (record { connections = f.connections; are = f.clients; doors = f.at_doors; taken = f.taken; came = f.came; answers = f.answers })

    none_later : HadNone false now d → HadNone true later d
    none_later n = record {
      pauses = pauses_then n.pauses now.connections;
      each = all_paused_on d 0 n.pauses now.connections links goes stayed (are_within IsMade now.connections f.connections f.clients) n.each;
      over = λ ended. (
        ap₂ (λ (k : ℕ) (b : Bool). nat_le now.most k || b) long (all_rested (λ (p : ListenerTold). has_ended p.door) (λ p n m. refl) now.doors doors rested) ∙ (n.over ended).0,
        any_then is_for_wire refl n.pauses now.connections ∙ (n.over ended).1,
      );
      rested = since d.received.waits (rests_in_a_row_at now.doors) (rests_in_a_row_at doors) (2 ^ 64 - 1) n.rested (rows_rested now.doors doors rested);
      quiet = elim n.quiet [
        | inl full ↦ inl (
            ap₂ (λ (k : ℕ) (c : ℕ). nat_le now.most k || nat_le most_open c) long (count_then is_unended refl n.pauses now.connections) ∙ full)
        | inr all ↦ inr (all_rested (is_quiet (row_of d)) (λ p n m. refl) now.doors doors rested ∙ all)
      ];
    }

    pub paused_later : PausedSo false now d → PausedSo true later d
    paused_later before = λ running gave. elim (before running gave) [ inl had ↦ inl (none_later had) | inr many ↦ inr many ]

    abbrev pub exchanged_later : HasExchanged IsMade parts first (sides_of later notes) d
    exchanged_later = record {
      services = same_services ∙ f.services;
      in_place = map_rested place_of (λ p n m. refl) now.doors doors rested ∙ f.in_place;
      most = f.most;
      within = ap (list_all (λ n. nat_lt n (length parts.services))) same_services ∙ f.within;
      connections = serves.connections;
      clients = serves.are;
      came_in = sum_rested wires_of (λ p n m. refl) now.doors doors rested ∙ f.came_in ∙ sym long;
      led = λ n. sum_rested (wires_to n) (λ p k m. refl) now.doors doors rested ∙ f.led n ∙ sym (leads_on n now.connections links goes);
      at_doors = subst (λ ls. list_all (λ (v : RunConnection). list_any (is_led v.door v.service) ls) serves.connections ≡ true) (sym same_leads) serves.doors;
      accepted = subst (λ n. n ≤ now.most) (sym long) f.accepted;
      all = f.all;
      asked = f.asked;
      traffics = f.traffics;
      taken = serves.taken;
      came = serves.came;
      given = f.given;
      heard = f.heard;
      told = f.told;
      all_told = f.all_told;
      heard_by = f.heard_by;
      places = f.places;
      answers = serves.answers;
      one_by_one = f.one_by_one;
      sent = record {
        notes = f.sent.notes;
        written = f.sent.written;
        noted = f.sent.noted;
        halted = f.sent.halted;
        notes_failed = f.sent.notes_failed;
        faults = f.sent.faults;
      };
      noted_by_then = f.noted_by_then;
      left = f.left;
      faults = f.faults;
      seen = f.seen;
      moved = since d.received.moves (rests_at now.doors) (rests_at doors) (2 ^ 64 - 1) f.moved (rests_rested now.doors doors rested);
    }

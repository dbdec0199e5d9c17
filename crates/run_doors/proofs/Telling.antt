-- What doors tell, over several of their calls.
use Rattle.std.proofs.Common.{◌≡◌, ◌≤◌, ◌<◌, ◌+◌, ◌-◌, ◌^◌, min, ℕ, zero, suc, length, Bool, true, false, ◌||◌, List, [], ◌∷◌, ◌++◌}
use Rattle.outside_doors.specs.Returns.{DoorsTold}
use Rattle.std.proofs.Common.{refl, sym, ap, subst, ◌∙◌, arith, append_assoc, append-nil, Option, None, Some, map, count_by}
use Rattle.std.specs.Prelude.{◌==◌}
use Rattle.std.specs.List.{list_any}
use Rattle.std.proofs.lemmas.Bool.{eqb-true, eqb-false, not-true, not-false, or_parts}
use Rattle.outside_traits.specs.Causes.{Rose}
use Rattle.outside_doors.specs.Counts.{DoorTold, Tally, with_door}
use Rattle.outside_traits.specs.Told.{Lists}
use Rattle.outside_polling.specs.Polls.{PollTold}
use Rattle.run_theorem.specs.Ports.{DoorAt}
use Rattle.run_theorem.specs.Used.{RoseBy, with_openings, with_wires, with_doors, has_failed}
use Rattle.run_doors.specs.Steps.{GivesWires, GivesDoors, wire_of, door_of, traffic_of}
use Rattle.run_record.specs.declared.record.Traffic.{Traffic}
use Rattle.run_door_front.specs.Keeping.{ClientTold, ListenerTold}
use Rattle.run_door_front.proofs.Entries.{one_if, count_cons, count_append}
use Rattle.session_turn.proofs.Walking.{none-counts, some-counts}

-- ---- counts

stands : (a b : ℕ) → b ≡ a → min (a + 0) (2 ^ 64 - 1) ≤ b
stands a b e = omega (arith, e)

-- no failure
pub rose_none : (a b : ℕ) → b ≡ a → RoseBy 0 a b
rose_none a b e = record { counted = stands a b e; unfailed = λ _. e }

-- one failure
pub rose_one : (a b : ℕ) → Rose a b → RoseBy 1 a b
rose_one a b rose = record { counted = rose; unfailed = λ (none : 1 ≡ 0). absurd (omega arith) }

rises : (m n a b c : ℕ) → min (a + m) (2 ^ 64 - 1) ≤ b → min (b + n) (2 ^ 64 - 1) ≤ c → min (a + (m + n)) (2 ^ 64 - 1) ≤ c
rises m n a b c h g = omega (arith, h, g)

no_first : (m n : ℕ) → m + n ≡ 0 → m ≡ 0
no_first m n e = omega (arith, e)

no_second : (m n : ℕ) → m + n ≡ 0 → n ≡ 0
no_second m n e = omega (arith, e)

-- some failures and then others
pub rose_then : (m n a b c : ℕ) → RoseBy m a b → RoseBy n b c → RoseBy (m + n) a c
rose_then m n a b c h g = record {
  counted = rises m n a b c h.counted g.counted;
  unfailed = λ none. g.unfailed (no_second m n none) ∙ h.unfailed (no_first m n none);
}

at_least_one : (n a b : ℕ) → 1 ≤ n → min (a + n) (2 ^ 64 - 1) ≤ b → min (a + 1) (2 ^ 64 - 1) ≤ b
at_least_one n a b some h = omega (arith, some, h)

one_of : (x y : Bool) (m n : ℕ) → (x ≡ true → 1 ≤ m) → (y ≡ true → 1 ≤ n) → (x || y) ≡ true → 1 ≤ m + n
one_of true y m n f g e = let one = f refl in omega (arith, one)
one_of false y m n f g e = let one = g e in omega (arith, one)

none_of : (m n : ℕ) → m ≡ 0 → n ≡ 0 → m + n ≡ 0
none_of m n e f = omega (arith, e, f)

-- of failures of two kinds, by whether there is one
module _ {A B : Type 0} (p : A → Bool) (q : B → Bool) (xs : List A) (ys : List B) (a b : ℕ)
    (k : RoseBy (count_by p xs + count_by q ys) a b) where
  pub rose_some : (list_any p xs || list_any q ys) ≡ true → Rose a b
  rose_some e =
      at_least_one (count_by p xs + count_by q ys) a b
      (one_of (list_any p xs) (list_any q ys) (count_by p xs) (count_by q ys) (some-counts p xs) (some-counts q ys) e)
      k.counted

  pub stood_unfailed : (list_any p xs || list_any q ys) ≡ false → b ≡ a
  stood_unfailed e =
      let parts = or_parts (list_any p xs) (list_any q ys) e in
      k.unfailed (none_of (count_by p xs) (count_by q ys) (none-counts p xs parts.0) (none-counts q ys parts.1))

pub with_openings-append : (xs ys : List DoorAt) (t : Tally) → with_openings (xs ++ ys) t ≡ with_openings ys (with_openings xs t)
with_openings-append [] ys t = refl
with_openings-append (x ∷ xs) ys t = with_openings-append xs ys _

pub with_wires-append : (xs ys : List PollTold) (t : Tally) → with_wires (xs ++ ys) t ≡ with_wires ys (with_wires xs t)
with_wires-append [] ys t = refl
with_wires-append (x ∷ xs) ys t = with_wires-append xs ys _

pub with_doors-append : (xs ys : List DoorTold) (t : Tally) → with_doors (xs ++ ys) t ≡ with_doors ys (with_doors xs t)
with_doors-append [] ys t = refl
with_doors-append (x ∷ xs) ys t = with_doors-append xs ys _

-- ---- lists that are told

pub Lists-nil : {A : Type 0} (a : Option (List A)) → Lists a a []
Lists-nil None = tt
Lists-nil (Some x) = sym (append-nil x)

pub Lists-then : {A : Type 0} (a b c : Option (List A)) (xs ys : List A) → Lists a b xs → Lists b c ys → Lists a c (xs ++ ys)
Lists-then None None None xs ys p q = tt
Lists-then None None (Some z) xs ys p q = absurd q
Lists-then None (Some y) c xs ys p q = absurd p
Lists-then (Some x) None None xs ys p q = tt
Lists-then (Some x) None (Some z) xs ys p q = absurd q
Lists-then (Some x) (Some y) None xs ys p q = tt
Lists-then (Some x) (Some y) (Some z) xs ys p q = q ∙ ap (λ l. l ++ ys) p ∙ append_assoc x xs ys

-- ---- what comes back

-- none yet
pub no_wires : (a : DoorsTold) → GivesWires [] a a
no_wires a = record {
  tally = refl;
  returned = Lists-nil a.returned;
  came_back = refl;
  tries = refl;
  faults = refl;
}

pub no_doors : (a : DoorsTold) → GivesDoors [] a a
no_doors a = record {
  tally = refl;
  returned = refl;
  came_back = Lists-nil a.returned_doors;
  tries = refl;
  faults = rose_none a.faults a.faults refl;
}

-- some and then others
pub more_wires : (xs ys : List PollTold) (a b c : DoorsTold) → GivesWires xs a b → GivesWires ys b c → GivesWires (xs ++ ys) a c
more_wires xs ys a b c k l = record {
  tally = l.tally ∙ ap (with_wires ys) k.tally ∙ sym (with_wires-append xs ys a.tally);
  returned = Lists-then a.returned b.returned c.returned xs ys k.returned l.returned;
  came_back = l.came_back ∙ k.came_back;
  tries = l.tries ∙ k.tries;
  faults = l.faults ∙ k.faults;
}

pub more_doors : (xs ys : List DoorTold) (a b c : DoorsTold) → GivesDoors xs a b → GivesDoors ys b c → GivesDoors (xs ++ ys) a c
more_doors xs ys a b c k l = record {
  tally = l.tally ∙ ap (with_doors ys) k.tally ∙ sym (with_doors-append xs ys a.tally);
  returned = l.returned ∙ k.returned;
  came_back = Lists-then a.returned_doors b.returned_doors c.returned_doors xs ys k.came_back l.came_back;
  tries = l.tries ∙ k.tries;
  faults = subst (λ n. RoseBy n a.faults c.faults) (sym (count_append has_failed xs ys))
      (rose_then (count_by has_failed xs) (count_by has_failed ys) a.faults b.faults c.faults k.faults l.faults);
}

above : (n : ℕ) → (n == 0) ≡ false → 0 < n
above zero e = absurd (eqb-false 0 0 e refl)
above (suc n) e = omega arith

-- a count by whether one failed
rose_if : (failed : Bool) (before now : ℕ) → (failed ≡ true → Rose before now) → (failed ≡ false → now ≡ before)
    → RoseBy (one_if failed + 0) before now
rose_if true before now raised unfailed = rose_one before now (raised refl)
rose_if false before now raised unfailed = rose_none before now (unfailed refl)

-- one door that came back
pub one_door : (told door : DoorTold) (a b : DoorsTold) → told ≡ door → b.tally ≡ with_door told a.tally
    → b.returned ≡ a.returned → Lists a.returned_doors b.returned_doors (told ∷ []) → b.tries ≡ a.tries
    → (0 < told.faults → Rose a.faults b.faults) → (told.faults ≡ 0 → b.faults ≡ a.faults) → GivesDoors (door ∷ []) a b
one_door told door a b is tally returned came_back tries raised unfailed =
    subst (λ (d : DoorTold). GivesDoors (d ∷ []) a b) is (record {
      tally = tally;
      returned = returned;
      came_back = came_back;
      tries = tries;
      faults = subst (λ n. RoseBy n a.faults b.faults) (sym (count_cons has_failed told []))
          (rose_if (has_failed told) a.faults b.faults
          (λ e. raised (above told.faults (not-true (told.faults == 0) e)))
          (λ e. unfailed (eqb-true told.faults 0 (not-false (told.faults == 0) e))));
    })

-- ---- one after another

or_assoc : (x y z : Bool) → ((x || y) || z) ≡ (x || (y || z))
or_assoc true y z = refl
or_assoc false y z = refl

one_less : (m n k : ℕ) → n + 1 ≡ m → m ≡ suc k → n ≡ k
one_less m n k e h = omega (arith, e, h)

-- how many are left
pub left_on : {A : Type 0} (x : A) (old rest : List A) (m n : ℕ) → old ≡ x ∷ rest → n + 1 ≡ m → m ≡ length old → n ≡ length rest
left_on x old rest m n is less long = one_less m n (length rest) less (long ∙ ap length is)

-- none is left
pub none_left : {A : Type 0} (xs : List A) (n : ℕ) → n ≡ 0 → n ≡ length xs → xs ≡ []
none_left [] n e h = refl
none_left (x ∷ xs) n e h = absurd (clash n (length xs) e h)
  where
    clash : (m k : ℕ) → m ≡ 0 → m ≡ suc k → ⊥
    clash m k f g = omega (arith, f, g)

-- what the wires that are left make of all
pub wires_on : (all : List PollTold) (a b c : DoorsTold) (x : ClientTold) (old rest : List ClientTold) → old ≡ x ∷ rest
    → ((after : DoorsTold) → GivesWires (map wire_of old) b after → GivesWires all a after) → GivesWires (wire_of x ∷ []) b c
    → (after : DoorsTold) → GivesWires (map wire_of rest) c after → GivesWires all a after
wires_on all a b c x old rest is k one after m =
    k after (subst (λ l. GivesWires (map wire_of l) b after) (sym is) (more_wires (wire_of x ∷ []) (map wire_of rest) b c after one m))

pub wires_end : (all : List PollTold) (a b : DoorsTold) (old : List ClientTold) → old ≡ []
    → ((after : DoorsTold) → GivesWires (map wire_of old) b after → GivesWires all a after) → GivesWires all a b
wires_end all a b old none k = k b (subst (λ l. GivesWires (map wire_of l) b b) (sym none) (no_wires b))

-- the same of doors
pub doors_on : (all : List DoorTold) (a b c : DoorsTold) (x : ListenerTold) (old rest : List ListenerTold) → old ≡ x ∷ rest
    → ((after : DoorsTold) → GivesDoors (map door_of old) b after → GivesDoors all a after) → GivesDoors (x.door ∷ []) b c
    → (after : DoorsTold) → GivesDoors (map door_of rest) c after → GivesDoors all a after
doors_on all a b c x old rest is k one after m =
    k after (subst (λ l. GivesDoors (map door_of l) b after) (sym is) (more_doors (x.door ∷ []) (map door_of rest) b c after one m))

pub doors_end : (all : List DoorTold) (a b : DoorsTold) (old : List ListenerTold) → old ≡ []
    → ((after : DoorsTold) → GivesDoors (map door_of old) b after → GivesDoors all a after) → GivesDoors all a b
doors_end all a b old none k = k b (subst (λ l. GivesDoors (map door_of l) b b) (sym none) (no_doors b))

-- whether one of the doors had failed
pub failed_on : (f h all : Bool) (x : ListenerTold) (old rest : List ListenerTold) → old ≡ x ∷ rest → h ≡ has_failed x.door
    → (f || list_any has_failed (map door_of old)) ≡ all → ((f || h) || list_any has_failed (map door_of rest)) ≡ all
failed_on f h all x old rest is failed k =
    or_assoc f h (list_any has_failed (map door_of rest))
    ∙ ap (λ b. f || (b || list_any has_failed (map door_of rest))) failed
    ∙ ap (λ l. f || list_any has_failed (map door_of l)) (sym is) ∙ k

-- the bytes of one connection more
pub traffic_on : (done all : List Traffic) (t : Traffic) (x : ClientTold) (old rest : List ClientTold) → old ≡ x ∷ rest → t ≡ traffic_of x
    → done ++ map traffic_of old ≡ all → (done ++ t ∷ []) ++ map traffic_of rest ≡ all
traffic_on done all t x old rest is same k =
    append_assoc done (t ∷ []) (map traffic_of rest)
    ∙ ap (λ u. done ++ u ∷ map traffic_of rest) same
    ∙ ap (λ l. done ++ map traffic_of l) (sym is) ∙ k

-- Doors are opened, one after another.
use Rattle.std.proofs.Common.{◌≡◌, ◌<◌, ◌+◌, min, ℕ, zero, suc, take, get_or, Bool, true, false, not, ◌||◌, List, [], ◌∷◌, ◌++◌, length, map, cond}
use Rattle.outside_doors.specs.Returns.{DoorsTold}
use Rattle.std.proofs.Common.{refl, sym, ap, subst, ◌∙◌, arith, append_assoc, append-nil, length-append, nat_lt, count_by}
use Rattle.std.specs.List.{list_all, list_any, filter, items_where_true}
use Rattle.std.proofs.lemmas.List.{map-append, length-take}
use Rattle.outside_traits.specs.Causes.{Rose}
use Rattle.outside_doors.specs.Counts.{DoorTold, Tally, untried, with_opened}
use Rattle.outside_doors.specs.Returns.{try_told}
use Rattle.behaviour_tree.specs.PartsView.{port_view, service_view}
use Rattle.behaviour_tree.specs.declared.program.Port.{Port}
use Rattle.behaviour_tree.specs.declared.program.Service.{Service}
use Rattle.std.proofs.lemmas.Bool.{lt-ltb}
use Rattle.behaviour_tree.specs.Data.{PortPart, ServicePart}
use Rattle.outside_traits.specs.Told.{Lists}
use Rattle.run_theorem.specs.Ports.{DoorAt, is_door, locations_of, doors_from}
use Rattle.run_door_front.specs.Keeping.{ListenerTold}
use Rattle.run_door_front.proofs.Entries.{count_append}
use Rattle.run_theorem.specs.Used.{RoseBy, tries_at, with_openings}
use Rattle.run_doors.specs.Steps.{door_to, location_in, doors_at, port_at, ports_at, Opened, opened_by, Opens}
use Rattle.run_doors.proofs.Lists.{length_map}
use Rattle.run_doors.proofs.Telling.{Lists-nil, Lists-then, rose_none, rose_one, rose_then, with_openings-append}
use Rattle.run_order_laws.proofs.Least.{filter_append}
use Rattle.run_order_laws.proofs.Lists.{any_append, all_append, both_true, left_true, right_true, true_right}

-- ---- marks

no_suc : (n : ℕ) → 0 ≡ suc n → ⊥
no_suc n e = omega (arith, e)

one_less : (m n : ℕ) → suc m ≡ suc n → m ≡ n
one_less m n e = omega (arith, e)

-- those that are marked of two lists behind one another
pub marked-append : {A : Type 0} (ms ns : List Bool) (xs ys : List A) → length ms ≡ length xs
    → items_where_true (ms ++ ns) (xs ++ ys) ≡ items_where_true ms xs ++ items_where_true ns ys
marked-append [] ns [] ys e = refl
marked-append [] ns (x ∷ xs) ys e = absurd (no_suc (length xs) e)
marked-append (m ∷ ms) ns [] ys e = absurd (no_suc (length ms) (sym e))
marked-append (true ∷ ms) ns (x ∷ xs) ys e =
    ap (λ l. x ∷ l) (marked-append ms ns xs ys (one_less (length ms) (length xs) e))
marked-append (false ∷ ms) ns (x ∷ xs) ys e = marked-append ms ns xs ys (one_less (length ms) (length xs) e)

-- what holds of all holds of those that are marked
pub all_marked : {A : Type 0} (p : A → Bool) (ms : List Bool) (xs : List A) → list_all p xs ≡ true → list_all p (items_where_true ms xs) ≡ true
all_marked p [] xs h = none xs h
  where
    none : (ys : List _) → list_all p ys ≡ true → list_all p (items_where_true [] ys) ≡ true
    none ys g = refl
all_marked p (m ∷ ms) [] h = refl
all_marked p (true ∷ ms) (x ∷ xs) h =
    both_true (p x) (list_all p (items_where_true ms xs)) (left_true (p x) (list_all p xs) h)
    (all_marked p ms xs (right_true (p x) (list_all p xs) h))
all_marked p (false ∷ ms) (x ∷ xs) h = all_marked p ms xs (right_true (p x) (list_all p xs) h)

or_more : (a b c : Bool) → (b ≡ true → c ≡ true) → (a || b) ≡ true → (a || c) ≡ true
or_more true b c f h = refl
or_more false b c f h = f h

-- one that is marked is one of all
pub any_marked : {A : Type 0} (p : A → Bool) (ms : List Bool) (xs : List A) → list_any p (items_where_true ms xs) ≡ true → list_any p xs ≡ true
any_marked p [] xs h = absurd (clash h)
  where
    clash : false ≡ true → ⊥
    clash e = let b : false ≡ true = e in cc
any_marked p (m ∷ ms) [] h = h
any_marked p (true ∷ ms) (x ∷ xs) h = or_more (p x) (list_any p (items_where_true ms xs)) (list_any p xs) (any_marked p ms xs) h
any_marked p (false ∷ ms) (x ∷ xs) h = true_right (p x) (list_any p xs) (any_marked p ms xs h)

-- ---- doors are opened

-- those that were opened behind others
ports_at-append : (t : Tally) (xs ys : List DoorAt) → ports_at t (xs ++ ys) ≡ ports_at t xs ++ ports_at (with_openings xs t) ys
ports_at-append t [] ys = refl
ports_at-append t (x ∷ xs) ys = ap (λ ps. port_at t.opened x ∷ ps) (ports_at-append (with_opened t) xs ys)

-- the tries at more places
tries_at-append : (xs ys : List DoorAt) (ms ns : List Bool) → length ms ≡ length xs
    → tries_at (xs ++ ys) (ms ++ ns) ≡ tries_at xs ms ++ tries_at ys ns
tries_at-append [] ys [] ns e = refl
tries_at-append [] ys (m ∷ ms) ns e = absurd (no_suc (length ms) (sym e))
tries_at-append (x ∷ xs) ys [] ns e = absurd (no_suc (length xs) e)
tries_at-append (x ∷ xs) ys (m ∷ ms) ns e =
    ap (λ l. try_told x.location m ∷ l) (tries_at-append xs ys ms ns (one_less (length ms) (length xs) e))

or_assoc : (x y z : Bool) → ((x || y) || z) ≡ (x || (y || z))
or_assoc true y z = refl
or_assoc false y z = refl

or_false : (x : Bool) → x ≡ (x || false)
or_false true = refl
or_false false = refl

-- none yet
pub opens_none : (a : Opened) → Opens [] a a
opens_none a = record {
  opened = [];
  tried = refl;
  ports = sym (append-nil a.ports);
  tally = refl;
  tries = Lists-nil a.doors.tries;
  returned = refl;
  came_back = refl;
  faults = rose_none a.doors.faults a.doors.faults refl;
  failed = or_false a.failed;
}

-- some and then others
pub opens_more : (xs ys : List DoorAt) (a b c : Opened) → Opens xs a b → Opens ys b c → Opens (xs ++ ys) a c
opens_more xs ys a b c k l =
    let both : items_where_true (k.opened ++ l.opened) (xs ++ ys) ≡ items_where_true k.opened xs ++ items_where_true l.opened ys =
    marked-append k.opened l.opened xs ys k.tried in
    record {
      opened = k.opened ++ l.opened;
      tried =
          length-append k.opened l.opened ∙ ap (λ n. n + length l.opened) k.tried ∙ ap (λ n. length xs + n) l.tried
          ∙ sym (length-append xs ys);
      ports =
          l.ports ∙ ap (λ t. b.ports ++ ports_at t (items_where_true l.opened ys)) k.tally
          ∙ ap (λ ps. ps ++ ports_at (with_openings (items_where_true k.opened xs) a.doors.tally) (items_where_true l.opened ys)) k.ports
          ∙ append_assoc a.ports (ports_at a.doors.tally (items_where_true k.opened xs))
          (ports_at (with_openings (items_where_true k.opened xs) a.doors.tally) (items_where_true l.opened ys))
          ∙ ap (λ ps. a.ports ++ ps) (sym (ports_at-append a.doors.tally (items_where_true k.opened xs) (items_where_true l.opened ys)))
          ∙ ap (λ ps. a.ports ++ ports_at a.doors.tally ps) (sym both);
      tally =
          l.tally ∙ ap (with_openings (items_where_true l.opened ys)) k.tally
          ∙ sym (with_openings-append (items_where_true k.opened xs) (items_where_true l.opened ys) a.doors.tally)
          ∙ ap (λ ps. with_openings ps a.doors.tally) (sym both);
      tries = subst (λ ts. Lists a.doors.tries c.doors.tries ts) (sym (tries_at-append xs ys k.opened l.opened k.tried))
          (Lists-then a.doors.tries b.doors.tries c.doors.tries (tries_at xs k.opened) (tries_at ys l.opened) k.tries l.tries);
      returned = l.returned ∙ k.returned;
      came_back = l.came_back ∙ k.came_back;
      faults = subst (λ n. RoseBy n a.doors.faults c.doors.faults) (sym (count_append not k.opened l.opened))
          (rose_then (count_by not k.opened) (count_by not l.opened) a.doors.faults b.doors.faults c.doors.faults k.faults l.faults);
      failed =
          l.failed ∙ ap (λ x. x || list_any not l.opened) k.failed
          ∙ or_assoc a.failed (list_any not k.opened) (list_any not l.opened)
          ∙ ap (λ x. a.failed || x) (sym (any_append not k.opened l.opened));
    }

-- ---- where doors are

-- the doors of more ports
pub doors_at-append : (n : ℕ) (ps qs : List PortPart) → doors_at n (ps ++ qs) ≡ doors_at n ps ++ doors_at n qs
doors_at-append n ps qs =
    ap (λ l. map (door_to n) (map location_in l)) (filter_append is_door ps qs)
    ∙ ap (map (door_to n)) (map-append location_in (filter is_door ps) (filter is_door qs))
    ∙ map-append (door_to n) (map location_in (filter is_door ps)) (map location_in (filter is_door qs))

-- a port has one door or none
pub no_door_at : (n : ℕ) (p : PortPart) → is_door p ≡ false → doors_at n (p ∷ []) ≡ []
no_door_at n p h = ap (λ b. map (door_to n) (map location_in (cond b (p ∷ []) []))) h

pub one_door_at : (n : ℕ) (p : PortPart) → is_door p ≡ true → doors_at n (p ∷ []) ≡ door_to n p.location ∷ []
one_door_at n p h = ap (λ b. map (door_to n) (map location_in (cond b (p ∷ []) []))) h

-- the doors of one service more
pub doors_from-append : (n m : ℕ) (ss : List ServicePart) (s : ServicePart) → m ≡ n + length ss
    → doors_from n (ss ++ s ∷ []) ≡ doors_from n ss ++ doors_at m s.ports
doors_from-append n m [] s e = append-nil (doors_at n s.ports) ∙ ap (λ k. doors_at k s.ports) (same n m e)
  where
    same : (k l : ℕ) → l ≡ k + 0 → k ≡ l
    same k l h = omega (arith, h)
doors_from-append n m (x ∷ ss) s e =
    ap (λ l. doors_at n x.ports ++ l) (doors_from-append (suc n) m ss s (further n m (length ss) e))
    ∙ sym (append_assoc (doors_at n x.ports) (doors_from (suc n) ss) (doors_at m s.ports))
  where
    further : (k l c : ℕ) → l ≡ k + suc c → l ≡ suc k + c
    further k l c h = omega (arith, h)

-- ---- to which services they lead

less : (m n : ℕ) → m < n → nat_lt m n ≡ true
less m n h = lt-ltb m n h

all_at : (n most : ℕ) → n < most → (locations : List (List ℕ))
    → list_all (λ (door : DoorAt). nat_lt door.service most) (map (λ location. record { service = n; location = location }) locations) ≡ true
all_at n most h [] = refl
all_at n most h (l ∷ ls) = both_true (nat_lt n most) _ (less n most h) (all_at n most h ls)

-- the services of doors are those of the program
pub all_from : (n : ℕ) (ss : List ServicePart) → list_all (λ (door : DoorAt). nat_lt door.service (n + length ss)) (doors_from n ss) ≡ true
all_from n [] = refl
all_from n (s ∷ ss) =
    all_append (λ (door : DoorAt). nat_lt door.service (n + suc (length ss))) (doors_at n s.ports) (doors_from (suc n) ss)
    (all_at n (n + suc (length ss)) (within n (length ss)) (locations_of s))
    (subst (λ most. list_all (λ (door : DoorAt). nat_lt door.service most) (doors_from (suc n) ss) ≡ true)
    (further n (length ss)) (all_from (suc n) ss))
  where
    within : (k c : ℕ) → k < k + suc c
    within k c = omega arith

    further : (k c : ℕ) → suc k + c ≡ k + suc c
    further k c = omega arith

-- ---- one more of a list

-- what one item more makes
pub map_next : {A B : Type 0} (f : A → B) (xs : List A) (i : ℕ) (d : A) → i < length xs
    → map f (take (i + 1) xs) ≡ map f (take i xs) ++ f (get_or xs i d) ∷ []
map_next f xs i d h = ap (map f) (taken xs i d h) ∙ map-append f (take i xs) (get_or xs i d ∷ [])
  where
    none : (k : ℕ) → k < 0 → ⊥
    none k g = omega (arith, g)

    lower : (k n : ℕ) → suc k < suc n → k < n
    lower k n g = omega (arith, g)

    one : (k : ℕ) → k + 1 ≡ suc k
    one k = omega arith

    by_suc : {C : Type 0} (ys : List C) (k : ℕ) (e : C) → k < length ys → take (suc k) ys ≡ take k ys ++ get_or ys k e ∷ []
    by_suc [] k e g = absurd (none k g)
    by_suc (y ∷ ys) zero e g = refl
    by_suc (y ∷ ys) (suc k) e g = ap (λ l. y ∷ l) (by_suc ys k e (lower k (length ys) g))

    taken : {C : Type 0} (ys : List C) (k : ℕ) (e : C) → k < length ys → take (k + 1) ys ≡ take k ys ++ get_or ys k e ∷ []
    taken ys k e g = ap (λ n. take n ys) (one k) ∙ by_suc ys k e g

-- ---- one more door

or_true : (x : Bool) → true ≡ (x || true)
or_true true = refl
or_true false = refl

abbrev port_of : ℕ → DoorTold → ListenerTold
port_of n door = record { service = n; door = door }

-- a port with a door that was not tried yet
pub port_opened : (n place : ℕ) (location : List ℕ) (port : ListenerTold) (door : DoorTold) → port ≡ port_of n door → door ≡ untried place
    → port ≡ port_at place (door_to n location)
port_opened n place location port door made new = made ∙ ap (port_of n) new

module _ (place : DoorAt) (a b : DoorsTold) (ports : List ListenerTold) (failed : Bool) where
  -- it is opened
  pub opens_one : (more : List ListenerTold) → b.tally ≡ with_opened a.tally → Lists a.tries b.tries (try_told place.location true ∷ [])
      → b.returned ≡ a.returned → b.returned_doors ≡ a.returned_doors → b.faults ≡ a.faults
      → more ≡ ports ++ port_at a.tally.opened place ∷ []
      → Opens (place ∷ []) (opened_by a ports failed) (opened_by b more failed)
  opens_one more tally tries returned came_back faults is = record {
    opened = true ∷ [];
    tried = refl;
    ports = is;
    tally = tally;
    tries = tries;
    returned = returned;
    came_back = came_back;
    faults = rose_none a.faults b.faults faults;
    failed = or_false failed;
  }

  -- it can't be opened
  pub opens_failed : b.tally ≡ a.tally → Lists a.tries b.tries (try_told place.location false ∷ []) → b.returned ≡ a.returned
      → b.returned_doors ≡ a.returned_doors → Rose a.faults b.faults
      → Opens (place ∷ []) (opened_by a ports failed) (opened_by b ports true)
  opens_failed tally tries returned came_back rose = record {
    opened = false ∷ [];
    tried = refl;
    ports = sym (append-nil ports);
    tally = tally;
    tries = tries;
    returned = returned;
    came_back = came_back;
    faults = rose_one a.faults b.faults rose;
    failed = or_true failed;
  }

-- the doors of one port more
pub opens_port : (n : ℕ) (ports : List Port) (i : ℕ) (item : Port) → i < length ports → item ≡ get_or ports i item → (a b c : Opened)
    → Opens (doors_at n (map port_view (take i ports))) a b → Opens (doors_at n (port_view item ∷ [])) b c
    → Opens (doors_at n (map port_view (take (i + 1) ports))) a c
opens_port n ports i item h is a b c k l =
    subst (λ ps. Opens ps a c)
    (sym (ap (doors_at n) (map_next port_view ports i item h)
    ∙ doors_at-append n (map port_view (take i ports)) (port_view (get_or ports i item) ∷ [])))
    (opens_more (doors_at n (map port_view (take i ports))) (doors_at n (port_view (get_or ports i item) ∷ [])) a b c k
    (subst (λ p. Opens (doors_at n (port_view p ∷ [])) b c) is l))

-- the doors of one service more
pub opens_service : (services : List Service) (i : ℕ) (item : Service) → i < length services → item ≡ get_or services i item → (a b c : Opened)
    → Opens (doors_from 0 (map service_view (take i services))) a b → Opens (doors_at i (map port_view item.ports.items)) b c
    → Opens (doors_from 0 (map service_view (take (i + 1) services))) a c
opens_service services i item h is a b c k l =
    subst (λ ps. Opens ps a c)
    (sym (ap (doors_from 0) (map_next service_view services i item h)
    ∙ doors_from-append 0 i (map service_view (take i services)) (service_view (get_or services i item)) count))
    (opens_more (doors_from 0 (map service_view (take i services))) (doors_at i (map port_view (get_or services i item).ports.items)) a b c k
    (subst (λ (s : Service). Opens (doors_at i (map port_view s.ports.items)) b c) is l))
  where
    count : i ≡ 0 + length (map service_view (take i services))
    count =
        let m : length (map service_view (take i services)) ≡ length (take i services) = length_map service_view (take i services) in
        let n : length (take i services) ≡ min i (length services) = length-take i services in
        omega (arith, h, m, n)

-- How many wires and connections lead to a service.
use Rattle.std.proofs.Common.{◌≡◌, refl, sym, ap, ap₂, ◌∙◌, arith, ℕ, ◌+◌, Bool, true, false, cond, List, [], ◌∷◌, ◌++◌, Some, count_by, nat_eq, slice_get, slice_set}
use Rattle.std.specs.List.{sum_by}
use Rattle.std.proofs.lemmas.List.Sums.{sum_by-cons, sum_by-append}
use Rattle.outside_doors.specs.Counts.{DoorTold}
use Rattle.run_door_front.specs.Keeping.{ListenerTold, ClientTold, AreNew, wires_to, leads_to, AreLed}
use Rattle.run_door_front.specs.NextSteps.{wires_of, Listing, AsksOne}
use Rattle.run_door_front.proofs.Entries.{one_if, count_cons, count_append, count_set}

-- ---- one door

-- the sum over one door
pub sum_one : (f : ListenerTold → ℕ) (p : ListenerTold) → sum_by f (p ∷ []) ≡ f p
sum_one f p = let all = sum_by-cons f p [] in let none : sum_by f [] ≡ 0 = refl in omega arith

-- the count of one connection
count_one : (p : ClientTold → Bool) (l : ClientTold) → count_by p (l ∷ []) ≡ one_if (p l)
count_one p l = let all = count_cons p l [] in let none : count_by p [] ≡ 0 = refl in omega arith

-- nothing is added
pub plus_none : (n : ℕ) → n ≡ n + 0
plus_none n = omega arith

-- one wire more, where it counts
one_counted : (b : Bool) (m k : ℕ) → m ≡ k + 1 → cond b m 0 ≡ cond b k 0 + one_if b
one_counted true m k e = e
one_counted false m k e = refl

-- none, where none was given
none_counted : (b : Bool) (m : ℕ) → m ≡ 0 → cond b m 0 ≡ 0
none_counted true m e = e
none_counted false m e = refl

-- a door that gave as many wires
to-same : (n : ℕ) (p q : ListenerTold) → q.service ≡ p.service → wires_of q ≡ wires_of p → wires_to n q ≡ wires_to n p
to-same n p q s w = ap₂ (λ k m. cond (nat_eq n k) m 0) s w

-- a door that gave one wire more, to a connection which leads to its service
to-more : (n : ℕ) (p q : ListenerTold) (l : ClientTold) → q.service ≡ p.service → l.service ≡ p.service → wires_of q ≡ wires_of p + 1
    → wires_to n q ≡ wires_to n p + one_if (leads_to n l)
to-more n p q l s t w =
    ap (λ k. cond (nat_eq n k) q.door.wires 0) s ∙ one_counted (nat_eq n p.service) q.door.wires p.door.wires w
    ∙ ap (λ k. wires_to n p + one_if (nat_eq n k)) (sym t)

-- ---- connections that came

-- none came at a door
pub led-still : (n : ℕ) (p q r : ListenerTold) (more : List ClientTold) → r.service ≡ q.service → wires_of r ≡ wires_of q
    → sum_by (wires_to n) (q ∷ []) ≡ sum_by (wires_to n) (p ∷ []) + count_by (leads_to n) more
    → sum_by (wires_to n) (r ∷ []) ≡ sum_by (wires_to n) (p ∷ []) + count_by (leads_to n) more
led-still n p q r more s w e = sum_one (wires_to n) r ∙ to-same n q r s w ∙ sym (sum_one (wires_to n) q) ∙ e

-- one more came at a door
pub led-push : (n : ℕ) (p q r : ListenerTold) (more : List ClientTold) (l : ClientTold) → r.service ≡ q.service → l.service ≡ q.service → wires_of r ≡ wires_of q + 1
    → sum_by (wires_to n) (q ∷ []) ≡ sum_by (wires_to n) (p ∷ []) + count_by (leads_to n) more
    → sum_by (wires_to n) (r ∷ []) ≡ sum_by (wires_to n) (p ∷ []) + count_by (leads_to n) (more ++ l ∷ [])
led-push n p q r more l s t w e =
    add _ _ _ _ _ _ _ _ _ (sum_one (wires_to n) r) (sum_one (wires_to n) q) (to-more n q r l s t w) e
    (count_append (leads_to n) more (l ∷ [])) (count_one (leads_to n) l)
  where
    add : (sr wr sq wq sp c d k o : ℕ) → sr ≡ wr → sq ≡ wq → wr ≡ wq + o → sq ≡ sp + c → d ≡ c + k → k ≡ o → sr ≡ sp + d
    add sr wr sq wq sp c d k o a b f g h i = omega arith

-- some came at some doors, and others at one more
pub led-both : (n : ℕ) (ps qs : List ListenerTold) (p q : ListenerTold) (more others : List ClientTold)
    → sum_by (wires_to n) qs ≡ sum_by (wires_to n) ps + count_by (leads_to n) more
    → sum_by (wires_to n) (q ∷ []) ≡ sum_by (wires_to n) (p ∷ []) + count_by (leads_to n) others
    → sum_by (wires_to n) (qs ++ q ∷ []) ≡ sum_by (wires_to n) (ps ++ p ∷ []) + count_by (leads_to n) (more ++ others)
led-both n ps qs p q more others a b =
    add _ _ _ _ _ _ _ _ _ a b (sum_by-append (wires_to n) ps (p ∷ [])) (sum_by-append (wires_to n) qs (q ∷ []))
    (count_append (leads_to n) more others)
  where
    add : (x y c u v d s t m : ℕ) → y ≡ x + c → v ≡ u + d → s ≡ x + u → t ≡ y + v → m ≡ c + d → t ≡ s + m
    add x y c u v d s t m a b e f g = omega arith

-- more came, as the doors tell
pub led-more : (ps qs : List ListenerTold) (links now more : List ClientTold) → now ≡ links ++ more
    → ((n : ℕ) → sum_by (wires_to n) qs ≡ sum_by (wires_to n) ps + count_by (leads_to n) more) → AreLed ps links → AreLed qs now
led-more ps qs links now more grown new all n =
    new n ∙ ap (λ m. m + count_by (leads_to n) more) (all n) ∙ sym (count_append (leads_to n) links more)
    ∙ sym (ap (count_by (leads_to n)) grown)

-- a connection that changes leads where it led
pub led-set : (ports : List ListenerTold) (links now : List ClientTold) (k : ℕ) (link later : ClientTold) → slice_get links k ≡ Some link
    → later.service ≡ link.service → now ≡ slice_set links k later → AreLed ports links → AreLed ports now
led-set ports links now k link later there same set all n =
    all n
    ∙ sym (ap (count_by (leads_to n)) set ∙ count_set (leads_to n) links k link later there (ap (nat_eq n) same))

-- so does one that was asked for its next request
pub led-asked : (ports : List ListenerTold) (number : ℕ) (body : List ℕ) (before now : Listing) → AsksOne number body before now
    → AreLed ports before.connections → AreLed ports now.connections
led-asked ports number body before now one all =
    led-set ports before.connections now.connections number one.link one.later one.there one.asked.service one.set all

-- ---- before anybody came

-- no door has given a wire
pub led-new : (n : ℕ) (ports : List ListenerTold) → AreNew ports → sum_by (wires_to n) ports ≡ 0
led-new n [] new = refl
led-new n (p ∷ ps) new =
    sum_by-cons (wires_to n) p ps
    ∙ ap₂ (λ m k. m + k) (none_counted (nat_eq n p.service) p.door.wires (ap (λ (t : DoorTold). t.wires) new.0)) (led-new n ps new.1)

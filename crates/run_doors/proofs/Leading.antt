-- How many wires and connections of a run lead to a service.
use Rattle.std.proofs.Common.{◌≡◌, ℕ, ◌+◌, Bool, true, false, ◌&&◌, ◌||◌, Option, List, [], ◌∷◌, cond, map, count_by, nat_eq}
use Rattle.std.proofs.Common.{refl, sym, ap₂, ◌∙◌, true≢false}
use Rattle.std.specs.List.{sum_by, list_any}
use Rattle.outside_doors.specs.Counts.{DoorTold}
use Rattle.std.proofs.lemmas.List.Sums.{sum_by-cons}
use Rattle.run_theorem.specs.Ports.{DoorAt}
use Rattle.run_theorem.specs.RunConnections.{RunConnection}
use Rattle.outside_traits.specs.Told.{WireTold}
use Rattle.run_door_front.specs.Keeping.{ListenerTold, ClientTold, lead_of, is_led, is_of_door, wires_to as port_wires, leads_to as link_leads}
use Rattle.run_door_front.specs.Exchanged.{AreClients}
use Rattle.run_theorem.specs.Used.{wires_to, leads_to, leads_by}
use Rattle.run_doors.specs.Steps.{door_of}

-- ---- doors

-- the service of a door
abbrev pub service_at : DoorAt → ℕ
service_at door = door.service

abbrev pub service_in : ListenerTold → ℕ
service_in port = port.service

-- how many doors had been opened before it
abbrev pub place_in : ListenerTold → ℕ
place_in port = port.door.place

pub same_first : (m n : ℕ) (ms ns : List ℕ) → m ∷ ms ≡ n ∷ ns → m ≡ n
same_first m n ms ns e = cc

pub same_rest : (m n : ℕ) (ms ns : List ℕ) → m ∷ ms ≡ n ∷ ns → ms ≡ ns
same_rest m n ms ns e = cc

-- the wires of the doors that were opened at these places are those of the ports
pub wires_at : (n : ℕ) (places : List DoorAt) (ports : List ListenerTold) → map service_in ports ≡ map service_at places
    → wires_to n places (map door_of ports) ≡ sum_by (port_wires n) ports
wires_at n [] [] e = refl
wires_at n [] (q ∷ qs) e = absurd (let clash : (q.service ∷ map service_in qs) ≡ [] = e in cc)
wires_at n (p ∷ ps) [] e = absurd (let clash : [] ≡ (p.service ∷ map service_at ps) = e in cc)
wires_at n (p ∷ ps) (q ∷ qs) e =
    ap₂ (λ k m. cond (nat_eq n k) q.door.wires 0 + m) (sym (same_first q.service p.service (map service_in qs) (map service_at ps) e))
    (wires_at n ps qs (same_rest q.service p.service (map service_in qs) (map service_at ps) e))
    ∙ sym (sum_by-cons (port_wires n) q qs)

-- and so is to which service each leads
pub leads_at : (places : List DoorAt) (ports : List ListenerTold) → map service_in ports ≡ map service_at places
    → map lead_of ports ≡ leads_by places (map door_of ports)
leads_at [] [] e = refl
leads_at [] (q ∷ qs) e = absurd (let clash : (q.service ∷ map service_in qs) ≡ [] = e in cc)
leads_at (p ∷ ps) [] e = absurd (let clash : [] ≡ (p.service ∷ map service_at ps) = e in cc)
leads_at (p ∷ ps) (q ∷ qs) e =
    let first : q.service ≡ p.service = same_first q.service p.service (map service_in qs) (map service_at ps) e in
    let rest = leads_at ps qs (same_rest q.service p.service (map service_in qs) (map service_at ps) e) in
    λ i. record { place = q.door.place; service = first i } ∷ rest i

-- what came at one of these doors leads to a service of theirs
pub any_led : (door : Option ℕ) (service : ℕ) (places : List DoorAt) (doors : List DoorTold)
    → list_any (is_led door service) (leads_by places doors) ≡ true
    → list_any (λ (p : DoorAt). nat_eq service p.service) places ≡ true
any_led door service [] ds e = e
any_led door service (p ∷ ps) [] e = absurd (true≢false (sym e))
any_led door service (p ∷ ps) (d ∷ ds) e =
    by (is_of_door door d.place) (nat_eq service p.service) (any_led door service ps ds) e
  where
    by : (a b : Bool)
        → (list_any (is_led door service) (leads_by ps ds) ≡ true
        → list_any (λ (p : DoorAt). nat_eq service p.service) ps ≡ true)
        → (a && b) || list_any (is_led door service) (leads_by ps ds) ≡ true
        → b || list_any (λ (p : DoorAt). nat_eq service p.service) ps ≡ true
    by true true rest h = refl
    by false true rest h = refl
    by true false rest h = rest h
    by false false rest h = rest h

-- ---- connections

-- what passed on a connection leads where the connection leads
pub leads_as : (IsMade : WireTold → Type 0) (n : ℕ) (links : List ClientTold) (connections : List RunConnection) → AreClients IsMade links connections
    → count_by (link_leads n) links ≡ count_by (leads_to n) connections
leads_as IsMade n [] [] k = refl
leads_as IsMade n [] (v ∷ vs) k = absurd k
leads_as IsMade n (l ∷ ls) [] k = absurd k
leads_as IsMade n (l ∷ ls) (v ∷ vs) k =
    sum_by-cons (λ x. cond (link_leads n x) 1 0) l ls
    ∙ ap₂ (λ s m. cond (nat_eq n s) 1 0 + m) (sym k.0.service) (leads_as IsMade n ls vs k.1)
    ∙ sym (sum_by-cons (λ x. cond (leads_to n x) 1 0) v vs)

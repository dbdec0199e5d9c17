-- Who comes at a door comes when nobody comes any more at those before it.
use Rattle.std.proofs.Common.{◌≡◌, sym, ap, ap₂, ◌∙◌, arith, ℕ, ◌+◌, ◌-◌, ◌^◌, ◌≤◌, min, true, inl, inr, List, [], ◌∷◌, ◌++◌}
use Rattle.std.specs.List.{list_all}
use Rattle.std.proofs.lemmas.Bool.{and_parts}
use Rattle.outside_traits.specs.Told.{WireTold}
use Rattle.run_door_front.specs.Keeping.{is_led, lead_of, Lead, ListenerTold, ClientTold}
use Rattle.run_door_front.specs.NextSteps.{came_by, GoesOn, IsTried, AllGoOn, AreTried, CameInTurn, AllInTurn, NewInTurn, ClientsGoOn, AreNewLinks, LinksGoOn}
use Rattle.run_door_front.proofs.Doors.{tried-since, nobody-first, nobody-last}
use Rattle.run_door_front.proofs.Links.{door_on}

-- ---- one door more

turn_push : (ps qs : List ListenerTold) (p q : ListenerTold) (l : ClientTold) → CameInTurn ps qs l → CameInTurn (ps ++ p ∷ []) (qs ++ q ∷ []) l
turn_push [] qs p q l t = absurd t
turn_push (x ∷ ps) [] p q l t = absurd t
turn_push (x ∷ ps) (y ∷ qs) p q l (inl here) = inl here
turn_push (x ∷ ps) (y ∷ qs) p q l (inr there) = inr (there.0, turn_push ps qs p q l there.1)

pub turns-push : (ps qs : List ListenerTold) (p q : ListenerTold) (ls : List ClientTold) → AllInTurn ps qs ls → AllInTurn (ps ++ p ∷ []) (qs ++ q ∷ []) ls
turns-push ps qs p q [] t = tt
turns-push ps qs p q (l ∷ ls) t = (turn_push ps qs p q l t.0, turns-push ps qs p q ls t.1)

-- at the last door, when nobody comes any more at the others
turn_last : (ps qs : List ListenerTold) (p q : ListenerTold) (l : ClientTold) → AreTried ps qs → came_by l (lead_of p) ≡ true
    → CameInTurn (ps ++ p ∷ []) (qs ++ q ∷ []) l
turn_last [] [] p q l t came = inl came
turn_last [] (y ∷ qs) p q l t came = absurd t
turn_last (x ∷ ps) [] p q l t came = absurd t
turn_last (x ∷ ps) (y ∷ qs) p q l t came = inr (t.0, turn_last ps qs p q l t.1 came)

pub turns-last : (ps qs : List ListenerTold) (p q : ListenerTold) (ls : List ClientTold) → AreTried ps qs → list_all (λ link. came_by link (lead_of p)) ls ≡ true
    → AllInTurn (ps ++ p ∷ []) (qs ++ q ∷ []) ls
turns-last ps qs p q [] t came = tt
turns-last ps qs p q (l ∷ ls) t came =
    let both = and_parts (came_by l (lead_of p)) (list_all (λ link. came_by link (lead_of p)) ls) came in
    (turn_last ps qs p q l t both.0, turns-last ps qs p q ls t both.1)

pub turns-append : (ps qs : List ListenerTold) (ls ms : List ClientTold) → AllInTurn ps qs ls → AllInTurn ps qs ms → AllInTurn ps qs (ls ++ ms)
turns-append ps qs [] ms t u = u
turns-append ps qs (l ∷ ls) ms t u = (t.0, turns-append ps qs ls ms t.1 u)

-- ---- doors go on

-- with any last value of their type
still_more : (a b c cap : ℕ) → min (a + 1) cap ≤ b → min b cap ≤ c → min (a + 1) cap ≤ c
still_more a b c cap h k = omega arith

tried_on : (p q r : ListenerTold) → GoesOn p q → IsTried p q → GoesOn q r → IsTried p r
tried_on p q r h (inl ended) g = inl (g.ended ended)
tried_on p q r h (inr waited) g = inr (
  still_more p.door.waits q.door.waits r.door.waits (2 ^ 64 - 1) waited.0 g.waits,
  λ n. still_more p.door.waits_in_a_row q.door.waits_in_a_row r.door.waits_in_a_row (2 ^ 64 - 1)
      (waited.1 (nobody-first p q r h.wires g.wires n)) (g.row (nobody-last p q r h.wires g.wires n)),
)

turn_on : (ps qs rs : List ListenerTold) (l : ClientTold) → AllGoOn ps qs → AllGoOn qs rs → CameInTurn ps qs l → CameInTurn ps rs l
turn_on [] qs rs l h g t = absurd t
turn_on (p ∷ ps) [] rs l h g t = absurd t
turn_on (p ∷ ps) (q ∷ qs) [] l h g t = absurd g
turn_on (p ∷ ps) (q ∷ qs) (r ∷ rs) l h g (inl here) = inl here
turn_on (p ∷ ps) (q ∷ qs) (r ∷ rs) l h g (inr there) = inr (tried_on p q r h.0 there.0 g.0, turn_on ps qs rs l h.1 g.1 there.1)

pub turns-on : (ps qs rs : List ListenerTold) (ls : List ClientTold) → AllGoOn ps qs → AllGoOn qs rs → AllInTurn ps qs ls → AllInTurn ps rs ls
turns-on ps qs rs [] h g t = tt
turns-on ps qs rs (l ∷ ls) h g t = (turn_on ps qs rs l h g t.0, turns-on ps qs rs ls h g t.1)

-- a door leads where it led
lead_same : (p q : ListenerTold) → GoesOn p q → lead_of q ≡ lead_of p
lead_same p q g = λ i. record { place = g.place i; service = g.service i }

turn_since : (ps qs rs : List ListenerTold) (l : ClientTold) → AllGoOn ps qs → AllGoOn qs rs → CameInTurn qs rs l → CameInTurn ps rs l
turn_since ps [] rs l g h t = absurd t
turn_since [] (q ∷ qs) rs l g h t = absurd g
turn_since (p ∷ ps) (q ∷ qs) [] l g h t = absurd t
turn_since (p ∷ ps) (q ∷ qs) (r ∷ rs) l g h (inl here) = inl (ap (came_by l) (sym (lead_same p q g.0)) ∙ here)
turn_since (p ∷ ps) (q ∷ qs) (r ∷ rs) l g h (inr there) = inr (tried-since p q r g.0 h.0 there.0, turn_since ps qs rs l g.1 h.1 there.1)

pub turns-since : (ps qs rs : List ListenerTold) (ls : List ClientTold) → AllGoOn ps qs → AllGoOn qs rs → AllInTurn qs rs ls → AllInTurn ps rs ls
turns-since ps qs rs [] g h t = tt
turns-since ps qs rs (l ∷ ls) g h t = (turn_since ps qs rs l g h t.0, turns-since ps qs rs ls g h t.1)

-- ---- those that came

pub news-same : (ps : List ListenerTold) (ls : List ClientTold) → NewInTurn ps ps ls ls
news-same ps [] = tt
news-same ps (l ∷ ls) = news-same ps ls

pub news-doors : (ps qs rs : List ListenerTold) (ls ms : List ClientTold) → AllGoOn ps qs → AllGoOn qs rs → NewInTurn ps qs ls ms → NewInTurn ps rs ls ms
news-doors ps qs rs [] ms h g t = turns-on ps qs rs ms h g t
news-doors ps qs rs (l ∷ ls) [] h g t = absurd t
news-doors ps qs rs (l ∷ ls) (m ∷ ms) h g t = news-doors ps qs rs ls ms h g t

pub news-more : (ps qs : List ListenerTold) (ls ms more : List ClientTold) → NewInTurn ps qs ls ms → AllInTurn ps qs more → NewInTurn ps qs ls (ms ++ more)
news-more ps qs [] ms more t u = turns-append ps qs ms more t u
news-more ps qs (l ∷ ls) [] more t u = absurd t
news-more ps qs (l ∷ ls) (m ∷ ms) more t u = news-more ps qs ls ms more t u

-- a connection by the same door to the same service
turn_client : (ps qs : List ListenerTold) (l m : ClientTold) → m.seen.line.door ≡ l.seen.line.door → m.service ≡ l.service → CameInTurn ps qs l → CameInTurn ps qs m
turn_client [] qs l m door service t = absurd t
turn_client (p ∷ ps) [] l m door service t = absurd t
turn_client (p ∷ ps) (q ∷ qs) l m door service (inl here) = inl (ap₂ (λ d s. is_led d s (lead_of p)) door service ∙ here)
turn_client (p ∷ ps) (q ∷ qs) l m door service (inr there) = inr (there.0, turn_client ps qs l m door service there.1)

module _ (IsMade : WireTold → Type 0) (leads : List Lead) (ps qs : List ListenerTold) where
  turns_clients : (ms ns : List ClientTold) → AreNewLinks IsMade leads ms → ClientsGoOn ms ns → AllInTurn ps qs ms → AllInTurn ps qs ns
  turns_clients [] [] new g t = tt
  turns_clients [] (n ∷ ns) new g t = absurd g
  turns_clients (m ∷ ms) [] new g t = absurd g
  turns_clients (m ∷ ms) (n ∷ ns) new g t =
      (turn_client ps qs m n (door_on IsMade leads m n g.0 new.1) g.0.service t.0, turns_clients ms ns new.2 g.1 t.1)

  pub news-on : (ls ms ns : List ClientTold) → LinksGoOn IsMade leads ls ms → ClientsGoOn ms ns → NewInTurn ps qs ls ms → NewInTurn ps qs ls ns
  news-on [] ms ns new g t = turns_clients ms ns new g t
  news-on (l ∷ ls) [] ns new g t = absurd t
  news-on (l ∷ ls) (m ∷ ms) [] new g t = absurd g
  news-on (l ∷ ls) (m ∷ ms) (n ∷ ns) new g t = news-on ls ms ns new.1 g.1 t

-- Doors as they go on.
use Rattle.std.proofs.Common.{◌≡◌, refl, sym, ap, ap₂, ◌∙◌, subst, arith, ℕ, ◌+◌, ◌-◌, ◌^◌, ◌<◌, ◌≤◌, min, false, inl, inr, List, [], ◌∷◌, ◌++◌, map}
use Rattle.std.specs.List.{sum_by}
use Rattle.std.proofs.lemmas.Bool.{true≢false}
use Rattle.std.proofs.lemmas.List.Sums.{sum_by-cons}
use Rattle.outside_doors.specs.Counts.{DoorTold, added, has_ended}
use Rattle.run_door_front.specs.Keeping.{lead_of, ListenerTold, rests_at, rests_in_a_row_at}
use Rattle.run_door_front.specs.NextSteps.{HasNotFallen, NobodyCame, GoesOn, IsTried, AllGoOn, AreTried, IsTriedInARow, AreTriedInARow, wires_of, service_of, place_of}

-- ---- one door

-- with any last value of their type
pub not_fallen : (a cap : ℕ) → min a cap ≤ a
not_fallen a cap = omega arith

pub fallen_further : (a b c cap : ℕ) → min a cap ≤ b → min b cap ≤ c → min a cap ≤ c
fallen_further a b c cap h k = omega arith

pub one_more : (a b c cap : ℕ) → min a cap ≤ b → min (b + 1) cap ≤ c → min (a + 1) cap ≤ c
one_more a b c cap h k = omega arith

one_added : (a b cap : ℕ) → b ≡ min (a + 1) cap → min a cap ≤ b
one_added a b cap e = omega arith

pub not_fallen-same : (a b : ℕ) → b ≡ a → HasNotFallen a b
not_fallen-same a b e = subst (HasNotFallen a) (sym e) (not_fallen a (2 ^ 64 - 1))

pub not_fallen-added : (a b : ℕ) → b ≡ added a 1 → HasNotFallen a b
not_fallen-added a b e = one_added a b (2 ^ 64 - 1) e

-- nobody came between where nobody came in all
between : (a b c cap : ℕ) → min a cap ≤ b → min b cap ≤ c → c ≡ a → a < cap → b ≡ a
between a b c cap h k e l = omega arith

pub nobody-first : (p q r : ListenerTold) → HasNotFallen p.door.wires q.door.wires → HasNotFallen q.door.wires r.door.wires → NobodyCame p r → NobodyCame p q
nobody-first p q r g h n = (between p.door.wires q.door.wires r.door.wires (2 ^ 64 - 1) g h n.0 n.1, n.1)

pub nobody-last : (p q r : ListenerTold) → HasNotFallen p.door.wires q.door.wires → HasNotFallen q.door.wires r.door.wires → NobodyCame p r → NobodyCame q r
nobody-last p q r g h n =
    let same : q.door.wires ≡ p.door.wires = between p.door.wires q.door.wires r.door.wires (2 ^ 64 - 1) g h n.0 n.1 in
    (n.0 ∙ sym same, subst (λ k. k < 2 ^ 64 - 1) (sym same) n.1)

pub goes-same : (p : ListenerTold) → GoesOn p p
goes-same p = record {
  service = refl;
  place = refl;
  ended = λ e. e;
  untried = λ e. refl;
  wires = not_fallen p.door.wires (2 ^ 64 - 1);
  waits = not_fallen p.door.waits (2 ^ 64 - 1);
  rests = not_fallen p.door.rests (2 ^ 64 - 1);
  row = λ _. not_fallen p.door.waits_in_a_row (2 ^ 64 - 1);
  rests_row = λ _. not_fallen p.door.rests_in_a_row (2 ^ 64 - 1);
}

pub goes-further : (p q r : ListenerTold) → GoesOn p q → GoesOn q r → GoesOn p r
goes-further p q r g h = record {
  service = h.service ∙ g.service;
  place = h.place ∙ g.place;
  ended = λ e. h.ended (g.ended e);
  untried = λ e. h.untried (g.ended e)
      ∙ ap (λ (d : DoorTold). record d { rests = r.door.rests; rests_in_a_row = r.door.rests_in_a_row }) (g.untried e);
  wires = fallen_further p.door.wires q.door.wires r.door.wires (2 ^ 64 - 1) g.wires h.wires;
  waits = fallen_further p.door.waits q.door.waits r.door.waits (2 ^ 64 - 1) g.waits h.waits;
  rests = fallen_further p.door.rests q.door.rests r.door.rests (2 ^ 64 - 1) g.rests h.rests;
  row = λ n. fallen_further p.door.waits_in_a_row q.door.waits_in_a_row r.door.waits_in_a_row (2 ^ 64 - 1)
      (g.row (nobody-first p q r g.wires h.wires n)) (h.row (nobody-last p q r g.wires h.wires n));
  rests_row = λ n. fallen_further p.door.rests_in_a_row q.door.rests_in_a_row r.door.rests_in_a_row (2 ^ 64 - 1)
      (g.rests_row (nobody-first p q r g.wires h.wires n)) (h.rests_row (nobody-last p q r g.wires h.wires n));
}

-- a door that had not ended was tried
pub goes-tried : (told p q : ListenerTold) → told ≡ p → q.service ≡ told.service → q.door.place ≡ told.door.place → has_ended told.door ≡ false
    → HasNotFallen told.door.wires q.door.wires → HasNotFallen told.door.waits q.door.waits → HasNotFallen told.door.rests q.door.rests
    → (NobodyCame told q → HasNotFallen told.door.waits_in_a_row q.door.waits_in_a_row)
    → (NobodyCame told q → HasNotFallen told.door.rests_in_a_row q.door.rests_in_a_row) → GoesOn p q
goes-tried told p q same service place running wires waits rests row rests_row =
    subst (λ x. GoesOn x q) same (record {
      service = service;
      place = place;
      ended = λ e. absurd (true≢false (sym e ∙ running));
      untried = λ e. absurd (true≢false (sym e ∙ running));
      wires = wires;
      waits = waits;
      rests = rests;
      row = row;
      rests_row = rests_row;
    })

-- a door that was tried behind another time is tried since then
pub tried-since : (p q r : ListenerTold) → GoesOn p q → GoesOn q r → IsTried q r → IsTried p r
tried-since p q r g h t = elim t [
  | inl e ↦ inl e
  | inr k ↦ inr (
    one_more p.door.waits q.door.waits r.door.waits (2 ^ 64 - 1) g.waits k.0,
    λ n. one_more p.door.waits_in_a_row q.door.waits_in_a_row r.door.waits_in_a_row (2 ^ 64 - 1)
        (g.row (nobody-first p q r g.wires h.wires n)) (k.1 (nobody-last p q r g.wires h.wires n)),
  )
]

-- ---- all doors

pub all-same : (ps : List ListenerTold) → AllGoOn ps ps
all-same [] = tt
all-same (p ∷ ps) = (goes-same p, all-same ps)

pub all-further : (ps qs rs : List ListenerTold) → AllGoOn ps qs → AllGoOn qs rs → AllGoOn ps rs
all-further [] [] [] g h = tt
all-further [] [] (r ∷ rs) g h = h
all-further [] (q ∷ qs) rs g h = absurd g
all-further (p ∷ ps) [] rs g h = absurd g
all-further (p ∷ ps) (q ∷ qs) [] g h = h
all-further (p ∷ ps) (q ∷ qs) (r ∷ rs) g h = (goes-further p q r g.0 h.0, all-further ps qs rs g.1 h.1)

pub all_tried-since : (ps qs rs : List ListenerTold) → AllGoOn ps qs → AllGoOn qs rs → AreTried qs rs → AreTried ps rs
all_tried-since [] [] [] g k h = tt
all_tried-since [] [] (r ∷ rs) g k h = h
all_tried-since [] (q ∷ qs) rs g k h = absurd g
all_tried-since (p ∷ ps) [] rs g k h = absurd g
all_tried-since (p ∷ ps) (q ∷ qs) [] g k h = h
all_tried-since (p ∷ ps) (q ∷ qs) (r ∷ rs) g k h = (tried-since p q r g.0 k.0 h.0, all_tried-since ps qs rs g.1 k.1 h.1)

-- to which service each leads stays
pub leads-same : (ps qs : List ListenerTold) → AllGoOn ps qs → map lead_of qs ≡ map lead_of ps
leads-same [] [] g = refl
leads-same [] (q ∷ qs) g = absurd g
leads-same (p ∷ ps) [] g = absurd g
leads-same (p ∷ ps) (q ∷ qs) g = λ i. record { place = g.0.place i; service = g.0.service i } ∷ leads-same ps qs g.1 i

-- their services stay
pub services-same : (ps qs : List ListenerTold) → AllGoOn ps qs → map service_of qs ≡ map service_of ps
services-same [] [] g = refl
services-same [] (q ∷ qs) g = absurd g
services-same (p ∷ ps) [] g = absurd g
services-same (p ∷ ps) (q ∷ qs) g = ap₂ (λ n ns. n ∷ ns) g.0.service (services-same ps qs g.1)

-- so do their places
pub places-same : (ps qs : List ListenerTold) → AllGoOn ps qs → map place_of qs ≡ map place_of ps
places-same [] [] g = refl
places-same [] (q ∷ qs) g = absurd g
places-same (p ∷ ps) [] g = absurd g
places-same (p ∷ ps) (q ∷ qs) g = ap₂ (λ n ns. n ∷ ns) g.0.place (places-same ps qs g.1)

-- with any last value of their type
pub sum_not_fallen : (p s q t m n cap : ℕ) → m ≡ p + s → n ≡ q + t → min p cap ≤ q → min s cap ≤ t → min m cap ≤ n
sum_not_fallen p s q t m n cap a b h k = omega arith

-- all of their rests do not fall
pub rests-on : (ps qs : List ListenerTold) → AllGoOn ps qs → HasNotFallen (rests_at ps) (rests_at qs)
rests-on [] [] g = not_fallen (rests_at []) (2 ^ 64 - 1)
rests-on [] (q ∷ qs) g = absurd g
rests-on (p ∷ ps) [] g = absurd g
rests-on (p ∷ ps) (q ∷ qs) g =
    sum_not_fallen p.door.rests (rests_at ps) q.door.rests (rests_at qs) (rests_at (p ∷ ps)) (rests_at (q ∷ qs)) (2 ^ 64 - 1)
    (sum_by-cons (λ (p : ListenerTold). p.door.rests) p ps) (sum_by-cons (λ (p : ListenerTold). p.door.rests) q qs) g.0.rests (rests-on ps qs g.1)

-- ---- where nobody came

-- at none of these doors
abbrev pub AllNobody : List ListenerTold → List ListenerTold → Type 0
AllNobody [] [] = Unit {0}
AllNobody [] (q ∷ qs) = ⊥
AllNobody (p ∷ ps) [] = ⊥
AllNobody (p ∷ ps) (q ∷ qs) = NobodyCame p q × AllNobody ps qs

-- all of their wires do not fall
wires-on : (ps qs : List ListenerTold) → AllGoOn ps qs → HasNotFallen (sum_by wires_of ps) (sum_by wires_of qs)
wires-on [] [] g = not_fallen 0 (2 ^ 64 - 1)
wires-on [] (q ∷ qs) g = absurd g
wires-on (p ∷ ps) [] g = absurd g
wires-on (p ∷ ps) (q ∷ qs) g =
    sum_not_fallen p.door.wires (sum_by wires_of ps) q.door.wires (sum_by wires_of qs) (sum_by wires_of (p ∷ ps)) (sum_by wires_of (q ∷ qs)) (2 ^ 64 - 1)
    (sum_by-cons wires_of p ps) (sum_by-cons wires_of q qs) g.0.wires (wires-on ps qs g.1)

-- two counts whose sum is as it was are as they were
parts_same : (p s q t m n cap : ℕ) → m ≡ p + s → n ≡ q + t → n ≡ m → m < cap → min p cap ≤ q → min s cap ≤ t → (q ≡ p) × (t ≡ s) × (p < cap) × (s < cap)
parts_same p s q t m n cap a b e small h k = (omega arith, omega arith, omega arith, omega arith)

pub all-nobody : (ps qs : List ListenerTold) → AllGoOn ps qs → sum_by wires_of qs ≡ sum_by wires_of ps → sum_by wires_of ps < 2 ^ 64 - 1 → AllNobody ps qs
all-nobody [] [] g e small = tt
all-nobody [] (q ∷ qs) g e small = absurd g
all-nobody (p ∷ ps) [] g e small = absurd g
all-nobody (p ∷ ps) (q ∷ qs) g e small =
    let same = parts_same p.door.wires (sum_by wires_of ps) q.door.wires (sum_by wires_of qs) (sum_by wires_of (p ∷ ps)) (sum_by wires_of (q ∷ qs)) (2 ^ 64 - 1)
    (sum_by-cons wires_of p ps) (sum_by-cons wires_of q qs) e small g.0.wires (wires-on ps qs g.1) in
    ((same.0, same.2), all-nobody ps qs g.1 same.1 same.3)

-- all of their rests in a row do not fall
pub rows-on : (ps qs : List ListenerTold) → AllGoOn ps qs → AllNobody ps qs → HasNotFallen (rests_in_a_row_at ps) (rests_in_a_row_at qs)
rows-on [] [] g n = not_fallen 0 (2 ^ 64 - 1)
rows-on [] (q ∷ qs) g n = absurd g
rows-on (p ∷ ps) [] g n = absurd g
rows-on (p ∷ ps) (q ∷ qs) g n =
    sum_not_fallen p.door.rests_in_a_row (rests_in_a_row_at ps) q.door.rests_in_a_row (rests_in_a_row_at qs)
    (rests_in_a_row_at (p ∷ ps)) (rests_in_a_row_at (q ∷ qs)) (2 ^ 64 - 1)
    (sum_by-cons (λ (p : ListenerTold). p.door.rests_in_a_row) p ps) (sum_by-cons (λ (p : ListenerTold). p.door.rests_in_a_row) q qs)
    (g.0.rests_row n.0) (rows-on ps qs g.1 n.1)

-- each that was tried was tried once more in a row
pub tried-in_a_row : (ps qs : List ListenerTold) → AllNobody ps qs → AreTried ps qs → AreTriedInARow ps qs
tried-in_a_row [] [] n t = tt
tried-in_a_row [] (q ∷ qs) n t = absurd n
tried-in_a_row (p ∷ ps) [] n t = absurd n
tried-in_a_row (p ∷ ps) (q ∷ qs) n t = (one t.0, tried-in_a_row ps qs n.1 t.1)
  where
    one : IsTried p q → IsTriedInARow p q
    one (inl done) = inl done
    one (inr more) = inr (more.0, more.1 n.0)

-- one door more
pub all-push : (ps qs : List ListenerTold) (p q : ListenerTold) → AllGoOn ps qs → GoesOn p q → AllGoOn (ps ++ p ∷ []) (qs ++ q ∷ [])
all-push [] [] p q g h = (h, tt)
all-push [] (y ∷ qs) p q g h = absurd g
all-push (x ∷ ps) [] p q g h = absurd g
all-push (x ∷ ps) (y ∷ qs) p q g h = (g.0, all-push ps qs p q g.1 h)

pub tried-push : (ps qs : List ListenerTold) (p q : ListenerTold) → AreTried ps qs → IsTried p q → AreTried (ps ++ p ∷ []) (qs ++ q ∷ [])
tried-push [] [] p q g h = (h, tt)
tried-push [] (y ∷ qs) p q g h = absurd g
tried-push (x ∷ ps) [] p q g h = absurd g
tried-push (x ∷ ps) (y ∷ qs) p q g h = (g.0, tried-push ps qs p q g.1 h)

-- That the requests of a connection come one by one.
use Rattle.std.proofs.Common.{◌≡◌, refl, sym, ap, ◌∙◌, subst, arith, ℕ, zero, suc, ◌<◌, ◌≤◌, le_refl, Bool, true, false, ◌||◌, inl, inr, List, [], ◌∷◌, ◌++◌, length, length-append, take, Some, slice_get, nat_eq}
use Rattle.std.specs.List.{list_any}
use Rattle.std.proofs.lemmas.Bool.{true≢false}
use Rattle.std.proofs.lemmas.Option.{same_Some, slice_get_within}
use Rattle.std.proofs.lemmas.List.{take_all, length_push}
use Rattle.behaviour_tree.specs.Data.{ProgramParts}
use Rattle.run_theorem.specs.Exchange.{Asked, Told, Sent, Exchange}
use Rattle.run_theorem.specs.Lines.{IsPrefix}
use Rattle.run_theorem.specs.Served.{Requests}
use Rattle.conn_future.specs.declared.stage.Stage.TheVariants as Stages
use Rattle.outside_traits.specs.Told.{WireTold}
use Rattle.run_door_front.specs.Keeping.{Lead, ClientTold, stage_at}
use Rattle.run_door_front.specs.Exchanged.{OwesAt, CameOneByOne, HeardByThen}
use Rattle.run_door_front.proofs.Entries.{get_cases}
use Rattle.run_door_front.proofs.Links.{asks_not_owes, any-left}
use Rattle.run_door_front.proofs.Requests.{Serves, came_some, connection_there}
use Rattle.run_door_front.proofs.OneMore.{link_there}
use Rattle.run_door_front.proofs.Waiting.{told_found}

-- ---- what was told by then

or_keeps : (a b c : Bool) → (b ≡ true → c ≡ true) → a || b ≡ true → a || c ≡ true
or_keeps true b c f h = refl
or_keeps false b c f h = f h

-- what is found among the first stays found where there are more
any_first : (p : Told → Bool) (n : ℕ) (ts more : List Told) → list_any p (take n ts) ≡ true → list_any p (take n (ts ++ more)) ≡ true
any_first p zero ts more h = absurd (true≢false (sym h))
any_first p (suc n) [] more h = absurd (true≢false (sym h))
any_first p (suc n) (t ∷ ts) more h =
    or_keeps (p t) (list_any p (take n ts)) (list_any p (take n (ts ++ more))) (λ k. any_first p n ts more k) h

all_of : (ts : List Told) → take (length ts) ts ≡ ts
all_of ts = take_all (length ts) ts (omega arith)

-- what was heard is among all that was told
pub told_all : (p : Told → Bool) (heard ts : List Told) → IsPrefix heard ts → list_any p heard ≡ true → list_any p (take (length ts) ts) ≡ true
told_all p heard ts f h = ap (list_any p) (all_of ts ∙ sym f.1) ∙ any-left p heard f.0 h

-- each before a request on its connection had been told of when that was asked for
abbrev pub ToldFirst : List Asked → List ℕ → List Told → Type 0
ToldFirst asked seens ts = (i j n : ℕ) (a b : Asked) → slice_get asked i ≡ Some a → slice_get asked j ≡ Some b
    → a.traffic ≡ b.traffic → i < j → slice_get seens j ≡ Some n → list_any (λ (t : Told). nat_eq i t.place) (take n ts) ≡ true

told_first-longer : (asked : List Asked) (seens : List ℕ) (ts more : List Told) → ToldFirst asked seens ts → ToldFirst asked seens (ts ++ more)
told_first-longer asked seens ts more h i j n a b x y same less seen =
    any_first (λ (t : Told). nat_eq i t.place) n ts more (h i j n a b x y same less seen)

-- where more is told
pub one_by_one-longer : (d : Exchange) (sent : Sent) (more : List Told) → sent.told ≡ d.sent.told ++ more → CameOneByOne d
    → CameOneByOne (record { received = d.received; sent = sent })
one_by_one-longer d sent more is o = record {
  counts = o.counts;
  each = subst (ToldFirst d.received.asked d.received.seens) (sym is) (told_first-longer d.received.asked d.received.seens d.sent.told more o.each);
}

-- ---- one request more

-- there is a count of it
pub one_count_more : (asked : List Asked) (seens : List ℕ) (a : Asked) (n : ℕ) → length seens ≡ length asked
    → length (seens ++ n ∷ []) ≡ length (asked ++ a ∷ [])
one_count_more asked seens a n same =
    let one = length_push seens n in
    let two = length_push asked a in
    omega (arith, one, two, same)

pub no_count : (j m n : ℕ) → j < m → n ≡ m → j ≡ n → ⊥
no_count j m n less same is = omega (arith, less, same, is)

pub no_request : (j m n : ℕ) → j < n → n ≡ m → j ≡ m → ⊥
no_request j m n less same is = omega (arith, less, same, is)

not_behind : (i j m : ℕ) → i ≡ m → i < j → j < m → ⊥
not_behind i j m is less inside = omega (arith, is, less, inside)

not_before : (i j m : ℕ) → i ≡ m → i < j → j ≡ m → ⊥
not_before i j m is less here = omega (arith, is, less, here)

-- it was asked for when each before it on its connection had been told of
pub told_first-more : (asked : List Asked) (seens : List ℕ) (ts : List Told) (whose : Asked) → length seens ≡ length asked → ToldFirst asked seens ts
    → ((i : ℕ) (a : Asked) → slice_get asked i ≡ Some a → a.traffic ≡ whose.traffic → list_any (λ (t : Told). nat_eq i t.place) (take (length ts) ts) ≡ true)
    → ToldFirst (asked ++ whose ∷ []) (seens ++ length ts ∷ []) ts
told_first-more asked seens ts whose counts before now i j n a b x y same less seen = elim (get_cases asked whose j b y) [
  | inl old ↦ elim (get_cases seens (length ts) j n seen) [
    | inl count ↦ elim (get_cases asked whose i a x) [
      | inl earlier ↦ before i j n a b earlier old same less count
      | inr itself ↦ absurd (not_behind i j (length asked) itself.0 less (slice_get_within asked j b old))
    ]
    | inr late ↦ absurd (no_count j (length asked) (length seens) (slice_get_within asked j b old) counts late.0)
  ]
  | inr new ↦ elim (get_cases seens (length ts) j n seen) [
    | inl count ↦ absurd (no_request j (length asked) (length seens) (slice_get_within seens j n count) counts new.0)
    | inr late ↦ elim (get_cases asked whose i a x) [
      | inl earlier ↦
          subst (λ m. list_any (λ (t : Told). nat_eq i t.place) (take m ts) ≡ true) late.1
          (now i a earlier (same ∙ sym (ap (λ (c : Asked). c.traffic) new.1)))
      | inr itself ↦ absurd (not_before i j (length asked) itself.0 less new.0)
    ]
  ]
]

-- what had been told by then is heard also with the count of the next, where all that was told was heard
pub heard_by-more : (seens : List ℕ) (heard ts : List Told) → heard ≡ ts → HeardByThen seens heard
    → HeardByThen (seens ++ length ts ∷ []) heard
heard_by-more seens heard ts all before j n seen = elim (get_cases seens (length ts) j n seen) [
  | inl old ↦ before j n old
  | inr last ↦ subst (λ m. m ≤ length heard) (ap (λ (l : List Told). length l) all ∙ last.1) (le_refl (length heard))
]

-- and where more is heard
pub heard_by-longer : (seens : List ℕ) (heard more : List Told) → HeardByThen seens heard → HeardByThen seens (heard ++ more)
heard_by-longer seens heard more before j n seen =
    let less : n ≤ length heard = before j n seen in
    let both = length-append heard more in
    omega (arith, less, both)

-- ---- a connection that asks

module _ (IsMade : WireTold → Type 0) (parts : ProgramParts) (leads : List Lead) (links : List ClientTold) (all : Requests) (heard : List Told)
    (s : Serves IsMade parts leads links all heard) where
  -- was told of each request of it
  pub heard-where_asks : (k : ℕ) (link : ClientTold) → slice_get links k ≡ Some link → stage_at link ≡ Stages.Asks → (i : ℕ) (a : Asked)
      → slice_get all.asked i ≡ Some a → a.traffic ≡ k → list_any (λ (t : Told). nat_eq i t.place) heard ≡ true
  heard-where_asks k link is asking i a there traffic =
      let came = came_some s.connections all.asked all.came s.came i a there in
      let connection = connection_there s.connections all.asked all.came s.came i a there in
      elim (s.answers i a came.0 connection.0 there came.1 connection.1) [
        | inl h ↦ told_found i heard h.told h.there h.place
        | inr w ↦
            let same : w.0.link ≡ link = same_Some w.0.link link (sym w.0.there ∙ ap (slice_get links) traffic ∙ is) in
            let here = link_there IsMade links s.connections a.traffic w.0.link w.0.there s.are in
            let stage : here.0.stage ≡ Stages.Owes = subst (λ o. OwesAt o here.0.stage) w.0.pending here.2.owes in
            absurd (asks_not_owes (stage_at link) asking (ap stage_at (sym same) ∙ sym here.2.stage ∙ stage))
      ]

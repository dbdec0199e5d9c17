-- Doors after a rest.
use Rattle.std.proofs.Common.{◌≡◌, refl, sym, ap, ◌∙◌, arith, ℕ, zero, suc, ◌+◌, ◌-◌, ◌^◌, ◌<◌, ◌≤◌, min, Bool, true, false, cond, ◌&&◌, List, [], ◌∷◌, length, take, set, get_or}
use Rattle.std.specs.List.{list_all, sum_by}
use Rattle.std.proofs.lemmas.Bool.{and_parts, and_from, true≢false}
use Rattle.std.proofs.lemmas.List.{take_all}
use Rattle.std.proofs.lemmas.List.Sums.{sum_by-cons}
use Rattle.outside_doors.specs.Counts.{added, has_ended}
use Rattle.run_door_front.specs.Keeping.{ListenerTold, rests_at, rests_in_a_row_at}
use Rattle.run_door_front.specs.NextSteps.{GoesOn, AllGoOn, AreTried, rested_at, rested_first, rested_open, after_rest}
use Rattle.run_door_front.proofs.Doors.{not_fallen-same, not_fallen-added, goes-same, all-same}

-- a door has ended
abbrev pub is_done : ListenerTold → Bool
is_done port = has_ended port.door

-- ---- they go on

goes_rested : (p : ListenerTold) → GoesOn p (rested_at p)
goes_rested p = record {
  service = refl;
  place = refl;
  ended = λ e. e;
  untried = λ e. refl;
  wires = not_fallen-same p.door.wires p.door.wires refl;
  waits = not_fallen-same p.door.waits p.door.waits refl;
  rests = not_fallen-added p.door.rests (added p.door.rests 1) refl;
  row = λ _. not_fallen-same p.door.waits_in_a_row p.door.waits_in_a_row refl;
  rests_row = λ _. not_fallen-added p.door.rests_in_a_row (added p.door.rests_in_a_row 1) refl;
}

all_rested_open : (ps : List ListenerTold) → AllGoOn ps (rested_open ps)
all_rested_open [] = tt
all_rested_open (p ∷ ps) = at (has_ended p.door) (all_rested_open ps)
  where
    at : (b : Bool) → AllGoOn ps (rested_open ps) → AllGoOn (p ∷ ps) (cond b (p ∷ rested_open ps) (rested_at p ∷ ps))
    at true rest = (goes-same p, rest)
    at false rest = (goes_rested p, all-same ps)

-- those that were tried are
tried_rested_open : (xs ps : List ListenerTold) → AreTried xs ps → AreTried xs (rested_open ps)
tried_rested_open [] [] t = tt
tried_rested_open [] (p ∷ ps) t = absurd t
tried_rested_open (x ∷ xs) [] t = absurd t
tried_rested_open (x ∷ xs) (p ∷ ps) t = at (has_ended p.door) (tried_rested_open xs ps t.1)
  where
    at : (b : Bool) → AreTried xs (rested_open ps) → AreTried (x ∷ xs) (cond b (p ∷ rested_open ps) (rested_at p ∷ ps))
    at true rest = (t.0, rest)
    at false rest = (t.0, t.1)

-- what does not speak of rests stays
sums_rested_open : (f : ListenerTold → ℕ) → ((p : ListenerTold) → f (rested_at p) ≡ f p) → (ps : List ListenerTold) → sum_by f (rested_open ps) ≡ sum_by f ps
sums_rested_open f same [] = refl
sums_rested_open f same (p ∷ ps) = at (has_ended p.door) (sums_rested_open f same ps)
  where
    at : (b : Bool) → sum_by f (rested_open ps) ≡ sum_by f ps → sum_by f (cond b (p ∷ rested_open ps) (rested_at p ∷ ps)) ≡ sum_by f (p ∷ ps)
    at true e = sum_by-cons f p (rested_open ps) ∙ ap (λ n. f p + n) e ∙ sym (sum_by-cons f p ps)
    at false e = sum_by-cons f (rested_at p) ps ∙ ap (λ n. n + sum_by f ps) (same p) ∙ sym (sum_by-cons f p ps)

done_rested_open : (ps : List ListenerTold) → list_all is_done (rested_open ps) ≡ list_all is_done ps
done_rested_open [] = refl
done_rested_open (p ∷ ps) = at (has_ended p.door) (done_rested_open ps)
  where
    at : (b : Bool) → list_all is_done (rested_open ps) ≡ list_all is_done ps
        → list_all is_done (cond b (p ∷ rested_open ps) (rested_at p ∷ ps)) ≡ list_all is_done (p ∷ ps)
    at true e = ap (λ b. is_done p && b) e
    at false e = refl

-- ---- how often was rested

-- with any last value of their type
more_behind : (r s t m n cap : ℕ) → m ≡ r + s → n ≡ r + t → min (s + 1) cap ≤ t → min (m + 1) cap ≤ n
more_behind r s t m n cap a b h = omega arith

more_here : (r s t m n cap : ℕ) → m ≡ r + s → n ≡ t + s → t ≡ min (r + 1) cap → min (m + 1) cap ≤ n
more_here r s t m n cap a b e = omega arith

-- once more, where one has not ended
more_open : (f : ListenerTold → ℕ) → ((p : ListenerTold) → f (rested_at p) ≡ added (f p) 1) → (ps : List ListenerTold) → list_all is_done ps ≡ false
    → added (sum_by f ps) 1 ≤ sum_by f (rested_open ps)
more_open f more [] some = absurd (true≢false some)
more_open f more (p ∷ ps) some = at (has_ended p.door) refl (λ rest. more_open f more ps rest)
  where
    at : (b : Bool) → has_ended p.door ≡ b → (list_all is_done ps ≡ false → added (sum_by f ps) 1 ≤ sum_by f (rested_open ps))
        → added (sum_by f (p ∷ ps)) 1 ≤ sum_by f (cond b (p ∷ rested_open ps) (rested_at p ∷ ps))
    at true is rest =
        more_behind (f p) (sum_by f ps) (sum_by f (rested_open ps)) (sum_by f (p ∷ ps)) (sum_by f (p ∷ rested_open ps)) (2 ^ 64 - 1)
        (sum_by-cons f p ps) (sum_by-cons f p (rested_open ps)) (rest (ap (λ b. b && list_all is_done ps) (sym is) ∙ some))
    at false is rest =
        more_here (f p) (sum_by f ps) (f (rested_at p)) (sum_by f (p ∷ ps)) (sum_by f (rested_at p ∷ ps)) (2 ^ 64 - 1)
        (sum_by-cons f p ps) (sum_by-cons f (rested_at p) ps) (more p)

-- ---- a loop to the first that has not ended

none_inside : (i : ℕ) → i < 0 → ⊥
none_inside i h = omega arith

lower : (i n : ℕ) → suc i < suc n → i < n
lower i n h = omega arith

-- one more has ended
done_next : (ps : List ListenerTold) (i : ℕ) (d : ListenerTold) → i < length ps → list_all is_done (take i ps) ≡ true → is_done (get_or ps i d) ≡ true
    → list_all is_done (take (suc i) ps) ≡ true
done_next [] i d inside all here = absurd (none_inside i inside)
done_next (p ∷ ps) zero d inside all here = and_from (is_done p) true here refl
done_next (p ∷ ps) (suc i) d inside all here =
    let both = and_parts (is_done p) (list_all is_done (take i ps)) all in
    and_from (is_done p) (list_all is_done (take (suc i) ps)) both.0 (done_next ps i d (lower i (length ps) inside) both.1 here)

pub done-next : (ps qs : List ListenerTold) (i : ℕ) (d : ListenerTold) → qs ≡ ps → i < length ps → list_all is_done (take i ps) ≡ true
    → is_done (get_or qs i d) ≡ true → list_all is_done (take (i + 1) ps) ≡ true
done-next ps qs i d same inside all here =
    ap (λ n. list_all is_done (take n ps)) (one i) ∙ done_next ps i d inside all (ap (λ xs. is_done (get_or xs i d)) (sym same) ∙ here)
  where
    one : (i : ℕ) → i + 1 ≡ suc i
    one i = omega arith

-- the first has not
rested_here : (ps : List ListenerTold) (i : ℕ) (d : ListenerTold) → i < length ps → list_all is_done (take i ps) ≡ true → is_done (get_or ps i d) ≡ false
    → set ps i (rested_at (get_or ps i d)) ≡ rested_open ps
rested_here [] i d inside all here = absurd (none_inside i inside)
rested_here (p ∷ ps) zero d inside all here = ap (λ b. cond b (p ∷ rested_open ps) (rested_at p ∷ ps)) (sym here)
rested_here (p ∷ ps) (suc i) d inside all here =
    let both = and_parts (is_done p) (list_all is_done (take i ps)) all in
    ap (λ xs. p ∷ xs) (rested_here ps i d (lower i (length ps) inside) both.1 here)
    ∙ ap (λ b. cond b (p ∷ rested_open ps) (rested_at p ∷ ps)) (sym both.0)

pub rested-here : (ps qs : List ListenerTold) (i : ℕ) (d now : ListenerTold) → qs ≡ ps → i < length ps → list_all is_done (take i ps) ≡ true
    → is_done (get_or qs i d) ≡ false → now ≡ rested_at (get_or qs i d) → set qs i now ≡ rested_open ps
rested-here ps qs i d now same inside all here is =
    ap (set qs i) is ∙ ap (λ xs. set xs i (rested_at (get_or xs i d))) same
    ∙ rested_here ps i d inside all (ap (λ xs. is_done (get_or xs i d)) (sym same) ∙ here)

-- all have
rested_nowhere : (ps : List ListenerTold) → list_all is_done ps ≡ true → ps ≡ rested_open ps
rested_nowhere [] all = refl
rested_nowhere (p ∷ ps) all =
    let both = and_parts (is_done p) (list_all is_done ps) all in
    ap (λ xs. p ∷ xs) (rested_nowhere ps both.1) ∙ ap (λ b. cond b (p ∷ rested_open ps) (rested_at p ∷ ps)) (sym both.0)

pub rested-nowhere : (ps qs : List ListenerTold) (i : ℕ) → qs ≡ ps → length ps ≤ i → list_all is_done (take i ps) ≡ true → qs ≡ rested_open ps
rested-nowhere ps qs i same past all =
    same ∙ rested_nowhere ps (ap (list_all is_done) (sym (take_all i ps past)) ∙ all)

-- ---- at the first that has not ended, or else at the first of all

all_first : (ps : List ListenerTold) → AllGoOn ps (rested_first ps)
all_first [] = tt
all_first (p ∷ ps) = (goes_rested p, all-same ps)

pub all-rested : (ps : List ListenerTold) → AllGoOn ps (after_rest ps)
all-rested ps = at (list_all is_done ps)
  where
    at : (b : Bool) → AllGoOn ps (cond b (rested_first ps) (rested_open ps))
    at true = all_first ps
    at false = all_rested_open ps

tried_first : (xs ps : List ListenerTold) → AreTried xs ps → AreTried xs (rested_first ps)
tried_first [] [] t = tt
tried_first [] (p ∷ ps) t = absurd t
tried_first (x ∷ xs) [] t = absurd t
tried_first (x ∷ xs) (p ∷ ps) t = (t.0, t.1)

pub tried-rested : (xs ps : List ListenerTold) → AreTried xs ps → AreTried xs (after_rest ps)
tried-rested xs ps t = at (list_all is_done ps)
  where
    at : (b : Bool) → AreTried xs (cond b (rested_first ps) (rested_open ps))
    at true = tried_first xs ps t
    at false = tried_rested_open xs ps t

sums_first : (f : ListenerTold → ℕ) → ((p : ListenerTold) → f (rested_at p) ≡ f p) → (ps : List ListenerTold) → sum_by f (rested_first ps) ≡ sum_by f ps
sums_first f same [] = refl
sums_first f same (p ∷ ps) = sum_by-cons f (rested_at p) ps ∙ ap (λ n. n + sum_by f ps) (same p) ∙ sym (sum_by-cons f p ps)

pub sums-rested : (f : ListenerTold → ℕ) → ((p : ListenerTold) → f (rested_at p) ≡ f p) → (ps : List ListenerTold) → sum_by f (after_rest ps) ≡ sum_by f ps
sums-rested f same ps = at (list_all is_done ps)
  where
    at : (b : Bool) → sum_by f (cond b (rested_first ps) (rested_open ps)) ≡ sum_by f ps
    at true = sums_first f same ps
    at false = sums_rested_open f same ps

done_first : (ps : List ListenerTold) → list_all is_done (rested_first ps) ≡ list_all is_done ps
done_first [] = refl
done_first (p ∷ ps) = refl

pub done-rested : (ps : List ListenerTold) → list_all is_done (after_rest ps) ≡ list_all is_done ps
done-rested ps = at (list_all is_done ps)
  where
    at : (b : Bool) → list_all is_done (cond b (rested_first ps) (rested_open ps)) ≡ list_all is_done ps
    at true = done_first ps
    at false = done_rested_open ps

-- once more, where there is a door
more_first : (f : ListenerTold → ℕ) → ((p : ListenerTold) → f (rested_at p) ≡ added (f p) 1) → (ps : List ListenerTold) → 0 < length ps
    → added (sum_by f ps) 1 ≤ sum_by f (rested_first ps)
more_first f more [] some = absurd (none_inside 0 some)
more_first f more (p ∷ ps) some =
    more_here (f p) (sum_by f ps) (f (rested_at p)) (sum_by f (p ∷ ps)) (sum_by f (rested_at p ∷ ps)) (2 ^ 64 - 1)
    (sum_by-cons f p ps) (sum_by-cons f (rested_at p) ps) (more p)

more_rested : (f : ListenerTold → ℕ) → ((p : ListenerTold) → f (rested_at p) ≡ added (f p) 1) → (ps : List ListenerTold) → 0 < length ps
    → added (sum_by f ps) 1 ≤ sum_by f (after_rest ps)
more_rested f more ps some = at (list_all is_done ps) refl
  where
    at : (b : Bool) → list_all is_done ps ≡ b → added (sum_by f ps) 1 ≤ sum_by f (cond b (rested_first ps) (rested_open ps))
    at true is = more_first f more ps some
    at false is = more_open f more ps is

pub rests-rested : (ps : List ListenerTold) → 0 < length ps → added (rests_at ps) 1 ≤ rests_at (after_rest ps)
rests-rested ps some = more_rested (λ (p : ListenerTold). p.door.rests) (λ p. refl) ps some

-- in a row
pub rows-rested : (ps : List ListenerTold) → 0 < length ps → added (rests_in_a_row_at ps) 1 ≤ rests_in_a_row_at (after_rest ps)
rows-rested ps some = more_rested (λ (p : ListenerTold). p.door.rests_in_a_row) (λ p. refl) ps some

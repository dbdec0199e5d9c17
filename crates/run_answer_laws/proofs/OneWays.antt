-- Each one-way branch of a behaviour and of handlers takes an operation that has no answer.
use Rattle.std.proofs.Common.{◌≡◌, ℕ, Bool, true, false, [], ◌∷◌, Some, if◌then◌else◌, nat_eq, nat_cmp, Ordering, Less, Equal, Greater}
use Rattle.std.specs.Ordering.{match_ordering}
use Rattle.std.proofs.lemmas.Bool.{and_parts}
use Rattle.behaviour_tree.specs.declared.behaviour.HandlerKey.{HandlerKey}
use Rattle.behaviour_tree.specs.declared.behaviour.HandlerKey.TheVariants as key
use Rattle.behaviour_tree.specs.Data.{Proc, sequence, parallel, choose, repeat, choice, solicit, install, inner_handler, scope, block, Procs, no_procs, proc, Branches, no_branches, one_way, request, HandlerList, no_handlers, handler}
use Rattle.behaviour_tree.specs.FormedBehaviours.{Reach, are_behaviours, are_branches, are_handlers, are_some, are_two, has_operation, is_behaviour}
use Rattle.session_calculus.specs.Tables.{Entries, Table, entry, filled, filled_all, filled_branches, or_nothing, over, plus, put_over, taken_in, under, with, with_handler, without}

abbrev mutual
  -- each one-way of a behaviour takes an operation without an answer
  pub OneWaysFit : Reach → Proc → Type 0
  OneWaysFit r (sequence ps) = AllFit r ps
  OneWaysFit r (parallel ps) = AllFit r ps
  OneWaysFit r (choose e p q) = OneWaysFit r p × OneWaysFit r q
  OneWaysFit r (repeat e p) = OneWaysFit r p
  OneWaysFit r (choice bs) = BranchesFit r bs
  OneWaysFit r (solicit port op e x list) = HandlersFit r list
  OneWaysFit r (install list) = HandlersFit r list
  OneWaysFit r (scope q p) = OneWaysFit r p
  OneWaysFit r (block p) = OneWaysFit r p
  OneWaysFit r p = Unit {0}

  -- the same of behaviours
  pub AllFit : Reach → Procs → Type 0
  AllFit r no_procs = Unit {0}
  AllFit r (proc p ps) = OneWaysFit r p × AllFit r ps

  -- of branches
  pub BranchesFit : Reach → Branches → Type 0
  BranchesFit r no_branches = Unit {0}
  BranchesFit r (one_way o x p bs) = (has_operation r.inputs o false ≡ true) × OneWaysFit r p × BranchesFit r bs
  BranchesFit r (request o x y body p bs) = OneWaysFit r body × OneWaysFit r p × BranchesFit r bs

  -- and of handlers
  pub HandlersFit : Reach → HandlerList → Type 0
  HandlersFit r no_handlers = Unit {0}
  HandlersFit r (handler k p list) = OneWaysFit r p × HandlersFit r list

-- ---- well-formed behaviours

mutual
  -- each one-way of a well-formed behaviour does
  pub fits_well : (r : Reach) (inside : Bool) (p : Proc) → is_behaviour r inside p ≡ true → OneWaysFit r p
  fits_well r i (sequence ps) h = fits-two r i ps h
  fits_well r i (parallel ps) h = fits-two r i ps h
  fits_well r i (choose e p q) h =
      let both = and_parts _ _ h in
      (fits_well r i p (and_parts _ _ both.0).1, fits_well r i q both.1)
  fits_well r i (repeat e p) h = fits_well r i p (and_parts _ _ h).1
  fits_well r i (choice bs) h = fits-branches r i bs (and_parts _ _ h).1
  fits_well r i (solicit port op e x list) h = fits-handlers r list (and_parts _ _ h).1
  fits_well r i (install list) h = fits-handlers r list (and_parts _ _ h).1
  fits_well r i (scope q p) h = fits_well r i p (and_parts _ _ h).1
  fits_well r i (block p) h = fits_well r i p h
  fits_well r i p h = tt

  -- of two and more
  fits-two : (r : Reach) (inside : Bool) (ps : Procs) → are_two r inside ps ≡ true → AllFit r ps
  fits-two r i no_procs h = tt
  fits-two r i (proc p ps) h = (fits_well r i p (and_parts _ _ h).0, fits-some r i ps (and_parts _ _ h).1)

  -- of one and more
  fits-some : (r : Reach) (inside : Bool) (ps : Procs) → are_some r inside ps ≡ true → AllFit r ps
  fits-some r i no_procs h = tt
  fits-some r i (proc p ps) h = (fits_well r i p (and_parts _ _ h).0, fits-all r i ps (and_parts _ _ h).1)

  -- of any
  fits-all : (r : Reach) (inside : Bool) (ps : Procs) → are_behaviours r inside ps ≡ true → AllFit r ps
  fits-all r i no_procs h = tt
  fits-all r i (proc p ps) h = (fits_well r i p (and_parts _ _ h).0, fits-all r i ps (and_parts _ _ h).1)

  -- of branches
  fits-branches : (r : Reach) (inside : Bool) (bs : Branches) → are_branches r inside bs ≡ true → BranchesFit r bs
  fits-branches r i no_branches h = tt
  fits-branches r i (one_way o x p bs) h =
      let all = and_parts _ _ h in
      let after = and_parts _ _ all.0 in
      ((and_parts _ _ after.0).0, fits_well r i p after.1, fits-branches r i bs all.1)
  fits-branches r i (request o x y body p bs) h =
      let all = and_parts _ _ h in
      let after = and_parts _ _ all.0 in
      let within = and_parts _ _ after.0 in
      (fits_well r i body within.1, fits_well r i p after.1, fits-branches r i bs all.1)

  -- of handlers
  fits-handlers : (r : Reach) (list : HandlerList) → are_handlers r list ≡ true → HandlersFit r list
  fits-handlers r no_handlers h = tt
  fits-handlers r (handler k p list) h =
      let all = and_parts _ _ h in
      let first = and_parts _ _ all.0 in
      (fits_well r true p first.1, fits-handlers r list all.1)

-- ---- handlers

mutual
  -- a handler with another in place of its cH
  fits-filled : (r : Reach) (old p : Proc) → OneWaysFit r old → OneWaysFit r p → OneWaysFit r (filled old p)
  fits-filled r old inner_handler o h = o
  fits-filled r old (sequence ps) o h = fits-filled_all r old ps o h
  fits-filled r old (parallel ps) o h = fits-filled_all r old ps o h
  fits-filled r old (choose e p q) o h = (fits-filled r old p o h.0, fits-filled r old q o h.1)
  fits-filled r old (repeat e p) o h = fits-filled r old p o h
  fits-filled r old (choice bs) o h = fits-filled_branches r old bs o h
  fits-filled r old (scope q p) o h = fits-filled r old p o h
  fits-filled r old (block p) o h = fits-filled r old p o h
  fits-filled r old p o h = h

  -- behaviours
  fits-filled_all : (r : Reach) (old : Proc) (ps : Procs) → OneWaysFit r old → AllFit r ps
      → AllFit r (filled_all old ps)
  fits-filled_all r old no_procs o h = tt
  fits-filled_all r old (proc p ps) o h = (fits-filled r old p o h.0, fits-filled_all r old ps o h.1)

  -- branches
  fits-filled_branches : (r : Reach) (old : Proc) (bs : Branches) → OneWaysFit r old → BranchesFit r bs
      → BranchesFit r (filled_branches old bs)
  fits-filled_branches r old no_branches o h = tt
  fits-filled_branches r old (one_way i x p bs) o h =
      (h.0, fits-filled r old p o h.1, fits-filled_branches r old bs o h.2)
  fits-filled_branches r old (request i x y body p bs) o h =
      (fits-filled r old body o h.0, fits-filled r old p o h.1, fits-filled_branches r old bs o h.2)

-- so does each of some handlers
abbrev pub EntriesFit : Reach → Entries → Type 0
EntriesFit r [] = Unit {0}
EntriesFit r (e ∷ es) = OneWaysFit r e.1 × EntriesFit r es

-- the same of a table
abbrev pub TableFits : Reach → Table → Type 0
TableFits r h = EntriesFit r h.faults × EntriesFit r h.scopes

-- the handler under a name, or nothing
pub fits-entry : (r : Reach) (name : ℕ) (es : Entries) → EntriesFit r es → OneWaysFit r (or_nothing (entry name es))
fits-entry r name [] h = tt
fits-entry r name (e ∷ es) h = go (nat_eq name e.0) (fits-entry r name es h.1)
  where
    go : (b : Bool) → OneWaysFit r (or_nothing (entry name es))
        → OneWaysFit r (or_nothing (if b then Some e.1 else entry name es))
    go true rest = h.0
    go false rest = rest

-- with one of a name
fits-with : (r : Reach) (name : ℕ) (p : Proc) (es : Entries) → OneWaysFit r p → EntriesFit r es
    → EntriesFit r (with name p es)
fits-with r name p [] n h = (n, tt)
fits-with r name p (e ∷ es) n h = go (nat_cmp name e.0) (fits-with r name p es n h.1)
  where
    go : (o : Ordering) → EntriesFit r (with name p es)
        → EntriesFit r (match_ordering o ((name, p) ∷ e ∷ es) ((e.0, p) ∷ es) (e ∷ with name p es))
    go Less rest = (n, h)
    go Equal rest = (n, h.1)
    go Greater rest = (h.0, rest)

-- without that of a name
pub fits-without : (r : Reach) (name : ℕ) (es : Entries) → EntriesFit r es → EntriesFit r (without name es)
fits-without r name [] h = tt
fits-without r name (e ∷ es) h = go (nat_eq name e.0) (fits-without r name es h.1)
  where
    go : (b : Bool) → EntriesFit r (without name es)
        → EntriesFit r (if b then without name es else e ∷ without name es)
    go true rest = rest
    go false rest = (h.0, rest)

-- those of a scope that ended, over others
pub fits-over : (r : Reach) (es more : Entries) → EntriesFit r es → EntriesFit r more → EntriesFit r (over es more)
fits-over r [] more h k = k
fits-over r (e ∷ es) more h k = fits-with r e.0 e.1 (over es more) h.0 (fits-over r es more h.1 k)

-- what a table has under a key
fits-under : (r : Reach) (q : ℕ) (k : HandlerKey) (h : Table) → TableFits r h → OneWaysFit r (or_nothing (under q k h))
fits-under r q key.This h n = fits-entry r q h.scopes n.1
fits-under r q (key.Fault f) h n = fits-entry r f h.faults n.0
fits-under r q (key.Scope s) h n = fits-entry r s h.scopes n.1

-- a table with a handler more
fits-with_handler : (r : Reach) (q : ℕ) (k : HandlerKey) (p : Proc) (h : Table) → OneWaysFit r p → TableFits r h
    → TableFits r (with_handler q k p h)
fits-with_handler r q key.This p h w n = (n.0, fits-with r q p h.scopes w n.1)
fits-with_handler r q (key.Fault f) p h w n = (fits-with r f p h.faults w n.0, n.1)
fits-with_handler r q (key.Scope s) p h w n = (n.0, fits-with r s p h.scopes w n.1)

fits-put_over : (r : Reach) (q : ℕ) (h : Table) (list : HandlerList) (new : Table) → TableFits r h
    → HandlersFit r list
    → TableFits r new
    → TableFits r (put_over q h list new)
fits-put_over r q h no_handlers new n l w = w
fits-put_over r q h (handler k p list) new n l w =
    fits-put_over r q h list (with_handler q k (taken_in q h k p) new) n l.1
    (fits-with_handler r q k (taken_in q h k p) new
    (fits-filled r (or_nothing (under q k h)) p (fits-under r q k h n) l.0) w)

-- a table with further handlers
pub fits-plus : (r : Reach) (q : ℕ) (h : Table) (list : HandlerList) → TableFits r h → HandlersFit r list
    → TableFits r (plus q h list)
fits-plus r q h list n l = fits-put_over r q h list h n l n

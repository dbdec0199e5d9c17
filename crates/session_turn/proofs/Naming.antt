-- What behaviours and handlers name is there: each variable that is bound, and an answer of each operation that is taken
-- as a request.
use Rattle.std.proofs.Common.{◌≡◌, ℕ, Bool, true, false, [], ◌∷◌, Some, if◌then◌else◌, nat_eq, nat_lt, nat_cmp, Ordering, Less, Equal, Greater}
use Rattle.std.specs.Ordering.{match_ordering}
use Rattle.std.proofs.lemmas.Bool.{and_parts}
use Rattle.behaviour_tree.specs.declared.behaviour.HandlerKey.{HandlerKey}
use Rattle.behaviour_tree.specs.declared.behaviour.HandlerKey.TheVariants as key
use Rattle.behaviour_tree.specs.Data.{Proc, bind, sequence, parallel, choose, repeat, choice, solicit, install, inner_handler, scope, block, Procs, no_procs, proc, Branches, no_branches, one_way, request, HandlerList, no_handlers, handler}
use Rattle.behaviour_tree.specs.FormedBehaviours.{Reach, are_behaviours, are_branches, are_handlers, are_some, are_two, has_operation, is_behaviour, is_key}
use Rattle.session_calculus.specs.Tables.{Entries, Table, entry, filled, filled_all, filled_branches, or_nothing, over, plus, put_over, taken_in, under, with, with_handler, without}

abbrev mutual
  -- what a behaviour names is there
  pub NamesWell : Reach → Proc → Type 0
  NamesWell r (bind v e) = nat_lt v r.variables ≡ true
  NamesWell r (sequence ps) = AllNameWell r ps
  NamesWell r (parallel ps) = AllNameWell r ps
  NamesWell r (choose e p q) = NamesWell r p × NamesWell r q
  NamesWell r (repeat e p) = NamesWell r p
  NamesWell r (choice bs) = BranchesNameWell r bs
  NamesWell r (solicit port op e x list) = HandlersNameWell r list
  NamesWell r (install list) = HandlersNameWell r list
  NamesWell r (scope q p) = NamesWell r p
  NamesWell r (block p) = NamesWell r p
  NamesWell r p = Unit {0}

  -- the same of behaviours
  pub AllNameWell : Reach → Procs → Type 0
  AllNameWell r no_procs = Unit {0}
  AllNameWell r (proc p ps) = NamesWell r p × AllNameWell r ps

  -- of branches
  pub BranchesNameWell : Reach → Branches → Type 0
  BranchesNameWell r no_branches = Unit {0}
  BranchesNameWell r (one_way o x p bs) = NamesWell r p × BranchesNameWell r bs
  BranchesNameWell r (request o x y body p bs) =
      (has_operation r.inputs o true ≡ true) × NamesWell r body × NamesWell r p × BranchesNameWell r bs

  -- and of handlers, whose keys a text may have
  pub HandlersNameWell : Reach → HandlerList → Type 0
  HandlersNameWell r no_handlers = Unit {0}
  HandlersNameWell r (handler k p list) = (is_key r.names k ≡ true) × NamesWell r p × HandlersNameWell r list

-- ---- well-formed behaviours

mutual
  -- what a well-formed behaviour names is there
  pub names_well : (r : Reach) (inside : Bool) (p : Proc) → is_behaviour r inside p ≡ true → NamesWell r p
  names_well r i (bind v e) h = (and_parts _ _ h).0
  names_well r i (sequence ps) h = names-two r i ps h
  names_well r i (parallel ps) h = names-two r i ps h
  names_well r i (choose e p q) h =
      let both = and_parts _ _ h in
      (names_well r i p (and_parts _ _ both.0).1, names_well r i q both.1)
  names_well r i (repeat e p) h = names_well r i p (and_parts _ _ h).1
  names_well r i (choice bs) h = names-branches r i bs (and_parts _ _ h).1
  names_well r i (solicit port op e x list) h = names-handlers r list (and_parts _ _ h).1
  names_well r i (install list) h = names-handlers r list (and_parts _ _ h).1
  names_well r i (scope q p) h = names_well r i p (and_parts _ _ h).1
  names_well r i (block p) h = names_well r i p h
  names_well r i p h = tt

  -- of two and more
  names-two : (r : Reach) (inside : Bool) (ps : Procs) → are_two r inside ps ≡ true → AllNameWell r ps
  names-two r i no_procs h = tt
  names-two r i (proc p ps) h = (names_well r i p (and_parts _ _ h).0, names-some r i ps (and_parts _ _ h).1)

  -- of one and more
  names-some : (r : Reach) (inside : Bool) (ps : Procs) → are_some r inside ps ≡ true → AllNameWell r ps
  names-some r i no_procs h = tt
  names-some r i (proc p ps) h = (names_well r i p (and_parts _ _ h).0, names-all r i ps (and_parts _ _ h).1)

  -- of any
  names-all : (r : Reach) (inside : Bool) (ps : Procs) → are_behaviours r inside ps ≡ true → AllNameWell r ps
  names-all r i no_procs h = tt
  names-all r i (proc p ps) h = (names_well r i p (and_parts _ _ h).0, names-all r i ps (and_parts _ _ h).1)

  -- of branches
  names-branches : (r : Reach) (inside : Bool) (bs : Branches) → are_branches r inside bs ≡ true → BranchesNameWell r bs
  names-branches r i no_branches h = tt
  names-branches r i (one_way o x p bs) h =
      let all = and_parts _ _ h in
      (names_well r i p (and_parts _ _ all.0).1, names-branches r i bs all.1)
  names-branches r i (request o x y body p bs) h =
      let all = and_parts _ _ h in
      let after = and_parts _ _ all.0 in
      let within = and_parts _ _ after.0 in
      let paths = and_parts _ _ within.0 in (
        (and_parts _ _ paths.0).0,
        names_well r i body within.1,
        names_well r i p after.1,
        names-branches r i bs all.1,
      )

  -- of handlers
  names-handlers : (r : Reach) (list : HandlerList) → are_handlers r list ≡ true → HandlersNameWell r list
  names-handlers r no_handlers h = tt
  names-handlers r (handler k p list) h =
      let all = and_parts _ _ h in
      let first = and_parts _ _ all.0 in
      (first.0, names_well r true p first.1, names-handlers r list all.1)

-- ---- handlers

mutual
  -- a handler with another in place of its cH
  names-filled : (r : Reach) (old p : Proc) → NamesWell r old → NamesWell r p → NamesWell r (filled old p)
  names-filled r old inner_handler o h = o
  names-filled r old (sequence ps) o h = names-filled_all r old ps o h
  names-filled r old (parallel ps) o h = names-filled_all r old ps o h
  names-filled r old (choose e p q) o h = (names-filled r old p o h.0, names-filled r old q o h.1)
  names-filled r old (repeat e p) o h = names-filled r old p o h
  names-filled r old (choice bs) o h = names-filled_branches r old bs o h
  names-filled r old (scope q p) o h = names-filled r old p o h
  names-filled r old (block p) o h = names-filled r old p o h
  names-filled r old p o h = h

  -- behaviours
  names-filled_all : (r : Reach) (old : Proc) (ps : Procs) → NamesWell r old → AllNameWell r ps
      → AllNameWell r (filled_all old ps)
  names-filled_all r old no_procs o h = tt
  names-filled_all r old (proc p ps) o h = (names-filled r old p o h.0, names-filled_all r old ps o h.1)

  -- branches
  names-filled_branches : (r : Reach) (old : Proc) (bs : Branches) → NamesWell r old → BranchesNameWell r bs
      → BranchesNameWell r (filled_branches old bs)
  names-filled_branches r old no_branches o h = tt
  names-filled_branches r old (one_way i x p bs) o h =
      (names-filled r old p o h.0, names-filled_branches r old bs o h.1)
  names-filled_branches r old (request i x y body p bs) o h = (
    h.0,
    names-filled r old body o h.1,
    names-filled r old p o h.2,
    names-filled_branches r old bs o h.3,
  )

-- what each of some handlers names is there
abbrev pub EntriesName : Reach → Entries → Type 0
EntriesName r [] = Unit {0}
EntriesName r (e ∷ es) = NamesWell r e.1 × EntriesName r es

-- the same of a table
abbrev pub TableNames : Reach → Table → Type 0
TableNames r h = EntriesName r h.faults × EntriesName r h.scopes

-- the handler under a name, or nothing
pub names-entry : (r : Reach) (name : ℕ) (es : Entries) → EntriesName r es → NamesWell r (or_nothing (entry name es))
names-entry r name [] h = tt
names-entry r name (e ∷ es) h = go (nat_eq name e.0) (names-entry r name es h.1)
  where
    go : (b : Bool) → NamesWell r (or_nothing (entry name es))
        → NamesWell r (or_nothing (if b then Some e.1 else entry name es))
    go true rest = h.0
    go false rest = rest

-- with one of a name
names-with : (r : Reach) (name : ℕ) (p : Proc) (es : Entries) → NamesWell r p → EntriesName r es
    → EntriesName r (with name p es)
names-with r name p [] n h = (n, tt)
names-with r name p (e ∷ es) n h = go (nat_cmp name e.0) (names-with r name p es n h.1)
  where
    go : (o : Ordering) → EntriesName r (with name p es)
        → EntriesName r (match_ordering o ((name, p) ∷ e ∷ es) ((e.0, p) ∷ es) (e ∷ with name p es))
    go Less rest = (n, h)
    go Equal rest = (n, h.1)
    go Greater rest = (h.0, rest)

-- without that of a name
pub names-without : (r : Reach) (name : ℕ) (es : Entries) → EntriesName r es → EntriesName r (without name es)
names-without r name [] h = tt
names-without r name (e ∷ es) h = go (nat_eq name e.0) (names-without r name es h.1)
  where
    go : (b : Bool) → EntriesName r (without name es)
        → EntriesName r (if b then without name es else e ∷ without name es)
    go true rest = rest
    go false rest = (h.0, rest)

-- those of a scope that ended, over others
pub names-over : (r : Reach) (es more : Entries) → EntriesName r es → EntriesName r more → EntriesName r (over es more)
names-over r [] more h k = k
names-over r (e ∷ es) more h k = names-with r e.0 e.1 (over es more) h.0 (names-over r es more h.1 k)

-- what a table has under a key
names-under : (r : Reach) (q : ℕ) (k : HandlerKey) (h : Table) → TableNames r h → NamesWell r (or_nothing (under q k h))
names-under r q key.This h n = names-entry r q h.scopes n.1
names-under r q (key.Fault f) h n = names-entry r f h.faults n.0
names-under r q (key.Scope s) h n = names-entry r s h.scopes n.1

-- a table with a handler more
names-with_handler : (r : Reach) (q : ℕ) (k : HandlerKey) (p : Proc) (h : Table) → NamesWell r p → TableNames r h
    → TableNames r (with_handler q k p h)
names-with_handler r q key.This p h w n = (n.0, names-with r q p h.scopes w n.1)
names-with_handler r q (key.Fault f) p h w n = (names-with r f p h.faults w n.0, n.1)
names-with_handler r q (key.Scope s) p h w n = (n.0, names-with r s p h.scopes w n.1)

names-put_over : (r : Reach) (q : ℕ) (h : Table) (list : HandlerList) (new : Table) → TableNames r h
    → HandlersNameWell r list
    → TableNames r new
    → TableNames r (put_over q h list new)
names-put_over r q h no_handlers new n l w = w
names-put_over r q h (handler k p list) new n l w =
    names-put_over r q h list (with_handler q k (taken_in q h k p) new) n l.2
    (names-with_handler r q k (taken_in q h k p) new
    (names-filled r (or_nothing (under q k h)) p (names-under r q k h n) l.1) w)

-- a table with further handlers
pub names-plus : (r : Reach) (q : ℕ) (h : Table) (list : HandlerList) → TableNames r h → HandlersNameWell r list
    → TableNames r (plus q h list)
names-plus r q h list n l = names-put_over r q h list h n l n

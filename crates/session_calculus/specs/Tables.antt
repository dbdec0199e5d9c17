-- The handlers that are installed in a scope: two finite maps to behaviours, from faults and from scopes; and what
-- installing, spending and ending a scope make of them.
use Rattle.std.specs.Prelude.{ℕ, ◌+◌, suc, Bool, true, ◌&&◌, nat_le, nat_eq, max}
use Rattle.std.specs.Prelude.{List, [], ◌∷◌, Option, None, Some, unwrap_or, if◌then◌else◌}
use Rattle.std.specs.Ordering.{nat_cmp}
use Rattle.std.specs.BTreeMap.{insert_entry}
use Rattle.behaviour_tree.specs.declared.behaviour.HandlerKey.{HandlerKey}
use Rattle.behaviour_tree.specs.declared.behaviour.HandlerKey.TheVariants as key
use Rattle.behaviour_tree.specs.Data.{Proc, Procs, no_procs, proc, Branches, no_branches, one_way, request}
use Rattle.behaviour_tree.specs.Data.{HandlerList, no_handlers, handler, nothing, sequence, parallel}
use Rattle.behaviour_tree.specs.Data.{choose, repeat, choice, solicit, install, inner_handler, scope, block}

-- behaviours by the number of a name, in rising order of the numbers
abbrev pub Entries : Type 0
Entries = List (ℕ × Proc)

-- the entry of a name
abbrev pub entry : ℕ → Entries → Option Proc
entry name [] = None
entry name (e ∷ es) = if nat_eq name e.0 then Some e.1 else entry name es

-- the entries with one of a name; what stood under the name before gives way
abbrev pub with : ℕ → Proc → Entries → Entries
with name p es = insert_entry nat_cmp es name p

-- the entries without that of a name
abbrev pub without : ℕ → Entries → Entries
without name [] = []
without name (e ∷ es) = if nat_eq name e.0 then without name es else e ∷ without name es

-- the first entries over the second
abbrev pub over : Entries → Entries → Entries
over [] es = es
over (e ∷ more) es = with e.0 e.1 (over more es)

-- the handlers of a scope, under the names of faults and under the names of scopes
pub record Table : Type 0 where
  pub faults : Entries
  pub scopes : Entries

-- a table without a handler
abbrev pub empty : Table
empty = record { faults = []; scopes = [] }

-- a behaviour that may be missing: nothing runs in its place
abbrev pub or_nothing : Option Proc → Proc
or_nothing p = unwrap_or p nothing

-- ---- keys

-- what a table of scope q has under a key: `this` is the scope's own name
abbrev pub under : ℕ → HandlerKey → Table → Option Proc
under q key.This h = entry q h.scopes
under q (key.Fault f) h = entry f h.faults
under q (key.Scope r) h = entry r h.scopes

-- a table of scope q with a behaviour under a key
abbrev pub with_handler : ℕ → HandlerKey → Proc → Table → Table
with_handler q key.This p h = record h { scopes = with q p h.scopes }
with_handler q (key.Fault f) p h = record h { faults = with f p h.faults }
with_handler q (key.Scope r) p h = record h { scopes = with r p h.scopes }

-- ---- cH

abbrev mutual
  -- a handler with `old` in place of each cH outside its own inner handler lists
  pub filled : Proc → Proc → Proc
  filled old inner_handler = old
  filled old (sequence ps) = sequence (filled_all old ps)
  filled old (parallel ps) = parallel (filled_all old ps)
  filled old (choose e p q) = choose e (filled old p) (filled old q)
  filled old (repeat e p) = repeat e (filled old p)
  filled old (choice bs) = choice (filled_branches old bs)
  filled old (scope q p) = scope q (filled old p)
  filled old (block p) = block (filled old p)
  filled old p = p

  -- the same of behaviours in order
  pub filled_all : Proc → Procs → Procs
  filled_all old no_procs = no_procs
  filled_all old (proc p ps) = proc (filled old p) (filled_all old ps)

  -- the same of branches
  pub filled_branches : Proc → Branches → Branches
  filled_branches old no_branches = no_branches
  filled_branches old (one_way o x p bs) = one_way o x (filled old p) (filled_branches old bs)
  filled_branches old (request o x y body p bs) =
      request o x y (filled old body) (filled old p) (filled_branches old bs)

-- a handler under a key as the table h of scope q takes it: cH is the handler that h has under that key, or nothing
abbrev pub taken_in : ℕ → Table → HandlerKey → Proc → Proc
taken_in q h k p = filled (or_nothing (under q k h)) p

-- ---- H + K

-- handlers over a table of scope q, cH being what the table h has
abbrev pub put_over : ℕ → Table → HandlerList → Table → Table
put_over q h no_handlers new = new
put_over q h (handler k p rest) new = put_over q h rest (with_handler q k (taken_in q h k p) new)

-- the table of scope q with further handlers
abbrev pub plus : ℕ → Table → HandlerList → Table
plus q h list = put_over q h list h

-- ---- how large a handler is

abbrev mutual
  -- the extent of a behaviour: one more than that of its parts, inner handlers included; `join` takes two as one
  pub extent : (ℕ → ℕ → ℕ) → Proc → ℕ
  extent join (sequence ps) = suc (extent_of join ps)
  extent join (parallel ps) = suc (extent_of join ps)
  extent join (choose e p q) = suc (join (extent join p) (extent join q))
  extent join (repeat e p) = suc (extent join p)
  extent join (choice bs) = suc (extent_of_branches join bs)
  extent join (solicit port op e x list) = suc (extent_of_handlers join list)
  extent join (install list) = suc (extent_of_handlers join list)
  extent join (scope q p) = suc (extent join p)
  extent join (block p) = suc (extent join p)
  extent join p = 1

  -- that of behaviours
  pub extent_of : (ℕ → ℕ → ℕ) → Procs → ℕ
  extent_of join no_procs = 0
  extent_of join (proc p ps) = join (extent join p) (extent_of join ps)

  -- that of branches
  pub extent_of_branches : (ℕ → ℕ → ℕ) → Branches → ℕ
  extent_of_branches join no_branches = 0
  extent_of_branches join (one_way o x p bs) = join (extent join p) (extent_of_branches join bs)
  extent_of_branches join (request o x y body p bs) =
      join (join (extent join body) (extent join p)) (extent_of_branches join bs)

  -- that of handlers
  pub extent_of_handlers : (ℕ → ℕ → ℕ) → HandlerList → ℕ
  extent_of_handlers join no_handlers = 0
  extent_of_handlers join (handler k p list) = join (extent join p) (extent_of_handlers join list)

-- the forms of a behaviour: those of its parts add up
abbrev pub forms : Proc → ℕ
forms p = extent ◌+◌ p

-- the levels of a behaviour: those of its deepest part count
abbrev pub levels : Proc → ℕ
levels p = extent max p

-- the most forms of a handler
abbrev pub most_forms : ℕ
most_forms = 65536

-- the most levels of a handler
abbrev pub most_levels : ℕ
most_levels = 64

-- a behaviour within both limits
abbrev pub is_handler : Proc → Bool
is_handler p = nat_le (forms p) most_forms && nat_le (levels p) most_levels

-- the handlers fit the table h of scope q: each is within the limits as h takes it
abbrev pub fits : ℕ → Table → HandlerList → Bool
fits q h no_handlers = true
fits q h (handler k p list) = is_handler (taken_in q h k p) && fits q h list

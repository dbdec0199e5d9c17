-- These definitions serve the proofs alone: no promise speaks of them.
-- How large a behaviour is, as far as 32 bits hold it.
use Rattle.std.specs.Prelude.{ℕ, ◌+◌, ◌-◌, ◌^◌, min, max}
use Rattle.behaviour_tree.specs.Data.{Proc, Procs, Branches, HandlerList}
use Rattle.session_calculus.specs.Tables.{extent_of, extent_of_branches, extent_of_handlers, forms, levels}
use Rattle.handler_table.specs.declared.size.Size.{Size}

-- a number as far as 32 bits hold it
abbrev pub saturated : ℕ → ℕ
saturated n = min n (2 ^ 32 - 1)

-- so many forms and levels
abbrev pub sized : ℕ → ℕ → Size
sized m n = record { forms = saturated m; levels = saturated n }

-- the size of a behaviour
abbrev pub size_of : Proc → Size
size_of p = sized (forms p) (levels p)

-- the forms of behaviours in order
abbrev pub forms_of : Procs → ℕ
forms_of ps = extent_of ◌+◌ ps

-- their levels
abbrev pub levels_of : Procs → ℕ
levels_of ps = extent_of max ps

-- their size
abbrev pub size_of_all : Procs → Size
size_of_all ps = sized (forms_of ps) (levels_of ps)

-- the forms of branches
abbrev pub forms_of_branches : Branches → ℕ
forms_of_branches bs = extent_of_branches ◌+◌ bs

-- their levels
abbrev pub levels_of_branches : Branches → ℕ
levels_of_branches bs = extent_of_branches max bs

-- their size
abbrev pub size_of_branches : Branches → Size
size_of_branches bs = sized (forms_of_branches bs) (levels_of_branches bs)

-- the forms of handlers
abbrev pub forms_of_handlers : HandlerList → ℕ
forms_of_handlers hs = extent_of_handlers ◌+◌ hs

-- their levels
abbrev pub levels_of_handlers : HandlerList → ℕ
levels_of_handlers hs = extent_of_handlers max hs

-- their size
abbrev pub size_of_handlers : HandlerList → Size
size_of_handlers hs = sized (forms_of_handlers hs) (levels_of_handlers hs)

-- two sizes beside each other
abbrev pub beside : Size → Size → Size
beside a b = record { forms = saturated (a.forms + b.forms); levels = max a.levels b.levels }

-- the size of a form around parts of a size
abbrev pub around : Size → Size
around a = record { forms = saturated (a.forms + 1); levels = saturated (a.levels + 1) }

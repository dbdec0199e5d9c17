-- These definitions serve the proofs alone: no promise speaks of them.
-- Parts of behaviours with a handler in place of each cH, and handlers as a table takes them.
use Rattle.std.specs.Prelude.{ℕ, List, [], ◌∷◌, Option, option_map}
use Rattle.std.specs.Option.{option_copied}
use Rattle.std.specs.Borrow.{Bor}
use Rattle.behaviour_tree.specs.declared.behaviour.Behaviour.{Behaviour}
use Rattle.behaviour_tree.specs.Data.{Proc}
use Rattle.behaviour_tree.specs.View.{behaviour_view, BranchView, HandlerView, ReplyView}
use Rattle.session_calculus.specs.Tables.{Table, filled, or_nothing, taken_in, with_handler}

-- what stands in place of cH: a behaviour, or nothing
abbrev pub former_of : Option (Bor Behaviour) → Proc
former_of o = or_nothing (option_map behaviour_view (option_copied o))

-- a reply with `old` in place of each cH
abbrev pub filled_reply : Proc → ReplyView → ReplyView
filled_reply old r = record { path = r.path; body = filled old r.body }

-- the same of a branch
abbrev pub filled_branch : Proc → BranchView → BranchView
filled_branch old b =
    record { op = b.op; target = b.target; reply = option_map (filled_reply old) b.reply; after = filled old b.after }

-- a handler as the table h of scope q takes it
abbrev pub taken : ℕ → Table → HandlerView → HandlerView
taken q h v = record { key = v.key; body = taken_in q h v.key v.body }

-- the table of scope q with one handler after the other
abbrev pub with_all : ℕ → List HandlerView → Table → Table
with_all q [] h = h
with_all q (v ∷ vs) h = with_all q vs (with_handler q v.key v.body h)

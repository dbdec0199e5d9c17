-- What stands around a form: layers from outside inward.
use Rattle.std.specs.Prelude.{ℕ, Bool, true, false, ◌&&◌, List, [], ◌∷◌, Option}
use Rattle.behaviour_tree.specs.Data.{PathTree, Procs}
use Rattle.session_calculus.specs.Tables.{Table}
use Rattle.session_calculus.specs.Terms.{Fault, Term, in_scope, exec, fail, State, seq_of, prot_of}

-- a form around another one, without that
pub data Layer : Type 0 where
  -- the rests after a head
  rests : Procs → Layer
  -- a scope around its body
  scoped : ℕ → Table → State → Layer
  -- a request around its body
  asked : ℕ → ℕ → Option PathTree → Layer
  -- a failed request around what goes on once its fault is told
  failed : ℕ → Fault → Layer
  -- what no fault ends any more
  kept : Layer

-- a layer around a form. A head without rests is the head, and what no fault ends is said so once
abbrev pub around_of : Layer → Term → Term
around_of (rests ps) t = seq_of t ps
around_of (scoped q h u) t = in_scope q t h u
around_of (asked m o y) t = exec m o y t
around_of (failed m f) t = fail m f t
around_of kept t = prot_of t

-- layers around a form
abbrev pub plug : List Layer → Term → Term
plug [] t = t
plug (l ∷ ls) t = around_of l (plug ls t)

-- in a layer of this kind a form may act: all but a failed request
abbrev pub is_open : Layer → Bool
is_open (failed m f) = false
is_open l = true

-- each layer
abbrev pub are_open : List Layer → Bool
are_open [] = true
are_open (l ∷ ls) = is_open l && are_open ls

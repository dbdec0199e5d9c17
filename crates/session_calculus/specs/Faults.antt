-- The fault of each place.
use Rattle.std.specs.Prelude.{ℕ, true, false, Option, None, Some, option_and_then, if◌then◌else◌, nat_eq}
use Rattle.jolie_trees.specs.declared.root.Root.{Root}
use Rattle.jolie_trees.specs.declared.root.Root.TheVariants as root
use Rattle.jolie_trees.specs.Data.{Tree}
use Rattle.jolie_trees.specs.Trees.{root_of}
use Rattle.behaviour_tree.specs.Data.{Exp, Proc, assign, undef, copy, bind, choose}
use Rattle.behaviour_tree.specs.Data.{repeat, notify, solicit, install, throw}
use Rattle.behaviour_tree.specs.Values.{value, truth_of}
use Rattle.session_calculus.specs.Names.{type_mismatch, expr_fault, handler_too_large}
use Rattle.session_calculus.specs.Tables.{fits}
use Rattle.session_calculus.specs.Terms.{Fault, bare, Term, Strands, place, thrown, seq, par}
use Rattle.session_calculus.specs.Terms.{in_scope, exec, prot, no_strands, strand, stands_in}
use Rattle.session_calculus.specs.Effects.{Effect, faults, stores, effect_of, copied, effect_of_undef}
use Rattle.session_calculus.specs.Accepted.{accepted, request_sent}
use Rattle.session_calculus.specs.Moves.{Seen, inside}

-- the fault of an effect, where it has one
abbrev pub fault_of_effect : Effect → Option Fault
fault_of_effect (faults f) = Some (bare f)
fault_of_effect (stores store) = None

-- the fault of a throw: the one that it names, with the tree of its expression
abbrev pub fault_of_throw : ℕ → Option Tree → Option Fault
fault_of_throw f None = Some (bare expr_fault)
fault_of_throw f (Some v) = Some (record { name = f; value = v })

-- what a value binds a variable to: its root, if it is not void
abbrev pub binding_root : Root → Option Root
binding_root root.Void = None
binding_root r = Some r

-- what an expression binds a variable to
abbrev pub binding : Tree → Exp → Option Root
binding store e = option_and_then (λ v. binding_root (root_of v)) (value store e)

-- the fault of a form that asks for a value: ExprFault where there is none
abbrev pub fault_of_missing : {A : Type 0} → Option A → Option Fault
fault_of_missing None = Some (bare expr_fault)
fault_of_missing (Some v) = None

-- the value that a message has, as the request type of its operation takes it
abbrev pub sent_value : Seen → ℕ → ℕ → Tree → Option Tree
sent_value s port op v = accepted s.parts.types (request_sent s.parts s.service port op) v

-- the fault of a message: its value has none, or is not of the request type
abbrev pub fault_of_message : Seen → ℕ → ℕ → Option Tree → Option Fault
fault_of_message s port op None = Some (bare expr_fault)
fault_of_message s port op (Some v) = elim (sent_value s port op v) [ None ↦ Some (bare type_mismatch) | Some w ↦ None ]

-- the fault of a form that acts, where it has one
abbrev pub fault_of : Seen → Proc → Option Fault
fault_of s (throw f e) = fault_of_throw f (value s.store e)
fault_of s (assign p e) = fault_of_effect (effect_of s.store p e)
fault_of s (undef p) = fault_of_effect (effect_of_undef s.store p)
fault_of s (copy p e) = fault_of_effect (copied s.store p e)
fault_of s (bind v e) = fault_of_missing (binding s.store e)
fault_of s (choose e p q) = fault_of_missing (truth_of s.store e)
fault_of s (repeat e p) = fault_of_missing (truth_of s.store e)
fault_of s (notify port op e) = fault_of_message s port op (value s.store e)
fault_of s (solicit port op e x list) = fault_of_message s port op (value s.store e)
fault_of s (install list) = if fits s.scope s.table list then None else Some (bare handler_too_large)
fault_of s p = None

abbrev mutual
  -- the fault of the strand that acts, in a form that runs in strand k
  pub fault_in : Seen → ℕ → Term → Option Fault
  fault_in s k (place p) = if nat_eq s.strand k then fault_of s p else None
  fault_in s k (thrown f) = if nat_eq s.strand k then Some f else None
  fault_in s k (seq t rest) = fault_in s k t
  fault_in s k (par ts) = fault_among s ts
  fault_in s k (in_scope q t h u) = fault_in (inside s q h) k t
  fault_in s k (exec m o y t) = fault_in s k t
  fault_in s k (prot t) = fault_in s k t
  fault_in s k t = None

  -- the same in the member that the strand stands in
  pub fault_among : Seen → Strands → Option Fault
  fault_among s no_strands = None
  fault_among s (strand k t ts) = elim (stands_in s.strand k t) [ true ↦ fault_in s k t | false ↦ fault_among s ts ]

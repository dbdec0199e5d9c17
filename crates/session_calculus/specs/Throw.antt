-- How a fault is carried upward.
use Rattle.std.specs.Prelude.{ℕ, true, false, List, [], ◌∷◌, Option, None, Some, if◌then◌else◌, nat_eq}
use Rattle.behaviour_tree.specs.Data.{Proc}
use Rattle.session_calculus.specs.Tables.{Table, entry}
use Rattle.session_calculus.specs.Terms.{Fault, Term, Strands, done, place, thrown, seq, par, in_scope, exec, fail}
use Rattle.session_calculus.specs.Terms.{prot, no_strands, strand, State, live, caught, last, zombie, stands_in}
use Rattle.session_calculus.specs.Kill.{kill, kill_members}
use Rattle.session_calculus.specs.Ready.{ready}

-- where a fault has come to, with what the forms, or the members of a parallel, are then: it goes on upward, a scope
-- caught it, it ended at a scope, a ready strand blocks it, or its strand has no place there
pub data Carried (A : Type 0) : Type 0 where
  up : A → Carried A
  caught_at : A → ℕ → Carried A
  ended_at : A → ℕ → Carried A
  blocked : ℕ → Carried A
  absent : Carried A

-- what stands around changes with it: one way where the fault goes on upward, another where a scope kept it
abbrev pub surrounded : {A B : Type 0} → (A → B) → (A → B) → Carried A → Carried B
surrounded passed kept (up t) = up (passed t)
surrounded passed kept (caught_at t q) = caught_at (kept t) q
surrounded passed kept (ended_at t q) = ended_at (kept t) q
surrounded passed kept (blocked n) = blocked n
surrounded passed kept absent = absent

-- a live scope catches the fault where it has a handler for it; else it is a zombie, and the fault goes on
abbrev pub at_live : Option Proc → ℕ → Table → Fault → Term → Carried Term
at_live None q h f t = up (prot (in_scope q t h zombie))
at_live (Some p) q h f t = caught_at (in_scope q t h (caught f)) q

-- a fault comes to a scope from its body; at a scope whose last handler runs it ends. To a scope in another state none
-- comes: what is in it no fault ends any more
abbrev pub at_scope : ℕ → Table → State → Fault → Term → Carried Term
at_scope q h live f t = at_live (entry f.name h.faults) q h f t
at_scope q h last f t = ended_at (in_scope q t h zombie) q
at_scope q h u f t = absent

-- a fault that goes on comes to the scope around, unless strands are ready in that scope's body: then the least of them
-- blocks. Around a fault that was kept the scope stays
abbrev pub reaches : List ℕ → (Term → Carried Term) → (Term → Term) → Carried Term → Carried Term
reaches [] comes stays (up t) = comes t
reaches (n ∷ ns) comes stays (up t) = blocked n
reaches ns comes stays c = surrounded stays stays c

abbrev mutual
  -- fault f of strand n in a form that runs in strand s is carried upward: its place leaves nothing, a sequence drops
  -- its rests, a parallel kills its other members, and a request fails
  pub throw : ℕ → Fault → ℕ → Term → Carried Term
  throw n f s (place p) = if nat_eq n s then up done else absent
  throw n f s (thrown g) = if nat_eq n s then up done else absent
  throw n f s (seq t rest) = surrounded (λ t'. t') (λ t'. seq t' rest) (throw n f s t)
  throw n f s (par ts) = surrounded par par (throw_among n f ts)
  throw n f s (in_scope q t h u) = reaches (ready q h s t) (at_scope q h u f) (λ t'. in_scope q t' h u) (throw n f s t)
  throw n f s (exec m o y t) = surrounded (λ t'. prot (fail m f t')) (exec m o y) (throw n f s t)
  throw n f s (prot t) = surrounded prot prot (throw n f s t)
  throw n f s t = absent

  -- the same in the member that strand n stands in
  pub throw_among : ℕ → Fault → Strands → Carried Strands
  throw_among n f no_strands = absent
  throw_among n f (strand k t ts) =
      elim (stands_in n k t) [
        | true ↦ surrounded (λ t'. strand k t' (kill_members f ts)) (λ t'. strand k t' ts) (throw n f k t)
        | false ↦ surrounded (strand k (kill f t)) (strand k t) (throw_among n f ts)
      ]

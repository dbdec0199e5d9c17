-- What a change of a counted store comes to.
use Rattle.std.proofs.Common.{◌≡◌, ◌-◌, ℕ, true, false, List, Option, None, Some, sym, arith}
use Rattle.std.specs.Option.{is_some}
use Rattle.jolie_trees.specs.declared.path.Step.{Step}
use Rattle.jolie_trees.specs.Data.{Tree}
use Rattle.jolie_trees.specs.Trees.{size, undef}
use Rattle.jolie_trees.specs.Limits.{is_store, in_u64}
use Rattle.jolie_trees.specs.Counts.{FitsAs, taken}
use Rattle.jolie_trees.proofs.Lessened.{undef-keeps_limits}
use Rattle.jolie_trees.proofs.Taken.{undef-takes}
use Rattle.jolie_trees.proofs.Counted.{within-limits}

pub fits : (t : Tree) (n : ℕ) → FitsAs t (Some n) → true ≡ is_store t
fits t n h = sym h.0

pub unfit : (t : Tree) → FitsAs t None → false ≡ is_store t
unfit t h = sym h

pub is_some_fits : (t : Tree) (n : Option ℕ) → FitsAs t n → is_some n ≡ is_store t
is_some_fits t None h = sym h
is_some_fits t (Some n) h = sym h.0

pub lessened : (p : List Step) (t : Tree) → is_store t ≡ true → is_store (undef p t) ≡ true
lessened = undef-keeps_limits

-- the nodes that are left of those that were there
pub left : (p : List Step) (t : Tree) (nodes gone rest : ℕ) → is_store t ≡ true → nodes ≡ size t → gone ≡ in_u64 (taken p t)
    → rest ≡ nodes - gone → rest ≡ size (undef p t)
left p t nodes gone rest fits counted taken less =
    let all = undef-takes p t in let within = within-limits t fits in omega (arith, all, within.0, counted, taken, less)

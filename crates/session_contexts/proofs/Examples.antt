-- The definitions, computed.
use Rattle.std.proofs.Common.{◌≡◌, [], ◌∷◌, None, refl}
use Rattle.behaviour_tree.specs.Data.{Proc, nothing, no_procs, proc}
use Rattle.session_calculus.specs.Tables.{empty}
use Rattle.session_calculus.specs.Terms.{Fault, done, place, seq, fail, prot, last}
use Rattle.session_calculus.specs.Kill.{kill}
use Rattle.session_calculus.specs.Start.{begun}
use Rattle.session_contexts.specs.Contexts.{rests, scoped, asked, kept, plug}
use Rattle.session_contexts.specs.Tidy.{tidy}
use Rattle.session_contexts.specs.Walks.{settled, killed_within}

-- what is kept twice, and a head without rests
twice : tidy (seq (prot (prot done)) no_procs) ≡ done
twice = refl

-- a kill ends the place in a request, and the request fails
ends : (f : Fault) (p q : Proc) → kill f (plug (rests (proc p no_procs) ∷ asked 1 2 None ∷ []) (place q)) ≡ prot (fail 1 f done)
ends f p q = refl

ends_so : (f : Fault) (p q : Proc) → killed_within (rests (proc p no_procs) ∷ asked 1 2 None ∷ []) f (place q) done ≡ prot (fail 1 f done)
ends_so f p q = refl

-- the last handler of a scope is through: the scope leaves nothing, nor does what kept it
through : settled (kept ∷ scoped 5 empty last ∷ []) (begun done 3) ≡ begun done 3
through = refl

-- after a head that is done the rest begins
goes_on : settled (rests (proc nothing no_procs) ∷ []) (begun done 3) ≡ begun done 3
goes_on = refl

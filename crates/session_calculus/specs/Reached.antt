-- What kills and throws keep, and which scopes a fault reaches.
use Rattle.std.specs.Prelude.{◌≡◌, ℕ, Bool, true, false, List, [], ◌∷◌, ◌++◌, Option, None, Some, is_some}
use Rattle.behaviour_tree.specs.declared.words.Kind.TheVariants as kind
use Rattle.behaviour_tree.specs.declared.words.Given.{Given}
use Rattle.behaviour_tree.specs.Data.{ProgramParts}
use Rattle.session_calculus.specs.Tables.{Table, entry}
use Rattle.session_calculus.specs.Terms.{Fault, Term, Strands, seq, par, in_scope, exec, prot}
use Rattle.session_calculus.specs.Terms.{no_strands, strand, State, live, last, stands_in}
use Rattle.session_calculus.specs.Kill.{kill}
use Rattle.session_calculus.specs.Ready.{ready}
use Rattle.session_calculus.specs.Throw.{Carried, up, caught_at, ended_at, throw}
use Rattle.session_calculus.specs.After.{Config, Done, after}
use Rattle.session_calculus.specs.Open.{open_requests, waiting}

-- the form that a fault leaves, where it came to an end or went on
abbrev pub form_left : Carried Term → Option Term
form_left (up t) = Some t
form_left (caught_at t q) = Some t
form_left (ended_at t q) = Some t
form_left c = None

-- A kill keeps the requests that are open and the calls that wait.
abbrev pub KillKeepsCalls : Type 0
KillKeepsCalls =
    (f : Fault) (t : Term) → (open_requests (kill f t) ≡ open_requests t) × (waiting (kill f t) ≡ waiting t)

-- A throw keeps them too.
abbrev pub ThrowKeepsCalls : Type 0
ThrowKeepsCalls =
    (n s : ℕ) (f : Fault) (t t' : Term)
    → form_left (throw n f s t) ≡ Some t' → (open_requests t' ≡ open_requests t) × (waiting t' ≡ waiting t)

-- ---- the scopes that a fault reaches

-- a scope around a place: its name, its handlers and its state, the strand that it runs in and its body
pub record Passed : Type 0 where
  pub name : ℕ
  pub table : Table
  pub state : State
  pub strand : ℕ
  pub body : Term

abbrev mutual
  -- the scopes around the place of strand n in a form that runs in strand s, from inside outward
  pub scopes_around : ℕ → ℕ → Term → List Passed
  scopes_around n s (seq t rest) = scopes_around n s t
  scopes_around n s (par ts) = scopes_around_among n ts
  scopes_around n s (in_scope q t h u) =
      scopes_around n s t ++ record { name = q; table = h; state = u; strand = s; body = t } ∷ []
  scopes_around n s (exec m o y t) = scopes_around n s t
  scopes_around n s (prot t) = scopes_around n s t
  scopes_around n s t = []

  -- the same in the member that strand n stands in
  pub scopes_around_among : ℕ → Strands → List Passed
  scopes_around_among n no_strands = []
  scopes_around_among n (strand s t ts) =
      elim (stands_in n s t) [ true ↦ scopes_around n s t | false ↦ scopes_around_among n ts ]

-- a scope keeps a fault: it is live and has a handler for it, or its last handler runs
abbrev pub keeps : ℕ → Passed → Bool
keeps f p = elim p.state [ live ↦ is_some (entry f p.table.faults) | last ↦ true | _ ↦ false ]

-- of the scopes around a place those that a fault reaches: up to the first that keeps it
abbrev pub reached : ℕ → List Passed → List Passed
reached f [] = []
reached f (p ∷ ps) = p ∷ elim (keeps f p) [ true ↦ [] | false ↦ reached f ps ]

-- no strand is ready in any of some scopes
abbrev pub AreUnready : List Passed → Type 0
AreUnready [] = Unit {0}
AreUnready (p ∷ ps) = (ready p.name p.table p.strand p.body ≡ []) × AreUnready ps

-- Where a fault is raised, no strand was ready at any scope that it reached.
abbrev pub RaisesUnblocked : Type 0
RaisesUnblocked =
    (parts : ProgramParts) (service : ℕ) (c : Config) (n : ℕ) (g : Given) (d : Done)
    → after parts service c n g ≡ Some d → d.event.kind ≡ kind.Raise
    → AreUnready (reached d.event.fault (scopes_around n 0 c.form))

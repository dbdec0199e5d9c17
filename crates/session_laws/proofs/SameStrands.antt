-- Why strands have to differ: of two members of one number the first is through, and the walk comes to the second.
use Rattle.std.proofs.Common.{◌≡◌, ◌⊎◌, inl, inr, ⊎_elim, ℕ, false, [], ◌∷◌, None, Some, option_and_then, true≢false, refl, sym, ap, ◌∙◌}
use Rattle.jolie_trees.specs.Trees.{void_tree}
use Rattle.behaviour_tree.specs.declared.words.Kind.TheVariants as kind
use Rattle.behaviour_tree.specs.declared.words.Need.TheVariants as need
use Rattle.behaviour_tree.specs.declared.words.Given.{Given}
use Rattle.behaviour_tree.specs.declared.words.Given.TheVariants as given
use Rattle.behaviour_tree.specs.Data.{nothing, comp, choice, no_branches, HandlerList, no_handlers, ProgramParts}
use Rattle.session_calculus.specs.Tables.{Table, entry, empty}
use Rattle.session_calculus.specs.Terms.{done, place, par, in_scope, no_strands, strand, live, last}
use Rattle.session_calculus.specs.After.{Config, Done, after}
use Rattle.session_calculus.specs.Compensations.{ScopeId, scope_id, Standing, scope_at, acting, acting_in, Held, Stands, Puts, Installs, by_end, by_this, by_name}
use Rattle.session_laws.proofs.Compensating.{is_compensate}
use Rattle.session_laws.proofs.Entries.{none_some}

-- a program without anything
abbrev program : ProgramParts
program = record { types = []; interfaces = []; services = []; names = [] }

-- the handlers of the second scope
abbrev handlers : Table
handlers = record { faults = []; scopes = (3, nothing) ∷ [] }

-- a scope without handlers whose last form is about to go, and behind it one with a handler under name 3, both in
-- strand 5
abbrev twice : Config
twice = record {
  form = par
      (strand 1 (par (strand 5 (in_scope 2 (place (comp 3)) empty last) no_strands))
      (strand 2 (par (strand 5 (in_scope 4 (place (choice no_branches)) handlers live) no_strands)) no_strands));
  store = void_tree;
  next = 6;
  call = 0;
  ended = false;
}

-- the handler under name 3 in the scope of strand 5
abbrev found : Held
found = record { scope = scope_id 5 0; name = 3; handler = nothing }

-- what strand 5 comes to: its first scope is gone
abbrev came_to : Done
came_to = record {
  config = record twice {
    form = par
        (strand 1 done
        (strand 2 (par (strand 5 (in_scope 4 (place (choice no_branches)) handlers live) no_strands)) no_strands));
  };
  event = record { strand = 5; kind = kind.Compensate; number = 0; place = 3; fault = 0 };
  need = need.Nothing;
}

-- the event is no install, and no answer
not_installed : (x : Standing) (list : HandlerList) → Installs found twice came_to x list → ⊥
not_installed x list h =
    ⊎_elim (λ (k : kind.Compensate ≡ kind.Install). true≢false (ap is_compensate k))
    (λ (k : kind.Compensate ≡ kind.Answer). true≢false (ap is_compensate k)) h.sort

-- no event put the handler there
not_put : Puts found twice came_to → ⊥
not_put (by_end h k a e) = true≢false (ap is_compensate k)
not_put (by_this x list h own this) = not_installed x list h
not_put (by_name x list h named) = not_installed x list h

-- nor did it stand there
not_there : Stands found twice → ⊥
not_there s = none_some nothing (ap (option_and_then (λ x. entry 3 x.table.scopes)) s.1 ∙ s.2)

-- where strands do not differ an entry may stand that no event put there
pub entries_may_appear : ((c : Config) (n : ℕ) (g : Given) (d : Done) (e : Held)
    → after program 0 c n g ≡ Some d → Stands e d.config → Stands e c ⊎ Puts e c d) → ⊥
entries_may_appear law =
    ⊎_elim not_there not_put
    (law twice 5 given.Nothing came_to found refl (record { name = 4; table = handlers }, refl, refl))

-- and what Compensate took away stands in the scope of that strand
pub entries_may_stay : ((c : Config) (n : ℕ) (g : Given) (d : Done) (w : ScopeId) (x : Standing)
    → after program 0 c n g ≡ Some d → d.event.kind ≡ kind.Compensate
    → acting n 0 0 None c.form ≡ acting_in (Some w) no_handlers
    → scope_at w 0 0 d.config.form ≡ Some x → entry d.event.place x.table.scopes ≡ None) → ⊥
entries_may_stay law =
    none_some nothing
    (sym (law twice 5 given.Nothing came_to (scope_id 5 0) (record { name = 4; table = handlers }) refl refl refl refl))

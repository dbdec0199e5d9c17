-- The plain terms that the terms of Rust stand for.
use Rattle.std.specs.Prelude.{ℕ, List, [], ◌∷◌, map, option_map}
use Rattle.std.specs.Arc.{arc_value}
use Rattle.behaviour_tree.specs.View.{behaviour_view, handlers_view, path_view, procs_of}
use Rattle.session_calculus.specs.Terms as spec
use Rattle.handler_table.specs.View.{table_view}
use Rattle.session_forms.specs.Rests.{rest_items}
use Rattle.session_forms.specs.declared.call.Call.{Call}
use Rattle.session_forms.specs.declared.fault.Fault.{Fault}
use Rattle.session_forms.specs.declared.state.ScopeState as state
use Rattle.session_forms.specs.declared.term.Strand as strand
use Rattle.session_forms.specs.declared.term.Term as term
use Rattle.session_forms.specs.declared.term.Term.TheOpen.{Strand-F, Term-F}
use Rattle.session_forms.specs.declared.term.Term.TheFolds.{fold-Strand, fold-Term}

-- a fault
abbrev pub fault_view : Fault → spec.Fault
fault_view f = record { name = f.name; value = f.value }

-- the state of a scope
abbrev pub state_view : state.ScopeState → spec.State
state_view state.TheVariants.Live = spec.live
state_view (state.TheVariants.Caught f) = spec.caught (fault_view (arc_value f))
state_view state.TheVariants.Term = spec.term
state_view state.TheVariants.Last = spec.last
state_view state.TheVariants.Zombie = spec.zombie

-- a call that waits
abbrev pub call_view : Call → spec.Term
call_view c = spec.wait c.number c.port c.op (option_map path_view c.target) (handlers_view c.handlers)

-- a call that waits for its handlers alone
abbrev pub dead_call_view : Call → spec.Term
dead_call_view c = spec.dead_wait c.number c.port c.op (handlers_view c.handlers)

-- a member of a parallel, its form already seen
pub record StrandView : Type 0 where
  pub number : ℕ
  pub form : spec.Term

-- members in order
abbrev pub strands_of : List StrandView → spec.Strands
strands_of [] = spec.no_strands
strands_of (s ∷ ss) = spec.strand s.number s.form (strands_of ss)

-- one level of a term, with what is inside already seen
abbrev pub term_level : Term-F spec.Term StrandView → spec.Term
term_level Term-F.Done = spec.done
term_level (Term-F.Place p) = spec.place (behaviour_view p.value)
term_level (Term-F.Thrown f) = spec.thrown (fault_view (arc_value f))
term_level (Term-F.Seq t rest) = spec.seq t.value (procs_of (map behaviour_view (rest_items rest)))
term_level (Term-F.Par ts) = spec.par (strands_of ts.items)
term_level (Term-F.Scope h t u) = spec.in_scope h.value.scope t.value (table_view h.value.table) (state_view u)
term_level (Term-F.Exec m o y t) = spec.exec m o (option_map path_view y) t.value
term_level (Term-F.Fail m f t) = spec.fail m (fault_view (arc_value f)) t.value
term_level (Term-F.Wait c) = call_view c.value
term_level (Term-F.DeadWait c) = dead_call_view c.value
term_level (Term-F.Prot t) = spec.prot t.value

-- one level of a member
abbrev pub strand_level : Strand-F spec.Term StrandView → StrandView
strand_level s = record { number = s.number; form = s.form.value }

-- the term that a term of Rust stands for
abbrev pub term_view : term.Term → spec.Term
term_view = fold-Term spec.Term StrandView term_level strand_level

-- the member that a member of Rust stands for
abbrev pub strand_view : strand.Strand → StrandView
strand_view = fold-Strand spec.Term StrandView term_level strand_level

-- the members of a parallel
abbrev pub members_view : List strand.Strand → spec.Strands
members_view ts = strands_of (map strand_view ts)

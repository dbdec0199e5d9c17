-- In a run of a checked program no handler that is to be installed has a scope name as its key.
use Rattle.std.proofs.Common.{◌≡◌, ℕ, suc, Bool, true, false, Option, None, Some, if◌then◌else◌, nat_eq, refl, subst}
use Rattle.std.proofs.lemmas.Bool.{false≢true}
use Rattle.behaviour_tree.specs.declared.behaviour.HandlerKey.TheVariants as key
use Rattle.behaviour_tree.specs.Data.{Proc, install, HandlerList, no_handlers, handler}
use Rattle.behaviour_tree.specs.FormedBehaviours.{Reach}
use Rattle.behaviour_tree.specs.FormedServices.{reach_of}
use Rattle.session_calculus.specs.Terms.{Term, Strands, done, place, seq, par, in_scope, exec, wait, dead_wait, prot, no_strands, strand, live, stands_in}
use Rattle.session_calculus.specs.Compensations.{ScopeId, scope_id, Acting, acting, acting_among, handlers_of, names_scope}
use Rattle.session_turn.specs.Laws.{NamesByThis}
use Rattle.session_turn.proofs.Naming.{HandlersNameWell, NamesWell}
use Rattle.session_turn.proofs.NamedForms.{FormNames, MembersName}
use Rattle.session_turn.proofs.Formed.{started}

-- handlers whose keys a text may have name no scope
own_keys : (r : Reach) (list : HandlerList) (q : ℕ) → HandlersNameWell r list → names_scope q list ≡ false
own_keys r no_handlers q h = refl
own_keys r (handler key.This p list) q h = own_keys r list q h.2
own_keys r (handler (key.Fault f) p list) q h = own_keys r list q h.2
own_keys r (handler (key.Scope s) p list) q h = absurd (false≢true h.0)

-- the handlers of a form that acts are such
abbrev ActsWell : Reach → Option Acting → Type 0
ActsWell r None = Unit {0}
ActsWell r (Some a) = HandlersNameWell r a.handlers

-- where it acts
acts-if : (r : Reach) (b : Bool) (a : Acting) → HandlersNameWell r a.handlers → ActsWell r (if b then Some a else None)
acts-if r true a h = h
acts-if r false a h = tt

-- whichever member it is
acts-chosen : (r : Reach) (b : Bool) (x y : Option Acting) → ActsWell r x → ActsWell r y
    → ActsWell r (elim b [ true ↦ x | false ↦ y ])
acts-chosen r true x y h k = h
acts-chosen r false x y h k = k

-- the handlers that a behaviour installs
acts-place : (r : Reach) (p : Proc) → NamesWell r p → HandlersNameWell r (handlers_of p)
acts-place r (install list) h = h
acts-place r p h = tt

mutual
  -- a form that acts, in one that names what is there
  acts_well : (r : Reach) (n s d : ℕ) (w : Option ScopeId) (t : Term) → FormNames r t → ActsWell r (acting n s d w t)
  acts_well r n s d w (place p) h =
      acts-if r (nat_eq n s) (record { inside = w; handlers = handlers_of p; ending = None }) (acts-place r p h)
  acts_well r n s d w (wait k port op x list) h =
      acts-if r (nat_eq n s) (record { inside = w; handlers = list; ending = None }) h
  acts_well r n s d w (dead_wait k port op list) h =
      acts-if r (nat_eq n s) (record { inside = w; handlers = list; ending = None }) h
  acts_well r n s d w (seq t rest) h = acts_well r n s d w t h.0
  acts_well r n s d w (par ts) h = acts_among r n w ts h
  acts_well r n s d w (in_scope q done x live) h =
      acts-if r (nat_eq n s) (record { inside = w; handlers = no_handlers; ending = Some x }) tt
  acts_well r n s d w (in_scope q t x u) h = acts_well r n s (suc d) (Some (scope_id s d)) t h.0
  acts_well r n s d w (exec m o y t) h = acts_well r n s d w t h
  acts_well r n s d w (prot t) h = acts_well r n s d w t h
  acts_well r n s d w t h = tt

  -- among members
  acts_among : (r : Reach) (n : ℕ) (w : Option ScopeId) (ts : Strands) → MembersName r ts
      → ActsWell r (acting_among n w ts)
  acts_among r n w no_strands h = tt
  acts_among r n w (strand s t ts) h =
      acts-chosen r (stands_in n s t) (acting n s 0 w t) (acting_among n w ts) (acts_well r n s 0 w t h.0)
      (acts_among r n w ts h.1)

-- no handler that is to be installed names a scope
pub names_by_this : NamesByThis
names_by_this parts service steps last n w list q well run acts =
    let it = started parts service steps last well run in
    let r = reach_of parts it.part in
    own_keys r list q (subst (ActsWell r) acts (acts_well r n 0 0 None last.form it.names))

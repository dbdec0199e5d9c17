-- Who a scope is, and where the handlers under scope names come from.
use Rattle.std.specs.Prelude.{◌≡◌, ◌⊎◌, ℕ, suc, Bool, true, false, ◌&&◌, ◌||◌, nat_eq}
use Rattle.std.specs.Prelude.{List, [], ◌∷◌, Option, None, Some, if◌then◌else◌}
use Rattle.behaviour_tree.specs.declared.behaviour.HandlerKey.TheVariants as key
use Rattle.behaviour_tree.specs.declared.words.Kind.TheVariants as kind
use Rattle.behaviour_tree.specs.declared.words.Given.{Given}
use Rattle.behaviour_tree.specs.Data.{Proc, install, HandlerList, no_handlers, handler, ProgramParts}
use Rattle.behaviour_tree.specs.FormedBehaviours.{Reach, are_handlers}
use Rattle.session_calculus.specs.Tables.{Table, entry, plus}
use Rattle.session_calculus.specs.Terms.{Term, Strands, done, place, seq, par, in_scope, exec, fail}
use Rattle.session_calculus.specs.Terms.{wait, dead_wait, prot, no_strands, strand, live, stands_in}
use Rattle.session_calculus.specs.After.{Config, Done, after}
use Rattle.session_calculus.specs.Runs.{TakenStep, start_of, RunsTo}
use Rattle.session_calculus.specs.Sound.{strands_of, are_below}

-- the strands of a configuration differ, and are below the next: then a strand names one place
abbrev pub StrandsDiffer : Config → Type 0
StrandsDiffer c = are_below c.next (0 ∷ strands_of c.form) ≡ true

-- who a scope is while it stands: the strand that it runs in, and how many scopes stand around it in that strand. What
-- begins and ends inside a scope, and the sequences that a fault takes away around it, change neither
pub record ScopeId : Type 0 where
  pub strand : ℕ
  pub depth : ℕ

-- a scope by both
abbrev pub scope_id : ℕ → ℕ → ScopeId
scope_id s d = record { strand = s; depth = d }

-- a scope that stands in a term: its name and its handlers
pub record Standing : Type 0 where
  pub name : ℕ
  pub table : Table

-- the same scope
abbrev pub is_same : ScopeId → ScopeId → Bool
is_same a b = nat_eq a.strand b.strand && nat_eq a.depth b.depth

abbrev mutual
  -- the scope w in a form that runs in strand s, with d scopes around it in that strand
  pub scope_at : ScopeId → ℕ → ℕ → Term → Option Standing
  scope_at w s d (seq t rest) = scope_at w s d t
  scope_at w s d (par ts) = scope_among w ts
  scope_at w s d (in_scope q t h u) =
      if is_same w (scope_id s d) then Some (record { name = q; table = h }) else scope_at w s (suc d) t
  scope_at w s d (exec m o y t) = scope_at w s d t
  scope_at w s d (fail m f t) = scope_at w s d t
  scope_at w s d (prot t) = scope_at w s d t
  scope_at w s d t = None

  -- the same in the member that its strand stands in
  pub scope_among : ScopeId → Strands → Option Standing
  scope_among w no_strands = None
  scope_among w (strand s t ts) = elim (stands_in w.strand s t) [ true ↦ scope_at w s 0 t | false ↦ scope_among w ts ]

-- a form that acts: the scope that it stands in, the handlers that it may install there, and, if it is a scope that is
-- to end, its table
pub record Acting : Type 0 where
  pub inside : Option ScopeId
  pub handlers : HandlerList
  pub ending : Option Table

-- a form that acts in a scope, and may install handlers there
abbrev pub acting_in : Option ScopeId → HandlerList → Option Acting
acting_in w list = Some (record { inside = w; handlers = list; ending = None })

-- a scope that is to end in another
abbrev pub ending_in : Option ScopeId → Table → Option Acting
ending_in w h = Some (record { inside = w; handlers = no_handlers; ending = Some h })

-- the handlers that a behaviour installs
abbrev pub handlers_of : Proc → HandlerList
handlers_of (install list) = list
handlers_of p = no_handlers

abbrev mutual
  -- the form by which strand n acts, in a form of scope w that runs in strand s, with d scopes around it in that strand
  pub acting : ℕ → ℕ → ℕ → Option ScopeId → Term → Option Acting
  acting n s d w (place p) = if nat_eq n s then acting_in w (handlers_of p) else None
  acting n s d w (wait k port op x list) = if nat_eq n s then acting_in w list else None
  acting n s d w (dead_wait k port op list) = if nat_eq n s then acting_in w list else None
  acting n s d w (seq t rest) = acting n s d w t
  acting n s d w (par ts) = acting_among n w ts
  acting n s d w (in_scope q done h live) = if nat_eq n s then ending_in w h else None
  acting n s d w (in_scope q t h u) = acting n s (suc d) (Some (scope_id s d)) t
  acting n s d w (exec m o y t) = acting n s d w t
  acting n s d w (prot t) = acting n s d w t
  acting n s d w t = None

  -- the same in the member that strand n stands in
  pub acting_among : ℕ → Option ScopeId → Strands → Option Acting
  acting_among n w no_strands = None
  acting_among n w (strand s t ts) = elim (stands_in n s t) [ true ↦ acting n s 0 w t | false ↦ acting_among n w ts ]

-- one of the handlers stands under `this`
abbrev pub has_this : HandlerList → Bool
has_this no_handlers = false
has_this (handler key.This p list) = true
has_this (handler k p list) = has_this list

-- one of the handlers has scope name r itself as its key. No text has such a key
abbrev pub names_scope : ℕ → HandlerList → Bool
names_scope r no_handlers = false
names_scope r (handler (key.Scope q) p list) = nat_eq q r || names_scope r list
names_scope r (handler k p list) = names_scope r list

-- In a checked program no handler has a scope name itself as its key: there scopes name themselves by `this` alone.
abbrev pub NamesNoScope : Type 0
NamesNoScope = (r : Reach) (list : HandlerList) (q : ℕ) → are_handlers r list ≡ true → names_scope q list ≡ false

-- ---- an entry

-- a handler under a scope name in a scope
pub record Held : Type 0 where
  pub scope : ScopeId
  pub name : ℕ
  pub handler : Proc

-- an entry stands in a configuration
abbrev pub Stands : Held → Config → Type 0
Stands e c = (x : Standing) × (scope_at e.scope 0 0 c.form ≡ Some x) × (entry e.name x.table.scopes ≡ Some e.handler)

-- a scope with further handlers
abbrev pub with_installed : Standing → HandlerList → Standing
with_installed x list = record { name = x.name; table = plus x.name x.table list }

-- an event installed handlers in the scope x of an entry: it is an install or the answer of a call, it acts with these
-- handlers in the scope, and the scope has them since; the entry is what it has then under the entry's name
pub record Installs (e : Held) (c : Config) (d : Done) (x : Standing) (list : HandlerList) : Type 0 where
  pub sort : (d.event.kind ≡ kind.Install) ⊎ (d.event.kind ≡ kind.Answer)
  pub acts : acting d.event.strand 0 0 None c.form ≡ acting_in (Some e.scope) list
  pub stood : scope_at e.scope 0 0 c.form ≡ Some x
  pub stands : scope_at e.scope 0 0 d.config.form ≡ Some (with_installed x list)
  pub held : entry e.name (with_installed x list).table.scopes ≡ Some e.handler

-- an event put an entry into a scope
pub data Puts (e : Held) (c : Config) (d : Done) : Type 0 where
  -- a scope ended directly inside it that had the entry
  by_end : (h : Table) → d.event.kind ≡ kind.EndScope
      → acting d.event.strand 0 0 None c.form ≡ ending_in (Some e.scope) h
      → entry e.name h.scopes ≡ Some e.handler → Puts e c d
  -- it was installed in it as `this`, under the scope's own name
  by_this : (x : Standing) (list : HandlerList) → Installs e c d x list → x.name ≡ e.name → has_this list ≡ true
      → Puts e c d
  -- it was installed in it under a scope name that is a key itself, as none is in a checked program
  by_name : (x : Standing) (list : HandlerList) → Installs e c d x list → names_scope e.name list ≡ true → Puts e c d

-- Where the strands differ, whatever stands under a scope name after an event stood there before, or the event put it
-- there.
abbrev pub EntriesComeFromEvents : Type 0
EntriesComeFromEvents =
    (parts : ProgramParts) (service : ℕ) (c : Config) (n : ℕ) (g : Given) (d : Done) (e : Held)
    → StrandsDiffer c → after parts service c n g ≡ Some d → Stands e d.config → Stands e c ⊎ Puts e c d

-- an entry stands through some steps
abbrev pub StandsThrough : ProgramParts → ℕ → Held → Config → List TakenStep → Type 0
StandsThrough parts service e c [] = Stands e c
StandsThrough parts service e c (s ∷ steps) =
    Stands e c × (d : Done) × (after parts service c s.event.strand s.gift ≡ Some d)
    × StandsThrough parts service e d.config steps

-- one of some steps put an entry there, and it has stood since
abbrev pub WasPut : ProgramParts → ℕ → Held → Config → List TakenStep → Type 0
WasPut parts service e c [] = ⊥
WasPut parts service e c (s ∷ steps) =
    (d : Done) × (after parts service c s.event.strand s.gift ≡ Some d)
    × ((Puts e c d × StandsThrough parts service e d.config steps) ⊎ WasPut parts service e d.config steps)

-- In every run whatever stands under a scope name was put there by an event, and has stood since.
abbrev pub EntriesWerePut : Type 0
EntriesWerePut =
    (parts : ProgramParts) (service : ℕ) (steps : List TakenStep) (first last : Config) (e : Held)
    → start_of parts service ≡ Some first → RunsTo parts service steps last → Stands e last
    → WasPut parts service e first steps

-- Where the strands differ, Compensate takes the entry away.
abbrev pub CompensatesOnce : Type 0
CompensatesOnce =
    (parts : ProgramParts) (service : ℕ) (c : Config) (n : ℕ) (g : Given) (d : Done) (w : ScopeId) (x : Standing)
    → StrandsDiffer c → after parts service c n g ≡ Some d → d.event.kind ≡ kind.Compensate
    → acting n 0 0 None c.form ≡ acting_in (Some w) no_handlers → scope_at w 0 0 d.config.form ≡ Some x
    → entry d.event.place x.table.scopes ≡ None

-- How many members the parallels of handlers have, in tables and where they are installed.
use Rattle.std.proofs.Common.{◌≡◌, ℕ, ◌+◌, ◌≤◌, Bool, true, false, [], ◌∷◌, Option, Some, if◌then◌else◌, nat_eq, nat_le, Ordering, Less, Equal, Greater, nat_cmp, refl, arith}
use Rattle.std.specs.Ordering.{match_ordering}
use Rattle.std.specs.List.{list_all}
use Rattle.std.specs.BTreeMap.{insert_entry}
use Rattle.std.proofs.lemmas.Bool.{leb-true, le-leb, and_parts, and_from}
use Rattle.behaviour_tree.specs.declared.behaviour.HandlerKey.{HandlerKey}
use Rattle.behaviour_tree.specs.declared.behaviour.HandlerKey.TheVariants as key
use Rattle.behaviour_tree.specs.Data.{Proc, sequence, parallel, choose, repeat, choice, solicit, install, scope, block, Procs, no_procs, proc, Branches, no_branches, one_way, request, HandlerList, no_handlers, handler}
use Rattle.behaviour_tree.specs.FormedBehaviours.{parallel_members, members_within, members_of_branches, members_of_handlers, count_of}
use Rattle.session_calculus.specs.Tables.{Entries, entry, with, without, over, Table, or_nothing, with_handler, taken_in, put_over, plus, extent_of, extent_of_branches, extent_of_handlers, forms, levels, most_forms, most_levels, is_handler, fits}
use Rattle.session_calculus.specs.Members.{has_few, handlers_have_few}

-- ---- a handler has more forms than members

mutual
  -- a behaviour
  members-forms : (p : Proc) → parallel_members p + 1 ≤ forms p
  members-forms (sequence ps) = omega (arith, members-forms_of ps)
  members-forms (parallel ps) = omega (arith, members-forms_of ps)
  members-forms (choose e p q) = omega (arith, members-forms p, members-forms q)
  members-forms (repeat e p) = omega (arith, members-forms p)
  members-forms (choice bs) = omega (arith, members-forms_of_branches bs)
  members-forms (solicit port op e x list) = omega (arith, members-forms_of_handlers list)
  members-forms (install list) = omega (arith, members-forms_of_handlers list)
  members-forms (scope q p) = omega (arith, members-forms p)
  members-forms (block p) = omega (arith, members-forms p)
  members-forms p = omega arith

  -- behaviours
  members-forms_of : (ps : Procs) → count_of ps + members_within ps ≤ extent_of ◌+◌ ps
  members-forms_of no_procs = omega arith
  members-forms_of (proc p ps) = omega (arith, members-forms p, members-forms_of ps)

  -- branches
  members-forms_of_branches : (bs : Branches) → members_of_branches bs ≤ extent_of_branches ◌+◌ bs
  members-forms_of_branches no_branches = omega arith
  members-forms_of_branches (one_way o x p bs) = omega (arith, members-forms p, members-forms_of_branches bs)
  members-forms_of_branches (request o x y body p bs) =
      omega (arith, members-forms body, members-forms p, members-forms_of_branches bs)

  -- handlers
  members-forms_of_handlers : (list : HandlerList) → members_of_handlers list ≤ extent_of_handlers ◌+◌ list
  members-forms_of_handlers no_handlers = omega arith
  members-forms_of_handlers (handler k p list) = omega (arith, members-forms p, members-forms_of_handlers list)

-- ---- tables

module _ (most : ℕ) where
  -- each behaviour has at most so many members
  abbrev pub few_entries : Entries → Bool
  few_entries es = list_all (λ e. has_few most e.1) es

  -- wherever an entry is put
  few-placed : (o : Ordering) (a b c : Entries) → few_entries a ≡ true → few_entries b ≡ true → few_entries c ≡ true
      → few_entries (match_ordering o a b c) ≡ true
  few-placed Less a b c h i j = h
  few-placed Equal a b c h i j = i
  few-placed Greater a b c h i j = j

  -- entries with one more
  few-with : (name : ℕ) (p : Proc) (es : Entries) → has_few most p ≡ true → few_entries es ≡ true
      → few_entries (with name p es) ≡ true
  few-with name p [] h hs = and_from (has_few most p) true h refl
  few-with name p (e ∷ es) h hs =
      let both = and_parts (has_few most e.1) (few_entries es) hs in
      few-placed (nat_cmp name e.0) ((name, p) ∷ e ∷ es) ((e.0, p) ∷ es) (e ∷ insert_entry nat_cmp es name p)
      (and_from (has_few most p) (few_entries (e ∷ es)) h hs) (and_from (has_few most p) (few_entries es) h both.1)
      (and_from (has_few most e.1) (few_entries (with name p es)) both.0 (few-with name p es h both.1))

  -- entries without one
  pub few-without : (name : ℕ) (es : Entries) → few_entries es ≡ true → few_entries (without name es) ≡ true
  few-without name [] hs = refl
  few-without name (e ∷ es) hs =
      let both = and_parts (has_few most e.1) (few_entries es) hs in
      few-if (nat_eq name e.0) (without name es) (e ∷ without name es) (few-without name es both.1)
      (and_from (has_few most e.1) (few_entries (without name es)) both.0 (few-without name es both.1))
    where
      few-if : (b : Bool) (a c : Entries) → few_entries a ≡ true → few_entries c ≡ true
          → few_entries (if b then a else c) ≡ true
      few-if true a c h i = h
      few-if false a c h i = i

  -- some over others
  pub few-over : (es more : Entries) → few_entries es ≡ true → few_entries more ≡ true
      → few_entries (over es more) ≡ true
  few-over [] more hs hm = hm
  few-over (e ∷ es) more hs hm =
      let both = and_parts (has_few most e.1) (few_entries es) hs in
      few-with e.0 e.1 (over es more) both.0 (few-over es more both.1 hm)

  -- the entry of a name, or nothing
  pub few-entry : (name : ℕ) (es : Entries) → few_entries es ≡ true
      → parallel_members (or_nothing (entry name es)) ≤ most
  few-entry name [] hs = omega arith
  few-entry name (e ∷ es) hs =
      let both = and_parts (has_few most e.1) (few_entries es) hs in
      few-if (nat_eq name e.0) (Some e.1) (entry name es) (leb-true (parallel_members e.1) most both.0)
      (few-entry name es both.1)
    where
      few-if : (b : Bool) (a c : Option Proc) → parallel_members (or_nothing a) ≤ most
          → parallel_members (or_nothing c) ≤ most
          → parallel_members (or_nothing (if b then a else c)) ≤ most
      few-if true a c h i = h
      few-if false a c h i = i

  -- a table with one handler more
  few-with_handler : (q : ℕ) (k : HandlerKey) (p : Proc) (h : Table) → has_few most p ≡ true
      → handlers_have_few most h ≡ true
      → handlers_have_few most (with_handler q k p h) ≡ true
  few-with_handler q key.This p h e hs =
      let both = and_parts (few_entries h.faults) (few_entries h.scopes) hs in
      and_from (few_entries h.faults) (few_entries (with q p h.scopes)) both.0 (few-with q p h.scopes e both.1)
  few-with_handler q (key.Fault f) p h e hs =
      let both = and_parts (few_entries h.faults) (few_entries h.scopes) hs in
      and_from (few_entries (with f p h.faults)) (few_entries h.scopes) (few-with f p h.faults e both.0) both.1
  few-with_handler q (key.Scope r) p h e hs =
      let both = and_parts (few_entries h.faults) (few_entries h.scopes) hs in
      and_from (few_entries h.faults) (few_entries (with r p h.scopes)) both.0 (few-with r p h.scopes e both.1)

  -- a handler within the limits
  few-handler : (p : Proc) → most_forms ≤ most → is_handler p ≡ true → has_few most p ≡ true
  few-handler p le e =
      let small = leb-true (forms p) most_forms (and_parts (nat_le (forms p) most_forms) (nat_le (levels p) most_levels)
      e).0 in
      le-leb (parallel_members p) most (omega (arith, members-forms p, small, le))

  -- handlers that fit, over a table
  few-put_over : (q : ℕ) (h : Table) (list : HandlerList) (new : Table) → most_forms ≤ most → fits q h list ≡ true
      → handlers_have_few most new ≡ true → handlers_have_few most (put_over q h list new) ≡ true
  few-put_over q h no_handlers new le e hs = hs
  few-put_over q h (handler k p list) new le e hs =
      let p' = taken_in q h k p in
      let both = and_parts (is_handler p') (fits q h list) e in
      few-put_over q h list (with_handler q k p' new) le both.1
      (few-with_handler q k p' new (few-handler p' le both.0) hs)

  -- a table with handlers that fit
  pub few-plus : (q : ℕ) (h : Table) (list : HandlerList) → most_forms ≤ most → fits q h list ≡ true
      → handlers_have_few most h ≡ true
      → handlers_have_few most (plus q h list) ≡ true
  few-plus q h list le e hs = few-put_over q h list h le e hs

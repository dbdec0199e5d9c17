-- How many strands a session draws.
use Rattle.std.specs.Prelude.{◌≡◌, ℕ, ◌+◌, ◌*◌, ◌≤◌, Bool, true, ◌&&◌, nat_le, List, length, Some}
use Rattle.std.specs.List.{list_all}
use Rattle.behaviour_tree.specs.declared.words.Given.{Given}
use Rattle.behaviour_tree.specs.Data.{Proc, Procs, no_procs, proc, ProgramParts}
use Rattle.behaviour_tree.specs.FormedBehaviours.{parallel_members, members_within, members_of_handlers}
use Rattle.session_calculus.specs.Tables.{Table, most_forms}
use Rattle.session_calculus.specs.Terms.{Term, Strands, done, place, thrown, seq, par, in_scope}
use Rattle.session_calculus.specs.Terms.{exec, fail, wait, dead_wait, prot, no_strands, strand}
use Rattle.session_calculus.specs.After.{Config, Done, after, first_config}
use Rattle.session_calculus.specs.Runs.{TakenStep, Leads}

abbrev mutual
  -- how many members the parallels have in all that a term may still start, its tables left out
  pub members_in : Term → ℕ
  members_in (place p) = parallel_members p
  members_in (seq t rest) = members_in t + members_within rest
  members_in (par ts) = members_among ts
  members_in (in_scope q t h u) = members_in t
  members_in (exec m o y t) = members_in t
  members_in (fail m f t) = members_in t
  members_in (wait k port op x list) = members_of_handlers list
  members_in (dead_wait k port op list) = members_of_handlers list
  members_in (prot t) = members_in t
  members_in done = 0
  members_in (thrown f) = 0

  -- the same of the members of a parallel
  pub members_among : Strands → ℕ
  members_among no_strands = 0
  members_among (strand n t ts) = members_in t + members_among ts

-- a behaviour whose parallels have at most so many members in all
abbrev pub has_few : ℕ → Proc → Bool
has_few most p = nat_le (parallel_members p) most

-- each of some behaviours
abbrev pub have_few : ℕ → Procs → Bool
have_few most no_procs = true
have_few most (proc p ps) = has_few most p && have_few most ps

-- each handler of a table
abbrev pub handlers_have_few : ℕ → Table → Bool
handlers_have_few most h = list_all (λ e. has_few most e.1) h.faults && list_all (λ e. has_few most e.1) h.scopes

abbrev mutual
  -- each behaviour that a term may still start, those of its tables too
  pub is_within_few : ℕ → Term → Bool
  is_within_few most (place p) = has_few most p
  is_within_few most (seq t rest) = is_within_few most t && have_few most rest
  is_within_few most (par ts) = are_within_few most ts
  is_within_few most (in_scope q t h u) = is_within_few most t && handlers_have_few most h
  is_within_few most (exec m o y t) = is_within_few most t
  is_within_few most (fail m f t) = is_within_few most t
  is_within_few most (wait k port op x list) = nat_le (members_of_handlers list) most
  is_within_few most (dead_wait k port op list) = nat_le (members_of_handlers list) most
  is_within_few most (prot t) = is_within_few most t
  is_within_few most done = true
  is_within_few most (thrown f) = true

  -- each member of a parallel
  pub are_within_few : ℕ → Strands → Bool
  are_within_few most no_strands = true
  are_within_few most (strand n t ts) = is_within_few most t && are_within_few most ts

-- what a session has drawn and may still draw by what stands in its term
abbrev pub drawn_in_all : Config → ℕ
drawn_in_all c = c.next + members_in c.form

-- An event adds at most as many as one behaviour or one handler has.
abbrev pub AddsFew : Type 0
AddsFew =
    (parts : ProgramParts) (service most : ℕ) (c : Config) (n : ℕ) (g : Given) (d : Done)
    → most_forms ≤ most → is_within_few most c.form ≡ true → after parts service c n g ≡ Some d
    → (is_within_few most d.config.form ≡ true) × (drawn_in_all d.config ≤ drawn_in_all c + most)

-- So a session of a behaviour with at most so many members has drawn at most as many times that as it had events, and
-- once more; strand 0 is drawn beside.
abbrev pub DrawsFew : Type 0
DrawsFew =
    (parts : ProgramParts) (service most : ℕ) (p : Proc) (steps : List TakenStep) (last : Config)
    → most_forms ≤ most → has_few most p ≡ true → Leads parts service (first_config p) steps last
    → drawn_in_all last ≤ most * (length steps + 1) + 1

-- A strand that stands twice, as it never does in a run: each walk goes to the first member that it stands in.
use Rattle.std.specs.Prelude.{◌≡◌, false, [], Option, None, Some, option_map}
use Rattle.std.proofs.Common.{refl}
use Rattle.jolie_trees.specs.Trees.{void_tree}
use Rattle.behaviour_tree.specs.declared.words.Kind.TheVariants as kind
use Rattle.behaviour_tree.specs.declared.words.Need.TheVariants as need
use Rattle.behaviour_tree.specs.declared.words.Given.{Given}
use Rattle.behaviour_tree.specs.declared.words.Given.TheVariants as given
use Rattle.behaviour_tree.specs.declared.words.Outcome.TheVariants as outcome
use Rattle.behaviour_tree.specs.Data.{Proc, nothing, choice, no_branches, one_way, ProgramParts}
use Rattle.session_calculus.specs.Names.{main}
use Rattle.session_calculus.specs.Tables.{empty}
use Rattle.session_calculus.specs.Terms.{bare, done, place, par, in_scope, fail, prot, no_strands, strand, live}
use Rattle.session_calculus.specs.After.{Config, after}
use Rattle.session_calculus.specs.Laws.{place_in}
use Rattle.test_calculus.specs.Told.{Told, told, told_of}

-- a program without anything
abbrev bare_program : ProgramParts
bare_program = record { types = []; interfaces = []; services = []; names = [] }

-- a choice of one operation
abbrev awaits : Proc
awaits = choice (one_way 0 None nothing no_branches)

-- strand 1 is a request that failed, and a choice too
abbrev doubled : Config
doubled = record {
  form = in_scope main (par (strand 1 (prot (fail 7 (bare 5) done)) (strand 1 (place awaits) no_strands))) empty live;
  store = void_tree;
  next = 2;
  call = 0;
  ended = false;
}

-- what is told of strand 1
abbrev tried : Given → Option Told
tried g = option_map (told_of g) (after bare_program 0 doubled 1 g)

pub first_answers : tried given.Nothing ≡ Some (told 1 kind.Reply 7 0 0 (need.Reply 7 (outcome.Fault [] void_tree)))
first_answers = refl

pub second_takes_nothing : tried (given.Mail 8 0 void_tree) ≡ None
second_takes_nothing = refl

pub second_is_no_place : place_in 1 0 doubled.form ≡ None
second_is_no_place = refl

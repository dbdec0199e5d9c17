-- What is understood of words, from what the parser makes of them.
use Rattle.std.specs.Prelude.{◌≡◌, ◌≤◌, ℕ, Bool, true, false, List, [], Option, Some, None, option_map, if◌then◌else◌, find, refl, IfSome, IsSome, is_some, Contains}
use Rattle.std.specs.Str.Parse.{digits_value, without_leading_plus}
use Rattle.std.specs.List.{AllByRecursion as Each}
use Rattle.std.proofs.Common.{◌∙◌, ap, sym, subst, inl, inr, arith}
use Rattle.std.proofs.lemmas.Option.{none-some, same_Some}
use Rattle.std.proofs.lemmas.List.Elements.{All-contains_itself, recursion_from_All}
use Rattle.clap.specs.Walk.{Text, answers_to, rows_after, stop_after}
use Rattle.clap.specs.ValueTests.{is_unsigned_in}
use Rattle.clap.specs.declared.builder.value_parser.ValueParser.TheVariants as parser
use Rattle.clap.proofs.ValueTestLemmas.{accepts-Accepts}
use Rattle.clap.specs.Simple.{Shape, built, entered, label_of, names_of, rows_at}
use Rattle.clap.specs.Words.{HasKind, IsAmong, fault_of, kind_of, subcommand_of}
use Rattle.clap.specs.declared.error.Error.{Error}
use Rattle.clap.specs.declared.error.kind.ErrorKind.{ErrorKind}
use Rattle.clap.specs.declared.error.kind.ErrorKind.TheVariants as kind
use Rattle.main_commands.specs.Grammar.{program}
use Rattle.main_commands.specs.Said.{IsFound, IsToldOf, command_in, load_in}
use Rattle.main_commands.specs.Numbers.{most_connections, most_events, most_lines, number_of}
use Rattle.main_commands.specs.Usage.{Asked, IsCaused, IsPlainly, IsUnderstood, Values, action_of, asked_in, budget_by, command_with, connections_by, file_verb, file_words, list_words, name_of, number_by, operand_in, picks_by, said_by, values_in, verb_of, with_operand}
use Rattle.main_commands.specs.Usage as usage
use Rattle.main_commands.specs.declared.table.Action.{Action}
use Rattle.main_commands.specs.declared.table.Action.TheVariants as action
use Rattle.main_commands.specs.declared.table.Verb.{Verb}
use Rattle.main_commands.specs.declared.table.Verb.TheVariants as verb
use Rattle.main_commands.specs.declared.words.Command.{Command}
use Rattle.main_commands.specs.declared.words.Words.{Words}
use Rattle.main_commands.specs.declared.words.Words.TheVariants as words
use Rattle.main_commands.proofs.Plain.{asked_of, asks_for, name_is, plain_line_enters, plain_line_is_faultless}
use Rattle.main_commands.proofs.Origins.{IsFit, first_comes, fit_is, fits}
use Rattle.main_commands.proofs.Entered.{HasStop, stop_has}
use Rattle.main_commands.proofs.ProgramBuilt.{Suits, bare_names, each_of, found_shape, operand, shapes_suit, top_rules}
use Rattle.main_commands.proofs.Faultless.{faultless_enters}

-- ---- what is asked for comes from the words

module _ (P : Text → Type 0) where
  abbrev pub ComesFrom : Asked → Type 0
  ComesFrom a = P (name_of a.verb) × P a.operand

  asked_comes : (act : Verb) (given : Option Text) (values : Values) (a : Asked) → P (name_of act) → IfSome given P → with_operand (Some act) given values ≡ Some a
      → ComesFrom a
  asked_comes act None values a name has e = absurd (none-some a e)
  asked_comes act (Some operand) values a name has e = subst ComesFrom (same_Some (asked_of act operand values) a e) (name, has)

  named_comes : (word : Text) (asked : Option Verb) (given : Option Text) (values : Values) (a : Asked) → verb_of word ≡ asked → P word → IfSome given P
      → with_operand asked given values ≡ Some a → ComesFrom a
  named_comes word None given values a is name has e = absurd (none-some a e)
  named_comes word (Some act) given values a is name has e = asked_comes act given values a (subst P (name_is word act is) name) has e

  shape_comes : (s : Shape) (words : List Text) (a : Asked) → Suits s → P s.name → Each P words → asked_in (Some (rows_at s words)) ≡ Some a → ComesFrom a
  shape_comes s words a suit name has e =
      named_comes s.name (verb_of s.name) (operand_in (rows_after s.rules [] words)) (values_in (rows_after s.rules [] words)) a refl name
      (first_comes operand P s.rules (each_of (fits operand) (IsFit operand) s.rules (fit_is operand) suit.1) words has) e

  found_comes : (found : Option Shape) (word : Text) (words : List Text) (a : Asked) → IfSome found (λ s. Suits s × (s.name ≡ word)) → P word → Each P words
      → asked_in (option_map (λ s. rows_at s words) found) ≡ Some a → ComesFrom a
  found_comes None word words a is p has e = absurd (none-some a e)
  found_comes (Some s) word words a is p has e = shape_comes s words a is.0 (subst P (sym is.1) p) has e

  stop_comes : (stop : Option (Text × List Text)) (a : Asked) → HasStop P top_rules (names_of (built program)) bare_names stop
      → asked_in (entered (built program) stop) ≡ Some a → ComesFrom a
  stop_comes None a has e = absurd (none-some a e)
  stop_comes (Some p) a has e =
      found_comes (find (λ s. answers_to p.0 (label_of s)) (built program).subs) p.0 p.1 a (found_shape p.0 (built program).subs shapes_suit) has.0 has.1 e

  line_comes : (line : List Text) (a : Asked) → Each P line → asked_in (subcommand_of program line) ≡ Some a → ComesFrom a
  line_comes line a has e = stop_comes (stop_after top_rules (names_of (built program)) line) a (stop_has P top_rules (names_of (built program)) bare_names line has) e

-- a command was asked for
abbrev pub IsEntered : List (List ℕ) → Asked → Type 0
IsEntered line a = asked_in (subcommand_of program line) ≡ Some a

line_has_asked : (line : List (List ℕ)) (a : Asked) → IsEntered line a → Contains line (name_of a.verb) × Contains line a.operand
line_has_asked line a e = line_comes (Contains line) line a (recursion_from_All (Contains line) line (All-contains_itself line)) e

-- ---- what was asked for

-- the number of an option is one from 1 to the most
module _ (most : ℕ) (some : 1 ≤ most) where
  number_within : (text : List ℕ) (b : Bool) → is_unsigned_in 1 most text ≡ b
      → (1 ≤ (if b then digits_value 10 (without_leading_plus text) else most))
      × ((if b then digits_value 10 (without_leading_plus text) else most) ≤ most)
  number_within text true is = let has = accepts-Accepts false (parser.Unsigned 1 most) text is in (has.2, has.3)
  number_within text false is = (some, omega arith)

  number_in_range : (given : Option (List ℕ)) → (1 ≤ number_by most given) × (number_by most given ≤ most)
  number_in_range None = (some, omega arith)
  number_in_range (Some text) = number_within text (is_unsigned_in 1 most text) refl

-- the number of lines is at most the most
lines_within : (text : List ℕ) (b : Bool) → is_unsigned_in 0 most_lines text ≡ b
    → (if b then digits_value 10 (without_leading_plus text) else most_lines) ≤ most_lines
lines_within text true is = (accepts-Accepts false (parser.Unsigned 0 most_lines) text is).3
lines_within text false is = omega arith

same_command : (c d : Command) → words.Command c ≡ words.Command d → c ≡ d
same_command c d e = same_Some c d (ap command_in e)

-- a command that is said has the action, the file and the numbers that were asked for
record IsMade (a : Asked) (c : Command) : Type 0 where
  by_action : action_of a.verb ≡ Some c.action
  of_file : a.operand ≡ c.file
  budget : budget_by a.values.budget ≡ c.budget
  connections : connections_by a.values.connections ≡ c.connections

-- what is said of a command over a file, by its picks
abbrev words_with : Action → List ℕ → Values → Option (List ℕ) → Words
words_with act file values picks = elim picks [
  | None ↦ words.UsageError list_words
  | Some picks ↦ words.Command (command_with act file values picks)
]

made_with : (a : Asked) (act : Action) (c : Command) (picks : Option (List ℕ)) → action_of a.verb ≡ Some act
    → words_with act a.operand a.values picks ≡ words.Command c → IsMade a c
made_with a act c None is e = absurd (none-some c (ap command_in e))
made_with a act c (Some picks) is e =
    let same = same_command (command_with act a.operand a.values picks) c e in
    record {
      by_action = is ∙ ap (λ (c : Command). Some c.action) same;
      of_file = ap (λ (c : Command). c.file) same;
      budget = ap (λ (c : Command). c.budget) same;
      connections = ap (λ (c : Command). c.connections) same;
    }

-- what is said of what was asked for, by what it does with a file
abbrev words_by : Asked → Option Action → Words
words_by a act = elim act [
  | None ↦ words.Load (number_of 0 most_lines a.operand)
  | Some act ↦ file_words act a.operand a.values
]

made_by : (a : Asked) (c : Command) (act : Option Action) → action_of a.verb ≡ act → words_by a act ≡ words.Command c → IsMade a c
made_by a c None is e = absurd (none-some c (ap command_in e))
made_by a c (Some act) is e = made_with a act c (picks_by a.values.list) is e

made_of : (a : Asked) (c : Command) → said_by a ≡ words.Command c → IsMade a c
made_of a c e = made_by a c (action_of a.verb) refl e

-- a command over a file is asked for by its name
verb_is : (v : Verb) (act : Action) → action_of v ≡ Some act → v ≡ file_verb act
verb_is verb.Check act e = ap file_verb (same_Some action.Check act e)
verb_is verb.Explain act e = ap file_verb (same_Some action.Explain act e)
verb_is verb.Print act e = ap file_verb (same_Some action.Print act e)
verb_is verb.Run act e = ap file_verb (same_Some action.Run act e)
verb_is verb.Serve act e = ap file_verb (same_Some action.Serve act e)
verb_is verb.Load act e = absurd (none-some act e)

-- a load that is said was asked for, with these lines
record IsLoad (a : Asked) (n : ℕ) : Type 0 where
  load : a.verb ≡ verb.Load
  lines : number_of 0 most_lines a.operand ≡ n

load_is : (v : Verb) → action_of v ≡ None → v ≡ verb.Load
load_is verb.Check e = absurd (none-some action.Check (sym e))
load_is verb.Explain e = absurd (none-some action.Explain (sym e))
load_is verb.Print e = absurd (none-some action.Print (sym e))
load_is verb.Run e = absurd (none-some action.Run (sym e))
load_is verb.Serve e = absurd (none-some action.Serve (sym e))
load_is verb.Load e = refl

no_load : (act : Action) (file : List ℕ) (values : Values) (n : ℕ) (picks : Option (List ℕ)) → words_with act file values picks ≡ words.Load n → ⊥
no_load act file values n None e = none-some n (ap load_in e)
no_load act file values n (Some picks) e = none-some n (ap load_in e)

load_by : (a : Asked) (n : ℕ) (act : Option Action) → action_of a.verb ≡ act → words_by a act ≡ words.Load n → IsLoad a n
load_by a n None is e = record { load = load_is a.verb is; lines = same_Some (number_of 0 most_lines a.operand) n (ap load_in e) }
load_by a n (Some act) is e = absurd (no_load act a.operand a.values n (picks_by a.values.list) e)

load_of : (a : Asked) (n : ℕ) → said_by a ≡ words.Load n → IsLoad a n
load_of a n e = load_by a n (action_of a.verb) refl e

-- ---- what was understood

-- what is said is right, and of plain words it is what they ask for
pub record IsRight (line : List (List ℕ)) (said : Words) : Type 0 where
  pub understood : IsUnderstood line said
  pub plainly : IsPlainly line said

said_asked : (line : List (List ℕ)) (a : Asked) → fault_of program line ≡ [] → IsEntered line a → IsRight line (said_by a)
said_asked line a none is =
    let has = line_has_asked line a is in
    record {
      plainly = λ w plain.
          let asks = asks_for line w plain in
          ap said_by (same_Some a asks.asked (sym is ∙ plain_line_enters line asks.asked asks.plain)) ∙ asks.says;
      understood = record {
        cause = usage.entered a none is;
        by_name = λ c said. subst (λ (v : Verb). Contains line (name_of v)) (verb_is a.verb c.action (made_of a c said).by_action) has.0;
        of_file = λ c said. subst (Contains line) (made_of a c said).of_file has.1;
        budget = λ c said. subst (λ (n : ℕ). (1 ≤ n) × (n ≤ most_events)) (made_of a c said).budget
            (number_in_range most_events (omega arith) a.values.budget);
        connections = λ c said. subst (λ (n : ℕ). (1 ≤ n) × (n ≤ most_connections)) (made_of a c said).connections
            (number_in_range most_connections (omega arith) a.values.connections);
        load = λ n said.
            let is = load_of a n said in (
              subst (λ (v : Verb). Contains line (name_of v)) is.load has.0,
              subst (λ (n : ℕ). n ≤ most_lines) is.lines (lines_within a.operand (is_unsigned_in 0 most_lines a.operand) refl),
            );
      };
    }

-- something else, of words that are no plain ones
said_otherwise : (line : List (List ℕ)) (said : Words) → command_in said ≡ None → load_in said ≡ None → IsCaused line said
    → ((w : Words) → usage.plain line ≡ Some w → ⊥) → IsRight line said
said_otherwise line said none no_lines why not_plain = record {
  plainly = λ w plain. absurd (not_plain w plain);
  understood = record {
    cause = why;
    by_name = λ c is. absurd (none-some c (sym none ∙ ap command_in is));
    of_file = λ c is. absurd (none-some c (sym none ∙ ap command_in is));
    budget = λ c is. absurd (none-some c (sym none ∙ ap command_in is));
    connections = λ c is. absurd (none-some c (sym none ∙ ap command_in is));
    load = λ n is. absurd (none-some n (sym no_lines ∙ ap load_in is));
  };
}

-- what is said of what was asked for
by_matches : (line : List (List ℕ)) (said : Words) (found : Option Asked) → asked_in (subcommand_of program line) ≡ found → fault_of program line ≡ []
    → IsFound found said → IsRight line said
by_matches line said (Some a) is none same = subst (IsRight line) (sym same) (said_asked line a none is)
by_matches line said None is none same = absurd same

-- what is found is what is said of what was asked for
pub found_said : (asked : Option Asked) (said : Words) → Some said ≡ option_map said_by asked → IsFound asked said
found_said None said e = absurd (none-some said (sym e))
found_said (Some a) said e = same_Some said (said_by a) e

-- a command is there, where the parser finds no fault
pub command_is_there : (line : List (List ℕ)) (rows : _) → rows ≡ subcommand_of program line → fault_of program line ≡ [] → IsSome (asked_in rows)
command_is_there line rows is none =
    ap is_some (ap asked_in is ∙ (faultless_enters line none).1)

-- of words in which the parser finds no fault
pub understood_entered : (line : List (List ℕ)) (said : Words) (rows : _) → rows ≡ subcommand_of program line → fault_of program line ≡ [] → IsFound (asked_in rows) said
    → IsRight line said
understood_entered line said rows is none found =
    by_matches line said (asked_in (subcommand_of program line)) refl none (subst (λ rows. IsFound (asked_in rows) said) is found)

faults_are_there : (line : List (List ℕ)) (k : ErrorKind) → IsAmong k (fault_of program line) → (w : Words) → usage.plain line ≡ Some w → ⊥
faults_are_there line k among w plain =
    let asks = asks_for line w plain in
    subst (IsAmong k) (plain_line_is_faultless line asks.asked asks.plain) among

told_of_kind : (line : List (List ℕ)) (said : Words) (k : ErrorKind) → IsAmong k (fault_of program line) → IsToldOf k said → IsRight line said
told_of_kind line (words.Command c) k among told = absurd told
told_of_kind line (words.Load n) k among told = absurd told
told_of_kind line (words.Help text) k among (memory, inl is) =
    said_otherwise line (words.Help text) refl refl (usage.help text (subst (λ k. IsAmong k (fault_of program line)) is among)) (faults_are_there line k among)
told_of_kind line (words.Help text) k among (memory, inr is) =
    said_otherwise line (words.Help text) refl refl (usage.version text (subst (λ k. IsAmong k (fault_of program line)) is among)) (faults_are_there line k among)
told_of_kind line (words.UsageError text) k among told =
    said_otherwise line (words.UsageError text) refl refl (usage.fault text k among told.1 told.2) (faults_are_there line k among)

not_memory : (k : ErrorKind) (said : Words) → IsToldOf k said → k ≡ kind.OutOfMemory → ⊥
not_memory k (words.Command c) told is = told
not_memory k (words.Load n) told is = told
not_memory k (words.Help text) told is = told.0 is
not_memory k (words.UsageError text) told is = told.0 is

-- of words in which it finds one
pub understood_told : (line : List (List ℕ)) (said : Words) (error : Error) → HasKind (fault_of program line) error → IsToldOf (kind_of error) said → IsRight line said
understood_told line said error (inl is) told = absurd (not_memory (kind_of error) said told is)
understood_told line said error (inr among) told = told_of_kind line said (kind_of error) among told

-- What is found by name is the command that the parser entered.
use Rattle.std.specs.Prelude.{◌≡◌, List, ℕ, Option, Some, None, option_map, codes, refl}
use Rattle.std.proofs.Common.{◌∙◌, ap, ap₂, sym}
use Rattle.std.proofs.lemmas.Option.{none-some, same_Some}
use Rattle.clap.specs.Words.{Row, first_of, first_value, found_of, rows_of, subcommand_name_of, subcommand_rows_of}
use Rattle.clap.specs.declared.parser.ArgMatches.{ArgMatches}
use Rattle.clap.proofs.WalkLemmas.{first_value-rows}
use Rattle.main_commands.specs.Numbers.{most_lines, number_of}
use Rattle.main_commands.specs.Usage.{action_of, asked_in, budget_by, connections_by, file_words, list_words, number_by, operand_in, picks_by, said_by, values_in, verb_of, with_operand}
use Rattle.main_commands.specs.declared.table.Action.{Action}
use Rattle.main_commands.specs.declared.table.Verb.{Verb}
use Rattle.main_commands.specs.declared.words.Words.{Words}
use Rattle.main_commands.specs.declared.words.Words.TheVariants as words

map_of_map : {X Y Z : Type 0} (f : Y → Z) (g : X → Y) (o : Option X) → option_map (λ x. f (g x)) o ≡ option_map f (option_map g o)
map_of_map f g None = refl
map_of_map f g (Some x) = refl

name_entered : (m : ArgMatches) → subcommand_name_of m ≡ option_map (λ p. p.0) (subcommand_rows_of m)
name_entered m = map_of_map _ _ _

entered_pair : (o : Option (List ℕ × List Row)) (name : List ℕ) (rows : List Row) → Some name ≡ option_map (λ p. p.0) o
    → Some rows ≡ option_map (λ p. p.1) o → o ≡ Some (name, rows)
entered_pair None name rows e f = absurd (none-some name (sym e))
entered_pair (Some p) name rows e f = ap₂ (λ (n : List ℕ) (r : List Row). Some (n, r)) (sym (same_Some name p.0 e)) (sym (same_Some rows p.1 f))

pub entered_as : (m : ArgMatches) (name : List ℕ) (rows : List Row) (asked : Option Verb) (operand : Option (List ℕ))
    → Some name ≡ subcommand_name_of m → Some rows ≡ option_map (λ p. p.1) (subcommand_rows_of m) → asked ≡ verb_of name → operand ≡ operand_in rows
    → with_operand asked operand (values_in rows) ≡ asked_in (subcommand_rows_of m)
entered_as m name rows asked operand e f a b =
    ap₂ (λ asked operand. with_operand asked operand (values_in rows)) a b
    ∙ sym (ap asked_in (entered_pair (subcommand_rows_of m) name rows (e ∙ name_entered m) f))

-- what is said, by what is done with a file
abbrev words_by : List ℕ → List Row → Option Action → Words
words_by operand rows act = elim act [
  | None ↦ words.Load (number_of 0 most_lines operand)
  | Some act ↦ file_words act operand (values_in rows)
]

module _ (m : ArgMatches) (name : List ℕ) (rows : List Row) (asked : Verb) (operand : List ℕ) (named : Some name ≡ subcommand_name_of m)
    (found : Some rows ≡ option_map (λ p. p.1) (subcommand_rows_of m)) (is : Some asked ≡ verb_of name) (has : Some operand ≡ operand_in rows) where
  said_as : (act : Option Action) → act ≡ action_of asked → Some (words_by operand rows act) ≡ option_map said_by (asked_in (subcommand_rows_of m))
  said_as act e =
      ap (λ act. Some (words_by operand rows act)) e
      ∙ ap (option_map said_by) (entered_as m name rows (Some asked) (Some operand) named found is has)

  pub load_said : (n : ℕ) → None ≡ action_of asked → n ≡ number_of 0 most_lines operand
      → Some (words.Load n) ≡ option_map said_by (asked_in (subcommand_rows_of m))
  load_said n none e = ap (λ n. Some (words.Load n)) e ∙ said_as None none

  pub file_said : (act : Action) (w : Words) → Some act ≡ action_of asked → w ≡ file_words act operand (values_in rows)
      → Some w ≡ option_map said_by (asked_in (subcommand_rows_of m))
  file_said act w some e = ap (λ w. Some w) e ∙ said_as (Some act) some

-- what is said of a command over a file, by what its options come to
abbrev said_of : Action → List ℕ → ℕ → ℕ → Option (List ℕ) → Words
said_of asked file budget connections picks = elim picks [
  | None ↦ words.UsageError list_words
  | Some picks ↦ words.Command (record { action = asked; file = file; budget = budget; picks = picks; connections = connections })
]

pub said_with : (asked : Action) (file : List ℕ) (rows : List Row) (budget connections : ℕ) (picks : Option (List ℕ))
    → budget ≡ budget_by (first_of (codes "budget") rows) → connections ≡ connections_by (first_of (codes "connections") rows)
    → picks ≡ picks_by (first_of (codes "picks") rows) → said_of asked file budget connections picks ≡ file_words asked file (values_in rows)
said_with asked file rows budget connections picks n k l =
    ap (λ budget. said_of asked file budget connections picks) n
    ∙ ap₂ (λ connections picks. said_of asked file (budget_by (first_of (codes "budget") rows)) connections picks) k l

pub value_found : (m : ArgMatches) (id : List ℕ) (value : Option (List ℕ)) → value ≡ first_value (found_of m) id
    → value ≡ first_of id (rows_of (found_of m))
value_found m id value e = e ∙ first_value-rows (found_of m) id

pub number_found : (most : ℕ) (m : ArgMatches) (id : List ℕ) (given : Option (List ℕ)) (r : ℕ) → given ≡ first_value (found_of m) id
    → r ≡ number_by most given → r ≡ number_by most (first_of id (rows_of (found_of m)))
number_found most m id given r e is = is ∙ ap (number_by most) (value_found m id given e)

pub picks_found : (m : ArgMatches) (given : Option (List ℕ)) (r : Option (List ℕ)) → given ≡ first_value (found_of m) (codes "picks") → r ≡ picks_by given
    → r ≡ picks_by (first_of (codes "picks") (rows_of (found_of m)))
picks_found m given r e is = is ∙ ap picks_by (value_found m (codes "picks") given e)

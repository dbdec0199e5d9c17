-- A line is walked over word by word: first the name of a command, and behind it what is the command's own.
use Rattle.std.specs.Prelude.{◌≡◌, Bool, true, false, List, [], ◌∷◌, ◌++◌, Option, Some, is_some, if◌then◌else◌, unwrap_or, find, fold, refl}
use Rattle.std.proofs.Common.{◌∙◌, ap, ap₂, sym, append_assoc, append-nil}
use Rattle.clap.specs.Walk.{Held, Names, Text, Walk, answers_to, finished, nothing_held, rows_after, settled, walk, walk_from, walked, walked_from}
use Rattle.clap.specs.Simple.{Shape, built, entered, label_of, names_of}
use Rattle.clap.specs.Kinds.{Kinds, or_else}
use Rattle.clap.specs.Faults.{check_fault, defaults_fault, entered_fault, level_fault, settle_fault, turn_fault, walk_fault}
use Rattle.clap.specs.Words.{fault_of, subcommand_of}
use Rattle.main_commands.specs.Grammar.{program}
use Rattle.main_commands.specs.Usage.{asked_in, operand_in, name_of, values_in, with_operand}
use Rattle.main_commands.specs.declared.table.Verb.{Verb}
use Rattle.main_commands.specs.declared.table.Verb.TheVariants as verb

-- ---- the words of a command

-- from one place to another over these words, without a fault
pub record Goes (s : Shape) (w : Walk) (words : List Text) (end : Walk) : Type 0 where
  pub fault : walk_fault s [] w words ≡ []
  pub ends : fold (walked s.rules []) w words ≡ end

pub goes_nowhere : (s : Shape) (w : Walk) → Goes s w [] w
unfolding walk_fault
goes_nowhere s w = record { fault = refl; ends = refl }

-- over one word, and on
pub goes_on : (s : Shape) (w after end : Walk) (word : Text) (rest : List Text) → turn_fault s [] w word ≡ [] → walked s.rules [] w word ≡ after
    → Goes s after rest end → Goes s w (word ∷ rest) end
unfolding walk_fault
goes_on s w after end word rest clean is more = record {
  fault = ap (λ (k : Kinds). or_else k (walk_fault s [] (walked s.rules [] w word) rest)) clean
      ∙ ap (λ (w : Walk). walk_fault s [] w rest) is ∙ more.fault;
  ends = ap (λ (w : Walk). fold (walked s.rules []) w rest) is ∙ more.ends;
}

-- what may be wrong once all words were walked over
abbrev pub end_fault : Shape → Held → Bool → Kinds
end_fault s h has =
    or_else (settle_fault s.rules s.args_override_self h)
    (or_else (defaults_fault (settled s.rules h).rows s.rules) (check_fault s (finished s.rules h) has))

level_is_faultless : (s : Shape) (words : List Text) (end : Walk) → Goes s (walk_from nothing_held) words end → end_fault s end.held false ≡ []
    → level_fault s [] nothing_held words false [] ≡ []
level_is_faultless s words end goes none =
    ap₂ (λ (k : Kinds) (w : Walk). or_else k (or_else [] (end_fault s w.held false))) goes.fault goes.ends ∙ none

-- ---- behind the name

module _ (s : Shape) (names : Names) where
  -- once a command was met all further words are its own
  behind_name : (w : Walk) (name : Text) (done words : List Text) → w.stopped ≡ Some (name, done)
      → fold (walked s.rules names) w words ≡ record w { stopped = Some (name, done ++ words) }
  unfolding walked
  behind_name w name done [] is =
      ap (λ (stop : Option (Text × List Text)). record w { stopped = stop })
      (is ∙ ap (λ (l : List Text). Some (name, l)) (sym (append-nil done)))
  behind_name w name done (word ∷ rest) is =
      ap (λ (w : Walk). fold (walked s.rules names) w rest)
      (ap (λ (stop : Option (Text × List Text)). walked_from s.rules names stop w word) is)
      ∙ behind_name (record w { stopped = Some (name, done ++ word ∷ []) }) name (done ++ word ∷ []) rest refl
      ∙ ap (λ (l : List Text). record w { stopped = Some (name, l) }) (append_assoc done (word ∷ []) rest)

  if_true : (b : Bool) (x y : Kinds) → b ≡ true → (if b then x else y) ≡ x
  if_true true x y is = refl
  if_true false x y is = absurd (let clash : false ≡ true = is in cc)

  -- and are no fault of what stands above it
  none_behind_name : (w : Walk) (name : Text) (done words : List Text) → w.stopped ≡ Some (name, done) → walk_fault s names w words ≡ []
  unfolding walk_fault walked
  none_behind_name w name done [] is = refl
  none_behind_name w name done (word ∷ rest) is =
      ap (λ (k : Kinds). or_else k (walk_fault s names (walked s.rules names w word) rest)) (if_true (is_some w.stopped) [] _ (ap is_some is))
      ∙ ap (λ (stop : Option (Text × List Text)). walk_fault s names (walked_from s.rules names stop w word) rest) is
      ∙ none_behind_name (record w { stopped = Some (name, done ++ word ∷ []) }) name (done ++ word ∷ []) rest refl

-- ---- a line

abbrev top : Shape
top = (built program).top

abbrev all_names : Names
all_names = names_of (built program)

-- the command of an action, as the parser has it
abbrev pub command_shape : Verb → Shape
command_shape act = unwrap_or (find (λ s. answers_to (name_of act) (label_of s)) (built program).subs) top

-- its name is met
abbrev at_name : Text → List Text → Walk
at_name name words = record (walk_from nothing_held) { stopped = Some (name, words) }

name_is_met : (act : Verb) → walked top.rules all_names (walk_from nothing_held) (name_of act) ≡ at_name (name_of act) []
unfolding walked
name_is_met verb.Check = refl
name_is_met verb.Explain = refl
name_is_met verb.Print = refl
name_is_met verb.Run = refl
name_is_met verb.Serve = refl
name_is_met verb.Load = refl

name_is_faultless : (act : Verb) → turn_fault top all_names (walk_from nothing_held) (name_of act) ≡ []
name_is_faultless verb.Check = refl
name_is_faultless verb.Explain = refl
name_is_faultless verb.Print = refl
name_is_faultless verb.Run = refl
name_is_faultless verb.Serve = refl
name_is_faultless verb.Load = refl

line_is_walked : (act : Verb) (words : List Text) → walk top.rules all_names nothing_held (name_of act ∷ words) ≡ at_name (name_of act) words
line_is_walked act words =
    ap (λ (w : Walk). fold (walked top.rules all_names) w words) (name_is_met act)
    ∙ behind_name top all_names (at_name (name_of act) []) (name_of act) [] words refl

above_is_faultless : (act : Verb) (words : List Text) → walk_fault top all_names (walk_from nothing_held) (name_of act ∷ words) ≡ []
unfolding walk_fault
above_is_faultless act words =
    ap (λ (k : Kinds). or_else k (walk_fault top all_names (walked top.rules all_names (walk_from nothing_held) (name_of act)) words)) (name_is_faultless act)
    ∙ ap (λ (w : Walk). walk_fault top all_names w words) (name_is_met act)
    ∙ none_behind_name top all_names (at_name (name_of act) []) (name_of act) [] words refl

-- what may be wrong of a line, by its walk and the faults in it
abbrev fault_by : Kinds → Walk → Kinds
fault_by k w =
    or_else k (or_else (entered_fault (built program) w.stopped) (end_fault top w.held (is_some (entered (built program) w.stopped))))

below_is_faultless : (act : Verb) (words : List Text) → level_fault (command_shape act) [] nothing_held words false [] ≡ []
    → fault_by [] (at_name (name_of act) words) ≡ []
unfolding defaults_fault
below_is_faultless verb.Check words none = ap (λ (k : Kinds). or_else k (end_fault top nothing_held true)) none
below_is_faultless verb.Explain words none = ap (λ (k : Kinds). or_else k (end_fault top nothing_held true)) none
below_is_faultless verb.Print words none = ap (λ (k : Kinds). or_else k (end_fault top nothing_held true)) none
below_is_faultless verb.Run words none = ap (λ (k : Kinds). or_else k (end_fault top nothing_held true)) none
below_is_faultless verb.Serve words none = ap (λ (k : Kinds). or_else k (end_fault top nothing_held true)) none
below_is_faultless verb.Load words none = ap (λ (k : Kinds). or_else k (end_fault top nothing_held true)) none

-- a line whose words the command takes has no fault
pub line_is_faultless : (act : Verb) (words : List Text) (end : Walk) → Goes (command_shape act) (walk_from nothing_held) words end
    → end_fault (command_shape act) end.held false ≡ [] → fault_of program (name_of act ∷ words) ≡ []
line_is_faultless act words end goes none =
    ap₂ fault_by (above_is_faultless act words) (line_is_walked act words)
    ∙ below_is_faultless act words (level_is_faultless (command_shape act) words end goes none)

-- and enters it with what was found then
rows_enter : (act : Verb) (words : List Text)
    → asked_in (entered (built program) (Some (name_of act, words)))
    ≡ with_operand (Some act) (operand_in (rows_after (command_shape act).rules [] words)) (values_in (rows_after (command_shape act).rules [] words))
rows_enter verb.Check words = refl
rows_enter verb.Explain words = refl
rows_enter verb.Print words = refl
rows_enter verb.Run words = refl
rows_enter verb.Serve words = refl
rows_enter verb.Load words = refl

pub line_enters : (act : Verb) (words : List Text) (end : Walk) → Goes (command_shape act) (walk_from nothing_held) words end
    → asked_in (subcommand_of program (name_of act ∷ words))
    ≡ with_operand (Some act) (operand_in (finished (command_shape act).rules end.held)) (values_in (finished (command_shape act).rules end.held))
line_enters act words end goes =
    ap (λ (w : Walk). asked_in (entered (built program) w.stopped)) (line_is_walked act words)
    ∙ rows_enter act words
    ∙ ap (λ (w : Walk). with_operand (Some act) (operand_in (finished (command_shape act).rules w.held)) (values_in (finished (command_shape act).rules w.held)))
    goes.ends

-- What the parser makes of words in their plain form.
use Rattle.std.specs.Prelude.{◌≡◌, ◌==◌, ◌&&◌, ℕ, Bool, true, false, not, List, [], ◌∷◌, Option, Some, None, if◌then◌else◌, option_map, option_and_then, bytes_eq, codes, find, is_some, refl}
use Rattle.std.specs.List.{AllByRecursion as Each}
use Rattle.std.proofs.Common.{◌∙◌, ap, sym, subst, cond}
use Rattle.std.proofs.lemmas.Option.{none-some, same_Some}
use Rattle.std.proofs.lemmas.Slice.Eq.{bytes_eq-Decides}
use Rattle.clap.specs.Lexer.{long_of, short_of}
use Rattle.clap.specs.ValueTests.{is_unsigned_in}
use Rattle.clap.specs.Faults.{defaults_fault, turn_fault}
use Rattle.clap.specs.Simple.{Shape}
use Rattle.clap.specs.Walk.{Held, Row, Waiting, Walk, finished, idle, nothing_held, option, settled_rows, walk_from, walked}
use Rattle.clap.specs.Words.{fault_of, subcommand_of}
use Rattle.main_commands.specs.Numbers.{most_connections, most_events, picks_of}
use Rattle.main_commands.specs.Table.{CommandWords, commands}
use Rattle.main_commands.specs.Grammar.{program}
use Rattle.main_commands.specs.Usage.{Asked, Values, verb_of, are_connections, are_picks, asked_in, operand_in, is_budget, is_option, takes_operand, is_with_value, name_of, no_values, plain_asked, plain_of, plain_pair, said_by, values_in, with_operand}
use Rattle.main_commands.specs.Usage as usage
use Rattle.main_commands.specs.declared.table.Verb.{Verb}
use Rattle.main_commands.specs.declared.table.Verb.TheVariants as verb
use Rattle.main_commands.specs.declared.words.Words.{Words}
use Rattle.main_commands.proofs.Origins.{both_true, is_no_flag}
use Rattle.main_commands.proofs.Walking.{Goes, command_shape, end_fault, goes_nowhere, goes_on, line_enters, line_is_faultless}

-- ---- a word that is no option

not_long : (b : ℕ) (bs : List ℕ) → (b == 45) ≡ false → long_of (b ∷ bs) ≡ None
not_long b bs e = rw e refl

not_short : (b : ℕ) (bs : List ℕ) → (b == 45) ≡ false → short_of (b ∷ bs) ≡ None
not_short b bs e = rw e refl

not_dashes : (b : ℕ) (bs : List ℕ) → (b == 45) ≡ false → bytes_eq (b ∷ bs) (45 ∷ 45 ∷ []) ≡ false
not_dashes b bs e = rw e refl

-- what the parser asks of it
record IsWord (w : List ℕ) : Type 0 where
  dashes : bytes_eq w (45 ∷ 45 ∷ []) ≡ false
  long : long_of w ≡ None
  short : short_of w ≡ None

is_word : (w : List ℕ) → is_option w ≡ false → IsWord w
is_word [] e = record { dashes = refl; long = refl; short = refl }
is_word (b ∷ bs) e = record { dashes = not_dashes b bs e; long = not_long b bs e; short = not_short b bs e }

-- ---- what the parser makes of plain words

abbrev pub asked_of : Verb → List ℕ → Values → Asked
asked_of asked operand values = record { verb = asked; operand = operand; values = values }

-- the line of a command is met without a fault, and asks for the command with these values
record IsMet (act : Verb) (operand : List ℕ) (options : List (List ℕ)) (v : Values) : Type 0 where
  faultless : fault_of program (name_of act ∷ operand ∷ options) ≡ []
  enters : asked_in (subcommand_of program (name_of act ∷ operand ∷ options)) ≡ Some (asked_of act operand v)

-- what a command asks for by what is held
abbrev asked_by : Verb → Held → Option Asked
asked_by act h =
    with_operand (Some act) (operand_in (finished (command_shape act).rules h)) (values_in (finished (command_shape act).rules h))

line_is_met : (act : Verb) (operand : List ℕ) (options : List (List ℕ)) (v : Values) (end : Walk)
    → Goes (command_shape act) (walk_from nothing_held) (operand ∷ options) end → end_fault (command_shape act) end.held false ≡ []
    → asked_by act end.held ≡ Some (asked_of act operand v) → IsMet act operand options v
line_is_met act operand options v end goes clean has = record {
  faultless = line_is_faultless act (operand ∷ options) end goes clean;
  enters = line_enters act (operand ∷ options) end goes ∙ has;
}

-- ---- word by word

-- a operand's words are held, behind further rows
abbrev held_at : List Row → List ℕ → List (List ℕ) → Held
held_at rows id values = record { rows = rows; pending = Some (id, values); skip = 0 }

-- the walk between two words, at the second position
abbrev walk_at : Held → Waiting → Walk
walk_at held waiting = record { held = held; waiting = waiting; position = 2; is_trailing = false; stopped = None }

-- the operand was met
abbrev at_operand : List ℕ → Walk
at_operand operand = walk_at (held_at [] (codes "operand") (operand ∷ [])) idle

-- an option was met, and waits for its value
abbrev at_option : List Row → List ℕ → Walk
at_option rows id = walk_at (held_at rows id []) (option id)

-- and it has it
abbrev at_value : List Row → List ℕ → List ℕ → Walk
at_value rows id value = walk_at (held_at rows id (value ∷ [])) idle

operand_goes : (act : Verb) (operand : List ℕ) (rest : List (List ℕ)) (end : Walk) → IsWord operand → Goes (command_shape act) (at_operand operand) rest end
    → Goes (command_shape act) (walk_from nothing_held) (operand ∷ rest) end
unfolding walked
operand_goes verb.Check operand rest end f more =
    goes_on (command_shape verb.Check) (walk_from nothing_held) (at_operand operand) end operand rest (rw (f.dashes, f.long, f.short) refl)
    (rw (f.dashes, f.long, f.short) refl) more
operand_goes verb.Explain operand rest end f more =
    goes_on (command_shape verb.Explain) (walk_from nothing_held) (at_operand operand) end operand rest (rw (f.dashes, f.long, f.short) refl)
    (rw (f.dashes, f.long, f.short) refl) more
operand_goes verb.Print operand rest end f more =
    goes_on (command_shape verb.Print) (walk_from nothing_held) (at_operand operand) end operand rest (rw (f.dashes, f.long, f.short) refl)
    (rw (f.dashes, f.long, f.short) refl) more
operand_goes verb.Run operand rest end f more =
    goes_on (command_shape verb.Run) (walk_from nothing_held) (at_operand operand) end operand rest (rw (f.dashes, f.long, f.short) refl)
    (rw (f.dashes, f.long, f.short) refl) more
operand_goes verb.Serve operand rest end f more =
    goes_on (command_shape verb.Serve) (walk_from nothing_held) (at_operand operand) end operand rest (rw (f.dashes, f.long, f.short) refl)
    (rw (f.dashes, f.long, f.short) refl) more
operand_goes verb.Load operand rest end f more =
    goes_on (command_shape verb.Load) (walk_from nothing_held) (at_operand operand) end operand rest (rw (f.dashes, f.long, f.short) refl)
    (rw (f.dashes, f.long, f.short) refl) more

-- ---- the operand alone

alone_is_clean : (act : Verb) (operand : List ℕ) → takes_operand act operand ≡ true → end_fault (command_shape act) (at_operand operand).held false ≡ []
unfolding defaults_fault
alone_is_clean verb.Check operand taken = refl
alone_is_clean verb.Explain operand taken = refl
alone_is_clean verb.Print operand taken = refl
alone_is_clean verb.Run operand taken = refl
alone_is_clean verb.Serve operand taken = refl
alone_is_clean verb.Load operand taken = rw taken refl

alone_has : (act : Verb) (operand : List ℕ) → asked_by act (at_operand operand).held ≡ Some (asked_of act operand no_values)
alone_has verb.Check operand = refl
alone_has verb.Explain operand = refl
alone_has verb.Print operand = refl
alone_has verb.Run operand = refl
alone_has verb.Serve operand = refl
alone_has verb.Load operand = refl

alone_is_met : (act : Verb) (operand : List ℕ) → IsWord operand → takes_operand act operand ≡ true → IsMet act operand [] no_values
alone_is_met act operand f taken =
    line_is_met act operand [] no_values (at_operand operand) (operand_goes act operand [] (at_operand operand) f (goes_nowhere _ _))
    (alone_is_clean act operand taken) (alone_has act operand)

-- ---- commands with two options

-- a command with a budget and another option
data WithTwo : Type 0 where
  runs : WithTwo
  serves : WithTwo

-- one of its options: the budget, or the other one
data Side : Type 0 where
  left : Side
  right : Side

abbrev beside : Side → Side
beside left = right
beside right = left

abbrev act_of : WithTwo → Verb
act_of runs = verb.Run
act_of serves = verb.Serve

abbrev shape_of : WithTwo → Shape
shape_of t = command_shape (act_of t)

-- the name of an option
abbrev id_of : WithTwo → Side → List ℕ
id_of runs left = codes "budget"
id_of runs right = codes "picks"
id_of serves left = codes "budget"
id_of serves right = codes "connections"

-- the word that begins it
abbrev word_of : WithTwo → Side → List ℕ
word_of runs left = codes "--budget"
word_of runs right = codes "--picks"
word_of serves left = codes "--budget"
word_of serves right = codes "--connections"

-- the values that it takes
abbrev takes : WithTwo → Side → List ℕ → Bool
takes runs left value = is_unsigned_in 1 most_events value
takes runs right value = is_some (picks_of value)
takes serves left value = is_unsigned_in 1 most_events value
takes serves right value = is_unsigned_in 1 most_connections value

-- what both options were given, by what one of them was, or one and then the other
abbrev given_one : Side → List ℕ → Option (List ℕ) × Option (List ℕ)
given_one left v = (Some v, None)
given_one right v = (None, Some v)

abbrev given_two : Side → List ℕ → List ℕ → Option (List ℕ) × Option (List ℕ)
given_two left v w = (Some v, Some w)
given_two right v w = (Some w, Some v)

-- the values of the command then
abbrev values_of : WithTwo → Option (List ℕ) × Option (List ℕ) → Values
values_of runs given = record no_values { budget = given.0; list = given.1 }
values_of serves given = record no_values { budget = given.0; connections = given.1 }

-- the rows once what was pending is used
abbrev rows_with : WithTwo → List Row → List ℕ → List ℕ → List Row
rows_with t rows id value = settled_rows (shape_of t).rules (Some (id, value ∷ [])) rows

abbrev operand_rows : WithTwo → List ℕ → List Row
operand_rows t operand = rows_with t [] (codes "operand") operand

-- one option was met behind the operand
abbrev at_one : WithTwo → Side → List ℕ → List ℕ → Walk
at_one t o operand v = at_value (operand_rows t operand) (id_of t o) v

-- and the other one behind it
abbrev one_rows : WithTwo → Side → List ℕ → List ℕ → List Row
one_rows t o operand v = rows_with t (operand_rows t operand) (id_of t o) v

abbrev at_two : WithTwo → Side → List ℕ → List ℕ → List ℕ → Walk
at_two t o operand v w = at_value (one_rows t o operand v) (id_of t (beside o)) w

-- the word behind an option is its value
value_is_met : (t : WithTwo) (o : Side) (rows : List Row) (v : List ℕ) → IsWord v
    → walked (shape_of t).rules [] (at_option rows (id_of t o)) v ≡ at_value rows (id_of t o) v
unfolding walked
value_is_met runs left rows v g = rw (g.dashes, g.long, g.short) refl
value_is_met runs right rows v g = rw (g.dashes, g.long, g.short) refl
value_is_met serves left rows v g = rw (g.dashes, g.long, g.short) refl
value_is_met serves right rows v g = rw (g.dashes, g.long, g.short) refl

value_is_faultless : (t : WithTwo) (o : Side) (rows : List Row) (v : List ℕ) → IsWord v
    → turn_fault (shape_of t) [] (at_option rows (id_of t o)) v ≡ []
value_is_faultless runs left rows v g = rw (g.dashes, g.long, g.short) refl
value_is_faultless runs right rows v g = rw (g.dashes, g.long, g.short) refl
value_is_faultless serves left rows v g = rw (g.dashes, g.long, g.short) refl
value_is_faultless serves right rows v g = rw (g.dashes, g.long, g.short) refl

-- an option with its value, where what was pending is used first
option_goes : (t : WithTwo) (o : Side) (after : List Row) (w : Walk) (v : List ℕ) (rest : List (List ℕ)) (end : Walk) → IsWord v
    → turn_fault (shape_of t) [] w (word_of t o) ≡ [] → walked (shape_of t).rules [] w (word_of t o) ≡ at_option after (id_of t o)
    → Goes (shape_of t) (at_value after (id_of t o) v) rest end → Goes (shape_of t) w (word_of t o ∷ v ∷ rest) end
option_goes t o after w v rest end g clean is more =
    goes_on (shape_of t) w (at_option after (id_of t o)) end (word_of t o) (v ∷ rest) clean is
    (goes_on (shape_of t) (at_option after (id_of t o)) (at_value after (id_of t o) v) end v rest
    (value_is_faultless t o after v g) (value_is_met t o after v g) more)

-- behind the operand
one_is_begun : (t : WithTwo) (o : Side) (operand : List ℕ)
    → walked (shape_of t).rules [] (at_operand operand) (word_of t o) ≡ at_option (operand_rows t operand) (id_of t o)
unfolding walked
one_is_begun runs left operand = refl
one_is_begun runs right operand = refl
one_is_begun serves left operand = refl
one_is_begun serves right operand = refl

one_is_faultless : (t : WithTwo) (o : Side) (operand : List ℕ) → turn_fault (shape_of t) [] (at_operand operand) (word_of t o) ≡ []
one_is_faultless runs left operand = refl
one_is_faultless runs right operand = refl
one_is_faultless serves left operand = refl
one_is_faultless serves right operand = refl

-- behind the operand and the other option
two_are_begun : (t : WithTwo) (o : Side) (operand v : List ℕ)
    → walked (shape_of t).rules [] (at_one t o operand v) (word_of t (beside o)) ≡ at_option (one_rows t o operand v) (id_of t (beside o))
unfolding walked
two_are_begun runs left operand v = refl
two_are_begun runs right operand v = refl
two_are_begun serves left operand v = refl
two_are_begun serves right operand v = refl

two_are_faultless : (t : WithTwo) (o : Side) (operand v : List ℕ) → takes t o v ≡ true
    → turn_fault (shape_of t) [] (at_one t o operand v) (word_of t (beside o)) ≡ []
two_are_faultless runs left operand v taken = rw taken refl
two_are_faultless runs right operand v taken = refl
two_are_faultless serves left operand v taken = rw taken refl
two_are_faultless serves right operand v taken = rw taken refl

-- at the end
one_is_clean : (t : WithTwo) (o : Side) (operand v : List ℕ) → takes t o v ≡ true → end_fault (shape_of t) (at_one t o operand v).held false ≡ []
unfolding defaults_fault
one_is_clean runs left operand v taken = rw taken refl
one_is_clean runs right operand v taken = refl
one_is_clean serves left operand v taken = rw taken refl
one_is_clean serves right operand v taken = rw taken refl

one_has : (t : WithTwo) (o : Side) (operand v : List ℕ)
    → asked_by (act_of t) (at_one t o operand v).held ≡ Some (asked_of (act_of t) operand (values_of t (given_one o v)))
one_has runs left operand v = refl
one_has runs right operand v = refl
one_has serves left operand v = refl
one_has serves right operand v = refl

two_are_clean : (t : WithTwo) (o : Side) (operand v w : List ℕ) → takes t (beside o) w ≡ true
    → end_fault (shape_of t) (at_two t o operand v w).held false ≡ []
unfolding defaults_fault
two_are_clean runs left operand v w taken = refl
two_are_clean runs right operand v w taken = rw taken refl
two_are_clean serves left operand v w taken = rw taken refl
two_are_clean serves right operand v w taken = rw taken refl

two_have : (t : WithTwo) (o : Side) (operand v w : List ℕ)
    → asked_by (act_of t) (at_two t o operand v w).held ≡ Some (asked_of (act_of t) operand (values_of t (given_two o v w)))
two_have runs left operand v w = refl
two_have runs right operand v w = refl
two_have serves left operand v w = refl
two_have serves right operand v w = refl

-- ---- lines with options

-- what an option takes, and is no option itself
record IsTaken (is_taken : List ℕ → Bool) (v : List ℕ) : Type 0 where
  word : IsWord v
  taken : is_taken v ≡ true

none_is_met : (t : WithTwo) (operand : List ℕ) → IsWord operand → IsMet (act_of t) operand [] (values_of t (None, None))
none_is_met runs operand f = alone_is_met verb.Run operand f refl
none_is_met serves operand f = alone_is_met verb.Serve operand f refl

one_is_met : (t : WithTwo) (o : Side) (operand v : List ℕ) → IsWord operand → IsTaken (takes t o) v
    → IsMet (act_of t) operand (word_of t o ∷ v ∷ []) (values_of t (given_one o v))
one_is_met t o operand v f g =
    line_is_met (act_of t) operand (word_of t o ∷ v ∷ []) (values_of t (given_one o v)) (at_one t o operand v)
    (operand_goes (act_of t) operand (word_of t o ∷ v ∷ []) (at_one t o operand v) f
    (option_goes t o (operand_rows t operand) (at_operand operand) v [] (at_one t o operand v) g.word (one_is_faultless t o operand) (one_is_begun t o operand)
    (goes_nowhere _ _)))
    (one_is_clean t o operand v g.taken) (one_has t o operand v)

two_are_met : (t : WithTwo) (o : Side) (operand v w : List ℕ) → IsWord operand → IsTaken (takes t o) v → IsTaken (takes t (beside o)) w
    → IsMet (act_of t) operand (word_of t o ∷ v ∷ word_of t (beside o) ∷ w ∷ []) (values_of t (given_two o v w))
two_are_met t o operand v w f g h =
    let end = at_two t o operand v w in
    let last = word_of t (beside o) ∷ w ∷ [] in
    line_is_met (act_of t) operand (word_of t o ∷ v ∷ last) (values_of t (given_two o v w)) end
    (operand_goes (act_of t) operand (word_of t o ∷ v ∷ last) end f
    (option_goes t o (operand_rows t operand) (at_operand operand) v last end g.word (one_is_faultless t o operand) (one_is_begun t o operand)
    (option_goes t (beside o) (one_rows t o operand v) (at_one t o operand v) w [] end h.word (two_are_faultless t o operand v g.taken) (two_are_begun t o operand v)
    (goes_nowhere _ _))))
    (two_are_clean t o operand v w h.taken) (two_have t o operand v w)

-- ---- which options are plain

-- the word is the option and the one behind it is taken
with_value_is : (name : List ℕ) (is_taken : List ℕ → Bool) (word v : List ℕ) → is_with_value name is_taken word v ≡ true
    → (word ≡ name) × IsTaken is_taken v
with_value_is name is_taken word v e =
    let a = both_true (bytes_eq word name) _ e in
    let b = both_true (not (is_option v)) _ a.1 in
    ((bytes_eq-Decides word name).0 a.0, record { word = is_word v (is_no_flag (is_option v) b.0); taken = b.1 })

-- what holds of two options in each of their plain forms
record OfPair (x y : List ℕ) (takes_x takes_y : List ℕ → Bool) (P : List (List ℕ) → Option (List ℕ) × Option (List ℕ) → Type 0) : Type 0 where
  none : P [] (None, None)
  x_alone : (v : List ℕ) → IsTaken takes_x v → P (x ∷ v ∷ []) (Some v, None)
  y_alone : (v : List ℕ) → IsTaken takes_y v → P (y ∷ v ∷ []) (None, Some v)
  x_first : (v w : List ℕ) → IsTaken takes_x v → IsTaken takes_y w → P (x ∷ v ∷ y ∷ w ∷ []) (Some v, Some w)
  y_first : (v w : List ℕ) → IsTaken takes_y v → IsTaken takes_x w → P (y ∷ v ∷ x ∷ w ∷ []) (Some w, Some v)

-- holds of all that is plain
module _ (x y : List ℕ) (takes_x takes_y : List ℕ → Bool) (P : List (List ℕ) → Option (List ℕ) × Option (List ℕ) → Type 0) (each : OfPair x y takes_x takes_y P)
    (given : Option (List ℕ) × Option (List ℕ)) where
  abbrev is_x : List ℕ → List ℕ → Bool
  is_x = is_with_value x takes_x

  abbrev is_y : List ℕ → List ℕ → Bool
  is_y = is_with_value y takes_y

  -- the words that were found are the options
  one_named : (word name v : List ℕ) (found : Option (List ℕ) × Option (List ℕ)) → word ≡ name → found ≡ given → P (name ∷ v ∷ []) found
      → P (word ∷ v ∷ []) given
  one_named word name v found is gives p = subst (λ (w : List ℕ). P (w ∷ v ∷ []) given) (sym is) (subst (P (name ∷ v ∷ [])) gives p)

  two_named : (word name other next v w : List ℕ) (found : Option (List ℕ) × Option (List ℕ)) → word ≡ name → other ≡ next → found ≡ given
      → P (name ∷ v ∷ next ∷ w ∷ []) found → P (word ∷ v ∷ other ∷ w ∷ []) given
  two_named word name other next v w found is then_is gives p =
      subst (λ (z : List ℕ). P (z ∷ v ∷ other ∷ w ∷ []) given) (sym is)
      (subst (λ (z : List ℕ). P (name ∷ v ∷ z ∷ w ∷ []) given) (sym then_is) (subst (P (name ∷ v ∷ next ∷ w ∷ [])) gives p))

  one_option : (word v : List ℕ) (a : Bool) → is_x word v ≡ a → (b : Bool) → is_y word v ≡ b
      → (if a then Some (Some v, None) else if b then Some (None, Some v) else None) ≡ Some given → P (word ∷ v ∷ []) given
  one_option word v true is b not_needed e =
      let k = with_value_is x takes_x word v is in
      one_named word x v (Some v, None) k.0 (same_Some (Some v, None) given e) (each.x_alone v k.1)
  one_option word v false is true are e =
      let k = with_value_is y takes_y word v are in
      one_named word y v (None, Some v) k.0 (same_Some (None, Some v) given e) (each.y_alone v k.1)
  one_option word v false is false are e = absurd (none-some given e)

  two_options : (word v other w : List ℕ) (a : Bool) → (is_x word v && is_y other w) ≡ a → (b : Bool) → (is_y word v && is_x other w) ≡ b
      → (if a then Some (Some v, Some w) else if b then Some (Some w, Some v) else None) ≡ Some given → P (word ∷ v ∷ other ∷ w ∷ []) given
  two_options word v other w true is b not_needed e =
      let both = both_true (is_x word v) _ is in
      let k = with_value_is x takes_x word v both.0 in
      let m = with_value_is y takes_y other w both.1 in
      two_named word x other y v w (Some v, Some w) k.0 m.0 (same_Some (Some v, Some w) given e) (each.x_first v w k.1 m.1)
  two_options word v other w false is true are e =
      let both = both_true (is_y word v) _ are in
      let k = with_value_is y takes_y word v both.0 in
      let m = with_value_is x takes_x other w both.1 in
      two_named word y other x v w (Some w, Some v) k.0 m.0 (same_Some (Some w, Some v) given e) (each.y_first v w k.1 m.1)
  two_options word v other w false is false are e = absurd (none-some given e)

  pair_is : (options : List (List ℕ)) → plain_pair is_x is_y options ≡ Some given → P options given
  pair_is [] e = subst (P []) (same_Some (None, None) given e) each.none
  pair_is (word ∷ []) e = absurd (none-some given e)
  pair_is (word ∷ v ∷ []) e = one_option word v (is_x word v) refl (is_y word v) refl e
  pair_is (word ∷ v ∷ other ∷ []) e = absurd (none-some given e)
  pair_is (word ∷ v ∷ other ∷ w ∷ []) e =
      two_options word v other w (is_x word v && is_y other w) refl (is_y word v && is_x other w) refl e
  pair_is (word ∷ v ∷ other ∷ w ∷ more ∷ rest) e = absurd (none-some given e)

-- the plain options of a command are met
abbrev MetWith : WithTwo → List ℕ → List (List ℕ) → Option (List ℕ) × Option (List ℕ) → Type 0
MetWith t operand options given = IsMet (act_of t) operand options (values_of t given)

pairs_are_met : (t : WithTwo) (operand : List ℕ) → IsWord operand
    → OfPair (word_of t left) (word_of t right) (takes t left) (takes t right) (MetWith t operand)
pairs_are_met t operand f = record {
  none = none_is_met t operand f;
  x_alone = λ v g. one_is_met t left operand v f g;
  y_alone = λ v g. one_is_met t right operand v f g;
  x_first = λ v w g h. two_are_met t left operand v w f g h;
  y_first = λ v w g h. two_are_met t right operand v w f g h;
}

options_are_met : (t : WithTwo) (operand : List ℕ) (options : List (List ℕ)) (v : Values) (found : Option (Option (List ℕ) × Option (List ℕ))) → IsWord operand
    → plain_pair (is_with_value (word_of t left) (takes t left)) (is_with_value (word_of t right) (takes t right)) options ≡ found
    → option_map (values_of t) found ≡ Some v → IsMet (act_of t) operand options v
options_are_met t operand options v None f is e = absurd (none-some v e)
options_are_met t operand options v (Some given) f is e =
    subst (IsMet (act_of t) operand options) (same_Some (values_of t given) v e)
    (pair_is (word_of t left) (word_of t right) (takes t left) (takes t right) (MetWith t operand) (pairs_are_met t operand f) given options is)

plain_is_met : (act : Verb) (operand : List ℕ) (options : List (List ℕ)) (v : Values) → IsWord operand → takes_operand act operand ≡ true
    → plain_of act options ≡ Some v → IsMet act operand options v
plain_is_met verb.Run operand options v f taken e = options_are_met runs operand options v (plain_pair is_budget are_picks options) f refl e
plain_is_met verb.Serve operand options v f taken e = options_are_met serves operand options v (plain_pair is_budget are_connections options) f refl e
plain_is_met verb.Check operand [] v f taken e = subst (IsMet verb.Check operand []) (same_Some no_values v e) (alone_is_met verb.Check operand f refl)
plain_is_met verb.Check operand (word ∷ rest) v f taken e = absurd (none-some v e)
plain_is_met verb.Explain operand [] v f taken e = subst (IsMet verb.Explain operand []) (same_Some no_values v e) (alone_is_met verb.Explain operand f refl)
plain_is_met verb.Explain operand (word ∷ rest) v f taken e = absurd (none-some v e)
plain_is_met verb.Print operand [] v f taken e = subst (IsMet verb.Print operand []) (same_Some no_values v e) (alone_is_met verb.Print operand f refl)
plain_is_met verb.Print operand (word ∷ rest) v f taken e = absurd (none-some v e)
plain_is_met verb.Load operand [] v f taken e = subst (IsMet verb.Load operand []) (same_Some no_values v e) (alone_is_met verb.Load operand f taken)
plain_is_met verb.Load operand (word ∷ rest) v f taken e = absurd (none-some v e)

-- ---- which words are plain

-- each command of the table is called by its name
table_names : Each (λ (c : CommandWords). c.name ≡ name_of c.verb) commands
table_names = (refl, (refl, (refl, (refl, (refl, (refl, tt))))))

abbrev pub verb_found : Option CommandWords → Option Verb
verb_found = option_map (λ command. command.verb)

name_in : (word : List ℕ) (table : List CommandWords) (a : Verb) → Each (λ (c : CommandWords). c.name ≡ name_of c.verb) table
    → verb_found (find (λ (command : CommandWords). bytes_eq command.name word) table) ≡ Some a → word ≡ name_of a
name_in word [] a names e = absurd (none-some a e)
name_in word (c ∷ rest) a names e = go (bytes_eq c.name word) (bytes_eq-Decides c.name word).0 (name_in word rest a names.1) e
  where
    go : (b : Bool) → (b ≡ true → c.name ≡ word) → (verb_found (find (λ (command : CommandWords). bytes_eq command.name word) rest) ≡ Some a → word ≡ name_of a)
        → verb_found (cond b (Some c) (find (λ (command : CommandWords). bytes_eq command.name word) rest)) ≡ Some a → word ≡ name_of a
    go true same later e = sym (same refl) ∙ (names.0 ∙ ap name_of (same_Some c.verb a e))
    go false same later e = later e

pub name_is : (word : List ℕ) (a : Verb) → verb_of word ≡ Some a → word ≡ name_of a
name_is word a e = name_in word commands a table_names e

record IsPlain (line : List (List ℕ)) (a : Asked) : Type 0 where
  options : List (List ℕ)
  met : IsMet a.verb a.operand options a.values
  is : line ≡ name_of a.verb ∷ a.operand ∷ options

plain_with : (name operand : List ℕ) (options : List (List ℕ)) (a : Asked) (act : Verb) → is_option operand ≡ false → verb_of name ≡ Some act
    → takes_operand act operand ≡ true
    → (found : Option Values) → plain_of act options ≡ found → option_and_then (λ values. with_operand (Some act) (Some operand) values) found ≡ Some a
    → IsPlain (name ∷ operand ∷ options) a
plain_with name operand options a act free is taken None has e = absurd (none-some a e)
plain_with name operand options a act free is taken (Some v) has e =
    subst (IsPlain (name ∷ operand ∷ options)) (same_Some (asked_of act operand v) a e) (record {
      options = options;
      met = plain_is_met act operand options v (is_word operand free) taken has;
      is = ap (λ (word : List ℕ). word ∷ operand ∷ options) (name_is name act is);
    })

-- what is asked for, where its operand is taken
abbrev asked_if : Bool → List ℕ → List (List ℕ) → Verb → Option Asked
asked_if taken operand options asked =
    if taken then option_and_then (λ values. with_operand (Some asked) (Some operand) values) (plain_of asked options) else None

plain_if : (name operand : List ℕ) (options : List (List ℕ)) (a : Asked) (act : Verb) → is_option operand ≡ false → verb_of name ≡ Some act
    → (taken : Bool) → takes_operand act operand ≡ taken → asked_if taken operand options act ≡ Some a → IsPlain (name ∷ operand ∷ options) a
plain_if name operand options a act free is true taken e = plain_with name operand options a act free is taken (plain_of act options) refl e
plain_if name operand options a act free is false taken e = absurd (none-some a e)

plain_from : (name operand : List ℕ) (options : List (List ℕ)) (a : Asked) (b : Bool) → is_option operand ≡ b → (asked : Option Verb) → verb_of name ≡ asked
    → (if b then None else option_and_then (λ asked. asked_if (takes_operand asked operand) operand options asked) asked) ≡ Some a
    → IsPlain (name ∷ operand ∷ options) a
plain_from name operand options a true free asked is e = absurd (none-some a e)
plain_from name operand options a false free None is e = absurd (none-some a e)
plain_from name operand options a false free (Some act) is e = plain_if name operand options a act free is (takes_operand act operand) refl e

plain_is : (line : List (List ℕ)) (a : Asked) → plain_asked line ≡ Some a → IsPlain line a
plain_is [] a e = absurd (none-some a e)
plain_is (name ∷ []) a e = absurd (none-some a e)
plain_is (name ∷ operand ∷ options) a e = plain_from name operand options a (is_option operand) refl (verb_of name) refl e

pub plain_line_is_faultless : (line : List (List ℕ)) (a : Asked) → plain_asked line ≡ Some a → fault_of program line ≡ []
plain_line_is_faultless line a e =
    let is = plain_is line a e in
    subst (λ (words : List (List ℕ)). fault_of program words ≡ []) (sym is.is)
    is.met.faultless

pub plain_line_enters : (line : List (List ℕ)) (a : Asked) → plain_asked line ≡ Some a → asked_in (subcommand_of program line) ≡ Some a
plain_line_enters line a e =
    let is = plain_is line a e in
    subst (λ (words : List (List ℕ)). asked_in (subcommand_of program words) ≡ Some a) (sym is.is)
    is.met.enters

-- ---- what plain words say

pub record AsksFor (line : List (List ℕ)) (w : Words) : Type 0 where
  pub asked : Asked
  pub plain : plain_asked line ≡ Some asked
  pub says : said_by asked ≡ w

asks_by : (line : List (List ℕ)) (w : Words) (found : Option Asked) → plain_asked line ≡ found → option_map said_by found ≡ Some w → AsksFor line w
asks_by line w None is e = absurd (none-some w e)
asks_by line w (Some a) is e = record { asked = a; plain = is; says = same_Some (said_by a) w e }

pub asks_for : (line : List (List ℕ)) (w : Words) → usage.plain line ≡ Some w → AsksFor line w
asks_for line w e = asks_by line w (plain_asked line) refl e

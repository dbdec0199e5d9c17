-- Words in which the parser finds no fault enter a command of the table, with its operand.
use Rattle.std.specs.Prelude.{◌≡◌, ◌&&◌, ◌||◌, ℕ, Bool, true, false, not, List, [], ◌∷◌, Option, Some, None, is_some, if◌then◌else◌, bytes_eq, codes, find, fold, option_map, refl, IfSome}
use Rattle.std.specs.List.{AllByRecursion as Each, list_any}
use Rattle.std.specs.Option.{option_map_or}
use Rattle.std.proofs.Common.{ap, sym, subst, true≢false}
use Rattle.std.proofs.lemmas.Slice.Eq.{bytes_eq-Decides}
use Rattle.clap.specs.Walk.{Text, Row, Rule, Held, Names, Waiting, Step, Walk, next, trailing, subcommand, value, subcommand_met, word_met, to_positional, after_step, walked_from, walked, walk, walk_from, nothing_held, arg_by_index, answers_to, finished, rows_after, settled}
use Rattle.clap.specs.Simple.{Shape, built, entered, label_of, names_of, rows_at}
use Rattle.clap.specs.Facts.{explicit_source}
use Rattle.clap.specs.Takes.{is_given}
use Rattle.clap.specs.Words.{Kinds, fault_of, subcommand_of}
use Rattle.clap.specs.Kinds.{check_kinds, or_else}
use Rattle.clap.specs.Faults.{check_fault, defaults_fault, entered_fault, level_fault, other_fault, settle_fault, step_fault, turn_fault, walk_fault, word_fault}
use Rattle.clap.specs.declared.error.kind.ErrorKind.TheVariants as kind
use Rattle.main_commands.specs.Grammar.{program}
use Rattle.main_commands.specs.Usage.{Asked, Values, verb_of, asked_in, operand_in, values_in, with_operand}
use Rattle.main_commands.specs.declared.table.Verb.{Verb}
use Rattle.main_commands.proofs.Entered.{HasName, subcommand_or_other_named}
use Rattle.main_commands.proofs.Origins.{IsFit, both_true, cons_nil, first_is_there, fit_is, fits}
use Rattle.main_commands.proofs.ProgramBuilt.{Suits, bare_names, each_of, operand, found_each, found_shape, is_command, is_known, shapes_known, shapes_suit}

-- ---- no kind among two

no_first : (a b : Kinds) → or_else a b ≡ [] → a ≡ []
no_first [] b e = refl
no_first (k ∷ ks) b e = absurd (cons_nil k ks e)

no_second : (a b : Kinds) → or_else a b ≡ [] → b ≡ []
no_second [] b e = e
no_second (k ∷ ks) b e = absurd (cons_nil k ks e)

-- ---- the command that is entered is not `help`

abbrev pub IsOther : Text → Type 0
IsOther name = bytes_eq name (codes "help") ≡ false

abbrev pub NotHelp : Option (Text × List Text) → Type 0
NotHelp stop = IfSome stop (λ p. IsOther p.0)

is_other : (b d : Bool) → d ≡ false → (if b && not d then kind.DisplayHelp ∷ kind.InvalidSubcommand ∷ [] else []) ≡ [] → b ≡ false
is_other true true d e = absurd (true≢false d)
is_other true false d e = absurd (cons_nil kind.DisplayHelp (kind.InvalidSubcommand ∷ []) e)
is_other false b d e = refl

module _ (s : Shape) (names : Names) (bare : Each (λ s. s.1 ≡ []) names) (helps : s.disable_help_subcommand ≡ false) where
  entered_other : (entered : Option Text) (word : Text) (h : Held) → other_fault s entered word h ≡ [] → IfSome entered IsOther
  entered_other None word h e = tt
  entered_other (Some name) word h e = is_other (bytes_eq name (codes "help")) s.disable_help_subcommand helps e

  met_other : (is_trailing : Bool) (waiting : Waiting) (position : ℕ) (word : Text) (h : Held) → word_fault s names is_trailing waiting word h ≡ []
      → HasName IsOther s.rules names bare (word_met s.rules names is_trailing waiting position word h).1
  met_other true waiting position word h e = tt
  met_other false waiting position word h e =
      subcommand_or_other_named IsOther s.rules names bare (subcommand_met names waiting word) waiting position word h
      (entered_other (subcommand_met names waiting word) word h e)

  positional_other : (found : Option Rule) (word : Text) (w : Walk) (h : Held) → NotHelp w.stopped → NotHelp (to_positional s.rules found word w h).stopped
  positional_other None word w h has = has
  positional_other (Some a) word w h has = tt

  after_step_other : (word : Text) (w : Walk) (h : Held) (step : Step) → HasName IsOther s.rules names bare step → NotHelp w.stopped
      → NotHelp (after_step s.rules word w h step).stopped
  after_step_other word w h (next waiting) p has = has
  after_step_other word w h (trailing position) p has = has
  after_step_other word w h (subcommand name) p has = p
  after_step_other word w h value p has = positional_other (arg_by_index s.rules w.position) word w h has

  abbrev pub met_at : Walk → Text → Held × Step
  met_at w word = word_met s.rules names w.is_trailing w.waiting w.position word w.held

  step_other : (stopped : Option (Text × List Text)) (w : Walk) (word : Text)
      → (if is_some stopped then [] else or_else (word_fault s names w.is_trailing w.waiting word w.held) (step_fault s w.position (met_at w word).0 (met_at w word).1)) ≡ []
      → NotHelp stopped → NotHelp w.stopped → NotHelp (walked_from s.rules names stopped w word).stopped
  step_other (Some p) w word e has also = has
  step_other None w word e has also =
      after_step_other word w (met_at w word).0 (met_at w word).1
      (met_other w.is_trailing w.waiting w.position word w.held
      (no_first (word_fault s names w.is_trailing w.waiting word w.held) (step_fault s w.position (met_at w word).0 (met_at w word).1) e)) also

  walk_other : (words : List Text) (w : Walk) → walk_fault s names w words ≡ [] → NotHelp w.stopped → NotHelp (fold (walked s.rules names) w words).stopped
  unfolding walked walk_fault
  walk_other [] w e has = has
  walk_other (word ∷ rest) w e has =
      walk_other rest (walked_from s.rules names w.stopped w word) (no_second (turn_fault s names w word) (walk_fault s names (walked s.rules names w word) rest) e)
      (step_other w.stopped w word (no_first (turn_fault s names w word) (walk_fault s names (walked s.rules names w word) rest) e) has has)

-- ---- the operand was given

no_third : (a b c : Bool) → check_kinds a b c ≡ [] → c ≡ false
no_third true b c e = absurd (cons_nil kind.DisplayHelpOnMissingArgumentOrSubcommand [] e)
no_third false true c e = absurd (cons_nil kind.MissingSubcommand [] e)
no_third false false true e = absurd (cons_nil kind.MissingRequiredArgument [] e)
no_third false false false e = refl

beside_no_subcommand : (x c : Bool) → (not (x && false) && c) ≡ false → c ≡ false
beside_no_subcommand true c e = e
beside_no_subcommand false c e = e

abbrev pub lacks : List Row → Rule → Bool
lacks rows a = a.required && not (is_given a.id rows)

abbrev pub wants_operand : Rule → Bool
wants_operand a = a.required && bytes_eq a.id operand

given_of : (rules : List Rule) (rows : List Row) → list_any (lacks rows) rules ≡ false → list_any wants_operand rules ≡ true → is_given operand rows ≡ true
given_of [] rows none some = absurd (true≢false (sym some))
given_of (a ∷ rest) rows none some =
    go a.required (bytes_eq a.id operand) (is_given a.id rows) (bytes_eq-Decides a.id operand).0 refl none some (given_of rest rows)
  where
    go : (q b g : Bool) → (b ≡ true → a.id ≡ operand) → is_given a.id rows ≡ g → ((q && not g) || list_any (lacks rows) rest) ≡ false
        → ((q && b) || list_any wants_operand rest) ≡ true → (list_any (lacks rows) rest ≡ false → list_any wants_operand rest ≡ true → is_given operand rows ≡ true)
        → is_given operand rows ≡ true
    go true true true same given none some later = subst (λ (t : Text). is_given t rows ≡ true) (same refl) given
    go true true false same given none some later = absurd (true≢false none)
    go true false true same given none some later = later none some
    go true false false same given none some later = absurd (true≢false none)
    go false b g same given none some later = later none some

with_both : (asked : Option Verb) (given : Option Text) (values : Values) → is_some asked ≡ true → (v : Text) × (given ≡ Some v)
    → (a : Asked) × (with_operand asked given values ≡ Some a)
with_both None given values e there = absurd (true≢false (sym e))
with_both (Some act) given values e there =
    (record { verb = act; operand = there.0; values = values }, ap (λ given. with_operand (Some act) given values) there.1)

-- the kinds of one level but those of its words
abbrev pub end_of : Shape → Names → List Text → Held
end_of s names words = (walk s.rules names nothing_held words).held

level_checks : (s : Shape) (names : Names) (words : List Text) (has : Bool) (below : Kinds) → level_fault s names nothing_held words has below ≡ []
    → (walk_fault s names (walk_from nothing_held) words ≡ []) × (below ≡ []) × (check_fault s (finished s.rules (end_of s names words)) has ≡ [])
level_checks s names words has below e =
    let settles = settle_fault s.rules s.args_override_self (end_of s names words) in
    let defaults = defaults_fault (settled s.rules (end_of s names words)).rows s.rules in
    let checks = check_fault s (finished s.rules (end_of s names words)) has in
    let behind = no_second (walk_fault s names (walk_from nothing_held) words) (or_else below (or_else settles (or_else defaults checks))) e in (
      no_first (walk_fault s names (walk_from nothing_held) words) (or_else below (or_else settles (or_else defaults checks))) e,
      no_first below (or_else settles (or_else defaults checks)) behind,
      no_second defaults checks (no_second settles (or_else defaults checks) (no_second below (or_else settles (or_else defaults checks)) behind)),
    )

-- ---- the command

not_first : (a b : Bool) → a ≡ false → (a || b) ≡ true → b ≡ true
not_first true b e f = absurd (true≢false e)
not_first false b e f = f

shape_enters : (s : Shape) (words : List Text) → Suits s → is_known s ≡ true → IsOther s.name → level_fault s [] nothing_held words false [] ≡ []
    → (a : Asked) × (asked_in (Some (rows_at s words)) ≡ Some a)
shape_enters s words suit known other none =
    let is = both_true (is_some (verb_of s.name)) (list_any wants_operand s.rules) (not_first (bytes_eq s.name (codes "help")) (is_command s) other known) in
    let rows = rows_after s.rules [] words in
    let checks = (level_checks s [] words false [] none).2 in
    let given = given_of s.rules rows (beside_no_subcommand s.subcommand_negates_reqs (list_any (lacks rows) s.rules) (no_third _ _ _ checks)) is.1 in
    with_both (verb_of s.name) (operand_in rows) (values_in rows) is.0
    (first_is_there operand s.rules (each_of (fits operand) (IsFit operand) s.rules (fit_is operand) suit.1) words given)

found_enters : (found : Option Shape) (word : Text) (words : List Text) → IfSome found (λ s. Suits s × (s.name ≡ word)) → IfSome found (λ s. is_known s ≡ true)
    → IsOther word → is_some (option_map (λ s. rows_at s words) found) ≡ true → option_map_or (λ s. level_fault s [] nothing_held words false []) found [] ≡ []
    → (a : Asked) × (asked_in (option_map (λ s. rows_at s words) found) ≡ Some a)
found_enters None word words suit known other there none = absurd (true≢false (sym there))
found_enters (Some s) word words suit known other there none = shape_enters s words suit.0 known (subst IsOther (sym suit.1) other) none

stop_enters : (stop : Option (Text × List Text)) → NotHelp stop → is_some (entered (built program) stop) ≡ true → entered_fault (built program) stop ≡ []
    → (a : Asked) × (asked_in (entered (built program) stop) ≡ Some a)
stop_enters None other there none = absurd (true≢false (sym there))
stop_enters (Some p) other there none =
    found_enters (find (λ s. answers_to p.0 (label_of s)) (built program).subs) p.0 p.1 (found_shape p.0 (built program).subs shapes_suit)
    (found_each (λ s. answers_to p.0 (label_of s)) (λ s. is_known s ≡ true) (built program).subs shapes_known) other there none

has_subcommand : (has e x : Bool) → check_kinds (not has && e) (not has && true) x ≡ [] → has ≡ true
has_subcommand true e x none = refl
has_subcommand false true x none = absurd (cons_nil kind.DisplayHelpOnMissingArgumentOrSubcommand [] none)
has_subcommand false false x none = absurd (cons_nil kind.MissingSubcommand [] none)

abbrev pub stop_at : List Text → Option (Text × List Text)
stop_at line = (walk (built program).top.rules (names_of (built program)) nothing_held line).stopped

pub faultless_enters : (line : List Text) → fault_of program line ≡ [] → (a : Asked) × (asked_in (subcommand_of program line) ≡ Some a)
faultless_enters line none =
    let stop = stop_at line in
    let has = is_some (entered (built program) stop) in
    let rows = finished (built program).top.rules (end_of (built program).top (names_of (built program)) line) in
    let level = level_checks (built program).top (names_of (built program)) line has (entered_fault (built program) stop) none in
    stop_enters stop
    (walk_other (built program).top (names_of (built program)) bare_names refl line (walk_from nothing_held) level.0 tt)
    (has_subcommand has (not (list_any (λ r. explicit_source r.source) rows)) (list_any (lacks rows) (built program).top.rules) level.2) level.1

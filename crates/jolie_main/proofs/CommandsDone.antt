-- What a command does, from what its parts do.
use Rattle.std.proofs.Common.{◌≡◌, inl, inr, refl, sym, ap, subst, ◌∙◌, append_assoc, ℕ, ◌<◌, ◌≤◌, arith, Bool, true, false, List, [], ◌∷◌, length, map, set, get_or, ◌++◌, flat_map, Option, IfSome, Result, Ok, Err, IfOk}
use Rattle.std.specs.Prelude.{MatchResult, Vec, codes}
use Rattle.std.specs.declared.alloc.AllocError.{AllocError}
use Rattle.jolie_ast.specs.declared.tree.Definition.{Definition}
use Rattle.jolie_ast.specs.Printed.{printed_text}
use Rattle.behaviour_tree.specs.Data.{ProgramParts}
use Rattle.behaviour_tree.specs.PartsView.{parts_of}
use Rattle.behaviour_tree.specs.declared.program.Program.{Program}
use Rattle.outside_traits.specs.Told.{FilesTold, SinkTold, SourceTold, WireTold}
use Rattle.run_theorem.specs.declared.ended.Ended.{Ended}
use Rattle.outside_doors.specs.Returns.{DoorsTold}
use Rattle.run_theorem.specs.Lines.{IsPrefix}
use Rattle.run_theorem.specs.Theorem.{Around as Meeting, IsLined, IsDoored}
use Rattle.main_commands.specs.declared.table.Action.{Action}
use Rattle.main_commands.specs.declared.table.Action.TheVariants as action
use Rattle.main_commands.specs.declared.words.Command.{Command}
use Rattle.main_commands.specs.declared.words.Words.{Words}
use Rattle.main_commands.specs.declared.words.Words.TheVariants as words
use Rattle.main_commands.specs.Usage.{IsUnderstood}
use Rattle.check_verdicts.specs.declared.refusal.Refusal.{Refusal}
use Rattle.check_verdicts.specs.declared.verdict.Verdict.{Verdict}
use Rattle.check_verdicts.specs.declared.verdict.Verdict.TheVariants as verdict
use Rattle.check_verdicts.specs.Programs.{IsChecked, IsUncheckedBy}
use Rattle.check_verdicts.specs.RefusalLines.{IsVerdict, refusal_line}
use Rattle.jolie_main.specs.Outside.{Outside, Around, AtFirst, ByFirst, program_bytes, HasAskedFor, IsSaid, IsWritten}
use Rattle.outside_traits.specs.Causes.{Rose}
use Rattle.load_maker.specs.Loaded.{IsLoaded}
use Rattle.load_maker.specs.OrderService.{order_service}
use Rattle.load_maker.specs.Summary.{summary}
use Rattle.explain_places.specs.Places.{line_at, column_at, line_of, mark_of}
use Rattle.explain_notes.specs.Notes.{notes_of}
use Rattle.explain_text.specs.Words.{rule_of}
use Rattle.explain_text.specs.Explained.{head_line, shown, tagged_words, line_if_any, listed, advised_words, unreadable_line, IsExplained}
use Rattle.explain_text.specs.Noted.{note_lines, IsNoted}
use Rattle.jolie_main.specs.Headline.{Says, SaysAt, Checks, Explains, Prints, Runs, Serves, IsTurnedDown, ShowsAlone, IsEmptyRecord, Loads, Obeys, Promises, TellsOfFile}
use Rattle.jolie_main.specs.Headline as headline
use Rattle.outside_links.specs.Trips.{LinkTold}

-- the outside by its parts
abbrev pub outside : FilesTold → SourceTold → SinkTold → SinkTold → DoorsTold → List LinkTold → Outside
outside files input output notes doors links =
    record { files = files; input = input; output = output; notes = notes; doors = doors; links = links }

-- before a call and after it
abbrev pub around : Outside → Outside → Around
around before now = record { before = before; now = now }

-- ---- a text

-- a text with definitions is printed
pub printed : (text : List ℕ) (v : Verdict) (file : List Definition) (said : List ℕ) (status : ℕ) (before now : SinkTold)
    → IsVerdict text v → v ≡ verdict.File file → said ≡ printed_text file → Says said status before now
    → Prints text status before now
printed text v file said status before now right is same says =
    headline.accepted file (subst (λ x. IsVerdict text x) is right) (subst (λ t. Says t status before now) same says)

-- and another is refused
pub not_printed : (text : List ℕ) (v : Verdict) (refusal : Refusal) (r : Result Ended AllocError) (before now : SinkTold)
    → IsVerdict text v → v ≡ verdict.Refused refusal → IfOk r (λ ended. ended.status ≡ 3)
    → IfOk r (λ ended. IsWritten (refusal_line refusal) before now) → IfOk r (λ ended. Prints text ended.status before now)
not_printed text v refusal (Ok ended) before now right is status written =
    headline.refused (refusal_line refusal) (subst (λ x. IsVerdict text x) is right) status written
not_printed text v refusal (Err e) before now right is status written = tt

-- what was found of a text
abbrev IsFound : List ℕ → Result Program Refusal → Type 0
IsFound text found =
    MatchResult found (λ p. IsChecked text (parts_of p)) (λ why. IsUncheckedBy text (refusal_line why))

-- `ok` is said of a program
pub passed : (text said : List ℕ) (found : Result Program Refusal) (program : Program) (status : ℕ) (before now : SinkTold)
    → IsFound text found → found ≡ Ok program → said ≡ codes "ok\n" → Says said status before now
    → Checks text status before now
passed text said found program status before now right is same says =
    headline.passed (parts_of program) (subst (λ x. IsFound text x) is right) (subst (λ t. Says t status before now) same says)

-- and another text is refused
pub not_passed : (text : List ℕ) (found : Result Program Refusal) (refusal : Refusal) (r : Result Ended AllocError)
    (before now : SinkTold) → IsFound text found → found ≡ Err refusal → IfOk r (λ ended. ended.status ≡ 3)
    → IfOk r (λ ended. IsWritten (refusal_line refusal) before now) → IfOk r (λ ended. Checks text ended.status before now)
not_passed text found refusal (Ok ended) before now right is status written =
    headline.unchecked (refusal_line refusal) (subst (λ x. IsFound text x) is right) status written
not_passed text found refusal (Err e) before now right is status written = tt

-- what was found of a text that is to be explained
abbrev IsFoundNoted : {Z : Type 0} → List ℕ → List ℕ → Result (Vec ℕ Z) Refusal → Type 0
IsFoundNoted file text found =
    MatchResult found (λ lines. IsNoted file text lines.items) (λ why. IsUncheckedBy text (refusal_line why))

-- what begins so still does with more behind it
begins_longer : (head xs ys : List ℕ) → IsPrefix head xs → IsPrefix head (xs ++ ys)
begins_longer head xs ys f = (f.0 ++ ys, sym (append_assoc head f.0 ys) ∙ ap (λ l. l ++ ys) f.1)

-- what is explained of a refusal begins with its place
begins_with_place : (file text : List ℕ) (r : Refusal) (lines : List ℕ) → IsExplained file text r lines
    → IsPrefix (head_line file (line_at text r.at) (column_at text r.at) (tagged_words r)) lines
begins_with_place file text r lines k =
    let head = head_line file (line_at text r.at) (column_at text r.at) (tagged_words r) in
    let rule = line_if_any (codes "rule: ") (rule_of r.cause text r.at) in
    subst (IsPrefix head) (sym k.lines)
    (begins_longer head _ (line_if_any (codes "advice: ") (advised_words k.advice))
    (begins_longer head _ rule
    (begins_longer head _ (line_if_any (codes "expected: ") (listed k.hints))
    (begins_longer head _ (codes "\n")
    (begins_longer head _ (mark_of text r.at)
    (begins_longer head _ (codes "\n") (map shown (line_of text r.at), refl)))))))

-- `explain` says `ok` of a program, with its notes
pub explained_as_ok : {Z : Type 0} (file text said : List ℕ) (found : Result (Vec ℕ Z) Refusal) (lines : Vec ℕ Z) (status : ℕ)
    (before now : SinkTold) → IsFoundNoted file text found → found ≡ Ok lines → said ≡ lines.items
    → Says said status before now → Explains file text status before now
explained_as_ok file text said found lines status before now right is same says =
    let noted : IsNoted file text lines.items = subst (λ x. IsFoundNoted file text x) is right in
    headline.passed noted.parts (flat_map (note_lines file text) (notes_of noted.checked.file)) noted.checked
    (subst (λ t. Says t status before now) (same ∙ noted.lines) says)

-- a text went out, whole or cut
pub written_of : (all : Bool) (shown text : List ℕ) (before now : SinkTold) → IsSaid all shown before now → shown ≡ text
    → IsWritten text before now
written_of true shown text before now said same = subst (λ t. IsWritten t before now) same (inl said)
written_of false shown text before now said same = subst (λ t. IsWritten t before now) same (inr said)

-- and explains another text
pub explained_so : {Z : Type 0} (file text lines : List ℕ) (found : Result (Vec ℕ Z) Refusal) (refusal : Refusal) (status : ℕ)
    (before now : SinkTold) → IsFoundNoted file text found → found ≡ Err refusal → IsExplained file text refusal lines → status ≡ 3
    → IsWritten lines before now → Explains file text status before now
explained_so file text lines found refusal status before now right is told stands written =
    let place = begins_with_place file text refusal lines told in
    headline.unchecked refusal (tagged_words refusal) place.0 (subst (λ x. IsFoundNoted file text x) is right) stands
    (subst (λ t. IsWritten t before now) (sym place.1) written)

-- ---- a run, and a service that is served

-- what a text comes to that was found to be no program
turned_down : (text : List ℕ) (found : Result Program Refusal) (refusal : Refusal) (ended : Ended) (a : Around)
    → IsFound text found → found ≡ Err refusal → ended.status ≡ 3
    → IsWritten (refusal_line refusal) a.before.output a.now.output → ShowsAlone ended a
    → IsTurnedDown text ended a
turned_down text found refusal ended a right is status written alone = record {
  line = refusal_line refusal;
  why = subst (λ x. IsFound text x) is right;
  status = status;
  written = written;
  alone = alone;
}

-- what happened to the first of the links, by what became of it
pub at_first : {L : Type 0} (Happened : LinkTold → LinkTold → Type 0) (told : L → LinkTold) (links : List L) (first now : L)
    → 0 < length links → first ≡ get_or links 0 first → Happened (told first) (told now)
    → AtFirst Happened (map told links) (map told (set links 0 now))
at_first Happened told [] first now some is happened = absurd (omega (arith, some))
at_first Happened told (l ∷ ls) first now some is happened = (subst (λ x. Happened (told x) (told now)) is happened, refl)

-- a run by picks that are said otherwise
pub with_picks : (parts : ProgramParts) (text : List ℕ) (budget : ℕ) (p q : List ℕ) (a : Meeting) (ended : Ended) → p ≡ q
    → IsLined (record { parts = parts; text = text; budget = budget; picks = p }) a ended
    → IsLined (record { parts = parts; text = text; budget = budget; picks = q }) a ended
with_picks parts text budget p q a ended e lined =
    subst (λ picks. IsLined (record { parts = parts; text = text; budget = budget; picks = picks }) a ended) e lined

-- a program runs
pub ran : (c : Command) (text : List ℕ) (found : Result Program Refusal) (program : Program) (r : Result Ended AllocError)
    (a : Around) → IsFound text found → found ≡ Ok program
    → IfOk r (λ ended. ByFirst (λ run. IsLined (record { parts = parts_of program; text = text; budget = c.budget; picks = c.picks }) run ended) a)
    → IfOk r (λ ended. Runs c text ended a)
ran c text found program (Ok ended) a right is lined =
    headline.ran (parts_of program) (subst (λ x. IsFound text x) is right) lined
ran c text found program (Err e) a right is lined = tt

-- and another text is refused
pub not_run : (c : Command) (text : List ℕ) (found : Result Program Refusal) (refusal : Refusal) (r : Result Ended AllocError)
    (files : FilesTold) (source : SourceTold) (output output_now notes : SinkTold) (doors : DoorsTold) (trips : List LinkTold)
    → IsFound text found → found ≡ Err refusal → IfOk r (λ ended. ended.status ≡ 3)
    → IfOk r (λ ended. IsWritten (refusal_line refusal) output output_now) → IfOk r (λ ended. IsEmptyRecord ended.report)
    → IfOk r (λ ended. Runs c text ended
    (around (outside files source output notes doors trips) (outside files source output_now notes doors trips)))
not_run c text found refusal (Ok ended) files source output output_now notes doors trips right is status written empty =
    headline.refused (turned_down text found refusal ended
    (around (outside files source output notes doors trips) (outside files source output_now notes doors trips))
    right is status written (record { empty = empty; input = refl; notes = refl; doors = refl; links = refl }))
not_run c text found refusal (Err e) files source output output_now notes doors trips right is status written empty = tt

-- a program is served
pub served : (IsMade : WireTold → Type 0) (c : Command) (text : List ℕ) (found : Result Program Refusal) (program : Program)
    (r : Result Ended AllocError) (a : Around) → IsFound text found → found ≡ Ok program
    → IfOk r (λ ended. ByFirst (λ run. IsDoored IsMade c.connections (record { parts = parts_of program; text = text; budget = c.budget; picks = [] }) run ended) a)
    → IfOk r (λ ended. Serves IsMade c text ended a)
served IsMade c text found program (Ok ended) a right is doored =
    headline.served (parts_of program) (subst (λ x. IsFound text x) is right) doored
served IsMade c text found program (Err e) a right is doored = tt

-- and another text is refused
pub not_served : (IsMade : WireTold → Type 0) (c : Command) (text : List ℕ) (found : Result Program Refusal) (refusal : Refusal)
    (r : Result Ended AllocError) (files : FilesTold) (source : SourceTold) (output output_now notes : SinkTold) (doors : DoorsTold)
    (trips : List LinkTold) → IsFound text found → found ≡ Err refusal → IfOk r (λ ended. ended.status ≡ 3)
    → IfOk r (λ ended. IsWritten (refusal_line refusal) output output_now) → IfOk r (λ ended. IsEmptyRecord ended.report)
    → IfOk r (λ ended. Serves IsMade c text ended
    (around (outside files source output notes doors trips) (outside files source output_now notes doors trips)))
not_served IsMade c text found refusal (Ok ended) files source output output_now notes doors trips right is status written empty =
    headline.refused (turned_down text found refusal ended
    (around (outside files source output notes doors trips) (outside files source output_now notes doors trips))
    right is status written (record { empty = empty; input = refl; notes = refl; doors = refl; links = refl }))
not_served IsMade c text found refusal (Err e) files source output output_now notes doors trips right is status written empty = tt

-- ---- a command over a file that was read, by the name that it was read by

-- what each action does
abbrev DoesBy : (WireTold → Type 0) → Command → List ℕ → (Ended × Around) → Action → Type 0
DoesBy IsMade c text did act = elim act [
  | action.Check ↦ Checks text did.0.status did.1.before.output did.1.now.output × ShowsAlone did.0 did.1
  | action.Explain ↦ Explains c.file text did.0.status did.1.before.output did.1.now.output
      × ShowsAlone did.0 did.1
  | action.Print ↦ Prints text did.0.status did.1.before.output did.1.now.output × ShowsAlone did.0 did.1
  | action.Run ↦ Runs c text did.0 did.1
  | action.Serve ↦ Serves IsMade c text did.0 did.1
]

module _ (IsMade : WireTold → Type 0) (c : Command) (held : List ℕ → Option (List ℕ)) (name text : List ℕ) (named : name ≡ c.file)
    (read : IfSome (held name) (λ all. text ≡ program_bytes all)) (files files_now : FilesTold)
    (asks : HasAskedFor name files files_now) (unfailed : files_now.faults ≡ files.faults) where
  obeys : (act : Action) (ended : Ended) (a : Around) → c.action ≡ act → HasAskedFor name a.before.files a.now.files
      → a.now.files.faults ≡ a.before.files.faults → DoesBy IsMade c text (ended, a) act → Obeys IsMade c (held c.file) ended a
  obeys act ended a is asked still does =
      headline.read text (subst (λ n. HasAskedFor n a.before.files a.now.files) named asked)
      (subst (λ n. IfSome (held n) (λ all. text ≡ program_bytes all)) named read) still
      (subst (λ x. DoesBy IsMade c text (ended, a) x) (sym is) does)

  pub obeys_check : (shown : List ℕ) (source : SourceTold) (output output_now notes : SinkTold) (doors : DoorsTold)
      (trips : List LinkTold) (r : Result Ended AllocError) → c.action ≡ action.Check → shown ≡ text
      → IfOk r (λ ended. Checks shown ended.status output output_now) → IfOk r (λ ended. IsEmptyRecord ended.report)
      → IfOk r (λ ended. Obeys IsMade c (held c.file) ended
      (around (outside files source output notes doors trips) (outside files_now source output_now notes doors trips)))
  obeys_check shown source output output_now notes doors trips (Ok ended) is same shows empty =
      obeys action.Check ended (around (outside files source output notes doors trips)
      (outside files_now source output_now notes doors trips)) is asks unfailed (
        subst (λ t. Checks t ended.status output output_now) same shows,
        record { empty = empty; input = refl; notes = refl; doors = refl; links = refl },
      )
  obeys_check shown source output output_now notes doors trips (Err e) is same shows empty = tt

  pub obeys_explain : (shown : List ℕ) (source : SourceTold) (output output_now notes : SinkTold) (doors : DoorsTold)
      (trips : List LinkTold) (r : Result Ended AllocError) → c.action ≡ action.Explain → shown ≡ text
      → (called : List ℕ) → called ≡ c.file
      → IfOk r (λ ended. Explains called shown ended.status output output_now) → IfOk r (λ ended. IsEmptyRecord ended.report)
      → IfOk r (λ ended. Obeys IsMade c (held c.file) ended
      (around (outside files source output notes doors trips) (outside files_now source output_now notes doors trips)))
  obeys_explain shown source output output_now notes doors trips (Ok ended) is same called by shows empty =
      obeys action.Explain ended (around (outside files source output notes doors trips)
      (outside files_now source output_now notes doors trips)) is asks unfailed (
        subst (λ n. Explains n text ended.status output output_now) by (subst (λ t. Explains called t ended.status output output_now) same shows),
        record { empty = empty; input = refl; notes = refl; doors = refl; links = refl },
      )
  obeys_explain shown source output output_now notes doors trips (Err e) is same called by shows empty = tt

  pub obeys_print : (shown : List ℕ) (source : SourceTold) (output output_now notes : SinkTold) (doors : DoorsTold)
      (trips : List LinkTold) (r : Result Ended AllocError) → c.action ≡ action.Print → shown ≡ text
      → IfOk r (λ ended. Prints shown ended.status output output_now) → IfOk r (λ ended. IsEmptyRecord ended.report)
      → IfOk r (λ ended. Obeys IsMade c (held c.file) ended
      (around (outside files source output notes doors trips) (outside files_now source output_now notes doors trips)))
  obeys_print shown source output output_now notes doors trips (Ok ended) is same shows empty =
      obeys action.Print ended (around (outside files source output notes doors trips)
      (outside files_now source output_now notes doors trips)) is asks unfailed (
        subst (λ t. Prints t ended.status output output_now) same shows,
        record { empty = empty; input = refl; notes = refl; doors = refl; links = refl },
      )
  obeys_print shown source output output_now notes doors trips (Err e) is same shows empty = tt

  -- what is done with a text does not hang on what is told of the files
  abbrev with_files : FilesTold → Outside → Outside
  with_files f o = record o { files = f }

  still_down : (text : List ℕ) (ended : Ended) (f g : FilesTold) (a : Around) → IsTurnedDown text ended a
      → IsTurnedDown text ended (around (with_files f a.before) (with_files g a.now))
  still_down text ended f g a down = record {
    line = down.line;
    why = down.why;
    status = down.status;
    written = down.written;
    alone = record {
      empty = down.alone.empty;
      input = down.alone.input;
      notes = down.alone.notes;
      doors = down.alone.doors;
      links = down.alone.links;
    };
  }

  -- around a run the files are left alone
  again : (text : List ℕ) (ended : Ended) (f g : FilesTold) (a : Around) → Runs c text ended a
      → Runs c text ended (around (with_files f a.before) (with_files g a.now))
  again text ended f g a (headline.ran parts checked lined) = headline.ran parts checked lined
  again text ended f g a (headline.refused down) = headline.refused (still_down text ended f g a down)

  pub obeys_run : (shown : List ℕ) (input input_now : SourceTold) (output output_now notes notes_now : SinkTold) (doors : DoorsTold)
      (trips trips_now : List LinkTold) (r : Result Ended AllocError) → c.action ≡ action.Run → shown ≡ text
      → ((f : FilesTold) (doors : DoorsTold) → IfOk r (λ ended. Runs c shown ended
      (around (outside f input output notes doors trips) (outside f input_now output_now notes_now doors trips_now))))
      → IfOk r (λ ended. Obeys IsMade c (held c.file) ended
      (around (outside files input output notes doors trips) (outside files_now input_now output_now notes_now doors trips_now)))
  obeys_run shown input input_now output output_now notes notes_now doors trips trips_now (Ok ended) is same runs =
      let a = around (outside files input output notes doors trips) (outside files_now input_now output_now notes_now doors trips_now) in
      obeys action.Run ended a is asks unfailed
      (subst (λ t. Runs c t ended a) same
      (again shown ended files files_now
      (around (outside files input output notes doors trips) (outside files input_now output_now notes_now doors trips_now))
      (runs files doors)))
  obeys_run shown input input_now output output_now notes notes_now doors trips trips_now (Err e) is same runs = tt

  -- and so around what is served
  once_more : (text : List ℕ) (ended : Ended) (f g : FilesTold) (a : Around) → Serves IsMade c text ended a
      → Serves IsMade c text ended (around (with_files f a.before) (with_files g a.now))
  once_more text ended f g a (headline.served parts checked doored) = headline.served parts checked doored
  once_more text ended f g a (headline.refused down) = headline.refused (still_down text ended f g a down)

  pub obeys_serve : (shown : List ℕ) (source : SourceTold) (output output_now notes notes_now : SinkTold)
      (doors doors_now : DoorsTold) (trips trips_now : List LinkTold) (r : Result Ended AllocError)
      → c.action ≡ action.Serve → shown ≡ text
      → ((f : FilesTold) (source : SourceTold) → IfOk r (λ ended. Serves IsMade c shown ended
      (around (outside f source output notes doors trips) (outside f source output_now notes_now doors_now trips_now))))
      → IfOk r (λ ended. Obeys IsMade c (held c.file) ended
      (around (outside files source output notes doors trips) (outside files_now source output_now notes_now doors_now trips_now)))
  obeys_serve shown source output output_now notes notes_now doors doors_now trips trips_now (Ok ended) is same serves =
      let a = around (outside files source output notes doors trips) (outside files_now source output_now notes_now doors_now trips_now) in
      obeys action.Serve ended a is asks unfailed
      (subst (λ t. Serves IsMade c t ended a) same
      (once_more shown ended files files_now
      (around (outside files source output notes doors trips) (outside files source output_now notes_now doors_now trips_now))
      (serves files source)))
  obeys_serve shown source output output_now notes notes_now doors doors_now trips trips_now (Err e) is same serves = tt

-- ---- a file that can't be read

-- what each action writes of it
abbrev TellsBy : Command → (SinkTold × SinkTold) → Action → Type 0
TellsBy c output act = elim act [
  | action.Check ↦ output.1 ≡ output.0
  | action.Explain ↦ IsWritten (unreadable_line c.file) output.0 output.1
  | action.Print ↦ output.1 ≡ output.0
  | action.Run ↦ output.1 ≡ output.0
  | action.Serve ↦ output.1 ≡ output.0
]

-- an action that writes nothing of it, or its line
pub tells : (c : Command) (act : Action) (before now : SinkTold) → c.action ≡ act → TellsBy c (before, now) act → TellsOfFile c before now
tells c act before now is told = subst (λ a. TellsBy c (before, now) a) (sym is) told

-- `explain` writes its line
pub tells_line : (c : Command) (called : List ℕ) (r : Result Ended AllocError) (before now : SinkTold) → c.action ≡ action.Explain → called ≡ c.file
    → IfOk r (λ ended. IsWritten (unreadable_line called) before now) → IfOk r (λ ended. TellsOfFile c before now)
tells_line c called (Ok ended) before now is by written =
    tells c action.Explain before now is (subst (λ n. IsWritten (unreadable_line n) before now) by written)
tells_line c called (Err e) before now is by written = tt

-- the command is done
pub obeys_failed : (IsMade : WireTold → Type 0) (c : Command) (told : Option (List ℕ)) (name : List ℕ) (files files_now : FilesTold)
    (source : SourceTold) (output output_now notes : SinkTold) (doors : DoorsTold) (trips : List LinkTold) (r : Result Ended AllocError)
    → name ≡ c.file → HasAskedFor name files files_now → Rose files.faults files_now.faults
    → IfOk r (λ ended. ended.status ≡ 2) → IfOk r (λ ended. TellsOfFile c output output_now)
    → IfOk r (λ ended. IsEmptyRecord ended.report)
    → IfOk r (λ ended. Obeys IsMade c told ended
    (around (outside files source output notes doors trips) (outside files_now source output_now notes doors trips)))
obeys_failed IsMade c told name files files_now source output output_now notes doors trips (Ok ended) named asks rose status tells empty =
    headline.failed status (subst (λ n. HasAskedFor n files files_now) named asks) rose tells
    (record { empty = empty; input = refl; notes = refl; doors = refl; links = refl })
obeys_failed IsMade c told name files files_now source output output_now notes doors trips (Err e) named asks rose status tells empty = tt

-- ---- a load

-- the order service runs over the lines of a load
pub loaded : (n : ℕ) (text : List ℕ) (found : Result Program Refusal) (program : Program) (run ended : Ended) (line : List ℕ)
    (before now : SinkTold) → text ≡ order_service → IsFound text found → found ≡ Ok program
    → IsLoaded (parts_of program) text n run → line ≡ summary n run.report.history.entries.items → ended.report ≡ run.report
    → SaysAt run.status line ended.status before now → Loads n ended before now
loaded n text found program run ended line before now named right is done sums same says =
    headline.loaded (parts_of program) run.status
    (subst (λ t. IsChecked t (parts_of program)) named (subst (λ x. IsFound text x) is right))
    (subst (λ report. IsLoaded (parts_of program) order_service n (record { status = run.status; report = report })) (sym same)
    (subst (λ t. IsLoaded (parts_of program) t n run) named done))
    (subst (λ t. SaysAt run.status t ended.status before now)
    (sums ∙ ap (λ report. summary n report.history.entries.items) (sym same)) says)

-- and were it no program, it would be refused
pub not_loaded : (n : ℕ) (text : List ℕ) (found : Result Program Refusal) (refusal : Refusal) (r : Result Ended AllocError)
    (before now : SinkTold) → text ≡ order_service → IsFound text found → found ≡ Err refusal
    → IfOk r (λ ended. ended.status ≡ 3) → IfOk r (λ ended. IsWritten (refusal_line refusal) before now)
    → IfOk r (λ ended. IsEmptyRecord ended.report) → IfOk r (λ ended. Loads n ended before now)
not_loaded n text found refusal (Ok ended) before now named right is status written empty =
    headline.refused (refusal_line refusal)
    (subst (λ t. IsUncheckedBy t (refusal_line refusal)) named (subst (λ x. IsFound text x) is right)) status written empty
not_loaded n text found refusal (Err e) before now named right is status written empty = tt

-- ---- the words

-- words that are a command
pub promised : (IsMade : WireTold → Type 0) (line : List (List ℕ)) (said : Words) (c : Command) (held : List ℕ → Option (List ℕ))
    (a : Around) (r : Result Ended AllocError) → IsUnderstood line said → said ≡ words.Command c
    → IfOk r (λ ended. Obeys IsMade c (held c.file) ended a)
    → IfOk r (λ ended. (w : Words) × IsUnderstood line w × Promises IsMade w held ended a)
promised IsMade line said c held a (Ok ended) right is obeyed =
    (words.Command c, subst (λ w. IsUnderstood line w) is right, obeyed)
promised IsMade line said c held a (Err e) right is obeyed = tt

-- words that ask for a load
pub few_lines : (line : List (List ℕ)) (said : Words) (n : ℕ) → IsUnderstood line said → said ≡ words.Load n → n ≤ 600
few_lines line said n right is = (right.load n is).1

pub loads : (IsMade : WireTold → Type 0) (line : List (List ℕ)) (said : Words) (n : ℕ) (held : List ℕ → Option (List ℕ))
    (files : FilesTold) (source : SourceTold) (output output_now notes : SinkTold) (doors : DoorsTold) (trips : List LinkTold)
    (r : Result Ended AllocError) → IsUnderstood line said → said ≡ words.Load n
    → IfOk r (λ ended. Loads n ended output output_now)
    → IfOk r (λ ended. (w : Words) × IsUnderstood line w × Promises IsMade w held ended
    (around (outside files source output notes doors trips) (outside files source output_now notes doors trips)))
loads IsMade line said n held files source output output_now notes doors trips (Ok ended) right is done = (
  words.Load n,
  subst (λ w. IsUnderstood line w) is right,
  (done, record { files = refl; input = refl; notes = refl; doors = refl; links = refl }),
)
loads IsMade line said n held files source output output_now notes doors trips (Err e) right is done = tt

-- words that ask for help
pub helped : (IsMade : WireTold → Type 0) (line : List (List ℕ)) (said : Words) (text shown : List ℕ) (held : List ℕ → Option (List ℕ)) (ended : Ended)
    (files : FilesTold) (source : SourceTold) (output output_now notes : SinkTold) (doors : DoorsTold) (trips : List LinkTold)
    → IsUnderstood line said → said ≡ words.Help text → shown ≡ text → Says shown ended.status output output_now
    → IsEmptyRecord ended.report
    → (w : Words) × IsUnderstood line w × Promises IsMade w held ended
    (around (outside files source output notes doors trips) (outside files source output_now notes doors trips))
helped IsMade line said text shown held ended files source output output_now notes doors trips right is same says empty = (
  words.Help text,
  subst (λ w. IsUnderstood line w) is right,
  record {
    said = subst (λ t. Says t ended.status output output_now) same says;
    files = refl;
    alone = record { empty = empty; input = refl; notes = refl; doors = refl; links = refl };
  },
)

-- words that are wrong
pub mistaken : (IsMade : WireTold → Type 0) (line : List (List ℕ)) (said : Words) (text shown : List ℕ) (held : List ℕ → Option (List ℕ)) (ended : Ended)
    (files : FilesTold) (source : SourceTold) (output notes notes_now : SinkTold) (doors : DoorsTold) (trips : List LinkTold)
    → IsUnderstood line said → said ≡ words.UsageError text → shown ≡ text → ended.status ≡ 1
    → IsWritten shown notes notes_now → IsEmptyRecord ended.report
    → (w : Words) × IsUnderstood line w × Promises IsMade w held ended
    (around (outside files source output notes doors trips) (outside files source output notes_now doors trips))
mistaken IsMade line said text shown held ended files source output notes notes_now doors trips right is same status written empty = (
  words.UsageError text,
  subst (λ w. IsUnderstood line w) is right,
  record {
    status = status;
    noted = subst (λ t. IsWritten t notes notes_now) same written;
    empty = empty;
    files = refl;
    input = refl;
    output = refl;
    doors = refl;
    links = refl;
  },
)

-- What is said of a program: `ok`, and the lines of its notes.
use Rattle.std.specs.Prelude.{◌≡◌, ℕ, Bool, true, false, ◌&&◌, if◌then◌else◌, List, [], ◌∷◌, ◌++◌, codes, drop}
use Rattle.std.specs.Prelude.{flat_map}
use Rattle.behaviour_tree.specs.Data.{ProgramParts}
use Rattle.check_verdicts.specs.Programs.{IsChecked}
use Rattle.explain_notes.specs.declared.kind.NoteKind.{NoteKind}
use Rattle.explain_notes.specs.declared.kind.NoteKind.TheVariants as kind
use Rattle.explain_notes.specs.Notes.{Noted, notes_of}
use Rattle.explain_text.specs.Explained.{pointed}
use Rattle.explain_text.specs.Words.{begins_with}

-- what a person reads of a note
abbrev pub note_words : NoteKind → List ℕ
note_words kind.Uncaught = codes "nothing catches this fault, and no `throws` names it"
note_words kind.UncaughtInLoop = codes "nothing catches this fault, and no `throws` names it"
note_words kind.EndsService = codes "nothing catches this fault: it ends the loop and the service"
note_words kind.EndsLoop = codes "where this or another expression has no value, the loop ends"
note_words kind.CallEndsLoop = codes "where this or another call comes back with it, the loop ends"
note_words kind.Unthrown = codes "nothing throws the fault of this handler"
note_words kind.NothingUndone = codes "no scope of this name has a handler under `this`: nothing is undone"
note_words kind.Unsent = codes "nothing is sent to this port"
note_words kind.OwnSocket =
    codes "this file listens here itself and can't take its own call: give that service a `local://` port too"
note_words kind.Unset = codes "this variable is read, and nothing sets it"
note_words kind.Unread = codes "this variable is set, and nothing reads it"
note_words kind.Forgotten = codes "this variable is set, and nothing reads it"
note_words kind.TreeCut = codes "`=` takes the root alone: `<<` copies what stands below it too"
note_words kind.LiteralCut = codes "`=` sets the root alone: `<<` copies the members of the literal too"
note_words kind.Unanswered = codes "this is answered, and nothing sets it"
note_words kind.NotShared = codes "each session has a `global` of its own: a single service keeps what sessions share"
note_words kind.AnsweredOnce =
    codes "this is answered once, and later callers are refused: write `execution: concurrent`, or a loop"

-- it is noted of a handler
abbrev pub is_of_handler : NoteKind → Bool
is_of_handler kind.Unthrown = true
is_of_handler k = false

-- a handler of `default` stands there, which in another Jolie is one of all faults
abbrev pub is_default : NoteKind → List ℕ → Bool
is_default k rest = is_of_handler k && begins_with (codes "default") rest

-- what a person reads of a note, by the text from its place on
abbrev pub words_at : NoteKind → List ℕ → List ℕ
words_at k rest =
    if is_default k rest then codes "`default` is the name of a fault here, and nothing throws it: name each fault"
    else note_words k

-- it is noted of a fault that ends a loop
abbrev pub is_of_loop : NoteKind → Bool
is_of_loop kind.EndsLoop = true
is_of_loop kind.CallEndsLoop = true
is_of_loop k = false

-- what a note says, by the text from its place on: of a fault that ends a loop its name first
abbrev pub note_says : Noted → List ℕ → List ℕ
note_says n rest =
    if is_of_loop n.kind
    then codes "no scope of the loop handles " ++ (n.name.text ++ (codes ": " ++ words_at n.kind rest))
    else words_at n.kind rest

-- where a note is and what it says, the line of the place, and its mark
abbrev pub note_lines : List ℕ → List ℕ → Noted → List ℕ
note_lines file text n = pointed file text n.name.at (codes "note: " ++ note_says n (drop n.name.at text))

-- `ok`, and the lines of each note
abbrev pub noted_text : List ℕ → List ℕ → List Noted → List ℕ
noted_text file text notes = codes "ok\n" ++ flat_map (note_lines file text) notes

-- the bytes say of a program's text that it is one, with the notes of its definitions
pub record IsNoted (file text : List ℕ) (bytes : List ℕ) : Type 0 where
  pub parts : ProgramParts
  pub checked : IsChecked text parts
  pub lines : bytes ≡ noted_text file text (notes_of checked.file)

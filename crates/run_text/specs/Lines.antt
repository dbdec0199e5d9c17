-- The text of a run's record, line by line.
use Rattle.std.specs.Prelude.{ℕ, suc, List, [], ◌∷◌, ◌++◌, map, flat_map, length, codes, decimal}
use Rattle.behaviour_tree.specs.declared.words.Event.{Event}
use Rattle.run_record.specs.declared.record.Record.{Record}
use Rattle.run_text.specs.declared.line.Line.{Line}
use Rattle.run_text.specs.declared.line.Line.TheVariants as line
use Rattle.run_text.specs.Strings.{bytes_string}
use Rattle.run_text.specs.Words.{Word, entry_words, event_words}

-- the words of a line
abbrev pub line_words : Line → List Word
line_words line.Version = codes "record" ∷ (codes "1" ∷ [])
line_words (line.Program text) = codes "program" ∷ (bytes_string text ∷ [])
line_words (line.Entry e) = entry_words e
line_words (line.Sessions n) = codes "sessions" ∷ (decimal n ∷ [])
line_words (line.Event session e) = event_words session e
line_words (line.Traffic t) = codes "traffic" ∷ (bytes_string t.read ∷ (bytes_string t.written ∷ []))
line_words line.Ending = codes "end" ∷ []

-- words that stand behind another, each with one space before it
abbrev pub spaced : List Word → List ℕ
spaced [] = []
spaced (w ∷ ws) = 32 ∷ (w ++ spaced ws)

-- words with one space between every two
abbrev pub joined : List Word → List ℕ
joined [] = []
joined (w ∷ ws) = w ++ spaced ws

-- a line: its words and a line feed
abbrev pub line_text : Line → List ℕ
line_text l = joined (line_words l) ++ 10 ∷ []

-- the events of each session in order, that of this number being the first
abbrev pub event_lines : ℕ → List (List Event) → List Line
event_lines session [] = []
event_lines session (es ∷ ess) = map (line.Event session) es ++ event_lines (suc session) ess

-- the lines of a record: the entries in order, the number of sessions, the events by session, the traffic
abbrev pub lines_of : Record → List Line
lines_of r =
    line.Version ∷ (line.Program r.program ∷ (map line.Entry r.history.entries.items
    ++ line.Sessions (length r.sessions) ∷ (event_lines 0 r.sessions
    ++ (map line.Traffic r.traffic ++ line.Ending ∷ []))))

-- the text of a record
abbrev pub record_text : Record → List ℕ
record_text r = flat_map line_text (lines_of r)

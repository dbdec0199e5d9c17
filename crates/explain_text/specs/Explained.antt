-- The lines that explain a refusal, and the one of a file that can't be read.
use Rattle.std.specs.Prelude.{◌≡◌, ℕ, nat_lt, Bool, ◌&&◌, ◌||◌, not, ◌==◌, if◌then◌else◌, List, [], ◌∷◌, ◌++◌, codes, map}
use Rattle.std.specs.Prelude.{Option, option_map, unwrap_or}
use Rattle.std.specs.Fmt.{decimal}
use Rattle.explain_places.specs.Places.{line_at, column_at, line_of, mark_of}
use Rattle.explain_hints.specs.declared.hint.Hint.{Hint}
use Rattle.explain_hints.specs.Hints.{words_of as hint_words}
use Rattle.explain_hints.specs.MayStand.{AreToldAt}
use Rattle.check_verdicts.specs.declared.refusal.Cause.{Cause}
use Rattle.check_verdicts.specs.declared.refusal.Cause.TheVariants as cause
use Rattle.check_verdicts.specs.declared.refusal.Refusal.{Refusal}
use Rattle.check_verdicts.specs.RefusalLines.{stage_word, cause_word}
use Rattle.explain_text.specs.Words.{words_of, rule_of, advice_words}
use Rattle.explain_text.specs.Advised.{IsAdvised}
use Rattle.explain_text.specs.declared.advice.Advice.{Advice}

-- ---- where, and what is said

-- `FILE:LINE:COLUMN: WORDS`
abbrev pub head_line : List ℕ → ℕ → ℕ → List ℕ → List ℕ
head_line file line column words =
    file ++ (codes ":" ++ (decimal line ++ (codes ":" ++ (decimal column ++ (codes ": " ++ (words ++ codes "\n"))))))

-- a byte that no terminal shows: one below 32 but a tab, and 127
abbrev pub is_hidden : ℕ → Bool
is_hidden b = (nat_lt b 32 && not (b == 9)) || b == 127

-- what is written for a byte: `?` for one that no terminal shows, so that none moves what stands there
abbrev pub shown : ℕ → ℕ
shown b = if is_hidden b then 63 else b

-- words of a place of a file's text: where it is, the line in which it stands as it is shown, and a mark under it
abbrev pub pointed : List ℕ → List ℕ → ℕ → List ℕ → List ℕ
pointed file text at words =
    head_line file (line_at text at) (column_at text at) words
    ++ map shown (line_of text at) ++ codes "\n" ++ mark_of text at ++ codes "\n"

-- `WORDS [STAGE NAME]`: what is wrong, and what documents call the refusal by
abbrev pub tagged_words : Refusal → List ℕ
tagged_words r =
    words_of r.cause ++ (codes " [" ++ (stage_word r.stage ++ (codes " " ++ (cause_word r.cause ++ codes "]"))))

-- ---- what helps

-- hints after another: commas between, and "or" before the last
abbrev pub further : List Hint → List ℕ
further [] = []
further (h ∷ []) = codes " or " ++ hint_words h
further (h ∷ k ∷ hs) = codes ", " ++ hint_words h ++ further (k ∷ hs)

-- hints as a person reads them
abbrev pub listed : List Hint → List ℕ
listed [] = []
listed (h ∷ hs) = hint_words h ++ further hs

-- what may stand at the place of a token that may not; of another refusal its words say what is wrong
abbrev pub AreHintsOf : List ℕ → Cause → ℕ → List Hint → Type 0
AreHintsOf text cause.Syntax at hints = AreToldAt text at hints
AreHintsOf text _ at hints = hints ≡ []

-- advice in words, and nothing where there is none
abbrev pub advised_words : Option Advice → List ℕ
advised_words advice = unwrap_or (option_map advice_words advice) []

-- a line of a kind, or none where there is nothing to say
abbrev pub line_if_any : List ℕ → List ℕ → List ℕ
line_if_any kind [] = []
line_if_any kind (b ∷ bs) = kind ++ (b ∷ bs) ++ codes "\n"

-- ---- the whole

-- the refusal of a file's text, explained: where and what, what may stand there, the rule that is broken, and advice
abbrev pub explanation : List ℕ → List ℕ → Refusal → List Hint → Option Advice → List ℕ
explanation file text r hints advice =
    pointed file text r.at (tagged_words r)
    ++ line_if_any (codes "expected: ") (listed hints) ++ line_if_any (codes "rule: ") (rule_of r.cause text r.at)
    ++ line_if_any (codes "advice: ") (advised_words advice)

-- the bytes explain the refusal of a file's text, with what may stand there and what is advised
pub record IsExplained (file text : List ℕ) (r : Refusal) (bytes : List ℕ) : Type 0 where
  pub hints : List Hint
  pub told : AreHintsOf text r.cause r.at hints
  pub advice : Option Advice
  pub advised : IsAdvised text r.cause r.at hints advice
  pub lines : bytes ≡ explanation file text r hints advice

-- ---- another line

-- of a file that can't be read
abbrev pub unreadable_line : List ℕ → List ℕ
unreadable_line file = file ++ codes ": cannot be read\n"

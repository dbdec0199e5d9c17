-- These definitions serve the proofs alone: no promise speaks of them.
-- A text as its words are written.
use Rattle.std.specs.Prelude.{ℕ, List, [], ◌∷◌, ◌++◌}
use Rattle.run_text.specs.Words.{Word}

-- a text with more words after it, each with one space before it
abbrev pub after : List ℕ → List Word → List ℕ
after text [] = text
after text (w ∷ ws) = after (text ++ 32 ∷ w) ws

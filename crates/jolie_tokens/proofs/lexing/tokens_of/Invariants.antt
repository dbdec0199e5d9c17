use Rattle.std.proofs.Common.{◌≡◌, ◌+◌, List, length}
use Rattle.jolie_tokens.specs.Pieces.{Piece}
use Rattle.jolie_tokens.specs.Texts.{all_written, Reads, tokens_of}
use Rattle.jolie_tokens.proofs.lexing.tokens_of.Given as goal

abbrev pub invariant-loop-rest : goal.invariant-loop-rest
invariant-loop-rest l =
    (l.at + length l.rest ≡ length l.text)
    × ((pieces : List Piece) × Reads l.text pieces l.rest × (l.tokens ≡ tokens_of pieces 0) × (l.at ≡ length (all_written pieces)))

abbrev pub decreases-loop-rest : goal.decreases-loop-rest
decreases-loop-rest l = length l.rest

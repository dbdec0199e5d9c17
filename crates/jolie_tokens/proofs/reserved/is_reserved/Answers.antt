use Rattle.std.proofs.Common.{sym, ◌∙◌}
use Rattle.jolie_tokens.specs.Reserved.{reserved_words}
use Rattle.jolie_tokens.proofs.ReservedWords.{word_found, word_finds}
use Rattle.jolie_tokens.proofs.reserved.is_reserved.Goals as goal

pub returns : goal.returns
returns c = (λ e. word_found c.args.word.now reserved_words (sym c.contains.ensures.value ∙ e), λ h. c.contains.ensures.value ∙ word_finds c.args.word.now reserved_words h)

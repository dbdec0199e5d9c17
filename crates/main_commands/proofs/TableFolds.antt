-- A fold over the rows of a table, one row on.
use Rattle.std.proofs.Common.{◌≡◌, ◌∙◌, ◌<◌, ◌+◌, ℕ, List, length, get_or, map, drop, ap, sym}
use Rattle.std.proofs.lemmas.List.{at_drop_more}
use Rattle.clap.specs.Words.{App}
use Rattle.main_commands.specs.declared.table.CommandRow.{CommandRow}
use Rattle.main_commands.specs.Rows.{command_words}
use Rattle.main_commands.specs.Grammar.{with_command, with_commands}

pub commands_next : (old new : App) (rows : List CommandRow) (i : ℕ) (d : CommandRow) → i < length rows → new ≡ with_command old (command_words (get_or rows i d))
    → with_commands new (map command_words (drop (i + 1) rows)) ≡ with_commands old (map command_words (drop i rows))
commands_next old new rows i d inside e =
    ap (λ (a : App). with_commands a (map command_words (drop (i + 1) rows))) e
    ∙ sym (at_drop_more (λ (rest : List CommandRow). with_commands old (map command_words rest)) rows i d inside)

-- What is said of a command over a file, by what its options come to.
use Rattle.std.proofs.Common.{◌≡◌, ◌∙◌, ℕ, List, rules, refl, Some, None, ap}
use Rattle.std.specs.Prelude.{codes}
use Rattle.clap.specs.Words.{first_of, found_of, rows_of}
use Rattle.main_commands.specs.Usage.{budget_by, connections_by, list_words}
use Rattle.main_commands.specs.declared.words.Words.TheVariants as words
use Rattle.main_commands.proofs.AmongMatches.{said_with}
use Rattle.main_commands.proofs.found.file_words.Goals as goal

pub returns-in_default : goal.returns-in_default
returns-in_default c =
    let same : c.in_ok-new.field-0 ≡ list_words = search rules in
    let rows = rows_of (found_of c.args.given.now) in
    ap (λ (text : List ℕ). words.UsageError text) same
    ∙ said_with c.args.action c.args.file.now rows (budget_by (first_of (codes "budget") rows)) (connections_by (first_of (codes "connections") rows)) None
    refl refl (search rules)

pub returns : goal.returns
returns c =
    let named : c.in_ok-file.file ≡ c.args.file.now = search rules in
    ap
    (λ (file : List ℕ).
    words.Command (record {
      action = c.args.action;
      file = file;
      budget = c.number_given-budget.result;
      picks = c.in-Some.picks;
      connections = c.number_given-connections.result;
    })) named
    ∙ said_with c.args.action c.args.file.now (rows_of (found_of c.args.given.now)) c.number_given-budget.result c.number_given-connections.result (Some c.in-Some.picks)
    c.number_given-budget.ensures c.number_given-connections.ensures (search rules)

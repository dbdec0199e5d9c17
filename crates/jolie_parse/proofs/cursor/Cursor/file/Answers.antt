use Rattle.std.proofs.Common.{◌≡◌, true, false, sym, ◌∙◌}
use Rattle.jolie_parse.specs.Grammar.{file}
use Rattle.jolie_parse.specs.Reading.{read}
use Rattle.jolie_parse.proofs.Lists.{passes}
use Rattle.jolie_parse.proofs.Parses.{parts_read, whole_stops, whole_left, whole_ends}
use Rattle.jolie_parse.proofs.cursor.Cursor.file.Goals as goal

pub returns-in_err-parts : goal.returns-in_err-parts
returns-in_err-parts c =
    passes _ c.from_residual.result c.in_err-parts.field-0.0 _ c.from_residual.ensures.1
    (whole_stops (read c.args.levels file c.args.self.now) _ _ (rw parts_read at c.in_err-parts.ensures))

pub returns-then-not-is_empty : goal.returns-then-not-is_empty
returns-then-not-is_empty c =
    whole_left (read c.args.levels file c.args.self.now) c.in_ok-parts.parts c.file_parts.new.self (sym (parts_read c.args.levels c.args.self.now) ∙ c.in_ok-parts.ensures)
    (λ h. let never : true ≡ false = sym (c.is_empty.ensures.1 h) ∙ c.if-not-is_empty.true in cc)

pub returns : goal.returns
returns c =
    whole_ends (read c.args.levels file c.args.self.now) c.in_ok-parts.parts c.file_parts.new.self (sym (parts_read c.args.levels c.args.self.now) ∙ c.in_ok-parts.ensures)
    (c.is_empty.ensures.0 c.if-not-is_empty.false)

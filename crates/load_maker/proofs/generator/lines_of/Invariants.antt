use Rattle.std.proofs.Common.{◌≡◌, string_bytes}
use Rattle.load_maker.specs.Lines.{first_lines, number, with_ends}
use Rattle.load_maker.proofs.generator.lines_of.Given as goal

abbrev pub invariant-loop-id : goal.invariant-loop-id
invariant-loop-id l = record {
  written : string_bytes l.text ≡ with_ends (first_lines l.count l.id);
  reached : l.number ≡ number l.count l.id;
}

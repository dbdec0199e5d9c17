-- Line by line.
use Rattle.std.proofs.Common.{◌≡◌, ◌∙◌, suc, ◌+◌, ap, arith, rules, string_bytes, ◌++◌, ◌∷◌, []}
use Rattle.load_maker.specs.Lines.{first_lines, number, with_ends}
use Rattle.load_maker.proofs.LinesCut.{line_written, next_number, none_reached, none_written}
use Rattle.load_maker.proofs.generator.lines_of.Goals as goal

pub loop-id-init : goal.loop-id-init
loop-id-init c =
    let empty : string_bytes c.new-text.result ≡ [] = search rules in
    record { written = empty ∙ none_written c.args.count; reached = none_reached c.args.count }

pub loop-id-preserved : goal.loop-id-preserved
loop-id-preserved c =
    let n = c.args.count in
    let at = c.loop-id in
    let up : suc at.id ≡ at.id + 1 = omega arith in
    let reached = next_number n at.id at.number c.next-number.result at.invariant.reached c.next-number.ensures in
    let first : string_bytes c.push_str.new.self ≡ string_bytes at.text ++ string_bytes c.in_ok-line.line =
    c.in_ok-push_str.ensures.bytes ∙ ap (λ bytes. string_bytes at.text ++ bytes) c.as_str.ensures.value in
    let pushed : string_bytes c.push_str-in-loop-id.new.self ≡ (string_bytes at.text ++ string_bytes c.in_ok-line.line) ++ 10 ∷ [] =
    c.in_ok-push_str-2.ensures.bytes ∙ ap (λ bytes. bytes ++ 10 ∷ []) first in
    record {
      written = line_written n at.id c.next-number.result (string_bytes at.text) (string_bytes c.in_ok-line.line) _ at.invariant.written
          reached c.in_ok-line.ensures pushed ∙ ap (λ i. with_ends (first_lines n i)) up;
      reached = reached ∙ ap (number n) up;
    }

-- The line and its end stand inside of the bytes.
use Rattle.std.proofs.Common.{◌≡◌, ◌+◌, ◌≤◌, ◌++◌, ◌∷◌, [], length, take, drop, sym, ap, subst, ◌∙◌, arith}
use Rattle.run_lines.specs.Passing.{Passing, IsLine}
use Rattle.run_lines.proofs.Splitting.{open_unended, line_within, passed-line, left-line, ended-line}
use Rattle.run_lines.proofs.lines.Lines.pass.Goals as goal

pub overflow_add-end : goal.overflow_add-end
overflow_add-end c =
    let bytes = c.self.inside.bytes in
    let l : IsLine c.args.length (drop c.self.inside.passed bytes.items) = subst (IsLine c.args.length) (sym (ap (λ (v : Passing). v.rest) c.self.view_is)) c.requires in
    let within : c.self.inside.passed + c.args.length + 1 ≤ length bytes.items = line_within bytes.items c.self.inside.passed c.args.length l in
    omega (arith, bytes.ok.0, bytes.ok.1, bytes.small)

pub overflow_add-self : goal.overflow_add-self
overflow_add-self c =
    let bytes = c.self.inside.bytes in
    let l : IsLine c.args.length (drop c.self.inside.passed bytes.items) = subst (IsLine c.args.length) (sym (ap (λ (v : Passing). v.rest) c.self.view_is)) c.requires in
    let within : c.self.inside.passed + c.args.length + 1 ≤ length bytes.items = line_within bytes.items c.self.inside.passed c.args.length l in
    omega (arith, bytes.ok.0, bytes.ok.1, bytes.small)

pub invariant_of-self : goal.invariant_of-self
invariant_of-self c =
    let bytes = c.self.inside.bytes.items in
    let l : IsLine c.args.length (drop c.self.inside.passed bytes) = subst (IsLine c.args.length) (sym (ap (λ (v : Passing). v.rest) c.self.view_is)) c.requires in
    let within : c.self.inside.passed + c.args.length + 1 ≤ length bytes = line_within bytes c.self.inside.passed c.args.length l in
    (omega arith, open_unended [] tt, ended-line bytes c.self.inside.passed c.args.length l)

pub returns-clause-passed : goal.returns-clause-passed
returns-clause-passed c =
    let bytes = c.self.inside.bytes.items in
    let l : IsLine c.args.length (drop c.self.inside.passed bytes) = subst (IsLine c.args.length) (sym (ap (λ (v : Passing). v.rest) c.self.view_is)) c.requires in
    passed-line bytes c.self.inside.passed c.args.length l ∙ ap (λ (v : Passing). v.passed ++ take c.args.length v.rest ++ 10 ∷ []) c.self.view_is

pub returns-clause-rest : goal.returns-clause-rest
returns-clause-rest c =
    let bytes = c.self.inside.bytes.items in
    let l : IsLine c.args.length (drop c.self.inside.passed bytes) = subst (IsLine c.args.length) (sym (ap (λ (v : Passing). v.rest) c.self.view_is)) c.requires in
    left-line bytes c.self.inside.passed c.args.length l ∙ ap (λ (v : Passing). drop (c.args.length + 1) v.rest) c.self.view_is

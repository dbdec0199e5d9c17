-- An end that is found behind what was seen is the first; where none is found, all was seen.
use Rattle.std.proofs.Common.{◌≡◌, ◌+◌, ◌-◌, ◌<◌, ◌^◌, ◌==◌, ℕ, List, [], length, take, drop, Option, Some, None, position, sym, ap, subst, ◌∙◌, arith, length-drop, take_all}
use Rattle.std.proofs.lemmas.List.{take_rest}
use Rattle.run_theorem.specs.Split.{IsOpen, split}
use Rattle.run_lines.specs.Passing.{Passing, IsLine}
use Rattle.run_lines.specs.FrontSteps.{progress}
use Rattle.run_lines.proofs.Pieces.{within_memory}
use Rattle.run_lines.proofs.Splitting.{found_line, found_none, line_inside, line_unended, open_unended}
use Rattle.run_lines.proofs.lines.Lines.find.Goals as goal

-- where a line ends first in the bytes behind a place
ends_at : (bytes ds : List ℕ) (n : ℕ) (r : Option ℕ) → r ≡ position (λ b. b == 10) (take (length ds - n) (drop n ds)) → ds ≡ bytes
    → position (λ b. b == 10) (drop n bytes) ≡ r
ends_at bytes ds n r e d = sym (e ∙ ap (position (λ b. b == 10)) (take_rest ds n ∙ ap (drop n) d))

pub invariant_of-self : goal.invariant_of-self
invariant_of-self c =
    let bytes = c.self.inside.bytes.items in
    let passed = c.self.inside.passed in
    let seen = c.self.inside.seen in
    let more = c.in-Some.more in
    let inv = c.self.invariant in
    let l : IsLine (seen + more) (drop passed bytes) =
    found_line bytes passed seen inv.0 inv.1 more (ends_at bytes c.deref.result.now (passed + seen) c.first_end.result c.first_end.ensures c.deref.ensures.value ∙ c.in-Some.is) in
    let inside : seen + more < length (drop passed bytes) = line_inside (seen + more) (drop passed bytes) l in
    let long : length (drop passed bytes) ≡ length bytes - passed = length-drop passed bytes in
    (omega arith, line_unended (seen + more) (drop passed bytes) l, inv.2)

pub invariant_of-self-in-None : goal.invariant_of-self-in-None
invariant_of-self-in-None c =
    let bytes = c.self.inside.bytes.items in
    let passed = c.self.inside.passed in
    let seen = c.self.inside.seen in
    let inv = c.self.invariant in
    let all : IsOpen (drop passed bytes) =
    found_none bytes passed seen inv.0 inv.1 (ends_at bytes c.deref.result.now (passed + seen) c.first_end.result c.first_end.ensures c.deref.ensures.value ∙ c.in-None.is) in
    let long : length (drop passed bytes) ≡ length bytes - passed = length-drop passed bytes in
    let full : take (c.len.result - passed) (drop passed bytes) ≡ drop passed bytes =
    take_all (c.len.result - passed) (drop passed bytes) (omega (arith, c.len.ensures, c.self.inside.bytes.ok.0)) in
    (omega (arith, c.len.ensures, c.self.inside.bytes.ok.0, inv.0), ap (λ l. (split l).0) full ∙ open_unended (drop passed bytes) all, inv.2)

pub returns-in-Some-clause-found : goal.returns-in-Some-clause-found
returns-in-Some-clause-found c =
    let bytes = c.self.inside.bytes.items in
    let passed = c.self.inside.passed in
    let seen = c.self.inside.seen in
    let more = c.in-Some.more in
    let inv = c.self.invariant in
    let l : IsLine (seen + more) (drop passed bytes) =
    found_line bytes passed seen inv.0 inv.1 more (ends_at bytes c.deref.result.now (passed + seen) c.first_end.result c.first_end.ensures c.deref.ensures.value ∙ c.in-Some.is) in
    subst (IsLine (seen + more)) (ap (λ (v : Passing). v.rest) c.self.view_is) l

pub returns-in-None-clause-found : goal.returns-in-None-clause-found
returns-in-None-clause-found c =
    let bytes = c.self.inside.bytes.items in
    let passed = c.self.inside.passed in
    let inv = c.self.invariant in
    let all : IsOpen (drop passed bytes) =
    found_none bytes passed c.self.inside.seen inv.0 inv.1 (ends_at bytes c.deref.result.now (passed + c.self.inside.seen) c.first_end.result c.first_end.ensures c.deref.ensures.value ∙ c.in-None.is) in
    subst IsOpen (ap (λ (v : Passing). v.rest) c.self.view_is) all

pub returns-in-Some-clause-within : goal.returns-in-Some-clause-within
returns-in-Some-clause-within c =
    let bytes = c.self.inside.bytes in
    let small : length bytes.items < 2 ^ 63 = omega (arith, bytes.ok.0, bytes.ok.1, bytes.small) in
    subst (λ (v : Passing). progress v < 2 ^ 64) c.self.view_is (within_memory bytes.items c.self.inside.passed (omega (arith, c.self.invariant.0)) small)

pub returns-in-None-clause-within : goal.returns-in-None-clause-within
returns-in-None-clause-within c =
    let bytes = c.self.inside.bytes in
    let small : length bytes.items < 2 ^ 63 = omega (arith, bytes.ok.0, bytes.ok.1, bytes.small) in
    subst (λ (v : Passing). progress v < 2 ^ 64) c.self.view_is (within_memory bytes.items c.self.inside.passed (omega (arith, c.self.invariant.0)) small)

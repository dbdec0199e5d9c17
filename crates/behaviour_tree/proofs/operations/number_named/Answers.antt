use Rattle.std.proofs.Common.{◌≡◌, sym, ◌∙◌, refl, ap, ℕ, ◌+◌, ◌^◌, Bool, List, ◌∷◌, ◌++◌, length, Option, Some, None, map}
use Rattle.std.specs.Prelude.{nat_lt, option_and_then, slice_get}
use Rattle.std.specs.List.{position_from}
use Rattle.std.proofs.lemmas.List.{length-map}
use Rattle.std.proofs.lemmas.Option.{cond_some}
use Rattle.behaviour_tree.specs.Data.{OperationPart}
use Rattle.behaviour_tree.specs.Operations.{has_name, in_32_bits, operations_in, operations_of, rest_of}
use Rattle.behaviour_tree.specs.PartsView.{interface_view, operation_view}
use Rattle.behaviour_tree.specs.declared.program.Interface.{Interface}
use Rattle.behaviour_tree.specs.declared.program.Operation.{Operation}
use Rattle.behaviour_tree.proofs.Positions.{position-within, position-behind, position-beyond}
use Rattle.behaviour_tree.proofs.operations.number_named.Goals as goal

-- the operations of the interface at hand stand first among those to come
unrolled : (t : OperationPart → Bool) (i n : ℕ) (whole : Option ℕ) (interfaces read : List Interface) (rest after : List ℕ) (here : List OperationPart) → whole ≡ position_from t i (operations_of (map interface_view interfaces) rest) → rest ≡ n ∷ after → read ≡ interfaces → here ≡ operations_in (slice_get (map interface_view read) n) → whole ≡ position_from t i (here ++ operations_of (map interface_view interfaces) after)
unrolled t i n whole interfaces read rest after here a b r d = a ∙ rw (b, d, r) refl

-- the number is the sum, where it is one of 32 bits
sum-is : (sum passed : ℕ) (operations : List Operation) → Some sum ≡ in_32_bits (passed + length operations) → passed + length (map operation_view operations) ≡ sum
sum-is sum passed operations e = rw (length-map operations operation_view) (cond_some (nat_lt (passed + length operations) (2 ^ 32)) (passed + length operations) sum (sym e)).1

no_sum : (passed : ℕ) (operations : List Operation) → None ≡ in_32_bits (passed + length operations) → in_32_bits (passed + length (map operation_view operations)) ≡ None
no_sum passed operations e = rw (length-map operations operation_view) (sym e)

pub returns-in-Some-place_named : goal.returns-in-Some-place_named
returns-in-Some-place_named c =
    let t = has_name c.args.name.now in
    let i = c.loop-number.passed in
    let here = map operation_view c.operations_at-operations.result.now in
    let all = c.args.parts.now.interfaces.items in
    let rest = operations_of (map interface_view all) (rest_of c.next.new.self) in
    let step = unrolled t i c.in-Some.number _ all c.deref-in-Some.result.now _ _ here c.loop-number.invariant c.in-Some.ensures.rest c.deref-in-Some.ensures.value c.operations_at-operations.ensures in
    let found = position-within t i c.in-Some-place_named.place here rest (sym c.in-Some-place_named.ensures) in
    c.added.ensures ∙ sym (ap (λ o. option_and_then in_32_bits o) (step ∙ found))

pub returns-in-None : goal.returns-in-None
returns-in-None c =
    let t = has_name c.args.name.now in
    let i = c.loop-number.passed in
    let operations = c.operations_at-operations.result.now in
    let here = map operation_view operations in
    let all = c.args.parts.now.interfaces.items in
    let rest = operations_of (map interface_view all) (rest_of c.next.new.self) in
    let step = unrolled t i c.in-Some.number _ all c.deref-in-Some.result.now _ _ here c.loop-number.invariant c.in-Some.ensures.rest c.deref-in-Some.ensures.value c.operations_at-operations.ensures in
    let behind = position-behind t i here rest (sym c.in_default-place_named.ensures) in
    sym (ap (λ o. option_and_then in_32_bits o) (step ∙ behind) ∙ position-beyond t (i + length here) rest (no_sum i operations c.in-None.ensures))

pub loop-number-preserved : goal.loop-number-preserved
loop-number-preserved c =
    let t = has_name c.args.name.now in
    let i = c.loop-number.passed in
    let operations = c.operations_at-operations.result.now in
    let here = map operation_view operations in
    let all = c.args.parts.now.interfaces.items in
    let rest = operations_of (map interface_view all) (rest_of c.next.new.self) in
    let step = unrolled t i c.in-Some.number _ all c.deref-in-Some.result.now _ _ here c.loop-number.invariant c.in-Some.ensures.rest c.deref-in-Some.ensures.value c.operations_at-operations.ensures in
    let behind = position-behind t i here rest (sym c.in_default-place_named.ensures) in
    step ∙ behind ∙ ap (λ n. position_from t n rest) (sum-is c.in-Some-added.sum i operations c.in-Some-added.ensures)

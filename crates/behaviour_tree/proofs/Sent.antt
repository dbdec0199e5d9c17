-- Which operation stands at a place among those of interfaces.
use Rattle.std.proofs.Common.{◌≡◌, ◌+◌, ◌<◌, ◌++◌, ◌∷◌, [], ℕ, zero, suc, List, length, drop, get_or, Some, arith, refl, sym, ap, add-one, drop-cons}
use Rattle.std.specs.Prelude.{slice_get}
use Rattle.behaviour_tree.specs.Data.{OperationPart, InterfacePart}
use Rattle.behaviour_tree.specs.Operations.{operations_in, operations_of}

-- ---- joined lists

pub get_front : {A : Type 0} (xs ys : List A) (n : ℕ) → n < length xs → slice_get (xs ++ ys) n ≡ slice_get xs n
get_front [] ys n h = absurd (omega arith)
get_front (x ∷ xs) ys zero h = refl
get_front (x ∷ xs) ys (suc n) h = get_front xs ys n (omega arith)

pub get_behind : {A : Type 0} (xs ys : List A) (n m : ℕ) → n ≡ length xs + m → slice_get (xs ++ ys) n ≡ slice_get ys m
get_behind [] ys n m h = ap (slice_get ys) (omega arith)
get_behind (x ∷ xs) ys zero m h = absurd (omega arith)
get_behind (x ∷ xs) ys (suc n) m h = get_behind xs ys n m (omega arith)

-- the element at a place
pub get_at : {A : Type 0} (xs : List A) (n : ℕ) (x : A) → n < length xs → x ≡ get_or xs n x → slice_get xs n ≡ Some x
get_at [] n x h is = absurd (omega arith)
get_at (y ∷ ys) zero x h is = ap Some (sym is)
get_at (y ∷ ys) (suc n) x h is = get_at ys n x (omega arith) is

-- ---- the operations of interfaces

-- the operations of the interface at hand, before those of the others
pub operations_off : (interfaces : List InterfacePart) (ns : List ℕ) (i : ℕ) (here : List OperationPart) → i < length ns
    → here ≡ operations_in (slice_get interfaces (get_or ns i 0)) → operations_of interfaces (drop i ns) ≡ here ++ operations_of interfaces (drop (i + 1) ns)
operations_off interfaces ns i here h e = rw (drop-cons ns i 0 h, add-one, e) refl

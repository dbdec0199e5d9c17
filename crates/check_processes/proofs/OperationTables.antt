-- Laws of tables of operations and of output ports.
use Rattle.std.proofs.Common.{◌≡◌, ℕ, zero, suc, Bool, true, false, ◌+◌, ◌<◌, arith, List, [], ◌∷◌, ◌++◌, map, length, get_or, take, Option, Some, None, refl, ap, sym, ◌∙◌, bytes_eq, append_assoc, append-nil, flat_map}
use Rattle.std.specs.Prelude.{◌||◌, if◌then◌else◌, option_map}
use Rattle.std.specs.List.{filter_map}
use Rattle.std.specs.Option.{option_to_list}
use Rattle.std.proofs.lemmas.List.{flat_map_more, length-map, map-append, take_more}
use Rattle.jolie_ast.specs.declared.interface.Interface.{Interface}
use Rattle.jolie_ast.specs.declared.service.Clause.{Clause}
use Rattle.behaviour_tree.specs.Distinct.{is_in}
use Rattle.check_base.specs.Repeated.{place_of}
use Rattle.check_base.specs.Files.{Operation, input_port_in, operation_named, output_port_in, texts_of}
use Rattle.check_base.specs.OnceEach.{each_once_after}
use Rattle.check_processes.specs.OperationTables.{answers_named, does_answer, operations_at, operations_of_input, with_new}
use Rattle.check_processes.specs.Surroundings.{Outlet, outlet}
use Rattle.check_processes.specs.ProcessRules.{outlet_named}
use Rattle.check_base.proofs.Found.{item_at, first_or_at}
use Rattle.check_base.proofs.Firsts.{again, in_behind}
use Rattle.check_base.proofs.Loops.{all_found, each_there, mapped_each}

-- ---- look-ups

-- the item at a place
pub item_there : {X : Type 0} (n : ℕ) (xs : List X) (x : X) → n < length xs → x ≡ get_or xs n x → item_at (Some n) xs ≡ Some x
item_there n [] x below there = absurd (omega (arith, below))
item_there zero (y ∷ xs) x below there = ap Some (sym there)
item_there (suc n) (y ∷ xs) x below there = item_there n xs x (omega (arith, below)) there

-- an operation is found at the place of its name
pub operation_at : (os : List Operation) (q : List ℕ) → operation_named os q ≡ item_at (place_of (texts_of os) q) os
operation_at [] q = refl
operation_at (o ∷ os) q =
    ap (λ other. if bytes_eq o.name.text q then Some o else other) (operation_at os q)
    ∙ first_or_at (bytes_eq o.name.text q) o os (place_of (texts_of os) q)

-- a place among names is one among what has the names
pub named_place : {X : Type 0} (f : X → List ℕ) (xs : List X) (names : List (List ℕ)) (n : ℕ) → names ≡ map f xs → n < length names → n < length xs
named_place f xs names n e below = omega (arith, below, ap length e, length-map xs f)

-- an operation of a place is found
pub operation_found : (os : List Operation) (names : List (List ℕ)) (q : List ℕ) (n : ℕ) (o : Operation) → names ≡ texts_of os → Some n ≡ place_of names q → n < length names → o ≡ get_or os n o → Some (does_answer o) ≡ answers_named os q
operation_found os names q n o e place below there =
    ap (option_map does_answer) (sym (operation_at os q ∙ ap (λ p. item_at p os) (ap (λ ns. place_of ns q) (sym e) ∙ sym place) ∙ item_there n os o (named_place (λ (x : Operation). x.name.text) os names n e below) there))

-- an operation of no place is not there
pub operation_missing : (os : List Operation) (q : List ℕ) → place_of (texts_of os) q ≡ None → None ≡ answers_named os q
operation_missing os q place = ap (option_map does_answer) (sym (operation_at os q ∙ ap (λ p. item_at p os) place))

-- ---- operations that are added

-- one operation more, if its name is new
abbrev pub one_more : List Operation → Operation → List Operation
one_more os o = if is_in o.name.text (texts_of os) then os else os ++ o ∷ []

-- operations one after the other, those whose names are new
abbrev pub grown : List Operation → List Operation → List Operation
grown os [] = os
grown os (o ∷ more) = grown (one_more os o) more

-- the names with one more behind them
pub names_more : (os new : List Operation) (o : Operation) → new ≡ os ++ o ∷ [] → texts_of new ≡ texts_of os ++ o.name.text ∷ []
names_more os new o e = ap texts_of e ∙ map-append (λ (x : Operation). x.name.text) os (o ∷ [])

-- an operation and then those behind it
pub grown_turn : (b : Bool) (before : List (List ℕ)) (acc : List Operation) (o : Operation) (os : List Operation) → is_in o.name.text before ≡ b → ((x : List ℕ) → is_in x before ≡ is_in x (texts_of acc))
    → ((next : List Operation) → ((x : List ℕ) → is_in x (o.name.text ∷ before) ≡ is_in x (texts_of next)) → next ++ each_once_after (o.name.text ∷ before) os ≡ grown next os)
    → acc ++ ((if b then [] else o ∷ []) ++ each_once_after (o.name.text ∷ before) os) ≡ grown (if b then acc else acc ++ o ∷ []) os
grown_turn true before acc o os there same rest = rest acc (λ x. again (bytes_eq o.name.text x) x o.name.text before refl there ∙ same x)
grown_turn false before acc o os there same rest =
    sym (append_assoc acc (o ∷ []) (each_once_after (o.name.text ∷ before) os))
    ∙ rest (acc ++ o ∷ []) (λ x. ap (λ b. bytes_eq o.name.text x || b) (same x) ∙ sym (in_behind x o.name.text (texts_of acc)) ∙ ap (is_in x) (sym (names_more acc (acc ++ o ∷ []) o refl)))

-- operations behind others, each once
pub grown_behind : (before : List (List ℕ)) (acc os : List Operation) → ((x : List ℕ) → is_in x before ≡ is_in x (texts_of acc)) → acc ++ each_once_after before os ≡ grown acc os
grown_behind before acc [] same = append-nil acc
grown_behind before acc (o ∷ os) same =
    grown_turn (is_in o.name.text before) before acc o os refl same (λ next known. grown_behind (o.name.text ∷ before) next os known)
    ∙ ap (λ b. grown (if b then acc else acc ++ o ∷ []) os) (same o.name.text)

-- operations and others whose names are new
pub grown_is : (os more : List Operation) → with_new os more ≡ grown os more
grown_is os more = grown_behind (texts_of os) os more (λ x. refl)

-- operations are added one list after the other
pub grown_append : (os xs ys : List Operation) → grown os (xs ++ ys) ≡ grown (grown os xs) ys
grown_append os [] ys = refl
grown_append os (x ∷ xs) ys = grown_append (one_more os x) xs ys

pub with_new_append : (os xs ys : List Operation) → with_new os (xs ++ ys) ≡ with_new (with_new os xs) ys
with_new_append os xs ys =
    grown_is os (xs ++ ys) ∙ grown_append os xs ys ∙ ap (λ known. grown known ys) (sym (grown_is os xs)) ∙ sym (grown_is (with_new os xs) ys)

-- no operation is added
pub with_new_none : (os : List Operation) → with_new os [] ≡ os
with_new_none os = append-nil os

-- an operation whose name is there adds nothing
pub known_name : (os : List Operation) (o : Operation) → is_in o.name.text (texts_of os) ≡ true → os ≡ with_new os (o ∷ [])
known_name os o there = sym (grown_is os (o ∷ []) ∙ ap (λ b. if b then os else os ++ o ∷ []) there)

-- an operation whose name is new stands behind the others
pub new_name : (os new : List Operation) (o : Operation) → is_in o.name.text (texts_of os) ≡ false → new ≡ os ++ o ∷ [] → new ≡ with_new os (o ∷ [])
new_name os new o there e = e ∙ sym (grown_is os (o ∷ []) ∙ ap (λ b. if b then os else os ++ o ∷ []) there)

-- a turn of a loop adds the operations of one thing more
pub with_new_turn : {X : Type 0} (f : X → List Operation) (p0 p1 p2 : List Operation) (xs : List X) (i : ℕ) (x : X) → i < length xs → x ≡ get_or xs i x
    → p1 ≡ with_new p0 (flat_map f (take i xs)) → p2 ≡ with_new p1 (f x) → p2 ≡ with_new p0 (flat_map f (take (i + 1) xs))
with_new_turn f p0 p1 p2 xs i x below item before turn =
    turn
    ∙ ap (λ p. with_new p (f x)) before
    ∙ sym (with_new_append p0 (flat_map f (take i xs)) (f x))
    ∙ ap (with_new p0) (flat_map_more f [] (take i xs) x)
    ∙ ap (λ y. with_new p0 (flat_map f (take i xs ++ y ∷ []))) item
    ∙ ap (λ ys. with_new p0 (flat_map f ys)) (sym (take_more xs i x below))

-- a turn of a loop adds one operation more
pub with_new_one : {X : Type 0} (f : X → Operation) (p0 p1 p2 : List Operation) (xs : List X) (i : ℕ) (x : X) → i < length xs → x ≡ get_or xs i x
    → p1 ≡ with_new p0 (map f (take i xs)) → p2 ≡ with_new p1 (f x ∷ []) → p2 ≡ with_new p0 (map f (take (i + 1) xs))
with_new_one f p0 p1 p2 xs i x below item before turn =
    turn
    ∙ ap (λ p. with_new p (f x ∷ [])) before
    ∙ sym (with_new_append p0 (map f (take i xs)) (f x ∷ []))
    ∙ ap (with_new p0) (sym (map-append f (take i xs) (x ∷ [])))
    ∙ ap (λ y. with_new p0 (map f (take i xs ++ y ∷ []))) item
    ∙ ap (λ ys. with_new p0 (map f ys)) (sym (take_more xs i x below))

-- ---- the operations of input ports

-- the operations of the input ports among clauses
pub inputs_found : (interfaces : List Interface) (clauses : List Clause) → flat_map (operations_of_input interfaces) clauses ≡ flat_map (operations_at interfaces) (filter_map input_port_in clauses)
inputs_found interfaces clauses = each_there (operations_at interfaces) input_port_in clauses

-- ---- output ports

-- the names of output ports
abbrev pub outlet_names : List Outlet → List (List ℕ)
outlet_names os = map (λ (o : Outlet). o.name) os

-- the operations of an output port, if it is there
abbrev pub operations_if : Option Outlet → Option (List Operation)
operations_if o = option_map (λ (x : Outlet). x.operations) o

-- the first output port is it, or one behind it
pub operations_first : (b : Bool) (o : Outlet) (other : Option Outlet) → (if b then Some o.operations else operations_if other) ≡ operations_if (if b then Some o else other)
operations_first true o other = refl
operations_first false o other = refl

-- an output port is found at the place of its name
pub outlet_at : (os : List Outlet) (q : List ℕ) → outlet_named os q ≡ operations_if (item_at (place_of (outlet_names os) q) os)
outlet_at [] q = refl
outlet_at (o ∷ os) q =
    ap (λ other. if bytes_eq o.name q then Some o.operations else other) (outlet_at os q)
    ∙ operations_first (bytes_eq o.name q) o (item_at (place_of (outlet_names os) q) os)
    ∙ ap operations_if (first_or_at (bytes_eq o.name q) o os (place_of (outlet_names os) q))

-- an output port of a place is found
pub outlet_found : (os : List Outlet) (names : List (List ℕ)) (q : List ℕ) (n : ℕ) (o : Outlet) → names ≡ outlet_names os → Some n ≡ place_of names q → n < length names → o ≡ get_or os n o → Some o.operations ≡ outlet_named os q
outlet_found os names q n o e place below there =
    sym (outlet_at os q ∙ ap (λ p. operations_if (item_at p os)) (ap (λ ns. place_of ns q) (sym e) ∙ sym place) ∙ ap operations_if (item_there n os o (named_place (λ (x : Outlet). x.name) os names n e below) there))

-- an output port of no place is not there
pub outlet_missing : (os : List Outlet) (q : List ℕ) → place_of (outlet_names os) q ≡ None → None ≡ outlet_named os q
outlet_missing os q place = sym (outlet_at os q ∙ ap (λ p. operations_if (item_at p os)) place)

-- the names with one more behind them
pub outlet_names_more : (os new : List Outlet) (o : Outlet) → new ≡ os ++ o ∷ [] → outlet_names new ≡ outlet_names os ++ o.name ∷ []
outlet_names_more os new o e = ap outlet_names e ∙ map-append (λ (x : Outlet). x.name) os (o ∷ [])

-- a clause that is no output port adds none
pub outlets_stay : (os : List Outlet) → os ≡ os ++ []
outlets_stay os = sym (append-nil os)

-- the output ports among clauses
pub outlets_found : (interfaces : List Interface) (clauses : List Clause) → flat_map (λ c. map (outlet interfaces) (option_to_list (output_port_in c))) clauses ≡ map (outlet interfaces) (filter_map output_port_in clauses)
outlets_found interfaces clauses =
    sym (ap (map (outlet interfaces)) (sym (all_found output_port_in clauses)) ∙ mapped_each (outlet interfaces) (λ c. option_to_list (output_port_in c)) clauses)

-- What holds of all texts, answers and trees.
use Rattle.std.specs.Prelude.{◌≡◌, ◌≤◌, ℕ, ℤ, pos, negsuc, int_le, Bool, true, false, not, ◌&&◌}
use Rattle.std.specs.Prelude.{List, [], ◌∷◌, length, bytes_eq, codes, Option, None, Some, is_some}
use Rattle.serde_json.specs.Data.{Data, number, string, depth}
use Rattle.serde_json.specs.Find.{get, of_integer}
use Rattle.serde_json.specs.Read.{max_depth}
use Rattle.jolie_trees.specs.declared.root.Root.{Root}
use Rattle.jolie_trees.specs.declared.root.Root.TheVariants as root
use Rattle.jolie_trees.specs.Data.{Tree, node, Fields, no_fields, field, Trees, no_trees, tree}
use Rattle.jolie_trees.specs.Trees.{levels}
use Rattle.behaviour_tree.specs.declared.types.RootKind.TheVariants as kind
use Rattle.behaviour_tree.specs.Data.{TypeTree, plain, named, undefined, TypeFields, no_type_fields, type_field}
use Rattle.behaviour_tree.specs.Conforms.{fits, wide}
use Rattle.behaviour_tree.specs.declared.words.Outcome.{Outcome}
use Rattle.behaviour_tree.specs.declared.words.Outcome.TheVariants as outcome
use Rattle.behaviour_tree.specs.declared.words.Reason.{Reason}
use Rattle.behaviour_tree.specs.Reasons.{code_of, message_of}
use Rattle.jsonrpc_text.specs.declared.message.Id.{Id}
use Rattle.jsonrpc_text.specs.FromJson.{root_name, tree_in, integer_root}
use Rattle.jsonrpc_text.specs.ToJson.{json_of}
use Rattle.jsonrpc_text.specs.Posted.{posted}
use Rattle.jsonrpc_text.specs.Responses.{id_data, answer_data, fault_code}

-- ---- trees that are written and read back

-- a number that 32 bits hold
abbrev pub is_int : ℤ → Bool
is_int z = int_le (negsuc 2147483647) z && int_le z (pos 2147483647)

-- a number that 64 bits hold
abbrev pub is_long : ℤ → Bool
is_long z = int_le (negsuc 9223372036854775807) z && int_le z (pos 9223372036854775807)

-- a root in its range
abbrev pub is_in_range : Root → Bool
is_in_range (root.Int z) = is_int z
is_in_range (root.Long z) = is_long z
is_in_range r = true

-- a vector that is not empty
abbrev pub is_some_tree : Trees → Bool
is_some_tree no_trees = false
is_some_tree (tree t ts) = true

abbrev mutual
  -- every root is in its range, no vector is empty, and no child has the name of a root
  pub can_be_written : Tree → Bool
  can_be_written (node r fs) = is_in_range r && fields_can_be_written fs

  -- the same of children
  pub fields_can_be_written : Fields → Bool
  fields_can_be_written no_fields = true
  fields_can_be_written (field name ts fs) =
      not (bytes_eq name root_name) && is_some_tree ts && trees_can_be_written ts && fields_can_be_written fs

  -- the same of a vector
  pub trees_can_be_written : Trees → Bool
  trees_can_be_written no_trees = true
  trees_can_be_written (tree t ts) = can_be_written t && trees_can_be_written ts

-- a root as it is read back: a long that 32 bits hold is an int
abbrev pub root_read_back : Root → Root
root_read_back (root.Long z) = integer_root z
root_read_back r = r

abbrev mutual
  -- a tree as it is read back
  pub read_back : Tree → Tree
  read_back (node r fs) = node (root_read_back r) (fields_read_back fs)

  -- children as they are read back
  pub fields_read_back : Fields → Fields
  fields_read_back no_fields = no_fields
  fields_read_back (field name ts fs) = field name (trees_read_back ts) (fields_read_back fs)

  -- a vector as it is read back
  pub trees_read_back : Trees → Trees
  trees_read_back no_trees = no_trees
  trees_read_back (tree t ts) = tree (read_back t) (trees_read_back ts)

-- A tree that is written under any type and read again is that tree, but that longs in the range of ints are ints.
abbrev pub TreesReadBack : Type 0
TreesReadBack = (types : List TypeTree) (t : Tree) (ty : TypeTree) → can_be_written t ≡ true
    → tree_in (json_of types t ty) ≡ Some (read_back t)

abbrev mutual
  -- a type that says of each root which kind it has
  pub is_exact : TypeTree → Bool
  is_exact (plain kind.Any fields) = false
  is_exact (plain kind.Void fields) = are_exact fields
  is_exact (plain kind.Bool fields) = are_exact fields
  is_exact (plain kind.Int fields) = are_exact fields
  is_exact (plain kind.Long fields) = are_exact fields
  is_exact (plain kind.Text fields) = are_exact fields
  is_exact (named i) = true
  is_exact undefined = false

  -- the types of all fields do so
  pub are_exact : TypeFields → Bool
  are_exact no_type_fields = true
  are_exact (type_field name least most ty fields) = is_exact ty && are_exact fields

-- the types of a list do so
abbrev pub all_exact : List TypeTree → Bool
all_exact [] = true
all_exact (ty ∷ types) = is_exact ty && all_exact types

-- A tree of a type that says the kind of each root is the same tree when it is read back, both being widened.
abbrev pub TypedTreesReadBack : Type 0
TypedTreesReadBack = (types : List TypeTree) (t : Tree) (ty : TypeTree)
    → all_exact types ≡ true → is_exact ty ≡ true → fits types t ty ≡ true
    → wide types (read_back t) ty ≡ wide types t ty

-- ---- answers

-- a member of a member
abbrev pub within : List ℕ → List ℕ → Data → Option Data
within outer inner d = elim (get outer d) [ None ↦ None | Some e ↦ get inner e ]

-- An answer is a response of version 2.0 to its id, with a result and no error, or with an error and no result.
pub record Says (d : Data) (i : Id) (result code message data_ : Option Data) : Type 0 where
  pub version : get (codes "jsonrpc") d ≡ Some (string (codes "2.0"))
  pub id : get (codes "id") d ≡ Some (id_data i)
  pub result_is : get (codes "result") d ≡ result
  pub error_is : is_some (get (codes "error") d) ≡ is_some code
  pub code_is : within (codes "error") (codes "code") d ≡ code
  pub message_is : within (codes "error") (codes "message") d ≡ message
  pub data_is : within (codes "error") (codes "data") d ≡ data_

-- A value is said as a result.
abbrev pub SaysValues : Type 0
SaysValues = (types : List TypeTree) (ty : TypeTree) (i : Id) (t : Tree)
    → Says (answer_data types ty i (outcome.Value t)) i (Some (json_of types t ty)) None None None

-- A fault is said by its name and its data.
abbrev pub SaysFaults : Type 0
SaysFaults = (types : List TypeTree) (ty : TypeTree) (i : Id) (name : List ℕ) (t : Tree)
    → Says (answer_data types ty i (outcome.Fault name t)) i None
    (Some (number (of_integer fault_code))) (Some (string name)) (Some (json_of types t undefined))

-- A refusal is said by its code and its message, without data.
abbrev pub SaysRefusals : Type 0
SaysRefusals = (types : List TypeTree) (ty : TypeTree) (i : Id) (reason : Reason)
    → Says (answer_data types ty i (outcome.Refused reason)) i None
    (Some (number (of_integer (code_of reason)))) (Some (string (message_of reason))) None

-- the tree of a value has at most 64 levels, and that of the data of a fault, which lies one deeper, at most 63
abbrev pub IsShallow : Outcome → Type 0
IsShallow (outcome.Value t) = (can_be_written t ≡ true) × (levels t ≤ 64)
IsShallow (outcome.Fault name t) = (can_be_written t ≡ true) × (levels t ≤ 63)
IsShallow (outcome.Refused reason) = Unit {0}

-- Such an answer nests no deeper than what is read.
abbrev pub AnswersAreShallow : Type 0
AnswersAreShallow = (types : List TypeTree) (ty : TypeTree) (i : Id) (o : Outcome) → IsShallow o
    → depth (answer_data types ty i o) ≤ max_depth

-- ---- what is posted

-- A text posts at least one call or refusal, and exactly one where it is no batch.
abbrev pub PostsSome : Type 0
PostsSome = (bytes : List ℕ)
    → (1 ≤ length (posted bytes).calls) × ((posted bytes).batch ≡ false → length (posted bytes).calls ≡ 1)

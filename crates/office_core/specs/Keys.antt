-- Correlation: what the variables of sessions have, and which session has the key that values name.
use Rattle.std.specs.Prelude.{ℕ, suc, ◌+◌, ◌++◌, Bool, true, false, not, ◌&&◌, List, [], ◌∷◌, length, map, nat_eq}
use Rattle.std.specs.Prelude.{if◌then◌else◌, Option, None, Some, is_some, option_map, option_and_then}
use Rattle.std.specs.List.{list_any, filter_map}
use Rattle.jolie_trees.specs.declared.root.Root.{Root}
use Rattle.jolie_trees.specs.Data.{Tree}
use Rattle.jolie_trees.specs.Trees.{get, root_of}
use Rattle.behaviour_tree.specs.Data.{TypeTree, named, AliasPart, VariablePart, SetPart}
use Rattle.behaviour_tree.specs.Data.{ServicePart, OperationPart}
use Rattle.behaviour_tree.specs.Comparisons.{same}
use Rattle.behaviour_tree.specs.Operations.{operation_at}
use Rattle.behaviour_tree.specs.Values.{stepped}
use Rattle.correlation.specs.declared.bind_reply.BindReply.TheVariants as reply
use Rattle.office_core.specs.declared.history.Entry.{Entry}
use Rattle.office_core.specs.declared.history.Act.TheVariants as act
use Rattle.office_core.specs.Limits.{Setting}
use Rattle.office_core.specs.Past.{Message, Past}
use Rattle.office_core.specs.Sessions.{births, has_ended}

-- ---- lists

-- the first of a list
abbrev pub first : {A : Type 0} → List A → Option A
first [] = None
first (x ∷ xs) = Some x

-- all of them, where each is there
abbrev pub all_there : {A : Type 0} → List (Option A) → Option (List A)
all_there [] = Some []
all_there (None ∷ xs) = None
all_there (Some x ∷ xs) = option_map (λ ys. x ∷ ys) (all_there xs)

-- ---- variables and sets

-- a correlation variable with its number in its service
pub record Variable : Type 0 where
  pub number : ℕ
  pub aliases : List AliasPart

-- variables, the first of which has the number n
abbrev pub variables_from : ℕ → List VariablePart → List Variable
variables_from n [] = []
variables_from n (v ∷ vs) = record { number = n; aliases = v.aliases } ∷ variables_from (suc n) vs

-- sets of variables, the first of which has the number n
abbrev pub sets_from : ℕ → List SetPart → List (List Variable)
sets_from n [] = []
sets_from n (set ∷ sets) = variables_from n set.variables ∷ sets_from (n + length set.variables) sets

-- the correlation sets of a service
abbrev pub sets_of : ServicePart → List (List Variable)
sets_of d = sets_from 0 d.sets

-- where the type of a number has a variable
abbrev pub path_in : ℕ → Variable → Option (List (List ℕ))
path_in t v = first (filter_map (λ (a : AliasPart). if nat_eq a.ty t then Some a.path else None) v.aliases)

-- where a type has a variable: by its own name, not by that of a type that it names
abbrev pub alias_of : TypeTree → Variable → Option (List (List ℕ))
alias_of (named t) v = path_in t v
alias_of ty v = None

-- ---- values

-- the value at a path of names, each of which leads to the first node of that name
abbrev pub value_at : Tree → List (List ℕ) → Option Root
value_at t path = option_map root_of (get (map (λ name. stepped name None) path) t)

-- the value of a variable in a tree of a type
abbrev pub value_of : TypeTree → Tree → Variable → Option Root
value_of ty t v = option_and_then (value_at t) (alias_of ty v)

-- a type is in a set where it has one of its variables
abbrev pub is_in : List Variable → TypeTree → Bool
is_in set ty = list_any (λ v. is_some (alias_of ty v)) set

-- what a tree of a type says of a set: a value for each variable, where the type is in the set
abbrev pub named_by : TypeTree → Tree → List Variable → Option (List Root)
named_by ty t set = if is_in set ty then all_there (map (value_of ty t) set) else None

-- lists of values that `==` finds equal, one by one
abbrev pub are_equal : List Root → List Root → Bool
are_equal [] [] = true
are_equal (a ∷ k) (b ∷ l) = same a b && are_equal k l
are_equal k l = false

-- ---- what variables have

-- what the message that started the session has of a variable
abbrev pub brought_by : Setting → ℕ → Variable → Message → Option Root
brought_by w s v m =
    if m.starts && nat_eq s m.session
    then option_and_then (λ (o : OperationPart). value_of o.request m.value v) (operation_at w.parts m.service m.op)
    else None

-- what an entry wrote into variable v of session s: a bind that was answered Bound
abbrev pub bound_by : ℕ → ℕ → Entry → Option Root
bound_by s v e = elim e.act [
  | act.Bind u x reply.Bound ↦ (if nat_eq s e.actor && nat_eq v u then Some x else None)
  | _ ↦ None
]

-- what a variable of a session has, once it is written
abbrev pub written : Setting → Past → ℕ → Variable → Option Root
written w past s v =
    first (filter_map (brought_by w s v) past.messages ++ filter_map (bound_by s v.number) past.entries)

-- the key of a session in a set, once each variable is written
abbrev pub key : Setting → Past → ℕ → List Variable → Option (List Root)
key w past s set = all_there (map (written w past s) set)

-- ---- who has a key

-- whether a session lives and its key in a set is complete and has these values
abbrev pub has_key : Setting → Past → List Variable → List Root → ℕ → Bool
has_key w past set values s =
    not (has_ended past s) && elim (key w past s set) [ None ↦ false | Some k ↦ are_equal k values ]

-- the first session of service d that is of a kind; `ds` are the services of the sessions from s on
abbrev pub session_from : ℕ → (ℕ → Bool) → ℕ → List ℕ → Option ℕ
session_from d is_it s [] = None
session_from d is_it s (e ∷ ds) = if nat_eq d e && is_it s then Some s else session_from d is_it (suc s) ds

-- the first session of service d that is of a kind
abbrev pub session_of : Setting → Past → ℕ → (ℕ → Bool) → Option ℕ
session_of w past d is_it = session_from d is_it 0 (births w past)

-- the live session of service d that has these values as its key in a set
abbrev pub holder : Setting → Past → ℕ → List Variable → List Root → Option ℕ
holder w past d set values = session_of w past d (has_key w past set values)

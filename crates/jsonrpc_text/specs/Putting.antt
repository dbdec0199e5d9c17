-- These definitions serve the proofs alone: no promise speaks of them.
-- The trees of members put under their names one after the other.
use Rattle.std.specs.Prelude.{ℕ, List, bytes_eq, if◌then◌else◌, Option, Some, option_and_then, option_map}
use Rattle.serde_json.specs.Data.{Data, null, boolean, number, string, array, object}
use Rattle.serde_json.specs.Data.{Items, no_items, item, Members, no_members, member}
use Rattle.jolie_trees.specs.Data.{Tree}
use Rattle.jolie_trees.specs.Trees.{push}
use Rattle.jsonrpc_text.specs.FromJson.{root_name, tree_in}

-- a node with a tree at the end of a name, where there is one
abbrev pub with_tree : List ℕ → Option Tree → Tree → Option Tree
with_tree name u t = option_map (λ u. push name u t) u

-- a node with the trees of items at the end of a name, where each item makes one
abbrev pub with_items : List ℕ → Items → Tree → Option Tree
with_items name no_items t = Some t
with_items name (item d ds) t = option_and_then (with_items name ds) (with_tree name (tree_in d) t)

-- a node with the trees of a member at the end of its name: an array is a vector
abbrev pub with_member : List ℕ → Data → Tree → Option Tree
with_member name null t = with_tree name (tree_in null) t
with_member name (boolean b) t = with_tree name (tree_in (boolean b)) t
with_member name (number n) t = with_tree name (tree_in (number n)) t
with_member name (string s) t = with_tree name (tree_in (string s)) t
with_member name (array ds) t = with_items name ds t
with_member name (object ms) t = with_tree name (tree_in (object ms)) t

-- a node with the trees of members under their names, where each makes some
abbrev pub with_members : Members → Tree → Option Tree
with_members no_members t = Some t
with_members (member name d ms) t =
    if bytes_eq name root_name then with_members ms t else option_and_then (with_members ms) (with_member name d t)

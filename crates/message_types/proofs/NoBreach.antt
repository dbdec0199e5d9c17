-- There is a breach exactly where a tree does not fit.
use Rattle.std.proofs.Common.{◌≡◌, ◌∙◌, ℕ, suc, List, [], ◌∷◌, Option, None, Some, Bool, true, false, refl, ap, sym, length}
use Rattle.std.proofs.lemmas.Bool.{false≢true}
use Rattle.std.specs.Prelude.{not, ◌&&◌, is_some, option_map, if◌then◌else◌}
use Rattle.jolie_trees.specs.Data.{Tree, node, Fields, no_fields, field, Trees, no_trees, tree}
use Rattle.jolie_trees.specs.declared.path.Step.{Step}
use Rattle.jolie_trees.specs.declared.root.Root.{Root}
use Rattle.behaviour_tree.specs.Data.{TypeTree, plain, named, undefined, TypeFields}
use Rattle.behaviour_tree.specs.Conforms.{shape, has_kind, counts_fit, field_type, fits, children_fit, members_fit, is_message}
use Rattle.behaviour_tree.proofs.Shapes.{fits_at}
use Rattle.message_types.proofs.Breaks.{breach_at}
use Rattle.message_types.specs.Breaches.{all_have_fields, first_of, step_to, breach, breach_of_children, breach_of_members, IsBreachUnlessFits, IsBreachUnlessConforms}

and-left : (a b : Bool) → (a && b) ≡ true → a ≡ true
and-left true b h = refl
and-left false b h = h

and-right : (a b : Bool) → (a && b) ≡ true → b ≡ true
and-right true b h = h
and-right false b h = absurd (false≢true h)

and-false : (a b : Bool) → b ≡ false → (a && b) ≡ false
and-false true b h = h
and-false false b h = refl

first_of-fits : (earlier later : Option (List Step)) (a b : Bool) → is_some earlier ≡ not a → is_some later ≡ not b
    → is_some (first_of earlier later) ≡ not (a && b)
first_of-fits None later true b h more = more
first_of-fits None later false b h more = absurd (false≢true h)
first_of-fits (Some p) later true b h more = absurd (false≢true (sym h))
first_of-fits (Some p) later false b h more = refl

step-there : (s : Step) (o : Option (List Step)) → is_some (option_map (λ path. s ∷ path) o) ≡ is_some o
step-there s None = refl
step-there s (Some p) = refl

strange-step : (types : List TypeTree) (o : Option TypeTree) (t : Tree) (ts : Trees) (known fit : Bool) → (is_some o && known) ≡ false → (known ≡ false → fit ≡ false)
    → (members_fit types (tree t ts) o && fit) ≡ false
strange-step types None t ts known fit h more = refl
strange-step types (Some ty) t ts known fit h more = and-false (members_fit types (tree t ts) (Some ty)) fit (more h)

-- where a child has no field, the children do not fit
children_fit-strange : (types : List TypeTree) (children : Fields) (fields : TypeFields) → all_have_fields children fields ≡ false → children_fit types children fields ≡ false
children_fit-strange types no_fields fields h = absurd (false≢true (sym h))
children_fit-strange types (field name no_trees rest) fields h = children_fit-strange types rest fields h
children_fit-strange types (field name (tree t ts) rest) fields h =
    strange-step types (field_type name fields) t ts (all_have_fields rest fields) (children_fit types rest fields) h (children_fit-strange types rest fields)

plain-step : (kind counts known : Bool) (below : Option (List Step)) (fit : Bool) → (known ≡ true → is_some below ≡ not fit) → (known ≡ false → fit ≡ false)
    → is_some (if kind && counts && known then below else Some []) ≡ not (kind && counts && fit)
plain-step false counts known below fit agrees strange = refl
plain-step true false known below fit agrees strange = refl
plain-step true true true below fit agrees strange = agrees refl
plain-step true true false below fit agrees strange = ap not (sym (strange refl))

node-step : (types : List TypeTree) (r : Root) (children : Fields) (o : Option TypeTree)
    → ((fields : TypeFields) → all_have_fields children fields ≡ true → is_some (breach_of_children types children fields) ≡ not (children_fit types children fields))
    → is_some (breach_at types r children o) ≡ not (fits_at types r children o)
node-step types r children None agrees = refl
node-step types r children (Some (plain k fields)) agrees =
    plain-step (has_kind k r) (counts_fit children fields) (all_have_fields children fields) (breach_of_children types children fields) (children_fit types children fields)
    (agrees fields) (children_fit-strange types children fields)
node-step types r children (Some (named i)) agrees = refl
node-step types r children (Some undefined) agrees = refl

mutual
  pub breach-fits : IsBreachUnlessFits
  breach-fits types (node r children) ty = node-step types r children (shape types (length types) ty) (breach_of_children-fits types children)

  breach_of_children-fits : (types : List TypeTree) (children : Fields) (fields : TypeFields) → all_have_fields children fields ≡ true
      → is_some (breach_of_children types children fields) ≡ not (children_fit types children fields)
  breach_of_children-fits types no_fields fields h = refl
  breach_of_children-fits types (field name no_trees rest) fields h = breach_of_children-fits types rest fields h
  breach_of_children-fits types (field name (tree t ts) rest) fields h =
      first_of-fits _ _ (members_fit types (tree t ts) (field_type name fields)) (children_fit types rest fields)
      (breach_of_members-fits types name 0 (tree t ts) (field_type name fields) (and-left (is_some (field_type name fields)) (all_have_fields rest fields) h))
      (breach_of_children-fits types rest fields (and-right (is_some (field_type name fields)) (all_have_fields rest fields) h))

  breach_of_members-fits : (types : List TypeTree) (name : List ℕ) (index : ℕ) (ts : Trees) (o : Option TypeTree) → is_some o ≡ true
      → is_some (breach_of_members types name index ts o) ≡ not (members_fit types ts o)
  breach_of_members-fits types name index no_trees o h = refl
  breach_of_members-fits types name index (tree t ts) None h = absurd (false≢true h)
  breach_of_members-fits types name index (tree t ts) (Some ty) h =
      first_of-fits _ _ (fits types t ty) (members_fit types ts (Some ty))
      (step-there (step_to name index) (breach types t ty) ∙ breach-fits types t ty)
      (breach_of_members-fits types name (suc index) ts (Some ty) refl)

message-step : (within : Bool) (path : Option (List Step)) (fit : Bool) → is_some path ≡ not fit → is_some (if within then path else Some []) ≡ not (within && fit)
message-step true path fit h = h
message-step false path fit h = refl

pub first_breach-conforms : IsBreachUnlessConforms
first_breach-conforms types t ty = message-step (is_message t) (breach types t ty) (fits types t ty) (breach-fits types t ty)

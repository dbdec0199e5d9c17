-- Grammars as values, and what they derive.
use Rattle.std.specs.Prelude.{◌≡◌, ◌⊎◌, true, List, [], ◌∷◌, ◌++◌, Option, Some, None}
use Rattle.jolie_ast.specs.declared.expression.Expr.{Expr}
use Rattle.jolie_ast.specs.declared.expression.Path.{Path}
use Rattle.jolie_ast.specs.declared.expression.Member.{Member}
use Rattle.jolie_ast.specs.declared.process.Process.{Process}
use Rattle.jolie_ast.specs.declared.process.Handler.{Handler}
use Rattle.jolie_ast.specs.declared.process.Input.{Input}
use Rattle.jolie_ast.specs.declared.interface.TypeName.{TypeName}
use Rattle.jolie_ast.specs.declared.interface.OperationGroup.{OperationGroup}
use Rattle.jolie_ast.specs.declared.types.Cardinality.{Cardinality}
use Rattle.jolie_ast.specs.declared.types.Field.{Field}
use Rattle.jolie_ast.specs.declared.name.Name.{Name}
use Rattle.jolie_ast.specs.declared.name.Quoted.{Quoted}
use Rattle.jolie_ast.specs.declared.service.CorrelationVariable.{CorrelationVariable}
use Rattle.jolie_ast.specs.declared.service.Clause.{Clause}
use Rattle.jolie_parse.specs.declared.class.Class.{Class}
use Rattle.jolie_parse.specs.declared.simple.ForParts.{ForParts}
use Rattle.jolie_parse.specs.declared.process.IfParts.{IfParts}
use Rattle.jolie_parse.specs.Classes.{Spelled, class, has}

-- ---- grammars

-- what stands one level further in: between brackets, after a prefix, after the `if` of an `else if`
pub data Part : Type 0 where
  an_expression an_operand a_path maybe_path maybe_expression : Part
  a_body some_handlers a_name an_input an_else_if for_parts throw_parts some_members : Part
  a_type_name some_bounds some_fields some_operations : Part
  port_parts some_variables some_clauses : Part

-- what each of these means
abbrev pub Meant : Part → Type 0
Meant an_expression = Expr
Meant an_operand = Expr
Meant a_path = Path
Meant maybe_path = Option Path
Meant maybe_expression = Option Expr
Meant a_body = Option Process
Meant some_handlers = List Handler
Meant a_name = Name
Meant an_input = Input
Meant an_else_if = IfParts
Meant for_parts = ForParts
Meant throw_parts = Name × Option Expr
Meant some_members = List Member
Meant a_type_name = TypeName
Meant some_bounds = Cardinality
Meant some_fields = List Field
Meant some_operations = List OperationGroup
Meant port_parts = Quoted × Option Name × List Name
Meant some_variables = List CorrelationVariable
Meant some_clauses = List Clause

-- a grammar, by the type of what its phrases mean
pub data Syn : Type 0 → Type 1 where
  -- one token of these classes
  token : List Class → Syn Spelled
  -- no token
  give : {A : Type 0} → A → Syn A
  -- one after the other
  both : {A B : Type 0} → Syn A → Syn B → Syn (A × B)
  either : {A : Type 0} → Syn A → Syn A → Syn A
  -- any number in a row
  many : {A : Type 0} → Syn A → Syn (List A)
  -- what is meant
  means : {A B : Type 0} → (A → B) → Syn A → Syn B
  -- an open bracket, what stands inside, and the bracket that closes
  inside : Class → (r : Part) → Class → Syn (Spelled × Meant r)
  -- a token of these classes before what is a level further in
  prefix : List Class → (r : Part) → Syn (Spelled × Meant r)

-- which tokens have which meanings
abbrev pub Lang : Type 0 → Type 1
Lang A = List Spelled → A → Type 0

-- the tokens are phrases in a row
abbrev pub Many : {A : Type 0} → Lang A → List Spelled → List A → Type 0
Many one ts [] = ts ≡ []
Many one ts (v ∷ vs) = (x y : List Spelled) × (ts ≡ x ++ y) × one x v × Many one y vs

-- the tokens are a phrase of the grammar with that meaning, where within says it of what stands a level further in
abbrev pub Derives : {A : Type 0} → ((r : Part) → Lang (Meant r)) → Syn A → Lang A
Derives within (token ks) ts v = (has ks (class v) ≡ true) × (ts ≡ v ∷ [])
Derives within (give a) ts v = (ts ≡ []) × (a ≡ v)
Derives within (both s t) ts v = (x y : List Spelled) × (ts ≡ x ++ y) × Derives within s x v.0 × Derives within t y v.1
Derives within (either s t) ts v = Derives within s ts v ⊎ Derives within t ts v
Derives within (many s) ts v = Many (Derives within s) ts v
Derives within (means {A} f s) ts v = (a : A) × (f a ≡ v) × Derives within s ts a
Derives within (inside o r c) ts v =
    (close : Spelled) × (x : List Spelled) × (class v.0 ≡ o) × (class close ≡ c) × (ts ≡ v.0 ∷ (x ++ close ∷ []))
    × within r x v.1
Derives within (prefix ks r) ts v = (x : List Spelled) × (has ks (class v.0) ≡ true) × (ts ≡ v.0 ∷ x) × within r x v.1

-- ---- forms that grammars are made of

-- a phrase after a token that is not kept
abbrev pub behind : {A : Type 0} → Class → Syn A → Syn A
behind k s = means (λ q. q.1) (both (token (k ∷ [])) s)

-- phrases with a token of this class between every two, at least one
abbrev pub separated : {A : Type 0} → Class → Syn A → Syn (List A)
separated k s = means (λ q. q.0 ∷ q.1) (both s (many (behind k s)))

-- at least one
abbrev pub some_of : {A : Type 0} → Syn A → Syn (List A)
some_of s = means (λ q. q.0 ∷ q.1) (both s (many s))

-- a phrase or none
abbrev pub optional : {A : Type 0} → Syn A → Syn (Option A)
optional s = either (means Some s) (give None)

-- a phrase and a token of this class that is not kept
abbrev pub ended : {A : Type 0} → Syn A → Class → Syn A
ended s k = means (λ q. q.0) (both s (token (k ∷ [])))

-- what stands between brackets, which are not kept
abbrev pub between : Class → (r : Part) → Class → Syn (Meant r)
between o r c = means (λ q. q.1) (inside o r c)

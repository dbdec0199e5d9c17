-- What an expression mentions, and where it may have no value.
use Rattle.std.specs.Prelude.{ℕ, Bool, true, false, not, ◌&&◌, ◌||◌, List, [], ◌∷◌, ◌++◌, Option, None, Some, flat_map}
use Rattle.std.specs.List.{list_any}
use Rattle.jolie_ast.specs.declared.name.Name.{Name}
use Rattle.jolie_ast.specs.declared.expression.CastTarget.{CastTarget}
use Rattle.jolie_ast.specs.declared.expression.CastTarget.TheVariants as target
use Rattle.jolie_ast.specs.declared.expression.Comparison.{Comparison}
use Rattle.jolie_ast.specs.declared.expression.Comparison.TheVariants as comparison
use Rattle.jolie_ast.specs.declared.expression.ExprForm.TheOpen.{ExprForm-F}
use Rattle.jolie_ast.specs.declared.expression.Expr.{Expr}
use Rattle.jolie_ast.specs.declared.expression.Path.{Path}
use Rattle.jolie_ast.specs.Folds.{ExprResults, ExprFold, exprs_are, fold_expr, fold_path}
use Rattle.explain_notes.specs.declared.role.Role.{Role}
use Rattle.explain_notes.specs.declared.role.Role.TheVariants as role
use Rattle.explain_notes.specs.Mentions.{Seen, fails_at, mention}

-- ---- what is made of each part

-- an expression or a form of one: what it mentions, whether it is a number in digits or the size of a path, whether it
-- is a text in quotes, and whether it may have no value though its parts have one
pub record Worked : Type 0 where
  pub seen : Seen
  pub number : Bool
  pub quoted : Bool
  pub fails : Bool

-- a path or a step of one: its name, what its indices mention, and the role of its variable where it is read
pub record Walked : Type 0 where
  pub name : Name
  pub indices : Seen
  pub read : Role

-- the role of a variable that is read, by what stands after it
abbrev pub read_role : {X : Type 0} → List X → Role
read_role [] = role.Read
read_role (s ∷ ss) = role.FieldRead

-- what parts mention, one after the other
abbrev pub joined : List Seen → Seen
joined parts = flat_map (λ ms. ms) parts

-- what worked parts mention, one after the other
abbrev pub all_seen : List Worked → Seen
all_seen parts = flat_map (λ (w : Worked). w.seen) parts

-- a path whose variable has a role
abbrev pub walked : Role → Walked → Seen
walked r p = mention r p.name ∷ p.indices

-- a path that is read
abbrev pub read_path : Walked → Seen
read_path p = walked p.read p

-- ---- where there may be no value

-- a number in digits, or the size of a path
abbrev pub of_number : Seen → Worked
of_number ms = record { seen = ms; number = true; quoted = false; fails = false }

-- what has a value where its parts have one, or may have none
abbrev pub of_parts : Bool → Seen → Worked
of_parts fails ms = record { seen = ms; number = false; quoted = false; fails = fails }

-- a text in quotes
abbrev pub of_text : Worked
of_text = record { seen = []; number = false; quoted = true; fails = false }

-- a cast of what may be no such number
abbrev pub casts_number : CastTarget → Bool
casts_number target.Str = false
casts_number t = true

-- a comparison by order, which only two numbers or two texts have
abbrev pub is_order : Comparison → Bool
is_order comparison.Equal = false
is_order comparison.NotEqual = false
is_order c = true

-- a sum of texts: one of its operands is a text in quotes
abbrev pub joins_text : Worked → List Worked → Bool
joins_text first rest = first.quoted || list_any (λ (w : Worked). w.quoted) rest

-- one level of a form: the variables of its paths are read
abbrev pub form_level : ExprForm-F Worked Worked Worked Worked Walked Walked Worked → Worked
form_level (ExprForm-F.Int n) = of_number []
form_level (ExprForm-F.Long n) = of_number []
form_level (ExprForm-F.Str text) = of_text
form_level (ExprForm-F.Bool b) = of_parts false []
form_level (ExprForm-F.Path path) = of_parts false (read_path path)
form_level (ExprForm-F.Size path) = of_number (read_path path)
form_level (ExprForm-F.IsDefined path) = of_parts false (read_path path)
form_level (ExprForm-F.Cast to value) = of_parts (casts_number to) value.seen
form_level (ExprForm-F.Literal members) = of_parts false (all_seen members)
form_level (ExprForm-F.Minus value) = of_parts (not value.number) value.seen
form_level (ExprForm-F.Not value) = of_parts false value.seen
form_level (ExprForm-F.Product first rest) = of_parts true (first.seen ++ all_seen rest)
form_level (ExprForm-F.Sum first rest) = of_parts (not (joins_text first rest)) (first.seen ++ all_seen rest)
form_level (ExprForm-F.Compare left compared right) =
    of_parts (is_order compared && not (left.number && right.number)) (left.seen ++ right.seen)
form_level (ExprForm-F.And values) = of_parts false (all_seen values)
form_level (ExprForm-F.Or values) = of_parts false (all_seen values)

-- a form at its place
abbrev pub placed : ℕ → Worked → Worked
placed at w = record { seen = fails_at w.fails at ++ w.seen; number = w.number; quoted = w.quoted; fails = w.fails }

-- the index of a step at its place, if one is written: it may be none where it is no number
abbrev pub index_seen : ℕ → Option Worked → Seen
index_seen at None = []
index_seen at (Some w) = fails_at (not w.number) at ++ w.seen

-- ---- the fold

-- what is made of each part of an expression
abbrev pub expression_results : ExprResults
expression_results = record (exprs_are Worked) { path = Walked; step = Walked }

-- what a part mentions, from what the parts in it mention: the name of a path is that of its first step
abbrev pub expression_seen : ExprFold expression_results
expression_seen = record {
  expr = λ e. placed e.at e.form;
  form = form_level;
  path = λ p. record {
    name = p.first.name;
    indices = flat_map (λ (s : Walked). s.indices) (p.first ∷ p.rest);
    read = read_role p.rest;
  };
  step = λ s. record { name = s.name; indices = index_seen s.name.at s.index; read = role.Read };
  member = λ m. m.value;
  factor = λ f. f.operand;
  term = λ t. t.operand;
}

-- what an expression mentions
unfoldable pub expr_mentions : Expr → Seen
expr_mentions e = (fold_expr expression_seen e).seen

-- the variable of a path, and what its indices mention
unfoldable pub path_walked : Path → Walked
path_walked = fold_path expression_seen

-- what a path mentions, its variable in this role
abbrev pub path_mentions : Role → Path → Seen
path_mentions r path = walked r (path_walked path)

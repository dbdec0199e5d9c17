-- These definitions serve the proofs alone: no promise speaks of them.
-- The same grammar with common fronts taken out of its choices, so that one token decides each.
use Rattle.std.specs.Prelude.{ℕ, zero, suc, Bool, true, false, ◌&&◌, not, List, [], ◌∷◌}
use Rattle.jolie_ast.specs.declared.process.Process.{Process}
use Rattle.jolie_ast.specs.declared.process.Process.TheVariants as process
use Rattle.jolie_ast.specs.declared.process.Otherwise.{Otherwise}
use Rattle.jolie_ast.specs.declared.process.Otherwise.TheVariants as otherwise
use Rattle.jolie_parse.specs.declared.class.Class.{Class}
use Rattle.jolie_parse.specs.ClassNames as c
use Rattle.jolie_parse.specs.Classes.{Spelled, has}
use Rattle.jolie_parse.specs.Meanings as means_as
use Rattle.jolie_parse.specs.Syntax.{Part, an_else_if, Meant, Syn, Lang, Derives, behind}
use Rattle.jolie_parse.specs.Syntax.{token, give, both, either, many, means, inside, prefix}
use Rattle.jolie_parse.specs.Deciding.{nullable, first, further, later, disjoint, covers}
use Rattle.jolie_parse.specs.Grammar.{id, path_parts, input_parts, output_parts, change, block}
use Rattle.jolie_parse.specs.Grammar.{nothing, marked_statement, part_rules}

-- an input after its operation, as what it is for that name
abbrev pub named_input : Syn (Spelled → Process)
named_input = means {B = Spelled → Process} (λ parts t. process.Input (means_as.input_of t parts)) input_parts

-- an output after its operation, as what it is for that name
abbrev pub named_output : Syn (Spelled → Process)
named_output = means {B = Spelled → Process} (λ parts t. means_as.output_of t parts) output_parts

-- an assignment after the first name of its path, as what it is for that name
abbrev pub named_assignment : Syn (Spelled → Process)
named_assignment =
    means {B = Spelled → Process} (λ parts t. process.Assign (means_as.path_of t parts.0) parts.1)
    (both path_parts change)

-- what follows the first name of a statement, as what the statement is for that name
unfoldable pub named_parts : Syn (Spelled → Process)
named_parts = either named_input (either named_output named_assignment)

-- what the rest of a statement is for the name before it
abbrev pub of_name : Spelled → Syn (Spelled → Process) → Syn Process
of_name t s = means (λ (f : Spelled → Process). f t) s

-- a statement that begins with a name
abbrev pub named : Syn Process
named = means (λ (q : Spelled × (Spelled → Process)). q.1 q.0) (both id named_parts)

-- an `if` behind `else`
abbrev pub else_if : Syn Otherwise
else_if = means (λ q. otherwise.ElseIf (means_as.if_of q.0 q.1)) (prefix (c.the_if ∷ []) an_else_if)

-- what stands after `else`: an `if` or a block
abbrev pub alternative : Syn Otherwise
alternative = either else_if (means otherwise.Else block)

-- what may follow an `if`, decided by one token
unfoldable pub one_else : Syn Otherwise
one_else = either (behind c.the_else alternative) (give otherwise.Nothing)

-- a statement, decided by one token
unfoldable pub one_statement : Syn Process
one_statement = either nothing (either named (marked_statement one_else))

-- the grammar of each part, decided by one token
abbrev pub rule : (r : Part) → Syn (Meant r)
rule = part_rules one_statement one_else

-- what stands a level further in, with nesting at most n from there on
abbrev pub Within : ℕ → (r : Part) → Lang (Meant r)
Within zero r ts v = ⊥
Within (suc n) r ts v = Derives (Within n) (rule r) ts v

-- the tokens are that phrase with nesting at most n
abbrev pub Nests : {A : Type 0} → ℕ → Syn A → Lang A
Nests n s = Derives (Within n) s

-- there is a class
abbrev pub usable : List Class → Bool
usable [] = false
usable (c ∷ cs) = true

-- one token decides each choice in it
abbrev pub decided : {A : Type 0} → Syn A → Bool
decided (token ks) = usable ks
decided (give a) = true
decided (both s t) = disjoint (first t) (further s) && (decided s && decided t)
decided (either s t) = not (nullable s) && (disjoint (first t) (first s) && (decided s && decided t))
decided (many s) = not (nullable s) && (disjoint (first s) (further s) && decided s)
decided (means f s) = decided s
decided (inside o r c) = not (has (further (rule r)) c)
decided (prefix ks r) = usable ks && covers (further (rule r)) (later r)

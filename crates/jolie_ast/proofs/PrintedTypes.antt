-- What the tokens of a type are at each form.
use Rattle.std.proofs.Common.{◌≡◌, ℕ, List, [], ◌∷◌, ◌++◌, Some, None, ap, sym, ◌∙◌, codes, flat_map}
use Rattle.std.specs.Option.{option_map_or}
use Rattle.jolie_ast.specs.declared.name.Name.{Name}
use Rattle.jolie_ast.specs.declared.types.RootKind.{RootKind}
use Rattle.jolie_ast.specs.declared.types.TypeBody.TheOpen.{TypeBody-F}
use Rattle.jolie_ast.specs.declared.types.TypeBody.TheFolds.{fold-roll-TypeBody, fold-roll-Field}
use Rattle.jolie_ast.specs.declared.types.TypeBody.TheVariants as body
use Rattle.jolie_ast.specs.declared.types.Field.{Field, out-Field, roll-out-Field}
use Rattle.jolie_ast.specs.Spacing.{Token}
use Rattle.jolie_ast.specs.PrintedExpressions.{in_braces}
use Rattle.jolie_ast.specs.Printed.{root_token, cardinality_tokens, body_level, field_level, body_tokens, field_tokens}
use Rattle.jolie_ast.proofs.Spacing.{mapped_tokens}

pub root_alone : (at : ℕ) (kind : RootKind) → body_tokens (body.Root at kind None) ≡ root_token kind ∷ []
unfolding body_tokens field_tokens
root_alone at kind =
    ap body_tokens (sym (body.rolls-Root at kind None))
    ∙ fold-roll-TypeBody (List Token) (List Token) body_level field_level (TypeBody-F.Root at kind None)

pub root_with_fields : (at : ℕ) (kind : RootKind) (fields : List Field) → body_tokens (body.Root at kind (Some fields)) ≡ root_token kind ∷ in_braces (flat_map field_tokens fields)
unfolding body_tokens field_tokens
root_with_fields at kind fields =
    ap body_tokens (sym (body.rolls-Root at kind (Some fields)))
    ∙ fold-roll-TypeBody (List Token) (List Token) body_level field_level (TypeBody-F.Root at kind (Some fields))
    ∙ ap (λ ts. root_token kind ∷ in_braces ts) (mapped_tokens (λ ts. ts) field_tokens fields)

pub named_body : (name : Name) → body_tokens (body.Named name) ≡ name.text ∷ []
unfolding body_tokens field_tokens
named_body name =
    ap body_tokens (sym (body.rolls-Named name))
    ∙ fold-roll-TypeBody (List Token) (List Token) body_level field_level (TypeBody-F.Named name)

pub undefined_body : (at : ℕ) → body_tokens (body.Undefined at) ≡ codes "undefined" ∷ []
unfolding body_tokens field_tokens
undefined_body at =
    ap body_tokens (sym (body.rolls-Undefined at))
    ∙ fold-roll-TypeBody (List Token) (List Token) body_level field_level (TypeBody-F.Undefined at)

pub field_is : (f : Field) → field_tokens f ≡ (out-Field f).name.text ∷ (option_map_or cardinality_tokens (out-Field f).cardinality [] ++ codes ":" ∷ body_tokens (out-Field f).body)
unfolding body_tokens field_tokens
field_is f =
    ap field_tokens (sym (roll-out-Field f))
    ∙ fold-roll-Field (List Token) (List Token) body_level field_level (out-Field f)

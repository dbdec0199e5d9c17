-- What types of a program stand for, at each form.
use Rattle.std.proofs.Common.{◌≡◌, ℕ, List, map, Option, Vec, Global, ap, sym, ◌∙◌}
use Rattle.behaviour_tree.specs.declared.types.RootKind.{RootKind}
use Rattle.behaviour_tree.specs.declared.types.TypeDef.{TypeDef}
use Rattle.behaviour_tree.specs.declared.types.TypeDef.TheVariants as form
use Rattle.behaviour_tree.specs.declared.types.TypeDef.TheOpen.{TypeDef-F}
use Rattle.behaviour_tree.specs.declared.types.TypeDef.TheFolds.{fold-roll-Field, fold-roll-TypeDef}
use Rattle.behaviour_tree.specs.declared.types.Field.{Field, roll-Field}
use Rattle.behaviour_tree.specs.Data as plain
use Rattle.behaviour_tree.specs.Data.{TypeTree}
use Rattle.behaviour_tree.specs.View.{FieldView, type_fields_of, type_level, field_level, type_view, field_view}

pub plain_seen : (k : RootKind) (fields : Vec Field Global) → type_view (form.Plain k fields) ≡ plain.plain k (type_fields_of (map field_view fields.items))
plain_seen k fields = ap type_view (sym (form.rolls-Plain k fields)) ∙ fold-roll-TypeDef TypeTree FieldView type_level field_level (TypeDef-F.Plain k fields)

pub named_seen : (n : ℕ) → type_view (form.Named n) ≡ plain.named n
named_seen n = ap type_view (sym (form.rolls-Named n)) ∙ fold-roll-TypeDef TypeTree FieldView type_level field_level (TypeDef-F.Named n)

pub undefined_seen : type_view form.Undefined ≡ plain.undefined
undefined_seen = ap type_view (sym form.rolls-Undefined) ∙ fold-roll-TypeDef TypeTree FieldView type_level field_level TypeDef-F.Undefined

pub field_seen : (name : List ℕ) (least : ℕ) (most : Option ℕ) (ty : TypeDef) → field_view (roll-Field (record { name = name; least = least; most = most; ty = ty })) ≡ record { name = name; least = least; most = most; ty = type_view ty }
field_seen name least most ty = fold-roll-Field TypeTree FieldView type_level field_level (record { name = name; least = least; most = most; ty = ty })

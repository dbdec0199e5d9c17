use Rattle.std.proofs.Common.{◌≡◌, List, map, refl, rules}
use Rattle.jolie_ast.specs.declared.name.Name.{Name}
use Rattle.jolie_parse.specs.ClassNames as classes
use Rattle.jolie_parse.specs.Classes.{Spelled, ids}
use Rattle.jolie_parse.specs.Grammar as spec
use Rattle.jolie_parse.specs.Grammar.{alias, id}
use Rattle.jolie_parse.specs.Meanings as means_as
use Rattle.jolie_parse.specs.Syntax.{many, behind}
use Rattle.jolie_parse.specs.Reading.{got, take_token, read}
use Rattle.jolie_parse.proofs.Lists.{passes, stops_then}
use Rattle.jolie_parse.proofs.Steps.{unmeant, unmeant_stops, none_read, many_mapped}
use Rattle.jolie_parse.proofs.cursor.Cursor.alias.Goals as goal

pub returns-in_err-ty : goal.returns-in_err-ty
unfolding alias id
returns-in_err-ty c = search (rules, passes, stops_then)

pub returns-in_err-first : goal.returns-in_err-first
unfolding alias id
returns-in_err-first c =
    let o = unmeant_stops means_as.name_of (read 0 (behind classes.sign_dot spec.word) c.take.new.self) c.in_err-first.field-0.0 c.next_field_name.new.self c.in_err-first.ensures in
    rw c.in_ok-ty.ensures (search (rules, passes, stops_then))

pub returns-in_err-rest : goal.returns-in_err-rest
unfolding alias id
returns-in_err-rest c =
    let first = unmeant means_as.name_of (read 0 (behind classes.sign_dot spec.word) c.take.new.self) _ _ c.in_ok-first.ensures in
    let rest = rw (none_read, many_mapped) at c.in_err-rest.ensures in
    let o = unmeant_stops (map means_as.name_of) (read 0 (many (behind classes.sign_dot spec.word)) c.next_field_name.new.self) c.in_err-rest.field-0.0 c.field_names.new.self rest in
    rw (c.in_ok-ty.ensures, first.1) (search (rules, passes, stops_then))

alias_read : (ts r1 r2 q : List Spelled) (t u : Spelled) (us : List Spelled) (ty first : Name) (rest : List Name) → take_token ids ts ≡ got t r1
    → read 0 (behind classes.sign_dot spec.word) r1 ≡ got u r2 → read 0 (many (behind classes.sign_dot spec.word)) r2 ≡ got us q
    → ty ≡ means_as.name_of t → first ≡ means_as.name_of u → rest ≡ map means_as.name_of us → read 0 spec.alias ts ≡ got (record { ty = ty; first = first; rest = rest }) q
unfolding alias id
alias_read ts r1 r2 q t u us ty first rest a b d e f g = rw (a, b, d, e, f, g) refl

pub returns : goal.returns
returns c =
    let first = unmeant means_as.name_of (read 0 (behind classes.sign_dot spec.word) c.take.new.self) _ _ c.in_ok-first.ensures in
    let found = rw (none_read, many_mapped) at c.in_ok-rest.ensures in
    let rest = unmeant (map means_as.name_of) (read 0 (many (behind classes.sign_dot spec.word)) c.next_field_name.new.self) _ _ found in
    alias_read _ _ _ _ _ _ _ _ _ _ c.in_ok-ty.ensures first.1 rest.1 c.in_ok-name.ensures first.2 rest.2

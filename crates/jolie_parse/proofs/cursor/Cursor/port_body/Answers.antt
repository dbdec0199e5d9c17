use Rattle.std.proofs.Common.{◌≡◌, List, Option, refl, rules}
use Rattle.jolie_ast.specs.declared.name.Name.{Name}
use Rattle.jolie_ast.specs.declared.name.Quoted.{Quoted}
use Rattle.jolie_parse.specs.ClassNames as classes
use Rattle.jolie_parse.specs.Classes.{Spelled}
use Rattle.jolie_parse.specs.Grammar as spec
use Rattle.jolie_parse.specs.Grammar.{port_body}
use Rattle.jolie_parse.specs.Meanings as means_as
use Rattle.jolie_parse.specs.Syntax.{optional, separated}
use Rattle.jolie_parse.specs.Reading.{got, read}
use Rattle.jolie_parse.proofs.Lists.{passes, stops_then}
use Rattle.jolie_parse.proofs.Steps.{unmeant, unmeant_stops}
use Rattle.jolie_parse.proofs.cursor.Cursor.port_body.Goals as goal

pub returns-in_err-location : goal.returns-in_err-location
unfolding port_body
returns-in_err-location c =
    let o = unmeant_stops means_as.quoted (read 0 (spec.labelled classes.the_location (spec.one classes.quoted_text)) c.args.self.now) c.in_err-location.field-0.0 c.location.new.self c.in_err-location.ensures in
    search (rules, passes, stops_then)

pub returns-in_err-protocol : goal.returns-in_err-protocol
unfolding port_body
returns-in_err-protocol c =
    let location = unmeant means_as.quoted (read 0 (spec.labelled classes.the_location (spec.one classes.quoted_text)) c.args.self.now) _ _ c.in_ok-location.ensures in
    rw location.1 (search (rules, passes, stops_then))

pub returns-in_err-interfaces : goal.returns-in_err-interfaces
unfolding port_body
returns-in_err-interfaces c =
    let location = unmeant means_as.quoted (read 0 (spec.labelled classes.the_location (spec.one classes.quoted_text)) c.args.self.now) _ _ c.in_ok-location.ensures in
    rw location.1 (search (rules, passes, stops_then))

port_read : (ts r1 r2 q : List Spelled) (t : Spelled) (location : Quoted) (protocol : Option Name) (interfaces : List Name) → read 0 (spec.labelled classes.the_location (spec.one classes.quoted_text)) ts ≡ got t r1
    → read 0 (optional (spec.labelled classes.the_protocol spec.name)) r1 ≡ got protocol r2 → read 0 (spec.labelled classes.the_interfaces (separated classes.sign_comma spec.name)) r2 ≡ got interfaces q
    → location ≡ means_as.quoted t → read 0 spec.port_body ts ≡ got (location, protocol, interfaces) q
unfolding port_body
port_read ts r1 r2 q t location protocol interfaces a b d e = rw (a, b, d, e) refl

pub returns : goal.returns
returns c =
    let location = unmeant means_as.quoted (read 0 (spec.labelled classes.the_location (spec.one classes.quoted_text)) c.args.self.now) _ _ c.in_ok-location.ensures in
    port_read _ _ _ _ _ _ _ _ location.1 c.in_ok-protocol.ensures c.in_ok-interfaces.ensures location.2

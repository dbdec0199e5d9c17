-- That a history is legal has one proof at most: so a type can keep it.
use Rattle.std.specs.Prelude.{List, [], ◌∷◌}
use Rattle.std.proofs.Props.{props}
use Rattle.std.specs.Coded.{Coded-set, coded_option, ×_prop, Unit-prop}
use Rattle.office_core.specs.contracts.history.Act as act_row
use Rattle.office_core.specs.declared.history.Entry.{Entry}
use Rattle.office_core.specs.Limits.{Setting}
use Rattle.office_core.specs.Past.{Past, nothing_yet}
use Rattle.office_core.specs.Accepted.{then_one}
use Rattle.office_core.specs.Legal.{IsLegalEntry, AreLegal, IsLegal}

pub IsLegalEntry-prop : (w : Setting) (past : Past) (e : Entry) → IsProp (IsLegalEntry w past e)
IsLegalEntry-prop w past e = Prim.hlevel (props, Coded-set (coded_option act_row.the_row.coded))

pub AreLegal-prop : (w : Setting) (past : Past) (es : List Entry) → IsProp (AreLegal w past es)
AreLegal-prop w past [] = Unit-prop
AreLegal-prop w past (e ∷ es) = ×_prop (IsLegalEntry-prop w past e) (AreLegal-prop w (then_one w past e) es)

pub IsLegal-prop : (w : Setting) (h : List Entry) → IsProp (IsLegal w h)
IsLegal-prop w h = AreLegal-prop w nothing_yet h

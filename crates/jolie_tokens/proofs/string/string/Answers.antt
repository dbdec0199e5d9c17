use Rattle.std.proofs.Common.{◌≡◌, ◌∙◌, ◌+◌, ◌<◌, sym, refl, None, Some, take, length}
use Rattle.jolie_tokens.specs.Fronts.{string_end, bad_escape, utf8_stop, least}
use Rattle.jolie_tokens.proofs.Strings.{string_meant, string_gives}
use Rattle.jolie_tokens.proofs.string.string.Goals as goal

pub meant_text-requires : goal.meant_text-requires
meant_text-requires c =
    let bs = c.args.after.now in
    let n = c.in-Some.len in
    let ends : string_end bs ≡ Some n = sym c.string_end.ensures.value ∙ c.in-Some.is in
    let faultless : least (bad_escape (take n bs)) (utf8_stop (take n bs)) ≡ None =
    cc (c.bad_escape.ensures.value, c.utf8_stop.ensures.value, c.least.ensures, c.in_default-least.is) in
    string_meant bs n ends faultless

pub returns : goal.returns
returns c =
    let bs = c.args.after.now in
    let n = c.in-Some.len in
    let ends : string_end bs ≡ Some n = sym c.string_end.ensures.value ∙ c.in-Some.is in
    let faultless : least (bad_escape (take n bs)) (utf8_stop (take n bs)) ≡ None =
    cc (c.bad_escape.ensures.value, c.utf8_stop.ensures.value, c.least.ensures, c.in_default-least.is) in
    let within : n < length bs = c.in-Some.ensures.within in
    string_gives bs c.args.at n c.in_ok-text.text (n + 2) ends within faultless c.in_ok-text.ensures refl

use Rattle.std.proofs.Common.{◌≡◌, true, false, subst, sym}
use Rattle.std.specs.Result.{is_ok}
use Rattle.correlation.proofs.Mirrored.{mirrored_push, numbered_push, sets_push}
use Rattle.correlation.proofs.rows.Rows.push.Goals as goal

pub invariant_of-self : goal.invariant_of-self
invariant_of-self c =
    let self = c.args.self.now in
    let b = is_ok c.push.result in
    record {
      mirrors = mirrored_push self.index.sets.items self.sessions.items c.push.new.self.items c.args.session b self.mirrors c.requires.keys c.push.ensures.items;
      numbers = numbered_push self.sessions.items c.push.new.self.items c.args.session b c.requires.new self.numbers c.push.ensures.items;
      sets = sets_push self.sessions.items c.push.new.self.items c.args.session b c.requires.sets self.sets c.push.ensures.items;
    }

use Rattle.std.proofs.Common.{rules, ◌≡◌, ◌+◌, Some, take, sym, ap, ◌∙◌, arith}
use Rattle.frame_arena.specs.Entries.{entries, new_entries}
use Rattle.frame_arena.proofs.Rows.{taken_back}
use Rattle.frame_arena.proofs.Seeking.{grown_more}
use Rattle.frame_arena.proofs.row.grow.Goals as goal

pub returns-in_default : goal.returns-in_default
returns-in_default g c =
    let l = c.loop-i in
    let back : c.push.new.self.items ≡ l.rows.items = search rules in
    ap entries (c.truncate.ensures.items ∙ ap (take c.len-before.result) back)
    ∙ taken_back c.args.rows.now.items l.rows.items (new_entries (Some c.args.parent) c.args.first l.i) c.len-before.result
    (sym l.invariant.before) l.invariant.rows

pub loop-i-preserved : goal.loop-i-preserved
loop-i-preserved g c =
    let l = c.loop-i in
    record {
      rows = grown_more c.args.rows.now.items l.rows.items c.push.new.self.items c.new_row.result (Some c.args.parent) c.args.first l.i (l.i + 1)
          l.invariant.rows c.in-Ok.ensures.items c.new_row.ensures (omega arith);
      before = l.invariant.before;
    }

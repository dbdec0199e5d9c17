use Rattle.std.proofs.Common.{◌≤◌, length, sym, ap, subst, ◌∙◌, arith}
use Rattle.std.proofs.lemmas.List.{length-map}
use Rattle.behaviour_tree.specs.declared.behaviour.Handlers.{out-Handlers}
use Rattle.handler_table.specs.Entries.{entry_of}
use Rattle.handler_table.specs.View.{room}
use Rattle.handler_table.proofs.Takes.{entries_seen}
use Rattle.test_sessions.proofs.scopes.script.Scopes.ended.Goals as goal

pub merge-requires-clause-room : goal.merge-requires-clause-room
merge-requires-clause-room c =
    let completed = c.completed-completed.result in
    let list = (out-Handlers completed).list in
    let few : length list.items ≤ room c.reserve.new.self = omega (arith, list.ok.0, c.in_ok-reserve-in-Ok.ensures.room) in
    subst (λ n. n ≤ room c.reserve.new.self) (sym (ap length (entries_seen completed) ∙ length-map list.items entry_of)) few

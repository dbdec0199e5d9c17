use Rattle.std.proofs.Common.{◌≡◌, ◌+◌, ◌≤◌, [], ◌∷◌, length, refl, sym, ap, subst, ◌∙◌, arith}
use Rattle.std.proofs.lemmas.List.{length-append, length-map}
use Rattle.behaviour_tree.specs.declared.behaviour.Handlers.{out-Handlers}
use Rattle.session_calculus.specs.Tables.{Table, over}
use Rattle.handler_table.specs.Entries.{entries_of, entry_of}
use Rattle.handler_table.specs.View.{room, table_view}
use Rattle.handler_table.proofs.Takes.{entries_seen, keys_seen, over_popped, scopes_popped}
use Rattle.handler_table.proofs.table.Table.merge.Goals as goal

pub loop-handler-init : goal.loop-handler-init
loop-handler-init c =
    let old = c.args.self.now in
    let list = (out-Handlers c.args.completed).list.items in
    let few = subst (λ es. length es ≤ room old) (entries_seen c.args.completed) c.requires.room in
    record {
      faults = refl;
      scopes = ap (λ es. over es (table_view old).scopes) (entries_seen c.args.completed);
      keys = sym (keys_seen c.args.completed) ∙ c.requires.keys;
      short = subst (λ n. n ≤ room old) (length-map list entry_of) few;
    }

pub put_scope-requires-clause-key : goal.put_scope-requires-clause-key
put_scope-requires-clause-key c =
    (scopes_popped c.loop-handler.list.items c.pop.new.self.items c.in-Some.handler c.in-Some.ensures.items c.loop-handler.invariant.keys).1

pub loop-handler-preserved : goal.loop-handler-preserved
loop-handler-preserved c =
    let list = c.loop-handler.list.items in
    let left = c.pop.new.self.items in
    let h = c.in-Some.handler in
    let one : length list ≡ length left + 1 = ap length c.in-Some.ensures.items ∙ length-append left (h ∷ []) in
    record {
      faults = ap (λ (t : Table). t.faults) c.put_scope.ensures.table ∙ c.loop-handler.invariant.faults;
      scopes =
          c.loop-handler.invariant.scopes
          ∙ over_popped list left h (table_view c.loop-handler.self).scopes c.in-Some.ensures.items
          ∙ ap (over (entries_of left)) (sym (ap (λ (t : Table). t.scopes) c.put_scope.ensures.table));
      keys = (scopes_popped list left h c.in-Some.ensures.items c.loop-handler.invariant.keys).0;
      short = omega (arith, one);
    }

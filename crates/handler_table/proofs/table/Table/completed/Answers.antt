use Rattle.std.proofs.Common.{rules, ◌≡◌, true, map, ap, ◌∙◌}
use Rattle.behaviour_tree.specs.declared.behaviour.Handlers as handlers
use Rattle.behaviour_tree.specs.declared.behaviour.Handlers.{roll-Handlers}
use Rattle.behaviour_tree.specs.View.{handler_view, handlers_of, handlers_view}
use Rattle.handler_table.specs.Entries.{are_of_scopes, entries_in}
use Rattle.handler_table.specs.Rows.{are_scopes, views_of}
use Rattle.handler_table.proofs.Takes.{entries_listed, keys_listed}
use Rattle.handler_table.proofs.table.Table.completed.Goals as goal

pub returns-clause-entries : goal.returns-clause-entries
returns-clause-entries c =
    let list = c.args.self.scopes.list in
    let seen : handlers_view (roll-Handlers (record { list = list })) ≡ handlers_of (map handler_view list.items) = search (rules, handlers.the_lemmas) in
    ap entries_in seen ∙ entries_listed list.items

pub returns-clause-keys : goal.returns-clause-keys
returns-clause-keys c =
    let list = c.args.self.scopes.list in
    let seen : handlers_view (roll-Handlers (record { list = list })) ≡ handlers_of (map handler_view list.items) = search (rules, handlers.the_lemmas) in
    let keys : are_scopes (views_of list.items) ≡ true = c.args.self.keys in
    ap are_of_scopes seen ∙ keys_listed (views_of list.items) ∙ keys

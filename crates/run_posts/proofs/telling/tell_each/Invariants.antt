-- The postings before the next were told, as far as they are finished, and the others wait.
use Rattle.std.proofs.Common.{◌≡◌, ◌++◌, length, map}
use Rattle.std.specs.List.{filter}
use Rattle.std.specs.Vec.Iter.{into_iter_items, into_iter_len}
use Rattle.behaviour_tree.specs.PartsView.{parts_of}
use Rattle.run_posts.specs.CallStates.{is_open, wait_of}
use Rattle.run_posts.specs.Telling.{TellsOn}
use Rattle.run_posts.proofs.Expecting.{IsTelling}
use Rattle.run_posts.proofs.telling.tell_each.Given as goal

abbrev pub invariant-loop-posting : goal.invariant-loop-posting
invariant-loop-posting g l = record {
  waiting : map wait_of l.left.items ++ filter is_open (map wait_of (into_iter_items l.posting-iterator))
      ≡ filter is_open (map wait_of l.fn.waiting.items);
  told : TellsOn (g.F.Front.exchanged (parts_of l.program)) l.initial.front l.front (map wait_of l.fn.waiting.items)
      (IsTelling (map wait_of l.fn.waiting.items) (map wait_of (into_iter_items l.posting-iterator)));
  left : into_iter_len l.posting-iterator ≡ length (into_iter_items l.posting-iterator);
}

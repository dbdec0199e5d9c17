-- Posting by posting: one that is finished is told, and each other waits.
use Rattle.std.proofs.Common.{◌≡◌, ◌∙◌, ◌++◌, [], true, false, length, map, List, sym, ap, subst, arith, rules}
use Rattle.std.specs.List.{filter}
use Rattle.std.proofs.lemmas.List.{nil_from_length}
use Rattle.std.specs.Vec.Iter.{into_iter_items}
use Rattle.behaviour_tree.specs.PartsView.{parts_of}
use Rattle.run_order_laws.proofs.Lists.{append_nil}
use Rattle.run_posts.specs.declared.pending.Pending.{Pending}
use Rattle.run_posts.specs.CallStates.{is_finished, is_open, wait_of}
use Rattle.run_posts.specs.Telling.{TellsOn}
use Rattle.run_posts.proofs.Expecting.{IsTelling, failing, kept_pushed, passed_open, tells_ends, tells_not}
use Rattle.run_posts.proofs.Expecting.{tells_passes, tells_some, tells_starts, tells_turn}
use Rattle.run_posts.proofs.telling.tell_each.Goals as goal

pub loop-posting-init : goal.loop-posting-init
loop-posting-init g c =
    let exchanged = g.F.Front.exchanged (parts_of c.args.program.now) in
    let all = map wait_of c.args.waiting.items in
    record {
      waiting =
          λ i. map wait_of (c.new-left.ensures.items i)
          ++ filter is_open (map wait_of (c.into_iter-posting-iterator.ensures.into_iter_gives.0 i));
      told =
          subst (λ (l : List Pending). TellsOn exchanged c.args.front.now c.args.front.now all
          (IsTelling all (map wait_of l)))
          (sym c.into_iter-posting-iterator.ensures.into_iter_gives.0) (tells_starts exchanged c.args.front.now all);
      left = search rules;
    }

pub loop-posting-preserved-in-Continue-1 : goal.loop-posting-preserved-in-Continue-1
loop-posting-preserved-in-Continue-1 g c =
    let exchanged = g.F.Front.exchanged (parts_of c.args.program.now) in
    let at = c.loop-posting in
    let all = map wait_of c.args.waiting.items in
    let rest = map wait_of (into_iter_items c.next.new.self) in
    let steps = c.in-Some.ensures.steps.0 in
    let finished : is_finished (wait_of c.in-Some.posting) ≡ true = sym c.is_finished.ensures ∙ c.if-is_finished.true in
    record {
      waiting =
          passed_open all (map wait_of at.left.items) rest (wait_of c.in-Some.posting) finished
          (subst (λ (l : List Pending). map wait_of at.left.items ++ filter is_open (map wait_of l)
          ≡ filter is_open all)
          steps at.invariant.waiting);
      told =
          tells_turn exchanged c.args.front.now at.front c.tell.new.front all rest (wait_of c.in-Some.posting) finished
          c.in_ok-tell.ensures
          (subst (λ (l : List Pending). TellsOn exchanged c.args.front.now at.front all
          (IsTelling all (map wait_of l))) steps
          at.invariant.told);
      left =
          let was = at.invariant.left in
          let gone = c.in-Some.ensures.steps.1 in
          let short = ap length steps in
          omega arith;
    }

pub loop-posting-preserved : goal.loop-posting-preserved
loop-posting-preserved g c =
    let exchanged = g.F.Front.exchanged (parts_of c.args.program.now) in
    let at = c.loop-posting in
    let all = map wait_of c.args.waiting.items in
    let rest = map wait_of (into_iter_items c.next.new.self) in
    let steps = c.in-Some.ensures.steps.0 in
    let open_yet : is_finished (wait_of c.in-Some.posting) ≡ false =
    sym c.is_finished.ensures ∙ c.if-is_finished.false in
    record {
      waiting =
          kept_pushed all at.left.items _ (into_iter_items at.posting-iterator) (into_iter_items c.next.new.self)
          c.in-Some.posting steps open_yet c.in_ok-push.ensures.items at.invariant.waiting;
      told =
          tells_passes exchanged c.args.front.now at.front all rest (wait_of c.in-Some.posting) open_yet
          (subst (λ (l : List Pending). TellsOn exchanged c.args.front.now at.front all
          (IsTelling all (map wait_of l))) steps
          at.invariant.told);
      left =
          let was = at.invariant.left in
          let gone = c.in-Some.ensures.steps.1 in
          let short = ap length steps in
          omega arith;
    }

pub returns-clause-waiting : goal.returns-clause-waiting
returns-clause-waiting g c =
    let at = c.loop-posting in
    let empty : into_iter_items at.posting-iterator ≡ [] =
    nil_from_length (into_iter_items at.posting-iterator) (sym at.invariant.left ∙ c.in-None.ensures.steps.0) in
    sym (append_nil (map wait_of at.left.items))
    ∙ ap (λ (l : List Pending). map wait_of at.left.items ++ filter is_open (map wait_of l)) (sym empty)
    ∙ at.invariant.waiting

pub returns-clause-told : goal.returns-clause-told
returns-clause-told g c =
    let exchanged = g.F.Front.exchanged (parts_of c.args.program.now) in
    let at = c.loop-posting in
    let all = map wait_of c.args.waiting.items in
    let empty : into_iter_items at.posting-iterator ≡ [] =
    nil_from_length (into_iter_items at.posting-iterator) (sym at.invariant.left ∙ c.in-None.ensures.steps.0) in
    tells_ends exchanged c.args.front.now at.front all
    (subst (λ (l : List Pending). TellsOn exchanged c.args.front.now at.front all (IsTelling all (map wait_of l))) empty
    at.invariant.told)

-- ---- memory was wanting

pub returns-in_err-tell-clause-told : goal.returns-in_err-tell-clause-told
returns-in_err-tell-clause-told g c =
    let exchanged = g.F.Front.exchanged (parts_of c.args.program.now) in
    let at = c.loop-posting in
    let all = map wait_of c.args.waiting.items in
    let rest = map wait_of (into_iter_items c.next.new.self) in
    let finished : is_finished (wait_of c.in-Some.posting) ≡ true = sym c.is_finished.ensures ∙ c.if-is_finished.true in
    failing _ _ c.from_residual.result c.from_residual.ensures.1
    (tells_not exchanged c.args.front.now at.front c.tell.new.front all rest (wait_of c.in-Some.posting) finished
    c.in_err-tell.ensures
    (subst (λ (l : List Pending). TellsOn exchanged c.args.front.now at.front all
    (IsTelling all (map wait_of l))) c.in-Some.ensures.steps.0
    at.invariant.told))

pub returns-in_err-push-clause-told : goal.returns-in_err-push-clause-told
returns-in_err-push-clause-told g c =
    let exchanged = g.F.Front.exchanged (parts_of c.args.program.now) in
    let at = c.loop-posting in
    let all = map wait_of c.args.waiting.items in
    failing _ _ c.from_residual-in_err-push.result c.from_residual-in_err-push.ensures.1
    (tells_some exchanged c.args.front.now at.front all (map wait_of (into_iter_items at.posting-iterator))
    at.invariant.told)

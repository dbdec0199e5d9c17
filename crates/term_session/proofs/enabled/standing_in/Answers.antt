use Rattle.std.proofs.Common.{◌≡◌, subst, rules}
use Rattle.std.specs.Prelude.{Contains}
use Rattle.std.proofs.lemmas.List.Filters.{dedup_is}
use Rattle.std.proofs.lemmas.List.Kept.{Contains-dedup_nat}
use Rattle.std.proofs.lemmas.List.Sorted.{Contains-permutation}
use Rattle.std.proofs.lemmas.Map.Keys.{IsStrictlyIncreasing-dedup}
use Rattle.session_forms.specs.Standing.{strands_in}
use Rattle.term_session.specs.Configs.{config_view}
use Rattle.term_session.proofs.enabled.standing_in.Goals as goal

pub returns : goal.returns
returns c =
    let is = dedup_is _ _ _ c.dedup.ensures.filtered in
    let moved = c.sort_unstable.ensures.permutation in
    let same : strands_in 0 (config_view c.args.config.now).form ≡ c.in_ok-standing.standing.items = search rules in
    record {
      rising = rw is (IsStrictlyIncreasing-dedup _ c.sort_unstable.ensures.sorted);
      all = λ n h. rw is (Contains-dedup_nat _ n (Contains-permutation _ _ n moved (subst (λ xs. Contains xs n) same h)));
    }

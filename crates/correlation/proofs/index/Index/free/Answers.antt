use Rattle.std.proofs.Common.{◌≡◌, ◌+◌, suc, filter, length, set, ap, subst, ◌∙◌, arith}
use Rattle.std.proofs.lemmas.List.{length-set}
use Rattle.correlation.specs.Index.{is_of_other}
use Rattle.correlation.specs.declared.set_keys.SetKeys.{SetKeys}
use Rattle.correlation.proofs.KeySets.{IsFreed, freed_keys, freed_more}
use Rattle.correlation.proofs.index.Index.free.Goals as goal

pub loop-place-preserved : goal.loop-place-preserved
loop-place-preserved c =
    let s = c.args.session in
    let i = c.loop-place.place in
    let old = c.args.self.now.sets.items in
    let now = c.loop-place.self.sets.items in
    let d = c.index_mut.result.now in
    let x : SetKeys = record { set = d.set; keys = c.free.new.self } in
    let value = c.index_mut.ensures.value in
    let long = c.loop-place.invariant.long in
    let freed = c.free.ensures ∙ ap (λ (t : SetKeys). filter (is_of_other s) t.keys.rows.items) value in
    let more = freed_more s i old now x d c.loop-place.invariant.freed (omega arith) (ap (λ (t : SetKeys). t.set) value) freed in
    let one : suc i ≡ i + 1 = omega arith in
    record {
      freed = subst (λ k. IsFreed s k old (set now i x)) one more;
      long = length-set now i x ∙ long;
    }

pub returns : goal.returns
returns c =
    let long = c.loop-place.invariant.long in
    λ n. freed_keys c.args.session c.loop-place.place n c.args.self.now.sets.items c.loop-place.self.sets.items c.loop-place.invariant.freed (omega arith)

use Rattle.std.proofs.Common.{◌≡◌, set, sym, ap, subst, ◌∙◌}
use Rattle.correlation.specs.Index.{Mirrors}
use Rattle.correlation.specs.Sessions.{freed}
use Rattle.correlation.specs.declared.session.Session.{Session}
use Rattle.correlation.proofs.Mirrored.{changed_at, mirrored_release, numbered_set, sets_set}
use Rattle.correlation.proofs.rows.Rows.release.Goals as goal

pub invariant_of-self : goal.invariant_of-self
invariant_of-self c =
    let old = c.args.self.now in
    let ss = old.sessions.items in
    let i = c.place_of-place.result in
    let d = c.index_mut.result.now in
    let value = c.index_mut.ensures.value in
    let placed = c.place_of-place.ensures in
    let made = ap (λ e. set ss i (freed e)) value ∙ changed_at freed ss i c.args.session d old.numbers placed.within (placed.number d) in
    let new = c.free.new.self.sets.items in
    record {
      mirrors = subst (Mirrors new) (sym made) (mirrored_release old.index.sets.items new ss c.args.session old.mirrors c.free.ensures);
      numbers = numbered_set ss i (freed d) d (ap (λ (s : Session). s.number) value) old.numbers;
      sets = sets_set ss i (freed d) d (ap (λ (s : Session). s.sets) value) old.sets;
    }

pub returns : goal.returns
returns c =
    let old = c.args.self.now in
    let ss = old.sessions.items in
    let i = c.place_of-place.result in
    let d = c.index_mut.result.now in
    let placed = c.place_of-place.ensures in
    ap (λ e. set ss i (freed e)) c.index_mut.ensures.value ∙ changed_at freed ss i c.args.session d old.numbers placed.within (placed.number d)

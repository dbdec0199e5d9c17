-- The trip of each call to a service elsewhere is made, and its outcome received, before the next is fetched.
use Rattle.std.proofs.Common.{◌∙◌, refl, subst, sym, true≢false}
use Rattle.behaviour_tree.specs.PartsView.{parts_of}
use Rattle.office_core.specs.declared.outgoing.OutKind.TheVariants as kind
use Rattle.run_cells.specs.View.{state}
use Rattle.run_trip_laws.specs.Going.{IsHeard, NotedSoFar}
use Rattle.run_sweep.specs.Swept.{CompletedCallsBy}
use Rattle.run_sweep.proofs.Errands.{errands_none, errands_more, errand_of, fetched_of, fetched_some, fetched_none}
use Rattle.run_sweep.proofs.Errands.{cleared_of, less_of, same_history, noted_same, completed_of}
use Rattle.run_sweep.proofs.elsewhere.trip_all.Goals as goal

pub loop-out-init : goal.loop-out-init
loop-out-init g c =
    let s = state g.S.Session c.args.cells.now in
    record {
      program = refl;
      work = c.requires.work;
      errands = errands_none s.setting kind.Remote s c.requires.settled;
      completed = λ first t. t;
      noted = λ noted so. so;
    }

pub answered-requires-clause-fetched : goal.answered-requires-clause-fetched
answered-requires-clause-fetched g c =
    let s = state g.S.Session c.args.cells.now in
    let mid = state g.S.Session c.loop-out.cells in
    let one = state g.S.Session c.fetch.new.self in
    let out = c.in-Some.out in
    let i = c.loop-out.invariant in
    let f = fetched_some kind.Remote mid one _ out c.in-Some.is c.in_ok-out.ensures.call c.in_ok-out.ensures.added in
    fetched_of kind.Remote s mid one out c.loop-out.moved i.errands i.work.team f.next f.stays

pub loop-out-preserved : goal.loop-out-preserved
loop-out-preserved g c =
    let s = state g.S.Session c.args.cells.now in
    let mid = state g.S.Session c.loop-out.cells in
    let one = state g.S.Session c.fetch.new.self in
    let new = state g.S.Session c.answered.new.self in
    let out = c.in-Some.out in
    let i = c.loop-out.invariant in
    let f = fetched_some kind.Remote mid one _ out c.in-Some.is c.in_ok-out.ensures.call c.in_ok-out.ensures.added in
    let did = c.in_ok-answered.ensures in
    let o = c.in_ok-outcome.outcome in
    let x = errand_of kind.Remote s mid one new out o c.loop-out.moved i.errands f.next f.stays did.added
    (λ h. absurd (true≢false (sym h))) did.work.team in
    let made = c.in_ok-outcome.ensures in
    record {
      program = c.answered.ensures.program ∙ c.fetch.ensures.program ∙ i.program;
      work = did.work;
      errands = errands_more s.setting kind.Remote s mid new out c.loop-out.moved i.errands x;
      completed = completed_of s mid one new out o c.loop-out.moved made.0 (g.L.Link.told c.args.link.now)
          (g.L.Link.told c.loop-out.link) (g.L.Link.told c.trip.new.link) i.errands f did.added did.work.team
          (subst (λ p. IsHeard (parts_of p) out made.0 o)
          (c.program.ensures ∙ c.fetch.ensures.program ∙ i.program) made.1)
          made.2 made.3 i.completed;
      noted = λ noted so. noted_same s.setting mid new out noted x (i.noted noted so);
    }

pub loop-out-smaller : goal.loop-out-smaller
loop-out-smaller g c =
    let s = state g.S.Session c.args.cells.now in
    let mid = state g.S.Session c.loop-out.cells in
    let one = state g.S.Session c.fetch.new.self in
    let new = state g.S.Session c.answered.new.self in
    let out = c.in-Some.out in
    let i = c.loop-out.invariant in
    let f = fetched_some kind.Remote mid one _ out c.in-Some.is c.in_ok-out.ensures.call c.in_ok-out.ensures.added in
    let did = c.in_ok-answered.ensures in
    let o = c.in_ok-outcome.outcome in
    let x = errand_of kind.Remote s mid one new out o c.loop-out.moved i.errands f.next f.stays did.added
    (λ h. absurd (true≢false (sym h))) did.work.team in
    less_of kind.Remote s mid new out i.errands.stays.setting
    (did.added.setting ∙ f.stays.setting ∙ i.errands.stays.setting) x

pub returns-clause-program : goal.returns-clause-program
returns-clause-program g c = c.fetch.ensures.program ∙ c.loop-out.invariant.program

pub returns-clause-cleared : goal.returns-clause-cleared
returns-clause-cleared g c =
    let s = state g.S.Session c.args.cells.now in
    let mid = state g.S.Session c.loop-out.cells in
    let new = state g.S.Session c.fetch.new.self in
    let i = c.loop-out.invariant in
    let n = fetched_none kind.Remote mid new _ c.in_default.is c.in_ok-out.ensures.call c.in_ok-out.ensures.added in
    cleared_of kind.Remote s mid new c.loop-out.moved i.errands n.next n.stays c.in_ok-out.ensures.work.team

pub returns-clause-completed : goal.returns-clause-completed
returns-clause-completed g c =
    let s = state g.S.Session c.args.cells.now in
    let mid = state g.S.Session c.loop-out.cells in
    let new = state g.S.Session c.fetch.new.self in
    let n = fetched_none kind.Remote mid new _ c.in_default.is c.in_ok-out.ensures.call c.in_ok-out.ensures.added in
    subst (λ h. CompletedCallsBy s.setting s.history h (g.L.Link.told c.args.link.now) (g.L.Link.told c.loop-out.link))
    (sym (same_history mid new n.stays)) c.loop-out.invariant.completed

pub returns-clause-noted : goal.returns-clause-noted
returns-clause-noted g c =
    let s = state g.S.Session c.args.cells.now in
    let mid = state g.S.Session c.loop-out.cells in
    let new = state g.S.Session c.fetch.new.self in
    let n = fetched_none kind.Remote mid new _ c.in_default.is c.in_ok-out.ensures.call c.in_ok-out.ensures.added in
    λ noted so. subst (λ h. NotedSoFar s.setting h noted) (sym (same_history mid new n.stays))
    (c.loop-out.invariant.noted noted so)

pub returns-in_err-out-clause-program : goal.returns-in_err-out-clause-program
returns-in_err-out-clause-program g c = c.fetch.ensures.program ∙ c.loop-out.invariant.program

pub returns-in_err-outcome-clause-program : goal.returns-in_err-outcome-clause-program
returns-in_err-outcome-clause-program g c = c.fetch.ensures.program ∙ c.loop-out.invariant.program

pub returns-in_err-answered-clause-program : goal.returns-in_err-answered-clause-program
returns-in_err-answered-clause-program g c =
    c.answered.ensures.program ∙ c.fetch.ensures.program ∙ c.loop-out.invariant.program

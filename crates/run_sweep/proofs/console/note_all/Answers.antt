-- Each call to the console is noted, and its outcome received, before the next is fetched.
use Rattle.std.proofs.Common.{◌∙◌, refl, subst, sym}
use Rattle.jolie_trees.specs.Trees.{root_of, void_tree}
use Rattle.behaviour_tree.specs.declared.words.Outcome.TheVariants as outcome
use Rattle.office_core.specs.declared.outgoing.OutKind.TheVariants as kind
use Rattle.run_theorem.specs.Calls.{Notes}
use Rattle.jsonrpc_calls.specs.Console.{console_line}
use Rattle.run_cells.specs.View.{state}
use Rattle.run_sweep.specs.Swept.{NotesBy, NotesMore, PassedOn, CompletedCallsBy}
use Rattle.run_sweep.proofs.Errands.{errands_none, errands_more, errand_of, fetched_of, fetched_some, fetched_none}
use Rattle.run_sweep.proofs.Errands.{cleared_of, less_of, same_history, noted_more, completed_same}
use Rattle.run_sweep.proofs.Notes.{notes_none, notes_on, notes_mute, failing, passed_none, passed_on, passed_as}
use Rattle.run_sweep.proofs.console.note_all.Goals as goal

pub loop-out-init : goal.loop-out-init
loop-out-init g c =
    let s = state g.S.Session c.args.cells.now in
    record {
      program = refl;
      work = c.requires.work;
      errands = errands_none s.setting kind.Console s c.requires.settled;
      completed = λ now first t. t;
      noted = passed_none g.F.Front.exchanged c.args.front.now (NotesBy s.setting s.history s.history)
          (λ d notes_failed. (notes_none d notes_failed, λ so. so));
    }

pub note-requires-clause-fetched : goal.note-requires-clause-fetched
note-requires-clause-fetched g c =
    let s = state g.S.Session c.args.cells.now in
    let mid = state g.S.Session c.loop-out.cells in
    let one = state g.S.Session c.fetch.new.self in
    let out = c.in-Some.out in
    let i = c.loop-out.invariant in
    let f = fetched_some kind.Console mid one _ out c.in-Some.is c.in_ok-out.ensures.call c.in_ok-out.ensures.added in
    fetched_of kind.Console s mid one out c.loop-out.moved i.errands i.work.team f.next f.stays

pub loop-out-preserved : goal.loop-out-preserved
loop-out-preserved g c =
    let s = state g.S.Session c.args.cells.now in
    let mid = state g.S.Session c.loop-out.cells in
    let one = state g.S.Session c.fetch.new.self in
    let new = state g.S.Session c.note.new.cells in
    let out = c.in-Some.out in
    let i = c.loop-out.invariant in
    let f = fetched_some kind.Console mid one _ out c.in-Some.is c.in_ok-out.ensures.call c.in_ok-out.ensures.added in
    let did = c.in_ok-note.ensures in
    let x = errand_of kind.Console s mid one new out
    (outcome.Value void_tree) c.loop-out.moved i.errands f.next f.stays did.stays (λ _. refl) did.work.team in
    record {
      program = c.note.ensures.program ∙ c.fetch.ensures.program ∙ i.program;
      work = did.work;
      errands = errands_more s.setting kind.Console s mid new out c.loop-out.moved i.errands x;
      completed = λ now. completed_same s.setting s.history mid new out now now x (i.completed now);
      noted = passed_on g.F.Front.exchanged c.args.front.now c.loop-out.front c.note.new.front
          (NotesBy s.setting s.history mid.history) (Notes (console_line (root_of out.value)))
          (NotesBy s.setting s.history new.history)
          i.noted did.noted (notes_mute s.setting s.history mid.history)
          (λ a b d m n. noted_more s.setting s.history mid new out a b d x m n);
    }

pub loop-out-smaller : goal.loop-out-smaller
loop-out-smaller g c =
    let s = state g.S.Session c.args.cells.now in
    let mid = state g.S.Session c.loop-out.cells in
    let one = state g.S.Session c.fetch.new.self in
    let new = state g.S.Session c.note.new.cells in
    let out = c.in-Some.out in
    let i = c.loop-out.invariant in
    let f = fetched_some kind.Console mid one _ out c.in-Some.is c.in_ok-out.ensures.call c.in_ok-out.ensures.added in
    let did = c.in_ok-note.ensures in
    let x = errand_of kind.Console s mid one new out
    (outcome.Value void_tree) c.loop-out.moved i.errands f.next f.stays did.stays (λ _. refl) did.work.team in
    less_of kind.Console s mid new out i.errands.stays.setting
    (did.stays.setting ∙ f.stays.setting ∙ i.errands.stays.setting) x

pub returns-clause-program : goal.returns-clause-program
returns-clause-program g c = c.fetch.ensures.program ∙ c.loop-out.invariant.program

pub returns-clause-cleared : goal.returns-clause-cleared
returns-clause-cleared g c =
    let s = state g.S.Session c.args.cells.now in
    let mid = state g.S.Session c.loop-out.cells in
    let new = state g.S.Session c.fetch.new.self in
    let i = c.loop-out.invariant in
    let n = fetched_none kind.Console mid new _ c.in_default.is c.in_ok-out.ensures.call c.in_ok-out.ensures.added in
    cleared_of kind.Console s mid new c.loop-out.moved i.errands n.next n.stays c.in_ok-out.ensures.work.team

pub returns-clause-completed : goal.returns-clause-completed
returns-clause-completed g c =
    let s = state g.S.Session c.args.cells.now in
    let mid = state g.S.Session c.loop-out.cells in
    let new = state g.S.Session c.fetch.new.self in
    let n = fetched_none kind.Console mid new _ c.in_default.is c.in_ok-out.ensures.call c.in_ok-out.ensures.added in
    λ now. subst (λ h. CompletedCallsBy s.setting s.history h now now) (sym (same_history mid new n.stays))
    (c.loop-out.invariant.completed now)

pub returns-clause-noted : goal.returns-clause-noted
returns-clause-noted g c =
    let s = state g.S.Session c.args.cells.now in
    let mid = state g.S.Session c.loop-out.cells in
    let new = state g.S.Session c.fetch.new.self in
    let n = fetched_none kind.Console mid new _ c.in_default.is c.in_ok-out.ensures.call c.in_ok-out.ensures.added in
    subst (λ h. PassedOn g.F.Front.exchanged c.args.front.now c.loop-out.front (NotesBy s.setting s.history h))
    (sym (same_history mid new n.stays)) c.loop-out.invariant.noted

pub returns-in_err-out-clause-program : goal.returns-in_err-out-clause-program
returns-in_err-out-clause-program g c = c.fetch.ensures.program ∙ c.loop-out.invariant.program

pub returns-in_err-out-clause-noted : goal.returns-in_err-out-clause-noted
returns-in_err-out-clause-noted g c =
    let s = state g.S.Session c.args.cells.now in
    let mid = state g.S.Session c.loop-out.cells in
    failing _ _ c.from_residual.result c.from_residual.ensures.1
    (passed_as g.F.Front.exchanged c.args.front.now c.loop-out.front (NotesBy s.setting s.history mid.history) NotesMore
    c.loop-out.invariant.noted (λ a b n. n.0))

pub returns-in_err-note-clause-program : goal.returns-in_err-note-clause-program
returns-in_err-note-clause-program g c =
    c.note.ensures.program ∙ c.fetch.ensures.program ∙ c.loop-out.invariant.program

pub returns-in_err-note-clause-noted : goal.returns-in_err-note-clause-noted
returns-in_err-note-clause-noted g c =
    let s = state g.S.Session c.args.cells.now in
    let mid = state g.S.Session c.loop-out.cells in
    failing _ _ c.from_residual-in_err-note.result c.from_residual-in_err-note.ensures.1
    (passed_on g.F.Front.exchanged c.args.front.now c.loop-out.front c.note.new.front
    (NotesBy s.setting s.history mid.history) NotesMore NotesMore c.loop-out.invariant.noted c.in_err-note.ensures.noted
    (notes_mute s.setting s.history mid.history) (λ a b d x y. notes_on a b d x.0 y))

use Rattle.std.proofs.Common.{◌≡◌, ◌<◌, ◌++◌, [], ◌∷◌, ap, refl, subst, sym, true, ◌∙◌, None}
use Rattle.behaviour_tree.specs.PartsView.{parts_of}
use Rattle.office_core.specs.declared.history.Act.TheVariants as act
use Rattle.office_core.specs.declared.history.Placed.TheVariants as at
use Rattle.office_core.specs.Accepted.{accepted_in, handed_in}
use Rattle.office_core.specs.Calls.{kind_of, next_call}
use Rattle.office_core.specs.Legal.{is_acting, placed}
use Rattle.office_plain.specs.Accepting.{with_accepted}
use Rattle.office_plain.specs.Logs as logs
use Rattle.office_plain.specs.Logs.{HasRoom}
use Rattle.office_plain.specs.Ties.{Ties}
use Rattle.office_plain.specs.View.{setting_of, past_in, entries_of, Adds}
use Rattle.office_plain.proofs.Sending.{sending, the_call, acting_runs, seats, send_is, IsNoted}
use Rattle.office_plain.proofs.Whole.{whole_after, still, before}
use Rattle.office_plain.proofs.office.Office.send.Goals as goal

pub place-requires-clause-running : goal.place-requires-clause-running
place-requires-clause-running c =
    let o = c.begin.new.self in
    acting_runs (setting_of o) (past_in o) c.args.session
    (still (λ w p. is_acting w p c.args.session ≡ true) c.args.self.now o c.begin.ensures.same c.requires.acts)

pub note_call-requires : goal.note_call-requires
note_call-requires c =
    let o = c.begin.new.self in
    let acts : is_acting (setting_of o) (past_in o) c.args.session ≡ true =
    still (λ w p. is_acting w p c.args.session ≡ true) c.args.self.now o c.begin.ensures.same c.requires.acts in
    let kept = c.place.new.self.kept in
    subst (λ n. c.args.session < n) (sym kept.places.ok.0)
    (seats (setting_of o) (past_in o)
    (accepted_in (setting_of o) (past_in o) (sending c.args.session c.args.call c.args.port c.args.op c.args.value c.args.wants c.in_ok-placed.placed))
    c.args.session kept acts (c.in_ok-placed.ensures.kept c.args.wants))

pub put-requires : goal.put-requires
put-requires c = subst HasRoom (sym c.place.ensures.log) c.in_ok-begin.ensures.room

pub invariant_of-self-2 : goal.invariant_of-self-2
invariant_of-self-2 c =
    let old = c.args.self.now in
    let mid = c.begin.new.self in
    let o = c.place.new.self in
    let s = c.args.session in
    let r = c.in_ok-placed.placed in
    let adds : Adds None mid o = record { program = ap parts_of c.place.ensures.program; entries = ap logs.entries_of c.place.ensures.log } in
    let acts : is_acting (setting_of o) (past_in o) s ≡ true =
    still (λ w p. is_acting w p s ≡ true) mid o adds (still (λ w p. is_acting w p s ≡ true) old mid c.begin.ensures.same c.requires.acts) in
    let next : c.args.call ≡ next_call (past_in o) s =
    still (λ w p. c.args.call ≡ next_call p s) mid o adds (still (λ w p. c.args.call ≡ next_call p s) old mid c.begin.ensures.same c.requires.next) in
    let said : r ≡ placed (setting_of o) (past_in o) (handed_in (setting_of o) (past_in o) s (act.Send c.args.call c.args.port c.args.op c.args.value c.args.wants r)) =
    still (λ w p. r ≡ placed w p (handed_in w p s (act.Send c.args.call c.args.port c.args.op c.args.value c.args.wants r))) mid o adds
    (c.in_ok-placed.ensures.placed c.args.wants) in
    let e = sending s c.args.call c.args.port c.args.op c.args.value c.args.wants r in
    let its_kind : c.kind_of-kind.result ≡ kind_of (setting_of o) (past_in o) (the_call e c.args.call c.args.port c.args.op c.args.value c.args.wants r) =
    still (λ w p. c.kind_of-kind.result ≡ kind_of w p (the_call e c.args.call c.args.port c.args.op c.args.value c.args.wants r)) mid o adds
    (c.kind_of-kind.ensures (the_call e c.args.call c.args.port c.args.op c.args.value c.args.wants r) refl refl) in
    let tied : Ties (setting_of o) (with_accepted (past_in o) (accepted_in (setting_of o) (past_in o) e)) o.kept =
    still (λ w p. Ties w (with_accepted p (accepted_in w p e)) o.kept) mid o adds (c.in_ok-placed.ensures.kept c.args.wants) in
    let noted : IsNoted (the_call e c.args.call c.args.port c.args.op c.args.value c.args.wants r) c.kind_of-kind.result o.kept c.note_call.new.self =
    subst (λ v. IsNoted (the_call e c.args.call c.args.port c.args.op v c.args.wants r) c.kind_of-kind.result o.kept c.note_call.new.self) c.in_ok-copy.ensures
    (record {
      calls = c.in_ok-note_call.ensures.calls;
      outcomes = c.in_ok-note_call.ensures.outcomes;
      places = c.in_ok-note_call.ensures.places;
      console = c.in_ok-note_call.ensures.console;
      remote = c.in_ok-note_call.ensures.remote;
      others = c.note_call.ensures.others;
    }) in
    let sent = send_is (setting_of o) (entries_of o) s c.args.call c.args.port c.args.op c.args.value c.args.wants r c.kind_of-kind.result o.kept c.note_call.new.self
    o.legal acts next said its_kind tied noted in
    let whole = whole_after o c.put.new.self e c.note_call.new.self c.put.ensures.entries c.put.ensures.kept refl refl sent.legal sent.tied in
    record { legal = whole.legal; places = whole.places; closing = whole.closing; tied = λ h. whole.tied }

pub returns-clause-added : goal.returns-clause-added
returns-clause-added c =
    let old = c.args.self.now in
    let mid = c.begin.new.self in
    let s = c.args.session in
    let r = c.in_ok-placed.placed in
    let said : r ≡ placed (setting_of old) (past_in old) (handed_in (setting_of old) (past_in old) s (act.Send c.args.call c.args.port c.args.op c.args.value c.args.wants at.Out)) =
    before (λ w p. r ≡ placed w p (handed_in w p s (act.Send c.args.call c.args.port c.args.op c.args.value c.args.wants at.Out))) old mid c.begin.ensures.same
    (c.in_ok-placed.ensures.placed c.args.wants) in
    let same : logs.entries_of c.place.new.self.log ≡ entries_of old = ap logs.entries_of c.place.ensures.log ∙ c.begin.ensures.same.entries in
    record {
      program = ap parts_of c.place.ensures.program ∙ c.begin.ensures.same.program;
      entries = c.put.ensures.entries
          ∙ (λ i. same i ++ sending s c.args.call c.args.port c.args.op c.args.value c.args.wants (said i) ∷ []);
    }

use Rattle.std.proofs.Common.{◌≡◌, ◌++◌, [], ◌∷◌, ap, refl, subst, sym, true, ◌∙◌, None}
use Rattle.behaviour_tree.specs.PartsView.{parts_of}
use Rattle.reqresp_book.specs.declared.origin.Origin.TheVariants as origin
use Rattle.office_core.specs.declared.history.Act.TheVariants as act
use Rattle.office_core.specs.Accepted.{message_of}
use Rattle.office_core.specs.Legal.{is_at_work}
use Rattle.office_core.specs.Route.{route, post_reply}
use Rattle.office_plain.specs.Accepting.{with_accepted}
use Rattle.office_plain.specs.Entries.{entry, post_entry}
use Rattle.office_plain.specs.Logs as logs
use Rattle.office_plain.specs.Logs.{HasRoom}
use Rattle.office_plain.specs.Ties.{Ties}
use Rattle.office_plain.specs.View.{setting_of, past_in, entries_of, with_entry, Adds}
use Rattle.office_plain.specs.Ways.{way_view}
use Rattle.office_plain.proofs.Posting.{legal_post, not_port, posted_reply, ties_post, works_runs}
use Rattle.office_plain.proofs.Whole.{whole_after, still, before}
use Rattle.office_plain.proofs.office.Office.post.Goals as goal

pub unreachable-requires : goal.unreachable-requires
unreachable-requires c = not_port c.args.origin c.requires.port c.in_default.not-Port

pub accepted-requires-clause-running : goal.accepted-requires-clause-running
accepted-requires-clause-running c =
    let o = c.begin.new.self in
    works_runs (past_in o) c.args.actor (still (λ w p. is_at_work p c.args.actor ≡ true) c.args.self.now o c.begin.ensures.same c.requires.worker)

pub put-requires : goal.put-requires
put-requires c = subst HasRoom (sym c.accepted.ensures.log) c.in_ok-begin.ensures.room

pub invariant_of-self : goal.invariant_of-self
invariant_of-self c =
    let old = c.args.self.now in
    let mid = c.begin.new.self in
    let o = c.accepted.new.self in
    let q = c.args.posted in
    let adds : Adds None mid o = record { program = ap parts_of c.accepted.ensures.program; entries = ap logs.entries_of c.accepted.ensures.log } in
    let works : is_at_work (past_in o) c.args.actor ≡ true =
    still (λ w p. is_at_work p c.args.actor ≡ true) mid o adds (still (λ w p. is_at_work p c.args.actor ≡ true) old mid c.begin.ensures.same c.requires.worker) in
    let said : c.reply_of-reply.result ≡ post_reply (past_in o) (route (setting_of o) (past_in o) q) =
    still (λ w p. c.reply_of-reply.result ≡ post_reply p (route w p q)) mid o adds
    (c.reply_of-reply.ensures ∙ posted_reply (past_in mid) (way_view c.in_ok-way.way) c.in_ok-accepted.field-0 c.in_ok-accepted.ensures.placed
    ∙ ap (post_reply (past_in mid)) c.in_ok-way.ensures) in
    let e = entry c.args.actor (act.Post c.in-Port.posting c.in-Port.index q c.reply_of-reply.result) in
    let kept : Ties (setting_of o) (with_accepted (past_in o) (message_of (setting_of o) (past_in o) (origin.Port c.in-Port.posting c.in-Port.index) q)) o.kept =
    still (λ w p. Ties w (with_accepted p (message_of w p (origin.Port c.in-Port.posting c.in-Port.index) q)) o.kept) mid o adds
    c.in_ok-accepted.ensures.kept in
    let whole = whole_after o c.put.new.self e o.kept c.put.ensures.entries c.put.ensures.kept refl refl
    (legal_post (setting_of o) (past_in o) c.args.actor c.in-Port.posting c.in-Port.index q c.reply_of-reply.result works said)
    (ties_post (setting_of o) (past_in o) c.args.actor c.in-Port.posting c.in-Port.index q c.reply_of-reply.result o.kept kept) in
    record { legal = whole.legal; places = whole.places; closing = whole.closing; tied = λ h. whole.tied }

pub returns-clause-reply : goal.returns-clause-reply
returns-clause-reply c =
    let mid = c.begin.new.self in
    before (λ w p. c.reply_of-reply.result ≡ post_reply p (route w p c.args.posted)) c.args.self.now mid c.begin.ensures.same
    (c.reply_of-reply.ensures ∙ posted_reply (past_in mid) (way_view c.in_ok-way.way) c.in_ok-accepted.field-0 c.in_ok-accepted.ensures.placed
    ∙ ap (post_reply (past_in mid)) c.in_ok-way.ensures)

pub returns-clause-added : goal.returns-clause-added
returns-clause-added c =
    let old = c.args.self.now in
    let e = entry c.args.actor (act.Post c.in-Port.posting c.in-Port.index c.args.posted c.reply_of-reply.result) in
    let same : logs.entries_of c.accepted.new.self.log ≡ entries_of old = ap logs.entries_of c.accepted.ensures.log ∙ c.begin.ensures.same.entries in
    record {
      program = ap parts_of c.accepted.ensures.program ∙ c.begin.ensures.same.program;
      entries = c.put.ensures.entries ∙ ap (λ es. es ++ e ∷ []) same
          ∙ sym (ap (λ from. with_entry (entries_of old) (post_entry c.args.actor from c.args.posted c.reply_of-reply.result)) c.in-Port.is);
    }

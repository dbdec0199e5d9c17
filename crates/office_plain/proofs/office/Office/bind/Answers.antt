use Rattle.std.proofs.Common.{◌≡◌, ◌++◌, [], ◌∷◌, true, Some, ap, refl, sym, ◌∙◌}
use Rattle.correlation.specs.Sessions.{changed, write, if_bound, reply_to}
use Rattle.correlation.specs.View.{sessions_of}
use Rattle.office_core.specs.declared.history.Act.TheVariants as act
use Rattle.office_core.specs.Legal.{is_acting, has_variable, bound}
use Rattle.office_plain.specs.Entries.{entry}
use Rattle.office_plain.proofs.Acting.{acting_lives}
use Rattle.office_plain.specs.View.{setting_of, past_in}
use Rattle.office_plain.proofs.Binding.{bound_is, legal_bind, ties_bind, ties_unbound}
use Rattle.office_plain.proofs.Ending.{keyed_live}
use Rattle.office_plain.proofs.Whole.{whole_after, still, before}
use Rattle.office_plain.proofs.office.Office.bind.Goals as goal

pub bind-requires : goal.bind-requires
bind-requires c =
    let o = c.begin.new.self in
    let s = c.args.session in
    let acts = still (λ v p. is_acting v p s ≡ true) c.args.self.now o c.begin.ensures.same c.requires.acts in
    keyed_live (setting_of o) (past_in o) s o.kept (o.tied c.in_ok-begin.ensures.ready) acts

pub invariant_of-self : goal.invariant_of-self
invariant_of-self c =
    let o = c.begin.new.self in
    record {
      legal = o.legal;
      places = o.places;
      closing = o.closing;
      tied = λ h. ties_unbound (setting_of o) (past_in o) o.kept c.bind.new.self (o.tied h) c.in_err-reply.ensures.err;
    }

pub invariant_of-self-2 : goal.invariant_of-self-2
invariant_of-self-2 c =
    let old = c.args.self.now in
    let o = c.begin.new.self in
    let w = setting_of o in
    let past = past_in o in
    let s = c.args.session in
    let v = c.args.variable in
    let x = c.args.value in
    let r = c.in_ok-reply.reply in
    let rows = c.bind.new.self in
    let same = c.begin.ensures.same in
    let t = o.tied c.in_ok-begin.ensures.ready in
    let acts = still (λ u p. is_acting u p s ≡ true) old o same c.requires.acts in
    let has_it = still (λ u p. has_variable u p s v ≡ true) old o same c.requires.has in
    let answered = ap (reply_to (sessions_of o.kept.rows) s v) (sym c.in_ok-copy.ensures) ∙ c.in_ok-reply.ensures.reply in
    let bound_so = bound_is w past s v x o.kept r t (acting_lives w past s acts) has_it answered in
    let changes = c.in_ok-reply.ensures.ok ∙ ap (λ y. if_bound r (changed s (write v y) (sessions_of o.kept.rows)) (sessions_of o.kept.rows)) c.in_ok-copy.ensures in
    let whole = whole_after o c.put.new.self (entry s (act.Bind v x r)) (record o.kept { rows = rows })
    c.put.ensures.entries c.put.ensures.kept refl refl
    (legal_bind w past s v x r acts has_it bound_so)
    (ties_bind w past s v x r o.kept rows t changes) in
    record { legal = whole.legal; places = whole.places; closing = whole.closing; tied = λ h. whole.tied }

pub returns-clause-reply : goal.returns-clause-reply
returns-clause-reply c =
    let old = c.args.self.now in
    let o = c.begin.new.self in
    let w = setting_of o in
    let past = past_in o in
    let s = c.args.session in
    let v = c.args.variable in
    let x = c.args.value in
    let r = c.in_ok-reply.reply in
    let same = c.begin.ensures.same in
    let t = o.tied c.in_ok-begin.ensures.ready in
    let acts = still (λ u p. is_acting u p s ≡ true) old o same c.requires.acts in
    let has_it = still (λ u p. has_variable u p s v ≡ true) old o same c.requires.has in
    let answered = ap (reply_to (sessions_of o.kept.rows) s v) (sym c.in_ok-copy.ensures) ∙ c.in_ok-reply.ensures.reply in
    before (λ u p. Some r ≡ bound u p s v x) old o same (bound_is w past s v x o.kept r t (acting_lives w past s acts) has_it answered)

pub returns-clause-added : goal.returns-clause-added
returns-clause-added c =
    let same = c.begin.ensures.same in
    record {
      program = same.program;
      entries = c.put.ensures.entries ∙ ap (λ es. es ++ entry c.args.session (act.Bind c.args.variable c.args.value c.in_ok-reply.reply) ∷ []) same.entries;
    }

use Rattle.std.proofs.Common.{◌≡◌, true, Some, get_or, sym, ap, subst, ◌∙◌, is_some}
use Rattle.std.proofs.lemmas.List.{get_or_default}
use Rattle.std.proofs.lemmas.Result.{IfOk-weaker}
use Rattle.correlation.specs.Index.{has_key}
use Rattle.correlation.specs.Sessions.{are_sets, completed, if_bound, reply_by, value_of, write}
use Rattle.correlation.specs.declared.session.Session.{Session}
use Rattle.correlation.specs.declared.session.Written.{Written}
use Rattle.correlation.proofs.Mirrored.{IsBound, bound_number, bound_sessions, bound_sets, live_at, mirrored_bound, numbered_set, reply_unwritten, reply_written, sets_at, sets_set}
use Rattle.correlation.proofs.Writing.{nothing}
use Rattle.correlation.proofs.rows.Rows.bind.Goals as goal

pub returns-then-has-clause-reply : goal.returns-then-has-clause-reply
returns-then-has-clause-reply c =
    let old = c.args.self.now in
    let placed = c.place_of-place.ensures in
    let s = c.index.result.now in
    let has = ap (λ (t : Session). is_some (value_of t.written c.args.variable)) (sym c.index.ensures) ∙ sym c.if-has.ensures in
    reply_written old.sessions.items c.place_of-place.result c.args.session c.args.variable c.args.value s old.numbers placed.within (placed.number s) has

pub bound-requires-clause-live : goal.bound-requires-clause-live
bound-requires-clause-live c =
    let old = c.args.self.now in
    let placed = c.place_of-place.ensures in
    let s = c.index_mut.result.now in
    ap (λ (t : Session). t.released) c.index_mut.ensures.value
    ∙ live_at old.sessions.items c.place_of-place.result c.args.session s old.numbers placed.within (placed.number s) c.requires

pub bound-requires-clause-sets : goal.bound-requires-clause-sets
bound-requires-clause-sets c =
    let old = c.args.self.now in
    ap (λ (t : Session). are_sets t.sets) c.index_mut.ensures.value
    ∙ sets_at old.sessions.items c.place_of-place.result c.index_mut.result.now c.place_of-place.ensures.within old.sets

pub invariant_of-self : goal.invariant_of-self
invariant_of-self c =
    let old = c.args.self.now in
    let sets = old.index.sets.items in
    let new = c.bound.new.index.sets.items in
    let ss = old.sessions.items in
    let i = c.place_of-place.result in
    let l = c.place_of-place.ensures.within in
    let d = c.index.result.now in
    let t = c.bound.new.session in
    let w : Written = record { variable = c.args.variable; value = c.args.value } in
    let here = c.index_mut.ensures.value ∙ get_or_default ss i c.index_mut.result.now d l in
    let bound : IsBound sets new w c.index_mut.result.now t c.bound.result = record { reply = c.bound.ensures.reply; ok = c.bound.ensures.ok; err = c.bound.ensures.err; keys = c.bound.ensures.keys } in
    let b = subst (λ s. IsBound sets new w s t c.bound.result) here bound in
    let unwritten = ap (λ (s : Session). value_of s.written c.args.variable) (sym c.index.ensures) ∙ nothing (value_of d.written c.args.variable) (sym c.if-has.ensures) in
    record {
      mirrors = mirrored_bound sets new ss i w d t c.bound.result old.mirrors l (sets_at ss i d l old.sets) unwritten b;
      numbers = numbered_set ss i t d (bound_number sets new w (get_or ss i d) t c.bound.result b) old.numbers;
      sets = sets_set ss i t d (bound_sets sets new w (get_or ss i d) t c.bound.result b) old.sets;
    }

pub returns-clause-reply : goal.returns-clause-reply
returns-clause-reply c =
    let old = c.args.self.now in
    let sets = old.index.sets.items in
    let ss = old.sessions.items in
    let i = c.place_of-place.result in
    let placed = c.place_of-place.ensures in
    let m = c.index_mut.result.now in
    let d = c.index.result.now in
    let here = c.index_mut.ensures.value ∙ get_or_default ss i m d placed.within in
    let unwritten = ap (λ (s : Session). value_of s.written c.args.variable) (sym c.index.ensures) ∙ nothing (value_of d.written c.args.variable) (sym c.if-has.ensures) in
    let reply = reply_unwritten sets ss i c.args.session c.args.variable c.args.value d old.mirrors old.numbers placed.within (placed.number d) unwritten in
    IfOk-weaker c.bound.result _ _ (λ r h. reply ∙ ap Some (ap (λ s. reply_by (has_key sets (completed s c.args.variable c.args.value))) (sym here) ∙ sym h)) c.bound.ensures.reply

pub returns-clause-ok : goal.returns-clause-ok
returns-clause-ok c =
    let old = c.args.self.now in
    let ss = old.sessions.items in
    let i = c.place_of-place.result in
    let placed = c.place_of-place.ensures in
    let m = c.index_mut.result.now in
    let d = c.index.result.now in
    let here = c.index_mut.ensures.value ∙ get_or_default ss i m d placed.within in
    let w : Written = record { variable = c.args.variable; value = c.args.value } in
    IfOk-weaker c.bound.result _ _
    (λ r h. bound_sessions ss i c.args.session w d c.bound.new.session r old.numbers placed.within (placed.number d)
    (h ∙ ap (λ s. if_bound r (write c.args.variable c.args.value s) s) here))
    c.bound.ensures.ok

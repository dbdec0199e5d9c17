-- What is kept of sessions answers Bound to the first values of a session.
use Rattle.std.proofs.Common.{◌≡◌, [], ◌∷◌, ◌++◌, sym, ap, subst, ◌∙◌, Some}
use Rattle.correlation.specs.declared.bind_reply.BindReply.TheVariants as reply
use Rattle.correlation.specs.Sessions.{reply_to}
use Rattle.office_core.specs.Limits.{run_of}
use Rattle.office_core.specs.Past.{Past}
use Rattle.office_core.specs.Accepted.{past_of}
use Rattle.office_plain.specs.Accepting.{started_with}
use Rattle.office_plain.specs.Kept.{keyed_sessions}
use Rattle.office_plain.proofs.FirstValues.{is_written}
use Rattle.office_laws.specs.Laws.{WritesFirst, first_values}
use Rattle.office_laws.proofs.First.{first_brought, is_started}

pub writes_first : WritesFirst
writes_first parts h kept from q m us x xs legal ties goes starts split =
    let it = is_started (run_of parts) past from q m goes starts in
    ap (λ l. reply_to (l ++ started_with parts m us ∷ []) m.session x.variable x.value) ties.keys
    ∙ subst
    (λ y. first_values (run_of parts) y ≡ us ++ x ∷ xs
    → reply_to (keyed_sessions (run_of parts) past ++ started_with parts y us ∷ []) y.session x.variable x.value
    ≡ Some reply.Bound)
    it.is_it
    (λ g. is_written (run_of parts) past from it.asked it.begun us x xs
    (sym (first_brought (run_of parts) past from it.asked it.begun) ∙ g))
    split
  where
    past : Past
    past = past_of (run_of parts) h

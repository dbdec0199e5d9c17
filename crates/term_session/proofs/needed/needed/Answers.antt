use Rattle.std.proofs.Common.{◌≡◌, ◌∙◌, ℕ, Bool, true, false, Option, None, option_map, if◌then◌else◌, refl, ap, sym}
use Rattle.std.proofs.lemmas.Bool.{false≢true}
use Rattle.std.proofs.lemmas.Result.{IfOk-weaker}
use Rattle.jolie_trees.specs.Data.{Tree}
use Rattle.behaviour_tree.specs.PartsView.{parts_of}
use Rattle.behaviour_tree.specs.declared.words.Given.TheVariants as given
use Rattle.behaviour_tree.specs.declared.words.Need.{Need}
use Rattle.session_calculus.specs.After.{is_finished, seen_by}
use Rattle.session_calculus.specs.Faults.{fault_in}
use Rattle.session_calculus.specs.Names.{main}
use Rattle.session_calculus.specs.Tables.{empty}
use Rattle.session_calculus.specs.Terms.{Fault}
use Rattle.session_calculus.specs.Throw.{throw}
use Rattle.handler_table.specs.View.{table_view}
use Rattle.session_events.specs.Seen as scenes
use Rattle.session_values.specs.declared.actor.Actor.{Actor}
use Rattle.session_forms.specs.View.{term_view}
use Rattle.session_forms.specs.declared.installed.Installed.{Installed}
use Rattle.session_faults.specs.Decisions.{decided, decision_view}
use Rattle.session_faults.specs.declared.decision.Decision.{Decision}
use Rattle.term_session.specs.Asks.{asked_at_end, asked_by_throw, asked_with, needed}
use Rattle.term_session.specs.Configs.{config_view}
use Rattle.term_session.specs.Looks.{looked_view}
use Rattle.term_session.specs.Walks.{failing, looked_in}
use Rattle.term_session.specs.declared.config.Config.{Config}
use Rattle.term_session.proofs.Going.{seen_outermost}
use Rattle.term_session.proofs.Stepping.{asked_thrown}
use Rattle.term_session.proofs.needed.needed.Goals as goal

-- what is asked of a session that goes on
going_on : (ended finished : Bool) (x y z : Option Need) → ended ≡ false → finished ≡ false
    → z ≡ (if ended then x else (if finished then y else z))
going_on false false x y z e h = refl
going_on true finished x y z e h = absurd (false≢true (sym e))
going_on false true x y z e h = absurd (false≢true (sym h))

-- what a fault that was told of asks
asked_of_fault : (a : Actor) (m : Installed) (g : Config) (f : ℕ) (d : Decision) → m.scope ≡ main → table_view m.table ≡ empty
    → g.ended ≡ false → is_finished (term_view g.form.value) ≡ false
    → failing f ≡ looked_in (scenes.seen_by a given.Nothing m g.memory) 0 (term_view g.form.value)
    → ((v : Tree) → decision_view d ≡ decided (throw a.strand (record { name = f; value = v }) 0 (term_view g.form.value)))
    → asked_by_throw (decision_view d) ≡ needed (parts_of a.program.now) a.service (config_view g) a.strand
asked_of_fault a m g f d named bare runs going told goes =
    let s = seen_by (parts_of a.program.now) a.service (config_view g) a.strand given.Nothing in
    let t = term_view g.form.value in
    asked_thrown s t f d (told ∙ ap (λ s. looked_in s 0 t) (seen_outermost a given.Nothing m g named bare)) goes
    ∙ going_on g.ended (is_finished t) None (asked_at_end a.strand) (asked_with s t (fault_in s 0 t)) runs going

pub returns : goal.returns
returns c =
    let a = c.args.actor in
    let g = c.args.config.now in
    let m = c.outermost-around.result in
    let told : failing c.in-Failing.fault ≡ looked_in (scenes.seen_by a given.Nothing m g.memory) 0 (term_view g.form.value) =
    ap looked_view (sym c.in-Failing.is)
    ∙ c.in_ok-look.ensures
    ∙ ap (λ u. looked_in (scenes.seen_by a given.Nothing m g.memory) 0 (term_view u)) c.deref.ensures in
    let goes : (v : Tree) → decision_view c.decided.result ≡ decided (throw a.strand (record { name = c.in-Failing.fault; value = v }) 0 (term_view g.form.value)) = λ v.
    let f : Fault = record { name = c.in-Failing.fault; value = v } in
    c.decided.ensures v ∙ ap (λ u. decided (throw a.strand f 0 (term_view u))) c.deref-in-Failing.ensures in
    let asks = asked_of_fault a m g c.in-Failing.fault c.decided.result c.outermost-around.ensures.scope c.outermost-around.ensures.table c.if-config.false (sym c.is_finished.ensures ∙ c.if-is_finished.false) told goes in
    IfOk-weaker c.needed_by_fault.result (λ n. option_map (λ b. b.value) n ≡ asked_by_throw (decision_view c.decided.result))
    (λ n. option_map (λ b. b.value) n ≡ needed (parts_of a.program.now) a.service (config_view g) a.strand) (λ n e. e ∙ asks) c.needed_by_fault.ensures

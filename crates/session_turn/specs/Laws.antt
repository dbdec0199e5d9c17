-- What holds of every session that is kept.
use Rattle.std.specs.Prelude.{◌≡◌, ℕ, true, false, List, Option, None, Some}
use Rattle.behaviour_tree.specs.declared.words.Event.{Event}
use Rattle.behaviour_tree.specs.declared.words.Given.{Given}
use Rattle.behaviour_tree.specs.Data.{HandlerList, ProgramParts}
use Rattle.behaviour_tree.specs.WellFormed.{is_well_formed}
use Rattle.session_calculus.specs.After.{Config, Done, after}
use Rattle.session_calculus.specs.Runs.{TakenStep, RunsTo}
use Rattle.session_calculus.specs.Compensations.{ScopeId, acting, acting_in, names_scope}
use Rattle.run_record.specs.Agrees.{Agrees}
use Rattle.session_turn.specs.Asking.{may_call}
use Rattle.session_turn.specs.Seen.{Seat}
use Rattle.session_turn.specs.Lives.{Kept, Moment}

-- The events of a session that is kept are a run of its service that ends where the session stands, and agree with the
-- history that the session has seen.
abbrev pub KeptAgrees : Type 0
KeptAgrees =
    (a : Seat) (es : List Event) (now : Moment)
    → Kept a es now → (last : Config) × (now.config ≡ Some last) × Agrees a.setting now.seen a.session es last

-- What an event of a session that is kept asks of the office, the session may ask, where the program is well formed.
abbrev pub MayAsk : Type 0
MayAsk =
    (a : Seat) (es : List Event) (now : Moment) (c : Config) (n : ℕ) (g : Given) (d : Done)
    → is_well_formed a.setting.parts ≡ true → Kept a es now → now.config ≡ Some c
    → after a.setting.parts now.service c n g ≡ Some d
    → may_call a now.seen d.need ≡ true

-- In every run of a service of a well-formed program no handler that a form is to install has a scope name as its key: so
-- what stands under a scope name was put there as `this`, or by a scope that ended.
abbrev pub NamesByThis : Type 0
NamesByThis =
    (parts : ProgramParts) (service : ℕ) (steps : List TakenStep) (last : Config) (n : ℕ) (w : Option ScopeId)
    (list : HandlerList) (q : ℕ)
    → is_well_formed parts ≡ true → RunsTo parts service steps last
    → acting n 0 0 None last.form ≡ acting_in w list → names_scope q list ≡ false

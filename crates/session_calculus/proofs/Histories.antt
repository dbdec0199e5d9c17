-- A session ends only where every request that came in was answered.
use Rattle.std.proofs.Common.{◌≡◌, ℕ, true, false, List, [], ◌∷◌, Some, slice_get, nat_eq, count_by, refl, sym, ap, ◌∙◌, subst}
use Rattle.std.proofs.lemmas.Bool.{false≢true}
use Rattle.behaviour_tree.specs.Data.{ProgramParts, behaviour_of}
use Rattle.session_calculus.specs.After.{Config, first_config}
use Rattle.session_calculus.specs.Open.{open_requests}
use Rattle.session_calculus.specs.Runs.{TakenStep, Leads, start_of}
use Rattle.session_calculus.specs.Laws.{EndsAnswered}
use Rattle.session_calculus.proofs.Options.{OnValue-map, OnValue-all, OnValue-some}
use Rattle.session_calculus.proofs.Endings.{is_event}

-- where a session begins it has not ended
begins-live : (parts : ProgramParts) (service : ℕ) (from : Config) → start_of parts service ≡ Some from → from.ended ≡ false
begins-live parts service from e =
    OnValue-some (λ c. c.ended ≡ false) (start_of parts service) from e
    (OnValue-map (λ c. c.ended ≡ false) (λ s. first_config (behaviour_of s)) (slice_get parts.services service)
    (OnValue-all (λ s. (first_config (behaviour_of s)).ended ≡ false) (slice_get parts.services service) (λ s. refl)))

-- where steps end a session nothing is open
closed-leads : (parts : ProgramParts) (service : ℕ) (from : Config) (steps : List TakenStep) (end : Config)
    → (from.ended ≡ true → open_requests from.form ≡ []) → Leads parts service from steps end → end.ended ≡ true
    → open_requests end.form ≡ []
closed-leads parts service from [] end h w = subst (λ c. c.ended ≡ true → open_requests c.form ≡ []) w h
closed-leads parts service from (s ∷ steps) end h w =
    closed-leads parts service w.0.config steps end
    (λ t. ((is_event parts service from s.event.strand s.gift w.0 w.1).closed t).0) w.3

-- a session ends only where every request that came in was answered
pub ends_answered : EndsAnswered
ends_answered parts service steps end run ended m =
    let live = begins-live parts service run.0 run.1 in
    ap (λ ms. count_by (nat_eq m) ms)
    (closed-leads parts service run.0 steps end (λ t. absurd (false≢true (sym live ∙ t))) run.2 ended)

-- The kinds of notes that are made by one rule, and those of a service.
use Rattle.std.proofs.Common.{◌≡◌, ℕ, ◌<◌, ◌≤◌, List, [], ◌∷◌, ◌++◌, length, flat_map, refl, ap, sym, ◌∙◌, arith}
use Rattle.std.proofs.lemmas.Grind.{flat_map-append}
use Rattle.jolie_ast.specs.declared.service.Service.{Service}
use Rattle.explain_notes.specs.Mentions.{Seen}
use Rattle.explain_notes.specs.Services.{service_mentions}
use Rattle.explain_notes.specs.declared.kind.NoteKind.{NoteKind}
use Rattle.explain_notes.specs.declared.kind.NoteKind.TheVariants as kind
use Rattle.explain_notes.specs.Notes.{Noted, Told, kinds_always, kinds_by_sessions, notes_after, notes_by, notes_for, notes_unmet, service_notes, texts_met}
use Rattle.explain_notes.proofs.Turns.{behind_two}

-- a kind that is noted of names that nothing meets
pub of_the_unmet : (k : NoteKind) (met content : List (List ℕ)) (ms : Seen) → (k ≡ kind.TreeCut → ⊥) → (k ≡ kind.LiteralCut → ⊥) → (k ≡ kind.OwnSocket → ⊥) → (k ≡ kind.Unanswered → ⊥) → (k ≡ kind.CallEndsLoop → ⊥) → (k ≡ kind.NotShared → ⊥) → (k ≡ kind.AnsweredOnce → ⊥)
    → notes_by k met content ms ≡ notes_after k met ms
of_the_unmet kind.Uncaught met content ms tree literal socket unanswered calls shared once = refl
of_the_unmet kind.UncaughtInLoop met content ms tree literal socket unanswered calls shared once = refl
of_the_unmet kind.EndsService met content ms tree literal socket unanswered calls shared once = refl
of_the_unmet kind.EndsLoop met content ms tree literal socket unanswered calls shared once = refl
of_the_unmet kind.CallEndsLoop met content ms tree literal socket unanswered calls shared once = absurd (calls refl)
of_the_unmet kind.Unthrown met content ms tree literal socket unanswered calls shared once = refl
of_the_unmet kind.NothingUndone met content ms tree literal socket unanswered calls shared once = refl
of_the_unmet kind.Unsent met content ms tree literal socket unanswered calls shared once = refl
of_the_unmet kind.OwnSocket met content ms tree literal socket unanswered calls shared once = absurd (socket refl)
of_the_unmet kind.Unset met content ms tree literal socket unanswered calls shared once = refl
of_the_unmet kind.Unread met content ms tree literal socket unanswered calls shared once = refl
of_the_unmet kind.Forgotten met content ms tree literal socket unanswered calls shared once = refl
of_the_unmet kind.TreeCut met content ms tree literal socket unanswered calls shared once = absurd (tree refl)
of_the_unmet kind.LiteralCut met content ms tree literal socket unanswered calls shared once = absurd (literal refl)
of_the_unmet kind.Unanswered met content ms tree literal socket unanswered calls shared once = absurd (unanswered refl)
of_the_unmet kind.NotShared met content ms tree literal socket unanswered calls shared once = absurd (shared refl)
of_the_unmet kind.AnsweredOnce met content ms tree literal socket unanswered calls shared once = absurd (once refl)

-- a kind whose names no text meets
pub met_by_no_text : (t : Told) (k : NoteKind) → (k ≡ kind.Uncaught → ⊥) → (k ≡ kind.UncaughtInLoop → ⊥) → (k ≡ kind.Unthrown → ⊥) → (k ≡ kind.OwnSocket → ⊥) → (k ≡ kind.Unset → ⊥) → (k ≡ kind.NotShared → ⊥)
    → texts_met t k ≡ []
met_by_no_text t kind.Uncaught uncaught many unthrown socket unset shared = absurd (uncaught refl)
met_by_no_text t kind.UncaughtInLoop uncaught many unthrown socket unset shared = absurd (many refl)
met_by_no_text t kind.EndsService uncaught many unthrown socket unset shared = refl
met_by_no_text t kind.EndsLoop uncaught many unthrown socket unset shared = refl
met_by_no_text t kind.CallEndsLoop uncaught many unthrown socket unset shared = refl
met_by_no_text t kind.Unthrown uncaught many unthrown socket unset shared = absurd (unthrown refl)
met_by_no_text t kind.NothingUndone uncaught many unthrown socket unset shared = refl
met_by_no_text t kind.Unsent uncaught many unthrown socket unset shared = refl
met_by_no_text t kind.OwnSocket uncaught many unthrown socket unset shared = absurd (socket refl)
met_by_no_text t kind.Unset uncaught many unthrown socket unset shared = absurd (unset refl)
met_by_no_text t kind.Unread uncaught many unthrown socket unset shared = refl
met_by_no_text t kind.Forgotten uncaught many unthrown socket unset shared = refl
met_by_no_text t kind.TreeCut uncaught many unthrown socket unset shared = refl
met_by_no_text t kind.LiteralCut uncaught many unthrown socket unset shared = refl
met_by_no_text t kind.Unanswered uncaught many unthrown socket unset shared = refl
met_by_no_text t kind.NotShared uncaught many unthrown socket unset shared = absurd (shared refl)
met_by_no_text t kind.AnsweredOnce uncaught many unthrown socket unset shared = refl

-- where no name is met, each name is noted as one that nothing meets
pub where_none_is_met : (k : NoteKind) (met : List (List ℕ)) (ms : Seen) → length met ≤ 0 → notes_unmet k met ms ≡ notes_after k met ms
where_none_is_met k [] ms none = refl
where_none_is_met k (name ∷ met) ms none = absurd (omega (arith, none))

-- where one is, none
pub where_one_is_met : (k : NoteKind) (met : List (List ℕ)) (ms : Seen) → 0 < length met → notes_unmet k met ms ≡ []
where_one_is_met k [] ms one = absurd (omega (arith, one))
where_one_is_met k (name ∷ met) ms one = refl

-- the notes of the kinds that each service has, and of those by its sessions, one after the other
pub one_after_the_other : (t : Told) (s : Service) (ms : Seen) (always kinds : List NoteKind) (p0 p1 p2 : List Noted)
    → ms ≡ service_mentions s → always ≡ kinds_always → kinds ≡ kinds_by_sessions s
    → p1 ≡ p0 ++ flat_map (notes_for t ms) always → p2 ≡ p1 ++ flat_map (notes_for t ms) kinds
    → p2 ≡ p0 ++ service_notes t s
one_after_the_other t s ms always kinds p0 p1 p2 seen every others first second =
    behind_two p0 p1 p2 (flat_map (notes_for t ms) always) (flat_map (notes_for t ms) kinds) first second
    ∙ ap (λ ns. p0 ++ ns) (sym (flat_map-append (notes_for t ms) always kinds))
    ∙ ap (λ ks. p0 ++ flat_map (notes_for t ms) (ks ++ kinds)) every
    ∙ ap (λ ks. p0 ++ flat_map (notes_for t ms) (kinds_always ++ ks)) others
    ∙ ap (λ x. p0 ++ flat_map (notes_for t x) (kinds_always ++ kinds_by_sessions s)) seen

-- A message is accepted: what correlation has of the sessions, and of the one that it starts.
use Rattle.std.proofs.Common.{◌≡◌, ◌≤◌, ◌<◌, ℕ, zero, suc, ◌+◌, Bool, true, false, ◌&&◌, ◌||◌, List, [], ◌∷◌, ◌++◌, length, refl, sym, ap, ◌∙◌, Option, None, Some, option_map, true≢false, zero-add, arith}
use Rattle.std.specs.Prelude.{nat_eq, slice_get, option_and_then, if◌then◌else◌}
use Rattle.std.specs.List.{list_any, filter_map, cons_option}
use Rattle.std.proofs.lemmas.List.Elements.{filter_map-append}
use Rattle.jolie_trees.specs.declared.root.Root.{Root}
use Rattle.behaviour_tree.specs.Data.{OperationPart, ProgramParts}
use Rattle.behaviour_tree.specs.Operations.{operation_at}
use Rattle.correlation.specs.declared.session.Session.{Session}
use Rattle.correlation.specs.declared.session.Written.{Written}
use Rattle.correlation.specs.Sessions.{is_born}
use Rattle.office_core.specs.declared.message.Message.{Message}
use Rattle.office_core.specs.Limits.{Setting}
use Rattle.office_core.specs.Past.{Past}
use Rattle.office_core.specs.Sessions.{births, service_of, has_ended}
use Rattle.office_core.specs.Keys.{first, Variable, value_of, brought_by}
use Rattle.office_core.proofs.Unborn.{IsIdle}
use Rattle.office_plain.specs.SetNumbers.{numbered_sets}
use Rattle.office_plain.specs.Accepting.{with_accepted, if_starts, started, written_by}
use Rattle.office_plain.specs.Kept.{variables_of, written_first, written_in, values_of, keyed, keyed_from, keyed_sessions}
use Rattle.office_plain.proofs.Births.{births_come, none_at_end, unended}
use Rattle.office_plain.proofs.Idle.{unborn_writes}
use Rattle.office_plain.proofs.Lists.{itself, not_eq}
use Rattle.office_plain.proofs.Unseen.{starts_it, NoneStarted}

append_nil : {A : Type 0} (xs : List A) → xs ++ [] ≡ xs
append_nil [] = refl
append_nil (x ∷ xs) = ap (λ l. x ∷ l) (append_nil xs)

-- ---- sessions that were born before

-- what the messages brought a session that the last did not start
brought_stays : (w : Setting) (ms : List Message) (m : Message) (t : ℕ) (v : Variable) → starts_it t m ≡ false
    → filter_map (brought_by w t v) (ms ++ m ∷ []) ≡ filter_map (brought_by w t v) ms
brought_stays w ms m t v h =
    filter_map-append (brought_by w t v) ms (m ∷ [])
    ∙ ap (λ b. filter_map (brought_by w t v) ms ++ cons_option (brought_if b) []) h
    ∙ append_nil (filter_map (brought_by w t v) ms)
  where
    brought_if : Bool → Option Root
    brought_if b =
        if b then option_and_then (λ (o : OperationPart). value_of o.request m.value v)
        (operation_at w.parts m.service m.op) else None

keyed_come : (w : Setting) (past : Past) (m : Message) (t d : ℕ) → starts_it t m ≡ false
    → keyed w (with_accepted past (Some m)) t d ≡ keyed w past t d
keyed_come w past m t d h =
    λ i. record {
      number = t;
      sets = numbered_sets w.parts d;
      written =
          filter_map
          (λ (v : Variable). option_map (λ x. record { variable = v.number; value = x })
          (first (brought_stays w past.messages m t v h i)))
          (variables_of w.parts d)
          ++ filter_map (written_in t) past.entries;
      released = has_ended past t;
    }

keyed_from_come : (w : Setting) (past : Past) (m : Message) (s : ℕ) (ds : List ℕ)
    → ((t : ℕ) → t < s + length ds → starts_it t m ≡ false)
    → keyed_from w (with_accepted past (Some m)) s ds ≡ keyed_from w past s ds
keyed_from_come w past m s [] others = refl
keyed_from_come w past m s (d ∷ ds) others =
    λ i. keyed_come w past m s d (others s (here s (length ds))) i
    ∷ keyed_from_come w past m (suc s) ds (λ t h. others t (later t s (length ds) h)) i
  where
    here : (s l : ℕ) → s < s + suc l
    here s l = omega arith

    later : (t s l : ℕ) → t < suc s + l → t < s + suc l
    later t s l h = omega arith

keyed_from_more : (w : Setting) (past : Past) (s : ℕ) (ds : List ℕ) (d : ℕ)
    → keyed_from w past s (ds ++ d ∷ []) ≡ keyed_from w past s ds ++ keyed w past (s + length ds) d ∷ []
keyed_from_more w past s [] d = ap (λ t. keyed w past t d ∷ []) (same s)
  where
    same : (s : ℕ) → s ≡ s + 0
    same s = omega arith
keyed_from_more w past s (e ∷ ds) d =
    ap (λ l. keyed w past s e ∷ l)
    (keyed_from_more w past (suc s) ds d
    ∙ ap (λ t. keyed_from w past (suc s) ds ++ keyed w past t d ∷ []) (same s (length ds)))
  where
    same : (s l : ℕ) → suc s + l ≡ s + suc l
    same s l = omega arith

-- ---- the session that is started

brought_none : (w : Setting) (ms : List Message) (t : ℕ) (v : Variable) → list_any (starts_it t) ms ≡ false
    → filter_map (brought_by w t v) ms ≡ []
brought_none w [] t v h = refl
brought_none w (m ∷ ms) t v h =
    λ i. cons_option (brought_if (front (starts_it t m) (list_any (starts_it t) ms) h i))
    (brought_none w ms t v (rest (starts_it t m) (list_any (starts_it t) ms) h) i)
  where
    front : (a b : Bool) → (a || b) ≡ false → a ≡ false
    front true b g = g
    front false b g = refl

    rest : (a b : Bool) → (a || b) ≡ false → b ≡ false
    rest true b g = absurd (true≢false g)
    rest false b g = g

    brought_if : Bool → Option Root
    brought_if b =
        if b then option_and_then (λ (o : OperationPart). value_of o.request m.value v)
        (operation_at w.parts m.service m.op) else None

only : (o : Option Root) → first (cons_option o []) ≡ o
only None = refl
only (Some x) = refl

-- what the message brings the session that it starts
brought_now : (w : Setting) (ms : List Message) (m : Message) (o : OperationPart) (v : Variable) → m.starts ≡ true
    → list_any (starts_it m.session) ms ≡ false → operation_at w.parts m.service m.op ≡ Some o
    → first (filter_map (brought_by w m.session v) (ms ++ m ∷ [])) ≡ value_of o.request m.value v
brought_now w ms m o v starts none operation =
    ap first (filter_map-append (brought_by w m.session v) ms (m ∷ []))
    ∙ (λ i. first (brought_none w ms m.session v none i ++ cons_option (brought_by w m.session v m) []))
    ∙ only (brought_by w m.session v m)
    ∙ (λ i. if starts i && itself m.session i
    then option_and_then (λ (p : OperationPart). value_of p.request m.value v) (operation i)
    else None)

keyed_now : (w : Setting) (past : Past) (m : Message) (o : OperationPart) → m.starts ≡ true
    → service_of w past m.session ≡ None → IsIdle w past m.session → NoneStarted w past
    → operation_at w.parts m.service m.op ≡ Some o
    → keyed w (with_accepted past (Some m)) m.session m.service ≡ started w.parts o m
keyed_now w past m o starts unborn idle none operation =
    λ i. record {
      number = m.session;
      sets = numbered_sets w.parts m.service;
      written = written i;
      released = unended w past m.session idle unborn i;
    }
  where
    written : values_of w (with_accepted past (Some m)) m.session m.service
        ≡ filter_map (written_by o.request m.value) (variables_of w.parts m.service)
    written =
        (λ i. filter_map
        (λ (v : Variable). option_map (λ x. record { variable = v.number; value = x })
        (brought_now w past.messages m o v starts (none m.session unborn) operation i))
        (variables_of w.parts m.service)
        ++ unborn_writes w past m.session idle unborn i)
        ∙ append_nil (filter_map (written_by o.request m.value) (variables_of w.parts m.service))

-- ---- all sessions

keys_by : (w : Setting) (past : Past) (m : Message) (o : OperationPart) (b : Bool) → m.starts ≡ b
    → (m.starts ≡ true → m.session ≡ length (births w past)) → IsIdle w past m.session → NoneStarted w past
    → operation_at w.parts m.service m.op ≡ Some o
    → (if b then keyed_sessions w past ++ started w.parts o m ∷ [] else keyed_sessions w past)
    ≡ keyed_sessions w (with_accepted past (Some m))
keys_by w past m o true starts next idle none operation =
    sym (ap (keyed_from w come 0) (births_come w past m true starts)
    ∙ keyed_from_more w come 0 (births w past) m.service
    ∙ (λ i. before i ++ last i ∷ []))
  where
    come : Past
    come = with_accepted past (Some m)

    unborn : service_of w past m.session ≡ None
    unborn = ap (slice_get (births w past)) (next starts) ∙ none_at_end (births w past)

    differ : (t l : ℕ) → t < 0 + l → t ≡ l → ⊥
    differ t l a b = omega arith

    apart : (t : ℕ) → t < 0 + length (births w past) → starts_it t m ≡ false
    apart t less =
        λ i. (starts i && not_eq t m.session (λ e. differ t (length (births w past)) less (e ∙ next starts)) i)

    before : keyed_from w come 0 (births w past) ≡ keyed_sessions w past
    before = keyed_from_come w past m 0 (births w past) apart

    last : keyed w come (0 + length (births w past)) m.service ≡ started w.parts o m
    last =
        ap (λ t. keyed w come t m.service) (zero-add (length (births w past)) ∙ sym (next starts))
        ∙ keyed_now w past m o starts unborn idle none operation
keys_by w past m o false starts next idle none operation =
    sym (ap (keyed_from w (with_accepted past (Some m)) 0)
    (births_come w past m false starts ∙ append_nil (births w past))
    ∙ keyed_from_come w past m 0 (births w past) (λ t less. ap (λ b. b && nat_eq t m.session) starts))

-- what correlation has once the message was accepted
pub keys_come : (w : Setting) (past : Past) (m : Message) (o : OperationPart) (rows : List Session)
    → rows ≡ if_starts m (started w.parts o m) (keyed_sessions w past)
    → (m.starts ≡ true → m.session ≡ length (births w past)) → IsIdle w past m.session → NoneStarted w past
    → operation_at w.parts m.service m.op ≡ Some o
    → rows ≡ keyed_sessions w (with_accepted past (Some m))
keys_come w past m o rows are next idle none operation = are ∙ keys_by w past m o m.starts refl next idle none operation

-- ---- numbers

born_before : (w : Setting) (past : Past) (s : ℕ) (ds : List ℕ) (t : ℕ) → s + length ds ≤ t
    → is_born (keyed_from w past s ds) t ≡ false
born_before w past s [] t h = refl
born_before w past s (d ∷ ds) t h =
    λ i. (not_eq s t (differ s (length ds) t h) i || born_before w past (suc s) ds t (fewer s (length ds) t h) i)
  where
    differ : (s l t : ℕ) → s + suc l ≤ t → s ≡ t → ⊥
    differ s l t a b = omega arith

    fewer : (s l t : ℕ) → s + suc l ≤ t → suc s + l ≤ t
    fewer s l t a = omega arith

-- correlation has no session of the next number
pub next_unborn : (w : Setting) (past : Past) (t : ℕ) → t ≡ length (births w past)
    → is_born (keyed_sessions w past) t ≡ false
next_unborn w past t h = born_before w past 0 (births w past) t (at_end (length (births w past)) t h)
  where
    at_end : (l t : ℕ) → t ≡ l → 0 + l ≤ t
    at_end l t e = omega arith

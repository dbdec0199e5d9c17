-- What the message that starts a session brings of its variables is answered Bound.
use Rattle.std.proofs.Common.{◌≡◌, ◌≢◌, ◌<◌, ℕ, suc, ◌+◌, Bool, true, false, not, ◌&&◌, ◌||◌, List, [], ◌∷◌, ◌++◌, append_assoc, length, map, cond, refl, sym, ap, subst, ◌∙◌, Option, None, Some, is_some, true≢false, arith}
use Rattle.std.specs.Prelude.{nat_eq, slice_get, take, option_and_then, if◌then◌else◌}
use Rattle.std.specs.List.{list_any, filter, filter_map, cons_option}
use Rattle.std.proofs.lemmas.List.Elements.{filter_map-append}
use Rattle.jolie_trees.specs.declared.root.Root.{Root}
use Rattle.behaviour_tree.specs.Conforms.{wide}
use Rattle.behaviour_tree.specs.Data.{OperationPart}
use Rattle.behaviour_tree.specs.Operations.{operation_at}
use Rattle.correlation.specs.declared.bind_reply.BindReply.{BindReply}
use Rattle.correlation.specs.declared.bind_reply.BindReply.TheVariants as reply
use Rattle.correlation.specs.declared.session.Written.{Written}
use Rattle.correlation.specs.Sessions as rows
use Rattle.reqresp_book.specs.declared.origin.Origin.{Origin}
use Rattle.office_core.specs.declared.history.Entry.{Entry}
use Rattle.office_core.specs.declared.message.Message.{Message}
use Rattle.office_core.specs.declared.post.Posted.{Posted}
use Rattle.office_core.specs.Limits.{Setting}
use Rattle.office_core.specs.Past.{Past}
use Rattle.office_core.specs.Sessions.{singles_from, started_by, births, service_of, has_ended, ends}
use Rattle.office_core.specs.Keys.{first, all_there, Variable, sets_of, value_of, are_equal, brought_by, bound_by, written, has_key, session_from, holder}
use Rattle.office_core.specs.Route.{Way, to_session, to_new, refused_for, Asked, asked_of, route}
use Rattle.office_core.specs.Accepted.{message_to, message_on, message_of, past_of, then_one}
use Rattle.office_core.specs.Bound.{sets_with, was_written, written_then, held_in, bind_reply}
use Rattle.office_core.specs.Legal.{IsLegal}
use Rattle.office_core.proofs.Longer.{some_same}
use Rattle.office_core.proofs.Unborn.{unborn_idle}
use Rattle.office_plain.specs.Accepting.{brought, written_into}
use Rattle.office_plain.specs.Kept.{variables_of}
use Rattle.office_plain.proofs.Births.{none_at_end}
use Rattle.office_plain.proofs.Idle.{unborn_writes}
use Rattle.office_plain.proofs.Keyed.{bound_values, or_else, value_of-append}
use Rattle.office_plain.proofs.Lists.{eq_true, itself, none_not_some, not_eq, same_of, turned}
use Rattle.office_plain.proofs.Routing.{is_asked}
use Rattle.office_plain.proofs.Starting.{Begins, has_number, is_first, is_new, is_there, new_unnamed, not_held, session_from_same, starting}
use Rattle.office_plain.proofs.Unseen.{none_started, starts_it}
use Rattle.office_laws.specs.Laws.{AreBound, BindsFirst, first_binding, first_entry, first_values}

-- ---- lists

first_append : {A : Type 0} (xs ys : List A) → first (xs ++ ys) ≡ or_else (first xs) (first ys)
first_append [] ys = refl
first_append (x ∷ xs) ys = refl

first_only : {A : Type 0} (o : Option A) → first (cons_option o []) ≡ o
first_only None = refl
first_only (Some x) = refl

nothing_else : {A : Type 0} (o : Option A) → or_else o None ≡ o
nothing_else None = refl
nothing_else (Some x) = refl

-- none of a list is of a kind of which none is
none_of : {A : Type 0} (is_it : A → Bool) (xs : List A) → ((x : A) → is_it x ≡ false) → list_any is_it xs ≡ false
none_of is_it [] each = refl
none_of is_it (x ∷ xs) each = ap (λ b. b || list_any is_it xs) (each x) ∙ none_of is_it xs each

-- where each that is of a kind gives nothing, these give nothing
none_given : {A B : Type 0} (f : A → Option B) (p : A → Bool) (xs : List A)
    → ((i : ℕ) (x : A) → slice_get xs i ≡ Some x → p x ≡ true → f x ≡ None) → filter_map f (filter p xs) ≡ []
none_given f p [] each = refl
none_given f p (x ∷ xs) each = by (p x) refl (none_given f p xs (λ i. each (suc i)))
  where
    by : (b : Bool) → p x ≡ b → filter_map f (filter p xs) ≡ []
        → filter_map f (cond b (x ∷ filter p xs) (filter p xs)) ≡ []
    by true e rest = λ i. cons_option (each 0 x refl e i) (rest i)
    by false e rest = rest

-- ---- what happened once some values are bound

-- some values of a session are bound, and nothing else happened
record Binds (w : Setting) (past now : Past) (s : ℕ) (us : List Written) : Type 0 where
  messages : now.messages ≡ past.messages
  ended : (t : ℕ) → has_ended now t ≡ has_ended past t
  others : (t : ℕ) (v : Variable) → t ≢ s → written w now t v ≡ written w past t v
  own : (v : Variable) → written w now s v ≡ rows.value_of us v.number

-- what a variable has once one value more is bound
written_more : (w : Setting) (now : Past) (m : Message) (x : Written) (t : ℕ) (v : Variable)
    → written w (then_one w now (first_entry m x)) t v
    ≡ or_else (written w now t v) (bound_by t v.number (first_entry m x))
written_more w now m x t v =
    ap (λ l. first (brought ++ l)) (filter_map-append (bound_by t v.number) now.entries (first_entry m x ∷ []))
    ∙ ap first (sym (append_assoc brought before (cons_option (bound_by t v.number (first_entry m x)) [])))
    ∙ first_append (brought ++ before) (cons_option (bound_by t v.number (first_entry m x)) [])
    ∙ ap (λ o. or_else (written w now t v) o) (first_only (bound_by t v.number (first_entry m x)))
  where
    brought : List Root
    brought = filter_map (brought_by w t v) now.messages

    before : List Root
    before = filter_map (bound_by t v.number) now.entries

binds_more : (w : Setting) (past now : Past) (m : Message) (us : List Written) (x : Written)
    → Binds w past now m.session us → Binds w past (then_one w now (first_entry m x)) m.session (us ++ x ∷ [])
binds_more w past now m us x b = record {
  messages = b.messages;
  ended = λ t. some_same w now (first_entry m x) (ends t) refl ∙ b.ended t;
  others = λ t v apart.
      written_more w now m x t v
      ∙ ap (λ c. or_else (written w now t v) (if c && nat_eq v.number x.variable then Some x.value else None))
      (not_eq t m.session apart)
      ∙ nothing_else (written w now t v)
      ∙ b.others t v apart;
  own = λ v.
      written_more w now m x m.session v
      ∙ (λ i. or_else (b.own v i) (if itself m.session i && nat_eq v.number x.variable then Some x.value else None))
      ∙ ap (λ c. or_else (rows.value_of us v.number) (if c then Some x.value else None)) (turned v.number x.variable)
      ∙ sym (value_of-append us (x ∷ []) v.number);
}

brought_none : (w : Setting) (ms : List Message) (t : ℕ) (v : Variable) → list_any (starts_it t) ms ≡ false
    → filter_map (brought_by w t v) ms ≡ []
brought_none w [] t v h = refl
brought_none w (m ∷ ms) t v h =
    λ i. cons_option (brought_if (front (starts_it t m) (list_any (starts_it t) ms) h i))
    (brought_none w ms t v (rest (starts_it t m) (list_any (starts_it t) ms) h) i)
  where
    front : (a b : Bool) → (a || b) ≡ false → a ≡ false
    front true b g = g
    front false b g = refl

    rest : (a b : Bool) → (a || b) ≡ false → b ≡ false
    rest true b g = absurd (true≢false g)
    rest false b g = g

    brought_if : Bool → Option Root
    brought_if b =
        if b then option_and_then (λ (o : OperationPart). value_of o.request m.value v)
        (operation_at w.parts m.service m.op) else None

-- nothing is bound of a session that is not born
binds_none : (w : Setting) (h : List Entry) (s : ℕ) → IsLegal w h → s ≡ length (births w (past_of w h))
    → Binds w (past_of w h) (past_of w h) s []
binds_none w h s legal next = record {
  messages = refl;
  ended = λ t. refl;
  others = λ t v apart. refl;
  own = λ v.
      first_append (filter_map (brought_by w s v) past.messages) (filter_map (bound_by s v.number) past.entries)
      ∙ (λ i. or_else (first (brought_none w past.messages s v (none_started w h s unborn) i)) (unbound v i));
}
  where
    past : Past
    past = past_of w h

    unborn : service_of w past s ≡ None
    unborn = ap (slice_get (births w past)) next ∙ none_at_end (births w past)

    unbound : (v : Variable) → first (filter_map (bound_by s v.number) past.entries) ≡ None
    unbound v =
        sym (bound_values s v.number past.entries)
        ∙ ap (λ l. rows.value_of l v.number) (unborn_writes w past s (unborn_idle w h s legal) unborn)

-- ---- who has a key

-- what is bound of a session that is not born gives nobody a key
holder_bound : (w : Setting) (past now : Past) (us : List Written) (d : ℕ) (set : List Variable) (values : List Root)
    → Binds w past now (length (births w past)) us → holder w now d set values ≡ holder w past d set values
holder_bound w past now us d set values b =
    ap (session_from d (has_key w now set values) 0) born
    ∙ session_from_same d (has_key w now set values) (has_key w past set values) 0 (births w past) same_keys
  where
    born : births w now ≡ births w past
    born =
        ap (λ ms. take w.limits.sessions (singles_from 0 w.parts.services) ++ filter_map started_by ms) b.messages

    apart : (t l : ℕ) → t < 0 + l → t ≢ l
    apart t l h e = omega arith

    same_keys : (t : ℕ) → t < 0 + length (births w past) → has_key w now set values t ≡ has_key w past set values t
    same_keys t less =
        λ i. not (b.ended t i)
        && is_there (λ k. are_equal k values)
        (all_there (map (λ v. b.others t v (apart t (length (births w past)) less) i) set))

-- ---- the values of a message

module _ (w : Setting) (past : Past) (from : Origin) (a : Asked) (begun : Begins w past a) where
  -- what the message has of a variable
  brings : (v : Variable)
      → brought_by w (length (births w past)) v (starting w past from a)
      ≡ value_of a.operation.request (wide w.parts.types a.value a.operation.request) v
  brings v =
      λ i. if itself (length (births w past)) i
      then option_and_then
      (λ (o : OperationPart). value_of o.request (wide w.parts.types a.value a.operation.request) v)
      (begun.asked.operation i)
      else None

  -- the first values are what it brings
  pub first_brought : first_values w (starting w past from a) ≡ brought w.parts a.operation (starting w past from a)
  first_brought = λ i. filter_map (λ v. written_into v.number (brings v i)) (variables_of w.parts a.number)

  -- one of the values, which comes behind others
  module _ (us : List Written) (x : Written) (xs : List Written)
      (split : brought w.parts a.operation (starting w past from a) ≡ us ++ x ∷ xs)
      (now : Past) (b : Binds w past now (length (births w past)) us) where
    -- the variable was not written before
    is_fresh : rows.value_of us x.variable ≡ None
    is_fresh = is_first w past from a begun us x xs split

    -- what a variable has once the value is bound
    is_then : (v : Variable)
        → written_then w now (first_binding (starting w past from a) x) v ≡ rows.value_of (us ++ x ∷ []) v.number
    is_then v = by (nat_eq x.variable v.number) refl ∙ sym (value_of-append us (x ∷ []) v.number)
      where
        by : (c : Bool) → nat_eq x.variable v.number ≡ c
            → (if c then Some x.value else written w now (length (births w past)) v)
            ≡ or_else (rows.value_of us v.number) (if c then Some x.value else None)
        by true e =
            ap (λ o. or_else o (Some x.value))
            (sym (ap (rows.value_of us) (sym (eq_true x.variable v.number e)) ∙ is_fresh))
        by false e = b.own v ∙ sym (nothing_else (rows.value_of us v.number))

    -- the variable was not written
    not_written : (v : Variable)
        → (if nat_eq x.variable v.number then is_some (written w now (length (births w past)) v) else false) ≡ false
    not_written v = by (nat_eq x.variable v.number) refl
      where
        by : (c : Bool) → nat_eq x.variable v.number ≡ c
            → (if c then is_some (written w now (length (births w past)) v) else false) ≡ false
        by true e = ap is_some (b.own v ∙ ap (rows.value_of us) (sym (eq_true x.variable v.number e)) ∙ is_fresh)
        by false e = refl

    -- nobody has a key that the value completes
    none_held : (i : ℕ) (set : List Variable) → slice_get (sets_of a.service) i ≡ Some set
        → has_number x.variable set ≡ true
        → held_in w now (first_binding (starting w past from a) x) set ≡ None
    none_held i set at_i has =
        (λ i. option_and_then (holder w now a.number set) (all_there (map (λ v. is_then v i) set)))
        ∙ by (all_there (map (λ v. rows.value_of (us ++ x ∷ []) v.number) set)) refl
      where
        by : (o : Option (List Root)) → all_there (map (λ v. rows.value_of (us ++ x ∷ []) v.number) set) ≡ o
            → option_and_then (holder w now a.number set) o ≡ None
        by None there = refl
        by (Some ys) there =
            holder_bound w past now us a.number set ys b
            ∙ not_held w past from a begun us x xs split i set ys at_i has there

    -- the reply
    is_answered : bind_reply w now (first_binding (starting w past from a) x) ≡ reply.Bound
    is_answered = λ i. answered (written_before i) (first (held_by i))
      where
        answered : Bool → Option ℕ → BindReply
        answered c o = elim c [ true ↦ reply.Fixed | false ↦ elim o [ None ↦ reply.Bound | Some t ↦ reply.Held t ] ]

        written_before : list_any (was_written w now (first_binding (starting w past from a) x))
            (sets_with w a.number x.variable) ≡ false
        written_before =
            none_of (was_written w now (first_binding (starting w past from a) x)) (sets_with w a.number x.variable)
            (λ set. none_of
            (λ v. if nat_eq x.variable v.number then is_some (written w now (length (births w past)) v) else false)
            set not_written)

        held_by : filter_map (held_in w now (first_binding (starting w past from a) x))
            (sets_with w a.number x.variable) ≡ []
        held_by =
            ap (λ o. filter_map (held_in w now (first_binding (starting w past from a) x))
            (elim o [ None ↦ [] | Some d ↦ filter (has_number x.variable) (sets_of d) ])) begun.asked.service
            ∙ none_given (held_in w now (first_binding (starting w past from a) x)) (has_number x.variable)
            (sets_of a.service) none_held

  -- what is left of the values is bound too
  rest_bound : (now : Past) (us xs : List Written) → brought w.parts a.operation (starting w past from a) ≡ us ++ xs
      → Binds w past now (length (births w past)) us → AreBound w now (starting w past from a) xs
  rest_bound now us [] split b = tt
  rest_bound now us (x ∷ xs) split b = (
    is_answered us x xs split now b,
    rest_bound (then_one w now (first_entry (starting w past from a) x)) (us ++ x ∷ []) xs
        (split ∙ sym (append_assoc us (x ∷ []) xs)) (binds_more w past now (starting w past from a) us x b),
  )

-- a message that starts a session asks for an operation of the program, and names no session
pub record Started (w : Setting) (past : Past) (from : Origin) (m : Message) : Type 0 where
  pub asked : Asked
  pub begun : Begins w past asked
  pub is_it : starting w past from asked ≡ m

pub is_started : (w : Setting) (past : Past) (from : Origin) (q : Posted) (m : Message)
    → message_of w past from q ≡ Some m → m.starts ≡ true → Started w past from m
is_started w past from q m goes starts = by (asked_of w q) refl goes
  where
    on : (a : Asked) (way : Way) → asked_of w q ≡ Some a → route w past q ≡ way
        → message_on w past from a way ≡ Some m → Started w past from m
    on a (to_session s) asked e g =
        absurd (true≢false
        (sym starts ∙ ap (λ (y : Message). y.starts) (sym (same_of (message_to w from s false a) m g))))
    on a to_new asked e g =
        record {
          asked = a;
          begun = record { asked = is_asked w q a asked; unnamed = new_unnamed w past q a asked (ap is_new e) };
          is_it = same_of (starting w past from a) m g;
        }
    on a (refused_for why) asked e g = absurd (none_not_some m g)

    by : (o : Option Asked) → asked_of w q ≡ o
        → option_and_then (λ a. message_on w past from a (route w past q)) o ≡ Some m → Started w past from m
    by None asked g = absurd (none_not_some m g)
    by (Some a) asked g = on a (route w past q) asked refl g

pub binds_first : BindsFirst
binds_first w h from q m legal goes starts =
    let it = is_started w (past_of w h) from q m goes starts in
    subst (λ y. AreBound w (past_of w h) y (first_values w y)) it.is_it
    (rest_bound w (past_of w h) from it.asked it.begun (past_of w h) []
    (first_values w (starting w (past_of w h) from it.asked))
    (sym (first_brought w (past_of w h) from it.asked it.begun))
    (binds_none w h (length (births w (past_of w h))) legal refl))

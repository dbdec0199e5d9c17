-- What is kept of sessions answers Bound to what a message brings the session that it starts.
use Rattle.std.proofs.Common.{◌≡◌, ℕ, suc, ◌+◌, Bool, true, false, ◌||◌, List, [], ◌∷◌, ◌++◌, append_assoc, length, map, refl, sym, ap, subst, ◌∙◌, Option, None, Some, option_map, is_some, true≢false, arith}
use Rattle.std.specs.Prelude.{nat_eq, slice_get, option_and_then, unwrap_or, if◌then◌else◌}
use Rattle.std.specs.List.{list_any, cons_option}
use Rattle.std.proofs.lemmas.List.Elements.{filter_map-append}
use Rattle.jolie_trees.specs.declared.root.Root.{Root}
use Rattle.behaviour_tree.specs.Data.{ServicePart}
use Rattle.correlation.specs.declared.bind_reply.BindReply.TheVariants as reply
use Rattle.correlation.specs.declared.key.KeyRow.{KeyRow}
use Rattle.correlation.specs.declared.session.Session.{Session}
use Rattle.correlation.specs.declared.session.SetOf.{SetOf}
use Rattle.correlation.specs.declared.session.Written.{Written}
use Rattle.correlation.specs.Rows.{session_with}
use Rattle.correlation.specs.Sessions.{changed, is_born, key_in, key_of, reply_by, reply_of, reply_to, rows_of, set_with, write}
use Rattle.correlation.specs.Sessions as rows
use Rattle.reqresp_book.specs.declared.origin.Origin.{Origin}
use Rattle.office_core.specs.declared.message.Message.{Message}
use Rattle.office_core.specs.declared.post.Posted.{Posted}
use Rattle.office_core.specs.Limits.{Setting}
use Rattle.office_core.specs.Past.{Past}
use Rattle.office_core.specs.Sessions.{births}
use Rattle.office_core.specs.Keys.{Variable, sets_of}
use Rattle.office_core.specs.Keys as keys
use Rattle.office_core.specs.Accepted.{message_to}
use Rattle.office_core.specs.Route.{Asked, asked_of, route}
use Rattle.office_plain.specs.SetNumbers.{numbered_from, numbered_sets, sets_before}
use Rattle.office_plain.specs.Accepting.{brought, started_with, CanStart, CanWrite}
use Rattle.office_plain.specs.Kept.{keyed_sessions}
use Rattle.office_plain.proofs.Keyed.{all_there_same, holder_is, variables_at}
use Rattle.office_plain.proofs.KeysCome.{next_unborn}
use Rattle.office_plain.proofs.Lists.{eq_true, itself, none_not_some, same_of}
use Rattle.office_plain.proofs.Posting.{way_to}
use Rattle.office_plain.proofs.Routing.{is_asked}
use Rattle.office_plain.proofs.Starting.{Begins, has_number, is_first, is_new, new_unnamed, not_held, starting}

append_nil : {A : Type 0} (xs : List A) → xs ++ [] ≡ xs
append_nil [] = refl
append_nil (x ∷ xs) = ap (λ l. x ∷ l) (append_nil xs)

-- ---- sessions

front : (a b : Bool) → (a || b) ≡ false → a ≡ false
front true b h = h
front false b h = refl

rest : (a b : Bool) → (a || b) ≡ false → b ≡ false
rest true b h = absurd (true≢false h)
rest false b h = h

-- the session behind others that have not its number
session_behind : (ss : List Session) (s : Session) → is_born ss s.number ≡ false
    → rows.session_of (ss ++ s ∷ []) s.number ≡ Some s
session_behind [] s h = ap (λ b. if b then Some s else None) (itself s.number)
session_behind (r ∷ ss) s h =
    ap (λ b. if b then Some r else rows.session_of (ss ++ s ∷ []) s.number)
    (front (nat_eq r.number s.number) (is_born ss s.number) h)
    ∙ session_behind ss s (rest (nat_eq r.number s.number) (is_born ss s.number) h)

-- ---- the set of a variable

has_numbers : (v : ℕ) (vs : List Variable)
    → list_any (nat_eq v) (map (λ (u : Variable). u.number) vs) ≡ has_number v vs
has_numbers v [] = refl
has_numbers v (u ∷ vs) = ap (λ b. nat_eq v u.number || b) (has_numbers v vs)

-- the set that has a variable among sets of variables, the first of which has the number n
record IsSet (v n : ℕ) (sets : List (List Variable)) (t : SetOf) : Type 0 where
  place : ℕ
  first : Variable
  others : List Variable
  there : slice_get sets place ≡ Some (first ∷ others)
  number : t.set ≡ n + place
  has : has_number v (first ∷ others) ≡ true

one_behind : (v n : ℕ) (vs : List Variable) (sets : List (List Variable)) (t : SetOf) → IsSet v (suc n) sets t
    → IsSet v n (vs ∷ sets) t
one_behind v n vs sets t found = record {
  place = suc found.place;
  first = found.first;
  others = found.others;
  there = found.there;
  number = moved t.set n found.place found.number;
  has = found.has;
}
  where
    moved : (m n i : ℕ) → m ≡ suc n + i → m ≡ n + suc i
    moved m n i h = omega arith

set_found : (v n : ℕ) (sets : List (List Variable)) (t : SetOf) → set_with v (numbered_from n sets) ≡ Some t
    → IsSet v n sets t
set_found v n [] t h = absurd (none_not_some t h)
set_found v n ([] ∷ sets) t h = one_behind v n [] sets t (set_found v (suc n) sets t h)
set_found v n ((u ∷ us) ∷ sets) t h =
    by (list_any (nat_eq v) (map (λ (y : Variable). y.number) (u ∷ us))) refl h (set_found v (suc n) sets t)
  where
    own : SetOf
    own = record { set = n; variables = map (λ (y : Variable). y.number) (u ∷ us) }

    zero_more : (m : ℕ) → m ≡ m + 0
    zero_more m = omega arith

    by : (b : Bool) → list_any (nat_eq v) (map (λ (y : Variable). y.number) (u ∷ us)) ≡ b
        → (if b then Some own else set_with v (numbered_from (suc n) sets)) ≡ Some t
        → (set_with v (numbered_from (suc n) sets) ≡ Some t → IsSet v (suc n) sets t)
        → IsSet v n ((u ∷ us) ∷ sets) t
    by true e g later = record {
      place = 0;
      first = u;
      others = us;
      there = refl;
      number = ap (λ (y : SetOf). y.set) (sym (same_of own t g)) ∙ zero_more n;
      has = sym (has_numbers v (u ∷ us)) ∙ e;
    }
    by false e g later = one_behind v n (u ∷ us) sets t (later g)

-- where a variable has nothing, not all are there
not_there : (f : ℕ → Option Root) (v : ℕ) (vs : List Variable) → has_number v vs ≡ true → f v ≡ None
    → rows.all_there (map f (map (λ (u : Variable). u.number) vs)) ≡ None
not_there f v [] has none = absurd (true≢false (sym has))
not_there f v (u ∷ vs) has none = by (nat_eq v u.number) refl has (λ h. not_there f v vs h none)
  where
    numbers : List ℕ
    numbers = map (λ (y : Variable). y.number) vs

    of : (o : Option Root) → rows.all_there (map f numbers) ≡ None → rows.all_there (o ∷ map f numbers) ≡ None
    of None h = refl
    of (Some y) h = ap (option_map (λ l. y ∷ l)) h

    by : (b : Bool) → nat_eq v u.number ≡ b → (b || has_number v vs) ≡ true
        → (has_number v vs ≡ true → rows.all_there (map f numbers) ≡ None)
        → rows.all_there (f u.number ∷ map f numbers) ≡ None
    by true e h later =
        ap (λ o. rows.all_there (o ∷ map f numbers)) (ap f (sym (eq_true v u.number e)) ∙ none)
    by false e h later = of (f u.number) (later h)

-- ---- the reply

module _ (w : Setting) (past : Past) (from : Origin) (a : Asked) (begun : Begins w past a)
    (us : List Written) (x : Written) (xs : List Written)
    (split : brought w.parts a.operation (starting w past from a) ≡ us ++ x ∷ xs) where
  -- the session before the value is written
  abbrev fresh : Session
  fresh = started_with w.parts (starting w past from a) us

  -- what a set of the service has as its variables
  variables_are : (t : SetOf) (set : IsSet x.variable (sets_before w.parts a.number) (sets_of a.service) t)
      → rows.variables_of t.set (numbered_sets w.parts a.number)
      ≡ Some (map (λ (u : Variable). u.number) (set.first ∷ set.others))
  variables_are t set =
      ap (λ o. rows.variables_of t.set
      (unwrap_or (option_map (λ (s : ServicePart). numbered_from (sets_before w.parts a.number) (sets_of s)) o) []))
      begun.asked.service
      ∙ variables_at t.set (sets_before w.parts a.number) set.place (sets_of a.service) set.first set.others set.number
      set.there

  -- the session has no key in it yet
  unfinished : (t : SetOf) → IsSet x.variable (sets_before w.parts a.number) (sets_of a.service) t
      → key_of fresh t.set ≡ None
  unfinished t set =
      ap (option_and_then (λ vs. rows.all_there (map (rows.value_of us) vs))) (variables_are t set)
      ∙ not_there (rows.value_of us) x.variable (set.first ∷ set.others) set.has
      (is_first w past from a begun us x xs split)

  -- nobody has the key that the value completes
  nobody : (t : SetOf) (ys : List Root) → IsSet x.variable (sets_before w.parts a.number) (sets_of a.service) t
      → key_of (write x.variable x.value fresh) t.set ≡ Some ys
      → rows.holder (keyed_sessions w past ++ fresh ∷ []) t.set ys ≡ None
  nobody t ys set there =
      ap (session_with ys)
      (filter_map-append (λ (s : Session). option_map (λ k. record { key = k; session = s.number }) (key_of s t.set))
      (keyed_sessions w past) (fresh ∷ [])
      ∙ ap (λ o. rows_of (keyed_sessions w past) t.set
      ++ cons_option (option_map (λ k. row_of k) o) []) (unfinished t set)
      ∙ append_nil (rows_of (keyed_sessions w past) t.set))
      ∙ ap (λ n. rows.holder (keyed_sessions w past) n ys) set.number
      ∙ holder_is w past a.number set.place a.service set.first set.others ys begun.asked.service set.there
      ∙ not_held w past from a begun us x xs split set.place (set.first ∷ set.others) ys set.there set.has complete
    where
      row_of : List Root → KeyRow
      row_of k = record { key = k; session = length (births w past) }

      complete : keys.all_there (map (λ v. rows.value_of (us ++ x ∷ []) v.number) (set.first ∷ set.others)) ≡ Some ys
      complete =
          sym (all_there_same (rows.value_of (us ++ x ∷ [])) (λ v. rows.value_of (us ++ x ∷ []) v.number)
          (set.first ∷ set.others) (λ j v at_j. refl))
          ∙ sym (ap (option_and_then (λ vs. rows.all_there (map (rows.value_of (us ++ x ∷ [])) vs)))
          (variables_are t set))
          ∙ there

  none_held : rows.held (keyed_sessions w past ++ fresh ∷ []) fresh x.variable x.value ≡ None
  none_held = by (set_with x.variable (numbered_sets w.parts a.number)) refl
    where
      found : (t : SetOf) → set_with x.variable (numbered_sets w.parts a.number) ≡ Some t
          → IsSet x.variable (sets_before w.parts a.number) (sets_of a.service) t
      found t e =
          set_found x.variable (sets_before w.parts a.number) (sets_of a.service) t
          (sym (ap (λ o. set_with x.variable
          (unwrap_or (option_map (λ (s : ServicePart). numbered_from (sets_before w.parts a.number) (sets_of s)) o) []))
          begun.asked.service)
          ∙ e)

      of : (t : SetOf) (o : Option (List Root)) → set_with x.variable (numbered_sets w.parts a.number) ≡ Some t
          → key_of (write x.variable x.value fresh) t.set ≡ o
          → option_and_then (λ (k : rows.SetKey). rows.holder (keyed_sessions w past ++ fresh ∷ []) k.set k.values)
          (key_in t.set o) ≡ None
      of t None e g = refl
      of t (Some ys) e g = nobody t ys (found t e) g

      by : (o : Option SetOf) → set_with x.variable (numbered_sets w.parts a.number) ≡ o
          → option_and_then (λ (k : rows.SetKey). rows.holder (keyed_sessions w past ++ fresh ∷ []) k.set k.values)
          (option_and_then (λ (t : SetOf). key_in t.set (key_of (write x.variable x.value fresh) t.set)) o)
          ≡ None
      by None e = refl
      by (Some t) e = of t (key_of (write x.variable x.value fresh) t.set) e refl

  -- the value is bound
  pub is_written : reply_to (keyed_sessions w past ++ fresh ∷ []) (length (births w past)) x.variable x.value
      ≡ Some reply.Bound
  is_written =
      ap (option_map (λ (s : Session). reply_of (keyed_sessions w past ++ fresh ∷ []) s x.variable x.value))
      (session_behind (keyed_sessions w past) fresh (next_unborn w past (length (births w past)) refl))
      ∙ ap (λ o. Some (if is_some o then reply.Fixed
      else reply_by (rows.held (keyed_sessions w past ++ fresh ∷ []) fresh x.variable x.value)))
      (is_first w past from a begun us x xs split)
      ∙ ap (λ o. Some (reply_by o)) none_held

-- ---- one value after the other

-- the session behind others once a value is written into it
written_behind : (ss : List Session) (s : Session) (v : ℕ) (x : Root) → is_born ss s.number ≡ false
    → changed s.number (write v x) (ss ++ s ∷ []) ≡ ss ++ write v x s ∷ []
written_behind [] s v x h = ap (λ b. (if b then write v x s else s) ∷ []) (itself s.number)
written_behind (r ∷ ss) s v x h =
    λ i. (if front (nat_eq r.number s.number) (is_born ss s.number) h i then write v x r else r)
    ∷ written_behind ss s v x (rest (nat_eq r.number s.number) (is_born ss s.number) h) i

-- what is left of the values can be written too
rest_written : (w : Setting) (past : Past) (from : Origin) (a : Asked) → Begins w past a → (us xs : List Written)
    → brought w.parts a.operation (starting w past from a) ≡ us ++ xs
    → CanWrite (length (births w past))
    (keyed_sessions w past ++ started_with w.parts (starting w past from a) us ∷ []) xs
rest_written w past from a begun us [] split = tt
rest_written w past from a begun us (x ∷ xs) split = (
  is_written w past from a begun us x xs split,
  subst (λ l. CanWrite (length (births w past)) l xs)
      (sym (written_behind (keyed_sessions w past) (started_with w.parts (starting w past from a) us) x.variable x.value
      (next_unborn w past (length (births w past)) refl)))
      (rest_written w past from a begun (us ++ x ∷ []) xs (split ∙ sym (append_assoc us (x ∷ []) xs))),
)

-- what a message brings can be written into the session that it starts
pub can_start : (w : Setting) (past : Past) (from : Origin) (q : Posted) (a : Asked) (s : ℕ) (starts : Bool)
    (m : Message) (sessions : List Session)
    → route w past q ≡ way_to s starts → (starts ≡ true → s ≡ length (births w past)) → asked_of w q ≡ Some a
    → m ≡ message_to w from s starts a → sessions ≡ keyed_sessions w past → CanStart w.parts a.operation m sessions
can_start w past from q a s false m sessions goes next asked is_m tied =
    λ on. absurd (true≢false (sym on ∙ ap (λ (y : Message). y.starts) is_m))
can_start w past from q a s true m sessions goes next asked is_m tied =
    λ on. subst (λ (p : Message × List Session). CanWrite p.0.session (p.1 ++ started_with w.parts p.0 [] ∷ [])
    (brought w.parts a.operation p.0))
    (λ i. (sym named i, sym tied i))
    (rest_written w past from a
    (record { asked = is_asked w q a asked; unnamed = new_unnamed w past q a asked (ap is_new goes) }) []
    (brought w.parts a.operation (starting w past from a)) refl)
  where
    named : m ≡ starting w past from a
    named = is_m ∙ ap (λ n. message_to w from n true a) (next refl)

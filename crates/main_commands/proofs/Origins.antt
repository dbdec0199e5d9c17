-- What is found of an operand has its values from the words, and has one where it was given.
use Rattle.std.specs.Prelude.{◌≡◌, ◌&&◌, ◌+◌, ℕ, Bool, zero, suc, true, false, not, List, [], ◌∷◌, ◌++◌, length, min, Option, Some, None, is_some, if◌then◌else◌, option_and_then, bytes_eq, find, fold, ⊤, refl, IfSome, drop, encode_utf8, slice_get}
use Rattle.std.specs.Str.{chars}
use Rattle.std.specs.List.{AllByRecursion as Each}
use Rattle.std.proofs.Common.{◌∙◌, ap, sym, subst, cond, true≢false}
use Rattle.std.proofs.lemmas.Slice.Eq.{bytes_eq-Decides}
use Rattle.clap.specs.Lexer.{long_of, short_of}
use Rattle.clap.specs.Walk.{Text, Row, Rule, Held, Outcome, Waiting, idle, option, positional, Step, Walk, next, trailing, subcommand, value, done, waits, plain, refused, used, used_as, used_by_id, counted, values_or_missing, settled_rows, settled, reacted, pushed, option_word, plain_word, after_flag, flag_met, long_met, long_or_other, short_or_plain, short_met, bundle, bundle_met, bundle_step, subcommand_or_other, subcommand_met, word_met, to_positional, after_step, walked_from, walked, walk, walk_from, nothing_held, takes_values, arg_by_short, arg_by_long, arg_by_id, arg_by_index, with_default, finished, rows_after, first_of, at_row, without, with_values, with_count, is_pending, takes_several, attached_value, option_met, started, default_rows, reading_by, more_values, new_count, has_short, has_long, action_of, count_of}
use Rattle.clap.specs.declared.builder.action.ArgAction.{ArgAction}
use Rattle.clap.specs.declared.builder.action.ArgAction.TheVariants as does
use Rattle.clap.specs.declared.builder.value_parser.Reading.{Reading}
use Rattle.clap.specs.declared.parser.matches.ValueSource.{ValueSource}
use Rattle.clap.specs.declared.parser.matches.ValueSource.TheVariants.{CommandLine, DefaultValue}
use Rattle.clap.specs.Matches.{count_text}
use Rattle.clap.specs.Facts.{explicit_source}
use Rattle.clap.specs.Takes.{is_given}
use Rattle.std.specs.Option.{option_map_or}
use Rattle.main_commands.proofs.Entered.{each_append}

-- it notes no count of its uses
abbrev pub counts : ArgAction → Bool
counts does.Count = true
counts _ = false

-- the list is empty
abbrev pub has_none : {X : Type 0} → List X → Bool
has_none [] = true
has_none (x ∷ xs) = false

pub cons_nil : {X : Type 0} (x : X) (xs : List X) → x ∷ xs ≡ [] → ⊥
cons_nil x xs e = true≢false (ap has_none (sym e))

-- an argument that is read by its place alone, and has its values from the words alone
abbrev pub is_operand : Rule → Bool
is_operand a = is_some a.index && (has_none a.missing && (has_none a.defaults && not (counts (action_of a))))

-- the argument is another one than that of the id, or is such an operand
abbrev pub fits : Text → Rule → Bool
fits id a = if bytes_eq a.id id then is_operand a else true

pub both_true : (a b : Bool) → (a && b) ≡ true → (a ≡ true) × (b ≡ true)
both_true true b e = (refl, e)
both_true false b e = absurd (true≢false (sym e))

pub nothing_in : {X : Type 0} (xs : List X) → has_none xs ≡ true → xs ≡ []
nothing_in [] e = refl
nothing_in (x ∷ xs) e = absurd (true≢false (sym e))

pub is_no_flag : (b : Bool) → not b ≡ true → b ≡ false
is_no_flag true e = absurd (true≢false (sym e))
is_no_flag false e = refl

pub record IsOperand (a : Rule) : Type 0 where
  pub placed : is_some a.index ≡ true
  pub missing : a.missing ≡ []
  pub defaults : a.defaults ≡ []
  pub uncounted : counts (action_of a) ≡ false

operand_is : (a : Rule) → is_operand a ≡ true → IsOperand a
operand_is a e =
    let first = both_true (is_some a.index) _ e in
    let second = both_true (has_none a.missing) _ first.1 in
    let third = both_true (has_none a.defaults) _ second.1 in
    record {
      placed = first.0;
      missing = nothing_in a.missing second.0;
      defaults = nothing_in a.defaults third.0;
      uncounted = is_no_flag (counts (action_of a)) third.1;
    }

module _ (id : Text) where
  abbrev pub IsFit : Rule → Type 0
  IsFit a = bytes_eq a.id id ≡ true → IsOperand a

  pub fit_is : (a : Rule) → fits id a ≡ true → IsFit a
  fit_is a e same = operand_is a (subst (λ (b : Bool). (if b then is_operand a else true) ≡ true) same e)

-- `P` holds of words, and `Q` of the values that are made of them
module _ (id : Text) (P : Text → Type 0) (Q : List Text → Type 0) (one : (word : Text) → P word → Q (word ∷ [])) (join : (xs ys : List Text) → Q xs → Q ys → Q (xs ++ ys)) where
  abbrev pub HasRow : Row → Type 0
  HasRow r = bytes_eq r.id id ≡ true → Q r.values

  abbrev pub HasRows : List Row → Type 0
  HasRows = Each HasRow

  abbrev pub HasPending : Option (Text × List Text) → Type 0
  HasPending None = ⊤
  HasPending (Some p) = bytes_eq p.0 id ≡ true → Q p.1

  abbrev pub HasHeld : Held → Type 0
  HasHeld h = HasRows h.rows × HasPending h.pending

  -- what is one id is the other
  same_id : (a b : Text) → bytes_eq a b ≡ true → bytes_eq a id ≡ true → bytes_eq b id ≡ true
  same_id a b e f = subst (λ (t : Text). bytes_eq t id ≡ true) ((bytes_eq-Decides a b).0 e) f

  rows_if : (b : Bool) (xs ys : List Row) → (b ≡ true → HasRows xs) → HasRows ys → HasRows (if b then xs else ys)
  rows_if true xs ys a b = a refl
  rows_if false xs ys a b = b

  at_row_has : (rid : Text) (change : Row → List Row) (missing rows : List Row) → ((r : Row) → bytes_eq r.id rid ≡ true → HasRow r → HasRows (change r)) → HasRows missing
      → HasRows rows → HasRows (at_row rid change missing rows)
  at_row_has rid change missing [] changes m h = m
  at_row_has rid change missing (r ∷ rs) changes m h =
      rows_if (bytes_eq r.id rid) (change r ++ rs) (r ∷ at_row rid change missing rs) (λ e. each_append HasRow (change r) rs (changes r e h.0) h.1)
      (h.0, at_row_has rid change missing rs changes m h.1)

  without_has : (rid : Text) (rows : List Row) → HasRows rows → HasRows (without rid rows)
  without_has rid rows h = at_row_has rid (λ _. []) [] rows (λ r e has. tt) tt h

  with_values_has : (rid : Text) (how : Reading) (source : ValueSource) (values : List Text) (rows : List Row) → (bytes_eq rid id ≡ true → Q values) → HasRows rows
      → HasRows (with_values rid how source values rows)
  with_values_has rid how source values rows v h =
      at_row_has rid (more_values source values) (record { id = rid; values = values; count = None; source = Some source; reading = how } ∷ []) rows
      (λ r e has. ((λ same. join r.values values (has same) (v (same_id r.id rid e same))), tt)) (v, tt) h

  with_count_has : (rid : Text) (how : Reading) (source : ValueSource) (n : ℕ) (rows : List Row) → (bytes_eq rid id ≡ true → ⊥) → HasRows rows
      → HasRows (with_count rid how source n rows)
  with_count_has rid how source n rows other h =
      at_row_has rid (new_count source n) (record { id = rid; values = count_text n ∷ []; count = Some n; source = Some source; reading = how } ∷ []) rows
      (λ r e has. ((λ same. absurd (other (same_id r.id rid e same))), tt)) ((λ same. absurd (other same)), tt) h

  counted_has : (rid : Text) (how : Reading) (values : List Text) (rows : List Row) → (bytes_eq rid id ≡ true → ⊥) → HasRows rows → HasRows (counted rid how values rows)
  counted_has rid how [] rows other h = with_count_has rid how CommandLine (min (count_of rid rows + 1) 255) (without rid rows) other (without_has rid rows h)
  counted_has rid how (v ∷ vs) rows other h = with_values_has rid how CommandLine (v ∷ vs) (without rid rows) (λ same. absurd (other same)) (without_has rid rows h)

  used_as_has : (act : ArgAction) (rid : Text) (how : Reading) (values : List Text) (rows : List Row) → (bytes_eq rid id ≡ true → counts act ≡ false)
      → (bytes_eq rid id ≡ true → Q values) → HasRows rows → HasRows (used_as act rid how values rows)
  used_as_has does.Set rid how values rows not_count v h = with_values_has rid how CommandLine values (without rid rows) v (without_has rid rows h)
  used_as_has does.SetTrue rid how values rows not_count v h = with_values_has rid how CommandLine values (without rid rows) v (without_has rid rows h)
  used_as_has does.SetFalse rid how values rows not_count v h = with_values_has rid how CommandLine values (without rid rows) v (without_has rid rows h)
  used_as_has does.Append rid how values rows not_count v h = with_values_has rid how CommandLine values rows v h
  used_as_has does.Count rid how values rows not_count v h = counted_has rid how values rows (λ same. true≢false (not_count same)) h
  used_as_has does.Help rid how values rows not_count v h = h
  used_as_has does.HelpShort rid how values rows not_count v h = h
  used_as_has does.HelpLong rid how values rows not_count v h = h
  used_as_has does.Version rid how values rows not_count v h = h

  filled_has : (a : Rule) (values : List Text) → IsFit id a → (bytes_eq a.id id ≡ true → Q values) → bytes_eq a.id id ≡ true → Q (values_or_missing a values)
  filled_has a [] f v same = subst Q (sym (f same).missing) (v same)
  filled_has a (x ∷ xs) f v same = v same

  used_has : (a : Rule) (values : List Text) (rows : List Row) → IsFit id a → (bytes_eq a.id id ≡ true → Q values) → HasRows rows → HasRows (used a values rows)
  used_has a values rows f v h =
      used_as_has (action_of a) a.id (reading_by a) (values_or_missing a values) rows (λ same. (f same).uncounted) (filled_has a values f v) h

  found_fit : (p : Rule → Bool) (rules : List Rule) → Each (IsFit id) rules → IfSome (find p rules) (λ a. IsFit id a × (p a ≡ true))
  found_fit p [] fit = tt
  found_fit p (a ∷ rest) fit = go (p a) refl (found_fit p rest fit.1)
    where
      go : (b : Bool) → p a ≡ b → IfSome (find p rest) (λ a. IsFit id a × (p a ≡ true)) → IfSome (cond b (Some a) (find p rest)) (λ a. IsFit id a × (p a ≡ true))
      go true e later = (fit.0, e)
      go false e later = later

  -- an argument that is met by its name
  abbrev pub IsNamed : Rule → Type 0
  IsNamed a = IsFit id a × (bytes_eq a.id id ≡ true → ⊥)

  named_is : (has : Rule → Bool) (found : Option Rule) → IfSome found (λ a. IsFit id a × ((not (is_some a.index) && has a) ≡ true)) → IfSome found IsNamed
  named_is has None f = tt
  named_is has (Some a) f =
      (f.0, λ same. true≢false (sym (f.0 same).placed ∙ is_no_flag (is_some a.index) (both_true (not (is_some a.index)) (has a) f.1).0))

  module _ (rules : List Rule) (fit : Each (IsFit id) rules) where
    by_id_has : (found : Option Rule) (rid : Text) → IfSome found (λ a. IsFit id a × (bytes_eq a.id rid ≡ true)) → (values : List Text) (rows : List Row)
        → (bytes_eq rid id ≡ true → Q values) → HasRows rows → HasRows (used_by_id found values rows)
    by_id_has None rid f values rows v h = h
    by_id_has (Some a) rid f values rows v h = used_has a values rows f.0 (λ same. v (same_id a.id rid f.1 same)) h

    settled_rows_has : (pending : Option (Text × List Text)) (rows : List Row) → HasPending pending → HasRows rows → HasRows (settled_rows rules pending rows)
    settled_rows_has None rows p h = h
    settled_rows_has (Some p) rows v h = by_id_has (arg_by_id rules p.0) p.0 (found_fit (λ a. bytes_eq a.id p.0) rules fit) p.1 rows v h

    settled_has : (h : Held) → HasHeld h → HasHeld (settled rules h)
    settled_has h has = (settled_rows_has h.pending h.rows has.1 has.0, tt)

    reacted_has : (a : Rule) → IsNamed a → (values : List Text) (h : Held) → HasHeld h → HasHeld (reacted rules a values h)
    reacted_has a f values h has = (used_has a values (settled rules h).rows f.0 (λ same. absurd (f.1 same)) (settled_has h has).0, tt)

    pending_pushed : (rid word : Text) (pending : Option (Text × List Text)) → P word → HasPending pending
        → HasPending (Some ((started rid pending).0, (started rid pending).1 ++ word ∷ []))
    pending_pushed rid word None w has = λ same. one word w
    pending_pushed rid word (Some p) w has = λ same. join p.1 (word ∷ []) (has same) (one word w)

    pushed_has : (rid word : Text) (h : Held) → P word → HasHeld h → HasHeld (pushed rid word h)
    pushed_has rid word h w has = (has.0, pending_pushed rid word h.pending w has.1)

    option_word_has : (found : Option Rule) (rid word : Text) (h : Held) → P word → HasHeld h → HasHeld (option_word found rid word h).0
    option_word_has None rid word h w has = has
    option_word_has (Some a) rid word h w has = pushed_has rid word h w has

    plain_word_has : (waiting : Waiting) (word : Text) (h : Held) → P word → HasHeld h → HasHeld (plain_word rules waiting word h).0
    plain_word_has idle word h w has = has
    plain_word_has (option rid) word h w has = option_word_has (arg_by_id rules rid) rid word h w has
    plain_word_has positional word h w has = has

    after_flag_has : (waiting : Waiting) (word : Text) (h : Held) (outcome : Outcome) → P word → HasHeld h → HasHeld (after_flag rules waiting word h outcome).0
    after_flag_has waiting word h done w has = has
    after_flag_has waiting word h (waits rid) w has = has
    after_flag_has waiting word h plain w has = plain_word_has waiting word h w has
    after_flag_has waiting word h refused w has = plain_word_has waiting word h w has

    flag_met_has : (a : Rule) → IsNamed a → (v : Option Text) (h : Held) → HasHeld h → HasHeld (flag_met rules a v h).0
    flag_met_has a f (Some v) h has = has
    flag_met_has a f None h has = reacted_has a f [] h has

    option_met_has : (a : Rule) → IsNamed a → (v : Option Text) (h : Held) → HasHeld h → HasHeld (option_met rules a v h).0
    option_met_has a f (Some v) h has = reacted_has a f (v ∷ []) h has
    option_met_has a f None h has = ((settled_has h has).0, λ same. absurd (f.1 same))

    held_if : (b : Bool) (x y : Held × Outcome) → HasHeld x.0 → HasHeld y.0 → HasHeld (if b then x else y).0
    held_if true x y has also = has
    held_if false x y has also = also

    long_met_has : (found : Option Rule) → IfSome found IsNamed → (v : Option Text) (h : Held) → HasHeld h → HasHeld (long_met rules found v h).0
    long_met_has None f v h has = has
    long_met_has (Some a) f v h has = held_if (takes_values a) (option_met rules a v h) (flag_met rules a v h) (option_met_has a f v h has) (flag_met_has a f v h has)

    short_met_has : (found : Option Rule) → IfSome found IsNamed → (rest : Text) (h : Held) (go_on : Held → Held × Outcome) → ((h : Held) → HasHeld h → HasHeld (go_on h).0)
        → HasHeld h → HasHeld (short_met rules found rest h go_on).0
    short_met_has None f rest h go_on n has = has
    short_met_has (Some a) f rest h go_on n has =
        held_if (takes_values a) (option_met rules a (attached_value rest) h) (go_on (reacted rules a [] h)) (option_met_has a f (attached_value rest) h has)
        (n _ (reacted_has a f [] h has))

    bundle_step_has : (first : Option ℕ) (flags : Text) (skip : ℕ) (so_far : Outcome) (h : Held) (go_on : Text → ℕ → Outcome → Held → Held × Outcome)
        → ((flags : Text) (skip : ℕ) (so_far : Outcome) (h : Held) → HasHeld h → HasHeld (go_on flags skip so_far h).0)
        → HasHeld h → HasHeld (bundle_step rules first flags skip so_far h go_on).0
    bundle_step_has None flags skip so_far h go_on n has = has
    bundle_step_has (Some x) flags zero so_far h go_on n has =
        let rest = drop (length (encode_utf8 x)) flags in
        short_met_has (arg_by_short rules x) (named_is (λ a. has_short a x) (arg_by_short rules x) (found_fit (λ a. not (is_some a.index) && has_short a x) rules fit))
        rest h (go_on rest 0 done) (n rest 0 done) has
    bundle_step_has (Some x) flags (suc skip) so_far h go_on n has = n (drop (length (encode_utf8 x)) flags) skip so_far h has

    bundle_met_has : (k : ℕ) (flags : Text) (skip : ℕ) (so_far : Outcome) (h : Held) → HasHeld h → HasHeld (bundle_met rules k flags skip so_far h).0
    unfolding bundle_met
    bundle_met_has zero flags skip so_far h has = has
    bundle_met_has (suc k) flags skip so_far h has =
        bundle_step_has (slice_get (chars flags) 0) flags skip so_far h (bundle_met rules k) (bundle_met_has k) has

    short_or_plain_has : (waiting : Waiting) (word : Text) (flags : Option Text) (h : Held) → P word → HasHeld h → HasHeld (short_or_plain rules waiting word flags h).0
    short_or_plain_has waiting word None h w has = plain_word_has waiting word h w has
    short_or_plain_has waiting word (Some flags) h w has =
        after_flag_has waiting word _ (bundle rules flags h).1 w (bundle_met_has (length flags) flags h.skip plain _ has)

    long_or_other_has : (waiting : Waiting) (word : Text) (long : Option (Text × Option Text)) (h : Held) → P word → HasHeld h
        → HasHeld (long_or_other rules waiting word long h).0
    long_or_other_has waiting word None h w has = short_or_plain_has waiting word (short_of word) h w has
    long_or_other_has waiting word (Some p) h w has =
        let found = arg_by_long rules p.0 in
        after_flag_has waiting word _ (long_met rules found p.1 h).1 w
        (long_met_has found (named_is (λ a. has_long a p.0) found (found_fit (λ a. not (is_some a.index) && has_long a p.0) rules fit)) p.1 h has)

    step_if : (b : Bool) (x y : Held × Step) → HasHeld x.0 → HasHeld y.0 → HasHeld (if b then x else y).0
    step_if true x y hx hy = hx
    step_if false x y hx hy = hy

    subcommand_or_other_has : (entered : Option Text) (waiting : Waiting) (position : ℕ) (word : Text) (h : Held) → P word → HasHeld h
        → HasHeld (subcommand_or_other rules entered waiting position word h).0
    subcommand_or_other_has (Some name) waiting position word h w has = has
    subcommand_or_other_has None waiting position word h w has = step_if _ _ _ has (long_or_other_has waiting word (long_of word) h w has)

    word_met_has : (is_trailing : Bool) (waiting : Waiting) (position : ℕ) (word : Text) (h : Held) → P word → HasHeld h
        → HasHeld (word_met rules [] is_trailing waiting position word h).0
    word_met_has is_trailing waiting position word h w has =
        step_if is_trailing _ _ has (subcommand_or_other_has (subcommand_met [] waiting word) waiting position word h w has)

    one_of_held : (b : Bool) (x y : Held) → HasHeld x → HasHeld y → HasHeld (if b then x else y)
    one_of_held true x y hx hy = hx
    one_of_held false x y hx hy = hy

    to_positional_has : (found : Option Rule) (word : Text) (w : Walk) (h : Held) → P word → HasHeld h → HasHeld (to_positional rules found word w h).held
    to_positional_has None word w h p has = has
    to_positional_has (Some a) word w h p has =
        let held = if is_pending a h.pending && takes_several a then h else settled rules h in
        pushed_has a.id word held p (one_of_held (is_pending a h.pending && takes_several a) h (settled rules h) has (settled_has h has))

    after_step_has : (word : Text) (w : Walk) (h : Held) (step : Step) → P word → HasHeld h → HasHeld (after_step rules word w h step).held
    after_step_has word w h (next waiting) p has = has
    after_step_has word w h (trailing position) p has = has
    after_step_has word w h (subcommand name) p has = has
    after_step_has word w h value p has = to_positional_has (arg_by_index rules w.position) word w h p has

    walked_from_has : (stopped : Option (Text × List Text)) (w : Walk) (word : Text) → P word → HasHeld w.held → HasHeld (walked_from rules [] stopped w word).held
    walked_from_has (Some s) w word p has = has
    walked_from_has None w word p has =
        let met = word_met rules [] w.is_trailing w.waiting w.position word w.held in
        after_step_has word w met.0 met.1 p (word_met_has w.is_trailing w.waiting w.position word w.held p has)

    walked_has : (words : List Text) (w : Walk) → Each P words → HasHeld w.held → HasHeld (fold (walked rules []) w words).held
    unfolding walked
    walked_has [] w p has = has
    walked_has (word ∷ rest) w p has = walked_has rest _ p.1 (walked_from_has w.stopped w word p.0 has)

    default_rows_has : (a : Rule) (values : List Text) (rows : List Row) → (bytes_eq a.id id ≡ true → values ≡ []) → HasRows rows
        → HasRows (default_rows a.id (reading_by a) values rows)
    default_rows_has a [] rows none h = h
    default_rows_has a (x ∷ xs) rows none h = with_values_has a.id (reading_by a) DefaultValue (x ∷ xs) rows (λ same. absurd (cons_nil x xs (none same))) h

    with_default_has : (rows : List Row) (a : Rule) → IsFit id a → HasRows rows → HasRows (with_default rows a)
    with_default_has rows a f has =
        rows_if _ rows _ (λ e. has)
        (default_rows_has a a.defaults rows (λ same. (f same).defaults) has)

    defaults_has : (some : List Rule) (rows : List Row) → Each (IsFit id) some → HasRows rows → HasRows (fold with_default rows some)
    defaults_has [] rows f has = has
    defaults_has (a ∷ rest) rows f has = defaults_has rest (with_default rows a) f.1 (with_default_has rows a f.0 has)

    finished_has : (h : Held) → HasHeld h → HasRows (finished rules h)
    finished_has h has = defaults_has rules (settled rules h).rows fit (settled_has h has).0

    -- each row of the argument of that id has values of the words
    pub rows_have : (words : List Text) → Each P words → HasRows (rows_after rules [] words)
    rows_have words p = finished_has (walk rules [] nothing_held words).held (walked_has words (walk_from nothing_held) p (tt, tt))

-- ---- the first value of an operand

module _ (id : Text) (P : Text → Type 0) (rules : List Rule) (fit : Each (IsFit id) rules) where
  first_value_has : (values : List Text) → Each P values → IfSome (slice_get values 0) P
  first_value_has [] has = tt
  first_value_has (v ∷ vs) has = has.0

  first_has : (rows : List Row) → Each (λ r. bytes_eq r.id id ≡ true → Each P r.values) rows → IfSome (first_of id rows) P
  first_has [] has = tt
  first_has (r ∷ rest) has = go (bytes_eq r.id id) refl (first_has rest has.1)
    where
      go : (b : Bool) → bytes_eq r.id id ≡ b → IfSome (first_of id rest) P
          → IfSome (option_and_then (λ (r : Row). slice_get r.values 0) (cond b (Some r) (find (λ r. bytes_eq r.id id) rest))) P
      go true e later = first_value_has r.values (has.0 e)
      go false e later = later

  -- it is one of the words
  pub first_comes : (words : List Text) → Each P words → IfSome (first_of id (rows_after rules [] words)) P
  first_comes words p =
      first_has (rows_after rules [] words) (rows_have id P (Each P) (λ word w. (w, tt)) (λ xs ys. each_append P xs ys) rules fit words p)

module _ (id : Text) (rules : List Rule) (fit : Each (IsFit id) rules) where
  abbrev pub HasSome : List Text → Type 0
  HasSome values = has_none values ≡ false

  some_joined : (xs ys : List Text) → HasSome xs → HasSome ys → HasSome (xs ++ ys)
  some_joined [] ys a b = b
  some_joined (x ∷ xs) ys a b = refl

  value_there : (values : List Text) → HasSome values → (v : Text) × (slice_get values 0 ≡ Some v)
  value_there [] some = absurd (true≢false some)
  value_there (v ∷ vs) some = (v, refl)

  given_there : (rows : List Row) → Each (λ r. bytes_eq r.id id ≡ true → HasSome r.values) rows → is_given id rows ≡ true → (v : Text) × (first_of id rows ≡ Some v)
  given_there [] has given = absurd (true≢false (sym given))
  given_there (r ∷ rest) has given = go (bytes_eq r.id id) refl (given_there rest has.1) given
    where
      go : (b : Bool) → bytes_eq r.id id ≡ b → (is_given id rest ≡ true → (v : Text) × (first_of id rest ≡ Some v))
          → option_map_or (λ (r : Row). explicit_source r.source) (cond b (Some r) (find (λ r. bytes_eq r.id id) rest)) false ≡ true
          → (v : Text) × (option_and_then (λ (r : Row). slice_get r.values 0) (cond b (Some r) (find (λ r. bytes_eq r.id id) rest)) ≡ Some v)
      go true e later given = value_there r.values (has.0 e)
      go false e later given = later given

  each_word : (words : List Text) → Each (λ _. ⊤) words
  each_word [] = tt
  each_word (word ∷ rest) = (tt, each_word rest)

  -- it is there where the operand was given
  pub first_is_there : (words : List Text) → is_given id (rows_after rules [] words) ≡ true → (v : Text) × (first_of id (rows_after rules [] words) ≡ Some v)
  first_is_there words =
      given_there (rows_after rules [] words) (rows_have id (λ _. ⊤) HasSome (λ word w. refl) some_joined rules fit words (each_word words))

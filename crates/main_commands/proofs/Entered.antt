-- The subcommand that words enter has its name from one of them.
use Rattle.std.specs.Prelude.{◌≡◌, ◌||◌, ℕ, Bool, true, false, List, [], ◌∷◌, ◌++◌, Option, Some, None, if◌then◌else◌, option_map, bytes_eq, find, fold, ⊤, refl, IfSome}
use Rattle.std.specs.List.{AllByRecursion as Each}
use Rattle.std.proofs.Common.{sym, subst, cond}
use Rattle.std.proofs.lemmas.Slice.Eq.{bytes_eq-Decides}
use Rattle.clap.specs.Lexer.{long_of, short_of}
use Rattle.clap.specs.Walk.{Text, Rule, Held, Names, Outcome, Waiting, idle, option, positional, Step, Walk, next, trailing, subcommand, value, done, waits, plain, refused, plain_word, after_flag, long_or_other, short_or_plain, subcommand_or_other, subcommand_met, word_met, to_positional, after_step, walked_from, walked, walk_from, nothing_held, arg_by_index, answers_to, stop_after, long_met, arg_by_long, bundle}

-- what holds of the elements of two lists holds of both together
pub each_append : {X : Type 0} (P : X → Type 0) (xs ys : List X) → Each P xs → Each P ys → Each P (xs ++ ys)
each_append P [] ys a b = b
each_append P (x ∷ xs) ys a b = (a.0, each_append P xs ys a.1 b)

pub answers_is : (word name : Text) (aliases : List Text) → aliases ≡ [] → answers_to word (name, aliases) ≡ true → name ≡ word
answers_is word name aliases none answers = (bytes_eq-Decides name word).0 (or_none (bytes_eq name word) (subst (λ (aliases : List Text). answers_to word (name, aliases) ≡ true) none answers))
  where
    or_none : (b : Bool) → (b || false) ≡ true → b ≡ true
    or_none true e = refl
    or_none false e = e

module _ (P : Text → Type 0) (rules : List Rule) (names : Names) (bare : Each (λ s. s.1 ≡ []) names) where
  abbrev pub HasStop : Option (Text × List Text) → Type 0
  HasStop None = ⊤
  HasStop (Some p) = P p.0 × Each P p.1

  -- a step that enters a subcommand has its name from a word
  abbrev pub HasName : Step → Type 0
  HasName (next waiting) = ⊤
  HasName (trailing position) = ⊤
  HasName (subcommand name) = P name
  HasName value = ⊤

  found_named : (word : Text) (some : Names) → Each (λ s. s.1 ≡ []) some → P word → IfSome (find (answers_to word) some) (λ s. P s.0)
  found_named word [] none p = tt
  found_named word (s ∷ rest) none p = go (answers_to word s) refl (found_named word rest none.1 p)
    where
      go : (b : Bool) → answers_to word s ≡ b → IfSome (find (answers_to word) rest) (λ s. P s.0) → IfSome (cond b (Some s) (find (answers_to word) rest)) (λ s. P s.0)
      go true e later = subst P (sym (answers_is word s.0 s.1 none.0 e)) p
      go false e later = later

  name_of_found : (found : Option (Text × List Text)) → IfSome found (λ s. P s.0) → IfSome (option_map (λ s. s.0) found) P
  name_of_found None h = tt
  name_of_found (Some s) h = h

  met_named : (waiting : Waiting) (word : Text) → P word → IfSome (subcommand_met names waiting word) P
  met_named idle word p = name_of_found (find (answers_to word) names) (found_named word names bare p)
  met_named (option id) word p = tt
  met_named positional word p = tt

  plain_word_named : (waiting : Waiting) (word : Text) (h : Held) → HasName (plain_word rules waiting word h).1
  plain_word_named idle word h = tt
  plain_word_named (option id) word h = tt
  plain_word_named positional word h = tt

  after_flag_named : (waiting : Waiting) (word : Text) (h : Held) (outcome : Outcome) → HasName (after_flag rules waiting word h outcome).1
  after_flag_named waiting word h done = tt
  after_flag_named waiting word h (waits id) = tt
  after_flag_named waiting word h plain = plain_word_named waiting word h
  after_flag_named waiting word h refused = plain_word_named waiting word h

  short_or_plain_named : (waiting : Waiting) (word : Text) (flags : Option Text) (h : Held) → HasName (short_or_plain rules waiting word flags h).1
  short_or_plain_named waiting word None h = plain_word_named waiting word h
  short_or_plain_named waiting word (Some flags) h = after_flag_named waiting word (bundle rules flags h).0 (bundle rules flags h).1

  long_or_other_named : (waiting : Waiting) (word : Text) (long : Option (Text × Option Text)) (h : Held) → HasName (long_or_other rules waiting word long h).1
  long_or_other_named waiting word None h = short_or_plain_named waiting word (short_of word) h
  long_or_other_named waiting word (Some p) h =
      let met = long_met rules (arg_by_long rules p.0) p.1 h in
      after_flag_named waiting word met.0 met.1

  named_if : (b : Bool) (x y : Held × Step) → HasName x.1 → HasName y.1 → HasName (if b then x else y).1
  named_if true x y hx hy = hx
  named_if false x y hx hy = hy

  pub subcommand_or_other_named : (entered : Option Text) (waiting : Waiting) (position : ℕ) (word : Text) (h : Held) → IfSome entered P
      → HasName (subcommand_or_other rules entered waiting position word h).1
  subcommand_or_other_named (Some name) waiting position word h p = p
  subcommand_or_other_named None waiting position word h p =
      named_if (bytes_eq word (45 ∷ 45 ∷ [])) (h, trailing position) (long_or_other rules waiting word (long_of word) h) tt (long_or_other_named waiting word (long_of word) h)

  word_met_named : (is_trailing : Bool) (waiting : Waiting) (position : ℕ) (word : Text) (h : Held) → P word
      → HasName (word_met rules names is_trailing waiting position word h).1
  word_met_named is_trailing waiting position word h p =
      named_if is_trailing (h, value) (subcommand_or_other rules (subcommand_met names waiting word) waiting position word h) tt
      (subcommand_or_other_named (subcommand_met names waiting word) waiting position word h (met_named waiting word p))

  to_positional_stops : (found : Option Rule) (word : Text) (w : Walk) (h : Held) → HasStop w.stopped → HasStop (to_positional rules found word w h).stopped
  to_positional_stops None word w h has = has
  to_positional_stops (Some a) word w h has = tt

  after_step_stops : (word : Text) (w : Walk) (h : Held) (step : Step) → HasName step → HasStop w.stopped → HasStop (after_step rules word w h step).stopped
  after_step_stops word w h (next waiting) p has = has
  after_step_stops word w h (trailing position) p has = has
  after_step_stops word w h (subcommand name) p has = (p, tt)
  after_step_stops word w h value p has = to_positional_stops (arg_by_index rules w.position) word w h has

  walked_from_stops : (stopped : Option (Text × List Text)) (w : Walk) (word : Text) → P word → HasStop stopped → HasStop w.stopped
      → HasStop (walked_from rules names stopped w word).stopped
  walked_from_stops (Some s) w word p has also = (has.0, each_append P s.1 (word ∷ []) has.1 (p, tt))
  walked_from_stops None w word p has also =
      let met = word_met rules names w.is_trailing w.waiting w.position word w.held in
      after_step_stops word w met.0 met.1 (word_met_named w.is_trailing w.waiting w.position word w.held p) also

  walked_stops : (words : List Text) (w : Walk) → Each P words → HasStop w.stopped → HasStop (fold (walked rules names) w words).stopped
  unfolding walked
  walked_stops [] w p has = has
  walked_stops (word ∷ rest) w p has = walked_stops rest (walked_from rules names w.stopped w word) p.1 (walked_from_stops w.stopped w word p.0 has has)

  pub stop_has : (words : List Text) → Each P words → HasStop (stop_after rules names words)
  stop_has words p = walked_stops words (walk_from nothing_held) p tt

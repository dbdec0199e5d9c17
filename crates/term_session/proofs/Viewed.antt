-- What a turn came to in a part of a form is what it came to in the whole.
use Rattle.std.proofs.Common.{◌≡◌, ℕ, ◌+◌, ◌<◌, true, false, ◌||◌, List, take, drop, length, get_or, set, Option, None, Some, refl, sym, ap, ◌∙◌}
use Rattle.std.proofs.lemmas.List.{get_or-set_same}
use Rattle.behaviour_tree.specs.Data.{PathTree, Procs}
use Rattle.session_calculus.specs.Terms.{Term, Strands, done, seq, par, in_scope, exec, prot, no_strands, strand, State, stands_in, is_among}
use Rattle.session_calculus.specs.Moves.{Seen}
use Rattle.session_laws.proofs.Moving.{NotDone}
use Rattle.handler_table.specs.View.{table_view}
use Rattle.session_values.specs.declared.memory.Memory.{Memory}
use Rattle.session_forms.specs.View.{members_view, term_view}
use Rattle.session_forms.specs.declared.installed.Installed.{Installed}
use Rattle.session_forms.specs.declared.term.Strand.{Strand}
use Rattle.session_faults.specs.Places.{StandsFirst, joined}
use Rattle.session_faults.proofs.Positions.{members-split, members-put}
use Rattle.session_faults.proofs.Tests.{left_false, right_false}
use Rattle.term_session.specs.Turns.{seen_at, walked_view}
use Rattle.term_session.specs.Walks.{Walked, stuck, faulted, went, acted_in, acted_among, around, in_scope_around, idle, looked_in, looked_among}
use Rattle.term_session.specs.declared.turn.Turn.{Turn}
use Rattle.term_session.specs.declared.turn.Walked.{Walked as Came}
use Rattle.term_session.specs.declared.turn.Walked.TheVariants.{Stuck, Faulted, Went}
use Rattle.term_session.proofs.Acting.{acted-seq, acted-par, acted-prot, acted-exec, acted-scope, acted-member, acted-others, looked-member, looked-others}

-- with something around
around-view : {A B : Type 0} (g : A → B) (t : Turn) (r : Came) (x : A) (h : Installed) (m : Memory)
    → walked_view t r (g x) h m ≡ around g (walked_view t r x h m)
around-view g t Stuck x h m = refl
around-view g t (Faulted f) x h m = refl
around-view g t (Went e n) x h m = refl

-- with a scope around
scope-view : (q : ℕ) (u : State) (t : Turn) (r : Came) (x : Term) (i o : Installed) (m k : Memory)
    → walked_view t r (in_scope q x (table_view i.table) u) o m ≡ in_scope_around (seen_at t o k) q u (walked_view t r x i m)
scope-view q u t Stuck x i o m k = refl
scope-view q u t (Faulted f) x i o m k = refl
scope-view q u t (Went e n) x i o m k = refl

module _ (t : Turn) (r : Came) (h i : Installed) (m k : Memory) (own : ℕ) where
  -- what a turn came to: x stands there where y did, and h and m are what i and k were
  abbrev pub CameTo : Term → Term → Type 0
  CameTo x y = walked_view t r x h m ≡ acted_in (seen_at t i k) own y

  pub in_sequence : (x y : Term) (rest : Procs) → CameTo x y → CameTo (seq x rest) (seq y rest)
  in_sequence x y rest e =
      around-view (λ t'. seq t' rest) t r x h m ∙ ap (around (λ t'. seq t' rest)) e ∙ sym (acted-seq (seen_at t i k) own y rest)

  pub in_protection : (x y : Term) → CameTo x y → CameTo (prot x) (prot y)
  in_protection x y e = around-view prot t r x h m ∙ ap (around prot) e ∙ sym (acted-prot (seen_at t i k) own y)

  pub in_request : (x y : Term) (n o : ℕ) (p : Option PathTree) → NotDone y → CameTo x y → CameTo (exec n o p x) (exec n o p y)
  in_request x y n o p d e =
      around-view (exec n o p) t r x h m ∙ ap (around (exec n o p)) e ∙ sym (acted-exec (seen_at t i k) own n o p y d)

  pub in_parallel : (xs ys : Strands) → walked_view t r xs h m ≡ acted_among (seen_at t i k) ys → CameTo (par xs) (par ys)
  in_parallel xs ys e = around-view par t r xs h m ∙ ap (around par) e ∙ sym (acted-par (seen_at t i k) own ys)

-- in the body of a scope whose handlers are h where they were i, and around which o stands
pub in_body : (t : Turn) (r : Came) (h i o : Installed) (m k : Memory) (own : ℕ) (x y : Term) (u : State) → h.scope ≡ i.scope → NotDone y
    → walked_view t r x h m ≡ acted_in (seen_at t i k) own y
    → walked_view t r (in_scope h.scope x (table_view h.table) u) o m
    ≡ acted_in (seen_at t o k) own (in_scope i.scope y (table_view i.table) u)
in_body t r h i o m k own x y u same d e =
    ap (λ q. walked_view t r (in_scope q x (table_view h.table) u) o m) same
    ∙ scope-view i.scope u t r x h o m k
    ∙ ap (in_scope_around (seen_at t o k) i.scope u) e
    ∙ sym (acted-scope (seen_at t o k) own i.scope y (table_view i.table) u d)

-- ---- members

-- one thing around another
around-twice : {A B C : Type 0} (g : B → C) (f : A → B) (w : Walked A) → around g (around f w) ≡ around (λ x. g (f x)) w
around-twice g f (stuck x s) = refl
around-twice g f (faulted e x s) = refl
around-twice g f (went m) = refl

-- the strand stands in none of them
pub none_acts : (s : Seen) (ts : Strands) → is_among s.strand ts ≡ false → acted_among s ts ≡ stuck ts s
none_acts s no_strands e = refl
none_acts s (strand j u ts) e =
    acted-others s j u ts (left_false (stands_in s.strand j u) (is_among s.strand ts) e)
    ∙ ap (around (strand j u)) (none_acts s ts (right_false (stands_in s.strand j u) (is_among s.strand ts) e))

pub none_looked : (s : Seen) (ts : Strands) → is_among s.strand ts ≡ false → looked_among s ts ≡ idle
none_looked s no_strands e = refl
none_looked s (strand j u ts) e =
    looked-others s j u ts (left_false (stands_in s.strand j u) (is_among s.strand ts) e)
    ∙ none_looked s ts (right_false (stands_in s.strand j u) (is_among s.strand ts) e)

-- it stands in the one behind these
acted-at : (s : Seen) (ts : Strands) (k : ℕ) (t : Term) (us : Strands) → is_among s.strand ts ≡ false → stands_in s.strand k t ≡ true
    → acted_among s (joined ts (strand k t us)) ≡ around (λ t'. joined ts (strand k t' us)) (acted_in s k t)
acted-at s no_strands k t us e here = acted-member s k t us here
acted-at s (strand j u ts) k t us e here =
    acted-others s j u (joined ts (strand k t us)) (left_false (stands_in s.strand j u) (is_among s.strand ts) e)
    ∙ ap (around (strand j u)) (acted-at s ts k t us (right_false (stands_in s.strand j u) (is_among s.strand ts) e) here)
    ∙ around-twice (strand j u) (λ t'. joined ts (strand k t' us)) (acted_in s k t)

looked-at : (s : Seen) (ts : Strands) (k : ℕ) (t : Term) (us : Strands) → is_among s.strand ts ≡ false → stands_in s.strand k t ≡ true
    → looked_among s (joined ts (strand k t us)) ≡ looked_in s k t
looked-at s no_strands k t us e here = looked-member s k t us here
looked-at s (strand j u ts) k t us e here =
    looked-others s j u (joined ts (strand k t us)) (left_false (stands_in s.strand j u) (is_among s.strand ts) e)
    ∙ looked-at s ts k t us (right_false (stands_in s.strand j u) (is_among s.strand ts) e) here

-- the member x at place i is the first that the strand stands in, and y stands there then
pub in_member : (t : Turn) (r : Came) (h o : Installed) (m k : Memory) (xs : List Strand) (i : ℕ) (x y : Strand)
    → StandsFirst t.actor.strand xs i → x ≡ get_or xs i x → y.number ≡ x.number
    → walked_view t r (term_view y.form.value) h m ≡ acted_in (seen_at t o k) x.number (term_view x.form.value)
    → walked_view t r (members_view (set xs i y)) h m ≡ acted_among (seen_at t o k) (members_view xs)
in_member t r h o m k xs i x y first is same e =
    let before = members_view (take i xs) in
    let behind = members_view (drop (i + 1) xs) in
    ap (λ ts. walked_view t r ts h m)
    (members-put xs i y first.within ∙ ap (λ n. joined before (strand n (term_view y.form.value) behind)) same)
    ∙ around-view (λ t'. joined before (strand x.number t' behind)) t r (term_view y.form.value) h m
    ∙ ap (around (λ t'. joined before (strand x.number t' behind))) e
    ∙ sym (acted-at (seen_at t o k) before x.number (term_view x.form.value) behind first.not_before (first.here x is))
    ∙ ap (acted_among (seen_at t o k)) (sym (members-split xs i x first.within is))

-- looking at the members is looking at that one
pub first_looked : (s : Seen) (xs : List Strand) (i : ℕ) (x : Strand) → StandsFirst s.strand xs i → x ≡ get_or xs i x
    → looked_in s x.number (term_view x.form.value) ≡ looked_among s (members_view xs)
first_looked s xs i x first is =
    sym (looked-at s (members_view (take i xs)) x.number (term_view x.form.value) (members_view (drop (i + 1) xs)) first.not_before (first.here x is))
    ∙ ap (looked_among s) (sym (members-split xs i x first.within is))

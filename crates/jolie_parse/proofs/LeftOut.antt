-- Statements may be left out of tokens, where it is asked whether these are a file or begin one.
use Rattle.std.specs.declared.alloc.AllocError.{AllocError}
use Rattle.jolie_parse.specs.declared.begun.Beginning.{Beginning}
use Rattle.std.proofs.Common.{Result, Ok, Err, IfOk, arith, append-nil, ◌≢◌, ◌≡◌, inl, inr, ℕ, ◌+◌, ◌≤◌, List, [], ◌∷◌, ◌++◌, refl, sym, ap, subst, ◌∙◌}
use Rattle.std.specs.Prelude.{◌↔◌}
use Rattle.jolie_ast.specs.declared.process.Process.{Process}
use Rattle.jolie_ast.specs.declared.tree.Definition.{Definition}
use Rattle.jolie_parse.specs.ClassNames.{sign_semicolon}
use Rattle.jolie_parse.specs.Classes.{Spelled, class, begins}
use Rattle.jolie_parse.specs.Syntax.{many, Derives, behind}
use Rattle.jolie_parse.specs.Grammar.{file, statement, Allowed}
use Rattle.jolie_parse.specs.Factored.{one_statement, Within, Nests}
use Rattle.jolie_parse.specs.Reading.{Outcome, got, refused, too_deep, read}
use Rattle.jolie_parse.specs.Levels.{IsRefused}
use Rattle.jolie_parse.specs.WholeFiles.{whole, read_file}
use Rattle.jolie_parse.specs.LeftOut.{IsBeginning, IsFileOrBegun, IsShallow, AreNext, StatementsMayBeLeftOut}
use Rattle.jolie_parse.proofs.Complete.{head, many_head}
use Rattle.jolie_parse.proofs.Unique.{Derives_more}
use Rattle.jolie_parse.specs.declared.begun.Beginning.TheVariants as beginning
use Rattle.jolie_parse.specs.declared.stop.Stop.{Stop}
use Rattle.jolie_parse.specs.declared.stop.Stop.TheVariants as stop
use Rattle.jolie_parse.specs.Reads.{Stops, more}
use Rattle.jolie_parse.proofs.OneToken.{rules_decided}
use Rattle.jolie_parse.proofs.Statements.{statements_decided}
use Rattle.jolie_parse.proofs.Phrases.{rules_some}
use Rattle.jolie_parse.proofs.Explain.{explain, Bef}
use Rattle.jolie_parse.proofs.Outcomes.{Explains}
use Rattle.jolie_parse.proofs.Steps.{none_read}
use Rattle.jolie_parse.proofs.Equal.{many_into, behind_into, statement_factored, statement_spread, within_factored, within_spread}
use Rattle.jolie_parse.proofs.Files.{complete_file, none_opens_in}
use Rattle.jolie_parse.proofs.Parses.{one_refusal, not_deep, answer_at}
use Rattle.jolie_parse.proofs.Cuts.{NotDeep, Similar, next_statement, only_class, cut_read}

-- ---- what reading answers of tokens that are a file or begin one

-- the outcome is a file or a refusal behind the last token
abbrev pub Ends : Outcome (List Definition) → Type 0
Ends (got f r) = Unit {0}
Ends (refused []) = Unit {0}
Ends (refused (t ∷ r)) = ⊥
Ends (too_deep r) = ⊥

refused_ends : (n : ℕ) (ts : List Spelled) (o : Outcome (List Definition)) → read_file n ts ≡ o → IsRefused n ts [] → Ends o
refused_ends n ts (got f r) e d = tt
refused_ends n ts (refused r) e d = let none : r ≡ [] = one_refusal n ts r [] (answer_at n ts (refused r) e) d in subst (λ z. Ends (refused z)) (sym none) tt
refused_ends n ts (too_deep r) e d = absurd (not_deep n ts [] r d (answer_at n ts (too_deep r) e))

pub begun_ends : (n : ℕ) (ts : List Spelled) → IsFileOrBegun n ts → Ends (read_file n ts)
begun_ends n ts (inl (f, d)) = subst Ends (sym (complete_file n ts f d)) tt
begun_ends n ts (inr d) = refused_ends n ts (read_file n ts) refl d

ends_by : (n : ℕ) (ts : List Spelled) (o : Outcome (List Definition)) → read_file n ts ≡ o → Ends o → IsFileOrBegun n ts
ends_by n ts (got f r) e h = inl (f, (answer_at n ts (got f r) e).1)
ends_by n ts (refused []) e h = inr (answer_at n ts (refused []) e)
ends_by n ts (refused (t ∷ r)) e h = absurd h
ends_by n ts (too_deep r) e h = absurd h

pub ends_begun : (n : ℕ) (ts : List Spelled) → Ends (read_file n ts) → IsFileOrBegun n ts
ends_begun n ts h = ends_by n ts (read_file n ts) refl h

-- ---- outcomes that come to the same

got_left : (f : List Definition) (x : List Spelled) (t : Spelled) (y : List Spelled) → Ends (whole (got f (x ++ t ∷ y))) → ⊥
got_left f [] t y h = h
got_left f (a ∷ x) t y h = h

refused_left : (x : List Spelled) (t : Spelled) (y : List Spelled) → Ends (refused (x ++ t ∷ y)) → ⊥
refused_left [] t y h = h
refused_left (a ∷ x) t y h = h

got_alike : (f g : List Definition) (r : List Spelled) → Ends (whole (got f r)) → Ends (whole (got g r))
got_alike f g [] h = tt
got_alike f g (t ∷ r) h = h

module _ (t u : Spelled) (F C : List Spelled) (ht : class t ≡ sign_semicolon) (hu : class u ≡ sign_semicolon) where
  ends_alike : (o p q : Outcome (List Definition)) → Similar t u F C ht hu o p q → (Ends (whole p) → Ends (whole q)) × (Ends (whole q) → Ends (whole p))
  ends_alike o (got f r) (got g s) (inl e) = (λ h. subst (λ z. Ends (whole (got g z))) e (got_alike f g r h), λ h. subst (λ z. Ends (whole (got f z))) (sym e) (got_alike g f s h))
  ends_alike o (got f r) (got g s) (inr (x, c, eo, er, es)) =
      (λ h. absurd (got_left f x t F (subst (λ z. Ends (whole (got f z))) er h)), λ h. absurd (got_left g x u C (subst (λ z. Ends (whole (got g z))) es h)))
  ends_alike o (refused r) (refused s) (inl e) = (λ h. subst (λ z. Ends (refused z)) e h, λ h. subst (λ z. Ends (refused z)) (sym e) h)
  ends_alike o (refused r) (refused s) (inr (x, er, es)) =
      (λ h. absurd (refused_left x t F (subst (λ z. Ends (refused z)) er h)), λ h. absurd (refused_left x u C (subst (λ z. Ends (refused z)) es h)))
  ends_alike o (too_deep r) (too_deep s) e = (λ h. absurd h, λ h. absurd h)
  ends_alike o (got f r) (refused s) e = absurd e
  ends_alike o (got f r) (too_deep s) e = absurd e
  ends_alike o (refused r) (got g s) e = absurd e
  ends_alike o (refused r) (too_deep s) e = absurd e
  ends_alike o (too_deep r) (got g s) e = absurd e
  ends_alike o (too_deep r) (refused s) e = absurd e

-- ---- the premises

-- tokens that are not too deep are not read as such
shallow_read : (k : ℕ) (x : List Spelled) → IsShallow k x → (o : Outcome (List Definition)) → read k file x ≡ o → NotDeep o
shallow_read k x h (got f r) e = tt
shallow_read k x h (refused r) e = tt
shallow_read k x h (too_deep r) e = h r (answer_at k x (too_deep r) (ap whole e))

next_factored : (m : ℕ) (z : List Spelled) (vs : List Process) → Derives (Allowed m) (many (behind sign_semicolon statement)) z vs → Nests m (many next_statement) z vs
next_factored m z vs d =
    many_into (Within m) (behind sign_semicolon statement) next_statement (behind_into (Within m) sign_semicolon statement one_statement (statement_factored (Within m))) z vs
    (Derives_more (Allowed m) (Within m) (within_factored m) (many (behind sign_semicolon statement)) z vs d)

first_semicolon : (m : ℕ) (t : Spelled) (z : List Spelled) (vs : List Process) → Nests m (many next_statement) (t ∷ z) vs → class t ≡ sign_semicolon
first_semicolon m t z vs d = only_class sign_semicolon (class t) (many_head (Nests m next_statement) (sign_semicolon ∷ []) (head (Within m) next_statement) t z vs d)

-- ---- the law

left_out_some : (k m n : ℕ) (x : List Spelled) (t : Spelled) (z : List Spelled) (u : Spelled) (y : List Spelled) → k + m ≤ n → IsShallow k x
    → (vs : List Process) → Nests m (many next_statement) (t ∷ z) vs → class u ≡ sign_semicolon
    → IsFileOrBegun n (x ++ t ∷ (z ++ u ∷ y)) ↔ IsFileOrBegun n (x ++ u ∷ y)
left_out_some k m n x t z u y le shallow vs d hu =
    let ht = first_semicolon m t z vs d in
    let same = ends_alike t u (z ++ u ∷ y) y ht hu (read k file x) (read n file (x ++ t ∷ (z ++ u ∷ y))) (read n file (x ++ u ∷ y))
    (cut_read k m n le x t z u y vs ht hu d (shallow_read k x shallow (read k file x) refl)) in
    (λ h. ends_begun n (x ++ u ∷ y) (same.0 (begun_ends n (x ++ t ∷ (z ++ u ∷ y)) h)), λ h. ends_begun n (x ++ t ∷ (z ++ u ∷ y)) (same.1 (begun_ends n (x ++ u ∷ y) h)))

pub statements_left_out : StatementsMayBeLeftOut
statements_left_out k m n x z [] le shallow next h = cc
statements_left_out k m n x [] (u ∷ y) le shallow next h = (λ d. d, λ d. d)
statements_left_out k m n x (t ∷ z) (u ∷ y) le shallow (vs, d) h =
    left_out_some k m n x t z u y le shallow vs (next_factored m (t ∷ z) vs d) (only_class sign_semicolon (class u) h)

-- ---- what is said of tokens that are read as a file

never_deep : (n : ℕ) (ts : List Spelled) (o : Outcome (List Definition)) → read_file n ts ≡ o → NotDeep o → IsShallow n ts
never_deep n ts (got f r) e nd q (v, g, begins, opens, none) = none_opens_in n ts f (answer_at n ts (got f r) e).1 v q g opens
never_deep n ts (refused r) e nd q d = not_deep n ts r q (answer_at n ts (refused r) e) d
never_deep n ts (too_deep r) e nd q d = nd

pub a_file : (n : ℕ) (ts : List Spelled) (f : List Definition) (r : List Spelled) → read_file n ts ≡ got f r → IsBeginning n ts beginning.MayGoOn
a_file n ts f r e = (ends_by n ts (got f r) e tt, never_deep n ts (got f r) e tt)

pub begun_to_end : (n : ℕ) (ts r : List Spelled) → r ≡ [] → Stops (read_file n ts) stop.Syntax r → IsBeginning n ts beginning.MayGoOn
begun_to_end n ts r none e =
    (ends_by n ts (refused []) (e ∙ ap refused none) tt, never_deep n ts (refused r) e tt)

pub begun_no_more : (n : ℕ) (ts r : List Spelled) → r ≢ [] → Stops (read_file n ts) stop.Syntax r → IsBeginning n ts beginning.Stops
begun_no_more n ts [] some e = absurd (some refl)
begun_no_more n ts (t ∷ r) some e = (λ h. subst Ends e (begun_ends n ts h), never_deep n ts (refused (t ∷ r)) e tt)

pub begun_too_deep : (n : ℕ) (ts r : List Spelled) → Stops (read_file n ts) stop.TooDeep r → IsBeginning n ts beginning.TooDeep
begun_too_deep n ts r e = λ h. subst Ends e (begun_ends n ts h)

-- ---- statements, each behind a semicolon

next_by : (n : ℕ) (ts : List Spelled) (vs : List Process) (r : List Spelled) (o : Outcome (List Process)) → o ≡ got vs r → r ≡ []
    → Explains (Nests n (many next_statement)) (Bef n (many next_statement)) (λ z p. read n (many next_statement) z ≡ p) ts o → AreNext n ts
next_by n ts vs r (got ws q) e none x =
    let over : q ≡ [] = (let same : q ≡ r = cc in same ∙ none) in
    let whole : ts ≡ x.0 = x.1 ∙ ap (λ z. x.0 ++ z) over ∙ append-nil x.0 in (
      ws,
      many_into (Allowed n) next_statement (behind sign_semicolon statement) (behind_into (Allowed n) sign_semicolon one_statement statement (statement_spread (Allowed n))) ts ws
          (Derives_more (Within n) (Allowed n) (within_spread n) (many next_statement) ts ws (subst (λ z. Nests n (many next_statement) z ws) (sym whole) x.2)),
    )
next_by n ts vs r (refused q) e none x = cc
next_by n ts vs r (too_deep q) e none x = cc

pub next_found : (n : ℕ) (ts : List Spelled) (vs : List Process) (r : List Spelled) → more n next_statement [] ts ≡ got vs r → r ≡ [] → AreNext n ts
next_found n ts vs r e none =
    next_by n ts vs r (read n (many next_statement) ts) (sym (none_read n next_statement ts) ∙ e) none
    (explain rules_decided rules_some n n (omega arith) (many next_statement) statements_decided ts)

-- ---- what the calls give

-- what is said of tokens of which reading is stopped
pub stopped_so : (r : Result Beginning AllocError) (s : Stop) (left : List Spelled) (n : ℕ) (ts : List Spelled)
    → IfOk r (λ b. (levels : ℕ) (tokens : List Spelled) → Stops (read_file levels tokens) s left → IsBeginning levels tokens b) → Stops (read_file n ts) s left
    → IfOk r (λ b. IsBeginning n ts b)
stopped_so (Ok b) s left n ts h g = h n ts g
stopped_so (Err e) s left n ts h g = tt

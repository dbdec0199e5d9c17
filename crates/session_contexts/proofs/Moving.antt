-- Events in a context.
use Rattle.std.proofs.Common.{◌≡◌, ℕ, true, false, List, [], ◌∷◌, Option, None, Some, option_map, sym, ap, ◌∙◌, refl}
use Rattle.std.proofs.lemmas.Bool.{and_parts, false≢true}
use Rattle.behaviour_tree.specs.Data.{PathTree, no_procs, proc}
use Rattle.session_calculus.specs.Tables.{Table}
use Rattle.session_calculus.specs.Terms.{Term, done, place, thrown, seq, par, in_scope, exec, fail, wait, dead_wait, prot, State, prot_of}
use Rattle.session_calculus.specs.Moves.{Seen, Move, moved_to, within, inside, in_its_scope}
use Rattle.session_calculus.specs.After.{moves}
use Rattle.session_contexts.specs.Contexts.{Layer, rests, scoped, asked, failed, kept, around_of, plug, is_open, are_open}
use Rattle.session_contexts.specs.Tidy.{tidied}
use Rattle.session_contexts.specs.Walks.{seen_in, seen_within, moved_in, moved_within}
use Rattle.session_contexts.proofs.Tidying.{tidy-prot_of, tidy-twice, tidied-seq_of, tidied-prot_of}
use Rattle.session_contexts.proofs.Standing.{in_layers}

-- a move, or none, by what it is tidily
tidied_by : (o p : Option (Move Term)) (f : Move Term → Move Term) → ((m : Move Term) → tidied (f m) ≡ tidied (f (tidied m)))
    → option_map tidied o ≡ option_map tidied p → option_map (λ m. tidied (f m)) o ≡ option_map (λ m. tidied (f m)) p
tidied_by o p f same is = split o ∙ ap (option_map (λ m. tidied (f m))) is ∙ sym (split p)
  where
    split : (x : Option (Move Term)) → option_map (λ m. tidied (f m)) x ≡ option_map (λ m. tidied (f m)) (option_map tidied x)
    split None = refl
    split (Some m) = ap Some (same m)

map-map : {A B C : Type 0} (f : B → C) (g : A → B) (o : Option A) → option_map f (option_map g o) ≡ option_map (λ x. f (g x)) o
map-map f g None = refl
map-map f g (Some x) = refl

-- a layer around a move, and around the same move said tidily
moved_tidily : (l : Layer) (s : Seen) (m : Move Term) → tidied (moved_in l s m) ≡ tidied (moved_in l s (tidied m))
moved_tidily (rests ps) s m = ap (λ t. moved_to t m.made) (tidied-seq_of m.form ps)
moved_tidily (scoped q h u) s m =
    ap (λ t. moved_to (in_scope q t m.made.table u) (record m.made { table = s.table })) (sym (tidy-twice m.form))
moved_tidily (asked k o y) s m = ap (λ t. moved_to (exec k o y t) m.made) (sym (tidy-twice m.form))
moved_tidily (failed k f) s m = ap (λ t. moved_to (fail k f t) m.made) (sym (tidy-twice m.form))
moved_tidily kept s m = ap (λ t. moved_to t m.made) (tidied-prot_of m.form)

-- an event before rests
same_move : (o : Option (Move Term)) → o ≡ option_map (within (λ t. t)) o
same_move None = refl
same_move (Some m) = refl

-- of what is kept
kept_again : (o : Option (Move Term)) → option_map tidied (option_map (within prot) o) ≡ option_map (λ m. tidied (within prot_of m)) (option_map (within prot) o)
kept_again None = refl
kept_again (Some m) = refl

kept_once : (o : Option (Move Term)) → option_map tidied (option_map (within prot) o) ≡ option_map (λ m. tidied (within prot_of m)) o
kept_once None = refl
kept_once (Some m) = ap (λ t. Some (moved_to t m.made)) (sym (tidy-prot_of m.form))

moves-kept : (s : Seen) (k : ℕ) (t : Term) → option_map tidied (moves s k (prot_of t)) ≡ option_map (λ m. tidied (within prot_of m)) (moves s k t)
moves-kept s k done = refl
moves-kept s k (place zp) = kept_once (moves s k (place zp))
moves-kept s k (thrown zf) = kept_once (moves s k (thrown zf))
moves-kept s k (seq zt zr) = kept_once (moves s k (seq zt zr))
moves-kept s k (par zts) = kept_once (moves s k (par zts))
moves-kept s k (in_scope zq zt zh zu) = kept_once (moves s k (in_scope zq zt zh zu))
moves-kept s k (exec zm zo zy zt) = kept_once (moves s k (exec zm zo zy zt))
moves-kept s k (fail zm zf zt) = kept_once (moves s k (fail zm zf zt))
moves-kept s k (wait zc za zb zx zl) = kept_once (moves s k (wait zc za zb zx zl))
moves-kept s k (dead_wait zc za zb zl) = kept_once (moves s k (dead_wait zc za zb zl))
moves-kept s k (prot zt) = kept_again (moves s k zt)

-- of a scope whose body is not done
moves-scope : (s : Seen) (k q : ℕ) (h : Table) (u : State) (t : Term) → (t ≡ done → ⊥)
    → moves s k (in_scope q t h u) ≡ option_map (in_its_scope s q u) (moves (inside s q h) k t)
moves-scope s k q h u done out = absurd (out refl)
moves-scope s k q h u (place zp) out = refl
moves-scope s k q h u (thrown zf) out = refl
moves-scope s k q h u (seq zt zr) out = refl
moves-scope s k q h u (par zts) out = refl
moves-scope s k q h u (in_scope zq zt zh zu) out = refl
moves-scope s k q h u (exec zm zo zy zt) out = refl
moves-scope s k q h u (fail zm zf zt) out = refl
moves-scope s k q h u (wait zc za zb zx zl) out = refl
moves-scope s k q h u (dead_wait zc za zb zl) out = refl
moves-scope s k q h u (prot zt) out = refl

-- of a request whose body is not done
moves-asked : (s : Seen) (k m o : ℕ) (y : Option PathTree) (t : Term) → (t ≡ done → ⊥)
    → moves s k (exec m o y t) ≡ option_map (within (exec m o y)) (moves s k t)
moves-asked s k m o y done out = absurd (out refl)
moves-asked s k m o y (place zp) out = refl
moves-asked s k m o y (thrown zf) out = refl
moves-asked s k m o y (seq zt zr) out = refl
moves-asked s k m o y (par zts) out = refl
moves-asked s k m o y (in_scope zq zt zh zu) out = refl
moves-asked s k m o y (exec zm zo zy zt) out = refl
moves-asked s k m o y (fail zm zf zt) out = refl
moves-asked s k m o y (wait zc za zb zx zl) out = refl
moves-asked s k m o y (dead_wait zc za zb zl) out = refl
moves-asked s k m o y (prot zt) out = refl

-- in one layer
moves_layer : (l : Layer) (s : Seen) (k : ℕ) (t : Term) → is_open l ≡ true → (t ≡ done → ⊥)
    → option_map tidied (moves s k (around_of l t)) ≡ option_map (λ m. tidied (moved_in l s m)) (moves (seen_in l s) k t)
moves_layer (rests no_procs) s k t o out =
    ap (option_map tidied) (same_move (moves s k t)) ∙ map-map tidied (within (λ t'. t')) (moves s k t)
moves_layer (rests (proc p ps)) s k t o out = map-map tidied (within (λ t'. seq t' (proc p ps))) (moves s k t)
moves_layer (scoped q h u) s k t o out =
    ap (option_map tidied) (moves-scope s k q h u t out) ∙ map-map tidied (in_its_scope s q u) (moves (inside s q h) k t)
moves_layer (asked m o' y) s k t o out =
    ap (option_map tidied) (moves-asked s k m o' y t out) ∙ map-map tidied (within (exec m o' y)) (moves s k t)
moves_layer (failed m f) s k t o out = absurd (false≢true o)
moves_layer kept s k t o out = moves-kept s k t

-- in layers
pub moves_inside : (ls : List Layer) (s : Seen) (k : ℕ) (t : Term) → are_open ls ≡ true → (t ≡ done → ⊥)
    → option_map tidied (moves s k (plug ls t)) ≡ option_map (λ m. tidied (moved_within ls s m)) (moves (seen_within ls s) k t)
moves_inside [] s k t o out = refl
moves_inside (l ∷ ls) s k t o out =
    let both = and_parts (is_open l) (are_open ls) o in
    let rest : option_map tidied (moves (seen_in l s) k (plug ls t)) ≡ option_map tidied (option_map (moved_within ls (seen_in l s)) (moves (seen_within ls (seen_in l s)) k t)) =
    moves_inside ls (seen_in l s) k t both.1 out ∙ sym (map-map tidied (moved_within ls (seen_in l s)) (moves (seen_within ls (seen_in l s)) k t)) in
    moves_layer l s k (plug ls t) both.0 (in_layers ls t out)
    ∙ tidied_by (moves (seen_in l s) k (plug ls t)) (option_map (moved_within ls (seen_in l s)) (moves (seen_within ls (seen_in l s)) k t))
    (moved_in l s) (moved_tidily l s) rest
    ∙ map-map (λ m. tidied (moved_in l s m)) (moved_within ls (seen_in l s)) (moves (seen_within ls (seen_in l s)) k t)

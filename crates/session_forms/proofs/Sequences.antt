-- A sequence goes on to its first form that is not done at once.
use Rattle.std.proofs.Common.{◌≡◌, ℕ, ◌+◌, ◌<◌, List, map, drop, length, get_or, refl, sym, ap, ◌∙◌}
use Rattle.behaviour_tree.specs.Data.{Proc, Procs, proc}
use Rattle.behaviour_tree.specs.View.{behaviour_view, procs_of}
use Rattle.behaviour_tree.specs.declared.behaviour.Behaviour.{Behaviour}
use Rattle.session_calculus.specs.Terms.{Term, done, seq_of}
use Rattle.session_calculus.specs.Start.{Begun, begun, begin, begin_rest}
use Rattle.session_forms.proofs.Lists.{taken_off}
use Rattle.session_forms.proofs.Settled.{goes_on}

-- the rests go on after a form that is done at once
passed_over : (p : Proc) (ps : Procs) (n : ℕ) (b : Begun Term) → b ≡ begin p n → b.form ≡ done → begin_rest ps b.next ≡ begin_rest (proc p ps) n
passed_over p ps n b e d = let f : (begin p n).form ≡ done = sym (ap (λ c. c.form) e) ∙ d in rw (e, f)

pub sequence_goes_on : (xs : List Behaviour) (i n : ℕ) (x : Behaviour) (b : Begun Term) → i < length xs → x ≡ get_or xs i x → b ≡ begin (behaviour_view x) n → b.form ≡ done
    → begin_rest (procs_of (map behaviour_view (drop (i + 1) xs))) b.next ≡ begin_rest (procs_of (map behaviour_view (drop i xs))) n
sequence_goes_on xs i n x b h is e d = rw (taken_off xs i x h is) (passed_over (behaviour_view x) (procs_of (map behaviour_view (drop (i + 1) xs))) n b e d)

goes_on-other : (ps : Procs) (t : Term) (n : ℕ) → (t ≡ done → ⊥) → goes_on ps (begun t n) ≡ begun (seq_of t ps) n
goes_on-other ps done n h = absurd (h refl)
goes_on-other ps t n h = refl

stops_before : (p : Proc) (ps : Procs) (n : ℕ) (b : Begun Term) → b ≡ begin p n → (b.form ≡ done → ⊥) → begun (seq_of b.form ps) b.next ≡ begin_rest (proc p ps) n
stops_before p ps n b e other = sym (goes_on-other ps b.form b.next other) ∙ ap (goes_on ps) e

-- a form that is not done goes before the rests
pub sequence_stops : (xs : List Behaviour) (i n : ℕ) (x : Behaviour) (b : Begun Term) → i < length xs → x ≡ get_or xs i x → b ≡ begin (behaviour_view x) n → (b.form ≡ done → ⊥)
    → begun (seq_of b.form (procs_of (map behaviour_view (drop (i + 1) xs)))) b.next ≡ begin_rest (procs_of (map behaviour_view (drop i xs))) n
sequence_stops xs i n x b h is e other = rw (taken_off xs i x h is) (stops_before (behaviour_view x) (procs_of (map behaviour_view (drop (i + 1) xs))) n b e other)

-- How a service begins.
use Rattle.std.proofs.Common.{◌≡◌, ℕ, refl, sym, ap, ◌∙◌}
use Rattle.behaviour_tree.specs.Data.{Proc, nothing, sequence, proc, no_procs}
use Rattle.session_calculus.specs.Start.{Begun, begun, begin}
use Rattle.session_calculus.specs.Terms.{Term, done, seq_of}

-- one of two that are equal where the form is done
either : (t : Term) (x y : Begun Term) → (t ≡ done → x ≡ y) → ◌≡◌ {A = Begun Term} (elim t [ done ↦ x | _ ↦ y ]) y
either done x y h = h refl
either t x y h = refl

-- the only one of some forms begins as it does alone
alone : (b : Begun Term)
    → ◌≡◌ {A = Begun Term} (elim b.form [ done ↦ begun done b.next | _ ↦ begun (seq_of b.form no_procs) b.next ]) b
alone b = either b.form (begun done b.next) b (λ e. ap (λ t. begun t b.next) (sym e))

-- where nothing is to be done first, what comes after begins at once
pub begins_at_once : (first p : Proc) (n : ℕ) (b : Begun Term) → first ≡ nothing → b ≡ begin p n
    → b ≡ begin (sequence (proc first (proc p no_procs))) n
begins_at_once first p n b is e =
    e
    ∙ sym (alone (begin p n))
    ∙ ap (λ q. begin (sequence (proc q (proc p no_procs))) n) (sym is)

-- Forms that are kept, and forms said tidily.
use Rattle.std.proofs.Common.{◌≡◌, sym, ap, ◌∙◌, refl}
use Rattle.behaviour_tree.specs.Data.{Procs, no_procs, proc}
use Rattle.session_calculus.specs.Terms.{Term, Strands, done, place, thrown, seq, par, in_scope, exec, fail, wait, dead_wait, prot, no_strands, strand, seq_of, prot_of}
use Rattle.session_contexts.specs.Tidy.{tidy, tidy_members}

-- what is kept is kept once
pub prot-twice : (t : Term) → prot_of (prot_of t) ≡ prot_of t
prot-twice done = refl
prot-twice (place zp) = refl
prot-twice (thrown zf) = refl
prot-twice (seq zt zr) = refl
prot-twice (par zts) = refl
prot-twice (in_scope zq zt zh zu) = refl
prot-twice (exec zm zo zy zt) = refl
prot-twice (fail zm zf zt) = refl
prot-twice (wait zc za zb zx zl) = refl
prot-twice (dead_wait zc za zb zl) = refl
prot-twice (prot zt) = refl

-- what is kept is said so
pub tidy-prot_of : (t : Term) → tidy (prot_of t) ≡ prot_of (tidy t)
tidy-prot_of done = refl
tidy-prot_of (place zp) = refl
tidy-prot_of (thrown zf) = refl
tidy-prot_of (seq zt zr) = refl
tidy-prot_of (par zts) = refl
tidy-prot_of (in_scope zq zt zh zu) = refl
tidy-prot_of (exec zm zo zy zt) = refl
tidy-prot_of (fail zm zf zt) = refl
tidy-prot_of (wait zc za zb zx zl) = refl
tidy-prot_of (dead_wait zc za zb zl) = refl
tidy-prot_of (prot zt) = sym (prot-twice (tidy zt))

pub tidy-seq_of : (t : Term) (ps : Procs) → tidy (seq_of t ps) ≡ seq_of (tidy t) ps
tidy-seq_of t no_procs = refl
tidy-seq_of t (proc p ps) = refl

-- what is said tidily stays
mutual
  pub tidy-twice : (t : Term) → tidy (tidy t) ≡ tidy t
  tidy-twice done = refl
  tidy-twice (place p) = refl
  tidy-twice (thrown f) = refl
  tidy-twice (seq t ps) = tidy-seq_of (tidy t) ps ∙ ap (λ u. seq_of u ps) (tidy-twice t)
  tidy-twice (par ts) = ap par (tidy_members-twice ts)
  tidy-twice (in_scope q t h u) = ap (λ b. in_scope q b h u) (tidy-twice t)
  tidy-twice (exec m o y t) = ap (exec m o y) (tidy-twice t)
  tidy-twice (fail m f t) = ap (fail m f) (tidy-twice t)
  tidy-twice (wait c a b x l) = refl
  tidy-twice (dead_wait c a b l) = refl
  tidy-twice (prot t) = tidy-prot_of (tidy t) ∙ ap prot_of (tidy-twice t)

  pub tidy_members-twice : (ts : Strands) → tidy_members (tidy_members ts) ≡ tidy_members ts
  tidy_members-twice no_strands = refl
  tidy_members-twice (strand k t ts) = λ i. strand k (tidy-twice t i) (tidy_members-twice ts i)

-- a form whose context is said tidily
pub tidied-seq_of : (t : Term) (ps : Procs) → tidy (seq_of t ps) ≡ tidy (seq_of (tidy t) ps)
tidied-seq_of t ps = tidy-seq_of t ps ∙ ap (λ u. seq_of u ps) (sym (tidy-twice t)) ∙ sym (tidy-seq_of (tidy t) ps)

pub tidied-prot_of : (t : Term) → tidy (prot_of t) ≡ tidy (prot_of (tidy t))
tidied-prot_of t = tidy-prot_of t ∙ ap prot_of (sym (tidy-twice t)) ∙ sym (tidy-prot_of (tidy t))

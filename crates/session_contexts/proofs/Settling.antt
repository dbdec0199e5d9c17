-- Normal form in a context.
use Rattle.std.proofs.Common.{◌≡◌, ℕ, Bool, true, false, List, [], ◌∷◌, sym, ap, ◌∙◌, refl}
use Rattle.behaviour_tree.specs.Data.{no_procs, proc}
use Rattle.session_calculus.specs.Terms.{Term, Strands, done, place, thrown, seq, par, in_scope, exec, fail, wait, dead_wait, prot, no_strands, strand, prot_of, scope_of, par_of, stands_in}
use Rattle.session_calculus.specs.Start.{begun, around, then_rest, normal, normal_members}
use Rattle.session_contexts.specs.Contexts.{Layer, rests, scoped, asked, failed, kept, plug}
use Rattle.session_contexts.specs.Tidy.{tidy, tidy_members}
use Rattle.session_contexts.specs.Members.{IsNormal, AreNormal, with_member, HasMember, OthersAreNormal}
use Rattle.session_contexts.specs.Walks.{settled}
use Rattle.session_contexts.proofs.Tidying.{prot-twice}

-- what is kept comes to normal form inside
kept-normal : (t : Term) (n : ℕ) → normal (prot_of t) n ≡ around prot_of (normal t n)
kept-normal done n = refl
kept-normal (place zp) n = refl
kept-normal (thrown zf) n = refl
kept-normal (seq zt zr) n = refl
kept-normal (par zts) n = refl
kept-normal (in_scope zq zt zh zu) n = refl
kept-normal (exec zm zo zy zt) n = refl
kept-normal (fail zm zf zt) n = refl
kept-normal (wait zc za zb zx zl) n = refl
kept-normal (dead_wait zc za zb zl) n = refl
kept-normal (prot zt) n = ap (λ b. begun b (normal zt n).next) (sym (prot-twice (normal zt n).form))

-- after a head without rests nothing begins
nothing_after : (t : Term) (n : ℕ) → then_rest t no_procs n ≡ begun t n
nothing_after done n = refl
nothing_after (place zp) n = refl
nothing_after (thrown zf) n = refl
nothing_after (seq zt zr) n = refl
nothing_after (par zts) n = refl
nothing_after (in_scope zq zt zh zu) n = refl
nothing_after (exec zm zo zy zt) n = refl
nothing_after (fail zm zf zt) n = refl
nothing_after (wait zc za zb zx zl) n = refl
nothing_after (dead_wait zc za zb zl) n = refl
nothing_after (prot zt) n = refl

mutual
  -- a form and the same form said tidily have one normal form
  pub tidy_normal : (t : Term) (n : ℕ) → normal (tidy t) n ≡ normal t n
  tidy_normal done n = refl
  tidy_normal (place p) n = refl
  tidy_normal (thrown f) n = refl
  tidy_normal (seq t no_procs) n = tidy_normal t n ∙ sym (nothing_after (normal t n).form (normal t n).next)
  tidy_normal (seq t (proc p ps)) n = ap (λ b. then_rest b.form (proc p ps) b.next) (tidy_normal t n)
  tidy_normal (par ts) n = ap (around par_of) (tidy_members_normal ts n)
  tidy_normal (in_scope q t h u) n = ap (around (λ body. scope_of q body h u)) (tidy_normal t n)
  tidy_normal (exec m o y t) n = ap (around (exec m o y)) (tidy_normal t n)
  tidy_normal (fail m f t) n = ap (around (fail m f)) (tidy_normal t n)
  tidy_normal (wait c a b x l) n = refl
  tidy_normal (dead_wait c a b l) n = refl
  tidy_normal (prot t) n = kept-normal (tidy t) n ∙ ap (around prot_of) (tidy_normal t n)

  tidy_members_normal : (ts : Strands) (n : ℕ) → normal_members (tidy_members ts) n ≡ normal_members ts n
  tidy_members_normal no_strands n = refl
  tidy_members_normal (strand k t ts) n =
      ap (λ b. around (strand k b.form) (normal_members (tidy_members ts) b.next)) (tidy_normal t n)
      ∙ ap (around (strand k (normal t n).form)) (tidy_members_normal ts (normal t n).next)

-- the normal form of a form in layers
pub normal_outward : (ls : List Layer) (t : Term) (n : ℕ) → normal (plug ls t) n ≡ settled ls (normal t n)
normal_outward [] t n = refl
normal_outward (rests no_procs ∷ ls) t n = normal_outward ls t n
normal_outward (rests (proc p ps) ∷ ls) t n = ap (λ b. then_rest b.form (proc p ps) b.next) (normal_outward ls t n)
normal_outward (scoped q h u ∷ ls) t n = ap (around (λ body. scope_of q body h u)) (normal_outward ls t n)
normal_outward (asked m o y ∷ ls) t n = ap (around (exec m o y)) (normal_outward ls t n)
normal_outward (failed m f ∷ ls) t n = ap (around (fail m f)) (normal_outward ls t n)
normal_outward (kept ∷ ls) t n = kept-normal (plug ls t) n ∙ ap (around prot_of) (normal_outward ls t n)

-- one member, by whether it is the first
one_member : (b : Bool) (j : ℕ) (u : Term) (ts : Strands) (k : ℕ) (t : Term) (n : ℕ)
    → elim b as (λ _. Type 0) [ true ↦ Unit {0} | false ↦ HasMember k ts ]
    → elim b as (λ _. Type 0) [ true ↦ AreNormal ts | false ↦ IsNormal u × OthersAreNormal k ts ]
    → ((m : ℕ) → HasMember k ts → OthersAreNormal k ts → normal_members (with_member k t ts) m ≡ around (λ v. with_member k v ts) (normal t m))
    → normal_members (elim b as (λ _. Strands) [ true ↦ strand j t ts | false ↦ strand j u (with_member k t ts) ]) n
    ≡ around (λ v. elim b as (λ _. Strands) [ true ↦ strand j v ts | false ↦ strand j u (with_member k v ts) ]) (normal t n)
one_member true j u ts k t n has others later = ap (around (strand j (normal t n).form)) (others (normal t n).next)
one_member false j u ts k t n has others later =
    ap (λ b. around (strand j b.form) (normal_members (with_member k t ts) b.next)) (others.0 n)
    ∙ ap (around (strand j u)) (later n has others.1)

-- one member comes to normal form alone
pub settles_alone : (ts : Strands) (k : ℕ) (t : Term) (n : ℕ) → HasMember k ts → OthersAreNormal k ts
    → normal_members (with_member k t ts) n ≡ around (λ v. with_member k v ts) (normal t n)
settles_alone no_strands k t n has others = absurd has
settles_alone (strand j u ts) k t n has others =
    one_member (stands_in k j u) j u ts k t n has others (λ m h o. settles_alone ts k t m h o)

-- What is in normal form stays.
use Rattle.std.proofs.Common.{◌≡◌, ℕ, Bool, true, false, refl, ap, ◌∙◌}
use Rattle.behaviour_tree.specs.Data.{Procs, no_procs, proc}
use Rattle.session_calculus.specs.Tables.{Table}
use Rattle.session_calculus.specs.Terms.{Term, Strands, done, place, thrown, par, in_scope, exec, fail, wait, dead_wait, prot, strand, State, live, caught, term, last, zombie, seq_of, all_done, par_of, prot_of, scope_of}
use Rattle.session_calculus.specs.Start.{begun, around, then_rest, normal, normal_members}
use Rattle.session_calculus.specs.Laws.{NormalStays}
use Rattle.session_laws.proofs.Moving.{NotDone}
use Rattle.session_laws.proofs.Settling.{IsLeaf, Settles, settles-normal}

-- a form that stays, and draws no number
abbrev Stays : Term → Type 0
Stays t = (n : ℕ) → normal t n ≡ begun t n

-- the same of members
abbrev AllStay : Strands → Type 0
AllStay ts = (n : ℕ) → normal_members ts n ≡ begun ts n

-- a form without a form in it stays
stays-leaf : (t : Term) → IsLeaf t → Stays t
stays-leaf done l n = refl
stays-leaf (place p) l n = refl
stays-leaf (thrown f) l n = refl
stays-leaf (wait k port op x list) l n = refl
stays-leaf (dead_wait k port op list) l n = refl
stays-leaf t l n = absurd l

-- a head that is not done stays before its rests
then-stays : (t : Term) (ps : Procs) (n : ℕ) → NotDone t → then_rest t ps n ≡ begun (seq_of t ps) n
then-stays done ps n d = absurd d
then-stays t ps n d = refl

-- a sequence whose head stays
stays-seq : (t : Term) (ps : Procs) → NotDone t → Stays t → Stays (seq_of t ps)
stays-seq t no_procs d h n = h n
stays-seq t (proc p ps) d h n = ap (λ b. then_rest b.form (proc p ps) b.next) (h n) ∙ then-stays t (proc p ps) n d

-- a parallel whose members stay
stays-par : (ts : Strands) → AllStay ts → Stays (par_of ts)
stays-par ts h = go (all_done ts) refl
  where
    go : (b : Bool) → all_done ts ≡ b → Stays (elim b [ true ↦ done | false ↦ par ts ])
    go true e n = refl
    go false e n = ap (around par_of) (h n) ∙ ap (λ b. begun (elim b [ true ↦ done | false ↦ par ts ]) n) e

-- what no fault ends any more
stays-prot : (t : Term) → Stays t → Stays (prot_of t)
stays-prot done h n = refl
stays-prot (prot t) h n = h n
stays-prot t h n = ap (around prot_of) (h n)

-- a scope that stands
stays-in_scope : (q : ℕ) (t : Term) (h : Table) (u : State) → scope_of q t h u ≡ in_scope q t h u → Stays t
    → Stays (in_scope q t h u)
stays-in_scope q t h u e k n = ap (around (λ b. scope_of q b h u)) (k n) ∙ ap (λ x. begun x n) e

-- a scope, or nothing where it is through
stays-scope : (q : ℕ) (t : Term) (h : Table) (u : State) → Stays t → Stays (scope_of q t h u)
stays-scope q done h last k n = refl
stays-scope q done h zombie k n = refl
stays-scope q done h live k n = stays-in_scope q done h live refl k n
stays-scope q done h (caught f) k n = stays-in_scope q done h (caught f) refl k n
stays-scope q done h term k n = stays-in_scope q done h term refl k n
stays-scope q t h u k n = stays-in_scope q t h u refl k n

-- a member before members
stays-member : (k : ℕ) (t : Term) (ts : Strands) → Stays t → AllStay ts → AllStay (strand k t ts)
stays-member k t ts h hs n =
    ap (λ b. around (strand k b.form) (normal_members ts b.next)) (h n) ∙ ap (around (strand k t)) (hs n)

-- all that is brought to normal form stays
stays-settles : Settles (λ t n b. Stays b.form) (λ ts n b. AllStay b.form) (λ ps n b. Stays b.form)
stays-settles = record {
  leaf = λ t n l. stays-leaf t l;
  goes = λ t ps n m b h r. r;
  stays = λ t t' ps n m d h. stays-seq t' ps d h;
  members = λ ts n b h. stays-par b.form h;
  body = λ q t h u n b k. stays-scope q b.form h u k;
  asked = λ m o y t n b k i. ap (around (exec m o y)) (k i);
  failed = λ m f t n b k i. ap (around (fail m f)) (k i);
  kept = λ t n b k. stays-prot b.form k;
  no_member = λ n i. refl;
  member = λ k t ts n b c h hs. stays-member k b.form c.form h hs;
  no_rest = λ n i. refl;
  rest_goes = λ p ps n m b h r. r;
  rest_stays = λ p ps n m t d h. stays-seq t ps d h;
}

-- what is in normal form stays, and draws no number
pub normal_stays : NormalStays
normal_stays t n =
    settles-normal (λ t n b. Stays b.form) (λ ts n b. AllStay b.form) (λ ps n b. Stays b.form) stays-settles t n
    (normal t n).next

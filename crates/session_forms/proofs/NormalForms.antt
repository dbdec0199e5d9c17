-- Forms in normal form, by what they are.
use Rattle.std.proofs.Common.{◌≡◌, ℕ, true, false, List, [], map, refl, sym, ap, ◌∙◌}
use Rattle.std.proofs.lemmas.Bool.{false≢true}
use Rattle.behaviour_tree.specs.Data.{Procs}
use Rattle.behaviour_tree.specs.View.{behaviour_view, procs_of}
use Rattle.behaviour_tree.specs.declared.behaviour.Behaviour.{Behaviour}
use Rattle.session_calculus.specs.Tables.{Table}
use Rattle.session_calculus.specs.Terms.{Term, Strands, done, seq, par, in_scope, prot, State, live, caught, term, last, zombie, all_done, seq_of, par_of, prot_of, scope_of}
use Rattle.session_calculus.specs.Start.{begun, around, then_rest, normal, normal_members}
use Rattle.session_forms.specs.Normal.{is_over, tidied}
use Rattle.session_forms.specs.Shapes.{is_prot}

-- what is done needs no protection
pub prot_of_done : (t : Term) → t ≡ done → t ≡ prot_of t
prot_of_done t h = rw h refl

-- what is protected stays so
pub prot_of_prot : (t : Term) → is_prot t ≡ true → t ≡ prot_of t
prot_of_prot (prot t) h = refl
prot_of_prot t h = absurd (false≢true h)

-- everything else is protected
pub prot_of_other : (t : Term) → (t ≡ done → ⊥) → is_prot t ≡ false → prot t ≡ prot_of t
prot_of_other done h i = absurd (h refl)
prot_of_other (prot t) h i = absurd (false≢true (sym i))
prot_of_other t h i = refl

-- the rests wait for a head that is not done
pub then_rest_other : (t : Term) (ps : Procs) (n : ℕ) → (t ≡ done → ⊥) → begun (seq_of t ps) n ≡ then_rest t ps n
then_rest_other done ps n h = absurd (h refl)
then_rest_other t ps n h = refl

-- a head without rests stands alone
pub seq_of_none : (t : Term) (xs : List Behaviour) → xs ≡ [] → t ≡ seq_of t (procs_of (map behaviour_view xs))
seq_of_none t xs h = rw h refl

-- members that are all done leave nothing
pub par_of_done : (ts : Strands) → all_done ts ≡ true → done ≡ par_of ts
par_of_done ts h = rw (h, par_of) refl

-- and others stay
pub par_of_other : (ts : Strands) → all_done ts ≡ false → par ts ≡ par_of ts
par_of_other ts h = rw (h, par_of) refl

-- a scope that is through leaves nothing
pub scope_of_done : (q : ℕ) (t : Term) (h : Table) (u : State) → t ≡ done → is_over u ≡ true → done ≡ scope_of q t h u
scope_of_done q t h live d o = absurd (false≢true o)
scope_of_done q t h (caught f) d o = absurd (false≢true o)
scope_of_done q t h term d o = absurd (false≢true o)
scope_of_done q t h last d o = rw d refl
scope_of_done q t h zombie d o = rw d refl

-- one that is not over stays
pub scope_of_going : (q : ℕ) (t : Term) (h : Table) (u : State) → is_over u ≡ false → in_scope q t h u ≡ scope_of q t h u
scope_of_going q done h live o = refl
scope_of_going q done h (caught f) o = refl
scope_of_going q done h term o = refl
scope_of_going q done h last o = absurd (false≢true (sym o))
scope_of_going q done h zombie o = absurd (false≢true (sym o))
scope_of_going q t h u o = refl

-- and so does one whose body is not done
pub scope_of_other : (q : ℕ) (t : Term) (h : Table) (u : State) → (t ≡ done → ⊥) → in_scope q t h u ≡ scope_of q t h u
scope_of_other q done h u o = absurd (o refl)
scope_of_other q t h u o = refl

-- a sequence whose head is not done
pub seq_stops : (t t' : Term) (ps : Procs) (n m : ℕ) → begun t' m ≡ normal t n → (t' ≡ done → ⊥) → begun (tidied (seq t' ps)) m ≡ normal (seq t ps) n
seq_stops t t' ps n m e other = then_rest_other t' ps m other ∙ ap (λ b. then_rest b.form ps b.next) e

-- a parallel whose members are in normal form
pub par_tidied : (ts ts' : Strands) (n m : ℕ) → begun ts' m ≡ normal_members ts n → begun (tidied (par ts')) m ≡ normal (par ts) n
par_tidied ts ts' n m e = ap (around par_of) e

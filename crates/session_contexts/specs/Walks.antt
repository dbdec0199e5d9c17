-- What each layer adds to what a walk makes of the form in it.
use Rattle.std.specs.Prelude.{ℕ, List, [], ◌∷◌, ◌++◌}
use Rattle.behaviour_tree.specs.Data.{no_procs}
use Rattle.session_calculus.specs.Terms.{Fault, Term, done, in_scope, exec, fail, prot, live, caught, term, seq_of, prot_of, scope_of}
use Rattle.session_calculus.specs.Start.{Begun, around, then_rest}
use Rattle.session_calculus.specs.Ready.{ready}
use Rattle.session_calculus.specs.Throw.{Carried, surrounded, at_scope, reaches}
use Rattle.session_calculus.specs.Moves.{Seen, Move, within, inside, in_its_scope}
use Rattle.session_calculus.specs.Reached.{Passed}
use Rattle.session_contexts.specs.Contexts.{Layer, rests, scoped, asked, failed, kept, around_of, plug}

-- ---- normal form

-- a layer around a form in normal form
abbrev pub settled_in : Layer → Begun Term → Begun Term
settled_in (rests no_procs) b = b
settled_in (rests ps) b = then_rest b.form ps b.next
settled_in (scoped q h u) b = around (λ t. scope_of q t h u) b
settled_in (asked m o y) b = around (exec m o y) b
settled_in (failed m f) b = around (fail m f) b
settled_in kept b = around prot_of b

-- layers, the innermost first
abbrev pub settled : List Layer → Begun Term → Begun Term
settled [] b = b
settled (l ∷ ls) b = settled_in l (settled ls b)

-- ---- events

-- what an event sees in a layer
abbrev pub seen_in : Layer → Seen → Seen
seen_in (scoped q h u) s = inside s q h
seen_in l s = s

-- in layers, the outermost first
abbrev pub seen_within : List Layer → Seen → Seen
seen_within [] s = s
seen_within (l ∷ ls) s = seen_within ls (seen_in l s)

-- what an event in a layer makes: a scope takes its handlers
abbrev pub moved_in : Layer → Seen → Move Term → Move Term
moved_in (scoped q h u) s m = in_its_scope s q u m
moved_in l s m = within (around_of l) m

-- in layers
abbrev pub moved_within : List Layer → Seen → Move Term → Move Term
moved_within [] s m = m
moved_within (l ∷ ls) s m = moved_in l s (moved_within ls (seen_in l s) m)

-- ---- strands that go first

-- they are looked for through the rests after a head and through the body of a request, and through nothing else
abbrev pub looked_through : Layer → List ℕ → List ℕ
looked_through (rests ps) ns = ns
looked_through (asked m o y) ns = ns
looked_through l ns = []

-- through layers
abbrev pub looked_within : List Layer → List ℕ → List ℕ
looked_within [] ns = ns
looked_within (l ∷ ls) ns = looked_through l (looked_within ls ns)

-- ---- faults

-- fault f comes out of a layer, in which t runs in strand s
abbrev pub thrown_in : Layer → Fault → ℕ → Term → Carried Term → Carried Term
thrown_in (rests ps) f s t c = surrounded (λ t'. t') (λ t'. seq_of t' ps) c
thrown_in (scoped q h u) f s t c = reaches (ready q h s t) (at_scope q h u f) (λ t'. in_scope q t' h u) c
thrown_in (asked m o y) f s t c = surrounded (λ t'. prot (fail m f t')) (exec m o y) c
thrown_in kept f s t c = surrounded prot_of prot_of c
thrown_in (failed m g) f s t c = c

-- out of layers
abbrev pub thrown_within : List Layer → Fault → ℕ → Term → Carried Term → Carried Term
thrown_within [] f s t c = c
thrown_within (l ∷ ls) f s t c = thrown_in l f s (plug ls t) (thrown_within ls f s t c)

-- ---- kills

-- a layer that fault f kills, around what it made of the form in it
abbrev pub killed_in : Layer → Fault → Term → Term → Term
killed_in (rests ps) f t t' = t'
killed_in (scoped q h live) f done t' = prot (in_scope q done h live)
killed_in (scoped q h live) f t t' = prot (in_scope q t' h term)
killed_in (scoped q h (caught g)) f t t' = prot (in_scope q t' h term)
killed_in (scoped q h u) f t t' = prot (in_scope q t h u)
killed_in (asked m o y) f t t' = prot (fail m f t')
killed_in (failed m g) f t t' = prot (fail m g t)
killed_in kept f t t' = prot_of t

-- layers
abbrev pub killed_within : List Layer → Fault → Term → Term → Term
killed_within [] f t t' = t'
killed_within (l ∷ ls) f t t' = killed_in l f (plug ls t) (killed_within ls f t t')

-- ---- scopes around a place

-- the scopes of layers, in which t runs in strand s, from inside outward
abbrev pub passed_within : List Layer → ℕ → Term → List Passed
passed_within [] s t = []
passed_within (scoped q h u ∷ ls) s t =
    passed_within ls s t ++ record { name = q; table = h; state = u; strand = s; body = plug ls t } ∷ []
passed_within (l ∷ ls) s t = passed_within ls s t

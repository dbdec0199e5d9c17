-- Lines as their words are written, and a text as its lines are.
use Rattle.std.proofs.Common.{◌≡◌, ℕ, List, [], ◌∷◌, ◌++◌, ap, sym, ◌∙◌, append_assoc, append-nil, flat_map, Result, Ok, Err, OnOk}
use Rattle.std.proofs.lemmas.Grind.{flat_map-append}
use Rattle.run_text.specs.declared.line.Line.{Line}
use Rattle.run_text.specs.Words.{Word}
use Rattle.run_text.specs.Lines.{spaced, joined}
use Rattle.run_text.specs.Writing.{after}

-- words that are written one after another are spaced
pub after_spaced : (text : List ℕ) (ws : List Word) → after text ws ≡ text ++ spaced ws
after_spaced text [] = sym (append-nil text)
after_spaced text (w ∷ ws) = after_spaced (text ++ 32 ∷ w) ws ∙ append_assoc text (32 ∷ w) (spaced ws)

-- a line is its first word, the others and a line feed
pub line_done : (old : List ℕ) (w : Word) (ws : List Word) → after (old ++ w) ws ++ 10 ∷ [] ≡ old ++ (joined (w ∷ ws) ++ 10 ∷ [])
line_done old w ws =
    ap (λ xs. xs ++ 10 ∷ []) (after_spaced (old ++ w) ws ∙ append_assoc old w (spaced ws)) ∙ append_assoc old (w ++ spaced ws) (10 ∷ [])

-- a line whose words came one after another
pub line_written : (old begun said done : List ℕ) (w : Word) (ws : List Word) → begun ≡ old ++ w → said ≡ after begun ws → done ≡ said ++ 10 ∷ []
    → done ≡ old ++ (joined (w ∷ ws) ++ 10 ∷ [])
line_written old begun said done w ws first rest closed =
    closed ∙ ap (λ xs. xs ++ 10 ∷ []) (rest ∙ ap (λ xs. after xs ws) first) ∙ line_done old w ws

-- the text of lines in their groups
pub in_groups : (f : Line → List ℕ) (a b : Line) (es : List Line) (c : Line) (fs gs : List Line) (d : Line)
    → flat_map f (a ∷ (b ∷ (es ++ c ∷ (fs ++ (gs ++ d ∷ []))))) ≡ (((((f a ++ f b) ++ flat_map f es) ++ f c) ++ flat_map f fs) ++ flat_map f gs) ++ f d
in_groups f a b es c fs gs d = simp (flat_map-append, append_assoc, append-nil)

-- the same of a last call that may fail
pub line_written_well : {A E : Type 0} (r : Result A E) (old begun said done : List ℕ) (w : Word) (ws : List Word) → begun ≡ old ++ w
    → said ≡ after begun ws → OnOk r (done ≡ said ++ 10 ∷ []) → OnOk r (done ≡ old ++ (joined (w ∷ ws) ++ 10 ∷ []))
line_written_well (Ok a) old begun said done w ws first rest closed = line_written old begun said done w ws first rest closed
line_written_well (Err e) old begun said done w ws first rest closed = tt

-- lines that were written in their groups
pub written_in_groups : (f : Line → List ℕ) (a b : Line) (es : List Line) (c : Line) (fs gs : List Line) (d : Line) (t0 t1 t2 t3 t4 t5 t6 t7 : List ℕ)
    → t0 ≡ [] → t1 ≡ t0 ++ f a → t2 ≡ t1 ++ f b → t3 ≡ t2 ++ flat_map f es → t4 ≡ t3 ++ f c → t5 ≡ t4 ++ flat_map f fs → t6 ≡ t5 ++ flat_map f gs
    → t7 ≡ t6 ++ f d → t7 ≡ flat_map f (a ∷ (b ∷ (es ++ c ∷ (fs ++ (gs ++ d ∷ [])))))
written_in_groups f a b es c fs gs d t0 t1 t2 t3 t4 t5 t6 t7 e0 e1 e2 e3 e4 e5 e6 e7 =
    e7
    ∙ ap (λ t. t ++ f d)
    (e6 ∙ ap (λ t. t ++ flat_map f gs)
    (e5 ∙ ap (λ t. t ++ flat_map f fs)
    (e4 ∙ ap (λ t. t ++ f c) (e3 ∙ ap (λ t. t ++ flat_map f es) (e2 ∙ ap (λ t. t ++ f b) (e1 ∙ ap (λ t. t ++ f a) e0))))))
    ∙ sym (in_groups f a b es c fs gs d)

-- What was seen grows, by entries of others and by the session's own.
use Rattle.std.proofs.Common.{◌≡◌, ℕ, true, List, [], ◌∷◌, ◌++◌, refl, sym, ap, ◌∙◌, append_assoc}
use Rattle.std.proofs.lemmas.List.{append-nil}
use Rattle.office_core.specs.declared.history.Entry.{Entry}
use Rattle.session_turn.specs.Seen.{Seat, AreForeign, Grew}

-- entries of others, one after the other
pub foreign_both : (s : ℕ) (xs ys : List Entry) → AreForeign s xs → AreForeign s ys → AreForeign s (xs ++ ys)
foreign_both s [] ys f g = g
foreign_both s (x ∷ xs) ys f g = (f.0, foreign_both s xs ys f.1 g)

none_both : (xs ys : List Entry) → xs ≡ [] → ys ≡ [] → xs ++ ys ≡ []
none_both xs ys e f = ap (λ (zs : List Entry). zs ++ ys) e ∙ f

module _ {a : Seat} where
  -- nothing was seen
  pub grew_not : (h : List Entry) → Grew a h h
  grew_not h = record { others = []; foreign = tt; quiet = λ _. refl; is = sym (append-nil h) }

  -- first some entries, then some more
  pub grew_on : {old mid new : List Entry} → Grew a old mid → Grew a mid new → Grew a old new
  grew_on {old} x y = record {
    others = x.others ++ y.others;
    foreign = foreign_both a.session x.others y.others x.foreign y.foreign;
    quiet = λ e. none_both x.others y.others (x.quiet e) (y.quiet e);
    is = y.is ∙ ap (λ (h : List Entry). h ++ y.others) x.is ∙ append_assoc old x.others y.others;
  }

  -- where nobody calls the office elsewhere, nothing else is seen
  pub grew_alone : {old new : List Entry} → a.alone ≡ true → Grew a old new → new ≡ old
  grew_alone {old} e x = x.is ∙ ap (λ (h : List Entry). old ++ h) (x.quiet e) ∙ append-nil old

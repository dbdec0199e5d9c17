-- Where a strand stands among members.
use Rattle.std.specs.Prelude.{◌≡◌, ℕ, ◌<◌, true, false, List, length, take, slice_index_or}
use Rattle.session_calculus.specs.Terms.{Strands, no_strands, strand, stands_in, is_among}
use Rattle.session_forms.specs.View.{members_view, term_view}
use Rattle.session_forms.specs.declared.term.Strand.{Strand}

-- strand n stands in the member at place i, which is x, and in none before it
pub record StandsFirst (n : ℕ) (members : List Strand) (i : ℕ) : Type 0 where
  pub within : i < length members
  pub here : (x : Strand) → x ≡ slice_index_or members i x → stands_in n x.number (term_view x.form.value) ≡ true
  pub not_before : is_among n (members_view (take i members)) ≡ false

-- members, and others after them
abbrev pub joined : Strands → Strands → Strands
joined no_strands us = us
joined (strand n t ts) us = strand n t (joined ts us)

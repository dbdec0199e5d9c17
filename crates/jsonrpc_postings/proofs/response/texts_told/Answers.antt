-- Where the calls or their outcomes are at their end no text is to come.
use Rattle.std.proofs.Common.{◌≡◌, ◌∙◌, ◌⊎◌, ⊎_elim, ℕ, List, [], ◌∷◌, ◌++◌, refl, sym, ap, append-nil}
use Rattle.std.proofs.lemmas.Slice.Zip.{either_empty_from_Zip}
use Rattle.std.specs.Iterator.Adapters.{zip_first, zip_second}
use Rattle.std.specs.Slice.Iter.{iter_rest}
use Rattle.behaviour_tree.specs.declared.words.Outcome.{Outcome}
use Rattle.behaviour_tree.specs.Data.{ProgramParts}
use Rattle.behaviour_tree.specs.PartsView.{parts_of}
use Rattle.jsonrpc_text.specs.declared.message.ReadCall.{ReadCall}
use Rattle.jsonrpc_postings.specs.Told.{texts_told}
use Rattle.jsonrpc_postings.proofs.response.texts_told.Goals as goal

no_outcomes : (parts : ProgramParts) (n : ℕ) (calls : List ReadCall) → texts_told parts n calls [] ≡ []
no_outcomes parts n [] = refl
no_outcomes parts n (c ∷ cs) = refl

none_to_come : (parts : ProgramParts) (n : ℕ) (calls : List ReadCall) (outcomes : List Outcome)
    → (calls ≡ []) ⊎ (outcomes ≡ []) → texts_told parts n calls outcomes ≡ []
none_to_come parts n calls outcomes over =
    ⊎_elim (λ e. ap (λ cs. texts_told parts n cs outcomes) e) (λ e. ap (λ os. texts_told parts n calls os) e ∙ no_outcomes parts n calls) over

pub returns : goal.returns
returns c =
    let at = c.loop-call in
    let over = either_empty_from_Zip at.call-iterator c.next.new.self _ c.in-None.is c.next.ensures.steps in
    sym (append-nil at.texts)
    ∙ ap (λ t. at.texts ++ t) (sym (none_to_come (parts_of c.args.program.now) c.args.service (iter_rest (zip_first at.call-iterator)) (iter_rest (zip_second at.call-iterator)) over))
    ∙ at.invariant

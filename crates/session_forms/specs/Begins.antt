-- What has begun, as plain data.
use Rattle.session_calculus.specs.Start as spec
use Rattle.session_calculus.specs.Terms.{Term}
use Rattle.session_forms.specs.View.{term_view}
use Rattle.session_forms.specs.declared.begun.Begun.{Begun}

-- a form that has begun, and the next strand
abbrev pub begun_view : Begun → spec.Begun Term
begun_view b = spec.begun (term_view b.form.value) b.next

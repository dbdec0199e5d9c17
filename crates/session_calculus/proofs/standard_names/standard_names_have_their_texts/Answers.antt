use Rattle.std.proofs.Common.{codes, refl}
use Rattle.session_calculus.proofs.StandardTexts.{is_named}
use Rattle.session_calculus.proofs.standard_names.standard_names_have_their_texts.Goals as goal

pub returns-clause-io_exception : goal.returns-clause-io_exception
returns-clause-io_exception c = is_named 0 0 (codes "IOException") refl refl

pub returns-clause-type_mismatch : goal.returns-clause-type_mismatch
returns-clause-type_mismatch c = is_named 1 1 (codes "TypeMismatch") refl refl

pub returns-clause-correlation_error : goal.returns-clause-correlation_error
returns-clause-correlation_error c = is_named 2 2 (codes "CorrelationError") refl refl

pub returns-clause-refused : goal.returns-clause-refused
returns-clause-refused c = is_named 3 3 (codes "Refused") refl refl

pub returns-clause-undeclared_fault : goal.returns-clause-undeclared_fault
returns-clause-undeclared_fault c = is_named 4 4 (codes "UndeclaredFault") refl refl

pub returns-clause-expr_fault : goal.returns-clause-expr_fault
returns-clause-expr_fault c = is_named 5 5 (codes "ExprFault") refl refl

pub returns-clause-handler_too_large : goal.returns-clause-handler_too_large
returns-clause-handler_too_large c = is_named 6 6 (codes "HandlerTooLarge") refl refl

pub returns-clause-store_too_large : goal.returns-clause-store_too_large
returns-clause-store_too_large c = is_named 7 7 (codes "StoreTooLarge") refl refl

pub returns-clause-main : goal.returns-clause-main
returns-clause-main c = is_named 8 8 (codes "main") refl refl

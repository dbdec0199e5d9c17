use Rattle.std.proofs.Common.{rules, tests}
use Rattle.std.specs.Prelude.{is_some}
use Rattle.std.proofs.lemmas.Iterator.{YieldsList-from_slice}
use Rattle.std.proofs.lemmas.Iterator.Search.{any_from_yields_List}
use Rattle.check_base.specs.Files.{service_in}
use Rattle.service_check.proofs.file_names.has_service.Goals as goal

pub returns : goal.returns
returns c = any_from_yields_List (λ d. is_some (service_in d)) _ _ _ c.any.ensures.ran (YieldsList-from_slice c.args.file.now cc) (λ x b q k. search (rules, tests))

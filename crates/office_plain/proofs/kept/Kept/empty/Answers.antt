use Rattle.std.proofs.Common.{rules}
use Rattle.office_plain.proofs.kept.Kept.empty.Goals as goal

pub returns : goal.returns
returns c =
    record {
      messages = search rules;
      weight = search rules;
      sessions = search rules;
      places = search rules;
      boxes = search rules;
      origins = search rules;
      rows = search rules;
      calls = search rules;
      outcomes = search rules;
      console = search rules;
      remote = search rules;
    }

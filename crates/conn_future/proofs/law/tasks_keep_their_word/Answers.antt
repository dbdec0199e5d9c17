use Rattle.conn_future.proofs.Words.{keeps_word}
use Rattle.conn_future.proofs.law.tasks_keep_their_word.Goals as goal

pub returns : goal.returns
returns c = keeps_word

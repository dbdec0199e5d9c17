use Rattle.http_connection.proofs.Words.{keeps_word}
use Rattle.http_connection.proofs.law.connections_keep_their_word.Goals as goal

pub returns : goal.returns
returns c = keeps_word

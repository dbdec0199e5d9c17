use Rattle.jsonrpc_text.proofs.Posts.{posted-fits}
use Rattle.jsonrpc_text.proofs.laws.texts_post_some.Goals as goal

pub returns : goal.returns
returns c = posted-fits
